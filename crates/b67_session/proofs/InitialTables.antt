-- The tables of a session that opens show it.
use Rattle.std.proofs.Common.{◌≡◌, ℕ, zero, suc, ◌+◌, ◌<◌, ◌≤◌, List, [], ◌∷◌, length, map, take, Some, refl, sym, ◌∙◌, ap, subst, arith, inl, inr}
use Rattle.std.specs.List.{slice_get}
use Rattle.std.proofs.lemmas.Option.{none-some, slice_get_past, slice_get_within}
use Rattle.b67_lemmas.specs.Lists.{Has}
use Rattle.b67_lemmas.proofs.Places.{at_mapped, mapped_at}
use Rattle.b67_model.specs.Common.{Task, SessionJob, Program, Switch}
use Rattle.b67_law.specs.Opening.{Opening, opened_from, opening}
use Rattle.b67_law.proofs.OpenedRows.{entries_count}
use Rattle.b67_layout.specs.Common.{Placement, TaskRow, TaskShows, JobsShow, RunningRow, Differ, TablesShow}
use Rattle.b67_session.specs.Opened.{dictionary_words, dictionaries, opening_plan, programs_of}
use Rattle.b67_session.specs.Tables.{first_row, first_rows, opening_rows, opening_counts}
use Rattle.b67_session.proofs.Members.{member, has_member}
use Rattle.b67_session.proofs.Objects.{dictionary_is}
use Rattle.b67_session.proofs.Slots.{slot_number}
use Rattle.b67_session.proofs.Plans.{first_task, for_tasks, count_is}
use Rattle.b67_model.specs.declared.limits.TheConstants.{MOST_JOBS}

for_rows : (P : TaskRow → Type 0) (n : ℕ) (programs : List Program) → ((k s : ℕ) (p : Program) → slice_get programs k ≡ Some p → s ≡ n + k → P (first_row s)) → (row : TaskRow) → Has (first_rows n programs) row → P row
for_rows P n [] h row i = absurd i
for_rows P n (p ∷ more) h row (inl e) = subst P e (h 0 n p refl (omega arith))
for_rows P n (p ∷ more) h row (inr i) = for_rows P (n + 1) more (λ k s q e f. h (suc k) s q e (omega (arith, f))) row i

has_row : (n : ℕ) (programs : List Program) (k s : ℕ) (p : Program) → slice_get programs k ≡ Some p → s ≡ n + k → Has (first_rows n programs) (first_row s)
has_row n [] k s p e f = absurd (none-some p e)
has_row n (q ∷ more) zero s p e f = let is : n ≡ s = omega (arith, f) in inl (ap first_row is)
has_row n (q ∷ more) (suc k) s p e f = inr (has_row (n + 1) more k s p e (omega (arith, f)))

no_slot : (n s : ℕ) (programs : List Program) → s < n → Has (map (λ (row : TaskRow). row.slot) (first_rows n programs)) s → ⊥
no_slot n s [] h i = i
no_slot n s (p ∷ more) h (inl e) = omega (arith, h, e)
no_slot n s (p ∷ more) h (inr i) = no_slot (n + 1) s more (omega (arith, h)) i

slots_differ : (n : ℕ) (programs : List Program) → Differ (map (λ (row : TaskRow). row.slot) (first_rows n programs))
slots_differ n [] = tt
slots_differ n (p ∷ more) = (λ i. no_slot (n + 1) n more (omega arith) i, slots_differ (n + 1) more)

rows_count : (n : ℕ) (programs : List Program) → length (first_rows n programs) ≡ length programs
rows_count n [] = refl
rows_count n (p ∷ more) = ap suc (rows_count (n + 1) more)

jobs_show : (plan : Placement) (stack n at : ℕ) (openings : List Opening) →
    ((k j : ℕ) (o : Opening) → slice_get openings k ≡ Some o → j ≡ n + k → plan.dictionary j ≡ at + dictionaries (take k (programs_of openings))) →
    JobsShow plan (opened_from n stack openings) (opening_rows at openings)
jobs_show plan stack n at [] h = tt
jobs_show plan stack n at (o ∷ more) h = (
  record {
    dictionary = omega (arith, h 0 n o refl (omega arith));
    segments = refl;
    rows = sym (entries_count o.program.segments o.program.rows);
    limit = refl;
    made = refl;
    next_task = refl;
    numbers = refl;
  },
  jobs_show plan stack (n + 1) (at + dictionary_words o.program) more (λ k j q f g. omega (arith, h (suc k) j q f (omega (arith, g)))),
)

module _ (stack quantum : ℕ) (switches : List Switch) (openings : List Opening) (few : length openings ≤ MOST_JOBS) where
  shows : (k : ℕ) (o : Opening) → slice_get openings k ≡ Some o → TaskShows (opening_plan stack (programs_of openings)) (member stack (k + 1) o) first_task (first_row k)
  shows k o e = record {
    job = refl;
    number = refl;
    slot = sym (slot_number stack openings k o e (omega (arith, few, slice_get_within openings k o e)));
    parent = refl;
    critical = refl;
    state = refl;
    segment = λ out. refl;
    place = λ out. refl;
  }

  pub tables_show : TablesShow (opening_plan stack (programs_of openings)) (opening stack quantum switches openings) (first_rows 0 (programs_of openings)) (opening_rows 160 openings) (opening_counts quantum switches)
  tables_show =
      let plan = opening_plan stack (programs_of openings) in
      let jobs = opened_from 1 stack openings in
      let rows = first_rows 0 (programs_of openings) in
      record {
        tasks = for_rows (λ row. (m : SessionJob) × (t : Task) × Has jobs m × Has m.progress.job.tasks t × TaskShows plan m t row) 0 (programs_of openings)
            (λ k s p e f.
            let o = mapped_at (λ (x : Opening). x.program) openings k p e in
            let is : s ≡ k = omega (arith, f) in
            (member stack (s + 1) o.0, first_task, has_member stack 1 openings k (s + 1) o.0 o.1 (omega (arith, f)), inl refl, shows s o.0 (ap (slice_get openings) is ∙ o.1)));
        each = for_tasks (λ m t. (row : TaskRow) × Has rows row × TaskShows plan m t row) stack openings
            (λ k j o e f.
            let is : k + 1 ≡ j = omega (arith, f) in
            (first_row k, has_row 0 (programs_of openings) k k o.program (at_mapped (λ (x : Opening). x.program) openings k o e) (omega arith), subst (λ i. TaskShows plan (member stack i o) first_task (first_row k)) is (shows k o e)));
        once = slots_differ 0 (programs_of openings);
        jobs = jobs_show plan stack 1 160 openings (λ k j o e f. dictionary_is stack openings k j o e f);
        counts = record {
          quantum = refl;
          made = refl;
          turn = refl;
          last_job = refl;
          last_number = refl;
          switches = refl;
          next = omega arith;
          past = λ i w small e. absurd (omega arith);
          running = subst (λ o. RunningRow plan o 255) (sym (slice_get_past rows 255 (omega (arith, rows_count 0 (programs_of openings), count_is openings, few)))) (refl, refl);
        };
      }
