-- The plan of a session that opens fits it.
use Rattle.std.proofs.Common.{◌≡◌, ℕ, suc, ◌+◌, ◌<◌, ◌≤◌, List, [], ◌∷◌, length, take, Some, None, refl, sym, ◌∙◌, ap, arith, subst, inl, inr}
use Rattle.std.specs.List.{slice_get}
use Rattle.std.proofs.lemmas.Option.{slice_get_within}
use Rattle.std.proofs.lemmas.List.{length-map}
use Rattle.b67_lemmas.specs.Lists.{Has}
use Rattle.b67_lemmas.proofs.Places.{at_mapped, mapped_at}
use Rattle.b67_model.specs.Common.{Entered, Ready, Task, SessionJob, Program, Switch}
use Rattle.b67_law.specs.Opening.{Opening, opened_from, opening}
use Rattle.b67_law.proofs.OpenedRows.{entries_count}
use Rattle.b67_law.proofs.Opens.{jobs_count}
use Rattle.b67_layout.specs.Common.{Slotted, Placement, RowsFit, DictionariesFollow, RowHomes, PlanFits}
use Rattle.b67_session.specs.Opened.{dictionary_words, dictionaries, opening_plan, programs_of}
use Rattle.b67_session.proofs.Members.{member, for_members, has_member, slotted, for_slots, has_slot}
use Rattle.b67_session.proofs.Objects.{dictionary_is, home_is}
use Rattle.b67_model.specs.declared.limits.TheConstants.{MOST_JOBS}

abbrev pub first_task : Task
first_task = record { number = 1; parents = []; critical = 0; frames = record { identity = 2; standing = Entered 2 1 None; cells = [] } ∷ []; segment = 1; place = record { word = 0; syllable = 0 }; condition = Ready }

-- each live task is the first one of a job
pub for_tasks : (P : SessionJob → Task → Type 0) (stack : ℕ) (openings : List Opening) →
    ((k j : ℕ) (o : Opening) → slice_get openings k ≡ Some o → j ≡ 1 + k → P (member stack j o) first_task) →
    (m : SessionJob) (t : Task) → Has (opened_from 1 stack openings) m → Has m.progress.job.tasks t → P m t
for_tasks P stack openings h m t i = for_members (λ (x : SessionJob). (u : Task) → Has x.progress.job.tasks u → P x u) stack 1 openings (λ k j o e f u l. only j o (h k j o e f) u l) m i t
  where
    only : (j : ℕ) (o : Opening) → P (member stack j o) first_task → (u : Task) → Has (first_task ∷ []) u → P (member stack j o) u
    only j o p u (inl e) = subst (P (member stack j o)) e p
    only j o p u (inr l) = absurd l

rows_fit : (stack : ℕ) (openings : List Opening) → RowsFit (opening_plan stack (programs_of openings)) (opened_from 1 stack openings)
rows_fit stack openings = record {
  live = for_slots (λ r. (m : SessionJob) × (t : Task) × Has jobs m × (m.constants.number ≡ r.job) × Has m.progress.job.tasks t × (t.number ≡ r.task)) 0 programs
      (λ k s p e f. let o = mapped_at (λ (x : Opening). x.program) openings k p e in
      (member stack (s + 1) o.0, first_task, has_member stack 1 openings k (s + 1) o.0 o.1 (omega (arith, f)), refl, inl refl, refl));
  slotted = for_tasks (λ m t. (r : Slotted) × Has (opening_plan stack programs).rows r × (r.job ≡ m.constants.number) × (r.task ≡ t.number)) stack openings
      (λ k j o e f. (slotted k, has_slot 0 programs k k o.program (at_mapped (λ (x : Opening). x.program) openings k o e) (omega arith), omega (arith, f), refl));
  below = for_slots (λ r. r.slot < length programs) 0 programs (λ k s p e f. omega (arith, f, slice_get_within programs k p e));
  differ = λ a b ina inb e. same a b ina inb e;
  tasks_differ = λ a b ina inb e g. same_job a b ina inb e;
} where
  jobs : List SessionJob
  jobs = opened_from 1 stack openings

  programs : List Program
  programs = programs_of openings

  same : (a b : Slotted) → Has (opening_plan stack programs).rows a → Has (opening_plan stack programs).rows b → a.slot ≡ b.slot → a ≡ b
  same a b ina inb = for_slots (λ c. c.slot ≡ b.slot → c ≡ b) 0 programs (λ k s p e f. for_slots (λ d. s ≡ d.slot → slotted s ≡ d) 0 programs (λ l i q g h z. ap slotted z) b inb) a ina

  same_job : (a b : Slotted) → Has (opening_plan stack programs).rows a → Has (opening_plan stack programs).rows b → a.job ≡ b.job → a ≡ b
  same_job a b ina inb = for_slots (λ c. c.job ≡ b.job → c ≡ b) 0 programs (λ k s p e f. for_slots (λ d. s + 1 ≡ d.job → slotted s ≡ d) 0 programs (λ l i q g h z. ap slotted (omega (arith, z))) b inb) a ina

follow : (plan : Placement) (stack n at : ℕ) (openings : List Opening) →
    ((k j : ℕ) (o : Opening) → slice_get openings k ≡ Some o → j ≡ n + k → plan.dictionary j ≡ at + dictionaries (take k (programs_of openings))) →
    plan.stacks ≡ at + dictionaries (programs_of openings) → DictionariesFollow plan at (opened_from n stack openings)
follow plan stack n at [] h e = omega (arith, e)
follow plan stack n at (o ∷ more) h e = (
  omega (arith, h 0 n o refl (omega arith)),
  subst (λ i. DictionariesFollow plan i (opened_from (n + 1) stack more)) (omega (arith, entries_count o.program.segments o.program.rows))
      (follow plan stack (n + 1) (at + dictionary_words o.program) more (λ k j q f g. omega (arith, h (suc k) j q f (omega (arith, g)))) (omega (arith, e))),
)

pub count_is : (openings : List Opening) → length (programs_of openings) ≡ length openings
count_is openings = length-map openings (λ (o : Opening). o.program)

pub plan_fits : (stack quantum : ℕ) (switches : List Switch) (openings : List Opening) → length openings ≤ MOST_JOBS → PlanFits (opening_plan stack (programs_of openings)) (opening stack quantum switches openings)
plan_fits stack quantum switches openings few = record {
  rows = rows_fit stack openings;
  peak = count_is openings ∙ sym (jobs_count 1 stack openings);
  few = omega (arith, count_is openings, few);
  sizes = for_members (λ m. m.constants.stack_size ≡ stack) stack 1 openings (λ k j o e f. refl);
  dictionaries = follow (opening_plan stack (programs_of openings)) stack 1 160 openings (λ k j o e f. dictionary_is stack openings k j o e f) refl;
  row_homes = for_members (RowHomes (opening_plan stack (programs_of openings))) stack 1 openings
      (λ k j o e f n low high. omega (arith, dictionary_is stack openings k j o e f, home_is stack openings k j o e f n));
}
