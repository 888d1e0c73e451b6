-- The tables of a session whose running task was replaced.
use Rattle.std.proofs.Common.{◌≡◌, ◌≢◌, ℕ, zero, suc, ◌+◌, List, [], ◌∷◌, Option, Some, refl, sym, ◌∙◌, ap, arith, inl, inr, ◌⊎◌, ⊎_elim, subst, slice_set}
use Rattle.std.specs.List.{slice_get}
use Rattle.std.proofs.lemmas.Option.{same_Some, none-some}
use Rattle.std.proofs.lemmas.Bool.{cases_eq}
use Rattle.std.proofs.lemmas.Bool.Decides.{eqb_tells}
use Rattle.b67_lemmas.specs.Lists.{Has}
use Rattle.b67_lemmas.proofs.Members.{has_change, keyed_has}
use Rattle.b67_model.specs.Common.{Frame, Condition, Ready, Awaits, WaitsAt, Task, Job, JobProgress, SessionJob, number_of, Session, from_frame, frames_of_task, NumberedFrom}
use Rattle.b67_model.specs.Keyed.{keyed, change_keyed}
use Rattle.b67_layout.specs.Common.{IsInOrderButCounts, Placement, slot_of, spot_in, base_spot, outer_spots, TaskRow, JobRow, JobCounts, shown, critical_disp, TaskShows, JobShows, JobsShow, TablesShow, IsRunning, with_job}
use Rattle.b67_stack.specs.Stacks.{StackPlace}
use Rattle.b67_layout.proofs.Common.{running_in_order, member-same, change-has, change-kept, IsDependedOn, Replaces, task-same, task-other, live_in_order}
use Rattle.b67_layout.proofs.Replaces.{outer_spots-after}
use Rattle.b67_law.proofs.Numbered.{keyed_member}

-- a frame stands among those from it down where it stands among all
from-same : (k c : ℕ) (o : ℕ → StackPlace) (fs : List Frame) → spot_in k o (from_frame c fs) c ≡ spot_in k o fs c
from-same k c o [] = refl
from-same k c o (f ∷ below) = elim (eqb_tells f.identity c) [ inl e ↦ rw (e.0, e.0) refl | inr e ↦ rw e.0 (from-same k c o below) ]

-- where a task waits is found in other frames of its own too
abbrev pub WaitsThere : Condition → List Frame → List Frame → Type 0
WaitsThere Ready fs gs = Unit {0}
WaitsThere (Awaits n) fs gs = Unit {0}
WaitsThere (WaitsAt f offset) fs gs = (k : ℕ) (o : ℕ → StackPlace) → spot_in k o gs f ≡ spot_in k o fs f

module _ (plan : Placement) (j : ℕ) (job job' : Job) (t t' : Task) (by : Replaces job job' t t') where
  outer-same : (u : Task) → Has job.tasks u → outer_spots plan j job' u.critical u.parents ≡ outer_spots plan j job u.critical u.parents
  outer-same u h = λ i id. outer_spots-after plan j job job' t t' by u.parents u.critical (inr (u, h, refl)) id i

  critical-same : (c : ℕ) (parents : List ℕ) → IsDependedOn job c → critical_disp plan j job' c parents ≡ critical_disp plan j job c parents
  critical-same c [] d = refl
  critical-same c (parent ∷ more) d =
      let k = slot_of plan j parent in
      let D : Option Task → ℕ = λ q. (spot_in k (base_spot j) (frames_of_task q) c).disp in
      ⊎_elim
      (λ (e : parent ≡ t.number).
      let is_old : keyed (λ (u : Task). u.number) parent job.tasks ≡ Some t = ap (λ (n : ℕ). keyed (λ (u : Task). u.number) n job.tasks) e ∙ by.there in
      let is_new : keyed (λ (u : Task). u.number) parent job'.tasks ≡ Some t' = ap (λ (n : ℕ). keyed (λ (u : Task). u.number) n job'.tasks) e ∙ task-same plan j job job' t t' by in
      let seen : spot_in k (base_spot j) t'.frames c ≡ spot_in k (base_spot j) t.frames c =
      sym (from-same k c (base_spot j) t'.frames) ∙ by.seen c k (base_spot j) c d ∙ from-same k c (base_spot j) t.frames in
      ap D is_new ∙ ap (λ (p : StackPlace). p.disp) seen ∙ ap D (sym is_old))
      (λ (e : parent ≡ t.number → ⊥). ap D (task-other plan j job job' t t' by parent e))
      (cases_eq parent t.number)

  shown-same : (u : Task) → Has job.tasks u → (d : Condition) → shown plan j job' u d ≡ shown plan j job u d
  shown-same u h d = grind (arith, outer-same)

  shown-own : (d : Condition) → Has job.tasks t → WaitsThere d t.frames t'.frames → shown plan j job' t' d ≡ shown plan j job t d
  shown-own d h w = grind (arith, outer-same)

-- the members once one of them has another course
numbered_change : (k n : ℕ) (c : JobProgress) (jobs : List SessionJob) → NumberedFrom k jobs → NumberedFrom k (change_keyed number_of n (λ (y : SessionJob). record y { progress = c }) jobs)
numbered_change k n c [] d = d
numbered_change k n c (y ∷ more) d = grind (arith, numbered_change (k + 1) n c more d.1)

-- the rows of jobs, where the changed job's row is as it was
pub jobs_kept : (plan : Placement) (n : ℕ) (m : SessionJob) (c : JobProgress) (jobs : List SessionJob) (rows : List JobRow) → keyed number_of n jobs ≡ Some m → ((row : JobRow) → JobShows plan m row → JobShows plan (record m { progress = c }) row)
    → JobsShow plan jobs rows → JobsShow plan (change_keyed number_of n (λ (y : SessionJob). record y { progress = c }) jobs) rows
jobs_kept plan n m c [] rows e f h = absurd (none-some m e)
jobs_kept plan n m c (y ∷ more) [] e f h = absurd h
jobs_kept plan n m c (y ∷ more) (row ∷ rows) e f h = grind (arith, jobs_kept plan n m c more rows)

-- and where it changes
pub jobs_put : (plan : Placement) (k i n : ℕ) (m : SessionJob) (c : JobProgress) (jobs : List SessionJob) (rows : List JobRow) (row row' : JobRow) → k + i ≡ n → NumberedFrom k jobs → keyed number_of n jobs ≡ Some m → slice_get rows i ≡ Some row
    → JobShows plan (record m { progress = c }) row' → JobsShow plan jobs rows → JobsShow plan (change_keyed number_of n (λ (y : SessionJob). record y { progress = c }) jobs) (slice_set rows i row')
jobs_put plan k i n m c [] rows row row' e d found at w h = absurd (none-some m found)
jobs_put plan k i n m c (y ∷ more) [] row row' e d found at w h = absurd h
jobs_put plan k zero n m c (y ∷ more) (q ∷ rows) row row' e d found at w h = grind arith
jobs_put plan k (suc i) n m c (y ∷ more) (q ∷ rows) row row' e d found at w h = grind (arith, jobs_put plan (k + 1) i n m c more rows row row')

module _ (plan : Placement) (s : Session) (m : SessionJob) (t t' : Task) (job' : Job) (o : IsInOrderButCounts s) (runs : IsRunning plan s.jobs m t) (by : Replaces m.progress.job job' t t')
    (condition : t'.condition ≡ t.condition) (waits : WaitsThere t.condition t.frames t'.frames) where
  abbrev pub after : SessionJob
  after = record m { progress = record m.progress { job = job' } }

  j : ℕ
  j = m.constants.number

  has_t : Has m.progress.job.tasks t
  has_t = (keyed_has (λ (u : Task). u.number) t.number m.progress.job.tasks t runs.task).0

  has_m : Has s.jobs m
  has_m = (keyed_has number_of m.constants.number s.jobs m runs.member).0

  own : (row : TaskRow) → TaskShows plan m t row → TaskShows plan after t' row
  own row w = grind (arith, critical-same, has_t, shown-own)

  other : (u : Task) (row : TaskRow) → Has m.progress.job.tasks u → TaskShows plan m u row → TaskShows plan after u row
  other u row h w = grind (arith, critical-same, shown-same)

  has_after : Has (with_job s m job').jobs after
  has_after = (keyed_has number_of m.constants.number (with_job s m job').jobs after (member-same s.jobs m.constants.number (record m.progress { job = job' }) m runs.member)).0

  kept_member : (y : SessionJob) → Has s.jobs y → number_of y ≢ m.constants.number → Has (with_job s m job').jobs y
  kept_member y h ne = elim (change-kept number_of m.constants.number (λ (y : SessionJob). record y { progress = record m.progress { job = job' } }) s.jobs m runs.member y h) [
    | inl k ↦ k
    | inr k ↦ absurd (ne (ap number_of k.0))
  ]

  member_back : (y : SessionJob) → Has (with_job s m job').jobs y → (Has s.jobs y × (number_of y ≢ m.constants.number)) ⊎ (y ≡ after)
  member_back y h = elim (change-has number_of m.constants.number (λ (y : SessionJob). record y { progress = record m.progress { job = job' } }) s.jobs m runs.member y h) [
    | inr e ↦ inr e
    | inl k ↦ elim (cases_eq (number_of y) m.constants.number) [
      | inr ne ↦ inl (k, ne)
      | inl e ↦
          let first = keyed_member 1 (with_job s m job').jobs y (numbered_change 1 m.constants.number (record m.progress { job = job' }) s.jobs o.numbered) h in
          inr (same_Some y after (sym first ∙ ap (λ (n : ℕ). keyed number_of n (with_job s m job').jobs) e ∙ member-same s.jobs m.constants.number (record m.progress { job = job' }) m runs.member))
    ]
  ]

  kept_task : (u : Task) → Has m.progress.job.tasks u → u.number ≢ t.number → Has job'.tasks u
  kept_task u h ne =
      let P : List Task → Type 0 = λ ts. Has ts u in
      subst P (sym by.tasks) (elim (change-kept (λ (v : Task). v.number) t.number (λ (v : Task). t') m.progress.job.tasks t runs.task u h) [
        | inl k ↦ k
        | inr k ↦ absurd (ne (ap (λ (v : Task). v.number) k.0))
      ])

  new_task : Has job'.tasks t'
  new_task = (keyed_has (λ (u : Task). u.number) t.number job'.tasks t' (task-same plan m.constants.number m.progress.job job' t t' by)).0

  shown_by : (rows : List TaskRow) (row : TaskRow) (y : SessionJob) (u : Task) → Has s.jobs y → Has y.progress.job.tasks u → TaskShows plan y u row
      → (z : SessionJob) × (v : Task) × Has (with_job s m job').jobs z × Has z.progress.job.tasks v × TaskShows plan z v row
  shown_by rows row y u iny inu w = elim (cases_eq (number_of y) m.constants.number) [
    | inr ne ↦ (y, u, kept_member y iny ne, inu, w)
    | inl e ↦
        let same : m ≡ y = sym (same_Some y m (sym (keyed_member 1 s.jobs y o.numbered iny) ∙ ap (λ (n : ℕ). keyed number_of n s.jobs) e ∙ runs.member)) in
        let P : SessionJob → Type 0 = λ z. Has z.progress.job.tasks u × TaskShows plan z u row in
        let (int, shows) = subst P (sym same) (inu, w) in
        elim (cases_eq u.number t.number) [
          | inr ne ↦ (after, u, has_after, kept_task u int ne, other u row int shows)
          | inl k ↦
              let is : u ≡ t = same_Some u t (sym (live_in_order s m u o has_m int) ∙ ap (λ (n : ℕ). keyed (λ (v : Task). v.number) n m.progress.job.tasks) k ∙ runs.task) in
              (after, t', has_after, new_task, own row (subst (λ (v : Task). TaskShows plan m v row) is shows))
        ]
  ]

  each_by : (rows : List TaskRow) → ((y : SessionJob) (u : Task) → Has s.jobs y → Has y.progress.job.tasks u → (row : TaskRow) × Has rows row × TaskShows plan y u row)
      → (y : SessionJob) (u : Task) → Has (with_job s m job').jobs y → Has y.progress.job.tasks u → (row : TaskRow) × Has rows row × TaskShows plan y u row
  each_by rows each y u iny inu = elim (member_back y iny) [
    | inl k ↦ each y u k.0 inu
    | inr e ↦
        let P : SessionJob → Type 0 = λ z. Has z.progress.job.tasks u → (row : TaskRow) × Has rows row × TaskShows plan z u row in
        subst P (sym e) (λ int. elim (has_change (λ (v : Task). v.number) m.progress.job.next_task t.number t' m.progress.job.tasks u (running_in_order plan s m t o runs).0.tasks.numbers (subst (λ (ts : List Task). Has ts u) by.tasks int)) [
          | inl is ↦ let (row, h, w) = each m t has_m has_t in (row, h, subst (λ (v : Task). TaskShows plan after v row) is (own row w))
          | inr k ↦ let (row, h, w) = each m u has_m k.0 in (row, h, other u row k.0 w)
        ]) inu
  ]

  pub tables_after : (rows : List TaskRow) (job_rows job_rows' : List JobRow) (c : JobCounts) → TablesShow plan s rows job_rows c → JobsShow plan (with_job s m job').jobs job_rows' → TablesShow plan (with_job s m job') rows job_rows' c
  tables_after rows job_rows job_rows' c h jobs = record {
    tasks = λ row i. let (y, u, iny, inu, w) = h.tasks row i in shown_by rows row y u iny inu w;
    each = each_by rows h.each;
    once = h.once;
    jobs = jobs;
    counts =
        let k = h.counts in
        record { quantum = k.quantum; made = k.made; turn = k.turn; last_job = k.last_job; last_number = k.last_number; switches = k.switches; next = k.next; past = k.past; running = k.running };
  }
