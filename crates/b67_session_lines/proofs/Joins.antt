-- A step is its two parts.
use Rattle.std.proofs.Common.{◌≡◌, ℕ, ◌+◌, Bool, true, false, List, [], ◌∷◌, ◌++◌, map, Option, Some, None, refl, sym, ap, subst, ◌∙◌, inl, inr, append-nil, append_assoc, arith}
use Rattle.std.specs.Prelude.{◌==◌, ◌&&◌, not, filter}
use Rattle.std.proofs.lemmas.Bool.{cases_Bool, eqb-true}
use Rattle.std.proofs.lemmas.Option.{same_Some, none-some}
use Rattle.std.proofs.lemmas.List.{map-append}
use Rattle.b67_word.specs.declared.faults.Ending.{Ending}
use Rattle.b67_word.specs.declared.faults.Ending.TheVariants.{Limit}
use Rattle.b67_model.specs.Keyed.{keyed, change_keyed}
use Rattle.b67_model.specs.Common.{Array, Task, JobProgress, SessionJob, Line, Ends, Settled, Stepped, ends_each_if, is_owned_by, unsettled, stepped, step_lines, JobMoment, moment_with, up_to_deadlock, by_task, step_of, Session, Choice, choice, RunLine, StepResult, number_of, of_job, with_moment, moment_by, moment_for, next}
use Rattle.b67_model.specs.Alone.{whole}
use Rattle.b67_session_lines.specs.Moments.{first_part, first_part_by, first_part_in, first_part_of, has_tasks, is_at_limit, last_part, last_part_by, last_part_if, joined, StepsHaveParts}

-- ---- a member that is found and changed

number_found : (n : ℕ) (ms : List SessionJob) (m : SessionJob) → keyed number_of n ms ≡ Some m → m.constants.number ≡ n
number_found n [] m e = absurd (none-some m e)
number_found n (y ∷ ys) m e = grind (arith, number_found n ys m)

found_changed : (n : ℕ) (progress : JobProgress) (ms : List SessionJob) (m : SessionJob) → keyed number_of n ms ≡ Some m
    → keyed number_of n (change_keyed number_of n (λ (y : SessionJob). record y { progress = progress }) ms) ≡ Some (record m { progress = progress })
found_changed n progress [] m e = absurd (none-some m e)
found_changed n progress (y ∷ ys) m e = grind (arith, found_changed n progress ys m)

changed_twice : (n : ℕ) (progress : JobProgress) (g : JobProgress → JobProgress) (ms : List SessionJob)
    → change_keyed number_of n (λ (y : SessionJob). record y { progress = g y.progress }) (change_keyed number_of n (λ (y : SessionJob). record y { progress = progress }) ms)
    ≡ change_keyed number_of n (λ (y : SessionJob). record y { progress = g progress }) ms
changed_twice n progress g [] = refl
changed_twice n progress g (y ∷ ys) = grind (arith, changed_twice n progress g ys)

-- ---- nobody ends where no task lives

owned_by_none : (arrays : List Array) → filter (λ (a : Array). not (is_owned_by [] a)) arrays ≡ arrays
owned_by_none [] = refl
owned_by_none (a ∷ arrays) = ap (λ (l : List Array). a ∷ l) (owned_by_none arrays)

abbrev ends_by_limit : Settled → Settled
ends_by_limit s = ends_each_if true Limit s

none_end : (s : Settled) → s.job.tasks ≡ [] → ends_by_limit s ≡ s
none_end s e =
    let without : Settled = record s { job = record s.job { tasks = [] } } in
    let same : s ≡ without = ap (λ (ts : List Task). record s { job = record s.job { tasks = ts } }) e in
    let none : ends_by_limit without ≡ without =
    ap (λ (l : List Array). record { job = record s.job { tasks = []; arrays = l }; endings = s.endings ++ [] }) (owned_by_none s.job.arrays)
    ∙ ap (λ (l : List (ℕ × Ending)). record { job = record s.job { tasks = [] }; endings = l }) (append-nil s.endings) in
    subst (λ (z : Settled). ends_by_limit z ≡ z) (sym same) none

-- ---- lines

abbrev ends_line : ℕ × Ending → ℕ × Line
ends_line e = (e.0, Ends e.1)

module _ (job task : ℕ) (printed : List Line) (endings more : List (ℕ × Ending)) where
  lines_joined : of_job job (step_lines task printed (endings ++ more)) ≡ of_job job (step_lines task printed endings) ++ of_job job (map ends_line more)
  lines_joined = grind (arith, map-append, append_assoc)

both : (a b : Session) (xs ys : List RunLine) → a ≡ b → xs ≡ ys → ◌≡◌ {A = StepResult} (record { session = a; lines = xs }) (record { session = b; lines = ys })
both a b xs ys e f = ap (λ (z : Session). record { session = z; lines = xs }) e ∙ ap (λ (l : List RunLine). record { session = b; lines = l }) f

-- ---- the parts of the chosen task's step

module _ (s : Session) (c : Choice) (m : SessionJob) (found : keyed number_of c.who.job s.jobs ≡ Some m) (task : Task) (made : Stepped) where
  abbrev ended_if : Bool → JobMoment
  ended_if b = moment_with m.progress task made (ends_each_if b Limit made.settled)

  abbrev moment_of : JobMoment → StepResult
  moment_of made = record { session = with_moment s c m made; lines = of_job c.who.job made.lines }

  abbrev up_to : JobMoment
  up_to = moment_with m.progress task made made.settled

  abbrev member : SessionJob
  member = record m { progress = up_to.progress }

  abbrev ended_by : Settled
  ended_by = ends_by_limit (unsettled made.settled.job)

  abbrev ends_course : JobProgress → JobProgress
  ends_course y = record y { job = ended_by.job; ended = y.ended ++ ended_by.endings }

  abbrev at_end : StepResult
  at_end = record {
    session = record (moment_of up_to).session { jobs = change_keyed number_of m.constants.number (λ (y : SessionJob). record y { progress = ends_course y.progress }) (moment_of up_to).session.jobs };
    lines = of_job m.constants.number (map ends_line ended_by.endings);
  }

  all_end : moment_of (ended_if true) ≡ record { session = at_end.session; lines = (moment_of up_to).lines ++ at_end.lines }
  all_end =
      let n = c.who.job in
      let number : m.constants.number ≡ n = number_found n s.jobs m found in
      let before : Session = (moment_of up_to).session in
      let progress : ends_course up_to.progress ≡ (ended_if true).progress = ap (λ (l : List (ℕ × Ending)). record up_to.progress { job = ended_by.job; ended = l }) (append_assoc m.progress.ended made.settled.endings ended_by.endings) in
      let jobs : at_end.session.jobs ≡ (moment_of (ended_if true)).session.jobs =
      ap (λ (k : ℕ). change_keyed number_of k (λ (y : SessionJob). record y { progress = ends_course y.progress }) before.jobs) number
      ∙ changed_twice n up_to.progress ends_course s.jobs
      ∙ ap (λ (q : JobProgress). change_keyed number_of n (λ (y : SessionJob). record y { progress = q }) s.jobs) progress in
      let lines : (moment_of up_to).lines ++ at_end.lines ≡ (moment_of (ended_if true)).lines =
      ap (λ (k : ℕ). (moment_of up_to).lines ++ of_job k (map ends_line ended_by.endings)) number
      ∙ sym (lines_joined n task.number made.printed made.settled.endings ended_by.endings) in
      sym (both at_end.session (moment_of (ended_if true)).session ((moment_of up_to).lines ++ at_end.lines) (moment_of (ended_if true)).lines (ap (λ (l : List SessionJob). record before { jobs = l }) jobs) lines)

  by_tasks : (tasks : List Task) → made.settled.job.tasks ≡ tasks → moment_of (ended_if true) ≡ joined (moment_of up_to) (last_part_if (has_tasks tasks) (moment_of up_to).session member)
  by_tasks [] e = ap (λ (z : Settled). moment_of (moment_with m.progress task made z)) (none_end made.settled e)
  by_tasks (t ∷ more) e = all_end

  by_limit : (b : Bool) → moment_of (ended_if b) ≡ joined (moment_of up_to) (last_part_if (b && has_tasks made.settled.job.tasks) (moment_of up_to).session member)
  by_limit false = refl
  by_limit true = by_tasks made.settled.job.tasks refl

  last_is : last_part (moment_of up_to).session ≡ last_part_if (is_at_limit member) (moment_of up_to).session member
  unfolding last_part
  last_is = ap (last_part_by (moment_of up_to).session) (found_changed c.who.job up_to.progress s.jobs m found)

  pub parts_joined : moment_of (ended_if ((m.progress.made + 1) == m.constants.limit)) ≡ joined (moment_of up_to) (last_part (moment_of up_to).session)
  parts_joined = by_limit ((m.progress.made + 1) == m.constants.limit) ∙ ap (joined (moment_of up_to)) (sym last_is)

-- ---- the next step

module _ (s : Session) (part : StepResult) where
  abbrev Joins : Option StepResult → Type 0
  Joins step = step ≡ Some (joined part (last_part part.session))

  by_own : (c : Choice) (m : SessionJob) → keyed number_of c.who.job s.jobs ≡ Some m → (o : Option Task) → keyed (λ (t : Task). t.number) c.who.task m.progress.job.tasks ≡ o → first_part_of s c m o ≡ Some part → Joins (moment_by s c (Some m))
  unfolding step_of
  by_own c m found None own e = absurd (none-some part e)
  by_own c m found (Some task) own e =
      let made = stepped m.constants m.progress.job task in
      let moment : JobMoment → StepResult = λ q. record { session = with_moment s c m q; lines = of_job c.who.job q.lines } in
      let same : moment (up_to_deadlock m.constants m.progress task) ≡ part = same_Some (moment (up_to_deadlock m.constants m.progress task)) part e in
      let is : step_of m.constants m.progress c.who.task ≡ whole m.constants m.progress task = ap (by_task m.constants m.progress) own in
      ap (λ (q : JobMoment). Some (moment q)) is
      ∙ ap Some (parts_joined s c m found task made)
      ∙ ap (λ (q : StepResult). Some (joined q (last_part q.session))) same

  by_member : (c : Choice) (o : Option SessionJob) → keyed number_of c.who.job s.jobs ≡ o → first_part_in s c o ≡ Some part → Joins (moment_by s c o)
  by_member c o found e = grind (arith, by_own)

  by_choice : (o : Option Choice) → first_part_by s o ≡ Some part → Joins (moment_for s o)
  by_choice o e = grind (arith, by_member)

  by_session : first_part s ≡ Some part → Joins (next s)
  unfolding first_part next
  by_session e = by_choice (choice s) e

pub steps-have-parts : StepsHaveParts
steps-have-parts s part e = by_session s part e
