-- The task that makes the next step: its row, its need, and the same task over other numbers.
use Rattle.std.proofs.Common.{◌≡◌, ℕ, ◌≤◌, List, map, Option, Some, refl, sym, ap, ◌∙◌, subst, arith}
use Rattle.std.specs.Prelude.{option_map}
use Rattle.std.specs.List.{slice_get}
use Rattle.std.proofs.lemmas.Option.{same_Some}
use Rattle.b67_lemmas.specs.Lists.{Has}
use Rattle.b67_lemmas.proofs.Members.{all_in, has_get, keyed_has, keyed_falls}
use Rattle.b67_lemmas.proofs.Places.{at_mapped}
use Rattle.b67_model.specs.Keyed.{keyed}
use Rattle.b67_model.specs.Common.{IsSegment, JobInOrder, IsInOrderButPlaces, need, need_of_job, need_by, need_next, number_of, Who, Session, Choice, Task, SessionJob}
use Rattle.b67_law.proofs.Numbered.{keyed_member}
use Rattle.b67_law.specs.Weaker.{OtherNumbers, AllOtherNumbers}
use Rattle.b67_law.specs.Turns.{IsNext}
use Rattle.b67_law.proofs.Choices.{choice_ignores_numbers}
use Rattle.b67_layout.specs.Common.{Placement, slot_of, TaskShows, RowsFit, IsRunning}
use Rattle.b67_layout.proofs.Sessions.{running_only}
use Rattle.b67_layout.proofs.Alike.{rows_alike}
use Rattle.b67_layout_step.proofs.MoreOtherNumbers.{others_alike, others_running}
use Rattle.b67_task.specs.Turns.{with_running}
use Rattle.b67_task.specs.declared.tables.TaskRow.{TaskRow}
use Rattle.b67_task.specs.declared.tables.Tasks.{Tasks}
use Rattle.b67_task.specs.Tables.{task_row, TasksShow}
use Rattle.b67_task.specs.declared.counting.Chosen.{Chosen}
use Rattle.b67_task.specs.Counted.{choice_of}
use Rattle.b67_task.specs.Chosen.{who_of, IsReadyAt}
use Rattle.b67_session.specs.Slices.{NextFits}

module _ (s : Session) (m : SessionJob) (t : Task) (n : IsNext s m t) where
  pub in_session : Has s.jobs m
  in_session = (keyed_has number_of n.chosen.who.job s.jobs m n.member).0

  pub job_is : m.constants.number ≡ n.chosen.who.job
  job_is = (keyed_has number_of n.chosen.who.job s.jobs m n.member).1

  pub in_job : Has m.progress.job.tasks t
  in_job = (keyed_has (λ (u : Task). u.number) n.chosen.who.task m.progress.job.tasks t n.task).0

  pub task_is : t.number ≡ n.chosen.who.task
  task_is = (keyed_has (λ (u : Task). u.number) n.chosen.who.task m.progress.job.tasks t n.task).1

  pub found : keyed number_of m.constants.number s.jobs ≡ Some m
  found = ap (λ (k : ℕ). keyed number_of k s.jobs) job_is ∙ n.member

  pub task_found : keyed (λ (u : Task). u.number) t.number m.progress.job.tasks ≡ Some t
  task_found = ap (λ (k : ℕ). keyed (λ (u : Task). u.number) k m.progress.job.tasks) task_is ∙ n.task

  -- its slot may be the running one
  pub runs_then : (plan : Placement) (k : ℕ) → k ≡ slot_of plan m.constants.number t.number → IsRunning (with_running plan k) s.jobs m t
  runs_then plan k e = record { member = found; task = task_found; slot = e }

  -- what the step needs is the session's need
  pub next_needs : (core : ℕ) → need_next core s ≡ Some (need core s m t)
  next_needs core = ap (need_by core s) n.is ∙ ap (need_of_job core s n.chosen.who.task) n.member ∙ ap (λ (o : Option Task). option_map (need core s m) o) n.task

  pub next_fits : (core : ℕ) → need core s m t ≤ core → NextFits core s
  next_fits core fits = record { words = need core s m t; needs = next_needs core; fits = fits }

  -- the row that was chosen is its row
  pub record Chose (plan : Placement) (tasks : Tasks) (c : Chosen) : Type 0 where
    pub row : TaskRow
    pub at : slice_get tasks.rows.items c.row ≡ Some row
    pub shows : TaskShows plan m t (task_row row)

  -- as is each row of its numbers
  pub chose_row : (plan : Placement) (tasks : Tasks) (i : ℕ) (r : TaskRow) → IsInOrderButPlaces s → TasksShow plan s tasks → slice_get tasks.rows.items i ≡ Some r → who_of r ≡ n.chosen.who → TaskShows plan m t (task_row r)
  chose_row plan tasks i r o shows at is =
      let shown : slice_get (map task_row tasks.rows.items) i ≡ Some (task_row r) = at_mapped task_row tasks.rows.items i r at in
      let (y, u, iny, inu, w) = shows.tasks (task_row r) (has_get (map task_row tasks.rows.items) i (task_row r) shown) in
      let job : y.constants.number ≡ n.chosen.who.job = sym w.job ∙ ap (λ (z : Who). z.job) is in
      let number : u.number ≡ n.chosen.who.task = sym w.number ∙ ap (λ (z : Who). z.task) is in
      let member : y ≡ m = same_Some y m (sym (subst (λ (k : ℕ). keyed number_of k s.jobs ≡ Some y) job (keyed_member 1 s.jobs y o.numbered iny)) ∙ n.member) in
      let here : Has m.progress.job.tasks u = subst (λ (z : SessionJob). Has z.progress.job.tasks u) member inu in
      let j = all_in (λ (z : SessionJob). JobInOrder (IsSegment z.constants) z.constants z.progress) s.jobs m o.jobs in_session in
      let own : keyed (λ (v : Task). v.number) n.chosen.who.task m.progress.job.tasks ≡ Some u =
      subst (λ (k : ℕ). keyed (λ (v : Task). v.number) k m.progress.job.tasks ≡ Some u) number (keyed_falls (λ (v : Task). v.number) m.progress.job.next_task m.progress.job.tasks u j.tasks.numbers here) in
      grind (arith, same_Some)

  pub chose : (plan : Placement) (tasks : Tasks) (c : Chosen) → IsInOrderButPlaces s → TasksShow plan s tasks → n.chosen ≡ choice_of c → IsReadyAt tasks.rows.items c.row (choice_of c).who → Chose plan tasks c
  chose plan tasks c o shows same a = record { row = a.row; at = a.at; shows = chose_row plan tasks c.row a.row o shows a.at (a.is ∙ ap (λ (z : Choice). z.who) (sym same)) }

-- over other numbers it is the next task too
pub next_other : (plan : Placement) (s : Session) (m y : SessionJob) (t : Task) (jobs : List SessionJob) → RowsFit plan s.jobs → AllOtherNumbers s.jobs jobs → IsRunning plan s.jobs m t → IsRunning plan jobs y t → (n : IsNext s m t)
    → (k : IsNext (record s { jobs = jobs }) y t) × (k.chosen ≡ n.chosen)
next_other plan s m y t jobs fit all runs runs' n =
    let other = others_running plan s.jobs jobs all m t runs in
    let fits : RowsFit plan jobs = rows_alike plan s.jobs jobs (others_alike s.jobs jobs all) fit in
    let o : OtherNumbers m y = running_only plan jobs other.member y t t (λ (z : SessionJob) (u : Task). OtherNumbers m z) fits other.runs runs' other.other in
    let number : y.constants.number ≡ m.constants.number = ap (λ (z : SessionJob). z.constants.number) o.rest in
    let tasks : y.progress.job.tasks ≡ m.progress.job.tasks = ap (λ (z : SessionJob). z.progress.job.tasks) o.rest in (
      record {
        chosen = n.chosen;
        is = choice_ignores_numbers s jobs all ∙ n.is;
        member = ap (λ (k : ℕ). keyed number_of k jobs) (sym (job_is s m t n) ∙ sym number) ∙ runs'.member;
        task = ap (λ (ts : List Task). keyed (λ (u : Task). u.number) n.chosen.who.task ts) tasks ∙ n.task;
      },
      refl,
    )

-- one task makes the next step
pub as_next : (s : Session) (m y : SessionJob) (t u : Task) (P : SessionJob → Task → Type 0) → IsNext s y u → IsNext s m t → P y u → P m t
as_next s m y t u P a b p = grind arith
