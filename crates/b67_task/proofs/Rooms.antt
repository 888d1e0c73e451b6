-- When no task is chosen, and that one operator more of a chosen task fits the counts.
use Rattle.std.proofs.Common.{◌≡◌, ℕ, ◌-◌, ◌≤◌, ◌↔◌, Bool, List, [], ◌∷◌, ◌++◌, map, Option, Some, None, refl, sym, ◌∙◌, ap, arith}
use Rattle.std.specs.Prelude.{IfSome}
use Rattle.std.specs.List.{slice_get}
use Rattle.std.proofs.lemmas.List.{length-map}
use Rattle.std.proofs.lemmas.Option.{none-some}
use Rattle.b67_lemmas.proofs.Places.{mapped_at}
use Rattle.b67_model.specs.Common.{IsInOrderButPlaces, Who, Session, Choice, ready, switched, first, next_after, choice_by, choice}
use Rattle.b67_model.specs.Schedule.{goes_on}
use Rattle.b67_layout.specs.Placement.{Placement}
use Rattle.b67_layout.specs.Rows as rows
use Rattle.b67_task.specs.declared.tables.Tasks.{Tasks}
use Rattle.b67_task.specs.Tables.{job_row, switch_of, counts_of, TasksShow}
use Rattle.b67_task.specs.declared.counting.Chosen.{Chosen}
use Rattle.b67_task.specs.Counted.{choice_of, CountsHaveRoom}
use Rattle.b67_task.specs.Chosen.{IsReadyAt, Chooses}
use Rattle.b67_task.proofs.ReadyTasks.{among_members, among_tasks, row_ready}
use Rattle.b67_task.proofs.Choices.{cyclic}
use Rattle.b67_layout.proofs.LiveTasks.{job_at}
use Rattle.b67_law.proofs.Numbered.{numbered_low}
use Rattle.b67_law.proofs.FewMade.{made_few, all_few}

-- a list in which none comes next is empty
first_cons : (xs ys : List Who) (w : Who) → first (xs ++ (w ∷ ys)) ≡ None → ⊥
first_cons [] ys w e = none-some w (sym e)
first_cons (x ∷ xs) ys w e = none-some x (sym e)

nobody_next : (last : Who) (xs : List Who) → cyclic last xs ≡ None → xs ≡ []
nobody_next last [] e = refl
nobody_next last (x ∷ xs) e = grind (arith, first_cons)

no_choice_by : (s : Session) (o : Option Who) (b : Bool) → choice_by s o b ≡ None → next_after s ≡ None
no_choice_by s o b e = grind arith

pub none_ready : (s : Session) → choice s ≡ None → ready s ≡ []
none_ready s e = nobody_next s.last (ready s) (no_choice_by s (switched s) (goes_on s) e)

turn_by : (s : Session) (o : Option Who) (b : Bool) (c : Choice) → choice_by s o b ≡ Some c → c.turn ≤ s.turn
turn_by s o b c e = grind arith

module _ (plan : Placement) (s : Session) (o : IsInOrderButPlaces s) (tasks : Tasks) (shows : TasksShow plan s tasks) where
  pub room_of : (c : Chosen) → IsReadyAt tasks.rows.items c.row (choice_of c).who → choice s ≡ Some (choice_of c) → CountsHaveRoom tasks c
  room_of c a e =
      let (m, inm, k) = among_members s.jobs (choice_of c).who (row_ready plan s o tasks.rows.items (map job_row tasks.jobs) (counts_of tasks) shows c.row (choice_of c).who a) in
      let (t, int, r, named) = among_tasks m.constants.number m.progress.job.tasks (choice_of c).who k in
      let number : m.constants.number ≡ c.job = ap (λ (w : Who). w.job) named in
      let b = job_at plan 1 s.jobs (map job_row tasks.jobs) m o.numbered shows.jobs inm in
      let (j, at, same) = mapped_at job_row tasks.jobs (m.constants.number - 1) b.row b.at in
      let made : j.made ≡ m.progress.made = ap (λ (y : rows.JobRow). y.made) same ∙ b.shows.made in
      let turn : c.turn ≤ s.turn = turn_by s (switched s) (goes_on s) (choice_of c) e in
      record {
        job = j;
        from_one = omega (arith, number, numbered_low 1 s.jobs m o.numbered inm);
        at = ap (λ (n : ℕ). slice_get tasks.jobs (n - 1)) (sym number) ∙ at;
        of_job = omega (arith, made, made_few s o m inm);
        made = omega (arith, shows.counts.made, all_few s o);
        turn = omega (arith, turn, o.turn, all_few s o);
        next = omega (arith, shows.counts.next, length-map tasks.switches switch_of);
      }

  pub room_if : (result : Option Chosen) → Chooses tasks.rows.items result (choice s) → IfSome result (CountsHaveRoom tasks)
  room_if result h = grind (arith, room_of)

  pub none_if : (result : Option Chosen) → Chooses tasks.rows.items result (choice s) → (result ≡ None) ↔ (ready s ≡ [])
  none_if result h = grind (arith, none_ready)
