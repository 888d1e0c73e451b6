-- The display of a task doesn't show what the task waits for.
use Rattle.std.proofs.Common.{◌≡◌, ◌≢◌, ℕ, List, Some, refl, sym, ap, subst, ⊎_elim}
use Rattle.b67_model.specs.Keyed.{keyed, change_keyed}
use Rattle.b67_model.specs.State.{Condition, Task, Job, SessionJob, with_task}
use Rattle.b67_stack.specs.Stacks.{StackPlace}
use Rattle.b67_layout.specs.Common.{Placement, slot_of, spot_in, outer_spots, ShowsDisplay}
use Rattle.b67_layout.proofs.Displays.{Shows-same}
use Rattle.b67_layout.proofs.Others.{OnTop, outer_spots-after}
use Rattle.b67_layout.proofs.Sessions.{change-has}
use Rattle.b67_layout.proofs.Steps.{IsFree}
use Rattle.b67_lemmas.proofs.Members.{change_twice, change_found}

-- the task that waits for this
abbrev pub waiting : Task → Condition → Task
waiting u c = record u { condition = c }

module _ (display : List ℕ) (plan : Placement) (m : SessionJob) (job : Job) (u : Task) (c d : Condition) (old : Task) (n : ℕ) (there : keyed (λ (v : Task). v.number) u.number job.tasks ≡ Some old) (free : IsFree job n) (own : u.critical ≢ n) where
  abbrev with_condition : Condition → SessionJob
  with_condition e = record m { progress = record m.progress { job = with_task job (waiting u e) } }

  found : keyed (λ (v : Task). v.number) u.number (with_task job (waiting u c)).tasks ≡ Some (waiting u c)
  found = change_found (λ (v : Task). v.number) u.number old (waiting u c) job.tasks refl there

  tasks : (with_task job (waiting u d)).tasks ≡ change_keyed (λ (v : Task). v.number) u.number (λ (v : Task). waiting u d) (with_task job (waiting u c)).tasks
  tasks = sym (change_twice (λ (v : Task). v.number) u.number (waiting u c) (waiting u d) job.tasks refl)

  top : OnTop (with_task job (waiting u c)) (with_task job (waiting u d)) (waiting u c) (waiting u d) n
  top = record {
    there = found;
    number = refl;
    critical = refl;
    parents = refl;
    tasks = tasks;
    arrays = refl;
    some = free.some;
    uncritical = λ v h. ⊎_elim (λ k. free.uncritical v k) (λ (e : v ≡ waiting u c). subst (λ (w : Task). w.critical ≢ n) (sym e) own) (change-has (λ (v : Task). v.number) u.number (λ (v : Task). waiting u c) job.tasks old there v h);
    same = λ e k o id ne. refl;
  }

  pub Shows-condition : ShowsDisplay display plan (record m { progress = record m.progress { job = with_task job (waiting u c) } }) (waiting u c) → ShowsDisplay display plan (record m { progress = record m.progress { job = with_task job (waiting u d) } }) (waiting u d)
  Shows-condition shown = Shows-same display plan (with_condition c) (record m.progress { job = with_task job (waiting u d) }) (waiting u c) (waiting u d) found tasks refl
      (λ id. (let outer : outer_spots plan m.constants.number (with_task job (waiting u d)) u.critical u.parents ≡ outer_spots plan m.constants.number (with_task job (waiting u c)) u.critical u.parents =
      λ z i. outer_spots-after plan m.constants.number (with_task job (waiting u c)) (with_task job (waiting u d)) (waiting u c) (waiting u d) n top u.parents u.critical own i z in
      ap (λ (o : ℕ → StackPlace). spot_in (slot_of plan m.constants.number u.number) o u.frames id) outer)) shown
