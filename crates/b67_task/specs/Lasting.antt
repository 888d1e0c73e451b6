-- How long the task that made the last operator goes on with its turn.
use Rattle.std.specs.Prelude.{◌≡◌, ◌≢◌, ℕ, ◌+◌, ◌<◌, ◌≤◌, ◌⊎◌, Option, Some}
use Rattle.b67_lemmas.specs.Lists.{Has}
use Rattle.b67_model.specs.Keyed.{keyed}
use Rattle.b67_model.specs.Common.{number_of, Switch, Session, Ready, Task, SessionJob}
use Rattle.b67_layout.specs.Placement.{Placement, slot_of}

-- the rules leave so many operators to the last task: no switch is for a count among them, and a switch is left after them or
-- they are within the quantum
pub record RulesLeave (s : Session) (room : ℕ) : Type 0 where
  pub switches : (w : Switch) → Has s.switches w → (w.count < s.made) ⊎ (s.made + room ≤ w.count)
  pub on : ((w : Switch) × Has s.switches w × (s.made + room ≤ w.count)) ⊎ (s.turn + room ≤ s.quantum)

-- the last task is ready, the rules leave it so many operators, and after them its job is below its limit
pub record Lasts (s : Session) (m : SessionJob) (t : Task) (room : ℕ) : Type 0 where
  pub member : keyed number_of s.last.job s.jobs ≡ Some m
  pub task : keyed (λ (u : Task). u.number) s.last.task m.progress.job.tasks ≡ Some t
  pub ready : t.condition ≡ Ready
  pub rules : RulesLeave s room
  pub below : m.progress.made + room < m.constants.limit

-- and its registers are in use
pub record TurnLasts (plan : Placement) (s : Session) (room : ℕ) : Type 0 where
  pub who : SessionJob
  pub task : Task
  pub lasts : Lasts s who task room
  pub runs : plan.running ≡ slot_of plan who.constants.number task.number

-- so many operators don't reach the halt
abbrev pub BeforeHalt : Option ℕ → ℕ → ℕ → Type 0
BeforeHalt halt made room = (j : ℕ) → j < room → halt ≢ Some (made + j)
