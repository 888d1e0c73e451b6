-- When core and device suffice for the steps of a slice.
use Rattle.std.specs.Prelude.{◌≡◌, ◌≢◌, ℕ, ◌+◌, ◌<◌, ◌≤◌, List, Option, Some}
use Rattle.b67_model.specs.Common.{Task, SessionJob, need_next, StepResult, after, Session}
use Rattle.b67_law.specs.Turns.{IsNext}
use Rattle.b67_task.specs.declared.tables.Tasks.{Tasks}
use Rattle.b67_task.specs.declared.tables.Machine.{Machine}
use Rattle.b67_session.specs.Attempts.{TakesSectors}
use Rattle.b67_session.specs.Machines.{StandsAt, IsLimited}

-- the machine represents the session whose steps a slice makes: at once, or when the lines of LIMIT that are due are printed
pub data SetsOut (told : Option (List (List ℕ))) (k : Machine) (s : Session) : Type 0 where
  at_once : StandsAt told k s → SetsOut told k s
  after_limit : (h : Session) (part : StepResult) → IsLimited told k h part → part.session ≡ s → SetsOut told k s

-- a slice of n steps is to make one more after so many: they are fewer than n, and no count up to there is the halt's
pub record IsToMake (n : ℕ) (tasks : Tasks) (steps : ℕ) : Type 0 where
  pub few : steps < n
  pub before_halt : (j : ℕ) → j ≤ steps → tasks.halt ≢ Some (tasks.made + j)

-- Core has the words that each step needs which a slice of n steps is to make. The device has the sectors that the session
-- before it takes, and if it makes an array longer those that the session takes then.
pub record Suffices (core sectors n : ℕ) (tasks : Tasks) (first : Session) : Type 0 where
  pub core_suffices : (steps words : ℕ) → IsToMake n tasks steps → need_next core (after steps first) ≡ Some words → words ≤ core
  pub sectors_suffice : (steps sum : ℕ) (m : SessionJob) (t : Task) → IsToMake n tasks steps → IsNext (after steps first) m t → TakesSectors (after steps first) m t sum → sum ≤ sectors
