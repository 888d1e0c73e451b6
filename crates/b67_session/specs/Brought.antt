-- What bringing in answers and leaves that the next operator wants, with the numbers that a stop says.
use Rattle.std.specs.Prelude.{◌≡◌, ◌≢◌, ℕ, ◌<◌, ◌≤◌, List, Option, None, Result, Ok, Err, OnOk}
use Rattle.b67_model.specs.Common.{Task, SessionJob, need, Session}
use Rattle.b67_stack.specs.declared.What.{What}
use Rattle.b67_stack.specs.Represents.{Storage}
use Rattle.b67_layout.specs.Machine.{content_after, HasHole}
use Rattle.b67_layout.specs.Placement.{Placement}
use Rattle.b67_layout.specs.Session.{IsRunning}
use Rattle.b67_exec_cells.specs.Running.{code_area}
use Rattle.b67_law.specs.Weaker.{AllOtherNumbers}
use Rattle.b67_task.specs.declared.tables.Machine.{Machine}
use Rattle.b67_presence.specs.Bringing.{Brings, BringsInPlace, IsUntouched, words_wanted}
use Rattle.b67_mcp.specs.declared.ends.Stop.{Stop}
use Rattle.b67_mcp.specs.declared.ends.Stop.TheVariants as stops
use Rattle.b67_session.specs.Attempts.{StillStands, StandsLacking, StandsShort, UsesHole}
use Rattle.b67_session.specs.Tries.{IsWantedByStep}

-- by the reason, as an attempt's: what was wanted is absent where sectors were missing or the device failed
abbrev pub StopMeets : Option (List (List ℕ)) → Type 0 → ℕ → ℕ → Placement → Session → SessionJob → Task → Stop → Machine → Type 0
StopMeets told exact core count plan s m t (stops.NoCore words size) new = (words ≡ need core s m t) × (size ≡ core) × (core < words) × StillStands told new plan s
StopMeets told exact core count plan s m t (stops.BackingFull sum size) new = (size ≡ count) × (count < sum) × StandsShort exact told core new plan s m t sum
StopMeets told exact core count plan s m t stops.BackingFault new = StandsLacking exact told core new plan s m t
StopMeets told exact core count plan s m t _ new = ⊥

-- the session, or over a device that tells nothing one with other numbers, and why it goes no further
pub record Stopped (x : Storage) (told : Option (List (List ℕ))) (core count : ℕ) (plan : Placement) (s : Session) (t : Task) (stop : Stop) (new : Machine) : Type 0 where
  pub jobs : List SessionJob
  pub others : AllOtherNumbers s.jobs jobs
  pub same : x.device ≢ None → jobs ≡ s.jobs
  pub member : SessionJob
  pub running : IsRunning plan jobs member t
  pub meets : StopMeets told (x.device ≢ None) core count plan (record s { jobs = jobs }) member t stop new

-- where the running segment was present, in this storage, a device that is full or fails refuses what is wanted only if core
-- has the words that the step needs
abbrev pub BroughtFits : ℕ → Storage → Placement → Session → SessionJob → Task → Result (Unit {0}) Stop → Type 0
BroughtFits core x plan s m t (Err (stops.BackingFull sum size)) = code_area x plan m t ≢ None → need core s m t ≤ core
BroughtFits core x plan s m t (Err stops.BackingFault) = code_area x plan m t ≢ None → need core s m t ≤ core
BroughtFits core x plan s m t _ = Unit {0}

-- a hole had room for what is wanted: it is there if all went well, with every area where it was; no sector is written, and too
-- few free sectors stop nothing. An array that was never touched calls no device
pub record BroughtIntoHole {D : Type 0} (holds : D → Option (List (List ℕ))) (x : Storage) (plan : Placement) (s : Session) (m : SessionJob) (t : Task) (found : What) (answered : Result (Unit {0}) Stop) (new : Machine) (device device' : D) : Type 0 where
  pub used : UsesHole holds answered device device'
  pub in_place : OnOk answered (BringsInPlace x (holds device') new plan s m t found)
  pub untouched : IsUntouched x found → device' ≡ device

-- by what was answered
abbrev pub BroughtMeets : Storage → Option (List (List ℕ)) → ℕ → ℕ → Placement → Session → SessionJob → Task → What → Result (Unit {0}) Stop → Machine → Type 0
BroughtMeets x told core count plan s m t found (Ok done) new = Brings x told new plan s m t found
BroughtMeets x told core count plan s m t found (Err stop) new = Stopped x (content_after x.device told) core count plan s t stop new

-- The same, if this is what the next operator wants: of the session that the machine represented
pub record BroughtRow {D : Type 0} (holds : D → Option (List (List ℕ))) (core count : ℕ) (x : Storage) (plan : Placement) (s : Session) (m : SessionJob) (t : Task) (found : What) (words : ℕ) (answered : Result (Unit {0}) Stop) (new : Machine) (device device' : D) : Type 0 where
  pub meets : IsWantedByStep plan m t found words → BroughtMeets x (holds device') core count plan s m t found answered new
  pub fits : IsWantedByStep plan m t found words → BroughtFits core x plan s m t answered
  pub hole : HasHole (words_wanted m t found words) x.spans → BroughtIntoHole holds x plan s m t found answered new device device'
