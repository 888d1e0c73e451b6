-- What is wanted in core, and the machine once it was brought in or refused.
use Rattle.std.specs.Prelude.{◌≡◌, ◌≢◌, ◌↔◌, ℕ, ◌+◌, ◌<◌, ◌⊎◌, List, length, Option, None, Result, Err, OnOk, OnErr, IsOk}
use Rattle.b67_lemmas.specs.Lists.{Has}
use Rattle.b67_model.specs.Common.{Array, Task, SessionJob, Session, sectors, code_of}
use Rattle.b67_layout.specs.Common.{IsInOrderButCounts, Placement, IsRunning, area_held}
use Rattle.b67_stack.specs.declared.What.{What}
use Rattle.b67_stack.specs.declared.What.TheVariants as what
use Rattle.b67_stack.specs.Represents.{Storage}
use Rattle.b67_exec_cells.specs.Running.{code_area}
use Rattle.b67_law.specs.Weaker.{AllOtherNumbers}
use Rattle.b67_task.specs.declared.tables.Machine.{Machine}
use Rattle.b67_task.specs.Tables.{MachineRepresents}
pub use Rattle.b67_task.specs.Shortage.{IsShortOf}
use Rattle.b67_layout.specs.Machine.{Says, HasHole, content_after}
use Rattle.b67_backing.specs.Held.{Becomes}
use Rattle.b67_backing.specs.declared.SpaceFault.{SpaceFault}
use Rattle.b67_backing.specs.declared.SpaceFault.TheVariants.{NoCore, BackingFull}
use Rattle.b67_task.specs.Needing.{need_with}

-- the whole machine over a device that tells this: what the storage says of the sectors, if anything, is what the device
-- tells
pub record StandsOver (x : Storage) (told : Option (List (List ℕ))) (k : Machine) (plan : Placement) (s : Session) : Type 0 where
  pub says : Says x.device told
  pub stands : MachineRepresents x x.device k plan s

-- an absent array of the running task's job, of so many words, whose original stands at a core address
pub record IsArrayWanted (x : Storage) (plan : Placement) (m : SessionJob) (t : Task) (home words : ℕ) : Type 0 where
  pub array : Array
  pub among : Has m.progress.job.arrays array
  pub home_is : plan.home m.constants.number array.identity ≡ home
  pub absent : area_held x plan m.constants.number array.identity ≡ None
  pub words_are : words ≡ length array.numbers
  pub code : code_area x plan m t ≢ None

-- what is wanted is the running segment, which is absent; or an array that is absent, while the running segment is present.
-- It is an array of so many words, 0 for the segment
abbrev pub IsWanted : Storage → Placement → SessionJob → Task → What → ℕ → Type 0
IsWanted x plan m t (what.Code displacement) words = (displacement ≡ t.segment + 1) × (code_area x plan m t ≡ None) × (words ≡ 0)
IsWanted x plan m t (what.Array home) words = IsArrayWanted x plan m t home words

-- the machine represents some session in order, of whose running task this is wanted
pub record WantsSome (k : Machine) (told : Option (List (List ℕ))) (absent : What) : Type 0 where
  pub storage : Storage
  pub plan : Placement
  pub session : Session
  pub member : SessionJob
  pub task : Task
  pub words : ℕ
  pub ordered : IsInOrderButCounts session
  pub stands : StandsOver storage told k plan session
  pub running : IsRunning plan session.jobs member task
  pub wanted : IsWanted storage plan member task absent words

-- the machine represents a session again. Where the storage says nothing of the sectors, that may have other numbers in its
-- segments and arrays: what the device gave back
pub record StandsAgain (x : Storage) (told : Option (List (List ℕ))) (k : Machine) (plan : Placement) (s : Session) : Type 0 where
  pub storage : Storage
  pub jobs : List SessionJob
  pub others : AllOtherNumbers s.jobs jobs
  pub same : x.device ≢ None → jobs ≡ s.jobs
  pub device : storage.device ≡ content_after x.device told
  pub stands : StandsOver storage told k plan (record s { jobs = jobs })

-- what was wanted is in core
abbrev pub IsThere : Storage → What → Placement → SessionJob → Type 0
IsThere x (what.Code displacement) plan m = (x.held (plan.dictionary m.constants.number + displacement)).area ≢ None
IsThere x (what.Array home) plan m = (x.held home).area ≢ None

-- what was wanted and the running segment are in core
pub record Brings (x : Storage) (told : Option (List (List ℕ))) (k : Machine) (plan : Placement) (s : Session) (m : SessionJob) (t : Task) (absent : What) : Type 0 where
  pub again : StandsAgain x told k plan s
  pub code : code_area again.storage plan m t ≢ None
  pub there : IsThere again.storage absent plan m

-- a refusal leaves the running segment or what was wanted absent
abbrev pub Lacks : Storage → What → Placement → SessionJob → Task → Type 0
Lacks x (what.Code displacement) plan m t = code_area x plan m t ≡ None
Lacks x (what.Array home) plan m t = (code_area x plan m t ≡ None) ⊎ ((x.held home).area ≡ None)

-- the machine represents the session again, and in it the running segment or what was wanted is absent
pub record StillLacks (x : Storage) (told : Option (List (List ℕ))) (k : Machine) (plan : Placement) (s : Session) (m : SessionJob) (t : Task) (absent : What) : Type 0 where
  pub again : StandsAgain x told k plan s
  pub lacks : Lacks again.storage absent plan m t

-- there was no hole for what is wanted, whose area has so many words
abbrev pub words_wanted : SessionJob → Task → What → ℕ → ℕ
words_wanted m t (what.Code displacement) words = length (code_of m.constants t.segment) + 2
words_wanted m t (what.Array home) words = words + 2

-- what is wanted is absent, the running segment is present if it isn't what is wanted, and no hole has room
abbrev pub HasNoRoom : Storage → What → ℕ → Placement → SessionJob → Task → Type 0
HasNoRoom x (what.Code displacement) words plan m t = (code_area x plan m t ≡ None) × (HasHole (length (code_of m.constants t.segment) + 2) x.spans → ⊥)
HasNoRoom x (what.Array home) words plan m t = (code_area x plan m t ≢ None) × ((x.held home).area ≡ None) × (HasHole (words + 2) x.spans → ⊥)

-- the machine that a want of sectors leaves: it represents the session, no hole has room for what is wanted, and it is short
-- of sectors by these numbers
pub record RefusedFull (x : Storage) (told : Option (List (List ℕ))) (k : Machine) (plan : Placement) (s : Session) (m : SessionJob) (t : Task) (absent : What) (words wants free : ℕ) : Type 0 where
  pub refused : StillLacks x told k plan s m t absent
  pub no_room : HasNoRoom refused.again.storage absent words plan m t
  pub short : IsShortOf refused.again.storage plan refused.again.jobs wants free

-- every area that was there is there
abbrev pub AreasStay : Storage → Storage → Type 0
AreasStay x y = (home : ℕ) → (x.held home).area ≢ None → (y.held home).area ≡ (x.held home).area

-- the machine represents the session again, and no area has moved
pub record StaysIn (x : Storage) (told : Option (List (List ℕ))) (k : Machine) (plan : Placement) (s : Session) : Type 0 where
  pub again : StandsAgain x told k plan s
  pub areas : AreasStay x again.storage

-- what was wanted and the running segment are in core, and no area has moved
pub record BringsInPlace (x : Storage) (told : Option (List (List ℕ))) (k : Machine) (plan : Placement) (s : Session) (m : SessionJob) (t : Task) (absent : What) : Type 0 where
  pub brings : Brings x told k plan s m t absent
  pub areas : AreasStay x brings.again.storage

-- what is wanted keeps no chain: an array of zeros that was never touched
abbrev pub IsUntouched : Storage → What → Type 0
IsUntouched x (what.Code displacement) = ⊥
IsUntouched x (what.Array home) = (x.held home).chain ≡ 0

-- what is wanted is brought in, for a session's running task that wants an array of that many words, 0 for its segment. Core
-- is too small exactly if the step's need exceeds it; too few free sectors refuse it only if the session takes more than the
-- device has and there was no hole; if there was one, no sector is written and no area moves
pub record BringMeets {D : Type 0} (tell : D → Option (List (List ℕ))) (many : ℕ) (x : Storage) (plan : Placement) (s : Session) (m : SessionJob) (t : Task) (absent : What) (words : ℕ)
    (result : Result (Unit {0}) SpaceFault) (old new : Machine) (before after : D) : Type 0 where
  pub came : OnOk result (Brings x (tell after) new plan s m t absent)
  pub refused : OnErr result (StillLacks x (tell after) new plan s m t absent)
  pub hole : HasHole (words_wanted m t absent words) x.spans → (new.sectors ≡ old.sectors) × Becomes tell before after (λ all. all) × StaysIn x (tell after) new plan s
      × OnOk result (BringsInPlace x (tell after) new plan s m t absent)
  pub zeros : HasHole (words_wanted m t absent words) x.spans → IsUntouched x absent → IsOk result × (after ≡ before)
  pub no_core : (need size : ℕ) → (result ≡ Err (NoCore need size))
      ↔ ((length old.cpu.core < need_with s m t 0 words) × (need ≡ need_with s m t 0 words) × (size ≡ length old.cpu.core))
  pub full : (wants free : ℕ) → result ≡ Err (BackingFull wants free)
      → (many < sectors s.jobs) × (HasHole (words_wanted m t absent words) x.spans → ⊥) × RefusedFull x (tell after) new plan s m t absent words wants free
