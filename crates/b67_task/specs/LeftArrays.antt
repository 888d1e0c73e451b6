-- What is left to release after an activation record was left.
use Rattle.std.specs.Prelude.{◌≡◌, ◌≢◌, ℕ, ◌+◌, ◌<◌, ◌≤◌, List, Option, Some, slice_get}
use Rattle.b67_word.specs.Tagged.{Tagged}
use Rattle.b67_ctl.specs.declared.registers.TheConstants.{NO_SLOT}
use Rattle.b67_area.specs.declared.Areas.{Areas}
use Rattle.b67_area.specs.declared.Kind.TheVariants.{Code}
use Rattle.b67_backing.specs.Shelf.{Table}
use Rattle.b67_model.specs.Common.{IsSegment, FramesInOrder, outer_of, Task, SessionJob, Session}
use Rattle.b67_lemmas.specs.Lists.{Has}
use Rattle.b67_stack.specs.declared.Cpu.{Cpu}
use Rattle.b67_stack.specs.Common.{IsOriginal, PagedObject, Storage}
use Rattle.b67_layout.specs.Common.{Placement, RepresentsSession, RepresentsSessionBut, RepresentsStorage}
use Rattle.b67_task.specs.Released.{HasHome, Released, SameBelow}

-- the machine represents a session but for arrays whose originals lie in a part of the running slot above the stack's top,
-- and each original there is that of one of them. The tasks' frames are in order
pub record IsLeft (left : List PagedObject) (x : Storage) (cpu : Cpu) (plan : Placement) (s : Session) (from upto : ℕ) : Type 0 where
  pub frames : (m : SessionJob) (t : Task) → Has s.jobs m → Has m.progress.job.tasks t → FramesInOrder (IsSegment m.constants) m.progress.job.arrays (outer_of m.progress.job t) t.frames
  pub stands : RepresentsSessionBut left x cpu plan s
  pub runs : plan.running ≢ NO_SLOT
  pub low : cpu.regs.s < from
  pub high : upto ≤ cpu.regs.losr + 1
  pub arrays : (t : PagedObject) → Has left t → t.kind ≢ Code
  pub among : (t : PagedObject) → Has left t → (from ≤ t.home) × (t.home < upto)
  pub each : (i : ℕ) (w : Tagged) → from ≤ i → i < upto → slice_get cpu.core i ≡ Some w → IsOriginal w → HasHome left i

-- the machine represents the session, over the storage without those arrays. No other word below the areas has changed
-- but the directory's
pub record AreReleased (left : List PagedObject) (x : Storage) (old cpu : Cpu) (areas : Areas) (table : Table) (told : Option (List (List ℕ))) (plan : Placement) (s : Session) : Type 0 where
  pub storage : Storage
  pub released : Released (HasHome left) x storage
  pub stands : RepresentsSession storage cpu plan s
  pub beside : RepresentsStorage areas table told cpu.core storage
  pub below : SameBelow x.low old.core cpu.core
