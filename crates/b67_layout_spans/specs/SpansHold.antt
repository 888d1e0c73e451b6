-- Where the copies of arrays are in a machine that represents a session.
use Rattle.std.specs.Prelude.{◌≡◌, ℕ, ◌<◌, Some, slice_get}
use Rattle.b67_ctl.specs.declared.descriptors.DataDesc.{DataDesc}
use Rattle.b67_ctl.specs.Descriptors.{data_word, IsDataDesc}
use Rattle.b67_model.specs.Schedule.{Session}
use Rattle.b67_stack.specs.declared.Cpu.{Cpu}
use Rattle.b67_stack.specs.MachineView.{PagedObject}
use Rattle.b67_stack.specs.Represents.{Storage}
use Rattle.b67_layout.specs.Machine.{IsPresent}
use Rattle.b67_layout.specs.Common.{IsInOrderButCounts, Placement, machine_view, RepresentsSession}
use Rattle.b67_overlay.specs.Turns.{IsCopyOfArea, InStack}
use Rattle.b67_overlay.specs.Spans.{Families, ShowsFamilies, span_of, InSpan}

-- a present copy of an area lies at an address of a slot's stack
pub record IsCopyAt (cpu : Cpu) (area i : ℕ) : Type 0 where
  pub desc : DataDesc
  pub fits : IsDataDesc desc
  pub read : slice_get cpu.core i ≡ Some (data_word desc)
  pub copy : IsCopyOfArea area desc

-- the machine represents a session in order, whatever its places and counts: then core shows who lives in each slot, and each
-- present copy of an array on a stack lies in the span of that slot for the array's original
abbrev pub SpansHoldCopies : Type 0
SpansHoldCopies =
    (x : Storage) (cpu : Cpu) (plan : Placement) (s : Session) → IsInOrderButCounts s → RepresentsSession x cpu plan s
    → (f : Families) × ShowsFamilies cpu.core (machine_view plan s.jobs) f
    × ((area : ℕ) (t : PagedObject) → IsPresent x (machine_view plan s.jobs) area t → (k i : ℕ) → k < plan.peak → InStack (machine_view plan s.jobs) k i → IsCopyAt cpu area i
    → InSpan (span_of f (machine_view plan s.jobs) t.home k) i)
