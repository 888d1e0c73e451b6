-- The code of the running segment, and the operator at the running place.
use Rattle.std.specs.Prelude.{◌≡◌, ℕ, ◌+◌, length, true, Option, Some, None}
use Rattle.b67_ctl.specs.declared.descriptors.SegDesc.{SegDesc}
use Rattle.b67_model.specs.Common.{Reading, Task, SessionJob, code_of, reading_of}
use Rattle.b67_stack.specs.Common.{Location, is_present, address_or, Storage}
use Rattle.b67_layout.specs.Placement.{Placement}

-- how the running segment is held
abbrev pub code_held : Storage → Placement → SessionJob → Task → Location
code_held x plan m t = x.held (plan.dictionary m.constants.number + 1 + t.segment)

-- its area, if it is present
abbrev pub code_area : Storage → Placement → SessionJob → Task → Option ℕ
code_area x plan m t = (code_held x plan m t).area

-- its descriptor
abbrev pub code_desc : Storage → Placement → SessionJob → Task → SegDesc
code_desc x plan m t =
    let held = code_held x plan m t in
    record { present = is_present held.area; words = length (code_of m.constants t.segment); address = address_or held.area held.chain }

-- what is read at the running place, or that the segment is absent
abbrev pub GivesReading : Storage → Placement → SessionJob → Task → Option Reading → Type 0
GivesReading x plan m t None = code_area x plan m t ≡ None
GivesReading x plan m t (Some reading) = (at : ℕ) × (code_area x plan m t ≡ Some at) × (reading ≡ reading_of m.constants t)

-- the descriptor of the running segment, or that it is absent
abbrev pub GivesSegment : Storage → Placement → SessionJob → Task → Option SegDesc → Type 0
GivesSegment x plan m t None = code_area x plan m t ≡ None
GivesSegment x plan m t (Some desc) = (desc ≡ code_desc x plan m t) × (desc.present ≡ true)
