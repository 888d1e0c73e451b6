-- What the ends of the program tell.
use Rattle.std.specs.Prelude.{ℕ, List, Option, Some}
use Rattle.std.specs.declared.io.Write as write
use Rattle.b67_backing.specs.declared.device.Backing.{Ghosts}
use Rattle.b67_recorded.specs.Mirror.{mirrored}
use Rattle.b67_recorded.specs.declared.mirror.Mirrored.{Mirrored}
use Rattle.b67_recorded.specs.declared.sink.RecordedSink.{RecordedSink}

-- the sectors of a mirrored device
abbrev pub mirror_sectors : {F : Type 0} {g : Ghosts F} → Mirrored F g → List (List ℕ)
mirror_sectors {g = g} m = mirrored (g.size m.inner) m.held.items

abbrev pub mirror_told : {F : Type 0} {g : Ghosts F} → Mirrored F g → Option (List (List ℕ))
mirror_told m = Some (mirror_sectors m)

abbrev pub mirror_size : {F : Type 0} {g : Ghosts F} → Mirrored F g → ℕ
mirror_size {g = g} m = g.size m.inner

abbrev pub mirror_faults : {F : Type 0} {g : Ghosts F} → Mirrored F g → ℕ
mirror_faults m = m.faults

-- a text in memory, as a source that can't fail: what is left of it is itself
abbrev pub text_told : List ℕ → Option (List ℕ)
text_told text = Some text

abbrev pub text_faults : List ℕ → ℕ
text_faults text = 0

-- the bytes that a printer's writer took
abbrev pub sink_told : {W : Type 0} {w : write.Ghosts W} → RecordedSink W w → Option (List ℕ)
sink_told s = Some s.noted.bytes

abbrev pub sink_faults : {W : Type 0} {w : write.Ghosts W} → RecordedSink W w → ℕ
sink_faults s = s.faults
