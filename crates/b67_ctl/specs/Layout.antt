-- The words of activations, procedures and references. Bits that a layout doesn't name are zero.
use Rattle.std.specs.Prelude.{ℕ, Bool, false, ◌≡◌, ◌+◌, ◌*◌, ◌^◌, ◌<◌, if◌then◌else◌}
use Rattle.b67_word.specs.Tagged.{Tagged, word}
use Rattle.b67_word.specs.declared.couples.Place.{Place}
use Rattle.b67_ctl.specs.declared.marks.Mscw.{Mscw}
use Rattle.b67_ctl.specs.declared.marks.Rcw.{Rcw}
use Rattle.b67_ctl.specs.declared.marks.Toscw.{Toscw}
use Rattle.b67_ctl.specs.declared.programs.Pcw.{Pcw}
use Rattle.b67_ctl.specs.declared.programs.IntrinsicPcw.{IntrinsicPcw}
use Rattle.b67_ctl.specs.declared.references.Irw.{Irw}
use Rattle.b67_ctl.specs.declared.references.Sirw.{Sirw}

-- a flag as a bit
abbrev pub flag_bit : Bool → ℕ
flag_bit b = if b then 1 else 0

-- a mark stack control word
abbrev pub mscw_word : Mscw → Tagged
mscw_word m = word 3 (flag_bit m.far * 2 ^ 47 + flag_bit m.entered * 2 ^ 46 + m.env_stack * 2 ^ 36 + m.env_disp * 2 ^ 20 + flag_bit m.value * 2 ^ 19 + m.level * 2 ^ 14 + m.back)

pub record IsMscw (m : Mscw) : Type 0 where
  pub env_stack : m.env_stack < 2 ^ 10
  pub env_disp : m.env_disp < 2 ^ 16
  pub level : m.level < 2 ^ 5
  pub back : m.back < 2 ^ 14
  -- one that is only marked has nothing but the distance
  pub marked : m.entered ≡ false → flag_bit m.far + m.env_stack + m.env_disp + flag_bit m.value + m.level ≡ 0

-- a place in a segment
abbrev pub place_bits : Place → ℕ
place_bits p = p.syllable * 2 ^ 33 + p.word * 2 ^ 20

pub record IsPlace (p : Place) : Type 0 where
  pub syllable : p.syllable < 2 ^ 3
  pub word : p.word < 2 ^ 13

-- a return control word
abbrev pub rcw_word : Rcw → Tagged
rcw_word r = word 3 (place_bits r.place + r.level * 2 ^ 14 + r.segment)

pub record IsRcw (r : Rcw) : Type 0 where
  pub place : IsPlace r.place
  pub level : r.level < 2 ^ 5
  pub segment : r.segment < 2 ^ 14

-- a program control word
abbrev pub pcw_word : Pcw → Tagged
pcw_word r = word 7 (place_bits r.place + r.level * 2 ^ 14 + r.segment)

pub record IsPcw (r : Pcw) : Type 0 where
  pub place : IsPlace r.place
  pub level : r.level < 2 ^ 5
  pub segment : r.segment < 2 ^ 14

-- the word of an intrinsic procedure
abbrev pub intrinsic_word : IntrinsicPcw → Tagged
intrinsic_word p = word 7 (2 ^ 19 + p.number)

pub record IsIntrinsicPcw (p : IntrinsicPcw) : Type 0 where
  pub number : p.number < 2 ^ 14

-- a top of stack control word
abbrev pub toscw_word : Toscw → Tagged
toscw_word t = word 3 (t.s * 2 ^ 20 + t.level * 2 ^ 14 + t.f)

pub record IsToscw (t : Toscw) : Type 0 where
  pub s : t.s < 2 ^ 16
  pub level : t.level < 2 ^ 5
  pub f : t.f < 2 ^ 14

-- an indirect reference word
abbrev pub irw_word : Irw → Tagged
irw_word r = word 1 r.couple

pub record IsIrw (r : Irw) : Type 0 where
  pub couple : r.couple < 2 ^ 14

-- a stuffed one
abbrev pub sirw_word : Sirw → Tagged
sirw_word r = word 1 (2 ^ 46 + r.stack * 2 ^ 36 + r.disp * 2 ^ 20 + r.offset)

pub record IsSirw (r : Sirw) : Type 0 where
  pub stack : r.stack < 2 ^ 10
  pub disp : r.disp < 2 ^ 16
  pub offset : r.offset < 2 ^ 13
