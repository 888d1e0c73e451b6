-- The words of descriptors.
use Rattle.std.specs.Prelude.{true, ◌≡◌, ◌+◌, ◌*◌, ◌^◌, ◌<◌}
use Rattle.b67_word.specs.Tagged.{Tagged, word}
use Rattle.b67_ctl.specs.Layout.{flag_bit}
use Rattle.b67_ctl.specs.declared.descriptors.DataDesc.{DataDesc}
use Rattle.b67_ctl.specs.declared.descriptors.SegDesc.{SegDesc}

-- a data descriptor
abbrev pub data_word : DataDesc → Tagged
data_word d = word 5 (flag_bit d.present * 2 ^ 47 + flag_bit d.copy * 2 ^ 46 + flag_bit d.indexed * 2 ^ 45 + flag_bit d.read_only * 2 ^ 43 + d.length * 2 ^ 20 + d.address)

pub record IsDataDesc (d : DataDesc) : Type 0 where
  pub words : d.length < 2 ^ 20
  pub address : d.address < 2 ^ 20
  -- an indexed one is a copy
  pub indexed : d.indexed ≡ true → d.copy ≡ true

-- a segment descriptor
abbrev pub seg_word : SegDesc → Tagged
seg_word d = word 3 (flag_bit d.present * 2 ^ 47 + d.words * 2 ^ 20 + d.address)

pub record IsSegDesc (d : SegDesc) : Type 0 where
  pub words : d.words < 2 ^ 20
  pub address : d.address < 2 ^ 20
