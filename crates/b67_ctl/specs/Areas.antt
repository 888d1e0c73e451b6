-- The words before and behind an area.
use Rattle.std.specs.Prelude.{◌+◌, ◌*◌, ◌^◌, ◌<◌}
use Rattle.b67_word.specs.Tagged.{Tagged, word}
use Rattle.b67_ctl.specs.declared.areas.AreaHead.{AreaHead}
use Rattle.b67_ctl.specs.declared.areas.AreaTail.{AreaTail}

-- an area's head
abbrev pub area_head_word : AreaHead → Tagged
area_head_word h = word 3 (h.kind * 2 ^ 46 + h.words * 2 ^ 20 + h.owner)

pub record IsAreaHead (h : AreaHead) : Type 0 where
  -- an array, a data row, code
  pub kind : h.kind < 3
  pub words : h.words < 2 ^ 20
  pub owner : h.owner < 2 ^ 20

-- an area's tail
abbrev pub area_tail_word : AreaTail → Tagged
area_tail_word t = word 3 (t.words * 2 ^ 20 + t.kept)

pub record IsAreaTail (t : AreaTail) : Type 0 where
  pub words : t.words < 2 ^ 20
  pub kept : t.kept < 2 ^ 20
