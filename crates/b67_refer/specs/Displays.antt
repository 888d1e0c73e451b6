-- A display that holds some environment.
use Rattle.std.specs.Prelude.{◌≡◌, ℕ, ◌+◌, ◌*◌, ◌<◌, ◌≤◌, suc, true, List, Some, slice_get}
use Rattle.b67_word.specs.Tagged.{Tagged}
use Rattle.b67_ctl.specs.declared.registers.Regs.{Regs}
use Rattle.b67_ctl.specs.declared.marks.Mscw.{Mscw}
use Rattle.b67_ctl.specs.Layout.{mscw_word, IsMscw}
use Rattle.b67_model.specs.Common.{level_of_frame, running, frame_at}
use Rattle.b67_layout.specs.Common.{frame_address, here}
use Rattle.b67_refer.specs.RunningContext.{RunningContext}

-- at the address that a display has at a level above n there is a mark, whose environment lies in a slot, at the address that it
-- has at level n
pub record HoldsMark (core : List Tagged) (r : Regs) (display : List ℕ) (n : ℕ) : Type 0 where
  pub at : ℕ
  pub mark : Mscw
  pub shown : slice_get display (suc n) ≡ Some at
  pub fits : IsMscw mark
  pub there : slice_get core at ≡ Some (mscw_word mark)
  pub below : slice_get display n ≡ Some (r.stacks + mark.env_stack * r.stack_size + mark.env_disp)

-- up to a level: marks that name each other, the running job's dictionary and the MCP
pub record HoldsEnvironment (core : List Tagged) (r : Regs) (display : List ℕ) (known : ℕ) : Type 0 where
  pub marks : (n : ℕ) → 2 ≤ n → n < known → HoldsMark core r display n
  pub dictionary : slice_get display 1 ≡ Some r.dict
  pub mcp : slice_get display 0 ≡ Some 0

-- the display shows the running environment above level n, where that has its activation record at this address
pub record ShowsAbove {core : List Tagged} {r : Regs} (a : RunningContext core r) (at n : ℕ) (display : List ℕ) : Type 0 where
  pub low : n ≤ level_of_frame (running a.task.frames)
  pub address : at ≡ frame_address a.plan a.member a.task (frame_at (here a.member a.task a.task.place) n).identity
  pub done : (k : ℕ) → n < k → k ≤ level_of_frame (running a.task.frames) → slice_get display k ≡ Some (frame_address a.plan a.member a.task (frame_at (here a.member a.task a.task.place) k).identity)

-- the top activation record is entered above level 2, and its environment lies in a slot, at a displacement
pub record EntersIn (core : List Tagged) (r : Regs) (slot disp : ℕ) : Type 0 where
  pub mark : Mscw
  pub fits : IsMscw mark
  pub there : slice_get core r.f ≡ Some (mscw_word mark)
  pub entered : mark.entered ≡ true
  pub slot_is : mark.env_stack ≡ slot
  pub disp_is : mark.env_disp ≡ disp
  pub high : 2 < r.level

-- the mark of that record is at an address
abbrev pub EntersOver : (core : List Tagged) (r : Regs) (under : ℕ) → Type 0
EntersOver core r under = (slot : ℕ) × (disp : ℕ) × EntersIn core r slot disp × (under ≡ r.stacks + slot * r.stack_size + disp)
