-- The cells of frames in core, seen from a live task.
use Rattle.std.specs.Prelude.{◌≡◌, ◌≢◌, ℕ, Bool, true, false, ◌+◌, ◌*◌, ◌<◌, ◌≤◌, ◌⊎◌, List, Some, Result, Ok, Err, slice_get}
use Rattle.b67_word.specs.Tagged.{Tagged}
use Rattle.b67_word.specs.declared.couples.Place.{Place}
use Rattle.b67_word.specs.declared.faults.Fault.{Fault}
use Rattle.b67_word.specs.declared.faults.Fault.TheVariants.{InvalidAddress}
use Rattle.b67_ctl.specs.declared.map.TheConstants.{FIRST_INTRINSIC, LAST_INTRINSIC}
use Rattle.b67_ctl.specs.declared.registers.Regs.{Regs}
use Rattle.b67_ctl.specs.declared.marks.Toscw.{Toscw}
use Rattle.b67_ctl.specs.Layout.{intrinsic_word, toscw_word, IsToscw}
use Rattle.b67_model.specs.Common.{Answer, Word, Intrinsic, Known, reach_of, IsSegment, NamesEntered, WordInOrder, cell}
use Rattle.b67_model.specs.Words as Words
use Rattle.b67_stack.specs.Stacks.{StackPlace}
use Rattle.b67_stack.specs.Shapes.{Fits}
use Rattle.b67_layout.specs.Common.{spots, shape, frame_address, here}
use Rattle.b67_refer.specs.RunningContext.{LiveContext}

-- a cell's address, if there is the cell
abbrev pub cell_or_none : Bool → ℕ → Result ℕ Fault
cell_or_none true at = Ok at
cell_or_none false at = Err InvalidAddress

-- whether no word from an address up to another has the tag of marks
abbrev pub IsPlain : List Tagged → (from to : ℕ) → Bool → Type 0
IsPlain core from to true = (k : ℕ) (w : Tagged) → from ≤ k → k ≤ to → slice_get core k ≡ Some w → w.tag ≡ 3 → ⊥
IsPlain core from to false = (k : ℕ) × (w : Tagged) × (from ≤ k) × (k ≤ to) × (slice_get core k ≡ Some w) × (w.tag ≡ 3)

-- whether a frame is a task's, so that its mark lies in a slot; else it is the MCP or the dictionary
abbrev pub IsOfSlot : Bool → (f : ℕ) → Type 0
IsOfSlot of_slot f = (of_slot ≡ true → 1 < f) × (of_slot ≡ false → f ≤ 1)

module _ {core : List Tagged} {r : Regs} (a : LiveContext core r) where
  -- what the task may name, and where the frames are
  abbrev pub reach : List Known
  reach = reach_of a.member.progress.job a.task

  abbrev pub view : ℕ → StackPlace
  view = spots a.plan a.member.constants.number a.member.progress.job a.task

  abbrev pub frame_at_core : ℕ → ℕ
  frame_at_core f = frame_address a.plan a.member a.task f

  -- the mark of the running stack's last frame stands at an address, or that of one of the tasks' frames that the task may name
  abbrev pub IsMark : (over : ℕ) → Type 0
  IsMark over = (over ≡ r.f) ⊎ ((g : ℕ) × NamesEntered reach g × (1 < g) × (over ≡ frame_at_core g))

  -- a word of core at an address is this one of a frame that the task may name
  abbrev pub StandsFor : (at owner : ℕ) → Tagged → Word → Type 0
  StandsFor at owner v (Intrinsic n) = (v ≡ intrinsic_word (record { number = n })) × (FIRST_INTRINSIC ≤ n) × (n ≤ LAST_INTRINSIC)
  StandsFor at owner v (Words.Segment n) = v.tag ≡ 3
  StandsFor at owner v w =
      Fits a.storage.held (shape a.plan a.member.constants.number a.member.progress.job view w) at v
      × WordInOrder (IsSegment a.member.constants) a.member.progress.job.arrays reach owner w

  -- the top word of the stack in slot k has this address, and its last mark that one: by the registers, or by the word at the
  -- stack's base
  pub record IsTop (k top : ℕ) : Type 0 where
    pub used : k < a.plan.peak
    pub mark : ℕ
    pub by : ((r.slot ≡ k) × (r.s ≡ top) × (r.f ≡ mark))
        ⊎ ((r.slot ≢ k) × ((w : Toscw) × IsToscw w × (slice_get core (a.plan.stacks + k * a.plan.size) ≡ Some (toscw_word w)) × (a.plan.stacks + k * a.plan.size + w.s ≡ top) × (a.plan.stacks + k * a.plan.size + w.f ≡ mark)))

  module _ (q : Place) where
    -- the cell of an entered frame at an offset has this address, and this word
    pub record IsCellAt (at f offset : ℕ) (w : Word) : Type 0 where
      pub address : at ≡ frame_at_core f + offset
      pub names : NamesEntered reach f
      pub found : cell (here a.member a.task q) f offset ≡ Ok w
      pub word : Tagged
      pub there : slice_get core at ≡ Some word
      pub stands : StandsFor at f word w

    -- a cell was found for an offset of a frame, or there is none
    abbrev pub CellMeets : (f offset : ℕ) → Result ℕ Fault → Answer Word → Type 0
    CellMeets f offset (Ok at) (Ok w) = IsCellAt at f offset w
    CellMeets f offset (Err x) (Err y) = x ≡ y
    CellMeets f offset _ _ = ⊥

    -- the same for a frame and an offset that are looked up first
    abbrev pub FindsCell : Result ℕ Fault → Answer (ℕ × ℕ) → Type 0
    FindsCell found (Ok at) = CellMeets at.0 at.1 found (cell (here a.member a.task q) at.0 at.1)
    FindsCell found (Err y) = found ≡ Err y

  -- an address in a slot, and the address of the top word there
  pub record IsUnder (base top : ℕ) : Type 0 where
    pub slot : ℕ
    pub disp : ℕ
    pub low : disp < a.plan.size
    pub at : base ≡ a.plan.stacks + slot * a.plan.size + disp
    pub is : IsTop slot top
