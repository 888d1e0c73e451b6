-- What remains of a storage after areas were given back.
use Rattle.std.specs.Prelude.{◌≡◌, ◌≢◌, ◌↔◌, ℕ, ◌<◌, ◌≤◌, ◌⊎◌, List, length, Option, Some, None, Result, Err, OnOk, OnErr, IsOk}
use Rattle.b67_area.specs.declared.Areas.{Areas}
use Rattle.b67_area.specs.declared.Info.{Info}
use Rattle.b67_area.specs.Spans.{Span, area_at}
use Rattle.b67_area.specs.declared.Kind.TheVariants.{Array}
use Rattle.b67_backing.specs.Shelf.{Table}
use Rattle.b67_backing.specs.Held.{sectors_for}
use Rattle.b67_backing.specs.declared.SpaceFault.{SpaceFault}
use Rattle.b67_backing.specs.declared.SpaceFault.TheVariants.{BackingFull}
use Rattle.b67_stack.specs.declared.Cpu.{Cpu}
use Rattle.b67_stack.specs.Common.{PagedObject, MachineView, Storage, LowWordsStayed}
use Rattle.b67_layout.specs.Machine.{IsPresent}
use Rattle.b67_overlay.specs.Spans.{MachineCanPage}
use Rattle.b67_overlay.specs.Overlaid.{overlaid, retelling, IsShort}

-- areas were given back, but not the one at `spare`: what was not in core is where it was
pub record AreasEvicted (x y : Storage) (spare : ℕ) : Type 0 where
  pub low : y.low ≡ x.low
  pub resting : (home : ℕ) → (x.held home).area ≡ None → y.held home ≡ x.held home
  pub spared : (home : ℕ) → (x.held home).area ≡ Some spare → y.held home ≡ x.held home
  pub untold : x.device ≡ None → y.device ≡ None
  pub told : x.device ≢ None → y.device ≢ None

-- an area's head stands before its address, so the areas at addresses above `upto` are those without a word below it.
-- Each of them is where it was, with the same words and the same chain
abbrev pub StaysAbove : ℕ → Storage → Storage → Type 0
StaysAbove upto x y = (at : ℕ) (a : Info) → upto < at → area_at x.low x.spans at ≡ Some a → area_at y.low y.spans at ≡ Some a

-- areas were given back, and none without a word below `upto`
pub record EvictedBelow (upto : ℕ) (x y : Storage) : Type 0 where
  pub evicted : AreasEvicted x y 0
  pub stays : StaysAbove upto x y

-- the next area of a walk upwards is there, and all areas but that at `spare` are this one or lie above it
abbrev pub Remains : ℕ → List Span → ℕ → Option ℕ → Type 0
Remains low spans spare None = (at : ℕ) (a : Info) → area_at low spans at ≡ Some a → at ≡ spare
Remains low spans spare (Some next) =
    ((a : Info) × (area_at low spans next ≡ Some a)) × ((at : ℕ) (a : Info) → area_at low spans at ≡ Some a → (at ≡ spare) ⊎ (next ≤ at))

-- a present array that keeps no chain needs so many sectors, and no more than that are free
pub record IsShortBy (x : Storage) (p : MachineView) (wants free : ℕ) : Type 0 where
  pub object : PagedObject
  pub at : ℕ
  pub present : IsPresent x p at object
  pub short : IsShort x object
  pub wants_is : wants ≡ sectors_for (length object.numbers)
  pub free_is : free ≡ length x.shelf.free

-- an area is taken out of core: too few free sectors refuse it exactly if it is an array that keeps none and needs more than
-- are free; code and data rows go without a call of the device
pub record Overlays {D : Type 0} (tell : D → Option (List (List ℕ))) (x : Storage) (p : MachineView) (area : ℕ) (t : PagedObject)
    (result : Result (Unit {0}) SpaceFault) (old cpu : Cpu) (areas : Areas) (table table_new : Table) (before after : D) : Type 0 where
  pub stands : OnOk result (MachineCanPage (overlaid x t area (tell after)) cpu areas table_new (tell after) p)
  pub refused : OnErr result (MachineCanPage (retelling x (tell after)) cpu areas table_new (tell after) p)
  pub outside : LowWordsStayed p old.core cpu.core
  pub full : (wants free : ℕ) → (result ≡ Err (BackingFull wants free)) ↔ (IsShort x t × (wants ≡ sectors_for (length t.numbers)) × (free ≡ length x.shelf.free))
  pub clean : t.kind ≢ Array → IsOk result × (table_new ≡ table) × (after ≡ before)

-- every area with a word below `upto` is taken out of core, and no other; an array among them may be refused for too few free
-- sectors
pub record Claims (x : Storage) (p : MachineView) (upto : ℕ)
    (result : Result (Unit {0}) SpaceFault) (old cpu : Cpu) (areas : Areas) (table : Table) (told : Option (List (List ℕ))) : Type 0 where
  pub outside : LowWordsStayed p old.core cpu.core
  pub clear : OnOk result ((y : Storage) × EvictedBelow upto x y × ((at : ℕ) (a : Info) → area_at y.low y.spans at ≡ Some a → upto < at)
      × MachineCanPage y cpu areas table told p)
  pub refused : OnErr result ((y : Storage) × EvictedBelow upto x y × MachineCanPage y cpu areas table told p)
  pub full : (wants free : ℕ) → result ≡ Err (BackingFull wants free)
      → (y : Storage) × (short : IsShortBy y p wants free) × (short.at ≤ upto) × EvictedBelow upto x y × MachineCanPage y cpu areas table told p
