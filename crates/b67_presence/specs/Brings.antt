-- Objects that are brought into core where other areas give way.
use Rattle.std.specs.Prelude.{◌≡◌, ◌≢◌, ◌↔◌, ⊤, ℕ, ◌+◌, ◌⊎◌, List, length, Option, Some, None, Bool, true, false, Result, Ok, Err, OnOk, OnErr, IsOk}
use Rattle.b67_area.specs.declared.Areas.{Areas}
use Rattle.b67_area.specs.declared.Info.{Info}
use Rattle.b67_area.specs.Spans.{Span, area_at}
use Rattle.b67_area.specs.declared.Kind.TheVariants.{Code}
use Rattle.b67_backing.specs.Shelf.{Table}
use Rattle.b67_backing.specs.Held.{Becomes}
use Rattle.b67_backing.specs.declared.SpaceFault.{SpaceFault}
use Rattle.b67_backing.specs.declared.SpaceFault.TheVariants.{NoCore, BackingFull}
use Rattle.b67_lemmas.specs.Lists.{Has}
use Rattle.b67_stack.specs.declared.Cpu.{Cpu}
use Rattle.b67_stack.specs.Common.{PagedObject, MachineView, Storage, LowWordsStayed, renumbered}
use Rattle.b67_layout.specs.Machine.{AreBits, HasHole}
use Rattle.b67_overlay.specs.Spans.{MachineCanPage}
use Rattle.b67_overlay.specs.Overlaid.{overlaid}
use Rattle.b67_overlay.specs.AreasEvicted.{AreasEvicted, IsShortBy}
use Rattle.b67_presence.specs.declared.paging.PagingRefusal.{PagingRefusal}
use Rattle.b67_presence.specs.declared.paging.PagingRefusal.TheVariants.{NoHole, BackingFault}
use Rattle.b67_presence.specs.Brought.{brought, IsSpot, NumbersAreKnown}

-- the device tells nothing, or each number of the view is one of a word
abbrev pub IsReadable : Storage → MachineView → Type 0
IsReadable x p = (x.device ≡ None) ⊎ ((t : PagedObject) → Has p.objects t → AreBits t.numbers)

-- the view after an object was read: the same where the device tells its sectors, else with as many numbers, and again those of words
pub record ReadBack (x : Storage) (p q : MachineView) (t : PagedObject) : Type 0 where
  pub numbers : List ℕ
  pub count : length numbers ≡ length t.numbers
  pub bits : AreBits t.numbers → AreBits numbers
  pub is : q ≡ renumbered p t.home numbers
  pub same : x.device ≢ None → q ≡ p

-- the address, if there is one, is an area's
abbrev pub PointsAtArea : ℕ → List Span → Option ℕ → Type 0
PointsAtArea low spans None = ⊤
PointsAtArea low spans (Some at) = (a : Info) × (area_at low spans at ≡ Some a)

-- the machine stands, where the object was placed and read, and no area moved
pub record ReadIn (x : Storage) (p : MachineView) (t : PagedObject) (cpu : Cpu) (areas : Areas) (table : Table) (told : Option (List (List ℕ))) : Type 0 where
  pub at : ℕ
  pub machine_view : MachineView
  pub place : IsSpot x t at
  pub reads : ReadBack x p machine_view t
  pub stands : MachineCanPage (brought x t at) cpu areas table told machine_view

-- the machine stands, where areas but the one at `spare` were given back, and then the object was placed
pub record PlacedAfterEviction (x : Storage) (p : MachineView) (t : PagedObject) (spare : ℕ) (cpu : Cpu) (areas : Areas) (table : Table) (told : Option (List (List ℕ))) : Type 0 where
  pub storage : Storage
  pub at : ℕ
  pub machine_view : MachineView
  pub sheds : AreasEvicted x storage spare
  pub place : IsSpot storage t at
  pub reads : ReadBack x p machine_view t
  pub stands : MachineCanPage (brought storage t at) cpu areas table told machine_view

-- the machine stands, where areas but the one at `spare` were given back
pub record StandsEvicted (x : Storage) (p : MachineView) (spare : ℕ) (cpu : Cpu) (areas : Areas) (table : Table) (told : Option (List (List ℕ))) : Type 0 where
  pub storage : Storage
  pub sheds : AreasEvicted x storage spare
  pub stands : MachineCanPage storage cpu areas table told p

-- the code of a home is in the area at `at`
pub record IsCode (x : Storage) (p : MachineView) (home at : ℕ) (c : PagedObject) : Type 0 where
  pub there : Has p.objects c
  pub is : c.home ≡ home
  pub kind : c.kind ≡ Code
  pub present : (x.held home).area ≡ Some at

-- both an object and the running code are in core
pub record BothIn (x : Storage) (p : MachineView) (t c : PagedObject) (cpu : Cpu) (areas : Areas) (table : Table) (told : Option (List (List ℕ))) : Type 0 where
  pub storage : Storage
  pub read : MachineView
  pub machine_view : MachineView
  pub low : storage.low ≡ x.low
  pub untold : x.device ≡ None → storage.device ≡ None
  pub told_still : x.device ≢ None → storage.device ≢ None
  pub object : (storage.held t.home).area ≢ None
  pub code : (storage.held c.home).area ≢ None
  pub reads : ReadBack x p read t
  pub reads_code : ReadBack x read machine_view c
  pub stands : MachineCanPage storage cpu areas table told machine_view

-- the object may be in core, and the running code may not: one of them isn't
pub record MayWait (x : Storage) (p : MachineView) (t c : PagedObject) (cpu : Cpu) (areas : Areas) (table : Table) (told : Option (List (List ℕ))) : Type 0 where
  pub storage : Storage
  pub machine_view : MachineView
  pub low : storage.low ≡ x.low
  pub untold : x.device ≡ None → storage.device ≡ None
  pub told_still : x.device ≢ None → storage.device ≢ None
  pub lacks : ((storage.held t.home).area ≡ None) ⊎ ((storage.held c.home).area ≡ None)
  pub reads : ReadBack x p machine_view t
  pub stands : MachineCanPage storage cpu areas table told machine_view

-- the words that core must have for an object beside the stacks, and for the running code with it
abbrev pub need_one : Storage → PagedObject → ℕ
need_one x t = x.low + (length t.numbers + 2)

abbrev pub need_both : Storage → PagedObject → PagedObject → ℕ
need_both x c t = x.low + (length c.numbers + 2) + (length t.numbers + 2)

-- there is no area but the one at `spare`
abbrev pub IsAlone : Storage → ℕ → Type 0
IsAlone x spare = (at : ℕ) (a : Info) → area_at x.low x.spans at ≡ Some a → at ≡ spare

-- where no hole had n words, none has them now
abbrev pub NoHoleStill : ℕ → Storage → Storage → Type 0
NoHoleStill n x y = (HasHole n x.spans → ⊥) → HasHole n y.spans → ⊥

-- an absent object is brought into a hole: refused for no hole exactly if there is none with room, and then the device isn't
-- called; one that was never touched never fails and calls no device
pub record PagesIn {D : Type 0} (tell : D → Option (List (List ℕ))) (x : Storage) (p : MachineView) (home : ℕ) (t : PagedObject)
    (result : Result (Unit {0}) PagingRefusal) (old cpu : Cpu) (areas : Areas) (table : Table) (before after : D) : Type 0 where
  pub outside : LowWordsStayed p old.core cpu.core
  pub known : OnOk result (NumbersAreKnown x t → (at : ℕ) × IsSpot x t at × MachineCanPage (brought x t at) cpu areas table (tell after) p)
  pub untold : OnOk result (x.device ≡ None
      → (at : ℕ) × (ns : List ℕ) × IsSpot x t at × (length ns ≡ length t.numbers) × AreBits ns
      × MachineCanPage (brought x t at) cpu areas table (tell after) (renumbered p home ns))
  pub refused : OnErr result (MachineCanPage x cpu areas table (tell after) p)
  pub full : (result ≡ Err NoHole) ↔ (HasHole (length t.numbers + 2) x.spans → ⊥)
  pub untouched : (x.held home).chain ≡ 0 → after ≡ before
  pub zeros : (x.held home).chain ≡ 0 → result ≢ Err BackingFault

-- the area of a present object is evicted, unless it is the one at `spare`, and then an absent object is placed, or no hole has
-- room for it
pub record EvictsArea (x : Storage) (p : MachineView) (t u : PagedObject) (at spare : ℕ)
    (result : Result Bool SpaceFault) (old cpu : Cpu) (areas : Areas) (table : Table) (told : Option (List (List ℕ))) : Type 0 where
  pub outside : LowWordsStayed p old.core cpu.core
  pub came : result ≡ Ok true → IsReadable x p → PlacedAfterEviction x p t spare cpu areas table told
  pub gone : result ≡ Ok false
      → (at ≡ spare → MachineCanPage x cpu areas table told p)
      × (at ≢ spare → MachineCanPage (overlaid x u at told) cpu areas table told p × (HasHole (length t.numbers + 2) (overlaid x u at told).spans → ⊥))
  pub refused : OnErr result (StandsEvicted x p spare cpu areas table told)
  pub full : (wants free : ℕ) → result ≡ Err (BackingFull wants free)
      → (w : StandsEvicted x p spare cpu areas table told) × IsShortBy w.storage p wants free × (w.storage.spans ≡ x.spans)

-- areas but the one at `spare` may be evicted for an absent object, which is placed then or still waits. Too few free sectors
-- refuse it only while no hole has room
pub record EvictsSome (x : Storage) (p : MachineView) (t : PagedObject) (spare : ℕ)
    (result : Result Bool SpaceFault) (old cpu : Cpu) (areas : Areas) (table : Table) (told : Option (List (List ℕ))) : Type 0 where
  pub outside : LowWordsStayed p old.core cpu.core
  pub came : result ≡ Ok true → IsReadable x p → PlacedAfterEviction x p t spare cpu areas table told
  pub waits : result ≡ Ok false → (w : StandsEvicted x p spare cpu areas table told) × NoHoleStill (length t.numbers + 2) x w.storage
  pub refused : OnErr result (StandsEvicted x p spare cpu areas table told)
  pub full : (wants free : ℕ) → result ≡ Err (BackingFull wants free)
      → (w : StandsEvicted x p spare cpu areas table told) × IsShortBy w.storage p wants free × NoHoleStill (length t.numbers + 2) x w.storage

-- areas but the one at `spare` are evicted for an absent object until it is placed, or none of them is left. Too few free
-- sectors refuse it only while no hole has room
pub record MakesWay (x : Storage) (p : MachineView) (t : PagedObject) (spare : ℕ)
    (result : Result Bool SpaceFault) (old cpu : Cpu) (areas : Areas) (table : Table) (told : Option (List (List ℕ))) : Type 0 where
  pub outside : LowWordsStayed p old.core cpu.core
  pub came : result ≡ Ok true → IsReadable x p → PlacedAfterEviction x p t spare cpu areas table told
  pub clear : result ≡ Ok false → (w : StandsEvicted x p spare cpu areas table told) × IsAlone w.storage spare
  pub refused : OnErr result (StandsEvicted x p spare cpu areas table told)
  pub full : (wants free : ℕ) → result ≡ Err (BackingFull wants free)
      → (w : StandsEvicted x p spare cpu areas table told) × IsShortBy w.storage p wants free × NoHoleStill (length t.numbers + 2) x w.storage

-- an absent object for which a hole has room is placed; no area moves
pub record PlacesInRoom (x : Storage) (p : MachineView) (t : PagedObject)
    (result : Result (Unit {0}) SpaceFault) (old cpu : Cpu) (areas : Areas) (table : Table) (told : Option (List (List ℕ))) : Type 0 where
  pub outside : LowWordsStayed p old.core cpu.core
  pub came : OnOk result (IsReadable x p → ReadIn x p t cpu areas table told)
  pub refused : OnErr result (MachineCanPage x cpu areas table told p)

-- an absent object is brought in beside the running code, which may be evicted for it and then comes back
pub record PlacesBoth (x : Storage) (p : MachineView) (t c : PagedObject)
    (result : Result (Unit {0}) SpaceFault) (old cpu : Cpu) (areas : Areas) (table : Table) (told : Option (List (List ℕ))) : Type 0 where
  pub outside : LowWordsStayed p old.core cpu.core
  pub both : OnOk result (IsReadable x p → BothIn x p t c cpu areas table told)
  pub waits : OnErr result (IsReadable x p → MayWait x p t c cpu areas table told)

-- a call that fails only where the device did
pub record FailsByDevice (result : Result (Unit {0}) SpaceFault) : Type 0 where
  pub no_core : (need size : ℕ) → result ≢ Err (NoCore need size)
  pub not_full : (wants free : ℕ) → result ≢ Err (BackingFull wants free)

-- code is brought in where no hole has room for it, but core has
pub record ForcesCode (x : Storage) (p : MachineView) (t : PagedObject)
    (result : Result (Unit {0}) SpaceFault) (old cpu : Cpu) (areas : Areas) (table : Table) (told : Option (List (List ℕ))) : Type 0 where
  pub outside : LowWordsStayed p old.core cpu.core
  pub came : OnOk result (IsReadable x p → PlacedAfterEviction x p t 0 cpu areas table told)
  pub refused : OnErr result (StandsEvicted x p 0 cpu areas table told)
  pub full : (wants free : ℕ) → result ≡ Err (BackingFull wants free)
      → (w : StandsEvicted x p 0 cpu areas table told) × IsShortBy w.storage p wants free × NoHoleStill (length t.numbers + 2) x w.storage

-- what was brought in found a hole: no sector is written and no area moves, whatever is answered
pub record FoundHole {D : Type 0} (tell : D → Option (List (List ℕ))) (x : Storage) (p : MachineView) (t : PagedObject)
    (result : Result (Unit {0}) SpaceFault) (cpu : Cpu) (areas : Areas) (table table_new : Table) (before after : D) : Type 0 where
  pub sectors : table_new ≡ table
  pub device : Becomes tell before after (λ all. all)
  pub read : OnOk result (IsReadable x p → ReadIn x p t cpu areas table_new (tell after))
  pub stays : OnErr result (MachineCanPage x cpu areas table_new (tell after) p)

-- the code of an absent descriptor is brought in; too few free sectors refuse it only if there was no hole for it, and there
-- is none then
pub record BringsCode (x : Storage) (p : MachineView) (t : PagedObject)
    (result : Result (Unit {0}) SpaceFault) (old cpu : Cpu) (areas : Areas) (table : Table) (told : Option (List (List ℕ))) : Type 0 where
  pub outside : LowWordsStayed p old.core cpu.core
  pub came : OnOk result (IsReadable x p → PlacedAfterEviction x p t 0 cpu areas table told)
  pub refused : OnErr result (StandsEvicted x p 0 cpu areas table told)
  pub full : (wants free : ℕ) → result ≡ Err (BackingFull wants free)
      → (HasHole (length t.numbers + 2) x.spans → ⊥) × (w : StandsEvicted x p 0 cpu areas table told) × IsShortBy w.storage p wants free
      × (HasHole (length t.numbers + 2) w.storage.spans → ⊥)

-- the same for an array or a data row beside the running code, which is in the area at `at`; one that was never touched is
-- there at once if a hole has room, and no device is called
pub record BringsData {D : Type 0} (tell : D → Option (List (List ℕ))) (x : Storage) (p : MachineView) (home : ℕ) (t c : PagedObject) (at : ℕ)
    (result : Result (Unit {0}) SpaceFault) (old cpu : Cpu) (areas : Areas) (table : Table) (before after : D) : Type 0 where
  pub outside : LowWordsStayed p old.core cpu.core
  pub both : OnOk result (IsReadable x p → BothIn x p t c cpu areas table (tell after))
  pub refused : OnErr result (IsReadable x p → MayWait x p t c cpu areas table (tell after))
  pub zeros : HasHole (length t.numbers + 2) x.spans → (x.held home).chain ≡ 0 → IsOk result × (after ≡ before)
  pub full : (wants free : ℕ) → result ≡ Err (BackingFull wants free)
      → (HasHole (length t.numbers + 2) x.spans → ⊥) × (w : StandsEvicted x p at cpu areas table (tell after)) × IsShortBy w.storage p wants free
      × (HasHole (length t.numbers + 2) w.storage.spans → ⊥)
