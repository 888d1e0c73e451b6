-- The machine with its areas, sectors and device, and views in which one object is held otherwise.
use Rattle.std.specs.Prelude.{◌≡◌, ℕ, ◌^◌, ◌<◌, ◌≤◌, ◌⊎◌, List, [], ◌∷◌, length, Option, Some, None}
use Rattle.std.specs.List.{AllByRecursion}
use Rattle.b67_area.specs.declared.Areas.{Areas}
use Rattle.b67_area.specs.Spans.{Span, Area, Hole}
use Rattle.b67_backing.specs.Shelf.{Table, IsShelf}
use Rattle.b67_backing.specs.Held.{Changes, Becomes}
use Rattle.b67_lemmas.specs.Lists.{Has}
use Rattle.b67_stack.specs.declared.Cpu.{Cpu}
use Rattle.b67_stack.specs.Common.{Location, PagedObject, MachineView, Storage, Represents, with_held}

-- what a storage says of the sectors, if anything, is what the device tells
abbrev pub Says : Option (List (List ℕ)) → Option (List (List ℕ)) → Type 0
Says None told = Unit {0}
Says (Some all) told = told ≡ Some all

-- what a storage says that said this, where the device now tells that
abbrev pub content_after : Option (List (List ℕ)) → Option (List (List ℕ)) → Option (List (List ℕ))
content_after None told = None
content_after (Some all) told = told

-- the registers and core, the areas, the table of sectors and what the device tells are those of a storage and a view
pub record MachineRepresentsView (x : Storage) (cpu : Cpu) (areas : Areas) (table : Table) (told : Option (List (List ℕ))) (p : MachineView) : Type 0 where
  pub stands : Represents x cpu.core cpu.regs p
  pub low : areas.low ≡ x.low
  pub shelf : IsShelf table x.shelf
  pub device : Says x.device told

-- what the storage then is
abbrev pub holding : Storage → ℕ → Location → Storage
holding x home h = record x { held = with_held x.held home h }

-- the array, data row or segment of a home is not in core
pub record IsAbsent (x : Storage) (p : MachineView) (home : ℕ) (t : PagedObject) : Type 0 where
  pub there : Has p.objects t
  pub is : t.home ≡ home
  pub absent : (x.held home).area ≡ None

-- an array, data row or segment is in the area at an address
pub record IsPresent (x : Storage) (p : MachineView) (at : ℕ) (t : PagedObject) : Type 0 where
  pub there : Has p.objects t
  pub present : (x.held t.home).area ≡ Some at

-- each number has the 48 bits of a word
abbrev pub AreBits : List ℕ → Type 0
AreBits ns = AllByRecursion (λ n. n < 2 ^ 48) ns

-- a hole of n words or more
abbrev pub HasHole : ℕ → List Span → Type 0
HasHole n [] = ⊥
HasHole n (Area a ∷ ss) = HasHole n ss
HasHole n (Hole m ∷ ss) = (n ≤ m) ⊎ HasHole n ss

-- a device after calls: it has as many sectors, no count has fallen, and where it told its sectors it still does
pub record DeviceAfterCalls {D : Type 0} (holds : D → Option (List (List ℕ))) (many counted failed : D → ℕ) (old new : D) : Type 0 where
  pub size : many new ≡ many old
  pub calls : counted old ≤ counted new
  pub faults : failed old ≤ failed new
  pub tells : Changes holds old new (λ before after. length after ≡ length before)

-- a device that was read at most: its sectors hold what they held, and no count has fallen
pub record DeviceAfterReads {D : Type 0} (holds : D → Option (List (List ℕ))) (many counted failed : D → ℕ) (old new : D) : Type 0 where
  pub same : Becomes holds old new (λ all. all)
  pub size : many new ≡ many old
  pub calls : counted old ≤ counted new
  pub faults : failed old ≤ failed new

-- what every call of paging keeps: the registers, the size of core, where areas may lie, and how many sectors the table has
pub record PagingKeeps (old new : Cpu) (before after : Areas) (table table_new : Table) : Type 0 where
  pub rest : new ≡ record old { core = new.core }
  pub len : length new.core ≡ length old.core
  pub areas : after ≡ before
  pub count : length table_new.links ≡ length table.links
