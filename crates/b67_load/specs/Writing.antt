-- What writing objects does to core, to the table of sectors and to a device.
use Rattle.std.specs.Prelude.{◌≡◌, ℕ, ◌+◌, ◌≤◌, List, length, Option}
use Rattle.b67_word.specs.Tagged.{Tagged}
use Rattle.b67_backing.specs.Shelf.{Table, Shelf, IsShelf}
use Rattle.b67_backing.specs.Held.{Changes, SameBut}
use Rattle.b67_model.specs.Program.{Program}
use Rattle.b67_stack.specs.MachineView.{PagedObject}
use Rattle.b67_load.specs.Objects.{program_objects, sectors_of_objects, sectors_of_program}
use Rattle.b67_load.specs.StoredObjects.{placed, stocked, DescriptorsStand, DictionaryIs, WritesFreeSectors, SameOutside, KeepsChains}

-- core, the table of sectors, and the device
pub record Parts (D : Type 0) : Type 0 where
  pub core : List Tagged
  pub table : Table
  pub device : D

-- only `count` words of core from an address on, sectors that were free and their links may be changed
pub record Spares {D : Type 0} (tell : D → Option (List (List ℕ))) (at count : ℕ) (old new : Parts D) : Type 0 where
  pub outside : SameOutside at (at + count) old.core new.core
  pub len : length new.core ≡ length old.core
  pub links : length new.table.links ≡ length old.table.links
  pub chains : (st : Shelf) → IsShelf old.table st → (after : Shelf) × IsShelf new.table after × KeepsChains st after
  pub others : (st : Shelf) → IsShelf old.table st → Changes tell old.device new.device (SameBut st.free)

-- objects are written: their descriptors to core, their words to sectors
pub record Writes {D : Type 0} (tell : D → Option (List (List ℕ))) (objects : List PagedObject) (old new : Parts D) : Type 0 where
  pub shelf : (st : Shelf) → IsShelf old.table st → IsShelf new.table (stocked objects st)
  pub descriptors : (st : Shelf) → IsShelf old.table st → DescriptorsStand new.core (placed objects st.free)
  pub stocks : (st : Shelf) → IsShelf old.table st → Changes tell old.device new.device (WritesFreeSectors objects st.free)
  pub left : new.table.free + sectors_of_objects objects ≡ old.table.free

-- a table of chains and free sectors for a device of `many` sectors, of which as many as are wanted are free
pub record HasSectors (many : ℕ) (table : Table) (wanted : ℕ) : Type 0 where
  pub known : (st : Shelf) × IsShelf table st
  pub same : many + 1 ≡ length table.links
  pub room : wanted ≤ table.free

-- the dictionary of a program stands at base, and its segments and data rows lie in sectors that were free
pub record Installed {D : Type 0} (tell : D → Option (List (List ℕ))) (base : ℕ) (p : Program) (old new : Parts D) : Type 0 where
  pub dictionary : (st : Shelf) → IsShelf old.table st → DictionaryIs new.core base p st.free
  pub shelf : (st : Shelf) → IsShelf old.table st → IsShelf new.table (stocked (program_objects base p) st)
  pub stocks : (st : Shelf) → IsShelf old.table st → Changes tell old.device new.device (WritesFreeSectors (program_objects base p) st.free)
  pub left : new.table.free + sectors_of_program p ≡ old.table.free
