-- What the test of objects, areas and chains tells of a machine.
use Rattle.std.specs.Prelude.{ℕ, List}
use Rattle.b67_backing.specs.Shelf.{Shelf, IsShelf}
use Rattle.b67_backing.specs.Links.{links_in}
use Rattle.b67_lemmas.specs.Lists.{Has}
use Rattle.b67_stack.specs.Common.{PagedObject}
use Rattle.b67_task.specs.declared.tables.Machine.{Machine}
use Rattle.b67_layout_shown.specs.Machines.{sight_of}
use Rattle.b67_image_shape.specs.Held.{view_of}
use Rattle.b67_image_shape.specs.Items.{ObjectFacts, AreaFacts, ChainFacts}
use Rattle.b67_image_shape.specs.ObjectMarks.{AreMarked, AreKept, AreLong}

-- the objects that a machine shows, its areas and its chains are as they should be
pub record KeptFacts (k : Machine) : Type 0 where
  pub objects : (t : PagedObject) → Has (view_of k).objects t → ObjectFacts (sight_of k) t
  pub long : AreLong (view_of k).objects
  pub areas : AreaFacts (sight_of k) k.areas.low
  pub chains : ChainFacts k

-- by a table that marks these objects, the test tells just that
abbrev pub ObjectsAreTested : Type 0
ObjectsAreTested =
    (k : Machine) (kinds : List ℕ) (shelf : Shelf) → IsShelf k.sectors shelf → AreMarked k.cpu.core kinds (view_of k).objects
    → (AreKept k.cpu.core k.areas.low kinds (links_in k.sectors) → KeptFacts k) × (KeptFacts k → AreKept k.cpu.core k.areas.low kinds (links_in k.sectors))
