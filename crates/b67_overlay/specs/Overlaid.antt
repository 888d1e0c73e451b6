-- What an area leaves that is given back.
use Rattle.std.specs.Prelude.{◌≡◌, ◌≢◌, ℕ, ◌<◌, ◌==◌, ◌⊎◌, List, [], length, Option, None, if◌then◌else◌}
use Rattle.b67_area.specs.Spans.{without}
use Rattle.b67_area.specs.declared.Kind.TheVariants.{Array}
use Rattle.b67_backing.specs.Shelf.{Shelf, first, taken, chain_of}
use Rattle.b67_backing.specs.Held.{sectors_for}
use Rattle.b67_lemmas.specs.Lists.{Has}
use Rattle.b67_stack.specs.Common.{PagedObject, MachineView, Storage, HoldsIn, with_held, ChainStays}
use Rattle.b67_layout.specs.Machine.{content_after}

-- the first sector of the chain to which so many words go, and the shelf then: the chain that is kept, or a new one
abbrev pub chain_out : Shelf → ℕ → ℕ
chain_out shelf kept = if kept == 0 then first shelf.free else kept

abbrev pub shelf_out : Shelf → ℕ → ℕ → Shelf
shelf_out shelf kept words = if kept == 0 then taken (sectors_for words) shelf else shelf

abbrev pub sectors_out : Shelf → ℕ → ℕ → List ℕ
sectors_out shelf kept words = chain_of (chain_out shelf kept) (shelf_out shelf kept words).chains

-- the storage where the device now tells this
abbrev pub retelling : Storage → Option (List (List ℕ)) → Storage
retelling x told = record x { device = content_after x.device told }

-- the storage where the area of an object is a hole and its words are in sectors
abbrev pub overlaid : Storage → PagedObject → ℕ → Option (List (List ℕ)) → Storage
overlaid x t at told = record x {
  held = with_held x.held t.home (record { area = None; chain = chain_out x.shelf (x.held t.home).chain });
  spans = without x.low at x.spans;
  shelf = shelf_out x.shelf (x.held t.home).chain (length t.numbers);
  device = content_after x.device told;
}

-- sectors in which an object's words are, in the chain of this first one, and every other object's where they were
pub record IsOut (x y : Storage) (p : MachineView) (t : PagedObject) (first : ℕ) : Type 0 where
  pub holds : HoldsIn y t first
  pub others : (u : PagedObject) → Has p.objects u → u.home ≢ t.home → ChainStays x y (x.held u.home).chain
  pub chains : (f : ℕ) → 0 < length (chain_of f y.shelf.chains) → (f ≡ first) ⊎ ((0 < length (chain_of f x.shelf.chains)) × (f ≢ (x.held t.home).chain))
  pub no_zero : chain_of 0 y.shelf.chains ≡ []
  pub own : (u : PagedObject) → Has p.objects u → u.home ≢ t.home → (x.held u.home).chain ≢ first

-- the storage where an object is in those sectors alone
abbrev pub dropped : Storage → Storage → PagedObject → ℕ → ℕ → Storage
dropped x y t at first = record x {
  held = with_held x.held t.home (record { area = None; chain = first });
  spans = without x.low at x.spans;
  shelf = y.shelf;
  device = y.device;
}

-- an array that keeps no chain, and fewer sectors are free than it needs
pub record IsShort (x : Storage) (t : PagedObject) : Type 0 where
  pub kind : t.kind ≡ Array
  pub none : (x.held t.home).chain ≡ 0
  pub few : length x.shelf.free < sectors_for (length t.numbers)
