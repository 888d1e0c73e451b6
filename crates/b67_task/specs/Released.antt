-- What is left of a storage where arrays were released.
use Rattle.std.specs.Prelude.{◌≡◌, ◌≢◌, ℕ, ◌+◌, ◌<◌, ◌≤◌, ◌==◌, List, [], length, Option, Some, None, slice_get, if◌then◌else◌}
use Rattle.b67_word.specs.Tagged.{Tagged}
use Rattle.b67_ctl.specs.declared.map.TheConstants.{DIRECTORY}
use Rattle.b67_area.specs.declared.Info.{Info}
use Rattle.b67_area.specs.Spans.{Span, without, area_at}
use Rattle.b67_area.specs.Directory.{IsDirectory}
use Rattle.b67_area.specs.declared.Kind.TheVariants.{Code}
use Rattle.b67_backing.specs.Shelf.{Shelf, given, chain_of}
use Rattle.b67_ctl.specs.declared.descriptors.DataDesc.{DataDesc}
use Rattle.b67_lemmas.specs.Lists.{Has}
use Rattle.b67_stack.specs.Common.{Location, IsOriginal, nowhere, PagedObject, MachineView, SlotFits, slot_base, is_present, address_or, Storage, with_held}

-- the spans without an area, if there is one, and a shelf where a chain is free, if there is one
abbrev pub without_area : ℕ → Option ℕ → List Span → List Span
without_area low None spans = spans
without_area low (Some at) spans = without low at spans

abbrev pub without_chain : ℕ → Shelf → Shelf
without_chain first shelf = if first == 0 then shelf else given first shelf

-- the storage where the area and the chain of an array are free
abbrev pub storage_released : Storage → PagedObject → Storage
storage_released x t = record x {
  held = with_held x.held t.home nowhere;
  spans = without_area x.low (x.held t.home).area x.spans;
  shelf = without_chain (x.held t.home).chain x.shelf;
}

-- the view with these objects
abbrev pub of_objects : MachineView → List PagedObject → MachineView
of_objects p objects = record p { objects = objects }

-- the objects but for one, which no word of a stack is a copy of
pub record Drops (p : MachineView) (t : PagedObject) (objects : List PagedObject) : Type 0 where
  pub there : Has p.objects t
  pub fewer : (u : PagedObject) → Has objects u → Has p.objects u × (u.home ≢ t.home)
  pub rest : (u : PagedObject) → Has p.objects u → u.home ≢ t.home → Has objects u
  pub fits : (k : ℕ) → k < p.peak → SlotFits (of_objects p objects) k (p.slots k)

-- the fields of an original by which its array is found: it is held so, and its area's tail says its chain
pub record LocatesArray (low : ℕ) (spans : List Span) (h : Location) (original : DataDesc) : Type 0 where
  pub present : original.present ≡ is_present h.area
  pub address : original.address ≡ address_or h.area h.chain
  pub area : (at : ℕ) → h.area ≡ Some at → (a : Info) × (area_at low spans at ≡ Some a) × (a.kept ≡ h.chain)

-- the words below the areas are as they were, but for the directory's
abbrev pub SameBelow : ℕ → List Tagged → List Tagged → Type 0
SameBelow low core new = (i : ℕ) → i < low → i ≢ DIRECTORY → slice_get new i ≡ slice_get core i

-- an area, if there is one, is a hole, and all other areas and words are as they were
pub record Vacated (low : ℕ) (area : Option ℕ) (spans : List Span) (core new : List Tagged) : Type 0 where
  pub directory : IsDirectory new low (without_area low area spans)
  pub below : SameBelow low core new
  pub bodies : (b : ℕ) (i : Info) → area_at low (without_area low area spans) b ≡ Some i → (q : ℕ) → b ≤ q → q < b + i.words → slice_get new q ≡ slice_get core q
  pub gone : (b : ℕ) (i : Info) → area_at low (without_area low area spans) b ≡ Some i → (area_at low spans b ≡ Some i) × (area ≢ Some b)
  pub stays : (b : ℕ) (i : Info) → area_at low spans b ≡ Some i → area ≢ Some b → area_at low (without_area low area spans) b ≡ Some i
  pub size : length new ≡ length core

-- the homes of objects
abbrev pub HasHome : List PagedObject → ℕ → Type 0
HasHome left home = (t : PagedObject) × Has left t × (t.home ≡ home)

-- the arrays of some homes, and no others, are nowhere: their chains are free, and all other chains are as they were
pub record Released (Gone : ℕ → Type 0) (x y : Storage) : Type 0 where
  pub low : y.low ≡ x.low
  pub device : y.device ≡ x.device
  pub others : (home : ℕ) → (Gone home → ⊥) → y.held home ≡ x.held home
  pub nowhere : (home : ℕ) → Gone home → y.held home ≡ nowhere
  pub free : (home : ℕ) → Gone home → chain_of (x.held home).chain y.shelf.chains ≡ []
  pub chains : (first : ℕ) → ((home : ℕ) → Gone home → (x.held home).chain ≢ first) → chain_of first y.shelf.chains ≡ chain_of first x.shelf.chains
  pub no_more : (first : ℕ) → chain_of first x.shelf.chains ≡ [] → chain_of first y.shelf.chains ≡ []

-- arrays are left in a part of a stack's slot: its originals are theirs, no object of the view has an original of them,
-- and no word of a stack is a copy of them
pub record AreLeft (p : MachineView) (core : List Tagged) (from upto : ℕ) (left : List PagedObject) : Type 0 where
  pub low : p.stacks ≤ from
  pub high : upto ≤ slot_base p p.peak
  pub each : (i : ℕ) (w : Tagged) → from ≤ i → i < upto → slice_get core i ≡ Some w → IsOriginal w → HasHome left i
  pub among : (t : PagedObject) → Has left t → (from ≤ t.home) × (t.home < upto)
  pub arrays : (t : PagedObject) → Has left t → t.kind ≢ Code
  pub alone : (t u : PagedObject) → Has left t → Has p.objects u → u.home ≢ t.home
  pub fits : (k : ℕ) → k < p.peak → SlotFits p k (p.slots k)

-- what is still left when some are gone
pub record SomeRemain (Gone : ℕ → Type 0) (x y : Storage) (p : MachineView) (old new : List Tagged) (next upto : ℕ) (left rest : List PagedObject) : Type 0 where
  pub released : Released Gone x y
  pub among : (t : PagedObject) → Has rest t → Has left t
  pub others : (t : PagedObject) → Has left t → next ≤ t.home → Has rest t
  pub still : AreLeft p new next upto rest
  pub below : SameBelow x.low old new
