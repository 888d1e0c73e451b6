-- Storages and views in which one object is held otherwise.
use Rattle.std.specs.Prelude.{◌≡◌, ◌≢◌, ℕ, slice_get, ◌<◌, ◌≤◌, ◌==◌, ◌⊎◌, List, map, if◌then◌else◌, ◌^◌, length}
use Rattle.b67_word.specs.Tagged.{Tagged}
use Rattle.b67_ctl.specs.declared.map.TheConstants.{DIRECTORY, FIRST_DICTIONARY}
use Rattle.b67_lemmas.specs.Lists.{Has}
use Rattle.b67_stack.specs.MachineView.{PagedObject, MachineView}
use Rattle.b67_backing.specs.Shelf.{chain_of}
use Rattle.b67_stack.specs.Shapes.{Location, Locations}
use Rattle.b67_stack.specs.Represents.{Storage, Told}

-- the view with other numbers in the object of a home
abbrev pub renumber : ℕ → List ℕ → PagedObject → PagedObject
renumber home ns t = if t.home == home then record t { numbers = ns } else t

abbrev pub renumbered : MachineView → ℕ → List ℕ → MachineView
renumbered p home ns = record p { objects = map (renumber home ns) p.objects }

-- the words below the slots that are neither the directory's nor descriptors are as they were
abbrev pub LowWordsStayed : MachineView → List Tagged → List Tagged → Type 0
LowWordsStayed p core new =
    (i : ℕ) → i < p.stacks → (i < DIRECTORY) ⊎ (FIRST_DICTIONARY ≤ i) → ((t : PagedObject) → Has p.objects t → t.home ≢ i) → slice_get new i ≡ slice_get core i

-- how all objects are held where that at a home is held so
abbrev pub with_held : Locations → ℕ → Location → Locations
with_held held home h = λ q. if q == home then h else held q

-- the chain of a first sector is the same in another storage, and holds what it held, as far as that is told
pub record ChainStays (x y : Storage) (first : ℕ) : Type 0 where
  pub chain : chain_of first y.shelf.chains ≡ chain_of first x.shelf.chains
  pub told : (ns : List ℕ) → Told x.device (chain_of first x.shelf.chains) ns → Told y.device (chain_of first x.shelf.chains) ns

-- of the objects one was replaced by another one of the same home and kind
pub record TakesPlace (objects objects' : List PagedObject) (t t' : PagedObject) : Type 0 where
  pub home : t'.home ≡ t.home
  pub kind : t'.kind ≡ t.kind
  pub some : 0 < length t'.numbers
  pub few : length t'.numbers < 2 ^ 16
  pub new : Has objects' t'
  pub each : (u : PagedObject) → Has objects' u → (u ≡ t') ⊎ (Has objects u × (u.home ≢ t.home))
  pub kept : (u : PagedObject) → Has objects u → u.home ≢ t.home → Has objects' u
