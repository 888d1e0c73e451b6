-- Objects that are in sectors alone.
use Rattle.std.specs.Prelude.{◌≡◌, ℕ, ◌+◌, ◌*◌, ◌^◌, ◌<◌, ◌≤◌, ◌⊎◌, List, [], ◌∷◌, length, map, take, drop, Some, slice_get}
use Rattle.b67_word.specs.Common.{Tagged, word, number}
use Rattle.b67_ctl.specs.declared.map.TheConstants.{MCP_STACK}
use Rattle.b67_backing.specs.Shelf.{Shelf, first, chain_of, taken}
use Rattle.b67_backing.specs.Held.{Fills, SameBut}
use Rattle.b67_lemmas.specs.Lists.{Has}
use Rattle.b67_model.specs.Program.{Program}
use Rattle.b67_stack.specs.Common.{at_rest, PagedObject, home_word, object_words}
use Rattle.b67_load.specs.Objects.{object_sectors, program_objects, entries_of}

-- an object and its sectors
pub record StoredObject : Type 0 where
  pub object : PagedObject
  pub chain : List ℕ

-- objects that take their sectors from free ones, one after the other
abbrev pub placed : List PagedObject → List ℕ → List StoredObject
placed [] free = []
placed (t ∷ more) free = record { object = t; chain = take (object_sectors t) free } ∷ placed more (drop (object_sectors t) free)

-- the sectors with a chain more for each
abbrev pub stocked : List PagedObject → Shelf → Shelf
stocked [] s = s
stocked (t ∷ more) s = stocked more (taken (object_sectors t) s)

-- the descriptor of an object that rests
abbrev pub descriptor : StoredObject → Tagged
descriptor r = home_word r.object (at_rest (first r.chain))

-- each one's descriptor stands in core
abbrev pub DescriptorsStand : List Tagged → List StoredObject → Type 0
DescriptorsStand core items = (r : StoredObject) → Has items r → slice_get core r.object.home ≡ Some (descriptor r)

-- the mark of a dictionary
abbrev pub dictionary_mark : Tagged
dictionary_mark = word 3 (2 ^ 47 + 2 ^ 46 + MCP_STACK * 2 ^ 36 + 1 * 2 ^ 14)

-- the dictionary of a program at base: its mark, the number of its entries, and a descriptor of each object
pub record DictionaryIs (core : List Tagged) (base : ℕ) (p : Program) (free : List ℕ) : Type 0 where
  pub mark : slice_get core base ≡ Some dictionary_mark
  pub entries : slice_get core (base + 1) ≡ Some (word 0 (entries_of p))
  pub descriptors : DescriptorsStand core (placed (program_objects base p) free)

-- each one's words lie in its chain
abbrev pub WordsRest : List (List ℕ) → List StoredObject → Type 0
WordsRest all items = (r : StoredObject) → Has items r → Fills all r.chain 0 (map number (object_words r.object))

-- the words were written to sectors that were free, and all other sectors hold what they held
pub record WritesFreeSectors (objects : List PagedObject) (free : List ℕ) (old new : List (List ℕ)) : Type 0 where
  pub same : SameBut free old new
  pub rest : WordsRest new (placed objects free)

-- no word outside of these is changed
abbrev pub SameOutside : ℕ → ℕ → List Tagged → List Tagged → Type 0
SameOutside from upto old new = (i : ℕ) → (i < from) ⊎ (upto ≤ i) → slice_get new i ≡ slice_get old i

-- the chains that were there stay, and no sector is free that wasn't
pub record KeepsChains (old new : Shelf) : Type 0 where
  pub chains : (x : ℕ) → 0 < length (chain_of x old.chains) → chain_of x new.chains ≡ chain_of x old.chains
  pub free : (n : ℕ) → Has new.free n → Has old.free n
