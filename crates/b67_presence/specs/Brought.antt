-- Objects that are brought into core.
use Rattle.std.specs.Prelude.{◌≡◌, ◌≢◌, ℕ, ◌+◌, ◌<◌, ◌≤◌, ◌⊎◌, List, length, Option, Some, None, slice_get, option_map, Result, OnOk, IsOk}
use Rattle.b67_word.specs.Tagged.{Tagged, word}
use Rattle.b67_word.specs.declared.faults.Failed.{Failed}
use Rattle.b67_area.specs.Spans.{address, spot, fill, fresh, keeping}
use Rattle.b67_backing.specs.Shelf.{Table, Shelf, HasChain, chain_of}
use Rattle.b67_backing.specs.Held.{AreTagged, Holds, sectors_for, under}
use Rattle.b67_stack.specs.Common.{PagedObject, Storage, tag_of, with_held}
use Rattle.b67_layout.specs.Machine.{AreBits}
use Rattle.b67_presence.specs.declared.paging.AbsentObject.{AbsentObject}

-- the storage with an absent object in an area at that address: the front of the lowest hole with room for it
abbrev pub brought : Storage → PagedObject → ℕ → Storage
brought x t at = record x {
  held = with_held x.held t.home (record { area = Some at; chain = (x.held t.home).chain });
  spans = keeping x.low at (x.held t.home).chain (fill (fresh t.kind (length t.numbers) t.home) x.spans);
}

abbrev pub IsSpot : Storage → PagedObject → ℕ → Type 0
IsSpot x t at = address (spot (length t.numbers + 2) x.low x.spans) ≡ Some at

-- the numbers of an absent object are known: it is an array that was never touched, or the device tells them
abbrev pub NumbersAreKnown : Storage → PagedObject → Type 0
NumbersAreKnown x t = ((x.held t.home).chain ≡ 0) ⊎ ((x.device ≢ None) × AreBits t.numbers)

-- what the descriptor of an absent object says
abbrev pub resting : Storage → PagedObject → AbsentObject
resting x t = record { kind = t.kind; words = length t.numbers; first = (x.held t.home).chain }

-- words that were read are those that sectors hold, by their low 48 bits
abbrev pub ReadFromChain : Option (List (List ℕ)) → Table → ℕ → ℕ → ℕ → ℕ → List Tagged → Type 0
ReadFromChain told table first at words tag core =
    (st : Shelf) → HasChain table st first (sectors_for words) → (all : List (List ℕ)) → told ≡ Some all
    → (ns : List ℕ) → length ns ≡ words → Holds all (chain_of first st.chains) 0 ns
    → (i : ℕ) → i < words → slice_get core (at + i) ≡ option_map (under tag) (slice_get ns i)

-- what the words of an area are after those of an absent object came in: zeros if it was never touched
pub record Loaded (told : Option (List (List ℕ))) (table : Table) (at : ℕ) (object : AbsentObject) (new : List Tagged) : Type 0 where
  pub reads : object.first ≢ 0 → ReadFromChain told table object.first at object.words (tag_of object.kind) new
  pub zeros : object.first ≡ 0 → (i : ℕ) → at ≤ i → i < at + object.words → slice_get new i ≡ Some (word 0 0)
  pub tagged : object.first ≢ 0 → AreTagged new at object.words (tag_of object.kind)

-- the words of an absent object are put into an area; one that was never touched never fails and calls no device
pub record FillsArea {D : Type 0} (told : Option (List (List ℕ))) (table : Table) (at : ℕ) (object : AbsentObject) (result : Result (Unit {0}) Failed) (new : List Tagged) (before after : D) : Type 0 where
  pub loaded : OnOk result (Loaded told table at object new)
  pub untouched : object.first ≡ 0 → IsOk result × (after ≡ before)
