-- A listing as the loader keeps it.
use Rattle.std.specs.Prelude.{◌≡◌, ℕ, ◌^◌, ◌<◌, Bool, false, List, Result, Ok, Err, IfSome, slice_index_or}
use Rattle.std.specs.List.{AllByRecursion}
use Rattle.b67_word.specs.declared.couples.Place.{Place}
use Rattle.b67_model.specs.declared.operators.Op.{Op}
use Rattle.b67_model.specs.declared.operators.Undecodable.{Undecodable}
use Rattle.b67_model.specs.Common.{count_at, At, Break, place_of_entry, couple_bits, is_start}
use Rattle.b67_model.specs.Loader as loader
use Rattle.b67_load.specs.declared.entry.Entry.{Entry}

-- what is read at a place
abbrev pub entry_of_read : Place → Result Op Undecodable → loader.Entry
entry_of_read place (Ok op) = At place op
entry_of_read place (Err why) = Break place why

abbrev pub seen : Entry → loader.Entry
seen e = entry_of_read e.place e.read

-- a couple has 14 bits
abbrev pub CoupleFits : Op → Type 0
CoupleFits op = IfSome (couple_bits op) (λ bits. bits < 2 ^ 14)

abbrev pub CouplesFit : loader.Entry → Type 0
CouplesFit (At place op) = CoupleFits op
CouplesFit (Break place why) = Unit {0}

-- an entry of a listing of this many words
pub record IsInside (words : ℕ) (e : loader.Entry) : Type 0 where
  pub word : (place_of_entry e).word < words
  pub syllable : (place_of_entry e).syllable < 6

-- the marks of a listing's starts, six to a word
pub record Marks (starts : List Bool) (entries : List loader.Entry) : Type 0 where
  pub at : (place : Place) → place.syllable < 6 → slice_index_or starts (count_at place) false ≡ is_start entries place

-- what a listing keeps
pub record IsListing (starts : List Bool) (entries : List loader.Entry) : Type 0 where
  pub marks : Marks starts entries
  pub couples : AllByRecursion CouplesFit entries
