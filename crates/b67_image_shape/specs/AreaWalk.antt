-- The walk over areas and holes, from the lowest address up.
use Rattle.std.specs.Prelude.{◌≡◌, ◌⊎◌, ℕ, ◌+◌, ◌<◌, ◌≤◌, ◌^◌, Bool, true, false, List, [], ◌∷◌, length, Some, slice_get, slice_index_or}
use Rattle.b67_word.specs.Tagged.{Tagged, word, bits_at}
use Rattle.b67_ctl.specs.declared.map.TheConstants.{DIRECTORY, FIRST_DICTIONARY}
use Rattle.b67_area.specs.Words.{link_word, hole_high}
use Rattle.b67_area.specs.Spans.{Span, Area, Hole, end}
use Rattle.b67_area.specs.Directory.{NoHole, AreSpans, Laid}
use Rattle.b67_area.specs.Walk.{IsArea}
use Rattle.b67_layout_shown.specs.Reading.{word_seen_at}
use Rattle.b67_layout_shown.specs.Areas.{info_in}
use Rattle.b67_image_shape.specs.declared.areas.Walk.{Walk}
use Rattle.b67_image_shape.specs.Held.{spans_of}
use Rattle.b67_image_shape.specs.ObjectMarks.{AreaFits, AreasFit}

-- areas of spans that begin at an address are those of objects
abbrev pub OwnersFit : List Tagged → List ℕ → ℕ → List Span → Type 0
OwnersFit core kinds at [] = Unit {0}
OwnersFit core kinds at (Area a ∷ ss) = AreaFits core kinds (at + 1) a × OwnersFit core kinds (at + (a.words + 2)) ss
OwnersFit core kinds at (Hole n ∷ ss) = OwnersFit core kinds (at + n) ss

-- one of the areas has this owner
abbrev pub Houses : List Span → ℕ → Type 0
Houses [] i = ⊥
Houses (Area a ∷ ss) i = (a.owner ≡ i) ⊎ Houses ss i
Houses (Hole n ∷ ss) i = Houses ss i

-- these spans lie above a place of the walk
pub record LieAbove (core : List Tagged) (kinds : List ℕ) (w : Walk) (ss : List Span) : Type 0 where
  pub laid : Laid core w.before w.high w.at ss
  pub spans : AreSpans ss
  pub apart : w.hole ≡ true → NoHole ss
  pub all : end w.at ss ≡ length core
  pub owners : OwnersFit core kinds w.at ss

abbrev pub walk_from : ℕ → Walk
walk_from low = record { before = DIRECTORY; high = 0; at = low; hole = false }

abbrev pub IsHoused : List Bool → ℕ → Type 0
IsHoused housed i = slice_index_or housed i false ≡ true

-- the walk has come so far: what lies above now is what is left of all, and the owners of the areas so far are marked
pub record WalkedAreas (core : List Tagged) (kinds : List ℕ) (low : ℕ) (w : Walk) (housed : List Bool) : Type 0 where
  pub before : w.before < length core
  pub high : w.high < 2 ^ 28
  pub inside : w.at ≤ length core
  pub many : length housed ≡ length core
  pub on : (ss : List Span) → LieAbove core kinds w ss
      → (all : List Span) × LieAbove core kinds (walk_from low) all × ((i : ℕ) → Houses all i → IsHoused housed i ⊎ Houses ss i) × ((i : ℕ) → IsHoused housed i ⊎ Houses ss i → Houses all i)
  pub back : (all : List Span) → LieAbove core kinds (walk_from low) all → (ss : List Span) × LieAbove core kinds w ss

-- nothing lies above
abbrev pub NothingLies : List Tagged → List ℕ → Walk → Type 0
NothingLies core kinds w = (ss : List Span) → LieAbove core kinds w ss → ⊥

-- a hole of so many words stands at the place of the walk
abbrev pub hole_words : List Tagged → Walk → ℕ
hole_words core w = bits_at (word_seen_at core w.at) 20 26

pub record HoleStands (core : List Tagged) (w : Walk) : Type 0 where
  pub first : w.hole ≡ false
  pub some : 1 ≤ hole_words core w
  pub fits : w.at + hole_words core w ≤ length core
  pub link : slice_get core w.before ≡ Some (link_word w.high w.at)

abbrev pub past_hole : List Tagged → Walk → Walk
past_hole core w = record { before = w.at; high = hole_high (hole_words core w); at = w.at + hole_words core w; hole = true }

-- an area of an object stands there
pub record AreaStands (core : List Tagged) (kinds : List ℕ) (at : ℕ) : Type 0 where
  pub area : IsArea core at (info_in core at)
  pub fits : AreaFits core kinds (at + 1) (info_in core at)

abbrev pub past_area : List Tagged → Walk → Walk
past_area core w = record { before = w.before; high = w.high; at = w.at + ((info_in core w.at).words + 2); hole = false }

abbrev pub AreZeros : List Tagged → Type 0
AreZeros core = (i : ℕ) → DIRECTORY < i → i < FIRST_DICTIONARY → slice_get core i ≡ Some (word 0 0)

-- the directory was walked, and the owners of all areas are marked
pub record AreasWalked (core : List Tagged) (low : ℕ) (kinds : List ℕ) (housed : List Bool) : Type 0 where
  pub fit : AreasFit core low kinds
  pub many : length housed ≡ length core
  pub marked : (i : ℕ) → Houses (spans_of core low) i → IsHoused housed i
  pub only : (i : ℕ) → IsHoused housed i → Houses (spans_of core low) i
