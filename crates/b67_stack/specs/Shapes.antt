-- What a word of a stack represents, and when a word of core is such a word.
use Rattle.std.specs.Prelude.{◌≡◌, ◌≢◌, ℕ, Bool, true, false, ◌+◌, ◌<◌, ◌^◌, List, [], ◌∷◌, length, Option, Some, None, MatchBool, slice_get, None}
use Rattle.b67_word.specs.Tagged.{Tagged}
use Rattle.b67_ctl.specs.declared.descriptors.DataDesc.{DataDesc}
use Rattle.b67_ctl.specs.Descriptors.{data_word, IsDataDesc}

-- where the numbers of an array, a data row or a segment are: in the area at an address, and in the chain of sectors
-- that begins with this one, 0 for none
pub record Location : Type 0 where
  pub area : Option ℕ
  pub chain : ℕ

-- how all of them are held, by the addresses of their originals and segment descriptors
abbrev pub Locations : Type 0
Locations = ℕ → Location

-- a copy of an array's descriptor, but for its address: an element copy has an index, a row copy none
pub record Copied : Type 0 where
  pub index : Option ℕ
  pub read_only : Bool

pub data Shape : Type 0 where
  -- a word that is no data descriptor
  Is : (w : Tagged) → Shape
  -- the original of the array that is known by this address
  Original : (home : ℕ) → Shape
  -- a copy of it
  Copy : (copied : Copied) (home : ℕ) → Shape

abbrev pub is_indexed : Option ℕ → Bool
is_indexed None = false
is_indexed (Some index) = true

-- what the length field of a copy says: the index, or any length, since the array's own may have changed since
abbrev pub IsNumber : Option ℕ → ℕ → Type 0
IsNumber None number = (0 < number) × (number < 2 ^ 16)
IsNumber (Some index) number = number ≡ index

abbrev pub copy_desc : Copied → ℕ → Bool → ℕ → DataDesc
copy_desc c number present address = record { present = present; copy = true; indexed = is_indexed c.index; read_only = c.read_only; length = number; address = address }

-- an original's word. Which array's it is, and where that is, tells the list of objects
pub record IsOriginal (w : Tagged) : Type 0 where
  pub desc : DataDesc
  pub fits : IsDataDesc desc
  pub own : desc.copy ≡ false
  pub is : w ≡ data_word desc

-- a present copy has the address of its array's area, an absent one that of the original
pub record IsCopy (held : Locations) (c : Copied) (home : ℕ) (w : Tagged) : Type 0 where
  pub number : ℕ
  pub numbered : IsNumber c.index number
  pub present : Bool
  pub address : ℕ
  pub fits : IsDataDesc (copy_desc c number present address)
  pub is : w ≡ data_word (copy_desc c number present address)
  pub to : MatchBool present ((held home).area ≡ Some address) (address ≡ home)

-- a word at a core address is that of a shape
abbrev pub Fits : Locations → Shape → ℕ → Tagged → Type 0
Fits held (Is v) at w = (w ≡ v) × (v.tag ≢ 5)
Fits held (Original home) at w = (at ≡ home) × IsOriginal w
Fits held (Copy c home) at w = IsCopy held c home w

-- words of these shapes, given from the top down, lie in core from an address up
abbrev pub LieDownward : (Shape → ℕ → Tagged → Type 0) → List Tagged → ℕ → List Shape → Type 0
LieDownward R core from [] = Unit {0}
LieDownward R core from (a ∷ more) =
    ((w : Tagged) × (slice_get core (from + length more) ≡ Some w) × R a (from + length more) w) × LieDownward R core from more

-- the same, given from the address up, as the plain words that they are
abbrev pub LieUpward : List Tagged → ℕ → List Tagged → Type 0
LieUpward core at [] = Unit {0}
LieUpward core at (w ∷ ws) = (slice_get core at ≡ Some w) × LieUpward core (at + 1) ws

-- in no area and in no chain
abbrev pub nowhere : Location
nowhere = record { area = None; chain = 0 }

-- absent from core, in the chain that begins with a sector
abbrev pub at_rest : ℕ → Location
at_rest sector = record { area = None; chain = sector }
