-- The bytes of a file, and its sectors.
use Rattle.std.specs.Prelude.{◌≡◌, ◌≢◌, ◌⊎◌, ℕ, zero, suc, ◌+◌, ◌-◌, ◌<◌, ◌≤◌, ◌==◌, if◌then◌else◌, List, [], ◌∷◌, ◌++◌, length, take, replicate, Option, Some, None, slice_index}
use Rattle.byteorder.specs.Endian.{big_from}

-- these bytes lie in a file from a place on
pub record LiesAt (at : ℕ) (part bytes : List ℕ) : Type 0 where
  pub inside : at + length part ≤ length bytes
  pub is : (i : ℕ) → i < length part → slice_index bytes (at + i) ≡ slice_index part i

-- the bytes but for so many from a place on are what they were
pub record SameBytesBut (at n : ℕ) (old new : List ℕ) : Type 0 where
  pub count : length new ≡ length old
  pub others : (i : ℕ) → (i < at) ⊎ (at + n ≤ i) → slice_index new i ≡ slice_index old i

-- a write within the file changed so many bytes from a place on at most
pub record Overwrites (at n : ℕ) (old new : List ℕ) : Type 0 where
  pub within : at + n ≤ length old → SameBytesBut at n old new

-- a write within the file put these bytes at a place
pub record Puts (at : ℕ) (part old new : List ℕ) : Type 0 where
  pub within : at + length part ≤ length old → LiesAt at part new

-- the bytes cut or filled up with zeros to a length
abbrev pub of_length : ℕ → List ℕ → List ℕ
of_length n bytes = take n bytes ++ replicate (n - length bytes) zero

-- bytes that are changed only if there were none
pub record KeepsBytes (old new : List ℕ) : Type 0 where
  pub kept : length old ≢ 0 → new ≡ old

-- so many numbers of eight bytes each, the highest byte first, from a place on
unfoldable pub numbers_from : ℕ → ℕ → List ℕ → List ℕ
numbers_from zero at bytes = []
numbers_from (suc n) at bytes = big_from at 8 bytes ∷ numbers_from n (at + 8) bytes

-- so many sectors of 30 numbers each, from a place on
unfoldable pub sectors_from : ℕ → ℕ → List ℕ → List (List ℕ)
sectors_from zero at bytes = []
sectors_from (suc n) at bytes = numbers_from 30 at bytes ∷ sectors_from n (at + 240) bytes

-- the 65,536 sectors of a file that tells its bytes and has the full length
unfoldable pub told_sectors : Option (List ℕ) → Option (List (List ℕ))
told_sectors None = None
told_sectors (Some bytes) = if length bytes == 15728640 then Some (sectors_from 65536 0 bytes) else None

-- the same of a file that may be missing
unfoldable pub file_sectors : {F : Type 0} → (F → Option (List ℕ)) → Option F → Option (List (List ℕ))
file_sectors tell None = None
file_sectors tell (Some file) = told_sectors (tell file)
