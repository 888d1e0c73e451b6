-- Skipping one item after the other, as a loop does, and the numbers for READ.
use Rattle.std.proofs.Common.{◌≡◌, ℕ, suc, ◌-◌, ◌+◌, ◌≤◌, ◌<◌, List, Some, None, refl, sym, ap, ◌∙◌, arith}
use Rattle.std.specs.Prelude.{Option, ℤ, nat_abs, pos, negsuc}
use Rattle.std.specs.Int.{w64}
use mir.Val.{SFits}
use Rattle.b67_image.specs.Shape.{Skip, skipped_many}
use Rattle.b67_model.specs.declared.limits.TheConstants.{GREATEST}

-- what is left to skip of a count of items comes to where the whole count does
pub record SkipsOn (skip : Skip) (count i : ℕ) (bytes : List ℕ) (total : Option (List ℕ)) : Type 0 where
  pub so_far : skipped_many skip (count - i) bytes ≡ total

pub skips_first : (skip : Skip) (count : ℕ) (bytes : List ℕ) → SkipsOn skip count 0 bytes (skipped_many skip count bytes)
skips_first skip count bytes = record { so_far = ap (λ (n : ℕ). skipped_many skip n bytes) (omega arith) }

pub skips_on : (skip : Skip) (count i : ℕ) (bytes after : List ℕ) (total : Option (List ℕ)) → i < count → skip bytes ≡ Some after → SkipsOn skip count i bytes total → SkipsOn skip count (i + 1) after total
unfolding skipped_many
skips_on skip count i bytes after total lt h c =
    let k : count - i ≡ suc (count - (i + 1)) = omega arith in
    let one : skipped_many skip (count - i) bytes ≡ skipped_many skip (count - (i + 1)) after = rw (k, h) refl in
    record { so_far = sym one ∙ c.so_far }

pub skips_none : (skip : Skip) (count i : ℕ) (bytes : List ℕ) (total : Option (List ℕ)) → i < count → skip bytes ≡ None → SkipsOn skip count i bytes total → total ≡ None
unfolding skipped_many
skips_none skip count i bytes total lt h c =
    let k : count - i ≡ suc (count - (i + 1)) = omega arith in
    let one : skipped_many skip (count - i) bytes ≡ None = rw (k, h) refl in
    sym c.so_far ∙ one

pub skips_end : (skip : Skip) (count i : ℕ) (bytes : List ℕ) (total : Option (List ℕ)) → count ≤ i → SkipsOn skip count i bytes total → total ≡ Some bytes
unfolding skipped_many
skips_end skip count i bytes total le c =
    let k : count - i ≡ 0 = omega arith in
    let one : skipped_many skip (count - i) bytes ≡ Some bytes = rw k refl in
    sym c.so_far ∙ one

-- ---- a number for READ

pub small_fits : (z : ℤ) → nat_abs z ≤ GREATEST → SFits w64 z
small_fits (pos n) le = record { sfits = omega arith }
small_fits (negsuc n) le = record { sfits = omega arith }
