-- The number of twelve hexadecimal digits has 48 bits.
use Rattle.std.proofs.Common.{◌≡◌, ℕ, zero, suc, ◌+◌, ◌*◌, ◌-◌, ◌^◌, ◌<◌, ◌≤◌, List, [], ◌∷◌, length, take, subst, arith}
use Rattle.std.specs.Prelude.{fold}
use Rattle.std.proofs.lemmas.List.{length-take}
use Rattle.b67_model_text.specs.Hex.{digit_value}
use Rattle.b67_model_text.specs.Statements.{digit_bits}

digit_small : (c : ℕ) → digit_value c < 16
digit_small c = grind arith

-- how many numbers so many digits have
abbrev count : ℕ → ℕ
count zero = 1
count (suc n) = 16 * count n

counts_grow : (more n m : ℕ) → m ≡ more + n → count n ≤ count m
counts_grow zero n m e = let same : n ≡ m = omega (arith, e) in subst (λ (k : ℕ). count n ≤ count k) same (omega arith)
counts_grow (suc more) n zero e = absurd (omega (arith, e))
counts_grow (suc more) n (suc m) e = let rest = counts_grow more n m (omega (arith, e)) in omega (arith, rest)

all_below : (digits : List ℕ) (before n high : ℕ) → before < count n → length digits + n ≤ high → fold (λ n d. 16 * n + digit_value d) before digits < count high
all_below [] before n high low few =
    let grows = most n high few in
    omega (arith, low, grows)
  where
    most : (n high : ℕ) → 0 + n ≤ high → count n ≤ count high
    most n high few = counts_grow (high - n) n high (omega (arith, few))
all_below (d ∷ digits) before n high low few =
    let small = digit_small d in
    all_below digits (16 * before + digit_value d) (suc n) high (omega (arith, low, small)) (omega (arith, few))

pub bits_below : (digits : List ℕ) (i : ℕ) → length digits ≤ 12 → digit_bits (take i digits) < 2 ^ 48
bits_below digits i few = all_below (take i digits) 0 0 12 (omega arith) (omega (arith, few, length-take i digits))
