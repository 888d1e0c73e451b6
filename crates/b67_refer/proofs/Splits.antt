-- The tables by which a couple is split.
use Rattle.std.proofs.Common.{◌≡◌, ℕ, zero, suc, ◌+◌, ◌-◌, ◌*◌, ◌/◌, ◌%◌, ◌^◌, ◌<◌, ◌≤◌, true, eqb, leb, get_or, bit_and, refl, sym, ◌∙◌, ap, arith, subst}
use Rattle.std.proofs.lemmas.Bool.{agree_below_at, eqb-true, leb-true}
use Rattle.std.proofs.lemmas.Nat.{and_mask, shl-shr, shr-shr}
use Rattle.b67_word.specs.declared.couples.Couple.{Couple}
use Rattle.b67_word.specs.Operands.{bit}
use Rattle.b67_word.specs.Couples.{couple, level_bits, level_of}
use Rattle.b67_refer.specs.declared.couples.TheConstants.{REVERSED, LEVELS, DISPS}

-- the level's bits are the five upper ones
same_bit : (bits more : ℕ) → bit (9 + more) (bits / 2 ^ 9 * 2 ^ 9) ≡ bit (9 + more) bits
same_bit bits more = ap (λ (n : ℕ). n % 2)
    (sym (shr-shr (bits / 2 ^ 9 * 2 ^ 9) 9 more) ∙ ap (λ (n : ℕ). n / 2 ^ more) (shl-shr (bits / 2 ^ 9) 9) ∙ shr-shr bits 9 more)

same_level : (bits many : ℕ) → many ≤ 5 → level_of many (bits / 2 ^ 9 * 2 ^ 9) ≡ level_of many bits
same_level bits zero few = refl
same_level bits (suc i) few =
    let at : 13 - i ≡ 9 + (4 - i) = omega (arith, few) in
    let B : ℕ → Type 0 = λ j. bit j (bits / 2 ^ 9 * 2 ^ 9) ≡ bit j bits in
    let b : bit (13 - i) (bits / 2 ^ 9 * 2 ^ 9) ≡ bit (13 - i) bits = subst B (sym at) (same_bit bits (4 - i)) in
    ap (λ (n : ℕ). n + bit (13 - i) (bits / 2 ^ 9 * 2 ^ 9) * 2 ^ i) (same_level bits i (omega (arith, few)))
    ∙ ap (λ (n : ℕ). level_of i bits + n * 2 ^ i) b

-- each pair of a running level and five upper bits
level_told : (i : ℕ) → i < 1024 → bit_and (get_or REVERSED (i % 32) 0) (get_or LEVELS (i / 32) 0) ≡ level_of (level_bits (i / 32)) (i % 32 * 2 ^ 9)
level_told i low = eqb-true _ _
    (agree_below_at (λ (k : ℕ). eqb (bit_and (get_or REVERSED (k % 32) 0) (get_or LEVELS (k / 32) 0)) (level_of (level_bits (k / 32)) (k % 32 * 2 ^ 9))) (λ (k : ℕ). true) 1024 i refl low)

few_told : (level : ℕ) → level < 32 → get_or DISPS level 0 ≡ 2 ^ (14 - level_bits level) - 1
few_told level low = eqb-true _ _ (agree_below_at (λ (k : ℕ). eqb (get_or DISPS k 0) (2 ^ (14 - level_bits k) - 1)) (λ (k : ℕ). true) 32 level refl low)

bits_few : (level : ℕ) → level < 32 → level_bits level ≤ 5
bits_few level low = leb-true _ _ (agree_below_at (λ (k : ℕ). leb (level_bits k) 5) (λ (k : ℕ). true) 32 level refl low)

pub level_is : (bits level : ℕ) → bits < 2 ^ 14 → level < 32 → bit_and (get_or REVERSED (bits / 2 ^ 9) 0) (get_or LEVELS level 0) ≡ level_of (level_bits level) bits
level_is bits level small low =
    let i = level * 32 + bits / 2 ^ 9 in
    let under : i < 1024 = omega (arith, small, low) in
    let first : i / 32 ≡ level = omega (arith, small) in
    grind (arith, level_told, same_level, bits_few)

pub disp_is : (bits level : ℕ) → level < 32 → bit_and bits (get_or DISPS level 0) ≡ bits % 2 ^ (14 - level_bits level)
disp_is bits level low = ap (bit_and bits) (few_told level low) ∙ and_mask bits (14 - level_bits level)

pub split : (bits level : ℕ) → bits < 2 ^ 14 → level < 32
    → ◌≡◌ {A = Couple} (record { level = bit_and (get_or REVERSED (bits / 2 ^ 9) 0) (get_or LEVELS level 0); disp = bit_and bits (get_or DISPS level 0) }) (couple bits level)
split bits level small low = λ i. record { level = level_is bits level small low i; disp = disp_is bits level low i }
