-- Bounds of bits.
use Rattle.std.proofs.Common.{◌≡◌, ℕ, ◌+◌, ◌-◌, ◌*◌, ◌/◌, ◌%◌, ◌^◌, ◌<◌, ◌≤◌, arith, refl, sym, ◌∙◌, ap}
use Rattle.std.proofs.lemmas.Nat.{pow-add, pow_pos, shr_below, shr_split, mod_below, mul-add-lt, shl_whole, one_shl}
use Rattle.std.proofs.Math.Nat.{mul-le-mul_right}
use Rattle.b67_word.specs.Tagged.{IsWord, word}

pub is_word : (bits : ℕ) → bits < 2 ^ 48 → IsWord (word 0 bits)
is_word bits small = record { tag = omega arith; bits = small }

-- 48 bits in two parts
whole : (n : ℕ) → n ≤ 48 → 2 ^ (48 - n) * 2 ^ n ≡ 2 ^ 48
whole n h =
    let sum : 48 - n + n ≡ 48 = omega arith in
    sym (pow-add 2 (48 - n) n) ∙ ap (λ m. 2 ^ m) sum

pub upper : (x n : ℕ) → n ≤ 48 → x < 2 ^ 48 → x / 2 ^ n < 2 ^ (48 - n)
upper x n h small = grind (arith, shr_below)

-- a bit that is zero may be set
pub set_below : (x n : ℕ) → n ≤ 47 → x < 2 ^ 48 → x / 2 ^ n % 2 ≡ 0 → x + 2 ^ n < 2 ^ 48
set_below x n h small zero_bit =
    let double : 2 ^ (48 - n) ≡ 2 ^ (47 - n) * 2 = ap (λ m. 2 ^ m) (let e : 48 - n ≡ 47 - n + 1 = omega arith in e) ∙ pow-add 2 (47 - n) 1 in
    let above : x / 2 ^ n < 2 ^ (48 - n) = upper x n (omega arith) small in
    let room : x / 2 ^ n + 2 ≤ 2 ^ (48 - n) = omega arith in
    let more : (x / 2 ^ n + 2) * 2 ^ n ≤ 2 ^ (48 - n) * 2 ^ n = mul-le-mul_right (2 ^ n) room in
    grind (arith, whole)

-- a field may be replaced
pub inserted_below : (x y high width : ℕ) → high ≤ 47 → width ≤ high + 1 → x < 2 ^ 48 →
    x / 2 ^ (high + 1) * 2 ^ (high + 1) + y % 2 ^ width * 2 ^ (high + 1 - width) + x % 2 ^ (high + 1 - width) < 2 ^ 48
inserted_below x y high width h w small =
    let above : x / 2 ^ (high + 1) < 2 ^ (48 - (high + 1)) = upper x (high + 1) (omega arith) small in
    let more : (x / 2 ^ (high + 1) + 1) * 2 ^ (high + 1) ≤ 2 ^ (48 - (high + 1)) * 2 ^ (high + 1) = mul-le-mul_right (2 ^ (high + 1)) (omega arith) in
    let all : 2 ^ (48 - (high + 1)) * 2 ^ (high + 1) ≡ 2 ^ 48 = whole (high + 1) (omega arith) in
    let field : y % 2 ^ width * 2 ^ (high + 1 - width) + x % 2 ^ (high + 1 - width) < 2 ^ (high + 1 - width) * 2 ^ width =
    mul-add-lt (y % 2 ^ width) (2 ^ (high + 1 - width)) (x % 2 ^ (high + 1 - width)) (2 ^ width) (mod_below y (2 ^ width) (pow_pos width)) (mod_below x (2 ^ (high + 1 - width)) (pow_pos (high + 1 - width))) in
    grind (arith, pow-add)

-- what is shifted up keeps its bits
top_is : (x n : ℕ) → n ≤ 48 → x < 2 ^ 48 → x / 2 ^ n * 2 ^ n % 2 ^ 64 ≡ x / 2 ^ n * 2 ^ n
top_is x n h small = shl_whole (x / 2 ^ n) (48 - n) n 64 (upper x n h small) (omega arith)

pub one_is : (n : ℕ) → n ≤ 48 → 1 * 2 ^ n % 2 ^ 64 ≡ 2 ^ n
one_is n h = one_shl n 64 (omega arith)

middle_is : (y width low : ℕ) → width + low ≤ 48 → y % 2 ^ width * 2 ^ low % 2 ^ 64 ≡ y % 2 ^ width * 2 ^ low
middle_is y width low h = shl_whole (y % 2 ^ width) width low 64 (mod_below y (2 ^ width) (pow_pos width)) (omega arith)

-- a field put between what is above it and below it, as shifts make it
pub inserted_is : (x y high width : ℕ) → high ≤ 47 → width ≤ high + 1 → x < 2 ^ 48 →
    x / 2 ^ (high + 1) * 2 ^ (high + 1) % 2 ^ 64 + y % (1 * 2 ^ width % 2 ^ 64) * 2 ^ (high + 1 - width) % 2 ^ 64 + x % (1 * 2 ^ (high + 1 - width) % 2 ^ 64)
    ≡ x / 2 ^ (high + 1) * 2 ^ (high + 1) + y % 2 ^ width * 2 ^ (high + 1 - width) + x % 2 ^ (high + 1 - width)
inserted_is x y high width h w small = grind (arith, one_is, middle_is)
