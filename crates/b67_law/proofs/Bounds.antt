-- Operators on numbers and bits keep operands in 48 bits.
use Rattle.std.proofs.Common.{◌≡◌, ℕ, zero, suc, ◌+◌, ◌-◌, ◌*◌, ◌/◌, ◌%◌, ◌^◌, ◌<◌, ◌≤◌, ℤ, nat_abs, Bool, true, eqb, ltb, Ok, subst, arith, ◌&&◌, ◌+ℤ◌, ◌*ℤ◌, neg_ℤ, false, cond, leb, Err, refl, sym, ap, inl, inr}
use Rattle.std.specs.Prelude.{int_div, int_rem, int_lt}
use Rattle.std.specs.Int.Bits.{bit_and, bit_or, bit_xor, and_lt}
use Rattle.std.proofs.lemmas.Nat.{or_lt, pow-add}
use Rattle.std.proofs.lemmas.Bool.{ltb-true, cases_Bool, leb-true, eqb-true, and_parts}
use Rattle.std.proofs.Math.Pow.{ones_sub-lt, pow_mono}
use Rattle.std.proofs.Math.Nat.{div-lt_iff_lt-mul, mod-lt, div-add-mod, mul-le-mul_right}
use Rattle.b67_word.specs.Common.{bit, bits_of, is_field, is_whole, value_of}
use Rattle.b67_model.specs.Common.{Answer, ◌>>=◌, to_operand, number, truth, ones, on_numbers, compared, land, lor, leqv, same, chsn, lnot, bset, brst, isol, insr, Class, OnTwo, OnOne, Pushes, class, divided}
use Rattle.b67_model.specs.declared.operators.Code.{Code}
use Rattle.b67_model.specs.declared.operators.Code.TheVariants as codes
use Rattle.b67_law.proofs.Posts.{Post, post_ok, post_err, post_any, post_needs, post_if_is}
use Rattle.b67_law.proofs.Cells.{Fits1, Fits2}
use Rattle.b67_word.specs.declared.faults.Fault.TheVariants.{Exponent}

pub bits_low : (v : ℤ) → nat_abs v < 2 ^ 39 → bits_of v < 2 ^ 48
bits_low v low = grind arith

truth_low : (b : Bool) → truth b < 2 ^ 48
truth_low b = grind arith

abbrev Low : ℕ → Type 0
Low n = n < 2 ^ 48

to_operand_low : (v : ℤ) → Post Low (to_operand v)
to_operand_low v = post_if_is Low (ltb (nat_abs v) (2 ^ 39)) _ _ (λ t. post_ok Low (bits_of v) (bits_low v (ltb-true (nat_abs v) (2 ^ 39) t))) (λ t. post_err Low _)

pub numbers_fit : (f : ℤ → ℤ → Answer ℤ) → Fits2 (on_numbers f)
numbers_fit f a b x y = post_any Low (number a) _ (λ m. post_any Low (number b) _ (λ n. post_any Low (f m n) _ to_operand_low))

pub compared_fit : (test : ℤ → ℤ → Bool) → Fits2 (compared test)
compared_fit test a b x y = post_any Low (number a) _ (λ m. post_any Low (number b) _ (λ n. post_ok Low (truth (test m n)) (truth_low (test m n))))

pub land_fits : Fits2 land
land_fits a b x y = post_ok Low (bit_and a b) (and_lt 48 a b x y)

pub lor_fits : Fits2 lor
lor_fits a b x y = post_ok Low (bit_or a b) (or_lt 48 a b x y)

pub leqv_fits : Fits2 leqv
leqv_fits a b x y = post_ok Low (ones - bit_xor a b) (ones_sub-lt 48 (bit_xor a b))

pub same_fits : Fits2 same
same_fits a b x y = post_ok Low (truth (eqb a b)) (truth_low (eqb a b))

pub lnot_fits : Fits1 lnot
lnot_fits a x = post_ok Low (ones - a) (ones_sub-lt 48 a)

pub chsn_fits : Fits1 chsn
chsn_fits a x = grind arith

pub brst_fits : (n : ℕ) → Fits1 (brst n)
brst_fits n a x = grind arith

-- two fields side by side
joined_low : (i j a b : ℕ) → a < 2 ^ i → b < 2 ^ j → a * 2 ^ j + b < 2 ^ (i + j)
joined_low i j a b x y = grind (arith, pow-add)

pos_pow : (k : ℕ) → 0 < 2 ^ k
pos_pow zero = omega arith
pos_pow (suc k) = let step : 2 ^ suc k ≡ 2 ^ k * 2 = grind arith in omega (arith, pos_pow k, step)

-- the quotient of a short number
quotient_low : (n k a : ℕ) → a < 2 ^ (n + k) → a / 2 ^ k < 2 ^ n
quotient_low n k a x = (div-lt_iff_lt-mul {k = 2 ^ k} {x = a} {y = 2 ^ n} (pos_pow k)).1 (let whole : 2 ^ (n + k) ≡ 2 ^ n * 2 ^ k = pow-add 2 n k in subst (λ m. a < m) whole x)

-- a number by a quotient and a rest
whole_of : (a m : ℕ) → 0 < m → (a / m) * m + a % m ≡ a
whole_of a m some = let e = div-add-mod a m in let turn : m * (a / m) ≡ (a / m) * m = grind arith in omega (arith, e, turn)

-- a bit that is not set may be
set_low : (n a : ℕ) → n ≤ 47 → a < 2 ^ 48 → (a / 2 ^ n) % 2 ≡ 0 → a + 2 ^ n < 2 ^ 48
set_low n a low x even =
    let m = 2 ^ n in
    let q = a / 2 ^ n in
    let r = a % 2 ^ n in
    let parts : 48 ≡ (47 - n) + 1 + n = omega (arith, low) in
    let x' : a < 2 ^ ((47 - n) + 1 + n) = subst (λ k. a < 2 ^ k) parts x in
    let few : q < 2 ^ ((47 - n) + 1) = quotient_low ((47 - n) + 1) n a x' in
    let twice : 2 ^ ((47 - n) + 1) ≡ 2 ^ (47 - n) * 2 = pow-add 2 (47 - n) 1 in
    let next : q + 1 < 2 ^ ((47 - n) + 1) = omega (arith, few, twice, even) in
    let rest : r < 2 ^ n = mod-lt a (pos_pow n) in
    let joined = joined_low ((47 - n) + 1) n (q + 1) r next rest in
    grind arith

pub bset_fits : (n : ℕ) → Fits1 (bset n)
bset_fits n a x = grind (arith, set_low)

field_low : (high width : ℕ) → is_field high width ≡ true → (high ≤ 47) × (width ≤ high + 1)
field_low high width e = grind arith

pub isol_fits : (high width : ℕ) → Fits1 (isol high width)
isol_fits high width a x = grind arith

insr_low : (high width a b : ℕ) → high ≤ 47 → width ≤ high + 1 → a < 2 ^ 48 → (a / 2 ^ (high + 1)) * 2 ^ (high + 1) + (b % 2 ^ width) * 2 ^ (high + 1 - width) + a % 2 ^ (high + 1 - width) < 2 ^ 48
insr_low high width a b low wide x =
    let k = high + 1 in
    let under = high + 1 - width in
    let parts : 48 ≡ (47 - high) + k = omega (arith, low) in
    let x' : a < 2 ^ ((47 - high) + k) = subst (λ j. a < 2 ^ j) parts x in
    let upper : a / 2 ^ k < 2 ^ (47 - high) = quotient_low (47 - high) k a x' in
    let field : b % 2 ^ width < 2 ^ width = mod-lt b (pos_pow width) in
    let rest : a % 2 ^ under < 2 ^ under = mod-lt a (pos_pow under) in
    let middle : (b % 2 ^ width) * 2 ^ under + a % 2 ^ under < 2 ^ (width + under) = joined_low width under (b % 2 ^ width) (a % 2 ^ under) field rest in
    grind (arith, joined_low)

pub insr_fits : (high width : ℕ) → Fits2 (insr high width)
insr_fits high width a b x y = post_needs Low (is_field high width) _ _ (λ t. let f = field_low high width t in post_ok Low _ (insr_low high width a b f.0 f.1 x))

-- what an operator of the class makes of operands of 48 bits has 48 bits
abbrev pub ClassFits : Class → Type 0
ClassFits (OnTwo f) = Fits2 f
ClassFits (OnOne f) = Fits1 f
ClassFits (Pushes n) = n < 2 ^ 48
ClassFits _ = Unit {0}

pub class_fits : (code : Code) → ClassFits (class code)
class_fits codes.Add = numbers_fit (λ x y. Ok (x +ℤ y))
class_fits codes.Subt = numbers_fit (λ x y. Ok (x +ℤ neg_ℤ y))
class_fits codes.Mult = numbers_fit (λ x y. Ok (x *ℤ y))
class_fits codes.Idiv = numbers_fit (divided int_div)
class_fits codes.Rdiv = numbers_fit (divided int_rem)
class_fits codes.Less = compared_fit _
class_fits codes.Greq = compared_fit _
class_fits codes.Grtr = compared_fit _
class_fits codes.Lseq = compared_fit _
class_fits codes.Equl = compared_fit _
class_fits codes.Neql = compared_fit _
class_fits codes.Chsn = chsn_fits
class_fits codes.Land = land_fits
class_fits codes.Lor = lor_fits
class_fits codes.Leqv = leqv_fits
class_fits codes.Lnot = lnot_fits
class_fits codes.Same = same_fits
class_fits codes.Zero = omega arith
class_fits codes.One = omega arith
class_fits _ = tt
