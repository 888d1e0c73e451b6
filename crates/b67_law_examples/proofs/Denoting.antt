-- The operators that cards denote: their numbers are within their bits.
use Rattle.std.proofs.Common.{◌≡◌, ℕ, ◌+◌, ◌-◌, ◌*◌, ◌/◌, ◌%◌, ◌^◌, ◌≤◌, ◌<◌, Bool, true, false, refl, subst, arith, cond, Option, Some, None, List, [], ◌∷◌, min}
use Rattle.std.specs.Prelude.{nat_lt, nat_le, ◌&&◌}
use Rattle.std.specs.Option.{option_and_then}
use Rattle.std.proofs.lemmas.Bool.{and_parts, and_from, ltb-true, leb-true, lt-ltb}
use Rattle.std.proofs.lemmas.Option.{same_Some, none-some}
use Rattle.b67_word.specs.declared.couples.Couple.{Couple}
use Rattle.b67_word.specs.Couples.{fits_split, couple_bits}
use Rattle.b67_model.specs.declared.operators.Op.{Op}
use Rattle.b67_model.specs.declared.operators.Op.TheVariants.{Mpcw}
use Rattle.b67_model_text.specs.declared.assembly.Call as call
use Rattle.b67_model_text.specs.declared.assembly.Call.TheVariants as calls
use Rattle.b67_model_text.specs.declared.assembly.Branch as branch
use Rattle.b67_model_text.specs.declared.assembly.Branch.TheVariants as branches
use Rattle.b67_model_text.specs.declared.assembly.Sketch as sketch
use Rattle.b67_model_text.specs.declared.assembly.Sketch.TheVariants.{Whole, OutOfRange, Couple as Coupled, Row as RowCoupled, Jump, Pcw, PcwAt}
use Rattle.b67_model_text.specs.declared.assembly.Named as named
use Rattle.b67_model_text.specs.declared.assembly.Named.TheVariants as means
use Rattle.b67_model_text.specs.Asm.{Names, Scope, is_in_range, pcw_in, label_in, syllable_bits, pcw_at, row_in, call_operator, branch_to, denoted}
use Rattle.b67_model_text.proofs.Contents.{mapped}
use Rattle.b67_law_examples.specs.Operators.{HasBits}
use Rattle.b67_model.specs.declared.limits.TheConstants.{MOST_SEGMENT}

chained : {A B : Type 0} (f : A → Option B) (o : Option A) (b : B) → option_and_then f o ≡ Some b → (a : A) × (o ≡ Some a) × (f a ≡ Some b)
chained f o b e = grind arith

couple_small : (running : ℕ) (c : Couple) (bits : ℕ) → couple_bits running c ≡ Some bits → bits < 2 ^ 14
couple_small running c bits e = grind (arith, ltb-true)

-- segments that are named have small numbers
abbrev pub IsSmall : Option named.Named → Type 0
IsSmall o = (number : ℕ) (level : Option ℕ) → o ≡ Some (means.Segment number level) → number < 255

abbrev pub AreSmall : Names → Type 0
AreSmall names = (q : List ℕ) → IsSmall (names.means q)

pub pcw_small : (o : Option named.Named) (bits : ℕ) → IsSmall o → pcw_in o ≡ Some bits → bits < 2 ^ 19
pcw_small o bits h e = grind arith

-- a procedure's bits with the place of a label
pub record AtLabel (base : Option ℕ) (label : Option ℕ) (bits : ℕ) : Type 0 where
  pub own : ℕ
  pub base_is : base ≡ Some own
  pub syllable : ℕ
  pub label_is : label ≡ Some syllable
  pub is : own + syllable_bits syllable * 2 ^ 20 ≡ bits

pub at_label : (base label : Option ℕ) (bits : ℕ) → pcw_at base label ≡ Some bits → AtLabel base label bits
at_label base label bits e = grind arith

called_bits : (c : call.Call) (bits : ℕ) → bits < 2 ^ 14 → HasBits (call_operator c bits)
called_bits c bits h = grind arith

target_bits : (n : ℕ) → n ≤ 6 * MOST_SEGMENT → (nat_lt (n % 6) 8 && nat_lt (n / 6) (2 ^ 13)) ≡ true
target_bits n h = and_from (nat_lt (n % 6) 8) (nat_lt (n / 6) (2 ^ 13)) (lt-ltb (n % 6) 8 (omega arith)) (lt-ltb (n / 6) (2 ^ 13) (omega arith))

branch_bits : (b : branch.Branch) (n : ℕ) → HasBits (branch_to b n)
branch_bits b n = grind arith

pub denoted_bits : (x : Scope) (s : sketch.Sketch) (op : Op) → AreSmall x.names → is_in_range s ≡ true → denoted x s ≡ Some op → HasBits op
denoted_bits x (Whole own) op small h e = subst HasBits (same_Some own op e) h
denoted_bits x OutOfRange op small h e = absurd (none-some op e)
denoted_bits x (Coupled c couple) op small h e =
    let m = mapped (call_operator c) (option_and_then (couple_bits (min x.level 31)) couple) op e in
    let k = chained (couple_bits (min x.level 31)) couple m.0 m.1 in
    subst HasBits m.2 (called_bits c m.0 (couple_small (min x.level 31) k.0 m.0 k.2))
denoted_bits x (RowCoupled c row) op small h e =
    let f : ℕ → Option ℕ = λ number. couple_bits (min x.level 31) (record { level = 1; disp = x.segments + number + 2 }) in
    let m = mapped (call_operator c) (option_and_then f (row_in (x.names.means row))) op e in
    let k = chained f (row_in (x.names.means row)) m.0 m.1 in
    subst HasBits m.2 (called_bits c m.0 (couple_small (min x.level 31) (record { level = 1; disp = x.segments + k.0 + 2 }) m.0 k.2))
denoted_bits x (Jump b label) op small h e = grind (arith, branch_bits)
denoted_bits x (Pcw segment) op small h e =
    let m = mapped Mpcw (pcw_in (x.names.means segment)) op e in
    grind arith
denoted_bits x (PcwAt segment label) op small h e =
    let m = mapped Mpcw (pcw_at (pcw_in (x.names.means segment)) (label_in x.names (x.names.means segment) label)) op e in
    let at = at_label (pcw_in (x.names.means segment)) (label_in x.names (x.names.means segment) label) m.0 m.1 in
    let low = pcw_small (x.names.means segment) at.own (small segment) at.base_is in
    subst HasBits m.2 (lt-ltb m.0 (2 ^ 48) (with_place at.own at.syllable m.0 low at.is))
  where
    with_place : (own n bits : ℕ) → own < 2 ^ 19 → own + syllable_bits n * 2 ^ 20 ≡ bits → bits < 2 ^ 48
    with_place own n bits low is = omega (arith, low, is)
