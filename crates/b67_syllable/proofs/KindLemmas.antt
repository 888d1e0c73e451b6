-- The table of kinds against the operators of the machine.
use Rattle.std.proofs.Common.{◌≡◌, ℕ, ◌+◌, ◌-◌, ◌*◌, ◌≤◌, ◌<◌, true, false, refl, sym, ◌∙◌, ap, arith, Option, Some, None, List, map, get_or}
use Rattle.std.specs.Prelude.{nat_lt, slice_get}
use Rattle.std.specs.Option.{option_map}
use Rattle.std.specs.List.{range_with_len}
use Rattle.std.proofs.lemmas.Bool.Decides.{nat_tests}
use Rattle.std.proofs.lemmas.Option.{slice_get-map, get_or_from_slice_get}
use Rattle.std.proofs.lemmas.List.FromFn.{get_or-map-range_with_len}
use Rattle.b67_model.specs.declared.operators.Op.TheVariants.{Valc, Namc}
use Rattle.b67_model.specs.Operators.{Form, OneMore, operators, form_in, form_of}
use Rattle.b67_syllable.specs.declared.kinds.Kind.{Kind}
use Rattle.b67_syllable.specs.declared.kinds.TheConstants.{KINDS}
use Rattle.b67_syllable.specs.Kinds.{form}

not_below : (n k : ℕ) → k ≤ n → nat_lt n k ≡ false
not_below n k h = grind (arith, nat_tests)

below : (n k : ℕ) → n < k → nat_lt n k ≡ true
below n k h = grind (arith, nat_tests)

pub value_kind : (first : ℕ) → first < 0x40 → form_of first ≡ Some (OneMore (λ low. Valc (first * 256 + low)))
value_kind first upto = rw (below first 0x40 upto) refl

pub name_kind : (first high : ℕ) → 0x40 ≤ first → first ≤ 0x7f → high ≡ first - 0x40 → form_of first ≡ Some (OneMore (λ low. Namc (high * 256 + low)))
name_kind first high from upto is = rw (not_below first 0x40 from, below first 0x80 (omega arith), is) refl

-- the forms of the rows
table_is : map (option_map form) KINDS ≡ map (form_in operators) (range_with_len 0x80 128)
table_is = refl

-- the operators from 0x80 on
late : (first : ℕ) → 0x80 ≤ first → form_of first ≡ form_in operators first
late first from = rw (not_below first 0x40 (omega arith), not_below first 0x80 from) refl

pub table_kind : (first : ℕ) (kind : Option Kind) → 0x80 ≤ first → first ≤ 0xff → slice_get KINDS (first - 0x80) ≡ Some kind → form_of first ≡ option_map form kind
table_kind first kind from upto is =
    let here : slice_get (map (option_map form) KINDS) (first - 0x80) ≡ Some (option_map form kind) = slice_get-map (option_map form) KINDS (first - 0x80) ∙ ap (option_map (option_map form)) is in
    let row : get_or (map (option_map form) KINDS) (first - 0x80) None ≡ option_map form kind = get_or_from_slice_get (map (option_map form) KINDS) (first - 0x80) (option_map form kind) None here in
    let there : get_or (map (form_in operators) (range_with_len 0x80 128)) (first - 0x80) None ≡ form_in operators first = get_or-map-range_with_len (form_in operators) 0x80 128 (first - 0x80) first None (omega arith) (omega arith) in
    late first from ∙ sym there ∙ sym (ap (λ (xs : List (Option Form)). get_or xs (first - 0x80) None) table_is) ∙ row
