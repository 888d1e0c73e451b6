use Rattle.std.proofs.Common.{◌≡◌, ℤ, List, [], ◌∷◌, ◌++◌, ◌+◌, ap, ◌∙◌, arith, length, length-append, append_assoc, w64}
use Rattle.std.specs.Fmt.{signed_decimal}
use Rattle.std.proofs.lemmas.Int.{to_z-of_z}
use Rattle.b67_model.specs.Lines.{value_text}
use Rattle.b67_mcp.proofs.RowLengths.{value_length, appended}
use Rattle.b67_mcp.proofs.print_row_lines.add_value.Goals as goal

pub returns-clause-text : goal.returns-clause-text
returns-clause-text c =
    let v = c.args.value in
    let same = to_z-of_z w64 v c.ranges.value in
    let first = appended c.text.result _ (c.text.ensures.fits.1 (omega (arith, c.requires.room))) c.text.ensures.ok in
    let long = value_length v c.requires.small in
    let at = ap length first in
    let first_long : length c.text.new.self ≡ length c.args.line.now + 1 = at ∙ length-append c.args.line.now (32 ∷ []) in
    let fits = c.number.ensures.fits.1 (let d = ap (λ (z : ℤ). length (signed_decimal z)) same in omega (arith, first_long, long, c.requires.room, d)) in
    appended c.number.result _ fits c.number.ensures.ok ∙ ap (λ (z : ℤ). c.text.new.self ++ signed_decimal z) same ∙ ap (λ (l : List _). l ++ signed_decimal v) first ∙ append_assoc c.args.line.now (32 ∷ []) (signed_decimal v)

pub returns-clause-short : goal.returns-clause-short
returns-clause-short c =
    let e = returns-clause-text c in
    let long = value_length c.args.value c.requires.small in
    omega (arith, ap length e, length-append c.args.line.now (value_text c.args.value), long)
