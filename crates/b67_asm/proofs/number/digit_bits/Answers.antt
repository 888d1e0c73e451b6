use Rattle.std.proofs.Common.{◌≡◌, ◌+◌, ◌*◌, ◌<◌, ◌^◌, ℕ, sym, ◌∙◌, ap, subst, take}
use Rattle.std.proofs.lemmas.List.Sums.{fold_more}
use Rattle.b67_model_text.specs.Hex.{digit_value}
use Rattle.b67_model_text.specs.Statements.{digit_bits}
use Rattle.b67_asm.proofs.Digits.{bits_below}
use Rattle.b67_asm.proofs.number.digit_bits.Goals as goal

pub loop-digit-preserved : goal.loop-digit-preserved
loop-digit-preserved c =
    let digits = c.args.digits.now in
    let i = c.loop-digit.digit-index in
    let is : 16 * c.loop-digit.bits + c.from.result ≡ digit_bits (take (i + 1) digits) =
    ap (λ (n : ℕ). 16 * n + c.from.result) c.loop-digit.invariant.0
    ∙ ap (λ (d : ℕ). 16 * digit_bits (take i digits) + d) (c.from.ensures ∙ c.digit_value.ensures.exact)
    ∙ sym (fold_more (λ n d. 16 * n + digit_value d) 0 digits i 0 c.loop-digit-test.true)
    in (is, subst (λ (n : ℕ). n < 2 ^ 48) (sym is) (bits_below digits (i + 1) c.requires))
