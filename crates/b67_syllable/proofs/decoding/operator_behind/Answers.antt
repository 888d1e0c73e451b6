use Rattle.std.proofs.Common.{◌≤◌, ◌*◌, ◌∙◌, length, arith, ap, subst}
use Rattle.b67_model.specs.declared.operators.Op.TheVariants.{Lt48, Mpcw}
use Rattle.b67_model.specs.Operators.{count_at}
use Rattle.b67_syllable.specs.declared.kinds.Kind.{Kind}
use Rattle.b67_syllable.specs.Kinds.{form, end_of}
use Rattle.b67_syllable.proofs.CodeLemmas.{next_is}
use Rattle.b67_syllable.proofs.decoding.operator_behind.Goals as goal

pub returns-in-Literal48 : goal.returns-in-Literal48
returns-in-Literal48 c =
    let within = subst (λ (k : Kind). end_of (count_at c.args.at) (form k) ≤ 6 * length c.args.code.now) c.in-Literal48.is c.requires.within in
    rw c.in-Literal48.is (ap Lt48 (c.bits.ensures.value ∙ next_is c.args.code.now c.args.at c.index-code-at.result c.requires.in_word (omega (arith, within, c.requires.in_word)) c.index-code-at.is))

pub returns-in-MakePcw : goal.returns-in-MakePcw
returns-in-MakePcw c =
    let within = subst (λ (k : Kind). end_of (count_at c.args.at) (form k) ≤ 6 * length c.args.code.now) c.in-MakePcw.is c.requires.within in
    rw c.in-MakePcw.is (ap Mpcw (c.bits-in-MakePcw.ensures.value ∙ next_is c.args.code.now c.args.at c.index-code-at-in-MakePcw.result c.requires.in_word (omega (arith, within, c.requires.in_word)) c.index-code-at-in-MakePcw.is))
