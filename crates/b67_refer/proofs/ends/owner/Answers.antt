use Rattle.std.proofs.Common.{◌∙◌, sym, ap, arith}
use Rattle.std.proofs.lemmas.Bool.{not-false}
use Rattle.std.proofs.lemmas.Option.{same_Some}
use Rattle.b67_ctl.specs.declared.areas.AreaHead.{AreaHead}
use Rattle.b67_refer.proofs.Copies.{present_owner}
use Rattle.b67_refer.proofs.ends.owner.Goals as goal

pub overflow_sub-copy : goal.overflow_sub-copy
overflow_sub-copy c =
    let (home, is) = c.requires in
    let o = present_owner c.args.core.now c.args.copy home is (not-false _ c.if-not-copy.false) in
    omega (arith, o.4)

pub get-requires : goal.get-requires
get-requires c =
    let (home, is) = c.requires in
    let o = present_owner c.args.core.now c.args.copy home is (not-false _ c.if-not-copy.false) in
    omega (arith, o.4, o.5)

pub returns : goal.returns
returns c = λ home is.
    let o = present_owner c.args.core.now c.args.copy home is (not-false _ c.if-not-copy.false) in
    ap (λ (h : AreaHead). h.owner) (c.read.ensures o.0 o.1 (same_Some _ _ (sym c.get.ensures ∙ o.2))) ∙ o.3
