use Rattle.std.proofs.Common.{◌∙◌, sym, subst, inl}
use Rattle.b67_model.specs.Answers.{Answer}
use Rattle.b67_model.specs.Chase as Chase
use Rattle.b67_model.specs.Chase.{follow}
use Rattle.b67_layout.specs.Meets.{here}
use Rattle.b67_refer.specs.RunningContext.{LiveContext, live_of, FromEither}
use Rattle.b67_refer.specs.LiveEnds.{EndMeets}
use Rattle.b67_refer.proofs.SeenFrom.{from_running}
use Rattle.b67_refer.proofs.Follows.{is_reference, follows_reference}
use Rattle.b67_refer.proofs.ends.chase.Goals as goal

pub chase_reference-requires : goal.chase_reference-requires
chase_reference-requires c =
    let (a, shown, at, owner, v, stands) = c.requires in
    (a, shown, at, owner, v, stands, is_reference c.args.core.now c.args.regs.now a at owner c.args.w v stands (sym c.tag.ensures.value ∙ c.if-tag-eq1.true))

pub returns-then-tag-eq1-clause-alive : goal.returns-then-tag-eq1-clause-alive
returns-then-tag-eq1-clause-alive c = λ a q shown at owner v stands.
    let ref = is_reference c.args.core.now c.args.regs.now a at owner c.args.w v stands (sym c.tag.ensures.value ∙ c.if-tag-eq1.true) in
    subst (λ (y : Answer Chase.End). FromEither (λ (b : LiveContext c.args.core.now c.args.regs.now). EndMeets b q c.chase_reference.result y) a) (sym (follows_reference c.args.core.now c.args.regs.now a q v ref)) (c.chase_reference.ensures a q shown at owner v stands ref)

pub returns-then-tag-eq1-clause-running : goal.returns-then-tag-eq1-clause-running
returns-then-tag-eq1-clause-running c = λ a q shown at owner v stands.
    from_running a (λ (b : LiveContext c.args.core.now c.args.regs.now). EndMeets b q c.chase_reference.result (follow (here a.member a.task q) v))
    (returns-then-tag-eq1-clause-alive c (live_of a) q shown at owner v stands)

pub element_of-requires : goal.element_of-requires
element_of-requires c = let (a, shown, at, owner, v, stands) = c.requires in (a, at, owner, v, stands)

pub returns-clause-alive : goal.returns-clause-alive
returns-clause-alive c = λ a q shown at owner v stands. inl (c.element_of.ensures.leads a q at owner v stands (λ one. c.if-tag-eq1.false (c.tag.ensures.value ∙ one)))

pub returns-clause-running : goal.returns-clause-running
returns-clause-running c = λ a q shown at owner v stands.
    from_running a (λ (b : LiveContext c.args.core.now c.args.regs.now). EndMeets b q c.element_of.result (follow (here a.member a.task q) v))
    (returns-clause-alive c (live_of a) q shown at owner v stands)
