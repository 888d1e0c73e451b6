use Rattle.std.proofs.Common.{Ok, Err, sym, ◌∙◌, subst, inl, inr}
use Rattle.b67_word.specs.declared.faults.Fault.TheVariants.{InvalidOperand}
use Rattle.b67_model.specs.Chase.{follow}
use Rattle.b67_layout.specs.Meets.{here}
use Rattle.b67_refer.specs.RunningContext.{live_of}
use Rattle.b67_mcp.specs.Arguments.{CellAtEnd}
use Rattle.b67_refer.specs.Ends.{EndMeets}
use Rattle.b67_mcp.proofs.EndCells.{IsOther, no_reference, same_follow, at_cell, at_fault, at_other}
use Rattle.b67_mcp.proofs.cell_given.operand_cell.Goals as goal

pub returns-then-tag-ne1 : goal.returns-then-tag-ne1
returns-then-tag-ne1 c = λ a q shown at owner v stands. no_reference a q at owner c.args.w v stands (λ z. c.if-tag-ne1.true (c.tag.ensures.value ∙ z))

pub chase-requires : goal.chase-requires
chase-requires c =
    let (a, shown, at, owner, v, stands) = c.requires in
    (live_of a, shown, at, owner, v, stands)

pub returns-in-Cell : goal.returns-in-Cell
returns-in-Cell c = λ a q shown at owner v stands.
    (let same = same_follow a q at owner c.args.w v stands (sym c.tag.ensures.value ∙ c.if-tag-ne1.false) in
    let meets = subst (λ e. EndMeets a q (Ok e) (follow (here a.member a.task q) v)) c.in-Cell.is (c.in-Ok.ensures.running a q shown at owner v stands) in
    subst (λ y. CellAtEnd a q (Ok c.in-Cell.at) y) same (at_cell a q c.in-Cell.at (follow (here a.member a.task q) v) meets))

pub returns-in-Element : goal.returns-in-Element
returns-in-Element c = λ a q shown at owner v stands.
    (let same = same_follow a q at owner c.args.w v stands (sym c.tag.ensures.value ∙ c.if-tag-ne1.false) in
    let other : IsOther a q c.in-Ok.end = elim c.in-Element.is [
      | inl i ↦ subst (IsOther a q) (sym i.2) tt
      | inr more ↦ elim more [
        | inl i ↦ subst (IsOther a q) (sym i.1) tt
        | inr last ↦ elim last [ inl i ↦ subst (IsOther a q) (sym i.1) tt | inr i ↦ subst (IsOther a q) (sym i.1) tt ]
      ]
    ] in
    subst (λ y. CellAtEnd a q (Err InvalidOperand) y) same (at_other a q c.in-Ok.end other (follow (here a.member a.task q) v) (c.in-Ok.ensures.running a q shown at owner v stands)))

pub returns-in-Err : goal.returns-in-Err
returns-in-Err c = λ a q shown at owner v stands.
    (let same = same_follow a q at owner c.args.w v stands (sym c.tag.ensures.value ∙ c.if-tag-ne1.false) in
    subst (λ y. CellAtEnd a q (Err c.in-Err.fault) y) same (at_fault a q c.in-Err.fault (follow (here a.member a.task q) v) (c.in-Err.ensures.running a q shown at owner v stands)))
