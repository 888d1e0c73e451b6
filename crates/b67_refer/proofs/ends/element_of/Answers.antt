use Rattle.std.proofs.Common.{◌∙◌, sym, ap, subst, arith, ℕ, ◌<◌, length, Ok, Err}
use Rattle.std.specs.List.{slice_get}
use Rattle.std.proofs.lemmas.Bool.{not-false, not-true}
use Rattle.std.proofs.lemmas.Option.{same_Some, slice_get_within}
use Rattle.b67_word.specs.declared.faults.Fault.TheVariants.{InvalidIndex}
use Rattle.b67_ctl.specs.Descriptors.{data_word}
use Rattle.b67_refer.specs.declared.ends.End.TheVariants as end
use Rattle.b67_refer.proofs.Follows.{follows_none, follows_whole, follows_item, item_copied, item_named, word_described}
use Rattle.b67_refer.proofs.Items.{desc, word_is, desc_is, past, within}
use Rattle.b67_refer.proofs.ends.element_of.Goals as goal

pub returns-then-tag-ne5-clause-leads : goal.returns-then-tag-ne5-clause-leads
returns-then-tag-ne5-clause-leads c = λ a q at owner v stands other. follows_none c.args.core.now c.args.regs.now a q at owner c.args.w v stands other (λ five. c.if-tag-ne5.true (c.tag.ensures.value ∙ five))

pub returns-then-tag-ne5-clause-copy : goal.returns-then-tag-ne5-clause-copy
returns-then-tag-ne5-clause-copy c = λ e is. absurd (let z : ⊥ = cc in z)

pub returns-then-not-copy-clause-leads : goal.returns-then-not-copy-clause-leads
returns-then-not-copy-clause-leads c = λ a q at owner v stands other.
    let d = word_described c.args.core.now c.args.regs.now a at owner c.args.w v c.read-copy.result stands (sym c.tag.ensures.value ∙ c.if-tag-ne5.false) c.read-copy.ensures in
    follows_whole c.args.core.now c.args.regs.now a q at owner v c.read-copy.result d.0 (not-true _ c.if-not-copy.true)

pub returns-then-not-copy-clause-copy : goal.returns-then-not-copy-clause-copy
returns-then-not-copy-clause-copy c = λ e is. absurd (let z : ⊥ = cc in z)

pub owner-original-requires : goal.owner-original-requires
owner-original-requires c =
    let (a, at, owner, v, stands) = c.requires in
    let d = word_described c.args.core.now c.args.regs.now a at owner c.args.w v c.read-copy.result stands (sym c.tag.ensures.value ∙ c.if-tag-ne5.false) c.read-copy.ensures in
    item_copied c.args.core.now c.args.regs.now a at owner v c.read-copy.result d.0 d.1 (not-false _ c.if-not-copy.false)

pub get-requires : goal.get-requires
get-requires c =
    let (a, at, owner, v, stands) = c.requires in
    let core = c.args.core.now in
    let d = word_described c.args.core.now c.args.regs.now a at owner c.args.w v c.read-copy.result stands (sym c.tag.ensures.value ∙ c.if-tag-ne5.false) c.read-copy.ensures in
    let n = item_named c.args.core.now c.args.regs.now a at owner v c.read-copy.result c.owner-original.result d.0 d.1 (not-false _ c.if-not-copy.false) c.owner-original.ensures in
    let P : ℕ → Type 0 = λ i. i < length core in
    subst P (sym n.1) (slice_get_within core _ (data_word (desc core c.args.regs.now a n.0 n.2)) (word_is core c.args.regs.now a n.0 n.2))

pub returns-then-copy-read-clause-leads : goal.returns-then-copy-read-clause-leads
returns-then-copy-read-clause-leads c = λ a q at owner v stands other.
    let core = c.args.core.now in let r = c.args.regs.now in
    let d = word_described c.args.core.now c.args.regs.now a at owner c.args.w v c.read-copy.result stands (sym c.tag.ensures.value ∙ c.if-tag-ne5.false) c.read-copy.ensures in
    follows_item core r a q at owner v c.read-copy.result c.owner-original.result (Err InvalidIndex) d.0 d.1 (not-false _ c.if-not-copy.false) c.owner-original.ensures
    (λ n home names.
    (let is = c.read.ensures (desc core r a n names) (desc_is core r a n names) (same_Some _ _ (sym c.get.ensures ∙ ap (slice_get core) home ∙ word_is core r a n names)) in
    past core r a n names q c.read.result is c.owner-original.result c.read-copy.result.length home (omega (arith, c.if-copy-read.true))))

pub returns-then-copy-read-clause-copy : goal.returns-then-copy-read-clause-copy
returns-then-copy-read-clause-copy c = λ e is. absurd (let z : ⊥ = cc in z)

pub returns-clause-leads : goal.returns-clause-leads
returns-clause-leads c = λ a q at owner v stands other.
    let core = c.args.core.now in let r = c.args.regs.now in
    let d = word_described c.args.core.now c.args.regs.now a at owner c.args.w v c.read-copy.result stands (sym c.tag.ensures.value ∙ c.if-tag-ne5.false) c.read-copy.ensures in
    follows_item core r a q at owner v c.read-copy.result c.owner-original.result (Ok (end.Element c.owner-original.result c.read-copy.result.length)) d.0 d.1 (not-false _ c.if-not-copy.false) c.owner-original.ensures
    (λ n home names.
    (let is = c.read.ensures (desc core r a n names) (desc_is core r a n names) (same_Some _ _ (sym c.get.ensures ∙ ap (slice_get core) home ∙ word_is core r a n names)) in
    within core r a n names q c.read.result is c.owner-original.result c.read-copy.result.length home (omega (arith, c.if-copy-read.false))))

pub returns-clause-copy : goal.returns-clause-copy
returns-clause-copy c = λ e is. sym c.tag.ensures.value ∙ c.if-tag-ne5.false
