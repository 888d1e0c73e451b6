use Rattle.std.proofs.Common.{ℕ, ap, ◌∙◌}
use Rattle.b67_ctl.specs.Descriptors.{data_word}
use Rattle.b67_fetch.proofs.Copies.{item_desc, item-fits, home-fits, present-item, absent-item}
use Rattle.b67_fetch.proofs.indexing.item_copy.Goals as goal

pub word-requires : goal.word-requires
word-requires c =
    let q = c.requires in
    let r = q.runs in
    item-fits r.storage c.args.cpu.now r.plan r.session r.member r.task r.ordered r.stands r.running q.number c.args.index q.element c.array_descriptor-desc.result
    (c.array_descriptor-desc.ensures r.storage r.plan r.session r.member r.task r.ordered r.stands r.running q.number c.args.index q.home q.element)

pub word-requires-else-desc : goal.word-requires-else-desc
word-requires-else-desc c =
    let q = c.requires in
    let r = q.runs in
    home-fits r.storage c.args.cpu.now r.plan r.session r.member r.task r.ordered r.stands r.running q.number c.args.index q.element c.array_descriptor-desc.result c.args.original q.home

pub returns-then-desc : goal.returns-then-desc
returns-then-desc c = λ x plan s m t ordered h runs n at home e.
    present-item x c.args.cpu.now plan s m t ordered h runs n c.args.index e c.array_descriptor-desc.result c.word.result at (c.array_descriptor-desc.ensures x plan s m t ordered h runs n c.args.index home e) c.if-desc.true c.word.ensures

pub returns-else-desc : goal.returns-else-desc
returns-else-desc c = λ x plan s m t ordered h runs n at home e.
    let d = c.array_descriptor-desc.result in
    absent-item x c.args.cpu.now plan s m t ordered h runs n c.args.index e d c.word-else-desc.result at (c.array_descriptor-desc.ensures x plan s m t ordered h runs n c.args.index home e) c.if-desc.false
    (c.word-else-desc.ensures ∙ ap (λ (i : ℕ). data_word (item_desc d d.present c.args.index i)) home)
