use Rattle.std.proofs.Common.{ℕ, ap, ◌∙◌, true}
use Rattle.b67_ctl.specs.Descriptors.{data_word}
use Rattle.b67_exec_cells.proofs.Arrays.{present-copy, absent-copy, copy-fits, home-fits}
use Rattle.b67_exec_cells.proofs.elements.row_copy.Goals as goal

pub word-requires : goal.word-requires
word-requires c =
    let q = c.requires.1 in
    let r = q.runs in
    copy-fits r.storage c.args.cpu.now r.plan r.session r.member r.task r.ordered r.stands r.running q.number c.requires.0 q.element c.array_descriptor-desc.result
    (c.array_descriptor-desc.ensures r.storage r.plan r.session r.member r.task r.ordered r.stands r.running q.number c.requires.0 q.home q.element)

pub word-requires-else-desc : goal.word-requires-else-desc
word-requires-else-desc c =
    let q = c.requires.1 in
    let r = q.runs in
    home-fits r.storage c.args.cpu.now r.plan r.session r.member r.task r.ordered r.stands r.running q.number c.requires.0 q.element c.array_descriptor-desc.result c.args.original
    (c.array_descriptor-desc.ensures r.storage r.plan r.session r.member r.task r.ordered r.stands r.running q.number c.requires.0 q.home q.element) q.home

pub returns-then-desc : goal.returns-then-desc
returns-then-desc c = λ x plan s m t ordered h runs n index at home e.
    present-copy x c.args.cpu.now plan s m t ordered h runs n index e c.array_descriptor-desc.result c.word.result at (c.array_descriptor-desc.ensures x plan s m t ordered h runs n index home e) c.if-desc.true c.word.ensures

pub returns-else-desc : goal.returns-else-desc
returns-else-desc c = λ x plan s m t ordered h runs n index at home e.
    let d = c.array_descriptor-desc.result in
    absent-copy x c.args.cpu.now plan s m t ordered h runs n index e d c.word-else-desc.result at (c.array_descriptor-desc.ensures x plan s m t ordered h runs n index home e) c.if-desc.false
    (c.word-else-desc.ensures ∙ ap (λ (i : ℕ). data_word (record d { copy = true; address = i })) home)
