use Rattle.std.proofs.Common.{ℕ, refl, sym, ◌∙◌, ap, arith, get_or}
use Rattle.std.proofs.lemmas.Option.{none-some}
use Rattle.b67_model.specs.Environment.{frame_at}
use Rattle.b67_model.specs.Rows as rows
use Rattle.b67_layout.specs.Meets.{here}
use Rattle.b67_refer.proofs.Chains.{level_is, level_small}
use Rattle.b67_exec_cells.proofs.Rows.{top_missing}
use Rattle.b67_fetch.proofs.Values.{here_scene, here_shown, top_followed}
use Rattle.b67_fetch.proofs.StuffedWords.{stff_refused, stff_stays, stff_fault, level_low, frame_named, stff_done}
use Rattle.b67_fetch.proofs.stuffing.stff.Goals as goal

pub returns-in-Err-clause-row : goal.returns-in-Err-clause-row
returns-in-Err-clause-row c = λ x plan s m t ordered h runs.
    (top_missing x c.args.cpu.now plan s m t c.args.next (rows.stff (here m t c.args.next)) c.in-Err.fault refl (c.in-Err.ensures.cell x plan s m t ordered h runs), refl)

pub returns-then-tag-ne1-clause-row : goal.returns-then-tag-ne1-clause-row
returns-then-tag-ne1-clause-row c = λ x plan s m t ordered h runs.
    let top = top_followed x c.args.cpu.now plan s m t c.in-Ok.word ordered runs (c.in-Ok.ensures.cell x plan s m t ordered h runs) in
    stff_refused x c.args.cpu.now plan s m t ordered h runs c.args.next c.in-Ok.word top (λ e. c.if-tag-ne1.true (c.tag.ensures.value ∙ e))

pub couple_at-couple-requires-clause-level : goal.couple_at-couple-requires-clause-level
couple_at-couple-requires-clause-level c =
    let q = c.requires in
    let a = here_scene q.storage c.args.cpu.now q.plan q.session q.member q.task q.ordered q.stands q.running in
    omega (arith, level_is c.args.cpu.now.core c.args.cpu.now.regs a, level_small c.args.cpu.now.core c.args.cpu.now.regs a)

pub returns-in-None-clause-row : goal.returns-in-None-clause-row
returns-in-None-clause-row c = λ x plan s m t ordered h runs.
    let top = top_followed x c.args.cpu.now plan s m t c.in-Ok.word ordered runs (c.in-Ok.ensures.cell x plan s m t ordered h runs) in
    stff_stays x c.args.cpu.now plan s m t ordered h runs c.args.next c.in-Ok.word top (sym c.tag.ensures.value ∙ c.if-tag-ne1.false) c.branch_to.result c.branch_to.new.cpu
    (λ i fits e. none-some i (sym c.in-None.is ∙ c.from_word.ensures.known i fits e)) (c.branch_to.ensures.row x plan s m t ordered h runs)

pub cell_of-requires : goal.cell_of-requires
cell_of-requires c =
    let q = c.requires in
    (here_scene q.storage c.args.cpu.now q.plan q.session q.member q.task q.ordered q.stands q.running, here_shown q.storage c.args.cpu.now q.plan q.session q.member q.task q.ordered q.stands q.running)

pub stuffed-reference-requires-clause-frame : goal.stuffed-reference-requires-clause-frame
stuffed-reference-requires-clause-frame c =
    let q = c.requires in
    let cpu = c.args.cpu.now in
    let n = c.args.next in
    let a = here_scene q.storage cpu q.plan q.session q.member q.task q.ordered q.stands q.running in
    let top = top_followed q.storage cpu q.plan q.session q.member q.task c.in-Ok.word q.ordered q.running (c.in-Ok.ensures.cell q.storage q.plan q.session q.member q.task q.ordered q.stands q.running) in
    let one = sym c.tag.ensures.value ∙ c.if-tag-ne1.false in
    let k = c.couple_at-couple.result in
    let low = level_low q.storage cpu q.plan q.session q.member q.task q.ordered q.stands q.running n c.in-Ok.word top one c.in-Some.name c.in-Some.ensures.some.0 c.in-Some.ensures.some.1 k c.couple_at-couple.ensures c.in-Ok-cell_of.field-0 (c.in-Ok-cell_of.ensures a n (here_shown q.storage cpu q.plan q.session q.member q.task q.ordered q.stands q.running)) in
    let f = frame_named q.storage cpu q.plan q.session q.member q.task q.ordered q.stands q.running n c.in-Ok.word top one c.in-Some.name c.in-Some.ensures.some.0 c.in-Some.ensures.some.1 k c.couple_at-couple.ensures low in
    (a, (frame_at (here q.member q.task n) k.level).identity, f.0, ap (λ (i : ℕ). get_or cpu.display i 0) c.from.ensures ∙ f.1)

pub returns-in-Ok-cell_of-clause-row : goal.returns-in-Ok-cell_of-clause-row
returns-in-Ok-cell_of-clause-row c = λ x plan s m t ordered h runs.
    let cpu = c.args.cpu.now in
    let n = c.args.next in
    let a = here_scene x cpu plan s m t ordered h runs in
    let top = top_followed x cpu plan s m t c.in-Ok.word ordered runs (c.in-Ok.ensures.cell x plan s m t ordered h runs) in
    let one = sym c.tag.ensures.value ∙ c.if-tag-ne1.false in
    let k = c.couple_at-couple.result in
    let i = c.in-Ok-cell_of.ensures a n (here_shown x cpu plan s m t ordered h runs) in
    let low = level_low x cpu plan s m t ordered h runs n c.in-Ok.word top one c.in-Some.name c.in-Some.ensures.some.0 c.in-Some.ensures.some.1 k c.couple_at-couple.ensures c.in-Ok-cell_of.field-0 i in
    let f = frame_named x cpu plan s m t ordered h runs n c.in-Ok.word top one c.in-Some.name c.in-Some.ensures.some.0 c.in-Some.ensures.some.1 k c.couple_at-couple.ensures low in
    let spot = c.stuffed-reference.ensures.spot a (frame_at (here m t n) k.level).identity f.0 (ap (λ (z : ℕ). get_or cpu.display z 0) c.from.ensures ∙ f.1) in
    stff_done x cpu plan s m t ordered h runs n c.in-Ok.word top one c.in-Some.name c.in-Some.ensures.some.0 c.in-Some.ensures.some.1 k c.couple_at-couple.ensures c.put_over.result c.put_over.new.cpu c.in-Ok-cell_of.field-0 c.stuffed-reference.result c.word.result i spot c.word.ensures
    (c.put_over.ensures.row x plan s m t ordered h runs)

pub returns-in-Err-cell_of-clause-row : goal.returns-in-Err-cell_of-clause-row
returns-in-Err-cell_of-clause-row c = λ x plan s m t ordered h runs.
    let cpu = c.args.cpu.now in
    let n = c.args.next in
    let a = here_scene x cpu plan s m t ordered h runs in
    let top = top_followed x cpu plan s m t c.in-Ok.word ordered runs (c.in-Ok.ensures.cell x plan s m t ordered h runs) in
    stff_fault x cpu plan s m t ordered h runs n c.in-Ok.word top (sym c.tag.ensures.value ∙ c.if-tag-ne1.false) c.in-Some.name c.in-Some.ensures.some.0 c.in-Some.ensures.some.1 c.couple_at-couple.result c.couple_at-couple.ensures c.in-Err-cell_of.fault
    (c.in-Err-cell_of.ensures a n (here_shown x cpu plan s m t ordered h runs))
