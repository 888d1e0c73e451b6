use Rattle.std.proofs.Common.{ℕ, sym, ◌∙◌, ap, arith, get_or}
use Rattle.std.proofs.lemmas.Option.{none-some}
use Rattle.b67_model.specs.Environment.{frame_at}
use Rattle.b67_layout.specs.Meets.{here}
use Rattle.b67_refer.proofs.Chains.{level_is, level_small}
use Rattle.b67_fetch.proofs.Values.{here_scene, top_followed}
use Rattle.b67_fetch.proofs.StuffedWords.{stff_stays, level_low, frame_named, named_found, stff_done}
use Rattle.b67_fetch.proofs.stuffing.stff_named.Goals as goal

pub couple_at-couple-requires-clause-level : goal.couple_at-couple-requires-clause-level
couple_at-couple-requires-clause-level c =
    let q = c.requires.runs in
    let a = here_scene q.storage c.args.cpu.now q.plan q.session q.member q.task q.ordered q.stands q.running in
    omega (arith, level_is c.args.cpu.now.core c.args.cpu.now.regs a, level_small c.args.cpu.now.core c.args.cpu.now.regs a)

pub returns-in-None-clause-row : goal.returns-in-None-clause-row
returns-in-None-clause-row c = λ x plan s m t ordered h runs.
    let top = top_followed x c.args.cpu.now plan s m t c.args.w ordered runs (c.requires.top x plan s m t ordered h runs) in
    stff_stays x c.args.cpu.now plan s m t ordered h runs c.args.next c.args.w top (c.requires.reference) c.branch_to.result c.branch_to.new.cpu
    (λ i fits e. none-some i (sym c.in-None.is ∙ c.from_word.ensures.known i fits e)) (c.branch_to.ensures.row x plan s m t ordered h runs)

pub stuffed-reference-requires-clause-frame : goal.stuffed-reference-requires-clause-frame
stuffed-reference-requires-clause-frame c =
    let q = c.requires.runs in
    let cpu = c.args.cpu.now in
    let n = c.args.next in
    let a = here_scene q.storage cpu q.plan q.session q.member q.task q.ordered q.stands q.running in
    let top = top_followed q.storage cpu q.plan q.session q.member q.task c.args.w q.ordered q.running (c.requires.top q.storage q.plan q.session q.member q.task q.ordered q.stands q.running) in
    let one = c.requires.reference in
    let k = c.couple_at-couple.result in
    let low = level_low q.storage cpu q.plan q.session q.member q.task q.ordered q.stands q.running n c.args.w top one c.in-Some.name c.in-Some.ensures.some.0 c.in-Some.ensures.some.1 k c.couple_at-couple.ensures c.requires.named.0 (named_found q.storage cpu q.plan q.session q.member q.task q.ordered q.stands q.running n c.args.w top c.requires.reference c.in-Some.name c.in-Some.ensures.some.0 c.in-Some.ensures.some.1 c.couple_at-couple.result c.couple_at-couple.ensures c.requires.named.0 c.requires.named.1) in
    let f = frame_named q.storage cpu q.plan q.session q.member q.task q.ordered q.stands q.running n c.args.w top one c.in-Some.name c.in-Some.ensures.some.0 c.in-Some.ensures.some.1 k c.couple_at-couple.ensures low in
    (a, (frame_at (here q.member q.task n) k.level).identity, f.0, ap (λ (i : ℕ). get_or cpu.display i 0) c.from.ensures ∙ f.1)

pub returns-clause-row : goal.returns-clause-row
returns-clause-row c = λ x plan s m t ordered h runs.
    let cpu = c.args.cpu.now in
    let n = c.args.next in
    let a = here_scene x cpu plan s m t ordered h runs in
    let top = top_followed x cpu plan s m t c.args.w ordered runs (c.requires.top x plan s m t ordered h runs) in
    let one = c.requires.reference in
    let k = c.couple_at-couple.result in
    let i = named_found x cpu plan s m t ordered h runs n c.args.w top c.requires.reference c.in-Some.name c.in-Some.ensures.some.0 c.in-Some.ensures.some.1 c.couple_at-couple.result c.couple_at-couple.ensures c.requires.named.0 c.requires.named.1 in
    let low = level_low x cpu plan s m t ordered h runs n c.args.w top one c.in-Some.name c.in-Some.ensures.some.0 c.in-Some.ensures.some.1 k c.couple_at-couple.ensures c.requires.named.0 i in
    let f = frame_named x cpu plan s m t ordered h runs n c.args.w top one c.in-Some.name c.in-Some.ensures.some.0 c.in-Some.ensures.some.1 k c.couple_at-couple.ensures low in
    let spot = c.stuffed-reference.ensures.spot a (frame_at (here m t n) k.level).identity f.0 (ap (λ (z : ℕ). get_or cpu.display z 0) c.from.ensures ∙ f.1) in
    stff_done x cpu plan s m t ordered h runs n c.args.w top one c.in-Some.name c.in-Some.ensures.some.0 c.in-Some.ensures.some.1 k c.couple_at-couple.ensures c.put_over.result c.put_over.new.cpu c.requires.named.0 c.stuffed-reference.result c.word.result i spot c.word.ensures
    (c.put_over.ensures.row x plan s m t ordered h runs)
