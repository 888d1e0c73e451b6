use Rattle.std.proofs.Common.{sym, ◌∙◌, subst}
use Rattle.b67_word.specs.Tagged.{Tagged, word}
use Rattle.b67_model.specs.Answers.{Answer}
use Rattle.b67_model.specs.Steps.{Done}
use Rattle.b67_layout.specs.Meets.{Meets}
use Rattle.b67_layout.specs.Tops.{cells}
use Rattle.b67_fetch.proofs.Chosen.{two_words}
use Rattle.b67_exec.proofs.Calls.{cell_from}
use Rattle.b67_exec.proofs.Cases.{two_there, value_over, on_top}
use Rattle.b67_exec.proofs.entering_under.enter.Goals as goal

pub unreachable-requires : goal.unreachable-requires
unreachable-requires c =
    let q = c.requires.due.runs in
    let none : Tagged = word 0 0 in
    two_there q.storage c.args.cpu.now q.plan q.member q.task c.requires.due.place none none c.requires.due.enters c.in-Err.field-0 (c.in-Err.ensures.cells q.storage q.plan q.session q.member q.task q.ordered q.stands q.running)

pub enter_under-requires-clause-over : goal.enter_under-requires-clause-over
enter_under-requires-clause-over c =
    let q = c.requires.due.runs in
    (q, c.requires.due.place, value_over q.storage c.args.cpu.now q.plan q.member q.task c.requires.due.place c.in-Ok.two.0 c.in-Ok.two.1 c.requires.due.enters (c.in-Ok.ensures.cells q.storage q.plan q.session q.member q.task q.ordered q.stands q.running) c.in-Ok.ensures.above (sym c.tag.ensures.value ∙ c.if-tag-eq0.true))

pub enter_over-requires-clause-top : goal.enter_over-requires-clause-top
enter_over-requires-clause-top c =
    let q = c.requires.due.runs in
    let k = on_top q.storage c.args.cpu.now q.plan q.member q.task c.requires.due.place c.in-Ok.two.0 c.in-Ok.two.1 c.requires.due.enters (c.in-Ok.ensures.cells q.storage q.plan q.session q.member q.task q.ordered q.stands q.running) (λ e. c.if-tag-eq0.false (c.tag.ensures.value ∙ e)) in
    record { runs = q; place = c.requires.due.place; enters = k.leads }

pub enter_under-requires-clause-cell : goal.enter_under-requires-clause-cell
enter_under-requires-clause-cell c =
    let q = c.requires.due.runs in
    let cpu = c.args.cpu.now in
    let w = two_words q.storage q.plan q.member q.task cpu (cells q.task) c.in-Ok.two (c.in-Ok.ensures.cells q.storage q.plan q.session q.member q.task q.ordered q.stands q.running) in
    cell_from cpu c.in-Ok.two.0 c.args.cell ((c.requires.cell c.in-Ok.two.0 c.in-Ok.two.1 w.0 w.1).0 (sym c.tag.ensures.value ∙ c.if-tag-eq0.true))

pub enter_over-requires-clause-cell : goal.enter_over-requires-clause-cell
enter_over-requires-clause-cell c =
    let q = c.requires.due.runs in
    let cpu = c.args.cpu.now in
    let w = two_words q.storage q.plan q.member q.task cpu (cells q.task) c.in-Ok.two (c.in-Ok.ensures.cells q.storage q.plan q.session q.member q.task q.ordered q.stands q.running) in
    (c.in-Ok.two.1, w.1, cell_from cpu c.in-Ok.two.1 c.args.cell ((c.requires.cell c.in-Ok.two.0 c.in-Ok.two.1 w.0 w.1).1 (λ e. c.if-tag-eq0.false (c.tag.ensures.value ∙ e))))

pub returns-then-tag-eq0 : goal.returns-then-tag-eq0
returns-then-tag-eq0 c = record {
  row = λ x plan s m t ordered h runs q keeps enters.
      c.enter_under.ensures.row x plan s m t ordered h runs q keeps
      (value_over x c.args.cpu.now plan m t q c.in-Ok.two.0 c.in-Ok.two.1 enters (c.in-Ok.ensures.cells x plan s m t ordered h runs) c.in-Ok.ensures.above (sym c.tag.ensures.value ∙ c.if-tag-eq0.true));
}

pub returns-else-tag-eq0 : goal.returns-else-tag-eq0
returns-else-tag-eq0 c = record {
  row = λ x plan s m t ordered h runs q keeps enters.
      let k = on_top x c.args.cpu.now plan m t q c.in-Ok.two.0 c.in-Ok.two.1 enters (c.in-Ok.ensures.cells x plan s m t ordered h runs) (λ e. c.if-tag-eq0.false (c.tag.ensures.value ∙ e)) in
      let P : Answer Done → Type 0 = λ z. Meets x plan s m c.enter_over.result c.args.cpu.now c.enter_over.new.cpu z in
      subst P (sym (k.same keeps)) (c.enter_over.ensures.row x plan s m t ordered h runs q k.leads);
}
