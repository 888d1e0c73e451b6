use Rattle.std.proofs.Common.{◌+◌, ◌-◌, ℕ, ℤ, List, [], ◌∷◌, ◌++◌, length-append, ap, ◌∙◌, arith, subst, w64, to_z, of_z}
use Rattle.std.proofs.lemmas.Result.{err_from_is_err_and}
use Rattle.std.proofs.lemmas.Int.{to_z-of_z}
use Rattle.b67_model.specs.Lines.{task_name, value_text}
use Rattle.b67_mcp.specs.Texts.{still, IsPrinting}
use Rattle.b67_mcp.proofs.Lines.{adds_here, adds_next, adds_cut}
use Rattle.b67_mcp.proofs.print_row_lines.add.Goals as goal

pub returns-then-begun-gt0-clause-adds : goal.returns-then-begun-gt0-clause-adds
returns-then-begun-gt0-clause-adds g c = λ before vs long past.
    (let name = task_name c.args.job c.args.task in
    let line = c.args.begun.now.line in
    let room = c.args.begun.now.room in
    let was = c.args.printed.now in
    let is = c.add_value.ensures.text ∙ ap (λ (z : ℤ). line ++ value_text z) (to_z-of_z w64 c.args.value c.ranges.value) in
    let P : ℕ → Type 0 = λ start. IsPrinting g.K.Sink.taken c.args.paper.now c.args.paper.now (before ++ still name line room (c.args.value ∷ vs)) was was start (still name c.add_value.new.line (room - 1) vs) in
    subst P long (adds_here g.K.Sink.taken c.args.paper.now c.args.paper.now name c.args.value vs line before was (omega (arith, long, past)) c.add_value.new.line room c.if-begun-gt0.true is))

pub returns-in_err-put_rest-clause-part : goal.returns-in_err-put_rest-clause-part
returns-in_err-put_rest-clause-part g c =
    let failed = err_from_is_err_and c.from_residual.result c.from_residual.ensures.1 in
    rw failed.1 (λ before vs long past.
    (let name = task_name c.args.job c.args.task in
    let line = c.args.begun.now.line in
    adds_cut g.K.Sink.taken c.args.paper.now c.put_rest.new.sink name c.args.value vs line before c.args.printed.now (omega (arith, long, past)) c.args.begun.now.room c.put_rest.new.printed (omega (arith, c.if-begun-gt0.false)) c.in_err-put_rest.ensures.part.0
    (omega (arith, long, c.in_err-put_rest.ensures.part.1, length-append line (10 ∷ []))) (λ after. c.in_err-put_rest.ensures.text before after long past)))

pub returns-clause-adds : goal.returns-clause-adds
returns-clause-adds g c = λ before vs long past.
    (let name = task_name c.args.job c.args.task in
    let line = c.args.begun.now.line in
    let start = c.args.begun.now.start + (c.len.result + 1) in
    let is = c.add_value-2.ensures.text ∙ ap (λ (l : List ℕ). l ++ value_text (to_z w64 (of_z w64 c.args.value))) c.name_line-begun.ensures.text ∙ ap (λ (z : ℤ). name ++ value_text z) (to_z-of_z w64 c.args.value c.ranges.value) in
    adds_next g.K.Sink.taken c.args.paper.now c.put_rest.new.sink name c.args.value vs line before c.args.printed.now (omega (arith, long, past)) c.args.begun.now.room c.put_rest.new.printed start c.add_value-2.new.line (omega (arith, c.if-begun-gt0.false))
    (omega (arith, long, c.len.ensures.len, length-append line (10 ∷ []))) (omega (arith, c.in_ok-put_rest.ensures.whole, c.len.ensures.len)) is (λ after. c.in_ok-put_rest.ensures.text before after long past))
