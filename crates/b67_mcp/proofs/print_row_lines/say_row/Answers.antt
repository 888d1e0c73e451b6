use Rattle.std.proofs.Common.{◌≡◌, ℤ, List, [], ◌∷◌, ◌++◌, length-append, ap, sym, ◌∙◌, arith, w64, to_z, of_z, subst}
use Rattle.std.proofs.lemmas.Result.{err_from_is_err_and}
use Rattle.std.proofs.lemmas.Int.{to_z-of_z}
use Rattle.std.proofs.lemmas.Option.{same_Some}
use Rattle.b67_io.specs.Line.{ended}
use Rattle.b67_session_lines.specs.Parts.{TookMore}
use Rattle.b67_model.specs.Lines.{task_name, row_text}
use Rattle.b67_mcp.specs.Texts.{still, IsPrinting}
use Rattle.b67_mcp.proofs.Values.{splits, none_behind}
use Rattle.b67_mcp.proofs.RowLengths.{fits_of}
use Rattle.b67_mcp.proofs.Lines.{printing_then, more_then, rest_then, goes_last, on_ok, on_err}
use Rattle.b67_mcp.proofs.print_row_lines.say_row.Goals as goal

pub returns-in_err-add-clause-part : goal.returns-in_err-add-clause-part
returns-in_err-add-clause-part g c =
    let failed = err_from_is_err_and c.from_residual.result c.from_residual.ensures.1 in
    rw failed.1 (λ values e.
    (let left = c.loop-w.invariant.left in
    let sp = splits c.args.row.now c.loop-w.w-index c.w-item.result left.0 c.loop-w-test.true c.w-item.is left.1 in
    let v = c.value_in.result in
    let name = task_name c.args.job c.args.task in
    let line = c.loop-w.begun.line in
    let room = c.loop-w.begun.room in
    let is : left.0 ≡ to_z w64 (of_z w64 v) ∷ sp.more = sp.all ∙ ap (λ (z : ℤ). z ∷ sp.more) (same_Some sp.value v (sym sp.first ∙ c.value_in.ensures.value) ∙ sym (to_z-of_z w64 v (fits_of v c.value_in.ensures.small))) in
    let p = left.2 values e in
    more_then g.K.Sink.taken c.args.paper.now c.loop-w.paper (name ++ row_text name 10 values) c.args.printed.now c.loop-w.printed c.loop-w.begun.start (still name line room left.0) p c.add.new.paper c.add.new.printed
    (subst (λ (vs : List ℤ). TookMore g.K.Sink.taken c.loop-w.paper c.add.new.paper (p.lines ++ still name line room vs) c.loop-w.printed c.add.new.printed) (sym is) (c.in_err-add.ensures.part p.lines sp.more p.long p.past))))

pub loop-w-preserved : goal.loop-w-preserved
loop-w-preserved g c =
    let left = c.loop-w.invariant.left in
    let sp = splits c.args.row.now c.loop-w.w-index c.w-item.result left.0 c.loop-w-test.true c.w-item.is left.1 in
    let v = c.value_in.result in
    let name = task_name c.args.job c.args.task in
    let line = c.loop-w.begun.line in
    let room = c.loop-w.begun.room in
    let is : left.0 ≡ to_z w64 (of_z w64 v) ∷ sp.more = sp.all ∙ ap (λ (z : ℤ). z ∷ sp.more) (same_Some sp.value v (sym sp.first ∙ c.value_in.ensures.value) ∙ sym (to_z-of_z w64 v (fits_of v c.value_in.ensures.small))) in
    record {
      short = c.in_ok-add.ensures.short;
      start = omega (arith, c.loop-w.invariant.start, c.in_ok-add.ensures.start);
      later = omega (arith, c.loop-w.invariant.later, c.in_ok-add.ensures.cause.later);
      left = (
        sp.more,
        sp.others,
        λ all e.
            (let p = left.2 all e in
            let behind = still name c.add.new.begun.line c.add.new.begun.room sp.more in
            printing_then g.K.Sink.taken c.args.paper.now c.loop-w.paper (name ++ row_text name 10 all) c.args.printed.now c.loop-w.printed c.loop-w.begun.start (still name line room left.0) p c.add.new.paper c.add.new.printed c.add.new.begun.start behind
            (subst (λ (vs : List ℤ). IsPrinting g.K.Sink.taken c.loop-w.paper c.add.new.paper (p.lines ++ still name line room vs) c.loop-w.printed c.add.new.printed c.add.new.begun.start behind) (sym is) (c.in_ok-add.ensures.adds p.lines sp.more p.long p.past))),
      );
    }

pub returns-clause-whole : goal.returns-clause-whole
returns-clause-whole g c =
    on_ok c.put_rest.result _ _ (λ most values e.
    (let left = c.loop-w.invariant.left in
    let name = task_name c.args.job c.args.task in
    let line = c.loop-w.begun.line in
    let none = none_behind c.args.row.now c.loop-w.w-index left.0 c.loop-w-test.false left.1 in
    let p = subst (λ (vs : List ℤ). IsPrinting g.K.Sink.taken c.args.paper.now c.loop-w.paper (name ++ row_text name 10 values) c.args.printed.now c.loop-w.printed c.loop-w.begun.start (still name line c.loop-w.begun.room vs)) none (left.2 values e) in
    rest_then g.K.Sink.taken c.args.paper.now c.loop-w.paper (name ++ row_text name 10 values) c.args.printed.now c.loop-w.printed c.loop-w.begun.start (ended line) p c.put_rest.new.sink c.put_rest.new.printed
    (omega (arith, most, length-append line (10 ∷ []))) (goes_last g.K.Sink.taken c.loop-w.paper c.put_rest.new.sink p.lines (ended line) c.loop-w.printed c.put_rest.new.printed (c.put_rest.ensures.text p.lines [] p.long p.past)))) c.put_rest.ensures.whole

pub returns-clause-part : goal.returns-clause-part
returns-clause-part g c =
    on_err c.put_rest.result _ _ (λ cut values e.
    (let left = c.loop-w.invariant.left in
    let name = task_name c.args.job c.args.task in
    let line = c.loop-w.begun.line in
    let none = none_behind c.args.row.now c.loop-w.w-index left.0 c.loop-w-test.false left.1 in
    let p = subst (λ (vs : List ℤ). IsPrinting g.K.Sink.taken c.args.paper.now c.loop-w.paper (name ++ row_text name 10 values) c.args.printed.now c.loop-w.printed c.loop-w.begun.start (still name line c.loop-w.begun.room vs)) none (left.2 values e) in
    more_then g.K.Sink.taken c.args.paper.now c.loop-w.paper (name ++ row_text name 10 values) c.args.printed.now c.loop-w.printed c.loop-w.begun.start (ended line) p c.put_rest.new.sink c.put_rest.new.printed (record {
      continues = goes_last g.K.Sink.taken c.loop-w.paper c.put_rest.new.sink p.lines (ended line) c.loop-w.printed c.put_rest.new.printed (c.put_rest.ensures.text p.lines [] p.long p.past);
      later = cut.0;
      proper = omega (arith, cut.1, p.long, length-append p.lines (ended line), length-append line (10 ∷ []));
    }))) c.put_rest.ensures.part
