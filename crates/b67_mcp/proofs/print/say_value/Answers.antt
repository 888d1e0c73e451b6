use Rattle.std.proofs.Common.{ℤ, [], ◌++◌, refl, ap, ◌∙◌, arith, w64}
use Rattle.std.proofs.lemmas.Int.{to_z-of_z}
use Rattle.b67_model.specs.Lines.{task_name, value_text}
use Rattle.b67_mcp.proofs.Texts.{value_printed, whole_value, part_value}
use Rattle.b67_mcp.proofs.print.say_value.Goals as goal

pub returns-clause-whole : goal.returns-clause-whole
returns-clause-whole g c =
    let r = c.running_row-row in
    let is = c.value_line.ensures ∙ ap (λ (v : ℤ). task_name r.result.job r.result.number ++ value_text v) (to_z-of_z w64 c.args.value c.ranges.value) in
    whole_value g.K.Sink.taken c.args.paper.now c.put_rest.new.sink c.args.machine.now c.args.value c.value_line.result c.args.printed.now c.put_rest.new.printed
    (λ x told plan s m t o h runs code. value_printed m t r.result.job r.result.number c.args.value c.value_line.result (r.ensures.job x told plan s m t o h runs code) (r.ensures.number x told plan s m t o h runs code) is)
    (c.put_rest.ensures.text [] [] refl (omega arith)) c.put_rest.result c.put_rest.ensures.whole

pub returns-clause-part : goal.returns-clause-part
returns-clause-part g c =
    let r = c.running_row-row in
    let is = c.value_line.ensures ∙ ap (λ (v : ℤ). task_name r.result.job r.result.number ++ value_text v) (to_z-of_z w64 c.args.value c.ranges.value) in
    part_value g.K.Sink.taken c.args.paper.now c.put_rest.new.sink c.args.machine.now c.args.value c.value_line.result c.args.printed.now c.put_rest.new.printed
    (λ x told plan s m t o h runs code. value_printed m t r.result.job r.result.number c.args.value c.value_line.result (r.ensures.job x told plan s m t o h runs code) (r.ensures.number x told plan s m t o h runs code) is)
    (c.put_rest.ensures.text [] [] refl (omega arith)) c.put_rest.result c.put_rest.ensures.part
