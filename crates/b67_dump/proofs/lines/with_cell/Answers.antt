use Rattle.std.proofs.Common.{◌≡◌, ◌++◌, Bool, codes, decimal, true, false, rules, sym, ◌∙◌, ap}
use Rattle.std.specs.Prelude.{◌==◌}
use Rattle.std.proofs.lemmas.Bool.{eq-eqb, ne_eqb}
use Rattle.b67_word.specs.Tagged.{Tagged, bits_at}
use Rattle.b67_stack.specs.Shapes.{Shape, Is}
use Rattle.b67_task.specs.Tables.{job_row}
use Rattle.b67_layout_shown.specs.Reading.{word_seen_at, shape_by, desc_in, descriptor_by}
use Rattle.b67_layout_shown.specs.Machines.{sight_of}
use Rattle.b67_dump.specs.Dump.{beside}
use Rattle.b67_dump.specs.Walk.{shape_text}
use Rattle.b67_dump.proofs.Lined.{bit_set, bit_clear, two}
use Rattle.b67_dump.proofs.lines.with_cell.Goals as goal

pub returns-then-tag-ne5 : goal.returns-then-tag-ne5
returns-then-tag-ne5 c =
    let w = word_seen_at c.args.machine.now.cpu.core c.args.at in
    let text = λ (s : Shape). c.args.line ++ shape_text (sight_of c.args.machine.now) (job_row c.args.row.now) c.args.job s in
    let a : (w.tag == 5) ≡ false = ne_eqb w.tag 5 (λ e. c.if-tag-ne5.true (c.tag.ensures.value ∙ ap (λ (w : Tagged). w.tag) c.word_seen_at-w.ensures ∙ e)) in
    c.with_plain.ensures (job_row c.args.row.now) ∙ ap (λ (w : Tagged). text (Is w)) c.word_seen_at-w.ensures ∙ sym (ap (λ (b : Bool). text (shape_by c.args.machine.now.cpu.core c.args.at w b)) a)

pub returns-then-part-eq1 : goal.returns-then-part-eq1
returns-then-part-eq1 c =
    let w = word_seen_at c.args.machine.now.cpu.core c.args.at in
    let text = λ (s : Shape). c.args.line ++ shape_text (sight_of c.args.machine.now) (job_row c.args.row.now) c.args.job s in
    let five : c.tag.result ≡ 5 = search rules in
    let a : (w.tag == 5) ≡ true = eq-eqb w.tag 5 (sym (c.tag.ensures.value ∙ ap (λ (w : Tagged). w.tag) c.word_seen_at-w.ensures) ∙ five) in
    let b = bit_set w 46 c.part.result (c.part.ensures.value ∙ ap (λ w. bits_at w 46 1) c.word_seen_at-w.ensures) c.if-part-eq1.true in
    c.with_copy.ensures ∙ ap (λ (w : Tagged). text (descriptor_by c.args.machine.now.cpu.core 0 (desc_in w) true)) c.word_seen_at-w.ensures
    ∙ sym (ap (λ (b : Bool). text (descriptor_by c.args.machine.now.cpu.core c.args.at (desc_in w) b)) b) ∙ sym (ap (λ (b : Bool). text (shape_by c.args.machine.now.cpu.core c.args.at w b)) a)

pub returns-else-part-eq1 : goal.returns-else-part-eq1
returns-else-part-eq1 c =
    let w = word_seen_at c.args.machine.now.cpu.core c.args.at in
    let text = λ (s : Shape). c.args.line ++ shape_text (sight_of c.args.machine.now) (job_row c.args.row.now) c.args.job s in
    let five : c.tag.result ≡ 5 = search rules in
    let a : (w.tag == 5) ≡ true = eq-eqb w.tag 5 (sym (c.tag.ensures.value ∙ ap (λ (w : Tagged). w.tag) c.word_seen_at-w.ensures) ∙ five) in
    let b = bit_clear w 46 c.part.result (c.part.ensures.value ∙ ap (λ w. bits_at w 46 1) c.word_seen_at-w.ensures) c.if-part-eq1.false in
    let here = two c.args.line (codes "ARRAY ") (decimal c.part-else-part-eq1.result) c.with_number.ensures.text c.with_text.ensures.text
    ∙ ap (λ n. c.args.line ++ beside (codes "ARRAY") (decimal n)) (c.part-else-part-eq1.ensures.value ∙ ap (λ w. bits_at w 20 20) c.word_seen_at-w.ensures) in
    here ∙ sym (ap (λ (b : Bool). text (descriptor_by c.args.machine.now.cpu.core c.args.at (desc_in w) b)) b) ∙ sym (ap (λ (b : Bool). text (shape_by c.args.machine.now.cpu.core c.args.at w b)) a)
