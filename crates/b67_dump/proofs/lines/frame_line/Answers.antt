use Rattle.std.proofs.Common.{ℕ, Bool, ◌++◌, codes, decimal, sym, ◌∙◌, ap}
use Rattle.b67_word.specs.Tagged.{bits_at}
use Rattle.b67_layout_shown.specs.Reading.{word_seen_at, mscw_in, activation_by}
use Rattle.b67_layout_shown.specs.Machines.{sight_of}
use Rattle.b67_dump.specs.Dump.{beside}
use Rattle.b67_dump.specs.Walk.{head_text, record_at}
use Rattle.b67_dump.proofs.Lined.{bit_set, bit_clear, three, four, opened}
use Rattle.b67_dump.proofs.lines.frame_line.Goals as goal

pub returns-then-part-eq1 : goal.returns-then-part-eq1
returns-then-part-eq1 c = λ top.
    let k = sight_of c.args.machine.now in
    let w = word_seen_at k.core c.args.mark in
    let b = bit_set w 46 c.part.result (c.part.ensures.value ∙ ap (λ w. bits_at w 46 1) c.word_seen_at-w.ensures) c.if-part-eq1.true in
    let text = λ (level stack disp : ℕ). beside (codes "FRAME") (beside (decimal c.args.number) (beside (codes "LEVEL") (beside (decimal level) (beside (codes "ENV") (record_at k c.args.job (record { stack = stack; disp = disp })))))) in
    let outer = record_at k c.args.job (record { stack = c.part-then-part-eq1-2.result; disp = c.part-then-part-eq1-3.result }) in
    let rest = codes "LEVEL " ++ (decimal c.part-then-part-eq1.result ++ (codes " ENV " ++ outer)) in
    let behind = four c.with_text-line.result (codes "LEVEL ") (decimal c.part-then-part-eq1.result) (codes " ENV ") outer c.with_record.ensures.text c.with_text-then-part-eq1.ensures.text c.with_number-line.ensures.text c.with_text.ensures.text in
    opened (decimal c.args.number ++ (codes " " ++ rest)) (three c.line_of.result (decimal c.args.number) (codes " ") rest behind c.with_text-line.ensures.text c.with_number.ensures.text) c.line_of.ensures
    ∙ ap (λ n. text n c.part-then-part-eq1-2.result c.part-then-part-eq1-3.result) (c.part-then-part-eq1.ensures.value ∙ ap (λ w. bits_at w 14 5) c.word_seen_at-w.ensures)
    ∙ ap (λ n. text (bits_at w 14 5) n c.part-then-part-eq1-3.result) (c.part-then-part-eq1-2.ensures.value ∙ ap (λ w. bits_at w 36 10) c.word_seen_at-w.ensures)
    ∙ ap (λ n. text (bits_at w 14 5) (bits_at w 36 10) n) (c.part-then-part-eq1-3.ensures.value ∙ ap (λ w. bits_at w 20 16) c.word_seen_at-w.ensures)
    ∙ sym (ap (λ (e : Bool). beside (codes "FRAME") (beside (decimal c.args.number) (head_text k c.args.job (activation_by k.core c.args.mark top (mscw_in w) e).head))) b)

pub returns-else-part-eq1 : goal.returns-else-part-eq1
returns-else-part-eq1 c = λ top.
    let k = sight_of c.args.machine.now in
    let w = word_seen_at k.core c.args.mark in
    let b = bit_clear w 46 c.part.result (c.part.ensures.value ∙ ap (λ w. bits_at w 46 1) c.word_seen_at-w.ensures) c.if-part-eq1.false in
    opened (decimal c.args.number ++ (codes " " ++ codes "MARKED"))
    (three c.line_of.result (decimal c.args.number) (codes " ") (codes "MARKED") c.with_text-else-part-eq1.ensures.text c.with_text-line.ensures.text c.with_number.ensures.text) c.line_of.ensures
    ∙ sym (ap (λ (e : Bool). beside (codes "FRAME") (beside (decimal c.args.number) (head_text k c.args.job (activation_by k.core c.args.mark top (mscw_in w) e).head))) b)
