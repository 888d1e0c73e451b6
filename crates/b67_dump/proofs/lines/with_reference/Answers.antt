use Rattle.std.proofs.Common.{◌++◌, List, ℕ, Bool, codes, decimal, arith, sym, ◌∙◌, ap}
use Rattle.b67_word.specs.Tagged.{bits_at}
use Rattle.b67_layout_shown.specs.Shown.{reference_by}
use Rattle.b67_layout_shown.specs.Machines.{sight_of}
use Rattle.b67_dump.specs.Dump.{beside, hex_number}
use Rattle.b67_dump.specs.Walk.{record_at, number_of_place, word_text}
use Rattle.b67_dump.proofs.Lined.{bit_set, bit_clear, place_back, two, four}
use Rattle.b67_dump.proofs.lines.with_reference.Goals as goal

pub returns-then-part-eq1 : goal.returns-then-part-eq1
returns-then-part-eq1 c = λ row.
    let k = sight_of c.args.machine.now in
    let b = bit_set c.args.w 46 c.part.result c.part.ensures.value c.if-part-eq1.true in
    let rest = λ (stack disp n : ℕ). c.args.line ++ beside (codes "REF") (beside (record_at k c.args.job (record { stack = stack; disp = disp })) (decimal n)) in
    let text = four c.args.line (codes "REF ") (record_at k c.args.job (record { stack = c.part-then-part-eq1.result; disp = c.part-then-part-eq1-2.result })) (codes " ") (decimal c.part-then-part-eq1-3.result) c.with_number.ensures.text c.with_text.ensures.text c.with_record-line.ensures.text c.with_text-line.ensures.text
    ∙ ap (λ n. rest n c.part-then-part-eq1-2.result c.part-then-part-eq1-3.result) c.part-then-part-eq1.ensures.value
    ∙ ap (λ n. rest (bits_at c.args.w 36 10) n c.part-then-part-eq1-3.result) c.part-then-part-eq1-2.ensures.value
    ∙ ap (λ n. rest (bits_at c.args.w 36 10) (bits_at c.args.w 20 16) n) c.part-then-part-eq1-3.ensures.value in
    text ∙ ap (λ (t : List ℕ). c.args.line ++ beside (codes "REF") (beside t (decimal (bits_at c.args.w 0 13)))) (place_back k c.args.job (bits_at c.args.w 36 10) (bits_at c.args.w 20 16) (let low = c.part-then-part-eq1-2.ensures.small in let e = c.part-then-part-eq1-2.ensures.value in omega (arith, low, e)))
    ∙ sym (ap (λ (s : Bool). c.args.line ++ word_text k row c.args.job (reference_by c.args.w number_of_place s)) b)

pub returns-else-part-eq1 : goal.returns-else-part-eq1
returns-else-part-eq1 c = λ row.
    let b = bit_clear c.args.w 46 c.part.result c.part.ensures.value c.if-part-eq1.false in
    let text = two c.args.line (codes "NAME ") (hex_number 4 c.part-else-part-eq1.result) c.with_hex.ensures.text c.with_text-else-part-eq1.ensures.text ∙ ap (λ n. c.args.line ++ beside (codes "NAME") (hex_number 4 n)) c.part-else-part-eq1.ensures.value in
    text ∙ sym (ap (λ (s : Bool). c.args.line ++ word_text (sight_of c.args.machine.now) row c.args.job (reference_by c.args.w number_of_place s)) b)
