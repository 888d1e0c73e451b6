use Rattle.std.proofs.Common.{◌≡◌, ℕ, ◌-◌, ◌/◌, ◌++◌, List, length, map, true, false, codes, decimal, append_assoc, sym, ◌∙◌, ap, arith}
use Rattle.std.specs.Prelude.{nat_lt}
use Rattle.std.proofs.lemmas.Bool.{lt-ltb, le-ltb}
use Rattle.b67_model.specs.Lines.{task_name}
use Rattle.b67_task.specs.declared.tables.TaskRow.{TaskRow}
use Rattle.b67_task.specs.Tables.{task_row}
use Rattle.b67_layout_shown.specs.Shown.{number_seen}
use Rattle.b67_layout_shown.specs.Machines.{sight_of}
use Rattle.b67_dump.specs.Dump.{beside}
use Rattle.b67_dump.specs.Walk.{marks_under, offset_from}
use Rattle.b67_dump.specs.Landmarks.{marks_of_slot}
use Rattle.b67_dump.proofs.Lined.{four, five}
use Rattle.b67_dump.proofs.lines.with_array.Goals as goal

pub returns-then-home-stacks-clause-text : goal.returns-then-home-stacks-clause-text
returns-then-home-stacks-clause-text c =
    let b : nat_lt c.args.home c.args.machine.now.cpu.regs.stacks ≡ true = lt-ltb c.args.home c.args.machine.now.cpu.regs.stacks c.if-home-stacks.true in
    rw b (four c.args.line (codes "DICT ") (decimal c.args.job) (codes " ") (decimal c.from.result) c.with_number-then-home-stacks.ensures.text c.with_text-line.ensures.text c.with_number.ensures.text c.with_text.ensures.text
    ∙ ap (λ n. c.args.line ++ beside (beside (codes "DICT") (decimal c.args.job)) (decimal n)) (c.from.ensures ∙ c.saturating_sub.ensures))

pub returns-clause-text : goal.returns-clause-text
returns-clause-text c =
    let k = sight_of c.args.machine.now in
    let b : nat_lt c.args.home k.regs.stacks ≡ false = le-ltb c.args.home k.regs.stacks (omega (arith, c.if-home-stacks.false)) in
    let slot = c.from-slot.ensures ∙ c.slot_over.ensures in
    let place = (c.args.home - k.regs.stacks) / k.regs.stack_size in
    let number = c.number_in_slot-number.ensures ∙ ap (λ (xs : List TaskRow). number_seen (map task_row xs) c.from-slot.result) c.as_slice.ensures.value ∙ ap (number_seen k.tasks) slot in
    let under = λ (n : ℕ). marks_under c.args.home (marks_of_slot k n) in
    let count = c.from-2.ensures ∙ c.owner_in-owner.ensures.number ∙ ap (λ n. length (under n)) slot in
    let offset = c.owner_in-owner.ensures.offset ∙ ap (λ n. offset_from k.core c.args.home (under n)) slot in
    rw b (five c.args.line (task_name c.args.job c.number_in_slot-number.result) (codes " ") (decimal c.from-2.result) (codes " ") (decimal c.owner_in-owner.result.offset) c.with_number-3.ensures.text c.with_text-line-3.ensures.text c.with_number-2.ensures.text c.with_text-line-2.ensures.text c.with_task.ensures.text
    ∙ ap (λ (t : List ℕ). c.args.line ++ t) (sym (append_assoc (task_name c.args.job c.number_in_slot-number.result) (codes " " ++ decimal c.from-2.result) (codes " " ++ decimal c.owner_in-owner.result.offset)))
    ∙ ap (λ n. c.args.line ++ beside (beside (task_name c.args.job n) (decimal c.from-2.result)) (decimal c.owner_in-owner.result.offset)) number
    ∙ ap (λ n. c.args.line ++ beside (beside (task_name c.args.job (number_seen k.tasks place)) (decimal n)) (decimal c.owner_in-owner.result.offset)) count
    ∙ ap (λ n. c.args.line ++ beside (beside (task_name c.args.job (number_seen k.tasks place)) (decimal (length (under place)))) (decimal n)) offset)
