use Rattle.std.proofs.Common.{◌≤◌, arith, sym, ◌∙◌, ap, subst, map}
use Rattle.std.specs.Prelude.{List}
use Rattle.b67_task.specs.declared.tables.JobRow.{JobRow}
use Rattle.b67_task.specs.Tables.{task_row, job_row}
use Rattle.b67_image_shape.specs.TableFacts.{row_in_slot}
use Rattle.b67_image_shape.specs.TableMarks.{end_by}
use Rattle.b67_layout_shown.specs.Machines.{sight_of}
use Rattle.b67_image_shape.specs.ObjectTable.{is_original_word, mark_in_dictionary}
use Rattle.b67_image_shape.proofs.TableTurns.{below_slots, no_slots, past_slots, low_mark, high_mark, other_mark, here_mark, word_read, slot_is}
use Rattle.b67_image_shape.proofs.table.mark_of.Goals as goal

pub returns-then-at-regs : goal.returns-then-at-regs
returns-then-at-regs c = below_slots (sight_of c.args.machine.now) c.args.at _ c.if-at-regs.true (c.mark_in_dictionary.ensures ∙ ap (λ (js : List JobRow). mark_in_dictionary (map job_row js) c.args.at) c.as_slice.ensures)

pub returns-then-size-eq0 : goal.returns-then-size-eq0
returns-then-size-eq0 c = no_slots (sight_of c.args.machine.now) c.args.at c.requires.slots (omega (arith, c.if-at-regs.false)) (omega (arith, c.if-size-eq0.true, c.from-size.ensures))

pub returns-then-slot : goal.returns-then-slot
returns-then-slot c = past_slots (sight_of c.args.machine.now) c.args.at c.requires.slots (omega (arith, c.if-at-regs.false)) (subst (λ n. 120 ≤ n) (slot_is (sight_of c.args.machine.now) c.args.at c.from-size.result c.from-size.ensures) (omega (arith, c.if-slot.true)))

pub returns-then-from : goal.returns-then-from
returns-then-from c = low_mark (sight_of c.args.machine.now) c.args.at c.from.result c.from-2.result c.from-3.result c.from-4.result (omega (arith, c.if-at-regs.false)) c.from.ensures c.from-2.ensures (c.from-3.ensures ∙ (slot_is (sight_of c.args.machine.now) c.args.at c.from-size.result c.from-size.ensures)) c.from-4.ensures (omega (arith, c.if-from.true))

pub returns-then-from-ends : goal.returns-then-from-ends
returns-then-from-ends c = high_mark (sight_of c.args.machine.now) c.args.at c.from-5.result _ (omega (arith, c.if-at-regs.false)) c.from-5.ensures (c.requires.ends.1 _ (omega (arith, c.if-slot.false)) ∙ ap (λ n. end_by (sight_of c.args.machine.now) (row_in_slot (map task_row c.args.machine.now.tasks.rows.items) n)) (slot_is (sight_of c.args.machine.now) c.args.at c.from-size.result c.from-size.ensures)) (omega (arith, c.if-from-ends.true))

pub returns-then-not-is_original_word : goal.returns-then-not-is_original_word
returns-then-not-is_original_word c = other_mark (sight_of c.args.machine.now) c.args.at (omega (arith, c.if-at-regs.false)) (ap is_original_word (sym (word_read c.args.machine.now.cpu.core c.args.at c.get.result c.get.ensures)) ∙ sym c.is_original_word.ensures ∙ c.if-not-is_original_word.true)

pub returns : goal.returns
returns c = here_mark (sight_of c.args.machine.now) c.args.at c.from.result c.from-2.result c.from-3.result c.from-4.result c.from-5.result _ (omega (arith, c.if-at-regs.false)) c.from.ensures c.from-2.ensures (c.from-3.ensures ∙ (slot_is (sight_of c.args.machine.now) c.args.at c.from-size.result c.from-size.ensures)) c.from-4.ensures (omega (arith, c.if-from.false)) c.from-5.ensures
    (c.requires.ends.1 _ (omega (arith, c.if-slot.false)) ∙ ap (λ n. end_by (sight_of c.args.machine.now) (row_in_slot (map task_row c.args.machine.now.tasks.rows.items) n)) (slot_is (sight_of c.args.machine.now) c.args.at c.from-size.result c.from-size.ensures)) (omega (arith, c.if-from-ends.false))
    (ap is_original_word (sym (word_read c.args.machine.now.cpu.core c.args.at c.get.result c.get.ensures)) ∙ sym c.is_original_word.ensures ∙ c.if-not-is_original_word.false)
