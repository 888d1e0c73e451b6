use Rattle.std.proofs.Common.{List, ap, ◌∙◌, arith}
use Rattle.std.specs.List.{list_any}
use Rattle.b67_task.specs.declared.tables.TaskRow.{TaskRow}
use Rattle.b67_task.specs.Marks.{depends_on}
use Rattle.b67_task.proofs.Depending.{mark_told, none_told, no_slot}
use Rattle.b67_task.proofs.marks.critical.Goals as goal

pub returns-then-slot-ge-MOST_STACKS-clause-mark : goal.returns-then-slot-ge-MOST_STACKS-clause-mark
returns-then-slot-ge-MOST_STACKS-clause-mark c = λ x told plan s m t f o h a. absurd (no_slot x told c.args.machine.now plan s o h m t f c.args.slot c.args.mark c.if-slot-ge-MOST_STACKS.true a)

pub returns-clause-mark : goal.returns-clause-mark
returns-clause-mark c = λ x told plan s m t f o h a.
    c.some_depends.ensures
    ∙ ap (λ (l : List TaskRow). list_any (depends_on c.args.slot c.args.mark) l) c.as_slice.ensures.value
    ∙ mark_told x told c.args.machine.now plan s o h m t f c.args.slot c.args.mark a

pub returns-clause-none : goal.returns-clause-none
returns-clause-none c = λ x told plan s o h none.
    c.some_depends.ensures
    ∙ ap (λ (l : List TaskRow). list_any (depends_on c.args.slot c.args.mark) l) c.as_slice.ensures.value
    ∙ none_told x told c.args.machine.now plan s o h c.args.slot c.args.mark (omega (arith, c.if-slot-ge-MOST_STACKS.false)) none
