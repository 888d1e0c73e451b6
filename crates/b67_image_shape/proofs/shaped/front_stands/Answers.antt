use Rattle.std.proofs.Common.{List, map, ◌∙◌, ap}
use Rattle.b67_layout_shown.specs.Machines.{sight_of}
use Rattle.b67_task.specs.declared.tables.TaskRow.{TaskRow}
use Rattle.b67_task.specs.Tables.{task_row}
use Rattle.b67_image_shape.specs.TableTests.{tables_test}
use Rattle.b67_image_shape.specs.FixedTests.{fixed_test, critical_test}
use Rattle.b67_image_shape.specs.Shaping.{FrontFacts}
use Rattle.b67_image_shape.proofs.Deciding.{nothing}
use Rattle.b67_image_shape.proofs.Shaping.{passes, fails, front_told}
use Rattle.b67_image_shape.proofs.shaped.front_stands.Goals as goal

pub returns-then-not-tables_pass : goal.returns-then-not-tables_pass
returns-then-not-tables_pass c = nothing (λ (f : FrontFacts c.args.machine.now). fails (tables_test (sight_of c.args.machine.now)) c.tables_pass.result (c.tables_are_tested.ensures (sight_of c.args.machine.now)) c.tables_pass.ensures c.if-not-tables_pass.true f.tables)

pub returns-then-not-fixed_passes : goal.returns-then-not-fixed_passes
returns-then-not-fixed_passes c =
    let k = c.args.machine.now in
    nothing (λ (f : FrontFacts c.args.machine.now). fails (fixed_test (sight_of k) k.areas.low k.areas.size) c.fixed_passes.result (c.fixed_words_are_tested.ensures (sight_of k) k.areas.low k.areas.size) c.fixed_passes.ensures c.if-not-fixed_passes.true f.fixed)

pub returns-then-not-critical_passes : goal.returns-then-not-critical_passes
returns-then-not-critical_passes c =
    let k = c.args.machine.now in
    nothing (λ (f : FrontFacts c.args.machine.now). fails (critical_test k.cpu.critical (sight_of k).tasks) c.critical_passes.result (c.critical_marks_are_tested.ensures k.cpu.critical (sight_of k).tasks)
    (c.critical_passes.ensures ∙ ap (λ (xs : List TaskRow). critical_test c.args.machine.now.cpu.critical (map task_row xs)) c.as_slice.ensures.value) c.if-not-critical_passes.true f.critical)

pub stacks_stand-requires-clause-tables : goal.stacks_stand-requires-clause-tables
stacks_stand-requires-clause-tables c = passes (tables_test (sight_of c.args.machine.now)) c.tables_pass.result (c.tables_are_tested.ensures (sight_of c.args.machine.now)) c.tables_pass.ensures c.if-not-tables_pass.false

pub stacks_stand-requires-clause-fixed : goal.stacks_stand-requires-clause-fixed
stacks_stand-requires-clause-fixed c =
    let k = c.args.machine.now in
    passes (fixed_test (sight_of k) k.areas.low k.areas.size) c.fixed_passes.result (c.fixed_words_are_tested.ensures (sight_of k) k.areas.low k.areas.size) c.fixed_passes.ensures c.if-not-fixed_passes.false

pub returns-then-not-stacks_stand : goal.returns-then-not-stacks_stand
returns-then-not-stacks_stand c = nothing (λ (f : FrontFacts c.args.machine.now). c.if-not-stacks_stand.ensures.not f.stacks)

pub returns : goal.returns
returns c =
    let k = c.args.machine.now in
    front_told c.args.machine.now c.reaches.result c.reaches.ensures c.reaches_are_decided.ensures
    (passes (tables_test (sight_of k)) c.tables_pass.result (c.tables_are_tested.ensures (sight_of k)) c.tables_pass.ensures c.if-not-tables_pass.false)
    (passes (fixed_test (sight_of k) k.areas.low k.areas.size) c.fixed_passes.result (c.fixed_words_are_tested.ensures (sight_of k) k.areas.low k.areas.size) c.fixed_passes.ensures c.if-not-fixed_passes.false)
    (passes (critical_test k.cpu.critical (sight_of k).tasks) c.critical_passes.result (c.critical_marks_are_tested.ensures k.cpu.critical (sight_of k).tasks)
    (c.critical_passes.ensures ∙ ap (λ (xs : List TaskRow). critical_test c.args.machine.now.cpu.critical (map task_row xs)) c.as_slice.ensures.value) c.if-not-critical_passes.false)
    c.if-not-stacks_stand.ensures.yes
