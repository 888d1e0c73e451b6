use Rattle.std.proofs.Common.{sym, subst}
use Rattle.b67_layout_shown.specs.Machines.{sight_of, RepresentsOne}
use Rattle.b67_image_shape.specs.TableMarks.{IsTable}
use Rattle.b67_image_shape.proofs.Shaping.{items, one_front, one_kept, but_display, told, one_stands, granted, denied}
use Rattle.b67_image_shape.proofs.Deciding.{on_true, on_false}
use Rattle.b67_image_shape.proofs.shaped.is_shaped.Goals as goal

pub returns-then-not-front_stands-clause-none : goal.returns-then-not-front_stands-clause-none
returns-then-not-front_stands-clause-none c = λ (one : RepresentsOne c.args.machine.now). denied c.front_stands.result c.front_stands.ensures c.if-not-front_stands.true (one_front c.machines_are_shown.ensures c.items_are_exact.ensures c.args.machine.now c.stacks_are_near.ensures one)

pub table_of-requires : goal.table_of-requires
table_of-requires c =
    let f = granted c.front_stands.result c.front_stands.ensures c.if-not-front_stands.false in
    record { slots = c.slots_are_there.ensures (sight_of c.args.machine.now) c.args.machine.now.areas.low c.args.machine.now.areas.size f.tables f.fixed }

pub are_cells_in_order-requires-clause-tables : goal.are_cells_in_order-requires-clause-tables
are_cells_in_order-requires-clause-tables c = (granted c.front_stands.result c.front_stands.ensures c.if-not-front_stands.false).tables

pub are_cells_in_order-requires-clause-fixed : goal.are_cells_in_order-requires-clause-fixed
are_cells_in_order-requires-clause-fixed c = (granted c.front_stands.result c.front_stands.ensures c.if-not-front_stands.false).fixed

pub are_cells_in_order-requires-clause-stacks : goal.are_cells_in_order-requires-clause-stacks
are_cells_in_order-requires-clause-stacks c = (granted c.front_stands.result c.front_stands.ensures c.if-not-front_stands.false).stacks

pub are_cells_in_order-requires-clause-kinds : goal.are_cells_in_order-requires-clause-kinds
are_cells_in_order-requires-clause-kinds c = subst (IsTable (sight_of c.args.machine.now)) (sym c.as_slice.ensures.value) c.in_ok-kinds.ensures

pub returns-then-not-ordered-clause-none : goal.returns-then-not-ordered-clause-none
returns-then-not-ordered-clause-none c = λ (one : RepresentsOne c.args.machine.now). denied _ c.in_ok-ordered.ensures c.if-not-ordered.true (items c.machines_are_shown.ensures c.items_are_exact.ensures c.args.machine.now one).cells

pub objects_stand-requires-clause-front : goal.objects_stand-requires-clause-front
objects_stand-requires-clause-front c = granted c.front_stands.result c.front_stands.ensures c.if-not-front_stands.false

pub objects_stand-requires-clause-kinds : goal.objects_stand-requires-clause-kinds
objects_stand-requires-clause-kinds c = subst (IsTable (sight_of c.args.machine.now)) (sym c.as_slice-2.ensures.value) c.in_ok-kinds.ensures

pub objects_stand-requires-clause-shelf : goal.objects_stand-requires-clause-shelf
objects_stand-requires-clause-shelf c = c.requires.shelf

pub returns-then-not-kept-clause-none : goal.returns-then-not-kept-clause-none
returns-then-not-kept-clause-none c = λ (one : RepresentsOne c.args.machine.now). denied _ c.in_ok-kept.ensures c.if-not-kept.true (one_kept c.machines_are_shown.ensures c.items_are_exact.ensures c.args.machine.now one)

pub display_passes-requires : goal.display_passes-requires
display_passes-requires c =
    told c.args.machine.now
    (but_display c.args.machine.now c.near_stacks_suffice.ensures c.words_are_small.ensures (granted c.front_stands.result c.front_stands.ensures c.if-not-front_stands.false) (granted _ c.in_ok-ordered.ensures c.if-not-ordered.false) (granted _ c.in_ok-kept.ensures c.if-not-kept.false))

pub returns-clause-some : goal.returns-clause-some
returns-clause-some c =
    on_true c.display_passes.result
    (one_stands c.machines_are_shown.ensures c.items_are_exact.ensures c.args.machine.now
    (but_display c.args.machine.now c.near_stacks_suffice.ensures c.words_are_small.ensures (granted c.front_stands.result c.front_stands.ensures c.if-not-front_stands.false) (granted _ c.in_ok-ordered.ensures c.if-not-ordered.false) (granted _ c.in_ok-kept.ensures c.if-not-kept.false)))
    c.display_passes.ensures.yes

pub returns-clause-none : goal.returns-clause-none
returns-clause-none c = on_false c.display_passes.result (λ never (one : RepresentsOne c.args.machine.now). never (items c.machines_are_shown.ensures c.items_are_exact.ensures c.args.machine.now one).display) c.display_passes.ensures.not
