use Rattle.std.proofs.Common.{sym, ◌∙◌, arith}
use Rattle.b67_layout_shown.specs.Machines.{sight_of}
use Rattle.b67_task.specs.Tables.{task_row}
use Rattle.b67_image_shape.proofs.StandTests.{low_falls, top_falls, walk_falls, place_falls, stands_if}
use Rattle.std.proofs.lemmas.Bool.{OnTrue_from, OnFalse_from}
use Rattle.b67_image_shape.proofs.walk_tasks.task_stands.Goals as goal

pub returns-then-top-base-clause-not : goal.returns-then-top-base-clause-not
returns-then-top-base-clause-not c = low_falls (sight_of c.args.machine.now) (task_row c.args.row) c.args.segments c.base_of-base.result c.from.result c.top_of-top.result.s c.base_of-base.ensures.value c.from.ensures c.top_of-top.ensures.s (omega (arith, c.if-top-base.true))

pub returns-then-not-top_fits-clause-not : goal.returns-then-not-top_fits-clause-not
returns-then-not-top_fits-clause-not c = top_falls (sight_of c.args.machine.now) (task_row c.args.row) c.args.segments (sym c.top_fits.ensures ∙ c.if-not-top_fits.true)

pub returns-then-not-walk_down-clause-not : goal.returns-then-not-walk_down-clause-not
returns-then-not-walk_down-clause-not c =
    walk_falls (sight_of c.args.machine.now) (task_row c.args.row) c.args.segments c.base_of-base.result c.from-2.result c.level_of-level.result c.top_of-top.result.f c.top_of-top.result.s c.walk_down.result c.requires.room c.base_of-base.ensures.value c.from-2.ensures c.level_of-level.ensures c.top_of-top.ensures.f c.top_of-top.ensures.s c.walk_down.ensures c.if-not-walk_down.true

pub returns-clause-yes : goal.returns-clause-yes
returns-clause-yes c =
    OnTrue_from c.goes_on.result _ (λ e. stands_if (sight_of c.args.machine.now) (task_row c.args.row) c.args.segments c.base_of-base.result c.from.result c.from-2.result c.level_of-level.result c.top_of-top.result.f c.top_of-top.result.s c.walk_down.result c.goes_on.result c.requires.inside c.base_of-base.ensures.value c.from.ensures c.from-2.ensures c.level_of-level.ensures c.top_of-top.ensures.f c.top_of-top.ensures.s
    (omega (arith, c.if-top-base.false)) (sym c.top_fits.ensures ∙ c.if-not-top_fits.false) c.walk_down.ensures c.if-not-walk_down.false c.goes_on.ensures e)

pub returns-clause-not : goal.returns-clause-not
returns-clause-not c = OnFalse_from c.goes_on.result _ (place_falls (sight_of c.args.machine.now) (task_row c.args.row) c.args.segments c.goes_on.result c.goes_on.ensures)
