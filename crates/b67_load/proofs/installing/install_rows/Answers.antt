use Rattle.std.proofs.Common.{◌∙◌, List, length, map, refl, arith}
use Rattle.std.proofs.lemmas.List.{length-map}
use Rattle.b67_word.specs.Tagged.{contents}
use Rattle.b67_stack.specs.MachineView.{PagedObject}
use Rattle.b67_load.specs.Objects.{rows_from}
use Rattle.b67_load.proofs.Writing.{going_first, going_next, going_all, going_failed}
use Rattle.b67_load.proofs.Steps.{length-rows_from, rows_step, rows_end}
use Rattle.b67_load.proofs.installing.install_rows.Goals as goal

pub loop-row-init : goal.loop-row-init
loop-row-init g c =
    let all : List PagedObject = rows_from c.args.base (map contents c.args.rows.now) in
    record {
      going = going_first g.B.Backing.holds c.args.base all (length c.args.rows.now) _ (length-rows_from c.args.base (map contents c.args.rows.now) ∙ length-map c.args.rows.now contents) c.requires.sectors.room;
      size = refl;
      faults = omega arith;
      calls = omega arith;
    }

pub returns-in_err-install_row-clause-spares :
    goal.returns-in_err-install_row-clause-spares
returns-in_err-install_row-clause-spares g c =
    going_failed g.B.Backing.holds c.args.base (length c.args.rows.now) c.loop-row.at (rows_from c.args.base (map contents c.args.rows.now)) _ _ _ _ _ _
    (rows_step c.loop-row.at c.loop-row.row-index c.args.rows.now c.row-item.result c.row-item.is c.loop-row-test.true)
    c.loop-row.invariant.going c.install_row.ensures.spares

pub loop-row-preserved : goal.loop-row-preserved
loop-row-preserved g c = record {
  going = going_next g.B.Backing.holds c.args.base (length c.args.rows.now) c.loop-row.at (rows_from c.args.base (map contents c.args.rows.now)) _ _ _ _ _ _
      (rows_step c.loop-row.at c.loop-row.row-index c.args.rows.now c.row-item.result c.row-item.is c.loop-row-test.true) refl
      c.loop-row.invariant.going c.in_ok-install_row.ensures.writes c.install_row.ensures.spares;
  size = c.install_row.ensures.device.size ∙ c.loop-row.invariant.size;
  faults = omega (arith, c.loop-row.invariant.faults, c.install_row.ensures.device.cause.later);
  calls = omega (arith, c.loop-row.invariant.calls, c.install_row.ensures.device.calls);
}

pub returns-clause-writes : goal.returns-clause-writes
returns-clause-writes g c =
    going_all g.B.Backing.holds c.args.base (length c.args.rows.now) c.loop-row.at (rows_from c.args.base (map contents c.args.rows.now)) _ _ _
    (rows_end c.loop-row.at c.loop-row.row-index c.args.rows.now c.loop-row-test.false) c.loop-row.invariant.going
