use Rattle.std.proofs.Common.{arith}
use Rattle.b67_session.proofs.Decks.{rows_step}
use Rattle.b67_session.proofs.opening_tables.first_rows.Goals as goal

pub rows-preserved : goal.rows-preserved
rows-preserved c = (
  rows_step c.rows.rows.items c.push.new.self.items c.first_row.result c.args.programs.now c.rows.slot _ (omega (arith, c.rows-test.true, c.requires.few)) c.push.ensures.items c.first_row.ensures c.rows.invariant.0,
  omega (arith, c.push.ensures.len, c.rows.invariant.1),
)
