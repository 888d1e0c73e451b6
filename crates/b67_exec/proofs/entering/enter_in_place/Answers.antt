use Rattle.b67_exec.proofs.Loads.{bounds, at_end, leads}
use Rattle.b67_fetch.proofs.Values.{here_scene}
use Rattle.b67_exec.proofs.entering.enter_in_place.Goals as goal

pub get-requires : goal.get-requires
get-requires c = let q = c.requires.runs in (bounds q.storage c.args.cpu.now q.plan q.session q.member q.task q.ordered q.stands q.running c.requires.place c.requires.enters).0

pub procedure_cell-cell-requires : goal.procedure_cell-cell-requires
procedure_cell-cell-requires c =
    let q = c.requires.runs in
    let n = c.requires.place in
    let i = c.requires.enters in
    let e = at_end q.storage c.args.cpu.now q.plan q.session q.member q.task q.ordered q.stands q.running n i c.get.result c.get.ensures in (
      here_scene q.storage c.args.cpu.now q.plan q.session q.member q.task q.ordered q.stands q.running,
      n,
      e.frame,
      e.segment,
      e.level,
      e.place,
      leads q.storage c.args.cpu.now q.plan q.session q.member q.task q.ordered q.stands q.running n i c.get.result c.get.ensures,
    )

pub enter_over-requires-clause-top : goal.enter_over-requires-clause-top
enter_over-requires-clause-top c = c.requires

pub enter_over-requires-clause-cell : goal.enter_over-requires-clause-cell
enter_over-requires-clause-cell c = (c.get.result, c.get.ensures, c.procedure_cell-cell.ensures)

pub returns : goal.returns
returns c = record { row = c.enter_over.ensures.row }
