use Rattle.b67_mcp.proofs.Cells.{followed_at, reaches}
use Rattle.b67_mcp.proofs.process_asked.cell_under.Goals as goal

pub overflow_sub-cpu : goal.overflow_sub-cpu
overflow_sub-cpu c =
    let q = c.requires.runs in
    (reaches q.storage c.args.cpu.now q.plan q.session q.member q.task q.ordered q.stands q.running c.args.above c.requires.enough).0

pub get-requires : goal.get-requires
get-requires c =
    let q = c.requires.runs in
    (reaches q.storage c.args.cpu.now q.plan q.session q.member q.task q.ordered q.stands q.running c.args.above c.requires.enough).1

pub returns : goal.returns
returns c = λ x plan s m t o h runs over rest v e many. followed_at x c.args.cpu.now plan s m t o h runs over rest v c.args.above c.get.result e many c.get.ensures
