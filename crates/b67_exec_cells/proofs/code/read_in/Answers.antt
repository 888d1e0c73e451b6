use Rattle.std.proofs.Common.{arith}
use Rattle.b67_exec_cells.proofs.Codes.{present, desc-inside, words-short, read-is}
use Rattle.b67_exec_cells.proofs.code.read_in.Goals as goal

pub words-code-requires : goal.words-code-requires
words-code-requires c =
    let q = c.requires.runs in
    let e = c.requires.segment q.storage q.plan q.session q.member q.task q.ordered q.stands q.running in
    let i = desc-inside q.storage c.args.cpu.now q.plan q.session q.member q.task q.ordered q.stands q.running c.args.desc e.0 e.1 in
    omega (arith, i)

pub decode_in_segment-requires : goal.decode_in_segment-requires
decode_in_segment-requires c =
    let q = c.requires.runs in
    let e = c.requires.segment q.storage q.plan q.session q.member q.task q.ordered q.stands q.running in
    words-short q.storage c.args.cpu.now q.plan q.session q.member q.task q.ordered q.stands q.running c.args.desc c.words-code.result.now e.0 e.1 c.words-code.ensures

pub returns : goal.returns
returns c = λ x plan s m t ordered h runs.
    let e = c.requires.segment x plan s m t ordered h runs in (
      c.args.desc.address,
      present x c.args.cpu.now plan s m t ordered h runs c.args.desc e.0 e.1,
      read-is x c.args.cpu.now plan s m t ordered h runs c.args.desc c.words-code.result.now c.decode_in_segment.result e.0 e.1 c.words-code.ensures c.decode_in_segment.ensures,
    )
