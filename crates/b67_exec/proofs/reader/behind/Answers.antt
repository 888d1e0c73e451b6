use Rattle.std.proofs.Common.{◌+◌, arith}
use Rattle.b67_model.specs.Common.{code_of, count_at}
use Rattle.b67_exec_cells.proofs.Codes.{short}
use Rattle.b67_exec.proofs.Readers.{words-are, stepped, crossed}
use Rattle.b67_exec.proofs.reader.behind.Goals as goal

pub returns-then-r-lt5-clause-next : goal.returns-then-r-lt5-clause-next
returns-then-r-lt5-clause-next c = λ n i.
    let b = i.behind in
    record {
      behind = record {
        code = b.code;
        in_word = b.in_word;
        at = λ x plan s m t ordered h runs.
            let same = words-are x c.args.cpu.now plan s m t ordered h runs c.args.r.code (b.code x plan s m t ordered h runs) in
            stepped c.args.r (code_of m.constants t.segment) (count_at t.place + n) (b.at x plan s m t ordered h runs) (omega (arith, same, i.inside)) c.if-r-lt5.true c.rotate_left.result c.rotate_left.ensures (count_at t.place + (n + 1)) (omega arith);
      };
      inside = i.inside;
    }

pub overflow_add-word : goal.overflow_add-word
overflow_add-word c =
    let q = c.requires.runs in
    let b = c.requires.stands.1 in
    let long = short q.storage c.args.cpu.now q.plan q.session q.member q.task q.ordered q.stands q.running in
    let same = words-are q.storage c.args.cpu.now q.plan q.session q.member q.task q.ordered q.stands q.running c.args.r.code (b.code q.storage q.plan q.session q.member q.task q.ordered q.stands q.running) in
    omega (arith, long, same, c.if-from-r.false, c.from.ensures)

pub returns-clause-next : goal.returns-clause-next
returns-clause-next c = λ n i.
    let b = i.behind in
    record {
      behind = record {
        code = b.code;
        in_word = b.in_word;
        at = λ x plan s m t ordered h runs.
            let same = words-are x c.args.cpu.now plan s m t ordered h runs c.args.r.code (b.code x plan s m t ordered h runs) in
            crossed c.args.r (code_of m.constants t.segment) (count_at t.place + n) (b.at x plan s m t ordered h runs) (omega (arith, c.if-r-lt5.false)) (omega (arith, same, c.if-from-r.false, c.from.ensures))
            c.loaded.result (c.loaded.ensures x plan s m t ordered h runs) (count_at t.place + (n + 1)) (omega arith);
      };
      inside = omega (arith, c.if-from-r.false, c.from.ensures);
    }

pub returns-then-from-r-clause-end : goal.returns-then-from-r-clause-end
returns-then-from-r-clause-end c = λ n i none x plan s m t ordered h runs.
    let b = i.behind in
    let same = words-are x c.args.cpu.now plan s m t ordered h runs c.args.r.code (b.code x plan s m t ordered h runs) in
    let a = b.at x plan s m t ordered h runs in
    omega (arith, same, a.at, a.in_word, i.inside, c.if-from-r.true, c.from.ensures, c.if-r-lt5.false)
