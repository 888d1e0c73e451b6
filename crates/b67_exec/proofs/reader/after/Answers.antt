use Rattle.std.proofs.Common.{ℕ, ◌≡◌, ◌+◌, ◌*◌, arith, sym, subst}
use Rattle.b67_ctl.specs.declared.descriptors.SegDesc.{SegDesc}
use Rattle.b67_model.specs.Common.{code_of, count_at}
use Rattle.b67_exec_cells.proofs.Codes.{short}
use Rattle.b67_exec.specs.Near.{HoldsCode, ReaderAt}
use Rattle.b67_exec.proofs.Readers.{words-are, stepped}
use Rattle.b67_exec.proofs.reader.after.Goals as goal

pub returns-then-r-lt5 : goal.returns-then-r-lt5
returns-then-r-lt5 c = λ n i.
    let b = i.behind in
    record {
      code = b.code;
      in_word = b.in_word;
      at = λ x plan s m t ordered h runs.
          let same = words-are x c.args.cpu.now plan s m t ordered h runs c.args.r.code (b.code x plan s m t ordered h runs) in
          stepped c.args.r (code_of m.constants t.segment) (count_at t.place + n) (b.at x plan s m t ordered h runs) (omega (arith, same, i.inside)) c.if-r-lt5.true c.rotate_left.result c.rotate_left.ensures (count_at t.place + (n + 1)) (omega arith);
    }

pub overflow_add-r : goal.overflow_add-r
overflow_add-r c =
    let q = c.requires.runs in
    let b = c.requires.stands.1 in
    let long = short q.storage c.args.cpu.now q.plan q.session q.member q.task q.ordered q.stands q.running in
    let a = b.at q.storage q.plan q.session q.member q.task q.ordered q.stands q.running in
    omega (arith, long, a.at, a.within)

pub at_word-requires-clause-code : goal.at_word-requires-clause-code
at_word-requires-clause-code c = c.requires.stands.1.code

pub at_word-requires-clause-within : goal.at_word-requires-clause-within
at_word-requires-clause-within c =
    let q = c.requires.runs in
    let b = c.requires.stands.1 in
    let same = words-are q.storage c.args.cpu.now q.plan q.session q.member q.task q.ordered q.stands q.running c.args.r.code (b.code q.storage q.plan q.session q.member q.task q.ordered q.stands q.running) in
    let a = b.at q.storage q.plan q.session q.member q.task q.ordered q.stands q.running in
    omega (arith, same, a.at, a.within, c.if-r-lt5.false)

pub returns : goal.returns
returns c = λ n i.
    let b = i.behind in
    record {
      code = subst (λ (d : SegDesc). HoldsCode c.args.cpu.now d) (sym c.at_word.ensures.code) b.code;
      in_word = b.in_word;
      at = λ x plan s m t ordered h runs.
          let a = b.at x plan s m t ordered h runs in
          let there : 6 * (c.args.r.word + 1) ≡ count_at t.place + (n + 1) = omega (arith, a.at, a.in_word, c.if-r-lt5.false) in
          subst (λ (k : ℕ). ReaderAt c.at_word.result (code_of m.constants t.segment) k) there (c.at_word.ensures.at x plan s m t ordered h runs);
    }
