use Rattle.std.proofs.Common.{sym, subst, Err}
use Rattle.b67_word.specs.declared.faults.Fault.{Fault}
use Rattle.b67_fetch.proofs.Values.{top_followed}
use Rattle.b67_mcp.specs.RowCalls.{CopyMeets}
use Rattle.b67_mcp.proofs.RowArguments.{not_one, argument_meets, misses_not_one, argument_misses}
use Rattle.b67_mcp.proofs.print_row.argument.Goals as goal

pub copied-requires : goal.copied-requires
copied-requires c =
    let q = c.requires.runs in
    let there = (c.in-Ok.ensures q.storage q.plan q.session q.member q.task q.ordered q.stands q.running).1 in
    let a = top_followed q.storage c.args.cpu.now q.plan q.session q.member q.task c.in-Ok.w q.ordered q.running there in
    record { runs = q; word = a.word; followed = a.followed }

pub returns-in-Ok-clause-row : goal.returns-in-Ok-clause-row
returns-in-Ok-clause-row c = λ x plan s m t o h runs r arguments call.
    let (two, there) = c.in-Ok.ensures x plan s m t o h runs in
    let a = top_followed x c.args.cpu.now plan s m t c.in-Ok.w o runs there in
    argument_meets plan m t r arguments call x c.in-Ok.w two c.copied.result a (c.copied.ensures x plan s m t o h runs a.word a.followed)

pub returns-in-Ok-clause-copies : goal.returns-in-Ok-clause-copies
returns-in-Ok-clause-copies c = λ x plan s m t o h runs r arguments call.
    let (two, there) = c.in-Ok.ensures x plan s m t o h runs in
    let a = top_followed x c.args.cpu.now plan s m t c.in-Ok.w o runs there in
    argument_misses plan m t r arguments call x c.in-Ok.w two c.copied.result a (c.copied.ensures x plan s m t o h runs a.word a.followed)

pub returns-in-Err-clause-row : goal.returns-in-Err-clause-row
returns-in-Err-clause-row c = λ x plan s m t o h runs r arguments call.
    let none = c.in-Err.ensures x plan s m t o h runs in
    subst (λ (f : Fault). CopyMeets plan m t arguments (Err f)) (sym none.1) (not_one plan m t r arguments call none.0)

pub returns-in-Err-clause-copies : goal.returns-in-Err-clause-copies
returns-in-Err-clause-copies c = λ x plan s m t o h runs r arguments call.
    misses_not_one plan m t r arguments call c.in-Err.fault (c.in-Err.ensures x plan s m t o h runs).0
