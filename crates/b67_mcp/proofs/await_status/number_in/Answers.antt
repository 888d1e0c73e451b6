use Rattle.std.proofs.Common.{sym, ◌∙◌, ap, Err}
use Rattle.b67_mcp.proofs.WaitArguments.{no_number, number_is}
use Rattle.b67_mcp.proofs.await_status.number_in.Goals as goal

pub returns-in-Ok : goal.returns-in-Ok
returns-in-Ok c = λ x plan s m t o h runs r arguments call.
    (let (two, there) = c.in-Ok.ensures x plan s m t o h runs in
    c.whole.ensures ∙ number_is m t r arguments call x plan c.args.cpu.now two c.in-Ok.w there)

pub returns-in-Err : goal.returns-in-Err
returns-in-Err c = λ x plan s m t o h runs r arguments call.
    (let none = c.in-Err.ensures x plan s m t o h runs in
    ap Err none.1 ∙ sym (no_number m t r arguments call none.0))
