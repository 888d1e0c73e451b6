use Rattle.std.proofs.lemmas.Result.{err_from_is_err_and}
use Rattle.b67_codefile.proofs.Loop.{rises_on, rises_end, rises_done}
use Rattle.b67_codefile.proofs.reading.many_entries_of.Goals as goal

pub returns-in_err-entry : goal.returns-in_err-entry
returns-in_err-entry c =
    let p = err_from_is_err_and c.from_residual.result c.from_residual.ensures.1 in
    rw (p.1, p.2) (rises_end _ _ _ _ _ _ _ c.entries-test.true c.in_err-entry.ensures c.entries.invariant)

pub entries-preserved : goal.entries-preserved
entries-preserved c = rw (c.in_ok-push.ensures.ok, c.entry_count-before.ensures) (rises_on _ _ _ _ _ _ _ _ c.entries-test.true c.in_ok-entry.ensures c.entries.invariant)

pub returns : goal.returns
returns c = rises_done _ _ _ _ _ _ c.entries-test.false c.entries.invariant
