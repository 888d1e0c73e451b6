use Rattle.std.proofs.Common.{ℕ, List, sym, subst, Option}
use Rattle.b67_program.specs.Opening.{paths_of}
use Rattle.b67_program.specs.Served.{over_memory, sectors_want_memory, carried_out}
use Rattle.b67_recorded.specs.Files.{OpensNoted}
use Rattle.b67_recorded.specs.Recorded.{is_served}
use Rattle.b67_recorded.proofs.OverFiles.{opens_nothing}
use Rattle.b67_recorded.proofs.serving.serve_text.Goals as goal

pub returns-in-Some-clause-served : goal.returns-in-Some-clause-served
returns-in-Some-clause-served g c = rw c.from.ensures c.serve_file.ensures.served

pub returns-in-Ok-clause-served : goal.returns-in-Ok-clause-served
returns-in-Ok-clause-served g c =
    let now = c.args.process.now in
    rw c.from-in-Ok.ensures
    (is_served (subst (λ (named : Option (List ℕ)). OpensNoted g.D.Devices.opened now.inner now.inner now.opened.texts now.opened.texts (paths_of named)) c.in-None.ensures (opens_nothing g.D.Devices.opened now.inner now.opened.texts))
    (over_memory c.in-Ok.backing c.carry_out.new.backing (sym c.in-None.ensures) c.in-Ok.ensures.zeros c.in-Ok.ensures.calm.0 c.in-Ok.ensures.calm.1 c.in-Ok.ensures.faults
    (carried_out (record { bytes = c.args.text; given = c.requires.taken; over = c.carry_out.ensures }))))

pub returns-in-Err-clause-served : goal.returns-in-Err-clause-served
returns-in-Err-clause-served g c =
    let now = c.args.process.now in
    rw c.from-in-Err.ensures
    (is_served (subst (λ (named : Option (List ℕ)). OpensNoted g.D.Devices.opened now.inner now.inner now.opened.texts now.opened.texts (paths_of named)) c.in-None.ensures (opens_nothing g.D.Devices.opened now.inner now.opened.texts))
    (sectors_want_memory (sym c.in-None.ensures) c.refuse_memory.ensures.ends))
