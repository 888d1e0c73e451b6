use Rattle.std.proofs.Common.{ℕ, List, Option, sym, subst, ◌∙◌}
use Rattle.b67_program.specs.Opening.{OpensPaths, paths_of}
use Rattle.b67_program.specs.Served.{over_file, over_memory, sectors_want_memory}
use Rattle.b67_program.proofs.Answering.{opens_none, not_seven}
use Rattle.b67_program.proofs.serving.serve.Goals as goal

pub returns-in-Some-clause-opened : goal.returns-in-Some-clause-opened
returns-in-Some-clause-opened g c =
    subst (λ (named : Option (List ℕ)). OpensPaths g.R.Devices.opened c.args.devices.now c.close.new.self (paths_of named)) c.in-Some.ensures
    (record { told = λ before e. c.close.ensures.same ∙ c.open-backing.ensures.opens.told before e })

pub returns-in-Some-clause-served : goal.returns-in-Some-clause-served
returns-in-Some-clause-served g c = rw c.from.ensures (over_file c.in-Some.path.now c.open-backing.result c.answer-status.new.backing (sym c.in-Some.ensures) c.open-backing.ensures.finds c.close.ensures.leaves c.answer-status.ensures.answered)

pub returns-in-Ok-clause-opened : goal.returns-in-Ok-clause-opened
returns-in-Ok-clause-opened g c = subst (λ (named : Option (List ℕ)). OpensPaths g.R.Devices.opened c.args.devices.now c.args.devices.now (paths_of named)) c.in-None.ensures (opens_none _ _)

pub returns-in-Ok-clause-served : goal.returns-in-Ok-clause-served
returns-in-Ok-clause-served g c = rw c.from-in-Ok.ensures (over_memory c.in-Ok.backing c.answer.new.backing (sym c.in-None.ensures) c.in-Ok.ensures.zeros c.in-Ok.ensures.calm.0 c.in-Ok.ensures.calm.1 c.in-Ok.ensures.faults c.answer.ensures.answered)

pub returns-in-Err-clause-opened : goal.returns-in-Err-clause-opened
returns-in-Err-clause-opened g c = subst (λ (named : Option (List ℕ)). OpensPaths g.R.Devices.opened c.args.devices.now c.args.devices.now (paths_of named)) c.in-None.ensures (opens_none _ _)

pub returns-in-Err-clause-served : goal.returns-in-Err-clause-served
returns-in-Err-clause-served g c = rw c.from-in-Err.ensures (sectors_want_memory (sym c.in-None.ensures) c.refuse_memory.ensures.ends)

pub returns-in-Err-clause-reading : goal.returns-in-Err-clause-reading
returns-in-Err-clause-reading g c = λ e. not_seven _ _ _ _ _ _ c.refuse_memory.ensures.ends (sym c.from-in-Err.ensures ∙ e)

pub returns-in-Some-clause-reading : goal.returns-in-Some-clause-reading
returns-in-Some-clause-reading g c = λ e. c.answer-status.ensures.reading (sym c.from.ensures ∙ e)

pub returns-in-Ok-clause-reading : goal.returns-in-Ok-clause-reading
returns-in-Ok-clause-reading g c = λ e. c.answer.ensures.reading (sym c.from-in-Ok.ensures ∙ e)
