use Rattle.std.proofs.Common.{refl}
use Rattle.b67_session.proofs.InitialOpens.{uncalled}
use Rattle.b67_gen.specs.Generated.{generated_text}
use Rattle.b67_job.specs.Device.{device_of}
use Rattle.b67_job.specs.Due.{exercise_wants_memory}
use Rattle.b67_job.proofs.Served.{exercise_in_range, exercise_ran, exercise_unprepared}
use Rattle.b67_job.proofs.top.answer_exercise.Goals as goal

pub returns-in-Err-clause-ends : goal.returns-in-Err-clause-ends
returns-in-Err-clause-ends g c = exercise_wants_memory refl c.refuse_memory.ensures.machine c.refuse_memory.ensures.ends

pub returns-in-Err-clause-device : goal.returns-in-Err-clause-device
returns-in-Err-clause-device g c = uncalled g.B.Backing.holds g.B.Backing.size g.B.Backing.calls g.B.Backing.faults c.args.backing.now

pub run_deck-requires-clause-range : goal.run_deck-requires-clause-range
run_deck-requires-clause-range g c = (exercise_in_range (generated_text c.args.seed c.args.size) c.in-Ok.deck c.in-Ok-prepare.loaded c.in-Ok.ensures c.in-Ok-prepare.ensures).0

pub run_deck-requires-clause-each : goal.run_deck-requires-clause-each
run_deck-requires-clause-each g c = rw c.as_slice.ensures (exercise_in_range (generated_text c.args.seed c.args.size) c.in-Ok.deck c.in-Ok-prepare.loaded c.in-Ok.ensures c.in-Ok-prepare.ensures).1

pub returns-in-Err-prepare-clause-ends : goal.returns-in-Err-prepare-clause-ends
returns-in-Err-prepare-clause-ends g c =
    let d = device_of g.B.Backing.holds g.B.Backing.size g.B.Backing.faults c.args.backing.now c.args.backing.now in
    exercise_unprepared c.args.seed c.args.size c.args.core d c.in-Ok.deck c.in-Ok.ensures c.in-Err-prepare.fault c.without_machine.result.machine c.refuse_program.result c.without_machine.result.status
    c.in-Err-prepare.ensures refl c.without_machine.ensures.machine c.without_machine.ensures.status c.refuse_program.ensures

pub returns-in-Err-prepare-clause-device : goal.returns-in-Err-prepare-clause-device
returns-in-Err-prepare-clause-device g c = uncalled g.B.Backing.holds g.B.Backing.size g.B.Backing.calls g.B.Backing.faults c.args.backing.now

pub returns-clause-ends : goal.returns-clause-ends
returns-clause-ends g c =
    exercise_ran c.args.seed c.args.size c.args.core (device_of g.B.Backing.holds g.B.Backing.size g.B.Backing.faults c.args.backing.now c.run_deck.new.backing) c.in-Ok.deck c.in-Ok.ensures
    c.in-Ok-prepare.loaded c.run_deck.result.machine c.run_deck.result.status c.in-Ok-prepare.ensures (rw c.as_slice.ensures at c.run_deck.ensures.ends)
