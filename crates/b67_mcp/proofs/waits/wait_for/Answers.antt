use Rattle.std.proofs.Common.{◌≡◌, ℕ, Some, length, ◌∙◌, ap, arith}
use Rattle.b67_model.specs.Intrinsics.{await, status, wait, cause}
use Rattle.b67_mcp.specs.Printed.{StandsAtCall}
use Rattle.b67_task.specs.declared.tables.Machine.{Machine}
use Rattle.b67_mcp.specs.Called.{CallsSome}
use Rattle.b67_mcp.proofs.Callings.{calling, reads_of}
use Rattle.b67_mcp.proofs.Waitings.{waits_at, done_at}
use Rattle.b67_mcp.proofs.waits.wait_for.Goals.{After-silent-in_default}
use Rattle.b67_mcp.proofs.waits.wait_for.Goals as goal

stands_at : (k : Machine) (n : ℕ) → CallsSome k n → StandsAtCall k
stands_at k n q = let c = calling q.runs.member q.runs.task n q.called in record { runs = q.runs; reference = c.reference; arguments = c.arguments; call = c.call }

-- the last of the numbers
last : (c : After-silent-in_default) → c.args.n ≡ 16
last c = omega (arith, c.requires.from, c.requires.upto)

pub next_place-next-requires : goal.next_place-next-requires
next_place-next-requires c = reads_of c.args.machine.now c.args.n c.requires.calls

pub await_task-requires-clause-call : goal.await_task-requires-clause-call
await_task-requires-clause-call c = stands_at c.args.machine.now c.args.n c.requires.calls

pub status_of-requires-clause-call : goal.status_of-requires-clause-call
status_of-requires-clause-call c = stands_at c.args.machine.now c.args.n c.requires.calls

pub wait_at-requires-clause-call : goal.wait_at-requires-clause-call
wait_at-requires-clause-call c = stands_at c.args.machine.now c.args.n c.requires.calls

pub cause-requires-clause-call : goal.cause-requires-clause-call
cause-requires-clause-call c = stands_at c.args.machine.now c.args.n c.requires.calls

pub returns-in-13-clause-row : goal.returns-in-13-clause-row
returns-in-13-clause-row c = λ x told plan s m t o h runs code called count.
    (let k = calling m t 13 (called ∙ ap Some c.in-13.is) in
    let same = c.next_place-next.ensures.behind x told plan s m t o h runs code k.next k.reading in
    (waits_at x told plan s m t o c.args.machine.now c.await_task.new.machine (length c.args.machine.now.cpu.core) 13 k (λ e. absurd cc) await k.is c.next_place-next.result same c.await_task.result c.waiting.result c.waiting.ensures
    (c.await_task.ensures.row x told plan s m t o h runs k.reference k.arguments k.call)).meets count)

pub returns-in-13-clause-present : goal.returns-in-13-clause-present
returns-in-13-clause-present c = λ x told plan s m t o h runs code called.
    (let k = calling m t 13 (called ∙ ap Some c.in-13.is) in
    let same = c.next_place-next.ensures.behind x told plan s m t o h runs code k.next k.reading in
    let a = waits_at x told plan s m t o c.args.machine.now c.await_task.new.machine (length c.args.machine.now.cpu.core) 13 k (λ e. absurd cc) await k.is c.next_place-next.result same c.await_task.result c.waiting.result c.waiting.ensures
    (c.await_task.ensures.row x told plan s m t o h runs k.reference k.arguments k.call) in
    (a.touches, a.fits))

pub returns-in-13-clause-kept : goal.returns-in-13-clause-kept
returns-in-13-clause-kept c = c.await_task.ensures.kept

pub returns-in-14-clause-row : goal.returns-in-14-clause-row
returns-in-14-clause-row c = λ x told plan s m t o h runs code called count.
    (let k = calling m t 14 (called ∙ ap Some c.in-14.is) in
    let same = c.next_place-next.ensures.behind x told plan s m t o h runs code k.next k.reading in
    (done_at x told plan s m t o c.args.machine.now c.status_of.new.machine (length c.args.machine.now.cpu.core) 14 k (λ e. absurd cc) status k.is c.next_place-next.result same c.status_of.result c.silent.result c.silent.ensures
    (c.status_of.ensures.row x told plan s m t o h runs k.reference k.arguments k.call)).meets count)

pub returns-in-14-clause-present : goal.returns-in-14-clause-present
returns-in-14-clause-present c = λ x told plan s m t o h runs code called.
    (let k = calling m t 14 (called ∙ ap Some c.in-14.is) in
    let same = c.next_place-next.ensures.behind x told plan s m t o h runs code k.next k.reading in
    let a = done_at x told plan s m t o c.args.machine.now c.status_of.new.machine (length c.args.machine.now.cpu.core) 14 k (λ e. absurd cc) status k.is c.next_place-next.result same c.status_of.result c.silent.result c.silent.ensures
    (c.status_of.ensures.row x told plan s m t o h runs k.reference k.arguments k.call) in
    (a.touches, a.fits))

pub returns-in-14-clause-kept : goal.returns-in-14-clause-kept
returns-in-14-clause-kept c = c.status_of.ensures.kept

pub returns-in-15-clause-row : goal.returns-in-15-clause-row
returns-in-15-clause-row c = λ x told plan s m t o h runs code called count.
    (let k = calling m t 15 (called ∙ ap Some c.in-15.is) in
    let same = c.next_place-next.ensures.behind x told plan s m t o h runs code k.next k.reading in
    (waits_at x told plan s m t o c.args.machine.now c.wait_at.new.machine (length c.args.machine.now.cpu.core) 15 k (λ e. absurd cc) wait k.is c.next_place-next.result same c.wait_at.result c.waiting-in-15.result c.waiting-in-15.ensures
    (c.wait_at.ensures.row x told plan s m t o h runs k.reference k.arguments k.call)).meets count)

pub returns-in-15-clause-present : goal.returns-in-15-clause-present
returns-in-15-clause-present c = λ x told plan s m t o h runs code called.
    (let k = calling m t 15 (called ∙ ap Some c.in-15.is) in
    let same = c.next_place-next.ensures.behind x told plan s m t o h runs code k.next k.reading in
    let a = waits_at x told plan s m t o c.args.machine.now c.wait_at.new.machine (length c.args.machine.now.cpu.core) 15 k (λ e. absurd cc) wait k.is c.next_place-next.result same c.wait_at.result c.waiting-in-15.result c.waiting-in-15.ensures
    (c.wait_at.ensures.row x told plan s m t o h runs k.reference k.arguments k.call) in
    (a.touches, a.fits))

pub returns-in-15-clause-kept : goal.returns-in-15-clause-kept
returns-in-15-clause-kept c = c.wait_at.ensures.kept

pub returns-in_default-clause-row : goal.returns-in_default-clause-row
returns-in_default-clause-row c = λ x told plan s m t o h runs code called count.
    (let k = calling m t 16 (called ∙ ap Some (last c)) in
    let same = c.next_place-next.ensures.behind x told plan s m t o h runs code k.next k.reading in
    (done_at x told plan s m t o c.args.machine.now c.cause.new.machine (length c.args.machine.now.cpu.core) 16 k (λ e. absurd cc) cause k.is c.next_place-next.result same c.cause.result c.silent-in_default.result c.silent-in_default.ensures
    (c.cause.ensures.row x told plan s m t o h runs k.reference k.arguments k.call)).meets count)

pub returns-in_default-clause-present : goal.returns-in_default-clause-present
returns-in_default-clause-present c = λ x told plan s m t o h runs code called.
    (let k = calling m t 16 (called ∙ ap Some (last c)) in
    let same = c.next_place-next.ensures.behind x told plan s m t o h runs code k.next k.reading in
    let a = done_at x told plan s m t o c.args.machine.now c.cause.new.machine (length c.args.machine.now.cpu.core) 16 k (λ e. absurd cc) cause k.is c.next_place-next.result same c.cause.result c.silent-in_default.result c.silent-in_default.ensures
    (c.cause.ensures.row x told plan s m t o h runs k.reference k.arguments k.call) in
    (a.touches, a.fits))

pub returns-in_default-clause-kept : goal.returns-in_default-clause-kept
returns-in_default-clause-kept c = c.cause.ensures.kept
