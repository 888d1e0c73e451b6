use Rattle.std.proofs.Common.{◌≡◌, ◌≢◌, ℕ, [], List, length, refl, sym, ◌∙◌, ap}
use Rattle.std.proofs.lemmas.Result.{err_from_is_err_and}
use Rattle.std.proofs.lemmas.Option.{same_Some, slice_get_within}
use Rattle.b67_lemmas.proofs.Members.{length_change}
use Rattle.b67_word.specs.Tagged.{Tagged, word}
use Rattle.b67_model.specs.Common.{Answer, ◌>>=◌, End, AtCell, Task, waits_at, answered}
use Rattle.b67_model.specs.State as State
use Rattle.b67_layout.specs.Common.{WaitsAtCell, frame_address, here}
use Rattle.b67_layout.proofs.Fresh.{running_in_order}
use Rattle.b67_mcp.specs.Calls.{job_cut}
use Rattle.b67_mcp.proofs.Standing.{machine_cut}
use Rattle.b67_mcp.specs.Arguments.{end_given}
use Rattle.b67_mcp.proofs.WaitArguments.{wait_is, may_end}
use Rattle.b67_mcp.proofs.EndCells.{found_here, wait_fault, wait_zero, wait_other}
use Rattle.b67_mcp.proofs.Made.{runs_some, call_some, answers_critical, answers_cut}
use Rattle.b67_task.proofs.Keeping.{keeps_same}
use Rattle.b67_mcp.proofs.wait_cause.wait_at.Goals as goal

pub cell_given-requires : goal.cell_given-requires
cell_given-requires c = call_some c.args.machine.now c.requires.call

pub returns-in_err-found-clause-row : goal.returns-in_err-found-clause-row
returns-in_err-found-clause-row c =
    let failed = err_from_is_err_and c.from_residual.result c.from_residual.ensures.1 in
    rw (failed.1, failed.2) (λ x told plan s m t o h runs r arguments call.
    (let q = c.args.next in
    (wait_is (here m t q) arguments ∙ wait_fault x c.args.machine.now.cpu plan s m t o h.session runs q c.in_err-found.field-0.0 (end_given (here m t q) arguments) (c.in_err-found.ensures x plan s m t o h.session runs r arguments call q), refl)))

pub returns-in_err-found-clause-kept : goal.returns-in_err-found-clause-kept
returns-in_err-found-clause-kept c = keeps_same c.args.machine.now

pub get-requires : goal.get-requires
get-requires c =
    let k = c.requires.call in
    let g = k.runs in
    let q = c.args.next in
    let cpu = c.args.machine.now.cpu in
    let found = c.in_ok-found.ensures g.storage g.plan g.session g.member g.task g.ordered g.stands.session g.running k.reference k.arguments k.call q in
    let e = found_here g.storage cpu g.plan g.session g.member g.task g.ordered g.stands.session g.running q c.in_ok-found.found (end_given (here g.member g.task q) k.arguments) found in
    slice_get_within cpu.core c.in_ok-found.found.at (word 0 e.bits) e.cell.there

pub returns-then-bits-eq0-clause-row : goal.returns-then-bits-eq0-clause-row
returns-then-bits-eq0-clause-row c = λ x told plan s m t o h runs r arguments call.
    (let q = c.args.next in
    let cpu = c.args.machine.now.cpu in
    let e = found_here x cpu plan s m t o h.session runs q c.in_ok-found.found (end_given (here m t q) arguments) (c.in_ok-found.ensures x plan s m t o h.session runs r arguments call q) in
    let same = same_Some c.get.result (word 0 e.bits) (sym c.get.ensures ∙ e.cell.there) in
    let zero : e.bits ≡ 0 = ap (λ (w : Tagged). w.bits) (sym same) ∙ sym c.bits.ensures.value ∙ c.if-bits-eq0.true in (
      record {
        condition = State.WaitsAt e.f e.offset;
        is = wait_is (here m t q) arguments ∙ ap (λ (y : Answer End). y >>= waits_at (here m t q)) e.is ∙ wait_zero x cpu plan s m t o h.session runs q e.f e.offset e.bits zero;
        shows = ap (λ (i : ℕ). WaitsAtCell i c.in_ok-found.found.offset) e.cell.mark ∙ ap (λ (i : ℕ). WaitsAtCell (frame_address plan m t e.f) i) e.cell.offset_is;
      },
      refl,
    ))

pub returns-then-bits-eq0-clause-kept : goal.returns-then-bits-eq0-clause-kept
returns-then-bits-eq0-clause-kept c = keeps_same c.args.machine.now

pub is_critical-requires : goal.is_critical-requires
is_critical-requires c = runs_some c.args.machine.now c.requires.call.runs

pub returns-then-is_critical-clause-row : goal.returns-then-is_critical-clause-row
returns-then-is_critical-clause-row c = λ x told plan s m t o h runs r arguments call.
    (let q = c.args.next in
    let cpu = c.args.machine.now.cpu in
    let e = found_here x cpu plan s m t o h.session runs q c.in_ok-found.found (end_given (here m t q) arguments) (c.in_ok-found.ensures x plan s m t o h.session runs r arguments call q) in
    let same = same_Some c.get.result (word 0 e.bits) (sym c.get.ensures ∙ e.cell.there) in
    let some : e.bits ≢ 0 = λ z. c.if-bits-eq0.false (c.bits.ensures.value ∙ ap (λ (w : Tagged). w.bits) same ∙ z) in (
      wait_is (here m t q) arguments ∙ ap (λ (y : Answer End). y >>= waits_at (here m t q)) e.is ∙ wait_other x cpu plan s m t o h.session runs q e.f e.offset e.bits some
          ∙ answers_critical m t q [] (sym (c.is_critical.ensures x plan s m t o h.session runs) ∙ c.if-is_critical.true),
      refl,
    ))

pub returns-then-is_critical-clause-kept : goal.returns-then-is_critical-clause-kept
returns-then-is_critical-clause-kept c = keeps_same c.args.machine.now

pub cut_call-requires-clause-call : goal.cut_call-requires-clause-call
cut_call-requires-clause-call c =
    let k = c.requires.call in
    let g = k.runs in
    let q = c.args.next in
    let cpu = c.args.machine.now.cpu in
    let found = c.in_ok-found.ensures g.storage g.plan g.session g.member g.task g.ordered g.stands.session g.running k.reference k.arguments k.call q in
    let e = found_here g.storage cpu g.plan g.session g.member g.task g.ordered g.stands.session g.running q c.in_ok-found.found (end_given (here g.member g.task q) k.arguments) found in
    record {
      runs = runs_some c.args.machine.now g;
      may = may_end g.member g.task k.reference k.arguments k.call (here g.member g.task q) (AtCell e.f e.offset e.bits) e.is
          (sym (c.is_critical.ensures g.storage g.plan g.session g.member g.task g.ordered g.stands.session g.running) ∙ c.if-is_critical.false);
    }

pub returns-clause-row : goal.returns-clause-row
returns-clause-row c = λ x told plan s m t o h runs r arguments call.
    (let q = c.args.next in
    let k = c.args.machine.now in
    let e = found_here x k.cpu plan s m t o h.session runs q c.in_ok-found.found (end_given (here m t q) arguments) (c.in_ok-found.ensures x plan s m t o h.session runs r arguments call q) in
    let same = same_Some c.get.result (word 0 e.bits) (sym c.get.ensures ∙ e.cell.there) in
    let some : e.bits ≢ 0 = λ z. c.if-bits-eq0.false (c.bits.ensures.value ∙ ap (λ (w : Tagged). w.bits) same ∙ z) in
    let free = sym (c.is_critical.ensures x plan s m t o h.session runs) ∙ c.if-is_critical.false in
    let may = may_end m t r arguments call (here m t q) (AtCell e.f e.offset e.bits) e.is free in
    record {
      job = job_cut m t q;
      is = wait_is (here m t q) arguments ∙ ap (λ (y : Answer End). y >>= waits_at (here m t q)) e.is ∙ wait_other x k.cpu plan s m t o h.session runs q e.f e.offset e.bits some
          ∙ answers_cut m t q free (running_in_order plan s m t o runs).1.not_higher;
      same = length_change (λ (u : Task). u.number) t.number (answered (here m t q) []) m.progress.job.tasks;
      stands = machine_cut plan s m t o runs may q x told k h c.cut_call.new.cpu c.cut_call.ensures.core (c.cut_call.ensures.stands x plan s m t o h.session runs may);
      printed = refl;
    })

pub returns-clause-kept : goal.returns-clause-kept
returns-clause-kept c = record { core = ap (λ (l : List Tagged). length l) c.cut_call.ensures.core; sectors = refl; given = refl }
