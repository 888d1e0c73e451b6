use Rattle.std.proofs.Common.{ℕ, List, map, length, refl, sym, ◌∙◌, ap, subst, slice_set}
use Rattle.std.proofs.lemmas.Result.{err_from_is_err_and}
use Rattle.std.proofs.lemmas.Option.{slice_get_within}
use Rattle.b67_word.specs.Tagged.{Tagged, word}
use Rattle.b67_model.specs.Common.{Answer, ◌>>=◌, End, AtCell, causes}
use Rattle.b67_layout.specs.Session.{RepresentsSession}
use Rattle.b67_layout.specs.Meets.{here}
use Rattle.b67_task.specs.declared.tables.Tasks.{Tasks}
use Rattle.b67_mcp.specs.Calls.{CutSome}
use Rattle.b67_mcp.specs.Arguments.{end_given}
use Rattle.b67_mcp.specs.Woken.{woken_row}
use Rattle.b67_mcp.proofs.WaitArguments.{cause_is, may_end}
use Rattle.b67_mcp.proofs.EndCells.{found_here, cause_fault}
use Rattle.b67_mcp.proofs.Made.{runs_some, call_some}
use Rattle.b67_task.proofs.Keeping.{keeps_same}
use Rattle.b67_mcp.proofs.Caused.{m2, t2, s2, runs2, order2, stands_caused, may2, made, row_made, made_count, stands_made, row_critical}
use Rattle.b67_mcp.proofs.wait_cause.cause.Goals as goal

pub cell_given-requires : goal.cell_given-requires
cell_given-requires c = call_some c.args.machine.now c.requires.call

pub returns-in_err-found-clause-row : goal.returns-in_err-found-clause-row
returns-in_err-found-clause-row c =
    let failed = err_from_is_err_and c.from_residual.result c.from_residual.ensures.1 in
    rw (failed.1, failed.2) (λ x told plan s m t o h runs r arguments call.
    (let q = c.args.next in
    (cause_is (here m t q) arguments ∙ cause_fault x c.args.machine.now.cpu plan s m t o h.session runs q c.in_err-found.field-0.0 (end_given (here m t q) arguments) (c.in_err-found.ensures x plan s m t o h.session runs r arguments call q), refl)))

pub returns-in_err-found-clause-kept : goal.returns-in_err-found-clause-kept
returns-in_err-found-clause-kept c = keeps_same c.args.machine.now

pub is_critical-requires : goal.is_critical-requires
is_critical-requires c = runs_some c.args.machine.now c.requires.call.runs

pub returns-then-is_critical-clause-row : goal.returns-then-is_critical-clause-row
returns-then-is_critical-clause-row c = λ x told plan s m t o h runs r arguments call.
    (let q = c.args.next in
    let cpu = c.args.machine.now.cpu in
    let e = found_here x cpu plan s m t o h.session runs q c.in_ok-found.found (end_given (here m t q) arguments) (c.in_ok-found.ensures x plan s m t o h.session runs r arguments call q) in (
      cause_is (here m t q) arguments ∙ ap (λ (y : Answer End). y >>= causes (here m t q)) e.is
          ∙ row_critical m t q e.f e.offset e.bits (sym (c.is_critical.ensures x plan s m t o h.session runs) ∙ c.if-is_critical.true),
      refl,
    ))

pub returns-then-is_critical-clause-kept : goal.returns-then-is_critical-clause-kept
returns-then-is_critical-clause-kept c = keeps_same c.args.machine.now

pub running_job-job-requires : goal.running_job-job-requires
running_job-job-requires c = c.requires.call.runs

pub set-requires : goal.set-requires
set-requires c =
    let k = c.requires.call in
    let g = k.runs in
    let q = c.args.next in
    let cpu = c.args.machine.now.cpu in
    let found = c.in_ok-found.ensures g.storage g.plan g.session g.member g.task g.ordered g.stands.session g.running k.reference k.arguments k.call q in
    let e = found_here g.storage cpu g.plan g.session g.member g.task g.ordered g.stands.session g.running q c.in_ok-found.found (end_given (here g.member g.task q) k.arguments) found in
    slice_get_within cpu.core c.in_ok-found.found.at (word 0 e.bits) e.cell.there

pub cut_call-requires-clause-call : goal.cut_call-requires-clause-call
cut_call-requires-clause-call c =
    let k = c.requires.call in
    let g = k.runs in
    let q = c.args.next in
    let old = c.args.machine.now in
    let found = c.in_ok-found.ensures g.storage g.plan g.session g.member g.task g.ordered g.stands.session g.running k.reference k.arguments k.call q in
    let e = found_here g.storage old.cpu g.plan g.session g.member g.task g.ordered g.stands.session g.running q c.in_ok-found.found (end_given (here g.member g.task q) k.arguments) found in
    let may = may_end g.member g.task k.reference k.arguments k.call (here g.member g.task q) (AtCell e.f e.offset e.bits) e.is
    (sym (c.is_critical.ensures g.storage g.plan g.session g.member g.task g.ordered g.stands.session g.running) ∙ c.if-is_critical.false) in
    let tasks : Tasks = record old.tasks { rows = c.wake_rows.new.rows } in
    let items = c.wake_rows.ensures
    ∙ ap (λ (n : ℕ). map (woken_row n c.in_ok-found.found.mark c.in_ok-found.found.offset) old.tasks.rows.items) (c.running_job-job.ensures g.storage g.told g.plan g.session g.member g.task g.ordered g.stands g.running) in
    let caused = stands_caused g.storage g.told old g.plan g.session g.member g.task g.ordered g.stands g.running q c.in_ok-found.found e.f e.offset e.bits e.cell tasks refl items in
    let core = c.set.ensures.value ∙ ap (slice_set old.cpu.core c.in_ok-found.found.at) c.of.ensures in
    let P : List Tagged → Type 0 = λ z. CutSome (record old.cpu { core = z }) in
    subst P (sym core) (record {
      runs = record {
        storage = g.storage;
        plan = g.plan;
        session = s2 g.storage g.told old g.plan g.session g.member g.task g.ordered g.stands g.running q c.in_ok-found.found e.f e.offset e.bits e.cell;
        member = m2 g.storage g.told old g.plan g.session g.member g.task g.ordered g.stands g.running q c.in_ok-found.found e.f e.offset e.bits e.cell;
        task = t2 g.storage g.told old g.plan g.session g.member g.task g.ordered g.stands g.running q c.in_ok-found.found e.f e.offset e.bits e.cell;
        ordered = order2 g.storage g.told old g.plan g.session g.member g.task g.ordered g.stands g.running q c.in_ok-found.found e.f e.offset e.bits e.cell;
        stands = caused.session;
        running = runs2 g.storage g.told old g.plan g.session g.member g.task g.ordered g.stands g.running q c.in_ok-found.found e.f e.offset e.bits e.cell;
      };
      may = may2 g.storage g.told old g.plan g.session g.member g.task g.ordered g.stands g.running q c.in_ok-found.found e.f e.offset e.bits e.cell may;
    })

pub returns-clause-row : goal.returns-clause-row
returns-clause-row c = λ x told plan s m t o h runs r arguments call.
    (let q = c.args.next in
    let old = c.args.machine.now in
    let f = c.in_ok-found.found in
    let e = found_here x old.cpu plan s m t o h.session runs q c.in_ok-found.found (end_given (here m t q) arguments) (c.in_ok-found.ensures x plan s m t o h.session runs r arguments call q) in
    let may = may_end m t r arguments call (here m t q) (AtCell e.f e.offset e.bits) e.is (sym (c.is_critical.ensures x plan s m t o h.session runs) ∙ c.if-is_critical.false) in
    let tasks : Tasks = record old.tasks { rows = c.wake_rows.new.rows } in
    let items = c.wake_rows.ensures
    ∙ ap (λ (n : ℕ). map (woken_row n f.mark f.offset) old.tasks.rows.items) (c.running_job-job.ensures x told plan s m t o h runs) in
    let caused = stands_caused x told old plan s m t o h runs q f e.f e.offset e.bits e.cell tasks refl items in
    let core = c.set.ensures.value ∙ ap (slice_set old.cpu.core f.at) c.of.ensures in
    let S = s2 x told old plan s m t o h runs q f e.f e.offset e.bits e.cell in
    let P : List Tagged → Type 0 = λ z. RepresentsSession x (record old.cpu { core = z }) plan S in
    let session = c.cut_call.ensures.stands x plan S (m2 x told old plan s m t o h runs q f e.f e.offset e.bits e.cell) (t2 x told old plan s m t o h runs q f e.f e.offset e.bits e.cell)
    (order2 x told old plan s m t o h runs q f e.f e.offset e.bits e.cell) (subst P (sym core) caused.session) (runs2 x told old plan s m t o h runs q f e.f e.offset e.bits e.cell) (may2 x told old plan s m t o h runs q f e.f e.offset e.bits e.cell may) in
    record {
      job = made x told old plan s m t o h runs q f e.f e.offset e.bits e.cell may;
      is = cause_is (here m t q) arguments ∙ ap (λ (y : Answer End). y >>= causes (here m t q)) e.is ∙ row_made x told old plan s m t o h runs q f e.f e.offset e.bits e.cell may;
      same = made_count x told old plan s m t o h runs q f e.f e.offset e.bits e.cell may;
      stands = stands_made x told old plan s m t o h runs q f e.f e.offset e.bits e.cell may tasks refl items c.cut_call.new.cpu (c.cut_call.ensures.core ∙ core) session;
      printed = refl;
    })

pub returns-clause-kept : goal.returns-clause-kept
returns-clause-kept c = record { core = ap (λ (l : List Tagged). length l) c.cut_call.ensures.core ∙ c.set.ensures.len; sectors = refl; given = refl }
