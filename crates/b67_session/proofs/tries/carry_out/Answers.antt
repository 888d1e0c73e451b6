use Rattle.std.proofs.Common.{◌∙◌, ◌≡◌, ℕ, List, length, Option, None, Ok, Err, sym, subst, refl, arith}
use Rattle.b67_model.specs.Schedule.{Session}
use Rattle.b67_stack.specs.declared.Step.{Step}
use Rattle.b67_stack.specs.declared.Step.TheVariants as answers
use Rattle.b67_exec.specs.Near.{StopsHere}
use Rattle.b67_stack.specs.Represents.{Storage}
use Rattle.b67_layout.specs.Machine.{content_after}
use Rattle.b67_layout.proofs.Untold.{untold}
use Rattle.b67_layout.specs.Placement.{Placement}
use Rattle.b67_exec_cells.specs.Running.{code_area}
use Rattle.b67_task.specs.declared.tables.Machine.{Machine}
use Rattle.b67_task.specs.Tables.{MachineRepresents}
use Rattle.b67_session.specs.declared.tries.Tried.TheVariants.{Made}
use Rattle.b67_session.specs.Tries.{TryFits}
use Rattle.b67_session.proofs.Runs.{caused_none, caused_stop}
use Rattle.b67_session.proofs.Untold.{machine_untold}
use Rattle.b67_session.proofs.Trying.{wants_array, was_fault, was_ended, was_call, was_absent, called_so, stops_so, writes_so}
use Rattle.b67_session.proofs.AttemptFits.{was_operator, fault_touches, leaves_touches, operator_fits, call_fits, fault_fits, waits_fit, stop_fits}
use Rattle.b67_session.proofs.NearOnes.{stopped}
use Rattle.b67_session.proofs.tries.carry_out.Goals as goal

-- the machine after an operator that calls an intrinsic
stays : (x : Storage) (told : Option (List (List ℕ))) (plan : Placement) (s : Session) (old new : Machine) → new ≡ old → MachineRepresents x told old plan s → MachineRepresents x told new plan s
stays x told plan s old new same h = let P : Machine → Type 0 = λ k. MachineRepresents x told k plan s in subst P (sym same) h

pub intrinsic-requires-clause-calls : goal.intrinsic-requires-clause-calls
intrinsic-requires-clause-calls g c =
    let r = c.requires.runs.runs in
    let it = was_call r.storage r.told r.plan r.session r.member r.task c.args.machine.now c.args.machine.now c.in-Call.n (code_area r.storage r.plan r.member r.task) refl (stopped c.args.machine.now (answers.Call c.in-Call.n) (subst (λ (z : Step). StopsHere c.args.machine.now.cpu z) c.in-Call.is c.requires.why) r.storage r.told r.plan r.session r.member r.task r.ordered r.stands r.running c.requires.runs.ready) in
    record {
      runs = record {
        storage = r.storage;
        told = r.told;
        plan = r.plan;
        session = r.session;
        member = r.member;
        task = r.task;
        ordered = r.ordered;
        stands = stays r.storage r.told r.plan r.session c.args.machine.now c.args.machine.now it.2 r.stands;
        running = r.running;
      };
      code = it.0;
      called = it.1;
    }

pub returns-in-Absent-clause-tried : goal.returns-in-Absent-clause-tried
returns-in-Absent-clause-tried g c = λ x told plan s m t o h runs ready.
    let old = c.args.machine.now in
    let new = c.args.machine.now in
    let row = stopped c.args.machine.now (answers.Absent c.in-Absent.found) (subst (λ (z : Step). StopsHere c.args.machine.now.cpu z) c.in-Absent.is c.requires.why) x told plan s m t o h runs ready in
    let w = was_absent x told plan s m t old new o runs c.in-Absent.found (code_area x plan m t) refl row in
    record {
      row = λ says. (w.0, w.1, w.2, w.3, refl);
      fits = tt;
      quiet = λ none. refl;
    }

pub returns-in-Fault-clause-tried : goal.returns-in-Fault-clause-tried
returns-in-Fault-clause-tried g c = λ x told plan s m t o h runs ready.
    let old = c.args.machine.now in
    let new = c.args.machine.now in
    let row = stopped c.args.machine.now (answers.Fault c.in-Fault.fault) (subst (λ (z : Step). StopsHere c.args.machine.now.cpu z) c.in-Fault.is c.requires.why) x told plan s m t o h runs ready in
    let is = was_operator x told plan s m t (answers.Fault c.in-Fault.fault) old new (code_area x plan m t) refl (λ e. absurd cc) (λ n e. absurd cc) row in
    let w = was_fault x told plan s m t old new c.in-Fault.fault (code_area x plan m t) row in
    record {
      row = λ says. (w.0, w.1, refl);
      fits = operator_fits x told plan s m t o runs old h is (fault_touches x told plan s m t c.in-Fault.fault is.1 w.0);
      quiet = λ none. refl;
    }

pub returns-in-Ended-clause-tried : goal.returns-in-Ended-clause-tried
returns-in-Ended-clause-tried g c = λ x told plan s m t o h runs ready.
    let old = c.args.machine.now in
    let new = c.args.machine.now in
    let row = stopped c.args.machine.now answers.Ended (subst (λ (z : Step). StopsHere c.args.machine.now.cpu z) c.in-Ended.is c.requires.why) x told plan s m t o h runs ready in
    let is = was_operator x told plan s m t answers.Ended old new (code_area x plan m t) refl (λ e. absurd cc) (λ n e. absurd cc) row in
    let w = was_ended x told plan s m t old new (code_area x plan m t) row in
    record {
      row = λ says. (w.0, w.1, refl);
      fits = operator_fits x told plan s m t o runs old h is (leaves_touches x told plan s m t w.0);
      quiet = λ none. refl;
    }

pub returns-in-Ok-Done-clause-tried : goal.returns-in-Ok-Done-clause-tried
returns-in-Ok-Done-clause-tried g c = λ x told plan s m t o h runs ready.
    let old = c.args.machine.now in
    let new = c.args.machine.now in
    let it = was_call x told plan s m t old new c.in-Call.n (code_area x plan m t) refl (stopped c.args.machine.now (answers.Call c.in-Call.n) (subst (λ (z : Step). StopsHere c.args.machine.now.cpu z) c.in-Call.is c.requires.why) x told plan s m t o h runs ready) in
    let k = stays x told plan s old new it.2 h in
    let call = (rw c.in-Ok-Done.field-0-is at c.in-Ok-Done.ensures.call) x told plan s m t o k runs it.0 it.1 in
    let untold_call = (rw c.in-Ok-Done.field-0-is at c.in-Ok-Done.ensures.call) (untold x) None plan s m t o (machine_untold x told new plan s k) runs it.0 it.1 in
    let row = (untold_call.row tt).0 in
    let F : Machine → Type 0 = λ z. TryFits (length z.cpu.core) s m t (Ok Made) in
    record {
      row = λ says. called_so g.K.Sink.taken x (content_after told (g.B.Backing.holds c.intrinsic.new.backing)) plan s m t old new c.intrinsic.new.machine c.args.paper.now c.intrinsic.new.paper it.2 (call.row says);
      fits = subst F it.2 (call_fits x told plan s m t o runs new c.in-Call.n row.job row.printed row.touched k it.0 it.1 row.is call.fits call.present);
      quiet = λ none. call.quiet none;
    }

pub returns-in-Ok-Absent-clause-tried : goal.returns-in-Ok-Absent-clause-tried
returns-in-Ok-Absent-clause-tried g c = λ x told plan s m t o h runs ready.
    let old = c.args.machine.now in
    let new = c.args.machine.now in
    let it = was_call x told plan s m t old new c.in-Call.n (code_area x plan m t) refl (stopped c.args.machine.now (answers.Call c.in-Call.n) (subst (λ (z : Step). StopsHere c.args.machine.now.cpu z) c.in-Call.is c.requires.why) x told plan s m t o h runs ready) in
    let k = stays x told plan s old new it.2 h in
    let call = (rw c.in-Ok-Absent.field-0-is at c.in-Ok-Absent.ensures.call) x told plan s m t o k runs it.0 it.1 in
    record {
      row = λ says.
          let r = call.row says in
          let w = wants_array x plan m t c.in-Ok-Absent.found old c.intrinsic.new.machine it.0 r.0 (r.1 ∙ it.2) in
          (w.0, w.1, w.2, w.3, r.2);
      fits = tt;
      quiet = λ none. call.quiet none;
    }

pub returns-in-Ok-Fault-clause-tried : goal.returns-in-Ok-Fault-clause-tried
returns-in-Ok-Fault-clause-tried g c = λ x told plan s m t o h runs ready.
    let old = c.args.machine.now in
    let new = c.args.machine.now in
    let it = was_call x told plan s m t old new c.in-Call.n (code_area x plan m t) refl (stopped c.args.machine.now (answers.Call c.in-Call.n) (subst (λ (z : Step). StopsHere c.args.machine.now.cpu z) c.in-Call.is c.requires.why) x told plan s m t o h runs ready) in
    let k = stays x told plan s old new it.2 h in
    let call = (rw c.in-Ok-Fault.field-0-is at c.in-Ok-Fault.ensures.call) x told plan s m t o k runs it.0 it.1 in
    let untold_call = (rw c.in-Ok-Fault.field-0-is at c.in-Ok-Fault.ensures.call) (untold x) None plan s m t o (machine_untold x told new plan s k) runs it.0 it.1 in
    record {
      row = λ says. let r = call.row says in (r.0, r.1 ∙ it.2, r.2);
      fits = fault_fits x told plan s m t o runs old c.in-Ok-Fault.fault h it.0 (untold_call.row tt).0 call.present;
      quiet = λ none. call.quiet none;
    }

pub returns-in-Ok-Waits-clause-tried : goal.returns-in-Ok-Waits-clause-tried
returns-in-Ok-Waits-clause-tried g c = λ x told plan s m t o h runs ready.
    let old = c.args.machine.now in
    let new = c.args.machine.now in
    let it = was_call x told plan s m t old new c.in-Call.n (code_area x plan m t) refl (stopped c.args.machine.now (answers.Call c.in-Call.n) (subst (λ (z : Step). StopsHere c.args.machine.now.cpu z) c.in-Call.is c.requires.why) x told plan s m t o h runs ready) in
    let k = stays x told plan s old new it.2 h in
    let call = (rw c.in-Ok-Waits.field-0-is at c.in-Ok-Waits.ensures.call) x told plan s m t o k runs it.0 it.1 in
    let untold_call = (rw c.in-Ok-Waits.field-0-is at c.in-Ok-Waits.ensures.call) (untold x) None plan s m t o (machine_untold x told new plan s k) runs it.0 it.1 in
    record {
      row = λ says. let r = call.row says in (r.0, r.1 ∙ it.2, r.2);
      fits = waits_fit x told plan s m t o runs old c.in-Ok-Waits.state h it.0 (untold_call.row tt).0;
      quiet = λ none. call.quiet none;
    }

pub returns-in-Err-clause-tried : goal.returns-in-Err-clause-tried
returns-in-Err-clause-tried g c = λ x told plan s m t o h runs ready.
    let old = c.args.machine.now in
    let new = c.args.machine.now in
    let it = was_call x told plan s m t old new c.in-Call.n (code_area x plan m t) refl (stopped c.args.machine.now (answers.Call c.in-Call.n) (subst (λ (z : Step). StopsHere c.args.machine.now.cpu z) c.in-Call.is c.requires.why) x told plan s m t o h runs ready) in
    let k = stays x told plan s old new it.2 h in
    let call = c.in-Err.ensures.call x told plan s m t o k runs it.0 it.1 in
    let y = untold x in
    let j = machine_untold x told new plan s k in
    let untold_call = c.in-Err.ensures.call y None plan s m t o j runs it.0 it.1 in
    let F : Machine → Type 0 = λ z. TryFits (length z.cpu.core) s m t (Err c.in-Err.stop) in
    record {
      row = λ says.
          stops_so g.K.Sink.taken (content_after told (g.B.Backing.holds c.intrinsic.new.backing)) (g.B.Backing.size c.args.backing.now) x plan s m t c.in-Call.n c.in-Err.stop old new c.intrinsic.new.machine c.args.paper.now c.intrinsic.new.paper it.1 it.2 (call.row says);
      fits = subst F it.2 (stop_fits y None plan s m t o runs g.K.Sink.taken None (g.B.Backing.size c.args.backing.now) new c.intrinsic.new.machine c.args.paper.now c.intrinsic.new.paper c.in-Call.n c.in-Err.stop j it.0 it.1
          (untold_call.row tt) untold_call.present untold_call.fits);
      quiet = λ none. call.quiet (λ w. none (writes_so x plan m t c.in-Err.stop w));
    }

pub returns-in-Err-clause-causes : goal.returns-in-Err-clause-causes
returns-in-Err-clause-causes g c = caused_stop g.B.Backing.faults g.K.Sink.faults c.args.backing.now c.intrinsic.new.backing c.args.paper.now c.intrinsic.new.paper c.in-Err.stop c.in-Err.ensures.causes

pub returns-in-Absent-clause-causes : goal.returns-in-Absent-clause-causes
returns-in-Absent-clause-causes g c = caused_none g.B.Backing.faults g.K.Sink.faults c.args.backing.now c.args.backing.now c.args.paper.now c.args.paper.now _ (omega arith)

pub returns-in-Fault-clause-causes : goal.returns-in-Fault-clause-causes
returns-in-Fault-clause-causes g c = caused_none g.B.Backing.faults g.K.Sink.faults c.args.backing.now c.args.backing.now c.args.paper.now c.args.paper.now _ (omega arith)

pub returns-in-Ended-clause-causes : goal.returns-in-Ended-clause-causes
returns-in-Ended-clause-causes g c = caused_none g.B.Backing.faults g.K.Sink.faults c.args.backing.now c.args.backing.now c.args.paper.now c.args.paper.now _ (omega arith)

pub returns-in-Ok-Done-clause-causes : goal.returns-in-Ok-Done-clause-causes
returns-in-Ok-Done-clause-causes g c = caused_none g.B.Backing.faults g.K.Sink.faults c.args.backing.now c.intrinsic.new.backing c.args.paper.now c.intrinsic.new.paper _ c.intrinsic.ensures.causes.printer.later

pub returns-in-Ok-Absent-clause-causes : goal.returns-in-Ok-Absent-clause-causes
returns-in-Ok-Absent-clause-causes g c = caused_none g.B.Backing.faults g.K.Sink.faults c.args.backing.now c.intrinsic.new.backing c.args.paper.now c.intrinsic.new.paper _ c.intrinsic.ensures.causes.printer.later

pub returns-in-Ok-Fault-clause-causes : goal.returns-in-Ok-Fault-clause-causes
returns-in-Ok-Fault-clause-causes g c = caused_none g.B.Backing.faults g.K.Sink.faults c.args.backing.now c.intrinsic.new.backing c.args.paper.now c.intrinsic.new.paper _ c.intrinsic.ensures.causes.printer.later

pub returns-in-Ok-Waits-clause-causes : goal.returns-in-Ok-Waits-clause-causes
returns-in-Ok-Waits-clause-causes g c = caused_none g.B.Backing.faults g.K.Sink.faults c.args.backing.now c.intrinsic.new.backing c.args.paper.now c.intrinsic.new.paper _ c.intrinsic.ensures.causes.printer.later
