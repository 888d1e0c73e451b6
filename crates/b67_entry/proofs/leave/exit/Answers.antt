use Rattle.std.proofs.Common.{◌∷◌, sym, ◌∙◌, ap, arith, refl, subst}
use Rattle.std.proofs.lemmas.Bool.{not-false, not-true}
use Rattle.b67_ctl.specs.declared.registers.Regs.{Regs}
use Rattle.b67_stack.specs.declared.Cpu.{Cpu}
use Rattle.b67_layout.specs.Common.{outer_spots, machine_view, stack_of_task}
use Rattle.b67_layout.proofs.Common.{running_in_order, meets_runs, runs_here}
use Rattle.b67_refer.specs.RunningContext.{RunningContext}
use Rattle.b67_entry.proofs.Callers.{below_mark}
use Rattle.b67_entry.proofs.Exits.{leaves_pending, leaves_critical, leaves_last}
use Rattle.b67_entry.proofs.Leaving.{under, on_top, on_stack, may_return, scene_left, exit_goes_on}
use Rattle.b67_entry.proofs.Sorted.{is_pending, is_entered, is_last, returns_of}
use Rattle.b67_entry.proofs.Environments.{plain, holds_now, caller_slots}
use Rattle.b67_entry.proofs.Stops.{not_done}
use Rattle.b67_entry.proofs.leave.exit.Goals as goal

pub top_mark-mark-requires : goal.top_mark-mark-requires
top_mark-mark-requires c = let r = c.requires in meets_runs r.storage c.args.cpu.now r.plan r.session r.member r.task r.stands r.running

pub returns-then-not-mark : goal.returns-then-not-mark
returns-then-not-mark c = record {
  row = λ x plan s m t o h runs next. (
    let p = is_pending plan m t plan.running c.args.cpu.now.regs.slot (outer_spots plan m.constants.number m.progress.job t.critical t.parents) (running_in_order plan s m t o runs).1 c.top_mark-mark.result
        (c.top_mark-mark.ensures x (machine_view plan s.jobs) (stack_of_task plan m.constants.number m.progress.job plan.running t) h.holds.memory (runs_here x c.args.cpu.now plan s m t h runs)) (not-true _ c.if-not-mark.true) in
        leaves_pending m t next _ p.f p.below p.frames p.marked,
    refl,
  );
  core = refl;
  top = λ e. absurd (not_done _ tt e);
}

pub returns-then-is_critical : goal.returns-then-is_critical
returns-then-is_critical c = record {
  row = λ x plan s m t o h runs next. (
    let p = is_entered plan m t plan.running c.args.cpu.now.regs.slot (outer_spots plan m.constants.number m.progress.job t.critical t.parents) (running_in_order plan s m t o runs).1 c.top_mark-mark.result
        (c.top_mark-mark.ensures x (machine_view plan s.jobs) (stack_of_task plan m.constants.number m.progress.job plan.running t) h.holds.memory (runs_here x c.args.cpu.now plan s m t h runs)) (not-false _ c.if-not-mark.false) in
        leaves_critical m t next _ p.f p.below p.level p.environment p.back p.frames p.entered (sym (c.is_critical.ensures x plan s m t o h runs) ∙ c.if-is_critical.true),
    refl,
  );
  core = refl;
  top = λ e. absurd (not_done _ tt e);
}

pub returns-then-mark-eq0 : goal.returns-then-mark-eq0
returns-then-mark-eq0 c = record {
  row = λ x plan s m t o h runs next. (
    let p = is_last plan m t plan.running c.args.cpu.now.regs.slot (outer_spots plan m.constants.number m.progress.job t.critical t.parents) (running_in_order plan s m t o runs).1 c.top_mark-mark.result
        (c.top_mark-mark.ensures x (machine_view plan s.jobs) (stack_of_task plan m.constants.number m.progress.job plan.running t) h.holds.memory (runs_here x c.args.cpu.now plan s m t h runs)) (not-false _ c.if-not-mark.false) c.if-mark-eq0.true in
        leaves_last m t next _ p.f p.level p.environment p.frames p.entered (sym (c.is_critical.ensures x plan s m t o h runs) ∙ c.if-is_critical.false),
    refl,
  );
  core = refl;
  top = λ e. absurd (not_done _ tt e);
}

pub caller-regs-requires : goal.caller-regs-requires
caller-regs-requires c =
    let r = c.requires in
    let cpu = c.args.cpu.now in
    let m = r.member in
    let t = r.task in
    let a = returns_of r.plan m t r.plan.running cpu.regs.slot (outer_spots r.plan m.constants.number m.progress.job t.critical t.parents) (running_in_order r.plan r.session m t r.ordered r.running).1 c.top_mark-mark.result
    (c.top_mark-mark.ensures r.storage (machine_view r.plan r.session.jobs) (stack_of_task r.plan m.constants.number m.progress.job r.plan.running t) r.stands.holds.memory (runs_here r.storage cpu r.plan r.session m t r.stands r.running))
    (not-false _ c.if-not-mark.false) c.if-mark-eq0.false (sym (c.is_critical.ensures r.storage r.plan r.session m t r.ordered r.stands r.running) ∙ c.if-is_critical.false) in
    let top = on_top r.storage cpu r.plan r.session m t r.ordered r.stands r.running a in
    let below = under r.storage cpu r.plan r.session m t r.ordered r.stands r.running a in (
      may_return r.storage cpu r.plan r.session m t r.ordered r.stands r.running a,
      c.top_mark-mark.ensures r.storage (machine_view r.plan r.session.jobs) (top ∷ below) r.stands.holds.memory (on_stack r.storage cpu r.plan r.session m t r.ordered r.stands r.running a),
    )

pub rebuild_known-requires-clause-run : goal.rebuild_known-requires-clause-run
rebuild_known-requires-clause-run c =
    let r = c.requires in
    let cpu = c.args.cpu.now in
    let m = r.member in
    let t = r.task in
    let a = returns_of r.plan m t r.plan.running cpu.regs.slot (outer_spots r.plan m.constants.number m.progress.job t.critical t.parents) (running_in_order r.plan r.session m t r.ordered r.running).1 c.top_mark-mark.result
    (c.top_mark-mark.ensures r.storage (machine_view r.plan r.session.jobs) (stack_of_task r.plan m.constants.number m.progress.job r.plan.running t) r.stands.holds.memory (runs_here r.storage cpu r.plan r.session m t r.stands r.running))
    (not-false _ c.if-not-mark.false) c.if-mark-eq0.false (sym (c.is_critical.ensures r.storage r.plan r.session m t r.ordered r.stands r.running) ∙ c.if-is_critical.false) in
    let top = on_top r.storage cpu r.plan r.session m t r.ordered r.stands r.running a in
    let below = under r.storage cpu r.plan r.session m t r.ordered r.stands r.running a in
    let is = c.caller-regs.ensures (may_return r.storage cpu r.plan r.session m t r.ordered r.stands r.running a)
    (c.top_mark-mark.ensures r.storage (machine_view r.plan r.session.jobs) (top ∷ below) r.stands.holds.memory (on_stack r.storage cpu r.plan r.session m t r.ordered r.stands r.running a)) in
    subst (λ (v : Regs). RunningContext cpu.core v) (sym is) (scene_left r.storage cpu r.plan r.session m t r.ordered r.stands r.running a)

pub rebuild_known-requires-clause-known : goal.rebuild_known-requires-clause-known
rebuild_known-requires-clause-known c =
    let r = c.requires in
    let cpu = c.args.cpu.now in
    let m = r.member in
    let t = r.task in
    let a = returns_of r.plan m t r.plan.running cpu.regs.slot (outer_spots r.plan m.constants.number m.progress.job t.critical t.parents) (running_in_order r.plan r.session m t r.ordered r.running).1 c.top_mark-mark.result
    (c.top_mark-mark.ensures r.storage (machine_view r.plan r.session.jobs) (stack_of_task r.plan m.constants.number m.progress.job r.plan.running t) r.stands.holds.memory (runs_here r.storage cpu r.plan r.session m t r.stands r.running))
    (not-false _ c.if-not-mark.false) c.if-mark-eq0.false (sym (c.is_critical.ensures r.storage r.plan r.session m t r.ordered r.stands r.running) ∙ c.if-is_critical.false) in
    let top = on_top r.storage cpu r.plan r.session m t r.ordered r.stands r.running a in
    let below = under r.storage cpu r.plan r.session m t r.ordered r.stands r.running a in
    let is = c.caller-regs.ensures (may_return r.storage cpu r.plan r.session m t r.ordered r.stands r.running a)
    (c.top_mark-mark.ensures r.storage (machine_view r.plan r.session.jobs) (top ∷ below) r.stands.holds.memory (on_stack r.storage cpu r.plan r.session m t r.ordered r.stands r.running a)) in
    holds_now cpu (plain r.storage cpu r.plan r.session m t r.ordered r.stands r.running) (r.stands.shows m t r.running) c.caller-regs.result (caller_slots cpu c.caller-regs.result below a.back is)

pub returns : goal.returns
returns c = record {
  row = λ x plan s m t o h runs next.
      (let cpu = c.args.cpu.now in
      let a = returns_of plan m t plan.running cpu.regs.slot (outer_spots plan m.constants.number m.progress.job t.critical t.parents) (running_in_order plan s m t o runs).1 c.top_mark-mark.result
      (c.top_mark-mark.ensures x (machine_view plan s.jobs) (stack_of_task plan m.constants.number m.progress.job plan.running t) h.holds.memory (runs_here x cpu plan s m t h runs))
      (not-false _ c.if-not-mark.false) c.if-mark-eq0.false (sym (c.is_critical.ensures x plan s m t o h runs) ∙ c.if-is_critical.false) in
      let is = c.caller-regs.ensures (may_return x cpu plan s m t o h runs a)
      (c.top_mark-mark.ensures x (machine_view plan s.jobs) (on_top x cpu plan s m t o h runs a ∷ under x cpu plan s m t o h runs a) h.holds.memory (on_stack x cpu plan s m t o h runs a)) in
      exit_goes_on x cpu plan s m t o h runs a next c.caller-regs.result c.rebuild_known.new.display c.go_on.new.cpu is c.rebuild_known.ensures c.go_on.ensures);
  core = ap (λ (v : Cpu). v.core) c.go_on.ensures;
  top = λ e.
      let r = c.requires in
      let cpu = c.args.cpu.now in
      let m = r.member in
      let t = r.task in
      let a = returns_of r.plan m t r.plan.running cpu.regs.slot (outer_spots r.plan m.constants.number m.progress.job t.critical t.parents) (running_in_order r.plan r.session m t r.ordered r.running).1 c.top_mark-mark.result
      (c.top_mark-mark.ensures r.storage (machine_view r.plan r.session.jobs) (stack_of_task r.plan m.constants.number m.progress.job r.plan.running t) r.stands.holds.memory (runs_here r.storage cpu r.plan r.session m t r.stands r.running))
      (not-false _ c.if-not-mark.false) c.if-mark-eq0.false (sym (c.is_critical.ensures r.storage r.plan r.session m t r.ordered r.stands r.running) ∙ c.if-is_critical.false) in
      let may = may_return r.storage cpu r.plan r.session m t r.ordered r.stands r.running a in
      let is = c.caller-regs.ensures may (c.top_mark-mark.ensures r.storage (machine_view r.plan r.session.jobs) (may.top ∷ may.below) r.stands.holds.memory (on_stack r.storage cpu r.plan r.session m t r.ordered r.stands r.running a)) in
      omega (arith, ap (λ (v : Cpu). v.regs.s) c.go_on.ensures, ap (λ (v : Regs). v.s) is, below_mark cpu may);
}
