use Rattle.std.proofs.Common.{◌≡◌, ◌+◌, sym, ◌∙◌, ap, arith, refl, false, inl, inr, ◌⊎◌}
use Rattle.b67_stack.specs.declared.Cpu.{Cpu}
use Rattle.b67_layout.specs.Meets.{RunsSome}
use Rattle.b67_layout.proofs.Starts.{meets_runs}
use Rattle.b67_entry.proofs.Retning.{room, operand_is}
use Rattle.b67_entry.proofs.RetnContext.{is_pending, is_empty, top_word, is_refused, is_held, is_outermost, context, returning, regs_are, context_left, held_left, top_low}
use Rattle.b67_law.proofs.Maps.{IsOperand}
use Rattle.b67_entry.proofs.Putting.{room_left, put_above, put_done, evaluated}
use Rattle.b67_entry.proofs.Stops.{not_done}
use Rattle.b67_entry.proofs.returns.retn.Goals as goal
use Rattle.b67_entry.proofs.returns.retn.Goals.{else-mark-via-then-mark+else-tag-ne0, else-mark-via-else-mark}

pub top_mark-mark-requires : goal.top_mark-mark-requires
top_mark-mark-requires c = let r = c.requires in meets_runs r.storage c.args.cpu.now r.plan r.session r.member r.task r.stands r.running

pub returns-then-not-mark : goal.returns-then-not-mark
returns-then-not-mark c = record {
  row = λ x plan s m t o h runs next.
      (is_pending c.args.cpu.now c.top_mark-mark.result c.top_mark-mark.ensures (record { storage = x; plan = plan; session = s; member = m; task = t; ordered = o; stands = h; running = runs }) next c.if-not-mark.true, refl);
  above = λ i low. refl;
  top = λ e. absurd (not_done _ tt e);
}

pub overflow_add-cpu : goal.overflow_add-cpu
overflow_add-cpu c =
    let r = c.requires in
    let g = room r.storage c.args.cpu.now r.plan r.session r.member r.task r.ordered r.stands r.running in
    omega (arith, g.top, g.last, g.under, g.inside, g.bound)

pub returns-then-cpu : goal.returns-then-cpu
returns-then-cpu c = record {
  row = λ x plan s m t o h runs next.
      (is_empty c.args.cpu.now c.top_mark-mark.result c.top_mark-mark.ensures (record { storage = x; plan = plan; session = s; member = m; task = t; ordered = o; stands = h; running = runs }) next c.if-not-mark.false c.if-cpu.true, refl);
  above = λ i low. refl;
  top = λ e. absurd (not_done _ tt e);
}

pub get-word-requires : goal.get-word-requires
get-word-requires c =
    let r = c.requires in
    let g = room r.storage c.args.cpu.now r.plan r.session r.member r.task r.ordered r.stands r.running in
    omega (arith, g.last, g.under, g.inside)

pub refusal-requires : goal.refusal-requires
refusal-requires c =
    let v = top_word c.args.cpu.now c.top_mark-mark.result c.top_mark-mark.ensures c.if-not-mark.false c.get-word.result c.get-word.ensures c.if-cpu.false c.requires in
    (c.requires, v.0, v.1)

pub returns-in-Some : goal.returns-in-Some
returns-in-Some c = record {
  row = λ x plan s m t o h runs next. (
    is_refused c.args.cpu.now c.top_mark-mark.result c.top_mark-mark.ensures c.if-not-mark.false c.get-word.result c.get-word.ensures c.if-cpu.false c.refusal.result c.refusal.ensures c.in-Some.fault c.in-Some.is
        (record { storage = x; plan = plan; session = s; member = m; task = t; ordered = o; stands = h; running = runs }) next,
    refl,
  );
  above = λ i low. refl;
  top = λ e. absurd (not_done _ tt e);
}

pub returns-then-is_critical : goal.returns-then-is_critical
returns-then-is_critical c = record {
  row = λ x plan s m t o h runs next. (
    is_held c.args.cpu.now c.top_mark-mark.result c.top_mark-mark.ensures c.if-not-mark.false c.get-word.result c.get-word.ensures c.if-cpu.false c.refusal.result c.refusal.ensures c.in-None.is c.is_critical.result c.is_critical.ensures
        c.if-is_critical.true (record { storage = x; plan = plan; session = s; member = m; task = t; ordered = o; stands = h; running = runs }) next,
    refl,
  );
  above = λ i low. refl;
  top = λ e. absurd (not_done _ tt e);
}

pub returns-then-mark-eq0 : goal.returns-then-mark-eq0
returns-then-mark-eq0 c = record {
  row = λ x plan s m t o h runs next. (
    is_outermost c.args.cpu.now c.top_mark-mark.result c.top_mark-mark.ensures c.if-not-mark.false c.get-word.result c.get-word.ensures c.if-cpu.false c.refusal.result c.refusal.ensures c.in-None.is c.is_critical.result c.is_critical.ensures
        c.if-is_critical.false c.if-mark-eq0.true (record { storage = x; plan = plan; session = s; member = m; task = t; ordered = o; stands = h; running = runs }) next,
    refl,
  );
  above = λ i low. refl;
  top = λ e. absurd (not_done _ tt e);
}

pub caller-regs-requires : goal.caller-regs-requires
caller-regs-requires c =
    let k = context c.args.cpu.now c.top_mark-mark.result c.top_mark-mark.ensures c.if-not-mark.false c.get-word.result c.get-word.ensures c.if-cpu.false c.refusal.result c.refusal.ensures c.in-None.is c.is_critical.result c.is_critical.ensures c.if-is_critical.false c.if-mark-eq0.false c.requires in
    (returning c.args.cpu.now c.top_mark-mark.result c.get-word.result c.requires k, k.mark_is)

pub value_of-requires-clause-left : goal.value_of-requires-clause-left
value_of-requires-clause-left c =
    let k = context c.args.cpu.now c.top_mark-mark.result c.top_mark-mark.ensures c.if-not-mark.false c.get-word.result c.get-word.ensures c.if-cpu.false c.refusal.result c.refusal.ensures c.in-None.is c.is_critical.result c.is_critical.ensures c.if-is_critical.false c.if-mark-eq0.false c.requires in
    context_left c.args.cpu.now c.top_mark-mark.result c.get-word.result c.requires k c.caller-regs.result c.caller-regs.ensures

pub value_of-requires-clause-known : goal.value_of-requires-clause-known
value_of-requires-clause-known c =
    let k = context c.args.cpu.now c.top_mark-mark.result c.top_mark-mark.ensures c.if-not-mark.false c.get-word.result c.get-word.ensures c.if-cpu.false c.refusal.result c.refusal.ensures c.in-None.is c.is_critical.result c.is_critical.ensures c.if-is_critical.false c.if-mark-eq0.false c.requires in
    held_left c.args.cpu.now c.top_mark-mark.result c.get-word.result c.requires k c.caller-regs.result c.caller-regs.ensures

pub value_of-requires-clause-run : goal.value_of-requires-clause-run
value_of-requires-clause-run c =
    let k = context c.args.cpu.now c.top_mark-mark.result c.top_mark-mark.ensures c.if-not-mark.false c.get-word.result c.get-word.ensures c.if-cpu.false c.refusal.result c.refusal.ensures c.in-None.is c.is_critical.result c.is_critical.ensures c.if-is_critical.false c.if-mark-eq0.false c.requires in
    (c.requires, k.leaver, k.value, k.word, regs_are c.args.cpu.now c.top_mark-mark.result c.get-word.result c.requires k c.caller-regs.result c.caller-regs.ensures)

pub returns-then-tag-ne0 : goal.returns-then-tag-ne0
returns-then-tag-ne0 c = record {
  row = λ x plan s m t o h runs next.
      (let r : RunsSome c.args.cpu.now = record { storage = x; plan = plan; session = s; member = m; task = t; ordered = o; stands = h; running = runs } in
      let k = context c.args.cpu.now c.top_mark-mark.result c.top_mark-mark.ensures c.if-not-mark.false c.get-word.result c.get-word.ensures c.if-cpu.false c.refusal.result c.refusal.ensures c.in-None.is c.is_critical.result c.is_critical.ensures c.if-is_critical.false c.if-mark-eq0.false r in
      let e = regs_are c.args.cpu.now c.top_mark-mark.result c.get-word.result r k c.caller-regs.result c.caller-regs.ensures in
      evaluated x c.args.cpu.now plan s m t o h runs k.leaver k.value c.get-word.result k.word next c.value_of.result c.value_of.new.cpu (sym k.wants ∙ c.if-mark.true) (c.value_of.ensures.row x plan s m t o h runs k.leaver k.value k.word e));
  above = c.value_of.ensures.above;
  top = λ e.
      let k = context c.args.cpu.now c.top_mark-mark.result c.top_mark-mark.ensures c.if-not-mark.false c.get-word.result c.get-word.ensures c.if-cpu.false c.refusal.result c.refusal.ensures c.in-None.is c.is_critical.result c.is_critical.ensures c.if-is_critical.false c.if-mark-eq0.false c.requires in
      let low = top_low c.args.cpu.now c.top_mark-mark.result c.get-word.result c.requires k c.caller-regs.result c.caller-regs.ensures in
      let z = c.value_of.ensures.top e in
      (omega arith, omega arith);
}

pub settle-requires-clause-run : goal.settle-requires-clause-run
settle-requires-clause-run c =
    let k = context c.args.cpu.now c.top_mark-mark.result c.top_mark-mark.ensures c.if-not-mark.false c.get-word.result c.get-word.ensures c.if-cpu.false c.refusal.result c.refusal.ensures c.in-None.is c.is_critical.result c.is_critical.ensures c.if-is_critical.false c.if-mark-eq0.false c.requires in
    context_left c.args.cpu.now c.top_mark-mark.result c.get-word.result c.requires k c.caller-regs.result c.caller-regs.ensures

pub settle-requires-clause-known : goal.settle-requires-clause-known
settle-requires-clause-known c =
    let k = context c.args.cpu.now c.top_mark-mark.result c.top_mark-mark.ensures c.if-not-mark.false c.get-word.result c.get-word.ensures c.if-cpu.false c.refusal.result c.refusal.ensures c.in-None.is c.is_critical.result c.is_critical.ensures c.if-is_critical.false c.if-mark-eq0.false c.requires in
    held_left c.args.cpu.now c.top_mark-mark.result c.get-word.result c.requires k c.caller-regs.result c.caller-regs.ensures

pub settle-requires-clause-room : goal.settle-requires-clause-room
settle-requires-clause-room c =
    let r = c.requires in
    let k = context c.args.cpu.now c.top_mark-mark.result c.top_mark-mark.ensures c.if-not-mark.false c.get-word.result c.get-word.ensures c.if-cpu.false c.refusal.result c.refusal.ensures c.in-None.is c.is_critical.result c.is_critical.ensures c.if-is_critical.false c.if-mark-eq0.false r in
    room_left r.storage c.args.cpu.now r.plan r.session r.member r.task r.ordered r.stands r.running k.leaver c.caller-regs.result (regs_are c.args.cpu.now c.top_mark-mark.result c.get-word.result r k c.caller-regs.result c.caller-regs.ensures)

pub returns : goal.returns
returns c = record {
  row = λ x plan s m t o h runs next.
      (let r : RunsSome c.args.cpu.now = record { storage = x; plan = plan; session = s; member = m; task = t; ordered = o; stands = h; running = runs } in
      let k = context c.args.cpu.now c.top_mark-mark.result c.top_mark-mark.ensures c.if-not-mark.false c.get-word.result c.get-word.ensures c.if-cpu.false c.refusal.result c.refusal.ensures c.in-None.is c.is_critical.result c.is_critical.ensures c.if-is_critical.false c.if-mark-eq0.false r in
      let once : (k.leaver.back.value ≡ false) ⊎ IsOperand k.value = elim c.else-mark.branch [
        | else-mark-via-then-mark+else-tag-ne0 w ↦ inr (operand_is x c.args.cpu.now plan s m t o h runs k.value c.get-word.result k.word.word (sym w.tag.ensures.value ∙ w.if-tag-ne0.false))
        | else-mark-via-else-mark w ↦ inl (sym k.wants ∙ w.if-mark.false)
      ] in
      put_done x c.args.cpu.now plan s m t o h runs k.leaver k.value c.get-word.result k.word next c.caller-regs.result c.settle.new.cpu.display c.settle.new.cpu once
      (regs_are c.args.cpu.now c.top_mark-mark.result c.get-word.result r k c.caller-regs.result c.caller-regs.ensures) c.settle.ensures.shown c.settle.ensures.rest);
  above = λ i low. put_above c.args.cpu.now c.caller-regs.result c.settle.new.cpu.display c.get-word.result c.settle.new.cpu c.settle.ensures.rest i low;
  top = λ e.
      let k = context c.args.cpu.now c.top_mark-mark.result c.top_mark-mark.ensures c.if-not-mark.false c.get-word.result c.get-word.ensures c.if-cpu.false c.refusal.result c.refusal.ensures c.in-None.is c.is_critical.result c.is_critical.ensures c.if-is_critical.false c.if-mark-eq0.false c.requires in
      let low = top_low c.args.cpu.now c.top_mark-mark.result c.get-word.result c.requires k c.caller-regs.result c.caller-regs.ensures in
      let higher : c.settle.new.cpu.regs.s ≡ c.caller-regs.result.s + 1 = ap (λ (v : Cpu). v.regs.s) c.settle.ensures.rest in
      (omega arith, omega arith);
}
