use Rattle.std.proofs.Common.{◌≡◌, ℕ, List, sym, ◌∙◌, ap, subst}
use Rattle.b67_stack.specs.declared.Cpu.{Cpu}
use Rattle.b67_layout.specs.Layout.{machine_view}
use Rattle.b67_task.specs.DeathsInTurn.{all_died, all_put_out, slots_of, SameButSlots}
use Rattle.b67_task.proofs.TasksTakenOut.{ends_in, buried_so}
use Rattle.b67_task.proofs.end_slots.take_out.Goals as goal

pub empty_slots-requires : goal.empty_slots-requires
empty_slots-requires c =
    let (x, told, plan, s, m, numbers, b, may, e) = c.requires in
    let cpu = c.args.cpu.now in
    let q = ends_in x cpu.core cpu.regs cpu.critical plan s m numbers may in
    (x, told, machine_view plan s.jobs, q.0, b, q.1, q.2 ∙ e)

pub returns-clause-stands : goal.returns-clause-stands
returns-clause-stands c = λ x told plan s m numbers b may e.
    let cpu = c.args.cpu.now in
    let q = ends_in x cpu.core cpu.regs cpu.critical plan s m numbers may in
    let (y, released, my, same, zero) = c.empty_slots.ensures.stands x told (machine_view plan s.jobs) q.0 b q.1 (q.2 ∙ e) in
    let regs : c.empty_slots.new.cpu.regs ≡ all_put_out cpu.regs (slots_of q.0) = ap (λ (z : Cpu). z.regs) c.empty_slots.ensures.rest ∙ ap (all_put_out cpu.regs) (sym (q.2 ∙ e)) in (
      y,
      all_died (machine_view plan s.jobs) q.0,
      my,
      buried_so x cpu.core cpu.regs cpu.critical plan s m numbers may y c.empty_slots.new.cpu.core c.empty_slots.new.cpu.regs regs my.stands same zero,
      record {
        deaths = q.0;
        may = q.1;
        slots_are = q.2 ∙ e;
        released = released;
        same = subst (λ (ks : List ℕ). SameButSlots x.low (machine_view plan s.jobs) ks cpu.core c.empty_slots.new.cpu.core) (q.2 ∙ e) same;
      },
    )
