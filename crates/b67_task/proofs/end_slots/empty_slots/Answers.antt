use Rattle.std.proofs.Common.{◌+◌, List, ◌∷◌, [], ◌++◌, slice_index_or, drop, ◌∙◌, sym, ap, arith, subst}
use Rattle.b67_ctl.specs.declared.registers.Regs.{Regs}
use Rattle.b67_stack.specs.declared.Cpu.{Cpu}
use Rattle.b67_layout.specs.Machine.{MachineRepresentsView}
use Rattle.b67_task.specs.Vacated.{put_out, died}
use Rattle.b67_task.specs.DeathsInTurn.{Death, Buried, all_put_out}
use Rattle.b67_task.proofs.StillMayDie.{head, may, buried_more, all_buried, next_put_out, last_put_out}
use Rattle.b67_task.proofs.end_slots.empty_slots.Goals as goal

pub empty_slot-requires : goal.empty_slot-requires
empty_slot-requires c =
    let (x, told, p, ds, m, a, e) = c.requires in
    let (y, q, done, more, my, b, left) = c.loop-slot.invariant.stands x told p ds m a e in
    let h = head c.args.slots.now c.loop-slot.slot-index more c.loop-slot-test.true left in
    let d : Death = record { slot = slice_index_or c.args.slots.now c.loop-slot.slot-index 0; gone = h.gone; rest = h.rest } in (
      y,
      told,
      q,
      h.gone,
      h.rest,
      my,
      may x y y p q c.args.cpu.now.core c.loop-slot.cpu.core c.loop-slot.cpu.core ds done h.others d (subst (λ (z : List Death). Buried x y p q c.args.cpu.now.core c.loop-slot.cpu.core ds done z) h.is b),
    )

pub loop-slot-preserved : goal.loop-slot-preserved
loop-slot-preserved c =
    let v = c.loop-slot.invariant in
    record {
      rest = c.empty_slot.ensures.rest ∙ ap (λ (z : Cpu). let w : Cpu = record z { core = c.empty_slot.new.cpu.core; regs = put_out c.loop-slot.cpu.regs (slice_index_or c.args.slots.now c.loop-slot.slot-index 0) } in w) v.rest
          ∙ ap (λ (r : Regs). let w : Cpu = record c.args.cpu.now { core = c.empty_slot.new.cpu.core; regs = r } in w) (sym (ap (λ (z : Cpu). z.regs) c.empty_slot.ensures.rest));
      regs = ap (λ (z : Cpu). all_put_out z.regs (drop (c.loop-slot.slot-index + 1) c.args.slots.now)) c.empty_slot.ensures.rest ∙ next_put_out c.loop-slot.cpu.regs c.args.slots.now c.loop-slot.slot-index c.loop-slot-test.true ∙ v.regs;
      len = c.empty_slot.ensures.len ∙ v.len;
      areas = c.empty_slot.ensures.areas ∙ v.areas;
      count = c.empty_slot.ensures.count ∙ v.count;
      stands = λ x told p ds m a e.
          let (y, q, done, more, my, b, left) = c.loop-slot.invariant.stands x told p ds m a e in
          let h = head c.args.slots.now c.loop-slot.slot-index more c.loop-slot-test.true left in
          let d : Death = record { slot = slice_index_or c.args.slots.now c.loop-slot.slot-index 0; gone = h.gone; rest = h.rest } in
          let now = c.loop-slot.cpu.core in
          let b' : Buried x y p q c.args.cpu.now.core now ds done (d ∷ h.others) = subst (λ (z : List Death). Buried x y p q c.args.cpu.now.core now ds done z) h.is b in
          let (z, released, mz, same, zero) = c.empty_slot.ensures.stands y told q h.gone h.rest my (may x y y p q c.args.cpu.now.core now now ds done h.others d b') in (
            z,
            died q d.slot h.rest,
            done ++ (d ∷ []),
            h.others,
            mz,
            buried_more x y z p q c.args.cpu.now.core now c.empty_slot.new.cpu.core ds done h.others d b' (omega (arith, my.stands.slots.laid.first)) (omega (arith, my.stands.slots.laid.low)) released same zero,
            h.left,
          );
    }

pub returns-clause-stands : goal.returns-clause-stands
returns-clause-stands c = λ x told p ds m a e.
    let (y, q, done, more, my, b, left) = c.loop-slot.invariant.stands x told p ds m a e in
    let f = all_buried x y p q c.args.cpu.now.core c.loop-slot.cpu.core ds done more c.args.slots.now c.loop-slot.slot-index c.loop-slot-test.false left b in
    (y, f.0, subst (λ z. MachineRepresentsView y c.loop-slot.cpu c.loop-slot.areas c.loop-slot.sectors told z) f.1 my, f.2, f.3)

pub returns-clause-rest : goal.returns-clause-rest
returns-clause-rest c =
    let v = c.loop-slot.invariant in
    v.rest ∙ ap (λ (r : Regs). let w : Cpu = record c.args.cpu.now { core = c.loop-slot.cpu.core; regs = r } in w) (last_put_out c.loop-slot.cpu.regs c.args.slots.now c.loop-slot.slot-index c.loop-slot-test.false ∙ v.regs)
