use Rattle.std.proofs.Common.{◌+◌, ◌∙◌, arith}
use Rattle.b67_overlay.proofs.Turning.{lies_of}
use Rattle.b67_task.specs.Vacated.{died}
use Rattle.b67_task.proofs.Dies.{room, core_long, base_is, top_at, machine_left, are_left, outside, vector_zero}
use Rattle.b67_task.proofs.end_slots.empty_slot.Goals as goal

pub stack_top-top-requires : goal.stack_top-top-requires
stack_top-top-requires c =
    let (x, told, p, gone, rest, m, may) = c.requires in
    let cpu = c.args.cpu.now in
    let base = base_is x cpu p c.args.slot gone rest m.stands may c.from.result c.from-2.result c.from.ensures c.from-2.ensures in
    (x.low, p, lies_of x cpu.core cpu.regs p m.stands, may.used, base)

pub vacate-requires-clause-slot : goal.vacate-requires-clause-slot
vacate-requires-clause-slot c = let (x, told, p, gone, rest, m, may) = c.requires in omega (arith, may.used, may.few)

pub vacate-requires-clause-base : goal.vacate-requires-clause-base
vacate-requires-clause-base c =
    let (x, told, p, gone, rest, m, may) = c.requires in
    let cpu = c.args.cpu.now in
    omega (arith, base_is x cpu p c.args.slot gone rest m.stands may c.from.result c.from-2.result c.from.ensures c.from-2.ensures, core_long x cpu p c.args.slot gone rest m.stands may, room x cpu p c.args.slot gone rest m.stands may)

pub release_words-requires-clause-left : goal.release_words-requires-clause-left
release_words-requires-clause-left c =
    let (x, told, p, gone, rest, m, may) = c.requires in
    let cpu = c.args.cpu.now in
    let base = base_is x cpu p c.args.slot gone rest m.stands may c.from.result c.from-2.result c.from.ensures c.from-2.ensures in
    let top = top_at x cpu p c.args.slot gone rest m.stands may _ c.stack_top-top.result base (c.stack_top-top.ensures x.low p (lies_of x cpu.core cpu.regs p m.stands) may.used base) in (
      x,
      told,
      died p c.args.slot rest,
      gone,
      machine_left x cpu p c.args.slot gone rest m.stands may c.vacate.new.cpu _ base c.vacate.ensures c.args.areas.now c.args.sectors.now told m,
      are_left x cpu p c.args.slot gone rest m.stands may c.vacate.new.cpu _ base c.vacate.ensures c.stack_top-top.result top,
    )

pub returns-clause-stands : goal.returns-clause-stands
returns-clause-stands c = λ x told p gone rest m may.
    let cpu = c.args.cpu.now in
    let base = base_is x cpu p c.args.slot gone rest m.stands may c.from.result c.from-2.result c.from.ensures c.from-2.ensures in
    let top = top_at x cpu p c.args.slot gone rest m.stands may _ c.stack_top-top.result base (c.stack_top-top.ensures x.low p (lies_of x cpu.core cpu.regs p m.stands) may.used base) in
    let r = c.release_words.ensures.stands x told (died p c.args.slot rest) gone
    (machine_left x cpu p c.args.slot gone rest m.stands may c.vacate.new.cpu _ base c.vacate.ensures c.args.areas.now c.args.sectors.now told m)
    (are_left x cpu p c.args.slot gone rest m.stands may c.vacate.new.cpu _ base c.vacate.ensures c.stack_top-top.result top) in (
      r.0,
      r.1,
      r.2,
      λ i up a b v. r.3 i up a ∙ outside x cpu p c.args.slot gone rest m.stands may c.vacate.new.cpu _ base c.vacate.ensures i b v,
      r.3 (32 + c.args.slot) (omega (arith, may.used, may.few, m.stands.slots.laid.first, m.stands.slots.laid.low)) (λ e. omega (arith, e, may.used, may.few))
          ∙ vector_zero x cpu p c.args.slot gone rest m.stands may c.vacate.new.cpu _ base c.vacate.ensures,
    )

pub release_words-requires-clause-order : goal.release_words-requires-clause-order
release_words-requires-clause-order c =
    let (x, told, p, gone, rest, m, may) = c.requires in
    let cpu = c.args.cpu.now in
    let base = base_is x cpu p c.args.slot gone rest m.stands may c.from.result c.from-2.result c.from.ensures c.from-2.ensures in
    omega (arith, c.stack_top-top.ensures x.low p (lies_of x cpu.core cpu.regs p m.stands) may.used base)
