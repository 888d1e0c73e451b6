use Rattle.std.proofs.Common.{◌∙◌, ap, slice_set}
use Rattle.b67_word.specs.Tagged.{Tagged}
use Rattle.b67_task.proofs.Raising.{below_raised, grown_here}
use Rattle.b67_task.proofs.start_slot.add_slot.Goals as goal

pub returns-clause-stands : goal.returns-clause-stands
returns-clause-stands c = λ x p s g low.
    let written = c.set.ensures.value ∙ ap (λ (w : Tagged). slice_set c.raise.new.core c.args.areas.now.low w) c.of.ensures in
    grown_here x p c.args.cpu.now.core c.raise.new.core c.set.new.self c.args.cpu.now.regs c.args.areas.now c.raise.new.self _ s g low c.from.ensures c.raise.ensures.outside written
    c.raise.ensures.low c.raise.ensures.row c.raise.ensures.areas c.raise.ensures.len c.set.ensures.len

pub returns-clause-below : goal.returns-clause-below
returns-clause-below c = λ x p s g low i under ne.
    let written = c.set.ensures.value ∙ ap (λ (w : Tagged). slice_set c.raise.new.core c.args.areas.now.low w) c.of.ensures in
    below_raised x p c.args.cpu.now.core c.raise.new.core c.set.new.self c.args.cpu.now.regs c.args.areas.now c.raise.new.self _ s g low c.from.ensures c.raise.ensures.outside written i under ne
