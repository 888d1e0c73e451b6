use Rattle.std.proofs.Common.{◌+◌, None, refl, ◌∙◌}
use Rattle.b67_model.specs.declared.operators.Op.TheVariants.{Lt8}
use Rattle.b67_model.specs.Common.{Operand, pushes}
use Rattle.b67_model.specs.Operators.{OneMore}
use Rattle.b67_exec.specs.Near.{reader_place}
use Rattle.b67_exec.proofs.Through.{pair_through, pair_ends, straight_made, inside_of, each_as}
use Rattle.b67_exec.proofs.Mades.{none_near}
use Rattle.b67_exec.proofs.arms.literal_8.Goals as goal

pub after-next-requires-clause-stands : goal.after-next-requires-clause-stands
after-next-requires-clause-stands c =
    let d = c.in-Some.ensures.next 0 (inside_of c.args.cpu.now c.args.reader.now 0 (OneMore Lt8) c.requires.runs c.requires.stands c.requires.begins) in
    (0 + 1, d.behind)

pub returns-in-None : goal.returns-in-None
returns-in-None c =
    let old = c.args.cpu.now in
    let before = c.args.reader.now in
    let b = c.requires.stands in
    none_near old before c.unread.result c.unread.new.why c.unread.ensures.made c.unread.ensures.is b.code
    (pair_ends old before b Lt8 c.requires.begins (c.behind.ensures.end 0 (inside_of old before 0 (OneMore Lt8) c.requires.runs b c.requires.begins) c.in-None.is))

pub returns : goal.returns
returns c =
    let old = c.args.cpu.now in
    let new = c.literal-step.new.cpu in
    let before = c.args.reader.now in
    let second = c.in-Some.second in
    let next = c.after-next.result in
    let b = c.requires.stands in
    let i = inside_of old before 0 (OneMore Lt8) c.requires.runs b c.requires.begins in
    let d = c.in-Some.ensures.next 0 i in
    let e = c.after-next.ensures (0 + 1) d in
    let made = Lt8 c.from-bits.result in
    straight_made old new before next c.went_on.new.reader made c.literal-step.result c.went_on.result c.went_on.new.why c.requires.runs b refl
    (pair_through old before b Lt8 second next c.from-bits.result made c.requires.begins d e (c.from-bits.ensures ∙ c.first.ensures) refl)
    (each_as old new c.literal-step.result made c.place.result (reader_place next) (λ h. pushes h (Operand c.from-bits.result) None) c.place.ensures (λ h. refl) c.literal-step.ensures.row) c.went_on.ensures
