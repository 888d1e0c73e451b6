use Rattle.std.proofs.Common.{ℕ, ◌≡◌, ◌+◌, ◌*◌, ◌^◌, ◌%◌, None, refl, ap, ◌∙◌, arith}
use Rattle.b67_model.specs.declared.operators.Op.{Op}
use Rattle.b67_model.specs.declared.operators.Op.TheVariants.{Namc}
use Rattle.b67_model.specs.Common.{Name, pushes}
use Rattle.b67_model.specs.Operators.{OneMore}
use Rattle.b67_exec.specs.Near.{reader_place}
use Rattle.b67_exec.proofs.Through.{pair_through, pair_ends, straight_made, inside_of, each_as}
use Rattle.b67_exec.proofs.Mades.{none_near}
use Rattle.b67_exec.proofs.arms.names.Goals as goal

pub after-next-requires-clause-stands : goal.after-next-requires-clause-stands
after-next-requires-clause-stands c =
    let d = c.in-Some.ensures.next 0 (inside_of c.args.cpu.now c.args.reader.now 0 (OneMore (λ low. Namc (c.args.reader.now.bits % 2 ^ 8 % 64 * 256 + low))) c.requires.runs c.requires.stands c.requires.begins) in
    (0 + 1, d.behind)

pub returns-in-None : goal.returns-in-None
returns-in-None c =
    let old = c.args.cpu.now in
    let before = c.args.reader.now in
    let b = c.requires.stands in
    let op : ℕ → Op = λ low. Namc (before.bits % 2 ^ 8 % 64 * 256 + low) in
    none_near old before c.unread.result c.unread.new.why c.unread.ensures.made c.unread.ensures.is b.code
    (pair_ends old before b op c.requires.begins (c.behind.ensures.end 0 (inside_of old before 0 (OneMore (λ low. Namc (c.args.reader.now.bits % 2 ^ 8 % 64 * 256 + low))) c.requires.runs b c.requires.begins) c.in-None.is))

pub namc-step-requires-clause-couple : goal.namc-step-requires-clause-couple
namc-step-requires-clause-couple c = omega (arith, c.couple-named.ensures, c.first-2.type_inv)

pub returns : goal.returns
returns c =
    let old = c.args.cpu.now in
    let new = c.namc-step.new.cpu in
    let before = c.args.reader.now in
    let second = c.in-Some.second in
    let next = c.after-next.result in
    let b = c.requires.stands in
    let i = inside_of old before 0 (OneMore (λ low. Namc (c.args.reader.now.bits % 2 ^ 8 % 64 * 256 + low))) c.requires.runs b c.requires.begins in
    let d = c.in-Some.ensures.next 0 i in
    let e = c.after-next.ensures (0 + 1) d in
    let op : ℕ → Op = λ low. Namc (before.bits % 2 ^ 8 % 64 * 256 + low) in
    let made : Op = Namc c.couple-named.result in
    let is : made ≡ op c.first-2.result = ap Namc (c.couple-named.ensures ∙ ap (λ (z : ℕ). z % 64 * 256 + c.first-2.result) c.first.ensures) in
    straight_made old new before next c.went_on.new.reader made c.namc-step.result c.went_on.result c.went_on.new.why c.requires.runs b refl
    (pair_through old before b op second next c.first-2.result made c.requires.begins d e c.first-2.ensures is)
    (each_as old new c.namc-step.result made c.place.result (reader_place next) (λ h. pushes h (Name c.couple-named.result) None) c.place.ensures (λ h. refl) c.namc-step.ensures.row) c.went_on.ensures
