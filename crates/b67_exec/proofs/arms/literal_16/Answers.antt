use Rattle.std.proofs.Common.{ℕ, ◌≡◌, ◌+◌, ◌*◌, ◌%◌, ◌^◌, None, refl, ◌∙◌, arith}
use Rattle.b67_model.specs.declared.operators.Op.{Op}
use Rattle.b67_model.specs.declared.operators.Op.TheVariants.{Lt16}
use Rattle.b67_model.specs.Operators.{TwoMore}
use Rattle.b67_model.specs.Common.{Operand, pushes}
use Rattle.b67_exec.specs.Near.{reader_place}
use Rattle.b67_exec.proofs.Through.{triple_through, triple_ends, straight_made, inside_of, each_as}
use Rattle.b67_exec.proofs.Mades.{none_near}
use Rattle.b67_exec.proofs.arms.literal_16.Goals as goal

pub behind-requires-2-clause-stands : goal.behind-requires-2-clause-stands
behind-requires-2-clause-stands c =
    let d = c.in-Some.ensures.next 0 (inside_of c.args.cpu.now c.args.reader.now 0 (TwoMore (λ high low. Lt16 (high * 256 + low))) c.requires.runs c.requires.stands c.requires.begins) in
    (0 + 1, d.behind)

pub after-next-requires-clause-stands : goal.after-next-requires-clause-stands
after-next-requires-clause-stands c =
    let d = c.in-Some.ensures.next 0 (inside_of c.args.cpu.now c.args.reader.now 0 (TwoMore (λ high low. Lt16 (high * 256 + low))) c.requires.runs c.requires.stands c.requires.begins) in
    let e = c.in-Some-behind.ensures.next (0 + 1) d in
    (0 + 1 + 1, e.behind)

pub returns-in-None : goal.returns-in-None
returns-in-None c =
    let old = c.args.cpu.now in
    let before = c.args.reader.now in
    let b = c.requires.stands in
    none_near old before c.unread.result c.unread.new.why c.unread.ensures.made c.unread.ensures.is b.code
    (triple_ends old before b (λ high low. Lt16 (high * 256 + low)) (0 + 1) c.requires.begins (omega arith) (c.behind.ensures.end 0 (inside_of old before 0 (TwoMore (λ high low. Lt16 (high * 256 + low))) c.requires.runs b c.requires.begins) c.in-None.is))

pub returns-in-None-behind : goal.returns-in-None-behind
returns-in-None-behind c =
    let old = c.args.cpu.now in
    let before = c.args.reader.now in
    let b = c.requires.stands in
    let d = c.in-Some.ensures.next 0 (inside_of old before 0 (TwoMore (λ high low. Lt16 (high * 256 + low))) c.requires.runs b c.requires.begins) in
    none_near old before c.unread-in-None-behind.result c.unread-in-None-behind.new.why c.unread-in-None-behind.ensures.made c.unread-in-None-behind.ensures.is b.code
    (triple_ends old before b (λ high low. Lt16 (high * 256 + low)) (0 + 1 + 1) c.requires.begins (omega arith) (c.behind-2.ensures.end (0 + 1) d c.in-None-behind.is))

pub returns : goal.returns
returns c =
    let old = c.args.cpu.now in
    let new = c.literal-step.new.cpu in
    let before = c.args.reader.now in
    let second = c.in-Some.second in
    let third = c.in-Some-behind.third in
    let next = c.after-next.result in
    let b = c.requires.stands in
    let i = inside_of old before 0 (TwoMore (λ high low. Lt16 (high * 256 + low))) c.requires.runs b c.requires.begins in
    let d = c.in-Some.ensures.next 0 i in
    let e = c.in-Some-behind.ensures.next (0 + 1) d in
    let f = c.after-next.ensures (0 + 1 + 1) e in
    let high : c.from.result ≡ second.bits % 2 ^ 8 = c.from.ensures ∙ c.first.ensures in
    let low : c.from-2.result ≡ third.bits % 2 ^ 8 = c.from-2.ensures ∙ c.first-2.ensures in
    let n : ℕ = c.from.result * 256 + c.from-2.result in
    let made : Op = Lt16 n in
    straight_made old new before next c.went_on.new.reader made c.literal-step.result c.went_on.result c.went_on.new.why c.requires.runs b refl
    (triple_through old before b (λ high low. Lt16 (high * 256 + low)) second third next c.from.result c.from-2.result made c.requires.begins d e f high low refl)
    (each_as old new c.literal-step.result made c.place.result (reader_place next) (λ h. pushes h (Operand n) None) c.place.ensures (λ h. refl) c.literal-step.ensures.row) c.went_on.ensures
