use Rattle.std.proofs.Common.{ℕ, ◌≡◌, ◌+◌, ◌*◌, ◌^◌, ◌%◌, refl, ap, ◌∙◌, arith}
use Rattle.b67_model.specs.declared.operators.Op.{Op}
use Rattle.b67_model.specs.declared.operators.Op.TheVariants.{Valc}
use Rattle.b67_model.specs.Operators.{OneMore}
use Rattle.b67_exec.proofs.Through.{pair_through, pair_ends, inside_of}
use Rattle.b67_exec.proofs.Mades.{went_made, place_behind, none_made}
use Rattle.b67_exec.proofs.arms.evaluates.Goals as goal

pub after-next-requires-clause-stands : goal.after-next-requires-clause-stands
after-next-requires-clause-stands c =
    let d = c.in-Some.ensures.next 0 (inside_of c.args.cpu.now c.args.reader.now 0 (OneMore (λ low. Valc (c.args.reader.now.bits % 2 ^ 8 % 64 * 256 + low))) c.requires.runs c.requires.stands c.requires.begins) in
    (0 + 1, d.behind)

pub returns-in-None : goal.returns-in-None
returns-in-None c =
    let old = c.args.cpu.now in
    let before = c.args.reader.now in
    let b = c.requires.stands in
    let op : ℕ → Op = λ low. Valc (before.bits % 2 ^ 8 % 64 * 256 + low) in
    none_made old before c.unread.result c.on.result c.unread.new.why c.unread.ensures.made c.on.ensures c.unread.ensures.is b.code
    (pair_ends old before b op c.requires.begins (c.behind.ensures.end 0 (inside_of old before 0 (OneMore (λ low. Valc (c.args.reader.now.bits % 2 ^ 8 % 64 * 256 + low))) c.requires.runs b c.requires.begins) c.in-None.is))

pub makes_any_valc-went-requires-clause-couple : goal.makes_any_valc-went-requires-clause-couple
makes_any_valc-went-requires-clause-couple c = omega (arith, c.couple-named.ensures, c.first-2.type_inv)

pub makes_any_valc-went-requires-clause-next : goal.makes_any_valc-went-requires-clause-next
makes_any_valc-went-requires-clause-next c =
    let b = c.requires.stands in
    let d = c.in-Some.ensures.next 0 (inside_of c.args.cpu.now c.args.reader.now 0 (OneMore (λ low. Valc (c.args.reader.now.bits % 2 ^ 8 % 64 * 256 + low))) c.requires.runs b c.requires.begins) in
    let op : ℕ → Op = λ low. Valc (c.args.reader.now.bits % 2 ^ 8 % 64 * 256 + low) in
    let made : Op = Valc c.couple-named.result in
    let is : made ≡ op c.first-2.result = ap Valc (c.couple-named.ensures ∙ ap (λ (z : ℕ). z % 64 * 256 + c.first-2.result) c.first.ensures) in
    place_behind c.args.cpu.now made c.after-next.result c.place.result c.requires.runs
    (pair_through c.args.cpu.now c.args.reader.now b op c.in-Some.second c.after-next.result c.first-2.result made c.requires.begins d (c.after-next.ensures (0 + 1) d) c.first-2.ensures is) c.place.ensures

pub returns : goal.returns
returns c =
    let b = c.requires.stands in
    let d = c.in-Some.ensures.next 0 (inside_of c.args.cpu.now c.args.reader.now 0 (OneMore (λ low. Valc (c.args.reader.now.bits % 2 ^ 8 % 64 * 256 + low))) c.requires.runs b c.requires.begins) in
    let op : ℕ → Op = λ low. Valc (c.args.reader.now.bits % 2 ^ 8 % 64 * 256 + low) in
    let made : Op = Valc c.couple-named.result in
    let is : made ≡ op c.first-2.result = ap Valc (c.couple-named.ensures ∙ ap (λ (z : ℕ). z % 64 * 256 + c.first-2.result) c.first.ensures) in
    went_made c.args.cpu.now c.makes_any_valc-went.new.cpu c.args.reader.now c.after-next.result made c.place.result c.requires.runs b
    (pair_through c.args.cpu.now c.args.reader.now b op c.in-Some.second c.after-next.result c.first-2.result made c.requires.begins d (c.after-next.ensures (0 + 1) d) c.first-2.ensures is) c.place.ensures
    refl c.makes_any_valc-went.result c.goes.result c.goes.new.reader c.makes_any_valc-went.new.why c.makes_any_valc-went.ensures c.goes.ensures
