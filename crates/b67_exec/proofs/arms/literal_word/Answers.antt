use Rattle.std.proofs.Common.{arith, refl, sym, subst}
use Rattle.b67_ctl.specs.declared.descriptors.SegDesc.{SegDesc}
use Rattle.b67_model.specs.declared.operators.Op.{Op}
use Rattle.b67_model.specs.Rows.{row}
use Rattle.b67_model.specs.Operators.{Literal}
use Rattle.b67_exec_cells.proofs.Codes.{short}
use Rattle.b67_exec.specs.Near.{HoldsCode, reader_place, word_op}
use Rattle.b67_exec.proofs.Readers.{words-are}
use Rattle.b67_exec.proofs.Through.{literal_through, literal_ends, straight_made, inside_of, each_as, word_straight}
use Rattle.b67_exec.proofs.Mades.{none_near}
use Rattle.b67_exec.proofs.arms.literal_word.Goals as goal

pub next_word-requires-clause-stands : goal.next_word-requires-clause-stands
next_word-requires-clause-stands c = inside_of c.args.cpu.now c.args.reader.now 0 (Literal (word_op c.args.procedure)) c.requires.runs c.requires.stands c.requires.begins

pub returns-in-None : goal.returns-in-None
returns-in-None c =
    let old = c.args.cpu.now in
    let before = c.args.reader.now in
    let b = c.requires.stands in
    none_near old before c.unread.result c.unread.new.why c.unread.ensures.made c.unread.ensures.is b.code
    (literal_ends old before b (word_op c.args.procedure) c.requires.begins (c.next_word.ensures.end c.in-None.is))

pub overflow_add-reader : goal.overflow_add-reader
overflow_add-reader c =
    let q = c.requires.runs in
    let b = c.requires.stands in
    let long = short q.storage c.args.cpu.now q.plan q.session q.member q.task q.ordered q.stands q.running in
    let same = words-are q.storage c.args.cpu.now q.plan q.session q.member q.task q.ordered q.stands q.running c.args.reader.now.code (b.code q.storage q.plan q.session q.member q.task q.ordered q.stands q.running) in
    omega (arith, long, same, c.in-Some.ensures.inside)

pub at_word-next-requires-clause-code : goal.at_word-next-requires-clause-code
at_word-next-requires-clause-code c = c.requires.stands.code

pub at_word-next-requires-clause-within : goal.at_word-next-requires-clause-within
at_word-next-requires-clause-within c = omega (arith, c.in-Some.ensures.inside)

pub pushes_word-step-requires-clause-bits : goal.pushes_word-step-requires-clause-bits
pushes_word-step-requires-clause-bits c = c.in-Some.ensures.small

pub returns : goal.returns
returns c =
    let old = c.args.cpu.now in
    let new = c.pushes_word-step.new.cpu in
    let before = c.args.reader.now in
    let next = c.at_word-next.result in
    let bits = c.in-Some.bits in
    let b = c.requires.stands in
    let op : Op = word_op c.args.procedure bits in
    straight_made old new before next c.went_on.new.reader op c.pushes_word-step.result c.went_on.result c.went_on.new.why c.requires.runs b (word_straight c.args.procedure bits)
    (literal_through old before b (word_op c.args.procedure) next bits c.requires.begins (subst (λ (d : SegDesc). HoldsCode old d) (sym c.at_word-next.ensures.code) b.code) c.in-Some.ensures.word c.at_word-next.ensures.at)
    (each_as old new c.pushes_word-step.result op c.place.result (reader_place next) (row op) c.place.ensures (λ h. refl) c.pushes_word-step.ensures) c.went_on.ensures
