use Rattle.std.proofs.Common.{[], ◌∷◌, List, ℕ, length, ◌∙◌, ap, subst}
use Rattle.b67_layout_shown.specs.Machines.{sight_of}
use Rattle.b67_dump.specs.Walk.{marks_in, marks_under, offset_from}
use Rattle.b67_dump.specs.Landmarks.{IsNearest, marks_of_slot}
use Rattle.b67_dump.proofs.Nearest.{offset_is}
use Rattle.b67_dump.proofs.landmarks.owner_in.Goals as goal

pub returns-then-near-gt0-clause-number : goal.returns-then-near-gt0-clause-number
returns-then-near-gt0-clause-number c =
    let k = sight_of c.args.machine.now in
    let x = c.known_under-near.result in
    let near = subst (λ n. IsNearest k.core n (marks_of_slot k c.args.slot) x.mark x.number) c.from.ensures (c.known_under-near.ensures c.if-near-gt0.true) in
    near.count

pub returns-then-near-gt0-clause-offset : goal.returns-then-near-gt0-clause-offset
returns-then-near-gt0-clause-offset c =
    let k = sight_of c.args.machine.now in
    let x = c.known_under-near.result in
    let near = subst (λ n. IsNearest k.core n (marks_of_slot k c.args.slot) x.mark x.number) c.from.ensures (c.known_under-near.ensures c.if-near-gt0.true) in
    c.offset_over.ensures ∙ ap (λ m. offset_from k.core c.args.home (m ∷ [])) c.from-then-near-gt0.ensures ∙ offset_is k.core c.args.home (marks_of_slot k c.args.slot) x.mark x.number c.if-near-gt0.true near

pub returns-clause-number : goal.returns-clause-number
returns-clause-number c =
    let k = sight_of c.args.machine.now in
    let under = λ (n f : ℕ). marks_under c.args.home (marks_in k.core n f) in
    let marks = ap (λ n. under n c.top_mark_in.result) c.from-2.ensures ∙ ap (λ f. under k.regs.stack_size f) c.top_mark_in.ensures in
    c.owner_of.ensures.number ∙ ap (λ (fs : List ℕ). length fs) marks

pub returns-clause-offset : goal.returns-clause-offset
returns-clause-offset c =
    let k = sight_of c.args.machine.now in
    let under = λ (n f : ℕ). marks_under c.args.home (marks_in k.core n f) in
    let marks = ap (λ n. under n c.top_mark_in.result) c.from-2.ensures ∙ ap (λ f. under k.regs.stack_size f) c.top_mark_in.ensures in
    c.owner_of.ensures.offset ∙ ap (offset_from k.core c.args.home) marks
