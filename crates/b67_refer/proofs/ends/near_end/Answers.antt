use Rattle.std.proofs.Common.{◌∙◌, ap, subst, Ok, Result, Option}
use Rattle.b67_word.specs.declared.faults.Fault.{Fault}
use Rattle.b67_model.specs.Words.{Name}
use Rattle.b67_refer.specs.declared.ends.End.{End}
use Rattle.b67_refer.specs.RunningContext.{live_of}
use Rattle.b67_refer.proofs.Names.{couple_stands}
use Rattle.b67_refer.proofs.Owns.{First, first_turn, from_end}
use Rattle.b67_refer.proofs.ends.near_end.Goals as goal

pub near_place-at-requires : goal.near_place-at-requires
near_place-at-requires c = c.requires

pub returns-then-at-eq0-clause-leads : goal.returns-then-at-eq0-clause-leads
returns-then-at-eq0-clause-leads c = λ e is. absurd (let z : ⊥ = cc in z)

pub returns-then-at-eq0-clause-couple : goal.returns-then-at-eq0-clause-couple
returns-then-at-eq0-clause-couple c = λ e is. absurd (let z : ⊥ = cc in z)

pub end_at-requires : goal.end_at-requires
end_at-requires c =
    let (a, shown) = c.requires in
    let q = a.task.place in
    let (name, fits, is) = c.near_place-at.ensures.word c.if-at-eq0.false in
    let n = c.near_place-at.ensures.names c.if-at-eq0.false a q shown 0 0 (Name name.couple) (couple_stands c.args.core.now c.args.regs.now (live_of a) c.args.w name fits is) in
    let t = first_turn c.args.core.now c.args.regs.now a q c.near_place-at.result (Name name.couple) n.0 n.1 in
    (live_of a, q, t.frame, t.offset, t.word, t.cell)

pub returns-in-Ok-clause-leads : goal.returns-in-Ok-clause-leads
returns-in-Ok-clause-leads c = λ end is a q shown spot owner v stands.
    let at = c.near_place-at.result in
    let n = c.near_place-at.ensures.names c.if-at-eq0.false a q shown spot owner v stands in
    let t = first_turn c.args.core.now c.args.regs.now a q at v n.0 n.1 in
    let m = subst (λ (y : Result (Option End) Fault). First c.args.core.now c.args.regs.now a q at v n.0 n.1 y) (c.in-Ok.is ∙ ap Ok is) (c.end_at.ensures (live_of a) q t.frame t.offset t.word t.cell) in
    from_end c.args.core.now c.args.regs.now a q at v n.0 n.1 end m

pub returns-in-Ok-clause-couple : goal.returns-in-Ok-clause-couple
returns-in-Ok-clause-couple c = λ end is. c.near_place-at.ensures.couple c.if-at-eq0.false

pub returns-in-Err-clause-leads : goal.returns-in-Err-clause-leads
returns-in-Err-clause-leads c = λ e is. absurd (let z : ⊥ = cc in z)

pub returns-in-Err-clause-couple : goal.returns-in-Err-clause-couple
returns-in-Err-clause-couple c = λ e is. absurd (let z : ⊥ = cc in z)
