use Rattle.std.proofs.Common.{◌∙◌, ap, subst, arith, Ok, Result, Option}
use Rattle.std.proofs.lemmas.Option.{slice_get_within}
use Rattle.b67_word.specs.declared.faults.Fault.{Fault}
use Rattle.b67_model.specs.Chase.{Leads, chase_on}
use Rattle.b67_layout.specs.Meets.{here}
use Rattle.b67_refer.specs.declared.ends.End.{End}
use Rattle.b67_refer.specs.declared.ends.TheConstants.{MORE_LINKS}
use Rattle.b67_refer.specs.RunningContext.{LiveContext, live_of}
use Rattle.b67_refer.specs.LiveEnds.{EndMeets}
use Rattle.b67_refer.proofs.SeenFrom.{from_running}
use Rattle.b67_refer.proofs.Owns.{First, first_turn, from_end, from_fault, from_rest, from_more}
use Rattle.b67_refer.proofs.ends.chase_from.Goals as goal

pub end_at-requires : goal.end_at-requires
end_at-requires c =
    let (a, shown, w, names, spot, owner, v, stands) = c.requires in
    let q = a.task.place in
    let n = names a q shown spot owner v stands in
    let t = first_turn c.args.core.now c.args.regs.now a q c.args.at v n.0 n.1 in
    (live_of a, q, t.frame, t.offset, t.word, t.cell)

pub returns-in-Ok-Some : goal.returns-in-Ok-Some
returns-in-Ok-Some c = λ w names a q shown spot owner v stands.
    let n = names a q shown spot owner v stands in
    let t = first_turn c.args.core.now c.args.regs.now a q c.args.at v n.0 n.1 in
    let m = subst (λ (y : Result (Option End) Fault). First c.args.core.now c.args.regs.now a q c.args.at v n.0 n.1 y) (c.in-Ok-Some.is ∙ ap Ok c.in-Ok-Some.field-0-is) (c.end_at.ensures (live_of a) q t.frame t.offset t.word t.cell) in
    from_end c.args.core.now c.args.regs.now a q c.args.at v n.0 n.1 c.in-Ok-Some.end m

pub get-requires : goal.get-requires
get-requires c =
    let (a, shown, w, names, spot, owner, v, stands) = c.requires in
    let q = a.task.place in
    let n = names a q shown spot owner v stands in
    let t = first_turn c.args.core.now c.args.regs.now a q c.args.at v n.0 n.1 in
    slice_get_within c.args.core.now c.args.at t.cell.word t.cell.there

pub chase_reference-requires : goal.chase_reference-requires
chase_reference-requires c =
    let (a, shown, w, names, spot, owner, v, stands) = c.requires in
    let q = a.task.place in
    let n = names a q shown spot owner v stands in
    let t = first_turn c.args.core.now c.args.regs.now a q c.args.at v n.0 n.1 in
    let m = subst (λ (y : Result (Option End) Fault). First c.args.core.now c.args.regs.now a q c.args.at v n.0 n.1 y) (c.in-Ok-None.is ∙ ap Ok c.in-Ok-None.field-0-is) (c.end_at.ensures (live_of a) q t.frame t.offset t.word t.cell) in
    let rest = from_rest c.args.core.now c.args.regs.now a q c.args.at v n.0 n.1 c.get.result m c.get.ensures in
    (live_of a, shown, rest.at, rest.owner, rest.word, rest.stands, rest.reference)

pub returns-in-Ok-None : goal.returns-in-Ok-None
returns-in-Ok-None c = λ w names a q shown spot owner v stands.
    let n = names a q shown spot owner v stands in
    let t = first_turn c.args.core.now c.args.regs.now a q c.args.at v n.0 n.1 in
    let m = subst (λ (y : Result (Option End) Fault). First c.args.core.now c.args.regs.now a q c.args.at v n.0 n.1 y) (c.in-Ok-None.is ∙ ap Ok c.in-Ok-None.field-0-is) (c.end_at.ensures (live_of a) q t.frame t.offset t.word t.cell) in
    let rest = from_rest c.args.core.now c.args.regs.now a q c.args.at v n.0 n.1 c.get.result m c.get.ensures in
    let e = from_running a (λ (b : LiveContext c.args.core.now c.args.regs.now). EndMeets b q c.chase_reference.result (chase_on (here a.member a.task q) MORE_LINKS (Leads rest.word)))
    (c.chase_reference.ensures (live_of a) q shown rest.at rest.owner rest.word rest.stands rest.reference) in
    from_more c.args.core.now c.args.regs.now a q c.args.at v n.0 n.1 c.get.result rest MORE_LINKS (omega arith) c.chase_reference.result e

pub returns-in-Err : goal.returns-in-Err
returns-in-Err c = λ w names a q shown spot owner v stands.
    let n = names a q shown spot owner v stands in
    let t = first_turn c.args.core.now c.args.regs.now a q c.args.at v n.0 n.1 in
    let m = subst (λ (y : Result (Option End) Fault). First c.args.core.now c.args.regs.now a q c.args.at v n.0 n.1 y) c.in-Err.is (c.end_at.ensures (live_of a) q t.frame t.offset t.word t.cell) in
    from_fault c.args.core.now c.args.regs.now a q c.args.at v n.0 n.1 c.in-Err.fault m
