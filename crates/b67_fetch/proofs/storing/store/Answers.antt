use Rattle.std.proofs.Common.{sym, ◌∙◌, subst, refl, inl, inr}
use Rattle.b67_word.specs.declared.faults.Fault.TheVariants.{InvalidOperand}
use Rattle.b67_model.specs.Common.{in_order}
use Rattle.b67_stack.specs.declared.Step.TheVariants as step
use Rattle.b67_layout.specs.Common.{RunsSome, cells}
use Rattle.b67_refer.specs.RunningContext.{live_of}
use Rattle.b67_exec_cells.specs.Tops.{GivesTwo}
use Rattle.b67_fetch.specs.Stores.{Choice}
use Rattle.b67_fetch.proofs.Values.{here_scene, here_shown, followed_stands}
use Rattle.b67_fetch.proofs.Words.{Given, given, no_operand, followed}
use Rattle.b67_fetch.proofs.Stores.{missing, refused}
use Rattle.b67_fetch.proofs.StoreContext.{each, fault_no_call}
use Rattle.b67_fetch.proofs.storing.store.Goals.{After-tag-2, then-tag-eq0, else-tag-eq0}
use Rattle.b67_fetch.proofs.storing.store.Goals as goal

choice : (c : After-tag-2) → Choice c.in-Ok.two c.if-tag-eq0.reference
choice c = elim c.if-tag-eq0.branch [ then-tag-eq0 w ↦ inl (sym c.tag.ensures.value ∙ w.if-tag-eq0.true, w.reference-is) | else-tag-eq0 w ↦ inr (λ z. w.if-tag-eq0.false (c.tag.ensures.value ∙ z), w.reference-is) ]

context : (c : After-tag-2) (r : RunsSome c.args.cpu.now) → Given r.storage r.plan r.member r.task c.args.cpu.now c.if-tag-eq0.reference
context c r = given r.storage r.plan r.member r.task c.args.cpu.now c.in-Ok.two c.if-tag-eq0.reference (c.in-Ok.ensures.cells r.storage r.plan r.session r.member r.task r.ordered r.stands r.running) (choice c)

pub returns-in-Err-clause-row : goal.returns-in-Err-clause-row
returns-in-Err-clause-row c = λ x plan s m t o h runs.
    missing x c.args.cpu.now plan s m t o h runs c.args.next c.args.keeps c.args.cpu.now c.in-Err.fault refl (subst (GivesTwo x plan m t c.args.cpu.now (cells t)) c.in-Err.is (c.two_cells.ensures.cells x plan s m t o h runs))

pub returns-then-tag-ne0-clause-row : goal.returns-then-tag-ne0-clause-row
returns-then-tag-ne0-clause-row c = each c.args.cpu.now c.args.next c.args.keeps (step.Fault InvalidOperand) c.args.cpu.now (λ r.
    (let old = c.args.cpu.now in
    let g = context (goal.at.returns-then-tag-ne0-clause-row c).After-tag-2 r in
    refused r.storage old r.plan r.session r.member r.task r.ordered r.stands r.running c.args.next c.args.keeps c.if-tag-eq0.reference g old refl
    (no_operand r.storage r.plan r.member r.task old c.if-tag-eq0.reference g (λ z. c.if-tag-ne0.true (c.tag-2.ensures.value ∙ z)))))

pub chase-found-requires : goal.chase-found-requires
chase-found-requires c =
    let r = c.requires in
    let old = c.args.cpu.now in
    let g = context (goal.at.chase-found-requires c).After-tag-2 r in
    let w = (in_order g.first g.second).0 in
    let f = followed r.storage r.plan r.session r.member r.task r.ordered r.running old c.if-tag-eq0.reference g in
    let scene = here_scene r.storage old r.plan r.session r.member r.task r.ordered r.stands r.running in
    let stands = followed_stands r.storage old r.plan r.session r.member r.task r.ordered r.stands r.running c.if-tag-eq0.reference.0 w f in
    (live_of scene, here_shown r.storage old r.plan r.session r.member r.task r.ordered r.stands r.running, f.at, f.owner, w, stands)

pub returns-in-Err-clause-comes : goal.returns-in-Err-clause-comes
returns-in-Err-clause-comes c = fault_no_call c.in-Err.fault

pub returns-then-tag-ne0-clause-comes : goal.returns-then-tag-ne0-clause-comes
returns-then-tag-ne0-clause-comes c = fault_no_call InvalidOperand

pub store_to-requires-clause-one : goal.store_to-requires-clause-one
store_to-requires-clause-one c = record {
  two = c.in-Ok.two;
  given = c.in-Ok.ensures.cells;
  above = c.in-Ok.ensures.above;
  reference = c.if-tag-eq0.reference.0;
  choice = choice (goal.at.store_to-requires-clause-one c).After-tag-2;
  zero = sym c.tag-2.ensures.value ∙ c.if-tag-ne0.false;
  follows = c.chase-found.ensures.running;
}
