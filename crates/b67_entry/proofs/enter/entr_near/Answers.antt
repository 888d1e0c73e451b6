use Rattle.std.proofs.Common.{◌≡◌, ◌+◌, ◌<◌, ℕ, length, Ok, refl, sym, ◌∙◌, arith, subst}
use Rattle.std.proofs.lemmas.Option.{none-some, same_Some}
use Rattle.b67_word.specs.declared.couples.Place.{Place}
use Rattle.b67_model.specs.Common.{top}
use Rattle.b67_stack.specs.declared.Step.TheVariants as step
use Rattle.b67_layout.specs.Common.{RunsSome}
use Rattle.b67_layout.proofs.Starts.{meets_runs}
use Rattle.b67_refer.specs.declared.ends.End.TheVariants as end
use Rattle.b67_refer.specs.RunningContext.{RunningContext, IsShown}
use Rattle.b67_refer.specs.Cells.{frame_at_core}
use Rattle.b67_refer.specs.Ends.{IsProcAt}
use Rattle.b67_refer.proofs.Chains.{level_is, level_small}
use Rattle.b67_refer.proofs.Enclosures.{named_home}
use Rattle.b67_refer.proofs.Owns.{named_procedure, named_intrinsic, named_number}
use Rattle.b67_entry.proofs.Firsts.{scene_of, first_inside, Referring, referring}
use Rattle.b67_entry.proofs.Leads.{Makes, each, Led, led, call_made, proc, may_enter, enter_made}
use Rattle.b67_entry.proofs.Nears.{near_disp}
use Rattle.b67_entry.proofs.enter.entr_near.Goals.{Else-cpu, Else-at-eq0, In-None, After-from}
use Rattle.b67_entry.proofs.enter.entr_near.Goals as goal

inside : (c : Else-cpu) → RunsSome c.args.cpu.now → c.args.cpu.now.regs.f + 1 < length c.args.cpu.now.core
inside c r = first_inside c.args.cpu.now c.args.next r c.top_mark.result c.top_mark.ensures c.if-top_mark.false c.if-cpu.false

refers : (c : Else-at-eq0) (r : RunsSome c.args.cpu.now) → Referring r c.args.next c.get-first.result
refers c r = referring c.args.cpu.now c.args.next r c.top_mark.result c.top_mark.ensures c.if-top_mark.false c.if-cpu.false c.get-first.result c.get-first.ensures (c.near_place-at.ensures.couple c.if-at-eq0.false)

context : (c : In-None) (r : RunsSome c.args.cpu.now) → Led r c.args.next (Ok (end.Proc c.near_place-at.result))
context c r = led (refers c.before.before.before.before.before.before r) _
    (named_procedure c.args.cpu.now.core c.args.cpu.now.regs c.args.cpu.now.display c.get-first.result c.near_place-at.result (c.near_place-at.ensures.names c.if-at-eq0.false) c.get-word.result c.get-word.ensures (sym c.tag.ensures.value ∙ c.if-tag-ne7.false) (λ p fits e. none-some p (sym c.in-None.is ∙ c.from_word.ensures.known p fits e)))

-- the procedure's cell is so many words over its frame's mark
under : (c : After-from) (a : RunningContext c.args.cpu.now.core c.args.cpu.now.regs) → IsShown a c.args.cpu.now.display → (f segment level : ℕ) (place : Place) → IsProcAt a c.args.next c.near_place-at.result f segment level place
    → c.near_place-at.result ≡ frame_at_core a f + c.from.result
under c a shown f segment level place p =
    let (name, fits, is) = c.near_place-at.ensures.word c.if-at-eq0.false in
    let disp = near_disp name c.get-first.result c.bits.result c.args.cpu.now.regs.level c.couple_at-offset.result c.from.result is c.bits.ensures.value c.couple_at-offset.ensures c.from.ensures in
    let home = named_home c.args.cpu.now.core c.args.cpu.now.regs c.args.cpu.now.display c.get-first.result c.near_place-at.result (c.near_place-at.ensures.names c.if-at-eq0.false) c.get-word.result c.get-word.ensures (sym c.tag.ensures.value ∙ c.if-tag-ne7.false) (λ i small e. none-some i (sym c.in-None.is ∙ c.from_word.ensures.known i small e)) name fits is a c.args.next shown f segment level place p in
    omega (arith, disp, home)

pub top_mark-requires : goal.top_mark-requires
top_mark-requires c = let r = c.requires.runs in meets_runs r.storage c.args.cpu.now r.plan r.session r.member r.task r.stands r.running

pub returns-then-top_mark : goal.returns-then-top_mark
returns-then-top_mark c = record { row = λ step e. absurd (none-some step e); kept = λ e. refl }

pub returns-then-cpu : goal.returns-then-cpu
returns-then-cpu c = record { row = λ step e. absurd (none-some step e); kept = λ e. refl }

pub get-first-requires : goal.get-first-requires
get-first-requires c = inside (goal.at.get-first-requires c).Else-cpu c.requires.runs

pub overflow_add-cpu : goal.overflow_add-cpu
overflow_add-cpu c = omega (arith, inside (goal.at.overflow_add-cpu c).Else-cpu c.requires.runs, c.requires.runs.stands.holds.memory.directory.small)

pub near_place-at-requires : goal.near_place-at-requires
near_place-at-requires c = let r = c.requires.runs in (scene_of r, r.stands.shows r.member r.task r.running)

pub returns-then-at-eq0 : goal.returns-then-at-eq0
returns-then-at-eq0 c = record { row = λ step e. absurd (none-some step e); kept = λ e. refl }

pub get-word-requires : goal.get-word-requires
get-word-requires c = c.near_place-at.ensures.inside c.if-at-eq0.false

pub returns-then-tag-ne7 : goal.returns-then-tag-ne7
returns-then-tag-ne7 c = record { row = λ step e. absurd (none-some step e); kept = λ e. refl }

pub overflow_cast-result : goal.overflow_cast-result
overflow_cast-result c =
    let r = c.requires.runs in
    let k = refers (goal.at.overflow_cast-result c).Else-at-eq0 r in
    omega (arith, named_number c.args.cpu.now.core c.args.cpu.now.regs c.args.cpu.now.display c.get-first.result c.near_place-at.result (c.near_place-at.ensures.names c.if-at-eq0.false) c.get-word.result c.get-word.ensures c.in-Some.p c.in-Some.ensures.some.0 c.in-Some.ensures.some.1 (scene_of r) (r.stands.shows r.member r.task r.running) (c.args.cpu.now.regs.f + 1) (top r.task.frames).identity k.reference k.stands)

pub returns-in-Some : goal.returns-in-Some
returns-in-Some c = record {
  row = λ answered is.
      let leads = named_intrinsic c.args.cpu.now.core c.args.cpu.now.regs c.args.cpu.now.display c.get-first.result c.near_place-at.result (c.near_place-at.ensures.names c.if-at-eq0.false) c.get-word.result c.get-word.ensures c.in-Some.p c.in-Some.ensures.some.0 c.in-Some.ensures.some.1 in
      subst (Makes c.args.cpu.now c.args.next c.args.cpu.now) (same_Some _ _ is)
      (each c.args.cpu.now c.args.next c.args.cpu.now (step.Call c.in-Some.p.number) (λ r. call_made (led (refers (goal.at.returns-in-Some c).Else-at-eq0 r) (Ok (end.Intrinsic c.in-Some.p.number)) leads) c.in-Some.p.number refl));
  kept = λ e. absurd (none-some _ (sym e));
}

pub couple_at-offset-requires-clause-level : goal.couple_at-offset-requires-clause-level
couple_at-offset-requires-clause-level c =
    let a = scene_of c.requires.runs in
    omega (arith, level_is c.args.cpu.now.core c.args.cpu.now.regs a, level_small c.args.cpu.now.core c.args.cpu.now.regs a)

pub overflow_sub-at : goal.overflow_sub-at
overflow_sub-at c =
    let r = c.requires.runs in
    let g = goal.at.overflow_sub-at c in
    let p = proc (context g.In-None r) c.near_place-at.result refl in
    omega (arith, under g.After-from (scene_of r) (r.stands.shows r.member r.task r.running) p.f p.segment p.level p.place p.procedure)

pub enclosure_at-home-requires : goal.enclosure_at-home-requires
enclosure_at-home-requires c =
    let r = c.requires.runs in
    let g = goal.at.enclosure_at-home-requires c in
    let p = proc (context g.In-None r) c.near_place-at.result refl in
    let at = under g.After-from (scene_of r) (r.stands.shows r.member r.task r.running) p.f p.segment p.level p.place p.procedure in
    (scene_of r, c.args.next, c.near_place-at.result, p.f, p.segment, p.level, p.place, p.procedure, (omega (arith, at)))

pub enter-step-requires-clause-home : goal.enter-step-requires-clause-home
enter-step-requires-clause-home c = λ a f segment level place e.
    let at = under (goal.at.enter-step-requires-clause-home c).After-from a (e.stands.shows a.member a.task a.running) f segment level place e.procedure in
    c.enclosure_at-home.ensures.home a c.args.next c.near_place-at.result f segment level place e.procedure (omega (arith, at))

pub enter-step-requires-clause-procedure : goal.enter-step-requires-clause-procedure
enter-step-requires-clause-procedure c = may_enter (context (goal.at.enter-step-requires-clause-procedure c).In-None c.requires.runs) c.near_place-at.result refl

pub returns-in-None : goal.returns-in-None
returns-in-None c = record {
  row = λ answered is.
      subst (Makes c.args.cpu.now c.args.next c.enter-step.new.cpu) (same_Some _ _ is)
      (each c.args.cpu.now c.args.next c.enter-step.new.cpu c.enter-step.result (λ r. enter_made (context (goal.at.returns-in-None c).In-None r) c.near_place-at.result refl c.enter-step.new.cpu c.enter-step.result c.enter-step.ensures.row));
  kept = λ e. absurd (none-some _ (sym e));
}
