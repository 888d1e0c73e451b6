use Rattle.std.proofs.Common.{ℕ, refl, ap, subst, ◌∙◌, arith, false, Ok, Result}
use Rattle.b67_model.specs.Chase.{follow}
use Rattle.b67_layout.specs.Meets.{here}
use Rattle.b67_stack.specs.declared.Step.{Step}
use Rattle.b67_word.specs.declared.faults.Fault.{Fault}
use Rattle.b67_refer.specs.RunningContext.{live_of}
use Rattle.b67_refer.specs.declared.ends.End.{End}
use Rattle.b67_refer.specs.declared.ends.End.TheVariants as end
use Rattle.b67_refer.specs.Ends.{EndMeets}
use Rattle.b67_refer.specs.Own.{LeadsTo}
use Rattle.b67_fetch.specs.Stores.{ElementAt}
use Rattle.b67_fetch.proofs.Values.{here_scene, followed_stands}
use Rattle.b67_fetch.proofs.Stores.{holds}
use Rattle.b67_fetch.proofs.own.own_element.Goals as goal

pub element_of-requires : goal.element_of-requires
element_of-requires c =
    let q = c.requires.runs in
    let i = c.requires.followed in (
      live_of (here_scene q.storage c.args.cpu.now q.plan q.session q.member q.task q.ordered q.stands q.running),
      i.at,
      i.owner,
      c.requires.word,
      followed_stands q.storage c.args.cpu.now q.plan q.session q.member q.task q.ordered q.stands q.running c.args.reference c.requires.word i,
    )

pub returns-in-Err : goal.returns-in-Err
returns-in-Err c = λ some. absurd (some refl)

pub element_address-requires : goal.element_address-requires
element_address-requires c =
    let r = c.requires.runs in
    let i = c.requires.followed in
    let old = c.args.cpu.now in
    let p = r.task.place in
    let a = here_scene r.storage old r.plan r.session r.member r.task r.ordered r.stands r.running in
    let five = c.element_of.ensures.copy c.in-Ok.end c.in-Ok.is in
    let e = c.element_of.ensures.leads (live_of a) p i.at i.owner c.requires.word (followed_stands r.storage old r.plan r.session r.member r.task r.ordered r.stands r.running c.args.reference c.requires.word i) (λ one. omega (arith, one, five)) in
    holds r.storage old r.plan r.session r.member r.task r.ordered r.stands r.running p false c.in-Element.original c.in-Element.index (follow (here r.member r.task p) c.requires.word)
    (subst (λ (z : Result End Fault). EndMeets a p z (follow (here r.member r.task p) c.requires.word)) (c.in-Ok.is ∙ ap Ok c.in-Element.is) e)

pub returns-in-Ok-element_address : goal.returns-in-Ok-element_address
returns-in-Ok-element_address c = λ some.
    let five = c.element_of.ensures.copy c.in-Ok.end c.in-Ok.is in
    let leads : LeadsTo c.args.cpu.now.core c.args.cpu.now.regs c.args.cpu.now.display c.args.reference (end.Element c.in-Element.original c.in-Element.index) = λ a p shown at owner v stands.
    subst (λ (z : Result End Fault). EndMeets a p z (follow (here a.member a.task p) v)) (c.in-Ok.is ∙ ap Ok c.in-Element.is) (c.element_of.ensures.leads (live_of a) p at owner v stands (λ one. omega (arith, one, five))) in
    record {
      other = λ z. omega (arith, z, five);
      end = end.Element c.in-Element.original c.in-Element.index;
      leads = leads;
      there = λ x plan s m t o h runs n home has.
          subst (λ (z : Result ℕ Step). ElementAt x plan m n c.in-Element.original c.in-Element.index z) c.in-Ok-element_address.is (c.element_address.ensures x plan s m t o h runs n home has);
    }

pub returns-in-Err-element_address : goal.returns-in-Err-element_address
returns-in-Err-element_address c = λ some. absurd (some refl)

pub returns-in_default : goal.returns-in_default
returns-in_default c = λ some. absurd (some refl)
