use Rattle.std.proofs.Common.{sym, ◌∙◌, inl, inr, Ok}
use Rattle.b67_fetch.specs.Stores.{Choice}
use Rattle.b67_fetch.proofs.Items.{two_followed, follows_one, chosen_item}
use Rattle.b67_fetch.proofs.indexing.own_item.Goals.{then-tag-eq0, else-tag-eq0}
use Rattle.b67_fetch.proofs.indexing.own_item.Goals as goal

pub returns-in-Err : goal.returns-in-Err
returns-in-Err c = λ found e. absurd (let z : ⊥ = cc in z)

pub own_item_at-requires : goal.own_item_at-requires
own_item_at-requires c =
    let q = c.requires in
    let ch : Choice c.in-Ok.words c.if-tag-eq0.reference = elim c.if-tag-eq0.branch [ then-tag-eq0 w ↦ inl (sym c.tag.ensures.value ∙ w.if-tag-eq0.true, w.reference-is) | else-tag-eq0 w ↦ inr (λ z. w.if-tag-eq0.false (c.tag.ensures.value ∙ z), w.reference-is) ] in
    let two = two_followed q.storage c.args.cpu.now q.plan q.session q.member q.task c.in-Ok.words.0 c.in-Ok.words.1 q.ordered q.running (c.in-Ok.ensures.cells q.storage q.plan q.session q.member q.task q.ordered q.stands q.running) in
    follows_one c.args.cpu.now q c.in-Ok.words c.if-tag-eq0.reference two ch

pub returns : goal.returns
returns c = λ found is. record {
  item = λ x plan s m t o h runs q.
      let ch : Choice c.in-Ok.words c.if-tag-eq0.reference = elim c.if-tag-eq0.branch [ then-tag-eq0 w ↦ inl (sym c.tag.ensures.value ∙ w.if-tag-eq0.true, w.reference-is) | else-tag-eq0 w ↦ inr (λ z. w.if-tag-eq0.false (c.tag.ensures.value ∙ z), w.reference-is) ] in
      let two = two_followed x c.args.cpu.now plan s m t c.in-Ok.words.0 c.in-Ok.words.1 o runs (c.in-Ok.ensures.cells x plan s m t o h runs) in
      chosen_item x plan m t q (Ok found) c.in-Ok.words c.if-tag-eq0.reference two ch (c.own_item_at.ensures found is x plan s m t o h runs q);
  above = c.in-Ok.ensures.above;
}
