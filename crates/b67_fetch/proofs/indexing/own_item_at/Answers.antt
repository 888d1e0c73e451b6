use Rattle.std.proofs.Common.{ℕ, ◌∙◌, sym, ap, arith, subst, Ok, Some}
use Rattle.std.proofs.lemmas.Option.{same_Some}
use Rattle.b67_model.specs.Common.{array_of, indexed}
use Rattle.b67_layout.specs.Meets.{here}
use Rattle.b67_fetch.specs.Indexes.{FindsItem}
use Rattle.b67_fetch.proofs.Values.{here_scene, here_shown}
use Rattle.b67_fetch.proofs.Items.{holds_found, found_index, index_natural}
use Rattle.b67_refer.specs.declared.ends.End.TheVariants as end
use Rattle.b67_fetch.proofs.Owns.{own_finds_array, at_array}
use Rattle.b67_fetch.proofs.indexing.own_item_at.Goals as goal

pub returns-then-not-is_natural : goal.returns-then-not-is_natural
returns-then-not-is_natural c = λ found e. absurd (let z : ⊥ = cc in z)

pub near_end-requires : goal.near_end-requires
near_end-requires c =
    let q = c.requires.runs in (
      here_scene q.storage c.args.cpu.now q.plan q.session q.member q.task q.ordered q.stands q.running,
      here_shown q.storage c.args.cpu.now q.plan q.session q.member q.task q.ordered q.stands q.running,
    )

pub returns-in-None : goal.returns-in-None
returns-in-None c = λ found e. absurd (let z : ⊥ = cc in z)

pub returns-in-Err : goal.returns-in-Err
returns-in-Err c = λ found e. absurd (let z : ⊥ = cc in z)

pub array_descriptor-length-requires : goal.array_descriptor-length-requires
array_descriptor-length-requires c =
    let q = c.requires.runs in
    let a = c.near_end.ensures in
    let is_array = c.in-Some.is ∙ ap Some (at_array c.in-Some.end c.in-Ok.original (sym c.array_in.ensures ∙ c.in-Ok.is)) in
    let p = q.task.place in (
      0,
      holds_found q.plan q.member q.task p c.args.cpu.now q c.in-Ok.original (array_of (here q.member q.task p) c.requires.word)
          (own_finds_array q.storage c.args.cpu.now q.plan q.session q.member q.task q.ordered q.stands q.running p c.args.reference c.in-Ok.original (a.leads (end.Array c.in-Ok.original) is_array) (a.couple (end.Array c.in-Ok.original) is_array) c.requires.word c.requires.followed),
    )

pub returns-then-at-from : goal.returns-then-at-from
returns-then-at-from c = λ found e. absurd (let z : ⊥ = cc in z)

pub returns : goal.returns
returns c = λ found is x plan s m t o h runs q v i followed same.
    let a = c.near_end.ensures in
    let is_array = c.in-Some.is ∙ ap Some (at_array c.in-Some.end c.in-Ok.original (sym c.array_in.ensures ∙ c.in-Ok.is)) in
    let natural = c.is_natural.ensures c.if-not-is_natural.false in
    let F : ℕ × ℕ → Type 0 = λ f. FindsItem plan m (Ok f) (indexed (here m t q) v i) in
    subst F (same_Some _ _ is)
    (found_index plan m t q x c.args.cpu.now s o h runs v i c.args.index c.in-Ok.original c.array_descriptor-length.result natural.0 same
    (own_finds_array x c.args.cpu.now plan s m t o h runs q c.args.reference c.in-Ok.original (a.leads (end.Array c.in-Ok.original) is_array) (a.couple (end.Array c.in-Ok.original) is_array) v followed)
    (λ n k home e. c.array_descriptor-length.ensures x plan s m t o h runs n k home e) c.bits-at.result
    (ap Ok c.bits-at.ensures.value ∙ index_natural c.array_descriptor-length.result.length c.args.index.bits natural.1 (omega (arith, c.if-at-from.false, c.from.ensures, c.bits-at.ensures.value))))
