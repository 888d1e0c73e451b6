use Rattle.std.proofs.Common.{Ok, Err, sym, subst, ◌∙◌}
use Rattle.std.proofs.lemmas.Bool.{true≢false, not-true, not-false}
use Rattle.b67_model.specs.Chase.{follow}
use Rattle.b67_layout.specs.Meets.{here}
use Rattle.b67_refer.specs.RunningContext.{live_of}
use Rattle.b67_fetch.proofs.Values.{here_scene, here_shown, followed_stands, finds_end}
use Rattle.b67_fetch.specs.Indexes.{FindsArray}
use Rattle.b67_model.specs.Indexing.{array_of}
use Rattle.b67_fetch.proofs.Found.{found_end, found_fault, desc_is, row_copied, row_found, no_row}
use Rattle.b67_fetch.proofs.indexing.array_of.Goals.{else-copy-via-then-copy+else-not-copy, else-copy-via-else-copy}
use Rattle.b67_fetch.proofs.indexing.array_of.Goals as goal

pub chase-requires : goal.chase-requires
chase-requires c =
    let q = c.requires.runs in
    let f = c.requires.followed in (
      live_of (here_scene q.storage c.args.cpu.now q.plan q.session q.member q.task q.ordered q.stands q.running),
      here_shown q.storage c.args.cpu.now q.plan q.session q.member q.task q.ordered q.stands q.running,
      f.at,
      f.owner,
      c.requires.word,
      followed_stands q.storage c.args.cpu.now q.plan q.session q.member q.task q.ordered q.stands q.running c.args.w c.requires.word f,
    )

pub returns-in-Ok : goal.returns-in-Ok
returns-in-Ok c = λ x plan s m t o h runs q v i.
    (let e = c.in-Ok.ensures.running (here_scene x c.args.cpu.now plan s m t o h runs) q (here_shown x c.args.cpu.now plan s m t o h runs) i.at i.owner v (followed_stands x c.args.cpu.now plan s m t o h runs c.args.w v i) in
    subst (λ z. FindsArray plan m z (array_of (here m t q) v)) (sym c.array_in.ensures)
    (found_end x plan m t q c.args.cpu.now.core c.args.w v c.in-Ok.end i (λ z. c.if-tag-ne5.true (c.tag.ensures.value ∙ z))
    (finds_end x c.args.cpu.now plan s m t o h runs q (Ok c.in-Ok.end) (follow (here m t q) v) e)))

pub returns-in-Err : goal.returns-in-Err
returns-in-Err c = λ x plan s m t o h runs q v i.
    found_fault x plan m t q c.args.cpu.now.core c.args.w v c.in-Err.fault i (λ z. c.if-tag-ne5.true (c.tag.ensures.value ∙ z))
    (finds_end x c.args.cpu.now plan s m t o h runs q (Err c.in-Err.fault) (follow (here m t q) v) (c.in-Err.ensures.running (here_scene x c.args.cpu.now plan s m t o h runs) q (here_shown x c.args.cpu.now plan s m t o h runs) i.at i.owner v (followed_stands x c.args.cpu.now plan s m t o h runs c.args.w v i)))

pub owner-requires : goal.owner-requires
owner-requires c =
    let r = c.requires.runs in
    let d = c.read-copy.result in
    let five = sym c.tag.ensures.value ∙ c.if-tag-ne5.false in
    let is = desc_is r.storage c.args.cpu.now r.plan r.session r.member r.task r.ordered r.stands r.running c.args.w c.requires.word c.requires.followed five d c.read-copy.ensures in
    row_copied r.storage c.args.cpu.now r.plan r.session r.member r.task r.ordered r.stands r.running c.args.w c.requires.word c.requires.followed five d is c.if-copy.true (not-true d.indexed c.if-not-copy.true)

pub returns-then-not-copy : goal.returns-then-not-copy
returns-then-not-copy c = λ x plan s m t o h runs q v i.
    (let d = c.read-copy.result in
    let five = sym c.tag.ensures.value ∙ c.if-tag-ne5.false in
    let is = desc_is x c.args.cpu.now plan s m t o h runs c.args.w v i five d c.read-copy.ensures in
    row_found x c.args.cpu.now plan s m t o h runs c.args.w v i five q d c.owner.result is c.if-copy.true (not-true d.indexed c.if-not-copy.true) c.owner.ensures)

pub returns-else-copy : goal.returns-else-copy
returns-else-copy c = λ x plan s m t o h runs q v i.
    let d = c.read-copy.result in
    let five = sym c.tag.ensures.value ∙ c.if-tag-ne5.false in
    let is = desc_is x c.args.cpu.now plan s m t o h runs c.args.w v i five d c.read-copy.ensures in
    no_row x c.args.cpu.now plan s m t o h runs c.args.w v i five q d is (λ copy whole. elim c.else-copy.branch [
      | else-copy-via-then-copy+else-not-copy w ↦ true≢false (sym (not-false d.indexed w.if-not-copy.false) ∙ whole)
      | else-copy-via-else-copy w ↦ true≢false (sym copy ∙ w.if-copy.false)
    ])
