use Rattle.std.proofs.Common.{sym, ◌∙◌}
use Rattle.std.proofs.lemmas.Bool.{true≢false, not-true, not-false}
use Rattle.b67_fetch.proofs.Found.{desc_is, row_copied}
use Rattle.b67_mcp.proofs.Copied.{copy_found, no_copy}
use Rattle.b67_mcp.proofs.print_row.copied.Goals.{else-copy-via-then-copy+else-not-copy, else-copy-via-else-copy}
use Rattle.b67_mcp.proofs.print_row.copied.Goals as goal

pub owner-requires : goal.owner-requires
owner-requires c =
    let r = c.requires.runs in
    let d = c.read-copy.result in
    let five = sym c.tag.ensures.value ∙ c.if-tag-ne5.false in
    let is = desc_is r.storage c.args.cpu.now r.plan r.session r.member r.task r.ordered r.stands r.running c.args.w c.requires.word c.requires.followed five d c.read-copy.ensures in
    row_copied r.storage c.args.cpu.now r.plan r.session r.member r.task r.ordered r.stands r.running c.args.w c.requires.word c.requires.followed five d is c.if-copy.true (not-true d.indexed c.if-not-copy.true)

pub returns-then-not-copy : goal.returns-then-not-copy
returns-then-not-copy c = λ x plan s m t o h runs v i.
    (let d = c.read-copy.result in
    let five = sym c.tag.ensures.value ∙ c.if-tag-ne5.false in
    let is = desc_is x c.args.cpu.now plan s m t o h runs c.args.w v i five d c.read-copy.ensures in
    copy_found x c.args.cpu.now plan s m t o h runs c.args.w v i d c.owner.result is c.if-copy.true (not-true d.indexed c.if-not-copy.true) c.owner.ensures)

pub returns-else-copy : goal.returns-else-copy
returns-else-copy c = λ x plan s m t o h runs v i.
    let d = c.read-copy.result in
    let five = sym c.tag.ensures.value ∙ c.if-tag-ne5.false in
    let is = desc_is x c.args.cpu.now plan s m t o h runs c.args.w v i five d c.read-copy.ensures in
    no_copy x c.args.cpu.now plan s m t o h runs c.args.w v i d is (λ copy whole. elim c.else-copy.branch [
      | else-copy-via-then-copy+else-not-copy w ↦ true≢false (sym (not-false d.indexed w.if-not-copy.false) ∙ whole)
      | else-copy-via-else-copy w ↦ true≢false (sym copy ∙ w.if-copy.false)
    ])
