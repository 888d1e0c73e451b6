use Rattle.std.proofs.Common.{sym, ◌∙◌}
use Rattle.b67_model.specs.Indexing.{array_of}
use Rattle.b67_layout.specs.Meets.{here}
use Rattle.b67_fetch.proofs.Items.{array_fault, holds_found, found_index, no_index}
use Rattle.b67_fetch.proofs.indexing.item_at.Goals as goal

pub returns-in-Err : goal.returns-in-Err
returns-in-Err c = λ x plan s m t o h runs q v i followed same.
    array_fault plan m t q v i c.args.index c.in-Err.fault (sym c.tag.ensures.value ∙ c.if-tag-ne0.false) same (c.in-Err.ensures x plan s m t o h runs q v followed)

pub array_descriptor-requires : goal.array_descriptor-requires
array_descriptor-requires c =
    let q = c.requires.runs in (
      0,
      holds_found q.plan q.member q.task q.task.place c.args.cpu.now q c.in-Ok.original (array_of (here q.member q.task q.task.place) c.requires.word)
          (c.in-Ok.ensures q.storage q.plan q.session q.member q.task q.ordered q.stands q.running q.task.place c.requires.word c.requires.followed),
    )

pub returns-in-Ok-index_below : goal.returns-in-Ok-index_below
returns-in-Ok-index_below c = λ x plan s m t o h runs q v i followed same.
    found_index plan m t q x c.args.cpu.now s o h runs v i c.args.index c.in-Ok.original c.array_descriptor.result (sym c.tag.ensures.value ∙ c.if-tag-ne0.false) same
    (c.in-Ok.ensures x plan s m t o h runs q v followed) (λ n k home e. c.array_descriptor.ensures x plan s m t o h runs n k home e) c.in-Ok-index_below.n (sym c.in-Ok-index_below.is ∙ c.index_below.ensures)

pub returns-in-Err-index_below : goal.returns-in-Err-index_below
returns-in-Err-index_below c = λ x plan s m t o h runs q v i followed same.
    no_index plan m t q x c.args.cpu.now s o h runs v i c.args.index c.in-Ok.original c.array_descriptor.result (sym c.tag.ensures.value ∙ c.if-tag-ne0.false) same
    (c.in-Ok.ensures x plan s m t o h runs q v followed) (λ n k home e. c.array_descriptor.ensures x plan s m t o h runs n k home e) c.in-Err-index_below.fault (sym c.in-Err-index_below.is ∙ c.index_below.ensures)
