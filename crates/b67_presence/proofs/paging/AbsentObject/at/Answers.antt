use Rattle.std.proofs.Common.{length, sym, ◌∙◌}
use Rattle.b67_presence.proofs.Descriptors.{rest_here, code_read, data_read}
use Rattle.b67_presence.proofs.paging.AbsentObject.at.Goals as goal

pub returns-then-tag-eq3 : goal.returns-then-tag-eq3
returns-then-tag-eq3 c = λ x r p t s a.
    code_read c.args.core.now c.args.home c.get-w.result c.get-w.ensures (length t.numbers) (x.held t.home).chain t.kind (rest_here x c.args.core.now r p c.args.home t s a)
    (sym c.tag.ensures.value ∙ c.if-tag-eq3.true) c.read-segment.result c.read-segment.ensures

pub returns : goal.returns
returns c = λ x r p t s a.
    data_read c.args.core.now c.args.home c.get-w.result c.get-w.ensures (length t.numbers) (x.held t.home).chain t.kind (rest_here x c.args.core.now r p c.args.home t s a)
    (λ z. c.if-tag-eq3.false (c.tag.ensures.value ∙ z)) c.read-data.result c.read-data.ensures c.data_kind.result c.data_kind.ensures
