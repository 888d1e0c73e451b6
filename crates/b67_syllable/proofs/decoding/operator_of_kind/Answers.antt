use Rattle.b67_syllable.proofs.CodeLemmas.{begins, ends, past_end, past_places}
use Rattle.b67_syllable.proofs.decoding.operator_of_kind.Goals as goal
use Rattle.b67_syllable.proofs.decoding.operator_of_kind.Goals.{else-end-code-via-then-end-code+else-end, else-end-code-via-else-end-code}

pub returns-then-end : goal.returns-then-end
returns-then-end c =
    let b = begins c.args.code.now c.args.at c.count_of-n.result c.args.kind c.requires.in_word c.requires.word c.count_of-n.ensures.value c.requires.begins in
    ends c.args.code.now c.args.at c.count_of-n.result c.args.kind b _ _ _ c.end_at-end.ensures c.operator_from.ensures c.place_of.ensures c.if-end-code.true c.if-end.true

pub returns-else-end-code : goal.returns-else-end-code
returns-else-end-code c =
    let b = begins c.args.code.now c.args.at c.count_of-n.result c.args.kind c.requires.in_word c.requires.word c.count_of-n.ensures.value c.requires.begins in
    elim c.else-end-code.branch [
      | else-end-code-via-then-end-code+else-end w ↦ past_places c.args.code.now c.args.at c.count_of-n.result c.args.kind b _ c.end_at-end.ensures w.if-end-code.true w.if-end.false
      | else-end-code-via-else-end-code w ↦ past_end c.args.code.now c.args.at c.count_of-n.result c.args.kind b _ c.end_at-end.ensures w.if-end-code.false
    ]
