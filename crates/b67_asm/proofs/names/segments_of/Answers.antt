use Rattle.std.proofs.Common.{arith, ap, sym, ◌∙◌, length}
use Rattle.std.proofs.lemmas.List.{length-drop}
use Rattle.b67_asm.proofs.Program.{rest_is}
use Rattle.b67_asm.proofs.Taking.{one_held_behind}
use Rattle.b67_asm.proofs.names.segments_of.Goals as goal

pub loop-rest-preserved-in_ok-push : goal.loop-rest-preserved-in_ok-push
loop-rest-preserved-in_ok-push c = (
  omega (arith, ap length (rest_is 1 c.loop-rest.rest.now), length-drop 1 c.loop-rest.rest.now, c.loop-rest.invariant.0),
  one_held_behind c.loop-rest.segments.items c.push.new.self.items c.in_ok-labels.labels c.loop-rest.rest.now c.args.lines.now c.line-item.result c.own_of.result.now c.in-len1-up.len_at_least c.line-item.is c.own_of.ensures.own (sym c.begins_segment.ensures ∙ c.if-begins_segment.true) c.in_ok-labels.ensures c.in_ok-push.ensures.items c.loop-rest.invariant.1,
)
