use Rattle.std.proofs.Common.{ap, length, ◌∙◌}
use Rattle.b67_asm.proofs.Six.{next_word, all_behind, fewer, below}
use Rattle.b67_asm.proofs.lay.pack.Goals as goal

pub loop-rest-preserved : goal.loop-rest-preserved
loop-rest-preserved c = (
  next_word c.loop-rest.words c.of.result c.loop-rest.rest.now c.args.syllables.now c.push.new.self c.in-len6-up.len_at_least (c.in_ok-push.ensures.ok) (ap (λ w. w.bits) c.of.ensures ∙ c.word_bits.ensures.exact) c.loop-rest.invariant.0,
  all_behind c.loop-rest.words c.of.result c.push.new.self c.in_ok-push.ensures.ok c.loop-rest.invariant.1 (record { tagged = ap (λ w. w.tag) c.of.ensures; bits = below c.of.result.bits c.word_bits.result (ap (λ w. w.bits) c.of.ensures) c.word_bits.ensures.small }),
  fewer c.loop-rest.words c.of.result c.loop-rest.rest.now c.push.new.self (length c.args.syllables.now) c.in-len6-up.len_at_least c.in_ok-push.ensures.ok c.loop-rest.invariant.2,
)
