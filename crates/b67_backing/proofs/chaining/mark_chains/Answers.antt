use Rattle.std.proofs.Common.{◌+◌, List, Bool, sym, subst, arith}
use Rattle.b67_backing.proofs.Heads.{Heading, heading_first, heading_done, turn_stuck, turn_walked, turn_led, turn_free}
use Rattle.b67_backing.proofs.chaining.mark_chains.Goals.{then-links-i-ne0+then-not-led-i+else-not-mark_chain, else-links-i-ne0, else-links-i-ne0-via-then-links-i-ne0+else-not-led-i, else-links-i-ne0-via-else-links-i-ne0}
use Rattle.b67_backing.proofs.chaining.mark_chains.Goals as goal

pub heads-init : goal.heads-init
heads-init c = heading_first c.args.links.now c.args.seen.now c.requires.many c.requires.none

pub returns-then-not-mark_chain-clause-not : goal.returns-then-not-mark_chain-clause-not
returns-then-not-mark_chain-clause-not c =
    turn_stuck c.args.links.now c.args.led.now c.heads.seen c.heads.i c.heads.invariant c.requires.led c.heads-test.true c.if-links-i-ne0.true c.if-not-led-i.true c.if-not-mark_chain.ensures.not

pub heads-preserved : goal.heads-preserved
heads-preserved c = elim c.if-links-i-ne0.branch [
  | then-links-i-ne0+then-not-led-i+else-not-mark_chain w ↦
      subst (λ (seen : List Bool). Heading c.args.links.now (c.heads.i + 1 + 1) seen) (sym w.seen-is)
      (turn_walked c.args.links.now c.args.led.now c.heads.seen w.mark_chain.new.seen c.heads.i c.heads.invariant c.requires.led c.heads-test.true w.if-links-i-ne0.true w.if-not-led-i.true w.if-not-mark_chain.ensures.done)
  | else-links-i-ne0 w ↦
      subst (λ (seen : List Bool). Heading c.args.links.now (c.heads.i + 1 + 1) seen) (sym w.seen-is) (elim w.else-links-i-ne0.branch [
        | else-links-i-ne0-via-then-links-i-ne0+else-not-led-i v ↦ turn_led c.args.links.now c.args.led.now c.heads.seen c.heads.i c.heads.invariant c.requires.led c.heads-test.true v.if-not-led-i.false
        | else-links-i-ne0-via-else-links-i-ne0 v ↦ turn_free c.args.links.now c.heads.seen c.heads.i c.heads.invariant c.heads-test.true v.if-links-i-ne0.false
      ])
]

pub returns-clause-all : goal.returns-clause-all
returns-clause-all c = heading_done c.args.links.now (c.heads.i + 1) c.heads.seen c.heads.invariant (omega (arith, c.heads-test.false))
