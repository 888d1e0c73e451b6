use Rattle.std.proofs.Common.{◌≡◌, ℕ, ◌+◌, ◌*◌, [], ◌∷◌, List, length, length-append, sym, ◌∙◌, ap, subst, arith}
use Rattle.b67_dump.specs.Landmarks.{IsBelow, AreStops}
use Rattle.b67_dump.proofs.Stopped.{below_same, below_then, no_stop, one_stop}
use Rattle.b67_dump.proofs.walking.stops_of.Goals as goal

pub each-init : goal.each-init
each-init c = (
  ap (λ (xs : List ℕ). length xs) c.new-stops.ensures,
  subst (AreStops c.args.core.now c.args.mark) (sym c.new-stops.ensures) (no_stop c.args.core.now c.args.mark),
  below_same c.args.core.now c.args.mark,
)

pub push-requires : goal.push-requires
push-requires c = let long = c.each.invariant.0 in omega (arith, long, c.each-test.true)

pub each-preserved : goal.each-preserved
each-preserved c =
    let core = c.args.core.now in
    let mark = c.args.mark in
    let stop = c.each.stop in
    let long = c.each.invariant.0 in
    let more = ap (λ (xs : List ℕ). length xs) c.push.ensures.items ∙ length-append c.each.stops.items (c.each.at ∷ []) in
    let on : 64 * stop + 64 ≡ 64 * (stop + 1) = omega arith in (
      omega (arith, long, more),
      one_stop core mark c.each.at c.each.stops.items c.push.new.self.items c.each.invariant.1 (subst (λ n. IsBelow core mark (64 * n) c.each.at) (sym long) c.each.invariant.2) c.push.ensures.items,
      subst (λ n. IsBelow core mark n c.mark_below-at.result) on (below_then core mark (64 * stop) c.each.at 64 c.mark_below-at.result c.each.invariant.2 c.mark_below-at.ensures),
    )
