use Rattle.std.proofs.Common.{[], ◌∷◌, List, length, length-append, sym, ◌∙◌, ap, subst, arith}
use Rattle.b67_layout_shown.specs.Machines.{sight_of}
use Rattle.b67_dump.specs.declared.landmarks.Landmark.{Landmark}
use Rattle.b67_dump.specs.Landmarks.{AreLandmarks, IsLandmark}
use Rattle.b67_dump.proofs.Landmarked.{no_landmark, one_more}
use Rattle.b67_dump.proofs.landmarks.landmarks_of.Goals as goal

pub each-init : goal.each-init
each-init c =
    let k = sight_of c.args.machine.now in
    (ap (λ (xs : List Landmark). length xs) c.new-landmarks.ensures, subst (AreLandmarks k) (sym c.new-landmarks.ensures) (no_landmark k))

pub next_landmark-next-requires-clause-known : goal.next_landmark-next-requires-clause-known
next_landmark-next-requires-clause-known c = subst (AreLandmarks (sight_of c.args.machine.now)) (sym c.as_slice.ensures.value) c.each.invariant.1

pub next_landmark-next-requires-clause-few : goal.next_landmark-next-requires-clause-few
next_landmark-next-requires-clause-few c =
    let same = ap (λ (xs : List Landmark). length xs) c.as_slice.ensures.value in
    let long = c.each.invariant.0 in
    omega (arith, same, long, c.each-test.true)

pub push-requires : goal.push-requires
push-requires c = let long = c.each.invariant.0 in omega (arith, long, c.each-test.true)

pub each-preserved : goal.each-preserved
each-preserved c =
    let k = sight_of c.args.machine.now in
    let x = c.next_landmark-next.result in
    let long = c.each.invariant.0 in
    let more = ap (λ (xs : List Landmark). length xs) c.push.ensures.items ∙ length-append c.each.landmarks.items (x ∷ []) in (
      omega (arith, long, more),
      one_more k c.each.landmarks.items c.push.new.self.items x c.each.invariant.1 (subst (λ (xs : List Landmark). IsLandmark k (length xs) x) c.as_slice.ensures.value c.next_landmark-next.ensures) c.push.ensures.items,
    )

pub returns : goal.returns
returns c = c.each.invariant.1
