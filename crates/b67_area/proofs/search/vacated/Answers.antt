use Rattle.std.proofs.Common.{◌≡◌, ℕ, ◌+◌, ◌-◌, List, Some, sym, ◌∙◌, arith, ap, subst}
use Rattle.b67_area.specs.declared.kinds.Info.{Info}
use Rattle.b67_area.specs.Spans.{Span, first_hole, area_at}
use Rattle.b67_area.specs.Directory.{IsDirectory}
use Rattle.b67_area.specs.Walk.{Around, LeavesHole, IsAbove, front, behind, link_place, link_high}
use Rattle.b67_area.proofs.Climbs.{area_at-low, is_above, found_area}
use Rattle.b67_area.proofs.Frees.{front_next, leaves, vacates}
use Rattle.b67_area.proofs.search.vacated.Goals.{After-around-r, After-hole_at-t}
use Rattle.b67_area.proofs.search.vacated.Goals as goal

pub overflow_sub-at : goal.overflow_sub-at
overflow_sub-at c = let (low, ss, a, d, e) = c.requires in omega (arith, area_at-low low ss c.args.address a e)

pub words_of-taken-requires : goal.words_of-taken-requires
words_of-taken-requires c = let (low, ss, a, d, e) = c.requires in (a, found_area c.args.core.now low ss c.args.address (c.args.address - 1) a d e (omega (arith, area_at-low low ss c.args.address a e)))

pub around-r-requires : goal.around-r-requires
around-r-requires c = grind (arith, area_at-low)

-- what was found round the area
module _ (c : After-around-r) (low : ℕ) (ss : List Span) (a : Info) (d : IsDirectory c.args.core.now low ss) (e : area_at low ss c.args.address ≡ Some a) where
  at_is : c.args.address ≡ c.args.address - 1 + 1
  at_is = omega (arith, area_at-low low ss c.args.address a e)

  found : Around low ss (c.args.address - 1) a c.around-r.result
  found = c.around-r.ensures low ss a d (ap (area_at low ss) (sym at_is) ∙ e)

  words : c.words_of-taken.result ≡ a.words
  words = c.words_of-taken.ensures.value a (found_area c.args.core.now low ss c.args.address (c.args.address - 1) a d e at_is)

  behind_is : c.args.address - 1 + (a.words + 2) ≡ c.args.address - 1 + (c.words_of-taken.result + 2)
  behind_is = omega (arith, words)

  above : IsAbove c.args.core.now (link_place low found.below) (link_high found.below) (c.args.address - 1 + (c.words_of-taken.result + 2)) found.above
  above = subst (λ (k : ℕ). IsAbove c.args.core.now (link_place low found.below) (link_high found.below) k found.above) behind_is (is_above c.args.core.now low ss (c.args.address - 1) a c.around-r.result d found)

  next : c.around-r.result.next ≡ first_hole (c.args.address - 1 + (c.words_of-taken.result + 2)) found.above
  next = found.next ∙ ap (λ (k : ℕ). first_hole k found.above) behind_is

pub hole_at-t-requires : goal.hole_at-t-requires
hole_at-t-requires c =
    let (low, ss, a, d, e) = c.requires in
    let f = found c low ss a d e in
    (link_place low f.below, link_high f.below, f.above, above c low ss a d e, next c low ss a d e)

pub overflow_add-result : goal.overflow_add-result
overflow_add-result c =
    let (low, ss, a, d, e) = c.requires in
    let f = found c.before.before low ss a d e in
    let i = above c.before.before low ss a d e in
    let h = c.hole_at-t.ensures _ _ f.above i (next c.before.before low ss a d e) in
    omega (arith, h.0, (front_next c.args.core.now (link_place low f.below) (link_high f.below) (c.args.address - 1 + (c.words_of-taken.result + 2)) 0 f.above i).1, i.small)

leaves_here : (c : After-hole_at-t) (low : ℕ) (ss : List Span) (a : Info) → IsDirectory c.args.core.now low ss → area_at low ss c.args.address ≡ Some a → LeavesHole low ss c.args.address a (record { before = c.around-r.result.before; room = c.around-r.result.room; at = c.args.address - 1; size = c.words_of-taken.result + 2 + c.hole_at-t.result.room; next = c.hole_at-t.result.next })
leaves_here c low ss a d e =
    let f = found c.before low ss a d e in
    let i = above c.before low ss a d e in
    let h = c.hole_at-t.ensures _ _ f.above i (next c.before low ss a d e) in
    let w : a.words + 2 + c.hole_at-t.result.room ≡ c.words_of-taken.result + 2 + c.hole_at-t.result.room = omega (arith, words c.before low ss a d e) in
    let l = leaves c.args.core.now low ss c.args.address (c.args.address - 1) a c.around-r.result d f (at_is c.before low ss a d e) c.hole_at-t.result.room c.hole_at-t.result.next h.0 (h.1 ∙ ap (λ (k : ℕ). first_hole (k + front f.above) (behind f.above)) (sym (behind_is c.before low ss a d e))) in
    subst (λ (k : ℕ). LeavesHole low ss c.args.address a (record { before = c.around-r.result.before; room = c.around-r.result.room; at = c.args.address - 1; size = k; next = c.hole_at-t.result.next })) w l

pub returns-clause-found : goal.returns-clause-found
returns-clause-found c = λ low ss a d e. leaves_here c.before low ss a d e

pub returns-clause-facts : goal.returns-clause-facts
returns-clause-facts c =
    let (low, ss, a, d, e) = c.requires in
    vacates c.args.core.now low ss c.args.address a _ d (leaves_here c.before low ss a d e)
