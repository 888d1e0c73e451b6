use Rattle.std.proofs.Common.{◌∙◌, sym}
use Rattle.b67_web.proofs.Left.{reads_on, no_place, left_over, all_read}
use Rattle.b67_web.proofs.finding.places_of.Goals as goal

pub place-preserved : goal.place-preserved
place-preserved c = let p = c.in-Some.ensures.some in
    reads_on c.args.numbers.now c.place.places.items c.place.left.now c.in-Some.place c.push.new.self.items c.in-len4-up.len_at_least c.in_ok-push-in-Some.ensures.items p.0 p.1 p.2 p.3 p.4 c.place.invariant

pub returns-in-None-clause-none : goal.returns-in-None-clause-none
returns-in-None-clause-none c = λ e. no_place c.args.numbers.now c.place.places.items c.place.left.now c.in-len4-up.len_at_least c.place.invariant (c.place_of.ensures.none c.in-None.is)

pub returns-then-not-is_empty-clause-none : goal.returns-then-not-is_empty-clause-none
returns-then-not-is_empty-clause-none c = λ e. left_over c.args.numbers.now c.place.places.items c.place.left.now c.in_default.len_below (sym c.is_empty.ensures ∙ c.if-not-is_empty.true) c.place.invariant

pub returns-clause-some : goal.returns-clause-some
returns-clause-some c = all_read c.args.numbers.now c.place.places.items c.place.left.now (sym c.is_empty.ensures ∙ c.if-not-is_empty.false) c.place.invariant
