use Rattle.std.proofs.Common.{◌≡◌, ◌∷◌, ◌++◌, [], ap, sym, ◌∙◌, rules, arith}
use Rattle.std.specs.List.{filter_map}
use Rattle.b67_model_text.specs.Placing as deck
use Rattle.b67_model_text.specs.declared.deck.Stand.TheVariants.{Front}
use Rattle.b67_card.proofs.Switching.{too_low, too_many, well_placed, above_is, count_is, reverse-cons}
use Rattle.b67_card.proofs.shape.Shape.switch.Goals as goal

pub returns-then-not-is_above_last : goal.returns-then-not-is_above_last
returns-then-not-is_above_last c = λ before shows.
    let front : deck.stand before ≡ Front = search rules in
    let low = above_is c.as_slice.result.now before c.args.switch.count c.is_above_last.result (c.as_slice.ensures ∙ shows.switches) c.is_above_last.ensures in
    too_low before _ _ _ front (low ∙ c.if-not-is_above_last.true)

pub returns-then-as_slice : goal.returns-then-as_slice
returns-then-as_slice c = λ before shows.
    let front : deck.stand before ≡ Front = search rules in
    let high = above_is c.as_slice.result.now before c.args.switch.count c.is_above_last.result (c.as_slice.ensures ∙ shows.switches) c.is_above_last.ensures in
    let many = count_is c.as_slice-2.result.now before (c.as_slice-2.ensures ∙ shows.switches) in
    too_many before _ _ _ front (high ∙ c.if-not-is_above_last.false) (omega arith)

pub returns : goal.returns
returns c = λ before shows.
    let front : deck.stand before ≡ Front = search rules in
    let high = above_is c.as_slice.result.now before c.args.switch.count c.is_above_last.result (c.as_slice.ensures ∙ shows.switches) c.is_above_last.ensures in
    let few = count_is c.as_slice-2.result.now before (c.as_slice-2.ensures ∙ shows.switches) in
    (well_placed before _ _ _ front (high ∙ c.if-not-is_above_last.false) (omega arith), record { stand = shows.stand; stack = shows.stack; quantum = shows.quantum; halt = shows.halt; switches = c.in_ok-push.ensures.ok ∙ ap (λ xs. xs ++ c.args.switch ∷ []) shows.switches ∙ sym (reverse-cons c.args.switch (filter_map deck.switch_in before)); jobs = shows.jobs })
