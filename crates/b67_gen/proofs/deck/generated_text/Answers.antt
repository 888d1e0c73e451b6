use Rattle.std.proofs.Common.{ℕ, List, ◌≡◌, ◌∙◌, ◌<◌, ◌*◌, sym, ap, subst, length, arith}
use Rattle.std.specs.Prelude.{IfOk}
use Rattle.std.specs.List.{AllByRecursion}
use Rattle.b67_gen.specs.Generated.{after_draws, lengths, stores}
use Rattle.b67_gen.proofs.Drawing.{lengths_positive, lengths_many}
use Rattle.b67_gen.proofs.Cards.{generated_is}
use Rattle.b67_gen.proofs.deck.generated_text.Goals as goal

pub draw_stores-requires-clause-few : goal.draw_stores-requires-clause-few
draw_stores-requires-clause-few c =
    let many = ap length (c.as_slice.ensures.value ∙ c.in_ok-arrays.ensures.lengths) ∙ lengths_many c.args.size c.new-draws.result.state in
    let few = c.requires.high in
    omega (arith, many, few)

pub draw_stores-requires-clause-long : goal.draw_stores-requires-clause-long
draw_stores-requires-clause-long c =
    subst (λ (arrays : List ℕ). AllByRecursion (λ (n : ℕ). 0 < n) arrays) (sym (c.as_slice.ensures.value ∙ c.in_ok-arrays.ensures.lengths)) (lengths_positive c.args.size c.new-draws.result.state)

pub returns : goal.returns
returns c =
    let a = c.in_ok-arrays.ensures.lengths ∙ ap (lengths c.args.size) c.new-draws.ensures in
    let x = c.in_ok-arrays.ensures.state ∙ ap (after_draws c.args.size) c.new-draws.ensures in
    let s = c.as_slice-3.ensures.value ∙ c.in_ok-stores.ensures ∙ ap (λ (arrays : List ℕ). stores arrays (4 * c.args.size) c.draw_lengths.new.draws.state) (c.as_slice.ensures.value ∙ a) ∙ ap (stores (lengths c.args.size c.args.seed) (4 * c.args.size)) x in
    subst (λ (t : List ℕ). IfOk c.text_over.result (λ text. text ≡ t)) (generated_is c.args.seed c.args.size c.as_slice-2.result.now c.as_slice-3.result.now (c.as_slice-2.ensures.value ∙ a) s) c.text_over.ensures
