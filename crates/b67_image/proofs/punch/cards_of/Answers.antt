use Rattle.std.proofs.Common.{◌≡◌, ◌<◌, ◌≤◌, ◌-◌, ℕ, List, [], ◌∷◌, ◌++◌, length, min, take, drop, Ok, Err, sym, ap, ◌∙◌, append_assoc, length-append, length-drop, arith}
use Rattle.std.specs.Prelude.{◌==◌, false, Result, OnOk, ⊤}
use Rattle.std.specs.Result.{IsOk}
use Rattle.std.proofs.lemmas.List.{take_min, drop_min}
use Rattle.b67_io.specs.Line.{ended}
use Rattle.b67_model_text.specs.Hex.{hex_text}
use Rattle.b67_image.specs.Text.{card_lines}
use Rattle.b67_image.proofs.Chunks.{card_then}
use Rattle.b67_image.proofs.Sizes.{card_most}
use Rattle.b67_image.proofs.punch.cards_of.Goals as goal

not_none : (xs : List ℕ) → (length xs == 0) ≡ false → 0 < length xs
not_none [] e = absurd (let z : ⊥ = cc in z)
not_none (x ∷ xs) e = omega arith

at_ok : {E : Type 0} (r : Result ⊤ E) {P : Type 0} → IsOk r → OnOk r P → P
at_ok (Ok done) is p = p
at_ok (Err e) is p = absurd (let z : ⊥ = cc in z)

-- the next card goes to those that are made, and its bytes leave those that are left
pub cards-preserved : goal.cards-preserved
cards-preserved c =
    let left : List ℕ = c.cards.left.now in
    let some : 0 < length left = not_none left (sym c.is_empty.ensures ∙ c.cards-test.true) in
    let mid : c.min.result ≡ min 32 (length left) = omega (arith, c.min.ensures) in
    let bytes : c.split_at.result.0.now ≡ take 32 left = c.split_at.ensures.front ∙ ap (λ (k : ℕ). take k left) mid ∙ take_min 32 left in
    let card : c.as_slice.result.now ≡ ended (hex_text (take 32 left)) = c.as_slice.ensures.value ∙ c.card_of.ensures ∙ ap (λ (xs : List ℕ). ended (hex_text xs)) bytes in
    let behind : c.split_at.result.1.now ≡ drop 32 left = c.split_at.ensures.back ∙ ap (λ (k : ℕ). drop k left) mid ∙ drop_min 32 left in
    let most = card_most left 0 in
    let long : length (ended (hex_text (take 32 left))) ≤ 65 = omega (arith, most, length-append (hex_text (take 32 left)) (10 ∷ [])) in
    let short : length (drop 32 left) ≡ length left - 32 = length-drop 32 left in
    let room = c.cards.invariant.room in
    let fits = c.try_extend_from_slice.ensures.variant.1 (omega (arith, room, some, long, ap length card)) in
    let goes = at_ok c.try_extend_from_slice.result fits c.try_extend_from_slice.ensures.ok ∙ ap (λ (more : List ℕ). c.cards.cards.items ++ more) card in
    record {
      text = rw behind (rw goes (append_assoc c.cards.cards.items (ended (hex_text (take 32 left))) (card_lines (drop 32 left)) ∙ ap (λ (more : List ℕ). c.cards.cards.items ++ more) (sym (card_then left some)) ∙ c.cards.invariant.text));
      room = rw behind (rw goes (omega (arith, room, some, long, short, length-append c.cards.cards.items (ended (hex_text (take 32 left))))));
    }
