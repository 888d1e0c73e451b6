-- A text printed in two parts, and the cards of bytes that end with those left in hand.
use Rattle.std.proofs.Common.{◌≡◌, ℕ, List, [], ◌++◌, Ok, Err, sym, subst}
use Rattle.std.specs.Prelude.{Option, Result, ⊤, OnOk, OnErr}
use Rattle.b67_word.specs.declared.faults.Failed.{Failed}
use Rattle.b67_io.specs.Told.{Took, TookPart}
use Rattle.b67_io.proofs.Joined.{Took-then}
use Rattle.b67_image.specs.Text.{card_lines}
use Rattle.b67_image.specs.Punching.{Punched, full_cards, left_over}
use Rattle.b67_image.proofs.Chunks.{TookPart-then, TookPart-longer, cards_are}

pub whole_then : {K : Type 0} (taken : K → Option (List ℕ)) (a b c : K) (x y : List ℕ) (r : Result ⊤ Failed) → Took taken a b x → OnOk r (Took taken b c y) → OnOk r (Took taken a c (x ++ y))
whole_then taken a b c x y (Ok done) p q = Took-then p q
whole_then taken a b c x y (Err failed) p q = tt

pub part_then : {K : Type 0} (taken : K → Option (List ℕ)) (a b c : K) (x y : List ℕ) (r : Result ⊤ Failed) → Took taken a b x → OnErr r (TookPart taken b c y) → OnErr r (TookPart taken a c (x ++ y))
part_then taken a b c x y (Ok done) p q = tt
part_then taken a b c x y (Err failed) p q = TookPart-then p q

-- the cards that were printed of bytes, before those left over
printed : {K : Type 0} (taken : K → Option (List ℕ)) (a b : K) (hand now bytes : List ℕ) → hand ≡ [] → Punched taken a b hand now (Ok tt) bytes → (now ≡ left_over bytes) × Took taken a b (full_cards bytes)
printed taken a b hand now bytes e p = subst (λ (h : List ℕ). Punched taken a b h now (Ok tt) bytes) e p

pub cards_whole : {K : Type 0} (taken : K → Option (List ℕ)) (a b c : K) (hand now bytes : List ℕ) (r : Result ⊤ Failed) → hand ≡ [] → Punched taken a b hand now (Ok tt) bytes
    → OnOk r (Took taken b c (card_lines now)) → OnOk r (Took taken a c (card_lines bytes))
cards_whole taken a b c hand now bytes r e p q =
    let first = printed taken a b hand now bytes e p in
    let last = subst (λ (h : List ℕ). OnOk r (Took taken b c (card_lines h))) first.0 q in
    subst (λ (text : List ℕ). OnOk r (Took taken a c text)) (sym (cards_are bytes)) (whole_then taken a b c (full_cards bytes) (card_lines (left_over bytes)) r first.1 last)

pub cards_part : {K : Type 0} (taken : K → Option (List ℕ)) (a b c : K) (hand now bytes : List ℕ) (r : Result ⊤ Failed) → hand ≡ [] → Punched taken a b hand now (Ok tt) bytes
    → OnErr r (TookPart taken b c (card_lines now)) → OnErr r (TookPart taken a c (card_lines bytes))
cards_part taken a b c hand now bytes r e p q =
    let first = printed taken a b hand now bytes e p in
    let last = subst (λ (h : List ℕ). OnErr r (TookPart taken b c (card_lines h))) first.0 q in
    subst (λ (text : List ℕ). OnErr r (TookPart taken a c text)) (sym (cards_are bytes)) (part_then taken a b c (full_cards bytes) (card_lines (left_over bytes)) r first.1 last)

pub cards_stop : {K : Type 0} (taken : K → Option (List ℕ)) (a b : K) (hand now bytes : List ℕ) (failed : Failed) → hand ≡ [] → Punched taken a b hand now (Err failed) bytes → TookPart taken a b (card_lines bytes)
cards_stop taken a b hand now bytes failed e p =
    let first : TookPart taken a b (full_cards bytes) = subst (λ (h : List ℕ). Punched taken a b h now (Err failed) bytes) e p in
    subst (TookPart taken a b) (sym (cards_are bytes)) (TookPart-longer (full_cards bytes) (card_lines (left_over bytes)) first)
