-- Marks that are found from those that stand above them.
use Rattle.std.proofs.Common.{◌≡◌, ℕ, zero, suc, ◌+◌, ◌-◌, ◌*◌, ◌/◌, ◌%◌, ◌<◌, ◌≤◌, List, [], ◌∷◌, ◌++◌, length, drop, get_or, Some, refl, sym, ◌∙◌, ap, subst, arith, inl, inr}
use Rattle.std.specs.Prelude.{◌⊎◌, slice_get}
use Rattle.std.proofs.lemmas.List.{get_or-drop, length-drop}
use Rattle.std.proofs.lemmas.Option.{same_Some}
use Rattle.b67_word.specs.Tagged.{Tagged, bits_at}
use Rattle.b67_layout_shown.specs.Reading.{word_seen_at}
use Rattle.b67_dump.specs.Walk.{marks_in}
use Rattle.b67_dump.specs.Landmarks.{IsBelow, AreStops}

-- an item of a list that got one more
pub got_pushed : {A : Type 0} (xs : List A) (x : A) (i : ℕ) (y : A) → slice_get (xs ++ x ∷ []) i ≡ Some y → (slice_get xs i ≡ Some y) ⊎ ((length xs ≡ i) × (x ≡ y))
got_pushed [] x zero y e = inr (refl, same_Some x y e)
got_pushed [] x (suc i) y e = inl e
got_pushed (z ∷ xs) x zero y e = inl e
got_pushed (z ∷ xs) x (suc i) y e = grind (arith, got_pushed xs x i y e)

-- ---- marks below a mark

first : (core : List Tagged) (n f : ℕ) → 0 < length (marks_in core n f) → f ≡ get_or (marks_in core n f) 0 0
unfolding marks_in
first core n f low = grind arith

second : (core : List Tagged) (n f back : ℕ) → bits_at (word_seen_at core f) 0 14 ≡ back → 1 < length (marks_in core n f) → f - back ≡ get_or (marks_in core n f) 1 0
unfolding marks_in
second core n f back e low = grind (arith, first)

-- the walk from a mark of a list is the rest of the list
passed : (core : List Tagged) (n f i : ℕ) → i < length (marks_in core n f) → drop i (marks_in core n f) ≡ marks_in core (n - i) (get_or (marks_in core n f) i 0)
unfolding marks_in
passed core zero f i low = absurd (omega (arith, low))
passed core (suc n) f zero low = let e : suc n ≡ suc n - 0 = omega arith in ap (λ m. marks_in core m f) e
passed core (suc n) f (suc i) low = grind (arith, passed core n)

pub below_same : (core : List Tagged) (f : ℕ) → IsBelow core f 0 f
below_same core f = λ turns low. first core turns f low

pub below_then : (core : List Tagged) (f i at j x : ℕ) → IsBelow core f i at → IsBelow core at j x → IsBelow core f (i + j) x
below_then core f i at j x p q = λ turns low.
    let is = p turns (omega (arith, low)) in
    let rest : drop i (marks_in core turns f) ≡ marks_in core (turns - i) at = passed core turns f i (omega (arith, low)) ∙ ap (λ m. marks_in core (turns - i) m) (sym is) in
    let long = length-drop i (marks_in core turns f) in
    let left = ap (λ (fs : List ℕ). length fs) rest in
    q (turns - i) (omega (arith, low, long, left)) ∙ sym (ap (λ (fs : List ℕ). get_or fs j 0) rest) ∙ get_or-drop i (marks_in core turns f) j 0

pub one_below : (core : List Tagged) (f step at back : ℕ) → IsBelow core f step at → bits_at (word_seen_at core at) 0 14 ≡ back → IsBelow core f (step + 1) (at - back)
one_below core f step at back h e = below_then core f step at 1 (at - back) h (λ turns low. second core turns at back e low)

-- no mark stands above the one it is below of
pub mark_near : (core : List Tagged) (n f i : ℕ) → get_or (marks_in core n f) i 0 ≤ f
unfolding marks_in
mark_near core zero f i = omega arith
mark_near core (suc n) f zero = omega arith
mark_near core (suc n) f (suc i) = grind (arith, mark_near core n)

-- ---- the list of stops

pub no_stop : (core : List Tagged) (mark : ℕ) → AreStops core mark []
no_stop core mark = record { each = λ at stop e. absurd (let b : ⊥ = cc in b) }

pub one_stop : (core : List Tagged) (mark at : ℕ) (stops more : List ℕ) → AreStops core mark stops → IsBelow core mark (64 * length stops) at → more ≡ stops ++ at ∷ [] → AreStops core mark more
one_stop core mark at stops more h b is = grind (arith, got_pushed)

-- a mark by the stop above it
pub by_stop : (core : List Tagged) (mark below stop x : ℕ) → IsBelow core mark (64 * (below / 64)) stop → IsBelow core stop (below % 64) x → IsBelow core mark below x
by_stop core mark below stop x p q =
    let on : 64 * (below / 64) + below % 64 ≡ below = omega arith in
    subst (λ n. IsBelow core mark n x) on (below_then core mark (64 * (below / 64)) stop (below % 64) x p q)
