-- Where nothing but a hole is left, an object finds its place, and then the code.
use Rattle.std.proofs.Common.{◌≡◌, ℕ, ◌+◌, ◌<◌, ◌≤◌, List, [], ◌∷◌, length, Some, refl, sym, arith, inl, ◌==◌, subst}
use Rattle.std.proofs.lemmas.Bool.{cond-true, eq-eqb}
use Rattle.b67_word.specs.Tagged.{Tagged}
use Rattle.b67_area.specs.declared.Info.{Info}
use Rattle.b67_area.specs.Spans.{Span, Area, Hole, area_at, fill, keeping, left, end}
use Rattle.b67_area.specs.Directory.{IsDirectory, AreSpans}
use Rattle.b67_layout.specs.Machine.{HasHole}

-- a directory without an area is one hole
pub one_hole : (core : List Tagged) (low : ℕ) (ss : List Span) → IsDirectory core low ss → ((b : ℕ) (i : Info) → area_at low ss b ≡ Some i → ⊥) → low < length core → (m : ℕ) × (ss ≡ Hole m ∷ []) × (low + m ≡ length core)
one_hole core low ss d none some = by ss d.all d.spans none where
  here : (at : ℕ) (a : Info) (rest : List Span) → area_at at (Area a ∷ rest) (at + 1) ≡ Some a
  here at a rest = cond-true (at + 1 == at + 1) _ _ (eq-eqb (at + 1) (at + 1) refl)

  by : (ss : List Span) → end low ss ≡ length core → AreSpans ss → ((b : ℕ) (i : Info) → area_at low ss b ≡ Some i → ⊥) → (m : ℕ) × (ss ≡ Hole m ∷ []) × (low + m ≡ length core)
  by [] e s n = absurd (omega arith)
  by (Area a ∷ rest) e s n = absurd (n (low + 1) a (here low a rest))
  by (Hole m ∷ []) e s n = (m, refl, e)
  by (Hole m ∷ Hole k ∷ rest) e s n = absurd s.1
  by (Hole m ∷ Area a ∷ rest) e s n = absurd (n (low + m + 1) a (here (low + m) a rest))

room_left : (k d : ℕ) → 1 ≤ k → k ≤ d → HasHole k (left d [])
room_left k d some h = grind arith

-- room beside an area that was placed in that hole
pub second_room : (k low x first m : ℕ) (a : Info) (ss : List Span) → ss ≡ Hole m ∷ [] → 1 ≤ k → a.words + 2 + k ≤ m → HasHole k (keeping low x first (fill a ss))
second_room k low x first m a ss is some fits = grind arith

pub first_room : (k m : ℕ) (ss : List Span) → ss ≡ Hole m ∷ [] → k ≤ m → HasHole k ss
first_room k m ss is h = let P : List Span → Type 0 = λ s. HasHole k s in subst P (sym is) (inl h)
