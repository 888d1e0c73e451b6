-- The table of landmarks.
use Rattle.std.proofs.Common.{◌≡◌, ◌≢◌, ℕ, ◌+◌, ◌-◌, ◌*◌, ◌/◌, ◌%◌, ◌<◌, ◌≤◌, List, [], ◌∷◌, ◌++◌, length, Some, sym, ap, subst, arith, inl, inr}
use Rattle.std.specs.Prelude.{slice_get}
use Rattle.b67_layout_shown.specs.Shown.{Sight}
use Rattle.b67_dump.specs.declared.landmarks.Landmark.{Landmark}
use Rattle.b67_dump.specs.Walk.{slot_start}
use Rattle.b67_dump.proofs.Stopped.{got_pushed}
use Rattle.b67_dump.specs.Landmarks.{IsKnown, IsLandmark, AreLandmarks, block_end, marks_of_slot}

pub no_landmark : (k : Sight) → AreLandmarks k []
no_landmark k = record { each = λ at x e. absurd (let b : ⊥ = cc in b) }

pub one_more : (k : Sight) (xs more : List Landmark) (x : Landmark) → AreLandmarks k xs → IsLandmark k (length xs) x → more ≡ xs ++ x ∷ [] → AreLandmarks k more
one_more k xs more x h l is = subst (AreLandmarks k) (sym is) (record {
  each = λ i y e. elim (got_pushed xs x i y e) [
    | inl q ↦ h.each i y q
    | inr q ↦ subst (λ at. IsLandmark k at y) q.0 (subst (IsLandmark k (length xs)) q.1 l)
  ];
})

-- the landmark above it is of the same slot, and of a higher block
slot_above : (at : ℕ) → at % 128 ≢ 0 → (at - 1) / 128 ≡ at / 128
slot_above at some = omega (arith, some)

pub end_above : (k : Sight) (at : ℕ) → at % 128 ≢ 0 → block_end k at ≤ block_end k (at - 1)
end_above k at some = let starts = ap (slot_start k) (slot_above at some) in omega (arith, starts, some)

pub known_above : (k : Sight) (xs : List Landmark) (at : ℕ) (x : Landmark) → AreLandmarks k xs → at % 128 ≢ 0 → slice_get xs (at - 1) ≡ Some x → IsKnown k.core (block_end k (at - 1)) (marks_of_slot k (at / 128)) x
known_above k xs at x h some e = subst (λ slot. IsKnown k.core (block_end k (at - 1)) (marks_of_slot k slot) x) (slot_above at some) (h.each (at - 1) x e)

-- the landmark of an address
slot_of_place : (slot block : ℕ) → block < 128 → (slot * 128 + (127 - block)) / 128 ≡ slot
slot_of_place slot block low = omega (arith, low)

pub end_over : (k : Sight) (slot block home : ℕ) → block < 128 → block ≡ (home - slot_start k slot) / 128 → home ≤ block_end k (slot * 128 + (127 - block))
end_over k slot block home low e = let starts = ap (slot_start k) (slot_of_place slot block low) in omega (arith, starts, low, e)

pub known_at : (k : Sight) (xs : List Landmark) (slot block : ℕ) (x : Landmark) → AreLandmarks k xs → block < 128 → slice_get xs (slot * 128 + (127 - block)) ≡ Some x
    → IsKnown k.core (block_end k (slot * 128 + (127 - block))) (marks_of_slot k slot) x
known_at k xs slot block x h low e = grind arith
