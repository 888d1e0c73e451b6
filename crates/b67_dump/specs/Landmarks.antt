-- Landmarks: marks whose numbers are known, from which the record of an address is found in a few steps.
use Rattle.std.specs.Prelude.{◌≡◌, ℕ, ◌+◌, ◌-◌, ◌*◌, ◌/◌, ◌%◌, ◌<◌, ◌≤◌, List, length, get_or, slice_get, Some}
use Rattle.b67_word.specs.Tagged.{Tagged}
use Rattle.b67_layout_shown.specs.Shown.{Sight}
use Rattle.b67_dump.specs.declared.landmarks.Landmark.{Landmark}
use Rattle.b67_dump.specs.Walk.{marks_in, marks_under, slot_start, top_mark_in}

-- the topmost of some marks at or under an address: they are those from it down, and so many
pub record IsNearest (core : List Tagged) (home : ℕ) (marks : List ℕ) (mark number : ℕ) : Type 0 where
  pub walk : (turns : ℕ) → number ≤ turns → marks_under home marks ≡ marks_in core turns mark
  pub count : number ≡ length (marks_under home marks)

-- one of number 0 tells nothing
abbrev pub IsKnown : List Tagged → ℕ → List ℕ → Landmark → Type 0
IsKnown core home marks x = 0 < x.number → IsNearest core home marks x.mark x.number

-- the marks of the task in a slot
abbrev pub marks_of_slot : Sight → ℕ → List ℕ
marks_of_slot k slot = marks_in k.core k.regs.stack_size (top_mark_in k slot)

-- each slot has 128 landmarks, one for every 128 words, from the top down: the last address for which one is told
abbrev pub block_end : Sight → ℕ → ℕ
block_end k at = slot_start k (at / 128) + (128 * (128 - at % 128) - 1)

abbrev pub IsLandmark : Sight → ℕ → Landmark → Type 0
IsLandmark k at x = IsKnown k.core (block_end k at) (marks_of_slot k (at / 128)) x

pub record AreLandmarks (k : Sight) (landmarks : List Landmark) : Type 0 where
  pub each : (at : ℕ) (x : Landmark) → slice_get landmarks at ≡ Some x → IsLandmark k at x

-- a mark stands so many marks below another
abbrev pub IsBelow : List Tagged → ℕ → ℕ → ℕ → Type 0
IsBelow core mark steps at = (turns : ℕ) → steps < length (marks_in core turns mark) → at ≡ get_or (marks_in core turns mark) steps 0

-- every 64th mark of those from one down, the topmost first
pub record AreStops (core : List Tagged) (mark : ℕ) (stops : List ℕ) : Type 0 where
  pub each : (at stop : ℕ) → slice_get stops at ≡ Some stop → IsBelow core mark (64 * at) stop
