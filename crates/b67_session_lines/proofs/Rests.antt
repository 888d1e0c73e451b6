-- What isn't printed yet of a line that stands in a text.
use Rattle.std.proofs.Common.{◌≡◌, ◌≤◌, ◌<◌, ◌+◌, ℕ, List, ◌++◌, length, take, drop, Option, sym, subst, arith, length-drop}
use Rattle.std.proofs.lemmas.List.{take_all}
use Rattle.b67_io.specs.Told.{Took, Continues}
use Rattle.b67_io.proofs.Joined.{Continues-line}

module _ {K : Type 0} (taken : K → Option (List ℕ)) (old new : K) (before line after : List ℕ) (printed from : ℕ) (at : length before + from ≡ printed) where
  -- so many more bytes were taken
  pub rest_part : (k now : ℕ) → k < length (drop from line) → length before + from + k ≡ now → Took taken old new (take k (drop from line)) → Continues taken old new (before ++ line ++ after) printed now
  rest_part k now low is took =
      let inside : from + k ≤ length line = omega (arith, low, length-drop from line) in
      let there : length before + (from + k) ≡ now = omega (arith, is) in
      grind (arith, Continues-line)

  -- all that is left was taken
  pub rest_whole : (now : ℕ) → from ≤ length line → length before + length line ≡ now → Took taken old new (drop from line) → Continues taken old new (before ++ line ++ after) printed now
  rest_whole now inside is took =
      let k = length (drop from line) in
      let long : from + k ≡ length line = omega (arith, length-drop from line) in
      grind (arith, take_all, Continues-line)
