-- The calls that start no task and wait for none, by the rows of their intrinsics.
use Rattle.std.proofs.Common.{◌≡◌, ℕ, ◌<◌, ◌≤◌, ◌⊎◌, ⊎_elim, List, arith, cond}
use Rattle.std.specs.Prelude.{◌==◌}
use Rattle.b67_model.specs.Common.{Answer, Word, OperatorContext, Done, arraydec, print, printrow, read, wait, deallocate, resize, intrinsic}
use Rattle.b67_law.proofs.Posts.{Post, post_if}

-- not from 12 to 16
abbrev pub IsApart : ℕ → Type 0
IsApart n = (n < 12) ⊎ (16 < n)

module _ (P : Done → Type 0) (n : ℕ) (h : OperatorContext) (arguments : List Word) where
  unless : (k : ℕ) (a b : Answer Done) → 12 ≤ k → k ≤ 16 → IsApart n → Post P b → Post P (cond (k == n) a b)
  unless k a b from upto apart g = grind arith

  pub apart_row : IsApart n → Post P (arraydec h arguments) → Post P (print h arguments) → Post P (printrow h arguments) → Post P (read h arguments) → Post P (deallocate h arguments) → Post P (resize h arguments)
      → Post P (intrinsic n h arguments)
  apart_row apart a b c d e f = grind (arith, post_if, unless)
