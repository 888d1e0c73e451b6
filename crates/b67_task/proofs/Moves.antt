-- The items of a list that stay move up in it, each changed then.
use Rattle.std.proofs.Common.{◌≡◌, ℕ, ◌+◌, ◌≤◌, List, ◌++◌, map, filter, length, take, drop, Bool}

-- so many items were looked at: those of them that stay lie at the front, and all others are where they were
pub record Moves {A : Type 0} (f : A → A) (p : A → Bool) (old new : List A) (kept at : ℕ) : Type 0 where
  pub size : length new ≡ length old
  pub low : kept ≤ at
  pub front : take kept new ++ map f (filter p (drop at old)) ≡ map f (filter p old)
  pub rest : drop at new ≡ drop at old
