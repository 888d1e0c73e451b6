-- A text that is printed in several calls.
use Rattle.std.specs.Prelude.{◌≡◌, ◌<◌, ◌≤◌, ℕ, List, ◌++◌, length, take, Option}
use Rattle.b67_io.specs.Told.{Took, Continues}

-- of this text so many first bytes were printed before, and the rest is now
pub record TookRest {K : Type 0} (taken : K → Option (List ℕ)) (old new : K) (text : List ℕ) (before : ℕ) : Type 0 where
  pub rest : List ℕ
  pub took : Took taken old new rest
  pub same : take before text ++ rest ≡ text

-- of this text so many first bytes were printed before, and so many are now, which isn't all of it
pub record TookMore {K : Type 0} (taken : K → Option (List ℕ)) (old new : K) (text : List ℕ) (before after : ℕ) : Type 0 where
  pub continues : Continues taken old new text before after
  pub later : before ≤ after
  pub proper : after < length text
