-- What a call has put that prints a text.
use Rattle.std.specs.Prelude.{ℕ, List, Option, Result, ⊤, OnOk, OnErr}
use Rattle.b67_word.specs.declared.faults.Failed.{Failed}
use Rattle.b67_io.specs.Told.{Took, TookPart}
use Rattle.b67_io.specs.Causes.{HasCause}

-- all of it, or after a failure a proper beginning of it, and a failure has its cause
pub record PutsText {K : Type 0} (taken : K → Option (List ℕ)) (faults : K → ℕ) (old new : K) (result : Result ⊤ Failed) (text : List ℕ) : Type 0 where
  pub whole : OnOk result (Took taken old new text)
  pub part : OnErr result (TookPart taken old new text)
  pub cause : HasCause faults old new result
