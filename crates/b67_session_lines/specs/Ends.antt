-- How a call ends that prints a text.
use Rattle.std.specs.Prelude.{ℕ, ◌≡◌, List, Option}
use Rattle.b67_io.specs.Told.{Took, TookPart}
use Rattle.b67_io.specs.Causes.{Rose}

-- The call is due to print this text and to answer this status: it does, or the printer failed, has a proper prefix
-- of the text, and the answer is 8.
pub data EndsPrinting {K : Type 0} (taken : K → Option (List ℕ)) (faults : K → ℕ) (old new : K) (status : ℕ) (text : List ℕ) (answer : ℕ) : Type 0 where
  all_printed : answer ≡ status → Took taken old new text → EndsPrinting taken faults old new status text answer
  cut_off : answer ≡ 8 → Rose faults old new → TookPart taken old new text → EndsPrinting taken faults old new status text answer
