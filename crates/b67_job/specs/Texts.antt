-- The text of a call in two parts, and how a call ends that prints it.
use Rattle.std.specs.Prelude.{ℕ, ◌≡◌, ◌<◌, List, [], ◌++◌, length, take, Option}
use Rattle.b67_io.specs.Told.{Took}
use Rattle.b67_io.specs.Causes.{Rose}

-- the lines of a run's steps, and what is printed behind them: the last line, or the one text of a call
pub record Text : Type 0 where
  pub front : List ℕ
  pub last : List ℕ

abbrev pub whole_of : Text → List ℕ
whole_of text = text.front ++ text.last

-- no step has printed anything
abbrev pub only : List ℕ → Text
only last = record { front = []; last = last }

-- the printer has taken the front and so many first bytes behind it, which aren't all
pub record TookUpTo {K : Type 0} (taken : K → Option (List ℕ)) (old new : K) (text : Text) (count : ℕ) : Type 0 where
  pub proper : count < length text.last
  pub took : Took taken old new (text.front ++ take count text.last)

-- The call is due to print this text and to answer this status: it does, or the printer failed behind the front, and the
-- answer is 8.
pub data PrintsAndAnswers {K : Type 0} (taken : K → Option (List ℕ)) (faults : K → ℕ) (old new : K) (status : ℕ) (text : Text) (answer : ℕ) : Type 0 where
  all_taken : answer ≡ status → Took taken old new (whole_of text) → PrintsAndAnswers taken faults old new status text answer
  cut_short : (count : ℕ) → answer ≡ 8 → Rose faults old new → TookUpTo taken old new text count → PrintsAndAnswers taken faults old new status text answer
