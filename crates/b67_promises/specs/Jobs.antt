-- A job among others and by itself, decks that share one, and what is printed of it.
use Rattle.std.specs.Prelude.{ℕ, ◌≡◌, ◌≤◌, ◌⊎◌, ◌+◌, List, [], ◌∷◌, ◌++◌, length, take, codes, Option, ◌==◌, Some, None, decimal, if◌then◌else◌}
use Rattle.std.specs.List.{AllByRecursion, flat_map, filter_map}
use Rattle.b67_io.specs.Told.{Took}
use Rattle.b67_promises.specs.Switches.{IsTurnLine}
use Rattle.std.specs.Str.Lines.{lines as text_lines}
use Rattle.b67_model.specs.Keyed.{keyed}
use Rattle.b67_model.specs.Common.{opened, SessionJob, Session, start, number_of, lines, after}
use Rattle.b67_model.specs.Apart.{lines_of_job}
use Rattle.b67_session_lines.specs.Stops.{live_after}
use Rattle.b67_law.specs.Opening.{Opening, opening}

-- ---- texts

-- what stands behind these bytes on a line that begins with them
abbrev pub behind : List ℕ → List ℕ → Option (List ℕ)
behind [] line = Some line
behind (b ∷ name) [] = None
behind (b ∷ name) (c ∷ line) = if b == c then behind name line else None

-- the printed lines of a job, those that begin with `j.`, without these bytes
abbrev pub printed_by_job : ℕ → List ℕ → List (List ℕ)
printed_by_job job text = filter_map (behind (decimal job ++ codes ".")) (text_lines text)

-- a line that begins as a card of a job
abbrev pub BeginsJob : List ℕ → Type 0
BeginsJob line = take 4 line ≡ codes "?JOB"

-- a line that begins as a run card other than ?SWITCH, or an empty one
pub data IsRunLine (line : List ℕ) : Type 0 where
  stack_line : (more : List ℕ) → line ≡ codes "?STACK" ++ more → IsRunLine line
  quantum_line : (more : List ℕ) → line ≡ codes "?QUANTUM" ++ more → IsRunLine line
  halt_line : (more : List ℕ) → line ≡ codes "?HALT" ++ more → IsRunLine line
  empty_line : line ≡ [] → IsRunLine line

-- the lines of one job: the first one begins it, and no other does
pub record AreJobLines (ls : List (List ℕ)) : Type 0 where
  pub head : List ℕ
  pub body : List (List ℕ)
  pub is : ls ≡ head ∷ body
  pub begins : BeginsJob head
  pub others : AllByRecursion (λ (line : List ℕ). BeginsJob line → ⊥) body

-- the lines of a text are these, and then those of jobs, of which the one of this number has its own
pub record HasOwnJob (text : List ℕ) (front : List (List ℕ)) (number : ℕ) (own : List (List ℕ)) : Type 0 where
  pub before : List (List (List ℕ))
  pub later : List (List (List ℕ))
  pub is : text_lines text ≡ front ++ flat_map (λ job. job) (before ++ own ∷ later)
  pub jobs : AllByRecursion AreJobLines (before ++ own ∷ later)
  pub at : number ≡ length before + 1

-- two texts begin with the same run cards, without a ?SWITCH, and the i-th job of the one is the j-th job of the other
pub record ShareJob (i j : ℕ) (bytes other : List ℕ) : Type 0 where
  pub front : List (List ℕ)
  pub own : List (List ℕ)
  pub plain : AllByRecursion IsRunLine front
  pub one : HasOwnJob bytes front i own
  pub two : HasOwnJob other front j own

-- the other text holds no other job
abbrev pub IsLoneJob : {i j : ℕ} {bytes other : List ℕ} → ShareJob i j bytes other → Type 0
IsLoneJob h = (h.two.before ≡ []) × (h.two.later ≡ [])

-- lines begin others
abbrev pub BeginLines : List (List ℕ) → List (List ℕ) → Type 0
BeginLines front all = (rest : List (List ℕ)) × (all ≡ front ++ rest)

-- a run has ended, or it has halted or stopped for core, for sectors or for a failing device. What it printed are lines of its steps,
-- and then at most one line with the status
abbrev pub StopsInLines : ℕ → Type 0
StopsInLines status = (status ≡ 0) ⊎ ((3 ≤ status) × (status ≤ 6))

-- Each printer has taken a text. Of two runs that end, the lines of the i-th job of the one are those of the j-th job of the other.
-- Those of a run that stops begin those of one that ends.
pub record SameOfJob (i j : ℕ) {K L : Type 0} (taken : K → Option (List ℕ)) (old new : K) (status : ℕ) (taken' : L → Option (List ℕ)) (old' new' : L) (status' : ℕ) : Type 0 where
  pub text : List ℕ
  pub text' : List ℕ
  pub printed : Took taken old new text
  pub printed' : Took taken' old' new' text'
  pub same : status ≡ 0 → status' ≡ 0 → printed_by_job i text ≡ printed_by_job j text'
  pub begins : StopsInLines status → status' ≡ 0 → BeginLines (printed_by_job i text) (printed_by_job j text')
  pub begins' : status ≡ 0 → StopsInLines status' → BeginLines (printed_by_job j text') (printed_by_job i text)

-- The i-th job of the one text is the j-th job of the other. They begin with different ?QUANTUM and ?SWITCH cards, and then with
-- the same run cards.
pub record ShareJobInTurns (i j : ℕ) (bytes other : List ℕ) : Type 0 where
  pub first : List (List ℕ)
  pub other_first : List (List ℕ)
  pub rest : List (List ℕ)
  pub own : List (List ℕ)
  pub turns : AllByRecursion IsTurnLine first
  pub other_turns : AllByRecursion IsTurnLine other_first
  pub plain : AllByRecursion IsRunLine rest
  pub one : HasOwnJob bytes (first ++ rest) i own
  pub two : HasOwnJob other (other_first ++ rest) j own

-- each line of a job is one of its task 1
abbrev pub IsOfTaskOne : List (List ℕ) → Type 0
IsOfTaskOne printed = AllByRecursion (λ (line : List ℕ). take 2 line ≡ codes "1 ") printed

-- ---- sessions

-- a job under another number
abbrev pub numbered : ℕ → SessionJob → SessionJob
numbered job m = record m { constants = record m.constants { number = job } }

-- a job of a deck, by itself, under this number
abbrev pub lone : ℕ → ℕ → ℕ → Opening → Session
lone job stack quantum o = start (opened job o.program stack o.limit o.numbers ∷ []) [] quantum

-- Of any jobs that run without switches, one has made so many steps of its own. Its lines are theirs, and what it has come to is what
-- it comes to by itself, but for its number.
pub record MakesOwnSteps (s t : Session) (job steps : ℕ) : Type 0 where
  pub own : ℕ
  pub lines_are : lines_of_job job (lines steps s) ≡ lines_of_job 1 (lines own t)
  pub member : SessionJob
  pub is : keyed number_of job (after steps s).jobs ≡ Some member
  pub alone : (after own t).jobs ≡ numbered 1 member ∷ []
  pub over : live_after steps s ≡ 0 → live_after own t ≡ 0
  pub fewer : own ≤ steps

-- a job's steps, at whatever place it stands among others, are those that it makes as the one job
abbrev pub JobsNeedNoOthers : Type 0
JobsNeedNoOthers =
    (stack quantum : ℕ) (before later : List Opening) (o : Opening) (steps : ℕ) →
    MakesOwnSteps (opening stack quantum [] (before ++ o ∷ later)) (lone 1 stack quantum o) (length before + 1) steps
