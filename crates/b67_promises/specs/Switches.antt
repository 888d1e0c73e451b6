-- Decks that differ in their ?QUANTUM and ?SWITCH cards, and sessions in which never two tasks are ready at once.
use Rattle.std.specs.Prelude.{ℕ, ◌≡◌, ◌<◌, ◌+◌, ◌*◌, List, [], ◌++◌, length, take, codes, ◌≤◌, ◌∷◌, Some, Ok}
use Rattle.std.specs.List.{AllByRecursion}
use Rattle.std.specs.Str.Lines.{lines as text_lines}
use Rattle.b67_model.specs.declared.limits.TheConstants.{LEAST_STACK}
use Rattle.b67_word.specs.declared.couples.Place.{Place}
use Rattle.b67_lemmas.specs.Lists.{Has}
use Rattle.b67_model.specs.declared.intrinsics.TheConstants.{PROCESS}
use Rattle.b67_model.specs.declared.operators.Op.TheVariants.{Namc}
use Rattle.b67_model.specs.Common.{Session, Segment, ready, lines, after, Program, At, listing}
use Rattle.b67_model_text.specs.declared.deck.Deck.{Deck}
use Rattle.b67_model_text.specs.declared.deck.Switch.{Switch}
use Rattle.b67_job.specs.Admitting.{deck_prepared}
use Rattle.b67_session.specs.Decks.{session_of}
use Rattle.b67_session_lines.specs.Stops.{Run, StopsWith}
use Rattle.b67_law.specs.RunMade.{EarlierStep}

-- ---- texts

-- a line that begins as a card of the quantum or of a switch, or an empty one
pub data IsTurnLine (line : List ℕ) : Type 0 where
  quantum_line : (more : List ℕ) → line ≡ codes "?QUANTUM" ++ more → IsTurnLine line
  switch_line : (more : List ℕ) → line ≡ codes "?SWITCH" ++ more → IsTurnLine line
  empty_line : line ≡ [] → IsTurnLine line

-- two texts begin with as many such lines, and behind these all lines are the same
pub record DifferInTurnLines (bytes other : List ℕ) : Type 0 where
  pub first : List (List ℕ)
  pub other_first : List (List ℕ)
  pub rest : List (List ℕ)
  pub is : text_lines bytes ≡ first ++ rest
  pub other_is : text_lines other ≡ other_first ++ rest
  pub as_many : length other_first ≡ length first
  pub turns : AllByRecursion IsTurnLine first
  pub other_turns : AllByRecursion IsTurnLine other_first

-- beside the 160 words of the operating system the core has no room for two stacks, each of 64 words at least
abbrev pub HoldsOneStack : ℕ → Type 0
HoldsOneStack core = core < 160 + 2 * LEAST_STACK

-- each line is one of task 1 of job 1
abbrev pub AreOfOneTask : List ℕ → Type 0
AreOfOneTask text = AllByRecursion (λ line. take 4 line ≡ codes "1.1 ") (text_lines text)

-- ---- sessions

-- they have the same jobs and have made as many operators
pub record DifferInTurns (s t : Session) : Type 0 where
  pub jobs : t.jobs ≡ s.jobs
  pub made : t.made ≡ s.made

-- before none of so many steps two tasks are ready
abbrev pub NeverTwoReady : ℕ → Session → Type 0
NeverTwoReady steps s = (k : ℕ) → k < steps → length (ready (after k s)) ≤ 1

-- whatever the switches, the quantum and the turn, the lines are the same, and so are the jobs
abbrev pub SwitchesNeedTwo : Type 0
SwitchesNeedTwo = (steps : ℕ) (s t : Session) → DifferInTurns s t → NeverTwoReady steps s → (lines steps t ≡ lines steps s) × DifferInTurns (after steps s) (after steps t)

-- so a run stops with the same status and the same text under any switches and any quantum
abbrev pub RunsNeedTwo : Type 0
RunsNeedTwo = (r q : Run) → DifferInTurns r.session q.session → q.halt ≡ r.halt → ((steps : ℕ) → NeverTwoReady steps r.session) → (status : ℕ) (text : List ℕ) → StopsWith r status text → StopsWith q status text

-- a text's deck with its programs, and another text's, which has other switches and another quantum alone. Never are two tasks of
-- the first one ready
pub record DecksDifferInTurns (bytes other : List ℕ) : Type 0 where
  pub d : Deck
  pub ps : List Program
  pub switches : List Switch
  pub quantum : ℕ
  pub is : deck_prepared bytes ≡ Ok (d, ps)
  pub other_is : deck_prepared other ≡ Ok (record d { switches = switches; quantum = quantum }, ps)
  pub one_ready : (steps : ℕ) → NeverTwoReady steps (session_of d ps)

-- one of so many first steps of a run was that of a task of the job, and called PROCESS, intrinsic 12
abbrev pub CallsProcess : Session → ℕ → ℕ → Type 0
CallsProcess first steps job = EarlierStep first steps job (λ op call. call ≡ Some PROCESS)

-- a text's deck has one job, and no step of its run calls PROCESS
pub record IsOneTask (bytes : List ℕ) : Type 0 where
  pub d : Deck
  pub ps : List Program
  pub is : deck_prepared bytes ≡ Ok (d, ps)
  pub one : length (session_of d ps).jobs ≡ 1
  pub alone : (steps job : ℕ) → CallsProcess (session_of d ps) steps job → ⊥

-- no operator in the listings of these segments names cell 12 of the operating system, PROCESS
abbrev pub NamesNoProcess : List Segment → Type 0
NamesNoProcess segments = (s : Segment) (place : Place) → Has segments s → Has (listing s.code) (At place (Namc 12)) → ⊥

-- a text's deck has one program, which names no PROCESS
pub record IsOneProgram (bytes : List ℕ) : Type 0 where
  pub d : Deck
  pub p : Program
  pub is : deck_prepared bytes ≡ Ok (d, p ∷ [])
  pub none : NamesNoProcess p.segments
