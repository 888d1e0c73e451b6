-- The words of a core in which a session opens.
use Rattle.std.specs.Prelude.{◌≡◌, ℕ, ◌+◌, ◌*◌, ◌^◌, ◌<◌, ◌≤◌, List, [], ◌∷◌, length, replicate, Option, Some, slice_get}
use Rattle.b67_word.specs.Tagged.{Tagged, word}
use Rattle.b67_ctl.specs.declared.vector.TheConstants.{FIRST_TASK}
use Rattle.b67_ctl.specs.declared.map.TheConstants.{DICTIONARY_STACKS, FIRST_DICTIONARY, SLOTS, STACK_VECTOR}
use Rattle.b67_model.specs.Program.{Program}
use Rattle.b67_load.specs.Objects.{entries_of}
use Rattle.b67_layout.specs.Session.{RepresentsMcp}
use Rattle.b67_load.specs.StoredObjects.{dictionary_mark}
use Rattle.b67_load.specs.Writing.{Parts, Writes}
use Rattle.b67_session.specs.Opened.{dictionary_words, objects_from}
use Rattle.b67_model.specs.declared.limits.TheConstants.{LEAST_STACK, MOST_JOBS}

-- the slot of a first task that hasn't run: the top of its stack, the mark of its outer block on the job's dictionary,
-- and a return to nowhere
pub record SlotLies (core : List Tagged) (at job : ℕ) : Type 0 where
  pub top : slice_get core at ≡ Some (word 3 (2 * 2 ^ 20 + 2 * 2 ^ 14 + 1))
  pub mark : slice_get core (at + 1) ≡ Some (word 3 (2 ^ 47 + 2 ^ 46 + (DICTIONARY_STACKS + job) * 2 ^ 36 + 2 * 2 ^ 14))
  pub back : slice_get core (at + 2) ≡ Some (word 3 0)

-- the slot's word in the stack vector
abbrev pub first_vector_word : ℕ → Tagged
first_vector_word job = word 3 (2 ^ 46 + FIRST_TASK * 2 ^ 36 + job * 2 ^ 16)

-- both, of slot k
pub record FirstTaskLies (core : List Tagged) (at k : ℕ) : Type 0 where
  pub slot : SlotLies core at (k + 1)
  pub vector : slice_get core (STACK_VECTOR + k) ≡ Some (first_vector_word (k + 1))

-- the first `jobs` slots, of `size` words each, and their words in the vector
pub record SlotsLie (core : List Tagged) (at size jobs : ℕ) : Type 0 where
  pub tasks : (k : ℕ) → k < jobs → FirstTaskLies core (at + k * size) k

-- the two words before the entries of a dictionary
pub record HeadLies (core : List Tagged) (base count : ℕ) : Type 0 where
  pub mark : slice_get core base ≡ Some dictionary_mark
  pub entries : slice_get core (base + 1) ≡ Some (word 0 count)

-- those of programs whose dictionaries lie in a row from an address on
abbrev pub HeadsLie : List Tagged → ℕ → List Program → Type 0
HeadsLie core at [] = Unit {0}
HeadsLie core at (p ∷ more) = HeadLies core at (entries_of p) × HeadsLie core (at + dictionary_words p) more

-- programs are installed, their dictionaries one after the other from a word on
pub record InstalledAll {D : Type 0} (tell : D → Option (List (List ℕ))) (programs : List Program) (old new : Parts D) : Type 0 where
  pub heads : HeadsLie new.core FIRST_DICTIONARY programs
  pub writes : Writes tell (objects_from FIRST_DICTIONARY programs) old new

-- at most eight slots of 64 words or more, which fit core from an address on
pub record SlotsFit (core : List Tagged) (at size jobs : ℕ) : Type 0 where
  pub few : jobs ≤ MOST_JOBS
  pub above : FIRST_DICTIONARY ≤ at
  pub long : LEAST_STACK ≤ size
  pub inside : at + jobs * size ≤ length core

-- core of zeros, in which that many words of dictionaries fit and the slots after them
pub record IsBlankFor (core : List Tagged) (words size jobs : ℕ) : Type 0 where
  pub zeros : core ≡ replicate (length core) (word 0 0)
  pub slots : SlotsFit core (FIRST_DICTIONARY + words) size jobs

-- the words of the MCP and the slots were written; the dictionaries, which end where the slots begin, are as they were, and
-- so is the vector beyond those slots
pub record LiesAroundDictionaries (old new : List Tagged) (at size jobs : ℕ) : Type 0 where
  pub mcp : RepresentsMcp new
  pub slots : SlotsLie new at size jobs
  pub vector : (k : ℕ) → jobs ≤ k → k < SLOTS → slice_get new (STACK_VECTOR + k) ≡ slice_get old (STACK_VECTOR + k)
  pub dictionaries : (i : ℕ) → FIRST_DICTIONARY ≤ i → i < at → slice_get new i ≡ slice_get old i
  pub len : length new ≡ length old
