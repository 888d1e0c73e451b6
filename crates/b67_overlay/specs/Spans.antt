-- The parts of the stacks in which the copies of an array can be, by what the stack vector and the dictionaries say.
use Rattle.std.specs.Prelude.{◌≡◌, ℕ, suc, ◌+◌, ◌*◌, ◌^◌, ◌<◌, ◌≤◌, ◌==◌, ◌&&◌, not, nat_lt, Bool, List, [], ◌∷◌, length, Option, Some, None, if◌then◌else◌, slice_get}
use Rattle.std.specs.List.{list_any}
use Rattle.b67_word.specs.Tagged.{Tagged, word}
use Rattle.b67_ctl.specs.declared.vector.TheConstants.{FIRST_TASK}
use Rattle.b67_ctl.specs.declared.map.TheConstants.{FIRST_DICTIONARY, SLOTS, STACK_VECTOR}
use Rattle.b67_area.specs.declared.Areas.{Areas}
use Rattle.b67_backing.specs.Shelf.{Table, IsShelf}
use Rattle.b67_stack.specs.declared.Cpu.{Cpu}
use Rattle.b67_stack.specs.Common.{Shape, Is, Original, Copy, stack_words, words, MachineView, slot_base, stack_of, Storage, Represents}
use Rattle.b67_layout.specs.Machine.{Says}
use Rattle.b67_overlay.specs.declared.spans.Span.{Span}

-- a live task's job, and the slots of its parents from the nearest up
pub record Resident : Type 0 where
  pub job : ℕ
  pub parents : List ℕ

-- who lives in each slot, and how many entries the dictionary of each job has, in the jobs' order
pub record Families : Type 0 where
  pub kin : ℕ → Option Resident
  pub entries : List ℕ

-- the word of a slot in the stack vector: the parent's slot, FIRST_TASK for none, and the job; 0 if no task lives there
abbrev pub parent_field : List ℕ → ℕ
parent_field [] = FIRST_TASK
parent_field (slot ∷ more) = slot

abbrev pub kin_word : Option Resident → Tagged
kin_word None = word 0 0
kin_word (Some a) = word 3 (2 ^ 46 + parent_field a.parents * 2 ^ 36 + a.job * 2 ^ 16)

-- the slots of parents, each with those above it
abbrev pub LineStands : Families → ℕ → ℕ → List ℕ → Type 0
LineStands f peak job [] = Unit {0}
LineStands f peak job (slot ∷ more) =
    (slot < peak) × (f.kin slot ≡ Some (record { job = job; parents = more })) × LineStands f peak job more

-- a live task has a slot that is in use, and fewer parents than there are slots
pub record ResidentFits (f : Families) (peak k : ℕ) (a : Resident) : Type 0 where
  pub used : k < peak
  pub job : a.job < 2 ^ 4
  pub few : length a.parents < SLOTS
  pub line : LineStands f peak a.job a.parents

-- dictionaries follow each other from an address up to slot 0, each a mark, the number of its entries, and these
abbrev pub DictionariesLie : List Tagged → ℕ → ℕ → List ℕ → Type 0
DictionariesLie core stacks at [] = at ≡ stacks
DictionariesLie core stacks at (n ∷ more) =
    (slice_get core (at + 1) ≡ Some (word 0 n)) × DictionariesLie core stacks (at + (2 + n)) more

-- core shows who lives in each slot and where the dictionaries lie
pub record ShowsFamilies (core : List Tagged) (p : MachineView) (f : Families) : Type 0 where
  pub few : p.peak ≤ SLOTS
  pub vector : (k : ℕ) → k < SLOTS → slice_get core (STACK_VECTOR + k) ≡ Some (kin_word (f.kin k))
  pub kin : (k : ℕ) (a : Resident) → f.kin k ≡ Some a → ResidentFits f p.peak k a
  pub dictionaries : DictionariesLie core p.stacks FIRST_DICTIONARY f.entries

-- how many dictionaries begin at or below an address: the number of the job in whose dictionary it lies
abbrev pub job_at : ℕ → List ℕ → ℕ → ℕ → ℕ
job_at at [] before i = before
job_at at (n ∷ more) before i = if nat_lt i at then before else job_at (at + (2 + n)) more (before + 1) i

-- the address is one of slot k's words
abbrev pub holds : MachineView → ℕ → ℕ → Bool
holds p i k = not (nat_lt i (slot_base p k)) && nat_lt i (slot_base p k + p.size)

-- from an address in slot k past the top of its stack, and the whole of it from its first mark
abbrev pub up_from : MachineView → ℕ → ℕ → Span
up_from p k from = record { from = from; upto = slot_base p k + stack_words (stack_of (p.slots k)) + 1 }

abbrev pub whole_stack : MachineView → ℕ → Span
whole_stack p k = up_from p k (slot_base p k + 1)

-- the part of slot k's stack in which the copies of the array can be whose original is at an address. Of a dictionary's
-- array: the whole stack of a task of that job. Of a stack's array: what lies over the original, and the whole stacks of
-- the tasks under that one
abbrev pub span_of_kin : Families → MachineView → ℕ → ℕ → Option Resident → Option Span
span_of_kin f p original k None = None
span_of_kin f p original k (Some a) =
    if nat_lt original p.stacks then (if job_at FIRST_DICTIONARY f.entries 0 original == a.job then Some (whole_stack p k) else None)
    else (if holds p original k then Some (up_from p k (original + 1))
    else (if list_any (holds p original) a.parents then Some (whole_stack p k) else None))

abbrev pub span_of : Families → MachineView → ℕ → ℕ → Option Span
span_of f p original k = span_of_kin f p original k (f.kin k)

-- the address is in a part of core
abbrev pub InSpan : Option Span → ℕ → Type 0
InSpan None i = ⊥
InSpan (Some s) i = (s.from ≤ i) × (i < s.upto)

-- each copy among words that lie from an address up, given from the top down, is in the span of its array
abbrev pub ShapeInSpan : (ℕ → Option Span) → Shape → ℕ → Type 0
ShapeInSpan span (Is w) i = Unit {0}
ShapeInSpan span (Original home) i = Unit {0}
ShapeInSpan span (Copy copied home) i = InSpan (span home) i

abbrev pub CopiesInSpans : (ℕ → Option Span) → ℕ → List Shape → Type 0
CopiesInSpans span from [] = Unit {0}
CopiesInSpans span from (a ∷ more) = ShapeInSpan span a (from + length more) × CopiesInSpans span from more

-- each copy on a stack is in the span of its array
pub record CopiesLie (core : List Tagged) (p : MachineView) : Type 0 where
  pub families : Families
  pub shown : ShowsFamilies core p families
  pub lie : (k : ℕ) → k < p.peak → CopiesInSpans (λ home. span_of families p home k) (suc (slot_base p k)) (words k (stack_of (p.slots k)))

-- the registers and core, the areas, the table of sectors and what the device tells are those of a storage and a view, and
-- copies are where they are searched: what paging asks of a machine
pub record MachineCanPage (x : Storage) (cpu : Cpu) (areas : Areas) (table : Table) (told : Option (List (List ℕ))) (p : MachineView) : Type 0 where
  pub stands : Represents x cpu.core cpu.regs p
  pub low : areas.low ≡ x.low
  pub shelf : IsShelf table x.shelf
  pub device : Says x.device told
  pub copies : CopiesLie cpu.core p
