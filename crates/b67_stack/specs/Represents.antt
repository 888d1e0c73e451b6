-- When a machine represents a view.
use Rattle.std.specs.Prelude.{◌≡◌, ◌≢◌, ℕ, suc, ◌+◌, ◌<◌, ◌≤◌, ◌^◌, ◌⊎◌, List, [], length, map, Option, Some, None, slice_get}
use Rattle.b67_word.specs.Common.{Tagged, word, number}
use Rattle.b67_ctl.specs.Layout.{toscw_word}
use Rattle.b67_area.specs.declared.Info.{Info}
use Rattle.b67_area.specs.declared.Kind.{Kind}
use Rattle.b67_area.specs.declared.Kind.TheVariants.{Array, Row, Code}
use Rattle.b67_area.specs.Spans.{Span, area_at}
use Rattle.b67_area.specs.Directory.{IsDirectory}
use Rattle.b67_backing.specs.Shelf.{Shelf, chain_of}
use Rattle.b67_backing.specs.Held.{Fills, sectors_for}
use Rattle.b67_lemmas.specs.Lists.{Has}
use Rattle.b67_ctl.specs.declared.registers.Regs.{Regs}
use Rattle.b67_stack.specs.Shapes.{Locations, Fits, LieDownward, LieUpward}
use Rattle.b67_stack.specs.Stacks.{Activation, stack_words, mark_place, stack_level, words, toscw_of}
use Rattle.b67_stack.specs.MachineView.{PagedObject, Slot, Free, Running, Waiting, stack_of, MachineView, slot_base, IsLaidOut, home_word, object_words, AreZero}

-- what isn't core: the areas' spans from `low` up, the chains of sectors, what these hold if the device tells it, and how
-- the objects are held in both
pub record Storage : Type 0 where
  pub held : Locations
  pub low : ℕ
  pub spans : List Span
  pub shelf : Shelf
  pub device : Option (List (List ℕ))

-- the registers of a task that runs on a stack of slot k
pub record RepresentsRunning (r : Regs) (p : MachineView) (k : ℕ) (stack : List Activation) : Type 0 where
  pub slot : r.slot ≡ k
  pub first : r.bosr ≡ slot_base p k
  pub last : r.losr + 1 ≡ slot_base p k + p.size
  pub top : r.s ≡ slot_base p k + stack_words stack
  pub mark : r.f ≡ slot_base p k + mark_place stack
  pub level : r.level ≡ stack_level stack

-- a slot's base word, and the registers if its task runs
abbrev pub RepresentsSlot : List Tagged → Regs → MachineView → ℕ → Slot → Type 0
RepresentsSlot core r p k Free = (r.slot ≢ k) × (slice_get core (slot_base p k) ≡ Some (word 0 0))
RepresentsSlot core r p k (Running stack) = RepresentsRunning r p k stack
RepresentsSlot core r p k (Waiting stack) = (r.slot ≢ k) × (slice_get core (slot_base p k) ≡ Some (toscw_word (toscw_of stack)))

pub record RepresentsRegs (r : Regs) (p : MachineView) : Type 0 where
  pub stacks : r.stacks ≡ p.stacks
  pub size : r.stack_size ≡ p.size
  pub peak : r.peak ≡ p.peak

-- the slots and where each one's top is
pub record RepresentsSlots (core : List Tagged) (r : Regs) (low : ℕ) (p : MachineView) : Type 0 where
  pub laid : IsLaidOut low p
  pub regs : RepresentsRegs r p
  pub slots : (k : ℕ) → k < p.peak → RepresentsSlot core r p k (p.slots k)

-- the words of each stack
abbrev pub StacksLie : Locations → List Tagged → MachineView → Type 0
StacksLie held core p =
    (k : ℕ) → k < p.peak → LieDownward (Fits held) core (suc (slot_base p k)) (words k (stack_of (p.slots k)))

-- a chain of as many sectors as an object's words take
pub record ObjectHasChain (x : Storage) (t : PagedObject) (first : ℕ) : Type 0 where
  pub some : 0 < first
  pub small : first < 2 ^ 20
  pub sectors : length (chain_of first x.shelf.chains) ≡ sectors_for (length t.numbers)

-- numbers lie in the sectors of a chain, with zeros after them, where the device tells them
abbrev pub Told : Option (List (List ℕ)) → List ℕ → List ℕ → Type 0
Told None chain numbers = Unit {0}
Told (Some all) chain numbers = Fills all chain 0 numbers

-- a chain that holds an object's words
pub record HoldsIn (x : Storage) (t : PagedObject) (first : ℕ) : Type 0 where
  pub chain : ObjectHasChain x t first
  pub told : Told x.device (chain_of first x.shelf.chains) (map number (object_words t))

-- what a present object keeps in sectors: an array maybe a chain, which may hold anything; the others their words
abbrev pub KeptChain : Storage → PagedObject → Kind → ℕ → Type 0
KeptChain x t Array first = (first ≡ 0) ⊎ ObjectHasChain x t first
KeptChain x t Row first = HoldsIn x t first
KeptChain x t Code first = HoldsIn x t first

-- where an absent object's words are; those of an array that was never touched are zeros
abbrev pub AbsentContent : Storage → PagedObject → ℕ → Type 0
AbsentContent x t first = HoldsIn x t first ⊎ ((first ≡ 0) × (t.kind ≡ Array) × AreZero t.numbers)

abbrev pub Content : Storage → List Tagged → PagedObject → Option ℕ → ℕ → Type 0
Content x core t (Some at) first = LieUpward core at (object_words t) × KeptChain x t t.kind first
Content x core t None first = AbsentContent x t first

-- the original or segment descriptor of an object, and its words
pub record RepresentsObject (x : Storage) (core : List Tagged) (t : PagedObject) : Type 0 where
  pub home : slice_get core t.home ≡ Some (home_word t (x.held t.home))
  pub content : Content x core t (x.held t.home).area (x.held t.home).chain

abbrev pub RepresentsObjects : Storage → List Tagged → List PagedObject → Type 0
RepresentsObjects x core objects = (t : PagedObject) → Has objects t → RepresentsObject x core t

-- what head and tail of an object's area say
abbrev pub info_of : Storage → PagedObject → Info
info_of x t = record { kind = t.kind; words = length t.numbers; owner = t.home; kept = (x.held t.home).chain }

-- each area and each chain belongs to one object, and an object that is held in an area has that area
pub record Owned (x : Storage) (objects : List PagedObject) : Type 0 where
  pub of_area : (at : ℕ) (a : Info) → area_at x.low x.spans at ≡ Some a
      → (t : PagedObject) × Has objects t × ((x.held t.home).area ≡ Some at) × (a ≡ info_of x t)
  pub of_held : (home at : ℕ) → (x.held home).area ≡ Some at
      → (t : PagedObject) × Has objects t × (t.home ≡ home) × (area_at x.low x.spans at ≡ Some (info_of x t))
  pub of_chain : (first : ℕ) → 0 < length (chain_of first x.shelf.chains)
      → (t : PagedObject) × Has objects t × ((x.held t.home).chain ≡ first)
  pub no_zero : chain_of 0 x.shelf.chains ≡ []
  pub one_chain : (t u : PagedObject) → Has objects t → Has objects u → 0 < (x.held t.home).chain
      → (x.held t.home).chain ≡ (x.held u.home).chain → t.home ≡ u.home

-- the machine represents a view
pub record Represents (x : Storage) (core : List Tagged) (r : Regs) (p : MachineView) : Type 0 where
  pub slots : RepresentsSlots core r x.low p
  pub stacks : StacksLie x.held core p
  pub objects : RepresentsObjects x core p.objects
  pub owned : Owned x p.objects
  pub directory : IsDirectory core x.low x.spans
  pub inside : x.low ≤ length core
