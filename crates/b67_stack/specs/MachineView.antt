-- All that core, areas and sectors are to show of a session's state, without that state.
use Rattle.std.specs.Prelude.{◌≡◌, ◌≢◌, ℕ, Bool, true, false, ◌+◌, ◌*◌, ◌^◌, ◌<◌, ◌≤◌, ◌==◌, List, [], length, map, Option, Some, None, if◌then◌else◌}
use Rattle.std.specs.List.{AllByRecursion}
use Rattle.b67_word.specs.Tagged.{Tagged, word}
use Rattle.b67_ctl.specs.declared.map.TheConstants.{FIRST_DICTIONARY}
use Rattle.b67_ctl.specs.declared.descriptors.DataDesc.{DataDesc}
use Rattle.b67_ctl.specs.Descriptors.{data_word, seg_word}
use Rattle.b67_area.specs.declared.Kind.{Kind}
use Rattle.b67_area.specs.declared.Kind.TheVariants.{Array, Row, Code}
use Rattle.b67_lemmas.specs.Lists.{Has}
use Rattle.b67_stack.specs.Shapes.{Location, Copied, Shape, Copy}
use Rattle.b67_stack.specs.Stacks.{Activation, IsStack, stack_words, words}

-- an array, a data row or a segment: the address of its original or segment descriptor, and its numbers
pub record PagedObject : Type 0 where
  pub home : ℕ
  pub kind : Kind
  pub numbers : List ℕ

-- what is in a slot: no live task, the task whose registers stand in the registers, or another task
pub data Slot : Type 0 where
  Free : Slot
  Running : (stack : List Activation) → Slot
  Waiting : (stack : List Activation) → Slot

abbrev pub stack_of : Slot → List Activation
stack_of Free = []
stack_of (Running stack) = stack
stack_of (Waiting stack) = stack

-- the address of slot 0, the words of a slot, how many slots were used so far, the slots, and the objects
pub record MachineView : Type 0 where
  pub stacks : ℕ
  pub size : ℕ
  pub peak : ℕ
  pub slots : ℕ → Slot
  pub objects : List PagedObject

-- the address of a slot's base word
abbrev pub slot_base : MachineView → ℕ → ℕ
slot_base p k = p.stacks + k * p.size

-- the task of slot k runs, on this stack
pub record RunsOn (p : MachineView) (k : ℕ) (stack : List Activation) : Type 0 where
  pub used : k < p.peak
  pub is : p.slots k ≡ Running stack

abbrev pub is_present : Option ℕ → Bool
is_present None = false
is_present (Some at) = true

abbrev pub address_or : Option ℕ → ℕ → ℕ
address_or None chain = chain
address_or (Some at) chain = at

-- the word of an original or of a segment descriptor
abbrev pub home_desc : Bool → ℕ → Location → DataDesc
home_desc read_only n h =
    record { present = is_present h.area; copy = false; indexed = false; read_only = read_only; length = n; address = address_or h.area h.chain }

abbrev pub home_word_of : Kind → ℕ → Location → Tagged
home_word_of Array n h = data_word (home_desc false n h)
home_word_of Row n h = data_word (home_desc true n h)
home_word_of Code n h = seg_word (record { present = is_present h.area; words = n; address = address_or h.area h.chain })

abbrev pub home_word : PagedObject → Location → Tagged
home_word t h = home_word_of t.kind (length t.numbers) h

-- the words of an object in an area
abbrev pub tag_of : Kind → ℕ
tag_of Array = 0
tag_of Row = 0
tag_of Code = 3

abbrev pub object_words : PagedObject → List Tagged
object_words t = map (word (tag_of t.kind)) t.numbers

abbrev pub AreZero : List ℕ → Type 0
AreZero ns = AllByRecursion (λ n. n ≡ 0) ns

-- the array, not a segment, that is known by an address
abbrev pub IsArrayAt : List PagedObject → ℕ → Type 0
IsArrayAt objects home = (t : PagedObject) × Has objects t × (t.home ≡ home) × (t.kind ≢ Code)

abbrev pub CopiesName : List PagedObject → List Shape → Type 0
CopiesName objects shapes = (c : Copied) (home : ℕ) → Has shapes (Copy c home) → IsArrayAt objects home

-- a stack number of a slot, and a live task's words there
abbrev pub SlotFits : MachineView → ℕ → Slot → Type 0
SlotFits p k Free = Unit {0}
SlotFits p k (Running stack) = IsStack p.size stack × CopiesName p.objects (words k stack)
SlotFits p k (Waiting stack) = IsStack p.size stack × CopiesName p.objects (words k stack)

-- what a view by itself keeps: the dictionaries lie from FIRST_DICTIONARY up to slot 0, the slots from there up to an end.
-- Originals lie in both, segment descriptors in dictionaries
pub record IsLaidOut (end : ℕ) (p : MachineView) : Type 0 where
  pub low : end ≡ slot_base p p.peak
  pub first : FIRST_DICTIONARY ≤ p.stacks
  pub room : p.size < 2 ^ 14
  pub slots : (k : ℕ) → k < p.peak → SlotFits p k (p.slots k)
  pub homes : (t : PagedObject) → Has p.objects t → (FIRST_DICTIONARY ≤ t.home) × (t.home < end)
  pub codes : (t : PagedObject) → Has p.objects t → t.kind ≡ Code → t.home < p.stacks
  pub differ : (t u : PagedObject) → Has p.objects t → Has p.objects u → t.home ≡ u.home → t ≡ u
  pub not_base : (t : PagedObject) → Has p.objects t → (k : ℕ) → k < p.peak → t.home ≢ slot_base p k
  pub lengths : (t : PagedObject) → Has p.objects t → (0 < length t.numbers) × (length t.numbers < 2 ^ 16)

-- no original stands above the top of its stack. Only between the leaving of an activation record and the release of
-- its arrays it is otherwise
abbrev pub NoOriginalAboveTop : MachineView → Type 0
NoOriginalAboveTop p = (t : PagedObject) → Has p.objects t → (k : ℕ) → k < p.peak → slot_base p k ≤ t.home → t.home < slot_base p k + p.size
    → t.home ≤ slot_base p k + stack_words (stack_of (p.slots k))

-- the view with something else in a slot
abbrev pub with_slot : MachineView → ℕ → Slot → MachineView
with_slot p k slot = record p { slots = λ j. if j == k then slot else p.slots j }
