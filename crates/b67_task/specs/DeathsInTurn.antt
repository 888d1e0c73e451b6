-- The tasks of several slots die, one after another.
use Rattle.std.specs.Prelude.{◌≡◌, ◌≢◌, ℕ, ◌+◌, ◌<◌, List, [], ◌∷◌, ◌++◌, map, Some, slice_get}
use Rattle.b67_word.specs.Tagged.{Tagged, word}
use Rattle.b67_ctl.specs.declared.map.TheConstants.{DIRECTORY, SLOTS, STACK_VECTOR}
use Rattle.b67_ctl.specs.declared.registers.Regs.{Regs}
use Rattle.b67_lemmas.specs.Lists.{Has}
use Rattle.b67_stack.specs.Common.{PagedObject, MachineView, slot_base, Storage}
use Rattle.b67_task.specs.Released.{HasHome, Released}
use Rattle.b67_task.specs.Vacated.{put_out, died, MayDie}

-- a slot, the arrays whose originals lie in it, and all other objects
pub record Death : Type 0 where
  pub slot : ℕ
  pub gone : List PagedObject
  pub rest : List PagedObject

unfoldable pub MayAllDie : MachineView → List Tagged → List Death → Type 0
MayAllDie p core [] = Unit {0}
MayAllDie p core (d ∷ ds) = MayDie p core d.slot d.gone d.rest × MayAllDie (died p d.slot d.rest) core ds

unfoldable pub all_died : MachineView → List Death → MachineView
all_died p [] = p
all_died p (d ∷ ds) = all_died (died p d.slot d.rest) ds

abbrev pub slots_of : List Death → List ℕ
slots_of ds = map (λ (d : Death). d.slot) ds

-- the homes of the arrays that go
abbrev pub HasGone : List Death → ℕ → Type 0
HasGone ds home = (d : Death) × Has ds d × HasHome d.gone home

-- the words of a slot but its first are as they were, in every slot
abbrev pub SameInside : MachineView → List Tagged → List Tagged → Type 0
SameInside p core new = (q i : ℕ) → q < p.peak → slot_base p q < i → i < slot_base p q + p.size → slice_get new i ≡ slice_get core i

-- and so are all words below the areas but for the directory's, the slot's first and its word in the stack vector
abbrev pub SameButSlot : ℕ → MachineView → ℕ → List Tagged → List Tagged → Type 0
SameButSlot low p k core new = (i : ℕ) → i < low → i ≢ DIRECTORY → i ≢ slot_base p k → i ≢ STACK_VECTOR + k → slice_get new i ≡ slice_get core i

-- the same after several deaths
abbrev pub SameButSlots : ℕ → MachineView → List ℕ → List Tagged → List Tagged → Type 0
SameButSlots low p ks core new = (i : ℕ) → i < low → i ≢ DIRECTORY → ((k : ℕ) → Has ks k → (i ≢ slot_base p k) × (i ≢ STACK_VECTOR + k)) → slice_get new i ≡ slice_get core i

abbrev pub ZeroVector : List ℕ → List Tagged → Type 0
ZeroVector ks new = (k : ℕ) → Has ks k → slice_get new (STACK_VECTOR + k) ≡ Some (word 0 0)

-- no registers are in use if they were those of one of these slots
unfoldable pub all_put_out : Regs → List ℕ → Regs
all_put_out r [] = r
all_put_out r (k ∷ ks) = all_put_out (put_out r k) ks

-- some of them have died
pub record Buried (x y : Storage) (p q : MachineView) (core new : List Tagged) (all done more : List Death) : Type 0 where
  pub whole : done ++ more ≡ all
  pub may : MayAllDie q new more
  pub end : all_died q more ≡ all_died p all
  pub released : Released (HasGone done) x y
  pub apart : (home : ℕ) → HasGone done home → (t : PagedObject) → Has q.objects t → t.home ≢ home
  pub stacks : q.stacks ≡ p.stacks
  pub size : q.size ≡ p.size
  pub peak : q.peak ≡ p.peak
  pub below : SameButSlots x.low p (slots_of done) core new
  pub zero : ZeroVector (slots_of done) new
  pub few : (k : ℕ) → Has (slots_of done) k → k < SLOTS
