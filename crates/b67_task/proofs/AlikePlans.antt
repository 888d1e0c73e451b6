-- Two plans and two states of a job that show the same of some tasks. What a view shows of these is the same, whatever
-- tasks, slots and arrays were born or died beside them, whichever task's registers are in use, and who waits.
use Rattle.std.proofs.Common.{◌≡◌, ℕ, List, [], ◌∷◌, map, Option, Some, None, refl, ◌∙◌, ap, Bool, ◌==◌, arith}
use Rattle.std.specs.Prelude.{if◌then◌else◌}
use Rattle.std.specs.List.{AllByRecursion}
use Rattle.b67_lemmas.specs.Lists.{Has}
use Rattle.b67_model.specs.Words as Words
use Rattle.b67_model.specs.Common.{Word, Operand, Name, Ref, Row, Element, Original, Proc, Intrinsic, Frame, Task, Job, array, frames_of_task}
use Rattle.b67_model.specs.Keyed.{keyed}
use Rattle.b67_stack.specs.Shapes as Shapes
use Rattle.b67_stack.specs.Common.{Shape, StackPlace, Activation, Slot, Running, Waiting}
use Rattle.b67_layout.specs.Common.{Placement, slot_of, spot_in, outer_spots, spots, shape, head, activations, stack_of_task, slot_with}
use Rattle.b67_task.specs.Likes.{SameStack, Like}

-- a word names no array but such ones
abbrev pub NamesOnly : (ℕ → Type 0) → Word → Type 0
NamesOnly Named (Row a) = Named a
NamesOnly Named (Element a index) = Named a
NamesOnly Named (Original a) = Named a
NamesOnly Named (Operand bits) = Unit {0}
NamesOnly Named (Name couple) = Unit {0}
NamesOnly Named (Ref frame offset) = Unit {0}
NamesOnly Named (Proc segment level place) = Unit {0}
NamesOnly Named (Intrinsic number) = Unit {0}
NamesOnly Named (Words.Segment number) = Unit {0}

abbrev pub FramesName : (ℕ → Type 0) → List Frame → Type 0
FramesName Named fs = AllByRecursion (λ (f : Frame). AllByRecursion (NamesOnly Named) f.cells) fs

pub like_same : (o : Option Task) → Like o o
like_same o = grind arith

like_frames : (o' o : Option Task) → Like o' o → frames_of_task o' ≡ frames_of_task o
like_frames o' o l = grind arith

module _ (plan plan' : Placement) (i : ℕ) (job job' : Job) (Old Named : ℕ → Type 0) (slots : (u : ℕ) → Old u → slot_of plan' i u ≡ slot_of plan i u)
    (tasks : (u : ℕ) → Old u → Like (keyed (λ (t : Task). t.number) u job'.tasks) (keyed (λ (t : Task). t.number) u job.tasks))
    (arrays : (a : ℕ) → Named a → (array job' a ≡ array job a) × (plan'.home i a ≡ plan.home i a)) where
  pub outer-twin : (parents : List ℕ) → ((u : ℕ) → Has parents u → Old u) → (c id : ℕ) → outer_spots plan' i job' c parents id ≡ outer_spots plan i job c parents id
  outer-twin [] old c id = refl
  outer-twin (parent ∷ above) old c id = grind (arith, outer-twin above)

  pub shapes-twin : (spot : ℕ → StackPlace) (ws : List Word) → AllByRecursion (NamesOnly Named) ws → map (shape plan' i job' spot) ws ≡ map (shape plan i job spot) ws
  shapes-twin spot [] g = refl
  shapes-twin spot (w ∷ ws) g = grind (arith, shapes-twin spot ws g.1)

  pub activations-twin : (q : ℕ) (outer : ℕ → StackPlace) (fs : List Frame) → FramesName Named fs → activations plan' i job' q outer fs ≡ activations plan i job q outer fs
  activations-twin q outer [] g = refl
  activations-twin q outer (f ∷ below) g =
      let A : List Shape → Activation = λ cs. record { head = head (spot_in q outer below) f.standing; cells = cs } in
      ap (λ (cs : List Shape). A cs ∷ activations plan' i job' q outer below) (shapes-twin (spot_in q outer (f ∷ below)) f.cells g.0)
      ∙ ap (λ (under : List Activation). A (map (shape plan i job (spot_in q outer (f ∷ below))) f.cells) ∷ under) (activations-twin q outer below g.1)

  -- a task that both states have
  module _ (t' t : Task) (same : SameStack t' t) (old : (u : ℕ) → Has t.parents u → Old u) where
    outer_of-twin : outer_spots plan' i job' t'.critical t'.parents ≡ outer_spots plan i job t.critical t.parents
    outer_of-twin = grind (arith, outer-twin)

    pub stack-twin : (q : ℕ) → FramesName Named t.frames → stack_of_task plan' i job' q t' ≡ stack_of_task plan i job q t
    stack-twin q g = grind (arith, outer_of-twin, activations-twin)

    pub spots-twin : Old t.number → (id : ℕ) → spots plan' i job' t' id ≡ spots plan i job t id
    spots-twin own id = grind (arith, outer_of-twin)

  -- a slot of it
  pub slot_with-twin : (q : ℕ) → (q == plan'.running) ≡ (q == plan.running) → (o' o : Option Task) → Like o' o → ((t : Task) → o ≡ Some t → ((u : ℕ) → Has t.parents u → Old u) × FramesName Named t.frames)
      → slot_with plan' q i job' o' ≡ slot_with plan q i job o
  slot_with-twin q run None None l old = refl
  slot_with-twin q run None (Some t) l old = absurd l
  slot_with-twin q run (Some t') None l old = absurd l
  slot_with-twin q run (Some t') (Some t) l old =
      let k = old t refl in
      let S : Bool → List Activation → Slot = λ b st. if b then Running st else Waiting st in
      ap (λ (st : List Activation). S (q == plan'.running) st) (stack-twin t' t l k.0 q k.1) ∙ ap (λ (b : Bool). S b (stack_of_task plan i job q t)) run

-- where every array is the same, any frames will do
pub name_all : (fs : List Frame) → FramesName (λ (a : ℕ). Unit {0}) fs
name_all [] = tt
name_all (f ∷ below) = (cells f.cells, name_all below) where
  one : (w : Word) → NamesOnly (λ (a : ℕ). Unit {0}) w
  one (Row a) = tt
  one (Element a index) = tt
  one (Original a) = tt
  one (Operand bits) = tt
  one (Name couple) = tt
  one (Ref frame offset) = tt
  one (Proc segment level place) = tt
  one (Intrinsic number) = tt
  one (Words.Segment number) = tt

  cells : (ws : List Word) → AllByRecursion (NamesOnly (λ (a : ℕ). Unit {0})) ws
  cells [] = tt
  cells (w ∷ ws) = (one w, cells ws)
