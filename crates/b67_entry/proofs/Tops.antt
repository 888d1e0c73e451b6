-- How the running task's top frame stands, and what the mark at F says of it.
use Rattle.std.proofs.Common.{◌≡◌, ◌≢◌, ℕ, ◌+◌, List, [], ◌∷◌, length, Option, Some, None, refl, ◌∙◌, ap, arith, true, false, subst}
use Rattle.b67_model.specs.State as State
use Rattle.b67_model.specs.Common.{Standing, Return, Frame, Task, JobConstants, Job, level_of_frame, running, IsSegment, ReturnsInOrder, StackInOrder, TaskInOrder}
use Rattle.b67_stack.specs.Common.{Shape, StackPlace, Head, Activation, head_size, top_size, mark_of, top_mark}
use Rattle.b67_layout.specs.Common.{Placement, head, activations}

-- marked, or entered as the bottom one, or entered over others with a return to these
pub data TopCase (constants : JobConstants) (t : Task) : Type 0 where
  pending : (f : Frame) (below : List Frame) → t.frames ≡ f ∷ below → f.standing ≡ State.Marked → TopCase constants t
  last : (f : Frame) (level environment : ℕ) → t.frames ≡ f ∷ [] → f.standing ≡ State.Entered level environment None → TopCase constants t
  inner : (f next : Frame) (more : List Frame) (level environment : ℕ) (back : Return) → t.frames ≡ f ∷ next ∷ more → f.standing ≡ State.Entered level environment (Some back)
      → IsSegment constants back.segment (level_of_frame (running (next ∷ more))) back.place → TopCase constants t

by_standing : (constants : JobConstants) (t : Task) (f : Frame) (below : List Frame) (s : Standing) → t.frames ≡ f ∷ below → f.standing ≡ s → ReturnsInOrder (IsSegment constants) s below → TopCase constants t
by_standing constants t f below State.Marked e is g = pending f below e is
by_standing constants t f below (State.Entered level environment None) e is g = last f level environment (e ∙ ap (λ (fs : List Frame). f ∷ fs) g) is
by_standing constants t f [] (State.Entered level environment (Some back)) e is g = absurd (g.0 refl)
by_standing constants t f (next ∷ more) (State.Entered level environment (Some back)) e is g = inner f next more level environment back e is g.1

by_frames : (constants : JobConstants) (job : Job) (t : Task) (fs : List Frame) → t.frames ≡ fs → TaskInOrder (IsSegment constants) constants job t → TopCase constants t
by_frames constants job t [] e o = absurd (o.some e)
by_frames constants job t (f ∷ below) e o = by_standing constants t f below f.standing e refl (let s = subst (λ (gs : List Frame). StackInOrder (IsSegment constants) gs) e o.returns in s.0)

pub top_case : (constants : JobConstants) (job : Job) (t : Task) → TaskInOrder (IsSegment constants) constants job t → TopCase constants t
top_case constants job t o = by_frames constants job t t.frames refl o

module _ (plan : Placement) (j : ℕ) (job : Job) (k i : ℕ) (outer : ℕ → StackPlace) where
  marked_by : (s : Standing) (spot : ℕ → StackPlace) (below : List Activation) → s ≡ State.Marked → (mark_of i (head spot s) below).entered ≡ false
  marked_by s spot below e = ap (λ (z : Standing). (mark_of i (head spot z) below).entered) e

  entered_by : (s : Standing) (spot : ℕ → StackPlace) (below : List Activation) (level environment : ℕ) (back : Option Return) → s ≡ State.Entered level environment back → ((mark_of i (head spot s) below).entered ≡ true) × ((mark_of i (head spot s) below).back ≡ top_size below)
  entered_by s spot below level environment back e = (ap (λ (z : Standing). (mark_of i (head spot z) below).entered) e, ap (λ (z : Standing). (mark_of i (head spot z) below).back) e)

  size_some : (h : Head) (cells : List Shape) → head_size h + length cells ≢ 0
  size_some h cells e = grind arith

  pub mark_last : (fs : List Frame) (f : Frame) (level environment : ℕ) → fs ≡ f ∷ [] → f.standing ≡ State.Entered level environment None
      → ((top_mark i (activations plan j job k outer fs)).entered ≡ true) × ((top_mark i (activations plan j job k outer fs)).back ≡ 0)
  mark_last fs f level environment e is = grind arith
