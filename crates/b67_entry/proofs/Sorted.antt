-- What the mark at F tells of the running task's top frame.
use Rattle.std.proofs.Common.{◌≡◌, ◌≢◌, ℕ, List, [], ◌∷◌, Option, None, sym, ◌∙◌, ap, true, false, arith}
use Rattle.std.proofs.lemmas.Bool.{true≢false}
use Rattle.b67_ctl.specs.declared.marks.Mscw.{Mscw}
use Rattle.b67_model.specs.State as State
use Rattle.b67_model.specs.Common.{Frame, Return, Task, SessionJob, top, is_critical, IsSegment, TaskInOrder}
use Rattle.b67_stack.specs.Stacks.{StackPlace, top_mark}
use Rattle.b67_layout.specs.Placement.{Placement}
use Rattle.b67_layout.specs.Layout.{activations}
use Rattle.b67_entry.proofs.Tops.{top_case}
use Rattle.b67_entry.specs.Left.{Returns}

pub record Pending (t : Task) : Type 0 where
  pub f : Frame
  pub below : List Frame
  pub frames : t.frames ≡ f ∷ below
  pub marked : f.standing ≡ State.Marked

pub record IsEntered (t : Task) : Type 0 where
  pub f : Frame
  pub below : List Frame
  pub level : ℕ
  pub environment : ℕ
  pub back : Option Return
  pub frames : t.frames ≡ f ∷ below
  pub entered : f.standing ≡ State.Entered level environment back

pub record Last (t : Task) : Type 0 where
  pub f : Frame
  pub level : ℕ
  pub environment : ℕ
  pub frames : t.frames ≡ f ∷ []
  pub entered : f.standing ≡ State.Entered level environment None

module _ (plan : Placement) (m : SessionJob) (t : Task) (k i : ℕ) (outer : ℕ → StackPlace) (o : TaskInOrder (IsSegment m.constants) m.constants m.progress.job t) (mark : Mscw)
    (is : mark ≡ top_mark i (activations plan m.constants.number m.progress.job k outer t.frames)) where
  back_is : mark.back ≡ (top_mark i (activations plan m.constants.number m.progress.job k outer t.frames)).back
  back_is = ap (λ (n : Mscw). n.back) is

  apart : {A : Type 0} → mark.entered ≡ true → mark.entered ≡ false → A
  apart e n = absurd (true≢false (sym e ∙ n))

  pub is_pending : mark.entered ≡ false → Pending t
  is_pending n = grind (arith, top_case)

  pub is_entered : mark.entered ≡ true → IsEntered t
  is_entered n = grind (arith, top_case)

  pub is_last : mark.entered ≡ true → mark.back ≡ 0 → Last t
  is_last n z = grind (arith, top_case)

  pub returns_of : mark.entered ≡ true → mark.back ≢ 0 → is_critical m.progress.job (top t.frames).identity ≡ false → Returns m t
  returns_of n z c = grind (arith, top_case)
