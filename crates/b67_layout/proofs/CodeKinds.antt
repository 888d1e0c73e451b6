-- The kind of area of a code object.
use Rattle.std.proofs.Common.{◌≡◌, ℕ, ◌+◌, List, [], ◌∷◌, sym, ap, inl, inr}
use Rattle.b67_area.specs.declared.Kind.TheVariants as kind
use Rattle.b67_lemmas.specs.Lists.{Has}
use Rattle.b67_model.specs.State.{Segment}
use Rattle.b67_stack.specs.MachineView.{PagedObject}
use Rattle.b67_layout.specs.Placement.{Placement}
use Rattle.b67_layout.specs.Layout.{code_objects}

pub code_kind : (plan : Placement) (j n : ℕ) (segments : List Segment) (t : PagedObject) → Has (code_objects plan j n segments) t → t.kind ≡ kind.Code
code_kind plan j n [] t h = absurd h
code_kind plan j n (s ∷ more) t (inl e) = ap (λ (z : PagedObject). z.kind) (sym e)
code_kind plan j n (s ∷ more) t (inr h) = code_kind plan j (n + 1) more t h
