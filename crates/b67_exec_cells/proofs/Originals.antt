-- An original is told from other words by its tag and one bit.
use Rattle.std.proofs.Common.{◌≡◌, ◌≢◌, ℕ, Bool, false, sym, ◌∙◌, ap}
use Rattle.std.specs.Prelude.{not}
use Rattle.b67_word.specs.Tagged.{Tagged}
use Rattle.b67_ctl.specs.declared.descriptors.DataDesc.{DataDesc}
use Rattle.b67_ctl.specs.Descriptors.{data_word, IsDataDesc}
use Rattle.b67_model.specs.Common.{Word, Operand, Name, Ref, Row, Element, Original, Proc, Intrinsic, Task, SessionJob, is_original}
use Rattle.b67_model.specs.Words as Words
use Rattle.b67_stack.specs.Represents.{Storage}
use Rattle.b67_layout.specs.Placement.{Placement}
use Rattle.b67_layout.specs.Tops.{IsWordOf}

module _ (w : Tagged) (r : Bool) (known : (d : DataDesc) → IsDataDesc d → w ≡ data_word d → r ≡ not d.copy) (other : w.tag ≢ 5 → r ≡ false) where
  plain : (v : Tagged) → w ≡ v → v.tag ≢ 5 → r ≡ false
  plain v is off = other (λ five. off (ap (λ (z : Tagged). z.tag) (sym is) ∙ five))

  pub tells_original : (x : Storage) (plan : Placement) (m : SessionJob) (t : Task) (v : Word) (at : ℕ) → IsWordOf x plan m t v at w → r ≡ is_original v
  tells_original x plan m t (Operand bits) at f = plain _ f.0 f.1
  tells_original x plan m t (Name couple) at f = plain _ f.0 f.1
  tells_original x plan m t (Ref g offset) at f = plain _ f.0 f.1
  tells_original x plan m t (Row a) at f = known _ f.fits f.is
  tells_original x plan m t (Element a index) at f = known _ f.fits f.is
  tells_original x plan m t (Original a) at f = known f.1.desc f.1.fits f.1.is ∙ ap not f.1.own
  tells_original x plan m t (Proc g level place) at f = plain _ f.0 f.1
  tells_original x plan m t (Intrinsic n) at f = plain _ f.0 f.1
  tells_original x plan m t (Words.Segment n) at f = plain _ f.0 f.1
