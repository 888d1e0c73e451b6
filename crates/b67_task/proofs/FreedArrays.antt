-- An original's array, by its fields, and its area that is freed.
use Rattle.std.proofs.Common.{◌≡◌, ◌≢◌, ℕ, ◌==◌, List, length, Some, sym, ◌∙◌, ap, arith, ⊎_elim, Bool, false, not, ◌⊎◌}
use Rattle.std.proofs.lemmas.Bool.{cases_eq, cond-true, cond-false, eq-eqb, ne_eqb, true≢false}
use Rattle.std.proofs.lemmas.Option.{same_Some, none-some}
use Rattle.b67_word.specs.Tagged.{Tagged}
use Rattle.b67_area.specs.Spans.{Span, area_at, without, but}
use Rattle.b67_area.specs.Directory.{IsDirectory, OnlyHoles}
use Rattle.b67_area.proofs.Laws.{OnlyHoles-area, OnlyHoles-below}
use Rattle.b67_stack.specs.Common.{Location, is_present, address_or}
use Rattle.b67_task.specs.Released.{Vacated}

-- a present one's area
pub present_area : (h : Location) (present : Bool) (address : ℕ) → not present ≡ false → present ≡ is_present h.area → address ≡ address_or h.area h.chain → h.area ≡ Some address
present_area h present address e p a = grind arith

pub vacated_some : (low at : ℕ) (spans : List Span) (core new : List Tagged) → IsDirectory new low (without low at spans) → OnlyHoles core new low (without low at spans)
    → ((y : ℕ) → area_at low (without low at spans) y ≡ but at y (area_at low spans y)) → length new ≡ length core → Vacated low (Some at) spans core new
vacated_some low at spans core new d o areas size = record {
  directory = d;
  below = λ i h n. OnlyHoles-below core new low (without low at spans) i o n h;
  bodies = λ b i e q down up. OnlyHoles-area core new low (without low at spans) b i q o e d.above (omega arith) (omega arith);
  gone = λ b i e. ⊎_elim
      (λ (q : at ≡ b). absurd (none-some i (sym (cond-true (at == b) _ _ (eq-eqb at b q)) ∙ sym (areas b) ∙ e)))
      (λ (m : at ≡ b → ⊥).
      let r : (area_at low spans b ≡ Some i) × (Some at ≢ Some b) = (sym (cond-false (at == b) _ _ (ne_eqb at b m)) ∙ sym (areas b) ∙ e, λ q. m (same_Some at b q)) in r)
      (cases_eq at b);
  stays = λ b i e m. areas b ∙ cond-false (at == b) _ _ (ne_eqb at b (λ q. m (ap Some q))) ∙ e;
  size = size;
}
