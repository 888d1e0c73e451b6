-- The search of the spans, slot by slot.
use Rattle.std.proofs.Common.{◌≡◌, ℕ, Bool, true, false, ◌+◌, ◌<◌, ◌≤◌, List, [], ◌∷◌, length, Option, Some, None, refl, sym, ◌∙◌, ap, arith, ⊎_elim, subst}
use Rattle.std.specs.Prelude.{nat_lt, ◌==◌, if◌then◌else◌}
use Rattle.std.specs.List.{slice_get, list_any}
use Rattle.std.proofs.lemmas.Bool.{cases_eq}
use Rattle.std.proofs.lemmas.Option.{same_Some, none-some}
use Rattle.b67_word.specs.Tagged.{Tagged}
use Rattle.b67_ctl.specs.declared.registers.Regs.{Regs}
use Rattle.b67_stack.specs.Common.{stack_words, MachineView, stack_of, slot_base}
use Rattle.b67_overlay.specs.declared.spans.Span.{Span}
use Rattle.b67_overlay.specs.Turns.{TurnsAt, InStack, SpansTurned, Lies}
use Rattle.b67_overlay.specs.Spans.{Resident, Families, DictionariesLie, ShowsFamilies, job_at, holds, span_of_kin, span_of, up_from, whole_stack, InSpan}
use Rattle.b67_overlay.proofs.Families.{dictionaries_up}
use Rattle.b67_overlay.proofs.Turning.{stack_low, stack_before, Lies-turned}
use Rattle.b67_overlay.proofs.Copies.{span_inside}

pub spans_none : (p : MachineView) (f : Families) (area original : ℕ) (core : List Tagged) → SpansTurned p f 0 area original core core
spans_none p f area original core = record { size = refl; turned = λ k h. absurd (omega arith); others = λ i out. refl }

span_upto : (f : Families) (p : MachineView) (original k : ℕ) (o : Option Resident) (part : Span) → span_of_kin f p original k o ≡ Some part → part.upto ≡ slot_base p k + stack_words (stack_of (p.slots k)) + 1
span_upto f p original k None part e = absurd (none-some part e)
span_upto f p original k (Some a) part e = by (nat_lt original p.stacks) (job_at 160 f.entries 0 original == a.job) (holds p original k) (list_any (holds p original) a.parents) e where
  by : (low same own any : Bool)
      → (if low then (if same then Some (whole_stack p k) else None) else (if own then Some (up_from p k (original + 1)) else (if any then Some (whole_stack p k) else None))) ≡ Some part
      → part.upto ≡ slot_base p k + stack_words (stack_of (p.slots k)) + 1
  by true true own any e = ap (λ (z : Span). z.upto) (sym (same_Some _ _ e))
  by true false own any e = absurd (none-some part e)
  by false same true any e = ap (λ (z : Span). z.upto) (sym (same_Some _ _ e))
  by false same false true e = ap (λ (z : Span). z.upto) (sym (same_Some _ _ e))
  by false same false false e = absurd (none-some part e)

module _ (core new : List Tagged) (r : Regs) (low : ℕ) (p : MachineView) (f : Families) (original k : ℕ) (l : Lies core r low p) (hk : k < p.peak) where
  -- it ends in core
  pub span_low : (part : Span) → span_of f p original k ≡ Some part → part.upto ≤ length core
  span_low part e = omega (arith, span_upto f p original k (f.kin k) part e, stack_low core r low p k l hk, l.inside)

  -- words outside a stack stay
  rest : ((i : ℕ) → (InSpan (span_of f p original k) i → ⊥) → slice_get new i ≡ slice_get core i) → (i : ℕ) → (InStack p k i → ⊥) → slice_get new i ≡ slice_get core i
  rest others i out = others i (λ inside. out (span_inside f p original k i (f.kin k) inside))

  pub lies_on : length new ≡ length core → ((i : ℕ) → (InSpan (span_of f p original k) i → ⊥) → slice_get new i ≡ slice_get core i) → Lies new r low p
  lies_on size others = Lies-turned core new r low p k hk size (λ i out. rest others i (λ there. ⊎_elim
      (λ (a : i < slot_base p k + 1). let z : ⊥ = omega (arith, there.0) in z)
      (λ (a : slot_base p k + stack_words (stack_of (p.slots k)) + 1 ≤ i). let z : ⊥ = omega (arith, there.1) in z)
      out)) l

  below : ((i : ℕ) → (InSpan (span_of f p original k) i → ⊥) → slice_get new i ≡ slice_get core i) → (i : ℕ) → i < p.stacks → slice_get new i ≡ slice_get core i
  below others i h = rest others i (λ there. let z : ⊥ = omega (arith, there.0) in z)

  dictionaries_on : ((i : ℕ) → (InSpan (span_of f p original k) i → ⊥) → slice_get new i ≡ slice_get core i) → (at : ℕ) (more : List ℕ) → DictionariesLie core p.stacks at more → DictionariesLie new p.stacks at more
  dictionaries_on others at [] d = d
  dictionaries_on others at (n ∷ more) d =
      (below others (at + 1) (omega (arith, dictionaries_up core p.stacks (at + (2 + n)) more d.1)) ∙ d.0, dictionaries_on others (at + (2 + n)) more d.1)

  pub shown_on : ((i : ℕ) → (InSpan (span_of f p original k) i → ⊥) → slice_get new i ≡ slice_get core i) → ShowsFamilies core p f → ShowsFamilies new p f
  shown_on others s = record {
    few = s.few;
    vector = λ j small. below others (32 + j) (omega (arith, l.slots.laid.first)) ∙ s.vector j small;
    kin = s.kin;
    dictionaries = dictionaries_on others 160 f.entries s.dictionaries;
  }

  -- one more span is turned
  pub spans_more : (area : ℕ) (old : List Tagged) → length new ≡ length core
      → ((i : ℕ) → InSpan (span_of f p original k) i → TurnsAt area original core new i)
      → ((i : ℕ) → (InSpan (span_of f p original k) i → ⊥) → slice_get new i ≡ slice_get core i)
      → SpansTurned p f k area original old core → SpansTurned p f (k + 1) area original old new
  spans_more area old size turned others s = record {
    size = size ∙ s.size;
    turned = λ j under i inside. ⊎_elim
        (λ (e : j ≡ k).
        let here : InSpan (span_of f p original k) i = subst (λ (n : ℕ). InSpan (span_of f p original n) i) e inside in
        let t = turned i here in
        let before : slice_get core i ≡ slice_get old i = s.others i (λ m lower there. apart m lower i there here) in
        (t.0, t.1, sym before ∙ t.2, t.3, t.4))
        (λ (n : j ≡ k → ⊥).
        let lower : j < k = omega arith in
        let t = s.turned j lower i inside in
        (t.0, t.1, t.2, others i (λ here. apart j lower i inside here) ∙ t.3, t.4))
        (cases_eq j k);
    others = λ i out. others i (out k (omega arith)) ∙ s.others i (λ j lower. out j (omega arith));
  } where
    apart : (m : ℕ) → m < k → (i : ℕ) → InSpan (span_of f p original m) i → InSpan (span_of f p original k) i → ⊥
    apart m lower i there here =
        let a = span_inside f p original m i (f.kin m) there in
        let b = span_inside f p original k i (f.kin k) here in
        omega (arith, stack_before core r low p m k l (omega arith) lower i a, b.0)
