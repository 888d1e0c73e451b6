-- Copies lie in their spans: what a call that pages leaves of that, and that the search of the spans finds all copies.
use Rattle.std.proofs.Common.{◌≡◌, ◌≢◌, ℕ, suc, ◌+◌, ◌<◌, ◌≤◌, Bool, true, false, List, [], ◌∷◌, length, Option, Some, None, refl, sym, ◌∙◌, ap, arith, inl, inr, ◌⊎◌, ⊎_elim, subst}
use Rattle.std.specs.Prelude.{MatchBool, nat_lt, ◌==◌, if◌then◌else◌}
use Rattle.std.specs.List.{slice_get, list_any}
use Rattle.std.proofs.lemmas.Bool.{cases_eq, cases_lt, false≢true, lt-ltb}
use Rattle.std.proofs.lemmas.Option.{same_Some}
use Rattle.b67_word.specs.Tagged.{Tagged, word}
use Rattle.b67_area.specs.declared.Kind.{Kind}
use Rattle.b67_area.specs.declared.Kind.TheVariants.{Array, Row, Code}
use Rattle.b67_ctl.specs.declared.descriptors.DataDesc.{DataDesc}
use Rattle.b67_ctl.specs.declared.registers.Regs.{Regs}
use Rattle.b67_ctl.specs.Descriptors.{data_word, IsDataDesc}
use Rattle.b67_lemmas.specs.Lists.{Has}
use Rattle.b67_lemmas.proofs.Places.{get_within}
use Rattle.b67_stack.specs.Common.{Shape, Is, Original, Copy, Fits, LieDownward, copy_desc, nowhere, words, PagedObject, MachineView, stack_of, slot_base, home_word_of, Storage, Represents, LowWordsStayed}
use Rattle.b67_stack.proofs.Heights.{words-length}
use Rattle.b67_stack.proofs.Homes.{same_desc}
use Rattle.b67_layout.specs.Machine.{IsPresent}
use Rattle.b67_overlay.specs.Turns.{IsCopyOfArea, InStack, Searched, SpansTurned, Lies}
use Rattle.b67_overlay.specs.declared.spans.Span.{Span}
use Rattle.b67_overlay.specs.Spans.{Resident, Families, DictionariesLie, ShowsFamilies, job_at, holds, span_of, span_of_kin, up_from, whole_stack, InSpan, ShapeInSpan, CopiesInSpans, CopiesLie}
use Rattle.b67_overlay.proofs.Families.{dictionaries_up}
use Rattle.b67_overlay.proofs.Hiding.{alone}
use Rattle.b67_overlay.proofs.Turning.{lies_of, stack_before, stack_low}

home_tag : (kind : Kind) (n : ℕ) (t : PagedObject) (core : List Tagged) (i m : ℕ) (x : Storage) → slice_get core i ≡ Some (home_word_of kind n (x.held t.home)) → slice_get core i ≡ Some (word 0 m) → ⊥
home_tag Array n t core i m x get e = let z : ◌≡◌ {A = ℕ} 5 0 = ap (λ (w : Tagged). w.tag) (same_Some _ _ (sym get ∙ e)) in omega arith
home_tag Row n t core i m x get e = let z : ◌≡◌ {A = ℕ} 5 0 = ap (λ (w : Tagged). w.tag) (same_Some _ _ (sym get ∙ e)) in omega arith
home_tag Code n t core i m x get e = let z : ◌≡◌ {A = ℕ} 3 0 = ap (λ (w : Tagged). w.tag) (same_Some _ _ (sym get ∙ e)) in omega arith

-- words that aren't descriptors, below the slots, stay
module _ (x : Storage) (core : List Tagged) (r : Regs) (p : MachineView) (s : Represents x core r p) (new : List Tagged) (stayed : LowWordsStayed p core new) where
  dictionaries_stay : (at : ℕ) (rest : List ℕ) → 160 ≤ at → DictionariesLie core p.stacks at rest → DictionariesLie new p.stacks at rest
  dictionaries_stay at [] low d = d
  dictionaries_stay at (n ∷ more) low d =
      let up = dictionaries_up core p.stacks (at + (2 + n)) more d.1 in
      let apart : (t : PagedObject) → Has p.objects t → t.home ≢ at + 1 = λ t there e. home_tag t.kind (length t.numbers) t core (at + 1) n x (ap (slice_get core) (sym e) ∙ (s.objects t there).home) d.0 in
      (stayed (at + 1) (omega arith) (inr (omega arith)) apart ∙ d.0, dictionaries_stay (at + (2 + n)) more (omega arith) d.1)

  pub families_stay : (f : Families) → ShowsFamilies core p f → ShowsFamilies new p f
  families_stay f h = record {
    few = h.few;
    vector = λ k small. stayed (32 + k) (omega (arith, s.slots.laid.first)) (inl (omega arith)) (λ t there e. omega (arith, (s.slots.laid.homes t there).0, e)) ∙ h.vector k small;
    kin = h.kin;
    dictionaries = dictionaries_stay 160 f.entries (omega arith) h.dictionaries;
  }

  pub copies_stay : CopiesLie core p → CopiesLie new p
  copies_stay c = record { families = c.families; shown = families_stay c.families c.shown; lie = c.lie }

-- the same view with other objects
pub copies_objects : (core : List Tagged) (p : MachineView) (objects : List PagedObject) → CopiesLie core p → CopiesLie core (record p { objects = objects })
copies_objects core p objects c = record {
  families = c.families;
  shown = record { few = c.shown.few; vector = c.shown.vector; kin = c.shown.kin; dictionaries = c.shown.dictionaries };
  lie = c.lie;
}

-- a span is a part of its stack
pub span_inside : (f : Families) (p : MachineView) (original k i : ℕ) (o : Option Resident) → InSpan (span_of_kin f p original k o) i → InStack p k i
span_inside f p original k i None h = absurd h
span_inside f p original k i (Some a) h = by (nat_lt original p.stacks) (job_at 160 f.entries 0 original == a.job) (holds p original k) (list_any (holds p original) a.parents) refl h where
  below : holds p original k ≡ true → slot_base p k ≤ original
  below e = ⊎_elim
      (λ (low : original < slot_base p k). absurd (let z : false ≡ true = (rw (lt-ltb original (slot_base p k) low) at e) in false≢true z))
      (λ (high : slot_base p k ≤ original). high)
      (cases_lt original (slot_base p k))

  by : (low same own any : Bool) → holds p original k ≡ own
      → InSpan (if low then (if same then Some (whole_stack p k) else None) else (if own then Some (up_from p k (original + 1)) else (if any then Some (whole_stack p k) else None))) i → InStack p k i
  by true true own any e h = (omega (arith, h.0), omega (arith, h.1))
  by true false own any e h = absurd h
  by false same true any e h = (omega (arith, h.0, below e), omega (arith, h.1))
  by false same false true e h = (omega (arith, h.0), omega (arith, h.1))
  by false same false false e h = absurd h

pub in_or_out : (span : Option Span) (i : ℕ) → InSpan span i ⊎ (InSpan span i → ⊥)
in_or_out None i = inr (λ h. h)
in_or_out (Some s) i = ⊎_elim
    (λ (low : i < s.from). inr (λ h. let z : ⊥ = omega (arith, h.0) in z))
    (λ (from : s.from ≤ i). ⊎_elim (λ (under : i < s.upto). inl (from, under)) (λ (over : s.upto ≤ i). inr (λ h. let z : ⊥ = omega (arith, h.1) in z)) (cases_lt i s.upto))
    (cases_lt i s.from)

-- the word at a place, with its shape
record AtPlace (R : Shape → ℕ → Tagged → Type 0) (span : ℕ → Option Span) (i : ℕ) (w : Tagged) : Type 0 where
  shape : Shape
  fits : R shape i w
  lies : ShapeInSpan span shape i

at_place : (R : Shape → ℕ → Tagged → Type 0) (span : ℕ → Option Span) (core : List Tagged) (from i : ℕ) (w : Tagged) (xs : List Shape) → from ≤ i → i < from + length xs
    → LieDownward R core from xs → CopiesInSpans span from xs → slice_get core i ≡ Some w → AtPlace R span i w
at_place R span core from i w [] low high l c get = absurd (omega arith)
at_place R span core from i w (a ∷ more) low high l c get = ⊎_elim
    (λ (e : from + length more ≡ i).
    let same : l.0.0 ≡ w = same_Some _ _ (sym l.0.1 ∙ ap (slice_get core) e ∙ get) in
    record { shape = a; fits = subst (λ (n : ℕ). R a n w) e (subst (λ (v : Tagged). R a (from + length more) v) same l.0.2); lies = subst (λ (n : ℕ). ShapeInSpan span a n) e c.0 })
    (λ (n : from + length more ≡ i → ⊥). at_place R span core from i w more low (omega arith) l.1 c.1 get)
    (cases_eq (from + length more) i)

-- a word in no span is no present copy of the area
module _ (x : Storage) (core : List Tagged) (r : Regs) (p : MachineView) (s : Represents x core r p) (area : ℕ) (t : PagedObject) (at : IsPresent x p area t) (c : CopiesLie core p) where
  there : (home address : ℕ) (b : Bool) → b ≡ true → MatchBool b ((x.held home).area ≡ Some address) (address ≡ home) → (x.held home).area ≡ Some address
  there home address true e to = to
  there home address false e to = absurd (false≢true e)

  by_shape : (span : ℕ → Option Span) (i : ℕ) (w : Tagged) (d : DataDesc) → IsDataDesc d → w ≡ data_word d → IsCopyOfArea area d → (InSpan (span t.home) i → ⊥) → (a : Shape) → Fits x.held a i w → ShapeInSpan span a i → ⊥
  by_shape span i w d fd e copy out (Is v) f lies = f.1 (ap (λ (u : Tagged). u.tag) (sym f.0 ∙ e))
  by_shape span i w d fd e copy out (Original home) f lies = false≢true (sym f.1.own ∙ (same_desc f.1.desc d f.1.fits fd (sym f.1.is ∙ e)).copy ∙ copy.1)
  by_shape span i w d fd e copy out (Copy k home) f lies =
      let same = same_desc (copy_desc k f.number f.present f.address) d f.fits fd (sym f.is ∙ e) in
      let is : home ≡ t.home = alone x core r p s area t at nowhere home (there home f.address f.present (same.present ∙ copy.0) f.to ∙ ap Some (same.address ∙ copy.2)) in
      out (subst (λ (h : ℕ). InSpan (span h) i) is lies)

  pub no_copy_outside : (k i : ℕ) (v : Tagged) → k < p.peak → InStack p k i → (InSpan (span_of c.families p t.home k) i → ⊥) → slice_get core i ≡ Some v → (d : DataDesc) → IsDataDesc d → v ≡ data_word d → IsCopyOfArea area d → ⊥
  no_copy_outside k i v hk stack out get d fd e copy =
      let stack_of_k = stack_of (p.slots k) in
      let a = at_place (Fits x.held) (λ (home : ℕ). span_of c.families p home k) core (suc (slot_base p k)) i v (words k stack_of_k) (omega (arith, stack.0)) (omega (arith, stack.1, words-length k stack_of_k)) (s.stacks k hk) (c.lie k hk) get in
      by_shape (λ (home : ℕ). span_of c.families p home k) i v d fd e copy out a.shape a.fits a.lies

  -- so the search of the spans is one of the stacks
  pub spans_searched : (new : List Tagged) → SpansTurned p c.families p.peak area t.home core new → Searched p p.peak area t.home core new
  spans_searched new z = record {
    size = z.size;
    turned = λ k hk i stack. elim (in_or_out (span_of c.families p t.home k) i) [
      | inl inside ↦ z.turned k hk i inside
      | inr out ↦
          let get = get_within core i (omega (arith, stack_low core r x.low p k l hk, stack.1, s.inside)) in
          let none = no_copy_outside k i get.0 hk stack out get.1 in
          let apart : (j : ℕ) → j < p.peak → InSpan (span_of c.families p t.home j) i → ⊥ = λ j hj inside. other k j i hk hj stack out inside in
          (get.0, get.0, get.1, z.others i apart ∙ get.1, record { copies = λ d fd e copy. absurd (none d fd e copy); others = λ apart. refl })
    ];
    others = λ i out. z.others i (λ k hk inside. out k hk (span_inside c.families p t.home k i (c.families.kin k) inside));
  } where
    l : Lies core r x.low p
    l = lies_of x core r p s

    other : (k j i : ℕ) → k < p.peak → j < p.peak → InStack p k i → (InSpan (span_of c.families p t.home k) i → ⊥) → InSpan (span_of c.families p t.home j) i → ⊥
    other k j i hk hj stack out inside =
        let mine = span_inside c.families p t.home j i (c.families.kin j) inside in
        ⊎_elim
        (λ (e : j ≡ k). out (subst (λ (n : ℕ). InSpan (span_of c.families p t.home n) i) e inside))
        (λ (n : j ≡ k → ⊥). ⊎_elim
        (λ (up : j < k). let z : ⊥ = omega (arith, stack_before core r x.low p j k l hj up i mine, stack.0) in z)
        (λ (down : k ≤ j). let z : ⊥ = omega (arith, stack_before core r x.low p k j l hk (omega (arith, down, n)) i stack, mine.0) in z)
        (cases_lt j k))
        (cases_eq j k)
