-- The words of core after the copies of an area were hidden.
use Rattle.std.proofs.Common.{◌≡◌, ◌≢◌, ℕ, zero, suc, ◌+◌, ◌<◌, ◌≤◌, ◌^◌, List, Some, refl, sym, ◌∙◌, ap, arith, inl, inr, ◌⊎◌, ⊎_elim, Bool, true, false, subst}
use Rattle.std.specs.Prelude.{MatchBool}
use Rattle.std.specs.List.{slice_get}
use Rattle.std.proofs.lemmas.Bool.{cases_eq, cases_lt, false≢true}
use Rattle.std.proofs.lemmas.Option.{same_Some}
use Rattle.b67_word.specs.Tagged.{Tagged}
use Rattle.b67_area.specs.declared.Info.{Info}
use Rattle.b67_area.specs.declared.Kind.{Kind}
use Rattle.b67_area.specs.declared.Kind.TheVariants.{Array, Row, Code}
use Rattle.b67_ctl.specs.declared.descriptors.DataDesc.{DataDesc}
use Rattle.b67_ctl.specs.declared.registers.Regs.{Regs}
use Rattle.b67_ctl.specs.Descriptors.{data_word, IsDataDesc}
use Rattle.b67_lemmas.specs.Lists.{Has}
use Rattle.b67_stack.specs.Common.{Location, Locations, Copied, Shape, Is, Original, Copy, IsOriginal, IsCopy, Fits, copy_desc, stack_words, words, PagedObject, MachineView, Slot, Free, Running, Waiting, SlotFits, stack_of, slot_base, home_word, IsArrayAt, Storage, Represents, info_of, with_held}
use Rattle.b67_stack.proofs.Homes.{same_desc}
use Rattle.b67_stack.proofs.Bases.{base-apart}
use Rattle.b67_layout.specs.Machine.{IsPresent}
use Rattle.b67_stack.proofs.Helds.{held-other}
use Rattle.b67_layout.proofs.Words.{original_of_home}
use Rattle.b67_stack.proofs.Unchanged.{area_of_object, home_below}
use Rattle.b67_overlay.specs.Turns.{MakesAbsent, InStack, Searched, Lies, Hides}
use Rattle.b67_overlay.proofs.Turning.{lies_of, stack_low, stack_before}

-- a place is in some stack, or in none
in_some : (p : MachineView) (n i : ℕ) → ((k : ℕ) × (k < n) × InStack p k i) ⊎ ((k : ℕ) → k < n → InStack p k i → ⊥)
in_some p zero i = inr (λ k low. absurd (omega arith))
in_some p (suc n) i = ⊎_elim
    (λ (s : (k : ℕ) × (k < n) × InStack p k i). inl (s.0, omega (arith, s.1), s.2))
    (λ (none : (k : ℕ) → k < n → InStack p k i → ⊥).
    let not_here : (InStack p n i → ⊥) → (k : ℕ) → k < suc n → InStack p k i → ⊥ = λ away k low at. ⊎_elim
    (λ (e : k ≡ n). away (rw e at at))
    (λ (m : k ≡ n → ⊥). none k (omega arith) at)
    (cases_eq k n) in
    ⊎_elim
    (λ (a : slot_base p n < i). ⊎_elim
    (λ (b : slot_base p n + stack_words (stack_of (p.slots n)) < i). inr (not_here (λ at. let z : ⊥ = omega (arith, at.1) in z)))
    (λ (b : i ≤ slot_base p n + stack_words (stack_of (p.slots n))). inl (n, omega arith, (a, b)))
    (cases_lt (slot_base p n + stack_words (stack_of (p.slots n))) i))
    (λ (a : i ≤ slot_base p n). inr (not_here (λ at. let z : ⊥ = omega (arith, at.0) in z)))
    (cases_lt (slot_base p n) i))
    (in_some p n i)

-- a word that is no copy stays
word-stays : (p : MachineView) (n area home : ℕ) (old new : List Tagged) (i : ℕ) (v : Tagged) → Searched p n area home old new → slice_get old i ≡ Some v
    → ((d : DataDesc) → IsDataDesc d → v ≡ data_word d → d.copy ≡ true → ⊥) → slice_get new i ≡ slice_get old i
word-stays p n area home old new i v s get uncopied = ⊎_elim
    (λ (m : (k : ℕ) × (k < n) × InStack p k i).
    let r = s.turned m.0 m.1 i m.2 in
    let same : r.0 ≡ v = same_Some _ _ (sym r.2 ∙ get) in
    r.3 ∙ ap Some (r.4.others (λ d fd e c. uncopied d fd (sym same ∙ e) c.1)) ∙ sym r.2)
    (λ (out : (k : ℕ) → k < n → InStack p k i → ⊥). s.others i out)
    (in_some p n i)

tag_is : (d : DataDesc) (v : Tagged) → v ≡ data_word d → v.tag ≡ 5
tag_is d v e = ap (λ (w : Tagged). w.tag) e

module _ (held : Locations) (area home : ℕ) (h : Location) (has : (held home).area ≡ Some area) (alone : (q : ℕ) → (held q).area ≡ Some area → q ≡ home) (small : home < 2 ^ 20) where
  copy_turned : (v w : Tagged) → MakesAbsent area home v w → (c : Copied) (q : ℕ) → IsCopy held c q v → IsCopy (with_held held home h) c q w
  copy_turned v w t c q k = by k.present k.fits k.is k.to where
    by : (b : Bool) → IsDataDesc (copy_desc c k.number b k.address) → v ≡ data_word (copy_desc c k.number b k.address) → MatchBool b ((held q).area ≡ Some k.address) (k.address ≡ q) → IsCopy (with_held held home h) c q w
    by false fits is to = record {
      number = k.number;
      numbered = k.numbered;
      present = false;
      address = k.address;
      fits = fits;
      to = to;
      is = t.others (λ d fd e s. false≢true ((same_desc (copy_desc c k.number false k.address) d fits fd (sym is ∙ e)).present ∙ s.0)) ∙ is;
    }
    by true fits is to = ⊎_elim
        (λ (e : k.address ≡ area).
        let is_home : q ≡ home = alone q (to ∙ ap Some e) in
        let w_is : w ≡ data_word (copy_desc c k.number false home) = t.copies (copy_desc c k.number true k.address) fits is (refl, refl, e) in
        let r : IsCopy (with_held held home h) c q w = record { number = k.number; numbered = k.numbered; present = false; address = home; fits = record { words = fits.words; address = small; indexed = λ z. refl }; is = w_is; to = sym is_home } in
        r)
        (λ (n : k.address ≡ area → ⊥).
        let other : q ≢ home = λ e. n (same_Some _ _ (sym to ∙ ap (λ (x : ℕ). (held x).area) e ∙ has)) in
        let r : IsCopy (with_held held home h) c q w = record {
          number = k.number;
          numbered = k.numbered;
          present = true;
          address = k.address;
          fits = fits;
          is = t.others (λ d fd e s. n ((same_desc (copy_desc c k.number true k.address) d fits fd (sym is ∙ e)).address ∙ s.2)) ∙ is;
          to = ap (λ (x : Location). x.area) (held-other held home h q other) ∙ to;
        } in
        r)
        (cases_eq k.address area)

  fits_turned : (v w : Tagged) → MakesAbsent area home v w → (a : Shape) (i : ℕ) → Fits held a i v → Fits (with_held held home h) a i w
  fits_turned v w t (Is u) i f =
      let same : w ≡ v = t.others (λ d fd e s. f.1 (ap (λ (x : Tagged). x.tag) (sym f.0) ∙ tag_is d v e)) in
      (same ∙ f.0, f.1)
  fits_turned v w t (Original q) i f =
      let same : w ≡ v = t.others (λ d fd e s. false≢true (sym f.1.own ∙ (same_desc f.1.desc d f.1.fits fd (sym f.1.is ∙ e)).copy ∙ s.1)) in
      let O : Tagged → Type 0 = λ u. IsOriginal u in
      (f.0, subst O (sym same) f.1)
  fits_turned v w t (Copy c q) i f = copy_turned v w t c q f

module _ (x : Storage) (core : List Tagged) (r : Regs) (p : MachineView) (s : Represents x core r p) (area : ℕ) (t : PagedObject) (at : IsPresent x p area t) (h : Location) where
  pub alone : (q : ℕ) → (x.held q).area ≡ Some area → q ≡ t.home
  alone q e =
      let o = s.owned.of_held q area e in
      let i : info_of x o.0 ≡ info_of x t = same_Some _ _ (sym o.3 ∙ area_of_object x core r p s t at.there area at.present) in
      sym o.2 ∙ ap (λ (a : Info). a.owner) i

  -- a descriptor's word is that of no copy
  no_copy : (u : PagedObject) → Has p.objects u → (d : DataDesc) → IsDataDesc d → home_word u (x.held u.home) ≡ data_word d → d.copy ≡ true → ⊥
  no_copy u inu d fd e c = by (code_or u.kind) where
    code_or : (k : Kind) → (k ≡ Code) ⊎ (k ≢ Code)
    code_or Array = inr (λ z. let b : ⊥ = cc in b)
    code_or Row = inr (λ z. let b : ⊥ = cc in b)
    code_or Code = inl refl

    code_tag : (k : Kind) → k ≡ Code → (home_word (record { home = u.home; kind = k; numbers = u.numbers }) (x.held u.home)).tag ≡ 3
    code_tag Array z = absurd (let b : ⊥ = cc in b)
    code_tag Row z = absurd (let b : ⊥ = cc in b)
    code_tag Code z = refl

    by : (u.kind ≡ Code) ⊎ (u.kind ≢ Code) → ⊥
    by (inl z) = let b : ◌≡◌ {A = ℕ} 3 5 = sym (code_tag u.kind z) ∙ tag_is d (home_word u (x.held u.home)) e in absurd (omega arith)
    by (inr n) =
        let o = original_of_home x core r p s u inu n in
        false≢true (sym o.own ∙ (same_desc o.desc d o.fits fd (sym o.is ∙ e)).copy ∙ c)

  pub hidden_data : (mid : List Tagged) → Searched p p.peak area t.home core mid → Hides x core mid p t h
  hidden_data mid q = record {
    size = q.size;
    each = λ k i a v hk there has get f.
        let z = q.turned k hk i there in
        let same : z.0 ≡ v = same_Some _ _ (sym z.2 ∙ get) in
        let P : Tagged → Type 0 = λ u. MakesAbsent area t.home u z.1 in
        (z.1, z.3, fits_turned x.held area t.home h at.present alone (omega (arith, (home_below x core r p s t at.there).1, s.inside, s.directory.small)) v z.1 (subst P same z.4) a i f);
    homes = λ u inu. word-stays p p.peak area t.home core mid u.home (home_word u (x.held u.home)) q (s.objects u inu).home (no_copy u inu);
    bases = λ k hk. q.others (slot_base p k) (λ n hn there. ⊎_elim
        (λ (a : n < k). let z : ⊥ = omega (arith, stack_before core r x.low p n k l hn a (slot_base p k) there) in z)
        (λ (a : k ≤ n). ⊎_elim
        (λ (e : k ≡ n). let there' : InStack p n (slot_base p n) = rw e at there in let z : ⊥ = omega (arith, there'.0) in z)
        (λ (b : k ≡ n → ⊥). let z : ⊥ = omega (arith, base-apart p k n (omega arith), there.0) in z)
        (cases_eq k n))
        (cases_lt n k));
    outside = λ i out. q.others i (λ k hk there. ⊎_elim
        (λ (a : x.low ≤ i). let z : ⊥ = omega (arith, stack_low core r x.low p k l hk, there.1) in z)
        (λ (a : i < 160). let z : ⊥ = omega (arith, there.0, s.slots.laid.first) in z)
        out);
    below = λ i low out apart. q.others i (λ k hk there. let z : ⊥ = omega (arith, there.0) in z);
  } where
    l : Lies core r x.low p
    l = lies_of x core r p s

  -- no copy is of a segment
  pub hidden_code : t.kind ≡ Code → Hides x core core p t h
  hidden_code code = record {
    size = refl;
    each = λ k i a v hk there has get f. (v, get, fits k hk a i v has f);
    homes = λ u inu. refl;
    bases = λ k hk. refl;
    outside = λ i out. refl;
    below = λ i low out apart. refl;
  } where
    names : (k : ℕ) (y : Slot) → SlotFits p k y → (c : Copied) (q : ℕ) → Has (words k (stack_of y)) (Copy c q) → IsArrayAt p.objects q
    names k Free f c q there = absurd there
    names k (Running stack) f c q there = f.1 c q there
    names k (Waiting stack) f c q there = f.1 c q there

    fits : (k : ℕ) → k < p.peak → (a : Shape) (i : ℕ) (v : Tagged) → Has (words k (stack_of (p.slots k))) a → Fits x.held a i v → Fits (with_held x.held t.home h) a i v
    fits k hk (Is u) i v there f = f
    fits k hk (Original q) i v there f = f
    fits k hk (Copy c q) i v there f =
        let u = names k (p.slots k) (s.slots.laid.slots k hk) c q there in
        let n : q ≢ t.home = λ e. u.3 (ap (λ (z : PagedObject). z.kind) (s.slots.laid.differ u.0 t u.1 at.there (u.2 ∙ e)) ∙ code) in
        let P : Location → Type 0 = λ g. MatchBool f.present (g.area ≡ Some f.address) (f.address ≡ q) in
        record { number = f.number; numbered = f.numbered; present = f.present; address = f.address; fits = f.fits; is = f.is; to = subst P (sym (held-other x.held t.home h q n)) f.to }
