-- An object's area is given back.
use Rattle.std.proofs.Common.{◌≡◌, ◌≢◌, ℕ, suc, ◌+◌, ◌<◌, ◌≤◌, ◌^◌, ◌==◌, List, length, Some, None, refl, sym, ◌∙◌, ap, arith, inl, inr, ⊎_elim, slice_set, subst}
use Rattle.std.specs.List.{slice_get}
use Rattle.std.proofs.lemmas.List.{length-set}
use Rattle.std.proofs.lemmas.Option.{same_Some, none-some}
use Rattle.std.proofs.lemmas.Bool.{cases_eq, cond-true, cond-false, eq-eqb, ne_eqb}
use Rattle.b67_word.specs.Tagged.{Tagged}
use Rattle.b67_core.proofs.Writes.{slice_get-set_same, slice_get-set_other}
use Rattle.b67_area.specs.declared.Info.{Info}
use Rattle.b67_area.specs.Spans.{Span, area_at, without, but}
use Rattle.b67_area.specs.Directory.{IsDirectory, OnlyHoles}
use Rattle.b67_area.proofs.Climbs.{area_at-low}
use Rattle.b67_area.proofs.Laws.{OnlyHoles-area, OnlyHoles-below}
use Rattle.b67_area.proofs.Separation.{IsDirectory-below_words, IsDirectory-set_below}
use Rattle.b67_ctl.specs.declared.registers.Regs.{Regs}
use Rattle.b67_lemmas.specs.Lists.{Has}
use Rattle.b67_stack.specs.Common.{Location, Shape, Original, IsOriginal, Fits, words, PagedObject, MachineView, stack_of, slot_base, home_word_of, Storage, StacksLie, HoldsIn, info_of, Represents, LowWordsStayed, with_held}
use Rattle.b67_stack.proofs.Heights.{words-length}
use Rattle.b67_stack.proofs.Lies.{Lie-each}
use Rattle.b67_layout.specs.Machine.{IsPresent}
use Rattle.b67_layout.proofs.Below.{stacks_low, not_heads}
use Rattle.b67_stack.proofs.Unchanged.{area_of_object, home_below, slot_below, base_low}
use Rattle.b67_stack.proofs.Reheld.{Reheld, HoldsIn-stays, storage_with, Represents-reheld}
use Rattle.b67_layout.proofs.Words.{shape_home, no_code_above, original_word}
use Rattle.b67_overlay.specs.Turns.{Hides}
use Rattle.b67_overlay.specs.Overlaid.{IsOut, dropped}

-- an area was freed
pub record Freed (low : ℕ) (at : ℕ) (ss : List Span) (core new : List Tagged) : Type 0 where
  pub directory : IsDirectory new low (without low at ss)
  pub outside : OnlyHoles core new low (without low at ss)
  pub areas : (y : ℕ) → area_at low (without low at ss) y ≡ but at y (area_at low ss y)
  pub size : length new ≡ length core

module _ (x y : Storage) (core : List Tagged) (r : Regs) (p : MachineView) (s : Represents x core r p) (area : ℕ) (t : PagedObject) (at : IsPresent x p area t) (first : ℕ) (mid : List Tagged) (hd : Hides x core mid p t (record { area = None; chain = first })) where
  abbrev n : ℕ
  n = length t.numbers

  abbrev h : Location
  h = record { area = None; chain = first }

  abbrev w : Tagged
  w = home_word_of t.kind n h

  abbrev c2 : List Tagged
  c2 = slice_set mid t.home w

  below : (160 ≤ t.home) × (t.home < x.low)
  below = home_below x core r p s t at.there

  here : area_at x.low x.spans area ≡ Some (info_of x t)
  here = area_of_object x core r p s t at.there area at.present

  -- what is to be freed
  pub directory2 : IsDirectory c2 x.low x.spans
  directory2 = IsDirectory-set_below mid x.low x.spans t.home w
      (IsDirectory-below_words core mid x.low x.spans s.directory hd.size (λ i out. hd.outside i (⊎_elim (λ (a : x.low ≤ i). inl a) (λ (b : (152 ≤ i) × (i < 160)). inr b.1) out)))
      below.1 (inr below.0)

  pub size2 : length c2 ≡ length core
  size2 = length-set mid t.home w ∙ hd.size

  -- the words below the slots
  pub below_dropped : (new : List Tagged) → Freed x.low area x.spans c2 new → LowWordsStayed p core new
  below_dropped new f i low out apart =
      OnlyHoles-below c2 new x.low (without x.low area x.spans) i f.outside (not_heads i out) (omega (arith, stacks_low x core r p s))
      ∙ slice_get-set_other mid t.home i w (λ e. apart t at.there (sym e)) ∙ hd.below i low out apart

  module _ (small : first < 2 ^ 20) (new : List Tagged) (f : Freed x.low area x.spans c2 new) where
    pub low3 : (i : ℕ) → 160 ≤ i → i < x.low → i ≢ t.home → slice_get new i ≡ slice_get mid i
    low3 i down up m = OnlyHoles-below c2 new x.low (without x.low area x.spans) i f.outside (omega arith) up ∙ slice_get-set_other mid t.home i w m

    pub here3 : slice_get new t.home ≡ Some w
    here3 = OnlyHoles-below c2 new x.low (without x.low area x.spans) t.home f.outside (omega (arith, below.0)) below.1 ∙ slice_get-set_same mid t.home w (omega (arith, below.1, hd.size, s.inside))

    pub stays3 : (b : ℕ) (i : Info) → area_at x.low x.spans b ≡ Some i → area ≢ b → area_at x.low (without x.low area x.spans) b ≡ Some i
    stays3 b i e m = f.areas b ∙ cond-false (area == b) _ _ (ne_eqb area b m) ∙ e

    pub body3 : (b : ℕ) (i : Info) → area_at x.low x.spans b ≡ Some i → area ≢ b → (q : ℕ) → b ≤ q → q < b + i.words → slice_get new q ≡ slice_get core q
    body3 b i e m q low high =
        let under = area_at-low x.low x.spans b i e in
        OnlyHoles-area c2 new x.low (without x.low area x.spans) b i q f.outside (stays3 b i e m) s.directory.above (omega arith) (omega arith)
        ∙ slice_get-set_other mid t.home q w (λ e. omega (arith, below.1)) ∙ hd.outside q (inl (omega arith))

    -- another object has another area
    pub other_area : (u : PagedObject) → Has p.objects u → u.home ≢ t.home → (b : ℕ) → (x.held u.home).area ≡ Some b → area ≢ b
    other_area u inu m b e q = m (ap (λ (i : Info). i.owner) (same_Some (info_of x u) (info_of x t) (sym (area_of_object x core r p s u inu b e) ∙ ap (area_at x.low x.spans) (sym q) ∙ here)))

    pub stacks3 : StacksLie (with_held x.held t.home h) new p
    stacks3 k hk = Lie-each (Fits x.held) (Fits (with_held x.held t.home h)) core new (suc (slot_base p k)) (words k (stack_of (p.slots k)))
        (λ a i v there low stack_words get fit. ⊎_elim
        (λ (e : i ≡ t.home).
        let is = shape_home x core r p s t at.there a i v e (omega arith) get fit in
        let o : IsOriginal w = original_word t.kind n h (no_code_above x core r p s t at.there (omega arith)) (omega (arith, (s.slots.laid.lengths t at.there).1)) small (λ b e. absurd (none-some b e)) in
        let r : (u : Tagged) × (slice_get new i ≡ Some u) × Fits (with_held x.held t.home h) (Original is.0) i u = (w, ap (slice_get new) e ∙ here3, (is.2, o)) in
        let P : Shape → Type 0 = λ b. (u : Tagged) × (slice_get new i ≡ Some u) × Fits (with_held x.held t.home h) b i u in
        subst P (sym is.1) r)
        (λ (m : i ≡ t.home → ⊥).
        let j = hd.each k i a v hk (omega arith, omega (arith, words-length k (stack_of (p.slots k)))) there get fit in
        (j.0, low3 i (omega (arith, (slot_below x core r p s k hk).0)) ((slot_below x core r p s k hk).1 i (omega arith) stack_words) m ∙ j.1, j.2))
        (cases_eq i t.home))
        (s.stacks k hk)

    -- the areas that are left
    pub area_of3 : (b : ℕ) (i : Info) → area_at x.low (without x.low area x.spans) b ≡ Some i → (area_at x.low x.spans b ≡ Some i) × ((x.held t.home).area ≢ Some b)
    area_of3 b i e = ⊎_elim
        (λ (q : area ≡ b). absurd (none-some i (sym (cond-true (area == b) _ _ (eq-eqb area b q)) ∙ sym (f.areas b) ∙ e)))
        (λ (m : area ≡ b → ⊥). (sym (cond-false (area == b) _ _ (ne_eqb area b m)) ∙ sym (f.areas b) ∙ e, λ q. m (same_Some _ _ (sym at.present ∙ q))))
        (cases_eq area b)

    pub bases3 : (k : ℕ) → k < p.peak → slice_get new (slot_base p k) ≡ slice_get core (slot_base p k)
    bases3 k hk = low3 (slot_base p k) (slot_below x core r p s k hk).0 (base_low x core r p s k hk) (λ e. s.slots.laid.not_base t at.there k hk (sym e)) ∙ hd.bases k hk

    pub word3 : (u : PagedObject) → Has p.objects u → u.home ≢ t.home → slice_get new u.home ≡ slice_get core u.home
    word3 u inu m = low3 u.home (home_below x core r p s u inu).0 (home_below x core r p s u inu).1 m ∙ hd.homes u inu

  module _ (o : IsOut x y p t first) (new : List Tagged) (f : Freed x.low area x.spans c2 new) where
    abbrev z : Storage
    z = storage_with x t.home h (without x.low area x.spans) y.shelf y.device

    low : first < 2 ^ 20
    low = o.holds.chain.small

    rests3 : HoldsIn z t first
    rests3 = HoldsIn-stays y z t first (record { chain = refl; told = λ ns q. q }) o.holds

    reheld : Reheld x core new p t h (without x.low area x.spans) y.shelf y.device
    reheld = record {
      bases = bases3 low new f;
      stacks = stacks3 low new f;
      home = here3 low new f;
      content = inl rests3;
      others = λ u inu m. record {
        word = word3 low new f u inu m;
        body = λ b e q down high. body3 low new f b (info_of x u) (area_of_object x core r p s u inu b e) (other_area low new f u inu m b e) q down high;
        chain = let c = o.others u inu m in record { chain = c.chain; told = c.told };
      };
      area_of = λ b i e. inr (area_of3 low new f b i e);
      area_here = λ b e. absurd (none-some b e);
      area_stays = λ b i e m. stays3 low new f b i e (λ q. m (at.present ∙ ap Some q));
      chains_of = o.chains;
      no_zero = o.no_zero;
      own_chain = λ u inu m some. o.own u inu m;
      directory = f.directory;
      size = f.size ∙ size2;
    }

    pub Represents-dropped : Represents (dropped x y t area first) new r p
    Represents-dropped = Represents-reheld x core new r p t h (without x.low area x.spans) y.shelf y.device at.there s reheld
