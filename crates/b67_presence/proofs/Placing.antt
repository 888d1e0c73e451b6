-- An absent object is placed, its words come into the area, and its descriptor is written.
use Rattle.std.proofs.Common.{◌≡◌, ◌≢◌, ℕ, ◌+◌, ◌<◌, ◌≤◌, ◌==◌, List, length, Option, Some, None, refl, sym, ◌∙◌, ap, arith, inl, inr, ◌⊎◌, ⊎_elim, slice_set, subst}
use Rattle.std.specs.List.{slice_get}
use Rattle.std.proofs.lemmas.List.{length-map, length-set}
use Rattle.std.proofs.lemmas.Option.{same_Some, none-some}
use Rattle.std.proofs.lemmas.Bool.{cases_eq, cases_lt, cond-true, cond-false, eq-eqb, ne_eqb}
use Rattle.b67_word.specs.Tagged.{Tagged, word}
use Rattle.b67_core.proofs.Writes.{slice_get-set_same, slice_get-set_other}
use Rattle.b67_area.specs.declared.Info.{Info}
use Rattle.b67_area.specs.declared.Kind.{Kind}
use Rattle.b67_area.specs.declared.Kind.TheVariants.{Array, Row, Code}
use Rattle.b67_area.specs.Spans.{Span, area_at, InHole, fresh, fill, keeping, without, spot, address, over, with_kept}
use Rattle.b67_area.specs.Directory.{IsDirectory, OnlyHoles}
use Rattle.b67_area.proofs.Climbs.{area_at-low}
use Rattle.b67_area.proofs.Laws.{area_inside, hole-area, OnlyHoles-area, OnlyHoles-below}
use Rattle.b67_area.proofs.Separation.{IsDirectory-area_words, IsDirectory-set_below}
use Rattle.b67_ctl.specs.declared.registers.Regs.{Regs}
use Rattle.b67_backing.specs.Held.{OnlyWords}
use Rattle.b67_stack.specs.Common.{Location, LieUpward, PagedObject, MachineView, slot_base, home_word_of, object_words, tag_of, AreZero, Storage, Content, KeptChain, AbsentContent, HoldsIn, info_of, Represents, LowWordsStayed, ChainStays}
use Rattle.b67_stack.proofs.Lies.{Upward-same}
use Rattle.b67_layout.specs.Machine.{IsAbsent}
use Rattle.b67_layout.proofs.Below.{stacks_low, not_heads}
use Rattle.b67_stack.proofs.Unchanged.{area_of_object, home_below, slot_below, base_low, Represents-core}
use Rattle.b67_stack.proofs.Reheld.{Reheld, Keeps-stays, storage_with, info_with, Represents-reheld}
use Rattle.b67_layout.proofs.Words.{StacksLie-home, original_word}
use Rattle.b67_layout.proofs.Holes.{without_fill, place_spot}
use Rattle.b67_presence.specs.declared.paging.AbsentObject.{AbsentObject}
use Rattle.b67_presence.specs.Brought.{brought, resting}
use Rattle.b67_presence.proofs.Descriptors.{rest_here}

-- an area was placed
pub record Placed (low : ℕ) (ss : List Span) (core new : List Tagged) (home at : ℕ) (object : AbsentObject) : Type 0 where
  pub row : (Some at ≡ address (spot (object.words + 2) low ss)) × IsDirectory new low (fill (fresh object.kind object.words home) ss)
  pub outside : OnlyHoles core new low ss
  pub areas : (y : ℕ) → area_at low (fill (fresh object.kind object.words home) ss) y ≡ over (Some at) (fresh object.kind object.words home) y (area_at low ss y)
  pub taken : (i : ℕ) → at ≤ i + 1 → i ≤ at + object.words → InHole low ss i
  pub size : length new ≡ length core

-- an area keeps a sector
pub record Kept (low : ℕ) (ss : List Span) (core new : List Tagged) (at n first : ℕ) : Type 0 where
  pub directory : IsDirectory new low (keeping low at first ss)
  pub outside : (i : ℕ) → i ≢ at + n → slice_get new i ≡ slice_get core i
  pub areas : (y : ℕ) → area_at low (keeping low at first ss) y ≡ with_kept at first y (area_at low ss y)
  pub size : length new ≡ length core

-- an area was freed
pub record Freed (low : ℕ) (ss : List Span) (core new : List Tagged) : Type 0 where
  pub directory : IsDirectory new low ss
  pub outside : OnlyHoles core new low ss
  pub size : length new ≡ length core

module _ (x : Storage) (core : List Tagged) (r : Regs) (p : MachineView) (home : ℕ) (t : PagedObject) (s : Represents x core r p) (a : IsAbsent x p home t) (at : ℕ) (c1 : List Tagged) (pl : Placed x.low x.spans core c1 home at (resting x t)) where
  abbrev n : ℕ
  n = length t.numbers

  abbrev first : ℕ
  first = (x.held t.home).chain

  abbrev made : Info
  made = fresh t.kind (length t.numbers) home

  abbrev filled : List Span
  filled = fill made x.spans

  none : (x.held t.home).area ≡ None
  none = ap (λ q. (x.held q).area) a.is ∙ a.absent

  pub area_here : area_at x.low filled at ≡ Some made
  area_here = pl.areas at ∙ cond-true (at == at) _ _ (eq-eqb at at refl)

  pub bounds : (x.low < at) × (at + n < length core)
  bounds = let b = area_inside c1 x.low filled at made pl.row.1 area_here in (b.0, omega (arith, b.1, pl.size))

  -- the words of the new area, its head and its tail were in a hole
  apart : (b : ℕ) (i : Info) → area_at x.low x.spans b ≡ Some i → (q : ℕ) → b ≤ q + 1 → q ≤ b + i.words → (q + 1 < at) ⊎ (at + n < q)
  apart b i e q low high = ⊎_elim
      (λ (l : q + 1 < at). inl l)
      (λ (l : at ≤ q + 1). ⊎_elim
      (λ (m : at + n < q). inr m)
      (λ (m : q ≤ at + n). absurd (hole-area x.low x.spans b i q e low high (pl.taken q l m)))
      (cases_lt (at + n) q))
      (cases_lt (q + 1) at)

  module _ (c2 : List Tagged) (fl : OnlyWords at n c1 c2) where
    pub directory2 : IsDirectory c2 x.low filled
    directory2 = IsDirectory-area_words c1 c2 x.low filled at made pl.row.1 area_here fl.len fl.outside

    size2 : length c2 ≡ length core
    size2 = fl.len ∙ pl.size

    low2 : (i : ℕ) → 160 ≤ i → i < x.low → slice_get c2 i ≡ slice_get core i
    low2 i down up = fl.outside i (inl (omega (arith, bounds.0))) ∙ OnlyHoles-below core c1 x.low x.spans i pl.outside (omega arith) up

    body2 : (b : ℕ) (i : Info) → area_at x.low x.spans b ≡ Some i → (q : ℕ) → b ≤ q → q < b + i.words → slice_get c2 q ≡ slice_get core q
    body2 b i e q low high =
        fl.outside q (⊎_elim (λ (l : q + 1 < at). inl (omega arith)) (λ (l : at + n < q). inr (omega arith)) (apart b i e q (omega arith) (omega arith)))
        ∙ OnlyHoles-area core c1 x.low x.spans b i q pl.outside e s.directory.above (omega arith) (omega arith)

    -- the words below the slots
    pub below2 : LowWordsStayed p core c2
    below2 i low out apart = fl.outside i (inl (omega (arith, bounds.0, stacks_low x core r p s))) ∙ OnlyHoles-below core c1 x.low x.spans i pl.outside (not_heads i out) (omega (arith, stacks_low x core r p s))

    pub below_back : (c3 : List Tagged) → Freed x.low x.spans c2 c3 → LowWordsStayed p core c3
    below_back c3 f i low out apart = OnlyHoles-below c2 c3 x.low x.spans i f.outside (not_heads i out) (omega (arith, stacks_low x core r p s)) ∙ below2 i low out apart

    pub below_in : (c3 : List Tagged) → Kept x.low filled c2 c3 at n first → (v : Tagged) → LowWordsStayed p core (slice_set c3 home v)
    below_in c3 kp v i low out apart =
        slice_get-set_other c3 home i v (λ e. apart t a.there (a.is ∙ sym e)) ∙ kp.outside i (λ e. omega (arith, bounds.0, stacks_low x core r p s)) ∙ below2 i low out apart

    pub without_here : without x.low at filled ≡ x.spans
    without_here =
        let o = place_spot (n + 2) x.low x.spans at pl.row.0 in
        ap (λ (q : ℕ). without x.low q filled) o.2 ∙ without_fill made x.low x.spans o.0 o.1 s.directory.spans

    -- the area is given back
    pub given_back : (c3 : List Tagged) → Freed x.low x.spans c2 c3 → Represents x c3 r p
    given_back c3 f = Represents-core x core r p s c3 (f.size ∙ size2) f.directory
        (λ i down up. OnlyHoles-below c2 c3 x.low x.spans i f.outside (omega arith) up ∙ low2 i down up)
        (λ b i e q low high. OnlyHoles-area c2 c3 x.low x.spans b i q f.outside e s.directory.above (omega arith) (omega arith) ∙ body2 b i e q low high)

    module _ (c3 : List Tagged) (kp : Kept x.low filled c2 c3 at n first) where
      abbrev h : Location
      h = record { area = Some at; chain = first }

      abbrev w : Tagged
      w = home_word_of t.kind n h

      abbrev c4 : List Tagged
      c4 = slice_set c3 home w

      abbrev spans : List Span
      spans = keeping x.low at first filled

      below : (160 ≤ home) × (home < x.low)
      below = let b = home_below x core r p s t a.there in (omega (arith, b.0, a.is), omega (arith, b.1, a.is))

      size4 : length c4 ≡ length core
      size4 = length-set c3 home w ∙ kp.size ∙ size2

      low4 : (i : ℕ) → 160 ≤ i → i < x.low → i ≢ t.home → slice_get c4 i ≡ slice_get core i
      low4 i down up m = slice_get-set_other c3 home i w (λ e. m (e ∙ sym a.is)) ∙ kp.outside i (λ e. omega (arith, bounds.0)) ∙ low2 i down up

      body4 : (b : ℕ) (i : Info) → area_at x.low x.spans b ≡ Some i → (q : ℕ) → b ≤ q → q < b + i.words → slice_get c4 q ≡ slice_get core q
      body4 b i e q low high =
          slice_get-set_other c3 home q w (λ z. omega (arith, below.1, area_at-low x.low x.spans b i e))
          ∙ kp.outside q (λ z. ⊎_elim (λ (l : q + 1 < at). let f : ⊥ = omega arith in f) (λ (l : at + n < q). let f : ⊥ = omega arith in f) (apart b i e q (omega arith) (omega arith)))
          ∙ body2 b i e q low high

      here4 : slice_get c4 t.home ≡ Some w
      here4 = ap (slice_get c4) a.is ∙ slice_get-set_same c3 home w (omega (arith, below.1, bounds, kp.size, size2))

      areas4 : (y : ℕ) → area_at x.low spans y ≡ with_kept at first y (over (Some at) made y (area_at x.low x.spans y))
      areas4 y = kp.areas y ∙ ap (with_kept at first y) (pl.areas y)

      the_info : ◌≡◌ {A = Info} (record made { kept = first }) (info_with t h)
      the_info = ap (λ (q : ℕ). let i : Info = record { kind = t.kind; words = length t.numbers; owner = q; kept = first } in i) (sym a.is)

      area_new : (y : ℕ) → at ≡ y → area_at x.low spans y ≡ Some (info_with t h)
      area_new y e = areas4 y ∙ ap (with_kept at first y) (cond-true (at == y) _ _ (eq-eqb at y e)) ∙ cond-true (at == y) _ _ (eq-eqb at y e) ∙ ap Some the_info

      with_other : (y : ℕ) (o : Option Info) → at ≢ y → with_kept at first y o ≡ o
      with_other y None m = refl
      with_other y (Some i) m = cond-false (at == y) _ _ (ne_eqb at y m)

      area_old : (y : ℕ) → at ≢ y → area_at x.low spans y ≡ area_at x.low x.spans y
      area_old y m = areas4 y ∙ with_other y (over (Some at) made y (area_at x.low x.spans y)) m ∙ cond-false (at == y) _ _ (ne_eqb at y m)

      -- no area was there
      nothing : (i : Info) → area_at x.low x.spans at ≡ Some i → ⊥
      nothing i e = ⊎_elim (λ (l : at + 1 < at). let f : ⊥ = omega arith in f) (λ (l : at + n < at). let f : ⊥ = omega arith in f) (apart at i e at (omega arith) (omega arith))

      resting_content : AbsentContent x t first
      resting_content = let C : Option ℕ → Type 0 = λ o. Content x core t o first in subst C none (s.objects t a.there).content

      row_no_array : (k : Kind) → k ≢ Array → AbsentContent x t first → t.kind ≡ k → HoldsIn x t first
      row_no_array k m (inl q) e = q
      row_no_array k m (inr z) e = absurd (m (sym e ∙ z.1))

      keeps : (k : Kind) → t.kind ≡ k → KeptChain x t k first
      keeps Array e = ⊎_elim (λ (q : HoldsIn x t first). inr q.chain) (λ (z : (first ≡ 0) × (t.kind ≡ Array) × AreZero t.numbers). inl z.0) resting_content
      keeps Row e = row_no_array Row (λ z. let b : ⊥ = cc in b) resting_content e
      keeps Code e = row_no_array Code (λ z. let b : ⊥ = cc in b) resting_content e

      stays : (q : ℕ) → ChainStays x (storage_with x t.home h spans x.shelf x.device) q
      stays q = record { chain = refl; told = λ ns k. k }

      pub reheld : LieUpward c2 at (object_words t) → Reheld x core c4 p t h spans x.shelf x.device
      reheld up = record {
        bases = λ k hk. low4 (slot_base p k) (slot_below x core r p s k hk).0 (base_low x core r p s k hk) (λ e. s.slots.laid.not_base t a.there k hk (sym e));
        stacks = StacksLie-home x core r p s t a.there c4 h w none low4 here4
            (λ no_code. original_word t.kind n h no_code (omega (arith, (s.slots.laid.lengths t a.there).1)) (rest_here x core r p home t s a).small (λ b e. omega (arith, same_Some _ _ e, bounds.1, s.directory.small)));
        home = here4;
        content = (up4, Keeps-stays x (storage_with x t.home h spans x.shelf x.device) t first (stays first) t.kind (keeps t.kind refl));
        others = λ u inu m. record {
          word = low4 u.home (home_below x core r p s u inu).0 (home_below x core r p s u inu).1 m;
          body = λ b e q low high. body4 b (info_of x u) (area_of_object x core r p s u inu b e) q low high;
          chain = stays (x.held u.home).chain;
        };
        area_of = λ y i e. ⊎_elim
            (λ (z : at ≡ y). inl (ap Some z, same_Some _ _ (sym e ∙ area_new y z)))
            (λ (m : at ≡ y → ⊥). inr (sym (area_old y m) ∙ e, λ q. none-some y (sym none ∙ q)))
            (cases_eq at y);
        area_here = λ y e. area_new y (same_Some _ _ e);
        area_stays = λ y i e m. area_old y (λ z. nothing i (ap (area_at x.low x.spans) z ∙ e)) ∙ e;
        chains_of = λ q some. ⊎_elim (λ (e : q ≡ first). inl e) (λ (m : q ≡ first → ⊥). inr (some, m)) (cases_eq q first);
        no_zero = s.owned.no_zero;
        own_chain = λ u inu m some e. m (s.owned.one_chain u t inu a.there (omega (arith, e)) e);
        directory = IsDirectory-set_below c3 x.low spans home w kp.directory below.1 (inr below.0);
        size = size4;
      } where
        up4 : LieUpward c4 at (object_words t)
        up4 = Upward-same c2 c4 at (object_words t) (λ q low high. slice_get-set_other c3 home q w (λ e. omega (arith, below.1, bounds.0)) ∙ kp.outside q (λ e. omega (arith, length-map t.numbers (word (tag_of t.kind))))) up

      -- the view stands, with that object in the area
      pub brought_in : LieUpward c2 at (object_words t) → Represents (brought x t at) c4 r p
      brought_in up =
          let d = Represents-reheld x core c4 r p t h spans x.shelf x.device a.there s (reheld up) in
          grind arith
