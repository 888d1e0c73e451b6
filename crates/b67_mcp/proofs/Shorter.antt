-- An array that is left only its first words.
use Rattle.std.proofs.Common.{◌≡◌, ◌≢◌, ℕ, zero, suc, ◌+◌, ◌<◌, ◌≤◌, ◌⊎◌, ◌==◌, List, [], ◌∷◌, length, map, take, Option, Some, refl, sym, ◌∙◌, ap, arith, inl, inr, ⊎_elim, subst, slice_set}
use Rattle.std.specs.List.{slice_get}
use Rattle.std.proofs.lemmas.List.{length-set, length-take-le, length-map}
use Rattle.std.proofs.lemmas.Bool.{cases_eq, cond-true, cond-false, eq-eqb, ne_eqb}
use Rattle.std.proofs.lemmas.Option.{same_Some}
use Rattle.b67_word.specs.Tagged.{Tagged, word}
use Rattle.b67_core.proofs.Writes.{slice_get-set_same, slice_get-set_other}
use Rattle.b67_area.specs.declared.Info.{Info}
use Rattle.b67_area.specs.declared.Kind.{Kind}
use Rattle.b67_area.specs.declared.Kind.TheVariants.{Array}
use Rattle.b67_area.specs.Spans.{Span, area_at, keeping, shortened, with_words, with_kept, InHole}
use Rattle.b67_area.specs.Directory.{IsDirectory}
use Rattle.b67_area.proofs.Climbs.{area_at-low}
use Rattle.b67_area.proofs.Laws.{hole-low, hole-area, areas_apart}
use Rattle.b67_area.proofs.Separation.{IsDirectory-set_below}
use Rattle.b67_backing.specs.Shelf.{Table, IsShelf}
use Rattle.b67_lemmas.specs.Lists.{Has}
use Rattle.b67_ctl.specs.declared.registers.Regs.{Regs}
use Rattle.b67_stack.specs.Common.{Location, Locations, Shape, Original, IsOriginal, Fits, LieUpward, words, PagedObject, MachineView, slot_base, stack_of, home_word_of, object_words, tag_of, Storage, Represents, StacksLie, Content, KeptChain, info_of, LowWordsStayed, with_held, TakesPlace}
use Rattle.b67_stack.proofs.Lies.{Lie-each, Upward-same}
use Rattle.b67_layout.specs.Machine.{IsPresent}
use Rattle.b67_layout.proofs.Below.{stacks_low, not_heads}
use Rattle.b67_stack.proofs.Unchanged.{area_of_object, area_bounds, home_below, base_low, slot_below}
use Rattle.b67_layout.proofs.Words.{shape_home, no_code_above, original_word}
use Rattle.b67_stack.proofs.Reheld.{storage_with, info_with}
use Rattle.b67_layout.proofs.Changed.{Changed, Represents-changed}
use Rattle.b67_mcp.specs.Lengths.{cut_to, shorter, freed_chain}
use Rattle.b67_mcp.proofs.Freeing.{of_left, no_zero_left, other_left}

upward_front : (core : List Tagged) (at g : ℕ) (ns : List ℕ) (n : ℕ) → LieUpward core at (map (word g) ns) → LieUpward core at (map (word g) (take n ns))
upward_front core at g ns zero u = tt
upward_front core at g [] (suc n) u = tt
upward_front core at g (m ∷ ns) (suc n) u = (u.0, upward_front core (at + 1) g ns n u.1)

-- words of stacks, where an object is held in the same area
same_area : (held : Locations) (home : ℕ) (h : Location) (a : Shape) (i : ℕ) (v : Tagged) → h.area ≡ (held home).area → Fits held a i v → Fits (with_held held home h) a i v
same_area held home g a i v e f = grind arith

-- an area was shrunk, and keeps no chain
pub record Shrunk (low at n : ℕ) (ss : List Span) (core new : List Tagged) : Type 0 where
  pub directory : IsDirectory new low (keeping low at 0 (shortened low at n ss))
  pub areas : (y : ℕ) → area_at low (keeping low at 0 (shortened low at n ss)) y ≡ with_kept at 0 y (with_words at n y (area_at low ss y))
  pub short : (y : ℕ) → area_at low (shortened low at n ss) y ≡ with_words at n y (area_at low ss y)
  pub outside : (i : ℕ) → i ≢ 152 → i + 1 ≢ at → i ≢ at + n → (InHole low (shortened low at n ss) i → ⊥) → slice_get new i ≡ slice_get core i
  pub size : length new ≡ length core

module _ (x : Storage) (core : List Tagged) (r : Regs) (p : MachineView) (s : Represents x core r p) (t : PagedObject) (array : t.kind ≡ Array) (at : ℕ) (here : IsPresent x p at t) (n : ℕ) (some : 1 ≤ n) (fewer : n < length t.numbers)
    (mid : List Tagged) (f : Shrunk x.low at n x.spans core mid) where
  abbrev h : Location
  h = record { area = Some at; chain = 0 }

  abbrev w : Tagged
  w = home_word_of t.kind n h

  abbrev new : List Tagged
  new = slice_set mid t.home w

  abbrev spans : List Span
  spans = keeping x.low at 0 (shortened x.low at n x.spans)

  below : (160 ≤ t.home) × (t.home < x.low)
  below = home_below x core r p s t here.there

  area : area_at x.low x.spans at ≡ Some (info_of x t)
  area = area_of_object x core r p s t here.there at here.present

  above : x.low < at
  above = area_at-low x.low x.spans at (info_of x t) area

  short_here : area_at x.low (shortened x.low at n x.spans) at ≡ Some (record { kind = t.kind; words = n; owner = t.home; kept = (x.held t.home).chain })
  short_here = f.short at ∙ ap (with_words at n at) area ∙ cond-true (at == at) _ _ (eq-eqb at at refl)

  short_other : (b : ℕ) (i : Info) → at ≢ b → area_at x.low x.spans b ≡ Some i → area_at x.low (shortened x.low at n x.spans) b ≡ Some i
  short_other b i m e = f.short b ∙ ap (with_words at n b) e ∙ cond-false (at == b) _ _ (ne_eqb at b m)

  low_same : (i : ℕ) → i ≢ 152 → i < x.low → slice_get mid i ≡ slice_get core i
  low_same i out up = f.outside i out (λ e. omega (arith, above)) (λ e. omega (arith, above)) (λ q. omega (arith, hole-low x.low (shortened x.low at n x.spans) i q))

  pub below_short : LowWordsStayed p core (slice_set mid t.home (home_word_of t.kind n (record { area = Some at; chain = 0 })))
  below_short i low out apart = slice_get-set_other mid t.home i w (λ e. apart t here.there (sym e)) ∙ low_same i (not_heads i out) (omega (arith, low, stacks_low x core r p s))

  low_new : (i : ℕ) → 160 ≤ i → i < x.low → i ≢ t.home → slice_get new i ≡ slice_get core i
  low_new i down up m = slice_get-set_other mid t.home i w m ∙ low_same i (λ e. omega arith) up

  here_new : slice_get new t.home ≡ Some w
  here_new = slice_get-set_same mid t.home w (omega (arith, below.1, f.size, s.inside))

  -- the words that are left
  own_words : (q : ℕ) → at ≤ q → q < at + n → slice_get new q ≡ slice_get core q
  own_words q down up =
      slice_get-set_other mid t.home q w (λ e. omega (arith, below.1, above))
      ∙ f.outside q (λ e. omega (arith, above, s.directory.above)) (λ e. omega arith) (λ e. omega arith) (hole-area x.low (shortened x.low at n x.spans) at (record { kind = t.kind; words = n; owner = t.home; kept = (x.held t.home).chain }) q short_here (omega arith) (omega arith))

  other_body : (b : ℕ) (i : Info) → at ≢ b → area_at x.low x.spans b ≡ Some i → (q : ℕ) → b ≤ q → q < b + i.words → slice_get new q ≡ slice_get core q
  other_body b i m e q down up =
      let under = area_at-low x.low x.spans b i e in
      let d : (b + i.words < at) ⊎ (at + length t.numbers < b) = ⊎_elim (λ (z : b ≡ at). absurd (m (sym z))) (λ d. d) (areas_apart x.low x.spans b at i (info_of x t) e area) in
      slice_get-set_other mid t.home q w (λ z. omega (arith, below.1, under))
      ∙ f.outside q (λ z. omega (arith, under, s.directory.above)) (λ z. ⊎_elim (λ l. omega (arith, l)) (λ l. omega (arith, l)) d) (λ z. ⊎_elim (λ l. omega (arith, l)) (λ l. omega (arith, l, fewer)) d)
      (hole-area x.low (shortened x.low at n x.spans) b i q (short_other b i m e) (omega arith) (omega arith))

  other_at : (u : PagedObject) → Has p.objects u → u.home ≢ t.home → (b : ℕ) → (x.held u.home).area ≡ Some b → at ≢ b
  other_at u inu m b e q = m (ap (λ (i : Info). i.owner) (same_Some (info_of x u) (info_of x t) (sym (area_of_object x core r p s u inu b e) ∙ ap (area_at x.low x.spans) (sym q) ∙ area)))

  stacks : StacksLie (with_held x.held t.home h) new p
  stacks k hk = Lie-each (Fits x.held) (Fits (with_held x.held t.home h)) core new (suc (slot_base p k)) (words k (stack_of (p.slots k)))
      (λ a i v there low high get fit. ⊎_elim
      (λ (e : i ≡ t.home).
      let is = shape_home x core r p s t here.there a i v e (omega arith) get fit in
      let o : IsOriginal w = original_word t.kind n h (no_code_above x core r p s t here.there (omega arith)) (omega (arith, fewer, (s.slots.laid.lengths t here.there).1)) (omega arith) (λ b e. let g = area_bounds x core r p s t here.there at here.present in omega (arith, g.1, s.directory.small, same_Some at b e)) in
      let q : (u : Tagged) × (slice_get new i ≡ Some u) × Fits (with_held x.held t.home h) (Original is.0) i u = (w, ap (slice_get new) e ∙ here_new, (is.2, o)) in
      let P : Shape → Type 0 = λ b. (u : Tagged) × (slice_get new i ≡ Some u) × Fits (with_held x.held t.home h) b i u in
      subst P (sym is.1) q)
      (λ (m : i ≡ t.home → ⊥). (v, low_new i (omega (arith, (slot_below x core r p s k hk).0)) ((slot_below x core r p s k hk).1 i (omega arith) high) m ∙ get, same_area x.held t.home h a i v (sym here.present) fit))
      (cases_eq i t.home))
      (s.stacks k hk)

  -- which areas there are
  now_here : area_at x.low spans at ≡ Some (record { kind = t.kind; words = n; owner = t.home; kept = 0 })
  now_here = f.areas at ∙ ap (λ o. with_kept at 0 at (with_words at n at o)) area ∙ ap (with_kept at 0 at) (cond-true (at == at) _ _ (eq-eqb at at refl)) ∙ cond-true (at == at) _ _ (eq-eqb at at refl)

  now_other : (b : ℕ) → at ≢ b → area_at x.low spans b ≡ area_at x.low x.spans b
  now_other b m = grind arith

  long : length (take n t.numbers) ≡ n
  long = length-take-le n t.numbers (omega (arith, fewer))

  info_now : ◌≡◌ {A = Info} (record { kind = t.kind; words = n; owner = t.home; kept = 0 }) (info_with (cut_to n t) h)
  info_now = ap (λ (m : ℕ). let a : Info = record { kind = t.kind; words = m; owner = t.home; kept = 0 } in a) (sym long)

  content : (y : Storage) → Content y new (cut_to n t) (Some at) 0
  content y =
      let C : Option ℕ → Type 0 = λ o. Content x core t o (x.held t.home).chain in
      let was = subst C here.present (s.objects t here.there).content in
      let K : Kind → Type 0 = λ k. KeptChain y (cut_to n t) k 0 in
      (Upward-same core new at (object_words (cut_to n t)) (λ q down up. own_words q down (omega (arith, up, length-map (take n t.numbers) (word (tag_of t.kind)), long))) (upward_front core at (tag_of t.kind) t.numbers n was.0), subst K (sym array) (inl refl))

  module _ (table : Table) (sh : IsShelf table x.shelf) (objects : List PagedObject) (re : TakesPlace p.objects objects t (cut_to n t)) where
    changed : Changed x core new p t (cut_to n t) h spans (freed_chain (x.held t.home).chain x.shelf) x.device
    changed = record {
      bases = λ k hk. low_new (slot_base p k) (slot_below x core r p s k hk).0 (base_low x core r p s k hk) (λ e. s.slots.laid.not_base t here.there k hk (sym e));
      stacks = stacks;
      home = here_new ∙ ap (λ (m : ℕ). Some (home_word_of t.kind m h)) (sym long);
      content = content (storage_with x t.home h spans (freed_chain (x.held t.home).chain x.shelf) x.device);
      others = λ u inu m. record {
        word = low_new u.home (home_below x core r p s u inu).0 (home_below x core r p s u inu).1 m;
        body = λ b e q down high. other_body b (info_of x u) (other_at u inu m b e) (area_of_object x core r p s u inu b e) q down high;
        chain = other_left x core r p s t here.there table sh (storage_with x t.home h spans (freed_chain (x.held t.home).chain x.shelf) x.device) refl refl u inu m;
      };
      area_of = λ b i e. ⊎_elim
          (λ (q : at ≡ b). inl (ap Some q, same_Some _ _ (sym e ∙ ap (area_at x.low spans) (sym q) ∙ now_here) ∙ info_now))
          (λ (m : at ≡ b → ⊥). inr (sym (now_other b m) ∙ e, λ q. m (same_Some _ _ (sym here.present ∙ q))))
          (cases_eq at b);
      area_here = λ b e. ap (area_at x.low spans) (sym (same_Some at b e)) ∙ now_here ∙ ap Some info_now;
      area_stays = λ b i e m. now_other b (λ q. m (here.present ∙ ap Some q)) ∙ e;
      chains_of = λ g has. inr (of_left x core r p s t here.there table sh g has);
      no_zero = no_zero_left x core r p s t here.there table sh;
      own_chain = λ u inu m has. absurd (omega (arith, has));
      directory = IsDirectory-set_below mid x.low spans t.home w f.directory below.1 (inr below.0);
      size = length-set mid t.home w ∙ f.size;
    }

    pub made_shorter : Represents (shorter x t at n) (slice_set mid t.home (home_word_of t.kind n (record { area = Some at; chain = 0 }))) r (record p { objects = objects })
    made_shorter = Represents-changed x core new r p objects t (cut_to n t) h spans (freed_chain (x.held t.home).chain x.shelf) x.device here.there s re changed
