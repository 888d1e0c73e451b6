-- Core was changed where no view looks; and what any storage tells of areas and homes.
use Rattle.std.proofs.Common.{◌≡◌, ◌≢◌, ℕ, suc, ◌+◌, ◌<◌, ◌≤◌, List, [], ◌∷◌, length, Some, refl, sym, ◌∙◌, ap, arith, inl, inr, ◌⊎◌, ⊎_elim}
use Rattle.std.specs.List.{slice_get}
use Rattle.std.proofs.lemmas.Bool.{cases_eq}
use Rattle.std.proofs.lemmas.Option.{same_Some, slice_get_within}
use Rattle.b67_word.specs.Tagged.{Tagged, word}
use Rattle.b67_area.specs.declared.Info.{Info}
use Rattle.b67_area.specs.Spans.{Span, Area, Hole, area_at, end}
use Rattle.b67_area.specs.Words.{hole_high}
use Rattle.b67_area.specs.Directory.{IsDirectory, Laid}
use Rattle.b67_area.proofs.Cuts.{pending}
use Rattle.b67_area.proofs.Laws.{area_inside}
use Rattle.b67_lemmas.specs.Lists.{Has}
use Rattle.b67_ctl.specs.declared.registers.Regs.{Regs}
use Rattle.b67_stack.specs.Common.{Fits, Activation, stack_words, words, PagedObject, MachineView, Slot, Free, Running, Waiting, stack_of, slot_base, SlotFits, Storage, RepresentsSlot, info_of, Represents}
use Rattle.b67_stack.proofs.Bases.{base-apart}
use Rattle.b67_stack.proofs.Heights.{words-length}
use Rattle.b67_stack.proofs.Lies.{Lie-same}
use Rattle.b67_stack.proofs.Reheld.{RepresentsSlots-same, Content-stays}

module _ (x : Storage) (core : List Tagged) (r : Regs) (p : MachineView) (s : Represents x core r p) where
  -- an object's area
  pub area_of_object : (u : PagedObject) → Has p.objects u → (b : ℕ) → (x.held u.home).area ≡ Some b → area_at x.low x.spans b ≡ Some (info_of x u)
  area_of_object u inu b e =
      let o = s.owned.of_held u.home b e in
      o.3 ∙ ap (λ (v : PagedObject). Some (info_of x v)) (s.slots.laid.differ o.0 u o.1 inu o.2)

  pub area_bounds : (u : PagedObject) → Has p.objects u → (b : ℕ) → (x.held u.home).area ≡ Some b → (x.low < b) × (b + length u.numbers < length core)
  area_bounds u inu b e = area_inside core x.low x.spans b (info_of x u) s.directory (area_of_object u inu b e)

  pub home_below : (u : PagedObject) → Has p.objects u → (160 ≤ u.home) × (u.home < x.low)
  home_below u inu = s.slots.laid.homes u inu

  -- a slot's words lie between the dictionaries and the areas
  pub slot_high : (k : ℕ) (y : Slot) → SlotFits p k y → (stack_of y ≡ []) ⊎ (stack_words (stack_of y) < p.size)
  slot_high k y f = grind arith

  pub slot_below : (k : ℕ) → k < p.peak → (160 ≤ slot_base p k) × ((i : ℕ) → slot_base p k < i → i < suc (slot_base p k) + length (words k (stack_of (p.slots k))) → i < x.low)
  slot_below k h = grind (arith, words-length, base-apart)

  low_word : (ss : List Span) → Laid core 152 0 x.low ss → end x.low ss ≡ length core → slice_get core x.low ≢ Some (word 0 0)
  low_word [] l e z = absurd (omega (arith, slice_get_within core x.low (word 0 0) z))
  low_word (Area a ∷ ss) l e z = let t : ◌≡◌ {A = ℕ} 3 0 = ap (λ (w : Tagged). w.tag) (same_Some _ _ (sym l.0 ∙ z)) in absurd (omega arith)
  low_word (Hole n ∷ ss) l e z = let t : ◌≡◌ {A = ℕ} 3 0 = ap (λ (w : Tagged). w.tag) (same_Some _ _ (sym (pending core x.low (hole_high n) (x.low + n) ss l.1) ∙ z)) in absurd (omega arith)

  base_not_low : (k : ℕ) (y : Slot) → RepresentsSlot core r p k y → SlotFits p k y → slot_base p k + p.size ≤ x.low → slot_base p k < x.low
  base_not_low k y t f up = grind (arith, low_word)

  -- a slot's base word lies below the areas
  pub base_low : (k : ℕ) → k < p.peak → slot_base p k < x.low
  base_low k h = base_not_low k (p.slots k) (s.slots.slots k h) (s.slots.laid.slots k h) (omega (arith, base-apart p k p.peak h, s.slots.laid.low))

  -- nothing but word 152 and words of holes has changed
  pub Represents-core : (new : List Tagged) → length new ≡ length core → IsDirectory new x.low x.spans
      → ((i : ℕ) → 160 ≤ i → i < x.low → slice_get new i ≡ slice_get core i)
      → ((b : ℕ) (a : Info) → area_at x.low x.spans b ≡ Some a → (i : ℕ) → b ≤ i → i < b + a.words → slice_get new i ≡ slice_get core i)
      → Represents x new r p
  Represents-core new size dir below bodies = record {
    slots = RepresentsSlots-same core new r x.low p (λ k h. below (slot_base p k) (slot_below k h).0 (base_below k h)) s.slots;
    stacks = λ k h. Lie-same (Fits x.held) core new (suc (slot_base p k)) (words k (stack_of (p.slots k))) (λ i low up. below i (omega (arith, (slot_below k h).0)) ((slot_below k h).1 i (omega arith) up)) (s.stacks k h);
    objects = λ u inu. let was = s.objects u inu in record {
      home = below u.home (home_below u inu).0 (home_below u inu).1 ∙ was.home;
      content = Content-stays x x u (x.held u.home).chain (record { chain = refl; told = λ ns t. t }) core new (x.held u.home).area (λ b e i low up. bodies b (info_of x u) (area_of_object u inu b e) i low up) was.content;
    };
    owned = s.owned;
    directory = dir;
    inside = rw size s.inside;
  } where
    base_below : (k : ℕ) → k < p.peak → slot_base p k < x.low
    base_below k h = base_low k h
