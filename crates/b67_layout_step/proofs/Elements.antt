-- The machine after a store into an element of a present array.
use Rattle.std.proofs.Common.{◌≡◌, ◌≢◌, ℕ, zero, suc, ◌+◌, ◌<◌, ◌≤◌, List, [], ◌∷◌, map, length, Option, Some, None, refl, sym, ◌∙◌, ap, arith, inl, inr, ◌⊎◌, ⊎_elim, subst, slice_set, ◌^◌}
use Rattle.std.specs.List.{slice_get}
use Rattle.std.proofs.Math.ListN.{length-set}
use Rattle.std.proofs.lemmas.Bool.{cases_eq}
use Rattle.std.proofs.lemmas.Option.{same_Some}
use Rattle.std.proofs.lemmas.List.{length-map}
use Rattle.b67_word.specs.Tagged.{Tagged, word}
use Rattle.b67_core.proofs.Writes.{slice_get-set_same, slice_get-set_other}
use Rattle.b67_area.specs.declared.Info.{Info}
use Rattle.b67_area.specs.declared.Kind.{Kind}
use Rattle.b67_area.specs.declared.Kind.TheVariants as kind
use Rattle.b67_area.specs.Spans.{area_at}
use Rattle.b67_area.proofs.Laws.{area_inside, areas_apart}
use Rattle.b67_area.proofs.Separation.{IsDirectory-set_area}
use Rattle.b67_lemmas.specs.Lists.{Has}
use Rattle.b67_ctl.specs.declared.registers.Regs.{Regs}
use Rattle.b67_stack.specs.Common.{Fits, LieUpward, stack_words, words, PagedObject, MachineView, Slot, Free, Running, Waiting, stack_of, slot_base, SlotFits, IsArrayAt, IsLaidOut, home_word, object_words, tag_of, Storage, RepresentsSlot, RepresentsObject, Content, KeptChain, Represents, info_of}
use Rattle.b67_stack.proofs.Bases.{base-apart}
use Rattle.b67_stack.proofs.Lies.{Lie-same, Upward-same}
use Rattle.b67_stack.proofs.Heights.{words-length}

-- another word among words that lie upward
upward_set : (core : List Tagged) (at i v : ℕ) (ns : List ℕ) → i < length ns → at + length ns ≤ length core → LieUpward core at (map (word 0) ns) → LieUpward (slice_set core (at + i) (word 0 v)) at (map (word 0) (slice_set ns i v))
upward_set core at i v [] low inside u = absurd (omega (arith, low))
upward_set core at zero v (n ∷ ns) low inside u = grind (arith, slice_get-set_same, Upward-same, slice_get-set_other)
upward_set core at (suc i) v (n ∷ ns) low inside u = grind (arith, slice_get-set_other, upward_set core (at + 1) i v ns)

-- the object with another number
abbrev pub with_number : ℕ → ℕ → PagedObject → PagedObject
with_number i v t = record t { numbers = slice_set t.numbers i v }

-- the objects with one changed: it takes the old one's place, and the others stay
pub record Replaces (objects objects' : List PagedObject) (t : PagedObject) (i v : ℕ) : Type 0 where
  pub new : Has objects' (with_number i v t)
  pub each : (u : PagedObject) → Has objects' u → (u ≡ with_number i v t) ⊎ (Has objects u × (u.home ≢ t.home))
  pub kept : (u : PagedObject) → Has objects u → u.home ≢ t.home → Has objects' u

keeps_same : (x : Storage) (t : PagedObject) (i v first : ℕ) → t.kind ≡ kind.Array → KeptChain x t t.kind first → KeptChain x (with_number i v t) t.kind first
keeps_same x t i v first is k = grind (arith, length-set)

module _ (x : Storage) (core : List Tagged) (r : Regs) (p : MachineView) (objects' : List PagedObject) (t : PagedObject) (i v b : ℕ) (s : Represents x core r p) (int : Has p.objects t) (is_array : t.kind ≡ kind.Array) (low : i < length t.numbers)
    (held : (x.held t.home).area ≡ Some b) (re : Replaces p.objects objects' t i v) where
  abbrev new : List Tagged
  new = slice_set core (b + i) (word 0 v)

  abbrev p' : MachineView
  p' = record p { objects = objects' }

  laid : IsLaidOut x.low p
  laid = s.slots.laid

  n : length (slice_set t.numbers i v) ≡ length t.numbers
  n = length-set t.numbers i v

  -- the area of the array
  area : area_at x.low x.spans b ≡ Some (info_of x t)
  area =
      let o = s.owned.of_held t.home b held in
      let same : o.0 ≡ t = laid.differ o.0 t o.1 int o.2 in
      o.3 ∙ ap (λ (z : PagedObject). Some (info_of x z)) same

  area_in : (x.low < b) × (b + length t.numbers < length core)
  area_in = area_inside core x.low x.spans b (info_of x t) s.directory area

  below : (q : ℕ) → q ≤ x.low → slice_get new q ≡ slice_get core q
  below q h = slice_get-set_other core (b + i) q (word 0 v) (λ z. omega (arith, z, h, area_in.0))

  -- a fact about the old objects, for the new ones
  for_each : (P : PagedObject → Type 0) → ((u : PagedObject) → Has p.objects u → P u) → (P t → P (with_number i v t)) → (u : PagedObject) → Has objects' u → P u
  for_each P old here u h = ⊎_elim (λ e. subst P (sym e) (here (old t int))) (λ e. old u e.0) (re.each u h)

  -- a new object for each old one, of the same home and kind
  kept : (u : PagedObject) → Has p.objects u → (w : PagedObject) × Has objects' w × (w.home ≡ u.home) × (w.kind ≡ u.kind) × (length w.numbers ≡ length u.numbers)
  kept u h = ⊎_elim
      (λ (e : u.home ≡ t.home).
      let same : t ≡ u = laid.differ t u int h (sym e) in
      (with_number i v t, re.new, sym e, ap (λ (z : PagedObject). z.kind) same, n ∙ ap (λ (z : PagedObject). length z.numbers) same))
      (λ (e : u.home ≡ t.home → ⊥). (u, re.kept u h e, refl, refl, refl))
      (cases_eq u.home t.home)

  named : (home : ℕ) → IsArrayAt p.objects home → IsArrayAt objects' home
  named home a = let k = kept a.0 a.1 in (k.0, k.1, k.2 ∙ a.2, λ z. a.3 (sym k.3 ∙ z))

  slot_fits : (k : ℕ) (y : Slot) → SlotFits p k y → SlotFits p' k y
  slot_fits k Free f = f
  slot_fits k (Running stack) f = (f.0, λ d home h. named home (f.1 d home h))
  slot_fits k (Waiting stack) f = (f.0, λ d home h. named home (f.1 d home h))

  slot_room : (k : ℕ) (y : Slot) → SlotFits p k y → 0 < p.size → stack_words (stack_of y) < p.size
  slot_room k y f some = grind arith

  slot_inside : (k : ℕ) → k < p.peak → slot_base p k + p.size ≤ x.low
  slot_inside k h = let a = base-apart p k p.peak h in let l = laid.low in omega (arith, a, l)

  slot_below : (k : ℕ) → k < p.peak → slot_base p k ≤ x.low
  slot_below k h = let l = slot_inside k h in omega (arith, l)

  slot_stands : (k : ℕ) → k < p.peak → (y : Slot) → RepresentsSlot core r p k y → RepresentsSlot new r p' k y
  slot_stands k h y f = grind (arith, below, slot_below)

  laid' : IsLaidOut x.low p'
  laid' = record {
    low = laid.low;
    first = laid.first;
    room = laid.room;
    slots = λ k h. slot_fits k (p.slots k) (laid.slots k h);
    homes = for_each (λ u. (160 ≤ u.home) × (u.home < x.low)) laid.homes (λ a. a);
    codes = for_each (λ u. u.kind ≡ kind.Code → u.home < p.stacks) laid.codes (λ a. a);
    differ = λ u w hu hw e. ⊎_elim
        (λ eu. ⊎_elim (λ ew. eu ∙ sym ew) (λ ow. absurd (ow.1 (sym e ∙ ap (λ (z : PagedObject). z.home) eu))) (re.each w hw))
        (λ ou. ⊎_elim (λ ew. absurd (ou.1 (e ∙ ap (λ (z : PagedObject). z.home) ew))) (λ ow. laid.differ u w ou.0 ow.0 e) (re.each w hw))
        (re.each u hu);
    not_base = for_each (λ u. (k : ℕ) → k < p.peak → u.home ≢ slot_base p k) laid.not_base (λ a. a);
    lengths = for_each (λ u. (0 < length u.numbers) × (length u.numbers < 2 ^ 16)) laid.lengths (λ a. (omega (arith, a.0, n), omega (arith, a.1, n)));
  }

  -- an area of another object is apart
  other_area : (u : PagedObject) → Has p.objects u → u.home ≢ t.home → (c : ℕ) → (x.held u.home).area ≡ Some c → (q : ℕ) → c ≤ q → q < c + length (object_words u) → slice_get new q ≡ slice_get core q
  other_area u h ne c e q down up =
      let o = s.owned.of_held u.home c e in
      let same : o.0 ≡ u = laid.differ o.0 u o.1 h o.2 in
      let at : area_at x.low x.spans c ≡ Some (info_of x u) = o.3 ∙ ap (λ (z : PagedObject). Some (info_of x z)) same in
      let m = length-map u.numbers (word (tag_of u.kind)) in
      slice_get-set_other core (b + i) q (word 0 v) (λ z. ⊎_elim
      (λ (eq : c ≡ b).
      (let k : area_at x.low x.spans b ≡ Some (info_of x u) = ap (area_at x.low x.spans) (sym eq) ∙ at in
      ne (ap (λ (w : Info). w.owner) (same_Some _ _ (sym k ∙ area)))))
      (λ d. ⊎_elim (λ l. omega (arith, l, z, up, m)) (λ l. omega (arith, l, z, down, low)) d)
      (areas_apart x.low x.spans c b (info_of x u) (info_of x t) at area))

  content_other : (u : PagedObject) → Has p.objects u → u.home ≢ t.home → (a : Option ℕ) → (x.held u.home).area ≡ a → (first : ℕ) → Content x core u a first → Content x new u a first
  content_other u h ne None e first c = c
  content_other u h ne (Some a) e first c = (Upward-same core new a (object_words u) (other_area u h ne a e) c.0, c.1)

  home_same : (u : PagedObject) → Has p.objects u → slice_get new u.home ≡ slice_get core u.home
  home_same u h = let e = (laid.homes u h).1 in below u.home (omega (arith, e))

  zero_tag : tag_of t.kind ≡ 0
  zero_tag = ap tag_of is_array

  content_new : (a : Option ℕ) → (x.held t.home).area ≡ a → (first : ℕ) → Content x core t a first → Content x new (with_number i v t) a first
  content_new None e first c = absurd (Rattle.std.proofs.lemmas.Option.none-some b (sym e ∙ held))
  content_new (Some a) e first c =
      let same : a ≡ b = same_Some a b (sym e ∙ held) in
      let P : ℕ → Type 0 = λ q. LieUpward core q (map (word 0) t.numbers) in
      let Q : ℕ → Type 0 = λ q. LieUpward (slice_set core (b + i) (word 0 v)) q (map (word 0) (slice_set t.numbers i v)) in
      let T : ℕ → Type 0 = λ g. LieUpward core a (map (word g) t.numbers) in
      let U : ℕ → Type 0 = λ g. LieUpward (slice_set core (b + i) (word 0 v)) a (map (word g) (slice_set t.numbers i v)) in (
        subst U (sym zero_tag) (subst Q (sym same) (upward_set core b i v t.numbers low (let z = area_in.1 in omega (arith, z)) (subst P same (subst T zero_tag c.0)))),
        keeps_same x t i v first is_array c.1,
      )

  home_word_same : (g : Kind) → g ≡ kind.Array → home_word (let z : PagedObject = record { home = t.home; kind = g; numbers = slice_set t.numbers i v } in z) (x.held t.home) ≡ home_word (let z : PagedObject = record { home = t.home; kind = g; numbers = t.numbers } in z) (x.held t.home)
  home_word_same g e = ap (λ (q : ℕ). Rattle.b67_stack.specs.MachineView.home_word_of g q (x.held t.home)) n

  objects_stand : (u : PagedObject) → Has objects' u → RepresentsObject x new u
  objects_stand u h = ⊎_elim
      (λ (e : u ≡ with_number i v t).
      (let was = s.objects t int in
      let st : RepresentsObject x new (with_number i v t) = record {
        home = home_same t int ∙ was.home ∙ ap Some (sym (home_word_same t.kind is_array));
        content = content_new (x.held t.home).area refl (x.held t.home).chain was.content;
      } in
      subst (RepresentsObject x new) (sym e) st))
      (λ o. (let was = s.objects u o.0 in record { home = home_same u o.0 ∙ was.home; content = content_other u o.0 o.1 (x.held u.home).area refl (x.held u.home).chain was.content }))
      (re.each u h)

  info_same : (u w : PagedObject) → w.home ≡ u.home → w.kind ≡ u.kind → length w.numbers ≡ length u.numbers → info_of x w ≡ info_of x u
  info_same u w a c d = λ z. record { kind = c z; words = d z; owner = a z; kept = (x.held (a z)).chain }

  pub Represents-element : Represents x (slice_set core (b + i) (word 0 v)) r (record p { objects = objects' })
  Represents-element = record {
    slots = record {
      laid = laid';
      regs = record { stacks = s.slots.regs.stacks; size = s.slots.regs.size; peak = s.slots.regs.peak };
      slots = λ k h. slot_stands k h (p.slots k) (s.slots.slots k h);
    };
    stacks = λ k h. Lie-same (Fits x.held) core new (suc (slot_base p k)) (words k (stack_of (p.slots k)))
        (λ q down up. below q (let l = slot_inside k h in let w = words-length k (stack_of (p.slots k)) in by_room k h q down (omega (arith, up, w)))) (s.stacks k h);
    objects = objects_stand;
    owned = record {
      of_area = λ at a e. (let o = s.owned.of_area at a e in let k = kept o.0 o.1 in (k.0, k.1, ap (λ (z : ℕ). (x.held z).area) k.2 ∙ o.2, o.3 ∙ sym (info_same o.0 k.0 k.2 k.3 k.4)));
      of_held = λ home at e. (let o = s.owned.of_held home at e in let k = kept o.0 o.1 in (k.0, k.1, k.2 ∙ o.2, o.3 ∙ ap Some (sym (info_same o.0 k.0 k.2 k.3 k.4))));
      of_chain = λ first e. (let o = s.owned.of_chain first e in let k = kept o.0 o.1 in (k.0, k.1, ap (λ (z : ℕ). (x.held z).chain) k.2 ∙ o.2));
      no_zero = s.owned.no_zero;
      one_chain = λ u w hu hw e f. (let bu = back u hu in let bw = back w hw in
          sym bu.2 ∙ s.owned.one_chain bu.0 bw.0 bu.1 bw.1 (subst (λ (z : ℕ). 0 < (x.held z).chain) (sym bu.2) e) (ap (λ (z : ℕ). (x.held z).chain) bu.2 ∙ f ∙ ap (λ (z : ℕ). (x.held z).chain) (sym bw.2)) ∙ bw.2);
    };
    directory = IsDirectory-set_area core x.low x.spans b (info_of x t) (b + i) (word 0 v) s.directory area (omega arith) (omega (arith, low));
    inside = (let q = s.inside in let l = length-set core (b + i) (word 0 v) in omega (arith, q, l));
  } where
    back : (u : PagedObject) → Has objects' u → (w : PagedObject) × Has p.objects w × (w.home ≡ u.home)
    back u h = ⊎_elim (λ (e : u ≡ with_number i v t). (t, int, ap (λ (z : PagedObject). z.home) (sym e))) (λ o. (u, o.0, refl)) (re.each u h)

    by_room : (k : ℕ) → k < p.peak → (q : ℕ) → suc (slot_base p k) ≤ q → q < suc (slot_base p k) + stack_words (stack_of (p.slots k)) → q ≤ x.low
    by_room k h q down up = by_size (cases_eq p.size 0) where
      by_size : (p.size ≡ 0) ⊎ (p.size ≡ 0 → ⊥) → q ≤ x.low
      by_size (inl z) = no_size (p.slots k) (laid.slots k h) up where
        no_size : (y : Slot) → SlotFits p k y → q < suc (slot_base p k) + stack_words (stack_of y) → q ≤ x.low
        no_size Free f u = absurd (omega (arith, u, down))
        no_size (Running stack) f u = absurd (let g = f.0.fits in omega (arith, g, z))
        no_size (Waiting stack) f u = absurd (let g = f.0.fits in omega (arith, g, z))
      by_size (inr z) = let l = slot_inside k h in let g = slot_room k (p.slots k) (laid.slots k h) (omega (arith, z)) in omega (arith, l, g, up)
