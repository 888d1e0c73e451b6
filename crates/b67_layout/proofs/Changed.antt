-- A machine in which one object has other numbers, as many or not, and is held otherwise.
use Rattle.std.proofs.Common.{◌≡◌, ◌≢◌, ℕ, ◌<◌, ◌≤◌, ◌^◌, List, [], length, Option, Some, sym, ◌∙◌, ap, arith, inl, inr, ◌⊎◌, ⊎_elim, subst}
use Rattle.std.specs.List.{slice_get}
use Rattle.std.proofs.lemmas.Bool.{cases_eq}
use Rattle.std.proofs.lemmas.Option.{same_Some}
use Rattle.b67_word.specs.Tagged.{Tagged}
use Rattle.b67_area.specs.declared.Info.{Info}
use Rattle.b67_area.specs.declared.Kind.TheVariants.{Code}
use Rattle.b67_area.specs.Spans.{Span, area_at}
use Rattle.b67_area.specs.Directory.{IsDirectory}
use Rattle.b67_backing.specs.Shelf.{Shelf, chain_of}
use Rattle.b67_lemmas.specs.Lists.{Has}
use Rattle.b67_ctl.specs.declared.registers.Regs.{Regs}
use Rattle.b67_stack.specs.Common.{Location, PagedObject, MachineView, Slot, Free, Running, Waiting, SlotFits, IsArrayAt, IsLaidOut, slot_base, home_word, Storage, RepresentsSlot, StacksLie, RepresentsObjects, RepresentsObject, Content, Owned, info_of, Represents, with_held, TakesPlace}
use Rattle.b67_stack.proofs.Helds.{held-other, held-same}
use Rattle.b67_stack.proofs.Reheld.{ObjectStays, Content-stays, storage_with, info_with}

-- what is to be shown
pub record Changed (x : Storage) (core new : List Tagged) (p : MachineView) (t t' : PagedObject) (h : Location) (spans : List Span) (shelf : Shelf) (device : Option (List (List ℕ))) : Type 0 where
  pub bases : (k : ℕ) → k < p.peak → slice_get new (slot_base p k) ≡ slice_get core (slot_base p k)
  pub stacks : StacksLie (with_held x.held t.home h) new p
  pub home : slice_get new t.home ≡ Some (home_word t' h)
  pub content : Content (storage_with x t.home h spans shelf device) new t' h.area h.chain
  pub others : (u : PagedObject) → Has p.objects u → u.home ≢ t.home → ObjectStays x (storage_with x t.home h spans shelf device) core new u
  pub area_of : (at : ℕ) (a : Info) → area_at x.low spans at ≡ Some a
      → ((h.area ≡ Some at) × (a ≡ info_with t' h)) ⊎ ((area_at x.low x.spans at ≡ Some a) × ((x.held t.home).area ≢ Some at))
  pub area_here : (at : ℕ) → h.area ≡ Some at → area_at x.low spans at ≡ Some (info_with t' h)
  pub area_stays : (at : ℕ) (a : Info) → area_at x.low x.spans at ≡ Some a → (x.held t.home).area ≢ Some at → area_at x.low spans at ≡ Some a
  pub chains_of : (first : ℕ) → 0 < length (chain_of first shelf.chains)
      → (first ≡ h.chain) ⊎ ((0 < length (chain_of first x.shelf.chains)) × (first ≢ (x.held t.home).chain))
  pub no_zero : chain_of 0 shelf.chains ≡ []
  pub own_chain : (u : PagedObject) → Has p.objects u → u.home ≢ t.home → 0 < h.chain → (x.held u.home).chain ≢ h.chain
  pub directory : IsDirectory new x.low spans
  pub size : length new ≡ length core

module _ (x : Storage) (core new : List Tagged) (r : Regs) (p : MachineView) (objects' : List PagedObject) (t t' : PagedObject) (h : Location) (spans : List Span) (shelf : Shelf) (device : Option (List (List ℕ)))
    (int : Has p.objects t) (s : Represents x core r p) (re : TakesPlace p.objects objects' t t') (c : Changed x core new p t t' h spans shelf device) where
  abbrev y : Storage
  y = storage_with x t.home h spans shelf device

  abbrev p' : MachineView
  p' = record p { objects = objects' }

  laid : IsLaidOut x.low p
  laid = s.slots.laid

  other : (q : ℕ) → q ≢ t.home → with_held x.held t.home h q ≡ x.held q
  other q n = held-other x.held t.home h q n

  same : with_held x.held t.home h t.home ≡ h
  same = held-same x.held t.home h

  other_area : (q : ℕ) → q ≢ t.home → (with_held x.held t.home h q).area ≡ (x.held q).area
  other_area q n = ap (λ (g : Location). g.area) (other q n)

  other_chain : (q : ℕ) → q ≢ t.home → (with_held x.held t.home h q).chain ≡ (x.held q).chain
  other_chain q n = ap (λ (g : Location). g.chain) (other q n)

  same_chain : (q : ℕ) → q ≡ t.home → (with_held x.held t.home h q).chain ≡ h.chain
  same_chain q e = ap (λ n. (with_held x.held t.home h n).chain) e ∙ ap (λ (g : Location). g.chain) same

  same_area : (q : ℕ) → q ≡ t.home → (with_held x.held t.home h q).area ≡ h.area
  same_area q e = ap (λ n. (with_held x.held t.home h n).area) e ∙ ap (λ (g : Location). g.area) same

  -- a fact about the old objects, for the new ones
  for_each : (P : PagedObject → Type 0) → ((u : PagedObject) → Has p.objects u → u.home ≢ t.home → P u) → P t' → (u : PagedObject) → Has objects' u → P u
  for_each P old here u inu = ⊎_elim (λ e. subst P (sym e) here) (λ e. old u e.0 e.1) (re.each u inu)

  named : (home : ℕ) → IsArrayAt p.objects home → IsArrayAt objects' home
  named home a = ⊎_elim
      (λ (e : a.0.home ≡ t.home).
      let is = laid.differ a.0 t a.1 int e in
      let r : IsArrayAt objects' home = (t', re.new, re.home ∙ sym e ∙ a.2, λ z. a.3 (ap (λ (u : PagedObject). u.kind) is ∙ sym re.kind ∙ z)) in r)
      (λ (n : a.0.home ≡ t.home → ⊥). let r : IsArrayAt objects' home = (a.0, re.kept a.0 a.1 n, a.2, a.3) in r)
      (cases_eq a.0.home t.home)

  slot_fits : (k : ℕ) (z : Slot) → SlotFits p k z → SlotFits p' k z
  slot_fits k Free f = f
  slot_fits k (Running stack) f = (f.0, λ d home i. named home (f.1 d home i))
  slot_fits k (Waiting stack) f = (f.0, λ d home i. named home (f.1 d home i))

  laid' : IsLaidOut x.low p'
  laid' = record {
    low = laid.low;
    first = laid.first;
    room = laid.room;
    slots = λ k i. slot_fits k (p.slots k) (laid.slots k i);
    homes = for_each (λ u. (160 ≤ u.home) × (u.home < x.low)) (λ u inu n. laid.homes u inu) (let i = laid.homes t int in (omega (arith, re.home, i.0), omega (arith, re.home, i.1)));
    codes = for_each (λ u. u.kind ≡ Code → u.home < p.stacks) (λ u inu n. laid.codes u inu) (λ z. let i = laid.codes t int (sym re.kind ∙ z) in omega (arith, re.home, i));
    differ = λ u w hu hw e. ⊎_elim
        (λ eu. ⊎_elim (λ ew. eu ∙ sym ew) (λ ow. absurd (ow.1 (sym e ∙ ap (λ (z : PagedObject). z.home) eu ∙ re.home))) (re.each w hw))
        (λ ou. ⊎_elim (λ ew. absurd (ou.1 (e ∙ ap (λ (z : PagedObject). z.home) ew ∙ re.home))) (λ ow. laid.differ u w ou.0 ow.0 e) (re.each w hw))
        (re.each u hu);
    not_base = for_each (λ u. (k : ℕ) → k < p.peak → u.home ≢ slot_base p k) (λ u inu n. laid.not_base u inu) (λ k i e. laid.not_base t int k i (sym re.home ∙ e));
    lengths = for_each (λ u. (0 < length u.numbers) × (length u.numbers < 2 ^ 16)) (λ u inu n. laid.lengths u inu) (re.some, re.few);
  }

  slot_stands : (k : ℕ) → k < p.peak → (z : Slot) → RepresentsSlot core r p k z → RepresentsSlot new r p' k z
  slot_stands k i Free f = (f.0, c.bases k i ∙ f.1)
  slot_stands k i (Running stack) f = record { slot = f.slot; first = f.first; last = f.last; top = f.top; mark = f.mark; level = f.level }
  slot_stands k i (Waiting stack) f = (f.0, c.bases k i ∙ f.1)

  objects : RepresentsObjects y new objects'
  objects = for_each (λ u. RepresentsObject y new u)
      (λ u inu n.
      let was = s.objects u inu in
      let stays = c.others u inu n in
      let it = Content-stays x y u (x.held u.home).chain stays.chain core new (x.held u.home).area stays.body was.content in
      let P : Location → Type 0 = λ g. (slice_get new u.home ≡ Some (home_word u g)) × Content y new u g.area g.chain in
      let both = subst P (sym (other u.home n)) (stays.word ∙ was.home, it) in
      let done : RepresentsObject y new u = record { home = both.0; content = both.1 } in
      done)
      (let P : Location → Type 0 = λ g. (slice_get new t.home ≡ Some (home_word t' g)) × Content y new t' g.area g.chain in
      let both = subst P (sym same) (c.home, c.content) in
      let Q : ℕ → Type 0 = λ q. (slice_get new q ≡ Some (home_word t' (with_held x.held t.home h q))) × Content y new t' (with_held x.held t.home h q).area (with_held x.held t.home h q).chain in
      let there = subst Q (sym re.home) both in
      record { home = there.0; content = there.1 })

  info_other : (u : PagedObject) → u.home ≢ t.home → info_of x u ≡ info_of y u
  info_other u n = ap (λ (k : ℕ). let a : Info = record { kind = u.kind; words = length u.numbers; owner = u.home; kept = k } in a) (sym (other_chain u.home n))

  info_same : info_with t' h ≡ info_of y t'
  info_same = ap (λ (k : ℕ). let a : Info = record { kind = t'.kind; words = length t'.numbers; owner = t'.home; kept = k } in a) (sym (same_chain t'.home re.home))

  -- the area of another object isn't that of t
  apart : (u : PagedObject) (at : ℕ) → u.home ≢ t.home → area_at x.low x.spans at ≡ Some (info_of x u) → (x.held t.home).area ≢ Some at
  apart u at n there e =
      let o = s.owned.of_held t.home at e in
      let i : info_of x u ≡ info_of x o.0 = same_Some _ _ (sym there ∙ o.3) in
      n (ap (λ (a : Info). a.owner) i ∙ o.2)

  -- each chain's object, among the new ones
  back : (u : PagedObject) → Has objects' u → ((u.home ≡ t.home) × (u ≡ t')) ⊎ (Has p.objects u × (u.home ≢ t.home))
  back u inu = ⊎_elim (λ e. inl (ap (λ (z : PagedObject). z.home) e ∙ re.home, e)) inr (re.each u inu)

  owned : Owned y objects'
  owned = record {
    of_area = λ at a e. ⊎_elim
        (λ (l : (h.area ≡ Some at) × (a ≡ info_with t' h)).
        let r : (u : PagedObject) × Has objects' u × ((with_held x.held t.home h u.home).area ≡ Some at) × (a ≡ info_of y u) = (t', re.new, same_area t'.home re.home ∙ l.0, l.1 ∙ info_same) in r)
        (λ (l : (area_at x.low x.spans at ≡ Some a) × ((x.held t.home).area ≢ Some at)).
        let o = s.owned.of_area at a l.0 in
        let n : o.0.home ≢ t.home = λ z. l.1 (ap (λ q. (x.held q).area) (sym z) ∙ o.2) in
        (o.0, re.kept o.0 o.1 n, other_area o.0.home n ∙ o.2, o.3 ∙ info_other o.0 n))
        (c.area_of at a e);
    of_held = λ q at e. ⊎_elim
        (λ (z : q ≡ t.home).
        let is : h.area ≡ Some at = sym (same_area q z) ∙ e in
        let r : (u : PagedObject) × Has objects' u × (u.home ≡ q) × (area_at x.low spans at ≡ Some (info_of y u)) = (t', re.new, re.home ∙ sym z, c.area_here at is ∙ ap Some info_same) in r)
        (λ (n : q ≡ t.home → ⊥).
        let o = s.owned.of_held q at (sym (other_area q n) ∙ e) in
        let m : o.0.home ≢ t.home = λ z. n (sym o.2 ∙ z) in
        (o.0, re.kept o.0 o.1 m, o.2, c.area_stays at (info_of x o.0) o.3 (apart o.0 at m o.3) ∙ ap Some (info_other o.0 m)))
        (cases_eq q t.home);
    of_chain = λ first some. ⊎_elim
        (λ (e : first ≡ h.chain).
        let r : (u : PagedObject) × Has objects' u × ((with_held x.held t.home h u.home).chain ≡ first) = (t', re.new, same_chain t'.home re.home ∙ sym e) in r)
        (λ (l : (0 < length (chain_of first x.shelf.chains)) × (first ≢ (x.held t.home).chain)).
        let o = s.owned.of_chain first l.0 in
        let n : o.0.home ≢ t.home = λ z. l.1 (sym o.2 ∙ ap (λ q. (x.held q).chain) z) in
        (o.0, re.kept o.0 o.1 n, other_chain o.0.home n ∙ o.2))
        (c.chains_of first some);
    no_zero = c.no_zero;
    one_chain = λ u v inu inv some e. ⊎_elim
        (λ (a : (u.home ≡ t.home) × (u ≡ t')). ⊎_elim
        (λ (b : (v.home ≡ t.home) × (v ≡ t')). a.0 ∙ sym b.0)
        (λ (b : Has p.objects v × (v.home ≢ t.home)). absurd (c.own_chain v b.0 b.1 (omega (arith, same_chain u.home a.0, some)) (sym (other_chain v.home b.1) ∙ sym e ∙ same_chain u.home a.0)))
        (back v inv))
        (λ (a : Has p.objects u × (u.home ≢ t.home)). ⊎_elim
        (λ (b : (v.home ≡ t.home) × (v ≡ t')). absurd (c.own_chain u a.0 a.1 (omega (arith, e, same_chain v.home b.0, some)) (sym (other_chain u.home a.1) ∙ e ∙ same_chain v.home b.0)))
        (λ (b : Has p.objects v × (v.home ≢ t.home)). s.owned.one_chain u v a.0 b.0 (omega (arith, other_chain u.home a.1, some)) (sym (other_chain u.home a.1) ∙ e ∙ other_chain v.home b.1))
        (back v inv))
        (back u inu);
  }

  pub Represents-changed : Represents (storage_with x t.home h spans shelf device) new r (record p { objects = objects' })
  Represents-changed = record {
    slots = record { laid = laid'; regs = record { stacks = s.slots.regs.stacks; size = s.slots.regs.size; peak = s.slots.regs.peak }; slots = λ k i. slot_stands k i (p.slots k) (s.slots.slots k i) };
    stacks = c.stacks;
    objects = objects;
    owned = owned;
    directory = c.directory;
    inside = rw c.size s.inside;
  }
