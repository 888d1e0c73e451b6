-- The machine represents the objects but one, whose area and chain are free.
use Rattle.std.proofs.Common.{◌≡◌, ◌≢◌, ℕ, suc, ◌<◌, ◌≤◌, ◌==◌, List, [], length, Some, sym, ◌∙◌, ap, arith, ◌⊎◌, ⊎_elim, subst}
use Rattle.std.specs.List.{slice_get}
use Rattle.std.proofs.lemmas.Bool.{cases_eq}
use Rattle.std.proofs.lemmas.Option.{same_Some, none-some}
use Rattle.b67_word.specs.Tagged.{Tagged}
use Rattle.b67_area.specs.declared.Info.{Info}
use Rattle.b67_area.specs.Spans.{area_at}
use Rattle.b67_backing.specs.Shelf.{Shelf, Table, IsShelf, chain_of}
use Rattle.b67_backing.proofs.News.{chain_of-others, chain_of-given}
use Rattle.b67_ctl.specs.declared.registers.Regs.{Regs}
use Rattle.b67_lemmas.specs.Lists.{Has}
use Rattle.b67_stack.specs.Common.{Location, Locations, Shape, Copy, Copied, Fits, nowhere, words, PagedObject, MachineView, Slot, stack_of, slot_base, SlotFits, CopiesName, Storage, RepresentsSlot, StacksLie, RepresentsObject, ObjectHasChain, Owned, Represents, info_of, with_held, ChainStays}
use Rattle.b67_stack.proofs.Lies.{Lie-each}
use Rattle.b67_stack.proofs.Helds.{held-other, held-same}
use Rattle.b67_stack.proofs.Reheld.{Content-stays}
use Rattle.b67_stack.proofs.Unchanged.{area_of_object, slot_below, base_low}
use Rattle.b67_task.specs.Released.{without_chain, storage_released, of_objects, Drops, Vacated}

sectors_some : (x : Storage) (t : PagedObject) (f : ℕ) → 0 < length t.numbers → ObjectHasChain x t f → 1 ≤ length (chain_of f x.shelf.chains)
sectors_some x t f some h = omega (arith, h.sectors)

-- the chains but one, where that is free
pub chains_other : (f g : ℕ) (st : Shelf) → g ≢ f → chain_of g (without_chain f st).chains ≡ chain_of g st.chains
chains_other f g st n = grind (arith, chain_of-others)

pub chains_gone : (table : Table) (f : ℕ) (st : Shelf) → IsShelf table st → chain_of 0 st.chains ≡ [] → (f ≡ 0) ⊎ (1 ≤ length (chain_of f st.chains)) → chain_of f (without_chain f st).chains ≡ []
chains_gone table f st sh no_zero has = grind (arith, chain_of-given)

-- a word that isn't a copy of the array
fits_other : (held : Locations) (home : ℕ) (h : Location) (a : Shape) (i : ℕ) (v : Tagged) → ((c : Copied) (q : ℕ) → a ≡ Copy c q → q ≢ home) → Fits held a i v → Fits (with_held held home h) a i v
fits_other held home h a i v e g = grind arith

pub has_chain : (x : Storage) (core : List Tagged) (r : Regs) (p : MachineView) → Represents x core r p → (t : PagedObject) → Has p.objects t → ((x.held t.home).chain ≡ 0) ⊎ (1 ≤ length (chain_of (x.held t.home).chain x.shelf.chains))
has_chain x core r p s t int = grind arith

module _ (x : Storage) (core : List Tagged) (r : Regs) (p : MachineView) (s : Represents x core r p) (t : PagedObject) (objects : List PagedObject) (d : Drops p t objects)
    (table : Table) (sh : IsShelf table x.shelf) (new : List Tagged) (v : Vacated x.low (x.held t.home).area x.spans core new) where
  abbrev y : Storage
  y = storage_released x t

  abbrev q : MachineView
  q = of_objects p objects

  abbrev f : ℕ
  f = (x.held t.home).chain

  gone : chain_of f y.shelf.chains ≡ []
  gone = chains_gone table f x.shelf sh s.owned.no_zero (has_chain x core r p s t d.there)

  other : (home : ℕ) → home ≢ t.home → y.held home ≡ x.held home
  other home n = held-other x.held t.home nowhere home n

  held_there : (u : PagedObject) → Has objects u → y.held u.home ≡ x.held u.home
  held_there u inu = other u.home (d.fewer u inu).1

  -- another object's chain
  chain_stays : (u : PagedObject) → Has objects u → ChainStays x y (x.held u.home).chain
  chain_stays u inu = grind (arith, chains_other)

  -- and its area
  area_stays : (u : PagedObject) → Has objects u → (b : ℕ) → (x.held u.home).area ≡ Some b → (x.held t.home).area ≢ Some b
  area_stays u inu b e z =
      let here = area_of_object x core r p s u (d.fewer u inu).0 b e in
      let there = area_of_object x core r p s t d.there b z in
      (d.fewer u inu).1 (ap (λ (i : Info). i.owner) (same_Some (info_of x u) (info_of x t) (sym here ∙ there)))

  words_low : (i : ℕ) → 160 ≤ i → i < x.low → slice_get new i ≡ slice_get core i
  words_low i down up = v.below i up (λ e. omega arith)

  stands : (k : ℕ) (a : Slot) → slice_get new (slot_base p k) ≡ slice_get core (slot_base p k) → RepresentsSlot core r p k a → RepresentsSlot new r q k a
  stands k a e h = grind arith

  names : (k : ℕ) (a : Slot) → SlotFits q k a → CopiesName objects (words k (stack_of a))
  names k a h = grind arith

  stacks : StacksLie y.held new q
  stacks k hk = Lie-each (Fits x.held) (Fits y.held) core new (suc (slot_base p k)) (words k (stack_of (p.slots k)))
      (λ a i w there low high get fit. (
        w,
        words_low i (omega (arith, (slot_below x core r p s k hk).0)) ((slot_below x core r p s k hk).1 i (omega arith) high) ∙ get,
        fits_other x.held t.home nowhere a i w (λ c home e z.
            let n = names k (p.slots k) (d.fits k hk) c home (subst (λ (b : Shape). Has (words k (stack_of (p.slots k))) b) e there) in
            (d.fewer n.0 n.1).1 (n.2 ∙ z)) fit,
      ))
      (s.stacks k hk)

  object : (u : PagedObject) → Has objects u → RepresentsObject y new u
  object u inu =
      let inp = (d.fewer u inu).0 in
      let was = s.objects u inp in
      let it = Content-stays x y u (x.held u.home).chain (chain_stays u inu) core new (x.held u.home).area
      (λ b e i low high. v.bodies b (info_of x u) (v.stays b (info_of x u) (area_of_object x core r p s u inp b e) (area_stays u inu b e)) i low high) was.content in
      grind arith

  info_there : (u : PagedObject) → Has objects u → info_of x u ≡ info_of y u
  info_there u inu = ap (λ (h : Location). let a : Info = record { kind = u.kind; words = length u.numbers; owner = u.home; kept = h.chain } in a) (sym (held_there u inu))

  owned : Owned y objects
  owned = record {
    of_area = λ at a e.
        let g = v.gone at a e in
        let o = s.owned.of_area at a g.0 in
        let n : o.0.home ≢ t.home = λ z. g.1 (ap (λ h. (x.held h).area) (sym z) ∙ o.2) in
        let inu = d.rest o.0 o.1 n in
        (o.0, inu, ap (λ (h : Location). h.area) (other o.0.home n) ∙ o.2, o.3 ∙ info_there o.0 inu);
    of_held = λ home at e. ⊎_elim
        (λ (z : home ≡ t.home). absurd (none-some at (sym (ap (λ h. (y.held h).area) z ∙ ap (λ (h : Location). h.area) (held-same x.held t.home nowhere)) ∙ e)))
        (λ (n : home ≡ t.home → ⊥).
        let was : (x.held home).area ≡ Some at = sym (ap (λ (h : Location). h.area) (other home n)) ∙ e in
        let o = s.owned.of_held home at was in
        let inu = d.rest o.0 o.1 (λ z. n (sym o.2 ∙ z)) in
        let r : (u : PagedObject) × Has objects u × (u.home ≡ home) × (area_at y.low y.spans at ≡ Some (info_of y u)) =
        (o.0, inu, o.2, v.stays at (info_of x o.0) o.3 (area_stays o.0 inu at (ap (λ h. (x.held h).area) o.2 ∙ was)) ∙ ap Some (info_there o.0 inu)) in r)
        (cases_eq home t.home);
    of_chain = λ first some.
        let n : first ≢ f = λ z. omega (arith, some, ap length (ap (λ g. chain_of g y.shelf.chains) z ∙ gone)) in
        let o = s.owned.of_chain first (omega (arith, some, ap length (chains_other f first x.shelf n))) in
        let m : o.0.home ≢ t.home = λ z. n (sym o.2 ∙ ap (λ h. (x.held h).chain) z) in
        (o.0, d.rest o.0 o.1 m, ap (λ (h : Location). h.chain) (other o.0.home m) ∙ o.2);
    no_zero = ⊎_elim
        (λ (z : f ≡ 0). ap (λ g. chain_of g y.shelf.chains) (sym z) ∙ gone)
        (λ (m : f ≡ 0 → ⊥). chains_other f 0 x.shelf (λ e. m (sym e)) ∙ s.owned.no_zero)
        (cases_eq f 0);
    one_chain = λ a b ina inb some e.
        let ea = ap (λ (h : Location). h.chain) (held_there a ina) in
        let eb = ap (λ (h : Location). h.chain) (held_there b inb) in
        s.owned.one_chain a b (d.fewer a ina).0 (d.fewer b inb).0 (omega (arith, some, ea)) (sym ea ∙ e ∙ eb);
  }

  pub Represents-released : Represents (storage_released x t) new r (of_objects p objects)
  Represents-released = record {
    slots = record {
      laid = record {
        low = s.slots.laid.low;
        first = s.slots.laid.first;
        room = s.slots.laid.room;
        slots = d.fits;
        homes = λ u inu. s.slots.laid.homes u (d.fewer u inu).0;
        codes = λ u inu. s.slots.laid.codes u (d.fewer u inu).0;
        differ = λ a b ina inb. s.slots.laid.differ a b (d.fewer a ina).0 (d.fewer b inb).0;
        not_base = λ u inu. s.slots.laid.not_base u (d.fewer u inu).0;
        lengths = λ u inu. s.slots.laid.lengths u (d.fewer u inu).0;
      };
      regs = record { stacks = s.slots.regs.stacks; size = s.slots.regs.size; peak = s.slots.regs.peak };
      slots = λ k hk. stands k (p.slots k) (words_low (slot_base p k) (slot_below x core r p s k hk).0 (base_low x core r p s k hk)) (s.slots.slots k hk);
    };
    stacks = stacks;
    objects = object;
    owned = owned;
    directory = v.directory;
    inside = rw v.size s.inside;
  }
