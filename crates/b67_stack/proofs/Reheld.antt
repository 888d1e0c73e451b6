-- A machine in which one object is held otherwise represents the same view.
use Rattle.std.proofs.Common.{◌≡◌, ◌≢◌, ℕ, ◌+◌, ◌<◌, ◌≤◌, List, [], length, map, Option, Some, None, refl, sym, ◌∙◌, ap, arith, inl, inr, ◌⊎◌, ⊎_elim, subst}
use Rattle.std.specs.List.{slice_get}
use Rattle.std.proofs.lemmas.List.{length-map}
use Rattle.std.proofs.lemmas.Bool.{cases_eq}
use Rattle.std.proofs.lemmas.Option.{same_Some}
use Rattle.b67_word.specs.Common.{Tagged, word, number}
use Rattle.b67_area.specs.declared.Info.{Info}
use Rattle.b67_area.specs.declared.Kind.{Kind}
use Rattle.b67_area.specs.declared.Kind.TheVariants.{Array, Row, Code}
use Rattle.b67_area.specs.Spans.{Span, area_at}
use Rattle.b67_area.specs.Directory.{IsDirectory}
use Rattle.b67_backing.specs.Shelf.{Shelf, chain_of}
use Rattle.b67_lemmas.specs.Lists.{Has}
use Rattle.b67_ctl.specs.declared.registers.Regs.{Regs}
use Rattle.b67_stack.specs.Common.{Location, PagedObject, MachineView, Slot, Free, Running, Waiting, slot_base, home_word, object_words, tag_of, Storage, RepresentsSlot, RepresentsSlots, StacksLie, RepresentsObjects, RepresentsObject, Content, KeptChain, AbsentContent, HoldsIn, Told, Owned, info_of, Represents, with_held, ChainStays}
use Rattle.b67_stack.proofs.Lies.{Upward-same}
use Rattle.b67_stack.proofs.Helds.{held-other, held-same}

pub slot_same : (core new : List Tagged) (r : Regs) (p : MachineView) (k : ℕ) (y : Slot) → slice_get new (slot_base p k) ≡ slice_get core (slot_base p k) → RepresentsSlot core r p k y → RepresentsSlot new r p k y
slot_same core new r p k h e t = grind arith

-- the slots' base words alone tell where the tops are
pub RepresentsSlots-same : (core new : List Tagged) (r : Regs) (low : ℕ) (p : MachineView) → ((k : ℕ) → k < p.peak → slice_get new (slot_base p k) ≡ slice_get core (slot_base p k)) → RepresentsSlots core r low p → RepresentsSlots new r low p
RepresentsSlots-same core new r low p same s = record { laid = s.laid; regs = s.regs; slots = λ k h. slot_same core new r p k (p.slots k) (same k h) (s.slots k h) }

module _ (x y : Storage) (t : PagedObject) (f : ℕ) (c : ChainStays x y f) where
  pub HoldsIn-stays : HoldsIn x t f → HoldsIn y t f
  HoldsIn-stays h = grind arith

  pub Keeps-stays : (k : Kind) → KeptChain x t k f → KeptChain y t k f
  Keeps-stays k h = grind arith

  pub Rests-stays : AbsentContent x t f → AbsentContent y t f
  Rests-stays h = grind arith

  -- an object's content, by the words of its area and by its chain
  pub Content-stays : (core new : List Tagged) (a : Option ℕ) → ((b : ℕ) → a ≡ Some b → (q : ℕ) → b ≤ q → q < b + length t.numbers → slice_get new q ≡ slice_get core q) → Content x core t a f → Content y new t a f
  Content-stays core new (Some a) same k =
      (Upward-same core new a (object_words t) (λ q low high. same a refl q low (omega (arith, length-map t.numbers (word (tag_of t.kind))))) k.0, Keeps-stays t.kind k.1)
  Content-stays core new None same k = Rests-stays k

-- what stays of another object
pub record ObjectStays (x y : Storage) (core new : List Tagged) (u : PagedObject) : Type 0 where
  pub word : slice_get new u.home ≡ slice_get core u.home
  pub body : (b : ℕ) → (x.held u.home).area ≡ Some b → (q : ℕ) → b ≤ q → q < b + length u.numbers → slice_get new q ≡ slice_get core q
  pub chain : ChainStays x y (x.held u.home).chain

abbrev pub storage_with : Storage → ℕ → Location → List Span → Shelf → Option (List (List ℕ)) → Storage
storage_with x home h spans shelf device = record { held = with_held x.held home h; low = x.low; spans = spans; shelf = shelf; device = device }

abbrev pub info_with : PagedObject → Location → Info
info_with t h = record { kind = t.kind; words = length t.numbers; owner = t.home; kept = h.chain }

-- what is to be shown where one object is held otherwise
pub record Reheld (x : Storage) (core new : List Tagged) (p : MachineView) (t : PagedObject) (h : Location) (spans : List Span) (shelf : Shelf) (device : Option (List (List ℕ))) : Type 0 where
  pub bases : (k : ℕ) → k < p.peak → slice_get new (slot_base p k) ≡ slice_get core (slot_base p k)
  pub stacks : StacksLie (with_held x.held t.home h) new p
  pub home : slice_get new t.home ≡ Some (home_word t h)
  pub content : Content (storage_with x t.home h spans shelf device) new t h.area h.chain
  pub others : (u : PagedObject) → Has p.objects u → u.home ≢ t.home → ObjectStays x (storage_with x t.home h spans shelf device) core new u
  pub area_of : (at : ℕ) (a : Info) → area_at x.low spans at ≡ Some a
      → ((h.area ≡ Some at) × (a ≡ info_with t h)) ⊎ ((area_at x.low x.spans at ≡ Some a) × ((x.held t.home).area ≢ Some at))
  pub area_here : (at : ℕ) → h.area ≡ Some at → area_at x.low spans at ≡ Some (info_with t h)
  pub area_stays : (at : ℕ) (a : Info) → area_at x.low x.spans at ≡ Some a → (x.held t.home).area ≢ Some at → area_at x.low spans at ≡ Some a
  pub chains_of : (first : ℕ) → 0 < length (chain_of first shelf.chains)
      → (first ≡ h.chain) ⊎ ((0 < length (chain_of first x.shelf.chains)) × (first ≢ (x.held t.home).chain))
  pub no_zero : chain_of 0 shelf.chains ≡ []
  pub own_chain : (u : PagedObject) → Has p.objects u → u.home ≢ t.home → 0 < h.chain → (x.held u.home).chain ≢ h.chain
  pub directory : IsDirectory new x.low spans
  pub size : length new ≡ length core

module _ (x : Storage) (core new : List Tagged) (r : Regs) (p : MachineView) (t : PagedObject) (h : Location) (spans : List Span) (shelf : Shelf) (device : Option (List (List ℕ))) (int : Has p.objects t) (s : Represents x core r p) (c : Reheld x core new p t h spans shelf device) where
  abbrev y : Storage
  y = storage_with x t.home h spans shelf device

  other : (q : ℕ) → q ≢ t.home → with_held x.held t.home h q ≡ x.held q
  other q n = held-other x.held t.home h q n

  same : with_held x.held t.home h t.home ≡ h
  same = held-same x.held t.home h

  other_area : (q : ℕ) → q ≢ t.home → (with_held x.held t.home h q).area ≡ (x.held q).area
  other_area q n = ap (λ (g : Location). g.area) (other q n)

  other_chain : (q : ℕ) → q ≢ t.home → (with_held x.held t.home h q).chain ≡ (x.held q).chain
  other_chain q n = ap (λ (g : Location). g.chain) (other q n)

  same_chain : (q : ℕ) → q ≡ t.home → (with_held x.held t.home h q).chain ≡ h.chain
  same_chain q e = ap (λ n. (with_held x.held t.home h n).chain) e ∙ ap (λ (g : Location). g.chain) same

  objects : RepresentsObjects y new p.objects
  objects u inu = ⊎_elim
      (λ (e : u.home ≡ t.home).
      let it : RepresentsObject y new t =
      (let P : Location → Type 0 = λ g. (slice_get new t.home ≡ Some (home_word t g)) × Content y new t g.area g.chain in
      let both = subst P (sym same) (c.home, c.content) in
      record { home = both.0; content = both.1 }) in
      let P : PagedObject → Type 0 = λ v. RepresentsObject y new v in
      subst P (sym (s.slots.laid.differ u t inu int e)) it)
      (λ (n : u.home ≡ t.home → ⊥).
      let was = s.objects u inu in
      let stays = c.others u inu n in
      let it = Content-stays x y u (x.held u.home).chain stays.chain core new (x.held u.home).area stays.body was.content in
      let P : Location → Type 0 = λ g. (slice_get new u.home ≡ Some (home_word u g)) × Content y new u g.area g.chain in
      let both = subst P (sym (other u.home n)) (stays.word ∙ was.home, it) in
      let done : RepresentsObject y new u = record { home = both.0; content = both.1 } in
      done)
      (cases_eq u.home t.home)

  info_other : (u : PagedObject) → u.home ≢ t.home → info_of x u ≡ info_of y u
  info_other u n = ap (λ (k : ℕ). let a : Info = record { kind = u.kind; words = length u.numbers; owner = u.home; kept = k } in a) (sym (other_chain u.home n))

  info_same : info_with t h ≡ info_of y t
  info_same = ap (λ (k : ℕ). let a : Info = record { kind = t.kind; words = length t.numbers; owner = t.home; kept = k } in a) (sym (same_chain t.home refl))

  -- the area of another object isn't that of t
  apart : (u : PagedObject) (at : ℕ) → u.home ≢ t.home → area_at x.low x.spans at ≡ Some (info_of x u) → (x.held t.home).area ≢ Some at
  apart u at n there e =
      let o = s.owned.of_held t.home at e in
      grind (arith, same_Some)

  owned : Owned y p.objects
  owned = record {
    of_area = λ at a e. ⊎_elim
        (λ (l : (h.area ≡ Some at) × (a ≡ info_with t h)).
        let r : (u : PagedObject) × Has p.objects u × ((with_held x.held t.home h u.home).area ≡ Some at) × (a ≡ info_of y u) = (t, int, ap (λ (g : Location). g.area) same ∙ l.0, l.1 ∙ info_same) in r)
        (λ (l : (area_at x.low x.spans at ≡ Some a) × ((x.held t.home).area ≢ Some at)).
        let o = s.owned.of_area at a l.0 in
        let n : o.0.home ≢ t.home = λ z. l.1 (ap (λ q. (x.held q).area) (sym z) ∙ o.2) in
        (o.0, o.1, other_area o.0.home n ∙ o.2, o.3 ∙ info_other o.0 n))
        (c.area_of at a e);
    of_held = λ q at e. ⊎_elim
        (λ (z : q ≡ t.home).
        let is : h.area ≡ Some at = sym (ap (λ n. (with_held x.held t.home h n).area) z ∙ ap (λ (g : Location). g.area) same) ∙ e in
        let r : (u : PagedObject) × Has p.objects u × (u.home ≡ q) × (area_at x.low spans at ≡ Some (info_of y u)) = (t, int, sym z, c.area_here at is ∙ ap Some info_same) in r)
        (λ (n : q ≡ t.home → ⊥).
        let o = s.owned.of_held q at (sym (other_area q n) ∙ e) in
        let m : o.0.home ≢ t.home = λ z. n (sym o.2 ∙ z) in
        (o.0, o.1, o.2, c.area_stays at (info_of x o.0) o.3 (apart o.0 at m o.3) ∙ ap Some (info_other o.0 m)))
        (cases_eq q t.home);
    of_chain = λ first some. ⊎_elim
        (λ (e : first ≡ h.chain).
        let r : (u : PagedObject) × Has p.objects u × ((with_held x.held t.home h u.home).chain ≡ first) = (t, int, same_chain t.home refl ∙ sym e) in r)
        (λ (l : (0 < length (chain_of first x.shelf.chains)) × (first ≢ (x.held t.home).chain)).
        let o = s.owned.of_chain first l.0 in
        let n : o.0.home ≢ t.home = λ z. l.1 (sym o.2 ∙ ap (λ q. (x.held q).chain) z) in
        (o.0, o.1, other_chain o.0.home n ∙ o.2))
        (c.chains_of first some);
    no_zero = c.no_zero;
    one_chain = λ u v inu inv some e. ⊎_elim
        (λ (a : u.home ≡ t.home). ⊎_elim
        (λ (b : v.home ≡ t.home). a ∙ sym b)
        (λ (b : v.home ≡ t.home → ⊥). absurd (c.own_chain v inv b (omega (arith, same_chain u.home a)) (sym (other_chain v.home b) ∙ sym e ∙ same_chain u.home a)))
        (cases_eq v.home t.home))
        (λ (a : u.home ≡ t.home → ⊥). ⊎_elim
        (λ (b : v.home ≡ t.home). absurd (c.own_chain u inu a (omega (arith, e, same_chain v.home b)) (sym (other_chain u.home a) ∙ e ∙ same_chain v.home b)))
        (λ (b : v.home ≡ t.home → ⊥). s.owned.one_chain u v inu inv (omega (arith, other_chain u.home a)) (sym (other_chain u.home a) ∙ e ∙ other_chain v.home b))
        (cases_eq v.home t.home))
        (cases_eq u.home t.home);
  }

  pub Represents-reheld : Represents (storage_with x t.home h spans shelf device) new r p
  Represents-reheld = record {
    slots = RepresentsSlots-same core new r x.low p c.bases s.slots;
    stacks = c.stacks;
    objects = objects;
    owned = owned;
    directory = c.directory;
    inside = rw c.size s.inside;
  }
