-- Where the device tells nothing, an absent object may have any numbers.
use Rattle.std.proofs.Common.{◌≡◌, ◌≢◌, ℕ, ◌<◌, ◌≤◌, ◌^◌, List, [], ◌∷◌, length, map, Option, Some, None, refl, sym, ◌∙◌, ap, arith, inl, inr, ⊎_elim, subst}
use Rattle.std.proofs.lemmas.Bool.{cases_eq, eq-eqb, ne_eqb}
use Rattle.b67_word.specs.Tagged.{Tagged}
use Rattle.b67_area.specs.declared.Info.{Info}
use Rattle.b67_area.specs.declared.Kind.{Kind}
use Rattle.b67_area.specs.declared.Kind.TheVariants.{Code}
use Rattle.b67_backing.specs.Held.{sectors_for}
use Rattle.b67_lemmas.specs.Lists.{Has}
use Rattle.b67_lemmas.proofs.Members.{has_map}
use Rattle.b67_ctl.specs.declared.registers.Regs.{Regs}
use Rattle.b67_stack.specs.Common.{PagedObject, MachineView, Slot, Free, Running, Waiting, SlotFits, IsArrayAt, IsLaidOut, slot_base, home_word_of, Storage, RepresentsSlot, RepresentsObjects, RepresentsObject, Content, AbsentContent, Told, Owned, info_of, Represents, renumber, renumbered, LowWordsStayed}

-- an object of other numbers, as many
pub record Alike (u v : PagedObject) : Type 0 where
  pub home : v.home ≡ u.home
  pub kind : v.kind ≡ u.kind
  pub count : length v.numbers ≡ length u.numbers

Has-map : {A B : Type 0} (f : A → B) (xs : List A) (y : B) → Has (map f xs) y → (x : A) × Has xs x × (f x ≡ y)
Has-map f [] y h = absurd h
Has-map f (x ∷ xs) y (inl e) = (x, inl refl, e)
Has-map f (x ∷ xs) y (inr h) = let r = Has-map f xs y h in (r.0, inr r.1, r.2)

pub renumber-there : (home : ℕ) (ns : List ℕ) (t : PagedObject) → t.home ≡ home → renumber home ns t ≡ record t { numbers = ns }
renumber-there home ns t e = rw (eq-eqb t.home home e) refl

pub renumber-other : (home : ℕ) (ns : List ℕ) (t : PagedObject) → t.home ≢ home → renumber home ns t ≡ t
renumber-other home ns t n = rw (ne_eqb t.home home n) refl

module _ (x : Storage) (core : List Tagged) (r : Regs) (p : MachineView) (s : Represents x core r p) (t : PagedObject) (int : Has p.objects t) (ns : List ℕ) (count : length ns ≡ length t.numbers) where
  abbrev f : PagedObject → PagedObject
  f = renumber t.home ns

  abbrev p' : MachineView
  p' = renumbered p t.home ns

  alike : (u : PagedObject) → Has p.objects u → Alike u (f u)
  alike u inu = ⊎_elim
      (λ (e : u.home ≡ t.home).
      let same = s.slots.laid.differ u t inu int e in
      let A : PagedObject → Type 0 = λ v. Alike u v in
      let it : Alike u (record u { numbers = ns }) = record { home = refl; kind = refl; count = count ∙ ap (λ (v : PagedObject). length v.numbers) (sym same) } in
      subst A (sym (renumber-there t.home ns u e)) it)
      (λ (n : u.home ≡ t.home → ⊥). let A : PagedObject → Type 0 = λ v. Alike u v in let it : Alike u u = record { home = refl; kind = refl; count = refl } in subst A (sym (renumber-other t.home ns u n)) it)
      (cases_eq u.home t.home)

  -- what holds of each old object's other self
  each : (P : PagedObject → Type 0) → ((u : PagedObject) → Has p.objects u → P (f u)) → (v : PagedObject) → Has p'.objects v → P v
  each P h v inv = let o = Has-map f p.objects v inv in subst P o.2 (h o.0 o.1)

  named : (home : ℕ) → IsArrayAt p.objects home → IsArrayAt p'.objects home
  named home a = (f a.0, has_map f p.objects a.0 a.1, (alike a.0 a.1).home ∙ a.2, λ e. a.3 (sym (alike a.0 a.1).kind ∙ e))

  fits : (k : ℕ) (y : Slot) → SlotFits p k y → SlotFits p' k y
  fits k Free h = h
  fits k (Running stack) h = (h.0, λ c home there. named home (h.1 c home there))
  fits k (Waiting stack) h = (h.0, λ c home there. named home (h.1 c home there))

  laid : IsLaidOut x.low p'
  laid = let l = s.slots.laid in record {
    low = l.low;
    first = l.first;
    room = l.room;
    slots = λ k h. fits k (p.slots k) (l.slots k h);
    homes = each (λ v. (160 ≤ v.home) × (v.home < x.low)) (λ u inu. let h = l.homes u inu in (omega (arith, (alike u inu).home), omega (arith, (alike u inu).home)));
    codes = each (λ v. v.kind ≡ Code → v.home < p.stacks) (λ u inu e. omega (arith, (alike u inu).home, l.codes u inu (sym (alike u inu).kind ∙ e)));
    differ = λ v w inv inw. each (λ v. v.home ≡ w.home → v ≡ w) (λ u inu. each (λ w. (f u).home ≡ w.home → f u ≡ w) (λ z inz e. ap f (l.differ u z inu inz (sym (alike u inu).home ∙ e ∙ (alike z inz).home))) w inw) v inv;
    not_base = each (λ v. (k : ℕ) → k < p.peak → v.home ≢ slot_base p k) (λ u inu k h e. l.not_base u inu k h (sym (alike u inu).home ∙ e));
    lengths = each (λ v. (0 < length v.numbers) × (length v.numbers < 2 ^ 16)) (λ u inu. let h = l.lengths u inu in (omega (arith, (alike u inu).count), omega (arith, (alike u inu).count)));
  }

  slot_stands : (k : ℕ) (y : Slot) → RepresentsSlot core r p k y → RepresentsSlot core r p' k y
  slot_stands k Free h = h
  slot_stands k (Running stack) h = record { slot = h.slot; first = h.first; last = h.last; top = h.top; mark = h.mark; level = h.level }
  slot_stands k (Waiting stack) h = h

  info_alike : (u : PagedObject) → Has p.objects u → info_of x u ≡ info_of x (f u)
  info_alike u inu =
      let a = alike u inu in
      by u.kind (f u).kind (length u.numbers) (length (f u).numbers) u.home (f u).home (sym a.kind) (sym a.count) (sym a.home) where
        by : (k k' : Kind) (n n' q q' : ℕ) → k ≡ k' → n ≡ n' → q ≡ q' → ◌≡◌ {A = Info} (record { kind = k; words = n; owner = q; kept = (x.held q).chain }) (record { kind = k'; words = n'; owner = q'; kept = (x.held q').chain })
        by k k' n n' q q' e g h = rw (e, g, h) refl

  owned : Owned x p'.objects
  owned = record {
    of_area = λ at a e. let o = s.owned.of_area at a e in (f o.0, has_map f p.objects o.0 o.1, ap (λ q. (x.held q).area) (alike o.0 o.1).home ∙ o.2, o.3 ∙ info_alike o.0 o.1);
    of_held = λ q at e. let o = s.owned.of_held q at e in (f o.0, has_map f p.objects o.0 o.1, (alike o.0 o.1).home ∙ o.2, o.3 ∙ ap Some (info_alike o.0 o.1));
    of_chain = λ first some. let o = s.owned.of_chain first some in (f o.0, has_map f p.objects o.0 o.1, ap (λ q. (x.held q).chain) (alike o.0 o.1).home ∙ o.2);
    no_zero = s.owned.no_zero;
    one_chain = λ v w inv inw. each (λ v. 0 < (x.held v.home).chain → (x.held v.home).chain ≡ (x.held w.home).chain → v.home ≡ w.home)
        (λ u inu. each (λ w. 0 < (x.held (f u).home).chain → (x.held (f u).home).chain ≡ (x.held w.home).chain → (f u).home ≡ w.home)
        (λ z inz some e.
        let a = ap (λ q. (x.held q).chain) (alike u inu).home in
        let b = ap (λ q. (x.held q).chain) (alike z inz).home in
        (alike u inu).home ∙ s.owned.one_chain u z inu inz (omega (arith, a)) (sym a ∙ e ∙ b) ∙ sym (alike z inz).home) w inw) v inv;
  }

  module _ (untold : x.device ≡ None) (absent : (x.held t.home).area ≡ None) (chain : 0 < (x.held t.home).chain) where
    abbrev t' : PagedObject
    t' = record t { numbers = ns }

    there : RepresentsObject x core t'
    there = record {
      home = (s.objects t int).home ∙ ap (λ n. Some (home_word_of t.kind n (x.held t.home))) (sym count);
      content = let was = (s.objects t int).content in
          let C : Option ℕ → Type 0 = λ a. Content x core t a (x.held t.home).chain in
          let D : Option ℕ → Type 0 = λ a. Content x core t' a (x.held t.home).chain in
          subst D (sym absent) (rests (subst C absent was));
    } where
      told : (device : Option (List (List ℕ))) (k ms : List ℕ) → device ≡ None → Told device k ms
      told None k ms e = tt
      told (Some all) k ms e = absurd (let z : ⊥ = cc in z)

      rests : AbsentContent x t (x.held t.home).chain → AbsentContent x t' (x.held t.home).chain
      rests (inl h) = inl (record { chain = record { some = h.chain.some; small = h.chain.small; sectors = ap length refl ∙ h.chain.sectors ∙ ap sectors_for (sym count) }; told = told x.device _ _ untold })
      rests (inr z) = absurd (omega (arith, z.0))

    objects : RepresentsObjects x core p'.objects
    objects = each (RepresentsObject x core) (λ u inu. ⊎_elim
        (λ (e : u.home ≡ t.home). let P : PagedObject → Type 0 = λ v. RepresentsObject x core (f v) in subst P (sym (s.slots.laid.differ u t inu int e)) (let Q : PagedObject → Type 0 = λ v. RepresentsObject x core v in subst Q (sym (renumber-there t.home ns t refl)) there))
        (λ (n : u.home ≡ t.home → ⊥). let Q : PagedObject → Type 0 = λ v. RepresentsObject x core v in subst Q (sym (renumber-other t.home ns u n)) (s.objects u inu))
        (cases_eq u.home t.home))

    pub Represents-renumbered : Represents x core r (renumbered p t.home ns)
    Represents-renumbered = record {
      slots = record { laid = laid; regs = record { stacks = s.slots.regs.stacks; size = s.slots.regs.size; peak = s.slots.regs.peak }; slots = λ k h. slot_stands k (p.slots k) (s.slots.slots k h) };
      stacks = s.stacks;
      objects = objects;
      owned = owned;
      directory = s.directory;
      inside = s.inside;
    }

  pub there_renumbered : Has (renumbered p t.home ns).objects (record t { numbers = ns })
  there_renumbered = let Q : PagedObject → Type 0 = λ v. Has (map f p.objects) v in subst Q (renumber-there t.home ns t refl) (has_map f p.objects t int)

map-id : {A : Type 0} (f : A → A) (xs : List A) → ((x : A) → Has xs x → f x ≡ x) → map f xs ≡ xs
map-id {A} f [] h = refl
map-id {A} f (x ∷ xs) h = ap (λ (y : A). y ∷ map f xs) (h x (inl refl)) ∙ ap (λ (ys : List A). x ∷ ys) (map-id f xs (λ y there. h y (inr there)))

-- the numbers that it had
pub renumbered-same : (x : Storage) (core : List Tagged) (r : Regs) (p : MachineView) → Represents x core r p → (t : PagedObject) → Has p.objects t → renumbered p t.home t.numbers ≡ p
renumbered-same x core r p s t int =
    ap (λ (objects : List PagedObject). let q : MachineView = record { stacks = p.stacks; size = p.size; peak = p.peak; slots = p.slots; objects = objects } in q)
    (map-id (renumber t.home t.numbers) p.objects (λ u inu. ⊎_elim
    (λ (e : u.home ≡ t.home). let same = s.slots.laid.differ u t inu int e in ap (renumber t.home t.numbers) same ∙ renumber-there t.home t.numbers t refl ∙ sym same)
    (λ (n : u.home ≡ t.home → ⊥). renumber-other t.home t.numbers u n)
    (cases_eq u.home t.home)))

-- another object is still there
pub kept_there : (p : MachineView) (home : ℕ) (ns : List ℕ) (c : PagedObject) → Has p.objects c → c.home ≢ home → Has (renumbered p home ns).objects c
kept_there p home ns c int n = let Q : PagedObject → Type 0 = λ v. Has (map (renumber home ns) p.objects) v in subst Q (renumber-other home ns c n) (has_map (renumber home ns) p.objects c int)

pub Stayed-renumbered : (p : MachineView) (home : ℕ) (ns : List ℕ) (core new : List Tagged) → LowWordsStayed (renumbered p home ns) core new → LowWordsStayed p core new
Stayed-renumbered p home ns core new s i low out apart = s i low out (λ v inv e. let o = Has-map (renumber home ns) p.objects v inv in apart o.0 o.1 (sym (home_is o.0) ∙ ap (λ (u : PagedObject). u.home) o.2 ∙ e)) where
  home_is : (u : PagedObject) → (renumber home ns u).home ≡ u.home
  home_is u = ⊎_elim
      (λ (e : u.home ≡ home). ap (λ (v : PagedObject). v.home) (renumber-there home ns u e))
      (λ (n : u.home ≡ home → ⊥). ap (λ (v : PagedObject). v.home) (renumber-other home ns u n))
      (cases_eq u.home home)
