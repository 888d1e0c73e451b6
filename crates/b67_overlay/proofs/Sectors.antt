-- The sectors of objects after an array was written, or was not.
use Rattle.std.proofs.Common.{◌≡◌, ◌≢◌, ℕ, zero, suc, ◌+◌, ◌-◌, ◌<◌, ◌≤◌, ◌^◌, ◌==◌, List, [], ◌∷◌, length, map, take, drop, Option, Some, refl, sym, ◌∙◌, ap, arith, inl, inr, ◌⊎◌, ⊎_elim, subst}
use Rattle.std.specs.Prelude.{slice_range}
use Rattle.std.proofs.lemmas.Bool.{cases_eq, cond-true, cond-false, eq-eqb, ne_eqb}
use Rattle.std.proofs.lemmas.Option.{same_Some}
use Rattle.b67_word.specs.Tagged.{Tagged}
use Rattle.b67_word.specs.Numbers.{number}
use Rattle.b67_area.specs.declared.Kind.{Kind}
use Rattle.b67_area.specs.declared.Kind.TheVariants.{Array, Row, Code}
use Rattle.b67_area.specs.Spans.{Span, area_at}
use Rattle.b67_area.specs.Directory.{IsDirectory}
use Rattle.b67_area.specs.declared.Info.{Info}
use Rattle.b67_backing.specs.Shelf.{Shelf, Table, IsShelf, first, taken, chain_of}
use Rattle.b67_backing.specs.Held.{sectors_for, SameBut, Stores}
use Rattle.b67_backing.proofs.News.{chain_of-taken}
use Rattle.b67_ctl.specs.declared.registers.Regs.{Regs}
use Rattle.b67_lemmas.specs.Lists.{Has}
use Rattle.b67_stack.specs.Common.{Locations, LieUpward, PagedObject, MachineView, object_words, Storage, Represents, Content, KeptChain, ObjectHasChain, HoldsIn, Told, StacksLie, info_of}
use Rattle.b67_stack.proofs.Homes.{chain_small}
use Rattle.b67_stack.proofs.Lies.{upward-take}
use Rattle.b67_layout.specs.Machine.{IsPresent, Says, content_after}
use Rattle.b67_layout.proofs.Helds.{held-back}
use Rattle.b67_stack.proofs.Reheld.{Reheld, storage_with, Represents-reheld}
use Rattle.b67_stack.proofs.Unchanged.{area_of_object, area_bounds}
use Rattle.b67_layout.proofs.Chained.{Content-chain}
use Rattle.b67_overlay.specs.Overlaid.{chain_out, shelf_out, sectors_out, retelling, overlaid, dropped, IsOut}
use Rattle.b67_layout.proofs.Retold.{retold-same}
use Rattle.b67_overlay.proofs.Chains.{Apart, chains_apart, free_apart, free_first, Told-same, Told-stored}

pub range_up : (core : List Tagged) (at n : ℕ) (ws : List Tagged) → length ws ≡ n → LieUpward core at ws → slice_range core at (at + n) ≡ ws
range_up core at n ws e u = ap (λ (k : ℕ). take k (drop at core)) (let z : at + n - at ≡ length ws = omega arith in z) ∙ upward-take core at ws u

pub sectors_some : (n : ℕ) → 0 < n → 1 ≤ sectors_for n
sectors_some n h = omega arith

-- what is known of an area
pub record About (x : Storage) (core : List Tagged) (area : ℕ) (t : PagedObject) : Type 0 where
  pub here : area_at x.low x.spans area ≡ Some (info_of x t)
  pub some : 0 < length t.numbers
  pub few : length t.numbers < 2 ^ 16
  pub small : (x.held t.home).chain < 2 ^ 20
  pub inside : area + length t.numbers < length core
  pub words : LieUpward core area (object_words t)
  pub keeps : KeptChain x t t.kind (x.held t.home).chain

module _ (x : Storage) (core : List Tagged) (r : Regs) (p : MachineView) (s : Represents x core r p) (area : ℕ) (t : PagedObject) (at : IsPresent x p area t) where
  pub about : About x core area t
  about =
      let l = s.slots.laid.lengths t at.there in
      let C : Option ℕ → Type 0 = λ o. Content x core t o (x.held t.home).chain in
      let c = subst C at.present (s.objects t at.there).content in
      record {
        here = area_of_object x core r p s t at.there area at.present;
        some = l.0;
        few = l.1;
        small = chain_small x core t (x.held t.home).area (x.held t.home).chain (s.objects t at.there).content;
        inside = (area_bounds x core r p s t at.there area at.present).1;
        words = c.0;
        keeps = c.1;
      }

  -- by the directory, and by what info says of it
  module _ (low : ℕ) (is : low ≡ x.low) where
    pub directory_at : IsDirectory core low x.spans
    directory_at = subst (λ (n : ℕ). IsDirectory core n x.spans) (sym is) s.directory

    pub area_here : area_at low x.spans area ≡ Some (info_of x t)
    area_here = ap (λ (n : ℕ). area_at n x.spans area) is ∙ about.here

    pub info_is : (i : Info) → ((spans : List Span) (j : Info) → IsDirectory core low spans → area_at low spans area ≡ Some j → i ≡ j) → i ≡ info_of x t
    info_is i says = says x.spans (info_of x t) directory_at area_here

  object_chain : (u : PagedObject) → Has p.objects u → ((x.held u.home).chain ≡ 0) ⊎ ObjectHasChain x u (x.held u.home).chain
  object_chain u inu = Content-chain x core u (x.held u.home).area (x.held u.home).chain (s.objects u inu).content

  -- another object has another chain
  other_chain : (u : PagedObject) → Has p.objects u → u.home ≢ t.home → 0 < (x.held t.home).chain → (x.held u.home).chain ≢ (x.held t.home).chain
  other_chain u inu m some e = m (s.owned.one_chain u t inu at.there (omega (arith, e)) e)

  clean_kind : (k : Kind) → k ≢ Array → KeptChain x t k (x.held t.home).chain → HoldsIn x t (x.held t.home).chain
  clean_kind Array m k = absurd (m refl)
  clean_kind Row m k = k
  clean_kind Code m k = k

  -- code and data rows are in their chains
  pub out_clean : t.kind ≢ Array → IsOut x x p t (x.held t.home).chain
  out_clean m =
      let holds = clean_kind t.kind m about.keeps in
      record {
        holds = holds;
        others = λ u inu n. record { chain = refl; told = λ ns q. q };
        chains = λ f some. ⊎_elim
            (λ (e : f ≡ (x.held t.home).chain). inl e)
            (λ (n : f ≡ (x.held t.home).chain → ⊥). inr (some, n))
            (cases_eq f (x.held t.home).chain);
        no_zero = s.owned.no_zero;
        own = λ u inu n. other_chain u inu n holds.chain.some;
      }

  pub overlaid_clean : (told : Option (List (List ℕ))) → Says x.device told → t.kind ≢ Array → dropped x x t area (x.held t.home).chain ≡ overlaid x t area told
  overlaid_clean told says m =
      let n : (x.held t.home).chain ≢ 0 = λ e. omega (arith, (clean_kind t.kind m about.keeps).chain.some, e) in
      let q = ne_eqb (x.held t.home).chain 0 n in
      by ((x.held t.home).chain) (chain_out x.shelf (x.held t.home).chain) x.shelf (shelf_out x.shelf (x.held t.home).chain (length t.numbers)) x.device (content_after x.device told)
      (sym (cond-false ((x.held t.home).chain == 0) _ _ q)) (sym (cond-false ((x.held t.home).chain == 0) _ _ q)) (sym (retold-same x.device told says)) where
        by : (f f' : ℕ) (k k' : Shelf) (d d' : Option (List (List ℕ))) → f ≡ f' → k ≡ k' → d ≡ d' → dropped x (record x { shelf = k; device = d }) t area f ≡ dropped x (record x { shelf = k'; device = d' }) t area f'
        by f f' k k' d d' a b e = rw (a, b, e) refl

  module _ (table : Table) (told new : Option (List (List ℕ))) (sh : IsShelf table x.shelf) (says : Says x.device told) (array : t.kind ≡ Array) where
    abbrev kept : ℕ
    kept = (x.held t.home).chain

    abbrev n : ℕ
    n = length t.numbers

    pub kept_chain : (kept ≡ 0) ⊎ ObjectHasChain x t kept
    kept_chain = let K : Kind → Type 0 = λ k. KeptChain x t k kept in subst K array about.keeps

    -- the sectors that may have been written are none of another object's
    apart_out : (u : PagedObject) → Has p.objects u → u.home ≢ t.home → Apart (sectors_out x.shelf kept n) (chain_of (x.held u.home).chain x.shelf.chains)
    apart_out u inu m = ⊎_elim
        (λ (z : kept ≡ 0).
        let P : ℕ → Type 0 = λ k. Apart (sectors_out x.shelf k n) (chain_of (x.held u.home).chain x.shelf.chains) in
        let e : chain_of (first x.shelf.free) (taken (sectors_for n) x.shelf).chains ≡ take (sectors_for n) x.shelf.free =
        chain_of-taken (sectors_for n) (first x.shelf.free) (first x.shelf.free) x.shelf (sectors_some n about.some) refl ∙ cond-true (first x.shelf.free == first x.shelf.free) _ _ (eq-eqb (first x.shelf.free) (first x.shelf.free) refl) in
        let Q : List ℕ → Type 0 = λ k. Apart k (chain_of (x.held u.home).chain x.shelf.chains) in
        subst P (sym z) (subst Q (sym e) (free_apart table x.shelf sh (x.held u.home).chain (sectors_for n))))
        (λ (h : ObjectHasChain x t kept).
        let q = ne_eqb kept 0 (λ e. omega (arith, h.some, e)) in
        let e : sectors_out x.shelf kept n ≡ chain_of kept x.shelf.chains = rw q refl in
        let Q : List ℕ → Type 0 = λ k. Apart k (chain_of (x.held u.home).chain x.shelf.chains) in
        subst Q (sym e) (chains_apart table x.shelf sh (x.held u.home).chain kept (other_chain u inu m h.some)))
        kept_chain

    told_other : ((all : List (List ℕ)) → told ≡ Some all → (y : List (List ℕ)) × (new ≡ Some y) × SameBut (sectors_out x.shelf kept n) all y) → (u : PagedObject) → Has p.objects u → u.home ≢ t.home
        → (ns : List ℕ) → Told x.device (chain_of (x.held u.home).chain x.shelf.chains) ns → Told (content_after x.device new) (chain_of (x.held u.home).chain x.shelf.chains) ns
    told_other f u inu m ns h = Told-same (sectors_out x.shelf kept n) (chain_of (x.held u.home).chain x.shelf.chains) ns x.device told new says f (apart_out u inu m) h

    -- what was not written, or not to its end
    pub Represents-retold : ((all : List (List ℕ)) → told ≡ Some all → (y : List (List ℕ)) × (new ≡ Some y) × SameBut (sectors_out x.shelf kept n) all y) → Represents (retelling x new) core r p
    Represents-retold f =
        let d = content_after x.device new in
        let z = storage_with x t.home (x.held t.home) x.spans x.shelf d in
        let P : Option ℕ → Type 0 = λ o. Content z core t o kept in
        let K : Kind → Type 0 = λ k. KeptChain z t k kept in
        let chain : (kept ≡ 0) ⊎ ObjectHasChain z t kept = ⊎_elim (λ (e : kept ≡ 0). inl e) (λ (h : ObjectHasChain x t kept). let g : ObjectHasChain z t kept = record { some = h.some; small = h.small; sectors = h.sectors } in inr g) kept_chain in
        let a = about in
        let re : Reheld x core core p t (x.held t.home) x.spans x.shelf d = record {
          bases = λ k hk. refl;
          stacks = (let S : Locations → Type 0 = λ m. StacksLie m core p in subst S (sym (held-back x.held t.home)) s.stacks);
          home = (s.objects t at.there).home;
          content = subst P (sym at.present) (a.words, subst K (sym array) chain);
          others = λ u inu m. record { word = refl; body = λ b e q low high. refl; chain = record { chain = refl; told = told_other f u inu m } };
          area_of = λ b i e. ⊎_elim
              (λ (q : area ≡ b). inl (at.present ∙ ap Some q, same_Some _ _ (sym e ∙ ap (area_at x.low x.spans) (sym q) ∙ a.here)))
              (λ (m : area ≡ b → ⊥). inr (e, λ q. m (same_Some _ _ (sym at.present ∙ q))))
              (cases_eq area b);
          area_here = λ b e. ap (area_at x.low x.spans) (same_Some _ _ (sym e ∙ at.present)) ∙ a.here;
          area_stays = λ b i e m. e;
          chains_of = λ g some. ⊎_elim (λ (e : g ≡ kept). inl e) (λ (m : g ≡ kept → ⊥). inr (some, m)) (cases_eq g kept);
          no_zero = s.owned.no_zero;
          own_chain = λ u inu m some. other_chain u inu m some;
          directory = s.directory;
          size = refl;
        } in
        let Q : Locations → Type 0 = λ m. Represents (record { held = m; low = x.low; spans = x.spans; shelf = x.shelf; device = d }) core r p in
        subst Q (held-back x.held t.home) (Represents-reheld x core core r p t (x.held t.home) x.spans x.shelf d at.there s re)

    numbers : List ℕ
    numbers = map number (object_words t)

    module _ (f : (all : List (List ℕ)) → told ≡ Some all → (y : List (List ℕ)) × (new ≡ Some y) × Stores (sectors_out x.shelf kept n) (map number (object_words t)) all y) (room : kept ≡ 0 → sectors_for n ≤ length x.shelf.free) where
      abbrev out : Storage
      out = record x { shelf = shelf_out x.shelf kept n; device = content_after x.device new }

      same : (all : List (List ℕ)) → told ≡ Some all → (y : List (List ℕ)) × (new ≡ Some y) × SameBut (sectors_out x.shelf kept n) all y
      same all e = let (y, is, st) = f all e in (y, is, st.same)

      written : Told (content_after x.device new) (sectors_out x.shelf kept n) (map number (object_words t))
      written = Told-stored (sectors_out x.shelf kept n) (map number (object_words t)) x.device told new says f

      -- in the chain that was kept
      out_kept : ObjectHasChain x t kept → IsOut x out p t (chain_out x.shelf kept)
      out_kept h =
          let q = ne_eqb kept 0 (λ e. omega (arith, h.some, e)) in
          let ec : chain_out x.shelf kept ≡ kept = cond-false (kept == 0) _ _ q in
          let es : shelf_out x.shelf kept n ≡ x.shelf = cond-false (kept == 0) _ _ q in
          let eo : sectors_out x.shelf kept n ≡ chain_of kept x.shelf.chains = rw q refl in
          let W : List ℕ → Type 0 = λ k. Told (content_after x.device new) k (map number (object_words t)) in
          let y : Storage = record x { shelf = x.shelf; device = content_after x.device new } in
          let done : IsOut x y p t kept = record {
            holds = record { chain = record { some = h.some; small = h.small; sectors = h.sectors }; told = subst W eo written };
            others = λ u inu m. record { chain = refl; told = told_other same u inu m };
            chains = λ g some. ⊎_elim (λ (e : g ≡ kept). inl e) (λ (m : g ≡ kept → ⊥). inr (some, m)) (cases_eq g kept);
            no_zero = s.owned.no_zero;
            own = λ u inu m. other_chain u inu m h.some;
          } in
          let P : Shelf → ℕ → Type 0 = λ k g. IsOut x (record x { shelf = k; device = content_after x.device new }) p t g in
          subst (λ (k : Shelf). P k (chain_out x.shelf kept)) (sym es) (subst (λ (g : ℕ). P x.shelf g) (sym ec) done)

      -- in a new chain
      out_new : kept ≡ 0 → IsOut x out p t (chain_out x.shelf kept)
      out_new zero_kept =
          let m = sectors_for n in
          let some = sectors_some n about.some in
          let f0 = first x.shelf.free in
          let ff = free_first table x.shelf sh m some (room zero_kept) in
          let q = eq-eqb kept 0 zero_kept in
          let ec : chain_out x.shelf kept ≡ f0 = cond-true (kept == 0) _ _ q in
          let es : shelf_out x.shelf kept n ≡ taken m x.shelf = cond-true (kept == 0) _ _ q in
          let chain : chain_of f0 (taken m x.shelf).chains ≡ take m x.shelf.free = chain_of-taken m f0 f0 x.shelf some refl ∙ cond-true (f0 == f0) _ _ (eq-eqb f0 f0 refl) in
          let other : (g : ℕ) → f0 ≢ g → chain_of g (taken m x.shelf).chains ≡ chain_of g x.shelf.chains = λ g w. chain_of-taken m f0 g x.shelf some refl ∙ cond-false (f0 == g) _ _ (ne_eqb f0 g w) in
          let eo : sectors_out x.shelf kept n ≡ chain_of f0 (taken m x.shelf).chains = rw q refl in
          let W : List ℕ → Type 0 = λ k. Told (content_after x.device new) k (map number (object_words t)) in
          let own : (u : PagedObject) → Has p.objects u → u.home ≢ t.home → (x.held u.home).chain ≢ f0 = λ u inu w e. ⊎_elim
          (λ (z : (x.held u.home).chain ≡ 0). let b : ⊥ = omega (arith, ff.0, e, z) in b)
          (λ (h : ObjectHasChain x u (x.held u.home).chain). let b : ⊥ = omega (arith, h.sectors, ap (λ k. length (chain_of k x.shelf.chains)) e, ap length ff.2, sectors_some (length u.numbers) (s.slots.laid.lengths u inu).0) in b)
          (object_chain u inu) in
          let y : Storage = record x { shelf = taken m x.shelf; device = content_after x.device new } in
          let done : IsOut x y p t f0 = record {
            holds = record { chain = record { some = ff.0; small = omega (arith, ff.1, sh.small); sectors = ap length chain ∙ length_taken m x.shelf.free (room zero_kept) }; told = subst W eo written };
            others = λ u inu w. record { chain = other (x.held u.home).chain (λ e. own u inu w (sym e)); told = told_other same u inu w };
            chains = λ g has. ⊎_elim
                (λ (e : f0 ≡ g). inl (sym e))
                (λ (w : f0 ≡ g → ⊥).
                let old : 0 < length (chain_of g x.shelf.chains) = omega (arith, ap length (other g w), has) in
                let r : (0 < length (chain_of g x.shelf.chains)) × (g ≢ kept) = (old, λ e. omega (arith, old, ap length (ap (λ k. chain_of k x.shelf.chains) (e ∙ zero_kept) ∙ s.owned.no_zero))) in inr r)
                (cases_eq f0 g);
            no_zero = other 0 (λ e. omega (arith, ff.0, e)) ∙ s.owned.no_zero;
            own = own;
          } in
          let P : Shelf → ℕ → Type 0 = λ k g. IsOut x (record x { shelf = k; device = content_after x.device new }) p t g in
          subst (λ (k : Shelf). P k (chain_out x.shelf kept)) (sym es) (subst (λ (g : ℕ). P (taken m x.shelf) g) (sym ec) done) where
            length_taken : (m : ℕ) (fs : List ℕ) → m ≤ length fs → length (take m fs) ≡ m
            length_taken zero fs h = refl
            length_taken (suc m) [] h = absurd (omega arith)
            length_taken (suc m) (c ∷ cs) h = ap suc (length_taken m cs (omega arith))

      pub out_written : IsOut x out p t (chain_out x.shelf kept)
      out_written = ⊎_elim out_new out_kept kept_chain
