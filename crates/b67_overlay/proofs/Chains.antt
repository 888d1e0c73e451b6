-- Chains of a shelf, and what those that weren't written still hold.
use Rattle.std.proofs.Common.{◌≡◌, ◌≢◌, ℕ, zero, suc, ◌+◌, ◌<◌, ◌≤◌, ◌==◌, List, [], ◌∷◌, ◌++◌, length, take, drop, Option, Some, None, refl, sym, ◌∙◌, ap, arith, ⊎_elim, subst}
use Rattle.std.proofs.lemmas.List.{take-append-drop}
use Rattle.std.proofs.lemmas.Bool.{cases_eq, cond-true, eq-eqb}
use Rattle.b67_backing.specs.Shelf.{Shelf, Table, IsShelf, Linked, times, uses, first, taken, given, chain_of, others}
use Rattle.b67_backing.specs.Held.{sectors_for, SameBut, Stores, Fills}
use Rattle.b67_backing.proofs.Links.{one-same, one-other, times-append, uses-split, chain_there, rest, linked_within}
use Rattle.b67_backing.proofs.News.{chain_of-others, first_take}
use Rattle.b67_backing.proofs.Tallies.{AllBelow}
use Rattle.b67_backing.proofs.Walks.{all_below}
use Rattle.b67_stack.specs.Represents.{Told}
use Rattle.b67_layout.specs.Machine.{Says, content_after}
use Rattle.b67_overlay.specs.Overlaid.{sectors_out}

-- a chain that is taken and given back
pub given_taken : (n x : ℕ) (st : Shelf) → 1 ≤ n → n ≤ length st.free → x ≡ first st.free → given x (taken n st) ≡ st
given_taken n x st some fits e =
    let t = eq-eqb (first (take n st.free)) x (first_take n st.free some ∙ sym e) in
    let free : chain_of x (taken n st).chains ++ drop n st.free ≡ st.free = ap (λ (k : List ℕ). k ++ drop n st.free) (cond-true (first (take n st.free) == x) _ _ t) ∙ take-append-drop n st.free in
    let chains : others x (taken n st).chains ≡ st.chains = cond-true (first (take n st.free) == x) _ _ t in
    by (chain_of x (taken n st).chains ++ drop n st.free) (others x (taken n st).chains) free chains where
      by : (f : List ℕ) (k : List (List ℕ)) → f ≡ st.free → k ≡ st.chains → ◌≡◌ {A = Shelf} (record { free = f; chains = k }) st
      by f k a b = rw (a, b) refl

pub new_out : (st : Shelf) (kept words : ℕ) → kept ≡ 0 → sectors_out st kept words ≡ chain_of (first st.free) (taken (sectors_for words) st).chains
new_out st kept words z = rw z refl

-- each of these sectors is in no list that counts them 0
abbrev pub Apart : List ℕ → List ℕ → Type 0
Apart ks [] = Unit {0}
Apart ks (c ∷ cs) = (1 ≤ c) × (times c ks ≡ 0) × Apart ks cs

apart_each : (ks cs : List ℕ) → ((c : ℕ) → 1 ≤ times c cs → (1 ≤ c) × (times c ks ≡ 0)) → Apart ks cs
apart_each ks [] f = tt
apart_each ks (c ∷ cs) f = let h = f c (omega (arith, one-same c)) in (h.0, h.1, apart_each ks cs (λ d some. f d (omega arith)))

times_in : (n c : ℕ) (cs : List ℕ) → AllBelow n cs → 1 ≤ times c cs → c < n
times_in n c [] a h = absurd (omega arith)
times_in n c (d ∷ cs) a h = ⊎_elim
    (λ (e : c ≡ d). omega (arith, a.0))
    (λ (m : c ≡ d → ⊥). times_in n c cs a.1 (omega (arith, one-other c d m)))
    (cases_eq c d)

times-none : (c : ℕ) (cs : List ℕ) → 1 ≤ times c cs → 1 ≤ length cs
times-none c [] h = absurd (omega arith)
times-none c (d ∷ cs) h = omega arith

-- a sector of a chain has a number of the table
chain_inside : (t : Table) (st : Shelf) (u c : ℕ) → IsShelf t st → 1 ≤ times c (chain_of u st.chains) → c < length t.links
chain_inside t st u c s some =
    let k = chain_there t.links u st.chains s.chains (times-none c (chain_of u st.chains) some) in
    let below : AllBelow (length t.links) (chain_of u st.chains) = rw k.is (linked_within t.links u (rest (chain_of u st.chains)) k.linked, all_below t.links u (rest (chain_of u st.chains)) k.linked) in
    times_in (length t.links) c (chain_of u st.chains) below some

module _ (t : Table) (st : Shelf) (s : IsShelf t st) where
  used_once : (c : ℕ) → 1 ≤ uses c st.chains → c < length t.links → (1 ≤ c) × (times c st.free + uses c st.chains ≡ 1)
  used_once zero some h = absurd (omega (arith, s.zero))
  used_once (suc c) some h = (omega arith, s.once (suc c) (omega arith) h)

  -- two chains have no sector in common
  pub chains_apart : (u f : ℕ) → u ≢ f → Apart (chain_of f st.chains) (chain_of u st.chains)
  chains_apart u f n = apart_each (chain_of f st.chains) (chain_of u st.chains) (λ c some.
      let a = uses-split c f st.chains in
      let b = uses-split c u (others f st.chains) in
      let e = ap (times c) (chain_of-others f u st.chains n) in
      let o = used_once c (omega (arith, a, b, e)) (chain_inside t st u c s some) in
      (o.0, omega (arith, a, b, e, o.1)))

  times-take : (v i : ℕ) (xs : List ℕ) → times v (take i xs) ≤ times v xs
  times-take v i xs = omega (arith, times-append v (take i xs) (drop i xs), ap (times v) (take-append-drop i xs))

  -- nor have a chain and free sectors
  pub free_apart : (u n : ℕ) → Apart (take n st.free) (chain_of u st.chains)
  free_apart u n = apart_each (take n st.free) (chain_of u st.chains) (λ c some.
      let a = uses-split c u st.chains in
      let o = used_once c (omega (arith, a)) (chain_inside t st u c s some) in
      (o.0, omega (arith, a, o.1, times-take c n st.free)))

  -- the first free sector begins no chain
  pub free_first : (n : ℕ) → 1 ≤ n → n ≤ length st.free → (0 < first st.free) × (first st.free < length t.links) × (chain_of (first st.free) st.chains ≡ [])
  free_first n some fits = by st.free (omega arith) s.free (λ c h. s.once c h) s.zero where
    by : (free : List ℕ) → 1 ≤ length free → Linked t.links 0 free → ((c : ℕ) → 1 ≤ c → c < length t.links → times c free + uses c st.chains ≡ 1) → times 0 free + uses 0 st.chains ≡ 0
        → (0 < first free) × (first free < length t.links) × (chain_of (first free) st.chains ≡ [])
    by [] h l once z = absurd (omega arith)
    by (c ∷ cs) h l once z =
        let pos : 0 < c = ⊎_elim (λ (e : 0 ≡ c). absurd (omega (arith, one-same c, ap (λ k. times k (c ∷ cs)) e))) (λ (m : 0 ≡ c → ⊥). omega arith) (cases_eq 0 c) in
        let inside = linked_within t.links c cs l.1 in
        (pos, inside, no_chain (chain_of c st.chains) refl (omega (arith, once c pos inside, one-same c))) where
          no_chain : (k : List ℕ) → chain_of c st.chains ≡ k → uses c st.chains ≡ 0 → chain_of c st.chains ≡ []
          no_chain [] e u = e
          no_chain (d ∷ ds) e u =
              let k = chain_there t.links c st.chains s.chains (omega (arith, ap length e)) in
              absurd (omega (arith, one-same c, ap (times c) k.is, uses-split c c st.chains))

-- what a chain holds whose sectors weren't written
Fills-same : (ks cs : List ℕ) (at : ℕ) (ns : List ℕ) (old new : List (List ℕ)) → SameBut ks old new → Apart ks cs → Fills old cs at ns → Fills new cs at ns
Fills-same ks [] at ns old new s a h = h
Fills-same ks (c ∷ cs) at ns old new s a h = ((h.0.0, s.others c a.0 a.1 ∙ h.0.1, h.0.2), Fills-same ks cs (at + 30) ns old new s a.2 h.1)

-- the same, as far as the device tells
pub Told-same : (ks cs ns : List ℕ) (d told new : Option (List (List ℕ))) → Says d told → ((all : List (List ℕ)) → told ≡ Some all → (y : List (List ℕ)) × (new ≡ Some y) × SameBut ks all y) → Apart ks cs → Told d cs ns → Told (content_after d new) cs ns
Told-same ks cs ns None told new s f a h = tt
Told-same ks cs ns (Some all) told new s f a h =
    let r = f all s in
    let P : Option (List (List ℕ)) → Type 0 = λ z. Told z cs ns in
    subst P (sym r.1) (Fills-same ks cs 0 ns all r.0 r.2 a h)

-- and what was written
pub Told-stored : (cs ns : List ℕ) (d told new : Option (List (List ℕ))) → Says d told → ((all : List (List ℕ)) → told ≡ Some all → (y : List (List ℕ)) × (new ≡ Some y) × Stores cs ns all y) → Told (content_after d new) cs ns
Told-stored cs ns None told new s f = tt
Told-stored cs ns (Some all) told new s f =
    let r = f all s in
    let P : Option (List (List ℕ)) → Type 0 = λ z. Told z cs ns in
    subst P (sym r.1) r.2.holds

-- a storage that says something of its device still does
pub Says-retold : (d told new : Option (List (List ℕ))) → Says d told → ((all : List (List ℕ)) → told ≡ Some all → (y : List (List ℕ)) × (new ≡ Some y)) → Says (content_after d new) new
Says-retold None told new s f = tt
Says-retold (Some all) told new s f =
    let r = f all s in
    let P : Option (List (List ℕ)) → Type 0 = λ z. Says z z in
    subst P (sym r.1) refl
