-- The chains of objects that rest.
use Rattle.std.proofs.Common.{◌≡◌, ℕ, ◌<◌, ◌≤◌, ◌⊎◌, List, [], ◌∷◌, length, take, drop, refl, sym, ◌∙◌, ap, subst, arith, inl, inr, ⊎_elim, length-drop}
use Rattle.std.proofs.lemmas.Bool.{eq-eqb, ne_eqb, cases_eq, cases_lt}
use Rattle.std.proofs.lemmas.List.{length-take, nil_from_length}
use Rattle.b67_backing.specs.Shelf.{Table, Shelf, IsShelf, AreChains, one, times, uses, first, chain_of, taken}
use Rattle.b67_backing.proofs.Links.{chain_there, one-same, uses-split}
use Rattle.b67_lemmas.specs.Lists.{Has}
use Rattle.b67_stack.specs.MachineView.{PagedObject}
use Rattle.b67_load.specs.Objects.{object_sectors, sectors_of_objects}
use Rattle.b67_load.specs.StoredObjects.{StoredObject, placed, stocked}
use Rattle.b67_load.proofs.Shelves.{Apart, chain_apart, has_uses, has_times, times-take_drop}

-- a chain has a first sector
chain_some : (links : List ℕ) (ks : List (List ℕ)) (k : List ℕ) → AreChains links ks → Has ks k → 1 ≤ length k
chain_some links [] k a h = absurd h
chain_some links ([] ∷ ks) k a h = absurd a
chain_some links ((d ∷ ds) ∷ ks) k a (inl e) = subst (λ (z : List ℕ). 1 ≤ length z) e (omega arith)
chain_some links ((d ∷ ds) ∷ ks) k a (inr h) = chain_some links ks k a.1 h

pub first_in : (k : List ℕ) → 1 ≤ length k → Has k (first k)
first_in k h = grind arith

-- that begins no other chain
found : (links : List ℕ) (ks : List (List ℕ)) (k : List ℕ) → AreChains links ks → Has ks k → uses (first k) ks ≤ 1 → chain_of (first k) ks ≡ k
found links [] k a h few = absurd h
found links ([] ∷ ks) k a h few = absurd a
found links ((d ∷ ds) ∷ ks) k a (inl e) few = subst (λ (z : List ℕ). chain_of (first z) ((d ∷ ds) ∷ ks) ≡ z) e (rw (eq-eqb d d refl) refl)
found links ((d ∷ ds) ∷ ks) k a (inr h) few = ⊎_elim
    (λ (e : first k ≡ d).
    let here : one (first k) d ≡ 1 = ap (one (first k)) (sym e) ∙ one-same (first k) in
    absurd (omega (arith, few, here, has_uses ks k (first k) h (first_in k (chain_some links ks k a.1 h)))))
    (λ (e : first k ≡ d → ⊥). rw (ne_eqb d (first k) (λ z. e (sym z))) (found links ks k a.1 h (omega (arith, few))))
    (cases_eq (first k) d)

pub first_apart : (t : Table) (s : Shelf) (k : List ℕ) → IsShelf t s → Has s.chains k → Apart t s (first k)
first_apart t s k is h = chain_apart t s k (first k) is h (first_in k (chain_some t.links s.chains k is.chains h))

pub chain_found : (t : Table) (s : Shelf) (k : List ℕ) → IsShelf t s → Has s.chains k → chain_of (first k) s.chains ≡ k
chain_found t s k is h = grind (arith, first_apart, found)

pub no_zero : (t : Table) (s : Shelf) → IsShelf t s → chain_of 0 s.chains ≡ []
no_zero t s is = ⊎_elim
    (λ (l : length (chain_of 0 s.chains) < 1). nil_from_length (chain_of 0 s.chains) (omega arith))
    (λ (l : 1 ≤ length (chain_of 0 s.chains)).
    let k = chain_there t.links 0 s.chains is.chains l in
    let some : 1 ≤ times 0 (chain_of 0 s.chains) = rw k.is (omega (arith, one-same 0)) in
    absurd (omega (arith, some, uses-split 0 0 s.chains, is.zero)))
    (cases_lt (length (chain_of 0 s.chains)) 1)

-- the chain that begins with a sector is among them
pub chain_begins : (ks : List (List ℕ)) (x : ℕ) → 0 < length (chain_of x ks) → Has ks (chain_of x ks) × (first (chain_of x ks) ≡ x)
chain_begins [] x h = absurd (omega arith)
chain_begins (k ∷ ks) x h = grind (arith, chain_begins ks x)

-- each object has its sectors
pub placed_length : (ts : List PagedObject) (free : List ℕ) (r : StoredObject) → sectors_of_objects ts ≤ length free → Has (placed ts free) r → length r.chain ≡ object_sectors r.object
placed_length [] free r fits h = absurd h
placed_length (t ∷ more) free r fits (inl e) = grind (arith, length-take)
placed_length (t ∷ more) free r fits (inr h) = placed_length more (drop (object_sectors t) free) r (omega (arith, fits, length-drop (object_sectors t) free)) h

pub placed_has : (ts : List PagedObject) (free : List ℕ) (t : PagedObject) → Has ts t → (r : StoredObject) × Has (placed ts free) r × (r.object ≡ t)
placed_has [] free t h = absurd h
placed_has (u ∷ more) free t (inl e) = (record { object = u; chain = take (object_sectors u) free }, inl refl, e)
placed_has (u ∷ more) free t (inr h) = let r = placed_has more (drop (object_sectors u) free) t h in (r.0, inr r.1, r.2)

-- the chains are those of before and those of the objects
pub chain_placed : (ts : List PagedObject) (s : Shelf) (k : List ℕ) → Has (stocked ts s).chains k → Has s.chains k ⊎ ((r : StoredObject) × Has (placed ts s.free) r × (r.chain ≡ k))
chain_placed [] s k h = inl h
chain_placed (t ∷ more) s k h = ⊎_elim
    (λ (m : Has (take (object_sectors t) s.free ∷ s.chains) k). ⊎_elim
    (λ (e : take (object_sectors t) s.free ≡ k). inr (record { object = t; chain = take (object_sectors t) s.free }, inl refl, e))
    (λ (i : Has s.chains k). inl i)
    m)
    (λ (m : (r : StoredObject) × Has (placed more (drop (object_sectors t) s.free)) r × (r.chain ≡ k)). inr (m.0, inr m.1, m.2))
    (chain_placed more (taken (object_sectors t) s) k h)

-- no two objects have the same first sector
part_times : (ts : List PagedObject) (free : List ℕ) (r : StoredObject) (c : ℕ) → Has (placed ts free) r → times c r.chain ≤ times c free
part_times [] free r c h = absurd h
part_times (t ∷ more) free r c (inl e) = subst (λ (q : StoredObject). times c q.chain ≤ times c free) e (omega (arith, times-take_drop c (object_sectors t) free))
part_times (t ∷ more) free r c (inr h) = omega (arith, part_times more (drop (object_sectors t) free) r c h, times-take_drop c (object_sectors t) free)

pub record Alone (free : List ℕ) (r : StoredObject) : Type 0 where
  pub some : 1 ≤ length r.chain
  pub once : times (first r.chain) free ≤ 1

pub one_place : (ts : List PagedObject) (free : List ℕ) (r q : StoredObject) → Alone free r → Alone free q → Has (placed ts free) r → Has (placed ts free) q → first r.chain ≡ first q.chain → r ≡ q
one_place [] free r q a b h g e = absurd h
one_place (t ∷ more) free r q a b (inl h) (inl g) e = sym h ∙ g
one_place (t ∷ more) free r q a b (inl h) (inr g) e =
    let c = first r.chain in
    let here : 1 ≤ times c (take (object_sectors t) free) = subst (λ (k : List ℕ). 1 ≤ times c k) (ap (λ (z : StoredObject). z.chain) (sym h)) (has_times r.chain c (first_in r.chain a.some)) in
    let there : 1 ≤ times c q.chain = subst (λ i. 1 ≤ times i q.chain) (sym e) (has_times q.chain (first q.chain) (first_in q.chain b.some)) in
    absurd (omega (arith, a.once, here, there, part_times more (drop (object_sectors t) free) q c g, times-take_drop c (object_sectors t) free))
one_place (t ∷ more) free r q a b (inr h) (inl g) e =
    let c = first q.chain in
    let here : 1 ≤ times c (take (object_sectors t) free) = subst (λ (k : List ℕ). 1 ≤ times c k) (ap (λ (z : StoredObject). z.chain) (sym g)) (has_times q.chain c (first_in q.chain b.some)) in
    let there : 1 ≤ times c r.chain = subst (λ i. 1 ≤ times i r.chain) e (has_times r.chain (first r.chain) (first_in r.chain a.some)) in
    absurd (omega (arith, b.once, here, there, part_times more (drop (object_sectors t) free) r c h, times-take_drop c (object_sectors t) free))
one_place (t ∷ more) free r q a b (inr h) (inr g) e =
    let less : (z : StoredObject) → Alone free z → Alone (drop (object_sectors t) free) z = λ z m. record { some = m.some; once = omega (arith, m.once, times-take_drop (first z.chain) (object_sectors t) free) } in
    one_place more (drop (object_sectors t) free) r q (less r a) (less q b) h g e
