-- Chains among others, and chains that are taken one after the other.
use Rattle.std.proofs.Common.{◌≡◌, ℕ, zero, suc, ◌+◌, ◌<◌, ◌≤◌, ◌^◌, List, [], ◌∷◌, ◌++◌, length, take, drop, refl, sym, ◌∙◌, ap, subst, arith, inl, inr, ⊎_elim, if◌then◌else◌, ◌==◌}
use Rattle.std.proofs.lemmas.Bool.{cond-true, cond-false, eq-eqb, ne_eqb, cases_lt}
use Rattle.std.proofs.lemmas.List.{take-append-drop}
use Rattle.b67_backing.specs.Shelf.{Table, Shelf, HasChain, IsShelf, Linked, AreChains, one, times, uses, first, chain_of, taken}
use Rattle.b67_backing.specs.Held.{Fills, SameBut}
use Rattle.b67_backing.proofs.Links.{Chain, chain_there, linked_within, rest, one-same, times-append, uses-split}
use Rattle.b67_backing.proofs.News.{first_take}
use Rattle.b67_lemmas.specs.Lists.{Has}
use Rattle.b67_stack.specs.MachineView.{PagedObject}
use Rattle.b67_load.specs.Objects.{object_sectors}
use Rattle.b67_load.specs.StoredObjects.{StoredObject, placed, stocked, KeepsChains}

-- a chain's first sector is a sector's number
pub first_small : (t : Table) (s : Shelf) (x n : ℕ) → HasChain t s x n → 1 ≤ n → x < 2 ^ 20
first_small t s x n h some =
    let k = chain_there t.links x s.chains h.shelf.chains (omega (arith, h.many)) in
    grind (arith, linked_within)

-- the chain that was taken last
pub last_taken : (x n : ℕ) (s : Shelf) → chain_of x (taken n s).chains ≡ (if x == x then take n s.free else chain_of x s.chains) → chain_of x (taken n s).chains ≡ take n s.free
last_taken x n s e = e ∙ cond-true (x == x) _ _ (eq-eqb x x refl)

-- what has no place in a list has none in its parts
pub times-take_drop : (m n : ℕ) (xs : List ℕ) → times m (take n xs) + times m (drop n xs) ≡ times m xs
times-take_drop m n xs = sym (times-append m (take n xs) (drop n xs)) ∙ ap (times m) (take-append-drop n xs)

pub has_times : (xs : List ℕ) (c : ℕ) → Has xs c → 1 ≤ times c xs
has_times [] c h = absurd h
has_times (x ∷ xs) c h = grind (arith, has_times xs c)

pub has_uses : (ks : List (List ℕ)) (k : List ℕ) (c : ℕ) → Has ks k → Has k c → 1 ≤ uses c ks
has_uses [] k c h g = absurd h
has_uses (x ∷ ks) k c h g = grind (arith, has_times, has_uses ks k c)

linked_has : (links : List ℕ) (b : ℕ) (cs : List ℕ) (c : ℕ) → Linked links b cs → Has cs c → c < length links
linked_has links b [] c l h = absurd h
linked_has links b (d ∷ ds) c l h = grind (arith, linked_within, linked_has links d ds c l.1)

-- a sector of a chain is one of the table's, and isn't free
chain_within : (links : List ℕ) (ks : List (List ℕ)) (k : List ℕ) (c : ℕ) → AreChains links ks → Has ks k → Has k c → c < length links
chain_within links [] k c a h g = absurd h
chain_within links ([] ∷ ks) k c a h g = absurd a
chain_within links ((d ∷ ds) ∷ ks) k c a h g = grind (arith, linked_within, linked_has, chain_within links ks k c a.1)

pub record Apart (t : Table) (s : Shelf) (c : ℕ) : Type 0 where
  pub low : 1 ≤ c
  pub high : c < length t.links
  pub used : 1 ≤ uses c s.chains
  pub not_free : times c s.free ≡ 0

pub chain_apart : (t : Table) (s : Shelf) (k : List ℕ) (c : ℕ) → IsShelf t s → Has s.chains k → Has k c → Apart t s c
chain_apart t s k c is h g = grind (arith, has_uses, chain_within)

-- taking leaves the chains that were there
free_first : (t : Table) (s : Shelf) (x : ℕ) → IsShelf t s → 1 ≤ length (chain_of x s.chains) → times x s.free ≡ 0
free_first t s x is has = ⊎_elim
    (λ (z : x < 1). let e : x ≡ 0 = omega arith in rw e (omega (arith, is.zero)))
    (λ (z : 1 ≤ x). omega (arith, uses-split x x s.chains, some, is.once x z (linked_within t.links x (rest (chain_of x s.chains)) k.linked)))
    (cases_lt x 1) where
      k : Chain t.links x (chain_of x s.chains)
      k = chain_there t.links x s.chains is.chains has

      some : 1 ≤ times x (chain_of x s.chains)
      some = rw k.is (omega (arith, one-same x))

has_drop : (n : ℕ) (xs : List ℕ) (x : ℕ) → Has (drop n xs) x → Has xs x
has_drop zero xs x h = h
has_drop (suc n) [] x h = absurd h
has_drop (suc n) (y ∷ xs) x h = inr (has_drop n xs x h)

first_has : (fs : List ℕ) → 1 ≤ length fs → 1 ≤ times (first fs) fs
first_has fs h = grind arith

pub keeps_taken : (t : Table) (s : Shelf) (n : ℕ) → IsShelf t s → 1 ≤ n → n ≤ length s.free → KeepsChains s (taken n s)
keeps_taken t s n is some fits = record {
  chains = λ x has. cond-false (first (take n s.free) == x) _ _ (ne_eqb (first (take n s.free)) x (λ e.
      let there : 1 ≤ times x s.free = subst (λ (i : ℕ). 1 ≤ times i s.free) (sym (first_take n s.free some) ∙ e) (first_has s.free (omega arith)) in
      omega (arith, there, free_first t s x is has)));
  free = λ m h. has_drop n s.free m h;
}

pub keeps_both : (a b c : Shelf) → KeepsChains a b → KeepsChains b c → KeepsChains a c
keeps_both a b c k l = grind arith

-- objects one after the other
pub stocked-append : (xs ys : List PagedObject) (s : Shelf) → stocked (xs ++ ys) s ≡ stocked ys (stocked xs s)
stocked-append [] ys s = refl
stocked-append (x ∷ xs) ys s = stocked-append xs ys (taken (object_sectors x) s)

pub placed-append : (xs ys : List PagedObject) (s : Shelf) → placed (xs ++ ys) s.free ≡ placed xs s.free ++ placed ys (stocked xs s).free
placed-append [] ys s = refl
placed-append (x ∷ xs) ys s = ap (λ (r : List StoredObject). record { object = x; chain = take (object_sectors x) s.free } ∷ r) (placed-append xs ys (taken (object_sectors x) s))

pub old_chain : (xs : List PagedObject) (s : Shelf) (k : List ℕ) → Has s.chains k → Has (stocked xs s).chains k
old_chain [] s k h = h
old_chain (x ∷ xs) s k h = old_chain xs (taken (object_sectors x) s) k (inr h)

pub placed_chain : (xs : List PagedObject) (s : Shelf) (r : StoredObject) → Has (placed xs s.free) r → Has (stocked xs s).chains r.chain
placed_chain [] s r h = absurd h
placed_chain (x ∷ xs) s r (inl e) = old_chain xs (taken (object_sectors x) s) r.chain (inl (ap (λ (q : StoredObject). q.chain) e))
placed_chain (x ∷ xs) s r (inr h) = placed_chain xs (taken (object_sectors x) s) r h

pub placed_object : (xs : List PagedObject) (free : List ℕ) (r : StoredObject) → Has (placed xs free) r → Has xs r.object
placed_object [] free r h = absurd h
placed_object (x ∷ xs) free r (inl e) = inl (ap (λ (q : StoredObject). q.object) e)
placed_object (x ∷ xs) free r (inr h) = inr (placed_object xs (drop (object_sectors x) free) r h)

-- what a chain holds stays under changes of other sectors
pub holds_stay : (ns k : List ℕ) (a b : List (List ℕ)) (at : ℕ) (numbers : List ℕ) → SameBut ns a b → ((c : ℕ) → Has k c → (1 ≤ c) × (times c ns ≡ 0)) → Fills a k at numbers → Fills b k at numbers
holds_stay ns [] a b at numbers same apart h = h
holds_stay ns (c ∷ cs) a b at numbers same apart h = grind (arith, holds_stay ns cs a b (at + 30) numbers same)

times_has : (xs : List ℕ) (c : ℕ) → 1 ≤ times c xs → Has xs c
times_has [] c h = absurd (omega arith)
times_has (x ∷ xs) c h = grind (arith, times_has xs c)

pub none_more : (xs ys : List ℕ) (m : ℕ) → (Has ys m → Has xs m) → times m xs ≡ 0 → times m ys ≡ 0
none_more xs ys m more z = grind (arith, has_times, times_has)

pub stocked_has : (m : ℕ) (xs : List PagedObject) (s : Shelf) → Has (stocked xs s).free m → Has s.free m
stocked_has m [] s h = h
stocked_has m (x ∷ xs) s h = has_drop (object_sectors x) s.free m (stocked_has m xs (taken (object_sectors x) s) h)
