-- The link of a sector, by the table and by the chains.
use Rattle.std.proofs.Common.{◌≡◌, ◌≢◌, ℕ, zero, suc, ◌+◌, ◌-◌, ◌<◌, ◌≤◌, Bool, true, false, cond, List, [], ◌∷◌, length, map, Some, refl, sym, ◌∙◌, ap, arith, ⊎_elim, get_or, nat_lt, ◌==◌}
use Rattle.std.specs.List.{slice_get}
use Rattle.std.proofs.lemmas.Bool.{cases_eq, cases_lt, cond-true, cond-false, eq-eqb, ne_eqb, lt-ltb, le-ltb, ltb-true, ltb-false}
use Rattle.std.proofs.lemmas.Option.{same_Some}
use Rattle.b67_backing.specs.Shelf.{Table, Shelf, IsShelf, Linked, AreChains, one, times, uses, row}
use Rattle.b67_backing.specs.Links.{sector_after, link_of, walk, free_sectors, or_itself, table_link, links_in}
use Rattle.b67_backing.proofs.Links.{one-same, one-other, times-cons}
use Rattle.b67_backing.proofs.Marks.{link-absent, link-here, link-there, after-later}
use Rattle.b67_backing.proofs.Heads.{after-here}

-- what stands at a place
pub get_is : (xs : List ℕ) (i v : ℕ) → slice_get xs i ≡ Some v → get_or xs i 0 ≡ v
get_is [] i v e = absurd cc
get_is (x ∷ xs) zero v e = same_Some x v e
get_is (x ∷ xs) (suc i) v e = get_is xs i v e

walk_is : (links : List ℕ) (b : ℕ) (fs : List ℕ) → Linked links b fs → walk links (length fs) b ≡ fs
walk_is links b [] l = refl
walk_is links b (c ∷ cs) l = let e : get_or links b 0 ≡ c = get_is links b c l.0 in rw e (ap (λ (xs : List ℕ). c ∷ xs) (walk_is links c cs l.1))

pub free_is : (t : Table) (st : Shelf) → IsShelf t st → free_sectors t ≡ st.free
free_is t st s = ap (λ (n : ℕ). walk t.links n 0) s.count ∙ walk_is t.links 0 st.free s.free

itself : (n : ℕ) → or_itself n 0 ≡ n
itself n = refl

pub other_next : (n d : ℕ) → d ≢ 0 → or_itself n d ≡ d
other_next n d ne = cond-false (d == 0) _ _ (ne_eqb d 0 ne)

linked_after : (links : List ℕ) (n c : ℕ) (cs : List ℕ) → Linked links c cs → times 0 cs ≡ 0 → 1 ≤ times n (c ∷ cs) → or_itself n (get_or links n 0) ≡ sector_after n (c ∷ cs)
linked_after links n c [] l z s = grind (arith, get_is)
linked_after links n c (d ∷ cs) l z s =
    let (pos, more) = times-cons 0 d cs z in
    ⊎_elim
    (λ e.
    let at : get_or links n 0 ≡ d = ap (λ (i : ℕ). get_or links i 0) (sym e) ∙ get_is links c d l.0 in
    ap (or_itself n) at ∙ other_next n d (λ q. pos (sym q)) ∙ sym (after-here n c (d ∷ cs) e))
    (λ ne. linked_after links n d cs l.1 more (omega (arith, one-other n c (λ e. ne (sym e)))) ∙ sym (after-later n c (d ∷ cs) ne))
    (cases_eq c n)

chain_link : (links : List ℕ) (n : ℕ) (ks : List (List ℕ)) → AreChains links ks → uses 0 ks ≡ 0 → 1 ≤ uses n ks → or_itself n (get_or links n 0) ≡ link_of n ks
chain_link links n [] a z s = absurd (omega arith)
chain_link links n ([] ∷ ks) a z s = absurd a
chain_link links n ((c ∷ cs) ∷ ks) a z s = ⊎_elim
    (λ t. chain_link links n ks a.1 (omega arith) (omega arith) ∙ sym (link-there n (c ∷ cs) ks (omega arith)))
    (λ t. linked_after links n c cs a.0 (omega arith) t ∙ sym (link-here n (c ∷ cs) ks t))
    (cases_lt (times n (c ∷ cs)) 1)

pub link_in_is : (t : Table) (st : Shelf) (n : ℕ) → IsShelf t st → 1 ≤ n → n < length t.links → table_link t n ≡ link_of n st.chains
link_in_is t st n s low high = grind (arith, free_is, chain_link, link-absent)

-- ---- the walk along the free sectors

-- a sector isn't among the first ones
pub walk_on : (links : List ℕ) (n at v free i : ℕ) → i < free → v ≡ get_or links at 0 → times n (walk links (free - i) at) ≡ one n v + times n (walk links (free - (i + 1)) v)
walk_on links n at v free i lt e = grind arith

pub walk_past : (links : List ℕ) (n at v free i total : ℕ) → i < free → v ≡ get_or links at 0 → v ≢ n → total ≡ times n (walk links (free - i) at) → total ≡ times n (walk links (free - (i + 1)) v)
walk_past links n at v free i total lt e ne h = omega (arith, h, walk_on links n at v free i lt e, one-other n v (λ q. ne (sym q)))

pub walk_met : (links : List ℕ) (n at v free i total : ℕ) → i < free → v ≡ get_or links at 0 → v ≡ n → total ≡ times n (walk links (free - i) at) → nat_lt 0 total ≡ true
walk_met links n at v free i total lt e is h = let here : one n v ≡ 1 = rw is (one-same n) in lt-ltb 0 total (omega (arith, h, walk_on links n at v free i lt e, here))

pub walk_over : (links : List ℕ) (n at free i total : ℕ) → free ≤ i → total ≡ times n (walk links (free - i) at) → nat_lt 0 total ≡ false
walk_over links n at free i total le h = let k : free - i ≡ 0 = omega arith in le-ltb 0 total (omega (arith, h, ap (λ (j : ℕ). times n (walk links j at)) k))

-- the mark of a sector, once one more free sector is marked: it is free if it is marked, or still among those that follow
pub marked_on : (links : List ℕ) (n at v free i : ℕ) (old new total : Bool) → i < free → v ≡ get_or links at 0 → new ≡ cond (v == n) true old → total ≡ cond old true (nat_lt 0 (times n (walk links (free - i) at))) → total ≡ cond new true (nat_lt 0 (times n (walk links (free - (i + 1)) v)))
marked_on links n at v free i old new total lt e m h = grind (arith, walk_on)

-- at its end no free sector follows
pub marked_over : (links : List ℕ) (n at free i : ℕ) (mark total : Bool) → free ≤ i → total ≡ cond mark true (nat_lt 0 (times n (walk links (free - i) at))) → mark ≡ total
marked_over links n at free i mark total le h = grind arith

-- what a call answers that follows a link
pub link_answers : (t : Table) (n next : ℕ) → nat_lt 0 (times n (free_sectors t)) ≡ false → slice_get t.links n ≡ Some next → table_link t n ≡ or_itself n next
link_answers t n next free e = grind (arith, eq-eqb, get_is, ltb-false)

pub free_answers : (t : Table) (n : ℕ) → nat_lt 0 (times n (free_sectors t)) ≡ true → table_link t n ≡ 0
free_answers t n free = grind arith

-- ---- all links

row-length : (c n : ℕ) → length (row c n) ≡ n
row-length c zero = refl
row-length c (suc n) = ap suc (row-length (c + 1) n)

row-at : (c n k : ℕ) → k < n → get_or (row c n) k 0 ≡ c + k
row-at c zero k lt = absurd (omega arith)
row-at c (suc n) zero lt = omega arith
row-at c (suc n) (suc k) lt = row-at (c + 1) n k (omega arith) ∙ (let e : c + 1 + k ≡ c + suc k = omega arith in e)

map-length : (f : ℕ → ℕ) (xs : List ℕ) → length (map f xs) ≡ length xs
map-length f [] = refl
map-length f (x ∷ xs) = ap suc (map-length f xs)

map-at : (f : ℕ → ℕ) (xs : List ℕ) (k : ℕ) → k < length xs → get_or (map f xs) k 0 ≡ f (get_or xs k 0)
map-at f [] k lt = absurd (omega arith)
map-at f (x ∷ xs) zero lt = refl
map-at f (x ∷ xs) (suc k) lt = map-at f xs k (omega arith)

pub links_in-length : (t : Table) (n : ℕ) → n + 1 ≡ length t.links → length (links_in t) ≡ n
unfolding links_in
links_in-length t n e = map-length (table_link t) (row 1 (length t.links - 1)) ∙ row-length 1 (length t.links - 1) ∙ (let m : length t.links - 1 ≡ n = omega arith in m)

pub links_in-at : (t : Table) (n k : ℕ) → n + 1 ≡ length t.links → k < n → get_or (links_in t) k 0 ≡ table_link t (k + 1)
unfolding links_in
links_in-at t n k e lt = grind (arith, row-length, map-at, row-at)

same_items : (xs ys : List ℕ) → length xs ≡ length ys → ((k : ℕ) → k < length ys → get_or xs k 0 ≡ get_or ys k 0) → xs ≡ ys
same_items [] [] e h = refl
same_items [] (y ∷ ys) e h = absurd (omega arith)
same_items (x ∷ xs) [] e h = absurd (omega arith)
same_items (x ∷ xs) (y ∷ ys) e h = ap (λ (z : ℕ). z ∷ xs) (h zero (omega arith)) ∙ ap (λ (zs : List ℕ). y ∷ zs) (same_items xs ys (omega arith) (λ k lt. h (suc k) (omega arith)))

-- sectors of a shelf with these links tell them
pub links_in-same : (t : Table) (st : Shelf) (links : List ℕ) → IsShelf t st → length links + 1 ≡ length t.links → ((i : ℕ) → i < length links → slice_get links i ≡ Some (link_of (i + 1) st.chains)) → links_in t ≡ links
links_in-same t st links s long each =
    same_items (links_in t) links (links_in-length t (length links) long)
    (λ k lt. links_in-at t (length links) k long lt ∙ link_in_is t st (k + 1) s (omega arith) (omega arith) ∙ sym (get_is links k (link_of (k + 1) st.chains) (each k lt)))
