-- A chain that is made longer.
use Rattle.std.proofs.Common.{◌≡◌, ◌≢◌, ℕ, zero, suc, ◌+◌, ◌-◌, ◌≤◌, List, [], ◌∷◌, ◌++◌, length, length-append, take, drop, replicate, Option, refl, sym, ◌∙◌, ap, arith, subst, ⊎_elim, ◌==◌}
use Rattle.std.proofs.lemmas.Bool.{cases_lt, cond-true, cond-false, eq-eqb, ne_eqb}
use Rattle.std.proofs.lemmas.List.{length-take-le, length-replicate, append-nil, take-append-drop}
use Rattle.b67_backing.specs.Shelf.{Table, Shelf, IsShelf, HasChain, AreChains, one, times, first, chain_of, others, taken, given, chains_joined}
use Rattle.b67_backing.specs.Held.{Changes, Stores, sectors_for}
use Rattle.b67_backing.specs.Extending.{extended, sectors_more, Prolongs, IsExtended}
use Rattle.b67_backing.proofs.Links.{one-same, times-append, uses-split, AreChains-others, linked_within, Chain, chain_there, rest}
use Rattle.b67_backing.proofs.News.{chain_of-others, chain_of-taken, first_take}
use Rattle.b67_backing.proofs.Tallies.{AllBelow}
use Rattle.b67_backing.proofs.Walks.{all_below}
use Rattle.b67_backing.proofs.Stores.{times-past, same_but-refl}
use Rattle.b67_backing.proofs.Fills.{Holds-on, Fills-on, number_at-more}

take_times : (c n : ℕ) (xs : List ℕ) → times c (take n xs) ≤ times c xs
take_times c n xs = omega (arith, times-append c (take n xs) (drop n xs), ap (times c) (take-append-drop n xs))

module _ (t : Table) (st : Shelf) (x : ℕ) (s : IsShelf t st) (has : 1 ≤ length (chain_of x st.chains)) where
  k : Chain t.links x (chain_of x st.chains)
  k = chain_there t.links x st.chains s.chains has

  below : AllBelow (length t.links) (chain_of x st.chains)
  below = rw k.is (linked_within t.links x (rest (chain_of x st.chains)) k.linked, all_below t.links x (rest (chain_of x st.chains)) k.linked)

  -- a sector of a chain isn't free
  pub not_free : (c : ℕ) → 1 ≤ times c (chain_of x st.chains) → (1 ≤ c) × (times c st.free ≡ 0)
  not_free c h = grind (arith, uses-split, times-past, below)

  pub chain_apart : (n c : ℕ) → 1 ≤ times c (chain_of x st.chains) → (1 ≤ c) × (times c (take n st.free) ≡ 0)
  chain_apart n c h = let a = not_free c h in (a.0, omega (arith, a.1, take_times c n st.free))

  -- a first free sector begins no chain
  pub free_apart : 1 ≤ length st.free → x ≢ first st.free
  free_apart some e =
      let a = not_free x (rw k.is (omega (arith, one-same x))) in
      by_free st.free some e a.1 where
        by_free : (fs : List ℕ) → 1 ≤ length fs → x ≡ first fs → times x fs ≡ 0 → ⊥
        by_free [] some e z = omega arith
        by_free (f ∷ fs) some e z = let o : one x f ≡ 1 = rw (sym e) (one-same x) in omega (arith, o)

  pub begins : (more : List ℕ) → first (chain_of x st.chains ++ more) ≡ x
  begins more = ap (λ (c : List ℕ). first (c ++ more)) k.is

  -- the chain alone, before the others
  pub in_front : IsShelf t (extended x 0 st)
  in_front =
      let whole : chain_of x st.chains ++ [] ≡ x ∷ rest (chain_of x st.chains) = append-nil (chain_of x st.chains) ∙ k.is in
      record {
        free = s.free;
        chains = subst (λ (c : List ℕ). AreChains t.links (c ∷ others x st.chains)) (sym whole) (k.linked, AreChains-others t.links x st.chains s.chains);
        once = λ i low high. omega (arith, s.once i low high, uses-split i x st.chains, times-append i (chain_of x st.chains) []);
        zero = omega (arith, s.zero, uses-split 0 x st.chains, times-append 0 (chain_of x st.chains) []);
        count = s.count;
        some = s.some;
        small = s.small;
      }

-- the chain of free sectors that were taken
pub taken_chain : (n z : ℕ) (st : Shelf) → 1 ≤ n → z ≡ first st.free → chain_of z (taken n st).chains ≡ take n st.free
taken_chain n z st some e = chain_of-taken n z z st some e ∙ cond-true (z == z) (take n st.free) (chain_of z st.chains) (eq-eqb z z refl)

-- and the one that was there
pub still_chain : (n x z : ℕ) (st : Shelf) → 1 ≤ n → x ≢ z → z ≡ first st.free → chain_of x (taken n st).chains ≡ chain_of x st.chains
still_chain n x z st some apart e = chain_of-taken n z x st some e ∙ cond-false (z == x) (take n st.free) (chain_of x st.chains) (ne_eqb z x (λ q. apart (sym q)))

-- free sectors that were taken are led on to
pub led_on : (n x z : ℕ) (t : Table) (st : Shelf) → 1 ≤ n → x ≢ z → z ≡ first st.free → chains_joined x z (taken n st) ≡ extended x n st
led_on n x z t st some apart e = grind arith

-- free sectors that were taken are given back
pub given_back : (n z : ℕ) (st : Shelf) → 1 ≤ n → z ≡ first st.free → given z (taken n st) ≡ st
given_back n z st some e = grind (arith, take-append-drop)

-- the parts of an extended chain
module _ {D : Type 0} (tell : D → Option (List (List ℕ))) (t t' : Table) (st : Shelf) (x have want : ℕ) (old new : D) (c : HasChain t st x (sectors_for have)) (some : 1 ≤ have) (order : have ≤ want) where
  n : ℕ
  n = sectors_more have want

  has : 1 ≤ length (chain_of x st.chains)
  has = omega (arith, c.many, some)

  long : sectors_for have + n ≡ sectors_for want
  unfolding n
  long = omega (arith, order)

  prolongs : sectors_more have want ≤ length st.free → (all after : List (List ℕ)) → Stores (take (sectors_more have want) st.free) [] all after → Prolongs (chain_of x st.chains) (chain_of x st.chains ++ take (sectors_more have want) st.free) have want all after
  unfolding n
  prolongs room all after w = record {
    holds = λ ns e h. Holds-on (take (sectors_more have want) st.free) (chain_of x st.chains) 0 ns all after w.same (chain_apart t st x c.shelf has (sectors_more have want)) w.holds h;
    fills = λ ns e h. Fills-on (take (sectors_more have want) st.free) (chain_of x st.chains) 0 ns (ns ++ replicate (want - have) zero) all after w.same (chain_apart t st x c.shelf has (sectors_more have want)) w.holds
        (omega (arith, length-append ns (replicate (want - have) zero), length-replicate (want - have) zero, e, c.many, length-take-le (sectors_more have want) st.free room, long, order))
        (number_at-more ns (want - have)) h;
  }

  pub extends : sectors_more have want ≤ length st.free → IsShelf t' (extended x (sectors_more have want) st) → Changes tell old new (Stores (take (sectors_more have want) st.free) []) → IsExtended tell old new t' st x have want
  unfolding n
  extends room s w = grind (arith, length-append, length-take-le, begins, chain_of-others, prolongs)

-- nothing is lacking
pub extends_none : {D : Type 0} (tell : D → Option (List (List ℕ))) (t : Table) (st : Shelf) (x have want : ℕ) (d : D) → HasChain t st x (sectors_for have) → 1 ≤ have → have ≤ want → sectors_more have want ≡ 0 → IsExtended tell d d t st x have want
extends_none tell t st x have want d c some order none =
    let has : 1 ≤ length (chain_of x st.chains) = omega (arith, c.many, some) in
    extends tell t t st x have want d d c some order (omega (arith, none))
    (subst (λ (n : ℕ). IsShelf t (extended x n st)) (sym none) (in_front t st x c.shelf has))
    (subst (λ (n : ℕ). Changes tell d d (Stores (take n st.free) [])) (sym none) (record { told = λ all e. (all, e, record { same = same_but-refl [] all; holds = omega arith }) }))
