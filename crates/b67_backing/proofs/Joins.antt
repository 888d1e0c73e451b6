-- A chain that goes on through another.
use Rattle.std.proofs.Common.{◌≡◌, ◌≢◌, ℕ, ◌+◌, ◌<◌, ◌≤◌, List, [], ◌∷◌, ◌++◌, length, sym, ◌∙◌, ap, arith, subst, slice_set}
use Rattle.std.proofs.lemmas.Option.{slice_get_within}
use Rattle.std.proofs.Math.ListN.{length-set}
use Rattle.b67_core.proofs.Writes.{slice_get-set_same, slice_get-set_other}
use Rattle.b67_backing.specs.Shelf.{Shelf, IsShelf, Linked, AreChains, one, times, uses, last, chain_of, others, chains_joined}
use Rattle.b67_backing.proofs.Links.{one-apart, times-cons, times-append, times-last, linked_end, linked_within, Linked-set, AreChains-set, AreChains-others, uses-split, Chain, chain_there, rest}
use Rattle.b67_backing.proofs.News.{chain_of-others}

-- a chain is led on to a sector and those behind it
Linked-lead : (links : List ℕ) (b : ℕ) (cs : List ℕ) (z : ℕ) (zs : List ℕ) → Linked links b cs → Linked links z zs → times (last b cs) (b ∷ cs) ≡ 1 → times (last b cs) (z ∷ zs) ≡ 0 → Linked (slice_set links (last b cs) z) b (cs ++ z ∷ zs)
Linked-lead links b [] z zs l m e n =
    let (apart, none) = times-cons b z zs n in
    (slice_get-set_same links b z (linked_within links b [] l), Linked-set links z zs b z apart none m)
Linked-lead links b (c ∷ cs) z zs l m e n = grind (arith, times-last, slice_get-set_other, Linked-lead links c cs z zs l.1 m)

module _ (links : List ℕ) (x y : ℕ) (st : Shelf) (free : ℕ) (s : IsShelf (record { links = links; free = free }) st) (apart : x ≢ y) (has : 1 ≤ length (chain_of x st.chains)) (more : 1 ≤ length (chain_of y st.chains)) where
  k : Chain links x (chain_of x st.chains)
  k = chain_there links x st.chains s.chains has

  h : Chain links y (chain_of y st.chains)
  h = chain_there links y st.chains s.chains more

  still : chain_of x (others y st.chains) ≡ chain_of x st.chains
  still = chain_of-others y x st.chains apart

  parts : (i : ℕ) → uses i st.chains ≡ times i (chain_of y st.chains) + (times i (chain_of x st.chains) + uses i (others x (others y st.chains)))
  parts i = uses-split i y st.chains ∙ ap (λ (n : ℕ). times i (chain_of y st.chains) + n) (uses-split i x (others y st.chains) ∙ ap (λ (c : List ℕ). times i c + uses i (others x (others y st.chains))) still)

  end : ℕ
  end = last x (rest (chain_of x st.chains))

  there : 1 ≤ times end (chain_of x st.chains)
  unfolding end
  there = rw k.is (times-last x (rest (chain_of x st.chains)))

  end_pos : end ≢ 0
  end_pos e = omega (arith, subst (λ (i : ℕ). 1 ≤ times i (chain_of x st.chains)) e there, parts 0, s.zero)

  end_in : end < length links
  unfolding end
  end_in = slice_get_within links (last x (rest (chain_of x st.chains))) 0 (linked_end links x (rest (chain_of x st.chains)) k.linked)

  end_once : times end st.free + uses end st.chains ≡ 1
  end_once = s.once end (omega (arith, end_pos)) end_in

  same_length : length (slice_set links end y) ≡ length links
  same_length = length-set links end y

  whole : chain_of x st.chains ++ chain_of y st.chains ≡ x ∷ (rest (chain_of x st.chains) ++ y ∷ rest (chain_of y st.chains))
  whole = ap (λ (c : List ℕ). c ++ chain_of y st.chains) k.is ∙ ap (λ (c : List ℕ). x ∷ (rest (chain_of x st.chains) ++ c)) h.is

  new_chain : Linked (slice_set links end y) x (rest (chain_of x st.chains) ++ y ∷ rest (chain_of y st.chains))
  unfolding end
  new_chain =
      let a : times (last x (rest (chain_of x st.chains))) (x ∷ rest (chain_of x st.chains)) ≡ 1 = subst (λ (c : List ℕ). times (last x (rest (chain_of x st.chains))) c ≡ 1) k.is (omega (arith, there, end_once, parts end)) in
      let b : times (last x (rest (chain_of x st.chains))) (y ∷ rest (chain_of y st.chains)) ≡ 0 = subst (λ (c : List ℕ). times (last x (rest (chain_of x st.chains))) c ≡ 0) h.is (omega (arith, there, end_once, parts end)) in
      Linked-lead links x (rest (chain_of x st.chains)) y (rest (chain_of y st.chains)) k.linked h.linked a b

  pub joins : IsShelf (record { links = slice_set links (last 0 (chain_of x st.chains)) y; free = free }) (chains_joined x y st)
  unfolding end
  joins =
      let l : last 0 (chain_of x st.chains) ≡ last x (rest (chain_of x st.chains)) = ap (last 0) k.is in
      rw l (record {
        free = Linked-set links 0 st.free end y end_pos (omega (arith, there, end_once, parts end)) s.free;
        chains = subst (λ (c : List ℕ). AreChains (slice_set links end y) (c ∷ others x (others y st.chains))) (sym whole)
            (new_chain, AreChains-set links (others x (others y st.chains)) end y (omega (arith, there, end_once, parts end)) (AreChains-others links x (others y st.chains) (AreChains-others links y st.chains s.chains)));
        once = λ i low high. omega (arith, parts i, times-append i (chain_of x st.chains) (chain_of y st.chains), s.once i low (omega (arith, same_length)));
        zero = omega (arith, parts 0, times-append 0 (chain_of x st.chains) (chain_of y st.chains), s.zero);
        count = s.count;
        some = omega (arith, same_length, s.some);
        small = omega (arith, same_length, s.small);
      })
