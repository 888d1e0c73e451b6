use Rattle.std.proofs.Common.{◌≡◌, ◌≢◌, ℕ, ◌+◌, ◌<◌, ◌≤◌, List, ◌∷◌, ◌++◌, length, Some, sym, ◌∙◌, ap, arith, subst, slice_set, length-append}
use Rattle.std.specs.List.{slice_get}
use Rattle.std.proofs.lemmas.Option.{slice_get_within, same_Some}
use Rattle.std.proofs.Math.ListN.{length-set}
use Rattle.b67_core.proofs.Writes.{slice_get-set_same}
use Rattle.b67_backing.specs.Shelf.{Table, Shelf, IsShelf, Linked, AreChains, one, times, uses, first, last, chain_of, others, given}
use Rattle.b67_backing.proofs.Links.{times-append, times-last, link_first, linked_end, Linked-set, Linked-append, AreChains-set, AreChains-others, uses-split, Chain, chain_there, rest}

-- the links after a chain of these sectors was given back, where f was the first free one
abbrev pub give_links : List ℕ → ℕ → ℕ → List ℕ → List ℕ
give_links links x f k = slice_set (slice_set links (last 0 k) f) 0 x

module _ (links : List ℕ) (x : ℕ) (st : Shelf) (free : ℕ) (s : IsShelf (record { links = links; free = free }) st) (k : Chain links x (chain_of x st.chains)) where
  end : ℕ
  end = last x (rest (chain_of x st.chains))

  parts : (i : ℕ) → uses i st.chains ≡ one i x + times i (rest (chain_of x st.chains)) + uses i (others x st.chains)
  parts i = uses-split i x st.chains ∙ ap (λ (c : List ℕ). times i c + uses i (others x st.chains)) k.is

  there : 1 ≤ times end (x ∷ (rest (chain_of x st.chains)))
  unfolding end
  there = times-last x (rest (chain_of x st.chains))

  end_pos : end ≢ 0
  end_pos e = omega (arith, subst (λ (i : ℕ). 1 ≤ times i (x ∷ (rest (chain_of x st.chains)))) e there, parts 0, s.zero)

  end_in : end < length links
  unfolding end
  end_in = slice_get_within links (last x (rest (chain_of x st.chains))) 0 (linked_end links x (rest (chain_of x st.chains)) k.linked)

  end_once : times end st.free + uses end st.chains ≡ 1
  end_once = s.once end (omega (arith, end_pos)) end_in

  first_links : List ℕ
  first_links = slice_set links end (first st.free)

  same_length : length (slice_set first_links 0 x) ≡ length links
  unfolding first_links
  same_length = length-set (slice_set links end (first st.free)) 0 x ∙ length-set links end (first st.free)

  new_free : Linked (slice_set first_links 0 x) 0 (x ∷ ((rest (chain_of x st.chains)) ++ st.free))
  unfolding first_links end
  new_free = grind (arith, Linked-append, there, end_once, parts, slice_get-set_same, length-set, Linked-set, times-append)

  new_chains : AreChains (slice_set first_links 0 x) (others x st.chains)
  unfolding first_links
  new_chains = AreChains-set (slice_set links end (first st.free)) (others x st.chains) 0 x (omega (arith, s.zero, parts 0)) (AreChains-set links (others x st.chains) end (first st.free) (omega (arith, there, end_once, parts end)) (AreChains-others links x st.chains s.chains))

  pub gives : IsShelf (record { links = give_links links x (first st.free) (chain_of x st.chains); free = free + length (chain_of x st.chains) }) (given x st)
  unfolding first_links end
  gives = grind (arith, new_free, new_chains, parts, times-append, same_length, length-append)

pub gave : (t : Table) (st : Shelf) (x l f n : ℕ) → IsShelf t st → 1 ≤ length (chain_of x st.chains) → l ≡ last 0 (chain_of x st.chains) → n ≡ length (chain_of x st.chains) → slice_get t.links 0 ≡ Some f → IsShelf (record { links = slice_set (slice_set t.links l f) 0 x; free = t.free + n }) (given x st)
gave t st x l f n s has e c r =
    let k = chain_there t.links x st.chains s.chains has in
    let is : f ≡ first st.free = same_Some f (first st.free) (sym r ∙ link_first t.links 0 st.free s.free) in
    rw (e, is, c) (gives t.links x st t.free s k)
