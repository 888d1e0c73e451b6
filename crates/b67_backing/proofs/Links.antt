use Rattle.std.proofs.Common.{◌≡◌, ◌≢◌, ℕ, zero, suc, ◌+◌, ◌<◌, ◌≤◌, List, [], ◌∷◌, ◌++◌, length, take, drop, Some, refl, sym, ◌∙◌, ap, arith, ⊎_elim, ◌==◌, slice_set}
use Rattle.std.specs.List.{slice_get}
use Rattle.std.proofs.lemmas.Bool.{cases_Bool, cond-true, cond-false, eq-eqb, ne_eqb, eqb-true}
use Rattle.std.proofs.lemmas.Option.{slice_get_within}
use Rattle.b67_core.proofs.Writes.{slice_get-set_same, slice_get-set_other}
use Rattle.b67_backing.specs.Shelf.{Linked, AreChains, one, times, uses, first, last, chain_of, others}

-- counting
pub one-same : (i : ℕ) → one i i ≡ 1
one-same i = cond-true (i == i) _ _ (eq-eqb i i refl)

pub one-apart : (i c : ℕ) → one i c ≡ 0 → i ≢ c
one-apart i c z e = omega (arith, one-same c, rw e at z)

pub one-other : (i c : ℕ) → i ≢ c → one i c ≡ 0
one-other i c h = cond-false (c == i) _ _ (ne_eqb c i (λ e. h (sym e)))

pub times-cons : (i c : ℕ) (cs : List ℕ) → times i (c ∷ cs) ≡ 0 → (i ≢ c) × (times i cs ≡ 0)
times-cons i c cs z = (one-apart i c (omega arith), omega arith)

pub times-append : (i : ℕ) (xs ys : List ℕ) → times i (xs ++ ys) ≡ times i xs + times i ys
times-append i [] ys = omega arith
times-append i (x ∷ xs) ys = omega (arith, times-append i xs ys)

pub times-last : (b : ℕ) (cs : List ℕ) → 1 ≤ times (last b cs) (b ∷ cs)
times-last b [] = omega (arith, one-same b)
times-last b (c ∷ cs) = omega (arith, times-last c cs)

-- walking
pub link_first : (links : List ℕ) (b : ℕ) (fs : List ℕ) → Linked links b fs → slice_get links b ≡ Some (first fs)
link_first links b fs l = grind arith

pub linked_step : (links : List ℕ) (b : ℕ) (fs : List ℕ) (i : ℕ) → Linked links b fs → i < length fs → slice_get links (last b (take i fs)) ≡ Some (last b (take (suc i) fs))
linked_step links b [] i l h = absurd (omega arith)
linked_step links b (c ∷ cs) zero l h = l.0
linked_step links b (c ∷ cs) (suc i) l h = linked_step links c cs i l.1 (omega arith)

pub linked_cut : (links : List ℕ) (b : ℕ) (fs : List ℕ) (i : ℕ) → Linked links b fs → i ≤ length fs → Linked links (last b (take i fs)) (drop i fs)
linked_cut links b [] zero l h = l
linked_cut links b [] (suc i) l h = absurd (omega arith)
linked_cut links b (c ∷ cs) zero l h = l
linked_cut links b (c ∷ cs) (suc i) l h = linked_cut links c cs i l.1 (omega arith)

pub linked_end : (links : List ℕ) (b : ℕ) (fs : List ℕ) → Linked links b fs → slice_get links (last b fs) ≡ Some 0
linked_end links b [] l = l
linked_end links b (c ∷ cs) l = linked_end links c cs l.1

pub linked_within : (links : List ℕ) (b : ℕ) (fs : List ℕ) → Linked links b fs → b < length links
linked_within links b fs l = slice_get_within links b (first fs) (link_first links b fs l)

-- writes
pub Linked-set : (links : List ℕ) (b : ℕ) (fs : List ℕ) (i v : ℕ) → i ≢ b → times i fs ≡ 0 → Linked links b fs → Linked (slice_set links i v) b fs
Linked-set links b [] i v nb z l = slice_get-set_other links i b v (λ e. nb (sym e)) ∙ l
Linked-set links b (c ∷ cs) i v nb z l = grind (arith, slice_get-set_other, Linked-set links c cs i v)

-- another place leads to the same sectors
pub Linked-join : (links : List ℕ) (b d : ℕ) (fs : List ℕ) → d < length links → times d fs ≡ 0 → Linked links b fs → Linked (slice_set links d (first fs)) d fs
Linked-join links b d fs h z l = grind (arith, slice_get-set_same, Linked-set)

-- a chain is cut behind its part
pub Linked-cut : (links : List ℕ) (b : ℕ) (xs ys : List ℕ) → Linked links b (xs ++ ys) → times (last b xs) (b ∷ xs) ≡ 1 → Linked (slice_set links (last b xs) 0) b xs
Linked-cut links b [] ys l e = slice_get-set_same links b 0 (linked_within links b ys l)
Linked-cut links b (c ∷ cs) ys l e = grind (arith, times-last, slice_get-set_other, Linked-cut links c cs ys l.1)

-- a chain is led on to other sectors
pub Linked-append : (links : List ℕ) (b : ℕ) (cs : List ℕ) (d : ℕ) (fs : List ℕ) → Linked links b cs → Linked links d fs → times (last b cs) (b ∷ cs) ≡ 1 → times (last b cs) fs ≡ 0 → Linked (slice_set links (last b cs) (first fs)) b (cs ++ fs)
Linked-append links b [] d fs l m e z = Linked-join links d b fs (linked_within links b [] l) z m
Linked-append links b (c ∷ cs) d fs l m e z = grind (arith, times-last, slice_get-set_other, Linked-append links c cs d fs l.1 m)

pub AreChains-set : (links : List ℕ) (ks : List (List ℕ)) (i v : ℕ) → uses i ks ≡ 0 → AreChains links ks → AreChains (slice_set links i v) ks
AreChains-set links [] i v z a = tt
AreChains-set links ([] ∷ ks) i v z a = absurd a
AreChains-set links ((c ∷ cs) ∷ ks) i v z a = grind (arith, Linked-set, AreChains-set links ks i v)

-- one chain among the others
pub uses-split : (i x : ℕ) (ks : List (List ℕ)) → uses i ks ≡ times i (chain_of x ks) + uses i (others x ks)
uses-split i x [] = refl
uses-split i x (k ∷ ks) = ⊎_elim (λ e. rw e refl) (λ e. rw e (omega (arith, uses-split i x ks))) (cases_Bool (first k == x))

pub AreChains-others : (links : List ℕ) (x : ℕ) (ks : List (List ℕ)) → AreChains links ks → AreChains links (others x ks)
AreChains-others links x [] a = tt
AreChains-others links x ([] ∷ ks) a = absurd a
AreChains-others links x ((c ∷ cs) ∷ ks) a = ⊎_elim (λ e. rw e a.1) (λ e. rw e (a.0, AreChains-others links x ks a.1)) (cases_Bool (c == x))

abbrev pub rest : List ℕ → List ℕ
rest [] = []
rest (c ∷ cs) = cs

-- a chain that is there
pub record Chain (links : List ℕ) (x : ℕ) (k : List ℕ) : Type 0 where
  pub is : k ≡ x ∷ rest k
  pub linked : Linked links x (rest k)

pub chain_there : (links : List ℕ) (x : ℕ) (ks : List (List ℕ)) → AreChains links ks → 1 ≤ length (chain_of x ks) → Chain links x (chain_of x ks)
chain_there links x [] a h = absurd (omega arith)
chain_there links x ([] ∷ ks) a h = absurd a
chain_there links x ((c ∷ cs) ∷ ks) a h = grind (arith, chain_there links x ks a.1)
