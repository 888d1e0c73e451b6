-- Each sector is free or in a chain, so the free ones and those of all chains are as many as there are.
use Rattle.std.proofs.Common.{◌≡◌, ◌≢◌, ℕ, zero, suc, ◌+◌, ◌<◌, ◌≤◌, ◌==◌, List, [], ◌∷◌, length, refl, sym, arith, inl, inr, ⊎_elim, subst}
use Rattle.std.proofs.lemmas.Bool.{cases_eq, eq-eqb, ne_eqb}
use Rattle.b67_backing.specs.Shelf.{Table, Shelf, AreChains, IsShelf, one, times, uses, first, chain_of}
use Rattle.b67_backing.proofs.Links.{linked_within}
use Rattle.b67_backing.proofs.News.{unused}
use Rattle.b67_lemmas.specs.Lists.{Has, total}
use Rattle.b67_lemmas.proofs.Sums.{total_gap}

-- a function of the numbers from 1 to n
abbrev upto : (ℕ → ℕ) → ℕ → ℕ
upto h zero = 0
upto h (suc n) = upto h n + h (suc n)

upto-one : (h : ℕ → ℕ) (n : ℕ) → ((i : ℕ) → 1 ≤ i → i ≤ n → h i ≡ 1) → upto h n ≡ n
upto-one h zero e = refl
upto-one h (suc n) e = omega (arith, upto-one h n (λ i low high. e i low (omega arith)), e (suc n) (omega arith) (omega arith))

upto-plus : (f g : ℕ → ℕ) (n : ℕ) → upto (λ i. f i + g i) n ≡ upto f n + upto g n
upto-plus f g zero = refl
upto-plus f g (suc n) = omega (arith, upto-plus f g n)

upto-none : (n : ℕ) → upto (λ i. 0) n ≡ 0
upto-none zero = refl
upto-none (suc n) = omega (arith, upto-none n)

-- a number is at most one of these
single : (c n : ℕ) → (upto (λ i. one i c) n ≤ 1) × (n < c → upto (λ i. one i c) n ≡ 0)
single c zero = (omega arith, λ low. refl)
single c (suc n) = grind (arith, single c n)

times_within : (xs : List ℕ) (n : ℕ) → upto (λ i. times i xs) n ≤ length xs
times_within [] n = omega (arith, upto-none n)
times_within (c ∷ cs) n = omega (arith, upto-plus (λ i. one i c) (λ i. times i cs) n, (single c n).0, times_within cs n)

uses_within : (ks : List (List ℕ)) (n : ℕ) → upto (λ i. uses i ks) n ≤ total length ks
uses_within [] n = omega (arith, upto-none n)
uses_within (k ∷ ks) n = omega (arith, upto-plus (λ i. times i k) (λ i. uses i ks) n, times_within k n, uses_within ks n)

-- no two chains begin with the same sector
abbrev Differ : List (List ℕ) → Type 0
Differ [] = Unit {0}
Differ (k ∷ ks) = (chain_of (first k) ks ≡ []) × Differ ks

differ : (links : List ℕ) (ks : List (List ℕ)) → AreChains links ks → ((i : ℕ) → i < length links → uses i ks ≤ 1) → Differ ks
differ links [] a once = tt
differ links ([] ∷ ks) a once = absurd a
differ links ((c ∷ cs) ∷ ks) a once = grind (arith, unused, linked_within, differ links ks a.1)

starts_with : (links : List ℕ) (ks : List (List ℕ)) (k : List ℕ) → AreChains links ks → Has ks k → 0 < length (chain_of (first k) ks)
starts_with links [] k a h = absurd h
starts_with links ([] ∷ ks) k a h = absurd a
starts_with links ((c ∷ cs) ∷ ks) k a h = grind (arith, starts_with links ks k a.1)

-- the sectors of all chains, by a list that names each chain
lengths : (links : List ℕ) (ks : List (List ℕ)) (fs : List ℕ) → AreChains links ks → Differ ks → ((k : List ℕ) → Has ks k → Has fs (first k)) → total length ks ≤ total (λ f. length (chain_of f ks)) fs
lengths links [] fs a d named = omega arith
lengths links ([] ∷ ks) fs a d named = absurd a
lengths links ((c ∷ cs) ∷ ks) fs a d named =
    let none : length (chain_of c ks) ≡ 0 = rw d.0 refl in
    let own : length (chain_of c ((c ∷ cs) ∷ ks)) ≡ length (c ∷ cs) = rw (eq-eqb c c refl) refl in
    let gap = total_gap (λ f. length (chain_of f ks)) (λ f. length (chain_of f ((c ∷ cs) ∷ ks))) fs c (length (c ∷ cs))
    (λ f k. ⊎_elim
    (λ (e : c ≡ f). subst (λ g. length (chain_of g ks) ≤ length (chain_of g ((c ∷ cs) ∷ ks))) e (omega (arith, none)))
    (λ (ne : c ≢ f). let same : length (chain_of f ((c ∷ cs) ∷ ks)) ≡ length (chain_of f ks) = rw (ne_eqb c f ne) refl in omega (arith, same))
    (cases_eq c f))
    (named (c ∷ cs) (inl refl)) (omega (arith, none, own)) in
    omega (arith, gap, lengths links ks fs a.1 d.1 (λ k m. named k (inr m)))

-- a list that names each chain covers the sectors that aren't free
pub covers : (t : Table) (st : Shelf) → IsShelf t st → (fs : List ℕ) → ((f : ℕ) → 0 < length (chain_of f st.chains) → Has fs f)
    → length t.links ≤ length st.free + total (λ f. length (chain_of f st.chains)) fs + 1
covers t st shelf fs named = by (length t.links) refl where
  by : (n : ℕ) → length t.links ≡ n → n ≤ length st.free + total (λ f. length (chain_of f st.chains)) fs + 1
  by zero e = omega arith
  by (suc n) e =
      let each : upto (λ i. times i st.free + uses i st.chains) n ≡ n = upto-one (λ i. times i st.free + uses i st.chains) n (λ i low high. shelf.once i low (omega (arith, e, high))) in
      let once : (i : ℕ) → i < length t.links → uses i st.chains ≤ 1 = λ i low. ⊎_elim
      (λ (z : i ≡ 0). subst (λ m. uses m st.chains ≤ 1) (sym z) (omega (arith, shelf.zero)))
      (λ (z : i ≢ 0). omega (arith, shelf.once i (by_some i z) low))
      (cases_eq i 0) in
      omega (
        arith,
        each,
        upto-plus (λ i. times i st.free) (λ i. uses i st.chains) n,
        times_within st.free n,
        uses_within st.chains n,
        lengths t.links st.chains fs shelf.chains (differ t.links st.chains shelf.chains once) (λ k h. named (first k) (starts_with t.links st.chains k shelf.chains h)),
      )
    where
      by_some : (i : ℕ) → i ≢ 0 → 1 ≤ i
      by_some zero z = absurd (z refl)
      by_some (suc i) z = omega arith
