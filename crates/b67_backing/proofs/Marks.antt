-- Sectors that are marked, and chains that the links run through.
use Rattle.std.proofs.Common.{◌≡◌, ◌≢◌, ◌⊎◌, ℕ, zero, suc, ◌+◌, ◌-◌, ◌<◌, ◌≤◌, Bool, true, false, cond, List, [], ◌∷◌, ◌++◌, length, refl, sym, ◌∙◌, ap, arith, ⊎_elim, inl, inr, subst, slice_set, get_or, append_assoc, ◌==◌, get_or-set_same, get_or-set_other}
use Rattle.std.proofs.lemmas.Bool.{cases_Bool, cases_eq, cases_lt, cond-true, cond-false, ne_eqb, eq-eqb}
use Rattle.std.proofs.lemmas.List.{get_or_past}
use Rattle.std.proofs.lemmas.Grind.{get_or-set_at}
use Rattle.b67_backing.specs.Shelf.{one, times, uses}
use Rattle.b67_backing.specs.Links.{next_or, sector_after, link_of, sector_link, mark, Runs, Walked, NoChainOver}
use Rattle.b67_backing.proofs.Links.{one-same, one-other, times-cons, times-append}

-- ---- marks

pub mark-true : (xs : List Bool) (i : ℕ) → get_or xs i false ≡ true → mark xs i ≡ 1
mark-true xs i e = cond-true (get_or xs i false) 1 0 e

pub mark-false : (xs : List Bool) (i : ℕ) → get_or xs i false ≡ false → mark xs i ≡ 0
mark-false xs i e = cond-false (get_or xs i false) 1 0 e

pub mark-is : (xs : List Bool) (i : ℕ) → (mark xs i ≡ 0) ⊎ (mark xs i ≡ 1)
mark-is xs i = ⊎_elim (λ e. inr (mark-true xs i e)) (λ e. inl (mark-false xs i e)) (cases_Bool (get_or xs i false))

pub mark-past : (xs : List Bool) (i : ℕ) → length xs ≤ i → mark xs i ≡ 0
mark-past xs i le = mark-false xs i (get_or_past xs i false le)

pub mark-within : (xs : List Bool) (i : ℕ) → 1 ≤ mark xs i → i < length xs
mark-within xs i m = ⊎_elim (λ lt. lt) (λ le. absurd (omega (arith, mark-past xs i le))) (cases_lt i (length xs))

pub mark-same : (xs : List Bool) (k : ℕ) → k < length xs → mark (slice_set xs k true) k ≡ 1
mark-same xs k lt = mark-true (slice_set xs k true) k (rw get_or-set_same refl)

pub mark-other : (xs : List Bool) (k i : ℕ) → i ≢ k → mark (slice_set xs k true) i ≡ mark xs i
mark-other xs k i ne = ap (λ (b : Bool). cond b 1 0) (rw get_or-set_other refl)

-- a sector that wasn't marked is marked
pub mark-more : (xs : List Bool) (k i : ℕ) → k < length xs → mark xs k ≡ 0 → mark (slice_set xs k true) i ≡ mark xs i + one i k
mark-more xs k i lt z = grind (arith, mark-same, mark-other)

-- ---- windows

-- one more mark is taken away
pub cleared_on : (xs : List Bool) (i : ℕ) → i < length xs → ((j : ℕ) → j < i → get_or xs j false ≡ false) → (j : ℕ) → j < i + 1 → get_or (slice_set xs i false) j false ≡ false
cleared_on xs i lt none j low = grind (arith, get_or-set_at, get_or-set_other)

pub cleared_all : (xs : List Bool) (i : ℕ) → length xs ≤ i → ((j : ℕ) → j < i → get_or xs j false ≡ false) → (j : ℕ) → get_or xs j false ≡ false
cleared_all xs i le none j = ⊎_elim (λ lt. none j lt) (λ past. get_or_past xs j false (omega (arith, le, past))) (cases_lt j i)

-- a sector beside the window
pub not_within : (xs : List Bool) (n first i : ℕ) → (n ≡ first + i → ⊥) → get_or xs i false ≡ cond (n == first + i) true (get_or xs i false)
not_within xs n first i ne = sym (cond-false (n == first + i) true (get_or xs i false) (ne_eqb n (first + i) ne))

-- a sector in it
pub marked_within : (xs : List Bool) (n first i : ℕ) → first ≤ n → n - first < length xs → get_or (slice_set xs (n - first) true) i false ≡ cond (n == first + i) true (get_or xs i false)
marked_within xs n first i low lt = grind (arith, get_or-set_at, get_or-set_other)

-- how many aren't marked
pub blanks : List Bool → ℕ
blanks [] = 0
blanks (true ∷ bs) = blanks bs
blanks (false ∷ bs) = suc (blanks bs)

pub blanks-less : (xs : List Bool) (k : ℕ) → k < length xs → get_or xs k false ≡ false → blanks (slice_set xs k true) < blanks xs
unfolding blanks
blanks-less [] k lt e = absurd (omega arith)
blanks-less (true ∷ bs) zero lt e = absurd cc
blanks-less (false ∷ bs) zero lt e = omega arith
blanks-less (true ∷ bs) (suc k) lt e = blanks-less bs k (omega arith) e
blanks-less (false ∷ bs) (suc k) lt e = let h = blanks-less bs k (omega arith) e in omega arith

-- ---- one chain

-- the sectors so far lead from the first one to that where the walk stands
pub record Walking (links : List ℕ) (c at : ℕ) (old now : List Bool) : Type 0 where
  pub before : List ℕ
  pub marks : (i : ℕ) → mark now i ≡ mark old i + times i before
  pub on : (ys : List ℕ) → Runs links at ys → (cs : List ℕ) × (c ∷ cs ≡ before ++ at ∷ ys) × Runs links c cs
  pub back : (cs : List ℕ) → Runs links c cs → (ys : List ℕ) × (c ∷ cs ≡ before ++ at ∷ ys) × Runs links at ys
  pub many : length now ≡ length old
  pub low : 1 ≤ at
  pub high : at ≤ length links

once_more : (links : List ℕ) (c at : ℕ) (old now : List Bool) (w : Walking links c at old now) → at < length now → mark now at ≡ 0 → (i : ℕ) → mark (slice_set now at true) i ≡ mark old i + times i (w.before ++ at ∷ [])
once_more links c at old now w lt z i = omega (arith, mark-more now at i lt z, w.marks i, times-append i w.before (at ∷ []))

pub walking_next : (links : List ℕ) (c at next : ℕ) (old now : List Bool) → Walking links c at old now → at < length now → mark now at ≡ 0 → next ≡ sector_link links at → next ≢ 0 → next ≢ at → next ≤ length links → length (slice_set now at true) ≡ length now → Walking links c next old (slice_set now at true)
walking_next links c at next old now w lt z is some other high len = record {
  before = w.before ++ at ∷ [];
  marks = once_more links c at old now w lt z;
  on = λ ys r.
      let (cs, e, q) = w.on (next ∷ ys) (sym is, other, some, r) in
      (cs, e ∙ sym (append_assoc w.before (at ∷ []) (next ∷ ys)), q);
  back = λ cs r. let (ys, e, q) = w.back cs r in behind ys cs e q;
  many = len ∙ w.many;
  low = omega (arith, some);
  high = high;
}
  where
    behind : (ys cs : List ℕ) → c ∷ cs ≡ w.before ++ at ∷ ys → Runs links at ys → (zs : List ℕ) × (c ∷ cs ≡ (w.before ++ at ∷ []) ++ next ∷ zs) × Runs links next zs
    behind [] cs e q = absurd (other (is ∙ q))
    behind (d ∷ ys) cs e q =
        let same : d ≡ next = sym q.0 ∙ sym is in
        (ys, e ∙ ap (λ (x : ℕ). w.before ++ at ∷ x ∷ ys) same ∙ sym (append_assoc w.before (at ∷ []) (next ∷ ys)), subst (λ (x : ℕ). Runs links x ys) same q.3)

pub walking_done : (links : List ℕ) (c at : ℕ) (old now : List Bool) → Walking links c at old now → at < length now → mark now at ≡ 0 → sector_link links at ≡ at → length (slice_set now at true) ≡ length now → (cs : List ℕ) × Walked links c cs old (slice_set now at true)
walking_done links c at old now w lt z last len =
    let (cs, e, q) = w.on [] last in
    (cs, record { runs = q; marks = λ i. once_more links c at old now w lt z i ∙ ap (λ (ys : List ℕ). mark old i + times i ys) (sym e); many = len ∙ w.many })

pub walking_met : (links : List ℕ) (c at : ℕ) (old now : List Bool) → Walking links c at old now → mark now at ≡ 1 → NoChainOver links c old
walking_met links c at old now w met = λ cs r once.
    let (ys, e, q) = w.back cs r in
    omega (arith, w.marks at, met, once at, ap (times at) e, times-append at w.before (at ∷ ys), one-same at)

pub walking_free : (links : List ℕ) (c at : ℕ) (old now : List Bool) → Walking links c at old now → sector_link links at ≡ 0 → NoChainOver links c old
walking_free links c at old now w free = λ cs r once. let (ys, e, q) = w.back cs r in ends ys q
  where
    ends : (ys : List ℕ) → Runs links at ys → ⊥
    ends [] q = omega (arith, q, free, w.low)
    ends (d ∷ ys) q = q.2 (sym q.0 ∙ free)

-- ---- chains and links

pub one-at : (i c : ℕ) → c ≡ i → one i c ≡ 1
one-at i c e = rw e (one-same i)

pub link-absent : (p : ℕ) (ks : List (List ℕ)) → uses p ks ≡ 0 → link_of p ks ≡ 0
link-absent p [] z = refl
link-absent p (k ∷ ks) z = cond-true (times p k == 0) _ _ (eq-eqb (times p k) 0 (omega arith)) ∙ link-absent p ks (omega arith)

pub link-here : (p : ℕ) (k : List ℕ) (ks : List (List ℕ)) → 1 ≤ times p k → link_of p (k ∷ ks) ≡ sector_after p k
link-here p k ks s = cond-false (times p k == 0) _ _ (ne_eqb (times p k) 0 (λ e. omega arith))

pub link-there : (p : ℕ) (k : List ℕ) (ks : List (List ℕ)) → times p k ≡ 0 → link_of p (k ∷ ks) ≡ link_of p ks
link-there p k ks z = cond-true (times p k == 0) _ _ (eq-eqb (times p k) 0 z)

pub after-first : (c : ℕ) (cs : List ℕ) → sector_after c (c ∷ cs) ≡ next_or c cs
after-first c cs = cond-true (c == c) _ _ (eq-eqb c c refl)

pub after-later : (p c : ℕ) (cs : List ℕ) → c ≢ p → sector_after p (c ∷ cs) ≡ sector_after p cs
after-later p c cs ne = cond-false (c == p) _ _ (ne_eqb c p ne)

-- the links that chains have run through them
pub chain_runs : (links : List ℕ) (c : ℕ) (cs : List ℕ) → ((m : ℕ) → times m (c ∷ cs) ≤ 1) → times 0 (c ∷ cs) ≡ 0 → ((m : ℕ) → 1 ≤ times m (c ∷ cs) → sector_link links m ≡ sector_after m (c ∷ cs)) → Runs links c cs
chain_runs links c [] once z is = is c (omega (arith, one-same c)) ∙ after-first c []
chain_runs links c (d ∷ cs) once z is = (
  is c (omega (arith, one-same c)) ∙ after-first c (d ∷ cs),
  λ e. let here : one c d ≡ 1 = rw e (one-same c) in omega (arith, here, one-same c, once c),
  λ e. (times-cons 0 d cs (omega arith)).0 (sym e),
  chain_runs links d cs
      (λ m. omega (arith, once m))
      (omega arith)
      (λ m s. is m (omega arith) ∙ after-later m c (d ∷ cs) (λ e. let here = one-at m c e in omega (arith, here, s, once m))),
)

-- a sector of a chain but the first follows another one
pub pred : (n c : ℕ) (cs : List ℕ) → c ≢ n → ((m : ℕ) → times m (c ∷ cs) ≤ 1) → 1 ≤ times n (c ∷ cs) → (p : ℕ) × (sector_after p (c ∷ cs) ≡ n) × (p ≢ n) × (1 ≤ times p (c ∷ cs))
pred n c [] ne once s = absurd (omega (arith, one-other n c (λ e. ne (sym e))))
pred n c (d ∷ cs) ne once s = ⊎_elim
    (λ e. (c, after-first c (d ∷ cs) ∙ e, ne, omega (arith, one-same c)))
    (λ nd.
    let (p, is, other, there) = pred n d cs nd (λ m. omega (arith, once m)) (omega (arith, one-other n c (λ e. ne (sym e)))) in
    (p, after-later p c (d ∷ cs) (λ e. let here = one-at p c e in omega (arith, here, there, once p)) ∙ is, other, omega (arith, there)))
    (cases_eq d n)

-- what follows a sector in a chain is in the chain behind it
pub followed : (p n c : ℕ) (cs : List ℕ) → sector_after p (c ∷ cs) ≡ n → p ≢ n → n ≢ 0 → 1 ≤ times n cs
followed p n c [] is other some = grind arith
followed p n c (d ∷ ds) is other some = grind (arith, followed p n d ds)
