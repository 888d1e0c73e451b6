-- The relation on chains and the function say the same.
use Rattle.std.proofs.Common.{◌≡◌, ℕ, zero, suc, ◌≤◌, refl, sym, ◌∙◌, ap, subst, arith, ◌⊎◌, inl, inr, Err}
use Rattle.b67_word.specs.declared.faults.Fault.TheVariants.{Loop}
use Rattle.b67_model.specs.Common.{Answer, Word, OperatorContext, End, Link, Stops, Leads, link, Chain, last, onward, Path, here, further, ComesTo, ends, loops, chase_on, chase, ChaseIsRelation}
use Rattle.b67_model.specs.declared.limits.TheConstants.{MOST_LINKS}

-- a chain that isn't too long gives its end
chain_gives : (h : OperatorContext) {w : Word} {end : Answer End} {n : ℕ} → Chain h w end n → (k : ℕ) → n ≤ k → chase_on h k (Leads w) ≡ end
chain_gives h (last e) zero le = absurd (omega arith)
chain_gives h (last e) (suc k) le = ap (chase_on h k) e
chain_gives h (onward e c) zero le = absurd (omega arith)
chain_gives h (onward e c) (suc k) le = ap (chase_on h k) e ∙ chain_gives h c k (omega arith)

-- as many links as there may be, and a reference at their end
path_gives : (h : OperatorContext) {w v : Word} {n : ℕ} → Path h w v n → chase_on h n (Leads w) ≡ Err Loop
path_gives h here = refl
path_gives h (further {links = k} e p) = ap (chase_on h k) e ∙ path_gives h p

pub comes_gives : (h : OperatorContext) (w : Word) (end : Answer End) → ComesTo h w end → chase h w ≡ end
comes_gives h w end (ends e n le c) = chain_gives h c MOST_LINKS le
comes_gives h w end (loops v p) = path_gives h p

-- what the function with k links left shows
record Shown (h : OperatorContext) (w : Word) (end : Answer End) (k : ℕ) : Type 0 where
  by : ((n : ℕ) × (n ≤ k) × Chain h w end n) ⊎ ((v : Word) × (end ≡ Err Loop) × Path h w v k)

more : (h : OperatorContext) (k : ℕ) (w v : Word) (end : Answer End) → link h w ≡ Leads v → Shown h v end k → Shown h w end (suc k)
more h k w v end e s =
    elim s.by [
      | inl c ↦ record { by = inl (suc c.0, omega (arith, c.1), onward e c.2) }
      | inr p ↦ record { by = inr (p.0, p.1, further e p.2) }
    ]

shows : (h : OperatorContext) (k : ℕ) (w : Word) → Shown h w (chase_on h k (Leads w)) k
shows h zero w = record { by = inr (w, refl, here) }
shows h (suc k) w = go (λ v. shows h k v) (link h w) refl
  where
    go : ((v : Word) → Shown h v (chase_on h k (Leads v)) k) → (l : Link) → link h w ≡ l → Shown h w (chase_on h k l) (suc k)
    go rest (Stops end) e = record { by = inl (1, omega arith, last e) }
    go rest (Leads v) e = more h k w v (chase_on h k (Leads v)) e (rest v)

loops_at : (h : OperatorContext) (w : Word) (end : Answer End) → Shown h w end MOST_LINKS → ComesTo h w end
loops_at h w end s =
    elim s.by [
      | inl c ↦ ends end c.0 c.1 c.2
      | inr p ↦ subst (ComesTo h w) (sym p.1) (loops p.0 p.2)
    ]

pub gives_comes : (h : OperatorContext) (w : Word) (end : Answer End) → chase h w ≡ end → ComesTo h w end
gives_comes h w end e = subst (ComesTo h w) e (loops_at h w (chase h w) (shows h MOST_LINKS w))

pub chase_is_relation : ChaseIsRelation
chase_is_relation h w end = (comes_gives h w end, gives_comes h w end)
