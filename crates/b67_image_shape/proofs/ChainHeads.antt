-- The chains of links, by the sectors that begin them.
use Rattle.std.proofs.Common.{◌≡◌, ◌≢◌, ℕ, zero, suc, ◌<◌, ◌≤◌, ◌==◌, true, false, List, [], ◌∷◌, length, refl, sym, ◌∙◌, ap, arith, ⊎_elim, subst}
use Rattle.std.proofs.lemmas.Bool.{cases_eq, cases_lt, cond-true, cond-false, eq-eqb, ne_eqb, eqb-true}
use Rattle.b67_backing.specs.Shelf.{one, times, uses, chain_of}
use Rattle.b67_backing.specs.Links.{sector_after, link_of, AreSome, AreLinksOf, sector_link, Follows, Runs}
use Rattle.b67_backing.proofs.Links.{one-same}
use Rattle.b67_backing.proofs.Marks.{link-absent, link-here, link-there, chain_runs, pred, followed}
use Rattle.b67_backing.proofs.Heads.{link_is, used, link_some}
use Rattle.b67_image_shape.specs.Chains.{IsChainHead, run_test, IsSectorChain}

-- ---- the chain that a sector begins

chain_here : (n c : ℕ) (cs : List ℕ) (ks : List (List ℕ)) → c ≡ n → chain_of n ((c ∷ cs) ∷ ks) ≡ c ∷ cs
chain_here n c cs ks e = cond-true (c == n) _ _ (eq-eqb c n e)

chain_later : (n c : ℕ) (cs : List ℕ) (ks : List (List ℕ)) → c ≢ n → chain_of n ((c ∷ cs) ∷ ks) ≡ chain_of n ks
chain_later n c cs ks ne = cond-false (c == n) _ _ (ne_eqb c n ne)

-- a sector that stands in no chain begins none
chain_absent : (n : ℕ) (ks : List (List ℕ)) → AreSome ks → uses n ks ≡ 0 → chain_of n ks ≡ []
chain_absent n [] some z = refl
chain_absent n ([] ∷ ks) some z = absurd some
chain_absent n ((c ∷ cs) ∷ ks) some z = grind (arith, chain_later, one-same, chain_absent n ks some)

-- one that begins a chain stands in it
chain_uses : (n : ℕ) (ks : List (List ℕ)) → AreSome ks → 0 < length (chain_of n ks) → 1 ≤ uses n ks
chain_uses n ks some h = grind (arith, ⊎_elim, chain_absent, cases_lt)

-- one that follows another sector begins none
chain_followed : (n p : ℕ) (ks : List (List ℕ)) → AreSome ks → ((m : ℕ) → uses m ks ≤ 1) → n ≢ 0 → link_of p ks ≡ n → p ≢ n → (chain_of n ks ≡ []) × (1 ≤ uses n ks)
chain_followed n p [] some apart pos is other = absurd (pos (sym is))
chain_followed n p ([] ∷ ks) some apart pos is other = absurd some
chain_followed n p ((c ∷ cs) ∷ ks) some apart pos is other = ⊎_elim
    (λ t.
    let (none, there) = chain_followed n p ks some (λ m. omega (arith, apart m)) pos (sym (link-there p (c ∷ cs) ks (omega arith)) ∙ is) other in
    (chain_later n c cs ks (λ e. let here : one n c ≡ 1 = rw e (one-same n) in omega (arith, apart n, here, there)) ∙ none, omega (arith, there)))
    (λ t.
    let behind = followed p n c cs (sym (link-here p (c ∷ cs) ks t) ∙ is) other pos in
    (chain_later n c cs ks (λ e. let here : one n c ≡ 1 = rw e (one-same n) in omega (arith, apart n, here, behind)) ∙ chain_absent n ks some (omega (arith, apart n, behind)), omega (arith, behind)))
    (cases_lt (times p (c ∷ cs)) 1)

-- the chain of a sector that follows none
record Begun (n : ℕ) (ks : List (List ℕ)) : Type 0 where
  pub cs : List ℕ
  pub is : chain_of n ks ≡ n ∷ cs
  pub links : (m : ℕ) → 1 ≤ times m (n ∷ cs) → link_of m ks ≡ sector_after m (n ∷ cs)
  pub within : (m : ℕ) → times m (n ∷ cs) ≤ uses m ks

begun : (n : ℕ) (ks : List (List ℕ)) → AreSome ks → ((m : ℕ) → uses m ks ≤ 1) → n ≢ 0 → 1 ≤ uses n ks → ((p : ℕ) → link_of p ks ≡ n → p ≢ n → ⊥) → Begun n ks
begun n [] some apart pos s none = absurd (omega arith)
begun n ([] ∷ ks) some apart pos s none = absurd some
begun n ((c ∷ cs) ∷ ks) some apart pos s none = ⊎_elim
    (λ there.
    let z : times n (c ∷ cs) ≡ 0 = omega arith in
    later z (begun n ks some (λ m. omega (arith, apart m)) pos (omega (arith, s, z)) (λ p is other. none p (⊎_elim (λ t. let y : times p (c ∷ cs) ≡ 0 = omega arith in link-there p (c ∷ cs) ks y ∙ is) (λ t. absurd (pos (sym is ∙ link-absent p ks (omega (arith, apart p, t))))) (cases_lt (times p (c ∷ cs)) 1)) other)))
    (λ here. ⊎_elim (λ e. at_first e) (λ ne. absurd (at_later here ne)) (cases_eq c n))
    (cases_lt (times n (c ∷ cs)) 1)
  where
    at_first : c ≡ n → Begun n ((c ∷ cs) ∷ ks)
    at_first e =
        subst (λ (x : ℕ). Begun x ((c ∷ cs) ∷ ks)) e (record {
          cs = cs;
          is = chain_here c c cs ks refl;
          links = λ m t. link-here m (c ∷ cs) ks t;
          within = λ m. omega arith;
        })

    at_later : 1 ≤ times n (c ∷ cs) → c ≢ n → ⊥
    at_later here ne =
        let (p, is, other, there) = pred n c cs ne (λ m. omega (arith, apart m)) here in
        none p (link-here p (c ∷ cs) ks there ∙ is) other

    later : times n (c ∷ cs) ≡ 0 → Begun n ks → Begun n ((c ∷ cs) ∷ ks)
    later z b = record {
      cs = b.cs;
      is = chain_later n c cs ks (λ e. let here : one n c ≡ 1 = rw e (one-same n) in omega (arith, here, z)) ∙ b.is;
      links = λ m t. link-there m (c ∷ cs) ks (omega (arith, apart m, b.within m, t)) ∙ b.links m t;
      within = λ m. omega (arith, b.within m);
    }

-- ---- runs of links

run_is : (links : List ℕ) (n c : ℕ) (cs : List ℕ) → Runs links c cs → run_test links n c ≡ true → n ≡ length cs
run_is links zero c [] r t = refl
run_is links zero c (d ∷ cs) r t = absurd (r.1 (sym r.0 ∙ eqb-true (sector_link links c) c t))
run_is links (suc n) c [] r t = absurd (let no : run_test links (suc n) c ≡ false = cond-true (sector_link links c == c) _ _ (eq-eqb (sector_link links c) c r) in let z : ⊥ = cc in z)
run_is links (suc n) c (d ∷ cs) r t = grind (arith, cond-false, ne_eqb, run_is links n d cs r.3)

is_run : (links : List ℕ) (c : ℕ) (cs : List ℕ) → Runs links c cs → run_test links (length cs) c ≡ true
is_run links c [] r = eq-eqb (sector_link links c) c r
is_run links c (d ∷ cs) r = grind (arith, cond-false, ne_eqb, is_run links d cs r.3)

-- ---- by the links

module _ (links : List ℕ) (ks : List (List ℕ)) (a : AreLinksOf links ks) where
  -- a sector whose link among the chains is another one is followed
  follows : (p n : ℕ) → link_of p ks ≡ n → p ≢ n → n ≢ 0 → Follows links p n
  follows p n is other some = grind (arith, ⊎_elim, link-absent, cases_lt, link_is)

  head_begun : (n : ℕ) → IsChainHead links n → Begun n ks
  head_begun n h =
      let low = h.low in
      let pos : n ≢ 0 = λ e. omega (arith, e, low) in
      begun n ks a.some a.apart pos (used links ks a n h.low h.high h.linked) (λ p is other. h.unled p (follows p n is other pos))

  head_runs : (n : ℕ) (b : Begun n ks) → Runs links n b.cs
  head_runs n b = grind (arith, chain_runs, ⊎_elim, cases_lt, link_is)

  -- the chain of a head has a sector
  pub head_some : (n : ℕ) → IsChainHead links n → 0 < length (chain_of n ks)
  head_some n h = let b = head_begun n h in let e : length (chain_of n ks) ≡ suc (length b.cs) = ap length b.is in omega (arith, e)

  -- and a chain's first sector is a head
  pub some_head : (n : ℕ) → 0 < length (chain_of n ks) → IsChainHead links n
  some_head n h =
      let there = chain_uses n ks a.some h in
      let (low, high) = a.inside n there in
      let some = link_some n ks low (λ m s. (a.inside m s).0) there in
      let is = link_is links ks a n low high in
      record {
        low = low;
        high = high;
        linked = λ e. omega (arith, is, some, e);
        unled = λ p f.
            let none = (chain_followed n p ks a.some a.apart f.some (sym (link_is links ks a p f.low f.high) ∙ f.link) (λ e. f.other (sym e))).0 in
            let zero : length (chain_of n ks) ≡ 0 = ap length none in
            omega (arith, h, zero);
      }

  -- a chain has so many sectors exactly if the links run so far
  pub chain_is : (n many : ℕ) → IsSectorChain links n many → length (chain_of n ks) ≡ many
  chain_is n many c =
      let b = head_begun n c.head in
      let e = run_is links c.behind n b.cs (head_runs n b) c.runs in
      ap length b.is ∙ sym (c.many_is ∙ ap suc e)

  pub is_chain : (n many : ℕ) → 0 < many → length (chain_of n ks) ≡ many → IsSectorChain links n many
  is_chain n many some e =
      let h = some_head n (omega (arith, some, e)) in
      let b = head_begun n h in
      record { head = h; behind = length b.cs; many_is = sym e ∙ ap length b.is; runs = is_run links n b.cs (head_runs n b) }
