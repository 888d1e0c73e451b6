-- Chains by the numbers of their first sectors, as they are walked.
use Rattle.std.proofs.Common.{◌≡◌, ◌≢◌, ◌⊎◌, ℕ, zero, suc, ◌+◌, ◌-◌, ◌<◌, ◌≤◌, Bool, true, false, cond, List, [], ◌∷◌, length, Some, refl, sym, ◌∙◌, ap, arith, ⊎_elim, inl, inr, subst, get_or, slice_set, nat_lt, ◌==◌}
use Rattle.std.specs.List.{slice_get}
use Rattle.std.proofs.lemmas.Bool.{cases_eq, cases_lt, cond-true, cond-false, eq-eqb, lt-ltb, le-ltb}
use Rattle.std.proofs.lemmas.Option.{same_Some}
use Rattle.std.proofs.lemmas.List.{get_or_past}
use Rattle.std.proofs.Math.ListN.{length-set}
use Rattle.b67_backing.specs.Shelf.{one, times, uses, first}
use Rattle.b67_backing.specs.Links.{next_or, sector_after, link_of, AreSome, AreLinksOf, sector_link, AreInside, Follows, mark, AreLed, Runs, AreRuns, Walked, AreMarkedBy, NoChainOver, Reaches}
use Rattle.b67_backing.proofs.Links.{one-same, one-other}
use Rattle.b67_backing.proofs.Marks.{mark-true, mark-false, mark-same, mark-other, mark-is, mark-within, link-absent, link-here, link-there, after-later, chain_runs, pred, followed}

-- how often a sector stands in the chains whose first sector is below n
pub below : ℕ → ℕ → List (List ℕ) → ℕ
below n i [] = 0
below n i (k ∷ ks) = (cond (nat_lt (first k) n) (times i k) 0) + below n i ks

below_in : (n i : ℕ) (k : List ℕ) (ks : List (List ℕ)) → first k < n → below n i (k ∷ ks) ≡ times i k + below n i ks
unfolding below
below_in n i k ks lt = ap (λ (x : ℕ). x + below n i ks) (cond-true (nat_lt (first k) n) _ _ (lt-ltb (first k) n lt))

below_out : (n i : ℕ) (k : List ℕ) (ks : List (List ℕ)) → n ≤ first k → below n i (k ∷ ks) ≡ below n i ks
unfolding below
below_out n i k ks le = ap (λ (x : ℕ). x + below n i ks) (cond-false (nat_lt (first k) n) _ _ (le-ltb (first k) n le)) ∙ (let e : 0 + below n i ks ≡ below n i ks = omega arith in e)

below-low : (n i : ℕ) (ks : List (List ℕ)) → below n i ks ≤ uses i ks
unfolding below
below-low n i [] = omega arith
below-low n i (k ∷ ks) = grind (arith, below-low n i ks)

-- a chain with another first sector counts alike
other_first : (n i : ℕ) (k : List ℕ) (ks : List (List ℕ)) → first k ≢ n → below (n + 1) i ks ≡ below n i ks → below (n + 1) i (k ∷ ks) ≡ below n i (k ∷ ks)
other_first n i k ks ne h = grind (arith, below_in, below_out)

-- no chain begins with a sector that stands in none
below-absent : (n i : ℕ) (ks : List (List ℕ)) → AreSome ks → uses n ks ≡ 0 → below (n + 1) i ks ≡ below n i ks
unfolding below
below-absent n i [] some z = refl
below-absent n i ([] ∷ ks) some z = absurd some
below-absent n i ((c ∷ cs) ∷ ks) some z = other_first n i (c ∷ cs) ks (λ e. let here : 1 ≤ times n (c ∷ cs) = rw e (omega (arith, one-same n)) in omega (arith, here)) (below-absent n i ks some (omega arith))

-- all first sectors lie below
below-all : (n i : ℕ) (ks : List (List ℕ)) → AreSome ks → ((m : ℕ) → 1 ≤ uses m ks → m < n) → below n i ks ≡ uses i ks
unfolding below
below-all n i [] some h = refl
below-all n i ([] ∷ ks) some h = absurd some
below-all n i ((c ∷ cs) ∷ ks) some h = omega (arith, below_in n i (c ∷ cs) ks (h c (omega (arith, one-same c))), below-all n i ks some (λ m s. h m (omega arith)))

-- and none does
below-none : (i : ℕ) (ks : List (List ℕ)) → AreSome ks → ((m : ℕ) → 1 ≤ uses m ks → 1 ≤ m) → below 1 i ks ≡ 0
unfolding below
below-none i [] some h = refl
below-none i ([] ∷ ks) some h = absurd some
below-none i ((c ∷ cs) ∷ ks) some h = below_out 1 i (c ∷ cs) ks (h c (omega (arith, one-same c))) ∙ below-none i ks some (λ m s. h m (omega arith))

-- the chain that a sector begins which follows none
record Begins (n : ℕ) (ks : List (List ℕ)) : Type 0 where
  pub cs : List ℕ
  pub links : (m : ℕ) → 1 ≤ times m (n ∷ cs) → link_of m ks ≡ sector_after m (n ∷ cs)
  pub within : (m : ℕ) → times m (n ∷ cs) ≤ uses m ks
  pub next : (i : ℕ) → below (n + 1) i ks ≡ below n i ks + times i (n ∷ cs)

begins : (n : ℕ) (ks : List (List ℕ)) → AreSome ks → ((m : ℕ) → uses m ks ≤ 1) → n ≢ 0 → 1 ≤ uses n ks → ((p : ℕ) → link_of p ks ≡ n → p ≢ n → ⊥) → Begins n ks
begins n [] some apart pos s none = absurd (omega arith)
begins n ([] ∷ ks) some apart pos s none = absurd some
begins n ((c ∷ cs) ∷ ks) some apart pos s none = ⊎_elim
    (λ there.
    let z : times n (c ∷ cs) ≡ 0 = omega arith in
    at_rest z (begins n ks some (λ m. omega (arith, apart m)) pos (omega (arith, s, z)) (λ p is other. none p (⊎_elim (λ t. let y : times p (c ∷ cs) ≡ 0 = omega arith in link-there p (c ∷ cs) ks y ∙ is) (λ t. absurd (pos (sym is ∙ link-absent p ks (omega (arith, apart p, t))))) (cases_lt (times p (c ∷ cs)) 1)) other)))
    (λ here. ⊎_elim (λ e. at_first here e) (λ ne. absurd (at_later here ne)) (cases_eq c n))
    (cases_lt (times n (c ∷ cs)) 1)
  where
    at_first : 1 ≤ times n (c ∷ cs) → c ≡ n → Begins n ((c ∷ cs) ∷ ks)
    at_first here e =
        let gone : uses n ks ≡ 0 = omega (arith, apart n, here) in
        subst (λ (x : ℕ). Begins x ((c ∷ cs) ∷ ks)) e (record {
          cs = cs;
          links = λ m t. link-here m (c ∷ cs) ks t;
          within = λ m. omega arith;
          next = λ i. omega (arith, below_in (c + 1) i (c ∷ cs) ks (omega arith), below_out c i (c ∷ cs) ks (omega arith), below-absent c i ks some (rw e gone));
        })

    at_later : 1 ≤ times n (c ∷ cs) → c ≢ n → ⊥
    at_later here ne =
        let (p, is, other, there) = pred n c cs ne (λ m. omega (arith, apart m)) here in
        none p (link-here p (c ∷ cs) ks there ∙ is) other

    at_rest : times n (c ∷ cs) ≡ 0 → Begins n ks → Begins n ((c ∷ cs) ∷ ks)
    at_rest z b = record {
      cs = b.cs;
      links = λ m t. link-there m (c ∷ cs) ks (omega (arith, apart m, b.within m, t)) ∙ b.links m t;
      within = λ m. omega (arith, b.within m);
      next = λ i. ⊎_elim
          (λ lt. omega (arith, below_in n i (c ∷ cs) ks lt, below_in (n + 1) i (c ∷ cs) ks (omega arith), b.next i))
          (λ le. omega (arith, below_out n i (c ∷ cs) ks le, below_out (n + 1) i (c ∷ cs) ks (omega (arith, le, differ z)), b.next i))
          (cases_lt c n);
    }
      where
        differ : times n (c ∷ cs) ≡ 0 → c ≢ n
        differ z e = let here : one n c ≡ 1 = rw e (one-same n) in omega (arith, here, z)

-- no chain begins with a sector that follows another one
follows_none : (n i p : ℕ) (ks : List (List ℕ)) → AreSome ks → ((m : ℕ) → uses m ks ≤ 1) → n ≢ 0 → link_of p ks ≡ n → p ≢ n → (below (n + 1) i ks ≡ below n i ks) × (1 ≤ uses n ks)
follows_none n i p [] some apart pos is other = absurd (pos (sym is))
follows_none n i p ([] ∷ ks) some apart pos is other = absurd some
follows_none n i p ((c ∷ cs) ∷ ks) some apart pos is other = ⊎_elim
    (λ t.
    let (same, there) = follows_none n i p ks some (λ m. omega (arith, apart m)) pos (sym (link-there p (c ∷ cs) ks (omega arith)) ∙ is) other in
    (other_first n i (c ∷ cs) ks (λ e. let here : one n c ≡ 1 = rw e (one-same n) in omega (arith, apart n, here, there)) same, omega (arith, there)))
    (λ t.
    let behind = followed p n c cs (sym (link-here p (c ∷ cs) ks t) ∙ is) other pos in
    (other_first n i (c ∷ cs) ks (λ e. let here : one n c ≡ 1 = rw e (one-same n) in omega (arith, apart n, here, behind)) (below-absent n i ks some (omega (arith, apart n, behind))), omega (arith, behind)))
    (cases_lt (times p (c ∷ cs)) 1)

-- ---- the link of a sector of a chain isn't 0

pub after-here : (n c : ℕ) (cs : List ℕ) → c ≡ n → sector_after n (c ∷ cs) ≡ next_or n cs
after-here n c cs e = cond-true (c == n) _ _ (eq-eqb c n e)

next_or_some : (n : ℕ) (cs : List ℕ) → 1 ≤ n → ((m : ℕ) → 1 ≤ times m cs → 1 ≤ m) → 1 ≤ next_or n cs
next_or_some n cs low pos = grind arith

after_some : (n : ℕ) (k : List ℕ) → 1 ≤ n → ((m : ℕ) → 1 ≤ times m k → 1 ≤ m) → 1 ≤ times n k → 1 ≤ sector_after n k
after_some n [] low pos s = absurd (omega arith)
after_some n (c ∷ cs) low pos s = grind (arith, after-here, next_or_some, one-other, after_some n cs low)

pub link_some : (n : ℕ) (ks : List (List ℕ)) → 1 ≤ n → ((m : ℕ) → 1 ≤ uses m ks → 1 ≤ m) → 1 ≤ uses n ks → 1 ≤ link_of n ks
link_some n [] low pos s = absurd (omega arith)
link_some n (k ∷ ks) low pos s = grind (arith, after_some, link_some n ks low)

-- ---- over the links

pub get-some : (xs : List ℕ) (i : ℕ) → i < length xs → slice_get xs i ≡ Some (get_or xs i 0)
get-some [] i lt = absurd (omega arith)
get-some (x ∷ xs) zero lt = refl
get-some (x ∷ xs) (suc i) lt = get-some xs i (omega arith)

module _ (links : List ℕ) (ks : List (List ℕ)) (a : AreLinksOf links ks) where
  pub link_is : (n : ℕ) → 1 ≤ n → n ≤ length links → sector_link links n ≡ link_of n ks
  link_is n low high = grind (arith, get-some)

  pub used : (n : ℕ) → 1 ≤ n → n ≤ length links → sector_link links n ≢ 0 → 1 ≤ uses n ks
  used n low high some = grind (arith, link_is, link-absent)

  -- a sector whose link is another one is followed
  linked_follows : (p n : ℕ) → link_of p ks ≡ n → p ≢ n → n ≢ 0 → Follows links p n
  linked_follows p n is other some = grind (arith, link-absent, link_is)

  pub head_chain : (n : ℕ) → 1 ≤ n → n ≤ length links → sector_link links n ≢ 0 → ((p : ℕ) → Follows links p n → ⊥)
      → (cs : List ℕ) × Runs links n cs × ((m : ℕ) → times m (n ∷ cs) ≤ uses m ks) × ((i : ℕ) → below (n + 1) i ks ≡ below n i ks + times i (n ∷ cs))
  head_chain n low high some none =
      let b = begins n ks a.some a.apart (λ e. omega arith) (used n low high some) (λ p is other. none p (linked_follows p n is other (λ e. omega arith))) in (
        b.cs,
        chain_runs links n b.cs
            (λ m. omega (arith, b.within m, a.apart m))
            (zero_out b)
            (λ m t. let (l, h) = a.inside m (omega (arith, b.within m)) in link_is m l h ∙ b.links m t),
        b.within,
        b.next,
      )
    where
      zero_out : (b : Begins n ks) → times 0 (n ∷ b.cs) ≡ 0
      zero_out b = ⊎_elim (λ lt. omega arith) (λ le. absurd (let (l, h) = a.inside 0 (omega (arith, b.within 0, le)) in omega (arith, l))) (cases_lt (times 0 (n ∷ b.cs)) 1)

  -- no chain begins with a sector that has no link or follows another one
  pub no_head : (n i : ℕ) → 1 ≤ n → n ≤ length links → (sector_link links n ≡ 0) ⊎ ((p : ℕ) × Follows links p n) → below (n + 1) i ks ≡ below n i ks
  no_head n i low high why = grind (arith, below-absent, follows_none, link_is, link_some)

-- ---- all chains

-- the chains whose first sectors are below n are walked
pub record Heading (links : List ℕ) (n : ℕ) (seen : List Bool) : Type 0 where
  pub marked : AreMarkedBy links seen
  pub all : (ks : List (List ℕ)) → AreLinksOf links ks → (i : ℕ) → mark seen i ≡ below n i ks

pub heading_first : (links : List ℕ) (seen : List Bool) → length seen ≡ length links + 1 → ((i : ℕ) → mark seen i ≡ 0) → Heading links 1 seen
heading_first links seen many none = grind (arith, below-none)

pub heading_past : (links : List ℕ) (n : ℕ) (seen : List Bool) → Heading links n seen → 1 ≤ n → n ≤ length links → (sector_link links n ≡ 0) ⊎ ((p : ℕ) × Follows links p n) → Heading links (n + 1) seen
heading_past links n seen h low high why = record {
  marked = h.marked;
  all = λ ks a i. h.all ks a i ∙ sym (no_head links ks a n i low high why);
}

-- no sector of a chain is 0
runs_zero : (links : List ℕ) (c : ℕ) (cs : List ℕ) → c ≢ 0 → Runs links c cs → times 0 (c ∷ cs) ≡ 0
runs_zero links c [] pos r = omega (arith, one-other 0 c (λ e. pos (sym e)))
runs_zero links c (d ∷ cs) pos r = omega (arith, one-other 0 c (λ e. pos (sym e)), runs_zero links d cs r.2 r.3)

-- the links run one way
runs_same : (links : List ℕ) (c : ℕ) (cs ds : List ℕ) → Runs links c cs → Runs links c ds → cs ≡ ds
runs_same links c [] [] r q = refl
runs_same links c [] (d ∷ ds) r q = absurd (q.1 (sym q.0 ∙ r))
runs_same links c (d ∷ cs) [] r q = absurd (r.1 (sym r.0 ∙ q))
runs_same links c (d ∷ cs) (e ∷ ds) r q = grind (arith, runs_same links d cs ds r.3)

pub heading_next : (links : List ℕ) (n : ℕ) (cs : List ℕ) (seen after : List Bool) → Heading links n seen → 1 ≤ n → n ≤ length links → sector_link links n ≢ 0 → ((p : ℕ) → Follows links p n → ⊥) → Walked links n cs seen after → Heading links (n + 1) after
heading_next links n cs seen after h low high some none w = record {
  marked = record {
    chains = (n ∷ cs) ∷ h.marked.chains;
    runs = (w.runs, h.marked.runs);
    marks = λ i. omega (arith, w.marks i, h.marked.marks i);
    zero = omega (arith, w.marks 0, h.marked.zero, runs_zero links n cs (λ e. omega arith) w.runs);
    many = w.many ∙ h.marked.many;
  };
  all = λ ks a i.
      let (ds, r, within, next) = head_chain links ks a n low high some none in
      let same : cs ≡ ds = runs_same links n cs ds w.runs r in
      omega (arith, w.marks i, h.all ks a i, next i, ap (λ (xs : List ℕ). times i (n ∷ xs)) same);
}

pub heading_stuck : (links : List ℕ) (n : ℕ) (seen : List Bool) → Heading links n seen → 1 ≤ n → n ≤ length links → sector_link links n ≢ 0 → ((p : ℕ) → Follows links p n → ⊥) → NoChainOver links n seen → (ks : List (List ℕ)) → AreLinksOf links ks → ⊥
heading_stuck links n seen h low high some none stuck ks a = grind (arith, head_chain, below-low)

pub heading_done : (links : List ℕ) (n : ℕ) (seen : List Bool) → Heading links n seen → length links < n → (ks : List (List ℕ)) → AreLinksOf links ks → (i : ℕ) → mark seen i ≡ uses i ks
heading_done links n seen h past ks a i = h.all ks a i ∙ below-all n i ks a.some (λ m s. omega (arith, (a.inside m s).1))

-- ---- what all sectors say

runs_some : (links : List ℕ) (ks : List (List ℕ)) → AreRuns links ks → AreSome ks
runs_some links [] r = tt
runs_some links ([] ∷ ks) r = absurd r
runs_some links ((c ∷ cs) ∷ ks) r = runs_some links ks r.1

runs_after : (links : List ℕ) (n c : ℕ) (cs : List ℕ) → Runs links c cs → 1 ≤ times n (c ∷ cs) → sector_after n (c ∷ cs) ≡ sector_link links n
runs_after links n c [] r s = grind arith
runs_after links n c (d ∷ cs) r s = ⊎_elim
    (λ e. after-here n c (d ∷ cs) e ∙ sym (ap (sector_link links) (sym e) ∙ r.0))
    (λ ne. after-later n c (d ∷ cs) ne ∙ runs_after links n d cs r.3 (omega (arith, one-other n c (λ e. ne (sym e)))))
    (cases_eq c n)

runs_link : (links : List ℕ) (n : ℕ) (ks : List (List ℕ)) → AreRuns links ks → 1 ≤ uses n ks → link_of n ks ≡ sector_link links n
runs_link links n [] r s = absurd (omega arith)
runs_link links n ([] ∷ ks) r s = absurd r
runs_link links n ((c ∷ cs) ∷ ks) r s = ⊎_elim
    (λ t. link-there n (c ∷ cs) ks (omega arith) ∙ runs_link links n ks r.1 (omega arith))
    (λ t. link-here n (c ∷ cs) ks t ∙ runs_after links n c cs r.0 t)
    (cases_lt (times n (c ∷ cs)) 1)

pub are_links : (links : List ℕ) (seen : List Bool) → 1 ≤ length links → length links < 1048576 → (m : AreMarkedBy links seen) → Reaches links seen → AreLinksOf links m.chains
are_links links seen some few m reaches = grind (arith, runs_some, mark-within, get-some, link-absent, runs_link)

pub reached_all : (links : List ℕ) (seen : List Bool) (ks : List (List ℕ)) → AreLinksOf links ks → ((i : ℕ) → mark seen i ≡ uses i ks) → Reaches links seen
reached_all links seen ks a marks n low high some = omega (arith, marks n, used links ks a n low high some, a.apart n)

-- ---- as the loop stands at a sector

-- its link, at its index
at_index : (links : List ℕ) (i : ℕ) → sector_link links (i + 1) ≡ get_or links i 0
at_index links i = let e : i + 1 - 1 ≡ i = omega arith in ap (λ (j : ℕ). get_or links j 0) e

unled : (links : List ℕ) (led : List Bool) (n : ℕ) → AreLed links led → get_or led n false ≡ false → (p : ℕ) → Follows links p n → ⊥
unled links led n a e p f = omega (arith, a.marked p n f, mark-false led n e)

led_by : (links : List ℕ) (led : List Bool) (n : ℕ) → AreLed links led → get_or led n false ≡ true → (p : ℕ) × Follows links p n
led_by links led n a e = a.only n (mark-true led n e)

pub turn_stuck : (links : List ℕ) (led seen : List Bool) (i : ℕ) → Heading links (i + 1) seen → AreLed links led → i < length links → get_or links i 0 ≢ 0 → get_or led (i + 1) false ≡ false → NoChainOver links (i + 1) seen → (ks : List (List ℕ)) → AreLinksOf links ks → ⊥
turn_stuck links led seen i h a lt some free stuck ks k =
    heading_stuck links (i + 1) seen h (omega arith) (omega arith) (λ e. some (sym (at_index links i) ∙ e)) (unled links led (i + 1) a free) stuck ks k

pub turn_walked : (links : List ℕ) (led seen after : List Bool) (i : ℕ) → Heading links (i + 1) seen → AreLed links led → i < length links → get_or links i 0 ≢ 0 → get_or led (i + 1) false ≡ false → ((cs : List ℕ) × Walked links (i + 1) cs seen after) → Heading links (i + 1 + 1) after
turn_walked links led seen after i h a lt some free (cs, w) =
    heading_next links (i + 1) cs seen after h (omega arith) (omega arith) (λ e. some (sym (at_index links i) ∙ e)) (unled links led (i + 1) a free) w

pub turn_led : (links : List ℕ) (led seen : List Bool) (i : ℕ) → Heading links (i + 1) seen → AreLed links led → i < length links → get_or led (i + 1) false ≡ true → Heading links (i + 1 + 1) seen
turn_led links led seen i h a lt e = heading_past links (i + 1) seen h (omega arith) (omega arith) (inr (led_by links led (i + 1) a e))

pub turn_free : (links : List ℕ) (seen : List Bool) (i : ℕ) → Heading links (i + 1) seen → i < length links → get_or links i 0 ≡ 0 → Heading links (i + 1 + 1) seen
turn_free links seen i h lt e = heading_past links (i + 1) seen h (omega arith) (omega arith) (inl (at_index links i ∙ e))

-- ---- which sectors follow another one

pub record LedSoFar (links : List ℕ) (led : List Bool) (i : ℕ) : Type 0 where
  pub many : length led ≡ length links + 1
  pub marked : (n j : ℕ) → Follows links n j → n ≤ i → mark led j ≡ 1
  pub only : (j : ℕ) → mark led j ≡ 1 → (n : ℕ) × Follows links n j

pub led_on : (links : List ℕ) (led : List Bool) (i : ℕ) → AreInside links → i < length links → get_or links i 0 ≢ 0 → get_or links i 0 ≢ i + 1 → LedSoFar links led i → LedSoFar links (slice_set led (get_or links i 0) true) (i + 1)
led_on links led i inside lt some other l =
    let within : get_or links i 0 < length led = omega (arith, inside i, l.many) in
    record {
      many = length-set led (get_or links i 0) true ∙ l.many;
      marked = λ n j f le. ⊎_elim
          (λ e. rw e (mark-same led (get_or links i 0) within))
          (λ ne. mark-other led (get_or links i 0) j ne ∙ l.marked n j f (earlier n j f ne le))
          (cases_eq j (get_or links i 0));
      only = λ j m. ⊎_elim
          (λ e. (i + 1, record { low = omega arith; high = omega arith; link = at_index links i ∙ sym e; other = λ q. other (sym e ∙ q); some = λ q. some (sym e ∙ q) }))
          (λ ne. l.only j (sym (mark-other led (get_or links i 0) j ne) ∙ m))
          (cases_eq j (get_or links i 0));
    }
  where
    earlier : (n j : ℕ) → Follows links n j → j ≢ get_or links i 0 → n ≤ i + 1 → n ≤ i
    earlier n j f ne le = ⊎_elim
        (λ e. absurd (ne (sym f.link ∙ ap (sector_link links) e ∙ at_index links i)))
        (λ q. omega (arith, q))
        (cases_eq n (i + 1))

pub led_past : (links : List ℕ) (led : List Bool) (i : ℕ) → ((get_or links i 0 ≡ 0) ⊎ (get_or links i 0 ≡ i + 1)) → LedSoFar links led i → LedSoFar links led (i + 1)
led_past links led i why l = grind arith

-- ---- the links of chains are numbers of sectors

next_low : (n most : ℕ) (cs : List ℕ) → n ≤ most → ((m : ℕ) → 1 ≤ times m cs → m ≤ most) → next_or n cs ≤ most
next_low n most [] le inside = le
next_low n most (d ∷ ds) le inside = inside d (omega (arith, one-same d))

after_low : (n most : ℕ) (k : List ℕ) → n ≤ most → ((m : ℕ) → 1 ≤ times m k → m ≤ most) → sector_after n k ≤ most
after_low n most [] le inside = omega arith
after_low n most (c ∷ cs) le inside = ⊎_elim
    (λ e. omega (arith, after-here n c cs e, next_low n most cs le (λ m s. inside m (omega arith))))
    (λ ne. omega (arith, after-later n c cs ne, after_low n most cs le (λ m s. inside m (omega arith))))
    (cases_eq c n)

link_low : (n most : ℕ) (ks : List (List ℕ)) → n ≤ most → ((m : ℕ) → 1 ≤ uses m ks → m ≤ most) → link_of n ks ≤ most
link_low n most [] le inside = omega arith
link_low n most (k ∷ ks) le inside = grind (arith, after_low, link_low n most ks le)

pub inside_of : (links : List ℕ) (ks : List (List ℕ)) → AreLinksOf links ks → AreInside links
inside_of links ks a i = ⊎_elim
    (λ lt. omega (arith, at_index links i, link_is links ks a (i + 1) (omega arith) (omega arith), link_low (i + 1) (length links) ks (omega arith) (λ m s. (a.inside m s).1)))
    (λ le. let z : get_or links i 0 ≡ 0 = get_or_past links i 0 le in omega (arith, z))
    (cases_lt i (length links))
