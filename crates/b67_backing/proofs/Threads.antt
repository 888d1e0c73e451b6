-- The table of links: the chains' sectors lead on as the links say, and the others are threaded in the order of their numbers.
use Rattle.std.proofs.Common.{◌≡◌, ◌≢◌, ℕ, zero, suc, ◌+◌, ◌-◌, ◌<◌, ◌≤◌, cond, List, [], ◌∷◌, length, drop, Some, refl, sym, ◌∙◌, ap, arith, ⊎_elim, subst, get_or, slice_set, ◌==◌, add-one, drop-cons, replicate, get_or-set_same, get_or-set_other}
use Rattle.std.specs.List.{slice_get}
use Rattle.std.proofs.lemmas.Bool.{cases_eq, cases_lt, cond-true, cond-false, eq-eqb, ne_eqb}
use Rattle.std.proofs.Math.ListN.{length-set}
use Rattle.std.proofs.lemmas.List.{length-replicate}
use Rattle.b67_backing.specs.Shelf.{IsShelf, Linked, AreChains, one, times, uses, first}
use Rattle.b67_backing.specs.Links.{link_of, AreSome, AreLinksOf, unlinked, links_in, sector_link, Runs, AreRuns}
use Rattle.b67_backing.proofs.Linkings.{links_in-same}
use Rattle.b67_backing.proofs.Links.{one-same, one-other}
use Rattle.b67_backing.proofs.Marks.{link-absent, link-here, link-there, chain_runs}
use Rattle.b67_backing.proofs.Heads.{get-some, link_is, link_some}

-- the sectors without a link from number m + 1 on
abbrev pub free_from : List ℕ → ℕ → List ℕ
free_from links m = unlinked (m + 1) (drop m links)

-- what the table tells of a sector
abbrev pub told : List ℕ → ℕ → ℕ
told links j = cond (sector_link links j == 0) (first (free_from links j)) (cond (sector_link links j == j) 0 (sector_link links j))

-- the table tells of the sectors above m
pub record Threads (links table : List ℕ) (m head free : ℕ) : Type 0 where
  pub many : length table ≡ length links + 1
  pub head_is : head ≡ first (free_from links m)
  pub free_is : free ≡ length (free_from links m)
  pub done : (j : ℕ) → m < j → j ≤ length links → get_or table j 0 ≡ told links j
  pub rest : (j : ℕ) → j ≤ m → get_or table j 0 ≡ 0

here_at : (links : List ℕ) (m : ℕ) → sector_link links (m + 1) ≡ get_or links m 0
here_at links m = let e : m + 1 - 1 ≡ m = omega arith in ap (λ (i : ℕ). get_or links i 0) e

free_here : (links : List ℕ) (m : ℕ) → m < length links → free_from links m ≡ cond (get_or links m 0 == 0) ((m + 1) ∷ free_from links (m + 1)) (free_from links (m + 1))
free_here links m lt = let e : drop m links ≡ get_or links m 0 ∷ drop (m + 1) links = rw (add-one m) (drop-cons links m 0 lt) in ap (unlinked (m + 1)) e

none_from : (links : List ℕ) (m : ℕ) → length links ≤ m → free_from links m ≡ []
none_from [] zero le = refl
none_from [] (suc m) le = refl
none_from (l ∷ ls) zero le = absurd (omega arith)
none_from (l ∷ ls) (suc m) le = ap (unlinked (suc m + 1)) (gone ls m (omega arith))
  where
    gone : (ls : List ℕ) (m : ℕ) → length ls ≤ m → drop m ls ≡ []
    gone [] zero le = refl
    gone [] (suc m) le = refl
    gone (l ∷ ls) zero le = absurd (omega arith)
    gone (l ∷ ls) (suc m) le = gone ls m (omega arith)

pub threads_first : (links table : List ℕ) → length table ≡ length links + 1 → ((j : ℕ) → get_or table j 0 ≡ 0) → Threads links table (length links) 0 0
threads_first links table many zeros = grind (arith, none_from)

-- a sector without a link
pub threads_free : (links table : List ℕ) (m head free : ℕ) → m < length links → get_or links m 0 ≡ 0 → Threads links table (m + 1) head free → Threads links (slice_set table (m + 1) head) m (m + 1) (free + 1)
threads_free links table m head free lt z t =
    let here : free_from links m ≡ (m + 1) ∷ free_from links (m + 1) = free_here links m lt ∙ cond-true (get_or links m 0 == 0) _ _ (eq-eqb (get_or links m 0) 0 z) in
    record {
      many = length-set table (m + 1) head ∙ t.many;
      head_is = sym (ap first here);
      free_is = (let e : free + 1 ≡ suc (length (free_from links (m + 1))) = omega (arith, t.free_is) in e) ∙ sym (ap length here);
      done = λ j low high. ⊎_elim
          (λ e. rw e (at_here here))
          (λ ne. let other : j ≢ m + 1 = ne in rw get_or-set_other (t.done j (omega (arith, ne)) high))
          (cases_eq j (m + 1));
      rest = λ j le. let other : j ≢ m + 1 = λ e. omega arith in rw get_or-set_other (t.rest j (omega arith));
    }
  where
    at_here : free_from links m ≡ (m + 1) ∷ free_from links (m + 1) → get_or (slice_set table (m + 1) head) (m + 1) 0 ≡ told links (m + 1)
    at_here here =
        let inside : m + 1 < length table = omega (arith, t.many) in
        rw get_or-set_same (t.head_is ∙ sym (cond-true (sector_link links (m + 1) == 0) _ _ (eq-eqb (sector_link links (m + 1)) 0 (here_at links m ∙ z))))

-- a sector of a chain
pub threads_linked : (links table : List ℕ) (m head free : ℕ) → m < length links → get_or links m 0 ≢ 0 → get_or links m 0 ≢ m + 1 → Threads links table (m + 1) head free → Threads links (slice_set table (m + 1) (get_or links m 0)) m head free
threads_linked links table m head free lt some other t =
    let here : free_from links m ≡ free_from links (m + 1) = free_here links m lt ∙ cond-false (get_or links m 0 == 0) _ _ (ne_eqb (get_or links m 0) 0 some) in
    record {
      many = length-set table (m + 1) (get_or links m 0) ∙ t.many;
      head_is = t.head_is ∙ sym (ap first here);
      free_is = t.free_is ∙ sym (ap length here);
      done = λ j low high. ⊎_elim
          (λ e. rw e at_here)
          (λ ne. let apart : j ≢ m + 1 = ne in rw get_or-set_other (t.done j (omega (arith, ne)) high))
          (cases_eq j (m + 1));
      rest = λ j le. let apart : j ≢ m + 1 = λ e. omega arith in rw get_or-set_other (t.rest j (omega arith));
    }
  where
    at_here : get_or (slice_set table (m + 1) (get_or links m 0)) (m + 1) 0 ≡ told links (m + 1)
    at_here =
        let inside : m + 1 < length table = omega (arith, t.many) in
        rw get_or-set_same (sym (here_at links m)
        ∙ sym (cond-false (sector_link links (m + 1) == m + 1) _ _ (ne_eqb (sector_link links (m + 1)) (m + 1) (λ e. other (sym (here_at links m) ∙ e))))
        ∙ sym (cond-false (sector_link links (m + 1) == 0) _ _ (ne_eqb (sector_link links (m + 1)) 0 (λ e. some (sym (here_at links m) ∙ e)))))

-- the last sector of a chain
pub threads_last : (links table : List ℕ) (m head free : ℕ) → m < length links → get_or links m 0 ≡ m + 1 → Threads links table (m + 1) head free → Threads links table m head free
threads_last links table m head free lt last t = grind (arith, free_here, ne_eqb)

-- ---- the whole table

all_runs : (links : List ℕ) (ks : List (List ℕ)) → AreSome ks → ((n : ℕ) → uses n ks ≤ 1) → uses 0 ks ≡ 0 → ((n : ℕ) → 1 ≤ uses n ks → sector_link links n ≡ link_of n ks) → AreRuns links ks
all_runs links [] some apart z is = tt
all_runs links ([] ∷ ks) some apart z is = absurd some
all_runs links ((c ∷ cs) ∷ ks) some apart z is = (
  chain_runs links c cs (λ m. omega (arith, apart m)) (omega arith) (λ m t. is m (omega arith) ∙ link-here m (c ∷ cs) ks t),
  all_runs links ks some (λ m. omega (arith, apart m)) (omega arith) (λ m t. is m (omega arith) ∙ link-there m (c ∷ cs) ks (omega (arith, apart m))),
)

times-unlinked_below : (i n : ℕ) (ls : List ℕ) → i < n → times i (unlinked n ls) ≡ 0
times-unlinked_below i n [] lt = refl
times-unlinked_below i n (l ∷ ls) lt = grind (arith, times-unlinked_below i (n + 1) ls)

-- a sector stands among those without a link exactly where it has none
times-unlinked : (n k : ℕ) (ls : List ℕ) → k < length ls → times (n + k) (unlinked n ls) ≡ cond (get_or ls k 0 == 0) 1 0
times-unlinked n k [] lt = absurd (omega arith)
times-unlinked n zero (l ∷ ls) lt = grind (arith, times-unlinked_below)
times-unlinked n (suc k) (l ∷ ls) lt = grind (arith, times-unlinked (n + 1) k ls)

module _ (links table : List ℕ) (head free : ℕ) (t : Threads links table 0 head free) (ks : List (List ℕ)) (a : AreLinksOf links ks) where
  whole : List ℕ
  whole = slice_set table 0 head

  whole_many : length whole ≡ length links + 1
  unfolding whole
  whole_many = length-set table 0 head ∙ t.many

  at_zero : slice_get whole 0 ≡ Some head
  unfolding whole
  at_zero = grind (arith, get-some, length-set, get_or-set_same)

  at_sector : (j : ℕ) → 1 ≤ j → j ≤ length links → slice_get whole j ≡ Some (told links j)
  unfolding whole
  at_sector j low high = grind (arith, get-some, length-set, get_or-set_other)

  threaded : (ls : List ℕ) (m b : ℕ) → drop m links ≡ ls → m + length ls ≡ length links → slice_get whole b ≡ Some (first (unlinked (m + 1) ls)) → Linked whole b (unlinked (m + 1) ls)
  threaded [] m b e n h = h
  threaded (l ∷ ls) m b e n h = ⊎_elim
      (λ z. free_one z (λ next. threaded ls (m + 1) (m + 1) behind (omega (arith, n)) next))
      (λ ne. let cut : unlinked (m + 1) (l ∷ ls) ≡ unlinked (m + 1 + 1) ls = cond-false (l == 0) _ _ (ne_eqb l 0 ne) in rw cut (threaded ls (m + 1) b behind (omega arith) (rw cut at h)))
      (cases_eq l 0)
    where
      parts : get_or links m 0 ∷ drop (m + 1) links ≡ l ∷ ls
      parts = sym (rw (add-one m) (drop-cons links m 0 (omega arith))) ∙ e

      behind : drop (m + 1) links ≡ ls
      behind = cc parts

      same : get_or links m 0 ≡ l
      same = cc parts

      free_one : l ≡ 0 → (slice_get whole (m + 1) ≡ Some (first (unlinked (m + 1 + 1) ls)) → Linked whole (m + 1) (unlinked (m + 1 + 1) ls)) → Linked whole b (unlinked (m + 1) (l ∷ ls))
      free_one z more =
          let cut : unlinked (m + 1) (l ∷ ls) ≡ (m + 1) ∷ unlinked (m + 1 + 1) ls = cond-true (l == 0) _ _ (eq-eqb l 0 z) in
          let next : slice_get whole (m + 1) ≡ Some (first (unlinked (m + 1 + 1) ls)) =
          at_sector (m + 1) (omega arith) (omega arith) ∙ ap Some (cond-true (sector_link links (m + 1) == 0) _ _ (eq-eqb (sector_link links (m + 1)) 0 (here_at links m ∙ same ∙ z)) ∙ ap (λ (xs : List ℕ). first (unlinked (m + 1 + 1) xs)) behind) in
          rw cut (rw cut at h, more next)

  linked_run : (c : ℕ) (cs : List ℕ) → Runs links c cs → ((m : ℕ) → 1 ≤ times m (c ∷ cs) → (1 ≤ m) × (m ≤ length links)) → Linked whole c cs
  linked_run c [] r inside = grind (arith, at_sector)
  linked_run c (d ∷ cs) r inside = grind (arith, at_sector, linked_run d cs r.3)

  are_chains : (js : List (List ℕ)) → AreRuns links js → ((m : ℕ) → 1 ≤ uses m js → (1 ≤ m) × (m ≤ length links)) → AreChains whole js
  are_chains [] r inside = tt
  are_chains ([] ∷ js) r inside = absurd r
  are_chains ((c ∷ cs) ∷ js) r inside = (linked_run c cs r.0 (λ m s. inside m (omega arith)), are_chains js r.1 (λ m s. inside m (omega arith)))

  none_zero : uses 0 ks ≡ 0
  none_zero = ⊎_elim (λ lt. omega arith) (λ le. absurd (let h = (a.inside 0 le).0 in omega (arith, h))) (cases_lt (uses 0 ks) 1)

  runs : AreRuns links ks
  runs = all_runs links ks a.some a.apart none_zero (λ n s. let (low, high) = a.inside n s in link_is links ks a n low high)

  once_each : (i : ℕ) → 1 ≤ i → i ≤ length links → times i (unlinked 1 links) + uses i ks ≡ 1
  once_each i low high =
      let e : 1 + (i - 1) ≡ i = omega arith in
      let count : times i (unlinked 1 links) ≡ cond (sector_link links i == 0) 1 0 = ap (λ (j : ℕ). times j (unlinked 1 links)) (sym e) ∙ times-unlinked 1 (i - 1) links (omega arith) in
      ⊎_elim
      (λ lt.
      let none : uses i ks ≡ 0 = omega arith in
      let z : sector_link links i ≡ 0 = link_is links ks a i low high ∙ link-absent i ks none in
      omega (arith, count, cond-true {A = ℕ} (sector_link links i == 0) 1 0 (eq-eqb (sector_link links i) 0 z), none))
      (λ le.
      let some : sector_link links i ≢ 0 = λ z. omega (arith, z, link_is links ks a i low high, link_some i ks low (λ m s. (a.inside m s).0) le) in
      omega (arith, count, cond-false {A = ℕ} (sector_link links i == 0) 1 0 (ne_eqb (sector_link links i) 0 some), a.apart i, le))
      (cases_lt (uses i ks) 1)

  pub shelf_of_links : IsShelf (record { links = slice_set table 0 head; free = free }) (record { free = unlinked 1 links; chains = ks })
  unfolding whole
  shelf_of_links = record {
    free = threaded links 0 0 refl (omega arith) (at_zero ∙ ap Some t.head_is);
    chains = are_chains ks runs a.inside;
    once = λ i low high. once_each i low (omega (arith, whole_many));
    zero = omega (arith, times-unlinked_below 0 1 links (omega arith), none_zero);
    count = t.free_is;
    some = omega (arith, whole_many, a.many);
    small = omega (arith, whole_many, a.few);
  }

-- ---- as the loop goes down, at sector x and index y

pub made_zero : (links table : List ℕ) (m : ℕ) → m ≡ length links → table ≡ replicate {A = ℕ} (length links + 1) 0 → Threads links table m 0 0
made_zero links table m e is =
    subst (λ (n : ℕ). Threads links table n 0 0) (sym e) (threads_first links table (ap length is ∙ length-replicate {A = ℕ} (length links + 1) 0) (λ j. ap (λ (xs : List ℕ). get_or xs j 0) is ∙ zeros (length links + 1) j))
  where
    zeros : (n j : ℕ) → get_or (replicate {A = ℕ} n 0) j 0 ≡ 0
    zeros zero j = refl
    zeros (suc n) zero = refl
    zeros (suc n) (suc j) = zeros n j

pub down_free : (links table : List ℕ) (m x y head free : ℕ) → x ≡ m + 1 → y ≡ m → m < length links → get_or links y 0 ≡ 0 → Threads links table x head free → Threads links (slice_set table x head) m x (free + 1)
down_free links table m x y head free ex ey lt z t =
    subst (λ (n : ℕ). Threads links (slice_set table n head) m n (free + 1)) (sym ex) (threads_free links table m head free lt (ap (λ (i : ℕ). get_or links i 0) (sym ey) ∙ z) (subst (λ (n : ℕ). Threads links table n head free) ex t))

pub down_linked : (links table : List ℕ) (m x y head free : ℕ) → x ≡ m + 1 → y ≡ m → m < length links → get_or links y 0 ≢ 0 → get_or links y 0 ≢ x → Threads links table x head free → Threads links (slice_set table x (get_or links y 0)) m head free
down_linked links table m x y head free ex ey lt some other t =
    let at : get_or links y 0 ≡ get_or links m 0 = ap (λ (i : ℕ). get_or links i 0) ey in
    subst (λ (v : ℕ). Threads links (slice_set table x v) m head free) (sym at)
    (subst (λ (n : ℕ). Threads links (slice_set table n (get_or links m 0)) m head free) (sym ex)
    (threads_linked links table m head free lt (λ e. some (at ∙ e)) (λ e. other (at ∙ e ∙ sym ex)) (subst (λ (n : ℕ). Threads links table n head free) ex t)))

pub down_last : (links table : List ℕ) (m x y head free : ℕ) → x ≡ m + 1 → y ≡ m → m < length links → get_or links y 0 ≡ x → Threads links table x head free → Threads links table m head free
down_last links table m x y head free ex ey lt last t =
    threads_last links table m head free lt (ap (λ (i : ℕ). get_or links i 0) (sym ey) ∙ last ∙ ex) (subst (λ (n : ℕ). Threads links table n head free) ex t)

pub shelf_at : (links table : List ℕ) (m head free : ℕ) → m ≡ 0 → Threads links table m head free → (ks : List (List ℕ)) → AreLinksOf links ks → IsShelf (record { links = slice_set table 0 head; free = free }) (record { free = unlinked 1 links; chains = ks })
shelf_at links table m head free e t ks a = shelf_of_links links table head free (subst (λ (n : ℕ). Threads links table n head free) e t) ks a

pub told_at : (links table : List ℕ) (m head free : ℕ) → m ≡ 0 → Threads links table m head free → (ks : List (List ℕ)) → AreLinksOf links ks → links_in (record { links = slice_set table 0 head; free = free }) ≡ links
told_at links table m head free e t ks a =
    let long : length links + 1 ≡ length (slice_set table 0 head) = sym (length-set table 0 head ∙ t.many) in
    links_in-same (record { links = slice_set table 0 head; free = free }) (record { free = unlinked 1 links; chains = ks }) links (shelf_at links table m head free e t ks a) long a.each

pub threads_same : (links table table' : List ℕ) (m head head' free free' : ℕ) → table ≡ table' → head ≡ head' → free ≡ free' → Threads links table' m head' free' → Threads links table m head free
threads_same links table table' m head head' free free' a b c t = grind arith
