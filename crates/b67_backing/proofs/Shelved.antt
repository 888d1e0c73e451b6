-- The links that sectors tell are those of their chains.
use Rattle.std.proofs.Common.{◌≡◌, ℕ, zero, suc, ◌+◌, ◌-◌, ◌≤◌, List, [], ◌∷◌, length, Some, refl, ◌∙◌, ap, arith, ⊎_elim}
use Rattle.std.proofs.lemmas.Bool.{cases_lt}
use Rattle.b67_backing.specs.Shelf.{Table, Shelf, IsShelf, AreChains, times, uses}
use Rattle.b67_backing.specs.Links.{AreSome, AreLinksOf, links_in}
use Rattle.b67_backing.proofs.Links.{one-other, linked_within}
use Rattle.b67_backing.proofs.Walks.{all_below}
use Rattle.b67_backing.proofs.Tallies.{AllBelow}
use Rattle.b67_backing.proofs.Heads.{get-some}
use Rattle.b67_backing.proofs.Linkings.{links_in-length, links_in-at, link_in_is}

some_of : (links : List ℕ) (ks : List (List ℕ)) → AreChains links ks → AreSome ks
some_of links [] a = tt
some_of links ([] ∷ ks) a = absurd a
some_of links ((c ∷ cs) ∷ ks) a = some_of links ks a.1

times-past : (m n : ℕ) (cs : List ℕ) → AllBelow m cs → m ≤ n → times n cs ≡ 0
times-past m n [] a le = refl
times-past m n (c ∷ cs) a le = omega (arith, one-other n c (λ e. omega (arith, a.0)), times-past m n cs a.1 le)

uses-past : (links : List ℕ) (n : ℕ) (ks : List (List ℕ)) → AreChains links ks → length links ≤ n → uses n ks ≡ 0
uses-past links n [] a le = refl
uses-past links n ([] ∷ ks) a le = absurd a
uses-past links n ((c ∷ cs) ∷ ks) a le = omega (arith, times-past (length links) n (c ∷ cs) (linked_within links c cs a.0, all_below links c cs a.0) le, uses-past links n ks a.1 le)

pub shelf_links : (t : Table) (st : Shelf) → IsShelf t st → AreLinksOf (links_in t) st.chains
shelf_links t st s =
    let count : length t.links - 1 + 1 ≡ length t.links = omega (arith, s.some) in
    let many : length (links_in t) ≡ length t.links - 1 = links_in-length t (length t.links - 1) count in
    record {
      few = omega (arith, many, s.small, s.some);
      many = omega (arith, many, s.some);
      some = some_of t.links st.chains s.chains;
      apart = λ n. apart n;
      inside = λ n u. (
        ⊎_elim (λ lt. absurd (none n (omega arith) u)) (λ le. le) (cases_lt n 1),
        ⊎_elim (λ lt. omega (arith, many)) (λ le. absurd (omega (arith, uses-past t.links n st.chains s.chains le, u))) (cases_lt n (length t.links)),
      );
      each = λ i lt. get-some (links_in t) i lt ∙ ap Some (links_in-at t (length t.links - 1) i count (omega (arith, many)) ∙ link_in_is t st (i + 1) s (omega arith) (omega (arith, many)));
    }
  where
    none : (n : ℕ) → n ≡ 0 → 1 ≤ uses n st.chains → ⊥
    none zero z u = omega (arith, u, s.zero)
    none (suc n) z u = omega arith

    apart : (n : ℕ) → uses n st.chains ≤ 1
    apart n = ⊎_elim
        (λ lt. let z : n ≡ 0 = omega arith in rw z (omega (arith, s.zero)))
        (λ le. ⊎_elim (λ lt. omega (arith, s.once n le lt)) (λ past. omega (arith, uses-past t.links n st.chains s.chains past)) (cases_lt n (length t.links)))
        (cases_lt n 1)
