-- The list of links, as far as it is read; and what the table of marks asks of slots.
use Rattle.std.proofs.Common.{◌≡◌, ℕ, ◌+◌, ◌-◌, ◌<◌, ◌≤◌, List, [], ◌∷◌, ◌++◌, length, take, sym, ◌∙◌, ap, arith}
use Rattle.std.proofs.lemmas.List.{take_more, take_all}
use Rattle.b67_backing.specs.Shelf.{Table}
use Rattle.b67_backing.specs.Links.{table_link, links_in}
use Rattle.b67_backing.proofs.Linkings.{links_in-length, links_in-at}

-- one link more is read
pub one_link : (t : Table) (n k link : ℕ) (links : List ℕ) → n + 1 ≡ length t.links → k < n → links ≡ take k (links_in t) → link ≡ table_link t (k + 1) → links ++ link ∷ [] ≡ take (k + 1) (links_in t)
one_link t n k link links count low e is =
    let long = links_in-length t n count in
    ap (λ (xs : List ℕ). xs ++ link ∷ []) e ∙ ap (λ l. take k (links_in t) ++ l ∷ []) (is ∙ sym (links_in-at t n k count low)) ∙ sym (take_more (links_in t) k 0 (omega (arith, long, low)))

-- all links are read
pub all_links : (t : Table) (n k : ℕ) (links : List ℕ) → n + 1 ≡ length t.links → n ≤ k → links ≡ take k (links_in t) → links ≡ links_in t
all_links t n k links count past e = (let long = links_in-length t n count in e ∙ take_all k (links_in t) (omega (arith, long, past)))
