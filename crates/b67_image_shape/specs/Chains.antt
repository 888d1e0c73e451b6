-- The chains of sectors against the objects that they belong to, by the links of sectors.
use Rattle.std.specs.Prelude.{◌≡◌, ◌≢◌, ℕ, zero, suc, ◌≤◌, ◌==◌, Bool, true, false, List, length, slice_index_or, if◌then◌else◌}
use Rattle.b67_backing.specs.Links.{sector_link, Follows}

-- a sector begins a chain: it has a link, and follows no other one
pub record IsChainHead (links : List ℕ) (n : ℕ) : Type 0 where
  pub low : 1 ≤ n
  pub high : n ≤ length links
  pub linked : sector_link links n ≢ 0
  pub unled : (p : ℕ) → Follows links p n → ⊥

-- by how many sectors are wanted behind a sector whose link is this
abbrev pub run_by : ℕ → ℕ → ℕ → Bool → Bool
run_by c zero next more = next == c
run_by c (suc n) next more = if next == c then false else (if next == 0 then false else more)

-- whether n sectors behind one are the rest of its chain
abbrev pub run_test : List ℕ → ℕ → ℕ → Bool
run_test links zero c = run_by c zero (sector_link links c) true
run_test links (suc n) c = run_by c (suc n) (sector_link links c) (run_test links n (sector_link links c))

-- a chain of so many sectors begins with that one
pub record IsSectorChain (links : List ℕ) (n many : ℕ) : Type 0 where
  pub head : IsChainHead links n
  pub behind : ℕ
  pub many_is : many ≡ suc behind
  pub runs : run_test links behind n ≡ true

-- each sector that begins a chain is marked
abbrev pub AreClaimed : List ℕ → List Bool → Type 0
AreClaimed links claimed = (n : ℕ) → IsChainHead links n → slice_index_or claimed n false ≡ true
