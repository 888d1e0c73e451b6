use Rattle.std.specs.Prelude.{◌≡◌, ℕ, zero, suc, ◌+◌, ◌<◌, ◌≤◌, ◌^◌, ◌==◌, List, [], ◌∷◌, ◌++◌, length, take, drop, Some, slice_get, if◌then◌else◌}
pub use Rattle.b67_backing.specs.Device.{one, times}

-- sectors as contracts see them: each sector's link, that of 0 being the first free sector, and how many are free
pub record Table : Type 0 where
  pub links : List ℕ
  pub free : ℕ

-- the sectors that are free, and the chains
pub record Shelf : Type 0 where
  pub free : List ℕ
  pub chains : List (List ℕ)

-- the links from b run through these sectors to the end
abbrev pub Linked : List ℕ → ℕ → List ℕ → Type 0
Linked links b [] = slice_get links b ≡ Some 0
Linked links b (c ∷ cs) = (slice_get links b ≡ Some c) × Linked links c cs

abbrev pub AreChains : List ℕ → List (List ℕ) → Type 0
AreChains links [] = Unit {0}
AreChains links ([] ∷ ks) = ⊥
AreChains links ((c ∷ cs) ∷ ks) = Linked links c cs × AreChains links ks

-- how often a sector stands in all chains
abbrev pub uses : ℕ → List (List ℕ) → ℕ
uses i [] = 0
uses i (k ∷ ks) = times i k + uses i ks

-- the first sector of a chain, 0 of none
abbrev pub first : List ℕ → ℕ
first [] = 0
first (c ∷ cs) = c

-- the chain that begins with a sector, or none
abbrev pub chain_of : ℕ → List (List ℕ) → List ℕ
chain_of x [] = []
chain_of x (k ∷ ks) = if first k == x then k else chain_of x ks

-- the chains without that one
abbrev pub others : ℕ → List (List ℕ) → List (List ℕ)
others x [] = []
others x (k ∷ ks) = if first k == x then ks else k ∷ others x ks

-- each sector is free or in one chain, once
pub record IsShelf (t : Table) (s : Shelf) : Type 0 where
  pub free : Linked t.links 0 s.free
  pub chains : AreChains t.links s.chains
  pub once : (i : ℕ) → 1 ≤ i → i < length t.links → times i s.free + uses i s.chains ≡ 1
  pub zero : times 0 s.free + uses 0 s.chains ≡ 0
  pub count : t.free ≡ length s.free
  pub some : 2 ≤ length t.links
  pub small : length t.links ≤ 2 ^ 20

abbrev pub taken : ℕ → Shelf → Shelf
taken n s = record { free = drop n s.free; chains = take n s.free ∷ s.chains }

abbrev pub given : ℕ → Shelf → Shelf
given x s = record { free = chain_of x s.chains ++ s.free; chains = others x s.chains }

-- the chain of x goes on through that of y
abbrev pub chains_joined : ℕ → ℕ → Shelf → Shelf
chains_joined x y s = record { free = s.free; chains = (chain_of x s.chains ++ chain_of y s.chains) ∷ others x (others y s.chains) }

-- the last sector of a walk from b through these
abbrev pub last : ℕ → List ℕ → ℕ
last b [] = b
last b (c ∷ cs) = last c cs

-- n sectors from c on
abbrev pub row : ℕ → ℕ → List ℕ
row c zero = []
row c (suc n) = c ∷ row (c + 1) n

abbrev pub all_free : ℕ → Shelf
all_free n = record { free = row 1 n; chains = [] }

-- a chain of so many sectors begins with that one
pub record HasChain (t : Table) (s : Shelf) (x count : ℕ) : Type 0 where
  pub shelf : IsShelf t s
  pub many : length (chain_of x s.chains) ≡ count
