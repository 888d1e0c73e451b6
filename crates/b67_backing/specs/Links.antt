-- The links of sectors as an image tells them.
use Rattle.std.specs.Prelude.{◌≡◌, ◌≢◌, ℕ, zero, suc, ◌+◌, ◌-◌, ◌<◌, ◌≤◌, ◌==◌, nat_lt, Bool, false, List, [], ◌∷◌, length, map, Some, slice_get, slice_index, slice_index_or, if◌then◌else◌}
use Rattle.b67_backing.specs.Shelf.{Table, Shelf, IsShelf, times, uses, row}

-- ---- by chains

-- the next of these, a number itself where there is none
abbrev pub next_or : ℕ → List ℕ → ℕ
next_or n [] = n
next_or n (c ∷ cs) = c

-- what follows a sector in a chain, the sector itself where it is the last; 0 where it isn't in the chain
abbrev pub sector_after : ℕ → List ℕ → ℕ
sector_after n [] = 0
sector_after n (c ∷ cs) = if c == n then next_or n cs else sector_after n cs

-- the link of a sector among chains: 0 where it is free, itself where it is the last of its chain, else the next one
abbrev pub link_of : ℕ → List (List ℕ) → ℕ
link_of n [] = 0
link_of n (k ∷ ks) = if times n k == 0 then link_of n ks else sector_after n k

abbrev pub AreSome : List (List ℕ) → Type 0
AreSome [] = Unit {0}
AreSome ([] ∷ ks) = ⊥
AreSome ((c ∷ cs) ∷ ks) = AreSome ks

-- the links of sectors from 1 on are those of these chains: each sector stands in one chain at most, and once
pub record AreLinksOf (links : List ℕ) (chains : List (List ℕ)) : Type 0 where
  pub few : length links < 1048576
  pub many : 1 ≤ length links
  pub some : AreSome chains
  pub apart : (n : ℕ) → uses n chains ≤ 1
  pub inside : (n : ℕ) → 1 ≤ uses n chains → (1 ≤ n) × (n ≤ length links)
  pub each : (i : ℕ) → i < length links → slice_get links i ≡ Some (link_of (i + 1) chains)

-- ---- by the table

-- so many sectors, each by the link of the one before, from b on
abbrev pub walk : List ℕ → ℕ → ℕ → List ℕ
walk links zero b = []
walk links (suc n) b = slice_index links b ∷ walk links n (slice_index links b)

abbrev pub free_sectors : Table → List ℕ
free_sectors t = walk t.links t.free 0

-- a sector itself at the end of its chain
abbrev pub or_itself : ℕ → ℕ → ℕ
or_itself n next = if next == 0 then n else next

abbrev pub table_link : Table → ℕ → ℕ
table_link t n = if times n (free_sectors t) == 0 then or_itself n (slice_index t.links n) else 0

-- each mark of a window tells whether its sector is free, the first one that of sector number first
abbrev pub AreFreeMarks : Table → ℕ → List Bool → Type 0
AreFreeMarks t first marks = (i : ℕ) → i < length marks → slice_index_or marks i false ≡ nat_lt 0 (times (first + i) (free_sectors t))

-- the links of all sectors, from 1 on
unfoldable pub links_in : Table → List ℕ
links_in t = map (table_link t) (row 1 (length t.links - 1))

-- the sectors without a link, in order, from number n on
abbrev pub unlinked : ℕ → List ℕ → List ℕ
unlinked n [] = []
unlinked n (l ∷ ls) = if l == 0 then n ∷ unlinked (n + 1) ls else unlinked (n + 1) ls

-- ---- as they are told, sector by sector

-- the link of sector n
abbrev pub sector_link : List ℕ → ℕ → ℕ
sector_link links n = slice_index links (n - 1)

-- no link is greater than the number of sectors
abbrev pub AreInside : List ℕ → Type 0
AreInside links = (i : ℕ) → slice_index links i ≤ length links

-- a sector is followed by another one
pub record Follows (links : List ℕ) (n j : ℕ) : Type 0 where
  pub low : 1 ≤ n
  pub high : n ≤ length links
  pub link : sector_link links n ≡ j
  pub other : j ≢ n
  pub some : j ≢ 0

-- 1 where a sector is marked, else 0
abbrev pub mark : List Bool → ℕ → ℕ
mark seen i = (if slice_index_or seen i false then 1 else 0)

-- the sectors that follow another one are marked
pub record AreLed (links : List ℕ) (led : List Bool) : Type 0 where
  pub many : length led ≡ length links + 1
  pub marked : (n j : ℕ) → Follows links n j → mark led j ≡ 1
  pub only : (j : ℕ) → mark led j ≡ 1 → (n : ℕ) × Follows links n j

-- the links run from a sector through these to the last of a chain
abbrev pub Runs : List ℕ → ℕ → List ℕ → Type 0
Runs links c [] = sector_link links c ≡ c
Runs links c (d ∷ cs) = (sector_link links c ≡ d) × (d ≢ c) × (d ≢ 0) × Runs links d cs

abbrev pub AreRuns : List ℕ → List (List ℕ) → Type 0
AreRuns links [] = Unit {0}
AreRuns links ([] ∷ ks) = ⊥
AreRuns links ((c ∷ cs) ∷ ks) = Runs links c cs × AreRuns links ks

-- a chain was walked, and each of its sectors, none of them marked before, is marked
pub record Walked (links : List ℕ) (c : ℕ) (cs : List ℕ) (old new : List Bool) : Type 0 where
  pub runs : Runs links c cs
  pub marks : (i : ℕ) → mark new i ≡ mark old i + times i (c ∷ cs)
  pub many : length new ≡ length old

-- the marked sectors are those of chains that the links run through
pub record AreMarkedBy (links : List ℕ) (seen : List Bool) : Type 0 where
  pub chains : List (List ℕ)
  pub runs : AreRuns links chains
  pub marks : (i : ℕ) → mark seen i ≡ uses i chains
  pub zero : mark seen 0 ≡ 0
  pub many : length seen ≡ length links + 1

-- no chain runs from a sector through sectors that aren't marked, each once
abbrev pub NoChainOver : List ℕ → ℕ → List Bool → Type 0
NoChainOver links c seen = (cs : List ℕ) → Runs links c cs → ((i : ℕ) → mark seen i + times i (c ∷ cs) ≤ 1) → ⊥

-- each sector with a link is marked
abbrev pub Reaches : List ℕ → List Bool → Type 0
Reaches links seen = (n : ℕ) → 1 ≤ n → n ≤ length links → sector_link links n ≢ 0 → mark seen n ≡ 1

-- the links that sectors tell are those of their chains
abbrev pub TellChains : Type 0
TellChains = (t : Table) (st : Shelf) → IsShelf t st → AreLinksOf (links_in t) st.chains
