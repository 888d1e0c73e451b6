-- A chain that is made longer.
use Rattle.std.specs.Prelude.{◌≡◌, ◌≢◌, ℕ, ◌-◌, ◌<◌, ◌≤◌, List, ◌∷◌, ◌++◌, zero, length, replicate, take, drop, Option, Result, Ok, Err}
use Rattle.b67_io.specs.Causes.{Rose}
use Rattle.b67_backing.specs.Shelf.{Table, Shelf, IsShelf, HasChain, chain_of, others}
use Rattle.b67_backing.specs.Held.{Changes, SameBut, Holds, Fills, sectors_for}
use Rattle.b67_backing.specs.declared.refusals.SpaceFault.{SpaceFault}
use Rattle.b67_backing.specs.declared.refusals.SpaceFault.TheVariants as spaces

-- the sectors where the chain of a first sector goes on through n free ones
abbrev pub extended : ℕ → ℕ → Shelf → Shelf
extended x n s = record { free = drop n s.free; chains = (chain_of x s.chains ++ take n s.free) ∷ others x s.chains }

-- the sectors that so many words take beyond those of fewer words
abbrev pub sectors_more : ℕ → ℕ → ℕ
sectors_more have want = sectors_for want - sectors_for have

-- the chain holds the numbers that it held; where zeros came after them, zeros come after them up to the new length
pub record Prolongs (chain longer : List ℕ) (have want : ℕ) (old new : List (List ℕ)) : Type 0 where
  pub holds : (ns : List ℕ) → length ns ≡ have → Holds old chain 0 ns → Holds new longer 0 ns
  pub fills : (ns : List ℕ) → length ns ≡ have → Fills old chain 0 ns → Fills new longer 0 (ns ++ replicate (want - have) zero)

-- a chain for so many words has become one for more words: it begins with the same sector, every other chain stays, and
-- none is new. Each sector that was not free holds what it held
pub record IsExtended {D : Type 0} (tell : D → Option (List (List ℕ))) (old new : D) (t : Table) (s : Shelf) (x have want : ℕ) : Type 0 where
  pub room : sectors_more have want ≤ length s.free
  pub chain : HasChain t (extended x (sectors_more have want) s) x (sectors_for want)
  pub others : (y : ℕ) → y ≢ x → chain_of y (extended x (sectors_more have want) s).chains ≡ chain_of y s.chains
  pub same : Changes tell old new (SameBut (take (sectors_more have want) s.free))
  pub content : Changes tell old new (Prolongs (chain_of x s.chains) (chain_of x (extended x (sectors_more have want) s).chains) have want)

-- by what was answered. Where sectors are lacking nothing has changed; where the device failed only sectors that were free
-- and still are may hold something else
abbrev pub ExtendMeets : {D : Type 0} → (D → Option (List (List ℕ))) → D → D → Table → Table → Shelf → ℕ → ℕ → ℕ → Result (Unit {0}) SpaceFault → Type 0
ExtendMeets tell old new t t' s x have want (Ok done) = IsExtended tell old new t' s x have want
ExtendMeets tell old new t t' s x have want (Err (spaces.BackingFull wants free)) =
    (wants ≡ sectors_more have want) × (free ≡ length s.free) × (free < wants) × (t' ≡ t) × (new ≡ old)
ExtendMeets tell old new t t' s x have want (Err spaces.BackingFault) =
    (sectors_more have want ≤ length s.free) × IsShelf t' s × Changes tell old new (SameBut (take (sectors_more have want) s.free))
ExtendMeets tell old new t t' s x have want (Err (spaces.NoCore need core)) = ⊥

-- a device after calls or none: it has as many sectors, no count has fallen, and that of its failures has risen if one is
-- the reason why there is no space
pub record KeepsDevice {D : Type 0} (many counted failed : D → ℕ) (old new : D) (result : Result (Unit {0}) SpaceFault) : Type 0 where
  pub size : many new ≡ many old
  pub calls : counted old ≤ counted new
  pub faults : failed old ≤ failed new
  pub cause : result ≡ Err spaces.BackingFault → Rose failed old new
