-- What becomes of the words of core that are written to sectors.
use Rattle.std.specs.Prelude.{◌≡◌, ◌↔◌, ◌⊎◌, ℕ, ◌+◌, ◌^◌, ◌<◌, ◌≤◌, List, length, Option, Result, Err, IfOk, OnErr}
use Rattle.b67_word.specs.Tagged.{Tagged}
use Rattle.b67_backing.specs.Shelf.{Table, Shelf, IsShelf, HasChain}
use Rattle.b67_backing.specs.Held.{Changes, SameBut, Stores, sectors_for}
use Rattle.b67_backing.specs.declared.SpaceFault.{SpaceFault}
use Rattle.b67_backing.specs.declared.SpaceFault.TheVariants.{BackingFull}
use Rattle.b67_overlay.specs.Overlaid.{chain_out, shelf_out, sectors_out}

-- at least one word of core, and fewer than 65,536
pub record IsPieceOf (core : List Tagged) (at words : ℕ) : Type 0 where
  pub some : 1 ≤ words
  pub few : words < 2 ^ 16
  pub inside : at + words ≤ length core

-- numbers are written to the chain that is kept, or to a new one if none is: too few free sectors refuse it exactly if none
-- is kept and fewer are free than the words take, and after any refusal the chains are those that there were
pub record WritesOut {D : Type 0} (tell : D → Option (List (List ℕ))) (st : Shelf) (kept words : ℕ) (numbers : List ℕ)
    (result : Result ℕ SpaceFault) (old new : Table) (before after : D) : Type 0 where
  pub written : IfOk result (λ first. (kept ≡ 0) ⊎ HasChain old st kept (sectors_for words)
      → (first ≡ chain_out st kept) × IsShelf new (shelf_out st kept words) × Changes tell before after (Stores (sectors_out st kept words) numbers))
  pub room : IfOk result (λ first. kept ≡ 0 → sectors_for words ≤ length st.free)
  pub refused : OnErr result ((kept ≡ 0) ⊎ HasChain old st kept (sectors_for words)
      → IsShelf new st × Changes tell before after (SameBut (sectors_out st kept words)))
  pub full : (wants free : ℕ) → (result ≡ Err (BackingFull wants free))
      ↔ ((kept ≡ 0) × (length st.free < sectors_for words) × (wants ≡ sectors_for words) × (free ≡ length st.free))
