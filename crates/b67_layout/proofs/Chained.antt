-- Contents in chains that others leave alone.
use Rattle.std.proofs.Common.{◌≡◌, ℕ, inr, ◌⊎◌, List, Option, Some, None, inl}
use Rattle.b67_area.specs.declared.Kind.{Kind}
use Rattle.b67_area.specs.declared.Kind.TheVariants.{Array, Row, Code}
use Rattle.b67_stack.specs.Common.{PagedObject, Storage, KeptChain, ObjectHasChain, Content}
use Rattle.b67_word.specs.Tagged.{Tagged}

-- an object's chain, if it has one
pub Keeps-chain : (x : Storage) (t : PagedObject) (k : Kind) (f : ℕ) → KeptChain x t k f → (f ≡ 0) ⊎ ObjectHasChain x t f
Keeps-chain x t Array f c = c
Keeps-chain x t Row f c = inr c.chain
Keeps-chain x t Code f c = inr c.chain

pub Content-chain : (x : Storage) (core : List Tagged) (t : PagedObject) (a : Option ℕ) (f : ℕ) → Content x core t a f → (f ≡ 0) ⊎ ObjectHasChain x t f
Content-chain x core t (Some a) f c = Keeps-chain x t t.kind f c.1
Content-chain x core t None f (inl h) = inr h.chain
Content-chain x core t None f (inr z) = inl z.0
