-- How many words stacks have.
use Rattle.std.proofs.Common.{◌≡◌, ℕ, ◌+◌, List, [], ◌∷◌, length, refl, arith, length-append}
use Rattle.b67_stack.specs.Common.{Shape, Head, Marked, Entered, Activation, head_size, stack_words, headed, words}

pub headed-length : (k : ℕ) (h : Head) (below : List Activation) (under : List Shape) → length (headed k h below under) ≡ head_size h + length under
headed-length k h below under = grind arith

pub words-length : (k : ℕ) (stack : List Activation) → length (words k stack) ≡ stack_words stack
words-length k [] = refl
words-length k (a ∷ below) = grind (arith, length-append, words-length k below)
