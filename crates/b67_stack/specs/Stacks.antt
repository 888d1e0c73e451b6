-- A stack as the activation records on it, from the top down, and the words of these.
use Rattle.std.specs.Prelude.{◌≡◌, ◌≢◌, ℕ, Bool, true, false, not, ◌+◌, ◌^◌, ◌<◌, ◌==◌, List, [], ◌∷◌, ◌++◌, length, Option, Some, None}
use Rattle.b67_ctl.specs.declared.marks.Mscw.{Mscw}
use Rattle.b67_ctl.specs.declared.marks.Rcw.{Rcw}
use Rattle.b67_ctl.specs.declared.marks.Toscw.{Toscw}
use Rattle.b67_ctl.specs.Layout.{mscw_word, rcw_word, IsPlace}
use Rattle.b67_model.specs.State.{Return}
use Rattle.b67_stack.specs.Shapes.{Shape, Is}

-- where a mark stands: the number of a stack, and the displacement from that stack's base
pub record StackPlace : Type 0 where
  pub stack : ℕ
  pub disp : ℕ

-- how an activation record begins: with a mark alone, or entered at a level, with its static link
pub data Head : Type 0 where
  Marked : Head
  Entered : (level : ℕ) (environment : StackPlace) (back : Option Return) → Head

-- an activation record, its cells from the top down
pub record Activation : Type 0 where
  pub head : Head
  pub cells : List Shape

-- the words before the cells
abbrev pub head_size : Head → ℕ
head_size Marked = 1
head_size (Entered level environment back) = 2

abbrev pub size : Activation → ℕ
size a = head_size a.head + length a.cells

-- the words of the top one, 0 for none; those of all
abbrev pub top_size : List Activation → ℕ
top_size [] = 0
top_size (a ∷ below) = size a

abbrev pub stack_words : List Activation → ℕ
stack_words [] = 0
stack_words (a ∷ below) = stack_words below + size a

-- the displacement of the topmost mark from the stack's base, whose own word isn't counted; 0 for none
abbrev pub mark_place : List Activation → ℕ
mark_place [] = 0
mark_place (a ∷ below) = stack_words below + 1

-- the level of the topmost entered one
abbrev pub level_from : Head → ℕ → ℕ
level_from Marked level = level
level_from (Entered level environment back) lower = level

abbrev pub stack_level : List Activation → ℕ
stack_level [] = 0
stack_level (a ∷ below) = level_from a.head (stack_level below)

abbrev pub wants_value : Option Return → Bool
wants_value None = false
wants_value (Some r) = r.value

-- the mark of a head in the stack of number k, on the activation records below
abbrev pub mark_of : ℕ → Head → List Activation → Mscw
mark_of k Marked below =
    record { far = false; entered = false; env_stack = 0; env_disp = 0; value = false; level = 0; back = top_size below }
mark_of k (Entered level environment back) below =
    record { far = not (environment.stack == k); entered = true; env_stack = environment.stack; env_disp = environment.disp; value = wants_value back; level = level; back = top_size below }

-- the topmost mark
abbrev pub top_mark : ℕ → List Activation → Mscw
top_mark k [] = mark_of k Marked []
top_mark k (a ∷ below) = mark_of k a.head below

-- the return control word, all zero where nothing returns. A segment's displacement in the dictionary is its number and 1
abbrev pub return_of : Option Return → List Activation → Rcw
return_of None below = record { place = record { word = 0; syllable = 0 }; level = 0; segment = 0 }
return_of (Some r) below = record { place = r.place; level = stack_level below; segment = r.segment + 1 }

-- the words of a head on those below it
abbrev pub headed : ℕ → Head → List Activation → List Shape → List Shape
headed k Marked below under = Is (mscw_word (mark_of k Marked below)) ∷ under
headed k (Entered level environment back) below under =
    Is (rcw_word (return_of back below)) ∷ Is (mscw_word (mark_of k (Entered level environment back) below)) ∷ under

-- the words of the stack of number k, from the top down to its first mark
abbrev pub words : ℕ → List Activation → List Shape
words k [] = []
words k (a ∷ below) = a.cells ++ headed k a.head below (words k below)

-- the top of stack word of a stack that doesn't run
abbrev pub toscw_of : List Activation → Toscw
toscw_of stack = record { s = stack_words stack; level = stack_level stack; f = mark_place stack }

-- the fields of its words fit, and nothing returns from the bottom one alone
abbrev pub ReturnFits : Option Return → List Activation → Type 0
ReturnFits None below = below ≡ []
ReturnFits (Some r) below = IsPlace r.place × (r.segment + 1 < 2 ^ 14)

abbrev pub HeadFits : Head → List Activation → Type 0
HeadFits Marked below = Unit {0}
HeadFits (Entered level environment back) below =
    (level < 2 ^ 5) × (environment.stack < 2 ^ 10) × (environment.disp < 2 ^ 16) × ReturnFits back below

abbrev pub HeadsFit : List Activation → Type 0
HeadsFit [] = Unit {0}
HeadsFit (a ∷ below) = HeadFits a.head below × HeadsFit below

-- a live task's stack, which stands in a slot of so many words
pub record IsStack (room : ℕ) (stack : List Activation) : Type 0 where
  pub some : stack ≢ []
  pub heads : HeadsFit stack
  pub fits : stack_words stack < room
