-- A stack by its words from the top down, each word by itself.
use Rattle.std.specs.Prelude.{◌≡◌, ◌≢◌, ℕ, zero, suc, ◌+◌, ◌-◌, ◌<◌, ◌≤◌, ◌==◌, Bool, true, false, ◌&&◌, not, nat_lt, nat_le, List, [], ◌∷◌, Option, Some, None}
use Rattle.b67_word.specs.Tagged.{Tagged}
use Rattle.b67_ctl.specs.declared.marks.Mscw.{Mscw}
use Rattle.b67_ctl.specs.Layout.{mscw_word, rcw_word}
use Rattle.b67_model.specs.State.{Return}
use Rattle.b67_stack.specs.Common.{Fits, LieDownward, Head, Marked, Entered, Activation, stack_words, mark_place, stack_level, wants_value, words}
use Rattle.b67_layout_shown.specs.Reading.{word_seen_at, mscw_in, rcw_in, shape_in, return_by}
use Rattle.b67_image_shape.specs.Fitting.{same, fits_test}
use Rattle.b67_image_shape.specs.Held.{location_in}

-- ---- cells

-- a cell is of the shape that is read of it, if its array is held as its original says
abbrev pub cell_fits : List Tagged → ℕ → Bool
cell_fits core at = fits_test (location_in core) (shape_in core at (word_seen_at core at)) at (word_seen_at core at)

abbrev pub cells_fit : List Tagged → ℕ → ℕ → Bool
cells_fit core at zero = true
cells_fit core at (suc n) = cell_fits core (at + n) && cells_fit core at n

-- ---- heads

-- the mark of a head, so far above the mark below it, 0 for none
abbrev pub mark_by : ℕ → Head → ℕ → Mscw
mark_by k Marked back = record { far = false; entered = false; env_stack = 0; env_disp = 0; value = false; level = 0; back = back }
mark_by k (Entered level environment return) back =
    record { far = not (environment.stack == k); entered = true; env_stack = environment.stack; env_disp = environment.disp; value = wants_value return; level = level; back = back }

-- the return word at an address, of a job with so many segments
abbrev pub returns_here : List Tagged → ℕ → ℕ → Option Return → Bool
returns_here core segments at None = same (word_seen_at core at) (rcw_word (record { place = record { word = 0; syllable = 0 }; level = 0; segment = 0 }))
returns_here core segments at (Some r) =
    same (word_seen_at core at) (rcw_word (record { place = r.place; level = (rcw_in (word_seen_at core at)).level; segment = r.segment + 1 })) && (nat_lt 0 r.segment && nat_le r.segment segments)

-- the head that a mark tells
abbrev pub head_by : List Tagged → ℕ → Mscw → Head
head_by core f m = Entered m.level (record { stack = m.env_stack; disp = m.env_disp }) (return_by m.value (rcw_in (word_seen_at core (f + 1))) m.back)

-- the activation record of the mark at f, which reaches up to s
abbrev pub record_fits : List Tagged → ℕ → ℕ → ℕ → ℕ → ℕ → Mscw → Bool → Bool
record_fits core k segments level f s m true =
    nat_lt f s
    && ((m.level == level)
    && (same (word_seen_at core f) (mscw_word (mark_by k (head_by core f m) m.back))
    && (returns_here core segments (f + 1) (return_by m.value (rcw_in (word_seen_at core (f + 1))) m.back) && cells_fit core (f + 2) (s - (f + 1)))))
record_fits core k segments level f s m false = nat_le f s && (same (word_seen_at core f) (mscw_word (mark_by k Marked m.back)) && cells_fit core (f + 1) (s - f))

-- the level below it: the return word's, or its own
abbrev pub level_under : List Tagged → ℕ → ℕ → Bool → ℕ
level_under core level f true = (rcw_in (word_seen_at core (f + 1))).level
level_under core level f false = level

-- by the distance of the next mark
abbrev pub under_fits : ℕ → ℕ → ℕ → Bool → (ℕ → Bool) → Bool
under_fits base f zero entered rest = (f == base + 1) && entered
under_fits base f (suc d) entered rest = nat_lt (base + suc d) f && rest (suc d)

-- at most n activation records of the stack of number k, from the mark at f down; the topmost entered one has this level
unfoldable pub walk_test : List Tagged → ℕ → ℕ → ℕ → ℕ → ℕ → ℕ → ℕ → Bool
walk_test core base k segments zero level f s = false
walk_test core base k segments (suc n) level f s =
    let m = mscw_in (word_seen_at core f) in
    nat_lt base f
    && (record_fits core k segments level f s m m.entered
    && under_fits base f m.back m.entered (λ d. walk_test core base k segments n (level_under core level f m.entered) (f - d) (f - 1)))

-- ---- what it tells

abbrev pub ReturnsTo : ℕ → Head → List Activation → Type 0
ReturnsTo segments Marked below = below ≢ []
ReturnsTo segments (Entered level environment None) below = below ≡ []
ReturnsTo segments (Entered level environment (Some r)) below = (below ≢ []) × (0 < r.segment) × (r.segment ≤ segments)

abbrev pub HaveReturns : ℕ → List Activation → Type 0
HaveReturns segments [] = Unit {0}
HaveReturns segments (a ∷ below) = ReturnsTo segments a.head below × HaveReturns segments below

-- activation records stand in core from a slot's base up to s, and have returns
pub record Stands (core : List Tagged) (base k segments level f s : ℕ) (stack : List Activation) : Type 0 where
  pub some : stack ≢ []
  pub top : base + stack_words stack ≡ s
  pub mark : base + mark_place stack ≡ f
  pub level_is : stack_level stack ≡ level
  pub lie : LieDownward (Fits (location_in core)) core (suc base) (words k stack)
  pub returns : HaveReturns segments stack
