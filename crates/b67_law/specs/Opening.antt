-- The opening of a session, within the limits of a deck.
use Rattle.std.specs.Prelude.{ℕ, ◌+◌, ◌^◌, ◌<◌, ◌≤◌, ℤ, nat_abs, List, length}
use Rattle.std.specs.List.{AllByRecursion}
pub use Rattle.b67_model.specs.Common.{Opening, opened_from, opening}
use Rattle.b67_model.specs.Common.{IsAdmitted, Switch, SegmentInOrder, SwitchesRise, IsInOrder}
use Rattle.b67_model.specs.declared.limits.TheConstants.{LEAST_STACK, MOST_JOBS, MOST_PARTS, MOST_LIMIT}

-- the words of a data row
pub record RowWithin (row : List ℕ) : Type 0 where
  pub length_low : 0 < length row
  pub length_high : length row < 2 ^ 16
  pub words : AllByRecursion (λ (n : ℕ). n < 2 ^ 48) row

-- an admitted program and numbers within their limits
pub record OpeningWithin (o : Opening) : Type 0 where
  pub admitted : IsAdmitted o.program
  pub segments : AllByRecursion SegmentInOrder o.program.segments
  pub rows : AllByRecursion RowWithin o.program.rows
  pub few : length o.program.segments + length o.program.rows ≤ MOST_PARTS
  pub limit_low : 0 < o.limit
  pub limit_high : o.limit ≤ MOST_LIMIT
  pub numbers : AllByRecursion (λ (v : ℤ). nat_abs v < 2 ^ 39) o.numbers

-- what a deck within its limits asks for
pub record DeckWithin (stack : ℕ) (switches : List Switch) (openings : List Opening) : Type 0 where
  pub stack_low : LEAST_STACK ≤ stack
  pub stack_high : stack < 2 ^ 14
  pub rise : SwitchesRise switches
  pub few : length openings ≤ MOST_JOBS
  pub each : AllByRecursion OpeningWithin openings

-- the opening state of each deck whose programs are admitted is in order
abbrev pub OpensInOrder : Type 0
OpensInOrder =
    (stack quantum : ℕ) (switches : List Switch) (openings : List Opening) → DeckWithin stack switches openings →
    IsInOrder (opening stack quantum switches openings)
