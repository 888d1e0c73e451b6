-- Which marks stand in a task's reach, by addresses and words: its critical mark in its parent's stack, and the mark at which it waits.
use Rattle.std.specs.Prelude.{ℕ, zero, suc, ◌+◌, ◌-◌, ◌^◌, ◌==◌, Bool, true, false, ◌&&◌, ◌||◌, nat_lt, nat_le, List, Option, Some, None, slice_get}
use Rattle.std.specs.List.{list_all}
use Rattle.b67_model.specs.declared.limits.TheConstants.{MOST_TASKS}
use Rattle.b67_word.specs.Tagged.{Tagged, bits_at}
use Rattle.b67_layout.specs.Rows.{RowState, IsReady, AwaitsTask, WaitsAtCell, TaskRow, JobRow}
use Rattle.b67_layout_shown.specs.Reading.{word_seen_at, is_set}
use Rattle.b67_layout_shown.specs.Shown.{Sight, top_in}
use Rattle.b67_image_shape.specs.Deciding.{Decides}
use Rattle.b67_image_shape.specs.TableFacts.{row_in_slot, TableFacts}
use Rattle.b67_image_shape.specs.FixedWords.{FixedFacts}
use Rattle.b67_image_shape.specs.NearStacks.{NearStacks}
use Rattle.b67_image_shape.specs.Items.{EachTask, ReachFacts, base_at}

-- ---- marks of one stack

-- by the distance of the next mark
abbrev pub marked_under : ℕ → (ℕ → Bool) → Bool
marked_under zero rest = false
marked_under (suc d) rest = rest (suc d)

-- of at most n marks from the one at f down, one stands at an address
unfoldable pub has_mark : List Tagged → ℕ → ℕ → ℕ → Bool
has_mark core zero f at = false
has_mark core (suc n) f at = (f == at) || marked_under (bits_at (word_seen_at core f) 0 14) (λ d. has_mark core n (f - d) at)

-- a mark of a task's stack stands at an address
abbrev pub marked_at : Sight → TaskRow → ℕ → Bool
marked_at k r at = has_mark k.core k.regs.stack_size (top_in k r).f at

-- an entered one
abbrev pub entered_at : Sight → TaskRow → ℕ → Bool
entered_at k r at = is_set (word_seen_at k.core at) 46 && marked_at k r at

-- ---- marks in reach

-- one of those from a displacement down
abbrev pub kept_at : Sight → ℕ → TaskRow → ℕ → Bool
kept_at k disp p at = nat_le at (base_at k p + disp) && (marked_at k p (base_at k p + disp) && entered_at k p at)

-- in the stacks of at most n parents, each from the critical mark down
abbrev pub outside_at : Sight → ℕ → ℕ → Option TaskRow → ℕ → Bool
outside_at k zero disp o at = false
outside_at k (suc n) disp None at = false
outside_at k (suc n) disp (Some p) at = kept_at k disp p at || outside_at k n p.critical (row_in_slot k.tasks p.parent) at

abbrev pub is_dictionary : Option JobRow → ℕ → Bool
is_dictionary None at = false
is_dictionary (Some row) at = at == row.dictionary

-- the MCP's mark, the dictionary's, or an entered one
abbrev pub reached_at : Sight → TaskRow → ℕ → Bool
reached_at k r at = (at == 0) || (is_dictionary (slice_get k.jobs (r.job - 1)) at || (entered_at k r at || outside_at k MOST_TASKS r.critical (row_in_slot k.tasks r.parent) at))

-- ---- tests

-- the critical mark stands in the parent's stack
abbrev pub is_kept : Sight → TaskRow → Option TaskRow → Bool
is_kept k r None = true
is_kept k r (Some p) = marked_at k p (base_at k p + r.critical)

-- a task waits at a mark in its reach
abbrev pub waits_within : Sight → TaskRow → RowState → Bool
waits_within k r IsReady = true
waits_within k r (AwaitsTask n) = true
waits_within k r (WaitsAtCell mark offset) = nat_lt offset (2 ^ 12) && reached_at k r mark

abbrev pub row_reaches : Sight → TaskRow → Bool
row_reaches k r = is_kept k r (row_in_slot k.tasks r.parent) && waits_within k r r.state

abbrev pub reaches : Sight → Bool
reaches k = list_all (row_reaches k) k.tasks

-- over stacks that stand they decide whether what live tasks name is in their reach
abbrev pub ReachesAreDecided : Type 0
ReachesAreDecided = (k : Sight) (low size : ℕ) → TableFacts k → FixedFacts k low size → NearStacks k → Decides (reaches k) (EachTask k (ReachFacts k))
