-- Words of core that the tables and registers tell: those of the MCP, the dictionaries' first two, the stack vector, and the base
-- words of free slots; and the greatest critical displacements.
use Rattle.std.specs.Prelude.{◌≡◌, ℕ, ◌+◌, ◌*◌, ◌^◌, ◌<◌, ◌≤◌, ◌==◌, max, List, [], ◌∷◌, length, Option, Some, None, slice_get, if◌then◌else◌}
use Rattle.b67_word.specs.Tagged.{Tagged, word}
use Rattle.b67_ctl.specs.declared.vector.TheConstants.{FIRST_TASK}
use Rattle.b67_ctl.specs.declared.map.TheConstants.{FIRST_DICTIONARY, MCP_STACK, SLOTS, STACK_VECTOR}
use Rattle.b67_layout.specs.Rows.{TaskRow, JobRow}
use Rattle.b67_layout.specs.Session.{RepresentsMcp}
use Rattle.b67_layout_shown.specs.Shown.{Sight}
use Rattle.b67_image_shape.specs.TableFacts.{row_in_slot}
use Rattle.b67_model.specs.declared.limits.TheConstants.{LEAST_STACK, MOST_PARTS, MOST_STACK}

-- dictionaries follow each other, up to slot 0
pub record DictionaryFacts (core : List Tagged) (at : ℕ) (row : JobRow) : Type 0 where
  pub place : row.dictionary ≡ at
  pub few : row.segments + row.rows ≤ MOST_PARTS
  pub mark : slice_get core at ≡ Some (word 3 (2 ^ 47 + 2 ^ 46 + MCP_STACK * 2 ^ 36 + 1 * 2 ^ 14))
  pub entries : slice_get core (at + 1) ≡ Some (word 0 (row.segments + row.rows))

abbrev pub DictionariesStandIn : List Tagged → ℕ → ℕ → List JobRow → Type 0
DictionariesStandIn core stacks at [] = at ≡ stacks
DictionariesStandIn core stacks at (row ∷ more) = DictionaryFacts core at row × DictionariesStandIn core stacks (at + (2 + (row.segments + row.rows))) more

-- the word of a slot in the stack vector
abbrev pub link_to : Option TaskRow → ℕ
link_to None = FIRST_TASK
link_to (Some p) = p.slot

abbrev pub vector_of : List TaskRow → Option TaskRow → Tagged
vector_of tasks None = word 0 0
vector_of tasks (Some r) = word 3 (2 ^ 46 + link_to (row_in_slot tasks r.parent) * 2 ^ 36 + r.job * 2 ^ 16)

-- the base word of a slot in which no task lives
abbrev pub FreeSlot : List Tagged → ℕ → Option TaskRow → Type 0
FreeSlot core base None = slice_get core base ≡ Some (word 0 0)
FreeSlot core base (Some r) = Unit {0}

-- slots have 64 words or more, where there are jobs
abbrev pub SlotsHaveRoom : ℕ → List JobRow → Type 0
SlotsHaveRoom size [] = Unit {0}
SlotsHaveRoom size (row ∷ more) = LEAST_STACK ≤ size

pub record FixedFacts (k : Sight) (low size : ℕ) : Type 0 where
  pub stack_low : SlotsHaveRoom k.regs.stack_size k.jobs
  pub stack_high : k.regs.stack_size < MOST_STACK + 1
  pub begins : low ≡ k.regs.stacks + k.regs.peak * k.regs.stack_size
  pub inside : low ≤ length k.core
  pub all : size ≡ length k.core
  pub mcp : RepresentsMcp k.core
  pub dictionaries : DictionariesStandIn k.core k.regs.stacks FIRST_DICTIONARY k.jobs
  pub slots : (n : ℕ) → n < SLOTS → slice_get k.core (STACK_VECTOR + n) ≡ Some (vector_of k.tasks (row_in_slot k.tasks n))
  pub free : (n : ℕ) → n < k.regs.peak → FreeSlot k.core (k.regs.stacks + n * k.regs.stack_size) (row_in_slot k.tasks n)

-- the greatest critical displacement of the tasks whose parent lives in a slot, 0 for none
abbrev pub greatest : List TaskRow → ℕ → ℕ
greatest [] n = 0
greatest (r ∷ more) n = if r.parent == n then max r.critical (greatest more n) else greatest more n

abbrev pub CriticalMarks : List ℕ → List TaskRow → Type 0
CriticalMarks critical tasks = (n : ℕ) → n < SLOTS → slice_get critical n ≡ Some (greatest tasks n)
