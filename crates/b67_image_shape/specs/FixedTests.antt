-- Tests of the words of core that the tables and registers tell, and of the greatest critical displacements.
use Rattle.std.specs.Prelude.{ℕ, zero, suc, ◌+◌, ◌*◌, ◌^◌, ◌==◌, Bool, true, false, ◌&&◌, nat_lt, nat_le, List, [], ◌∷◌, length, Option, Some, None, slice_get}
use Rattle.b67_word.specs.Tagged.{Tagged, word}
use Rattle.b67_ctl.specs.declared.map.TheConstants.{FIRST_DICTIONARY, MCP_STACK, SLOTS, STACK_VECTOR}
use Rattle.b67_layout.specs.Rows.{TaskRow, JobRow}
use Rattle.b67_layout_shown.specs.Shown.{Sight}
use Rattle.b67_image_shape.specs.Fitting.{same}
use Rattle.b67_image_shape.specs.TableFacts.{row_in_slot}
use Rattle.b67_image_shape.specs.FixedWords.{vector_of, greatest}
use Rattle.b67_model.specs.declared.limits.TheConstants.{LEAST_STACK, MOST_PARTS, MOST_STACK}

-- a number or a word that was found is this one
abbrev pub found_number : Option ℕ → ℕ → Bool
found_number None n = false
found_number (Some m) n = m == n

abbrev pub found_word : Option Tagged → Tagged → Bool
found_word None w = false
found_word (Some v) w = same v w

abbrev pub word_is : List Tagged → ℕ → Tagged → Bool
word_is core at w = found_word (slice_get core at) w

-- all numbers below one pass
abbrev pub all_below : (ℕ → Bool) → ℕ → Bool
all_below test zero = true
all_below test (suc n) = test n && all_below test n

abbrev pub is_intrinsic : List Tagged → ℕ → Bool
is_intrinsic core i = word_is core (8 + i) (word 7 (2 ^ 19 + (8 + i)))

abbrev pub mcp_test : List Tagged → Bool
mcp_test core = word_is core 0 (word 3 (2 ^ 46)) && all_below (is_intrinsic core) 11

abbrev pub dictionary_test : List Tagged → ℕ → JobRow → Bool
dictionary_test core at row =
    (row.dictionary == at)
    && (nat_le (row.segments + row.rows) MOST_PARTS
    && (word_is core at (word 3 (2 ^ 47 + 2 ^ 46 + MCP_STACK * 2 ^ 36 + 1 * 2 ^ 14)) && word_is core (at + 1) (word 0 (row.segments + row.rows))))

abbrev pub dictionaries_test : List Tagged → ℕ → ℕ → List JobRow → Bool
dictionaries_test core stacks at [] = at == stacks
dictionaries_test core stacks at (row ∷ more) = dictionary_test core at row && dictionaries_test core stacks (at + (2 + (row.segments + row.rows))) more

abbrev pub slot_test : List Tagged → List TaskRow → ℕ → Bool
slot_test core tasks n = word_is core (STACK_VECTOR + n) (vector_of tasks (row_in_slot tasks n))

abbrev pub free_test : List Tagged → ℕ → Option TaskRow → Bool
free_test core base None = word_is core base (word 0 0)
free_test core base (Some r) = true

abbrev pub base_test : Sight → ℕ → Bool
base_test k n = free_test k.core (k.regs.stacks + n * k.regs.stack_size) (row_in_slot k.tasks n)

abbrev pub room_test : ℕ → List JobRow → Bool
room_test size [] = true
room_test size (row ∷ more) = nat_le LEAST_STACK size

abbrev pub fixed_test : Sight → ℕ → ℕ → Bool
fixed_test k low size =
    room_test k.regs.stack_size k.jobs
    && (nat_lt k.regs.stack_size (MOST_STACK + 1)
    && ((low == k.regs.stacks + k.regs.peak * k.regs.stack_size)
    && (nat_le low (length k.core)
    && ((size == length k.core)
    && (mcp_test k.core
    && (dictionaries_test k.core k.regs.stacks FIRST_DICTIONARY k.jobs && (all_below (slot_test k.core k.tasks) SLOTS && all_below (base_test k) k.regs.peak)))))))

abbrev pub mark_test : List ℕ → List TaskRow → ℕ → Bool
mark_test critical tasks n = found_number (slice_get critical n) (greatest tasks n)

abbrev pub critical_test : List ℕ → List TaskRow → Bool
critical_test critical tasks = all_below (mark_test critical tasks) SLOTS
