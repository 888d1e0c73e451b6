-- The table of records: in which activation record of a live task's stack each address is.
use Rattle.std.specs.Prelude.{◌≡◌, ℕ, zero, suc, ◌+◌, ◌-◌, ◌*◌, ◌%◌, ◌^◌, ◌<◌, nat_le, List, [], ◌∷◌, length, slice_index, slice_set, if◌then◌else◌}
use Rattle.b67_word.specs.Tagged.{Tagged, bits_at}
use Rattle.b67_lemmas.specs.Lists.{Has}
use Rattle.b67_stack.specs.Common.{Head, Marked, Entered, Activation, stack_words}
use Rattle.b67_layout.specs.Rows.{TaskRow}
use Rattle.b67_layout_shown.specs.Reading.{word_seen_at}
use Rattle.b67_layout_shown.specs.Shown.{Sight, top_in, stack_of_row}
use Rattle.b67_image_shape.specs.Items.{base_at}

-- what represents a record: twice the displacement of its mark, and one more where it is entered
abbrev pub record_code : ℕ → Head → ℕ
record_code d Marked = d * 2
record_code d (Entered level environment back) = d * 2 + 1

-- the record that a displacement is in, 0 for none
abbrev pub record_of_disp : ℕ → List Activation → ℕ
record_of_disp d [] = 0
record_of_disp d (a ∷ below) = if nat_le d (stack_words below) then record_of_disp d below else (if nat_le d (stack_words (a ∷ below)) then record_code (stack_words below + 1) a.head else 0)

-- the records of all live tasks' stacks
pub record IsRecordTable (k : Sight) (records : List ℕ) : Type 0 where
  pub many : length records ≡ length k.core
  pub each : (r : TaskRow) → Has k.tasks r → (d : ℕ) → d < k.regs.stack_size → slice_index records (base_at k r + d) ≡ record_of_disp d (stack_of_row k r)

-- ---- how it is filled

-- n items from a place on are a value
abbrev pub filled_range : ℕ → ℕ → ℕ → List ℕ → List ℕ
filled_range value from zero xs = xs
filled_range value from (suc n) xs = filled_range value from n (slice_set xs (from + n) value)

-- by the word of a mark at f
abbrev pub code_by : ℕ → ℕ → Tagged → ℕ
code_by base f w = (f - base) % 2 ^ 14 * 2 + bits_at w 46 1

-- by the distance of the next mark
abbrev pub fill_under : ℕ → (ℕ → List ℕ → List ℕ) → List ℕ → List ℕ
fill_under zero rest xs = xs
fill_under (suc d) rest xs = rest (suc d) xs

-- at most n records from the mark at f down, of which the first reaches up to s
unfoldable pub records_down : List Tagged → ℕ → ℕ → ℕ → ℕ → List ℕ → List ℕ
records_down core base zero f s xs = xs
records_down core base (suc n) f s xs =
    let w = word_seen_at core f in
    fill_under (bits_at w 0 14) (λ d ys. records_down core base n (f - d) (f - 1) ys) (filled_range (code_by base f w) f (s + 1 - f) xs)

abbrev pub records_of_row : Sight → TaskRow → List ℕ → List ℕ
records_of_row k r xs = let t = top_in k r in records_down k.core (base_at k r) k.regs.stack_size t.f t.s xs

abbrev pub records_of_rows : Sight → List TaskRow → List ℕ → List ℕ
records_of_rows k [] xs = xs
records_of_rows k (r ∷ more) xs = records_of_rows k more (records_of_row k r xs)
