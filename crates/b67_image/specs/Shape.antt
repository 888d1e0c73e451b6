-- Where the items of an image lie in its bytes, by their lengths and numbers alone.
use Rattle.std.specs.Prelude.{ℕ, zero, suc, ◌+◌, ◌*◌, ◌==◌, nat_lt, Bool, false, List, length, drop, Option, Some, None, if◌then◌else◌}
use Rattle.b67_image.specs.Giving.{◌>>=◌, read_number}
use Rattle.std.specs.Int.{w8, w32, w64}
use Rattle.b67_image.specs.declared.widths.TheConstants.{BEHIND_CORE, COUNTS, JOB_FRONT, SWITCH, TASK_ROW}
use Rattle.b67_image.specs.Spelling.{image_header}

-- what lies behind bytes: none where there are fewer
abbrev pub Skip : Type 0
Skip = List ℕ → Option (List ℕ)

abbrev pub skipped : ℕ → Skip
skipped n bytes = if nat_lt (length bytes) n then None else Some (drop n bytes)

-- a number of items, each of so many bytes
unfoldable pub skipped_list : ℕ → Skip
skipped_list width bytes = read_number w32 bytes >>= λ n. skipped (n.0 * width) n.1

-- a job: the length of its name and the name; the numbers in front; its numbers for READ; a number more
unfoldable pub skipped_job : Skip
skipped_job bytes = do
  n ← read_number w8 bytes
  a ← skipped (n.0 + JOB_FRONT) n.1
  b ← skipped_list 8 a
  skipped 4 b

unfoldable pub skipped_many : Skip → ℕ → Skip
skipped_many skip zero bytes = Some bytes
skipped_many skip (suc n) bytes = skip bytes >>= λ more. skipped_many skip n more

abbrev pub skipped_jobs : Skip
skipped_jobs bytes = read_number w32 bytes >>= λ n. skipped_many skipped_job n.0 n.1

-- what lies behind the last item: core; registers, display, critical displacements and areas; sectors; the tables' numbers;
-- switches; jobs; task rows
unfoldable pub skipped_all : Skip
skipped_all bytes = do
  a ← skipped 8 bytes
  b ← skipped_list 8 a
  c ← skipped BEHIND_CORE b
  d ← skipped_list 4 c
  e ← skipped COUNTS d
  f ← skipped_list SWITCH e
  g ← skipped_jobs f
  skipped_list TASK_ROW g

-- nothing lies behind it
abbrev pub is_end : Option (List ℕ) → Bool
is_end None = false
is_end (Some rest) = length rest == 0

abbrev pub has_shape : List ℕ → Bool
has_shape bytes = is_end (skipped_all bytes)

-- the bytes begin with the header
abbrev pub is_header : Option (ℕ × List ℕ) → Bool
is_header None = false
is_header (Some n) = n.0 == image_header

abbrev pub has_header : List ℕ → Bool
has_header bytes = is_header (read_number w64 bytes)
