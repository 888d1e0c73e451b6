-- The numbers of an image, each within its range.
use Rattle.std.specs.Prelude.{ℕ, ◌+◌, ◌^◌, ◌==◌, ◌&&◌, nat_lt, nat_le, ℤ, nat_abs, Bool, List, length, take, drop, Option, Some, None, if◌then◌else◌}
use Rattle.std.specs.Int.{w8, w16, w32, w64, cast_signed}
use Rattle.b67_word.specs.Tagged.{Tagged}
use Rattle.b67_core.specs.Numbers.{word_of}
use Rattle.b67_ctl.specs.declared.map.TheConstants.{SLOTS}
use Rattle.b67_ctl.specs.declared.registers.Regs.{Regs}
use Rattle.b67_area.specs.declared.directory.Areas.{Areas}
use Rattle.b67_model_text.specs.Cards.{is_name}
use Rattle.b67_model_text.specs.declared.deck.Switch.{Switch}
use Rattle.b67_task.specs.declared.tables.TaskState.{TaskState}
use Rattle.b67_task.specs.declared.tables.TaskState.TheVariants.{Ready, Awaits, WaitsAt}
use Rattle.b67_task.specs.declared.tables.TaskRow.{TaskRow}
use Rattle.b67_task.specs.declared.tables.JobRow.{JobRow}
use Rattle.b67_image.specs.Parts.{ToldCounts, ImageParts}
use Rattle.b67_image.specs.Giving.{◌>>=◌, ItemReader, read_number, read_many, read_place}
use Rattle.b67_model.specs.declared.limits.TheConstants.{LEAST_CORE, MOST_CORE, MOST_SECTORS, LEAST_STACK, MOST_STACK, MOST_JOBS, MOST_PARTS, GREATEST, MOST_QUANTUM, MOST_LIMIT, MOST_NUMBER, MOST_MADE, MOST_SWITCHES}

-- what passes a test
abbrev pub if_passes : {A : Type 0} → Bool → A → Option A
if_passes b a = if b then Some a else None

abbrev pub is_within : ℕ → ℕ → ℕ → Bool
is_within low high n = nat_le low n && nat_le n high

-- a number within these bounds
abbrev pub number_within : ℕ → ℕ → ℕ × List ℕ → Option (ℕ × List ℕ)
number_within low high n = if_passes (is_within low high n.0) n

-- a number of items, within these bounds
unfoldable pub read_count : (low high : ℕ) → ItemReader ℕ
read_count low high bytes = read_number w32 bytes >>= λ n. number_within low high n

-- and so many items
unfoldable pub read_counted : {X : Type 0} → (low high : ℕ) → ItemReader X → ItemReader (List X)
read_counted low high read bytes = read_count low high bytes >>= λ n. read_many read n.0 n.1

-- a number with the tag and the bits of a word
unfoldable pub read_word : ItemReader Tagged
read_word bytes = read_number w64 bytes >>= λ n. if_passes (nat_lt n.0 (2 ^ 51)) (word_of n.0, n.1)

unfoldable pub read_core : ItemReader (List Tagged)
read_core bytes = read_counted LEAST_CORE MOST_CORE read_word bytes

-- a stack has 64 to 16,383 words
unfoldable pub read_regs : ItemReader Regs
read_regs bytes = do
  s ← read_number w32 bytes
  f ← read_number w32 s.1
  bosr ← read_number w32 f.1
  losr ← read_number w32 bosr.1
  slot ← read_number w8 losr.1
  level ← read_number w8 slot.1
  segment ← read_number w16 level.1
  place ← read_place segment.1
  dict ← read_number w32 place.1
  entries ← read_number w16 dict.1
  stacks ← read_number w32 entries.1
  found ← read_number w16 stacks.1
  stack_size ← number_within LEAST_STACK MOST_STACK found
  peak ← read_number w8 stack_size.1
  Some (
    record {
      s = s.0;
      f = f.0;
      bosr = bosr.0;
      losr = losr.0;
      slot = slot.0;
      level = level.0;
      segment = segment.0;
      place = place.0;
      dict = dict.0;
      entries = entries.0;
      stacks = stacks.0;
      stack_size = stack_size.0;
      peak = peak.0;
    },
    peak.1,
  )

unfoldable pub read_areas : ItemReader Areas
read_areas bytes = do
  size ← read_number w32 bytes
  low ← read_number w32 size.1
  Some (record { size = size.0; low = low.0 }, low.1)

unfoldable pub read_links : ItemReader (List ℕ)
read_links bytes = read_counted 1 MOST_SECTORS (read_number w32) bytes

-- a turn has 1 to 1,000,000 operators
unfoldable pub read_counts : ItemReader ToldCounts
read_counts bytes = do
  found ← read_number w32 bytes
  quantum ← number_within 1 MOST_QUANTUM found
  made ← read_number w64 quantum.1
  turn ← read_number w32 made.1
  last_job ← read_number w8 turn.1
  last_number ← read_number w32 last_job.1
  running ← read_number w8 last_number.1
  next_switch ← read_number w32 running.1
  Some (record { quantum = quantum.0; made = made.0; turn = turn.0; last_job = last_job.0; last_number = last_number.0; running = running.0; next_switch = next_switch.0 }, next_switch.1)

-- a switch as a card may write it
unfoldable pub read_switch : ItemReader Switch
read_switch bytes = do
  count ← read_number w64 bytes
  count ← number_within 0 MOST_MADE count
  job ← read_number w8 count.1
  job ← number_within 1 MOST_JOBS job
  task ← read_number w32 job.1
  task ← number_within 1 MOST_NUMBER task
  Some (record { count = count.0; job = job.0; task = task.0 }, task.1)

unfoldable pub read_switches : ItemReader (List Switch)
read_switches bytes = read_counted 0 MOST_SWITCHES read_switch bytes

-- so many bytes
abbrev pub read_bytes : ℕ → ItemReader (List ℕ)
read_bytes n bytes = if nat_lt (length bytes) n then None else Some (take n bytes, drop n bytes)

-- the length of a name, and a name
unfoldable pub read_name : ItemReader (List ℕ)
read_name bytes = do
  n ← read_number w8 bytes
  name ← read_bytes n.0 n.1
  if_passes (is_name name.0) name

-- a number for READ
unfoldable pub read_signed : ItemReader ℤ
read_signed bytes = read_number w64 bytes >>= λ n. if_passes (nat_le (nat_abs (cast_signed w64 n.0)) GREATEST) (cast_signed w64 n.0, n.1)

-- at most 255 segments and data rows together, and a limit as a card may write it
unfoldable pub read_job : ItemReader JobRow
read_job bytes = do
  name ← read_name bytes
  dict ← read_number w32 name.1
  segments ← read_number w16 dict.1
  rows ← read_number w16 segments.1
  rows ← if_passes (nat_le (segments.0 + rows.0) MOST_PARTS) rows
  limit ← read_number w64 rows.1
  limit ← number_within 1 MOST_LIMIT limit
  made ← read_number w64 limit.1
  next_task ← read_number w32 made.1
  numbers ← read_counted 0 4294967295 read_signed next_task.1
  next_number ← read_number w32 numbers.1
  Some (
    record {
      name = name.0;
      dict = dict.0;
      segments = segments.0;
      rows = rows.0;
      limit = limit.0;
      made = made.0;
      next_task = next_task.0;
      numbers = numbers.0;
      next_number = next_number.0;
    },
    next_number.1,
  )

unfoldable pub read_jobs : ItemReader (List JobRow)
read_jobs bytes = read_counted 0 MOST_JOBS read_job bytes

-- the state of a kind, a number and an offset, of which a ready task has none and one that awaits a task no offset
abbrev pub state_by_kind : (kind number offset : ℕ) → Option TaskState
state_by_kind kind number offset =
    if kind == 0 then if_passes ((number == 0) && (offset == 0)) Ready
    else (if kind == 1 then if_passes (offset == 0) (Awaits number)
    else (if kind == 2 then Some (WaitsAt number offset) else None))

unfoldable pub read_state : ItemReader TaskState
read_state bytes = do
  kind ← read_number w8 bytes
  number ← read_number w32 kind.1
  offset ← read_number w16 number.1
  state ← state_by_kind kind.0 number.0 offset.0
  Some (state, offset.1)

unfoldable pub read_row : ItemReader TaskRow
read_row bytes = do
  job ← read_number w8 bytes
  number ← read_number w32 job.1
  slot ← read_number w8 number.1
  parent ← read_number w8 slot.1
  critical ← read_number w16 parent.1
  state ← read_state critical.1
  segment ← read_number w16 state.1
  place ← read_place segment.1
  Some (record { job = job.0; number = number.0; slot = slot.0; parent = parent.0; critical = critical.0; state = state.0; segment = segment.0; place = place.0 }, place.1)

unfoldable pub read_rows : ItemReader (List TaskRow)
read_rows bytes = read_counted 0 SLOTS read_row bytes

-- all of the items, behind the header
unfoldable pub read_parts : ItemReader ImageParts
read_parts bytes = do
  core ← read_core bytes
  regs ← read_regs core.1
  display ← read_many (read_number w32) 32 regs.1
  critical ← read_many (read_number w16) SLOTS display.1
  areas ← read_areas critical.1
  links ← read_links areas.1
  counts ← read_counts links.1
  switches ← read_switches counts.1
  jobs ← read_jobs switches.1
  rows ← read_rows jobs.1
  Some (
    record {
      core = core.0;
      regs = regs.0;
      display = display.0;
      critical = critical.0;
      areas = areas.0;
      links = links.0;
      counts = counts.0;
      switches = switches.0;
      jobs = jobs.0;
      rows = rows.0;
    },
    rows.1,
  )

-- the parts of an image, where nothing lies behind its last item
abbrev pub none_behind : ImageParts × List ℕ → Option ImageParts
none_behind found = if_passes (length found.1 == 0) found.0

unfoldable pub parts_in : List ℕ → Option ImageParts
parts_in bytes = read_number w64 bytes >>= λ n. read_parts n.1 >>= λ found. none_behind found
