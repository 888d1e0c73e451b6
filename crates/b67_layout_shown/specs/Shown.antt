-- The session that a machine shows: read off its core, its registers and its tables. An activation record is named by its task's
-- number and its mark's displacement in the slot, an array by those of its original, a data row by its place in the dictionary.
-- What the machine doesn't say is 0: levels and entries of segments, code and numbers that aren't in core, how tasks ended.
use Rattle.std.specs.Prelude.{ℕ, zero, suc, ◌+◌, ◌-◌, ◌*◌, ◌/◌, ◌%◌, ◌^◌, ◌==◌, Bool, true, false, nat_lt, List, [], ◌∷◌, ◌++◌, map, filter, flat_map, drop, replicate, Option, Some, None, if◌then◌else◌}
use Rattle.b67_model.specs.declared.limits.TheConstants.{MOST_TASKS}
use Rattle.b67_word.specs.Tagged.{Tagged, bits_at}
use Rattle.b67_word.specs.declared.couples.Place.{Place}
use Rattle.b67_ctl.specs.declared.map.TheConstants.{DICTIONARY_STACKS, MCP_STACK, SLOTS}
use Rattle.b67_ctl.specs.declared.registers.Regs.{Regs}
use Rattle.b67_model.specs.Words as Words
use Rattle.b67_model.specs.Common.{Word, Operand, Name, Ref, Row, Element, Original, Proc, Intrinsic, Standing, Frame, Array, Condition, Ready, Awaits, WaitsAt, Task, Segment, JobConstants, Job, SessionJob, Session}
use Rattle.b67_model.specs.State as State
use Rattle.b67_model.specs.Keyed.{keyed}
use Rattle.b67_stack.specs.Shapes as Shapes
use Rattle.b67_stack.specs.Common.{Shape, Is, Copy, StackPlace, Head, Marked, Entered, Activation, stack_words}
use Rattle.b67_layout.specs.Common.{Placement, RowState, IsReady, AwaitsTask, WaitsAtCell, TaskRow, JobRow, JobCounts}
use Rattle.b67_layout_shown.specs.Reading.{word_seen_at, is_set, desc_in, stack_seen}
pub use Rattle.b67_layout_shown.specs.Places.{named}

-- the parts of a machine that show its session
pub record Sight : Type 0 where
  pub core : List Tagged
  pub regs : Regs
  pub tasks : List TaskRow
  pub jobs : List JobRow
  pub counts : JobCounts

-- ---- names

-- the number of the task in a slot, 0 for none
abbrev pub number_by : Option TaskRow → ℕ
number_by None = 0
number_by (Some r) = r.number

abbrev pub number_seen : List TaskRow → ℕ → ℕ
number_seen tasks k = number_by (keyed (λ (r : TaskRow). r.slot) k tasks)

-- the name of the activation record whose mark stands at a place, seen from a job: its own dictionary is 1, the MCP is 0
abbrev pub frame_seen : List TaskRow → ℕ → StackPlace → ℕ
frame_seen tasks job p =
    if nat_lt p.stack SLOTS then named (number_seen tasks p.stack) p.disp else (if p.stack == DICTIONARY_STACKS + job then 1 else 0)

-- the place of an address: in a slot, or in the dictionary of a job or the MCP
abbrev pub place_seen : Regs → JobRow → ℕ → ℕ → StackPlace
place_seen r row job address =
    if nat_lt address r.stacks then (if address == row.dictionary then record { stack = DICTIONARY_STACKS + job; disp = 0 } else record { stack = MCP_STACK; disp = 0 })
    else record { stack = (address - r.stacks) / r.stack_size; disp = (address - r.stacks) % r.stack_size }

-- the name of the array whose original stands at an address
abbrev pub array_homed : Regs → List TaskRow → JobRow → ℕ → ℕ
array_homed r tasks row address =
    if nat_lt address r.stacks then address - (row.dictionary + 1 + row.segments)
    else named (number_seen tasks ((address - r.stacks) / r.stack_size)) ((address - r.stacks) % r.stack_size)

-- ---- words

abbrev pub copy_by : Option ℕ → ℕ → Word
copy_by None array = Row array
copy_by (Some index) array = Element array index

-- a reference, stuffed or not
abbrev pub reference_by : Tagged → (StackPlace → ℕ) → Bool → Word
reference_by w frame true = Ref (frame (record { stack = bits_at w 36 10; disp = bits_at w 20 16 })) (bits_at w 0 13)
reference_by w frame false = Name (bits_at w 0 14)

-- the word of a cell. One of a tag that no cell has is shown as an intrinsic, which no cell may be
abbrev pub plain_by : Tagged → (StackPlace → ℕ) → Bool → Bool → Bool → Word
plain_by w frame true refers procedure = Operand w.bits
plain_by w frame false true procedure = reference_by w frame (is_set w 46)
plain_by w frame false false true = Proc (bits_at w 0 14 - 1) (bits_at w 14 5) (record { word = bits_at w 20 13; syllable = bits_at w 33 3 })
plain_by w frame false false false = Intrinsic w.bits

abbrev pub word_seen : (StackPlace → ℕ) → (ℕ → ℕ) → Shape → Word
word_seen frame array (Is w) = plain_by w frame (w.tag == 0) (w.tag == 1) (w.tag == 7)
word_seen frame array (Shapes.Original home) = Original (array home)
word_seen frame array (Copy c home) = copy_by c.index (array home)

-- ---- activation records

abbrev pub standing_of : (StackPlace → ℕ) → Head → Standing
standing_of frame Marked = State.Marked
standing_of frame (Entered level environment back) = State.Entered level (frame environment) back

-- those of a task of this number
abbrev pub frames_of : ℕ → (StackPlace → ℕ) → (ℕ → ℕ) → List Activation → List Frame
frames_of number frame array [] = []
frames_of number frame array (a ∷ below) =
    record { identity = named number (stack_words below + 1); standing = standing_of frame a.head; cells = map (word_seen frame array) a.cells } ∷ frames_of number frame array below

-- ---- tasks

-- where a task's top is, its topmost mark and where it goes on
pub record Top : Type 0 where
  pub s : ℕ
  pub f : ℕ
  pub segment : ℕ
  pub place : Place

-- the registers of the running task; the top of stack word and the row of another one
abbrev pub top_by : Sight → TaskRow → ℕ → Bool → Top
top_by k row base true = record { s = k.regs.s; f = k.regs.f; segment = k.regs.segment; place = k.regs.place }
top_by k row base false =
    let w = word_seen_at k.core base in record { s = base + bits_at w 20 16; f = base + bits_at w 0 14; segment = row.segment; place = row.place }

abbrev pub top_in : Sight → TaskRow → Top
top_in k row = top_by k row (k.regs.stacks + row.slot * k.regs.stack_size) (row.slot == k.regs.slot)

-- the stack of a task: at most as many activation records as a slot has words
abbrev pub stack_of_row : Sight → TaskRow → List Activation
stack_of_row k row = let t = top_in k row in stack_seen k.core k.regs.stack_size t.f t.s

-- the numbers of the parents from a slot up, at most n
abbrev pub parents_by : List TaskRow → ℕ → Option TaskRow → List ℕ
parents_by tasks zero r = []
parents_by tasks (suc n) None = []
parents_by tasks (suc n) (Some r) = r.number ∷ parents_by tasks n (keyed (λ (r : TaskRow). r.slot) r.parent tasks)

abbrev pub parents_in : List TaskRow → ℕ → List ℕ
parents_in tasks parent = parents_by tasks MOST_TASKS (keyed (λ (r : TaskRow). r.slot) parent tasks)

-- the name of the activation record that the parent may not leave
abbrev pub critical_by : List TaskRow → ℕ → Option TaskRow → ℕ
critical_by tasks disp None = 0
critical_by tasks disp (Some r) = named r.number disp

abbrev pub condition_in : (ℕ → ℕ) → RowState → Condition
condition_in frame IsReady = Ready
condition_in frame (AwaitsTask n) = Awaits n
condition_in frame (WaitsAtCell mark offset) = WaitsAt (frame mark) offset

abbrev pub task_in : Sight → JobRow → ℕ → TaskRow → Task
task_in k row job r =
    let top = top_in k r in
    record {
      number = r.number;
      parents = parents_in k.tasks r.parent;
      critical = critical_by k.tasks r.critical (keyed (λ (p : TaskRow). p.slot) r.parent k.tasks);
      frames = frames_of r.number (frame_seen k.tasks job) (array_homed k.regs k.tasks row) (stack_of_row k r);
      segment = top.segment - 1;
      place = top.place;
      condition = condition_in (λ mark. frame_seen k.tasks job (place_seen k.regs row job mark)) r.state;
    }

-- a job's rows, the newest task first
abbrev pub insert_row : TaskRow → List TaskRow → List TaskRow
insert_row r [] = r ∷ []
insert_row r (q ∷ more) = if nat_lt q.number r.number then r ∷ q ∷ more else q ∷ insert_row r more

abbrev pub sorted : List TaskRow → List TaskRow
sorted [] = []
sorted (r ∷ more) = insert_row r (sorted more)

abbrev pub rows_of : List TaskRow → ℕ → List TaskRow
rows_of tasks job = sorted (filter (λ (r : TaskRow). r.job == job) tasks)

-- ---- arrays and segments

-- n numbers from an address up
abbrev pub numbers_seen : List Tagged → ℕ → ℕ → List ℕ
numbers_seen core at zero = []
numbers_seen core at (suc n) = (word_seen_at core at).bits ∷ numbers_seen core (at + 1) n

-- the numbers of an object whose descriptor says this: zeros, where it isn't in core
abbrev pub contents_by : List Tagged → ℕ → ℕ → Bool → List ℕ
contents_by core length address true = numbers_seen core address length
contents_by core length address false = replicate length zero

-- the array whose original stands at an address
abbrev pub array_shown : List Tagged → ℕ → ℕ → Bool → ℕ → Array
array_shown core identity owner writable home =
    let d = desc_in (word_seen_at core home) in
    record { identity = identity; owner = owner; writable = writable; numbers = contents_by core d.length d.address d.present }

-- the arrays of an activation record's cells, given from the top down, which stand above an address
abbrev pub arrays_in : List Tagged → ℕ → (ℕ → ℕ) → List Shape → List Array
arrays_in core owner array [] = []
arrays_in core owner array (Is w ∷ more) = arrays_in core owner array more
arrays_in core owner array (Copy c home ∷ more) = arrays_in core owner array more
arrays_in core owner array (Shapes.Original home ∷ more) = array_shown core (array home) owner true home ∷ arrays_in core owner array more

abbrev pub arrays_of : List Tagged → ℕ → (ℕ → ℕ) → List Activation → List Array
arrays_of core number array [] = []
arrays_of core number array (a ∷ below) = arrays_in core (named number (stack_words below + 1)) array a.cells ++ arrays_of core number array below

-- a job's first n data rows, the last one first
abbrev pub data_rows : List Tagged → ℕ → ℕ → List Array
data_rows core before zero = []
data_rows core before (suc n) = array_shown core (suc n) 1 false (before + suc n) ∷ data_rows core before n

-- the n segments whose descriptors stand from an address up
abbrev pub segments_from : List Tagged → ℕ → ℕ → List Segment
segments_from core at zero = []
segments_from core at (suc n) =
    let w = word_seen_at core at in
    record { level = 0; entries = []; code = contents_by core (bits_at w 20 20) (bits_at w 0 20) (is_set w 47) } ∷ segments_from core (at + 1) n

-- ---- jobs

-- the words of a dictionary of so many segments and data rows, from the top down
abbrev pub row_cells : ℕ → List Word
row_cells zero = []
row_cells (suc n) = Original (suc n) ∷ row_cells n

abbrev pub segment_cells : ℕ → List Word
segment_cells zero = []
segment_cells (suc n) = Words.Segment (suc n) ∷ segment_cells n

abbrev pub constants_in : Sight → JobRow → ℕ → JobConstants
constants_in k row job = record {
  number = job;
  stack_size = k.regs.stack_size;
  limit = row.limit;
  segments = segments_from k.core (row.dictionary + 2) row.segments;
  dictionary = record { identity = 1; standing = State.Entered 1 0 None; cells = row_cells row.rows ++ segment_cells row.segments };
}

-- no name is as great as that of a task that isn't born
abbrev pub job_seen : Sight → JobRow → ℕ → Job
job_seen k row job =
    let rows = rows_of k.tasks job in
    record {
      arrays = flat_map (λ (r : TaskRow). arrays_of k.core r.number (array_homed k.regs k.tasks row) (stack_of_row k r)) rows ++ data_rows k.core (row.dictionary + 1 + row.segments) row.rows;
      tasks = map (task_in k row job) rows;
      numbers = drop row.next_number row.numbers;
      next_task = row.next_task;
      next_frame = named (row.next_task + 1) 0;
      next_array = named (row.next_task + 1) 0;
    }

abbrev pub member_in : Sight → JobRow → ℕ → SessionJob
member_in k row job = record { constants = constants_in k row job; progress = record { job = job_seen k row job; made = row.made; ended = [] } }

abbrev pub members_from : Sight → ℕ → List JobRow → List SessionJob
members_from k job [] = []
members_from k job (row ∷ more) = member_in k row job ∷ members_from k (job + 1) more

-- the session
abbrev pub shown : Sight → Session
shown k = record {
  jobs = members_from k 1 k.jobs;
  made = k.counts.made;
  last = record { job = k.counts.last_job; task = k.counts.last_number };
  turn = k.counts.turn;
  switches = k.counts.switches;
  quantum = k.counts.quantum;
  peak = k.regs.peak;
}

-- ---- placement

abbrev pub dictionary_from : List JobRow → ℕ → ℕ → ℕ
dictionary_from [] job j = 0
dictionary_from (row ∷ more) job j = if j == job then row.dictionary else dictionary_from more (job + 1) j

abbrev pub segments_of : List JobRow → ℕ → ℕ → ℕ
segments_of [] job j = 0
segments_of (row ∷ more) job j = if j == job then row.segments else segments_of more (job + 1) j

abbrev pub slot_numbered : List TaskRow → ℕ → ℕ → ℕ
slot_numbered [] j number = 255
slot_numbered (r ∷ more) j number = if r.job == j then (if r.number == number then r.slot else slot_numbered more j number) else slot_numbered more j number

-- where an array's original stands, by its name
abbrev pub home_of : Sight → ℕ → ℕ → ℕ
home_of k j name =
    if nat_lt name (2 ^ 14) then dictionary_from k.jobs 1 j + 1 + segments_of k.jobs 1 j + name
    else k.regs.stacks + slot_numbered k.tasks j (name / 2 ^ 14) * k.regs.stack_size + name % 2 ^ 14

abbrev pub running_by : Option TaskRow → ℕ
running_by None = 255
running_by (Some r) = r.slot

abbrev pub placed : Sight → Placement
placed k = record {
  stacks = k.regs.stacks;
  size = k.regs.stack_size;
  peak = k.regs.peak;
  rows = map (λ (r : TaskRow). record { job = r.job; task = r.number; slot = r.slot }) k.tasks;
  running = k.regs.slot;
  dictionary = dictionary_from k.jobs 1;
  home = home_of k;
}

-- the numbers that core has of a job's array, zeros where it has none
abbrev pub numbers_read : List Tagged → (ℕ → ℕ) → ℕ → List ℕ
numbers_read core home n = let d = desc_in (word_seen_at core (home n)) in contents_by core d.length d.address d.present
