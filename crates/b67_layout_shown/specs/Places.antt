-- Names by place: the same session where each activation record is named by its task's number and the displacement of its mark,
-- and each array that a task owns by those of its original. No core is spoken of.
use Rattle.std.specs.Prelude.{ℕ, zero, suc, ◌+◌, ◌*◌, ◌^◌, ◌==◌, List, [], ◌∷◌, map, length, Option, Some, None, if◌then◌else◌}
use Rattle.b67_model.specs.Words as Words
use Rattle.b67_model.specs.Common.{Word, Operand, Name, Ref, Row, Element, Original, Proc, Intrinsic, Standing, Marked, Entered, Frame, Array, Condition, Ready, Awaits, WaitsAt, Task, Job, head_words, height, array, is_original_of}

abbrev pub named : ℕ → ℕ → ℕ
named number disp = number * 2 ^ 14 + disp

abbrev pub or_else : Option ℕ → ℕ → ℕ
or_else None n = n
or_else (Some m) n = m

-- the name of an activation record among those of a task, and in a job; the dictionary's and the MCP's stay
abbrev pub name_under : ℕ → List Frame → ℕ → Option ℕ
name_under number [] identity = None
name_under number (f ∷ below) identity = if f.identity == identity then Some (named number (height below)) else name_under number below identity

abbrev pub name_among : List Task → ℕ → ℕ
name_among [] identity = if identity == 1 then 1 else 0
name_among (t ∷ more) identity = or_else (name_under t.number t.frames identity) (name_among more identity)

-- that of an array, by its original, whose displacement is told; a data row's stays
abbrev pub cell_of_original : ℕ → List Word → ℕ → Option ℕ
cell_of_original low [] array = None
cell_of_original low (w ∷ more) array = if is_original_of array w then Some (low + length more) else cell_of_original low more array

abbrev pub array_by : ℕ → Option ℕ → Option ℕ → Option ℕ
array_by number None deeper = deeper
array_by number (Some disp) deeper = Some (named number disp)

abbrev pub array_under : ℕ → List Frame → ℕ → Option ℕ
array_under number [] array = None
array_under number (f ∷ below) array = array_by number (cell_of_original (height below + head_words f.standing) f.cells array) (array_under number below array)

abbrev pub array_among : List Task → ℕ → ℕ
array_among [] array = array
array_among (t ∷ more) array = or_else (array_under t.number t.frames array) (array_among more array)

-- a word, a frame and a task by other names
abbrev pub word_by : (ℕ → ℕ) → (ℕ → ℕ) → Word → Word
word_by frame array (Operand bits) = Operand bits
word_by frame array (Name couple) = Name couple
word_by frame array (Ref identity offset) = Ref (frame identity) offset
word_by frame array (Row a) = Row (array a)
word_by frame array (Element a index) = Element (array a) index
word_by frame array (Original a) = Original (array a)
word_by frame array (Proc segment level place) = Proc segment level place
word_by frame array (Intrinsic number) = Intrinsic number
word_by frame array (Words.Segment number) = Words.Segment number

abbrev pub standing_by : (ℕ → ℕ) → Standing → Standing
standing_by frame Marked = Marked
standing_by frame (Entered level environment back) = Entered level (frame environment) back

abbrev pub frame_by : (ℕ → ℕ) → (ℕ → ℕ) → Frame → Frame
frame_by frame array f = record { identity = frame f.identity; standing = standing_by frame f.standing; cells = map (word_by frame array) f.cells }

abbrev pub condition_by : (ℕ → ℕ) → Condition → Condition
condition_by frame Ready = Ready
condition_by frame (Awaits n) = Awaits n
condition_by frame (WaitsAt identity offset) = WaitsAt (frame identity) offset

abbrev pub task_by : (ℕ → ℕ) → (ℕ → ℕ) → Task → Task
task_by frame array t = record t { critical = frame t.critical; frames = map (frame_by frame array) t.frames; condition = condition_by frame t.condition }

-- the identities of the arrays whose originals stand in cells, given from the top down; then those of a list
abbrev pub originals_from : List Word → List ℕ → List ℕ
originals_from [] more = more
originals_from (Operand bits ∷ cells) more = originals_from cells more
originals_from (Name couple ∷ cells) more = originals_from cells more
originals_from (Ref identity offset ∷ cells) more = originals_from cells more
originals_from (Row a ∷ cells) more = originals_from cells more
originals_from (Element a index ∷ cells) more = originals_from cells more
originals_from (Original a ∷ cells) more = a ∷ originals_from cells more
originals_from (Proc segment level place ∷ cells) more = originals_from cells more
originals_from (Intrinsic number ∷ cells) more = originals_from cells more
originals_from (Words.Segment number ∷ cells) more = originals_from cells more

-- in frames from the top down, and in tasks from the newest down
abbrev pub originals_under : List Frame → List ℕ → List ℕ
originals_under [] more = more
originals_under (f ∷ below) more = originals_from f.cells (originals_under below more)

abbrev pub originals_among : List Task → List ℕ → List ℕ
originals_among [] more = more
originals_among (t ∷ tasks) more = originals_under t.frames (originals_among tasks more)

-- data rows, the last one first
abbrev pub rows_down : ℕ → List ℕ
rows_down zero = []
rows_down (suc n) = suc n ∷ rows_down n

-- an array by other names, with other numbers
abbrev pub array_named : (ℕ → ℕ) → (ℕ → ℕ) → (ℕ → List ℕ) → Array → Array
array_named frame name numbers a = record { identity = name a.identity; owner = frame a.owner; writable = a.writable; numbers = numbers a.identity }

-- a job by its places, with these numbers in its arrays, of which the first ones are so many data rows
abbrev pub job_placed : ℕ → (ℕ → List ℕ) → Job → Job
job_placed rows numbers job = record {
  arrays = map (λ n. array_named (name_among job.tasks) (array_among job.tasks) numbers (array job n)) (originals_among job.tasks (rows_down rows));
  tasks = map (task_by (name_among job.tasks) (array_among job.tasks)) job.tasks;
  numbers = job.numbers;
  next_task = job.next_task;
  next_frame = named (job.next_task + 1) 0;
  next_array = named (job.next_task + 1) 0;
}
