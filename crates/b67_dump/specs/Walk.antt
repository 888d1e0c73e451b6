-- The text of a dump as it is read off a machine: marks are walked down, and places and addresses go back to records.
use Rattle.std.specs.Prelude.{ℕ, zero, suc, ◌+◌, ◌-◌, ◌*◌, ◌/◌, ◌%◌, ◌^◌, ◌==◌, nat_lt, nat_le, List, [], ◌∷◌, ◌++◌, length, Option, Some, None, codes, decimal, if◌then◌else◌}
use Rattle.b67_word.specs.Tagged.{Tagged, bits_at}
use Rattle.b67_ctl.specs.declared.map.TheConstants.{DICTIONARY_STACKS, SLOTS}
use Rattle.b67_io.specs.Line.{ended}
use Rattle.b67_model.specs.Lines.{task_name}
use Rattle.b67_model.specs.Keyed.{keyed}
use Rattle.b67_model.specs.Words as Words
use Rattle.b67_model.specs.Common.{Word, Operand, Name, Ref, Row, Element, Original, Proc, Intrinsic}
use Rattle.b67_stack.specs.Common.{Shape, StackPlace, Head, Marked, Entered, Activation}
use Rattle.b67_layout.specs.Common.{RowState, IsReady, AwaitsTask, WaitsAtCell, TaskRow, JobRow}
use Rattle.b67_layout_shown.specs.Reading.{word_seen_at, is_set, desc_in}
use Rattle.b67_layout_shown.specs.Shown.{Sight, number_seen, place_seen, word_seen, top_in, stack_of_row, rows_of}
use Rattle.b67_dump.specs.Dump.{beside, hex_number, place_text}

-- ---- marks

-- by how far below the next mark stands, 0 for none
abbrev pub marks_by : ℕ → (ℕ → List ℕ) → List ℕ
marks_by zero below = []
marks_by (suc d) below = below (suc d)

-- the addresses of marks from one down, at most n
unfoldable pub marks_in : List Tagged → ℕ → ℕ → List ℕ
marks_in core zero f = []
marks_in core (suc n) f = f ∷ marks_by (bits_at (word_seen_at core f) 0 14) (λ d. marks_in core n (f - d))

-- those from the one down at or above which an address lies
abbrev pub marks_under : ℕ → List ℕ → List ℕ
marks_under home [] = []
marks_under home (f ∷ below) = if nat_le f home then f ∷ below else marks_under home below

-- ---- names

-- the word under the stack of a slot
abbrev pub slot_start : Sight → ℕ → ℕ
slot_start k slot = k.regs.stacks + slot * k.regs.stack_size

-- the record whose mark stands at a place, seen from a job
abbrev pub record_at : Sight → ℕ → StackPlace → List ℕ
record_at k job p =
    if nat_lt p.stack SLOTS then beside (task_name job (number_seen k.tasks p.stack)) (decimal (length (marks_in k.core k.regs.stack_size (slot_start k p.stack + p.disp))))
    else (if p.stack == DICTIONARY_STACKS + job then beside (codes "DICT") (decimal job) else codes "MCP")

-- the topmost mark of the task in a slot
abbrev pub top_mark_by : Sight → Option TaskRow → ℕ
top_mark_by k None = 0
top_mark_by k (Some r) = (top_in k r).f

abbrev pub top_mark_in : Sight → ℕ → ℕ
top_mark_in k slot = top_mark_by k (keyed (λ (r : TaskRow). r.slot) slot k.tasks)

-- the offset of an address from the nearest mark: the first cell has offset 2, behind a mark alone or a mark and a return
abbrev pub offset_from : List Tagged → ℕ → List ℕ → ℕ
offset_from core home [] = 0
offset_from core home (f ∷ below) = if is_set (word_seen_at core f) 46 then home - f else home - f + 1

abbrev pub owner_text : Sight → ℕ → ℕ → ℕ → List ℕ → List ℕ
owner_text k job slot home marks = beside (beside (task_name job (number_seen k.tasks slot)) (decimal (length marks))) (decimal (offset_from k.core home marks))

-- the array whose original stands at an address
abbrev pub array_at_home : Sight → JobRow → ℕ → ℕ → List ℕ
array_at_home k row job home =
    if nat_lt home k.regs.stacks then beside (beside (codes "DICT") (decimal job)) (decimal (home - row.dictionary))
    else
    (let slot = (home - k.regs.stacks) / k.regs.stack_size in
    owner_text k job slot home (marks_under home (marks_in k.core k.regs.stack_size (top_mark_in k slot))))

-- ---- lines

-- a place as a number, and back
abbrev pub number_of_place : StackPlace → ℕ
number_of_place p = p.stack * 2 ^ 16 + p.disp

abbrev pub place_of_number : ℕ → StackPlace
place_of_number n = record { stack = n / 2 ^ 16; disp = n % 2 ^ 16 }

-- what a word holds, in which places represent records, and addresses of originals for arrays
abbrev pub word_text : Sight → JobRow → ℕ → Word → List ℕ
word_text k row job (Operand bits) = beside (codes "NUM") (hex_number 12 bits)
word_text k row job (Name couple) = beside (codes "NAME") (hex_number 4 couple)
word_text k row job (Ref place offset) = beside (codes "REF") (beside (record_at k job (place_of_number place)) (decimal offset))
word_text k row job (Original home) = beside (codes "ARRAY") (decimal (desc_in (word_seen_at k.core home)).length)
word_text k row job (Row home) = beside (codes "ROW") (array_at_home k row job home)
word_text k row job (Element home index) = beside (codes "ELEMENT") (beside (array_at_home k row job home) (decimal index))
word_text k row job (Proc segment level place) = beside (codes "PROC") (beside (decimal segment) (beside (place_text place) (decimal level)))
word_text k row job (Intrinsic number) = []
word_text k row job (Words.Segment number) = []

abbrev pub shape_text : Sight → JobRow → ℕ → Shape → List ℕ
shape_text k row job w = word_text k row job (word_seen number_of_place (λ home. home) w)

-- cells, the lowest one first
abbrev pub shapes_text : Sight → JobRow → ℕ → List Shape → List ℕ
shapes_text k row job [] = []
shapes_text k row job (w ∷ below) = shapes_text k row job below ++ ended (beside (codes "CELL") (beside (decimal (2 + length below)) (shape_text k row job w)))

abbrev pub head_text : Sight → ℕ → Head → List ℕ
head_text k job Marked = codes "MARKED"
head_text k job (Entered level environment back) = beside (codes "LEVEL") (beside (decimal level) (beside (codes "ENV") (record_at k job environment)))

-- records, the bottom one first
abbrev pub activations_text : Sight → JobRow → ℕ → List Activation → List ℕ
activations_text k row job [] = []
activations_text k row job (a ∷ below) =
    activations_text k row job below ++ (ended (beside (codes "FRAME") (beside (decimal (length below + 1)) (head_text k job a.head))) ++ shapes_text k row job a.cells)

abbrev pub state_text : Sight → JobRow → ℕ → RowState → List ℕ
state_text k row job IsReady = codes "READY"
state_text k row job (AwaitsTask n) = beside (codes "AWAITS") (decimal n)
state_text k row job (WaitsAtCell mark offset) = beside (codes "WAITS") (beside (record_at k job (place_seen k.regs row job mark)) (decimal offset))

abbrev pub row_dump : Sight → JobRow → ℕ → TaskRow → List ℕ
row_dump k row job r =
    let top = top_in k r in
    ended (beside (codes "TASK") (beside (task_name job r.number) (beside (state_text k row job r.state) (beside (decimal (top.segment - 1)) (place_text top.place)))))
    ++ activations_text k row job (stack_of_row k r)

-- the oldest task first
abbrev pub rows_dump : Sight → JobRow → ℕ → List TaskRow → List ℕ
rows_dump k row job [] = []
rows_dump k row job (r ∷ older) = rows_dump k row job older ++ row_dump k row job r

abbrev pub jobs_dump : Sight → ℕ → List JobRow → List ℕ
jobs_dump k job [] = []
jobs_dump k job (row ∷ more) = rows_dump k row job (rows_of k.tasks job) ++ jobs_dump k (job + 1) more

unfoldable pub walk_text : Sight → List ℕ
walk_text k = jobs_dump k 1 k.jobs
