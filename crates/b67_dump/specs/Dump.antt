-- The text of a dump: the live tasks of a session with their activation records, each with its cells. It names no address: an
-- activation record is named by its task and its place from the bottom up, an array by its owner and the offset of its original.
use Rattle.std.specs.Prelude.{ℕ, zero, suc, ◌+◌, ◌/◌, ◌%◌, ◌==◌, List, [], ◌∷◌, ◌++◌, length, flat_map, Option, Some, None, codes, decimal, if◌then◌else◌}
use Rattle.b67_word.specs.declared.couples.Place.{Place}
use Rattle.b67_io.specs.Line.{ended}
use Rattle.b67_model.specs.Lines.{task_name}
use Rattle.b67_model.specs.Keyed.{keyed}
use Rattle.b67_model.specs.Common.{Word, Operand, Name, Ref, Row, Element, Original, Proc, Frame, top, Standing, Marked, Entered, Array, Condition, Ready, Awaits, WaitsAt, Task, SessionJob, Session, from_frame, is_original_of}
use Rattle.b67_model_text.specs.Hex.{hex_char}

-- ---- parts of lines

-- two parts with a space between them
abbrev pub beside : List ℕ → List ℕ → List ℕ
beside a b = a ++ 32 ∷ b

-- so many hexadecimal digits of a number, in lower case
abbrev pub hex_number : ℕ → ℕ → List ℕ
hex_number zero n = []
hex_number (suc k) n = hex_number k (n / 16) ++ hex_char (n % 16) ∷ []

abbrev pub place_text : Place → List ℕ
place_text p = decimal p.word ++ codes ":" ++ decimal p.syllable

-- ---- names

-- an activation record of a live task, with all below it
pub record LiveRecord : Type 0 where
  pub task : ℕ
  pub down : List Frame

abbrev pub record_by : ℕ → List Frame → Option LiveRecord → Option LiveRecord
record_by number [] more = more
record_by number (f ∷ below) more = Some (record { task = number; down = f ∷ below })

abbrev pub record_among : List Task → ℕ → Option LiveRecord
record_among [] identity = None
record_among (t ∷ more) identity = record_by t.number (from_frame identity t.frames) (record_among more identity)

-- a record's number is that of the records from it down; what no live task has is the dictionary's or the MCP's
abbrev pub name_of_record : ℕ → ℕ → Option LiveRecord → List ℕ
name_of_record j identity None = if identity == 1 then beside (codes "DICT") (decimal j) else codes "MCP"
name_of_record j identity (Some r) = beside (task_name j r.task) (decimal (length r.down))

abbrev pub record_name : SessionJob → ℕ → List ℕ
record_name m identity = name_of_record m.constants.number identity (record_among m.progress.job.tasks identity)

abbrev pub cells_of_record : List Word → Option LiveRecord → List Word
cells_of_record dictionary None = dictionary
cells_of_record dictionary (Some r) = (top r.down).cells

-- the offset of an array's original: the lowest cell of a record has offset 2
abbrev pub offset_of_original : ℕ → List Word → ℕ
offset_of_original array [] = 0
offset_of_original array (w ∷ below) = if is_original_of array w then 2 + length below else offset_of_original array below

abbrev pub array_found : SessionJob → ℕ → Option Array
array_found m array = keyed (λ (a : Array). a.identity) array m.progress.job.arrays

abbrev pub name_of_array : SessionJob → Option Array → List ℕ
name_of_array m None = []
name_of_array m (Some a) =
    beside (record_name m a.owner) (decimal (offset_of_original a.identity (cells_of_record m.constants.dictionary.cells (record_among m.progress.job.tasks a.owner))))

abbrev pub array_name : SessionJob → ℕ → List ℕ
array_name m array = name_of_array m (array_found m array)

abbrev pub length_of_array : Option Array → ℕ
length_of_array None = 0
length_of_array (Some a) = length a.numbers

-- ---- lines

-- what a cell holds
abbrev pub cell_text : SessionJob → Word → List ℕ
cell_text m (Operand bits) = beside (codes "NUM") (hex_number 12 bits)
cell_text m (Name couple) = beside (codes "NAME") (hex_number 4 couple)
cell_text m (Ref frame offset) = beside (codes "REF") (beside (record_name m frame) (decimal offset))
cell_text m (Original array) = beside (codes "ARRAY") (decimal (length_of_array (array_found m array)))
cell_text m (Row array) = beside (codes "ROW") (array_name m array)
cell_text m (Element array index) = beside (codes "ELEMENT") (beside (array_name m array) (decimal index))
cell_text m (Proc segment level place) = beside (codes "PROC") (beside (decimal segment) (beside (place_text place) (decimal level)))
cell_text m _ = []

-- the cells of a record, the lowest one first
abbrev pub cells_text : SessionJob → List Word → List ℕ
cells_text m [] = []
cells_text m (w ∷ below) = cells_text m below ++ ended (beside (codes "CELL") (beside (decimal (2 + length below)) (cell_text m w)))

abbrev pub standing_text : SessionJob → Standing → List ℕ
standing_text m Marked = codes "MARKED"
standing_text m (Entered level environment back) = beside (codes "LEVEL") (beside (decimal level) (beside (codes "ENV") (record_name m environment)))

-- the records of a task, the bottom one first
abbrev pub records_text : SessionJob → List Frame → List ℕ
records_text m [] = []
records_text m (f ∷ below) =
    records_text m below ++ (ended (beside (codes "FRAME") (beside (decimal (length below + 1)) (standing_text m f.standing))) ++ cells_text m f.cells)

abbrev pub condition_text : SessionJob → Condition → List ℕ
condition_text m Ready = codes "READY"
condition_text m (Awaits n) = beside (codes "AWAITS") (decimal n)
condition_text m (WaitsAt frame offset) = beside (codes "WAITS") (beside (record_name m frame) (decimal offset))

abbrev pub task_text : SessionJob → Task → List ℕ
task_text m t =
    ended (beside (codes "TASK") (beside (task_name m.constants.number t.number) (beside (condition_text m t.condition) (beside (decimal t.segment) (place_text t.place)))))
    ++ records_text m t.frames

-- the oldest task first
abbrev pub tasks_text : SessionJob → List Task → List ℕ
tasks_text m [] = []
tasks_text m (t ∷ older) = tasks_text m older ++ task_text m t

-- the text of a dump
unfoldable pub dump_text : Session → List ℕ
dump_text s = flat_map (λ (m : SessionJob). tasks_text m m.progress.job.tasks) s.jobs
