-- When a state is in order: what each word of a frame may name, and what tasks, jobs and the session keep.
-- Each item that speaks of a place of code takes what such a place must be as a parameter: `IsStart`, that an operator
-- stands there, gives the whole order, and `IsSegment`, that its segment is one of the job, gives the items that any
-- code words keep.
use Rattle.std.specs.Prelude.{◌≡◌, ◌≢◌, ◌↔◌, ℕ, ◌+◌, ◌-◌, ◌*◌, ◌^◌, ◌<◌, ◌≤◌, ◌==◌, Bool, false, nat_abs, List, [], ◌∷◌, ◌++◌, map, reverse, length, sum_by, Option, Some, None, IsTrue, if◌then◌else◌, slice_get}
use Rattle.std.specs.List.{AllByRecursion}
use Rattle.b67_word.specs.declared.couples.Place.{Place}
use Rattle.b67_model.specs.declared.operators.Op.{Op}
use Rattle.b67_model.specs.Keyed.{keyed}
use Rattle.b67_lemmas.specs.Lists.{Has, total, how_many, Falls}
use Rattle.b67_model.specs.Words as Words
use Rattle.b67_model.specs.Words.{Word, Operand, Name, Ref, Row, Element, Original, Proc, Intrinsic}
use Rattle.b67_model.specs.State.{Frame, Standing, Marked, Entered, Array, Condition, Ready, Awaits, WaitsAt, Task, Segment, JobConstants, Job, JobProgress, SessionJob, height}
use Rattle.b67_model.specs.Environment.{level_of_standing, level_of_frame, running}
use Rattle.b67_model.specs.Endings.{is_ready}
use Rattle.b67_model.specs.Loader.{listing, At}
use Rattle.b67_model.specs.Schedule.{Switch, Session}
use Rattle.b67_model.specs.Run.{live_tasks}
use Rattle.b67_model.specs.declared.limits.TheConstants.{LEAST_STACK, MOST_STACK, MOST_JOBS, MOST_PARTS, MOST_SEGMENT, MOST_ARRAY, MOST_LIMIT, MOST_TASKS}

-- what a place of a segment must be, for an activation of a level that goes on there
abbrev pub Starts : Type 1
Starts = (segment level : ℕ) → Place → Type 0

-- a segment of the job, and a place that fits the fields of a control word
pub record IsSegment (constants : JobConstants) (segment level : ℕ) (place : Place) : Type 0 where
  pub from_one : 0 < segment
  pub within : segment ≤ length constants.segments
  pub word_fits : place.word < 2 ^ 13
  pub syllable_fits : place.syllable < 2 ^ 3

-- a start of a segment at which an operator stands, and the segment's level
pub record IsStart (constants : JobConstants) (segment level : ℕ) (place : Place) : Type 0 where
  pub from_one : 0 < segment
  pub code : Segment
  pub found : slice_get constants.segments (segment - 1) ≡ Some code
  pub of_level : code.level ≡ level
  pub op : Op
  pub stands : Has (listing code.code) (At place op)

-- a frame's identity and how it stands: what others may name of it
abbrev pub Known : Type 0
Known = ℕ × Standing

abbrev pub known_of : Frame → Known
known_of f = (f.identity, f.standing)

-- the frames from this one down
abbrev pub from_frame : ℕ → List Frame → List Frame
from_frame identity [] = []
from_frame identity (f ∷ below) = if f.identity == identity then f ∷ below else from_frame identity below

abbrev pub frames_of_task : Option Task → List Frame
frames_of_task None = []
frames_of_task (Some t) = t.frames

abbrev pub critical_of : Option Task → ℕ
critical_of None = 0
critical_of (Some t) = t.critical

-- the job's dictionary and the MCP's frame
abbrev pub base : List Known
base = (1, Entered 1 0 None) ∷ (0, Entered 0 0 None) ∷ []

-- what is in reach of a task below its own frames: its parent's frames from the critical one down, and so on
abbrev pub outer_reach : Job → ℕ → List ℕ → List Known
outer_reach job critical [] = base
outer_reach job critical (parent ∷ more) =
    let t = keyed (λ t. t.number) parent job.tasks in
    map known_of (from_frame critical (frames_of_task t)) ++ outer_reach job (critical_of t) more

abbrev pub outer_of : Job → Task → List Known
outer_of job t = outer_reach job t.critical t.parents

abbrev pub reach_of : Job → Task → List Known
reach_of job t = map known_of t.frames ++ outer_of job t

abbrev pub known_numbers : List Known → List ℕ
known_numbers reach = map (λ (k : Known). k.0) reach

abbrev pub identities : List Frame → List ℕ
identities frames = map (λ f. f.identity) frames

abbrev pub IsEntered : Standing → Type 0
IsEntered Marked = ⊥
IsEntered (Entered level environment back) = Unit {0}

-- an entered frame in reach
pub record NamesEntered (reach : List Known) (identity : ℕ) : Type 0 where
  pub standing : Standing
  pub among : Has reach (identity, standing)
  pub entered : IsEntered standing

-- the array of a row or element copy. An index is tested where it is used
pub record NamesArray (arrays : List Array) (reach : List Known) (array : ℕ) : Type 0 where
  pub item : Array
  pub live : Has arrays item
  pub named : item.identity ≡ array
  pub owner : NamesEntered reach item.owner

-- the array of an original, in its owner
pub record OwnsArray (arrays : List Array) (owner array : ℕ) : Type 0 where
  pub item : Array
  pub live : Has arrays item
  pub named : item.identity ≡ array
  pub owned : item.owner ≡ owner

-- what a word in a frame may be, by what is in the frame's reach. Only a couple makes the offset of a reference
abbrev pub WordInOrder : Starts → List Array → List Known → ℕ → Word → Type 0
WordInOrder P arrays reach owner (Operand bits) = bits < 2 ^ 48
WordInOrder P arrays reach owner (Name couple) = couple < 2 ^ 14
WordInOrder P arrays reach owner (Ref identity offset) = NamesEntered reach identity × (offset < 2 ^ 12)
WordInOrder P arrays reach owner (Row array) = NamesArray arrays reach array
WordInOrder P arrays reach owner (Element array index) = NamesArray arrays reach array
WordInOrder P arrays reach owner (Original array) = OwnsArray arrays owner array
WordInOrder P arrays reach owner (Proc segment level place) = (level ≤ 31) × P segment level place
WordInOrder P arrays reach owner (Intrinsic number) = ⊥
WordInOrder P arrays reach owner (Words.Segment number) = ⊥

-- the environment of an entered frame: another entered frame in reach, of the level below
pub record EnvironmentInOrder (under : List Known) (level environment : ℕ) : Type 0 where
  pub low : 2 ≤ level
  pub high : level ≤ 31
  pub standing : Standing
  pub among : Has under (environment, standing)
  pub entered : IsEntered standing
  pub level_below : level_of_standing standing + 1 ≡ level

abbrev pub StandsInOrder : List Known → Standing → Type 0
StandsInOrder under Marked = Unit {0}
StandsInOrder under (Entered level environment back) = EnvironmentInOrder under level environment

-- a row or element copy of an array
abbrev pub is_copy_of : ℕ → Word → Bool
is_copy_of array (Row a) = a == array
is_copy_of array (Element a index) = a == array
is_copy_of array _ = false

-- copies stand above their original: none lies under it
abbrev pub NoCopyUnder : Word → List Word → Type 0
NoCopyUnder (Original array) below = how_many (is_copy_of array) below ≡ 0
NoCopyUnder _ below = Unit {0}

abbrev pub CopiesAbove : List Word → Type 0
CopiesAbove [] = Unit {0}
CopiesAbove (w ∷ below) = NoCopyUnder w below × CopiesAbove below

-- the cells of a frame from the top down
abbrev pub CellsInOrder : Starts → List Array → List Known → ℕ → List Word → Type 0
CellsInOrder P arrays reach owner cells = AllByRecursion (WordInOrder P arrays reach owner) cells × CopiesAbove cells

-- the frames of a task from the top down, each by what lies under it
abbrev pub FramesInOrder : Starts → List Array → List Known → List Frame → Type 0
FramesInOrder P arrays outer [] = Unit {0}
FramesInOrder P arrays outer (f ∷ below) =
    CellsInOrder P arrays (map known_of (f ∷ below) ++ outer) f.identity f.cells
    × StandsInOrder (map known_of below ++ outer) f.standing
    × FramesInOrder P arrays outer below

-- the last frame of the list is a task's bottom one, which is entered and which nothing returns from; all others that
-- are entered return to a place for the frame that runs below
abbrev pub ReturnsInOrder : Starts → Standing → List Frame → Type 0
ReturnsInOrder P Marked below = below ≢ []
ReturnsInOrder P (Entered level environment None) below = below ≡ []
ReturnsInOrder P (Entered level environment (Some back)) below =
    (below ≢ []) × P back.segment (level_of_frame (running below)) back.place

abbrev pub StackInOrder : Starts → List Frame → Type 0
StackInOrder P [] = Unit {0}
StackInOrder P (f ∷ below) = ReturnsInOrder P f.standing below × StackInOrder P below

-- a first task has number 1 and the MCP's frame, which nobody leaves, as its critical one; another's parent is live, was born before it, and has the critical frame
pub record ParentInOrder (job : Job) (t : Task) (number : ℕ) (above : List ℕ) : Type 0 where
  pub parent : Task
  pub found : keyed (λ t. t.number) number job.tasks ≡ Some parent
  pub line : parent.parents ≡ above
  pub older : number < t.number
  pub is_critical : Has (identities parent.frames) t.critical

abbrev pub BirthInOrder : Job → Task → List ℕ → Type 0
BirthInOrder job t [] = (t.number ≡ 1) × (t.critical ≡ 0)
BirthInOrder job t (parent ∷ above) = ParentInOrder job t parent above

-- a cell that is waited at lies in an entered frame of the task's reach
abbrev pub ConditionInOrder : List Known → Condition → Type 0
ConditionInOrder reach Ready = Unit {0}
ConditionInOrder reach (Awaits n) = Unit {0}
ConditionInOrder reach (WaitsAt frame offset) = NamesEntered reach frame × (offset < 2 ^ 12)

-- identities fall along a task's reach
pub record TaskInOrder (P : Starts) (constants : JobConstants) (job : Job) (t : Task) : Type 0 where
  pub frames : FramesInOrder P job.arrays (outer_of job t) t.frames
  pub returns : StackInOrder P t.frames
  pub some : t.frames ≢ []
  pub falls : Falls job.next_frame (known_numbers (reach_of job t))
  pub not_higher : height t.frames ≤ constants.stack_size
  pub place : P t.segment (level_of_frame (running t.frames)) t.place
  pub birth : BirthInOrder job t t.parents
  pub condition : ConditionInOrder (reach_of job t) t.condition

abbrev pub is_original_of : ℕ → Word → Bool
is_original_of array (Original a) = a == array
is_original_of array _ = false

-- the originals of an array in frames, in tasks, and in a whole job
abbrev pub originals_in : ℕ → List Frame → ℕ
originals_in array frames = total (λ (f : Frame). how_many (is_original_of array) f.cells) frames

abbrev pub originals_of : ℕ → JobConstants → Job → ℕ
originals_of array constants job =
    how_many (is_original_of array) constants.dictionary.cells + total (λ (t : Task). originals_in array t.frames) job.tasks

-- how many frames have an identity, in a list and in a whole job
abbrev pub frames_named : ℕ → List Frame → ℕ
frames_named identity frames = how_many (λ (f : Frame). f.identity == identity) frames

abbrev pub frames_in_job : ℕ → Job → ℕ
frames_in_job identity job = total (λ (t : Task). frames_named identity t.frames) job.tasks

pub record ArrayInOrder (a : Array) : Type 0 where
  pub length_low : 0 < length a.numbers
  pub length_high : length a.numbers < MOST_ARRAY + 1
  pub words : AllByRecursion (λ (n : ℕ). n < 2 ^ 48) a.numbers
  pub writes : (a.writable ≡ false) ↔ (a.owner ≡ 1)

-- the words of a dictionary: its segments, then the originals of its data rows
abbrev pub rows_after : ℕ → List Word → Type 0
rows_after n [] = Unit {0}
rows_after n (w ∷ more) = (w ≡ Original n) × rows_after (n + 1) more

abbrev pub DictionaryWords : ℕ → List Segment → List Word → Type 0
DictionaryWords n [] words = rows_after 1 words
DictionaryWords n (s ∷ more) [] = ⊥
DictionaryWords n (s ∷ more) (w ∷ words) = (w ≡ Words.Segment n) × DictionaryWords (n + 1) more words

pub record SegmentInOrder (s : Segment) : Type 0 where
  pub length_low : 0 < length s.code
  pub length_high : length s.code < MOST_SEGMENT + 1
  pub words : AllByRecursion (λ (n : ℕ). n < 2 ^ 48) s.code

pub record SettingInOrder (constants : JobConstants) : Type 0 where
  pub limit : constants.limit ≤ MOST_LIMIT
  pub stack_low : LEAST_STACK ≤ constants.stack_size
  pub stack_high : constants.stack_size < MOST_STACK + 1
  pub segments : AllByRecursion SegmentInOrder constants.segments
  pub entries : length constants.dictionary.cells ≤ MOST_PARTS
  pub named : constants.dictionary.identity ≡ 1
  pub stands : constants.dictionary.standing ≡ Entered 1 0 None
  pub dictionary : DictionaryWords 1 constants.segments (reverse constants.dictionary.cells)

-- a word of the dictionary: a segment, or the original of a live data row
abbrev pub EntryInOrder : List Array → Word → Type 0
EntryInOrder arrays (Operand bits) = ⊥
EntryInOrder arrays (Name couple) = ⊥
EntryInOrder arrays (Ref identity offset) = ⊥
EntryInOrder arrays (Row array) = ⊥
EntryInOrder arrays (Element array index) = ⊥
EntryInOrder arrays (Original array) = OwnsArray arrays 1 array
EntryInOrder arrays (Proc segment level place) = ⊥
EntryInOrder arrays (Intrinsic number) = ⊥
EntryInOrder arrays (Words.Segment number) = Unit {0}

-- a job's tasks and arrays, without its counts of operators. No two live frames have one identity, and each array has
-- one original
pub record TasksInOrder (P : Starts) (constants : JobConstants) (job : Job) : Type 0 where
  pub tasks : AllByRecursion (TaskInOrder P constants job) job.tasks
  pub apart : (identity : ℕ) → frames_in_job identity job ≤ 1
  pub arrays : AllByRecursion ArrayInOrder job.arrays
  pub once : AllByRecursion (λ (a : Array). originals_of a.identity constants job ≡ 1) job.arrays
  pub entries : AllByRecursion (EntryInOrder job.arrays) constants.dictionary.cells
  pub numbers : Falls job.next_task (map (λ t. t.number) job.tasks)
  pub names : Falls job.next_array (map (λ a. a.identity) job.arrays)
  pub few : length job.tasks ≤ MOST_TASKS
  pub reads : AllByRecursion (λ n. nat_abs n < 2 ^ 39) job.numbers

-- the counts of a job but for its limit, as they stand before a step's last item of endings too
pub record CountsInOrder (constants : JobConstants) (c : JobProgress) : Type 0 where
  pub next : c.job.next_task ≤ c.made + 2
  pub within : c.made ≤ constants.limit
  pub goes_on : c.job.tasks ≢ [] → (t : Task) × Has c.job.tasks t × IsTrue (is_ready t)

-- a job with live tasks has not reached its limit
abbrev pub BelowLimit : JobConstants → JobProgress → Type 0
BelowLimit constants c = c.job.tasks ≢ [] → c.made < constants.limit

pub record JobInOrder (P : Starts) (constants : JobConstants) (c : JobProgress) : Type 0 where
  pub unchanging : SettingInOrder constants
  pub tasks : TasksInOrder P constants c.job
  pub counts : CountsInOrder constants c
  pub below_limit : BelowLimit constants c

abbrev pub SwitchesRise : List Switch → Type 0
SwitchesRise [] = Unit {0}
SwitchesRise (a ∷ []) = Unit {0}
SwitchesRise (a ∷ b ∷ more) = (a.count < b.count) × SwitchesRise (b ∷ more)

-- jobs are numbered in order
abbrev pub NumberedFrom : ℕ → List SessionJob → Type 0
NumberedFrom n [] = Unit {0}
NumberedFrom n (m ∷ more) = (m.constants.number ≡ n) × NumberedFrom (n + 1) more

-- the whole session, by what a place must be in each job
pub record SessionInOrder (P : JobConstants → Starts) (s : Session) : Type 0 where
  pub few : length s.jobs ≤ MOST_JOBS
  pub numbered : NumberedFrom 1 s.jobs
  pub one_size : (stack : ℕ) × AllByRecursion (λ (m : SessionJob). m.constants.stack_size ≡ stack) s.jobs
  pub jobs : AllByRecursion (λ (m : SessionJob). JobInOrder (P m.constants) m.constants m.progress) s.jobs
  pub switches : SwitchesRise s.switches
  pub peak_low : live_tasks s.jobs ≤ s.peak
  pub peak_high : s.peak ≤ MOST_JOBS * MOST_TASKS
  pub counted : s.made ≡ sum_by (λ (m : SessionJob). m.progress.made) s.jobs
  pub turn : s.turn ≤ s.made

abbrev pub IsInOrder : Session → Type 0
IsInOrder s = SessionInOrder IsStart s

-- all but the items on places
abbrev pub IsInOrderButPlaces : Session → Type 0
IsInOrderButPlaces s = SessionInOrder IsSegment s
