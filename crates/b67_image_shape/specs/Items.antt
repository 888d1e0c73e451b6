-- The facts of a machine that together say that it represents what it shows: ten groups, which can be decided one after the other,
-- each by those before it.
use Rattle.std.specs.Prelude.{◌≡◌, ◌≢◌, ℕ, suc, ◌+◌, ◌*◌, ◌<◌, ◌⊎◌, List, length, Some}
use Rattle.std.specs.List.{AllByRecursion, slice_get}
use Rattle.b67_ctl.specs.Layout.{toscw_word}
use Rattle.b67_lemmas.specs.Lists.{Has, Falls}
use Rattle.b67_area.specs.declared.Info.{Info}
use Rattle.b67_area.specs.declared.Kind.{Kind}
use Rattle.b67_area.specs.declared.Kind.TheVariants as kind
use Rattle.b67_area.specs.Spans.{area_at}
use Rattle.b67_area.specs.Directory.{IsDirectory}
use Rattle.b67_backing.specs.Shelf.{Shelf, IsShelf, chain_of}
use Rattle.b67_backing.specs.Held.{sectors_for}
use Rattle.b67_model.specs.Common.{Task, SessionJob, IsSegment, level_of_frame, running, ArrayInOrder, FramesInOrder, StackInOrder, BirthInOrder, ConditionInOrder, known_numbers, outer_of, reach_of}
use Rattle.b67_model.specs.InOrder.{SegmentInOrder}
use Rattle.b67_stack.specs.Common.{Locations, Activation, IsStack, words, toscw_of, PagedObject, LieDownward, LieUpward, Fits, object_words, home_word, RepresentsRunning}
use Rattle.b67_layout.specs.Common.{TaskRow, JobRow, critical_disp, IsRunning, ShowsDisplay}
use Rattle.b67_layout.specs.Rows as rows
use Rattle.b67_layout.specs.Layout.{stack_of_task}
use Rattle.b67_task.specs.declared.tables.Machine.{Machine}
use Rattle.b67_layout_shown.specs.Shown.{Sight, stack_of_row, constants_in, job_seen, task_in, shown, placed}
use Rattle.b67_layout_shown.specs.Machines.{sight_of}
use Rattle.b67_image_shape.specs.TableFacts.{EachJob, TableFacts}
use Rattle.b67_image_shape.specs.FixedWords.{FixedFacts, CriticalMarks}
use Rattle.b67_image_shape.specs.Held.{view_in, view_of, held_of, spans_of}

-- each live task, by its job's row, its job's number and its own row
abbrev pub EachTask : Sight → (JobRow → ℕ → TaskRow → Type 0) → Type 0
EachTask k P = EachJob (λ job row. (r : TaskRow) → Has k.tasks r → r.job ≡ job → P row job r) 1 k.jobs

-- ---- 3 stacks

abbrev pub base_at : Sight → TaskRow → ℕ
base_at k r = k.regs.stacks + r.slot * k.regs.stack_size

-- where the top is, by the registers or by the word at the base
pub record TopFacts (k : Sight) (r : TaskRow) (stack : List Activation) : Type 0 where
  pub runs : r.slot ≡ k.regs.slot → RepresentsRunning k.regs (view_in k) r.slot stack
  pub waits : r.slot ≢ k.regs.slot → slice_get k.core (base_at k r) ≡ Some (toscw_word (toscw_of stack))

-- the words are those of what is read of them, and all places are of segments of the job
pub record StackFactsBy (held : Locations) (k : Sight) (row : JobRow) (job : ℕ) (r : TaskRow) : Type 0 where
  pub fits : IsStack k.regs.stack_size (stack_of_row k r)
  pub top : TopFacts k r (stack_of_row k r)
  pub lie : LieDownward (Fits held) k.core (suc (base_at k r)) (words r.slot (stack_of_row k r))
  pub returns : StackInOrder (IsSegment (constants_in k row job)) (task_in k row job r).frames
  pub place : IsSegment (constants_in k row job) (task_in k row job r).segment (level_of_frame (running (task_in k row job r).frames)) (task_in k row job r).place

-- if each array is held as the view's is
abbrev pub StackFacts : Sight → JobRow → ℕ → TaskRow → Type 0
StackFacts k = StackFactsBy (held_of k) k

-- ---- 4 reach, 5 cells

-- what is named is in reach
pub record ReachFacts (k : Sight) (row : JobRow) (job : ℕ) (r : TaskRow) : Type 0 where
  pub falls : Falls (job_seen k row job).next_frame (known_numbers (reach_of (job_seen k row job) (task_in k row job r)))
  pub birth : BirthInOrder (job_seen k row job) (task_in k row job r) (task_in k row job r).parents
  pub condition : ConditionInOrder (reach_of (job_seen k row job) (task_in k row job r)) (task_in k row job r).condition
  pub state : r.state ≡ rows.shown (placed k) job (job_seen k row job) (task_in k row job r) (task_in k row job r).condition
  pub critical : r.critical ≡ critical_disp (placed k) job (job_seen k row job) (task_in k row job r).critical (task_in k row job r).parents

-- each cell and each static link is in order, and the stack that is shown is the one that was read
pub record CellFacts (k : Sight) (row : JobRow) (job : ℕ) (r : TaskRow) : Type 0 where
  pub frames : FramesInOrder (IsSegment (constants_in k row job)) (job_seen k row job).arrays (outer_of (job_seen k row job) (task_in k row job r)) (task_in k row job r).frames
  pub same : stack_of_task (placed k) job (job_seen k row job) r.slot (task_in k row job r) ≡ stack_of_row k r

-- ---- 6 display

abbrev pub DisplayFacts : Sight → List ℕ → Type 0
DisplayFacts k display = (m : SessionJob) (t : Task) → IsRunning (placed k) (shown k).jobs m t → ShowsDisplay display (placed k) m t

-- ---- 8 objects

-- an object's descriptor, and its words where it is present
pub record ObjectFacts (k : Sight) (t : PagedObject) : Type 0 where
  pub home : slice_get k.core t.home ≡ Some (home_word t (held_of k t.home))
  pub words : (at : ℕ) → (held_of k t.home).area ≡ Some at → LieUpward k.core at (object_words t)

pub record JobObjectFacts (k : Sight) (job : ℕ) (row : JobRow) : Type 0 where
  pub arrays : AllByRecursion ArrayInOrder (job_seen k row job).arrays
  pub segments : AllByRecursion SegmentInOrder (constants_in k row job).segments

pub record ObjectsFacts (k : Sight) : Type 0 where
  pub jobs : EachJob (JobObjectFacts k) 1 k.jobs
  pub objects : (t : PagedObject) → Has (view_in k).objects t → ObjectFacts k t

-- ---- 9 areas

-- what head and tail of an object's area say
abbrev pub info_seen : Sight → PagedObject → Info
info_seen k t = record { kind = t.kind; words = length t.numbers; owner = t.home; kept = (held_of k t.home).chain }

-- each area is that of one object, and each present object has one
pub record AreaFacts (k : Sight) (low : ℕ) : Type 0 where
  pub directory : IsDirectory k.core low (spans_of k.core low)
  pub owned : (at : ℕ) (a : Info) → area_at low (spans_of k.core low) at ≡ Some a
      → (t : PagedObject) × Has (view_in k).objects t × ((held_of k t.home).area ≡ Some at) × (a ≡ info_seen k t)
  pub present : (t : PagedObject) (at : ℕ) → Has (view_in k).objects t → (held_of k t.home).area ≡ Some at → area_at low (spans_of k.core low) at ≡ Some (info_seen k t)

-- ---- 10 chains

abbrev pub HasChainSectors : Shelf → PagedObject → ℕ → Type 0
HasChainSectors shelf t first = (0 < first) × (length (chain_of first shelf.chains) ≡ sectors_for (length t.numbers))

-- an array may have no chain if it is present, or if it was never touched
abbrev pub Chained : Shelf → PagedObject → Kind → ℕ → Type 0
Chained shelf t kind.Array first = (first ≡ 0) ⊎ HasChainSectors shelf t first
Chained shelf t kind.Row first = HasChainSectors shelf t first
Chained shelf t kind.Code first = HasChainSectors shelf t first

pub record ChainFacts (k : Machine) : Type 0 where
  pub shelf : Shelf
  pub is : IsShelf k.sectors shelf
  pub each : (t : PagedObject) → Has (view_of k).objects t → Chained shelf t t.kind (held_of (sight_of k) t.home).chain
  pub owned : (first : ℕ) → 0 < length (chain_of first shelf.chains) → (t : PagedObject) × Has (view_of k).objects t × ((held_of (sight_of k) t.home).chain ≡ first)
  pub once : (t u : PagedObject) → Has (view_of k).objects t → Has (view_of k).objects u → 0 < (held_of (sight_of k) t.home).chain
      → (held_of (sight_of k) t.home).chain ≡ (held_of (sight_of k) u.home).chain → t.home ≡ u.home

-- ---- all of them

pub record ShownItems (k : Machine) : Type 0 where
  pub tables : TableFacts (sight_of k)
  pub fixed : FixedFacts (sight_of k) k.areas.low k.areas.size
  pub stacks : EachTask (sight_of k) (StackFacts (sight_of k))
  pub reach : EachTask (sight_of k) (ReachFacts (sight_of k))
  pub cells : EachTask (sight_of k) (CellFacts (sight_of k))
  pub display : DisplayFacts (sight_of k) k.cpu.display
  pub critical : CriticalMarks k.cpu.critical (sight_of k).tasks
  pub objects : ObjectsFacts (sight_of k)
  pub areas : AreaFacts (sight_of k) k.areas.low
  pub chains : ChainFacts k
