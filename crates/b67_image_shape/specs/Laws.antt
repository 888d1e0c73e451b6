-- What the tests tell.
use Rattle.std.specs.Prelude.{◌≡◌, ℕ, ◌-◌, ◌^◌, ◌<◌, List, Some, slice_get}
use Rattle.b67_lemmas.specs.Lists.{Has}
use Rattle.b67_layout.specs.Common.{spots}
use Rattle.b67_layout.specs.Rows.{TaskRow, JobRow}
use Rattle.b67_layout.specs.Session.{RowsFit}
use Rattle.b67_task.specs.declared.tables.Machine.{Machine}
use Rattle.b67_layout_shown.specs.Shown.{Sight, frame_seen, task_in, job_seen, shown, placed}
use Rattle.b67_layout_shown.specs.Seen.{Seen, seen_by}
use Rattle.b67_layout_shown.specs.Machines.{sight_of, RepresentsShown}
use Rattle.b67_image_shape.specs.Deciding.{Decides}
use Rattle.b67_image_shape.specs.TableFacts.{TableFacts}
use Rattle.b67_image_shape.specs.TableTests.{tables_test}
use Rattle.b67_image_shape.specs.FixedWords.{FixedFacts, CriticalMarks}
use Rattle.b67_image_shape.specs.Items.{EachTask, StackFacts, ReachFacts, CellFacts, ObjectsFacts, AreaFacts, ChainFacts, ShownItems}
use Rattle.b67_image_shape.specs.FixedTests.{fixed_test, critical_test}

-- the tables pass exactly if they are as they should be
abbrev pub TablesAreTested : Type 0
TablesAreTested = (k : Sight) → Decides (tables_test k) (TableFacts k)

-- so do the words that the tables tell, and the greatest critical displacements
abbrev pub FixedWordsAreTested : Type 0
FixedWordsAreTested = (k : Sight) (low size : ℕ) → Decides (fixed_test k low size) (FixedFacts k low size)

abbrev pub CriticalMarksAreTested : Type 0
CriticalMarksAreTested = (critical : List ℕ) (tasks : List TaskRow) → Decides (critical_test critical tasks) (CriticalMarks critical tasks)

-- a machine represents what it shows exactly if it has all the items
abbrev pub ItemsAreExact : Type 0
ItemsAreExact = (k : Machine) → (RepresentsShown k → ShownItems k) × (ShownItems k → RepresentsShown k)
