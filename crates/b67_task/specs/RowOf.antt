-- The row of a task.
use Rattle.std.specs.Prelude.{◌≡◌, ℕ, List, Some, slice_get}
use Rattle.b67_lemmas.specs.Lists.{Has}
use Rattle.b67_model.specs.Common.{Task, SessionJob, Session}
use Rattle.b67_layout.specs.Placement.{Placement}
use Rattle.b67_layout.specs.Rows.{TaskShows}
use Rattle.b67_task.specs.declared.tables.TaskRow.{TaskRow}
use Rattle.b67_task.specs.Tables.{task_row}

-- the row at a place shows a live task
pub record IsRowOf (plan : Placement) (s : Session) (rows : List TaskRow) (at : ℕ) (m : SessionJob) (t : Task) : Type 0 where
  pub row : TaskRow
  pub there : slice_get rows at ≡ Some row
  pub member : Has s.jobs m
  pub task : Has m.progress.job.tasks t
  pub shows : TaskShows plan m t (task_row row)
