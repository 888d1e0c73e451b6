-- The definitions of the layout of core that others cite, passed on from one place. Declares nothing.
pub use Rattle.b67_layout.specs.Layout.{activations, array_object, code_objects, head, machine_view, objects_of, shape, slot_at, slot_by, slot_in, slot_with, stack_of_task}
pub use Rattle.b67_layout.specs.Meets.{FindsAbsent, ForEach, IsInStack, IsLiveCell, IsMade, TouchedIsPresent, IsTouched, MayChange, Meets, RunsSome, area_held, gone, here, objects_gone, with_job}
pub use Rattle.b67_layout.specs.Moved.{session_moved}
pub use Rattle.b67_layout.specs.Orders.{IsInOrderButCounts, JobInOrderButCounts}
pub use Rattle.b67_layout.specs.Peaks.{peak_with}
pub use Rattle.b67_layout.specs.Placement.{Placement, Slotted, address_of, base_of, base_spot, is_row_of, outer_spots, slot_of, spot_in, spots}
pub use Rattle.b67_layout.specs.Rows.{AwaitsTask, CountsShow, Differ, IsReady, JobCounts, JobRow, JobShows, JobsShow, RowState, RunningRow, TablesShow, TaskRow, TaskShows, WaitsAtCell, critical_disp, parent_slot, shown}
pub use Rattle.b67_layout.specs.Session.{DictionariesFollow, IsRunning, PlanFits, RepresentsCritical, RepresentsDictionary, RepresentsMcp, RepresentsSession, RepresentsSessionBut, RepresentsStorage, RepresentsTask, RepresentsVector, RowHomes, RowsFit, SessionHolds, SessionHoldsBut, ShowsDisplay, critical_mark, frame_address, vector_word, with_objects}
pub use Rattle.b67_layout.specs.Tops.{GivesTop, IsAt, IsWordOf, cells}
