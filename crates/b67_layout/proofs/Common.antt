-- The lemmas on the layout of core that others cite, passed on from one place. Declares nothing.
pub use Rattle.b67_layout.proofs.Alike.{Alike, AllAlike, outer_same, rows_alike}
pub use Rattle.b67_layout.proofs.Awaits.{RepresentsSession-condition, with_job-twice}
pub use Rattle.b67_layout.proofs.Cells.{cells_in_order}
pub use Rattle.b67_layout.proofs.CodeKinds.{code_kind}
pub use Rattle.b67_layout.proofs.Conditions.{Shows-condition}
pub use Rattle.b67_layout.proofs.Counted.{SameJobs, same_machine_view}
pub use Rattle.b67_layout.proofs.Counting.{not_more, slots_length, slots_of}
pub use Rattle.b67_layout.proofs.Differs.{differ_at}
pub use Rattle.b67_layout.proofs.Displays.{Shows-same, same_frame_at, same_running}
pub use Rattle.b67_layout.proofs.Frames.{height-is, level-is, size-is}
pub use Rattle.b67_layout.proofs.Fresh.{critical-below, free-uncritical, fresh, has-number, job_in_order, next_is_free, running_in_order}
pub use Rattle.b67_layout.proofs.Gone.{no_objects_gone}
pub use Rattle.b67_layout.proofs.LeftSettles.{all, base, homes_high, homes_low, numbered_course, stack_in_slot}
pub use Rattle.b67_layout.proofs.LiveRows.{jobs_differ, rows_live}
pub use Rattle.b67_layout.proofs.LiveTasks.{job_at, live_in_order}
pub use Rattle.b67_layout.proofs.MachineViews.{RowOf, member-other, member-same, with_course}
pub use Rattle.b67_layout.proofs.Members.{member_kept}
pub use Rattle.b67_layout.proofs.NamedFirst.{IsOnTop, elsewhere, high, live}
pub use Rattle.b67_layout.proofs.Objects.{Represents-objects, SameObjects, of_objects, others}
pub use Rattle.b67_layout.proofs.Originals.{InFrame, entry_number, lies_at, lies_over, original_of, original_word}
pub use Rattle.b67_layout.proofs.Others.{OnTop, activations-job, seen-mark}
pub use Rattle.b67_layout.proofs.Paged.{RepresentsSession-over}
pub use Rattle.b67_layout.proofs.PlainOperands.{plain_operand}
pub use Rattle.b67_layout.proofs.Replaces.{IsDependedOn, Replaces, task-other, task-same}
pub use Rattle.b67_layout.proofs.Rows.{TaskRow, finds, row_of, runs_on, slot_below, task_row}
pub use Rattle.b67_layout.proofs.Sessions.{SessionHoldsBut-after, change-has, change-kept, code_object, course_twice, dictionary_above, dictionary_below, entry_row, follow-up, for_running, running_only, words_enough}
pub use Rattle.b67_layout.proofs.Settles.{Settled-drop, Settled-more}
pub use Rattle.b67_layout.proofs.Starts.{meets_runs, runs_here, slot_is}
pub use Rattle.b67_layout.proofs.Steps.{GoesOn, IsFree, SessionHolds-mark, activations-with, critical-with, seen-with}
pub use Rattle.b67_layout.proofs.Tops.{SessionHolds-top, outer-same, still_running, task_on}
pub use Rattle.b67_layout.proofs.Weaker.{but_counts}
pub use Rattle.b67_layout.proofs.Whole.{RepresentsSession-cells, session_with, spots-with, task_with}
