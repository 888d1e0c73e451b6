-- The definitions of the model that others cite, passed on from one place. Declares nothing.
pub use Rattle.b67_model.specs.Alone.{JobMoment, alone_lines, by_task, moment_with, up_to_deadlock}
unfoldable pub use Rattle.b67_model.specs.Alone.{step_of}
pub use Rattle.b67_model.specs.Answers.{Answer, needs, ◌>>=◌, ◌>>◌}
pub use Rattle.b67_model.specs.Apart.{JobsApart, lines_of_job, makers_from, tasks_of_job}
pub use Rattle.b67_model.specs.Arithmetic.{Binary, add, brst, bset, chsn, compared, divided, equl, greq, grtr, idiv, insr, isol, land, leqv, less, lnot, lor, lseq, mult, neql, on_numbers, ones, rdiv, same, subt}
pub use Rattle.b67_model.specs.Arrays.{all_zero, array, element, no_array, owner_of, resized, with_array, with_element, with_number}
pub use Rattle.b67_model.specs.Called.{called, called_at, called_by, called_on}
pub use Rattle.b67_model.specs.Cells.{cell, cell_of, first_offset, named, place_of, with_cell, with_cell_of}
pub use Rattle.b67_model.specs.Chase.{AtArray, AtCell, AtElement, AtIntrinsic, AtProc, Chain, ChaseIsRelation, ComesTo, End, Leads, Link, Path, Stops, chase, chase_on, element_end, ends, follow, follow_reference, further, here, last, link, link_at, link_from, link_in, loops, onward}
pub use Rattle.b67_model.specs.Encoding.{IsLaid, ReadsBack, after_literal, has_bits, literal, syllable_after, syllable_of, syllables, target_bits, with_16}
pub use Rattle.b67_model.specs.Endings.{Settled, Stepped, all_with, among, at_depth, deadlocked, deepest_below, deepest_first, descendants, ends_all, ends_each_if, ends_task, ends_with, is_owned_by, is_ready, limited, released, settles, step_lines, unsettled}
unfoldable pub use Rattle.b67_model.specs.Endings.{stepped}
pub use Rattle.b67_model.specs.Entry.{accident, back_to, enters, evaluates, exit, leaves, left, mkst, needs_level, retn, retn_word, returnable, returned}
pub use Rattle.b67_model.specs.Environment.{environment_of, frame_at, level_of_frame, level_of_standing, outward, running, running_from, running_level}
pub use Rattle.b67_model.specs.InOrder.{ArrayInOrder, BelowLimit, BirthInOrder, CellsInOrder, ConditionInOrder, CopiesAbove, CountsInOrder, DictionaryWords, EntryInOrder, EnvironmentInOrder, FramesInOrder, IsEntered, IsInOrder, IsInOrderButPlaces, IsSegment, IsStart, JobInOrder, Known, NamesArray, NamesEntered, NoCopyUnder, NumberedFrom, OwnsArray, ParentInOrder, ReturnsInOrder, SegmentInOrder, SessionInOrder, SettingInOrder, StackInOrder, StandsInOrder, Starts, SwitchesRise, TaskInOrder, TasksInOrder, WordInOrder, base, critical_of, frames_in_job, frames_named, frames_of_task, from_frame, identities, is_copy_of, is_original_of, known_numbers, known_of, originals_in, originals_of, outer_of, outer_reach, reach_of, rows_after}
pub use Rattle.b67_model.specs.Indexing.{array_at, array_of, in_order, index_below, indexed}
pub use Rattle.b67_model.specs.Intrinsics.{Call, answered, answers, array_length, arraydec, await, awaits, call_in, calls, cause, causes, child_of, deallocate, intrinsic, is_live, is_original, names_task, needs_free, needs_writable, numbers_of, print, printrow, process, read, read_from, resize, resizes, row_copy, starts, status, status_in, status_of, wait, waits_at, wakes, woken_at}
pub use Rattle.b67_model.specs.Lines.{ending_name, halted_line, line_text, row_text, run_text, task_name, value_text}
pub use Rattle.b67_model.specs.Loader.{At, Break, Entry, IsAdmitted, Listed, Refusal, breaks_rule_8, broken_at, broken_in, comes_before, couple_bits, entries_from, first_of, has_stray_bits, holds_at, holds_of, is_last, is_outside, is_start, listing, may_be_last, may_begin_at, named_level, named_segment, origin, place_of_entry, proc_bits, refusals, refusals_from, refusals_of, refused, same_place, stands_before, target_of, wrong_entries}
pub use Rattle.b67_model.specs.Need.{NextFits, StepsFit, area_of, fixed, need, need_at_opening, need_by, need_next, need_of_job, started_by, touched_at_mark, touched_before_fault, touched_by_call, touched_of}
pub use Rattle.b67_model.specs.Operators.{Alone, Form, Literal, OneMore, Reading, TwoMore, branch, count_at, ends_at, form_in, form_of, operator_at, operators, place_at, place_of_bits, reads, syllable}
pub use Rattle.b67_model.specs.Program.{Opening, Program, opened, opened_from, opening, originals, row_arrays, segment_words}
pub use Rattle.b67_model.specs.Rows.{CellRow, Class, Idle, OnCells, OnOne, OnTwo, Own, Pushes, branch_if, branches, by_class, class, code_of, dlet, dupl, entr, entr_at, entr_with, exch, indx, is_proc, load, load_at, movable, mpcw, nxlv, on_cells, on_one, on_two, plain, proc_of, reading_of, row, step_by, stff, stff_word, store, store_at, valc}
unfoldable pub use Rattle.b67_model.specs.Rows.{step}
pub use Rattle.b67_model.specs.Run.{IsBeforeHalt, IsWithinHalt, Run, RunLine, StepResult, after, after_from, lines, lines_from, live_after, live_tasks, moment_by, moment_for, of_job, start, with_moment}
unfoldable pub use Rattle.b67_model.specs.Run.{next}
pub use Rattle.b67_model.specs.Schedule.{Choice, IsNext, Session, Switch, Who, afresh, choice, choice_by, first, is_before, is_same, next_after, ready, ready_of, switched, with_job}
pub use Rattle.b67_model.specs.Sectors.{Lengthens, TakesSectors, sectors, sectors_for, sectors_of}
pub use Rattle.b67_model.specs.State.{Array, Awaits, Condition, Entered, Frame, Job, JobConstants, JobProgress, Marked, OperatorContext, Ready, Return, Segment, SessionJob, Standing, Task, WaitsAt, all_frames, below_top, frame, head_words, height, mcp, no_frame, number_of, top, with_task, with_top_cells, words_of}
pub use Rattle.b67_model.specs.Steps.{Done, Ends, Goes, Leaves, Line, Value, Values, Waits, cells_of, is_critical, leaves_cells, pushes, result, top_of, with_cells, with_frames, without_arrays_of}
pub use Rattle.b67_model.specs.Words.{Element, Intrinsic, Name, Operand, Original, Proc, Ref, Row, Word, number, operand, to_operand, truth}
