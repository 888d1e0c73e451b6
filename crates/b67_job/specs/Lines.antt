-- The last lines of runs.
use Rattle.std.specs.Prelude.{ℕ, List, [], ◌++◌, codes, decimal}
use Rattle.b67_io.specs.Line.{ended}
use Rattle.b67_task.specs.declared.tables.Machine.{Machine}
use Rattle.b67_image.specs.Image.{image_text}
pub use Rattle.b67_job.specs.Told.{no_core_line, backing_full_line, backing_fault_line, memory_line, memory_text}
use Rattle.b67_job.specs.Told.{card_text}
use Rattle.b67_session_lines.specs.Stops.{halted_line}
use Rattle.b67_job.specs.declared.summaries.Exercise.{Exercise}
use Rattle.b67_job.specs.declared.summaries.Closing.{Closing}
use Rattle.b67_job.specs.declared.summaries.Closing.TheVariants as closings

-- the card of an image that is refused, and its reason
abbrev pub refused_image_line : ℕ → ℕ → List ℕ
refused_image_line card reason = card_text (codes "IMAGE ") card reason

-- an exercise, and the operators that it made
abbrev pub exercise_line : Exercise → ℕ → List ℕ
exercise_line e operators = codes "EXERCISE " ++ decimal e.seed ++ codes " " ++ decimal e.size ++ codes " " ++ decimal operators

-- what is printed after the lines of a run whose tasks have all ended, by the operators that it made: the line of an exercise, or
-- nothing
abbrev pub summary : Closing → ℕ → List ℕ
summary (closings.Exercise e) operators = ended (exercise_line e operators)
summary closings.Plain operators = []
summary closings.Image operators = []

-- what is printed after them where the run halts: the line of the halt, behind the image of its machine where one is asked for
abbrev pub halted_text : Closing → Machine → List ℕ
halted_text closings.Plain k = ended (halted_line k.tasks.made)
halted_text (closings.Exercise e) k = ended (halted_line k.tasks.made)
halted_text closings.Image k = image_text k ++ ended (halted_line k.tasks.made)
