-- The text of the lines of endings.
use Rattle.std.specs.Prelude.{ℕ, List, map}
use Rattle.b67_word.specs.declared.faults.Ending.{Ending}
use Rattle.b67_model.specs.Common.{run_text, RunLine, of_job, Ends}

-- the lines of how tasks of a job ended, by their numbers
abbrev pub ending_lines : ℕ → List (ℕ × Ending) → List RunLine
ending_lines job endings = of_job job (map (λ (e : ℕ × Ending). (e.0, Ends e.1)) endings)

abbrev pub endings_text : ℕ → List (ℕ × Ending) → List ℕ
endings_text job endings = run_text (ending_lines job endings)
