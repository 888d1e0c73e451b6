-- A step prints in two parts: its text with the lines of the endings but LIMIT's, before the session changes; and LIMIT's
-- lines, once the rest of the step is made and counted. What is due next to be printed.
use Rattle.std.specs.Prelude.{◌≡◌, ℕ, ◌==◌, ◌&&◌, Bool, true, false, List, [], ◌∷◌, ◌++◌, map, Option, Some, None}
use Rattle.std.specs.Option.{option_or}
use Rattle.b67_word.specs.declared.faults.Ending.TheVariants.{Limit}
use Rattle.b67_model.specs.Keyed.{keyed, change_keyed}
use Rattle.b67_model.specs.Common.{Task, SessionJob, Ends, ends_each_if, unsettled, up_to_deadlock, Session, Choice, choice, StepResult, number_of, of_job, with_moment, next, run_text}

-- ---- the first part

abbrev pub first_part_of : Session → Choice → SessionJob → Option Task → Option StepResult
first_part_of s c m None = None
first_part_of s c m (Some task) =
    let made = up_to_deadlock m.constants m.progress task in
    Some (record { session = with_moment s c m made; lines = of_job c.who.job made.lines })

abbrev pub first_part_in : Session → Choice → Option SessionJob → Option StepResult
first_part_in s c None = None
first_part_in s c (Some m) = first_part_of s c m (keyed (λ (t : Task). t.number) c.who.task m.progress.job.tasks)

abbrev pub first_part_by : Session → Option Choice → Option StepResult
first_part_by s None = None
first_part_by s (Some c) = first_part_in s c (keyed number_of c.who.job s.jobs)

-- the session in which a job may stand at its limit, and the lines up to it
unfoldable pub first_part : Session → Option StepResult
first_part s = first_part_by s (choice s)

-- ---- the last part

abbrev pub has_tasks : List Task → Bool
has_tasks [] = false
has_tasks (t ∷ more) = true

-- a job with live tasks has made as many operators as it may
abbrev pub is_at_limit : SessionJob → Bool
is_at_limit m = (m.progress.made == m.constants.limit) && has_tasks m.progress.job.tasks

-- all its tasks end
abbrev pub last_part_if : Bool → Session → SessionJob → Option StepResult
last_part_if false s m = None
last_part_if true s m =
    let ended = ends_each_if true Limit (unsettled m.progress.job) in
    Some (record {
      session = record s {
        jobs = change_keyed number_of m.constants.number
            (λ (y : SessionJob). record y { progress = record y.progress { job = ended.job; ended = y.progress.ended ++ ended.endings } }) s.jobs;
      };
      lines = of_job m.constants.number (map (λ e. (e.0, Ends e.1)) ended.endings);
    })

abbrev pub last_part_by : Session → Option SessionJob → Option StepResult
last_part_by s None = None
last_part_by s (Some m) = last_part_if (is_at_limit m) s m

-- that of the job that made the last operator, where it stands at its limit
unfoldable pub last_part : Session → Option StepResult
last_part s = last_part_by s (keyed number_of s.last.job s.jobs)

-- ---- what is due

abbrev pub text_of : Option StepResult → List ℕ
text_of None = []
text_of (Some m) = run_text m.lines

-- the text that is printed next: the rest of a step, or the first part of the next one
abbrev pub due : Session → List ℕ
due s = text_of (option_or (last_part s) (first_part s))

-- ---- the parts are the step

-- a step of these parts
abbrev pub joined : StepResult → Option StepResult → StepResult
joined part None = part
joined part (Some rest) = record { session = rest.session; lines = part.lines ++ rest.lines }

-- the next step is its first part, and then its last part where there is one
abbrev pub StepsHaveParts : Type 0
StepsHaveParts = (s : Session) (part : StepResult) → first_part s ≡ Some part → next s ≡ Some (joined part (last_part part.session))
