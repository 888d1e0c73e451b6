-- The sessions of worked runs, and what is looked at in them.
use Rattle.std.specs.Prelude.{ℕ, zero, suc, max, ℤ, List, [], ◌∷◌, Option, Some, None, unwrap_or, map}
use Rattle.b67_word.specs.declared.faults.Fault.{Fault}
use Rattle.b67_word.specs.declared.faults.Ending.{Ending}
use Rattle.b67_word.specs.declared.faults.Ending.TheVariants.{Faulted}
use Rattle.b67_model.specs.Common.{Segment, Program, opened, Value, Values, Ends, Switch, Session, RunLine, StepResult, start, next, need_next, sectors, Refusal, makers_from}
use Rattle.b67_law_examples.specs.Programs.{sum, endless, not_whole, refused_row, row_with_bits, branches_to}

-- one job, by its program, stack size, limit, numbers for READ and the session's switches, with turns of a thousand
abbrev pub one_job : Program → ℕ → ℕ → List ℤ → List Switch → Session
one_job p stack limit numbers switches = start (opened 1 p stack limit numbers ∷ []) switches 1000

abbrev pub without_rows : List Segment → Program
without_rows segments = record { segments = segments; rows = [] }

-- one job with the defaults
abbrev pub job_alone : List Segment → Session
job_alone segments = one_job (without_rows segments) 512 1000000 [] []

-- one job with stacks of a size
abbrev pub job_with_stack : ℕ → List Segment → Session
job_with_stack stack segments = one_job (without_rows segments) stack 1000000 [] []

-- one job with a limit, and stacks of a size
abbrev pub limited_job : ℕ → ℕ → List Segment → Session
limited_job stack limit segments = one_job (without_rows segments) stack limit [] []

-- a switch at a count to a task of the first job
abbrev pub switch_to_task : ℕ → ℕ → Switch
switch_to_task count task = record { count = count; to = record { job = 1; task = task } }

-- lines of the first job's tasks
abbrev pub line_of_value : ℕ → ℤ → RunLine
line_of_value task v = (1, task, Value v)

abbrev pub row : ℕ → List ℤ → RunLine
row task vs = (1, task, Values vs)

abbrev pub line_of_ending : ℕ → Ending → RunLine
line_of_ending task ending = (1, task, Ends ending)

abbrev pub faults : ℕ → Fault → RunLine
faults task fault = (1, task, Ends (Faulted fault))

-- the first two programs as two jobs, with turns of so many operators
abbrev pub session_of_two : ℕ → Session
session_of_two quantum =
    start (opened 1 (without_rows sum) 512 1000 [] ∷ opened 2 (without_rows not_whole) 512 1000 [] ∷ []) [] quantum

abbrev pub refused_row_program : Program
refused_row_program = record { segments = refused_row; rows = (5 ∷ []) ∷ [] }

abbrev pub row_with_bits_program : Program
row_with_bits_program = record { segments = row_with_bits; rows = (0x800000000000 ∷ []) ∷ [] }

-- segments with one data row, of five and six
abbrev pub with_row : List Segment → Session
with_row segments = one_job (record { segments = segments; rows = (5 ∷ 6 ∷ []) ∷ [] }) 512 1000 [] []

-- two jobs that loop, with turns of three operators
abbrev pub two_loops : List Switch → Session
two_loops switches =
    start (opened 1 (without_rows endless) 512 1000 [] ∷ opened 2 (without_rows endless) 512 1000 [] ∷ []) switches 3

-- the jobs that make the next n operators
abbrev pub jobs_of : ℕ → Session → List ℕ
jobs_of n s = map (λ w. w.job) (makers_from n (next s))

-- the refusals of two words with a branch to a place
abbrev pub branching : ℕ → ℕ → Program
branching word syllable = without_rows (branches_to word syllable)

-- one refusal in the first segment
abbrev pub refused_at : ℕ → ℕ → ℕ → List Refusal
refused_at word syllable rule = record { segment = 1; place = record { word = word; syllable = syllable }; rule = rule } ∷ []

-- the refusal that is reported, in the first segment
abbrev pub first_at : ℕ → ℕ → ℕ → Option Refusal
first_at word syllable rule = Some (record { segment = 1; place = record { word = word; syllable = syllable }; rule = rule })

abbrev pub rule_of : Refusal → ℕ
rule_of r = r.rule

-- the greatest Need of the next n steps, in a core that has room for each
abbrev pub most_from : ℕ → Session → Option StepResult → ℕ
most_from zero s m = 0
most_from (suc n) s None = 0
most_from (suc n) s (Some m) = max (unwrap_or (need_next 0x100000 s) 0) (most_from n m.session (next m.session))

abbrev pub most_need : ℕ → Session → ℕ
most_need n s = most_from n s (next s)

-- the greatest sector sum of the states of the next n steps
abbrev pub most_sectors_from : ℕ → Session → Option StepResult → ℕ
most_sectors_from zero s m = sectors s.jobs
most_sectors_from (suc n) s None = sectors s.jobs
most_sectors_from (suc n) s (Some m) = max (sectors s.jobs) (most_sectors_from n m.session (next m.session))

abbrev pub most_sectors : ℕ → Session → ℕ
most_sectors n s = most_sectors_from n s (next s)
