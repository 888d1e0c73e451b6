-- ARRAYDEC: a call that answers with the original of a new array.
use Rattle.std.specs.Prelude.{◌≡◌, ℕ, ◌+◌, ◌<◌, ◌^◌, ◌==◌, ◌&&◌, true, List, [], ◌∷◌, None, Result, Ok, Err, replicate, if◌then◌else◌}
use Rattle.b67_word.specs.Tagged.{Tagged}
use Rattle.b67_word.specs.declared.faults.Fault.{Fault}
use Rattle.b67_word.specs.declared.couples.Place.{Place}
use Rattle.b67_model.specs.Common.{Answer, ◌>>=◌, Word, Original, Array, Task, Job, SessionJob, top, below_top, with_task, Goes, answered, array_length, arraydec}
use Rattle.b67_stack.specs.Shapes.{nowhere}
use Rattle.b67_stack.specs.Represents.{Storage}
use Rattle.b67_layout.specs.Machine.{holding}
use Rattle.b67_layout.specs.Placement.{Placement}
use Rattle.b67_layout.specs.Meets.{here}
use Rattle.b67_mcp.specs.Printed.{MayCut, operand_number}

-- an array of zeros, which ends with the frame below the call
abbrev pub new_array : SessionJob → Task → ℕ → Array
new_array m t n = record { identity = m.progress.job.next_array; owner = (top (below_top t.frames)).identity; writable = true; numbers = replicate n 0 }

-- the job without the call, with the array, whose task goes on at a place with the array's original on the frame below
abbrev pub job_declared : SessionJob → Task → ℕ → Place → Job
job_declared m t n next =
    with_task (record m.progress.job { arrays = new_array m t n ∷ m.progress.job.arrays; next_array = m.progress.job.next_array + 1 })
    (answered (here m t next) (Original m.progress.job.next_array ∷ []))

-- the plan in which the original of an array of a job stands at an address
abbrev pub with_home : Placement → ℕ → ℕ → ℕ → Placement
with_home plan j a at = record plan { home = λ i b. if (i == j) && (b == a) then at else plan.home i b }

-- the storage that holds nothing of what is known by an address
abbrev pub storage_without : Storage → ℕ → Storage
storage_without x at = holding x at nowhere

-- the length that a word says
abbrev pub length_in : Tagged → Answer ℕ
length_in w = operand_number w >>= array_length

-- ARRAYDEC is to make an array of the length that was found, or faults as its row does
abbrev pub LengthMeets : SessionJob → Task → List Word → Result ℕ Fault → Type 0
LengthMeets m t arguments (Ok n) =
    (0 < n) × (n < 2 ^ 16) × MayCut m t × ((next : Place) → arraydec (here m t next) arguments ≡ Ok (Goes (job_declared m t n next) [] None))
LengthMeets m t arguments (Err fault) = (next : Place) → arraydec (here m t next) arguments ≡ Err fault
