-- Calls of DEALLOCATE and RESIZE: the array that is emptied, or that gets another length.
use Rattle.std.specs.Prelude.{◌≡◌, ◌≢◌, ℕ, ◌<◌, ◌^◌, true, List, [], ◌∷◌, length, take, Some, None, Result, Ok, Err}
use Rattle.b67_word.specs.declared.couples.Place.{Place}
use Rattle.b67_word.specs.declared.faults.Fault.{Fault}
use Rattle.b67_lemmas.specs.Lists.{Has}
use Rattle.b67_model.specs.Common.{Word, Row, Array, Task, Job, SessionJob, with_task, with_array, all_zero, resized, Goes, answered, deallocate, resize}
use Rattle.b67_stack.specs.Represents.{Storage}
use Rattle.b67_layout.specs.Common.{Placement, here, area_held, cells}
use Rattle.b67_mcp.specs.Printed.{MayCut}
use Rattle.b67_mcp.specs.declared.resize.Resizing.{Resizing}
use Rattle.b67_mcp.specs.declared.resize.Resizing.TheVariants as resizing

-- a writable array of the job, whose original has this address
pub record IsWritable (plan : Placement) (m : SessionJob) (original : ℕ) : Type 0 where
  pub array : Array
  pub among : Has m.progress.job.arrays array
  pub home : original ≡ plan.home m.constants.number array.identity
  pub writable : array.writable ≡ true

-- the job without the call, with an array of zeros; and with an array of another length. Its task goes on at a place
abbrev pub job_emptied : SessionJob → Task → ℕ → Place → Job
job_emptied m t a next = with_task (with_array m.progress.job a all_zero) (answered (here m t next) [])

abbrev pub job_resized : SessionJob → Task → ℕ → ℕ → Place → Job
job_resized m t a words next = with_task (with_array m.progress.job a (resized words)) (answered (here m t next) [])

-- DEALLOCATE empties this array, which the row copy on top of the marked record names, and its call may be cut off
pub record Empties (plan : Placement) (m : SessionJob) (t : Task) (arguments : List Word) (original : ℕ) : Type 0 where
  pub which : IsWritable plan m original
  pub named : take 1 (cells t) ≡ Row which.array.identity ∷ []
  pub may : MayCut m t
  pub makes : (next : Place) → deallocate (here m t next) arguments ≡ Ok (Goes (job_emptied m t which.array.identity next) [] None)

-- or it faults as its row does
abbrev pub EmptyMeets : Placement → SessionJob → Task → List Word → Result ℕ Fault → Type 0
EmptyMeets plan m t arguments (Ok original) = Empties plan m t arguments original
EmptyMeets plan m t arguments (Err fault) = (next : Place) → deallocate (here m t next) arguments ≡ Err fault

-- RESIZE gives this array another length, and its call may be cut off
pub record Resizes (plan : Placement) (m : SessionJob) (t : Task) (arguments : List Word) (original words : ℕ) : Type 0 where
  pub which : IsWritable plan m original
  pub may : MayCut m t
  pub some : 0 < words
  pub few : words < 2 ^ 16
  pub makes : (next : Place) → resize (here m t next) arguments ≡ Ok (Goes (job_resized m t which.array.identity words next) [] (Some which.array.identity))

-- the array is present, of so many words; or it is absent; or the call faults as its row does, with no touch
abbrev pub ResizeMeets : Storage → Placement → SessionJob → Task → List Word → Result Resizing Fault → Type 0
ResizeMeets x plan m t arguments (Ok (resizing.Lengths original before after)) =
    (r : Resizes plan m t arguments original after) × (length r.which.array.numbers ≡ before) × (area_held x plan m.constants.number r.which.array.identity ≢ None)
ResizeMeets x plan m t arguments (Ok (resizing.Absent original)) =
    (words : ℕ) × (r : Resizes plan m t arguments original words) × (area_held x plan m.constants.number r.which.array.identity ≡ None)
ResizeMeets x plan m t arguments (Err fault) = (next : Place) → resize (here m t next) arguments ≡ Err fault
