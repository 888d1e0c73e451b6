-- A call of PRINTROW: the row that it prints.
use Rattle.std.specs.Prelude.{◌≡◌, ◌≢◌, ℕ, ◌+◌, ◌≤◌, ℤ, List, [], ◌∷◌, length, Some, None, Result, Ok, Err, slice_range}
use Rattle.b67_word.specs.Tagged.{Tagged}
use Rattle.b67_word.specs.declared.couples.Place.{Place}
use Rattle.b67_word.specs.declared.faults.Fault.{Fault}
use Rattle.b67_lemmas.specs.Lists.{Has}
use Rattle.b67_model.specs.Common.{Word, Row, Array, Task, SessionJob, Values, Goes, printrow}
use Rattle.b67_stack.specs.Represents.{Storage}
use Rattle.b67_layout.specs.Common.{Placement, here, area_held}
use Rattle.b67_exec_cells.specs.Elements.{HasElement}
use Rattle.b67_mcp.specs.Printed.{MayCut, job_cut}
use Rattle.b67_mcp.specs.Texts.{values_of}
use Rattle.b67_mcp.specs.declared.print_row.RowFound.{RowFound}
use Rattle.b67_mcp.specs.declared.print_row.RowFound.TheVariants as found

-- the one argument copies an array, which has some element and whose original has this address
pub record Copies (plan : Placement) (m : SessionJob) (arguments : List Word) (original : ℕ) : Type 0 where
  pub array : ℕ
  pub are : arguments ≡ Row array ∷ []
  pub home : original ≡ plan.home m.constants.number array
  pub some : HasElement m.progress.job array 0

-- or the call faults as its row does, which touches no array then
abbrev pub CopyMeets : Placement → SessionJob → Task → List Word → Result ℕ Fault → Type 0
CopyMeets plan m t arguments (Ok original) = Copies plan m arguments original
CopyMeets plan m t arguments (Err fault) = (next : Place) → printrow (here m t next) arguments ≡ Err fault

-- where there is no copy, the arguments are no array
abbrev pub MissesCopy : List Word → Result ℕ Fault → Type 0
MissesCopy arguments (Ok original) = Unit {0}
MissesCopy arguments (Err fault) = (a : ℕ) → arguments ≢ Row a ∷ []

-- so many words of core from an address on are the row's, and the call may be cut off
pub record IsPrintedRow (m : SessionJob) (t : Task) (core : List Tagged) (arguments : List Word) (at count : ℕ) : Type 0 where
  pub inside : at + count ≤ length core
  pub values : List ℤ
  pub lies : values_of (slice_range core at (at + count)) ≡ Some values
  pub may : MayCut m t
  pub array : ℕ
  pub makes : (next : Place) → printrow (here m t next) arguments ≡ Ok (Goes (job_cut m t next) (Values values ∷ []) (Some array))

-- the array whose original has this address is copied, and is absent
pub record IsAbsentRow (x : Storage) (plan : Placement) (m : SessionJob) (arguments : List Word) (original : ℕ) : Type 0 where
  pub array : Array
  pub among : Has m.progress.job.arrays array
  pub are : arguments ≡ Row array.identity ∷ []
  pub home : original ≡ plan.home m.constants.number array.identity
  pub absent : area_held x plan m.constants.number array.identity ≡ None

-- what PRINTROW is to print, or that it touches an absent array, or its row's fault
abbrev pub RowMeets : Storage → Placement → SessionJob → Task → List Tagged → List Word → Result RowFound Fault → Type 0
RowMeets x plan m t core arguments (Ok (found.Words at count)) = IsPrintedRow m t core arguments at count
RowMeets x plan m t core arguments (Ok (found.Absent original)) = IsAbsentRow x plan m arguments original
RowMeets x plan m t core arguments (Err fault) = (next : Place) → printrow (here m t next) arguments ≡ Err fault

-- the array that the one argument copies, if it copies one, is one of the job, and is present
abbrev pub CopiesPresent : Storage → Placement → SessionJob → List Word → Type 0
CopiesPresent x plan m arguments = (a : ℕ) → arguments ≡ Row a ∷ [] → HasElement m.progress.job a 0 × (area_held x plan m.constants.number a ≢ None)

-- so it is wherever no absent array is told, before and after a fault
abbrev pub RowTouches : Storage → Placement → SessionJob → List Word → Result RowFound Fault → Type 0
RowTouches x plan m arguments (Ok (found.Words at count)) = CopiesPresent x plan m arguments
RowTouches x plan m arguments (Ok (found.Absent original)) = Unit {0}
RowTouches x plan m arguments (Err fault) = CopiesPresent x plan m arguments
