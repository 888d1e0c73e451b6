-- What made each word, mark and return of a state.
use Rattle.std.specs.Prelude.{◌≡◌, ℕ, ◌⊎◌, List, Option, Some, None, Ok}
use Rattle.b67_model.specs.declared.intrinsics.TheConstants.{ARRAYDEC, PROCESS}
use Rattle.b67_model.specs.declared.operators.Op.{Op}
use Rattle.b67_model.specs.declared.operators.Op.TheVariants.{Valc, Namc, Mpcw, Plain}
use Rattle.b67_model.specs.declared.operators.Code.TheVariants.{Mkst, Entr, Retn, Stff, Load, Indx, Stod, Ston}
use Rattle.b67_lemmas.specs.Lists.{Has}
use Rattle.b67_model.specs.Words as Words
use Rattle.b67_model.specs.Common.{Word, Operand, Name, Ref, Row, Element, Original, Proc, Intrinsic, Return, Frame, Standing, Marked, Entered, Task, Job, OperatorContext, called, Line, Goes, proc_of, row}

-- the operators that make a word, by its kind, with the intrinsic that they call, if any. An Original is made by the call
-- of ARRAYDEC, intrinsic 8; the loader alone makes an Intrinsic and a Segment
abbrev pub OperatorMakes : Op → Option ℕ → Word → Type 0
OperatorMakes op call (Operand bits) = Unit {0}
OperatorMakes op call (Name couple) = op ≡ Namc couple
OperatorMakes op call (Ref frame offset) = op ≡ Plain Stff
OperatorMakes op call (Row array) = op ≡ Plain Load
OperatorMakes op call (Element array index) = op ≡ Plain Indx
OperatorMakes op call (Original array) = (op ≡ Plain Entr) × (call ≡ Some ARRAYDEC)
OperatorMakes op call (Proc segment level place) = (bits : ℕ) × (op ≡ Mpcw bits) × (proc_of bits ≡ Proc segment level place)
OperatorMakes op call (Intrinsic number) = ⊥
OperatorMakes op call (Words.Segment number) = ⊥

-- the operators that make a mark, or a mark with its return. MKST alone makes one that isn't entered. ENTR enters a Proc, or
-- calls PROCESS, intrinsic 12, which enters one in a new task, from where nothing returns; the others enter one accidentally
pub data MakesMark (op : Op) (call : Option ℕ) : Standing → Type 0 where
  by_mkst : op ≡ Plain Mkst → MakesMark op call Marked
  by_entr : {level environment : ℕ} {back : Return} → op ≡ Plain Entr → call ≡ None → MakesMark op call (Entered level environment (Some back))
  by_process : {level environment : ℕ} → op ≡ Plain Entr → call ≡ Some PROCESS → MakesMark op call (Entered level environment None)
  by_retn : {level environment : ℕ} {back : Return} → op ≡ Plain Retn → MakesMark op call (Entered level environment (Some back))
  by_load : {level environment : ℕ} {back : Return} → op ≡ Plain Load → MakesMark op call (Entered level environment (Some back))
  by_stod : {level environment : ℕ} {back : Return} → op ≡ Plain Stod → MakesMark op call (Entered level environment (Some back))
  by_ston : {level environment : ℕ} {back : Return} → op ≡ Plain Ston → MakesMark op call (Entered level environment (Some back))
  by_valc : {level environment : ℕ} {back : Return} (couple : ℕ) → op ≡ Valc couple → MakesMark op call (Entered level environment (Some back))

-- a frame of a task, or of a live one
pub record StandsIn (tasks : List Task) (f : Frame) : Type 0 where
  pub task : Task
  pub live : Has tasks task
  pub among : Has task.frames f

pub record HasWord (tasks : List Task) (w : Word) : Type 0 where
  pub frame : Frame
  pub stands : StandsIn tasks frame
  pub among : Has frame.cells w

-- the same mark with its return, of the same frame
pub record HasMark (tasks : List Task) (identity : ℕ) (standing : Standing) : Type 0 where
  pub frame : Frame
  pub stands : StandsIn tasks frame
  pub identity_is : frame.identity ≡ identity
  pub standing_is : frame.standing ≡ standing

-- each word, mark and return of a frame was there before, unchanged, or the operator made it
pub record FrameMade (before : List Task) (op : Op) (call : Option ℕ) (f : Frame) : Type 0 where
  pub words : (w : Word) → Has f.cells w → HasWord before w ⊎ OperatorMakes op call w
  pub mark : HasMark before f.identity f.standing ⊎ MakesMark op call f.standing

-- after the row of an operator, made by a task that stands in the job
abbrev pub EachRowMakesItsWords : Type 0
EachRowMakesItsWords =
    (op : Op) (h : OperatorContext) (found : Task) (after : Job) (printed : List Line) (touched : Option ℕ) → Has h.job.tasks found → found.frames ≡ h.task.frames →
    row op h ≡ Ok (Goes after printed touched) → (f : Frame) → StandsIn after.tasks f → FrameMade h.job.tasks op (called op h) f
