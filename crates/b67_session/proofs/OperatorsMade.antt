-- What an operator answered and left, in the whole machine.
use Rattle.std.proofs.Common.{◌≡◌, ◌≢◌, ℕ, List, [], map, length, Option, Some, None, Ok, Err, refl, sym, ◌∙◌, ap, false, inl, inr, ⊎_elim, subst, arith}
use Rattle.std.proofs.lemmas.Option.{none-some}
use Rattle.b67_word.specs.declared.couples.Place.{Place}
use Rattle.b67_model.specs.declared.operators.Op.{Op}
use Rattle.b67_model.specs.Common.{Answer, Ready, Task, SessionJob, Done as Result, Reading, reading_of, row, step, Session, called}
use Rattle.b67_layout.specs.Common.{IsInOrderButCounts, Placement, array_object, here, objects_gone, with_job, IsMade, Meets, IsRunning, RepresentsSession, RepresentsSessionBut}
use Rattle.b67_stack.specs.declared.Cpu.{Cpu}
use Rattle.b67_stack.specs.declared.Step.{Step}
use Rattle.b67_stack.specs.declared.Step.TheVariants as answers
use Rattle.b67_stack.specs.MachineView.{PagedObject}
use Rattle.b67_stack.specs.Represents.{Storage}
use Rattle.b67_exec_cells.specs.Running.{code_area}
use Rattle.b67_exec_cells.specs.Called.{called_in, called_by_reading}
use Rattle.b67_exec.specs.Operators.{CallsOrMeets, OperatorAt, OperatorMeets, leaves_record}
use Rattle.b67_layout_step.specs.Keeping.{is_leaving}
use Rattle.b67_task.specs.declared.tables.Machine.{Machine}
use Rattle.b67_task.specs.Tables.{TasksShow, task_row, job_row, counts_of, MachineRepresents}
use Rattle.b67_session.specs.Makes.{OperatorMade, StepMakes, CallsOrMakes, MakesAt, MakesInSegment}
use Rattle.b67_task.specs.Released.{HasHome, Released}
use Rattle.b67_task.proofs.Remaining.{Released-none}
use Rattle.b67_session.proofs.Read.{step_read}
use Rattle.b67_session.proofs.Releasing.{same_length, storage_over}
use Rattle.b67_session.proofs.AttemptSteps.{row_kept}
use Rattle.b67_session.proofs.Tables.{tables_after}
use Rattle.b67_layout_step.proofs.Laws.{keeps_arrays}

-- after all answers but Done nothing has changed
unchanged : (x : Storage) (told : Option (List (List ℕ))) (plan : Placement) (s : Session) (m : SessionJob) (t : Task) (answered : Step) (old : Machine) (new : Cpu) (answer : Answer Result)
    → answered ≢ answers.Done → step m.constants m.progress.job t ≡ answer → Meets x plan s m answered old.cpu new answer → StepMakes x told plan s m t answered old (record old { cpu = new })
unchanged x told plan s m t answered old new answer ne is made = grind arith

called_length : (x : Storage) (plan : Placement) (s : Session) (m : SessionJob) (answered : Step) (old new : Cpu) (calls : Option ℕ) (answer : Answer Result) → RepresentsSession x old plan s
    → CallsOrMeets x plan s m answered old new calls answer → length new.core ≡ length old.core
called_length x plan s m answered old new calls answer h made = grind arith

-- where no array is gone, none was given back
none_released : (left : List PagedObject) (x : Storage) → left ≡ [] → Released (HasHome left) x x
none_released left x e = Released-none (HasHome left) x (λ home g. let P : List PagedObject → Type 0 = λ l. HasHome l home in let k = subst P e g in k.1)

module _ (x : Storage) (told : Option (List (List ℕ))) (plan : Placement) (s : Session) (m : SessionJob) (t : Task) (old : Machine) (o : IsInOrderButCounts s) (h : MachineRepresents x told old plan s) (runs : IsRunning plan s.jobs m t)
    (ready : t.condition ≡ Ready) (new : Cpu) where
  -- the operator was made, and no array is gone
  goes_on : (op : Op) (q : Place) → is_leaving op ≡ false → step m.constants m.progress.job t ≡ row op (here m t q) → called op (here m t q) ≡ None → IsMade x plan s m old.cpu new (row op (here m t q))
      → OperatorMade x told plan s m t old (record old { cpu = new })
  goes_on op q stays is none k =
      let kept = row_kept plan s m t o runs op q none k.job [] k.touched k.is in
      let shows : TasksShow plan (with_job s m k.job) old.tasks = tables_after plan s m t o runs ready k.job kept (map task_row old.tasks.rows.items) (map job_row old.tasks.jobs) (counts_of old.tasks) h.tables in
      let no_gone : objects_gone plan m k.job ≡ [] = ap (map (array_object plan m.constants.number)) (keeps_arrays op (here m t q) stays k.job [] k.touched k.is) in
      let session : RepresentsSession x new plan (with_job s m k.job) = (let P : List PagedObject → Type 0 = λ left. RepresentsSessionBut left x new plan (with_job s m k.job) in subst P no_gone k.stands) in
      let same = same_length (objects_gone plan m k.job) x old.cpu new plan s (with_job s m k.job) h.session k.stands in
      record {
        job = k.job;
        touched = k.touched;
        is = is ∙ k.is;
        present = k.present;
        storage = x;
        stands = record { session = session; storage = storage_over x old.areas old.sectors told old.cpu new same h.storage; tables = shows };
        released = none_released (objects_gone plan m k.job) x no_gone;
        changed = λ i. ⊎_elim (λ e. inl e) (λ may. inr (inl may)) (k.changed i);
      }

  by_reading : (read : Reading) → read ≡ reading_of m.constants t → leaves_record read ≡ false → called_by_reading m t read ≡ None → IsMade x plan s m old.cpu new (step m.constants m.progress.job t)
      → OperatorMade x told plan s m t old (record old { cpu = new })
  by_reading (Err why) is stays none k = let e = sym k.is ∙ step_read m t (Err why) is in absurd (let z : ⊥ = cc in z)
  by_reading (Ok read) is stays none k =
      let same = step_read m t (Ok read) is in
      let P : Answer Result → Type 0 = λ a. IsMade x plan s m old.cpu new a in
      goes_on read.0 read.1 stays same none (subst P same k)

  by_call : (answered : Step) (calls : Option ℕ) → leaves_record (reading_of m.constants t) ≡ false → called_in m t ≡ calls → CallsOrMeets x plan s m answered old.cpu new calls (step m.constants m.progress.job t)
      → CallsOrMakes x told plan s m t answered old (record old { cpu = new }) calls
  by_call answered (Some n) stays e made = (made.0, ap (λ (c : Cpu). record old { cpu = c }) made.1)
  by_call answers.Done None stays e made = by_reading (reading_of m.constants t) refl stays e made
  by_call (answers.Absent found) None stays e made = unchanged x told plan s m t (answers.Absent found) old new (step m.constants m.progress.job t) (λ e. cc) refl made
  by_call (answers.Call n) None stays e made = absurd made
  by_call (answers.Fault fault) None stays e made = unchanged x told plan s m t (answers.Fault fault) old new (step m.constants m.progress.job t) (λ e. cc) refl made
  by_call answers.Ended None stays e made = unchanged x told plan s m t answers.Ended old new (step m.constants m.progress.job t) (λ e. cc) refl made

  by_area : (answered : Step) (area : Option ℕ) → code_area x plan m t ≡ area → (code_area x plan m t ≢ None → leaves_record (reading_of m.constants t) ≡ false) → OperatorAt x plan s m t answered old.cpu new area
      → MakesAt x told plan s m t answered old (record old { cpu = new }) area
  by_area answered None a stays made = (made.0, ap (λ (c : Cpu). record old { cpu = c }) made.1)
  by_area answered (Some at) a stays made = by_call answered (called_in m t) (stays (λ e. none-some at (sym e ∙ a))) refl made

  -- an operator that leaves no record
  pub operator_made : (answered : Step) → (code_area x plan m t ≢ None → leaves_record (reading_of m.constants t) ≡ false) → OperatorMeets x plan s m t answered old.cpu new → MakesInSegment x told plan s m t answered old (record old { cpu = new })
  operator_made answered stays made = by_area answered (code_area x plan m t) refl stays made

  -- and one whose answer isn't that it was made
  not_call : (answered : Step) (calls : Option ℕ) → answered ≢ answers.Done → CallsOrMeets x plan s m answered old.cpu new calls (step m.constants m.progress.job t) → CallsOrMakes x told plan s m t answered old (record old { cpu = new }) calls
  not_call answered calls other made = grind arith

  not_area : (answered : Step) (area : Option ℕ) → answered ≢ answers.Done → OperatorAt x plan s m t answered old.cpu new area → MakesAt x told plan s m t answered old (record old { cpu = new }) area
  not_area answered None other made = (made.0, ap (λ (c : Cpu). record old { cpu = c }) made.1)
  not_area answered (Some at) other made = not_call answered (called_in m t) other made

  pub not_made : (answered : Step) → answered ≢ answers.Done → OperatorMeets x plan s m t answered old.cpu new → MakesInSegment x told plan s m t answered old (record old { cpu = new })
  not_made answered other made = not_area answered (code_area x plan m t) other made

-- core is as long as it was
at_length : (x : Storage) (plan : Placement) (s : Session) (m : SessionJob) (t : Task) (answered : Step) (old new : Cpu) (area : Option ℕ) → RepresentsSession x old plan s → OperatorAt x plan s m t answered old new area → length new.core ≡ length old.core
at_length x plan s m t answered old new area h made = grind (arith, called_length)

pub operator_length : (x : Storage) (plan : Placement) (s : Session) (m : SessionJob) (t : Task) (answered : Step) (old new : Cpu) → RepresentsSession x old plan s → OperatorMeets x plan s m t answered old new → length new.core ≡ length old.core
operator_length x plan s m t answered old new h made = at_length x plan s m t answered old new (code_area x plan m t) h made

-- an operator that leaves a record was made
pub made_so : (x : Storage) (told : Option (List (List ℕ))) (plan : Placement) (s : Session) (m : SessionJob) (t : Task) (old new : Machine) → code_area x plan m t ≢ None → called_in m t ≡ None → OperatorMade x told plan s m t old new
    → MakesInSegment x told plan s m t answers.Done old new
made_so x told plan s m t old new code none made = by (code_area x plan m t) refl where
  by : (area : Option ℕ) → code_area x plan m t ≡ area → MakesAt x told plan s m t answers.Done old new area
  by None e = absurd (code e)
  by (Some at) e = let P : Option ℕ → Type 0 = λ o. CallsOrMakes x told plan s m t answers.Done old new o in subst P (sym none) made
