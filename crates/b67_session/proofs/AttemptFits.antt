-- A step that was made, or ends its task, needs no more words than core has.
use Rattle.std.proofs.Common.{◌≡◌, ◌≢◌, ℕ, ◌+◌, ◌<◌, ◌≤◌, List, [], ◌∷◌, reverse, length, Option, Some, None, Ok, Err, refl, sym, ◌∙◌, ap, arith, ⊎_elim}
use Rattle.std.proofs.lemmas.Option.{none-some}
use Rattle.b67_word.specs.declared.faults.Fault.{Fault}
use Rattle.b67_word.specs.declared.couples.Place.{Place}
use Rattle.b67_model.specs.declared.operators.Op.{Op}
use Rattle.b67_model.specs.declared.operators.Op.TheVariants.{Plain}
use Rattle.b67_model.specs.declared.operators.Code.{Code}
use Rattle.b67_model.specs.Common.{Answer, Word, AtIntrinsic, follow_reference, Reading, Standing, Marked, Entered, Task, Job, SessionJob, OperatorContext, top, Line, Done, Goes, Leaves, touched_of, touched_at_mark, touched_before_fault, started_by, need, reading_of, step, number_of, Session, called_at, called_by, called_on, called}
use Rattle.b67_layout.specs.Common.{IsInOrderButCounts, Placement, IsRunning, here, area_held, TouchedIsPresent}
use Rattle.b67_stack.specs.declared.What.TheVariants as what
use Rattle.b67_stack.specs.declared.Step.{Step}
use Rattle.b67_stack.specs.declared.Step.TheVariants as answers
use Rattle.b67_stack.specs.Represents.{Storage}
use Rattle.b67_exec_cells.specs.Running.{code_area}
use Rattle.b67_exec_cells.specs.Called as operators
use Rattle.b67_exec_cells.specs.Called.{called_in}
use Rattle.b67_task.specs.declared.tables.TaskState.{TaskState}
use Rattle.b67_task.specs.declared.tables.Machine.{Machine}
use Rattle.b67_task.specs.Tables.{MachineRepresents}
use Rattle.b67_layout_step.proofs.Laws.{touches_arrays}
use Rattle.b67_session.specs.Fits.{IsArrayOfJob}
use Rattle.b67_session.proofs.FittingMade.{made_fit}
use Rattle.b67_session.specs.Makes.{OperatorMade, CallsOrMakes, MakesAt}
use Rattle.b67_mcp.specs.declared.ends.Stop.{Stop}
use Rattle.b67_mcp.specs.declared.ends.Stop.TheVariants as stops
use Rattle.b67_mcp.specs.Called.{IsCut, IsFull, IsRefused, IsUnstarted, IsUnstartedFull, StartsTask, WaitsSo, CallMeets, CallTouches, CallFits, printed_text, ArrayIsThere, TouchesPresent}
use Rattle.b67_mcp.proofs.Callings.{calling}
use Rattle.b67_mcp.proofs.Touched.{reference_same}
use Rattle.b67_mcp.proofs.Present.{row_only}
use Rattle.b67_session.specs.Tries.{TryFits}
use Rattle.b67_session.proofs.Still.{operator_starts}
use Rattle.b67_session.proofs.Births.{one_more}
use Rattle.b67_lemmas.proofs.Members.{keyed_has}

-- before a fault an operator touches nothing that calls no intrinsic
module _ (m : SessionJob) (t : Task) (a : ℕ) where
  by_standing : (next : Place) (st : Standing) (cells : List Word) → reverse (top t.frames).cells ≡ cells → called_on (here m t next) st ≡ None
      → touched_at_mark (record { constants = m.constants; job = m.progress.job; task = t; at = t.place }) st cells ≢ Some a
  by_standing next (Entered level environment back) cells is none e = none-some a e
  by_standing next Marked [] is none e = none-some a e
  by_standing next Marked (r ∷ arguments) is none e =
      let at_call : OperatorContext = record { constants = m.constants; job = m.progress.job; task = t; at = t.place } in
      let f = row_only r arguments (follow_reference at_call r) a e in
      let ends : follow_reference (here m t next) r ≡ Ok (AtIntrinsic 10) = reference_same (here m t next) at_call refl refl refl r ∙ f.called in
      none-some 10 (sym none ∙ called_is next r arguments is ends)
    where
      called_is : (next : Place) (r : Word) (arguments : List Word) → reverse (top t.frames).cells ≡ r ∷ arguments → follow_reference (here m t next) r ≡ Ok (AtIntrinsic 10) → called_on (here m t next) Marked ≡ Some 10
      called_is next r arguments is ends =
          ap (called_by (here m t next)) is ∙ ap called_at ends

  by_code : (code : Code) (next : Place) → called (Plain code) (here m t next) ≡ None → touched_before_fault m.constants m.progress.job t (Ok (Plain code, next)) ≢ Some a
  by_code code next none e = grind (arith, by_standing)

  by_op : (op : Op) (next : Place) → called op (here m t next) ≡ None → touched_before_fault m.constants m.progress.job t (Ok (op, next)) ≢ Some a
  by_op op next none e = grind (arith, by_code)

  by_reading : (r : Reading) → operators.called_by_reading m t r ≡ None → touched_before_fault m.constants m.progress.job t r ≢ Some a
  by_reading r none e = grind (arith, by_op)

module _ (x : Storage) (told : Option (List (List ℕ))) (plan : Placement) (s : Session) (m : SessionJob) (t : Task) where
  abbrev touched : Answer Done → Option ℕ
  touched answer = touched_of m.constants m.progress.job t answer

  abbrev Present : Option ℕ → Type 0
  Present o = TouchedIsPresent x plan m.constants.number o × IsArrayOfJob m.progress.job o

  -- the array that is touched, as room is asked for it
  present_of : (o : Option ℕ) → ((n : ℕ) → o ≡ Some n → ArrayIsThere x plan m n) → Present o
  present_of None each = (tt, tt)
  present_of (Some n) each = let p = each n refl in (by (area_held x plan m.constants.number n) refl p.there, (p.array, p.among, p.named)) where
    by : (area : Option ℕ) → area_held x plan m.constants.number n ≡ area → area_held x plan m.constants.number n ≢ None → TouchedIsPresent x plan m.constants.number (Some n)
    by None is some = absurd (some is)
    by (Some at) is some = (at, is)

  pub step_fits : (k : Machine) → IsInOrderButCounts s → MachineRepresents x told k plan s → IsRunning plan s.jobs m t → code_area x plan m t ≢ None → TouchesPresent x plan m t → started_by m.progress.job (step m.constants m.progress.job t) ≡ 0
      → need (length k.cpu.core) s m t ≤ length k.cpu.core
  step_fits k o h runs code touches none = by (code_area x plan m t) refl code where
    by : (area : Option ℕ) → code_area x plan m t ≡ area → area ≢ None → need (length k.cpu.core) s m t ≤ length k.cpu.core
    by None is some = absurd (some refl)
    by (Some at) is some =
        let made = step m.constants m.progress.job t in
        let (present, among) = present_of (touched made) touches in
        made_fit k.cpu x plan s m t o h.session runs at (touched made) is refl present among none

  -- an operator that calls no intrinsic
  pub was_operator : (answered : Step) (old new : Machine) (area : Option ℕ) → code_area x plan m t ≡ area → answered ≢ answers.Absent (what.Code (t.segment + 1)) → ((n : ℕ) → answered ≢ answers.Call n)
      → MakesAt x told plan s m t answered old new area → (code_area x plan m t ≢ None) × (called_in m t ≡ None)
  was_operator answered old new None is absent call h = absurd (absent h.0)
  was_operator answered old new (Some at) is absent call h = (λ none. none-some at (sym none ∙ is), by (called_in m t) refl h) where
    by : (called : Option ℕ) → called_in m t ≡ called → CallsOrMakes x told plan s m t answered old new called → called_in m t ≡ None
    by (Some n) e h = absurd (call n h.0)
    by None e h = e

  pub fault_touches : (fault : Fault) → called_in m t ≡ None → step m.constants m.progress.job t ≡ Err fault → TouchesPresent x plan m t
  fault_touches fault none is a e = absurd (by_reading m t a (reading_of m.constants t) none (sym (ap touched is) ∙ e))

  pub leaves_touches : step m.constants m.progress.job t ≡ Ok Leaves → TouchesPresent x plan m t
  leaves_touches is a e = absurd (none-some a (sym (ap touched is) ∙ e))

  module _ (o : IsInOrderButCounts s) (runs : IsRunning plan s.jobs m t) where
    pub made_touches : (old new : Machine) → OperatorMade x told plan s m t old new → TouchesPresent x plan m t
    made_touches old new h a e =
        let same : h.touched ≡ Some a = sym (ap touched h.is) ∙ e in
        let is : step m.constants m.progress.job t ≡ Ok (Goes h.job [] (Some a)) = h.is ∙ ap (λ (q : Option ℕ). Ok (Goes h.job [] q)) same in
        let (array, among, named) = touches_arrays s m t o (keyed_has number_of m.constants.number s.jobs m runs.member).0 (keyed_has (λ (u : Task). u.number) t.number m.progress.job.tasks t runs.task).0 h.job [] a is in
        grind (arith, none-some)

    -- where it was made, or ends its task, core has room
    pub operator_fits : (k : Machine) → MachineRepresents x told k plan s → (code_area x plan m t ≢ None) × (called_in m t ≡ None) → TouchesPresent x plan m t → need (length k.cpu.core) s m t ≤ length k.cpu.core
    operator_fits k h (code, none) touches = step_fits k o h runs code touches (operator_starts m t runs.task none)

    -- and for the call of an intrinsic, by what it makes
    pub call_fits : (k : Machine) (n : ℕ) (job : Job) (printed : List Line) (touched : Option ℕ) → MachineRepresents x told k plan s → code_area x plan m t ≢ None → called_in m t ≡ Some n → step m.constants m.progress.job t ≡ Ok (Goes job printed touched)
        → (StartsTask m t → need (length k.cpu.core) s m t ≤ length k.cpu.core) → TouchesPresent x plan m t → need (length k.cpu.core) s m t ≤ length k.cpu.core
    call_fits k n job printed touched h code called is starts touches = ⊎_elim
        (λ (same : length job.tasks ≡ length m.progress.job.tasks). (let none : started_by m.progress.job (step m.constants m.progress.job t) ≡ 0 = (let by = ap (started_by m.progress.job) is in omega (arith, by, same)) in step_fits k o h runs code touches none))
        (λ (one : (printed ≡ []) × (touched ≡ None) × (length job.tasks ≡ length m.progress.job.tasks + 1)).
        starts (record { job = job; is = is ∙ ap (λ (p : List Line). Ok (Goes job p touched)) one.0 ∙ ap (λ (q : Option ℕ). Ok (Goes job [] q)) one.1; more = one.2 }))
        (one_more m t n job printed touched (calling m t n called) is)

    pub fault_fits : (k : Machine) (fault : Fault) → MachineRepresents x told k plan s → code_area x plan m t ≢ None → step m.constants m.progress.job t ≡ Err fault → TouchesPresent x plan m t → need (length k.cpu.core) s m t ≤ length k.cpu.core
    fault_fits k fault h code is touches = step_fits k o h runs code touches (ap (started_by m.progress.job) is)

    -- a step that waits touches nothing
    pub waits_fit : (k : Machine) (state : TaskState) → MachineRepresents x told k plan s → code_area x plan m t ≢ None → WaitsSo plan m t state → need (length k.cpu.core) s m t ≤ length k.cpu.core
    waits_fit k state h code w = grind (arith, step_fits)

    -- what is cut prints something, so its call starts no task
    cut_starts : {K : Type 0} (taken : K → Option (List ℕ)) (paper paper' : K) (n before after : ℕ) → called_in m t ≡ Some n → (c : IsCut taken paper paper' m t before after) → length c.job.tasks ≡ length m.progress.job.tasks
    cut_starts taken paper paper' n before after called c = ⊎_elim
        (λ (same : length c.job.tasks ≡ length m.progress.job.tasks). same)
        (λ (one : (c.printed ≡ []) × (c.touched ≡ None) × (length c.job.tasks ≡ length m.progress.job.tasks + 1)). absurd (by c.printed one.0 c.text.proper))
        (one_more m t n c.job c.printed c.touched (calling m t n called) c.is)
      where
        by : (printed : List Line) → printed ≡ [] → after < length (printed_text m t printed) → ⊥
        by [] e low = omega (arith, low)
        by (line ∷ more) e low = absurd cc

    pub stop_fits : {K : Type 0} (taken : K → Option (List ℕ)) (after : Option (List (List ℕ))) (count : ℕ) (k new : Machine) (paper paper' : K) (n : ℕ) (stop : Stop) → MachineRepresents x told k plan s → code_area x plan m t ≢ None → called_in m t ≡ Some n
        → CallMeets taken after count x plan s m t (Err stop) k new paper paper' → CallTouches x plan m t (Err stop) → CallFits (length k.cpu.core) s m t (Err stop) → TryFits (length k.cpu.core) s m t (Err stop)
    stop_fits taken after count k new paper paper' n stops.PrintFault h code called meets touches fits =
        let c = meets.0 in
        let same = cut_starts taken paper paper' n k.tasks.printed new.tasks.printed called c in
        step_fits k o h runs code touches (let by = ap (started_by m.progress.job) c.is in omega (arith, by, same))
    stop_fits taken after count k new paper paper' n (stops.NoCore need core) h code called meets touches fits = tt
    stop_fits taken after count k new paper paper' n (stops.BackingFull sum sectors) h code called meets touches fits = ⊎_elim
        (λ (f : IsFull x after count plan s m t sum sectors k new). call_fits k n f.refused.longer.job [] f.refused.longer.touched h code called f.refused.longer.is fits touches)
        (λ (u : IsUnstartedFull after count plan s m t sum sectors k new). fits u.unstarted.starts)
        meets.0
    stop_fits taken after count k new paper paper' n stops.BackingFault h code called meets touches fits = ⊎_elim
        (λ (f : IsRefused x after plan s m t k new). call_fits k n f.longer.job [] f.longer.touched h code called f.longer.is fits touches)
        (λ (u : IsUnstarted after plan s m t k new). fits u.starts)
        meets.0
