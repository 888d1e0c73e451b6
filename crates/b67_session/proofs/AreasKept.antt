-- A step that is made and goes on leaves areas where they are.
use Rattle.std.proofs.Common.{◌≡◌, ◌≢◌, ◌+◌, ◌≤◌, ℕ, List, Option, Some, None, Result, Ok, Err, refl, sym, ap, ◌∙◌, subst, arith}
use Rattle.std.proofs.lemmas.Option.{none-some}
use Rattle.b67_word.specs.declared.faults.Failed.{Failed}
use Rattle.b67_model.specs.Common.{IsInOrderButPlaces, StepResult, Session, Ready, Task, Job, SessionJob, Line, Goes, step, next}
use Rattle.b67_model.specs.Run.{after_from}
use Rattle.b67_law.specs.Orders.{IsInOrderButLimit}
use Rattle.b67_law.specs.Turns.{IsNext}
use Rattle.b67_law.proofs.Halves.{first_by}
use Rattle.b67_session_lines.specs.Moments.{first_part, last_part, joined}
use Rattle.b67_session_lines.proofs.Joins.{steps-have-parts}
use Rattle.b67_stack.specs.Represents.{Storage}
use Rattle.b67_stack.specs.Shapes.{Location}
use Rattle.b67_layout.specs.Common.{Placement, objects_gone}
use Rattle.b67_exec_cells.specs.Called.{called_in}
use Rattle.b67_task.specs.Released.{HasHome}
use Rattle.b67_task.specs.declared.tables.Tasks.{Tasks}
use Rattle.b67_task.specs.declared.tables.Machine.{Machine}
use Rattle.b67_task.specs.Tables.{MachineRepresents}
use Rattle.b67_task.specs.declared.counting.Chosen.{Chosen}
use Rattle.b67_task.specs.Counted.{choice_of}
use Rattle.b67_task.specs.Turns.{with_running}
use Rattle.b67_session.specs.Counts.{IsCounted}
use Rattle.b67_session.specs.Ends.{Finishes}
use Rattle.b67_mcp.specs.Called.{IsCalled, HoldsOther, is_emptied, is_resized, is_new}
use Rattle.b67_session.specs.AttemptStops.{Stop}
use Rattle.b67_session.specs.declared.tries.Tried.{Tried}
use Rattle.b67_session.specs.declared.tries.Tried.TheVariants as tries
use Rattle.b67_session.specs.Attempts.{WantsNothing, KeepsAreas, AddsNoArea, CallKeepsAreas, EndsByRow, TablesStay}
use Rattle.b67_session.specs.Slices.{GoesOnAlone, StepKeepsAreas, GoesOnWith, of_record, by_call, StepLeaves}
use Rattle.b67_session.proofs.StepsLeave.{EndsEach, rests}
use Rattle.b67_session.specs.Steps.{EndsStep}
use Rattle.b67_session.proofs.Halved.{kept}
use Rattle.b67_session.proofs.Lively.{Stays}
use Rattle.b67_session.proofs.Made.{half, half_ordered, half_stands}

-- where there is no last part, nothing is done
no_more : {K : Type 0} (taken : K → Option (List ℕ)) (x : Storage) (told : Option (List (List ℕ))) (plan : Placement) (h : Session) (o : Option StepResult) → o ≡ None → (result : Result (Unit {0}) Failed) (old new : Machine) (paper paper' : K) → Finishes taken x told plan h o result old new paper paper' → new ≡ old
no_more taken x told plan h o e result old new paper paper' f = grind arith

-- the running task's slot doesn't matter
same_places : (slot : ℕ) (x y : Storage) (plan placed : Placement) (m : SessionJob) (t : Task) (job : Job) → KeepsAreas x y (with_running plan slot) placed m t job → KeepsAreas x y plan placed m t job
same_places slot x y plan placed m t job keeps = λ no_process home some gone other. keeps no_process home some gone (λ held. other (held_there home held)) where
  held_there : (home : ℕ) → HoldsOther (with_running plan slot) placed m t job home → HoldsOther plan placed m t job home
  held_there home (is_emptied a called among is at) = is_emptied a called among is at
  held_there home (is_new called at) = is_new called at
  held_there home (is_resized a called among touched at) = is_resized a called among touched at

same_none : (slot : ℕ) (x y : Storage) (plan placed : Placement) (m : SessionJob) (t : Task) (job : Job) → AddsNoArea x y (with_running plan slot) placed m t job → AddsNoArea x y plan placed m t job
same_none slot x y plan placed m t job adds = λ no_process home none gone other. adds no_process home none gone (λ held. other (held_there home held)) where
  held_there : (home : ℕ) → HoldsOther (with_running plan slot) placed m t job home → HoldsOther plan placed m t job home
  held_there home (is_emptied a called among is at) = is_emptied a called among is at
  held_there home (is_new called at) = is_new called at
  held_there home (is_resized a called among touched at) = is_resized a called among touched at

-- what is held in an area stays there, and nothing else comes into one
same_area : (x y : Storage) (plan placed : Placement) (m : SessionJob) (t : Task) (job : Job) → KeepsAreas x y plan placed m t job → AddsNoArea x y plan placed m t job
    → called_in m t ≢ Some 12 → (home : ℕ) → (HasHome (objects_gone plan m job) home → ⊥) → (HoldsOther plan placed m t job home → ⊥) → (y.held home).area ≡ (x.held home).area
same_area x y plan placed m t job keeps adds no_process home gone other = by (x.held home).area refl where
  by : (area : Option ℕ) → (x.held home).area ≡ area → (y.held home).area ≡ (x.held home).area
  by None e = adds no_process home e gone other ∙ sym e
  by (Some at) e = keeps no_process home (λ none. none-some at (sym none ∙ e)) gone other

module _ {K : Type 0} (taken : K → Option (List ℕ)) (s : Session) (m : SessionJob) (t : Task) (c : Chosen) (o : IsInOrderButPlaces s) (n : IsNext s m t) (chosen : n.chosen ≡ choice_of c) (ready : t.condition ≡ Ready)
    (x : Storage) (slot : ℕ) (plan : Placement) (told : Option (List (List ℕ))) (before : ℕ) (new last : Machine) (tasks : Tasks) (paper paper' paper'' : K)
    (call : CallKeepsAreas taken x told before (with_running plan slot) s m t new paper paper') (counted : IsCounted c new.tasks tasks)
    (answered : Result (Unit {0}) Stop) (each : EndsEach taken answered (record new { tasks = tasks }) last paper' paper'') where
  abbrev called : IsCalled taken paper paper' told s m t before new
  called = call.0

  abbrev keeps : Stays m.progress.job.tasks called.job.tasks × (called.job.next_task ≤ m.progress.job.next_task + 1)
  keeps = kept s m t n o called.job called.printed called.touched called.is

  abbrev part : StepResult
  part = half s m t c o n chosen ready called.job called.printed called.touched called.is keeps.0 keeps.1

  first : first_part s ≡ Some part
  first = first_by s m t n (Ok (Goes called.job called.printed called.touched)) called.is

  stands : MachineRepresents called.storage told (record new { tasks = tasks }) called.plan part.session
  stands = half_stands s m t c o n chosen ready called.job called.printed called.touched called.is keeps.0 keeps.1 called.storage new called.plan tasks counted called.stands

  ordered : IsInOrderButLimit part.session
  ordered = half_ordered s m t c o n chosen ready called.job called.printed called.touched called.is keeps.0 keeps.1

  ended : EndsStep taken called.storage told called.plan part.session answered (record new { tasks = tasks }) last paper' paper''
  ended = each called.storage told called.plan part.session ordered stands

  -- where nothing is wanted, also if it meets its job's limit
  pub goes_on_leaves : WantsNothing x plan m t → StepLeaves x plan s m t last
  goes_on_leaves wants =
      let r = rests taken s part first ordered called.storage told called.plan (record new { tasks = tasks }) last paper' paper'' answered stands each in
      let f = r.stands in
      let goes : GoesOnWith m t called.job = record { printed = called.printed; touched = called.touched; is = called.is } in
      let stays = same_places slot x called.storage plan called.plan m t called.job call.1 in
      let adds = same_none slot x called.storage plan called.plan m t called.job (call.2 (record { code = wants.code; array = wants.array })) in
      record {
        told = told;
        session = r.session;
        is = r.is;
        stands = f.whole;
        placed = called.plan;
        areas = λ no_process u i other.
            ap (λ (z : Location). z.area) (f.left.held u i)
            ∙ same_area x called.storage plan called.plan m t called.job stays adds no_process u.home (λ gone. other (of_record called.job goes gone)) (λ held. other (by_call called.job goes held));
        ends = λ ends. absurd (ends called.job goes);
      }

  pub step_keeps_areas : (job : Job) → GoesOnAlone s m t job → StepKeepsAreas x plan s m t job last
  step_keeps_areas job alone =
      let none : last_part part.session ≡ None = alone.below part first in
      let same : last ≡ record new { tasks = tasks } = no_more taken called.storage told called.plan part.session (last_part part.session) none ended.result (record new { tasks = tasks }) last paper' paper'' ended.finishes in
      let next_is : next s ≡ Some part = steps-have-parts s part first ∙ ap (λ (r : Option StepResult). Some (joined part r)) none in
      let is : Ok (Goes called.job called.printed called.touched) ≡ Ok (Goes job alone.printed alone.touched) = sym called.is ∙ alone.is in
      let job_is : called.job ≡ job = cc in
      record {
        told = told;
        storage = called.storage;
        placed = called.plan;
        stands = subst (λ (z : Session). MachineRepresents called.storage told last called.plan z) (sym (ap (after_from 1 s) next_is))
            (subst (λ (k : Machine). MachineRepresents called.storage told k called.plan part.session) (sym same) stands);
        areas = subst (λ (j : Job). KeepsAreas x called.storage plan called.plan m t j) job_is (same_places slot x called.storage plan called.plan m t called.job call.1);
        none_new = λ wants. subst (λ (j : Job). AddsNoArea x called.storage plan called.plan m t j) job_is
            (same_none slot x called.storage plan called.plan m t called.job (call.2 (record { code = wants.code; array = wants.array })));
      }

-- a step that goes on doesn't end its task, and doesn't make it wait
module _ (plan : Placement) (m : SessionJob) (t : Task) (job : Job) (printed : List Line) (touched : Option ℕ) (is : step m.constants m.progress.job t ≡ Ok (Goes job printed touched)) where
  pub goes_on_only : (outcome : Tried) → outcome ≢ tries.Made → EndsByRow plan m t (Ok outcome) → ⊥
  goes_on_only outcome other so = grind arith

-- a step that wasn't made isn't counted
pub stop_made : (stop : Stop) (old new : Tasks) → TablesStay (Err stop) old new → new.made ≡ old.made
stop_made stop old new same = grind arith
