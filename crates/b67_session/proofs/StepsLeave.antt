-- After a step what is left lies where it lay.
use Rattle.std.proofs.Common.{◌≡◌, List, ℕ, Option, Some, None, Result, Ok, Err, refl, sym, ap, ◌∙◌, subst, arith}
use Rattle.std.proofs.lemmas.Option.{none-some}
use Rattle.b67_word.specs.declared.faults.Failed.{Failed}
use Rattle.b67_lemmas.specs.Lists.{Has}
use Rattle.b67_model.specs.Common.{IsInOrderButPlaces, StepResult, Session, Task, SessionJob, Stepped, after}
use Rattle.b67_law.specs.Orders.{IsInOrderButLimit, SettlesInOrder}
use Rattle.b67_law.specs.Turns.{IsNext, part_of}
use Rattle.b67_law.proofs.Parts.{first_parts_keep_order}
use Rattle.b67_session_lines.specs.Moments.{first_part, last_part, joined}
use Rattle.b67_session_lines.proofs.Joins.{steps-have-parts}
use Rattle.b67_model.specs.Schedule.{Choice}
use Rattle.b67_stack.specs.MachineView.{PagedObject}
use Rattle.b67_stack.specs.Represents.{Storage}
use Rattle.b67_stack.specs.Shapes.{Location}
use Rattle.b67_layout.specs.Placement.{Placement}
use Rattle.b67_task.specs.declared.tables.Machine.{Machine}
use Rattle.b67_task.specs.Tables.{MachineRepresents}
use Rattle.b67_task.specs.declared.counting.Chosen.{Chosen}
use Rattle.b67_task.specs.Counted.{choice_of}
use Rattle.b67_task.specs.Turns.{with_running}
use Rattle.b67_task.proofs.Replans.{objects-replan}
use Rattle.b67_session.specs.Ends.{StandsInPlace, LeavesInPlace, Finishes}
use Rattle.b67_session.proofs.ByLimit.{reprinted}
use Rattle.b67_session.proofs.InPlace.{in_place_same, in_place_then}
use Rattle.b67_session.specs.AttemptStops.{Stop}
use Rattle.b67_session.specs.Slices.{IsStepOf, in_whole, but_its_limit, StepLeaves}
use Rattle.b67_session.specs.Steps.{EndsStep}

-- what the end of a step promises of each session between its parts
abbrev pub EndsEach : {K : Type 0} → (K → Option (List ℕ)) → Result (Unit {0}) Stop → Machine → Machine → K → K → Type 0
EndsEach taken answered mid last paper paper' =
    (x : Storage) (told : Option (List (List ℕ))) (plan : Placement) (h : Session) → IsInOrderButLimit h → MachineRepresents x told mid plan h → EndsStep taken x told plan h answered mid last paper paper'

-- ---- the last part of a step

-- the machine represents the session after it, or for that before it, and what is left is held as in this storage
pub record Rests (x : Storage) (told : Option (List (List ℕ))) (plan : Placement) (s : Session) (part : StepResult) (last : Machine) : Type 0 where
  pub session : Session
  pub is : IsStepOf s session
  pub stands : StandsInPlace x told last plan part.session session

module _ {K : Type 0} (taken : K → Option (List ℕ)) (s : Session) (part : StepResult) (first : first_part s ≡ Some part) (ordered : IsInOrderButLimit part.session)
    (x : Storage) (told : Option (List (List ℕ))) (plan : Placement) (mid last : Machine) (paper paper' : K) (answered : Result (Unit {0}) Stop)
    (stands : MachineRepresents x told mid plan part.session) (each : EndsEach taken answered mid last paper paper') where
  after_is : (q : Option StepResult) → last_part part.session ≡ q → after 1 s ≡ (joined part q).session
  after_is q e = grind (arith, steps-have-parts)

  -- nothing has moved
  as_before : MachineRepresents x told last plan part.session → StandsInPlace x told last plan part.session part.session
  as_before still = record { whole = record { storage = x; plan = plan; stands = still }; left = in_place_same x plan part.session }

  by_part : (q : Option StepResult) → last_part part.session ≡ q → (result : Result (Unit {0}) Failed) → Finishes taken x told plan part.session q result mid last paper paper' → Rests x told plan s part last
  by_part None e (Ok done) f = record {
    session = part.session;
    is = in_whole (after_is None e);
    stands = as_before (subst (λ (k : Machine). MachineRepresents x told k plan part.session) (sym f.0) stands);
  }
  by_part None e (Err failed) f = absurd f
  by_part (Some rest) e (Ok done) f = record { session = rest.session; is = in_whole (after_is (Some rest) e); stands = f.2 }
  by_part (Some rest) e (Err failed) f = record {
    session = part.session;
    is = but_its_limit part first (λ none. none-some rest (sym none ∙ e)) refl;
    stands = as_before (subst (λ (k : Machine). MachineRepresents x told k plan part.session) (sym f.1) (reprinted x told mid plan part.session last.tasks.printed stands));
  }

  pub rests : Rests x told plan s part last
  rests =
      let ended = each x told plan part.session ordered stands in
      by_part (last_part part.session) refl ended.result ended.finishes

-- ---- a step that ends its task, or makes it wait

-- whose registers are in use doesn't matter
turned_back : (x : Storage) (told : Option (List (List ℕ))) (k : Machine) (plan : Placement) (slot : ℕ) (s after : Session) → StandsInPlace x told k (with_running plan slot) s after → StandsInPlace x told k plan s after
turned_back x told k plan slot s after h =
    let same = objects-replan plan slot s.jobs in
    record { whole = h.whole; left = record { were = λ t i. subst (λ (us : List PagedObject). Has us t) same (h.left.were t i); held = h.left.held } }

module _ {K : Type 0} (taken : K → Option (List ℕ)) (s : Session) (m : SessionJob) (t : Task) (n : IsNext s m t) (o : IsInOrderButPlaces s) (c : Chosen) (chosen : n.chosen ≡ choice_of c) (made : Stepped)
    (settles : SettlesInOrder m.constants m.progress made.alive made.settled) (first : first_part s ≡ Some (part_of s (choice_of c) m t made))
    (x : Storage) (told : Option (List (List ℕ))) (plan : Placement) (slot : ℕ) (closed last : Machine) (paper paper' : K) (answered : Result (Unit {0}) Stop)
    (stands : StandsInPlace x told closed (with_running plan slot) s (part_of s (choice_of c) m t made).session) (each : EndsEach taken answered closed last paper paper') where
  abbrev part : StepResult
  part = part_of s (choice_of c) m t made

  abbrev w : StandsInPlace x told closed plan s part.session
  w = turned_back x told closed plan slot s part.session stands

  ordered : IsInOrderButLimit part.session
  ordered = subst (λ (z : Choice). IsInOrderButLimit (part_of s z m t made).session) chosen (first_parts_keep_order s m t n made o settles)

  pub step_leaves : StepLeaves x plan s m t last
  step_leaves =
      let r = rests taken s part first ordered w.whole.storage told w.whole.plan closed last paper paper' answered w.whole.stands each in
      let f = r.stands in
      let all : LeavesInPlace x f.whole.storage plan f.whole.plan s r.session = in_place_then x w.whole.storage f.whole.storage plan w.whole.plan f.whole.plan s part.session r.session w.left f.left in
      record {
        told = told;
        session = r.session;
        is = r.is;
        stands = f.whole;
        placed = plan;
        areas = λ no_process u i other. ap (λ (z : Location). z.area) (all.held u i);
        ends = λ ends. all;
      }
