-- An operator that was made, as a try that calls no device and prints nothing.
use Rattle.std.proofs.Common.{◌≡◌, ℕ, List, Option, Ok, refl, sym, subst}
use Rattle.b67_model.specs.Common.{Session, SessionJob, Task}
use Rattle.b67_stack.specs.declared.Step.TheVariants as answers
use Rattle.b67_stack.specs.Represents.{Storage}
use Rattle.b67_layout.specs.Common.{IsInOrderButCounts, IsRunning, Placement}
use Rattle.b67_exec_cells.specs.Running.{code_area}
use Rattle.b67_task.specs.declared.tables.Machine.{Machine}
use Rattle.b67_task.specs.Tables.{MachineRepresents}
use Rattle.b67_mcp.specs.Called.{IsCalled}
use Rattle.b67_mcp.proofs.Told.{told_is}
use Rattle.b67_session.specs.declared.tries.Tried.TheVariants.{Made}
use Rattle.b67_session.specs.Makes.{MakesInSegment}
use Rattle.b67_session.specs.Tries.{TryRow, LeavesAreas}
use Rattle.b67_session.proofs.AttemptFits.{was_operator, made_touches, operator_fits}
use Rattle.b67_session.proofs.Trying.{was_made, called_made}

pub done_tries : {D K : Type 0} (holds : D → Option (List (List ℕ))) (taken : K → Option (List ℕ)) (count : ℕ) (device : D) (paper : K) (x : Storage) (told : Option (List (List ℕ))) (plan : Placement) (s : Session) (m : SessionJob) (t : Task) (old new : Machine)
    → IsInOrderButCounts s → MachineRepresents x told old plan s → IsRunning plan s.jobs m t → new.tasks ≡ old.tasks → MakesInSegment x told plan s m t answers.Done old new
    → TryRow holds taken count x told plan s m t (Ok Made) old new device device paper paper
done_tries holds taken count device paper x told plan s m t old new o h runs tables row =
    let is = was_operator x told plan s m t answers.Done old new (code_area x plan m t) refl (λ e. absurd cc) (λ n e. absurd cc) row in
    let made = was_made x told plan s m t old new (code_area x plan m t) row in
    let P : Option (List (List ℕ)) → Type 0 = λ d. (q : IsCalled taken paper paper d s m t old.tasks.printed new) × LeavesAreas x q.storage plan q.plan m t q.job in
    record {
      row = λ says. subst P (sym (told_is told (holds device) says)) (called_made taken paper x told plan s m t old new o runs is.1 tables made);
      fits = operator_fits x told plan s m t o runs old h is (made_touches x told plan s m t o runs old new made);
      quiet = λ none. refl;
    }
