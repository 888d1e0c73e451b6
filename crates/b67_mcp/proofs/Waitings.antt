-- A call by which tasks wait for each other, as the step that it is.
use Rattle.std.proofs.Common.{◌≡◌, ◌≢◌, ℕ, List, [], length, Option, Some, None, Result, Ok, Err, refl, sym, ◌∙◌, ap, arith}
use Rattle.b67_word.specs.declared.couples.Place.{Place}
use Rattle.b67_word.specs.declared.faults.Fault.{Fault}
use Rattle.b67_model.specs.Common.{Answer, Task, Job, SessionJob, Done, Goes, Leaves, Waits, Call, step, Session}
use Rattle.b67_layout.specs.Common.{IsInOrderButCounts, Placement, here}
use Rattle.b67_stack.specs.Represents.{Storage}
use Rattle.b67_task.specs.declared.tables.TaskState.{TaskState}
use Rattle.b67_task.specs.declared.tables.Machine.{Machine}
use Rattle.b67_mcp.specs.Events.{GoesOn, WaitMeets, DoneMeets}
use Rattle.b67_mcp.specs.declared.ends.CallEnd.{CallEnd}
use Rattle.b67_mcp.specs.declared.ends.CallEnd.TheVariants as ends
use Rattle.b67_mcp.specs.Called.{StartsTask, CallTouches, CallFits}
use Rattle.b67_mcp.specs.Answers.{SilentMeets, call_end_of, waiting_end}
use Rattle.b67_mcp.proofs.Callings.{Calling}
use Rattle.b67_mcp.proofs.Present.{faults_untouched, made_untouched}
use Rattle.b67_mcp.proofs.Still.{stands_peak}

-- what the call answers, touches and needs
pub record Answers (told : Option (List (List ℕ))) (core : ℕ) (x : Storage) (plan : Placement) (s : Session) (m : SessionJob) (t : Task) (end : CallEnd) (old new : Machine) : Type 0 where
  pub meets : (count : ℕ) → SilentMeets x told count plan s m t (Ok end) old new
  pub touches : CallTouches x plan m t (Ok end)
  pub fits : CallFits core s m t (Ok end)

-- one answer goes on in one job
abbrev job_in : Job → Answer Done → Job
job_in none (Ok (Goes job printed touched)) = job
job_in none (Ok Leaves) = none
job_in none (Ok (Waits condition)) = none
job_in none (Err fault) = none

module _ (x : Storage) (told : Option (List (List ℕ))) (plan : Placement) (s : Session) (m : SessionJob) (t : Task) (o : IsInOrderButCounts s) (old new : Machine) (core n : ℕ) (k : Calling m t n) (other : n ≢ 10)
    (row : Call) (is : step m.constants m.progress.job t ≡ row (here m t k.next) k.arguments) where
  made : GoesOn row x told plan s m t k.next k.arguments old new → Answers told core x plan s m t ends.Done old new
  made g =
      let step_is = is ∙ g.is in
      record {
        meets = λ count. (record { job = g.job; is = step_is; storage = x; plan = plan; stands = stands_peak x told new plan s m g.job o.peak_low g.same g.stands; printed = g.printed }, λ no_process home none. refl);
        touches = made_untouched m t x plan g.job [] step_is;
        fits = λ (a : StartsTask m t). absurd (let both : g.job ≡ a.job = ap (job_in g.job) (sym step_is ∙ a.is) in let more = a.more in let z : ⊥ = omega (arith, ap (λ (j : Job). length j.tasks) both, more, g.same) in z);
      }

  faulted : (fault : Fault) → row (here m t k.next) k.arguments ≡ Err fault → new ≡ old → Answers told core x plan s m t (ends.Fault fault) old new
  faulted fault e same = record { meets = λ count. (is ∙ e, same); touches = faults_untouched m t x plan n other k fault (is ∙ e); fits = tt }

  waits_so : (done : Result (Option TaskState) Fault) → WaitMeets row x told plan s m t k.next k.arguments done old new → Answers told core x plan s m t (waiting_end done) old new
  waits_so (Ok None) g = made g
  waits_so (Ok (Some state)) g = record { meets = λ count. (record { condition = g.0.condition; is = is ∙ g.0.is; shows = g.0.shows }, g.1); touches = tt; fits = tt }
  waits_so (Err fault) g = faulted fault g.0 g.1

  done_so : (done : Result (Unit {0}) Fault) → DoneMeets row x told plan s m t k.next k.arguments done old new → Answers told core x plan s m t (call_end_of done) old new
  done_so done g = grind (arith, made, faulted)

  -- at the place behind the call
  pub waits_at : (next : Place) → next ≡ k.next → (done : Result (Option TaskState) Fault) (end : CallEnd) → end ≡ waiting_end done → WaitMeets row x told plan s m t next k.arguments done old new → Answers told core x plan s m t end old new
  waits_at next same done end is_end g = grind (arith, waits_so)

  pub done_at : (next : Place) → next ≡ k.next → (done : Result (Unit {0}) Fault) (end : CallEnd) → end ≡ call_end_of done → DoneMeets row x told plan s m t next k.arguments done old new → Answers told core x plan s m t end old new
  done_at next same done end is_end g = grind (arith, done_so)
