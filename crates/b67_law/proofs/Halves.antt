-- What the attempt at an operator leaves, once it is counted: a step whose first part was made.
use Rattle.std.proofs.Common.{◌≡◌, ℕ, List, map, Option, Some, ap, ◌∙◌, append-nil, arith}
use Rattle.b67_model.specs.Common.{Answer, stepped, settles, deadlocked, unsettled, step, of_job, Session, Task, Job, SessionJob, Line, Done}
use Rattle.b67_model.specs.Endings.{goes_on}
use Rattle.b67_session_lines.specs.Moments.{first_part, first_part_by, first_part_in, first_part_of}
use Rattle.b67_law.specs.Turns.{IsNext, part_of}

-- the first part of a session's step, by what its row answers
module _ (s : Session) (m : SessionJob) (t : Task) (n : IsNext s m t) where
  pub first_is : first_part s ≡ Some (part_of s n.chosen m t (stepped m.constants m.progress.job t))
  unfolding first_part
  first_is = ap (first_part_by s) n.is ∙ ap (first_part_in s n.chosen) n.member ∙ ap (first_part_of s n.chosen m) n.task

  pub first_by : (answer : Answer Done) → step m.constants m.progress.job t ≡ answer → first_part s ≡ Some (part_of s n.chosen m t (settles m.progress.job t answer))
  unfolding stepped
  first_by answer e = first_is ∙ ap (λ (a : Answer Done). Some (part_of s n.chosen m t (settles m.progress.job t a))) e

  -- an operator after which a task is ready prints its own lines alone
  pub open_lines : (job : Job) (printed : List Line) (touched : Option ℕ) → deadlocked (unsettled job) ≡ unsettled job
      → (part_of s n.chosen m t (goes_on job printed touched)).lines ≡ of_job n.chosen.who.job (map (λ line. (t.number, line)) printed)
  open_lines job printed touched e = grind (arith, append-nil)
