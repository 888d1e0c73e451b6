-- Where the couples of a running task lead.
use Rattle.std.proofs.Common.{ℕ, ◌<◌, ◌^◌, Ok, Err, refl, arith}
use Rattle.b67_model.specs.Common.{Answer, Name, Task, JobConstants, Job, OperatorContext, End, chase, Starts, IsSegment, IsStart, TaskInOrder}
use Rattle.b67_law.specs.Ends.{EndInOrder, StepsFrom, EndsInOrder, CouplesEndInOrder}
use Rattle.b67_law.proofs.Posts.{Post}
use Rattle.b67_law.proofs.Looks.{Run}
use Rattle.b67_law.proofs.Chases.{chase_in}
use Rattle.b67_lemmas.proofs.Members.{all_in, keyed_has}

abbrev pub at_place : JobConstants → Job → Task → OperatorContext
at_place constants job task = record { constants = constants; job = job; task = task; at = task.place }

pub run_of : (P : Starts) (constants : JobConstants) (job : Job) (task : Task) → StepsFrom P constants job task → Run P (at_place constants job task)
run_of P constants job task s = record {
  unchanging = s.unchanging;
  order = s.order;
  found = task;
  running = s.live;
  same = refl;
  place = (all_in (TaskInOrder P constants job) job.tasks task s.order.tasks (keyed_has (λ t. t.number) task.number job.tasks task s.live).0).place;
  ready = s.ready;
}

ends_by : (P : Starts) (h : OperatorContext) (a : Answer End) → Post (EndInOrder P h) a → EndsInOrder P h a
ends_by P h a g = grind arith

couple_ends : (P : Starts) (constants : JobConstants) (job : Job) (task : Task) (couple : ℕ) → couple < 2 ^ 14 → StepsFrom P constants job task → EndsInOrder P (at_place constants job task) (chase (at_place constants job task) (Name couple))
couple_ends P constants job task couple low s = ends_by P (at_place constants job task) (chase (at_place constants job task) (Name couple)) (chase_in P (at_place constants job task) (run_of P constants job task s) (Name couple) low)

pub couples_end_in_order : CouplesEndInOrder
couples_end_in_order constants job task couple low = (couple_ends (IsSegment constants) constants job task couple low, couple_ends (IsStart constants) constants job task couple low)
