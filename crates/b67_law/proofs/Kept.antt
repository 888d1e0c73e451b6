-- The row of an operator whose parameters fit.
use Rattle.std.proofs.Common.{Ok, Err, refl, arith}
use Rattle.b67_word.specs.declared.couples.Place.{Place}
use Rattle.b67_model.specs.Common.{Answer, Task, JobConstants, Job, OperatorContext, Done, Goes, Leaves, Waits, branches, row, Starts, IsSegment, IsStart, TaskInOrder}
use Rattle.b67_law.specs.Ends.{StepsFrom}
use Rattle.b67_law.proofs.Posts.{Post}
use Rattle.b67_law.proofs.Looks.{Run}
use Rattle.b67_law.proofs.RowSteps.{Keeps}
use Rattle.b67_law.proofs.Rows.{row_good}
use Rattle.b67_law.specs.Keeping.{KeepsOrder, RowKeepsOrder, EachRowKeepsOrder}
use Rattle.b67_lemmas.proofs.Members.{all_in, keyed_has}

-- where an operator is made
abbrev pub here : JobConstants → Job → Task → Place → OperatorContext
here constants job task next = record { constants = constants; job = job; task = record task { place = next }; at = task.place }

pub keeps : (P : Starts) (constants : JobConstants) (job : Job) (task : Task) (next : Place) (a : Answer Done) → Post (Keeps P (here constants job task next)) a → KeepsOrder P constants job task a
keeps P constants job task next a g = grind arith

pub starts_run : (P : Starts) (constants : JobConstants) (job : Job) (task : Task) (next : Place) → StepsFrom P constants job task → Run P (branches (here constants job task next) task.place)
starts_run P constants job task next s = record {
  unchanging = s.unchanging;
  order = s.order;
  found = task;
  running = s.live;
  same = refl;
  place = (all_in (TaskInOrder P constants job) job.tasks task s.order.tasks (keyed_has (λ t. t.number) task.number job.tasks task s.live).0).place;
  ready = s.ready;
}

row_keeps : (P : JobConstants → Starts) → RowKeepsOrder P
row_keeps P constants job task op next s after parameters = keeps (P constants) constants job task next (row op (here constants job task next)) (row_good (P constants) (here constants job task next) (starts_run (P constants) constants job task next s) s.few op after parameters)

pub each_row_keeps_order : EachRowKeepsOrder
each_row_keeps_order = (row_keeps IsSegment, row_keeps IsStart)
