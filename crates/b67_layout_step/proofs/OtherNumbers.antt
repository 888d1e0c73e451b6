-- Other numbers in segments and arrays keep the order of a session but for its counts.
use Rattle.std.proofs.Common.{List, [], ◌∷◌, sym, subst, arith}
use Rattle.std.specs.List.{AllByRecursion}
use Rattle.b67_model.specs.Common.{SessionJob, Session, IsSegment}
use Rattle.b67_law.specs.Weaker.{AllOtherNumbers}
use Rattle.b67_law.proofs.Sessions.{setting_up, tasks_up, numbered_up, sizes_up, count_up, sum_up}
use Rattle.b67_layout.specs.Orders.{JobInOrderButCounts, IsInOrderButCounts}

abbrev Good : SessionJob → Type 0
Good m = JobInOrderButCounts (IsSegment m.constants) m.constants m.progress

jobs_up : (ms ns : List SessionJob) → AllOtherNumbers ms ns → AllByRecursion Good ms → AllByRecursion Good ns
jobs_up [] [] h o = o
jobs_up (m ∷ ms) (n ∷ ns) h o = (
  subst Good (sym h.0.rest) (record {
    unchanging = setting_up m n.constants.segments n.progress.job.arrays h.0.segments h.0.arrays o.0.unchanging;
    tasks = tasks_up m n.constants.segments n.progress.job.arrays h.0.segments h.0.arrays o.0.tasks;
    few_born = o.0.few_born;
  }),
  jobs_up ms ns h.1 o.1,
)
jobs_up [] (n ∷ ns) h o = absurd h
jobs_up (m ∷ ms) [] h o = absurd h

pub others_in_order : (s : Session) (jobs : List SessionJob) → AllOtherNumbers s.jobs jobs → IsInOrderButCounts s → IsInOrderButCounts (record s { jobs = jobs })
others_in_order s jobs h o = grind (arith, count_up, numbered_up, sizes_up, jobs_up, sum_up)
