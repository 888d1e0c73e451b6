-- A session in order is so without its counts.
use Rattle.std.proofs.Common.{List, [], ◌∷◌, arith}
use Rattle.std.specs.List.{AllByRecursion}
use Rattle.b67_model.specs.Common.{JobConstants, JobProgress, SessionJob, Session, Starts, IsSegment, JobInOrder, SessionInOrder, IsInOrderButPlaces}
use Rattle.b67_layout.specs.Orders.{JobInOrderButCounts, SessionInOrderButCounts, IsInOrderButCounts}

pub job_but_counts : (P : Starts) (constants : JobConstants) (c : JobProgress) → JobInOrder P constants c → JobInOrderButCounts P constants c
job_but_counts P constants c o = grind arith

jobs_but_counts : (P : JobConstants → Starts) (jobs : List SessionJob) → AllByRecursion (λ (m : SessionJob). JobInOrder (P m.constants) m.constants m.progress) jobs
    → AllByRecursion (λ (m : SessionJob). JobInOrderButCounts (P m.constants) m.constants m.progress) jobs
jobs_but_counts P [] all = tt
jobs_but_counts P (m ∷ more) all = (job_but_counts (P m.constants) m.constants m.progress all.0, jobs_but_counts P more all.1)

session_but_counts : (P : JobConstants → Starts) (s : Session) → SessionInOrder P s → SessionInOrderButCounts P s
session_but_counts P s o = grind (arith, jobs_but_counts)

pub but_counts : (s : Session) → IsInOrderButPlaces s → IsInOrderButCounts s
but_counts s o = session_but_counts IsSegment s o
