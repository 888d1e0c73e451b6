-- The next frame's identity is free: no live task depends on it, and it isn't the MCP's.
use Rattle.std.proofs.Common.{◌≡◌, ◌≢◌, ℕ, ◌<◌, List, [], ◌∷◌, ◌++◌, map, refl, arith, false, ◌==◌, inl, inr}
use Rattle.std.specs.List.{list_any}
use Rattle.std.proofs.lemmas.Bool.{ne_eqb}
use Rattle.b67_lemmas.specs.Lists.{Has, Falls}
use Rattle.b67_lemmas.proofs.Members.{all_in, falls_low, keyed_has}
use Rattle.b67_model.specs.Common.{Frame, Task, JobConstants, Job, SessionJob, is_critical, number_of, Session, Starts, IsSegment, Known, known_of, known_numbers, identities, outer_of, reach_of, BirthInOrder, TaskInOrder, TasksInOrder}
use Rattle.b67_layout.specs.Common.{JobInOrderButCounts, IsInOrderButCounts, Placement, IsRunning}
use Rattle.b67_layout.proofs.Steps.{IsFree}

pub has-number : (fs : List Frame) (outer : List Known) (n : ℕ) → Has (identities fs) n → Has (known_numbers (map known_of fs ++ outer)) n
has-number [] outer n h = absurd h
has-number (f ∷ below) outer n (inl e) = inl e
has-number (f ∷ below) outer n (inr h) = inr (has-number below outer n h)

first-below : (bound : ℕ) (fs : List Frame) (outer : List Known) → fs ≢ [] → Falls bound (known_numbers (map known_of fs ++ outer)) → 0 < bound
first-below bound [] outer some f = absurd (some refl)
first-below bound (g ∷ below) outer some f = omega (arith, f.0)

-- a member of a session in order is in order, and so are the tasks of one
pub job_in_order : (s : Session) (m : SessionJob) → IsInOrderButCounts s → Has s.jobs m → JobInOrderButCounts (IsSegment m.constants) m.constants m.progress
job_in_order s m o h = all_in (λ (y : SessionJob). JobInOrderButCounts (IsSegment y.constants) y.constants y.progress) s.jobs m o.jobs h

pub running_in_order : (plan : Placement) (s : Session) (m : SessionJob) (t : Task) → IsInOrderButCounts s → IsRunning plan s.jobs m t → JobInOrderButCounts (IsSegment m.constants) m.constants m.progress × TaskInOrder (IsSegment m.constants) m.constants m.progress.job t
running_in_order plan s m t o runs =
    let j = job_in_order s m o (keyed_has number_of m.constants.number s.jobs m runs.member).0 in
    (j, all_in (TaskInOrder (IsSegment m.constants) m.constants m.progress.job) m.progress.job.tasks t j.tasks.tasks (keyed_has (λ (u : Task). u.number) t.number m.progress.job.tasks t runs.task).0)

module _ (P : Starts) (constants : JobConstants) (job : Job) (o : TasksInOrder P constants job) where
  task_in_order : (u : Task) → Has job.tasks u → TaskInOrder P constants job u
  task_in_order u h = all_in (TaskInOrder P constants job) job.tasks u o.tasks h

  by_birth : (u : Task) (parents : List ℕ) → 0 < job.next_frame → BirthInOrder job u parents → u.critical < job.next_frame
  by_birth u [] low b = omega (arith, b.1)
  by_birth u (parent ∷ above) low b =
      let p = task_in_order b.parent (keyed_has (λ (v : Task). v.number) parent job.tasks b.parent b.found).0 in
      falls_low job.next_frame (known_numbers (reach_of job b.parent)) u.critical p.falls (has-number b.parent.frames (outer_of job b.parent) u.critical b.is_critical)

  pub critical-below : (u : Task) → Has job.tasks u → u.critical < job.next_frame
  critical-below u h = grind (arith, task_in_order, by_birth, first-below)

  pub next_is_free : (t : Task) → Has job.tasks t → IsFree job job.next_frame
  next_is_free t h = grind (arith, critical-below)

none_critical : (n : ℕ) (ts : List Task) → ((u : Task) → Has ts u → u.critical ≢ n) → list_any (λ (u : Task). u.critical == n) ts ≡ false
none_critical n [] apart = refl
none_critical n (u ∷ us) apart = rw (ne_eqb u.critical n (apart u (inl refl))) (none_critical n us (λ v h. apart v (inr h)))

pub free-uncritical : (job : Job) (n : ℕ) → IsFree job n → is_critical job n ≡ false
free-uncritical job n free = none_critical n job.tasks free.uncritical

-- in a session in order
pub fresh : (plan : Placement) (s : Session) (m : SessionJob) (t : Task) → IsInOrderButCounts s → IsRunning plan s.jobs m t → IsFree m.progress.job m.progress.job.next_frame
fresh plan s m t o runs =
    next_is_free (IsSegment m.constants) m.constants m.progress.job (job_in_order s m o (keyed_has number_of m.constants.number s.jobs m runs.member).0).tasks t (keyed_has (λ (u : Task). u.number) t.number m.progress.job.tasks t runs.task).0
