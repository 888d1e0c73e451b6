-- What a whole step of the running task keeps, where its operator calls no intrinsic.
use Rattle.std.proofs.Common.{◌≡◌, ◌≢◌, ℕ, ◌<◌, List, [], Option, None, Ok, refl, arith, false, inl, inr}
use Rattle.b67_word.specs.declared.couples.Place.{Place}
use Rattle.b67_model.specs.declared.operators.Op.{Op}
use Rattle.b67_model.specs.Common.{Frame, Task, Job, SessionJob, top, Line, Goes, is_critical, row, Session, IsSegment, called}
use Rattle.b67_layout.specs.Common.{IsInOrderButCounts, Placement, IsRunning, here}
use Rattle.b67_layout.proofs.Common.{running_in_order, critical-below, fresh, IsDependedOn}
use Rattle.b67_layout.proofs.Leaves.{depended_apart}
use Rattle.b67_session.proofs.Places.{AllSame}
use Rattle.b67_session.proofs.Keeps.{row_keeps}

-- the job afterwards, but for its arrays and its next frame and array
pub record JobKept (m : SessionJob) (t : Task) (after : Job) : Type 0 where
  pub tasks : AllSame (IsDependedOn m.progress.job) t.number m.progress.job.tasks after.tasks
  pub next_task : after.next_task ≡ m.progress.job.next_task
  pub numbers : after.numbers ≡ m.progress.job.numbers

module _ (plan : Placement) (s : Session) (m : SessionJob) (t : Task) (o : IsInOrderButCounts s) (runs : IsRunning plan s.jobs m t) where
  some : t.frames ≢ []
  some = (running_in_order plan s m t o runs).1.some

  low : (c : ℕ) → IsDependedOn m.progress.job c → c < m.progress.job.next_frame
  low c (inl e) = let n = (fresh plan s m t o runs).some in omega (arith, e, n)
  low c (inr (u, h, e)) =
      let b = critical-below (IsSegment m.constants) m.constants m.progress.job (running_in_order plan s m t o runs).0.tasks u h in omega (arith, b, e)

  apart_at : (fs : List Frame) → t.frames ≡ fs → (c : ℕ) → IsDependedOn m.progress.job c → is_critical m.progress.job (top fs).identity ≡ false → c ≢ (top fs).identity
  apart_at fs frames c d free = grind (arith, some, depended_apart)

  apart : (c : ℕ) → IsDependedOn m.progress.job c → is_critical m.progress.job (top t.frames).identity ≡ false → c ≢ (top t.frames).identity
  apart = apart_at t.frames refl

  -- an operator that calls no intrinsic
  pub row_kept : (op : Op) (q : Place) → called op (here m t q) ≡ None → (after : Job) (printed : List Line) (touched : Option ℕ) → row op (here m t q) ≡ Ok (Goes after printed touched) → JobKept m t after
  row_kept op q e after printed touched is =
      let k = row_keeps (IsDependedOn m.progress.job) op m t q runs.task some low apart e after printed touched is in
      record { tasks = k.0; next_task = k.1; numbers = k.2 }
