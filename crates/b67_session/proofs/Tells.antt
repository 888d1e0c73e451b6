-- Which sum a full device is told.
use Rattle.std.proofs.Common.{ℕ, inl, inr}
use Rattle.b67_model.specs.Common.{Task, SessionJob, Session}
use Rattle.b67_stack.specs.Represents.{Storage}
use Rattle.b67_layout.specs.Placement.{Placement}
use Rattle.b67_session.specs.Attempts.{TakesSectors, TellsSectors, for_want, for_task, for_length}

-- the sum that is told is one that the session takes, or takes then
pub takes_of : (exact : Type 0) (x : Storage) (plan : Placement) (s : Session) (m : SessionJob) (t : Task) (sum : ℕ) → TellsSectors exact x plan s m t sum → TakesSectors s m t sum
takes_of exact x plan s m t sum (for_want lacks is) = inl is
takes_of exact x plan s m t sum (for_task starts is) = inl is
takes_of exact x plan s m t sum (for_length longer room is) = inr (longer, is)

-- what is said of a device that tells holds of one that tells less
pub tells_weaker : (exact other : Type 0) → (other → exact) → (x : Storage) (plan : Placement) (s : Session) (m : SessionJob) (t : Task) (sum : ℕ) → TellsSectors exact x plan s m t sum → TellsSectors other x plan s m t sum
tells_weaker exact other f x plan s m t sum (for_want lacks is) = for_want (λ e. lacks (f e)) is
tells_weaker exact other f x plan s m t sum (for_task starts is) = for_task starts is
tells_weaker exact other f x plan s m t sum (for_length longer room is) = for_length longer room is
