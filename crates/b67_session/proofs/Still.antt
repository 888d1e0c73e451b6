-- A step that calls no intrinsic starts no task.
use Rattle.std.proofs.Common.{◌≡◌, ℕ, length, List, Option, Some, None, Ok, Err, sym, ◌∙◌, ap}
use Rattle.std.proofs.lemmas.List.{length-map}
use Rattle.b67_model.specs.declared.operators.Op.{Op}
use Rattle.b67_model.specs.Common.{Reading, Task, Job, SessionJob, OperatorContext, Line, Done, Goes, Leaves, Waits, started_by, row, reading_of, step_by, step, called}
use Rattle.b67_model.specs.Keyed.{keyed}
use Rattle.b67_law.proofs.Posts.{Post, post_err, post_more, post_is, post_at}
use Rattle.b67_law.specs.Profiles.{profile, IsKnown}
use Rattle.b67_law.proofs.Lemmas.{rows_keep}
use Rattle.b67_exec_cells.specs.Called as operators
use Rattle.b67_exec_cells.specs.Called.{called_in}
use Rattle.b67_layout.specs.Meets.{here}
use Rattle.b67_mcp.proofs.Still.{Still, starts_none}
use Rattle.b67_session.proofs.Started.{known_in}

-- other operators keep the profiles of all tasks
kept : (op : Op) (h : OperatorContext) → IsKnown h → called op h ≡ None → Post (Still (length h.job.tasks)) (row op h)
kept op h known none_called = post_more (λ (x : Done). row op h ≡ Ok x) (Still (length h.job.tasks)) (row op h) by (post_is (row op h)) where
  by : (x : Done) → row op h ≡ Ok x → Still (length h.job.tasks) x
  by (Goes after printed touched) is =
      sym (length-map after.tasks profile) ∙ ap length (rows_keep op h known none_called after printed touched is).0 ∙ length-map h.job.tasks profile
  by Leaves is = tt
  by (Waits condition) is = tt

module _ (m : SessionJob) (t : Task) (here_is : keyed (λ (u : Task). u.number) t.number m.progress.job.tasks ≡ Some t) where
  by_reading : (r : Reading) → operators.called_by_reading m t r ≡ None → Post (Still (length m.progress.job.tasks)) (step_by m.constants m.progress.job t r)
  by_reading (Err why) none = post_err (Still (length m.progress.job.tasks)) _
  by_reading (Ok read) none = kept read.0 (here m t read.1) (known_in t.number m.progress.job.tasks t here_is) none

  step_still : called_in m t ≡ None → Post (Still (length m.progress.job.tasks)) (step m.constants m.progress.job t)
  unfolding step
  step_still none = by_reading (reading_of m.constants t) none

  pub operator_starts : called_in m t ≡ None → started_by m.progress.job (step m.constants m.progress.job t) ≡ 0
  operator_starts none = starts_none m.progress.job (step m.constants m.progress.job t) (step_still none)

  -- what it makes has as many tasks
  pub operator_many : called_in m t ≡ None → (job : Job) (printed : List Line) (touched : Option ℕ) → step m.constants m.progress.job t ≡ Ok (Goes job printed touched) → length job.tasks ≡ length m.progress.job.tasks
  operator_many none job printed touched is = post_at (Still (length m.progress.job.tasks)) (step m.constants m.progress.job t) (Goes job printed touched) is (step_still none)
