-- The session after an operator of the running task, which is ready, has its frames in order.
use Rattle.std.proofs.Common.{◌≡◌, ℕ, List, Option, Ok, sym, ◌∙◌, true, inl, inr, ◌⊎◌, subst, arith}
use Rattle.std.proofs.lemmas.Bool.{true≢false}
use Rattle.b67_word.specs.declared.couples.Place.{Place}
use Rattle.b67_model.specs.declared.operators.Op.{Op}
use Rattle.b67_model.specs.Common.{Ready, Task, Job, SessionJob, Line, Goes, may_be_last, row, number_of, Session, IsSegment, FramesInOrder, outer_of, TaskInOrder, TasksInOrder}
use Rattle.b67_lemmas.specs.Lists.{Has}
use Rattle.b67_lemmas.proofs.Members.{all_in}
use Rattle.b67_layout.specs.Common.{IsInOrderButCounts, Placement, IsRunning, here, with_job}
use Rattle.b67_law.specs.Ends.{StepsFrom}
use Rattle.b67_law.specs.Parameters.{ParametersFit}
use Rattle.b67_law.proofs.Kept.{each_row_keeps_order}
use Rattle.b67_layout.proofs.Common.{job_in_order, running_in_order, change-has}

module _ (plan : Placement) (s : Session) (m : SessionJob) (t : Task) (o : IsInOrderButCounts s) (runs : IsRunning plan s.jobs m t) (ready : t.condition ≡ Ready) where
  steps_from : StepsFrom (IsSegment m.constants) m.constants m.progress.job t
  steps_from =
      let j = (running_in_order plan s m t o runs).0 in
      record { unchanging = j.unchanging; order = j.tasks; live = runs.task; ready = ready; few = j.few_born }

  -- the job after an operator that may stand last in its segment
  pub job_after : (op : Op) (q : Place) → may_be_last op ≡ true → ParametersFit (IsSegment m.constants) (here m t q) op → (job : Job) (printed : List Line) (touched : Option ℕ)
      → row op (here m t q) ≡ Ok (Goes job printed touched) → TasksInOrder (IsSegment m.constants) m.constants job
  job_after op q last fits job printed touched is =
      let kept = each_row_keeps_order.0 m.constants m.progress.job t op q steps_from (λ no. absurd (true≢false (sym last ∙ no))) fits in
      grind arith

  frames_of : (y : SessionJob) → TasksInOrder (IsSegment y.constants) y.constants y.progress.job → (u : Task) → Has y.progress.job.tasks u → FramesInOrder (IsSegment y.constants) y.progress.job.arrays (outer_of y.progress.job u) u.frames
  frames_of y k u h = (all_in (TaskInOrder (IsSegment y.constants) y.constants y.progress.job) y.progress.job.tasks u k.tasks h).frames

  pub frames_after : (job : Job) → TasksInOrder (IsSegment m.constants) m.constants job → (y : SessionJob) (u : Task) → Has (with_job s m job).jobs y → Has y.progress.job.tasks u
      → FramesInOrder (IsSegment y.constants) y.progress.job.arrays (outer_of y.progress.job u) u.frames
  frames_after job k y u iny inu = by (change-has number_of m.constants.number (λ (z : SessionJob). record z { progress = record m.progress { job = job } }) s.jobs m runs.member y iny) where
    after : SessionJob
    after = record m { progress = record m.progress { job = job } }

    by : Has s.jobs y ⊎ (y ≡ record m { progress = record m.progress { job = job } }) → FramesInOrder (IsSegment y.constants) y.progress.job.arrays (outer_of y.progress.job u) u.frames
    by (inl h) = frames_of y (job_in_order s y o h).tasks u inu
    by (inr e) = frames_of y (subst (λ (z : SessionJob). TasksInOrder (IsSegment z.constants) z.constants z.progress.job) (sym e) k) u inu
