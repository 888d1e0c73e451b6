-- What EXIT answers by the case of the top frame.
use Rattle.std.proofs.Common.{◌≡◌, ℕ, ◌≤◌, List, [], ◌∷◌, Option, Some, None, Ok, Err, refl, ◌∙◌, ap, Bool, true, false, arith}
use Rattle.b67_word.specs.declared.couples.Place.{Place}
use Rattle.b67_word.specs.declared.faults.Fault.TheVariants.{MarkPending, CriticalBlock}
use Rattle.b67_model.specs.Common.{Answer, Standing, Return, Frame, Task, Job, OperatorContext, SessionJob, height, top, with_task, Done, Goes, Leaves, top_of, is_critical, without_arrays_of, leaves, exit}
use Rattle.b67_model.specs.State as State
use Rattle.b67_layout.specs.Meets.{here}
use Rattle.b67_layout.proofs.Leaves.{task_at}
use Rattle.b67_lemmas.proofs.Members.{change_twice}

-- the job without the frame and its arrays
abbrev pub job_left : Job → Task → Frame → List Frame → Return → Job
job_left job t f below back = with_task (without_arrays_of f.identity job) (task_at t below back.segment back.place t.condition)

module _ (m : SessionJob) (t : Task) (q : Place) where
  standing_is : (fs : List Frame) (s : Standing) → t.frames ≡ fs → (top fs).standing ≡ s → (top_of (here m t q)).standing ≡ s
  standing_is fs s e is = ap (λ (gs : List Frame). (top gs).standing) e ∙ is

  module _ (go : OperatorContext → Bool → Answer Done) where
    pub leaves_pending : (f : Frame) (below : List Frame) → t.frames ≡ f ∷ below → f.standing ≡ State.Marked → leaves (here m t q) (top_of (here m t q)).standing go ≡ Err MarkPending
    leaves_pending f below e is = ap (λ (s : Standing). leaves (here m t q) s go) (standing_is (f ∷ below) State.Marked e is)

    by_critical : (level environment : ℕ) (back : Option Return) → is_critical m.progress.job (top t.frames).identity ≡ true → leaves (here m t q) (State.Entered level environment back) go ≡ Err CriticalBlock
    by_critical level environment back c = grind arith

    pub leaves_critical : (f : Frame) (below : List Frame) (level environment : ℕ) (back : Option Return) → t.frames ≡ f ∷ below → f.standing ≡ State.Entered level environment back → is_critical m.progress.job (top t.frames).identity ≡ true
        → leaves (here m t q) (top_of (here m t q)).standing go ≡ Err CriticalBlock
    leaves_critical f below level environment back e is c = ap (λ (s : Standing). leaves (here m t q) s go) (standing_is (f ∷ below) (State.Entered level environment back) e is) ∙ by_critical level environment back c

    pub leaves_last : (f : Frame) (level environment : ℕ) → t.frames ≡ f ∷ [] → f.standing ≡ State.Entered level environment None → is_critical m.progress.job (top t.frames).identity ≡ false
        → leaves (here m t q) (top_of (here m t q)).standing go ≡ Ok Leaves
    leaves_last f level environment e is c = ap (λ (s : Standing). leaves (here m t q) s go) (standing_is (f ∷ []) (State.Entered level environment None) e is) ∙ rw c refl

    pub leaves_inner : (f : Frame) (below : List Frame) (level environment : ℕ) (back : Return) → t.frames ≡ f ∷ below → f.standing ≡ State.Entered level environment (Some back) → is_critical m.progress.job (top t.frames).identity ≡ false
        → leaves (here m t q) (top_of (here m t q)).standing go ≡ go (record { constants = m.constants; job = job_left m.progress.job t f below back; task = task_at t below back.segment back.place t.condition; at = t.place }) back.value
    leaves_inner f below level environment back e is c = grind arith

  pub exit_left : (f : Frame) (below : List Frame) (level environment : ℕ) (back : Return) → t.frames ≡ f ∷ below → f.standing ≡ State.Entered level environment (Some back) → is_critical m.progress.job (top t.frames).identity ≡ false
      → height below ≤ m.constants.stack_size → exit (here m t q) ≡ Ok (Goes (job_left m.progress.job t f below back) [] None)
  exit_left f below level environment back e is c low = grind (arith, change_twice)
