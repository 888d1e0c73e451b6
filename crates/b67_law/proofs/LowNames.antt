-- Every identity that frames of a job name is below the next one, so a new frame is looked up by none of them.
use Rattle.std.proofs.Common.{◌≡◌, ℕ, zero, suc, ◌-◌, ◌<◌, List, [], ◌∷◌, ◌++◌, map, flat_map, Option, Some, None, refl, ◌∙◌, ap, arith, ⊎_elim, inl, inr, unwrap_or, subst}
use Rattle.b67_lemmas.specs.Lists.{Has}
use Rattle.b67_lemmas.proofs.Members.{all_in, falls_low, has_append_cases, has_append_right, keyed_has, has_flat_back}
use Rattle.b67_model.specs.Keyed.{keyed}
use Rattle.b67_model.specs.State as State
use Rattle.b67_model.specs.Common.{Frame, Standing, Array, Task, JobConstants, Job, OperatorContext, mcp, no_frame, all_frames, frame, environment_of, level_of_frame, running_from, running, outward, running_level, frame_at, Starts, Known, known_of, base, outer_of, reach_of, known_numbers, FramesInOrder, StandsInOrder, TaskInOrder, SettingInOrder, TasksInOrder}
use Rattle.b67_law.proofs.Reaches.{known_number}
use Rattle.b67_law.proofs.Looks.{Line, line_of}

-- a frame whose own identity and whose environment's are below a bound
pub record Low (bound : ℕ) (f : Frame) : Type 0 where
  pub identity : f.identity < bound
  pub environment : environment_of f.standing < bound

-- each identity of a reach is below a bound
abbrev AllLow : List Known → ℕ → Type 0
AllLow reach bound = (id : ℕ) → Has (known_numbers reach) id → id < bound

environment_low : (reach : List Known) (bound : ℕ) (s : Standing) → AllLow reach bound → 0 < bound → StandsInOrder reach s → environment_of s < bound
environment_low reach bound s low h g = grind (arith, known_number)

own_low : (P : Starts) (arrays : List Array) (bound : ℕ) (outer : List Known) (fs : List Frame) → AllLow (map known_of fs ++ outer) bound → 0 < bound → FramesInOrder P arrays outer fs → (f : Frame) → Has fs f → Low bound f
own_low P arrays bound outer [] low some order f here = absurd here
own_low P arrays bound outer (e ∷ fs) low some order f (inl same) = subst (Low bound) same (record { identity = low e.identity (inl refl); environment = environment_low (map known_of fs ++ outer) bound e.standing (λ id k. low id (inr k)) some order.1 })
own_low P arrays bound outer (e ∷ fs) low some order f (inr k) = own_low P arrays bound outer fs (λ id i. low id (inr i)) some order.2 f k

module _ (P : Starts) (constants : JobConstants) (job : Job) (g : TasksInOrder P constants job) where
  order_of : (t : Task) → Has job.tasks t → TaskInOrder P constants job t
  order_of t here = all_in (TaskInOrder P constants job) job.tasks t g.tasks here

  reach_low : (t : Task) → Has job.tasks t → (id : ℕ) → Has (known_numbers (reach_of job t)) id → id < job.next_frame
  reach_low t here id k = falls_low job.next_frame (known_numbers (reach_of job t)) id (order_of t here).falls k

  -- the dictionary and the MCP's frame are in each reach
  base_low : (t : Task) → Has job.tasks t → (id : ℕ) (s : Standing) → Has base (id, s) → id < job.next_frame
  base_low t here id s k =
      let l : Line P job (reach_of job t) = line_of P constants job g t here in
      reach_low t here id (known_number (reach_of job t) id s (rw l.is (has_append_right (map known_of l.frames) base (id, s) k)))

  pub some_identity : (t : Task) → Has job.tasks t → 1 < job.next_frame
  some_identity t here = base_low t here 1 (State.Entered 1 0 None) (inl refl)

  pub frames_low : (t : Task) → Has job.tasks t → (f : Frame) → Has t.frames f → Low job.next_frame f
  frames_low t here f k = let n = some_identity t here in own_low P job.arrays job.next_frame (outer_of job t) t.frames (λ id i. reach_low t here id i) (omega (arith, n)) (order_of t here).frames f k

found_or_none : (o : Option Frame) (P : Frame → Type 0) → ((f : Frame) → o ≡ Some f → P f) → P no_frame → P (unwrap_or o no_frame)
found_or_none o P h none = grind arith

running_by : (s : Standing) (f next : Frame) (P : Frame → Type 0) → P f → P next → P (running_from s f next)
running_by s f next P here below = grind arith

running_among : (fs : List Frame) (P : Frame → Type 0) → ((f : Frame) → Has fs f → P f) → P no_frame → P (running fs)
running_among [] P each none = none
running_among (f ∷ below) P each none = running_by f.standing f (running below) P (each f (inl refl)) (running_among below P (λ g k. each g (inr k)) none)

module _ (P : Starts) (h : OperatorContext) (unchanging : SettingInOrder h.constants) (g : TasksInOrder P h.constants h.job) (live : Has h.job.tasks h.task) where
  some : 1 < h.job.next_frame
  some = some_identity P h.constants h.job g h.task live

  none_low : Low h.job.next_frame no_frame
  none_low = record { identity = omega (arith, some); environment = omega (arith, some) }

  all_low : (f : Frame) → Has (all_frames h) f → Low h.job.next_frame f
  all_low f k = ⊎_elim
      (λ i. let r = has_flat_back (λ (t : Task). t.frames) h.job.tasks f i in frames_low P h.constants h.job g r.item r.among f r.inside)
      (λ i. base_case i)
      (has_append_cases (flat_map (λ (t : Task). t.frames) h.job.tasks) (h.constants.dictionary ∷ mcp ∷ []) f k) where
        dictionary : Low h.job.next_frame h.constants.dictionary
        dictionary = record { identity = omega (arith, unchanging.named, some); environment = rw unchanging.stands (omega (arith, some)) }

        base_case : Has (h.constants.dictionary ∷ mcp ∷ []) f → Low h.job.next_frame f
        base_case (inl e) = subst (Low h.job.next_frame) e dictionary
        base_case (inr (inl e)) = subst (Low h.job.next_frame) e (record { identity = omega (arith, some); environment = omega (arith, some) })
        base_case (inr (inr i)) = absurd i

  -- whatever is looked up names frames below the next identity
  pub frame_low : (id : ℕ) → Low h.job.next_frame (frame h id)
  frame_low id = found_or_none (keyed (λ (f : Frame). f.identity) id (all_frames h)) (Low h.job.next_frame) (λ f e. all_low f (keyed_has (λ (f : Frame). f.identity) id (all_frames h) f e).0) none_low

  running_low : Low h.job.next_frame (running h.task.frames)
  running_low = running_among h.task.frames (Low h.job.next_frame) (λ f k. frames_low P h.constants h.job g h.task live f k) none_low

  -- a machine whose frames below the next identity are these
  module _ (h' : OperatorContext) (same : (id : ℕ) → id < h.job.next_frame → frame h' id ≡ frame h id) where
    outward_same : (links : ℕ) (f : Frame) → Low h.job.next_frame f → (outward h' links f ≡ outward h links f) × Low h.job.next_frame (outward h links f)
    outward_same zero f low = (refl, low)
    outward_same (suc links) f low = grind (arith, frame_low, outward_same links)

    pub frame_at_same : running h'.task.frames ≡ running h.task.frames → (n : ℕ) → (frame_at h' n ≡ frame_at h n) × ((frame_at h n).identity < h.job.next_frame)
    frame_at_same own n =
        let r = outward_same (running_level h - n) (running h.task.frames) running_low in
        (ap (λ (f : Frame). outward h' (level_of_frame f - n) f) own ∙ r.0, r.1.identity)
