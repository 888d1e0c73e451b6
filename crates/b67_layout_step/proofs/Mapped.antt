-- A job with a word stored in one frame's cell: what all its tasks see stays.
use Rattle.std.proofs.Common.{◌≡◌, ◌≢◌, ℕ, ◌≤◌, List, [], ◌∷◌, ◌++◌, map, flat_map, Option, Some, None, refl, sym, ◌∙◌, ap, arith, Bool, ◌==◌, ⊎_elim, subst}
use Rattle.std.specs.Prelude.{option_map, ◌||◌}
use Rattle.std.specs.List.{slice_get, list_any}
use Rattle.std.proofs.lemmas.Bool.{cases_eq, eqb-true}
use Rattle.std.proofs.lemmas.List.{map-append}
use Rattle.b67_lemmas.specs.Lists.{Has}
use Rattle.b67_lemmas.proofs.Members.{has_map, has_map_back, found-has, keyed_has}
use Rattle.b67_model.specs.Keyed.{keyed}
use Rattle.b67_model.specs.Common.{Word, Frame, Task, Job, JobProgress, SessionJob, OperatorContext, all_frames, level_of_standing, level_of_frame, running, frame_at, is_critical, number_of, Known, known_of, identities, from_frame, frames_of_task, critical_of, frames_named, frames_in_job}
use Rattle.b67_model.specs.State as State
use Rattle.b67_stack.specs.Common.{StackPlace, Slot, with_slot}
use Rattle.b67_stack.proofs.Slots.{slot-same, slot-other}
use Rattle.b67_layout.specs.Common.{Slotted, Placement, slot_of, spot_in, outer_spots, spots, address_of, activations, stack_of_task, slot_with, slot_in, slot_by, slot_at, machine_view, RowsFit, critical_mark, ShowsDisplay}
use Rattle.b67_layout.proofs.Common.{activations-job, with_course, member-same, member-other, task_row, change-has, change-kept, same_running, same_frame_at}
use Rattle.b67_layout.proofs.MachineViews.{objects-after}
use Rattle.b67_refer.proofs.Slots.{live_slot}
use Rattle.b67_layout_step.proofs.Frames.{put_frames, put_job, put_known, put_height, put_spot, put_from, put_none}
use Rattle.b67_layout_step.proofs.Owners.{others_none}

-- each task with the word stored
abbrev pub put_task : ℕ → ℕ → Word → Task → Task
put_task id i w t = record t { frames = put_frames id i w t.frames }

module _ (plan : Placement) (j : ℕ) (job : Job) (id i : ℕ) (w : Word) where
  pub keyed_put : (n : ℕ) (xs : List Task) → keyed (λ (v : Task). v.number) n (map (put_task id i w) xs) ≡ option_map (put_task id i w) (keyed (λ (v : Task). v.number) n xs)
  keyed_put n [] = refl
  keyed_put n (x ∷ xs) = grind (arith, keyed_put n xs)

  outer_by : (parents : List ℕ) (c : ℕ) (g : ℕ) → outer_spots plan j (put_job job id i w) c parents g ≡ outer_spots plan j job c parents g
  outer_by [] c g = refl
  outer_by (parent ∷ more) c g =
      let F : Option Task → StackPlace = λ o. spot_in (slot_of plan j parent) (outer_spots plan j (put_job job id i w) (critical_of o) more) (from_frame c (frames_of_task o)) g in
      ap F (keyed_put parent job.tasks) ∙ by_task (keyed (λ (v : Task). v.number) parent job.tasks) (λ d x. outer_by more d x) where
        by_task : (o : Option Task) → ((d x : ℕ) → outer_spots plan j (put_job job id i w) d more x ≡ outer_spots plan j job d more x)
            → spot_in (slot_of plan j parent) (outer_spots plan j (put_job job id i w) (critical_of (option_map (put_task id i w) o)) more) (from_frame c (frames_of_task (option_map (put_task id i w) o))) g
            ≡ spot_in (slot_of plan j parent) (outer_spots plan j job (critical_of o) more) (from_frame c (frames_of_task o)) g
        by_task None inner = inner 0 g
        by_task (Some v) inner =
            let same : outer_spots plan j (put_job job id i w) v.critical more ≡ outer_spots plan j job v.critical more = λ z x. inner v.critical x z in
            ap (λ o. spot_in (slot_of plan j parent) o (from_frame c (put_frames id i w v.frames)) g) same
            ∙ ap (λ (s : ℕ → StackPlace). s g) (put_from id i w c (slot_of plan j parent) (outer_spots plan j job v.critical more) v.frames)

  pub outer_put : (c : ℕ) (parents : List ℕ) → outer_spots plan j (put_job job id i w) c parents ≡ outer_spots plan j job c parents
  outer_put c parents = λ z g. outer_by parents c g z

  pub spots_put : (t : Task) → spots plan j (put_job job id i w) (put_task id i w t) ≡ spots plan j job t
  spots_put t =
      ap (λ o. spot_in (slot_of plan j t.number) o (put_frames id i w t.frames)) (outer_put t.critical t.parents)
      ∙ put_spot id i w (slot_of plan j t.number) (outer_spots plan j job t.critical t.parents) t.frames

  any_put : (g : ℕ) (xs : List Task) → list_any (λ (t : Task). t.critical == g) (map (put_task id i w) xs) ≡ list_any (λ (t : Task). t.critical == g) xs
  any_put g [] = refl
  any_put g (x ∷ xs) = ap (λ (b : Bool). (x.critical == g) || b) (any_put g xs)

  pub critical_put : (g : ℕ) → is_critical (put_job job id i w) g ≡ is_critical job g
  critical_put g = any_put g job.tasks

  mark_same : (fs : List Frame) → critical_mark (put_job job id i w) fs ≡ critical_mark job fs
  mark_same [] = refl
  mark_same (f ∷ fs) = grind (arith, critical_put)

  mark_frames : (fs : List Frame) → critical_mark job (put_frames id i w fs) ≡ critical_mark job fs
  mark_frames [] = refl
  mark_frames (f ∷ fs) = grind (arith, put_height, mark_frames fs)

  pub mark_put : (fs : List Frame) → critical_mark (put_job job id i w) (put_frames id i w fs) ≡ critical_mark job fs
  mark_put fs = mark_same (put_frames id i w fs) ∙ mark_frames fs

  pub stack_put : (k : ℕ) (t : Task) → stack_of_task plan j (put_job job id i w) k (put_task id i w t) ≡ activations plan j job k (outer_spots plan j job t.critical t.parents) (put_frames id i w t.frames)
  stack_put k t =
      ap (λ o. activations plan j (put_job job id i w) k o (put_frames id i w t.frames)) (outer_put t.critical t.parents)
      ∙ activations-job plan j job (put_job job id i w) refl k (outer_spots plan j job t.critical t.parents) (put_frames id i w t.frames)

  pub slot_unchanged : (k : ℕ) (t : Task) → frames_named id t.frames ≡ 0 → slot_with plan k j (put_job job id i w) (Some (put_task id i w t)) ≡ slot_with plan k j job (Some t)
  slot_unchanged k t none = grind (arith, stack_put, put_none)

flat_known : (id i : ℕ) (w : Word) (xs : List Task) → map known_of (flat_map (λ (t : Task). t.frames) (map (put_task id i w) xs)) ≡ map known_of (flat_map (λ (t : Task). t.frames) xs)
flat_known id i w [] = refl
flat_known id i w (x ∷ xs) = grind (arith, map-append, put_known, flat_known id i w xs)

-- the display
pub Shows-put : (display : List ℕ) (plan : Placement) (m : SessionJob) (c : JobProgress) (t : Task) (id i : ℕ) (w : Word) → c.job ≡ put_job m.progress.job id i w → ShowsDisplay display plan m t → ShowsDisplay display plan (record m { progress = c }) (put_task id i w t)
Shows-put display plan m c t id i w is shown n up =
    let job' = put_job m.progress.job id i w in
    let P : Job → Type 0 = λ z. slice_get display n ≡ Some (address_of plan (spots plan m.constants.number z (put_task id i w t) (frame_at (record { constants = m.constants; job = z; task = put_task id i w t; at = t.place }) n).identity)) in
    let h : OperatorContext = record { constants = m.constants; job = m.progress.job; task = t; at = t.place } in
    let h' : OperatorContext = record { constants = m.constants; job = job'; task = put_task id i w t; at = t.place } in
    let own = put_known id i w t.frames in
    let frames : map known_of (all_frames h') ≡ map known_of (all_frames h) =
    map-append known_of (flat_map (λ (u : Task). u.frames) job'.tasks) (m.constants.dictionary ∷ State.mcp ∷ [])
    ∙ ap (λ (ks : List Known). ks ++ map known_of (m.constants.dictionary ∷ State.mcp ∷ [])) (flat_known id i w m.progress.job.tasks)
    ∙ sym (map-append known_of (flat_map (λ (u : Task). u.frames) m.progress.job.tasks) (m.constants.dictionary ∷ State.mcp ∷ [])) in
    let level : level_of_frame (running (put_frames id i w t.frames)) ≡ level_of_frame (running t.frames) = ap (λ (k : Known). level_of_standing k.1) (same_running (put_frames id i w t.frames) t.frames own) in
    let same : (frame_at h' n).identity ≡ (frame_at h n).identity = ap (λ (k : Known). k.0) (same_frame_at h h' frames n own) in
    subst P (sym is) (shown n (omega (arith, up, level))
    ∙ ap (λ (g : ℕ). Some (address_of plan (spots plan m.constants.number m.progress.job t g))) (sym same)
    ∙ ap (λ (s : ℕ → StackPlace). Some (address_of plan (s (frame_at h' n).identity))) (sym (spots_put plan m.constants.number m.progress.job id i w t)))

module _ (plan : Placement) (jobs : List SessionJob) (m : SessionJob) (id i : ℕ) (w : Word) (member : keyed number_of m.constants.number jobs ≡ Some m) (fit : RowsFit plan jobs) where
  abbrev c : JobProgress
  c = record m.progress { job = put_job m.progress.job id i w }

  abbrev moved : SessionJob
  moved = record m { progress = c }

  has_m : Has jobs m
  has_m = (keyed_has number_of m.constants.number jobs m member).0

  pub rows_put : RowsFit plan (with_course jobs m.constants.number (record m.progress { job = put_job m.progress.job id i w }))
  rows_put = record {
    live = λ q in_q.
        let (y, v, in_y, ej, in_v, et) = fit.live q in_q in
        ⊎_elim
        (λ (k : Has (with_course jobs m.constants.number c) y). (y, v, k, ej, in_v, et))
        (λ k.
        let in_m : Has m.progress.job.tasks v = (let Q : SessionJob → Type 0 = λ z. Has z.progress.job.tasks v in subst Q k.0 in_v) in
        let ej' : m.constants.number ≡ q.job = ap (λ (z : SessionJob). z.constants.number) (sym k.0) ∙ ej in
        (moved, put_task id i w v, k.1, ej', has_map (put_task id i w) m.progress.job.tasks v in_m, et))
        (change-kept number_of m.constants.number (λ (z : SessionJob). record z { progress = c }) jobs m member y in_y);
    slotted = λ y v in_y in_v. ⊎_elim
        (λ k. fit.slotted y v k in_v)
        (λ (e : y ≡ moved).
        let Q : SessionJob → Type 0 = λ z. Has z.progress.job.tasks v in
        let b = has_map_back (put_task id i w) m.progress.job.tasks v (subst Q e in_v) in
        let (q, in_q, ej, et) = fit.slotted m b.item has_m b.among in
        (q, in_q, ej ∙ ap (λ (z : SessionJob). z.constants.number) (sym e), et ∙ ap (λ (z : Task). z.number) b.is))
        (change-has number_of m.constants.number (λ (z : SessionJob). record z { progress = c }) jobs m member y in_y);
    below = fit.below;
    differ = fit.differ;
    tasks_differ = fit.tasks_differ;
  }

  -- the view, where the frame is that of task u
  module _ (u : Task) (there : keyed (λ (v : Task). v.number) u.number m.progress.job.tasks ≡ Some u) (has : Has (identities u.frames) id) (once : frames_in_job id m.progress.job ≤ 1) where
    abbrev k : ℕ
    k = slot_of plan m.constants.number u.number

    pub task_put : keyed (λ (v : Task). v.number) u.number (put_job m.progress.job id i w).tasks ≡ Some (put_task id i w u)
    task_put = keyed_put plan m.constants.number m.progress.job id i w u.number m.progress.job.tasks ∙ ap (option_map (put_task id i w)) there

    slot_there : (q : ℕ) → q ≢ slot_of plan m.constants.number u.number → slot_at plan (with_course jobs m.constants.number c) q ≡ slot_at plan jobs q
    slot_there q ne = by_row (keyed (λ (r : Slotted). r.slot) q plan.rows) refl where
      by_task : (r : Slotted) → keyed (λ (r : Slotted). r.slot) q plan.rows ≡ Some r → r.job ≡ m.constants.number → (o : Option Task) → keyed (λ (v : Task). v.number) r.task m.progress.job.tasks ≡ o
          → slot_with plan q m.constants.number (put_job m.progress.job id i w) (option_map (put_task id i w) o) ≡ slot_with plan q m.constants.number m.progress.job o
      by_task r e z None f = refl
      by_task r e z (Some v) f =
          let in_v = (keyed_has (λ (v : Task). v.number) r.task m.progress.job.tasks v f).0 in
          let in_u = (keyed_has (λ (v : Task). v.number) u.number m.progress.job.tasks u there).0 in
          let number : v.number ≡ r.task = (Rattle.b67_lemmas.proofs.Members.keyed_has (λ (v : Task). v.number) r.task m.progress.job.tasks v f).1 in
          let h = found-has (λ (b : Slotted). b.slot == q) plan.rows r e in
          let b = task_row plan jobs m u fit has_m in_u in
          let apart : u.number ≢ v.number = λ y.
          ne (let same : r ≡ b.row = fit.tasks_differ r b.row h.0 b.among (z ∙ sym b.job) (sym number ∙ sym y ∙ sym b.number) in
          sym (eqb-true r.slot q h.1) ∙ ap (λ (p : Slotted). p.slot) same ∙ sym b.slot) in
          slot_unchanged plan m.constants.number m.progress.job id i w q v (others_none m.progress.job.tasks u v id in_u in_v apart has once)

      by_row : (o : Option Slotted) → keyed (λ (r : Slotted). r.slot) q plan.rows ≡ o → slot_by plan (with_course jobs m.constants.number c) q o ≡ slot_by plan jobs q o
      by_row None e = refl
      by_row (Some r) e = ⊎_elim
          (λ (z : r.job ≡ m.constants.number).
          let new : keyed number_of r.job (with_course jobs m.constants.number c) ≡ Some (record m { progress = c }) = ap (λ (n : ℕ). keyed number_of n (with_course jobs m.constants.number c)) z ∙ member-same jobs m.constants.number c m member in
          let old : keyed number_of r.job jobs ≡ Some m = ap (λ (n : ℕ). keyed number_of n jobs) z ∙ member in
          ap (slot_in plan q r.job r.task) new
          ∙ ap (λ (n : ℕ). slot_with plan q n c.job (keyed (λ (v : Task). v.number) r.task c.job.tasks)) z
          ∙ ap (slot_with plan q m.constants.number c.job) (keyed_put plan m.constants.number m.progress.job id i w r.task m.progress.job.tasks)
          ∙ by_task r e z (keyed (λ (v : Task). v.number) r.task m.progress.job.tasks) refl
          ∙ ap (λ (n : ℕ). slot_with plan q n m.progress.job (keyed (λ (v : Task). v.number) r.task m.progress.job.tasks)) (sym z)
          ∙ ap (slot_in plan q r.job r.task) (sym old))
          (λ (z : r.job ≡ m.constants.number → ⊥). ap (slot_in plan q r.job r.task) (member-other jobs m.constants.number c r.job z))
          (cases_eq r.job m.constants.number)

    -- the slot of the task afterwards
    abbrev pub after : Slot
    after = slot_with plan (slot_of plan m.constants.number u.number) m.constants.number (put_job m.progress.job id i w) (Some (put_task id i w u))

    slots_after : (q : ℕ) → slot_at plan (with_course jobs m.constants.number c) q ≡ (with_slot (machine_view plan jobs) (slot_of plan m.constants.number u.number) after).slots q
    slots_after q = ⊎_elim
        (λ (e : q ≡ slot_of plan m.constants.number u.number).
        ap (slot_at plan (with_course jobs m.constants.number c)) e
        ∙ (live_slot plan (with_course jobs m.constants.number c) (record m { progress = c }) (put_task id i w u) rows_put (member-same jobs m.constants.number c m member) task_put).1
        ∙ sym (slot-same (machine_view plan jobs) (slot_of plan m.constants.number u.number) after)
        ∙ ap (λ (p : ℕ). (with_slot (machine_view plan jobs) (slot_of plan m.constants.number u.number) after).slots p) (sym e))
        (λ (e : q ≡ slot_of plan m.constants.number u.number → ⊥). slot_there q e ∙ sym (slot-other (machine_view plan jobs) (slot_of plan m.constants.number u.number) after q e))
        (cases_eq q (slot_of plan m.constants.number u.number))

    pub machine_view_put : machine_view plan (with_course jobs m.constants.number (record m.progress { job = put_job m.progress.job id i w })) ≡ with_slot (machine_view plan jobs) (slot_of plan m.constants.number u.number) after
    machine_view_put = grind (arith, slots_after, objects-after)
