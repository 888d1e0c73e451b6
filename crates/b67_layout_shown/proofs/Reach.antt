-- A task's reach under names by place.
use Rattle.std.proofs.Common.{◌≡◌, ◌≢◌, ℕ, ◌<◌, ◌≤◌, ◌==◌, Bool, true, false, List, [], ◌∷◌, ◌++◌, map, Option, Some, refl, sym, ◌∙◌, ap, subst, arith, inl, inr}
use Rattle.std.specs.Prelude.{◌⊎◌, option_map}
use Rattle.std.proofs.lemmas.List.{map-append, length-map}
use Rattle.std.proofs.lemmas.Bool.{ne_eqb, eq-eqb}
use Rattle.std.proofs.lemmas.Bool.Decides.{eqb_tells}
use Rattle.b67_lemmas.specs.Lists.{Has}
use Rattle.b67_lemmas.proofs.Members.{all_in, keyed_has, has_map}
use Rattle.b67_model.specs.Keyed.{keyed}
use Rattle.b67_model.specs.Common.{Standing, Frame, JobConstants, Task, Job, height, head_words, level_of_standing, Starts, Known, known_of, from_frame, frames_of_task, critical_of, outer_reach, reach_of, identities, IsEntered, NamesEntered, TaskInOrder, TasksInOrder, BirthInOrder}
use Rattle.b67_layout_shown.specs.Places.{named, name_among, standing_by, frame_by, task_by, word_by}
use Rattle.b67_layout_shown.proofs.Frames.{Named}
use Rattle.b67_layout_shown.proofs.Names.{named_frames}
use Rattle.b67_layout_shown.proofs.Outer.{name_low}

-- what is known of a frame, renamed
abbrev pub known_by : (ℕ → ℕ) → Known → Known
known_by rename k = (rename k.0, standing_by rename k.1)

module _ (rename relabel : ℕ → ℕ) where
  pub known_frames : (fs : List Frame) → map known_of (map (frame_by rename relabel) fs) ≡ map (known_by rename) (map known_of fs)
  known_frames [] = refl
  known_frames (f ∷ below) = ap (λ ks. (rename f.identity, standing_by rename f.standing) ∷ ks) (known_frames below)

  head_by : (s : Standing) → head_words (standing_by rename s) ≡ head_words s
  head_by s = grind arith

  pub height_by : (fs : List Frame) → height (map (frame_by rename relabel) fs) ≡ height fs
  height_by [] = refl
  height_by (f ∷ below) = let rest = height_by below in let h = head_by f.standing in let n = length-map f.cells (word_by rename relabel) in omega (arith, rest, h, n)

  pub entered_by : (s : Standing) → IsEntered s → IsEntered (standing_by rename s)
  entered_by s h = grind arith

  pub level_by : (s : Standing) → level_of_standing (standing_by rename s) ≡ level_of_standing s
  level_by s = grind arith

  pub names_entered : (reach : List Known) (identity : ℕ) → NamesEntered reach identity → NamesEntered (map (known_by rename) reach) (rename identity)
  names_entered reach identity h = record { standing = standing_by rename h.standing; among = has_map (known_by rename) reach (identity, h.standing) h.among; entered = entered_by h.standing h.entered }

  pub keyed_by : (n : ℕ) (ts : List Task) → keyed (λ (t : Task). t.number) n (map (task_by rename relabel) ts) ≡ option_map (task_by rename relabel) (keyed (λ (t : Task). t.number) n ts)
  keyed_by n [] = refl
  keyed_by n (t ∷ more) = grind (arith, keyed_by n more)

  pub head_some : (s : Standing) → 1 ≤ head_words s
  head_some s = grind arith

  -- names fall in a list that is named by place, so that a frame is found under its name
  pub named_low : (number bound : ℕ) (fs : List Frame) → Named rename number fs → height fs ≤ bound → (c : ℕ) → Has (identities fs) c → rename c < named number bound
  named_low number bound [] names low c h = absurd h
  named_low number bound (f ∷ below) names low c (inl e) = let n = names.0 in let same = ap rename e in let more = head_some f.standing in omega (arith, n, same, low, more)
  named_low number bound (f ∷ below) names low c (inr h) = named_low number bound below names.1 (omega (arith, low)) c h

  pub from_by : (number : ℕ) (fs : List Frame) (c : ℕ) → Named rename number fs → Has (identities fs) c → from_frame (rename c) (map (frame_by rename relabel) fs) ≡ map (frame_by rename relabel) (from_frame c fs)
  from_by number [] c names h = absurd h
  from_by number (f ∷ below) c names h = by (eqb_tells f.identity c) h (λ z. from_by number below c names.1 z) where
    both : (b : Bool) → (rename f.identity == rename c) ≡ b → (f.identity == c) ≡ b → from_frame (rename c) (map (frame_by rename relabel) below) ≡ map (frame_by rename relabel) (from_frame c below)
        → from_frame (rename c) (map (frame_by rename relabel) (f ∷ below)) ≡ map (frame_by rename relabel) (from_frame c (f ∷ below))
    both true p q r = rw (p, q) refl
    both false p q r = rw (p, q) r

    by : ((f.identity == c ≡ true) × (f.identity ≡ c)) ⊎ ((f.identity == c ≡ false) × (f.identity ≢ c)) → Has (identities (f ∷ below)) c → (Has (identities below) c → from_frame (rename c) (map (frame_by rename relabel) below) ≡ map (frame_by rename relabel) (from_frame c below))
        → from_frame (rename c) (map (frame_by rename relabel) (f ∷ below)) ≡ map (frame_by rename relabel) (from_frame c (f ∷ below))
    by (inl q) k r = rw (eq-eqb (rename f.identity) (rename c) (ap rename q.1), q.0) refl
    by (inr q) (inl e) r = absurd (q.1 e)
    by (inr q) (inr k) r =
        let low = named_low number (height below) below names.1 (omega arith) c k in
        let n = names.0 in
        both false (ne_eqb (rename f.identity) (rename c) (λ z. omega (arith, z, low, n))) q.0 (r k)

-- ---- the reach of a task

module _ (P : Starts) (constants : JobConstants) (job : Job) (order : TasksInOrder P constants job) (relabel : ℕ → ℕ) (job' : Job)
    (tasks_are : job'.tasks ≡ map (task_by (name_among job.tasks) relabel) job.tasks) where
  abbrev rename : ℕ → ℕ
  rename = name_among job.tasks

  rename_1 : rename 1 ≡ 1
  rename_1 = name_low P constants job order 1 (omega arith)

  rename_0 : rename 0 ≡ 0
  rename_0 = name_low P constants job order 0 (omega arith)

  pub found_by : (n : ℕ) (p : Task) → keyed (λ (t : Task). t.number) n job.tasks ≡ Some p → keyed (λ (t : Task). t.number) n job'.tasks ≡ Some (task_by (name_among job.tasks) relabel p)
  found_by n p e = ap (keyed (λ (t : Task). t.number) n) tasks_are ∙ keyed_by (name_among job.tasks) relabel n job.tasks ∙ ap (option_map (task_by (name_among job.tasks) relabel)) e

  pub outer_by : (parents : List ℕ) (t : Task) → BirthInOrder job t parents → outer_reach job' (rename t.critical) parents ≡ map (known_by (name_among job.tasks)) (outer_reach job t.critical parents)
  outer_by [] t birth = rw (rename_1, rename_0) refl
  outer_by (parent ∷ above) t birth =
      let p = birth.parent in
      let found = keyed_has (λ (t : Task). t.number) parent job.tasks p birth.found in
      let own = all_in (TaskInOrder P constants job) job.tasks p order.tasks found.0 in
      let deeper = outer_by above p (subst (BirthInOrder job p) birth.line own.birth) in
      let F : Option Task → List Known = λ o. map known_of (from_frame (rename t.critical) (frames_of_task o)) ++ outer_reach job' (critical_of o) above in
      let G : Option Task → List Known = λ o. map (known_by (name_among job.tasks)) (map known_of (from_frame t.critical (frames_of_task o)) ++ outer_reach job (critical_of o) above) in
      let from = from_by (name_among job.tasks) relabel p.number p.frames t.critical (named_frames P constants job p order found.0) birth.is_critical in
      let middle : F (Some (task_by (name_among job.tasks) relabel p)) ≡ G (Some p) =
      ap (λ (fs : List Frame). map known_of fs ++ outer_reach job' (rename p.critical) above) from
      ∙ ap (λ (ks : List Known). ks ++ outer_reach job' (rename p.critical) above) (known_frames (name_among job.tasks) relabel (from_frame t.critical p.frames))
      ∙ ap (λ (ks : List Known). map (known_by (name_among job.tasks)) (map known_of (from_frame t.critical p.frames)) ++ ks) deeper
      ∙ sym (map-append (known_by (name_among job.tasks)) (map known_of (from_frame t.critical p.frames)) (outer_reach job p.critical above)) in
      ap F (found_by parent p birth.found) ∙ middle ∙ ap G (sym birth.found)

  pub reach_by : (t : Task) → Has job.tasks t → reach_of job' (task_by (name_among job.tasks) relabel t) ≡ map (known_by (name_among job.tasks)) (reach_of job t)
  reach_by t there = grind (arith, all_in, known_frames, outer_by, map-append)
