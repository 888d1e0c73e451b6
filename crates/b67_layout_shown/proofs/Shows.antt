-- The display is that of what is shown: static links lead to the same frames, under names by place.
use Rattle.std.proofs.Common.{◌≡◌, ℕ, zero, suc, ◌-◌, ◌≤◌, List, [], ◌∷◌, ◌++◌, map, flat_map, Option, Some, None, unwrap_or, refl, sym, ◌∙◌, ap, subst, arith, inl, inr}
use Rattle.std.specs.Prelude.{◌⊎◌, eqb, if◌then◌else◌}
use Rattle.b67_lemmas.specs.Lists.{Has, how_many}
use Rattle.b67_lemmas.proofs.Members.{all_in, has_append_cases, has_append_left, has_append_right, has_map, has_map_back, keyed_left, keyed_right, total_flat, total_zero}
use Rattle.b67_model.specs.Keyed.{keyed}
use Rattle.b67_model.specs.Common.{Standing, Marked, Entered, Frame, Task, Job, JobConstants, OperatorContext, mcp, no_frame, frame, environment_of, level_of_frame, running, outward, frame_at, Starts, IsSegment, Known, known_of, known_numbers, base, reach_of, outer_of, frames_named, StandsInOrder, FramesInOrder, SettingInOrder, TaskInOrder, TasksInOrder}
use Rattle.b67_law.proofs.Looks.{IsFrame, Line, line_of, found_frame}
use Rattle.b67_layout_shown.specs.Places.{name_among, standing_by, frame_by, task_by}
use Rattle.b67_layout_shown.proofs.Outer.{name_low, none_low}
use Rattle.b67_layout_shown.proofs.Reach.{known_by}

numbered : (ks : List Known) (n : ℕ) → Has (known_numbers ks) n → (s : Standing) × Has ks (n, s)
numbered [] n h = absurd h
numbered (k ∷ ks) n (inl e) = (k.1, inl (ap (λ i. (i, k.1)) e))
numbered (k ∷ ks) n (inr h) = let r = numbered ks n h in (r.0, inr r.1)

counted : (ks : List Known) (n : ℕ) (s : Standing) → Has ks (n, s) → Has (known_numbers ks) n
counted [] n s h = absurd h
counted (k ∷ ks) n s (inl e) = inl (ap (λ (q : Known). q.0) e)
counted (k ∷ ks) n s (inr h) = inr (counted ks n s h)

flat_low : (P : Starts) (constants : JobConstants) (job : Job) → TasksInOrder P constants job → (n : ℕ) → n ≤ 1 → how_many (λ (f : Frame). eqb f.identity n) (flat_map (λ (t : Task). t.frames) job.tasks) ≡ 0
flat_low P constants job o n low = rw (total_flat (λ (t : Task). t.frames) (λ (f : Frame). if eqb f.identity n then 1 else 0) job.tasks)
    (total_zero (λ (t : Task). frames_named n t.frames) job.tasks (λ t there. none_low P constants job t (all_in (TaskInOrder P constants job) job.tasks t o.tasks there) n low))

module _ (constants constants' : JobConstants) (job job' : Job) (unchanging : SettingInOrder constants) (unchanging' : SettingInOrder constants')
    (order : TasksInOrder (IsSegment constants) constants job) (order' : TasksInOrder (IsSegment constants') constants' job') (relabel : ℕ → ℕ)
    (tasks_are : job'.tasks ≡ map (task_by (name_among job.tasks) relabel) job.tasks) (t : Task) (there : Has job.tasks t) where
  abbrev h : OperatorContext
  h = record { constants = constants; job = job; task = t; at = t.place }

  abbrev h' : OperatorContext
  h' = record { constants = constants'; job = job'; task = task_by (name_among job.tasks) relabel t; at = t.place }

  abbrev reach : List Known
  reach = reach_of job t

  rename_1 : name_among job.tasks 1 ≡ 1
  rename_1 = name_low (IsSegment constants) constants job order 1 (omega arith)

  rename_0 : name_among job.tasks 0 ≡ 0
  rename_0 = name_low (IsSegment constants) constants job order 0 (omega arith)

  line : Line (IsSegment constants) job (reach_of job t)
  line = line_of (IsSegment constants) constants job order t there

  -- ---- what is looked up

  live' : (f : Frame) → IsFrame job f → IsFrame job' (frame_by (name_among job.tasks) relabel f)
  live' f l = record {
    task = task_by (name_among job.tasks) relabel l.task;
    live = subst (λ (ts : List Task). Has ts (task_by (name_among job.tasks) relabel l.task)) (sym tasks_are) (has_map (task_by (name_among job.tasks) relabel) job.tasks l.task l.live);
    among = has_map (frame_by (name_among job.tasks) relabel) l.task.frames f l.among;
  }

  frame_found : (cs : JobConstants) (j : Job) (u : Task) (f : Frame) → TasksInOrder (IsSegment cs) cs j → IsFrame j f → frame (record { constants = cs; job = j; task = u; at = u.place }) f.identity ≡ f
  frame_found cs j u f o l = ap (λ (q : Option Frame). unwrap_or q no_frame) (keyed_left (λ (y : Frame). y.identity) f.identity (flat_map (λ (v : Task). v.frames) j.tasks) (cs.dictionary ∷ mcp ∷ []) f (found_frame (IsSegment cs) cs j o f l))

  dictionary_found : (cs : JobConstants) (j : Job) (u : Task) → SettingInOrder cs → TasksInOrder (IsSegment cs) cs j → frame (record { constants = cs; job = j; task = u; at = u.place }) 1 ≡ cs.dictionary
  dictionary_found cs j u set o =
      let here : keyed (λ (y : Frame). y.identity) 1 (cs.dictionary ∷ mcp ∷ []) ≡ Some cs.dictionary = rw set.named refl in
      ap (λ (q : Option Frame). unwrap_or q no_frame) (keyed_right (λ (y : Frame). y.identity) 1 (flat_map (λ (v : Task). v.frames) j.tasks) (cs.dictionary ∷ mcp ∷ []) (flat_low (IsSegment cs) cs j o 1 (omega arith)) ∙ here)

  mcp_found : (cs : JobConstants) (j : Job) (u : Task) → SettingInOrder cs → TasksInOrder (IsSegment cs) cs j → frame (record { constants = cs; job = j; task = u; at = u.place }) 0 ≡ mcp
  mcp_found cs j u set o =
      let here : keyed (λ (y : Frame). y.identity) 0 (cs.dictionary ∷ mcp ∷ []) ≡ Some mcp = rw set.named refl in
      ap (λ (q : Option Frame). unwrap_or q no_frame) (keyed_right (λ (y : Frame). y.identity) 0 (flat_map (λ (v : Task). v.frames) j.tasks) (cs.dictionary ∷ mcp ∷ []) (flat_low (IsSegment cs) cs j o 0 (omega arith)) ∙ here)

  -- a frame in reach, found under both names, and its static link in reach
  record Found (n : ℕ) (s : Standing) : Type 0 where
    old : known_of (frame h n) ≡ (n, s)
    new : known_of (frame h' (name_among job.tasks n)) ≡ known_by (name_among job.tasks) (n, s)
    link : Has (known_numbers (reach_of job t)) (environment_of s)

  zero_in : Has (known_numbers (reach_of job t)) 0
  zero_in = counted (reach_of job t) 0 (Entered 0 0 None) (subst (λ ks. Has ks (0, Entered 0 0 None)) (sym line.is) (has_append_right (map known_of line.frames) base (0, Entered 0 0 None) (inr (inl refl))))

  links : (fs : List Frame) → FramesInOrder (IsSegment constants) job.arrays base fs → (f : Frame) → Has fs f → Has (known_numbers (map known_of fs ++ base)) (environment_of f.standing)
  links [] o f k = absurd k
  links (g ∷ below) o f (inl e) = inr (by (sym e) (subst (λ (y : Frame). StandsInOrder (map known_of below ++ base) y.standing) e o.1)) where
    zeros : (fs : List Frame) → Has (known_numbers (map known_of fs ++ base)) 0
    zeros [] = inr (inl refl)
    zeros (q ∷ qs) = inr (zeros qs)

    of_standing : (s : Standing) → StandsInOrder (map known_of below ++ base) s → Has (known_numbers (map known_of below ++ base)) (environment_of s)
    of_standing Marked d = zeros below
    of_standing (Entered level environment back) d = counted (map known_of below ++ base) environment d.standing d.among

    by : f ≡ g → StandsInOrder (map known_of below ++ base) f.standing → Has (known_numbers (map known_of below ++ base)) (environment_of f.standing)
    by q d = of_standing f.standing d
  links (g ∷ below) o f (inr k) = inr (links below o.2 f k)

  found : (n : ℕ) (s : Standing) → Has (reach_of job t) (n, s) → Found n s
  found n s k = by (has_append_cases (map known_of line.frames) base (n, s) (subst (λ ks. Has ks (n, s)) line.is k)) where
    by : Has (map known_of line.frames) (n, s) ⊎ Has base (n, s) → Found n s
    by (inl a) =
        let r = has_map_back known_of line.frames (n, s) a in
        let f = r.item in
        let l = line.live f r.among in
        subst (λ (q : Known). Found q.0 q.1) r.is (record {
          old = ap known_of (frame_found constants job t f order l);
          new = ap known_of (frame_found constants' job' (task_by (name_among job.tasks) relabel t) (frame_by (name_among job.tasks) relabel f) order' (live' f l));
          link = subst (λ ks. Has (known_numbers ks) (environment_of f.standing)) (sym line.is) (links line.frames line.order f r.among);
        })
    by (inr (inl e)) = subst (λ (q : Known). Found q.0 q.1) e (record {
      old = ap known_of (dictionary_found constants job t unchanging order) ∙ pair constants unchanging;
      new = ap (λ i. known_of (frame h' i)) rename_1 ∙ ap known_of (dictionary_found constants' job' (task_by (name_among job.tasks) relabel t) unchanging' order') ∙ pair constants' unchanging'
          ∙ ap (λ i. (i, Entered 1 0 None)) (sym rename_1) ∙ ap (λ i. (name_among job.tasks 1, Entered 1 i None)) (sym rename_0);
      link = zero_in;
    }) where
      pair : (cs : JobConstants) → SettingInOrder cs → known_of cs.dictionary ≡ (1, Entered 1 0 None)
      pair cs set = ap (λ i. (i, cs.dictionary.standing)) set.named ∙ ap (λ st. (1, st)) set.stands
    by (inr (inr (inl e))) = subst (λ (q : Known). Found q.0 q.1) e (record {
      old = ap known_of (mcp_found constants job t unchanging order);
      new = ap (λ i. known_of (frame h' i)) rename_0 ∙ ap known_of (mcp_found constants' job' (task_by (name_among job.tasks) relabel t) unchanging' order')
          ∙ ap (λ i. (i, Entered 0 0 None)) (sym rename_0) ∙ ap (λ i. (name_among job.tasks 0, Entered 0 i None)) (sym rename_0);
      link = zero_in;
    })
    by (inr (inr (inr z))) = absurd z

  -- ---- static links

  env_by : (s : Standing) → environment_of (standing_by (name_among job.tasks) s) ≡ name_among job.tasks (environment_of s)
  env_by s = grind (arith, rename_0)

  pub record Goes (g' g : Frame) : Type 0 where
    pub same : known_of g' ≡ known_by (name_among job.tasks) (known_of g)
    pub among : Has (known_numbers (reach_of job t)) g.identity
    pub link : Has (known_numbers (reach_of job t)) (environment_of g.standing)

  outward_same : (n : ℕ) (g' g : Frame) → Goes g' g → Goes (outward h' n g') (outward h n g)
  outward_same zero g' g o = o
  outward_same (suc n) g' g o =
      let at = numbered (reach_of job t) (environment_of g.standing) o.link in
      let f = found (environment_of g.standing) at.0 at.1 in
      let env : environment_of g'.standing ≡ name_among job.tasks (environment_of g.standing) = ap (λ (q : Known). environment_of q.1) o.same ∙ env_by g.standing in
      outward_same n (frame h' (environment_of g'.standing)) (frame h (environment_of g.standing)) (record {
        same = ap (λ i. known_of (frame h' i)) env ∙ f.new ∙ ap (known_by (name_among job.tasks)) (sym f.old);
        among = subst (λ i. Has (known_numbers (reach_of job t)) i) (sym (ap (λ (q : Known). q.0) f.old)) o.link;
        link = subst (λ st. Has (known_numbers (reach_of job t)) (environment_of st)) (sym (ap (λ (q : Known). q.1) f.old)) f.link;
      })

  running_by : (fs : List Frame) → running (map (frame_by (name_among job.tasks) relabel) fs) ≡ frame_by (name_among job.tasks) relabel (running fs)
  running_by [] = ap (λ i. record { identity = i; standing = Marked; cells = [] }) (sym rename_0)
  running_by (f ∷ below) = grind (arith, running_by below)

  running_in : (fs : List Frame) → (running fs ≡ no_frame) ⊎ Has fs (running fs)
  running_in [] = inl refl
  running_in (f ∷ below) = grind (arith, running_in below)

  start : Goes (running (map (frame_by (name_among job.tasks) relabel) t.frames)) (running t.frames)
  start =
      let ends = known (running_in t.frames) in
      record { same = ap known_of (running_by t.frames); among = ends.0; link = ends.1 } where
        known : (running t.frames ≡ no_frame) ⊎ Has t.frames (running t.frames) → Has (known_numbers (reach_of job t)) (running t.frames).identity × Has (known_numbers (reach_of job t)) (environment_of (running t.frames).standing)
        known (inl e) = subst (λ (f : Frame). Has (known_numbers (reach_of job t)) f.identity × Has (known_numbers (reach_of job t)) (environment_of f.standing)) (sym e) (zero_in, zero_in)
        known (inr k) =
            let among : Has (reach_of job t) ((running t.frames).identity, (running t.frames).standing) = has_append_left (map known_of t.frames) (outer_of job t) (known_of (running t.frames)) (has_map known_of t.frames (running t.frames) k) in
            (counted (reach_of job t) (running t.frames).identity (running t.frames).standing among, (found (running t.frames).identity (running t.frames).standing among).link)

  level_same : level_of_frame (running (map (frame_by (name_among job.tasks) relabel) t.frames)) ≡ level_of_frame (running t.frames)
  level_same = grind (arith, running_by)

  -- the frame at a level, under its name
  pub at_level : (n : ℕ) → Goes (frame_at h' n) (frame_at h n)
  at_level n = subst (λ l. Goes (outward h' (l - n) (running (map (frame_by (name_among job.tasks) relabel) t.frames))) (frame_at h n)) (sym level_same)
      (outward_same (level_of_frame (running t.frames) - n) (running (map (frame_by (name_among job.tasks) relabel) t.frames)) (running t.frames) start)

  pub levels_same : level_of_frame (running (task_by (name_among job.tasks) relabel t).frames) ≡ level_of_frame (running t.frames)
  levels_same = level_same
