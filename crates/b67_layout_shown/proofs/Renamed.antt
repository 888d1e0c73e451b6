-- The activation records of a task under names by place are the same in core.
use Rattle.std.proofs.Common.{◌≡◌, ◌≢◌, ℕ, ◌+◌, ◌^◌, ◌<◌, ◌==◌, Bool, true, false, List, [], ◌∷◌, ◌++◌, map, Option, refl, sym, ◌∙◌, ap, subst, arith, inl, inr}
use Rattle.std.specs.Prelude.{◌⊎◌, if◌then◌else◌}
use Rattle.std.specs.List.{AllByRecursion}
use Rattle.std.proofs.lemmas.Bool.{ne_eqb, eq-eqb}
use Rattle.std.proofs.lemmas.Bool.Decides.{eqb_tells}
use Rattle.b67_lemmas.specs.Lists.{Has, Falls}
use Rattle.b67_lemmas.proofs.Members.{all_in, falls_low, keyed_has}
use Rattle.b67_model.specs.Words as Words
use Rattle.b67_model.specs.Common.{Word, Standing, Frame, Array, Task, Job, JobConstants, height, array, Starts, Known, known_of, known_numbers, base, from_frame, frames_of_task, critical_of, outer_reach, outer_of, reach_of, NamesEntered, WordInOrder, StandsInOrder, FramesInOrder, BirthInOrder, TaskInOrder, TasksInOrder}
use Rattle.b67_stack.specs.Shapes as Shapes
use Rattle.b67_stack.specs.Common.{Shape, StackPlace, Head, Activation}
use Rattle.b67_stack.specs.Stacks as Stacks
use Rattle.b67_layout.specs.Common.{Placement, slot_of, spot_in, spots, base_spot, outer_spots, shape, head, activations, stack_of_task}
use Rattle.b67_layout_shown.specs.Places.{named, name_among, word_by, standing_by, frame_by, task_by}
use Rattle.b67_layout_shown.proofs.Reach.{known_by, height_by, from_by, found_by}
use Rattle.b67_layout_shown.proofs.Names.{named_frames}
use Rattle.b67_layout_shown.proofs.Outer.{name_low}
use Rattle.b67_layout_shown.proofs.Jobs.{reach_falls, outer_falls}

-- ---- what is looked up under a name

module _ (rename relabel : ℕ → ℕ) where
  -- a spot is found under its name where names fall along the reach
  pub spot_same : (k bound : ℕ) (outer outer' : ℕ → StackPlace) (outside : List Known)
      → ((n : ℕ) → Has (known_numbers outside) n → outer' (rename n) ≡ outer n)
      → (fs : List Frame) → Falls bound (known_numbers (map (known_by rename) (map known_of fs ++ outside)))
      → (n : ℕ) → Has (known_numbers (map known_of fs ++ outside)) n → spot_in k outer' (map (frame_by rename relabel) fs) (rename n) ≡ spot_in k outer fs n
  spot_same k bound outer outer' outside same [] falls n there = same n there
  spot_same k bound outer outer' outside same (f ∷ below) falls n there = by (eqb_tells f.identity n) there (λ h. spot_same k (rename f.identity) outer outer' outside same below falls.1 n h) where
    names : (ks : List Known) (i : ℕ) → Has (known_numbers ks) i → Has (known_numbers (map (known_by rename) ks)) (rename i)
    names [] i h = absurd h
    names (q ∷ ks) i (inl e) = inl (ap rename e)
    names (q ∷ ks) i (inr h) = inr (names ks i h)

    high : height (map (frame_by rename relabel) below) ≡ height below
    high = height_by rename relabel below

    by : ((f.identity == n ≡ true) × (f.identity ≡ n)) ⊎ ((f.identity == n ≡ false) × (f.identity ≢ n)) → Has (known_numbers (map known_of (f ∷ below) ++ outside)) n
        → (Has (known_numbers (map known_of below ++ outside)) n → spot_in k outer' (map (frame_by rename relabel) below) (rename n) ≡ spot_in k outer below n)
        → spot_in k outer' (map (frame_by rename relabel) (f ∷ below)) (rename n) ≡ spot_in k outer (f ∷ below) n
    by (inl q) h rest =
        ap (λ (b : Bool). if b then record { stack = k; disp = height (map (frame_by rename relabel) below) } else spot_in k outer' (map (frame_by rename relabel) below) (rename n)) (eq-eqb (rename f.identity) (rename n) (ap rename q.1))
        ∙ ap (λ d. record { stack = k; disp = d }) high
        ∙ ap (λ (b : Bool). if b then record { stack = k; disp = height below } else spot_in k outer below n) (sym q.0)
    by (inr q) (inl e) rest = absurd (q.1 e)
    by (inr q) (inr h) rest =
        let low = falls_low (rename f.identity) (known_numbers (map (known_by rename) (map known_of below ++ outside))) (rename n) falls.1 (names (map known_of below ++ outside) n h) in
        ap (λ (b : Bool). if b then record { stack = k; disp = height (map (frame_by rename relabel) below) } else spot_in k outer' (map (frame_by rename relabel) below) (rename n)) (ne_eqb (rename f.identity) (rename n) (λ e. omega (arith, e, low)))
        ∙ rest h
        ∙ ap (λ (b : Bool). if b then record { stack = k; disp = height below } else spot_in k outer below n) (sym q.0)

-- a name that is entered is known
pub entered_known : (reach : List Known) (n : ℕ) → NamesEntered reach n → Has (known_numbers reach) n
entered_known reach n h = by reach h.among where
  by : (ks : List Known) → Has ks (n, h.standing) → Has (known_numbers ks) n
  by [] k = absurd k
  by (q ∷ ks) (inl e) = inl (ap (λ (z : Known). z.0) e)
  by (q ∷ ks) (inr k) = inr (by ks k)

-- ---- words and frames

module _ (plan plan' : Placement) (j : ℕ) (job job' : Job) (rename relabel : ℕ → ℕ)
    (homes : (a : Array) → Has job.arrays a → plan'.home j (relabel a.identity) ≡ plan.home j a.identity)
    (writes : (a : Array) → Has job.arrays a → (array job' (relabel a.identity)).writable ≡ (array job a.identity).writable) where
  word_same : (P : Starts) (spot spot' : ℕ → StackPlace) (reach : List Known) (owner : ℕ) → ((n : ℕ) → Has (known_numbers reach) n → spot' (rename n) ≡ spot n)
      → (w : Word) → WordInOrder P job.arrays reach owner w → shape plan' j job' spot' (word_by rename relabel w) ≡ shape plan j job spot w
  word_same P spot spot' reach owner k w h = grind (arith, entered_known)

  words_same : (P : Starts) (spot spot' : ℕ → StackPlace) (reach : List Known) (owner : ℕ) → ((n : ℕ) → Has (known_numbers reach) n → spot' (rename n) ≡ spot n)
      → (ws : List Word) → AllByRecursion (WordInOrder P job.arrays reach owner) ws → map (shape plan' j job' spot') (map (word_by rename relabel) ws) ≡ map (shape plan j job spot) ws
  words_same P spot spot' reach owner spots [] h = refl
  words_same P spot spot' reach owner spots (w ∷ ws) h = grind (arith, word_same, words_same P spot spot' reach owner spots ws h.1)

  head_same : (spot spot' : ℕ → StackPlace) (reach : List Known) → ((n : ℕ) → Has (known_numbers reach) n → spot' (rename n) ≡ spot n) → (s : Standing) → StandsInOrder reach s → head spot' (standing_by rename s) ≡ head spot s
  head_same spot spot' reach k s h = grind (arith, entered_known)

  pub stack_same : (P : Starts) (k bound : ℕ) (outer outer' : ℕ → StackPlace) (outside : List Known)
      → ((n : ℕ) → Has (known_numbers outside) n → outer' (rename n) ≡ outer n)
      → (fs : List Frame) → FramesInOrder P job.arrays outside fs → Falls bound (known_numbers (map (known_by rename) (map known_of fs ++ outside)))
      → activations plan' j job' k outer' (map (frame_by rename relabel) fs) ≡ activations plan j job k outer fs
  stack_same P k bound outer outer' outside same [] h falls = refl
  stack_same P k bound outer outer' outside same (f ∷ below) h falls =
      let here = spot_same rename relabel k bound outer outer' outside same (f ∷ below) falls in
      let under = spot_same rename relabel k (rename f.identity) outer outer' outside same below falls.1 in
      ap (λ (hd : Head). record { head = hd; cells = map (shape plan' j job' (spot_in k outer' (map (frame_by rename relabel) (f ∷ below)))) (map (word_by rename relabel) f.cells) } ∷ activations plan' j job' k outer' (map (frame_by rename relabel) below))
      (head_same (spot_in k outer below) (spot_in k outer' (map (frame_by rename relabel) below)) (map known_of below ++ outside) under f.standing h.1)
      ∙ ap (λ (cs : List Shape). record { head = head (spot_in k outer below) f.standing; cells = cs } ∷ activations plan' j job' k outer' (map (frame_by rename relabel) below))
      (words_same P (spot_in k outer (f ∷ below)) (spot_in k outer' (map (frame_by rename relabel) (f ∷ below))) (map known_of (f ∷ below) ++ outside) f.identity here f.cells h.0.0)
      ∙ ap (λ (more : List Activation). record { head = head (spot_in k outer below) f.standing; cells = map (shape plan j job (spot_in k outer (f ∷ below))) f.cells } ∷ more) (stack_same P k (rename f.identity) outer outer' outside same below h.2 falls.1)

-- ---- tasks

module _ (P : Starts) (constants : JobConstants) (job : Job) (order : TasksInOrder P constants job) (small : constants.stack_size < 2 ^ 14) (relabel : ℕ → ℕ)
    (plan plan' : Placement) (j : ℕ) (job' : Job) (tasks_are : job'.tasks ≡ map (task_by (name_among job.tasks) relabel) job.tasks)
    (slots : (t : Task) → Has job.tasks t → slot_of plan' j t.number ≡ slot_of plan j t.number) where
  own : (t : Task) → Has job.tasks t → TaskInOrder P constants job t
  own t there = all_in (TaskInOrder P constants job) job.tasks t order.tasks there

  base_same : (n : ℕ) → Has (known_numbers base) n → base_spot j (name_among job.tasks n) ≡ base_spot j n
  base_same n (inl e) = subst (λ i. base_spot j (name_among job.tasks i) ≡ base_spot j i) e (ap (base_spot j) (name_low P constants job order 1 (omega arith)))
  base_same n (inr (inl e)) = subst (λ i. base_spot j (name_among job.tasks i) ≡ base_spot j i) e (ap (base_spot j) (name_low P constants job order 0 (omega arith)))
  base_same n (inr (inr z)) = absurd z

  pub outer_same : (ps : List ℕ) (t : Task) → BirthInOrder job t ps → (n : ℕ) → Has (known_numbers (outer_reach job t.critical ps)) n
      → outer_spots plan' j job' (name_among job.tasks t.critical) ps (name_among job.tasks n) ≡ outer_spots plan j job t.critical ps n
  outer_same [] t birth n h = base_same n h
  outer_same (parent ∷ above) t birth n h =
      let p = birth.parent in
      let found = keyed_has (λ (t : Task). t.number) parent job.tasks p birth.found in
      let line = subst (BirthInOrder job p) birth.line (own p found.0).birth in
      let deeper = outer_same above p line in
      let slot : slot_of plan' j parent ≡ slot_of plan j parent = subst (λ i. slot_of plan' j i ≡ slot_of plan j i) found.1 (slots p found.0) in
      let R : Option Task → List Known = λ o. map known_of (from_frame t.critical (frames_of_task o)) ++ outer_reach job (critical_of o) above in
      let falls = subst (λ o. Falls (named t.number 0) (known_numbers (map (known_by (name_among job.tasks)) (R o)))) birth.found (outer_falls P constants job order relabel small (parent ∷ above) t birth) in
      let there = subst (λ o. Has (known_numbers (R o)) n) birth.found h in
      let L : Option Task → StackPlace = λ o. spot_in (slot_of plan' j parent) (outer_spots plan' j job' (critical_of o) above) (from_frame (name_among job.tasks t.critical) (frames_of_task o)) (name_among job.tasks n) in
      let G : Option Task → StackPlace = λ o. spot_in (slot_of plan j parent) (outer_spots plan j job (critical_of o) above) (from_frame t.critical (frames_of_task o)) n in
      let from = from_by (name_among job.tasks) relabel p.number p.frames t.critical (named_frames P constants job p order found.0) birth.is_critical in
      ap L (found_by P constants job order relabel job' tasks_are parent p birth.found)
      ∙ ap (λ (fs : List Frame). spot_in (slot_of plan' j parent) (outer_spots plan' j job' (name_among job.tasks p.critical) above) fs (name_among job.tasks n)) from
      ∙ spot_same (name_among job.tasks) relabel (slot_of plan' j parent) (named t.number 0) (outer_spots plan j job p.critical above) (outer_spots plan' j job' (name_among job.tasks p.critical) above) (outer_reach job p.critical above) deeper (from_frame t.critical p.frames) falls n there
      ∙ ap (λ k. spot_in k (outer_spots plan j job p.critical above) (from_frame t.critical p.frames) n) slot
      ∙ ap G (sym birth.found)

  -- what a task's spots are under names by place
  pub spots_same : (t : Task) → Has job.tasks t → t.number < job.next_task → (n : ℕ) → Has (known_numbers (reach_of job t)) n → spots plan' j job' (task_by (name_among job.tasks) relabel t) (name_among job.tasks n) ≡ spots plan j job t n
  spots_same t there born n h =
      spot_same (name_among job.tasks) relabel (slot_of plan' j t.number) (named (job.next_task + 1) 0) (outer_spots plan j job t.critical t.parents) (outer_spots plan' j job' (name_among job.tasks t.critical) t.parents) (outer_of job t)
      (outer_same t.parents t (own t there).birth) t.frames (reach_falls P constants job order relabel small t there born) n h
      ∙ ap (λ k. spot_in k (outer_spots plan j job t.critical t.parents) t.frames n) (slots t there)

  module _ (homes : (a : Array) → Has job.arrays a → plan'.home j (relabel a.identity) ≡ plan.home j a.identity)
      (writes : (a : Array) → Has job.arrays a → (array job' (relabel a.identity)).writable ≡ (array job a.identity).writable) where
    pub task_same : (t : Task) → Has job.tasks t → t.number < job.next_task → (k : ℕ) → stack_of_task plan' j job' k (task_by (name_among job.tasks) relabel t) ≡ stack_of_task plan j job k t
    task_same t there born k =
        stack_same plan plan' j job job' (name_among job.tasks) relabel homes writes P k (named (job.next_task + 1) 0) (outer_spots plan j job t.critical t.parents) (outer_spots plan' j job' (name_among job.tasks t.critical) t.parents) (outer_of job t)
        (outer_same t.parents t (own t there).birth) t.frames (own t there).frames (reach_falls P constants job order relabel small t there born)
