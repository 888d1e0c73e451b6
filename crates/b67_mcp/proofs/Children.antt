-- The order of a job where a task was started, and its parent still stands at the call.
use Rattle.std.proofs.Common.{◌≡◌, ℕ, ◌+◌, ◌<◌, ◌≤◌, eqb, List, [], ◌∷◌, ◌++◌, map, length, Some, None, refl, sym, ap, ◌∙◌, subst, inl, inr, arith, false}
use Rattle.std.proofs.lemmas.Bool.Decides.{eqb_tells}
use Rattle.b67_model.specs.Keyed.{keyed}
use Rattle.b67_lemmas.specs.Lists.{Has, Falls}
use Rattle.b67_lemmas.proofs.Members.{all_from, all_in, falls_low, falls_more, has_map, keyed_has, none_pass}
use Rattle.b67_model.specs.Common.{Word, Frame, Entered, Array, Ready, Task, JobConstants, Job, Starts, Known, known_of, from_frame, outer_reach, outer_of, known_numbers, identities, WordInOrder, EnvironmentInOrder, CopiesAbove, FramesInOrder, BirthInOrder, TaskInOrder, is_original_of, originals_in, originals_of, TasksInOrder}
use Rattle.b67_law.proofs.Reaches.{Alike, alike_has, alike_same, alike_under, alike_numbers, Follows, Births, outer_alike, word_wider}
use Rattle.b67_law.proofs.Replaced.{task_kept, job_fresh}
use Rattle.b67_law.proofs.RowSteps.{originals, plain_above}
use Rattle.b67_task.specs.Starts.{with_child}

-- what a task may name below its call
abbrev pub under_call : Job → Task → Frame → List Frame → List Known
under_call job parent under below = map known_of (under ∷ below) ++ outer_of job parent

-- a new task of a job in order, whose parent may not leave the frame under its call's mark
pub record ChildInOrder (P : Starts) (constants : JobConstants) (job : Job) (parent child : Task) : Type 0 where
  pub live : keyed (λ (t : Task). t.number) parent.number job.tasks ≡ Some parent
  pub number : child.number ≡ job.next_task
  pub line : child.parents ≡ parent.number ∷ parent.parents
  pub call : Frame
  pub under : Frame
  pub below : List Frame
  pub stack : parent.frames ≡ call ∷ under ∷ below
  pub critical : child.critical ≡ under.identity
  pub level : ℕ
  pub environment : ℕ
  pub cells : List Word
  pub frames : child.frames ≡ record { identity = job.next_frame; standing = Entered level environment None; cells = cells } ∷ []
  pub fit : (w : Word) → Has cells w → WordInOrder P job.arrays (under_call job parent under below) job.next_frame w × ((n : ℕ) → is_original_of n w ≡ false)
  pub stands : EnvironmentInOrder (under_call job parent under below) level environment
  pub low : 3 + length cells ≤ constants.stack_size
  pub place : P child.segment level child.place
  pub ready : child.condition ≡ Ready
  pub few : length job.tasks < 15

plain_cells : (cells : List Word) → ((w : Word) → Has cells w → (n : ℕ) → is_original_of n w ≡ false) → CopiesAbove cells
plain_cells [] plain = tt
plain_cells (w ∷ ws) plain = (plain_above w ws (plain w (inl refl)), plain_cells ws (λ v k. plain v (inr k)))

module _ (P : Starts) (constants : JobConstants) (job : Job) (parent child : Task) (g : TasksInOrder P constants job) (c : ChildInOrder P constants job parent child) where
  births : Births job
  births t h = (all_in (TaskInOrder P constants job) job.tasks t g.tasks h).birth

  lower : (t : Task) → Has job.tasks t → t.number < job.next_task
  lower t h = falls_low job.next_task (map (λ (u : Task). u.number) job.tasks) t.number g.numbers (has_map (λ (u : Task). u.number) job.tasks t h)

  still : (n : ℕ) (q : Task) → keyed (λ (t : Task). t.number) n job.tasks ≡ Some q → keyed (λ (t : Task). t.number) n (child ∷ job.tasks) ≡ Some q
  still n q e =
      let r = keyed_has (λ (t : Task). t.number) n job.tasks q e in
      grind (arith, lower)

  follows : Follows job (with_child job child) (λ n. Unit {0})
  follows n q lives e = record { item = q; found = still n q e; critical = refl; line = refl; alike = λ t h. alike_same (map known_of (from_frame t.critical q.frames)); stays = λ t h k. k }

  old_task : (t : Task) → Has job.tasks t → TaskInOrder P constants (with_child job child) t
  old_task t h = task_kept P constants job (with_child job child) (λ n. Unit {0}) follows births (omega arith) t h (λ n k. tt)
      (λ a k at. record { item = a; live = k; named = refl; owned = refl }) (all_in (TaskInOrder P constants job) job.tasks t g.tasks h)

  parent_live : Has job.tasks parent
  parent_live = (keyed_has (λ (t : Task). t.number) parent.number job.tasks parent c.live).0

  parent_order : TaskInOrder P constants job parent
  parent_order = all_in (TaskInOrder P constants job) job.tasks parent g.tasks parent_live

  parent_falls : Falls job.next_frame (known_numbers (map known_of (c.call ∷ c.under ∷ c.below) ++ outer_of job parent))
  parent_falls = subst (λ (fs : List Frame). Falls job.next_frame (known_numbers (map known_of fs ++ outer_of job parent))) c.stack parent_order.falls

  apart : eqb c.call.identity c.under.identity ≡ false
  apart = elim (eqb_tells c.call.identity c.under.identity) [ inl e ↦ absurd (omega (arith, parent_falls.1.0, e.1)) | inr e ↦ e.0 ]

  from_under : from_frame c.under.identity parent.frames ≡ c.under ∷ c.below
  from_under = ap (from_frame c.under.identity) c.stack ∙ rw apart (elim (eqb_tells c.under.identity c.under.identity) [ inl e ↦ rw e.0 refl | inr e ↦ absurd (e.1 refl) ])

  outer_step : (crit p : ℕ) (q : Task) → keyed (λ (t : Task). t.number) p (child ∷ job.tasks) ≡ Some q → crit ≡ c.under.identity → from_frame c.under.identity q.frames ≡ c.under ∷ c.below
      → outer_reach (with_child job child) crit (p ∷ q.parents) ≡ under_call (with_child job child) q c.under c.below
  outer_step crit p q found is from = rw (found, is) (ap (λ (fs : List Frame). map known_of fs ++ outer_of (with_child job child) q) from)

  -- what lies outside the child's frame is what its parent may name below the call
  outer_is : outer_of (with_child job child) child ≡ under_call (with_child job child) parent c.under c.below
  outer_is = ap (λ (ps : List ℕ). outer_reach (with_child job child) child.critical ps) c.line ∙ outer_step child.critical parent.number parent (still parent.number parent c.live) c.critical from_under

  under_alike : Alike (under_call job parent c.under c.below) (under_call (with_child job child) parent c.under c.below)
  under_alike = alike_under (outer_of job parent) (outer_of (with_child job child) parent) (c.under ∷ c.below) (outer_alike job (with_child job child) (λ n. Unit {0}) follows births parent parent_live parent.parents refl (λ n h. tt))

  abbrev child_frame : Frame
  child_frame = record { identity = job.next_frame; standing = Entered c.level c.environment None; cells = c.cells }

  word_fits : (w : Word) → Has c.cells w → WordInOrder P job.arrays (map known_of (child_frame ∷ []) ++ under_call (with_child job child) parent c.under c.below) job.next_frame w
  word_fits w k = word_wider P (under_call job parent c.under c.below) (map known_of (child_frame ∷ []) ++ under_call (with_child job child) parent c.under c.below) job.arrays job.arrays job.next_frame
      (record { entered = λ n s e h. inr (alike_has (under_call job parent c.under c.below) (under_call (with_child job child) parent c.under c.below) n s under_alike e h); kept = λ a h at. record { item = a; live = h; named = refl; owned = refl } })
      (inl refl) w (c.fit w k).0

  environment_fits : EnvironmentInOrder (under_call (with_child job child) parent c.under c.below) c.level c.environment
  environment_fits = grind (arith, alike_has, under_alike)

  child_order : FramesInOrder P job.arrays (under_call (with_child job child) parent c.under c.below) (child_frame ∷ [])
  child_order = ((all_from (WordInOrder P job.arrays (map known_of (child_frame ∷ []) ++ under_call (with_child job child) parent c.under c.below) job.next_frame) c.cells word_fits, plain_cells c.cells (λ w k. (c.fit w k).1)), environment_fits, tt)

  under_falls : Falls job.next_frame (known_numbers (under_call job parent c.under c.below))
  under_falls = falls_more c.call.identity job.next_frame (known_numbers (under_call job parent c.under c.below)) (omega (arith, parent_falls.0)) parent_falls.1

  child_task : TaskInOrder P constants (with_child job child) child
  child_task = record {
    frames = subst (λ (fs : List Frame). FramesInOrder P job.arrays (outer_of (with_child job child) child) fs) (sym c.frames) (subst (λ (o : List Known). FramesInOrder P job.arrays o (child_frame ∷ [])) (sym outer_is) child_order);
    returns = rw c.frames (refl, tt);
    some = rw c.frames (λ e. cc);
    falls = subst (λ (fs : List Frame). Falls (job.next_frame + 1) (known_numbers (map known_of fs ++ outer_of (with_child job child) child))) (sym c.frames)
        (subst (λ (o : List Known). Falls (job.next_frame + 1) (known_numbers (map known_of (child_frame ∷ []) ++ o))) (sym outer_is)
        (omega arith, subst (Falls job.next_frame) (alike_numbers (under_call job parent c.under c.below) (under_call (with_child job child) parent c.under c.below) under_alike) under_falls));
    not_higher = rw c.frames (omega (arith, c.low));
    place = rw c.frames c.place;
    birth = subst (BirthInOrder (with_child job child) child) (sym c.line) (record {
      parent = parent;
      found = still parent.number parent c.live;
      line = refl;
      older = let low = lower parent parent_live in omega (arith, low, c.number);
      is_critical = subst (Has (identities parent.frames)) (sym c.critical) (subst (λ (fs : List Frame). Has (identities fs) c.under.identity) (sym c.stack) (inr (inl refl)));
    });
    condition = rw c.ready tt;
  }

  each : (t : Task) → Has (child ∷ job.tasks) t → TaskInOrder P constants (with_child job child) t
  each t h = elim h [ inl e ↦ subst (TaskInOrder P constants (with_child job child)) e child_task | inr m ↦ old_task t m ]

  none_in_child : (n : ℕ) → originals_in n child.frames ≡ 0
  none_in_child n = rw c.frames (let none : originals n c.cells ≡ 0 = none_pass (is_original_of n) c.cells (λ w k. (c.fit w k).1 n) in omega (arith, none))

  pub child_good : TasksInOrder P constants (with_child job child)
  child_good = record {
    tasks = all_from (TaskInOrder P constants (with_child job child)) (child ∷ job.tasks) each;
    apart = λ n. rw c.frames (elim (eqb_tells job.next_frame n) [
      | inl e ↦ rw e.0 (omega (arith, job_fresh P constants job n g (omega (arith, e.1))))
      | inr e ↦ rw e.0 (omega (arith, g.apart n))
    ]);
    arrays = g.arrays;
    once = all_from (λ (a : Array). originals_of a.identity constants (with_child job child) ≡ 1) job.arrays (λ a k. omega (arith, none_in_child a.identity, all_in (λ (x : Array). originals_of x.identity constants job ≡ 1) job.arrays a g.once k));
    entries = g.entries;
    numbers = rw c.number (omega arith, g.numbers);
    names = g.names;
    few = omega (arith, c.few);
    reads = g.reads;
  }
