-- A task that is started keeps order.
use Rattle.std.proofs.Common.{◌≡◌, ◌≢◌, ℕ, ◌+◌, ◌^◌, ◌<◌, ◌≤◌, true, false, not, eqb, List, [], ◌∷◌, ◌++◌, map, reverse, length, Some, None, refl, sym, ap, ◌∙◌, subst, inl, inr, arith}
use Rattle.std.specs.List.{list_any}
use Rattle.std.proofs.lemmas.Bool.Decides.{eqb_tells}
use Rattle.std.proofs.lemmas.Bool.{true≢false}
use Rattle.b67_word.specs.declared.couples.Place.{Place}
use Rattle.b67_model.specs.Keyed.{keyed}
use Rattle.b67_lemmas.specs.Lists.{Has, Falls}
use Rattle.b67_lemmas.proofs.Members.{all_from, all_in, any_none, change_found, falls_low, has_map, has_reverse_back, keyed_has, length_change, none_pass}
use Rattle.b67_model.specs.Words as Words
use Rattle.b67_model.specs.Common.{Word, Operand, Name, Ref, Row, Element, Original, Proc, Intrinsic, Frame, Standing, Marked, Entered, Array, Ready, Task, JobConstants, Job, OperatorContext, frame, top, below_top, with_top_cells, height, with_task, level_of_frame, array, top_of, cells_of, is_critical, is_original, Starts, Known, known_of, from_frame, outer_reach, outer_of, reach_of, known_numbers, identities, IsEntered, WordInOrder, EnvironmentInOrder, CopiesAbove, FramesInOrder, TaskInOrder, is_original_of, originals_in, originals_of, TasksInOrder, answered, child_of, number, BirthInOrder}
use Rattle.b67_law.proofs.Reaches.{Alike, alike_has, alike_same, Wider, word_wider, names_entered, names_array, alike_under, alike_numbers, Follows, Births, outer_alike}
use Rattle.b67_law.proofs.Looks.{Run, reach, below_marked, known_cells, some_cells}
use Rattle.b67_law.proofs.Changes.{outside}
use Rattle.b67_law.specs.Ends.{IsProcOf}
use Rattle.b67_law.proofs.RowSteps.{Fit, AllFit, originals, plain_above, environment_of_proc}
use Rattle.b67_model.specs.Words.{whole}
use Rattle.b67_law.proofs.Cuts.{Cut, cut_change, answer_job, answer_outer}
use Rattle.b67_law.proofs.Cells.{plain_word}
use Rattle.std.proofs.lemmas.List.{length-reverse}
use Rattle.b67_law.proofs.Replaced.{task_kept, job_fresh}

-- a new task of a job in order
pub record ChildInOrder (P : Starts) (constants : JobConstants) (job : Job) (parent child : Task) : Type 0 where
  pub live : keyed (λ t. t.number) parent.number job.tasks ≡ Some parent
  pub number : child.number ≡ job.next_task
  pub line : child.parents ≡ parent.number ∷ parent.parents
  pub some : parent.frames ≢ []
  pub critical : child.critical ≡ (top parent.frames).identity
  pub level : ℕ
  pub environment : ℕ
  pub cells : List Word
  pub frames : child.frames ≡ record { identity = job.next_frame; standing = Entered level environment None; cells = cells } ∷ []
  pub fit : (w : Word) → Has cells w → WordInOrder P job.arrays (reach_of job parent) job.next_frame w × ((n : ℕ) → is_original_of n w ≡ false)
  pub stands : EnvironmentInOrder (reach_of job parent) level environment
  pub low : 3 + length cells ≤ constants.stack_size
  pub place : P child.segment level child.place
  pub ready : child.condition ≡ Ready
  pub few : length job.tasks < 15

abbrev pub with_child : Job → Task → Job
with_child job child = record job { tasks = child ∷ job.tasks; next_task = job.next_task + 1; next_frame = job.next_frame + 1 }

plain_cells : (cells : List Word) → ((w : Word) → Has cells w → (n : ℕ) → is_original_of n w ≡ false) → CopiesAbove cells
plain_cells [] plain = tt
plain_cells (w ∷ ws) plain = (plain_above w ws (plain w (inl refl)), plain_cells ws (λ v k. plain v (inr k)))

from_top : (fs : List Frame) → from_frame (top fs).identity fs ≡ fs
from_top fs = grind arith

outer_step : (job : Job) (c p : ℕ) (q : Task) → keyed (λ t. t.number) p job.tasks ≡ Some q → c ≡ (top q.frames).identity → outer_reach job c (p ∷ q.parents) ≡ reach_of job q
outer_step job c p q found is = rw (found, is) (ap (λ fs. map known_of fs ++ outer_of job q) (from_top q.frames))

module _ (P : Starts) (constants : JobConstants) (job : Job) (parent child : Task) (g : TasksInOrder P constants job) (c : ChildInOrder P constants job parent child) where
  births : Births job
  births t h = (all_in (TaskInOrder P constants job) job.tasks t g.tasks h).birth

  lower : (t : Task) → Has job.tasks t → t.number < job.next_task
  lower t h = falls_low job.next_task (map (λ (u : Task). u.number) job.tasks) t.number g.numbers (has_map (λ (u : Task). u.number) job.tasks t h)

  still : (n : ℕ) (q : Task) → keyed (λ t. t.number) n job.tasks ≡ Some q → keyed (λ t. t.number) n (child ∷ job.tasks) ≡ Some q
  still n q e =
      let r = keyed_has (λ t. t.number) n job.tasks q e in
      grind (arith, lower)

  child_follows : Follows job (with_child job child) (λ n. Unit {0})
  child_follows n q lives e = record { item = q; found = still n q e; critical = refl; line = refl; alike = λ t h. alike_same (map known_of (from_frame t.critical q.frames)); stays = λ t h k. k }

  old_task : (t : Task) → Has job.tasks t → TaskInOrder P constants (with_child job child) t
  old_task t h = task_kept P constants job (with_child job child) (λ n. Unit {0}) child_follows births (omega arith) t h (λ n k. tt)
      (λ a k at. record { item = a; live = k; named = refl; owned = refl }) (all_in (TaskInOrder P constants job) job.tasks t g.tasks h)

  parent_live : Has job.tasks parent
  parent_live = (keyed_has (λ t. t.number) parent.number job.tasks parent c.live).0

  -- what lies outside the child's frame is the parent's reach
  outer_is : outer_of (with_child job child) child ≡ reach_of (with_child job child) parent
  outer_is = ap (λ ps. outer_reach (with_child job child) child.critical ps) c.line ∙ outer_step (with_child job child) child.critical parent.number parent (still parent.number parent c.live) c.critical

  reach_alike : Alike (reach_of job parent) (reach_of (with_child job child) parent)
  reach_alike = alike_under (outer_of job parent) (outer_of (with_child job child) parent) parent.frames (outer_alike job (with_child job child) (λ n. Unit {0}) child_follows births parent parent_live parent.parents refl (λ n h. tt))

  abbrev child_frame : Frame
  child_frame = record { identity = job.next_frame; standing = Entered c.level c.environment None; cells = c.cells }

  word_fits : (w : Word) → Has c.cells w → WordInOrder P job.arrays (map known_of (child_frame ∷ []) ++ reach_of (with_child job child) parent) job.next_frame w
  word_fits w k = word_wider P (reach_of job parent) (map known_of (child_frame ∷ []) ++ reach_of (with_child job child) parent) job.arrays job.arrays job.next_frame
      (record { entered = λ n s e h. inr (alike_has (reach_of job parent) (reach_of (with_child job child) parent) n s reach_alike e h); kept = λ a h at. record { item = a; live = h; named = refl; owned = refl } })
      (inl refl) w (c.fit w k).0

  environment_fits : EnvironmentInOrder (reach_of (with_child job child) parent) c.level c.environment
  environment_fits = grind (arith, alike_has, reach_alike)

  child_order : FramesInOrder P job.arrays (reach_of (with_child job child) parent) (child_frame ∷ [])
  child_order = ((all_from (WordInOrder P job.arrays (map known_of (child_frame ∷ []) ++ reach_of (with_child job child) parent) job.next_frame) c.cells word_fits, plain_cells c.cells (λ w k. (c.fit w k).1)), environment_fits, tt)

  ids_top : (fs : List Frame) → fs ≢ [] → Has (identities fs) (top fs).identity
  ids_top fs some = grind arith

  child_task : TaskInOrder P constants (with_child job child) child
  child_task = record {
    frames = subst (λ fs. FramesInOrder P job.arrays (outer_of (with_child job child) child) fs) (sym c.frames) (subst (λ o. FramesInOrder P job.arrays o (child_frame ∷ [])) (sym outer_is) child_order);
    returns = rw c.frames (refl, tt);
    some = rw c.frames (λ e. cc);
    falls = subst (λ fs. Falls (job.next_frame + 1) (known_numbers (map known_of fs ++ outer_of (with_child job child) child))) (sym c.frames) (subst (λ o. Falls (job.next_frame + 1) (known_numbers (map known_of (child_frame ∷ []) ++ o))) (sym outer_is) (omega arith, subst (Falls job.next_frame) (alike_numbers (reach_of job parent) (reach_of (with_child job child) parent) reach_alike) (all_in (TaskInOrder P constants job) job.tasks parent g.tasks parent_live).falls));
    not_higher = rw c.frames (omega (arith, c.low));
    place = rw c.frames c.place;
    birth = subst (BirthInOrder (with_child job child) child) (sym c.line) (record {
      parent = parent;
      found = still parent.number parent c.live;
      line = refl;
      older = let low = lower parent parent_live in omega (arith, low, c.number);
      is_critical = subst (Has (identities parent.frames)) (sym c.critical) (ids_top parent.frames c.some);
    });
    condition = rw c.ready tt;
  }

  each : (t : Task) → Has (child ∷ job.tasks) t → TaskInOrder P constants (with_child job child) t
  each t h = elim h [ inl e ↦ subst (TaskInOrder P constants (with_child job child)) e child_task | inr m ↦ old_task t m ]

  none_in_child : (n : ℕ) → originals_in n child.frames ≡ 0
  none_in_child n = rw c.frames (let none : originals n c.cells ≡ 0 = none_pass (is_original_of n) c.cells (λ w k. (c.fit w k).1 n) in omega (arith, none))

  pub child_good : TasksInOrder P constants (with_child job child)
  child_good = record {
    tasks = all_from (TaskInOrder P constants (with_child job child)) (child ∷ job.tasks) each;
    apart = λ n. rw c.frames (elim (eqb_tells job.next_frame n) [
      | inl e ↦ rw e.0 (omega (arith, job_fresh P constants job n g (omega (arith, e.1))))
      | inr e ↦ rw e.0 (omega (arith, g.apart n))
    ]);
    arrays = g.arrays;
    once = all_from (λ (a : Array). originals_of a.identity constants (with_child job child) ≡ 1) job.arrays (λ a k. omega (arith, none_in_child a.identity, all_in (λ (x : Array). originals_of x.identity constants job ≡ 1) job.arrays a g.once k));
    entries = g.entries;
    numbers = rw c.number (omega arith, g.numbers);
    names = g.names;
    few = omega (arith, c.few);
    reads = g.reads;
  }

top_cells : (fs : List Frame) (cells : List Word) → (top (with_top_cells fs cells)).identity ≡ (top fs).identity
top_cells fs cells = grind arith

-- it fits a frame of a wider reach, whoever its owner is
pub word_any : (P : Starts) (arrays : List Array) (reach reach' : List Known) (owner other : ℕ) (w : Word) → Wider reach reach' arrays arrays → is_original w ≡ false → WordInOrder P arrays reach owner w → WordInOrder P arrays reach' other w
word_any P arrays h reach' owner other w wide plain g = grind arith

module _ (P : Starts) (h : OperatorContext) (run : Run P h) (marked : (top_of h).standing ≡ Marked) (low_next : h.job.next_task < 2 ^ 48) where
  -- the call's mark has no original where its words have none
  pub started_good : (words : List Word) (environment segment level : ℕ) (place : Place) → ((n : ℕ) → originals n (cells_of h) ≡ 0) → AllFit P h words → list_any is_original words ≡ false →
      IsProcOf P (reach h) environment segment level place → eqb (level_of_frame (frame h environment) + 1) level ≡ true → 3 + length words ≤ h.constants.stack_size → length h.job.tasks < 15 →
      not (is_critical h.job (top_of h).identity) ≡ true → height (answered h (Operand h.job.next_task ∷ [])).frames ≤ h.constants.stack_size →
      TasksInOrder P h.constants (with_task (with_child h.job (child_of h words environment segment level place)) (answered h (Operand h.job.next_task ∷ [])))
  started_good words environment segment level place none fit plain is test low few free high =
      let cut : Cut P h = record { run = run; marked = marked; none = none } in
      let c = cut_change P h cut free in
      let below = below_top h.task.frames in
      let child = child_of h words environment segment level place in
      let new : Task = answered h (Operand h.job.next_task ∷ []) in
      let cells = Operand h.job.next_task ∷ (top below).cells in
      let job1 : Job = with_task h.job new in
      let found : keyed (λ t. t.number) h.task.number job1.tasks ≡ Some new = change_found (λ (t : Task). t.number) h.task.number run.found new h.job.tasks refl run.running in
      let order1 : TasksInOrder P h.constants job1 = answer_job P h cut h.job.next_task h.job.numbers low_next run.order.reads free high in
      let outer : Alike (outside h) (outer_of job1 new) = answer_outer P h cut h.job.next_task h.job.numbers low_next run.order.reads free high in
      let known : map known_of new.frames ≡ map known_of below = known_cells below cells in
      let wide : (n : ℕ) (s : Standing) → IsEntered s → Has (reach h) (n, s) → Has (reach_of job1 new) (n, s) = λ n s e k.
      let under : Has (map known_of below ++ outside h) (n, s) = below_marked h.task.frames (outside h) n s marked e k in
      rw known (alike_has (map known_of below ++ outside h) (map known_of below ++ outer_of job1 new) n s (alike_under (outside h) (outer_of job1 new) below outer) e under) in
      let number_low : h.task.number < h.job.next_task =
      let r = keyed_has (λ t. t.number) h.task.number h.job.tasks run.found run.running in
      let l = falls_low h.job.next_task (map (λ (t : Task). t.number) h.job.tasks) run.found.number run.order.numbers (has_map (λ (t : Task). t.number) h.job.tasks run.found r.0) in
      omega (arith, l, r.1) in
      let narrow : Wider (reach h) (reach_of job1 new) h.job.arrays h.job.arrays = record { entered = wide; kept = λ a k at. record { item = a; live = k; named = refl; owned = refl } } in
      let in_child : ChildInOrder P h.constants job1 new child = record {
        live = found;
        number = refl;
        line = refl;
        some = some_cells below cells c.some;
        critical = sym (top_cells below cells);
        level = level;
        environment = environment;
        cells = reverse words;
        frames = refl;
        fit = λ w k.
            let there = has_reverse_back words w k in
            let one = any_none is_original words w plain there in
            (word_any P h.job.arrays (reach h) (reach_of job1 new) (top_of h).identity h.job.next_frame w narrow one (all_in (Fit P h) words w fit there), plain_word w one);
        stands = environment_of_proc P h run (reach_of job1 new) environment segment level place is (λ s e k. wide environment s e k) test;
        low = rw (length-reverse words) low;
        place = is.starts;
        ready = refl;
        few = rw (length_change (λ (t : Task). t.number) h.task.number new h.job.tasks) few;
      } in
      let done = child_good P h.constants job1 new child order1 in_child in
      elim (eqb_tells h.job.next_task h.task.number) [ inl e ↦ absurd (omega (arith, e.1, number_low)) | inr e ↦ rw e.0 done ]
