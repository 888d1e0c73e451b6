-- Entering and leaving keep order.
use Rattle.std.proofs.Common.{◌≡◌, ◌≢◌, ℕ, ◌+◌, ◌≤◌, true, false, not, eqb, List, [], ◌∷◌, ◌++◌, map, filter, reverse, Some, None, refl, sym, ap, ◌∙◌, subst, inl, inr, arith}
use Rattle.std.proofs.lemmas.Bool.Decides.{eqb_tells}
use Rattle.std.proofs.lemmas.Bool.{true≢false, not-true}
use Rattle.b67_model.specs.Keyed.{keyed}
use Rattle.b67_lemmas.specs.Lists.{Has, Falls}
use Rattle.b67_lemmas.proofs.Members.{all_from, all_in, any_none, change_found, falls_filter, falls_low, falls_same, has_filter, has_filter_in, none_pass}
use Rattle.b67_model.specs.Words as Words
use Rattle.b67_model.specs.Common.{Word, Operand, Name, Ref, Row, Element, Original, Proc, Intrinsic, Frame, Standing, Marked, Entered, Return, Array, Task, Job, OperatorContext, frame, top, below_top, height, with_task, level_of_frame, running, array, End, AtCell, AtElement, AtArray, AtProc, AtIntrinsic, top_of, cells_of, is_critical, back_to, enters, left, Starts, Known, known_of, known_numbers, WordInOrder, EnvironmentInOrder, CopiesAbove, ReturnsInOrder, ConditionInOrder, ArrayInOrder, is_original_of, originals_in, originals_of, frames_named}
use Rattle.b67_law.proofs.Reaches.{Alike, Stays}
use Rattle.b67_law.proofs.Replaced.{Replaced}
use Rattle.b67_law.proofs.Looks.{Run, reach, own_order, own_high, below_marked, below_some}
use Rattle.b67_law.proofs.Changes.{Change, TopWords, outside, no_change, change_arrays, change_cells, change_drop, change_enter, changed, run_replaced}
use Rattle.b67_law.specs.Ends.{EndInOrder}
use Rattle.b67_law.proofs.Posts.{post_err, post_needs}
use Rattle.b67_law.proofs.RowSteps.{Keeps, Good, AllFit, originals, SameOriginals, result_good, environment_of_proc}

-- the marked frame on top, with these cells, is entered
enter_top : (P : Starts) (h : OperatorContext) (fs : List Frame) (next level environment : ℕ) (back : Return) (cells : List Word) → Change P h h.job.arrays fs next → TopWords P h h.job.arrays fs cells → (top fs).standing ≡ Marked →
    EnvironmentInOrder (map known_of (below_top fs) ++ outside h) level environment → ReturnsInOrder P (Entered level environment (Some back)) (below_top fs) →
    Change P h h.job.arrays (record (top fs) { standing = Entered level environment (Some back); cells = cells } ∷ below_top fs) next
enter_top P h [] next level environment back cells c words marked stands returns = absurd (c.some refl)
enter_top P h (f ∷ below) next level environment back cells c words marked stands returns =
    change_enter P h h.job.arrays (record f { cells = cells }) below next level environment back (change_cells P h h.job.arrays (f ∷ below) next cells c words) marked stands returns

pub running_marked : (fs : List Frame) → (top fs).standing ≡ Marked → level_of_frame (running fs) ≡ level_of_frame (running (below_top fs))
running_marked fs marked = grind arith

originals_top : (n : ℕ) (fs : List Frame) (standing : Standing) (cells : List Word) → fs ≢ [] → originals n cells ≡ originals n (top fs).cells → originals_in n (record (top fs) { standing = standing; cells = cells } ∷ below_top fs) ≡ originals_in n fs
originals_top n fs standing cells some e = grind arith

pub enters_good : (P : Starts) (h : OperatorContext) (arguments : List Word) (end : End) → Run P h → EndInOrder P h end → (top_of h).standing ≡ Marked → AllFit P h (reverse arguments) → CopiesAbove (reverse arguments) → SameOriginals (reverse arguments) (cells_of h) → Good P h (enters h arguments end)
enters_good P h arguments (AtProc f segment level place) run is marked fit above same =
    let own = own_order P h run in
    let fs = h.task.frames in
    post_needs (Keeps P h) (eqb (level_of_frame (frame h f) + 1) level) _ _
    (λ t. result_good P h h h.job _ [] None
    (λ low.
    let environment : EnvironmentInOrder (map known_of (below_top fs) ++ outside h) level f =
    environment_of_proc P h run (map known_of (below_top fs) ++ outside h) f segment level place is (λ s e k. below_marked fs (outside h) f s marked e k) t in
    let starts : P h.task.segment (level_of_frame (running (below_top fs))) h.task.place = subst (λ n. P h.task.segment n h.task.place) (running_marked fs marked) run.place in
    changed P h (record (top_of h) { standing = Entered level f (Some (back_to h false h.task.place)); cells = reverse arguments } ∷ below_top fs) h.job.next_frame segment place run
    (enter_top P h fs h.job.next_frame level f (back_to h false h.task.place) (reverse arguments) (no_change P h run) (fit, above) marked environment (below_some P fs own.returns own.some marked, starts))
    low is.starts (λ n. originals_top n fs (Entered level f (Some (back_to h false h.task.place))) (reverse arguments) own.some (same n))))
enters_good P h arguments (AtCell f offset bits) run is marked fit above same = post_err (Keeps P h) _
enters_good P h arguments (AtElement a index) run is marked fit above same = post_err (Keeps P h) _
enters_good P h arguments (AtArray a) run is marked fit above same = post_err (Keeps P h) _
enters_good P h arguments (AtIntrinsic n) run is marked fit above same = post_err (Keeps P h) _

-- the task's frames, taken apart
pub record Apart (h : OperatorContext) : Type 0 where
  pub f : Frame
  pub below : List Frame
  pub are : h.task.frames ≡ f ∷ below

apart_by : (fs : List Frame) (h : OperatorContext) → h.task.frames ≡ fs → fs ≢ [] → Apart h
apart_by [] h e some = absurd (some refl)
apart_by (f ∷ below) h e some = record { f = f; below = below; are = e }

pub taken_apart : (P : Starts) (h : OperatorContext) → Run P h → Apart h
taken_apart P h run = apart_by h.task.frames h refl (own_order P h run).some

-- no live task depends on the frame
free_of : (job : Job) (n : ℕ) → is_critical job n ≡ false → (t : Task) → Has job.tasks t → t.critical ≢ n
free_of job n none t k e = grind (arith, any_none)

pub free_by : (job : Job) (n : ℕ) → not (is_critical job n) ≡ true → (t : Task) → Has job.tasks t → t.critical ≢ n
free_by job n test = free_of job n (not-true (is_critical job n) test)

-- the originals of other arrays don't lie in a frame
pub none_original : (job : Job) (P : Starts) (reach : List Known) (n : ℕ) (a : Array) → Falls job.next_array (map (λ x. x.identity) job.arrays) → Has job.arrays a → a.owner ≢ n → (w : Word) → WordInOrder P job.arrays reach n w → is_original_of a.identity w ≡ false
none_original job P h n a falls live other w g = grind (arith, falls_same)

-- the state after a frame was left
pub record Left (P : Starts) (h : OperatorContext) (back : Return) : Type 0 where
  pub run : Run P (left h back)
  pub outer : Alike (outside h) (outside (left h back))

pub below_is : (h : OperatorContext) (p : Apart h) → below_top h.task.frames ≡ p.below
below_is h p = rw p.are refl

pub top_is : (h : OperatorContext) (p : Apart h) → top_of h ≡ p.f
top_is h p = rw p.are refl

module _ (P : Starts) (h : OperatorContext) (run : Run P h) where
  -- all of the order with the frames taken apart
  pub parted : (p : Apart h) → Change P h h.job.arrays (p.f ∷ p.below) h.job.next_frame
  parted p = subst (λ fs. Change P h h.job.arrays fs h.job.next_frame) p.are (no_change P h run)

  stays_by : (n : ℕ) (a : Array) → Has h.job.arrays a → a.owner ≢ n → Stays (filter (λ (x : Array). not (eqb x.owner n)) h.job.arrays) a
  stays_by n a live other = grind (arith, has_filter_in)

  pub left_good : (back : Return) → (p : Apart h) → not (is_critical h.job p.f.identity) ≡ true → p.below ≢ [] → P back.segment (level_of_frame (running p.below)) back.place → Left P h back
  left_good back p free some starts =
      let n = p.f.identity in
      let arrays' : List Array = filter (λ (x : Array). not (eqb x.owner n)) h.job.arrays in
      let whole = parted p in
      let below = change_drop P h h.job.arrays p.f p.below h.job.next_frame whole (free_by h.job n free) some in
      let c : Change P h arrays' p.below h.job.next_frame = change_arrays P h h.job.arrays arrays' p.below h.job.next_frame below
      (λ a live at. stays_by n a live (λ e. let low = falls_low n (known_numbers (map known_of p.below ++ outside h)) a.owner whole.falls.1 at in omega (arith, low, e))) in
      let new : Task = record h.task { frames = p.below; segment = back.segment; place = back.place } in
      let job' : Job = with_task (record h.job { arrays = arrays' }) new in
      let high = own_high P h run p.f (subst (λ fs. Has fs p.f) (sym p.are) (inl refl)) in
      let count : frames_named n p.below + 1 ≤ frames_named n h.task.frames = rw p.are (elim (eqb_tells n n) [ inl e ↦ rw e.0 (omega arith) | inr e ↦ absurd (e.1 refl) ]) in
      let fewer : height p.below ≤ height h.task.frames = rw p.are (omega arith) in
      let r : Replaced P h.constants h.job h.task job' new = record {
        number = refl;
        line = refl;
        critical = refl;
        tasks = refl;
        next_task = refl;
        next_frame = omega arith;
        frames = c.order;
        returns = c.returns;
        some = c.some;
        falls = c.falls;
        not_higher = omega (arith, fewer, (own_order P h run).not_higher);
        place = starts;
        condition = subst (ConditionInOrder (map known_of p.below ++ outside h)) (sym run.ready) tt;
        alike = c.alike;
        stays = c.stays;
        fewer = c.fewer;
        kept = λ a live. elim (eqb_tells a.owner n) [
          | inl e ↦ record { case = inr (omega (arith, high, e.1), subst (λ m. frames_named m p.below + 1 ≤ frames_named m h.task.frames) (sym e.1) count) }
          | inr e ↦ record { case = inl (stays_by n a live e.1) }
        ];
        arrays = all_from ArrayInOrder arrays' (λ a k. all_in ArrayInOrder h.job.arrays a run.order.arrays (has_filter (λ (x : Array). not (eqb x.owner n)) h.job.arrays a k).0);
        once = λ a k.
            let inside = has_filter (λ (x : Array). not (eqb x.owner n)) h.job.arrays a k in
            let other : a.owner ≢ n = λ e. elim (eqb_tells a.owner n) [ inl s ↦ true≢false (sym inside.1 ∙ rw s.0 refl) | inr s ↦ s.1 e ] in
            let none : originals a.identity p.f.cells ≡ 0 = none_pass (is_original_of a.identity) p.f.cells (λ w j.
            none_original h.job P (map known_of (p.f ∷ p.below) ++ outside h) n a run.order.names inside.0 other w (all_in (WordInOrder P h.job.arrays (map known_of (p.f ∷ p.below) ++ outside h) n) p.f.cells w whole.order.0.0 j)) in
            let split : originals_in a.identity h.task.frames ≡ originals a.identity p.f.cells + originals_in a.identity p.below = rw p.are refl in
            omega (arith, split, none, all_in (λ (x : Array). originals_of x.identity h.constants h.job ≡ 1) h.job.arrays a run.order.once inside.0);
        names = falls_filter (λ (x : Array). x.identity) (λ (x : Array). not (eqb x.owner n)) h.job.next_array h.job.arrays run.order.names;
        reads = run.order.reads;
      } in
      let done = run_replaced P h job' new run r in
      let found : keyed (λ t. t.number) new.number job'.tasks ≡ Some new = change_found (λ (t : Task). t.number) h.task.number run.found new h.job.tasks refl run.running in
      let k : OperatorContext = record h { job = job'; task = new } in
      let run' : Run P k = record { unchanging = run.unchanging; order = done.0; found = new; running = found; same = refl; place = starts; ready = run.ready } in
      let is : k ≡ left h back = rw p.are refl in
      record {
        run = subst (Run P) is run';
        outer = subst (λ (x : OperatorContext). Alike (outside h) (outside x)) is done.1;
      }
