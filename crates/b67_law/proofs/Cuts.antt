-- Intrinsics that cut their mark and answer keep order.
use Rattle.std.proofs.Common.{◌≡◌, ◌≢◌, ℕ, ◌+◌, ◌^◌, ◌<◌, ◌≤◌, Bool, true, false, not, cond, List, [], ◌∷◌, ◌++◌, map, Option, Some, None, refl, sym, ◌∙◌, subst, arith, ℤ, pos, negsuc, nat_abs, ltb, ◌&&◌}
use Rattle.std.specs.List.{AllByRecursion}
use Rattle.b67_model.specs.Keyed.{keyed}
use Rattle.b67_model.specs.Common.{Word, Operand, Frame, Marked, Condition, Ready, Awaits, WaitsAt, Task, OperatorContext, top, below_top, with_top_cells, height, with_task, level_of_frame, running, array, Line, Waits, top_of, cells_of, with_frames, is_critical, Starts, known_of, outer_of, ConditionInOrder, originals_in, TasksInOrder, Value, Values, answered, answers, print, printrow, row_copy, numbers_of, awaits, await, status}
use Rattle.b67_model.specs.Intrinsics as Intrinsics
use Rattle.b67_law.proofs.Reaches.{Alike}
use Rattle.b67_law.proofs.Looks.{Run, own_order, below_some, running_cells}
use Rattle.b67_law.proofs.Changes.{Change, TopWords, outside, change_cells, change_drop, change_replaces, run_replaced}
use Rattle.b67_law.proofs.Posts.{post_ok, post_err, post_any, post_needs, post_if}
use Rattle.b67_law.proofs.RowSteps.{Keeps, Good, top_words, originals, originals_cells, result_good}
use Rattle.b67_model.specs.Words.{whole}
use Rattle.b67_law.proofs.Entries.{taken_apart, parted, below_is, top_is, free_by, running_marked}

-- the marked frame on top, whose cells hold no original
pub record Cut (P : Starts) (h : OperatorContext) : Type 0 where
  pub run : Run P h
  pub marked : (top_of h).standing ≡ Marked
  pub none : (n : ℕ) → originals n (cells_of h) ≡ 0

-- the running task with these frames, among the same arrays, and other numbers to read
pub changed_reads : (P : Starts) (h : OperatorContext) (frames : List Frame) (numbers : List ℤ) → Run P h → Change P h h.job.arrays frames h.job.next_frame → height frames ≤ h.constants.stack_size →
    level_of_frame (running frames) ≡ level_of_frame (running h.task.frames) → ((n : ℕ) → originals_in n frames ≡ originals_in n h.task.frames) → AllByRecursion (λ n. nat_abs n < 2 ^ 39) numbers →
    TasksInOrder P h.constants (with_task (record h.job { numbers = numbers }) (with_frames h frames))
    × Alike (outside h) (outer_of (with_task (record h.job { numbers = numbers }) (with_frames h frames)) (with_frames h frames))
changed_reads P h frames numbers run c low level same reads =
    let new : Task = with_frames h frames in
    let waits : ConditionInOrder (map known_of frames ++ outside h) h.task.condition = subst (ConditionInOrder (map known_of frames ++ outside h)) (sym run.ready) tt in
    run_replaced P h (with_task (record h.job { numbers = numbers }) new) new run (change_replaces P h frames h.job.next_frame h.task.segment h.task.place h.task.condition numbers run.order c low (rw level run.place) waits same reads)

module _ (P : Starts) (h : OperatorContext) (cut : Cut P h) where
  -- the frames without the marked one
  pub below_of : Change P h h.job.arrays (below_top h.task.frames) h.job.next_frame → (n : ℕ) → originals_in n (below_top h.task.frames) ≡ originals_in n h.task.frames
  below_of c n =
      let p = taken_apart P h cut.run in
      let split : originals_in n h.task.frames ≡ originals n (cells_of h) + originals_in n (below_top h.task.frames) = rw p.are refl in
      omega (arith, split, cut.none n)

  pub cut_change : not (is_critical h.job (top_of h).identity) ≡ true → Change P h h.job.arrays (below_top h.task.frames) h.job.next_frame
  cut_change free =
      let p = taken_apart P h cut.run in
      let own = own_order P h cut.run in
      let some : p.below ≢ [] = subst (λ fs. fs ≢ []) (below_is h p) (below_some P h.task.frames own.returns own.some cut.marked) in
      let free' : not (is_critical h.job p.f.identity) ≡ true = subst (λ (x : Frame). not (is_critical h.job x.identity) ≡ true) (top_is h p) free in
      subst (λ fs. Change P h h.job.arrays fs h.job.next_frame) (sym (below_is h p)) (change_drop P h h.job.arrays p.f p.below h.job.next_frame (parted P h cut.run p) (free_by h.job p.f.identity free') some)

  pub low_below : height (below_top h.task.frames) ≤ h.constants.stack_size
  low_below =
      let p = taken_apart P h cut.run in
      let low : height (below_top h.task.frames) ≤ height h.task.frames = rw p.are (omega arith) in
      omega (arith, low, (own_order P h cut.run).not_higher)

  -- the mark is cut, and nothing is pushed
  pub cut_low : not (is_critical h.job (top_of h).identity) ≡ true → TasksInOrder P h.constants (with_task h.job (answered h []))
  cut_low free =
      let c = cut_change free in
      (changed_reads P h (below_top h.task.frames) h.job.numbers cut.run c low_below (sym (running_marked h.task.frames cut.marked)) (below_of c) cut.run.order.reads).0

  pub answers_none : (printed : List Line) (touched : Option ℕ) → Good P h (answers h h.job [] printed touched)
  answers_none printed touched = grind (arith, cut_low)

  -- an operand is pushed on the frame below
  pub pushed_words : (bits : ℕ) → bits < 2 ^ 48 → Change P h h.job.arrays (below_top h.task.frames) h.job.next_frame → TopWords P h h.job.arrays (below_top h.task.frames) (Operand bits ∷ (top (below_top h.task.frames)).cells)
  pushed_words bits low c = let own = top_words P h.job.arrays (outside h) (below_top h.task.frames) c.order in ((low, own.0), (tt, own.1))

  pub answer_both : (bits : ℕ) (numbers : List ℤ) → bits < 2 ^ 48 → AllByRecursion (λ n. nat_abs n < 2 ^ 39) numbers → not (is_critical h.job (top_of h).identity) ≡ true → height (answered h (Operand bits ∷ [])).frames ≤ h.constants.stack_size →
      TasksInOrder P h.constants (with_task (record h.job { numbers = numbers }) (answered h (Operand bits ∷ [])))
      × Alike (outside h) (outer_of (with_task (record h.job { numbers = numbers }) (answered h (Operand bits ∷ []))) (answered h (Operand bits ∷ [])))
  answer_both bits numbers low reads free high =
      let c = cut_change free in
      let below = below_top h.task.frames in
      let cells = Operand bits ∷ (top below).cells in
      let level : level_of_frame (running (with_top_cells below cells)) ≡ level_of_frame (running h.task.frames) = running_cells below cells ∙ sym (running_marked h.task.frames cut.marked) in
      changed_reads P h (with_top_cells below cells) numbers cut.run (change_cells P h h.job.arrays below h.job.next_frame cells c (pushed_words bits low c)) high level
      (λ n. originals_cells n below cells (omega arith) ∙ below_of c n) reads

  pub answer_job : (bits : ℕ) (numbers : List ℤ) → bits < 2 ^ 48 → AllByRecursion (λ n. nat_abs n < 2 ^ 39) numbers → not (is_critical h.job (top_of h).identity) ≡ true → height (answered h (Operand bits ∷ [])).frames ≤ h.constants.stack_size →
      TasksInOrder P h.constants (with_task (record h.job { numbers = numbers }) (answered h (Operand bits ∷ [])))
  answer_job bits numbers low reads free high = (answer_both bits numbers low reads free high).0

  pub answer_outer : (bits : ℕ) (numbers : List ℤ) → bits < 2 ^ 48 → AllByRecursion (λ n. nat_abs n < 2 ^ 39) numbers → not (is_critical h.job (top_of h).identity) ≡ true → height (answered h (Operand bits ∷ [])).frames ≤ h.constants.stack_size →
      Alike (outside h) (outer_of (with_task (record h.job { numbers = numbers }) (answered h (Operand bits ∷ []))) (answered h (Operand bits ∷ [])))
  answer_outer bits numbers low reads free high = (answer_both bits numbers low reads free high).1

  pub answers_operand : (bits : ℕ) (numbers : List ℤ) (printed : List Line) (touched : Option ℕ) → bits < 2 ^ 48 → AllByRecursion (λ n. nat_abs n < 2 ^ 39) numbers → Good P h (answers h (record h.job { numbers = numbers }) (Operand bits ∷ []) printed touched)
  answers_operand bits numbers printed touched low reads = grind (arith, answer_job)

  pub print_good : (arguments : List Word) → Good P h (print h arguments)
  print_good arguments = grind (arith, answers_none)

  pub printrow_good : (arguments : List Word) → Good P h (printrow h arguments)
  printrow_good arguments = grind (arith, answers_none)

  pub status_good : (arguments : List Word) → Good P h (status h arguments)
  status_good arguments = grind (arith, answers_operand)

  awaits_good : (n : ℤ) → Good P h (awaits h n)
  awaits_good n = grind (arith, answers_none)

  pub await_good : (arguments : List Word) → Good P h (await h arguments)
  await_good arguments = grind (arith, awaits_good)
