-- Turns of the loops that print cells, activation records, tasks and jobs.
use Rattle.std.proofs.Common.{◌≡◌, Ok, Err, Some, ℕ, zero, suc, ◌+◌, ◌-◌, ◌<◌, ◌≤◌, List, [], ◌∷◌, ◌++◌, length, drop, get_or, codes, decimal, refl, sym, ap, ◌∙◌, ◌≢◌, append-nil, append_assoc, arith}
use Rattle.std.proofs.lemmas.List.{at_drop_more, drop_all}
use Rattle.std.proofs.lemmas.Option.{get_or_from_slice_get}
use Rattle.std.specs.Prelude.{Option, Result, ⊤, slice_get}
use Rattle.b67_word.specs.Tagged.{Tagged, bits_at}
use Rattle.b67_word.specs.declared.faults.Failed.{Failed}
use Rattle.b67_word.specs.declared.couples.Place.{Place}
use Rattle.b67_io.specs.Line.{ended}
use Rattle.b67_model.specs.Lines.{task_name}
use Rattle.b67_layout.specs.Common.{TaskRow, JobRow}
use Rattle.b67_stack.specs.Common.{Activation}
use Rattle.b67_layout_shown.specs.Reading.{word_seen_at, shape_in, cells_in, stack_seen}
use Rattle.b67_layout_shown.specs.Shown.{Sight, rows_of, top_in}
use Rattle.b67_dump.specs.Dump.{beside, place_text}
use Rattle.b67_dump.specs.Walk.{state_text, marks_in, shape_text, shapes_text, activations_text, row_dump, rows_dump, jobs_dump}
use Rattle.b67_dump.specs.Put.{PutsText}
use Rattle.b67_dump.proofs.Putting.{puts_none, puts_then, puts_stop, puts_as, grows, falls}
use Rattle.b67_dump.specs.Records.{activation_in, record_text, marked_text, top_above}

-- ---- cells

cells_long : (core : List Tagged) (from n : ℕ) → length (cells_in core from n) ≡ n
cells_long core from zero = refl
cells_long core from (suc n) = ap suc (cells_long core from n)

module _ (k : Sight) (row : JobRow) (job : ℕ) where
  abbrev pub cell_at : ℕ → ℕ → List ℕ
  cell_at offset at = beside (codes "CELL") (beside (decimal offset) (shape_text k row job (shape_in k.core at (word_seen_at k.core at))))

  pub cells_more : (from n : ℕ) → shapes_text k row job (cells_in k.core from (suc n)) ≡ shapes_text k row job (cells_in k.core from n) ++ ended (cell_at (2 + n) (from + n))
  cells_more from n = ap (λ i. shapes_text k row job (cells_in k.core from n) ++ ended (cell_at (2 + i) (from + n))) (cells_long k.core from n)

  -- ---- activation records

  both : (f s : ℕ) (below : List Activation) (marks : List ℕ) → activations_text k row job below ≡ marked_text k row job (f - 1) marks → length below ≡ length marks
      → activations_text k row job (activation_in k.core f s ∷ below) ≡ marked_text k row job s (f ∷ marks)
  both f s below marks e long = grind arith

  stack_long : (n f s : ℕ) → length (stack_seen k.core n f s) ≡ length (marks_in k.core n f)
  unfolding stack_seen marks_in
  stack_long zero f s = refl
  stack_long (suc n) f s = grind (arith, stack_long n)

  pub stack_marked : (n f s : ℕ) → activations_text k row job (stack_seen k.core n f s) ≡ marked_text k row job s (marks_in k.core n f)
  unfolding stack_seen marks_in
  stack_marked zero f s = refl
  stack_marked (suc n) f s = grind (arith, stack_long, stack_marked n)

  -- the text of the records from the one of an index down
  abbrev pub from_mark : ℕ → List ℕ → ℕ → List ℕ
  from_mark s marks i = marked_text k row job (top_above s marks i) (drop i marks)

  abbrev pub record_of : ℕ → List ℕ → ℕ → List ℕ
  record_of s marks i = record_text k row job (length marks - i) (get_or marks i 0) (top_above s marks i)

  pub mark_more : (s : ℕ) (marks : List ℕ) (i : ℕ) → i < length marks → from_mark s marks i ≡ from_mark s marks (suc i) ++ record_of s marks i
  mark_more s [] i low = absurd (omega (arith, low))
  mark_more s (f ∷ below) zero low = grind arith
  mark_more s (f ∷ below) (suc i) low =
      let e : length below - i ≡ length (f ∷ below) - suc i = omega arith in
      mark_more (f - 1) below i (omega (arith, low))
      ∙ ap (λ n. from_mark (f - 1) below (suc i) ++ record_text k row job n (get_or below i 0) (top_above (f - 1) below i)) e

  pub no_mark_left : (s : ℕ) (marks : List ℕ) → from_mark s marks (length marks) ≡ []
  no_mark_left s marks = ap (marked_text k row job (top_above s marks (length marks))) (drop_all (length marks) marks (omega arith))

  -- ---- tasks

  pub task_more : (rows : List TaskRow) (i : ℕ) (d : TaskRow) → i < length rows → rows_dump k row job (drop i rows) ≡ rows_dump k row job (drop (suc i) rows) ++ row_dump k row job (get_or rows i d)
  task_more [] i d low = absurd (omega (arith, low))
  task_more (r ∷ rows) zero d low = refl
  task_more (r ∷ rows) (suc i) d low = task_more rows i d (omega (arith, low))

  pub no_task_left : (rows : List TaskRow) → rows_dump k row job (drop (length rows) rows) ≡ []
  no_task_left rows = ap (rows_dump k row job) (drop_all (length rows) rows (omega arith))

-- the text of a task by its line and its records
pub task_is : (k : Sight) (row : JobRow) (job : ℕ) (r : TaskRow) (s f segment : ℕ) (place : Place) (line : List ℕ) → s ≡ (top_in k r).s → f ≡ (top_in k r).f → segment ≡ (top_in k r).segment → place ≡ (top_in k r).place
    → line ≡ beside (codes "TASK") (beside (task_name job r.number) (beside (state_text k row job r.state) (beside (decimal (segment - 1)) (place_text place))))
    → row_dump k row job r ≡ ended line ++ activations_text k row job (stack_seen k.core k.regs.stack_size f s)
task_is k row job r s f segment place line es ef eg ep el = grind arith

-- ---- tops

pub top_is : (s : ℕ) (marks : List ℕ) (i : ℕ) → i < length marks → top_above s marks (suc i) ≡ get_or marks i 0 - 1
top_is s [] i low = absurd (omega (arith, low))
top_is s (f ∷ below) zero low = refl
top_is s (f ∷ below) (suc i) low = top_is (f - 1) below i (omega (arith, low))

pub top_near : (bound s : ℕ) (marks : List ℕ) (i : ℕ) → s < bound → ((n : ℕ) → get_or marks n 0 < bound) → top_above s marks i < bound
top_near bound s marks zero low near = low
top_near bound s [] (suc i) low near = low
top_near bound s (f ∷ below) (suc i) low near = let at : f < bound = near 0 in top_near bound (f - 1) below i (omega (arith, at)) (λ n. near (suc n))

-- the cells of a record begin behind its mark, and behind its return word where it has one
pub cells_are : (core : List Tagged) (f s b from count : ℕ) → bits_at (word_seen_at core f) 46 1 ≡ b → b < 2 → from ≡ f + (1 + b) → count ≡ s + 1 - from → (activation_in core f s).cells ≡ cells_in core from count
cells_are core f s b from count e low at many = grind arith

-- ---- turns

module _ {K : Type 0} (taken : K → Option (List ℕ)) (faults : K → ℕ) (k : Sight) (row : JobRow) (job : ℕ) (a : K) where
  abbrev pub cells_to : ℕ → ℕ → List ℕ
  cells_to from n = shapes_text k row job (cells_in k.core from n)

  pub cell_turn : (b c : K) (r : Result ⊤ Failed) (from n : ℕ) (line : List ℕ) → PutsText taken faults a b (Ok tt) (cells_to from n) → line ≡ cell_at k row job (2 + n) (from + n)
      → PutsText taken faults b c r (ended line) → PutsText taken faults a c r (cells_to from (n + 1))
  cell_turn b c r from n line p is q =
      let on : suc n ≡ n + 1 = omega arith in
      puts_as taken faults a c r (cells_to from n ++ ended line) (cells_to from (n + 1)) (ap (λ (l : List ℕ). cells_to from n ++ ended l) is ∙ sym (cells_more k row job from n) ∙ ap (cells_to from) on)
      (puts_then taken faults a b c r (cells_to from n) (ended line) p q)

  pub cell_stop : (b c : K) (failed : Failed) (from n count : ℕ) (line : List ℕ) → PutsText taken faults a b (Ok tt) (cells_to from n) → line ≡ cell_at k row job (2 + n) (from + n) → n < count
      → PutsText taken faults b c (Err failed) (ended line) → PutsText taken faults a c (Err failed) (cells_to from count)
  cell_stop b c failed from n count line p is low q =
      let more = grows (cells_to from) (λ i. ended (cell_at k row job (2 + i) (from + i))) (λ i. cells_more k row job from i) (n + 1) (count - (n + 1)) in
      let all : count ≡ (n + 1) + (count - (n + 1)) = omega (arith, low) in
      puts_stop taken faults a c failed (cells_to from (n + 1)) (cells_to from count) (more.0, ap (cells_to from) all ∙ more.1) (cell_turn b c (Err failed) from n line p is q)

  pub mark_turn : (b c : K) (r : Result ⊤ Failed) (s : ℕ) (marks : List ℕ) (left number mark last : ℕ) → 0 < left → left ≤ length marks → PutsText taken faults a b (Ok tt) (from_mark k row job s marks left)
      → number ≡ length marks - (left - 1) → slice_get marks (left - 1) ≡ Some mark → last ≡ top_above s marks (left - 1)
      → PutsText taken faults b c r (record_text k row job number mark last) → PutsText taken faults a c r (from_mark k row job s marks (left - 1))
  mark_turn b c r s marks left number mark last some inside p many at up q =
      let i = left - 1 in
      let on : suc (left - 1) ≡ left = omega (arith, some) in
      let is : record_text k row job number mark last ≡ record_of k row job s marks (left - 1) =
      ap (λ n. record_text k row job n mark last) many ∙ ap (λ f. record_text k row job (length marks - (left - 1)) f last) (sym (get_or_from_slice_get marks (left - 1) mark 0 at))
      ∙ ap (λ t. record_text k row job (length marks - (left - 1)) (get_or marks (left - 1) 0) t) up in
      puts_as taken faults a c r (from_mark k row job s marks left ++ record_text k row job number mark last) (from_mark k row job s marks (left - 1))
      (ap (λ t. from_mark k row job s marks left ++ t) is ∙ ap (λ n. from_mark k row job s marks n ++ record_of k row job s marks (left - 1)) (sym on)
      ∙ sym (mark_more k row job s marks (left - 1) (omega (arith, some, inside))))
      (puts_then taken faults a b c r (from_mark k row job s marks left) (record_text k row job number mark last) p q)

  pub mark_stop : (b c : K) (failed : Failed) (s : ℕ) (marks : List ℕ) (left number mark last : ℕ) → 0 < left → left ≤ length marks → PutsText taken faults a b (Ok tt) (from_mark k row job s marks left)
      → number ≡ length marks - (left - 1) → slice_get marks (left - 1) ≡ Some mark → last ≡ top_above s marks (left - 1)
      → PutsText taken faults b c (Err failed) (record_text k row job number mark last) → PutsText taken faults a c (Err failed) (from_mark k row job s marks 0)
  mark_stop b c failed s marks left number mark last some inside p many at up q =
      puts_stop taken faults a c failed (from_mark k row job s marks (left - 1)) (from_mark k row job s marks 0)
      (falls (from_mark k row job s marks) (record_of k row job s marks) (length marks) (mark_more k row job s marks) (left - 1) (omega (arith, inside)))
      (mark_turn b c (Err failed) s marks left number mark last some inside p many at up q)

  pub no_record : (s : ℕ) (marks : List ℕ) (left : ℕ) → left ≡ length marks → PutsText taken faults a a (Ok tt) (from_mark k row job s marks left)
  no_record s marks left e = puts_as taken faults a a (Ok tt) [] (from_mark k row job s marks left) (sym (ap (from_mark k row job s marks) e ∙ no_mark_left k row job s marks)) (puts_none taken faults a)

  -- the whole text of a stack
  pub all_records : (c : K) (r : Result ⊤ Failed) (n f s left : ℕ) (marks : List ℕ) → marks ≡ marks_in k.core n f → left ≡ 0 → PutsText taken faults a c r (from_mark k row job s marks left)
      → PutsText taken faults a c r (activations_text k row job (stack_seen k.core n f s))
  all_records c r n f s left marks e z p = grind (arith, stack_marked)

  abbrev pub tasks_from : List TaskRow → ℕ → List ℕ
  tasks_from rows i = rows_dump k row job (drop i rows)

  pub task_turn : (b c : K) (r : Result ⊤ Failed) (rows : List TaskRow) (left : ℕ) (x : TaskRow) → 0 < left → left ≤ length rows → PutsText taken faults a b (Ok tt) (tasks_from rows left)
      → slice_get rows (left - 1) ≡ Some x → PutsText taken faults b c r (row_dump k row job x) → PutsText taken faults a c r (tasks_from rows (left - 1))
  task_turn b c r rows left x some inside p at q =
      let on : suc (left - 1) ≡ left = omega (arith, some) in
      puts_as taken faults a c r (tasks_from rows left ++ row_dump k row job x) (tasks_from rows (left - 1))
      (ap (λ y. tasks_from rows left ++ row_dump k row job y) (sym (get_or_from_slice_get rows (left - 1) x x at)) ∙ ap (λ n. tasks_from rows n ++ row_dump k row job (get_or rows (left - 1) x)) (sym on)
      ∙ sym (task_more k row job rows (left - 1) x (omega (arith, some, inside))))
      (puts_then taken faults a b c r (tasks_from rows left) (row_dump k row job x) p q)

  pub task_stop : (b c : K) (failed : Failed) (rows : List TaskRow) (left : ℕ) (x : TaskRow) → 0 < left → left ≤ length rows → PutsText taken faults a b (Ok tt) (tasks_from rows left)
      → slice_get rows (left - 1) ≡ Some x → PutsText taken faults b c (Err failed) (row_dump k row job x) → PutsText taken faults a c (Err failed) (tasks_from rows 0)
  task_stop b c failed rows left x some inside p at q =
      puts_stop taken faults a c failed (tasks_from rows (left - 1)) (tasks_from rows 0)
      (falls (tasks_from rows) (λ i. row_dump k row job (get_or rows i x)) (length rows) (λ i low. task_more k row job rows i x low) (left - 1) (omega (arith, inside)))
      (task_turn b c (Err failed) rows left x some inside p at q)

  pub no_task : (rows : List TaskRow) (left : ℕ) → left ≡ length rows → PutsText taken faults a a (Ok tt) (tasks_from rows left)
  no_task rows left e = puts_as taken faults a a (Ok tt) [] (tasks_from rows left) (sym (ap (tasks_from rows) e ∙ no_task_left k row job rows)) (puts_none taken faults a)

-- ---- jobs

-- what is put so far, and what is still to be put
pub record IsPutSoFar {K : Type 0} (taken : K → Option (List ℕ)) (faults : K → ℕ) (a b : K) (whole left : List ℕ) : Type 0 where
  pub text : List ℕ
  pub puts : PutsText taken faults a b (Ok tt) text
  pub same : whole ≡ text ++ left

module _ {K : Type 0} (taken : K → Option (List ℕ)) (faults : K → ℕ) (k : Sight) (a : K) where
  abbrev pub jobs_left : List JobRow → ℕ → List ℕ
  jobs_left jobs i = jobs_dump k (i + 1) (drop i jobs)

  abbrev pub IsPutTo : K → List JobRow → ℕ → Type 0
  IsPutTo b jobs i = IsPutSoFar taken faults a b (jobs_dump k 1 jobs) (jobs_left jobs i)

  pub no_job : (jobs : List JobRow) → IsPutTo a jobs 0
  no_job jobs = record { text = []; puts = puts_none taken faults a; same = refl }

  job_is : (jobs : List JobRow) (i : ℕ) (x : JobRow) → i < length jobs → slice_get jobs i ≡ Some x → jobs_left jobs i ≡ rows_dump k x (i + 1) (rows_of k.tasks (i + 1)) ++ jobs_left jobs (i + 1)
  job_is jobs i x low at = at_drop_more (jobs_dump k (i + 1)) jobs i x low ∙ ap (λ y. rows_dump k y (i + 1) (rows_of k.tasks (i + 1)) ++ jobs_left jobs (i + 1)) (get_or_from_slice_get jobs i x x at)

  pub job_turn : (b c : K) (jobs : List JobRow) (i : ℕ) (x : JobRow) → i < length jobs → IsPutTo b jobs i → slice_get jobs i ≡ Some x
      → PutsText taken faults b c (Ok tt) (rows_dump k x (i + 1) (rows_of k.tasks (i + 1))) → IsPutTo c jobs (i + 1)
  job_turn b c jobs i x low p at q =
      let one = rows_dump k x (i + 1) (rows_of k.tasks (i + 1)) in
      record {
        text = p.text ++ one;
        puts = puts_then taken faults a b c (Ok tt) p.text one p.puts q;
        same = p.same ∙ ap (λ t. p.text ++ t) (job_is jobs i x low at) ∙ sym (append_assoc p.text one (jobs_left jobs (i + 1)));
      }

  pub job_stop : (b c : K) (failed : Failed) (jobs : List JobRow) (i : ℕ) (x : JobRow) → i < length jobs → IsPutTo b jobs i → slice_get jobs i ≡ Some x
      → PutsText taken faults b c (Err failed) (rows_dump k x (i + 1) (rows_of k.tasks (i + 1))) → PutsText taken faults a c (Err failed) (jobs_dump k 1 jobs)
  job_stop b c failed jobs i x low p at q =
      let one = rows_dump k x (i + 1) (rows_of k.tasks (i + 1)) in
      puts_stop taken faults a c failed (p.text ++ one) (jobs_dump k 1 jobs)
      (jobs_left jobs (i + 1), p.same ∙ ap (λ t. p.text ++ t) (job_is jobs i x low at) ∙ sym (append_assoc p.text one (jobs_left jobs (i + 1))))
      (puts_then taken faults a b c (Err failed) p.text one p.puts q)

  pub all_jobs : (b : K) (jobs : List JobRow) (i : ℕ) → length jobs ≤ i → IsPutTo b jobs i → PutsText taken faults a b (Ok tt) (jobs_dump k 1 jobs)
  all_jobs b jobs i past p = puts_as taken faults a b (Ok tt) p.text (jobs_dump k 1 jobs) (sym (p.same ∙ ap (λ l. p.text ++ jobs_dump k (i + 1) l) (drop_all i jobs past) ∙ append-nil p.text)) p.puts
