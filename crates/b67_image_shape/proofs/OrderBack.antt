-- What a machine shows that has all items is in order but for places.
use Rattle.std.proofs.Common.{◌≡◌, ◌≢◌, ℕ, zero, suc, ◌+◌, ◌-◌, ◌/◌, ◌^◌, ◌<◌, ◌≤◌, ◌==◌, Bool, true, false, List, [], ◌∷◌, ◌++◌, map, reverse, filter, length, Some, refl, sym, ◌∙◌, ap, subst, arith, inl, inr, lt-ltb, le-ltb}
use Rattle.std.specs.Prelude.{◌⊎◌, nat_lt, IsTrue, fold, flat_map, if◌then◌else◌}
use Rattle.std.specs.List.{AllByRecursion, slice_get}
use Rattle.std.proofs.lemmas.Bool.{cases_lt, ne_eqb, eqb-true}
use Rattle.std.proofs.lemmas.Bool.Decides.{eqb_tells}
use Rattle.std.proofs.lemmas.Option.{same_Some}
use Rattle.std.proofs.lemmas.List.{length-map, reverse-append}
use Rattle.b67_word.specs.Tagged.{Tagged}
use Rattle.b67_lemmas.specs.Lists.{Has, Falls, total}
use Rattle.b67_lemmas.proofs.Members.{all_from, falls_more, falls_once, total_append, has_map, has_map_back, has_filter, has_append_right, length_filter}
use Rattle.b67_model.specs.Common.{Array, Task, SessionJob, is_ready, live_tasks, IsSegment, IsInOrderButPlaces, SettingInOrder, DictionaryWords, rows_after, EntryInOrder, TaskInOrder, TasksInOrder, JobInOrder, frames_in_job, originals_of}
use Rattle.b67_stack.specs.Common.{StackPlace, Activation, words, stack_words}
use Rattle.b67_stack.proofs.Heights.{words-length}
use Rattle.b67_layout.specs.Common.{TaskRow, JobRow, RowState, Differ}
use Rattle.b67_layout_shown.specs.Places.{named}
use Rattle.b67_layout_shown.specs.Shown.{Sight, frame_seen, array_homed, frames_of, place_seen, condition_in, array_shown, arrays_of, data_rows, row_cells, segment_cells, segments_from, stack_of_row, sorted, rows_of, task_in, constants_in, job_seen, member_in, members_from, shown}
use Rattle.b67_layout_shown.proofs.Upward.{up_rows, up_segments, rows_turned, segments_turned}
use Rattle.b67_image_shape.specs.TableFacts.{rows_in, JobGoesOn, JobFacts, TableFacts}
use Rattle.b67_image_shape.specs.FixedWords.{SlotsHaveRoom, FixedFacts}
use Rattle.b67_image_shape.specs.Held.{held_of}
use Rattle.b67_image_shape.specs.Items.{EachTask, base_at, StackFacts, ReachFacts, CellFacts, JobObjectFacts, ObjectsFacts}
use Rattle.b67_image_shape.proofs.Members.{member_numbered, members_long}
use Rattle.b67_layout_shown.proofs.Sorted.{sorted_has, sorted_there}
use Rattle.b67_image_shape.proofs.Rows.{of_row, row_fact, each_at, map_numbers, numbers_fall, slots_differ}
use Rattle.b67_image_shape.proofs.EachTask.{task_at}
use Rattle.b67_image_shape.proofs.TablesOf.{sorted_long, sum_from}
use Rattle.b67_image_shape.proofs.Critical.{high_is}
use Rattle.b67_image_shape.proofs.Sources.{Lies, dictionary_lies, name_is, number_some}
use Rattle.b67_image_shape.proofs.NamesBack.{names_in, names_fall, arrays_named, all_fall, tasks_count, entries_count, name_once, frames_few}
use Rattle.b67_model.specs.declared.limits.TheConstants.{LEAST_STACK}

-- ---- the words of a dictionary

rows_follow : (i n : ℕ) → rows_after i (up_rows i n)
rows_follow i zero = tt
rows_follow i (suc n) = (refl, rows_follow (i + 1) n)

words_follow : (k : Sight) (i at segments rows : ℕ) → DictionaryWords i (segments_from k.core at segments) (up_segments i segments ++ up_rows 1 rows)
words_follow k i at zero rows = rows_follow 1 rows
words_follow k i at (suc n) rows = (refl, words_follow k (i + 1) (at + 1) n rows)

dictionary_words : (k : Sight) (at segments rows : ℕ) → DictionaryWords 1 (segments_from k.core at segments) (reverse (row_cells rows ++ segment_cells segments))
dictionary_words k at segments rows = grind (arith, reverse-append, segments_turned, rows_turned, words_follow)

pub words_long : (rows segments : ℕ) → length (row_cells rows ++ segment_cells segments) ≡ rows + segments
words_long zero zero = refl
words_long zero (suc n) = let e = words_long zero n in omega (arith, e)
words_long (suc n) segments = let e = words_long n segments in omega (arith, e)

segments_listed : (arrays : List Array) (n : ℕ) → AllByRecursion (EntryInOrder arrays) (segment_cells n)
segments_listed arrays zero = tt
segments_listed arrays (suc n) = (tt, segments_listed arrays n)

entries_listed : (core : List Tagged) (arrays : List Array) (before rows segments : ℕ) → ((a : Array) → Has (data_rows core before rows) a → Has arrays a) → AllByRecursion (EntryInOrder arrays) (row_cells rows ++ segment_cells segments)
entries_listed core arrays before zero segments inside = segments_listed arrays segments
entries_listed core arrays before (suc n) segments inside =
    (record { item = array_shown core (suc n) 1 false (before + suc n); live = inside (array_shown core (suc n) 1 false (before + suc n)) (inl refl); named = refl; owned = refl }, entries_listed core arrays before n segments (λ a h. inside a (inr h)))

some_frames : (number : ℕ) (frame : StackPlace → ℕ) (array : ℕ → ℕ) (acts : List Activation) → acts ≢ [] → frames_of number frame array acts ≢ []
some_frames number frame array [] h e = h refl
some_frames number frame array (a ∷ below) h e = let z : ⊥ = cc in z

-- ---- numbers of tasks

one_job : (P : SessionJob → Type 0) (k : Sight) (n : ℕ) (rows : List JobRow) → ((i : ℕ) (row : JobRow) → slice_get rows i ≡ Some row → P (member_in k row (n + i))) → AllByRecursion P (members_from k n rows)
one_job P k n [] h = tt
one_job P k n (r ∷ more) h =
    let none : n + 0 ≡ n = omega arith in
    (subst (λ j. P (member_in k r j)) none (h 0 r refl), one_job P k (n + 1) more (λ i row e. (let at : n + suc i ≡ n + 1 + i = omega arith in subst (λ j. P (member_in k row j)) at (h (suc i) row e))))

-- rows of two jobs or more are no more than all rows
split_rows : (tasks : List TaskRow) (n : ℕ) → length (filter (λ (r : TaskRow). nat_lt r.job n) tasks) + length (filter (λ (r : TaskRow). r.job == n) tasks) ≤ length (filter (λ (r : TaskRow). nat_lt r.job (n + 1)) tasks)
split_rows [] n = omega arith
split_rows (r ∷ more) n = grind (arith, cases_lt, eqb_tells, lt-ltb, le-ltb, split_rows more n)

sum_tasks : (k : Sight) (a n : ℕ) (rows : List JobRow) → a ≤ length (filter (λ (r : TaskRow). nat_lt r.job n) k.tasks) → fold (λ (a : ℕ) (m : SessionJob). a + length m.progress.job.tasks) a (members_from k n rows) ≤ length k.tasks
sum_tasks k a n [] low = let few = length_filter (λ (r : TaskRow). nat_lt r.job n) k.tasks in omega (arith, low, few)
sum_tasks k a n (row ∷ more) low = grind (arith, split_rows, length-map, sorted_long, sum_tasks k (a + length (job_seen k row n).tasks) (n + 1) more)

-- numbers that differ and lie below a bound are no more than that
without : ℕ → List ℕ → List ℕ
without n [] = []
without n (x ∷ more) = if x == n then without n more else x ∷ without n more

without_has : (n : ℕ) (xs : List ℕ) (x : ℕ) → Has (without n xs) x → Has xs x × (x ≢ n)
unfolding without
without_has n [] x h = absurd h
without_has n (y ∷ more) x h = grind (arith, eqb_tells, without, without_has n more x)

without_none : (n : ℕ) (xs : List ℕ) → (Has xs n → ⊥) → length (without n xs) ≡ length xs
unfolding without
without_none n [] away = refl
without_none n (y ∷ more) away = rw (ne_eqb y n (λ e. away (inl e))) (ap suc (without_none n more (λ h. away (inr h))))

without_long : (n : ℕ) (xs : List ℕ) → Differ xs → length xs ≤ length (without n xs) + 1
unfolding without
without_long n [] d = omega arith
without_long n (y ∷ more) d = grind (arith, eqb_tells, without, without_none, without_long n more d.1)

without_differ : (n : ℕ) (xs : List ℕ) → Differ xs → Differ (without n xs)
unfolding without
without_differ n [] d = tt
without_differ n (y ∷ more) d = grind (arith, without, without_has, without_differ n more d.1)

pub few_by : (n : ℕ) (xs : List ℕ) → Differ xs → ((x : ℕ) → Has xs x → x < n) → length xs ≤ n
few_by zero [] d low = omega arith
few_by zero (x ∷ xs) d low = (let q = low x (inl refl) in absurd (omega (arith, q)))
few_by (suc n) xs d low = grind (arith, without, without_differ, without_has, without_long, few_by n (without n xs) (without_differ n xs d))

-- ---- the order

some_row : (k : Sight) (row : JobRow) (j : ℕ) (rs : List TaskRow) → map (task_in k row j) (sorted rs) ≢ [] → rs ≢ []
some_row k row g rs h e = grind arith

module _ (k : Sight) (facts : TableFacts k) (low size : ℕ) (fixed : FixedFacts k low size) (stacks : EachTask k (StackFacts k)) (reach : EachTask k (ReachFacts k)) (cells : EachTask k (CellFacts k)) (objects : ObjectsFacts k) where
  stack_short : (r : TaskRow) → Has k.tasks r → stack_words (stack_of_row k r) < k.regs.stack_size
  stack_short r h = (task_at k facts (StackFacts k) stacks r h).fits.fits

  -- ---- a job, by its row

  module _ (i : ℕ) (row : JobRow) (found : slice_get k.jobs i ≡ Some row) where
    abbrev j : ℕ
    j = 1 + i

    found_job : slice_get k.jobs (1 + i - 1) ≡ Some row
    found_job = let e : 1 + i - 1 ≡ i = omega arith in ap (slice_get k.jobs) e ∙ found

    job_facts : JobFacts k.tasks (1 + i) row
    job_facts = each_at (JobFacts k.tasks) 1 k.jobs i row facts.jobs found

    in_tasks : (r : TaskRow) → Has (rows_of k.tasks (1 + i)) r → Has k.tasks r × (r.job ≡ 1 + i)
    in_tasks r h = let f = has_filter (λ (q : TaskRow). q.job == 1 + i) k.tasks r (sorted_has (rows_in k.tasks (1 + i)) r h) in (f.0, eqb-true r.job (1 + i) f.1)

    same_row : (r : TaskRow) (h : Has k.tasks r) → r.job ≡ 1 + i → (of_row k facts r h).row ≡ row
    same_row r h e =
        let at : r.job - 1 ≡ i = omega (arith, e) in
        same_Some (of_row k facts r h).row row (sym (of_row k facts r h).found ∙ ap (slice_get k.jobs) at ∙ found)

    -- what holds of a task of the job
    of_task : (P : JobRow → ℕ → TaskRow → Type 0) → EachTask k P → (r : TaskRow) → Has (rows_of k.tasks (1 + i)) r → P row (1 + i) r
    of_task P each r h =
        let f = in_tasks r h in
        subst (λ n. P row n r) f.1 (subst (λ (w : JobRow). P w r.job r) (same_row r f.0 f.1) (task_at k facts P each r f.0))

    lies : Lies k.regs.stacks 160 row
    lies = dictionary_lies k.core k.regs.stacks 160 k.jobs i row fixed.dictionaries found

    task_order : (r : TaskRow) → Has (rows_of k.tasks (1 + i)) r → TaskInOrder (IsSegment (constants_in k row (1 + i))) (constants_in k row (1 + i)) (job_seen k row (1 + i)) (task_in k row (1 + i) r)
    task_order r h = grind (arith, of_task, high_is, some_frames)

    arrays_fall : Falls (named (row.next_task + 1) 0) (map (λ (a : Array). a.identity) (job_seen k row (1 + i)).arrays)
    arrays_fall =
        let few = lies.few in
        all_fall k.core (λ (r : TaskRow). arrays_of k.core r.number (array_homed k.regs k.tasks row) (stack_of_row k r)) (row.dictionary + 1 + row.segments) row.rows (omega (arith, few)) (row.next_task + 1) (omega arith) (rows_of k.tasks (1 + i))
        (falls_more row.next_task (row.next_task + 1) (map (λ (r : TaskRow). r.number) (rows_of k.tasks (1 + i))) (omega arith) (subst (Falls row.next_task) (map_numbers k row (1 + i) (rows_of k.tasks (1 + i))) (numbers_fall k facts (1 + i) row found_job))) each where
          each : (r : TaskRow) → Has (rows_of k.tasks (1 + i)) r → (0 < r.number) × Falls (named (r.number + 1) 0) (map (λ (a : Array). a.identity) (arrays_of k.core r.number (array_homed k.regs k.tasks row) (stack_of_row k r)))
              × ((n : ℕ) → Has (map (λ (a : Array). a.identity) (arrays_of k.core r.number (array_homed k.regs k.tasks row) (stack_of_row k r))) n → named r.number 0 ≤ n)
          each r h =
              let f = in_tasks r h in
              let s = of_task (StackFacts k) stacks r h in
              let long = words-length r.slot (stack_of_row k r) in
              let short = s.fits.fits in
              let big = fixed.stack_high in
              let n = names_fall (held_of k) k.core (base_at k r) r.number (array_homed k.regs k.tasks row) k.regs.stack_size (λ d small. name_is k facts r f.0 row d small) (words r.slot (stack_of_row k r)) (omega (arith, long, short)) s.lie in
              let e = arrays_named k.core r.slot r.number (array_homed k.regs k.tasks row) (stack_of_row k r) in (
                number_some k facts r f.0,
                subst (Falls (named (r.number + 1) 0)) (sym e) (falls_more (named r.number (length (words r.slot (stack_of_row k r)) + 1)) (named (r.number + 1) 0) (names_in (array_homed k.regs k.tasks row) (words r.slot (stack_of_row k r))) (omega (arith, long, short, big)) n.0),
                λ m hm. n.1 m (subst (λ (ns : List ℕ). Has ns m) e hm),
              )

    once : (a : Array) → Has (job_seen k row (1 + i)).arrays a → originals_of a.identity (constants_in k row (1 + i)) (job_seen k row (1 + i)) ≡ 1
    once a h =
        let flat = flat_map (λ (r : TaskRow). arrays_of k.core r.number (array_homed k.regs k.tasks row) (stack_of_row k r)) (rows_of k.tasks (1 + i)) in
        let data_ = data_rows k.core (row.dictionary + 1 + row.segments) row.rows in
        let e = entries_count a.identity k.core (row.dictionary + 1 + row.segments) row.rows row.segments in
        let t = tasks_count a.identity k row (1 + i) (rows_of k.tasks (1 + i)) in
        let both = total_append (λ (b : Array). if b.identity == a.identity then 1 else 0) flat data_ in
        let one = name_once (named (row.next_task + 1) 0) (job_seen k row (1 + i)).arrays a arrays_fall h in
        omega (arith, e, t, both, one)

    apart : (n : ℕ) → frames_in_job n (job_seen k row (1 + i)) ≤ 1
    apart n =
        let few = frames_few n k row (1 + i) (rows_of k.tasks (1 + i)) (λ r h. (let s = stack_short r (in_tasks r h).0 in let big = fixed.stack_high in omega (arith, s, big))) in
        let one = (falls_once (λ (r : TaskRow). r.number) (n / 2 ^ 14) row.next_task (rows_of k.tasks (1 + i)) (subst (Falls row.next_task) (map_numbers k row (1 + i) (rows_of k.tasks (1 + i))) (numbers_fall k facts (1 + i) row found_job))).1 in
        omega (arith, few, one)

    setting : SettingInOrder (constants_in k row (1 + i))
    setting =
        let few = lies.few in
        let long = words_long row.rows row.segments in
        record {
          limit = job_facts.limit;
          stack_low = room k.jobs found fixed.stack_low;
          stack_high = fixed.stack_high;
          segments = (each_at (JobObjectFacts k) 1 k.jobs i row objects.jobs found).segments;
          entries = omega (arith, few, long);
          named = refl;
          stands = refl;
          dictionary = dictionary_words k (row.dictionary + 2) row.segments row.rows;
        } where
          room : (rows : List JobRow) → slice_get rows i ≡ Some row → SlotsHaveRoom k.regs.stack_size rows → LEAST_STACK ≤ k.regs.stack_size
          room [] e h = absurd (let z : ⊥ = cc in z)
          room (r ∷ more) e h = h

    tasks_order : TasksInOrder (IsSegment (constants_in k row (1 + i))) (constants_in k row (1 + i)) (job_seen k row (1 + i))
    tasks_order =
        let few = job_facts.few in
        let long = length-map (rows_of k.tasks (1 + i)) (task_in k row (1 + i)) in
        let all = sorted_long (rows_in k.tasks (1 + i)) in
        record {
          tasks = all_from (TaskInOrder (IsSegment (constants_in k row (1 + i))) (constants_in k row (1 + i)) (job_seen k row (1 + i))) (job_seen k row (1 + i)).tasks (λ t h. (let b = has_map_back (task_in k row (1 + i)) (rows_of k.tasks (1 + i)) t h in subst (TaskInOrder (IsSegment (constants_in k row (1 + i))) (constants_in k row (1 + i)) (job_seen k row (1 + i))) b.is (task_order b.item b.among)));
          apart = apart;
          arrays = (each_at (JobObjectFacts k) 1 k.jobs i row objects.jobs found).arrays;
          once = all_from (λ (a : Array). originals_of a.identity (constants_in k row (1 + i)) (job_seen k row (1 + i)) ≡ 1) (job_seen k row (1 + i)).arrays once;
          entries = entries_listed k.core (job_seen k row (1 + i)).arrays (row.dictionary + 1 + row.segments) row.rows row.segments (λ a h. has_append_right (flat_map (λ (r : TaskRow). arrays_of k.core r.number (array_homed k.regs k.tasks row) (stack_of_row k r)) (rows_of k.tasks (1 + i))) (data_rows k.core (row.dictionary + 1 + row.segments) row.rows) a h);
          numbers = numbers_fall k facts (1 + i) row found_job;
          names = arrays_fall;
          few = omega (arith, few, long, all);
          reads = job_facts.reads;
        }

    -- a live task of the job that is ready
    ready_one : (rs : List TaskRow) → rows_in k.tasks (1 + i) ≡ rs → rs ≢ [] → JobGoesOn row rs → (row.made < row.limit) × ((t : Task) × Has (job_seen k row (1 + i)).tasks t × IsTrue (is_ready t))
    ready_one [] e some g = absurd (some refl)
    ready_one (r ∷ more) e some (below, (q, hq, ready)) = (
      below,
      (
        task_in k row (1 + i) q,
        has_map (task_in k row (1 + i)) (rows_of k.tasks (1 + i)) q (sorted_there (rows_in k.tasks (1 + i)) q (subst (λ (rs : List TaskRow). Has rs q) (sym e) hq)),
        ap (λ (s : RowState). is_ready (record (task_in k row (1 + i) q) { condition = condition_in (λ mark. frame_seen k.tasks (1 + i) (place_seen k.regs row (1 + i) mark)) s })) ready,
      ),
    )

    job_order : JobInOrder (IsSegment (constants_in k row (1 + i))) (constants_in k row (1 + i)) (member_in k row (1 + i)).progress
    job_order = record {
      unchanging = setting;
      tasks = tasks_order;
      counts = record { next = job_facts.next; within = job_facts.within; goes_on = λ some. (ready_one (rows_in k.tasks (1 + i)) refl (some_row k row (1 + i) (rows_in k.tasks (1 + i)) some) job_facts.goes_on).1 };
      below_limit = λ some. (ready_one (rows_in k.tasks (1 + i)) refl (some_row k row (1 + i) (rows_in k.tasks (1 + i)) some) job_facts.goes_on).0;
    }

  sizes : (n : ℕ) (rows : List JobRow) → AllByRecursion (λ (m : SessionJob). m.constants.stack_size ≡ k.regs.stack_size) (members_from k n rows)
  sizes n [] = tt
  sizes n (r ∷ more) = (refl, sizes (n + 1) more)

  few_live : live_tasks (shown k).jobs ≤ k.regs.peak
  few_live =
      let sum = sum_tasks k 0 1 k.jobs (omega arith) in
      let slots = few_by k.regs.peak (map (λ (r : TaskRow). r.slot) k.tasks) (slots_differ k.tasks facts.apart) (λ n h. (let b = has_map_back (λ (r : TaskRow). r.slot) k.tasks n h in subst (λ m. m < k.regs.peak) b.is (row_fact k facts b.item b.among).slot)) in
      grind (arith, length-map)

  pub order_back : IsInOrderButPlaces (shown k)
  order_back = record {
    few = (let few = facts.few_jobs in let long = members_long k 1 k.jobs in omega (arith, few, long));
    numbered = member_numbered k 1 k.jobs;
    one_size = (k.regs.stack_size, sizes 1 k.jobs);
    jobs = one_job (λ (m : SessionJob). JobInOrder (IsSegment m.constants) m.constants m.progress) k 1 k.jobs (λ i row e. job_order i row e);
    switches = facts.counts.rise;
    peak_low = few_live;
    peak_high = facts.peak;
    counted = facts.counts.counted ∙ (let z : total (λ (r : JobRow). r.made) k.jobs ≡ 0 + total (λ (r : JobRow). r.made) k.jobs = omega arith in z) ∙ sym (sum_from k 0 1 k.jobs);
    turn = facts.counts.turn;
  }
