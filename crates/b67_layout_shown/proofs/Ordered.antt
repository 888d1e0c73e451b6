-- What a machine shows is in order.
use Rattle.std.proofs.Common.{◌≡◌, ◌≢◌, ℕ, suc, ◌+◌, ◌^◌, ◌<◌, List, [], ◌∷◌, ◌++◌, map, reverse, length, None, refl, sym, ◌∙◌, ap, subst, arith, inl, inr}
use Rattle.std.specs.Prelude.{IsTrue, flat_map, sum_by}
use Rattle.std.specs.List.{AllByRecursion}
use Rattle.std.proofs.lemmas.List.{length-map}
use Rattle.std.proofs.lemmas.List.Sums.{sum_by-cons}
use Rattle.b67_lemmas.specs.Lists.{Has}
use Rattle.b67_lemmas.proofs.Members.{all_in, has_flat, has_append_left, has_append_right, has_map}
use Rattle.b67_model.specs.Common.{Word, Standing, Entered, Frame, Array, Segment, Task, Job, SessionJob, is_ready, Session, live_tasks, IsSegment, TasksInOrder, ArrayInOrder, DictionaryWords, JobInOrder, NumberedFrom, SwitchesRise, IsInOrderButPlaces}
use Rattle.b67_stack.specs.declared.Cpu.{Cpu}
use Rattle.b67_stack.specs.MachineView.{PagedObject}
use Rattle.b67_stack.specs.Represents.{Storage}
use Rattle.b67_layout.specs.Common.{Placement, array_object, code_objects, objects_of, machine_view, TaskRow, JobRow, JobCounts, JobShows, JobsShow, TablesShow, IsInOrderButCounts, RepresentsSession}
use Rattle.b67_layout.proofs.Weaker.{but_counts}
use Rattle.b67_layout_shown.specs.Places.{name_among, array_among, task_by}
use Rattle.b67_layout_shown.specs.Shown.{Sight, numbers_read, segments_from, row_cells, segment_cells, constants_in, job_seen, member_in, members_from, shown}
use Rattle.b67_layout_shown.specs.Laws.{ShownIsInOrder}
use Rattle.b67_layout_shown.proofs.Contents.{dictionary_is, AreShown, segments_read, array_fits}
use Rattle.b67_layout_shown.proofs.Placing.{job_order}
use Rattle.b67_layout_shown.proofs.Whole.{job_is}

pub same_frame : (f : Frame) (i : ℕ) (st : Standing) (ws : List Word) → i ≡ f.identity → st ≡ f.standing → ws ≡ f.cells → record { identity = i; standing = st; cells = ws } ≡ f
same_frame f i st ws ei es ew = rw (ei, es, ew) refl

-- a dictionary's words go by the number of its segments
same_words : (n : ℕ) (old new : List Segment) (ws : List Word) → length new ≡ length old → DictionaryWords n old ws → DictionaryWords n new ws
same_words n [] [] ws e d = d
same_words n [] (s ∷ new) ws e d = absurd (omega (arith, e))
same_words n (t ∷ old) [] ws e d = absurd (omega (arith, e))
same_words n (t ∷ old) (s ∷ new) [] e d = absurd d
same_words n (t ∷ old) (s ∷ new) (w ∷ ws) e d = (d.0, same_words (n + 1) old new ws (omega (arith, e)) d.1)

ready_by : (rename relabel : ℕ → ℕ) (t : Task) → IsTrue (is_ready t) → IsTrue (is_ready (task_by rename relabel t))
ready_by rename relabel t h = grind arith

ready_map : (rename relabel : ℕ → ℕ) (ts : List Task) → (ts ≢ [] → (t : Task) × Has ts t × IsTrue (is_ready t)) → map (task_by rename relabel) ts ≢ [] → (t : Task) × Has (map (task_by rename relabel) ts) t × IsTrue (is_ready t)
ready_map rename relabel ts ready some =
    let (t, there, is) = ready (λ z. some (ap (map (task_by rename relabel)) z)) in
    (task_by rename relabel t, has_map (task_by rename relabel) ts t there, ready_by rename relabel t is)

module _ (x : Storage) (cpu : Cpu) (plan : Placement) (s : Session) (tasks : List TaskRow) (jobs : List JobRow) (c : JobCounts)
    (ordered : IsInOrderButPlaces s) (stands : RepresentsSession x cpu plan s) (tables : TablesShow plan s tasks jobs c) where
  abbrev k : Sight
  k = record { core = cpu.core; regs = cpu.regs; tasks = tasks; jobs = jobs; counts = c }

  weaker : IsInOrderButCounts s
  weaker = but_counts s ordered

  -- a job
  record IsShown (m : SessionJob) (shown : SessionJob) : Type 0 where
    pub number : shown.constants.number ≡ m.constants.number
    pub made : shown.progress.made ≡ m.progress.made
    pub many : length shown.progress.job.tasks ≡ length m.progress.job.tasks
    pub order : JobInOrder (IsSegment shown.constants) shown.constants shown.progress

  job_shown : (m : SessionJob) (row : JobRow) → Has s.jobs m → JobShows plan m row → IsShown m (member_in k row m.constants.number)
  job_shown m row there shows =
      let old = all_in (λ (y : SessionJob). JobInOrder (IsSegment y.constants) y.constants y.progress) s.jobs m ordered.jobs there in
      let set = old.unchanging in
      let rows_are : row.rows + length m.constants.segments ≡ length m.constants.dictionary.cells = let a = shows.segments in let b = shows.rows in omega (arith, a, b) in
      let words : row_cells row.rows ++ segment_cells row.segments ≡ m.constants.dictionary.cells =
      ap (λ n. row_cells row.rows ++ segment_cells n) shows.segments ∙ dictionary_is row.rows m.constants.segments m.constants.dictionary.cells set.dictionary rows_are in
      let inside : (t : PagedObject) → Has (objects_of plan m) t → Has (flat_map (objects_of plan) s.jobs) t = λ t h. has_flat (objects_of plan) s.jobs m t there h in
      let dict = shows.dictionary in
      let segs : AreShown m.constants.segments (segments_from cpu.core (row.dictionary + 2) row.segments) =
      subst (λ n. AreShown m.constants.segments (segments_from cpu.core (row.dictionary + 2) n)) (sym shows.segments)
      (segments_read x cpu.core cpu.regs (machine_view plan s.jobs) stands.holds.memory plan m.constants.number 1 m.constants.segments
      (λ t h. inside t (has_append_left (code_objects plan m.constants.number 1 m.constants.segments) (map (array_object plan m.constants.number) m.progress.job.arrays) t h))
      set.segments (row.dictionary + 2) (omega (arith, dict))) in
      let size : cpu.regs.stack_size ≡ m.constants.stack_size = stands.holds.memory.slots.regs.size ∙ sym (stands.holds.fits.sizes m there) in
      let fits : (a : Array) → Has m.progress.job.arrays a → (length (numbers_read cpu.core (plan.home m.constants.number) a.identity) ≡ length a.numbers) × AllByRecursion (λ n. n < 2 ^ 48) (numbers_read cpu.core (plan.home m.constants.number) a.identity) =
      λ a h.
      let own = all_in ArrayInOrder m.progress.job.arrays a old.tasks.arrays h in
      let f = array_fits x cpu.core cpu.regs (machine_view plan s.jobs) stands.holds.memory plan m.constants.number a
      (inside (array_object plan m.constants.number a) (has_append_right (code_objects plan m.constants.number 1 m.constants.segments) (map (array_object plan m.constants.number) m.progress.job.arrays) (array_object plan m.constants.number a) (has_map (array_object plan m.constants.number) m.progress.job.arrays a h))) own.length_high in
      (f.long, f.bits own.words) in
      let dictionary : (constants_in k row m.constants.number).dictionary ≡ m.constants.dictionary = same_frame m.constants.dictionary 1 (Entered 1 0 None) (row_cells row.rows ++ segment_cells row.segments) (sym set.named) (sym set.stands) words in
      let is = job_is x cpu plan s m tasks jobs row c weaker stands tables there shows in
      let placed = job_order m.constants (constants_in k row m.constants.number) m.progress.job (numbers_read cpu.core (plan.home m.constants.number)) row.rows set old.tasks rows_are segs.long dictionary size fits in
      let job : TasksInOrder (IsSegment (constants_in k row m.constants.number)) (constants_in k row m.constants.number) (job_seen k row m.constants.number) =
      subst (λ (q : Job). TasksInOrder (IsSegment (constants_in k row m.constants.number)) (constants_in k row m.constants.number) q) (sym is) placed in
      let low = set.limit in
      let e = shows.limit in
      let made = shows.made in
      let low_size = set.stack_low in
      let high_size = set.stack_high in
      let few = set.entries in
      let long = ap (λ (ws : List Word). length ws) words in
      let same : (job_seen k row m.constants.number).tasks ≡ map (task_by (name_among m.progress.job.tasks) (array_among m.progress.job.tasks)) m.progress.job.tasks = ap (λ (q : Job). q.tasks) is in
      let born = old.counts.next in
      let next = shows.next_task in
      let within = old.counts.within in
      record {
        number = refl;
        made = made;
        many = ap (λ (ts : List Task). length ts) same ∙ length-map m.progress.job.tasks (task_by (name_among m.progress.job.tasks) (array_among m.progress.job.tasks));
        order = record {
          unchanging = record {
            limit = omega (arith, low, e);
            stack_low = omega (arith, low_size, size);
            stack_high = omega (arith, high_size, size);
            segments = segs.order;
            entries = omega (arith, few, long);
            named = refl;
            stands = refl;
            dictionary = subst (λ (ws : List Word). DictionaryWords 1 (segments_from cpu.core (row.dictionary + 2) row.segments) (reverse ws)) (sym words)
                (same_words 1 m.constants.segments (segments_from cpu.core (row.dictionary + 2) row.segments) (reverse m.constants.dictionary.cells) segs.long set.dictionary);
          };
          tasks = job;
          counts = record {
            next = omega (arith, born, next, made);
            within = omega (arith, within, e, made);
            goes_on = subst (λ (ts : List Task). ts ≢ [] → (t : Task) × Has ts t × IsTrue (is_ready t)) (sym same)
                (ready_map (name_among m.progress.job.tasks) (array_among m.progress.job.tasks) m.progress.job.tasks old.counts.goes_on);
          };
          below_limit = subst (λ (ts : List Task). ts ≢ [] → row.made < row.limit) (sym same)
              (λ some. (let below = old.below_limit (λ z. some (ap (map (task_by (name_among m.progress.job.tasks) (array_among m.progress.job.tasks))) z)) in omega (arith, below, e, made)));
        };
      }

  -- all jobs
  record Members (n : ℕ) (ms shown : List SessionJob) : Type 0 where
    pub long : length shown ≡ length ms
    pub numbered : NumberedFrom n shown
    pub sizes : AllByRecursion (λ (y : SessionJob). y.constants.stack_size ≡ cpu.regs.stack_size) shown
    pub jobs' : AllByRecursion (λ (y : SessionJob). JobInOrder (IsSegment y.constants) y.constants y.progress) shown
    pub live : live_tasks shown ≡ live_tasks ms
    pub made : sum_by (λ (y : SessionJob). y.progress.made) shown ≡ sum_by (λ (y : SessionJob). y.progress.made) ms

  members_shown : (n : ℕ) (ms : List SessionJob) (rows : List JobRow) → NumberedFrom n ms → JobsShow plan ms rows → ((y : SessionJob) → Has ms y → Has s.jobs y) → Members n ms (members_from k n rows)
  members_shown n [] [] numbers shows inside = record { long = refl; numbered = tt; sizes = tt; jobs' = tt; live = refl; made = refl }
  members_shown n [] (row ∷ rows) numbers shows inside = absurd shows
  members_shown n (m ∷ ms) [] numbers shows inside = absurd shows
  members_shown n (m ∷ ms) (row ∷ rows) numbers shows inside =
      let one = subst (λ i. IsShown m (member_in k row i)) numbers.0 (job_shown m row (inside m (inl refl)) shows.0) in
      let rest = members_shown (n + 1) ms rows numbers.1 shows.1 (λ y h. inside y (inr h)) in
      let many = one.many in
      let live = rest.live in
      let made = one.made in
      let all = rest.made in
      record {
        long = ap suc rest.long;
        numbered = (refl, rest.numbered);
        sizes = (refl, rest.sizes);
        jobs' = (one.order, rest.jobs');
        live = sum_by-cons (λ (y : SessionJob). length y.progress.job.tasks) (member_in k row n) (members_from k (n + 1) rows)
            ∙ (let z : length (member_in k row n).progress.job.tasks + live_tasks (members_from k (n + 1) rows) ≡ length m.progress.job.tasks + live_tasks ms = omega (arith, many, live) in z)
            ∙ sym (sum_by-cons (λ (y : SessionJob). length y.progress.job.tasks) m ms);
        made = sum_by-cons (λ (y : SessionJob). y.progress.made) (member_in k row n) (members_from k (n + 1) rows)
            ∙ (let z : (member_in k row n).progress.made + sum_by (λ (y : SessionJob). y.progress.made) (members_from k (n + 1) rows) ≡ m.progress.made + sum_by (λ (y : SessionJob). y.progress.made) ms = omega (arith, made, all) in z)
            ∙ sym (sum_by-cons (λ (y : SessionJob). y.progress.made) m ms);
      }

  session_shown : IsInOrderButPlaces (shown k)
  session_shown =
      let all = members_shown 1 s.jobs jobs ordered.numbered tables.jobs (λ y h. h) in
      let few = ordered.few in
      let long = all.long in
      let live = all.live in
      let low = ordered.peak_low in
      let high = ordered.peak_high in
      let peak = stands.holds.memory.slots.regs.peak in
      let same = stands.holds.fits.peak in
      let made = tables.counts.made in
      let sum = all.made in
      let counted = ordered.counted in
      let turn = tables.counts.turn in
      let within = ordered.turn in
      record {
        few = omega (arith, few, long);
        numbered = all.numbered;
        one_size = (cpu.regs.stack_size, all.sizes);
        jobs = all.jobs';
        switches = subst SwitchesRise (sym tables.counts.switches) ordered.switches;
        peak_low = omega (arith, live, low, peak, same);
        peak_high = omega (arith, high, peak, same);
        counted = made ∙ counted ∙ sym sum;
        turn = omega (arith, turn, within, made);
      }

pub shown_in_order : ShownIsInOrder
shown_in_order x cpu plan s tasks jobs c ordered stands tables = session_shown x cpu plan s tasks jobs c ordered stands tables
