-- Tasks that end leave the others in order.
use Rattle.std.proofs.Common.{◌≡◌, ◌≢◌, ℕ, zero, suc, ◌+◌, ◌<◌, ◌≤◌, Bool, true, false, not, cond, eqb, List, [], ◌∷◌, ◌++◌, map, filter, reverse, length, Some, refl, sym, ap, ◌∙◌, subst, inl, inr, ◌⊎◌, arith}
use Rattle.std.specs.List.{list_any}
use Rattle.std.proofs.lemmas.Bool.Decides.{eqb_tells}
use Rattle.std.proofs.lemmas.Bool.{cases_Bool, true≢false, not-true, not_from_false}
use Rattle.std.proofs.lemmas.List.{length-map, map-append}
use Rattle.b67_model.specs.Keyed.{keyed}
use Rattle.b67_lemmas.specs.Lists.{Has, total, Falls}
use Rattle.b67_lemmas.proofs.Members.{all_from, all_in, any_has, any_none, any_some, falls_filter, falls_short, has_append_cases, has_append_left, has_append_right, has_filter, has_filter_in, has_map, has_map_back, has_reverse, has_reverse_back, keyed_falls, keyed_filter, keyed_has, length_filter, none_pass, total_has, total_split, total_zero}
use Rattle.b67_model.specs.Common.{Frame, Array, Condition, Ready, Awaits, WaitsAt, Task, JobConstants, Job, among, is_owned_by, released, at_depth, deepest_below, deepest_first, descendants, all_with, Settled, ends_all, ends_task, unsettled, Starts, Known, known_of, from_frame, outer_of, known_numbers, WordInOrder, FramesInOrder, BirthInOrder, ParentInOrder, TaskInOrder, ArrayInOrder, EntryInOrder, is_original_of, originals_in, originals_of, frames_named, frames_in_job, TasksInOrder}
use Rattle.b67_word.specs.declared.faults.Ending.{Ending}
use Rattle.b67_word.specs.declared.faults.Ending.TheVariants.{Parent}
use Rattle.b67_law.proofs.Reaches.{alike_same, Stays, Follows}
use Rattle.b67_law.proofs.Replaced.{task_kept, entry_kept, IsLive, reach_live, has_counts}
use Rattle.b67_law.proofs.Looks.{above_one}
use Rattle.b67_law.proofs.Entries.{none_original}
use Rattle.b67_law.proofs.Maps.{map_good, frames_refl}

-- whoever has one of these above it is one of these
abbrev pub IsClosed : Job → List ℕ → Type 0
IsClosed job numbers = (t : Task) → Has job.tasks t → (n : ℕ) → Has t.parents n → among numbers n ≡ true → among numbers t.number ≡ true

abbrev pub goes : List ℕ → Task → Bool
goes numbers t = among numbers t.number

abbrev pub stays : List ℕ → Task → Bool
stays numbers t = not (among numbers t.number)

abbrev pub gone_of : List ℕ → Job → List Task
gone_of numbers job = filter (goes numbers) job.tasks

-- the job without these tasks, their frames and their arrays
abbrev pub without : List ℕ → Job → Job
without numbers job = record job {
  tasks = filter (stays numbers) job.tasks;
  arrays = filter (λ a. not (is_owned_by (gone_of numbers job) a)) job.arrays;
}

module _ (P : Starts) (constants : JobConstants) (job : Job) (numbers : List ℕ) (g : TasksInOrder P constants job) (closed : IsClosed job numbers) where
  abbrev job' : Job
  job' = without numbers job

  order : (t : Task) → Has job.tasks t → TaskInOrder P constants job t
  order t h = all_in (TaskInOrder P constants job) job.tasks t g.tasks h

  abbrev Lives : ℕ → Type 0
  Lives n = among numbers n ≡ false

  follows : Follows job job' Lives
  follows n q lives e =
      let number = (keyed_has (λ t. t.number) n job.tasks q e).1 in
      let test : stays numbers q ≡ true = not_from_false (among numbers q.number) (subst (λ m. among numbers m ≡ false) (sym number) lives) in
      record {
        item = q;
        found = keyed_filter (λ (t : Task). t.number) n (stays numbers) job.tasks q e test (λ y k. let same : y.number ≡ q.number = k ∙ sym number in ap (λ m. not (among numbers m)) same);
        critical = refl;
        line = refl;
        alike = λ t h. alike_same (map known_of (from_frame t.critical q.frames));
        stays = λ t h k. k;
      }

  -- frames of who goes are in no reach of who stays
  split : (n : ℕ) → frames_in_job n job' + total (λ (t : Task). frames_named n t.frames) (filter (λ t. not (stays numbers t)) job.tasks) ≡ frames_in_job n job
  split n = total_split (λ (t : Task). frames_named n t.frames) (stays numbers) job.tasks

  gone_has : (t : Task) → Has (gone_of numbers job) t → Has (filter (λ u. not (stays numbers u)) job.tasks) t
  gone_has t h = let r = has_filter (goes numbers) job.tasks t h in has_filter_in (λ u. not (stays numbers u)) job.tasks t r.0 (rw r.1 refl)

  owner_gone : (a : Array) → is_owned_by (gone_of numbers job) a ≡ true → (1 < a.owner) × (frames_in_job a.owner job' ≡ 0)
  owner_gone a e =
      let t = any_has (λ (t : Task). list_any (λ (f : Frame). eqb f.identity a.owner) t.frames) (gone_of numbers job) e in
      let f = any_has (λ (f : Frame). eqb f.identity a.owner) t.0.frames t.2 in
      let live = (has_filter (goes numbers) job.tasks t.0 t.1).0 in
      elim (eqb_tells f.0.identity a.owner) [
        | inl s ↦
            let high = above_one P constants job g t.0 live f.0 f.1 in
            let one : 1 ≤ frames_named a.owner t.0.frames = has_counts a.owner t.0.frames (subst (λ n. Has (known_numbers (map known_of t.0.frames)) n) s.1 (has_map (λ (k : Known). k.0) (map known_of t.0.frames) (known_of f.0) (has_map known_of t.0.frames f.0 f.1))) in
            let two = total_has (λ (u : Task). frames_named a.owner u.frames) (filter (λ u. not (stays numbers u)) job.tasks) t.0 (gone_has t.0 t.1) in
            (omega (arith, high, s.1), omega (arith, one, two, split a.owner, g.apart a.owner))
        | inr s ↦ absurd (true≢false (sym f.2 ∙ s.0))
      ]

  in_arrays : (a : Array) → Has job.arrays a → is_owned_by (gone_of numbers job) a ≡ false → Stays job'.arrays a
  in_arrays a k e = record { item = a; live = has_filter_in (λ (x : Array). not (is_owned_by (gone_of numbers job) x)) job.arrays a k (not_from_false (is_owned_by (gone_of numbers job) a) e); named = refl; owned = refl }

  array_stays : (a : Array) → Has job.arrays a → IsLive job' a.owner → Stays job'.arrays a
  array_stays a k live = elim (cases_Bool (is_owned_by (gone_of numbers job) a)) [
    | inl t ↦ let gone = owner_gone a t in elim live.counted [ inl low ↦ absurd (omega (arith, low, gone.0)) | inr one ↦ absurd (omega (arith, one, gone.1)) ]
    | inr t ↦ in_arrays a k t
  ]

  task_stays : (t : Task) → Has job'.tasks t → TaskInOrder P constants job' t
  task_stays t h =
      let r = has_filter (stays numbers) job.tasks t h in
      let lives : among numbers t.number ≡ false = not-true (among numbers t.number) r.1 in
      task_kept P constants job job' Lives follows (λ u k. (order u k).birth) (omega arith) t r.0
      (λ n k. elim (cases_Bool (among numbers n)) [ inl y ↦ absurd (true≢false (sym (closed t r.0 n k y) ∙ lives)) | inr z ↦ z ])
      (λ a k at. array_stays a k (reach_live job' t a.owner h at)) (order t r.0)

  -- no original of an array that stays lies in who goes
  none_gone : (a : Array) → Has job.arrays a → is_owned_by (gone_of numbers job) a ≡ false → (t : Task) → Has (gone_of numbers job) t → originals_in a.identity t.frames ≡ 0
  none_gone a live free t h =
      let r = has_filter (goes numbers) job.tasks t h in
      let unowned = any_none (λ (u : Task). list_any (λ (f : Frame). eqb f.identity a.owner) u.frames) (gone_of numbers job) t free h in
      frames_none (outer_of job t) t.frames (order t r.0).frames (λ f k. elim (eqb_tells f.identity a.owner) [
        | inl e ↦ absurd (true≢false (sym e.0 ∙ any_none (λ (x : Frame). eqb x.identity a.owner) t.frames f unowned k))
        | inr e ↦ λ s. e.1 (sym s)
      ])
    where
      frames_none : (outer : List Known) (fs : List Frame) → FramesInOrder P job.arrays outer fs → ((f : Frame) → Has fs f → a.owner ≢ f.identity) → originals_in a.identity fs ≡ 0
      frames_none outer [] o other = refl
      frames_none outer (f ∷ fs) o other =
          let here = none_pass (is_original_of a.identity) f.cells (λ w k. none_original job P (map known_of (f ∷ fs) ++ outer) f.identity a g.names live (other f (inl refl)) w (all_in (WordInOrder P job.arrays (map known_of (f ∷ fs) ++ outer) f.identity) f.cells w o.0.0 k)) in
          let rest = frames_none outer fs o.2 (λ x k. other x (inr k)) in
          omega (arith, here, rest)

  rest_once : (a : Array) → Has job'.arrays a → originals_of a.identity constants job' ≡ 1
  rest_once a h =
      let r = has_filter (λ (x : Array). not (is_owned_by (gone_of numbers job) x)) job.arrays a h in
      let free = not-true (is_owned_by (gone_of numbers job) a) r.1 in
      let parts = total_split (λ (t : Task). originals_in a.identity t.frames) (stays numbers) job.tasks in
      let none : total (λ (t : Task). originals_in a.identity t.frames) (filter (λ t. not (stays numbers t)) job.tasks) ≡ 0 =
      total_zero (λ (t : Task). originals_in a.identity t.frames) (filter (λ t. not (stays numbers t)) job.tasks) (λ t k.
      let q = has_filter (λ u. not (stays numbers u)) job.tasks t k in
      none_gone a r.0 free t (has_filter_in (goes numbers) job.tasks t q.0 (twice (among numbers t.number) q.1))) in
      omega (arith, parts, none, all_in (λ (x : Array). originals_of x.identity constants job ≡ 1) job.arrays a g.once r.0)
    where
      twice : (b : Bool) → not (not b) ≡ true → b ≡ true
      twice true e = refl
      twice false e = absurd (true≢false (sym e))

  pub without_good : TasksInOrder P constants job'
  without_good = record {
    tasks = all_from (TaskInOrder P constants job') job'.tasks task_stays;
    apart = λ n. omega (arith, split n, g.apart n);
    arrays = all_from ArrayInOrder job'.arrays (λ a h. all_in ArrayInOrder job.arrays a g.arrays (has_filter (λ (x : Array). not (is_owned_by (gone_of numbers job) x)) job.arrays a h).0);
    once = all_from (λ (a : Array). originals_of a.identity constants job' ≡ 1) job'.arrays rest_once;
    entries = all_from (EntryInOrder job'.arrays) constants.dictionary.cells (λ w h. entry_kept job.arrays job'.arrays w (λ a live owned. array_stays a live (record { counted = inl (omega (arith, owned)) }))
        (all_in (EntryInOrder job.arrays) constants.dictionary.cells w g.entries h));
    numbers = falls_filter (λ (t : Task). t.number) (stays numbers) job.next_task job.tasks g.numbers;
    names = falls_filter (λ (a : Array). a.identity) (λ a. not (is_owned_by (gone_of numbers job) a)) job.next_array job.arrays g.names;
    few = omega (arith, length_filter (stays numbers) job.tasks, g.few);
    reads = g.reads;
  }

released_same : (numbers : List ℕ) (c : Condition) → (released numbers c ≡ c) ⊎ (released numbers c ≡ Ready)
released_same numbers c = grind arith

-- the endings of these tasks keep the others in order
pub ends_good : (P : Starts) (constants : JobConstants) (s : Settled) (endings : List (ℕ × Ending)) → TasksInOrder P constants s.job → IsClosed s.job (map (λ e. e.0) endings) → TasksInOrder P constants (ends_all s endings).job
ends_good P constants s endings g closed =
    let numbers = map (λ (e : ℕ × Ending). e.0) endings in
    map_good P constants (without numbers s.job) (λ (t : Task). record t { condition = released numbers t.condition }) (λ t. refl)
    (λ t h. record { number = refl; line = refl; critical = refl; segment = refl; place = refl; frames = frames_refl t.frames; condition = released_same numbers t.condition })
    (without_good P constants s.job numbers g closed)

-- whoever is above a task is live, and so is all of its line
line_above : (P : Starts) (constants : JobConstants) (job : Job) → TasksInOrder P constants job → (t : Task) → Has job.tasks t → (parents : List ℕ) → t.parents ≡ parents → (n : ℕ) → Has parents n →
    (q : Task) × (keyed (λ t. t.number) n job.tasks ≡ Some q) × ((m : ℕ) → Has q.parents m → Has parents m) × (n < t.number)
line_above P constants job g t here [] line n h = absurd h
line_above P constants job g t here (p ∷ more) line n h =
    let birth : ParentInOrder job t p more = subst (BirthInOrder job t) line (all_in (TaskInOrder P constants job) job.tasks t g.tasks here).birth in
    let q = birth.parent in
    let there = (keyed_has (λ (u : Task). u.number) p job.tasks q birth.found) in
    elim h [
      | inl e ↦ (q, subst (λ m. keyed (λ (u : Task). u.number) m job.tasks ≡ Some q) e birth.found, λ m k. inr (subst (λ ps. Has ps m) birth.line k), omega (arith, birth.older, e))
      | inr k ↦ let r = line_above P constants job g q there.0 more birth.line n k in (r.0, r.1, λ m j. inr (r.2 m j), omega (arith, r.3, there.1, birth.older))
    ]

parents_fall : (P : Starts) (constants : JobConstants) (job : Job) → TasksInOrder P constants job → (t : Task) → Has job.tasks t → (parents : List ℕ) → t.parents ≡ parents → Falls t.number parents
parents_fall P constants job g t here [] line = tt
parents_fall P constants job g t here (p ∷ more) line =
    let birth : ParentInOrder job t p more = subst (BirthInOrder job t) line (all_in (TaskInOrder P constants job) job.tasks t g.tasks here).birth in
    let q = birth.parent in
    let there = keyed_has (λ (u : Task). u.number) p job.tasks q birth.found in
    (birth.older, subst (λ n. Falls n more) there.1 (parents_fall P constants job g q there.0 more birth.line))

-- a line of parents is shorter than the list of tasks
depth_low : (P : Starts) (constants : JobConstants) (job : Job) → TasksInOrder P constants job → (t : Task) → Has job.tasks t → length t.parents < 15
depth_low P constants job g t here =
    let falls = parents_fall P constants job g t here t.parents refl in
    let short : length (t.number ∷ t.parents) ≤ length (map (λ (u : Task). u.number) job.tasks) =
    falls_short (t.number + 1) (t.number ∷ t.parents) job.next_task (map (λ (u : Task). u.number) job.tasks) (omega arith, falls) g.numbers
    (λ n h. elim h [
      | inl e ↦ subst (Has (map (λ (u : Task). u.number) job.tasks)) e (has_map (λ (u : Task). u.number) job.tasks t here)
      | inr k ↦ let r = line_above P constants job g t here t.parents refl n k in let there = keyed_has (λ (u : Task). u.number) n job.tasks r.0 r.1 in
          subst (Has (map (λ (u : Task). u.number) job.tasks)) there.1 (has_map (λ (u : Task). u.number) job.tasks r.0 there.0)
    ]) in
    omega (arith, short, length-map job.tasks (λ (u : Task). u.number), g.few)

-- the deepest first: all of these tasks
at_depth_has : (depth : ℕ) (tasks : List Task) (t : Task) → Has tasks t → length t.parents ≡ depth → Has (at_depth depth tasks) t.number
at_depth_has depth tasks t h e = has_map (λ (u : Task). u.number) (filter (λ (u : Task). eqb (length u.parents) depth) (reverse tasks)) t
    (has_filter_in (λ (u : Task). eqb (length u.parents) depth) (reverse tasks) t (has_reverse tasks t h) (elim (eqb_tells (length t.parents) depth) [ inl y ↦ y.0 | inr z ↦ absurd (z.1 e) ]))

deepest_has : (depth : ℕ) (tasks : List Task) (t : Task) → Has tasks t → length t.parents < depth → Has (deepest_below depth tasks) t.number
deepest_has zero tasks t h low = absurd (omega (arith, low))
deepest_has (suc depth) tasks t h low = grind (arith, has_append_left, at_depth_has, has_append_right, deepest_has depth tasks t h)

at_depth_back : (depth : ℕ) (tasks : List Task) (n : ℕ) → Has (at_depth depth tasks) n → (t : Task) × Has tasks t × (t.number ≡ n)
at_depth_back depth tasks n h = grind (arith, has_map_back, has_reverse_back, has_filter)

deepest_back : (depth : ℕ) (tasks : List Task) (n : ℕ) → Has (deepest_below depth tasks) n → (t : Task) × Has tasks t × (t.number ≡ n)
deepest_back zero tasks n h = absurd h
deepest_back (suc depth) tasks n h = elim (has_append_cases (at_depth depth tasks) (deepest_below depth tasks) n h) [ inl a ↦ at_depth_back depth tasks n a | inr b ↦ deepest_back depth tasks n b ]

among_has : (ns : List ℕ) (n : ℕ) → Has ns n → among ns n ≡ true
among_has ns n h = any_some (λ m. eqb m n) ns n h (elim (eqb_tells n n) [ inl e ↦ e.0 | inr e ↦ absurd (e.1 refl) ])

has_among : (ns : List ℕ) (n : ℕ) → among ns n ≡ true → Has ns n
has_among ns n e = let r = any_has (λ m. eqb m n) ns e in elim (eqb_tells r.0 n) [ inl s ↦ subst (Has ns) s.1 r.1 | inr s ↦ absurd (true≢false (sym r.2 ∙ s.0)) ]

with_numbers : (ending : Ending) (ns : List ℕ) → map (λ (e : ℕ × Ending). e.0) (all_with ending ns) ≡ ns
with_numbers ending [] = refl
with_numbers ending (n ∷ ns) = ap (λ ms. n ∷ ms) (with_numbers ending ns)

pub all_among : (P : Starts) (constants : JobConstants) (job : Job) (ending : Ending) → TasksInOrder P constants job → (t : Task) → Has job.tasks t → among (map (λ (e : ℕ × Ending). e.0) (all_with ending (deepest_first job.tasks))) t.number ≡ true
all_among P constants job ending g t here = rw (with_numbers ending (deepest_first job.tasks)) (among_has (deepest_first job.tasks) t.number (deepest_has 15 job.tasks t here (depth_low P constants job g t here)))

pub all_closed : (P : Starts) (constants : JobConstants) (job : Job) (ending : Ending) → TasksInOrder P constants job → IsClosed job (map (λ (e : ℕ × Ending). e.0) (all_with ending (deepest_first job.tasks)))
all_closed P constants job ending g t here n h k = rw (with_numbers ending (deepest_first job.tasks)) (among_has (deepest_first job.tasks) t.number (deepest_has 15 job.tasks t here (depth_low P constants job g t here)))

module _ (P : Starts) (constants : JobConstants) (job : Job) (number : ℕ) (ending : Ending) (g : TasksInOrder P constants job) where
  abbrev under : List ℕ
  under = deepest_first (descendants job number)

  numbers_are : map (λ (e : ℕ × Ending). e.0) (all_with Parent under ++ (number, ending) ∷ []) ≡ under ++ (number ∷ [])
  numbers_are = map-append (λ (e : ℕ × Ending). e.0) (all_with Parent under) ((number, ending) ∷ []) ∙ ap (λ ns. ns ++ (number ∷ [])) (with_numbers Parent under)

  is_under : (t : Task) → Has job.tasks t → Has t.parents number → Has (under ++ (number ∷ [])) t.number
  is_under t here h = has_append_left under (number ∷ []) t.number (deepest_has 15 (descendants job number) t (has_filter_in (λ (u : Task). among u.parents number) job.tasks t here (among_has t.parents number h)) (depth_low P constants job g t here))

  closed : IsClosed job (map (λ (e : ℕ × Ending). e.0) (all_with Parent under ++ (number, ending) ∷ []))
  closed t here n h k =
      let k' : among (under ++ (number ∷ [])) n ≡ true = rw numbers_are at k in
      let done : Has (under ++ (number ∷ [])) t.number = elim (has_append_cases under (number ∷ []) n (has_among (under ++ (number ∷ [])) n k')) [
        | inl a ↦
            let r = deepest_back 15 (descendants job number) n a in
            let d = has_filter (λ (u : Task). among u.parents number) job.tasks r.0 r.1 in
            let above = line_above P constants job g t here t.parents refl n h in
            let found : keyed (λ (u : Task). u.number) n job.tasks ≡ Some r.0 = subst (λ m. keyed (λ (u : Task). u.number) m job.tasks ≡ Some r.0) r.2 (keyed_falls (λ (u : Task). u.number) job.next_task job.tasks r.0 g.numbers d.0) in
            let both : Some above.0 ≡ Some r.0 = sym above.1 ∙ found in
            let same : above.0 ≡ r.0 = cc in
            is_under t here (above.2 number (subst (λ (u : Task). Has u.parents number) (sym same) (has_among r.0.parents number d.1)))
        | inr b ↦ elim b [ inl e ↦ is_under t here (subst (Has t.parents) (sym e) h) | inr x ↦ absurd x ]
      ] in
      rw numbers_are (among_has (under ++ (number ∷ [])) t.number done)

  -- a task that ends with all under it
  pub ends_task_good : TasksInOrder P constants (ends_task job number ending).job
  ends_task_good = ends_good P constants (unsettled job) (all_with Parent under ++ (number, ending) ∷ []) g closed
