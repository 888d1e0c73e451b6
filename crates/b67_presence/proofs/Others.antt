-- Sessions with other numbers: what they share.
use Rattle.std.proofs.Common.{◌≡◌, ℕ, ◌+◌, List, [], ◌∷◌, length, map, refl, sym, ◌∙◌, ap, subst, inl, inr, arith}
use Rattle.std.specs.Prelude.{sum_by}
use Rattle.std.specs.List.{AllByRecursion}
use Rattle.std.proofs.lemmas.List.Sums.{sum_by-cons}
use Rattle.b67_lemmas.specs.Lists.{Has}
use Rattle.b67_model.specs.Common.{Array, Segment, Condition, Task, SessionJob, Session, sectors_for, sectors, IsSegment, SegmentInOrder, ArrayInOrder}
use Rattle.b67_layout.specs.Common.{JobInOrderButCounts, IsInOrderButCounts, Placement, TaskRow, JobRow, shown, critical_disp, TaskShows, JobShows, JobsShow}
use Rattle.b67_law.specs.Weaker.{Renumbers, Recoded, Refilled, OtherNumbers, AllOtherNumbers}
use Rattle.b67_law.proofs.Sessions.{recoded_count}
use Rattle.b67_task.specs.declared.tables.Tasks.{Tasks}
use Rattle.b67_task.specs.Tables.{job_row, TasksShow}

-- a session in order has the same numbers as itself
recoded_same : (xs : List Segment) → AllByRecursion SegmentInOrder xs → Recoded xs xs
recoded_same [] o = tt
recoded_same (x ∷ xs) o = (record { count = refl; bits = o.0.words }, recoded_same xs o.1)

refilled_same : (xs : List Array) → AllByRecursion ArrayInOrder xs → Refilled xs xs
refilled_same [] o = tt
refilled_same (x ∷ xs) o = (record { identity = refl; owner = refl; writable = refl; numbers = record { count = refl; bits = o.0.words } }, refilled_same xs o.1)

members_same : (ms : List SessionJob) → AllByRecursion (λ (m : SessionJob). JobInOrderButCounts (IsSegment m.constants) m.constants m.progress) ms → AllOtherNumbers ms ms
members_same [] o = tt
members_same (m ∷ ms) o = (record { segments = recoded_same m.constants.segments o.0.unchanging.segments; arrays = refilled_same m.progress.job.arrays o.0.tasks.arrays; rest = refl }, members_same ms o.1)

pub others_same : (s : Session) → IsInOrderButCounts s → AllOtherNumbers s.jobs s.jobs
others_same s o = members_same s.jobs o.jobs

-- other numbers than other numbers
renumbers_then : (a b c : List ℕ) → Renumbers a b → Renumbers b c → Renumbers a c
renumbers_then a b c h k = record { count = k.count ∙ h.count; bits = k.bits }

recoded_then : (xs ys zs : List Segment) → Recoded xs ys → Recoded ys zs → Recoded xs zs
recoded_then [] [] [] h k = tt
recoded_then (x ∷ xs) (y ∷ ys) (z ∷ zs) h k = (renumbers_then x.code y.code z.code h.0 k.0, recoded_then xs ys zs h.1 k.1)
recoded_then [] [] (z ∷ zs) h k = absurd k
recoded_then [] (y ∷ ys) zs h k = absurd h
recoded_then (x ∷ xs) [] zs h k = absurd h
recoded_then (x ∷ xs) (y ∷ ys) [] h k = absurd k

refilled_then : (xs ys zs : List Array) → Refilled xs ys → Refilled ys zs → Refilled xs zs
refilled_then [] [] [] h k = tt
refilled_then (x ∷ xs) (y ∷ ys) (z ∷ zs) h k = grind (arith, refilled_then xs ys zs h.1 k.1)
refilled_then [] [] (z ∷ zs) h k = absurd k
refilled_then [] (y ∷ ys) zs h k = absurd h
refilled_then (x ∷ xs) [] zs h k = absurd h
refilled_then (x ∷ xs) (y ∷ ys) [] h k = absurd k

-- a member with other segments and arrays
abbrev with_numbers : SessionJob → List Segment → List Array → SessionJob
with_numbers m segments arrays = record m {
  constants = record m.constants { segments = segments };
  progress = record m.progress { job = record m.progress.job { arrays = arrays } };
}

pub other_then : (m n y : SessionJob) → OtherNumbers m n → OtherNumbers n y → OtherNumbers m y
other_then m n y h k = grind (arith, recoded_then, refilled_then)

pub others_then : (ms ns ys : List SessionJob) → AllOtherNumbers ms ns → AllOtherNumbers ns ys → AllOtherNumbers ms ys
others_then [] [] [] h k = tt
others_then (m ∷ ms) (n ∷ ns) (y ∷ ys) h k = (other_then m n y h.0 k.0, others_then ms ns ys h.1 k.1)
others_then [] [] (y ∷ ys) h k = absurd k
others_then [] (n ∷ ns) ys h k = absurd h
others_then (m ∷ ms) [] ys h k = absurd h
others_then (m ∷ ms) (n ∷ ns) [] h k = absurd k

-- the other self of a member, and of a running one
pub others_has : (ms ns : List SessionJob) → AllOtherNumbers ms ns → (m : SessionJob) → Has ms m → (n : SessionJob) × Has ns n × OtherNumbers m n
others_has [] [] h m i = absurd i
others_has (y ∷ ms) (n ∷ ns) h m (inl e) = let P : SessionJob → Type 0 = λ z. OtherNumbers z n in (n, inl refl, subst P e h.0)
others_has (y ∷ ms) (n ∷ ns) h m (inr i) = let (z, at, other) = others_has ms ns h.1 m i in (z, inr at, other)
others_has [] (n ∷ ns) h m i = absurd h
others_has (y ∷ ms) [] h m i = absurd h

pub others_back : (ms ns : List SessionJob) → AllOtherNumbers ms ns → (n : SessionJob) → Has ns n → (m : SessionJob) × Has ms m × OtherNumbers m n
others_back [] [] h n i = absurd i
others_back (m ∷ ms) (y ∷ ns) h n (inl e) = let P : SessionJob → Type 0 = λ z. OtherNumbers m z in (m, inl refl, subst P e h.0)
others_back (m ∷ ms) (y ∷ ns) h n (inr i) = let (z, at, other) = others_back ms ns h.1 n i in (z, inr at, other)
others_back [] (y ∷ ns) h n i = absurd h
others_back (m ∷ ms) [] h n i = absurd h

-- the tables show no numbers
module _ (plan : Placement) (m n : SessionJob) (h : OtherNumbers m n) where
  shown_same : (t : Task) (c : Condition) → shown plan m.constants.number (record m.progress.job { arrays = n.progress.job.arrays }) t c ≡ shown plan m.constants.number m.progress.job t c
  shown_same t c = grind arith

  critical_same : (c : ℕ) (parents : List ℕ) → critical_disp plan m.constants.number (record m.progress.job { arrays = n.progress.job.arrays }) c parents ≡ critical_disp plan m.constants.number m.progress.job c parents
  critical_same c parents = grind arith

  task_shows : (t : Task) (row : TaskRow) → TaskShows plan m t row → TaskShows plan n t row
  task_shows t row s = grind (arith, shown_same)

  job_shows : (row : JobRow) → JobShows plan m row → JobShows plan n row
  job_shows row s = grind (arith, recoded_count)

  has_task : (t : Task) → Has m.progress.job.tasks t → Has n.progress.job.tasks t
  has_task t i = let P : SessionJob → Type 0 = λ z. Has z.progress.job.tasks t in subst P (sym h.rest) i

  task_back : (t : Task) → Has n.progress.job.tasks t → Has m.progress.job.tasks t
  task_back t i = let P : SessionJob → Type 0 = λ z. Has z.progress.job.tasks t in subst P h.rest i

jobs_show : (plan : Placement) (ms ns : List SessionJob) (rows : List JobRow) → AllOtherNumbers ms ns → JobsShow plan ms rows → JobsShow plan ns rows
jobs_show plan [] [] [] h s = tt
jobs_show plan (m ∷ ms) (n ∷ ns) (row ∷ rows) h s = (job_shows plan m n h.0 row s.0, jobs_show plan ms ns rows h.1 s.1)
jobs_show plan [] [] (row ∷ rows) h s = absurd s
jobs_show plan (m ∷ ms) (n ∷ ns) [] h s = absurd s
jobs_show plan [] (n ∷ ns) rows h s = absurd h
jobs_show plan (m ∷ ms) [] rows h s = absurd h

pub others_show : (plan : Placement) (s : Session) (jobs : List SessionJob) (tasks : Tasks) → AllOtherNumbers s.jobs jobs → TasksShow plan s tasks → TasksShow plan (record s { jobs = jobs }) tasks
others_show plan s jobs tasks h k = record {
  tasks = λ row in_row.
      let (m, t, in_m, in_t, shows) = k.tasks row in_row in
      let (n, in_n, other) = others_has s.jobs jobs h m in_m in
      (n, t, in_n, has_task plan m n other t in_t, task_shows plan m n other t row shows);
  each = λ n t in_n in_t.
      let (m, in_m, other) = others_back s.jobs jobs h n in_n in
      let (row, in_row, shows) = k.each m t in_m (task_back plan m n other t in_t) in
      (row, in_row, task_shows plan m n other t row shows);
  once = k.once;
  jobs = jobs_show plan s.jobs jobs (map job_row tasks.jobs) h k.jobs;
  counts = record {
    quantum = k.counts.quantum;
    made = k.counts.made;
    turn = k.counts.turn;
    last_job = k.counts.last_job;
    last_number = k.counts.last_number;
    switches = k.counts.switches;
    next = k.counts.next;
    past = k.counts.past;
    running = k.counts.running;
  };
}

-- sums over jobs that don't see the numbers
module _ (f : SessionJob → ℕ) (same : (m n : SessionJob) → OtherNumbers m n → f n ≡ f m) where
  others_sum : (ms ns : List SessionJob) → AllOtherNumbers ms ns → sum_by f ns ≡ sum_by f ms
  others_sum [] [] h = refl
  others_sum (m ∷ ms) (n ∷ ns) h = sum_by-cons f n ns ∙ ap (λ (k : ℕ). k + sum_by f ns) (same m n h.0) ∙ ap (λ (k : ℕ). f m + k) (others_sum ms ns h.1) ∙ sym (sum_by-cons f m ms)
  others_sum [] (n ∷ ns) h = absurd h
  others_sum (m ∷ ms) [] h = absurd h

segment_sectors : (xs ys : List Segment) → Recoded xs ys → sum_by (λ (s : Segment). sectors_for (length s.code)) ys ≡ sum_by (λ (s : Segment). sectors_for (length s.code)) xs
segment_sectors [] [] h = refl
segment_sectors (x ∷ xs) (y ∷ ys) h =
    let f : Segment → ℕ = λ s. sectors_for (length s.code) in
    sum_by-cons f y ys ∙ ap (λ (k : ℕ). sectors_for k + sum_by f ys) h.0.count ∙ ap (λ (k : ℕ). f x + k) (segment_sectors xs ys h.1) ∙ sym (sum_by-cons f x xs)
segment_sectors [] (y ∷ ys) h = absurd h
segment_sectors (x ∷ xs) [] h = absurd h

array_sectors : (xs ys : List Array) → Refilled xs ys → sum_by (λ (a : Array). sectors_for (length a.numbers)) ys ≡ sum_by (λ (a : Array). sectors_for (length a.numbers)) xs
array_sectors [] [] h = refl
array_sectors (x ∷ xs) (y ∷ ys) h =
    let f : Array → ℕ = λ a. sectors_for (length a.numbers) in
    sum_by-cons f y ys ∙ ap (λ (k : ℕ). sectors_for k + sum_by f ys) h.0.numbers.count ∙ ap (λ (k : ℕ). f x + k) (array_sectors xs ys h.1) ∙ sym (sum_by-cons f x xs)
array_sectors [] (y ∷ ys) h = absurd h
array_sectors (x ∷ xs) [] h = absurd h

pub others_sectors : (ms ns : List SessionJob) → AllOtherNumbers ms ns → sectors ns ≡ sectors ms
others_sectors ms ns h = grind (arith, others_sum, segment_sectors, array_sectors)
