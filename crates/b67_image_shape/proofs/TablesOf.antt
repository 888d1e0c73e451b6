-- The tables of a machine that represents what it shows are as they should be.
use Rattle.std.proofs.Common.{◌≡◌, ◌≢◌, ℕ, zero, suc, ◌+◌, ◌-◌, ◌<◌, ◌==◌, true, false, List, [], ◌∷◌, map, length, take, Some, None, refl, sym, ◌∙◌, ap, subst, arith, inl, inr}
use Rattle.std.specs.Prelude.{nat_lt, IsTrue, fold, if◌then◌else◌}
use Rattle.std.specs.List.{AllByRecursion, slice_get}
use Rattle.std.proofs.lemmas.Bool.{eq-eqb, ne_eqb}
use Rattle.std.proofs.lemmas.List.{length-map}
use Rattle.b67_lemmas.specs.Lists.{Has, total}
use Rattle.b67_lemmas.proofs.Members.{all_in, all_from, falls_low, keyed_falls, keyed_has, has_map, has_filter_in, find_none}
use Rattle.b67_law.proofs.Numbered.{keyed_member}
use Rattle.b67_model.specs.Common.{Task, SessionJob, Switch, Condition, Ready, Awaits, WaitsAt, is_ready, BirthInOrder, IsSegment, IsInOrderButPlaces, JobInOrder, TaskInOrder}
use Rattle.b67_stack.specs.Represents.{Storage}
use Rattle.b67_layout.specs.Common.{slot_of, IsRunning, SessionHolds, TaskRow, JobRow, IsReady, TaskShows, TablesShow, Differ, parent_slot, critical_disp}
use Rattle.b67_layout.specs.Rows as rows
use Rattle.b67_layout_shown.specs.Shown.{Sight, insert_row, sorted, rows_of, task_in, member_in, members_from, shown, placed}
use Rattle.b67_image_shape.specs.TableFacts.{row_in_slot, rows_in, EachJob, AreApart, RowsApart, JobGoesOn, JobFacts, BornBy, IsRowOfJob, RowFacts, TableFacts}
use Rattle.b67_image_shape.proofs.Members.{RowOfMember, row_of_member, members_long, row_in}

insert_long : (r : TaskRow) (xs : List TaskRow) → length (insert_row r xs) ≡ suc (length xs)
insert_long r [] = refl
insert_long r (x ∷ more) = elim (nat_lt x.number r.number) as (λ b. length (if b then r ∷ x ∷ more else x ∷ insert_row r more) ≡ suc (suc (length more))) [ true ↦ refl | false ↦ ap suc (insert_long r more) ]

pub sorted_long : (xs : List TaskRow) → length (sorted xs) ≡ length xs
sorted_long [] = refl
sorted_long (r ∷ more) = insert_long r (sorted more) ∙ ap suc (sorted_long more)

all_take : {A : Type 0} (P : A → Type 0) (xs : List A) (n : ℕ) → ((i : ℕ) (x : A) → i < n → slice_get xs i ≡ Some x → P x) → AllByRecursion P (take n xs)
all_take P [] zero h = tt
all_take P [] (suc n) h = tt
all_take P (x ∷ xs) zero h = tt
all_take P (x ∷ xs) (suc n) h = (h 0 x (omega arith) refl, all_take P xs n (λ i y low e. h (suc i) y (omega (arith, low)) e))

pub sum_from : (k : Sight) (a n : ℕ) (rs : List JobRow) → fold (λ (a : ℕ) (m : SessionJob). a + m.progress.made) a (members_from k n rs) ≡ a + total (λ (r : JobRow). r.made) rs
sum_from k a n [] = omega arith
sum_from k a n (r ∷ more) = sum_from k (a + r.made) (n + 1) more ∙ (let z : a + r.made + total (λ (r : JobRow). r.made) more ≡ a + (r.made + total (λ (r : JobRow). r.made) more) = omega arith in z)

module _ (k : Sight) (x : Storage) (critical : List ℕ) (ordered : IsInOrderButPlaces (shown k)) (holds : SessionHolds x k.core k.regs critical (placed k) (shown k))
    (tables : TablesShow (placed k) (shown k) k.tasks k.jobs k.counts) where
  pub job_order : (y : SessionJob) → Has (shown k).jobs y → JobInOrder (IsSegment y.constants) y.constants y.progress
  job_order y h = all_in (λ (z : SessionJob). JobInOrder (IsSegment z.constants) z.constants z.progress) (shown k).jobs y ordered.jobs h

  pub task_order : (y : SessionJob) (t : Task) → Has (shown k).jobs y → Has y.progress.job.tasks t → TaskInOrder (IsSegment y.constants) y.constants y.progress.job t
  task_order y t h live = all_in (TaskInOrder (IsSegment y.constants) y.constants y.progress.job) y.progress.job.tasks t (job_order y h).tasks.tasks live

  slot_is : (r : TaskRow) → Has k.tasks r → r.slot ≡ slot_of (placed k) r.job r.number
  slot_is r h = let (m, t, hm, ht, sh) = tables.tasks r h in sh.slot ∙ ap (λ j. slot_of (placed k) j t.number) (sym sh.job) ∙ ap (slot_of (placed k) r.job) (sym sh.number)

  apart : (rs : List TaskRow) → ((r : TaskRow) → Has rs r → Has k.tasks r) → Differ (map (λ (r : TaskRow). r.slot) rs) → RowsApart rs
  apart [] inside d = tt
  apart (r ∷ more) inside d = (all_from (AreApart r) more (λ q h. (λ e. differs q h e, λ ej en. differs q h (slot_is r (inside r (inl refl)) ∙ ap (λ j. slot_of (placed k) j r.number) ej ∙ ap (slot_of (placed k) q.job) en ∙ sym (slot_is q (inside q (inr h)))))), apart more (λ q h. inside q (inr h)) d.1) where
    differs : (q : TaskRow) → Has more q → r.slot ≡ q.slot → ⊥
    differs q h e = d.0 (subst (Has (map (λ (r : TaskRow). r.slot) more)) (sym e) (has_map (λ (r : TaskRow). r.slot) more q h))

  pub runs : (m : SessionJob) (t : Task) → Has (shown k).jobs m → Has m.progress.job.tasks t → k.regs.slot ≡ slot_of (placed k) m.constants.number t.number → IsRunning (placed k) (shown k).jobs m t
  runs m t hm ht e = record {
    member = keyed_member 1 (shown k).jobs m ordered.numbered hm;
    task = keyed_falls (λ (u : Task). u.number) m.progress.job.next_task m.progress.job.tasks t (job_order m hm).tasks.numbers ht;
    slot = e;
  }

  pub slot_low : (r : TaskRow) → Has k.tasks r → r.slot < k.regs.peak
  slot_low r h = holds.fits.rows.below (record { job = r.job; task = r.number; slot = r.slot }) (has_map (λ (q : TaskRow). record { job = q.job; task = q.number; slot = q.slot }) k.tasks r h)

  pub no_row : row_in_slot k.tasks 255 ≡ None
  no_row = find_none (λ (q : TaskRow). q.slot == 255) k.tasks (λ q h. ne_eqb q.slot 255 (λ e. (let low = slot_low q h in let few = ordered.peak_high in omega (arith, low, few, e))))

  born : (r : TaskRow) (m : SessionJob) (t : Task) → Has (shown k).jobs m → TaskShows (placed k) m t r → (ps : List ℕ) → BirthInOrder m.progress.job t ps
      → r.parent ≡ parent_slot (placed k) m.constants.number ps → r.critical ≡ critical_disp (placed k) m.constants.number m.progress.job t.critical ps → BornBy r (row_in_slot k.tasks r.parent)
  born r m t hm sh [] b ep ec = subst (BornBy r) (sym (ap (row_in_slot k.tasks) ep ∙ no_row)) (sh.number ∙ b.0, (ep, ec))
  born r m t hm sh (p ∷ above) b ep ec =
      let found = keyed_has (λ (v : Task). v.number) p m.progress.job.tasks b.parent b.found in
      let (q, hq, shq) = tables.each m b.parent hm found.0 in
      let slot : r.parent ≡ q.slot = ep ∙ ap (slot_of (placed k) m.constants.number) (sym found.1) ∙ sym shq.slot in
      let older = b.older in
      let number = sh.number in
      let parent = shq.number in
      let same = found.1 in
      subst (BornBy r) (sym (ap (row_in_slot k.tasks) slot ∙ row_in k.tasks q tables.once hq)) (shq.job ∙ sym sh.job, omega (arith, older, number, parent, same))

  row_facts : (r : TaskRow) → Has k.tasks r → RowFacts k r
  row_facts r h =
      let (m, t, hm, ht, sh) = tables.tasks r h in
      let mr = row_of_member k 1 k.jobs m hm in
      let low = mr.low in
      let job = sh.job in
      let below = falls_low m.progress.job.next_task (map (λ (u : Task). u.number) m.progress.job.tasks) t.number (job_order m hm).tasks.numbers (has_map (λ (u : Task). u.number) m.progress.job.tasks t ht) in
      let next : m.progress.job.next_task ≡ mr.row.next_task = ap (λ (z : SessionJob). z.progress.job.next_task) (sym mr.is) in
      let number = sh.number in
      let at : slice_get k.jobs (r.job - 1) ≡ Some mr.row = ap (λ j. slice_get k.jobs (j - 1)) sh.job ∙ mr.found in
      record {
        from_one = omega (arith, low, job);
        job = subst (IsRowOfJob k r) (sym at) (omega (arith, below, next, number), λ e. running m t hm ht mr sh e);
        slot = slot_low r h;
        born = born r m t hm sh t.parents (task_order m t hm ht).birth sh.parent sh.critical;
      } where
        running : (m : SessionJob) (t : Task) → Has (shown k).jobs m → Has m.progress.job.tasks t → (mr : RowOfMember k 1 k.jobs m) → TaskShows (placed k) m t r → r.slot ≡ k.regs.slot
            → (k.regs.dict ≡ mr.row.dictionary) × (k.regs.entries ≡ mr.row.segments + mr.row.rows)
        running m t hm ht mr sh e =
            let q = holds.running m t (runs m t hm ht (sym e ∙ sh.slot)) in
            (q.dict ∙ mr.dictionary, q.entries ∙ sym (mr.shows (placed k) tables.jobs).rows)

  -- ---- jobs

  ready_row : (m : SessionJob) (t : Task) (r : TaskRow) → TaskShows (placed k) m t r → IsTrue (is_ready t) → r.state ≡ IsReady
  ready_row m t r sh e = grind arith

  goes_on : (row : JobRow) (n : ℕ) → Has (shown k).jobs (member_in k row n) → (rs : List TaskRow) → rows_in k.tasks n ≡ rs → JobGoesOn row rs
  goes_on row n there [] e = tt
  goes_on row n there (r ∷ more) e =
      let o = job_order (member_in k row n) there in
      let some = some_tasks in
      let (t, live, ready) = o.counts.goes_on some in
      let (q, hq, sh) = tables.each (member_in k row n) t there live in
      (o.below_limit some, (q, subst (λ (rs : List TaskRow). Has rs q) e (has_filter_in (λ (r : TaskRow). r.job == n) k.tasks q hq (eq-eqb q.job n sh.job)), ready_row (member_in k row n) t q sh ready)) where
        some_tasks : map (task_in k row n) (rows_of k.tasks n) ≢ []
        some_tasks z =
            let a = ap (λ (ts : List Task). length ts) z in
            let b = length-map (rows_of k.tasks n) (task_in k row n) in
            let c = sorted_long (rows_in k.tasks n) in
            let d = ap (λ (rs : List TaskRow). length rs) e in
            absurd (omega (arith, a, b, c, d))

  job_facts : (n : ℕ) (rs : List JobRow) → ((y : SessionJob) → Has (members_from k n rs) y → Has (shown k).jobs y) → EachJob (JobFacts k.tasks) n rs
  job_facts n [] inside = tt
  job_facts n (row ∷ more) inside =
      let there = inside (member_in k row n) (inl refl) in
      let o = job_order (member_in k row n) there in
      let few = o.tasks.few in
      let b = length-map (rows_of k.tasks n) (task_in k row n) in
      let c = sorted_long (rows_in k.tasks n) in (
        record {
          few = omega (arith, few, b, c);
          reads = o.tasks.reads;
          limit = o.unchanging.limit;
          next = o.counts.next;
          within = o.counts.within;
          goes_on = goes_on row n there (rows_in k.tasks n) refl;
        },
        job_facts (n + 1) more (λ y h. inside y (inr h)),
      )

  pub tables_of : TableFacts k
  tables_of = record {
    few_jobs = (let few = ordered.few in let long = members_long k 1 k.jobs in omega (arith, few, long));
    apart = apart k.tasks (λ r h. h) tables.once;
    peak = ordered.peak_high;
    rows = all_from (RowFacts k) k.tasks row_facts;
    jobs = job_facts 1 k.jobs (λ y h. h);
    counts = record {
      rise = ordered.switches;
      next = tables.counts.next;
      past = all_take (λ (w : Switch). w.count < k.counts.made) k.counts.switches k.counts.next_switch (λ i w low e. tables.counts.past i w low e);
      counted = ordered.counted ∙ sum_from k 0 1 k.jobs ∙ (let z : 0 + total (λ (r : JobRow). r.made) k.jobs ≡ total (λ (r : JobRow). r.made) k.jobs = omega arith in z);
      turn = ordered.turn;
      running = tables.counts.running;
    };
  }
