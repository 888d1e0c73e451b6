-- The tables once a task has made one operator more.
use Rattle.std.proofs.Common.{◌≡◌, ℕ, zero, suc, ◌+◌, ◌-◌, ◌<◌, ◌≤◌, List, [], ◌∷◌, ◌++◌, length, map, take, drop, Some, refl, sym, ◌∙◌, ap, arith, inl, inr, ◌⊎◌, slice_set, subst, get_or}
use Rattle.std.specs.List.{slice_get}
use Rattle.std.proofs.lemmas.Option.{get_or_from_slice_get, none-some}
use Rattle.std.proofs.lemmas.List.{length-map}
use Rattle.std.proofs.lemmas.Bool.Decides.{eqb_tells}
use Rattle.b67_model_text.specs.declared.deck.Switch as text
use Rattle.b67_lemmas.specs.Lists.{Has}
use Rattle.b67_lemmas.proofs.Places.{at_mapped, came_back, map-slice_set, mapped_at}
use Rattle.b67_model.specs.Common.{Task, SessionJob, number_of, Who, Switch, Session, NumberedFrom}
use Rattle.b67_model.specs.Keyed.{change_keyed}
use Rattle.b67_layout.specs.Common.{Placement, TaskRow, JobCounts, TaskShows, JobsShow, TablesShow}
use Rattle.b67_layout.specs.Rows as rows
use Rattle.b67_task.specs.declared.tables.JobRow.{JobRow}
use Rattle.b67_task.specs.declared.tables.Tasks.{Tasks}
use Rattle.b67_task.specs.Tables.{task_row, job_row, switch_of, counts_of, TasksShow}
use Rattle.b67_task.specs.declared.counting.Chosen.{Chosen}
use Rattle.b67_task.specs.Counted.{choice_of, counted_more, row_more, counted_row, counted, counted_by, CountsHaveRoom, TurnHasRoom, Past}

-- one switch more is past
pub past_grown : (xs : List text.Switch) (from made n : ℕ) (d : text.Switch) → from < length xs → (get_or xs from d).count < made → n ≤ from + 1 → Past from made (map switch_of xs) → Past n made (map switch_of xs)
past_grown xs from made n d inside low few past = grind (arith, mapped_at, get_or_from_slice_get)

-- the members once one of them has made one operator more: the others, and that one
pub has_counted : (more n : ℕ) (jobs : List SessionJob) (m : SessionJob) → Has (change_keyed number_of n (counted_more more) jobs) m → (y : SessionJob) × Has jobs y × ((y ≡ m) ⊎ (counted_more more y ≡ m))
has_counted more n [] m h = absurd h
has_counted more n (y ∷ jobs) m h = elim (eqb_tells (number_of y) n) [
  | inl t ↦ elim (rw t.0 at h) [ inl e ↦ (y, inl refl, inr e) | inr k ↦ (m, inr k, inl refl) ]
  | inr t ↦ elim (rw t.0 at h) [
    | inl e ↦ (y, inl refl, inl e)
    | inr k ↦ let (z, there_is, is) = has_counted more n jobs m k in (z, inr there_is, is)
  ]
]

pub has_counted_of : (more n : ℕ) (jobs : List SessionJob) (m : SessionJob) → Has jobs m → Has (change_keyed number_of n (counted_more more) jobs) m ⊎ Has (change_keyed number_of n (counted_more more) jobs) (counted_more more m)
has_counted_of more n [] m h = absurd h
has_counted_of more n (y ∷ jobs) m h = grind (arith, has_counted_of more n jobs m)

-- a row shows a task's state, whatever its job has made
pub task_counted : (more : ℕ) (plan : Placement) (m : SessionJob) (t : Task) (row : TaskRow) → TaskShows plan m t row → TaskShows plan (counted_more more m) t row
task_counted more plan m t row h = record { job = h.job; number = h.number; slot = h.slot; parent = h.parent; critical = h.critical; state = h.state; segment = h.segment; place = h.place }

abbrev pub row_counted : ℕ → rows.JobRow → rows.JobRow
row_counted more r = record r { made = r.made + more }

pub jobs_counted : (add : ℕ) (plan : Placement) (k i n : ℕ) (jobs : List SessionJob) (job_rows : List rows.JobRow) (r : rows.JobRow) → k + i ≡ n → NumberedFrom k jobs → JobsShow plan jobs job_rows → slice_get job_rows i ≡ Some r
    → JobsShow plan (change_keyed number_of n (counted_more add) jobs) (slice_set job_rows i (row_counted add r))
jobs_counted add plan k i n [] [] r e d h at = absurd (none-some r at)
jobs_counted add plan k i n [] (q ∷ job_rows) r e d h at = absurd h
jobs_counted add plan k i n (m ∷ more) [] r e d h at = absurd h
jobs_counted add plan k zero n (m ∷ more) (q ∷ job_rows) r e d h at = grind arith
jobs_counted add plan k (suc i) n (m ∷ more) (q ∷ job_rows) r e d h at = grind (arith, jobs_counted add plan (k + 1) i n more job_rows r)

-- so many operators more of a task, which is then the last one
abbrev pub counted_to : ℕ → ℕ → Who → Session → Session
counted_to more turn who s = record s { jobs = change_keyed number_of who.job (counted_more more) s.jobs; made = s.made + more; last = who; turn = turn }

module _ (more turn : ℕ) (who : Who) (plan : Placement) (s : Session) (task_rows : List TaskRow) (job_rows : List rows.JobRow) (c : JobCounts) (numbered : NumberedFrom 1 s.jobs) (shows : TablesShow plan s task_rows job_rows c) where
  tables_counted : (r : rows.JobRow) (next : ℕ) → 1 ≤ who.job → slice_get job_rows (who.job - 1) ≡ Some r → next ≤ length c.switches → Past next (c.made + more) c.switches
      → TablesShow plan (counted_to more turn who s) task_rows (slice_set job_rows (who.job - 1) (row_counted more r))
      (record c { made = c.made + more; turn = turn; last_job = who.job; last_number = who.task; next_switch = next })
  tables_counted r next low at inside past = record {
    tasks = λ row h.
        let (m, t, inm, int, w) = shows.tasks row h in
        elim (has_counted_of more who.job s.jobs m inm) [
          | inl k ↦ (m, t, k, int, w)
          | inr k ↦ (counted_more more m, t, k, int, task_counted more plan m t row w)
        ];
    each = λ m t inm int.
        let (y, iny, is) = has_counted more who.job s.jobs m inm in
        elim is [
          | inl e ↦ shows.each m t (subst (λ (z : SessionJob). Has s.jobs z) e iny) int
          | inr e ↦
              let P : SessionJob → Type 0 = λ z. Has z.progress.job.tasks t → (row : TaskRow) × Has task_rows row × TaskShows plan z t row in
              subst P e (λ inside. let (row, k, w) = shows.each y t iny inside in (row, k, task_counted more plan y t row w)) int
        ];
    once = shows.once;
    jobs = jobs_counted more plan 1 (who.job - 1) who.job s.jobs job_rows r (omega (arith, low)) numbered shows.jobs at;
    counts = record {
      quantum = shows.counts.quantum;
      made = omega (arith, shows.counts.made);
      turn = refl;
      last_job = refl;
      last_number = refl;
      switches = shows.counts.switches;
      next = inside;
      past = past;
      running = shows.counts.running;
    };
  }

pub jobs_after : (more : ℕ) (xs lent new : List JobRow) (n : ℕ) (r : JobRow) → lent ≡ xs → (slice_get lent n ≡ Some r → new ≡ slice_set lent n (row_more more r)) → length new ≡ length lent → slice_get xs n ≡ Some r
    → take (length xs) (new ++ drop (length new) xs) ≡ slice_set xs n (row_more more r)
jobs_after more xs lent new n r same changed len at = grind (arith, came_back)

pub count_shows : (tasks : Tasks) (chosen : Chosen) (room : CountsHaveRoom tasks chosen) (lent new : List JobRow) (switches : List text.Switch) (next : ℕ) → lent ≡ tasks.jobs → switches ≡ tasks.switches
    → (slice_get lent (chosen.job - 1) ≡ Some room.job → new ≡ slice_set lent (chosen.job - 1) (counted_row room.job)) → length new ≡ length lent
    → next ≤ length switches → (Past tasks.next_switch (tasks.made + 1) (map switch_of switches) → Past next (tasks.made + 1) (map switch_of switches))
    → (plan : Placement) (s : Session) → NumberedFrom 1 s.jobs → TasksShow plan s tasks
    → TablesShow plan (counted s (choice_of chosen)) (map task_row tasks.rows.items) (map job_row (take (length tasks.jobs) (new ++ drop (length new) tasks.jobs)))
    (record (counts_of tasks) { made = tasks.made + 1; turn = chosen.turn + 1; last_job = chosen.job; last_number = chosen.number; next_switch = next })
count_shows tasks chosen room lent new switches next same_jobs same_switches changed len inside past plan s numbered shows =
    let at : slice_get lent (chosen.job - 1) ≡ Some room.job = ap (λ (l : List JobRow). slice_get l (chosen.job - 1)) same_jobs ∙ room.at in
    let is : new ≡ slice_set tasks.jobs (chosen.job - 1) (counted_row room.job) = changed at ∙ ap (λ (l : List JobRow). slice_set l (chosen.job - 1) (counted_row room.job)) same_jobs in
    let mapped : map job_row (take (length tasks.jobs) (new ++ drop (length new) tasks.jobs)) ≡ slice_set (map job_row tasks.jobs) (chosen.job - 1) (row_counted 1 (job_row room.job)) =
    ap (map job_row) (came_back tasks.jobs new (len ∙ ap length same_jobs) ∙ is) ∙ map-slice_set job_row tasks.jobs (chosen.job - 1) (counted_row room.job) in
    let before : Past tasks.next_switch (tasks.made + 1) (map switch_of switches) = λ i w lt e. omega (arith, shows.counts.past i w lt (ap (λ (l : List text.Switch). slice_get (map switch_of l) i) (sym same_switches) ∙ e)) in
    let after : Past next (tasks.made + 1) (map switch_of tasks.switches) = subst (λ (l : List text.Switch). Past next (tasks.made + 1) (map switch_of l)) same_switches (past before) in
    let within : next ≤ length (map switch_of tasks.switches) = omega (arith, inside, ap length same_switches, length-map tasks.switches switch_of) in
    subst
    (λ (l : List rows.JobRow). TablesShow plan (counted s (choice_of chosen)) (map task_row tasks.rows.items) l (record (counts_of tasks) { made = tasks.made + 1; turn = chosen.turn + 1; last_job = chosen.job; last_number = chosen.number; next_switch = next }))
    (sym mapped)
    (tables_counted 1 (chosen.turn + 1) (choice_of chosen).who plan s (map task_row tasks.rows.items) (map job_row tasks.jobs) (counts_of tasks) numbered shows (job_row room.job) next room.from_one
    (at_mapped job_row tasks.jobs (chosen.job - 1) room.job room.at) within after)

-- the same for so many operators of the last task
pub turn_shows : (tasks : Tasks) (more : ℕ) (room : TurnHasRoom tasks more) (lent new : List JobRow) → lent ≡ tasks.jobs → (slice_get lent (tasks.last_job - 1) ≡ Some room.job → new ≡ slice_set lent (tasks.last_job - 1) (row_more more room.job)) → length new ≡ length lent
    → (plan : Placement) (s : Session) → NumberedFrom 1 s.jobs → TasksShow plan s tasks
    → TablesShow plan (counted_by more s) (map task_row tasks.rows.items) (map job_row (take (length tasks.jobs) (new ++ drop (length new) tasks.jobs))) (record (counts_of tasks) { made = tasks.made + more; turn = tasks.turn + more })
turn_shows tasks more room lent new same_jobs changed len plan s numbered shows =
    let at = tasks.last_job - 1 in
    let is : take (length tasks.jobs) (new ++ drop (length new) tasks.jobs) ≡ slice_set tasks.jobs at (row_more more room.job) = jobs_after more tasks.jobs lent new at room.job same_jobs changed len room.at in
    let mapped : map job_row (take (length tasks.jobs) (new ++ drop (length new) tasks.jobs)) ≡ slice_set (map job_row tasks.jobs) at (row_counted more (job_row room.job)) =
    ap (map job_row) is ∙ map-slice_set job_row tasks.jobs at (row_more more room.job) in
    let last : Who = record { job = tasks.last_job; task = tasks.last_number } in
    let same : last ≡ s.last = ap (λ (n : ℕ). record { job = n; task = tasks.last_number }) shows.counts.last_job ∙ ap (λ (n : ℕ). record { job = s.last.job; task = n }) shows.counts.last_number in
    let T : Who → ℕ → List rows.JobRow → Type 0 = λ who turn l. TablesShow plan (counted_to more turn who s) (map task_row tasks.rows.items) l (record (counts_of tasks) { made = tasks.made + more; turn = tasks.turn + more }) in
    let past : Past tasks.next_switch (tasks.made + more) (map switch_of tasks.switches) = λ i w lt e. omega (arith, shows.counts.past i w lt e) in
    subst (T s.last (s.turn + more)) (sym mapped) (subst (λ (who : Who). T who (s.turn + more) (slice_set (map job_row tasks.jobs) at (row_counted more (job_row room.job)))) same
    (subst (λ (turn : ℕ). T last turn (slice_set (map job_row tasks.jobs) at (row_counted more (job_row room.job)))) (ap (λ (n : ℕ). n + more) shows.counts.turn)
    (tables_counted more (tasks.turn + more) last plan s (map task_row tasks.rows.items) (map job_row tasks.jobs) (counts_of tasks) numbered shows (job_row room.job) tasks.next_switch room.from_one
    (at_mapped job_row tasks.jobs at room.job room.at) shows.counts.next past)))
