-- The tables pass their test exactly if they are as they should be.
use Rattle.std.proofs.Common.{◌≡◌, ℕ, ◌+◌, ◌-◌, ◌^◌, ◌<◌, ◌==◌, List, [], ◌∷◌, length, Option, Some, None, refl}
use Rattle.std.specs.Prelude.{ℤ, ◌&&◌, ◌||◌, not, nat_lt, nat_le, nat_abs, take, drop}
use Rattle.std.specs.List.{list_all, list_any, slice_get}
use Rattle.std.proofs.lemmas.Bool.Decides.{Decides-not}
use Rattle.b67_lemmas.specs.Lists.{total}
use Rattle.b67_model.specs.Common.{Switch, SwitchesRise}
use Rattle.b67_layout.specs.Rows.{RowState, IsReady, AwaitsTask, WaitsAtCell, TaskRow, JobRow, RunningRow}
use Rattle.b67_layout_shown.specs.Shown.{Sight, placed}
use Rattle.b67_image_shape.specs.Deciding.{Decides}
use Rattle.b67_image_shape.specs.TableFacts.{row_in_slot, rows_in, AreApart, RowsApart, JobGoesOn, JobFacts, BornBy, IsRowOfJob, RowFacts, CountFacts}
use Rattle.b67_image_shape.specs.TableTests.{jobs_pass, are_apart, rows_apart, state_ready, row_ready, may_go_on, is_read, job_test, born_test, of_job_test, row_test, rise_test, running_test, counts_test, tables_test}
use Rattle.b67_image_shape.specs.Laws.{TablesAreTested}
use Rattle.b67_image_shape.proofs.Deciding.{same_number, other_number, less, at_most, both, like, yes, nothing, each, some, each_job}
use Rattle.b67_model.specs.declared.limits.TheConstants.{MOST_JOBS, MOST_LIMIT}
use Rattle.std.proofs.Common.{arith}

-- ---- rows of tasks

pairs : (r q : TaskRow) → Decides (are_apart r q) (AreApart r q)
pairs r q = grind arith

apart : (rs : List TaskRow) → Decides (rows_apart rs) (RowsApart rs)
apart [] = yes tt
apart (r ∷ more) = both (list_all (are_apart r) more) (rows_apart more) (each (are_apart r) (AreApart r) (pairs r) more) (apart more)

state : (s : RowState) → Decides (state_ready s) (s ≡ IsReady)
state s = grind arith

born : (r : TaskRow) (o : Option TaskRow) → Decides (born_test r o) (BornBy r o)
born r o = grind arith

of_job : (k : Sight) (r : TaskRow) (o : Option JobRow) → Decides (of_job_test k r o) (IsRowOfJob k r o)
of_job k r o = grind arith

pub row_decided : (k : Sight) (r : TaskRow) → Decides (row_test k r) (RowFacts k r)
row_decided k r =
    like (row_test k r) (λ (a, (b, (c, d))). record { from_one = a; job = b; slot = c; born = d }) (λ h. (h.from_one, (h.job, (h.slot, h.born))))
    (both (nat_lt 0 r.job) (of_job_test k r (slice_get k.jobs (r.job - 1)) && (nat_lt r.slot k.regs.peak && born_test r (row_in_slot k.tasks r.parent))) (less 0 r.job)
    (both (of_job_test k r (slice_get k.jobs (r.job - 1))) (nat_lt r.slot k.regs.peak && born_test r (row_in_slot k.tasks r.parent)) (of_job k r (slice_get k.jobs (r.job - 1)))
    (both (nat_lt r.slot k.regs.peak) (born_test r (row_in_slot k.tasks r.parent)) (less r.slot k.regs.peak) (born r (row_in_slot k.tasks r.parent)))))

-- ---- jobs

goes_on : (row : JobRow) (rs : List TaskRow) → Decides (may_go_on row rs) (JobGoesOn row rs)
goes_on row [] = yes tt
goes_on row (r ∷ more) = both (nat_lt row.made row.limit) (list_any row_ready (r ∷ more)) (less row.made row.limit) (some row_ready (λ (q : TaskRow). q.state ≡ IsReady) (λ q. state q.state) (r ∷ more))

pub job_decided : (tasks : List TaskRow) (job : ℕ) (row : JobRow) → Decides (job_test tasks job row) (JobFacts tasks job row)
job_decided tasks job row =
    like (job_test tasks job row) (λ (a, (b, (c, (d, (e, f))))). record { few = a; reads = b; limit = c; next = d; within = e; goes_on = f }) (λ h. (h.few, (h.reads, (h.limit, (h.next, (h.within, h.goes_on))))))
    (both (nat_le (length (rows_in tasks job)) 15) (list_all is_read (drop row.next_number row.numbers) && (nat_le row.limit MOST_LIMIT && (nat_le row.next_task (row.made + 2) && (nat_le row.made row.limit && may_go_on row (rows_in tasks job))))) (at_most (length (rows_in tasks job)) 15)
    (both (list_all is_read (drop row.next_number row.numbers)) (nat_le row.limit MOST_LIMIT && (nat_le row.next_task (row.made + 2) && (nat_le row.made row.limit && may_go_on row (rows_in tasks job)))) (each is_read (λ (n : ℤ). nat_abs n < 2 ^ 39) (λ n. less (nat_abs n) (2 ^ 39)) (drop row.next_number row.numbers))
    (both (nat_le row.limit MOST_LIMIT) (nat_le row.next_task (row.made + 2) && (nat_le row.made row.limit && may_go_on row (rows_in tasks job))) (at_most row.limit MOST_LIMIT)
    (both (nat_le row.next_task (row.made + 2)) (nat_le row.made row.limit && may_go_on row (rows_in tasks job)) (at_most row.next_task (row.made + 2))
    (both (nat_le row.made row.limit) (may_go_on row (rows_in tasks job)) (at_most row.made row.limit) (goes_on row (rows_in tasks job)))))))

-- ---- counts

rises : (ws : List Switch) → Decides (rise_test ws) (SwitchesRise ws)
rises [] = yes tt
rises (a ∷ []) = yes tt
rises (a ∷ b ∷ more) = both (nat_lt a.count b.count) (rise_test (b ∷ more)) (less a.count b.count) (rises (b ∷ more))

runs : (k : Sight) (o : Option TaskRow) (running : ℕ) → Decides (running_test k.regs.slot o running) (RunningRow (placed k) o running)
runs k o running = grind arith

pub counts_decided : (k : Sight) → Decides (counts_test k) (CountFacts k)
counts_decided k =
    let ws = k.counts.switches in
    let w1 = running_test k.regs.slot (slice_get k.tasks k.counts.running) k.counts.running in
    let w2 = nat_le k.counts.turn k.counts.made && running_test k.regs.slot (slice_get k.tasks k.counts.running) k.counts.running in
    let w3 = (k.counts.made == total (λ (r : JobRow). r.made) k.jobs) && (nat_le k.counts.turn k.counts.made && running_test k.regs.slot (slice_get k.tasks k.counts.running) k.counts.running) in
    like (counts_test k) (λ (a, (b, (c, (d, (e, f))))). record { rise = a; next = b; past = c; counted = d; turn = e; running = f }) (λ h. (h.rise, (h.next, (h.past, (h.counted, (h.turn, h.running))))))
    (both (rise_test k.counts.switches) (nat_le k.counts.next_switch (length k.counts.switches) && (list_all (λ (w : Switch). nat_lt w.count k.counts.made) (take k.counts.next_switch k.counts.switches) && w3)) (rises k.counts.switches)
    (both (nat_le k.counts.next_switch (length k.counts.switches)) (list_all (λ (w : Switch). nat_lt w.count k.counts.made) (take k.counts.next_switch k.counts.switches) && w3) (at_most k.counts.next_switch (length k.counts.switches))
    (both (list_all (λ (w : Switch). nat_lt w.count k.counts.made) (take k.counts.next_switch k.counts.switches)) w3 (each (λ (w : Switch). nat_lt w.count k.counts.made) (λ (w : Switch). w.count < k.counts.made) (λ w. less w.count k.counts.made) (take k.counts.next_switch k.counts.switches))
    (both (k.counts.made == total (λ (r : JobRow). r.made) k.jobs) w2 (same_number k.counts.made (total (λ (r : JobRow). r.made) k.jobs))
    (both (nat_le k.counts.turn k.counts.made) w1 (at_most k.counts.turn k.counts.made) (runs k (slice_get k.tasks k.counts.running) k.counts.running))))))

pub tables_decided : TablesAreTested
tables_decided k =
    like (tables_test k) (λ (a, (b, (c, (d, (e, f))))). record { few_jobs = a; apart = b; peak = c; rows = d; jobs = e; counts = f }) (λ h. (h.few_jobs, (h.apart, (h.peak, (h.rows, (h.jobs, h.counts))))))
    (both (nat_le (length k.jobs) MOST_JOBS) (rows_apart k.tasks && (nat_le k.regs.peak 120 && (list_all (row_test k) k.tasks && (jobs_pass (job_test k.tasks) 1 k.jobs && counts_test k)))) (at_most (length k.jobs) MOST_JOBS)
    (both (rows_apart k.tasks) (nat_le k.regs.peak 120 && (list_all (row_test k) k.tasks && (jobs_pass (job_test k.tasks) 1 k.jobs && counts_test k))) (apart k.tasks)
    (both (nat_le k.regs.peak 120) (list_all (row_test k) k.tasks && (jobs_pass (job_test k.tasks) 1 k.jobs && counts_test k)) (at_most k.regs.peak 120)
    (both (list_all (row_test k) k.tasks) (jobs_pass (job_test k.tasks) 1 k.jobs && counts_test k) (each (row_test k) (RowFacts k) (row_decided k) k.tasks)
    (both (jobs_pass (job_test k.tasks) 1 k.jobs) (counts_test k) (each_job (job_test k.tasks) (JobFacts k.tasks) (job_decided k.tasks) 1 k.jobs) (counts_decided k))))))
