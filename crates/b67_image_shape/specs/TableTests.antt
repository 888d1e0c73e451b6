-- Tests of the tables and registers.
use Rattle.std.specs.Prelude.{ℕ, ℤ, ◌+◌, ◌-◌, ◌^◌, ◌==◌, Bool, true, false, ◌&&◌, ◌||◌, not, nat_lt, nat_le, nat_abs, List, [], ◌∷◌, length, take, drop, Option, Some, None, slice_get}
use Rattle.std.specs.List.{list_any, list_all}
use Rattle.b67_ctl.specs.declared.map.TheConstants.{SLOTS}
use Rattle.b67_lemmas.specs.Lists.{total}
use Rattle.b67_model.specs.Common.{Switch}
use Rattle.b67_layout.specs.Rows.{RowState, IsReady, AwaitsTask, WaitsAtCell, TaskRow, JobRow, no_row}
use Rattle.b67_layout_shown.specs.Shown.{Sight}
use Rattle.b67_image_shape.specs.TableFacts.{row_in_slot, rows_in}
use Rattle.b67_model.specs.declared.limits.TheConstants.{MOST_JOBS, MOST_LIMIT, MOST_TASKS}

-- all jobs' rows, with their numbers
abbrev pub jobs_pass : (ℕ → JobRow → Bool) → ℕ → List JobRow → Bool
jobs_pass test job [] = true
jobs_pass test job (row ∷ more) = test job row && jobs_pass test (job + 1) more

abbrev pub are_apart : TaskRow → TaskRow → Bool
are_apart r q = not (r.slot == q.slot) && not ((r.job == q.job) && (r.number == q.number))

abbrev pub rows_apart : List TaskRow → Bool
rows_apart [] = true
rows_apart (r ∷ more) = list_all (are_apart r) more && rows_apart more

abbrev pub state_ready : RowState → Bool
state_ready IsReady = true
state_ready (AwaitsTask n) = false
state_ready (WaitsAtCell mark offset) = false

abbrev pub row_ready : TaskRow → Bool
row_ready r = state_ready r.state

abbrev pub may_go_on : JobRow → List TaskRow → Bool
may_go_on row [] = true
may_go_on row (r ∷ more) = nat_lt row.made row.limit && list_any row_ready (r ∷ more)

abbrev pub is_read : ℤ → Bool
is_read n = nat_lt (nat_abs n) (2 ^ 39)

abbrev pub job_test : List TaskRow → ℕ → JobRow → Bool
job_test tasks job row =
    nat_le (length (rows_in tasks job)) MOST_TASKS
    && (list_all is_read (drop row.next_number row.numbers)
    && (nat_le row.limit MOST_LIMIT && (nat_le row.next_task (row.made + 2) && (nat_le row.made row.limit && may_go_on row (rows_in tasks job)))))

abbrev pub born_test : TaskRow → Option TaskRow → Bool
born_test r None = (r.number == 1) && ((r.parent == 255) && (r.critical == 0))
born_test r (Some p) = (p.job == r.job) && nat_lt p.number r.number

abbrev pub of_job_test : Sight → TaskRow → Option JobRow → Bool
of_job_test k r None = false
of_job_test k r (Some row) =
    nat_lt r.number row.next_task && (not (r.slot == k.regs.slot) || ((k.regs.dict == row.dictionary) && (k.regs.entries == row.segments + row.rows)))

abbrev pub row_test : Sight → TaskRow → Bool
row_test k r =
    nat_lt 0 r.job && (of_job_test k r (slice_get k.jobs (r.job - 1)) && (nat_lt r.slot k.regs.peak && born_test r (row_in_slot k.tasks r.parent)))

-- a switch comes before the next one
abbrev pub rise_from : Switch → List Switch → Bool
rise_from a [] = true
rise_from a (b ∷ more) = nat_lt a.count b.count

abbrev pub rise_test : List Switch → Bool
rise_test [] = true
rise_test (a ∷ more) = rise_from a more && rise_test more

abbrev pub running_test : ℕ → Option TaskRow → ℕ → Bool
running_test slot None running = (running == no_row) && (slot == 255)
running_test slot (Some r) running = not (running == no_row) && (r.slot == slot)

abbrev pub counts_test : Sight → Bool
counts_test k =
    rise_test k.counts.switches
    && (nat_le k.counts.next_switch (length k.counts.switches)
    && (list_all (λ (w : Switch). nat_lt w.count k.counts.made) (take k.counts.next_switch k.counts.switches)
    && ((k.counts.made == total (λ (r : JobRow). r.made) k.jobs)
    && (nat_le k.counts.turn k.counts.made && running_test k.regs.slot (slice_get k.tasks k.counts.running) k.counts.running))))

abbrev pub tables_test : Sight → Bool
tables_test k =
    nat_le (length k.jobs) MOST_JOBS
    && (rows_apart k.tasks && (nat_le k.regs.peak SLOTS && (list_all (row_test k) k.tasks && (jobs_pass (job_test k.tasks) 1 k.jobs && counts_test k))))
