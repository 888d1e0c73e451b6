-- The tables of tasks and jobs don't show where an array's original stands.
use Rattle.std.proofs.Common.{◌≡◌, ℕ, List, [], ◌∷◌, Option, ◌∙◌, arith}
use Rattle.std.specs.List.{slice_get}
use Rattle.b67_model.specs.Common.{Task, SessionJob, Session}
use Rattle.b67_layout.specs.Common.{Placement, TaskRow, JobRow, JobCounts, TaskShows, JobShows, JobsShow, RunningRow, TablesShow}
use Rattle.b67_mcp.specs.Declaring.{with_home}

module _ (plan : Placement) (j n at : ℕ) where
  abbrev there : Placement
  there = with_home plan j n at

  task-there : (m : SessionJob) (t : Task) (row : TaskRow) → TaskShows plan m t row → TaskShows there m t row
  task-there m t row h = grind arith

  pub job-there : (m : SessionJob) (row : JobRow) → JobShows plan m row → JobShows (with_home plan j n at) m row
  job-there m row h = record { dictionary = h.dictionary; segments = h.segments; rows = h.rows; limit = h.limit; made = h.made; next_task = h.next_task; numbers = h.numbers }

  jobs-there : (jobs : List SessionJob) (rows : List JobRow) → JobsShow plan jobs rows → JobsShow there jobs rows
  jobs-there [] [] h = h
  jobs-there (m ∷ ms) (row ∷ rows) h = (job-there m row h.0, jobs-there ms rows h.1)
  jobs-there [] (row ∷ rows) h = absurd h
  jobs-there (m ∷ ms) [] h = absurd h

  running-there : (o : Option TaskRow) (k : ℕ) → RunningRow plan o k → RunningRow there o k
  running-there o k h = grind arith

  pub tables-there : (s : Session) (rows : List TaskRow) (job_rows : List JobRow) (c : JobCounts) → TablesShow plan s rows job_rows c → TablesShow (with_home plan j n at) s rows job_rows c
  tables-there s rows job_rows c h = record {
    tasks = λ row i. let (m, t, a, b, e) = h.tasks row i in (m, t, a, b, task-there m t row e);
    each = λ m t a b. let (row, i, e) = h.each m t a b in (row, i, task-there m t row e);
    once = h.once;
    jobs = jobs-there s.jobs job_rows h.jobs;
    counts =
        let o = h.counts in
        record { quantum = o.quantum; made = o.made; turn = o.turn; last_job = o.last_job; last_number = o.last_number; switches = o.switches; next = o.next; past = o.past; running = running-there (slice_get rows c.running) c.running o.running };
  }
