-- The tables where ARRAYDEC has made an array.
use Rattle.std.proofs.Common.{ℕ, [], ◌∷◌, map, refl}
use Rattle.b67_word.specs.declared.couples.Place.{Place}
use Rattle.b67_model.specs.Common.{Word, Original, Task, SessionJob, top, below_top, answered, Session}
use Rattle.b67_layout.specs.Common.{IsInOrderButCounts, Placement, TablesShow, IsRunning, here, with_job}
use Rattle.b67_mcp.specs.Printed.{MayCut}
use Rattle.b67_mcp.specs.Declaring.{job_declared, with_home}
use Rattle.b67_mcp.proofs.OriginalTables.{tables-there}
use Rattle.b67_task.specs.declared.tables.Tasks.{Tasks}
use Rattle.b67_task.specs.Tables.{task_row, job_row, counts_of, TasksShow}
use Rattle.b67_mcp.proofs.Passed.{jobs_kept, tables_after, replaces_answered, waits_answered}

module _ (plan : Placement) (s : Session) (m : SessionJob) (t : Task) (o : IsInOrderButCounts s) (runs : IsRunning plan s.jobs m t) (may : MayCut m t) (q : Place) (length at : ℕ) where
  there : Placement
  there = with_home plan m.constants.number m.progress.job.next_array at

  pub tables_declared : (tasks : Tasks) → TasksShow plan s tasks → TasksShow (with_home plan m.constants.number m.progress.job.next_array at) (with_job s m (job_declared m t length q)) tasks
  tables_declared tasks h =
      let p = with_home plan m.constants.number m.progress.job.next_array at in
      let word : Word = Original m.progress.job.next_array in
      let job = job_declared m t length q in
      let runs_there : IsRunning p s.jobs m t = record { member = runs.member; task = runs.task; slot = runs.slot } in
      let before : TablesShow p s (map task_row tasks.rows.items) (map job_row tasks.jobs) (counts_of tasks) = tables-there plan m.constants.number m.progress.job.next_array at s (map task_row tasks.rows.items) (map job_row tasks.jobs) (counts_of tasks) h in
      tables_after p s m t (answered (here m t q) (word ∷ [])) job o runs_there (replaces_answered plan s m t o runs may q word job refl) refl (waits_answered plan s m t o runs may (word ∷ (top (below_top t.frames)).cells))
      (map task_row tasks.rows.items) (map job_row tasks.jobs) (map job_row tasks.jobs) (counts_of tasks) before
      (jobs_kept p m.constants.number m (record m.progress { job = job }) s.jobs (map job_row tasks.jobs) runs.member
      (λ row w. record { dictionary = w.dictionary; segments = w.segments; rows = w.rows; limit = w.limit; made = w.made; next_task = w.next_task; numbers = w.numbers }) before.jobs)
