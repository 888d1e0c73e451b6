-- The whole machine without a call, for the session without it.
use Rattle.std.proofs.Common.{◌≡◌, ℕ, List, [], map, Option, refl, sym, subst}
use Rattle.b67_word.specs.Tagged.{Tagged}
use Rattle.b67_word.specs.declared.couples.Place.{Place}
use Rattle.b67_model.specs.Common.{Task, SessionJob, answered, Session}
use Rattle.b67_layout.specs.Common.{IsInOrderButCounts, Placement, IsRunning, RepresentsStorage, here, with_job}
use Rattle.b67_stack.specs.Represents.{Storage}
use Rattle.b67_mcp.specs.Printed.{MayCut, job_cut}
use Rattle.b67_task.specs.declared.tables.Machine.{Machine}
use Rattle.b67_task.specs.declared.tables.Tasks.{Tasks}
use Rattle.b67_task.specs.Tables.{task_row, job_row, counts_of, TasksShow}
use Rattle.b67_mcp.proofs.Passed.{jobs_kept, tables_after, replaces_cut, waits_cut}

module _ (plan : Placement) (s : Session) (m : SessionJob) (t : Task) (o : IsInOrderButCounts s) (runs : IsRunning plan s.jobs m t) (may : MayCut m t) (q : Place) where
  pub tables_cut : (tasks : Tasks) → TasksShow plan s tasks → TasksShow plan (with_job s m (job_cut m t q)) tasks
  tables_cut tasks h =
      tables_after plan s m t (answered (here m t q) []) (job_cut m t q) o runs (replaces_cut plan s m t o runs may q (job_cut m t q) refl) refl (waits_cut plan s m t o runs may)
      (map task_row tasks.rows.items) (map job_row tasks.jobs) (map job_row tasks.jobs) (counts_of tasks) h
      (jobs_kept plan m.constants.number m (record m.progress { job = job_cut m t q }) s.jobs (map job_row tasks.jobs) runs.member
      (λ row w. record { dictionary = w.dictionary; segments = w.segments; rows = w.rows; limit = w.limit; made = w.made; next_task = w.next_task; numbers = w.numbers }) h.jobs)

-- the storage represents another core of the same size
pub storage_same : (x : Storage) (told : Option (List (List ℕ))) (k : Machine) (core : List Tagged) → core ≡ k.cpu.core → RepresentsStorage k.areas k.sectors told k.cpu.core x → RepresentsStorage k.areas k.sectors told core x
storage_same x told k core e h = subst (λ (c : List Tagged). RepresentsStorage k.areas k.sectors told c x) (sym e) h
