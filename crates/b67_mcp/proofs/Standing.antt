-- The whole machine once a call is cut or answered: it represents the session without the call.
use Rattle.std.proofs.Common.{◌≡◌, ℕ, List, [], ◌∷◌, map, length, Option, refl, sym, ◌∙◌, subst, arith}
use Rattle.b67_word.specs.Tagged.{Tagged}
use Rattle.b67_word.specs.declared.couples.Place.{Place}
use Rattle.b67_model.specs.Common.{Word, Task, SessionJob, top, below_top, answered, Session}
use Rattle.b67_stack.specs.declared.Cpu.{Cpu}
use Rattle.b67_stack.specs.Represents.{Storage}
use Rattle.b67_layout.specs.Common.{IsInOrderButCounts, Placement, IsRunning, RepresentsSession, RepresentsStorage, here, with_job}
use Rattle.b67_task.specs.declared.tables.Machine.{Machine}
use Rattle.b67_task.specs.declared.tables.Tasks.{Tasks}
use Rattle.b67_task.specs.Tables.{task_row, job_row, counts_of, TasksShow, MachineRepresents}
use Rattle.b67_mcp.specs.Calls.{MayCut, job_cut}
use Rattle.b67_mcp.specs.Answered.{job_answered}
use Rattle.b67_mcp.proofs.CallTables.{jobs_kept, tables_after}
use Rattle.b67_mcp.proofs.Frames.{replaces_cut, waits_cut, replaces_answered, waits_answered}

-- core has the size that the spans of its directory have
pub same_size : (x y : Storage) (old new : Cpu) (plan there : Placement) (s z : Session) → RepresentsSession x old plan s → RepresentsSession y new there z → y.low ≡ x.low → y.spans ≡ x.spans → length new.core ≡ length old.core
same_size x y old new plan there s z a b low spans = grind arith

-- the storage represents another core of the same size
pub storage_same : (x : Storage) (told : Option (List (List ℕ))) (k : Machine) (core : List Tagged) → core ≡ k.cpu.core → RepresentsStorage k.areas k.sectors told k.cpu.core x → RepresentsStorage k.areas k.sectors told core x
storage_same x told k core e h = subst (λ (c : List Tagged). RepresentsStorage k.areas k.sectors told c x) (sym e) h

module _ (plan : Placement) (s : Session) (m : SessionJob) (t : Task) (o : IsInOrderButCounts s) (runs : IsRunning plan s.jobs m t) (may : MayCut m t) (q : Place) where
  pub tables_cut : (tasks : Tasks) → TasksShow plan s tasks → TasksShow plan (with_job s m (job_cut m t q)) tasks
  tables_cut tasks h =
      tables_after plan s m t (answered (here m t q) []) (job_cut m t q) o runs (replaces_cut plan s m t o runs may q (job_cut m t q) refl) refl (waits_cut plan s m t o runs may)
      (map task_row tasks.rows.items) (map job_row tasks.jobs) (map job_row tasks.jobs) (counts_of tasks) h
      (jobs_kept plan m.constants.number m (record m.progress { job = job_cut m t q }) s.jobs (map job_row tasks.jobs) runs.member
      (λ row w. record { dictionary = w.dictionary; segments = w.segments; rows = w.rows; limit = w.limit; made = w.made; next_task = w.next_task; numbers = w.numbers }) h.jobs)

  -- an answer that reads no number
  pub tables_answered : (word : Word) (tasks : Tasks) → TasksShow plan s tasks → TasksShow plan (with_job s m (job_answered m t word q m.progress.job.numbers)) tasks
  tables_answered word tasks h =
      let job = job_answered m t word q m.progress.job.numbers in
      tables_after plan s m t (answered (here m t q) (word ∷ [])) job o runs (replaces_answered plan s m t o runs may q word job refl) refl (waits_answered plan s m t o runs may (word ∷ (top (below_top t.frames)).cells))
      (map task_row tasks.rows.items) (map job_row tasks.jobs) (map job_row tasks.jobs) (counts_of tasks) h
      (jobs_kept plan m.constants.number m (record m.progress { job = job }) s.jobs (map job_row tasks.jobs) runs.member
      (λ row w. record { dictionary = w.dictionary; segments = w.segments; rows = w.rows; limit = w.limit; made = w.made; next_task = w.next_task; numbers = w.numbers }) h.jobs)

  module _ (x : Storage) (told : Option (List (List ℕ))) (k : Machine) (h : MachineRepresents x told k plan s) (cpu : Cpu) where
    pub machine_cut : cpu.core ≡ k.cpu.core → RepresentsSession x cpu plan (with_job s m (job_cut m t q)) → MachineRepresents x told (record k { cpu = cpu }) plan (with_job s m (job_cut m t q))
    machine_cut core session = record { session = session; storage = storage_same x told k cpu.core core h.storage; tables = tables_cut k.tasks h.tables }

    pub machine_answered : (word : Word) → RepresentsSession x cpu plan (with_job s m (job_answered m t word q m.progress.job.numbers)) → MachineRepresents x told (record k { cpu = cpu }) plan (with_job s m (job_answered m t word q m.progress.job.numbers))
    machine_answered word session =
        let size = same_size x x k.cpu cpu plan plan s (with_job s m (job_answered m t word q m.progress.job.numbers)) h.session session refl refl in
        record {
          session = session;
          storage = record { low = h.storage.low; size = h.storage.size ∙ sym size; shelf = h.storage.shelf; device = h.storage.device };
          tables = tables_answered word k.tasks h.tables;
        }
