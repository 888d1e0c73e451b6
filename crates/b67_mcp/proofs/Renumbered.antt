-- The machine represents the session of which an array has other numbers, and for the same session with pages moved.
use Rattle.std.proofs.Common.{◌≡◌, ℕ, ◌<◌, ◌^◌, List, [], ◌∷◌, map, flat_map, length, Option, Some, None, refl, sym, ◌∙◌, ap, arith, subst, ⊎_elim}
use Rattle.b67_area.specs.declared.Areas.{Areas}
use Rattle.b67_backing.specs.Shelf.{Table}
use Rattle.b67_ctl.specs.declared.registers.Regs.{Regs}
use Rattle.b67_lemmas.specs.Lists.{Has}
use Rattle.b67_lemmas.proofs.Keyed.{change_same}
use Rattle.b67_lemmas.proofs.Members.{keyed_falls}
use Rattle.b67_model.specs.Keyed.{keyed, change_keyed}
use Rattle.b67_model.specs.Common.{Frame, Array, Condition, Task, Job, SessionJob, with_array, number_of, Session}
use Rattle.b67_stack.specs.declared.Cpu.{Cpu}
use Rattle.b67_stack.specs.Common.{PagedObject, Slot, MachineView, NoOriginalAboveTop, Storage, Represents, LowWordsStayed, TakesPlace}
use Rattle.b67_layout.specs.Common.{IsInOrderButCounts, Placement, array_object, objects_of, machine_view, IsRunning, with_job}
use Rattle.b67_layout.proofs.Common.{running_in_order, member-same, AllAlike, RepresentsSession-over}
use Rattle.b67_layout.specs.Machine.{PagingKeeps}
use Rattle.b67_overlay.specs.Spans.{MachineCanPage}
use Rattle.b67_mcp.proofs.PassedSpans.{copies_of}
use Rattle.b67_layout.proofs.Devices.{says_of}
use Rattle.b67_layout.proofs.Untold.{untold}
use Rattle.b67_layout_step.proofs.Arrays.{Renumbers, slots_same}
use Rattle.b67_layout_step.proofs.Objects.{old_object, replaces}
use Rattle.b67_task.specs.declared.tables.Machine.{Machine}
use Rattle.b67_task.specs.Tables.{task_row, job_row, counts_of, TasksShow, MachineRepresents}
use Rattle.b67_mcp.proofs.Moved.{same_jobs}
use Rattle.b67_mcp.proofs.Passed.{WaitsThere, jobs_kept, tables_after}

-- what its view says of a machine
pub seen : (x : Storage) (told : Option (List (List ℕ))) (k : Machine) (plan : Placement) (s : Session) → IsInOrderButCounts s → MachineRepresents x told k plan s → MachineCanPage x k.cpu k.areas k.sectors told (machine_view plan s.jobs)
seen x told k plan s o h = record { stands = h.session.holds.memory; low = h.storage.low; shelf = h.storage.shelf; device = says_of x.device told h.storage.device; copies = copies_of x k.cpu plan s o h.session }

-- a job with the same tasks
alike_changed : (n : ℕ) (m : SessionJob) (job : Job) (ms : List SessionJob) → keyed number_of n ms ≡ Some m → job.tasks ≡ m.progress.job.tasks
    → AllAlike ms (change_keyed number_of n (λ (y : SessionJob). record y { progress = record m.progress { job = job } }) ms)
alike_changed n m job [] e same = tt
alike_changed n m job (y ∷ ms) e same = grind (arith, same_jobs, alike_changed n m job ms)

waits_same : (d : Condition) (fs : List Frame) → WaitsThere d fs fs
waits_same d fs = grind arith

module _ (x : Storage) (told : Option (List (List ℕ))) (k : Machine) (plan : Placement) (s : Session) (h : MachineRepresents x told k plan s) (m : SessionJob) (t : Task) (o : IsInOrderButCounts s) (runs : IsRunning plan s.jobs m t)
    (a : Array) (among : Has m.progress.job.arrays a) (f : Array → Array) (keeps : Renumbers f) where
  abbrev objects' : List PagedObject
  objects' = flat_map (objects_of plan) (with_job s m (with_array m.progress.job a.identity f)).jobs

  pub found : keyed (λ (z : Array). z.identity) a.identity m.progress.job.arrays ≡ Some a
  found = keyed_falls (λ (z : Array). z.identity) m.progress.job.next_array m.progress.job.arrays a (running_in_order plan s m t o runs).0.tasks.names among

  view_is : machine_view plan (with_job s m (with_array m.progress.job a.identity f)).jobs ≡ record (machine_view plan s.jobs) { objects = flat_map (objects_of plan) (with_job s m (with_array m.progress.job a.identity f)).jobs }
  view_is =
      let F : (ℕ → Slot) → MachineView = λ slots. record { stacks = plan.stacks; size = plan.size; peak = plan.peak; slots = slots; objects = objects' } in
      ap F (slots_same plan s.jobs m a.identity f keeps runs.member)

  -- its object takes the old one's place
  pub takes : 0 < length (f a).numbers → length (f a).numbers < 2 ^ 16
      → TakesPlace (machine_view plan s.jobs).objects (flat_map (objects_of plan) (with_job s m (with_array m.progress.job a.identity f)).jobs) (array_object plan m.constants.number a) (array_object plan m.constants.number (f a))
  takes some few = replaces x k.cpu.core k.cpu.regs plan s o h.session.holds.fits h.session.holds.memory m runs.member a found f keeps some few

  settled : 0 < length (f a).numbers → length (f a).numbers < 2 ^ 16 → NoOriginalAboveTop (machine_view plan (with_job s m (with_array m.progress.job a.identity f)).jobs)
  settled some few =
      let P : MachineView → Type 0 = λ p. NoOriginalAboveTop p in
      let old = old_object x k.cpu.core k.cpu.regs plan s o h.session.holds.fits h.session.holds.memory m runs.member a found f keeps in
      let object : PagedObject = array_object plan m.constants.number a in
      let place = takes some few in
      let now : NoOriginalAboveTop (record (machine_view plan s.jobs) { objects = objects' }) = λ u int q small from up. ⊎_elim
      (λ (e : u ≡ array_object plan m.constants.number (f a)).
      (let home : u.home ≡ object.home = ap (λ (z : PagedObject). z.home) e ∙ place.home in
      let was = h.session.holds.settled object old q small (omega (arith, from, home)) (omega (arith, up, home)) in
      omega (arith, was, home)))
      (λ r. h.session.holds.settled u r.0 q small from up)
      (place.each u int) in
      subst P (sym view_is) now

  tables : TasksShow plan (with_job s m (with_array m.progress.job a.identity f)) k.tasks
  tables =
      tables_after plan s m t t (with_array m.progress.job a.identity f) o runs
      (record { there = runs.task; number = refl; critical = refl; parents = refl; tasks = sym (change_same (λ (u : Task). u.number) t.number (λ (u : Task). t) m.progress.job.tasks t runs.task refl); seen = λ c q outer id d. refl })
      refl (waits_same t.condition t.frames)
      (map task_row k.tasks.rows.items) (map job_row k.tasks.jobs) (map job_row k.tasks.jobs) (counts_of k.tasks) h.tables
      (jobs_kept plan m.constants.number m (record m.progress { job = with_array m.progress.job a.identity f }) s.jobs (map job_row k.tasks.jobs) runs.member
      (λ row w. record { dictionary = w.dictionary; segments = w.segments; rows = w.rows; limit = w.limit; made = w.made; next_task = w.next_task; numbers = w.numbers }) h.tables.jobs)

  module _ (y : Storage) (now : Option (List (List ℕ))) (cpu : Cpu) (areas : Areas) (table : Table) (kept : PagingKeeps k.cpu cpu k.areas areas k.sectors table) (stayed : LowWordsStayed (machine_view plan s.jobs) k.cpu.core cpu.core) where
    -- the machine over what its storage says
    pub stands_renumbered : 0 < length (f a).numbers → length (f a).numbers < 2 ^ 16
        → MachineCanPage y cpu areas table now (record (machine_view plan s.jobs) { objects = flat_map (objects_of plan) (with_job s m (with_array m.progress.job a.identity f)).jobs })
        → MachineRepresents y y.device (record { cpu = cpu; areas = areas; sectors = table; tasks = k.tasks }) plan (with_job s m (with_array m.progress.job a.identity f))
    stands_renumbered some few view =
        let P : Regs → MachineView → Type 0 = λ r p. Represents y cpu.core r p in
        let w : MachineView = machine_view plan (with_job s m (with_array m.progress.job a.identity f)).jobs in
        let regs : cpu.regs ≡ k.cpu.regs = ap (λ (c : Cpu). c.regs) kept.rest in
        record {
          session = RepresentsSession-over [] [] x y k.cpu cpu plan s (with_job s m (with_array m.progress.job a.identity f)) h.session
              (alike_changed m.constants.number m (with_array m.progress.job a.identity f) s.jobs runs.member refl) refl regs (ap (λ (c : Cpu). c.display) kept.rest) (ap (λ (c : Cpu). c.critical) kept.rest)
              (subst (λ (r : Regs). P r w) regs (subst (P cpu.regs) (sym view_is) view.stands)) (settled some few) stayed;
          storage = record { low = view.low; size = ap (λ (z : Areas). z.size) kept.areas ∙ h.storage.size ∙ sym kept.len; shelf = view.shelf; device = refl };
          tables = tables;
        }

-- the same session, where pages alone have moved
pub stands_moved : (x : Storage) (told : Option (List (List ℕ))) (k : Machine) (plan : Placement) (s : Session) → MachineRepresents x told k plan s
    → (y : Storage) (now : Option (List (List ℕ))) (cpu : Cpu) (areas : Areas) (table : Table) → PagingKeeps k.cpu cpu k.areas areas k.sectors table → LowWordsStayed (machine_view plan s.jobs) k.cpu.core cpu.core
    → MachineCanPage y cpu areas table now (machine_view plan s.jobs) → MachineRepresents y y.device (record { cpu = cpu; areas = areas; sectors = table; tasks = k.tasks }) plan s
stands_moved x told k plan s h y now cpu areas table kept stayed view =
    let P : Regs → Type 0 = λ r. Represents y cpu.core r (machine_view plan s.jobs) in
    let regs : cpu.regs ≡ k.cpu.regs = ap (λ (c : Cpu). c.regs) kept.rest in
    record {
      session = RepresentsSession-over [] [] x y k.cpu cpu plan s s h.session (same_jobs s.jobs) refl regs (ap (λ (c : Cpu). c.display) kept.rest) (ap (λ (c : Cpu). c.critical) kept.rest)
          (subst P regs view.stands) h.session.holds.settled stayed;
      storage = record { low = view.low; size = ap (λ (a : Areas). a.size) kept.areas ∙ h.storage.size ∙ sym kept.len; shelf = view.shelf; device = refl };
      tables = h.tables;
    }

-- the same machine over a storage that says nothing of the device
pub stands_silent : (x : Storage) (told : Option (List (List ℕ))) (k : Machine) (plan : Placement) (s : Session) → MachineRepresents x told k plan s → MachineRepresents (untold x) None k plan s
stands_silent x told k plan s h = grind arith

-- the task runs in that session too
pub still_runs : (plan : Placement) (s : Session) (m : SessionJob) (t : Task) (job : Job) → IsRunning plan s.jobs m t → job.tasks ≡ m.progress.job.tasks → IsRunning plan (with_job s m job).jobs (record m { progress = record m.progress { job = job } }) t
still_runs plan s m t job runs same = record {
  member = member-same s.jobs m.constants.number (record m.progress { job = job }) m runs.member;
  task = ap (keyed (λ (u : Task). u.number) t.number) same ∙ runs.task;
  slot = runs.slot;
}
