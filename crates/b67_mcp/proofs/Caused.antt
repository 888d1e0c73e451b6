-- CAUSE over the whole machine: once the number is stored and its waiters' rows are ready, it represents the session with both,
-- and then for that without the call.
use Rattle.std.proofs.Common.{◌≡◌, ◌≢◌, ℕ, ◌+◌, ◌-◌, ◌<◌, List, [], ◌∷◌, ◌++◌, map, length, Option, None, Ok, Err, refl, sym, ◌∙◌, ap, arith, true, false, inl, inr, subst, slice_set}
use Rattle.std.specs.Prelude.{option_map}
use Rattle.std.specs.List.{AllByRecursion}
use Rattle.std.proofs.Math.ListN.{length-set}
use Rattle.std.proofs.lemmas.List.{length-map}
use Rattle.b67_word.specs.Tagged.{word}
use Rattle.b67_word.specs.declared.couples.Place.{Place}
use Rattle.b67_word.specs.declared.faults.Fault.TheVariants.{CriticalBlock}
use Rattle.b67_lemmas.specs.Lists.{Has, Falls}
use Rattle.b67_lemmas.proofs.Keyed.{change_map}
use Rattle.b67_lemmas.proofs.Members.{falls_low, has_map, length_change}
use Rattle.b67_model.specs.Common.{AtCell, Word, Operand, Frame, Marked, Task, Job, SessionJob, top, below_top, with_task, with_cell, Goes, is_critical, is_original, answered, woken_at, wakes, causes, Session, IsSegment, Known, known_of, known_numbers, outer_of, IsEntered, NamesEntered, TasksInOrder}
use Rattle.b67_stack.specs.declared.Cpu.{Cpu}
use Rattle.b67_stack.specs.Represents.{Storage}
use Rattle.b67_layout.specs.Common.{IsInOrderButCounts, Placement, IsRunning, RepresentsSession, here, with_job}
use Rattle.b67_layout.proofs.Common.{running_in_order, member-same, with_job-twice}
use Rattle.b67_layout_step.proofs.Frames.{put_frames, put_job, with_cell_is}
use Rattle.b67_layout_step.proofs.Mapped.{put_task, keyed_put, critical_put}
use Rattle.b67_layout_step.proofs.Stored.{RepresentsSession-store, still_runs}
use Rattle.b67_refer.specs.Cells.{IsCellAt}
use Rattle.b67_refer.proofs.Scenes as Scenes
use Rattle.b67_task.specs.declared.tables.Machine.{Machine}
use Rattle.b67_task.specs.declared.tables.Tasks.{Tasks}
use Rattle.b67_task.specs.Tables.{MachineRepresents}
use Rattle.b67_mcp.specs.Calls.{MayCut, job_cut}
use Rattle.b67_mcp.proofs.Standing.{machine_cut}
use Rattle.b67_mcp.specs.declared.cell_given.CellFound.{CellFound}
use Rattle.b67_mcp.specs.Arguments.{IsFoundCell}
use Rattle.b67_mcp.specs.Woken.{woken_row}
use Rattle.b67_mcp.proofs.CausedTables.{tables_caused}
use Rattle.b67_mcp.proofs.Orders.{order_with, caused_order}
use Rattle.b67_mcp.proofs.Waking.{wake_task, wake_job, keyed_wake, critical_wake, RepresentsSession-wake}

-- the cell that is caused doesn't lie in the call, which is marked
not_top : (fs : List Frame) (outer : List Known) (bound f : ℕ) → fs ≢ [] → (top fs).standing ≡ Marked → Falls bound (known_numbers (map known_of fs ++ outer)) → NamesEntered (map known_of fs ++ outer) f → (top fs).identity ≢ f
not_top [] outer bound f some marked falls names e = some refl
not_top (g ∷ fs) outer bound f some marked falls names e = by names.among
  where
    by : Has (known_of g ∷ (map known_of fs ++ outer)) (f, names.standing) → ⊥
    by (inl is) =
        let same : g.standing ≡ names.standing = ap (λ (k : Known). k.1) is in
        subst IsEntered (sym same ∙ marked) names.entered
    by (inr k) = let low : f < g.identity = falls_low g.identity (known_numbers (map known_of fs ++ outer)) f falls.1 (has_map (λ (z : Known). z.0) (map known_of fs ++ outer) (f, names.standing) k) in omega (arith, low, e)

top_put : (id i : ℕ) (w : Word) (fs : List Frame) → (top fs).identity ≢ id → top (put_frames id i w fs) ≡ top fs
top_put id i w fs ne = grind arith

below_put : (id i : ℕ) (w : Word) (fs : List Frame) → (top fs).identity ≢ id → below_top (put_frames id i w fs) ≡ put_frames id i w (below_top fs)
below_put id i w fs ne = grind arith

module _ (x : Storage) (told : Option (List (List ℕ))) (k : Machine) (plan : Placement) (s : Session) (m : SessionJob) (t : Task) (o : IsInOrderButCounts s) (h : MachineRepresents x told k plan s) (runs : IsRunning plan s.jobs m t) (q : Place)
    (found : CellFound) (f offset bits : ℕ) (e : IsFoundCell plan m t k.cpu.core q found f offset bits) where
  abbrev job1 : Job
  job1 = put_job m.progress.job f (offset - 2) (Operand 1)

  abbrev m1 : SessionJob
  m1 = record m { progress = record m.progress { job = put_job m.progress.job f (offset - 2) (Operand 1) } }

  abbrev job2 : Job
  job2 = wake_job (woken_at f offset) (put_job m.progress.job f (offset - 2) (Operand 1))

  abbrev pub m2 : SessionJob
  m2 = record m { progress = record m.progress { job = wake_job (woken_at f offset) (put_job m.progress.job f (offset - 2) (Operand 1)) } }

  abbrev pub t2 : Task
  t2 = wake_task (woken_at f offset) (put_task f (offset - 2) (Operand 1) t)

  abbrev pub s2 : Session
  s2 = with_job s m (wake_job (woken_at f offset) (put_job m.progress.job f (offset - 2) (Operand 1)))

  abbrev pub stored : Cpu
  stored = record k.cpu { core = slice_set k.cpu.core found.at (word 0 1) }

  cell : IsCellAt (Scenes.scene [] x k.cpu.core k.cpu.regs k.cpu.critical plan s m t o h.session.holds runs) q found.at f offset (Operand bits)
  cell = grind arith

  stands_stored : RepresentsSession x stored plan (with_job s m job1)
  stands_stored = RepresentsSession-store x k.cpu plan s m t o h.session runs q found.at f offset bits 1 cell

  stands2 : RepresentsSession x stored plan s2
  stands2 =
      subst (λ (z : Session). RepresentsSession x stored plan z) (with_job-twice s m job1 job2)
      (RepresentsSession-wake x stored plan (with_job s m job1) m1 (put_task f (offset - 2) (Operand 1) t) stands_stored (still_runs x k.cpu plan s m t o h.session runs q found.at f offset bits 1 cell) (woken_at f offset))

  pub runs2 : IsRunning plan s2.jobs m2 t2
  runs2 = record {
    member = member-same s.jobs m.constants.number (record m.progress { job = job2 }) m runs.member;
    task = keyed_wake (woken_at f offset) t.number (put_job m.progress.job f (offset - 2) (Operand 1)).tasks
        ∙ ap (option_map (wake_task (woken_at f offset))) (keyed_put plan m.constants.number m.progress.job f (offset - 2) (Operand 1) t.number m.progress.job.tasks ∙ ap (option_map (put_task f (offset - 2) (Operand 1))) runs.task);
    slot = runs.slot;
  }

  order : TasksInOrder (IsSegment m.constants) m.constants m.progress.job
  order = (running_in_order plan s m t o runs).0.tasks

  count2 : length job2.tasks ≡ length m.progress.job.tasks
  count2 = length-map (put_job m.progress.job f (offset - 2) (Operand 1)).tasks (wake_task (woken_at f offset)) ∙ length-map m.progress.job.tasks (put_task f (offset - 2) (Operand 1))

  pub order2 : IsInOrderButCounts s2
  order2 =
      let P : Job → Type 0 = λ z. TasksInOrder (IsSegment m.constants) m.constants (wake_job (woken_at f offset) z) in
      order_with s m job2 runs.member o (subst P (with_cell_is m.progress.job f offset (Operand 1)) (caused_order m t q order f offset bits e.own e.cell_is)) refl count2

  -- the machine with the number stored and the rows of its waiters ready
  pub stands_caused : (tasks : Tasks) → tasks ≡ record k.tasks { rows = tasks.rows } → tasks.rows.items ≡ map (woken_row m.constants.number found.mark found.offset) k.tasks.rows.items
      → MachineRepresents x told (record k { cpu = stored; tasks = tasks }) plan s2
  stands_caused tasks rest items = record {
    session = stands2;
    storage = record { low = h.storage.low; size = h.storage.size ∙ sym (length-set k.cpu.core found.at (word 0 1)); shelf = h.storage.shelf; device = h.storage.device };
    tables = tables_caused x k.cpu plan s m t o h.session runs f offset found.mark e.names e.own e.mark (Operand 1) order2 k.tasks tasks rest
        (items ∙ ap (λ (n : ℕ). map (woken_row m.constants.number found.mark n) k.tasks.rows.items) e.offset_is) h.tables;
  }

  module _ (may : MayCut m t) where
    apart : (top t.frames).identity ≢ f
    apart =
        let r = (running_in_order plan s m t o runs).1 in
        not_top t.frames (outer_of m.progress.job t) m.progress.job.next_frame f r.some may.marked r.falls e.names

    same_top : top (put_frames f (offset - 2) (Operand 1) t.frames) ≡ top t.frames
    same_top = top_put f (offset - 2) (Operand 1) t.frames apart

    pub may2 : MayCut m2 t2
    may2 = record {
      marked = ap (λ (g : Frame). g.standing) same_top ∙ may.marked;
      plain = subst (λ (g : Frame). AllByRecursion (λ (w : Word). is_original w ≡ false) g.cells) (sym same_top) may.plain;
      free = critical_wake plan m.constants.number job1 (woken_at f offset) (top (put_frames f (offset - 2) (Operand 1) t.frames)).identity
          ∙ critical_put plan m.constants.number m.progress.job f (offset - 2) (Operand 1) (top (put_frames f (offset - 2) (Operand 1) t.frames)).identity
          ∙ ap (λ (g : Frame). is_critical m.progress.job g.identity) same_top ∙ may.free;
    }

    -- what the row makes
    abbrev pub made : Job
    made = wakes f offset (with_cell (with_task m.progress.job (answered (here m t q) [])) f offset (Operand 1))

    pub made_is : job_cut m2 t2 q ≡ made
    made_is =
        let T : Task = answered (here m t q) [] in
        let TT : Task = answered (here m2 t2 q) [] in
        let W : Task → Task = wake_task (woken_at f offset) in
        let U : Task → Task = put_task f (offset - 2) (Operand 1) in
        let J : List Task → Job = λ ts. record m.progress.job { tasks = ts } in
        let same : W (U T) ≡ TT = ap (λ (fs : List Frame). let z : Task = record t { frames = fs; place = q; condition = woken_at f offset t.condition } in z) (sym (below_put f (offset - 2) (Operand 1) t.frames apart)) in
        ap J (change_map (λ (v : Task). v.number) W t.number (U T) TT (map U m.progress.job.tasks) (λ v. refl) same
        ∙ ap (map W) (change_map (λ (v : Task). v.number) U t.number T (U T) m.progress.job.tasks (λ v. refl) refl))
        ∙ ap (wake_job (woken_at f offset)) (sym (with_cell_is (with_task m.progress.job T) f offset (Operand 1)))

    pub row_made : causes (here m t q) (AtCell f offset bits) ≡ Ok (Goes made [] None)
    row_made = let free = may.free in rw free refl

    pub made_count : length made.tasks ≡ length m.progress.job.tasks
    made_count = grind (arith, made_is, length_change, count2)

    -- and without the call
    pub stands_made : (tasks : Tasks) → tasks ≡ record k.tasks { rows = tasks.rows } → tasks.rows.items ≡ map (woken_row m.constants.number found.mark found.offset) k.tasks.rows.items
        → (cpu : Cpu) → cpu.core ≡ stored.core → RepresentsSession x cpu plan (with_job s2 m2 (job_cut m2 t2 q)) → MachineRepresents x told (record k { cpu = cpu; tasks = tasks }) plan (with_job s m made)
    stands_made tasks rest items cpu core session =
        let whole = machine_cut plan s2 m2 t2 order2 runs2 may2 q x told (record k { cpu = stored; tasks = tasks }) (stands_caused tasks rest items) cpu core session in
        grind (arith, made_is, with_job-twice)

pub row_critical : (m : SessionJob) (t : Task) (q : Place) (f offset bits : ℕ) → is_critical m.progress.job (top t.frames).identity ≡ true → causes (here m t q) (AtCell f offset bits) ≡ Err CriticalBlock
row_critical m t q f offset bits c = rw c refl
