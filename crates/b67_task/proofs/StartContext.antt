-- What the code that starts a task finds and makes, by the session that the machine represents.
use Rattle.std.proofs.Common.{◌≡◌, ◌≢◌, ℕ, ◌+◌, ◌-◌, ◌≤◌, List, [], ◌∷◌, ◌++◌, length, Option, Some, refl, sym, ◌∙◌, ap, arith, slice_set}
use Rattle.std.specs.List.{slice_get}
use Rattle.b67_area.specs.declared.Areas.{Areas}
use Rattle.b67_ctl.specs.Layout.{IsPcw, pcw_word}
use Rattle.b67_ctl.specs.declared.programs.Pcw.{Pcw}
use Rattle.b67_lemmas.proofs.Members.{keyed_has}
use Rattle.b67_model.specs.Run as Run
use Rattle.b67_model.specs.Common.{Session, Task, Job, SessionJob}
use Rattle.b67_stack.specs.declared.Cpu.{Cpu}
use Rattle.b67_stack.specs.Common.{activations_below, RunsOn, StackPlace, Activation, mark_place, Storage}
use Rattle.b67_layout.specs.Common.{machine_view, stack_of_task, IsInOrderButCounts, Placement, IsRunning, RepresentsSession, IsReady, peak_with}
use Rattle.b67_refer.specs.Cells.{view}
use Rattle.b67_refer.specs.Ends.{IsProcAt}
use Rattle.b67_refer.specs.RunningContext.{RunningContext}
use Rattle.b67_task.specs.declared.tables.JobRow.{JobRow}
use Rattle.b67_task.specs.declared.tables.Machine.{Machine}
use Rattle.b67_task.specs.declared.tables.TaskRow.{TaskRow}
use Rattle.b67_task.specs.declared.tables.Tasks.{Tasks}
use Rattle.b67_task.specs.Runs.{Keeps}
use Rattle.b67_task.specs.Tables.{state_of, given_of, MachineRepresents}
use Rattle.b67_task.proofs.Keeping.{rows_put, given_put}
use Rattle.b67_task.specs.Born.{with_peak, with_task_at}
use Rattle.b67_task.specs.Joining.{BuildsSome, MayBuild, session_joined}
use Rattle.b67_task.proofs.Building.{on_stack, two_marks}
use Rattle.b67_task.specs.Opening.{HasSlot, HasSomeSlot, SlotOpened}
use Rattle.b67_task.specs.Starts.{StartsSome, IsStarted, HasRowRoom, child, with_child, with_next}
use Rattle.b67_task.proofs.Rows.{job_row_of}
use Rattle.b67_task.proofs.Begins.{may_open, job_row, first_job, row_room, seen, seen_procedure, seen_pcw, may_child, critical_is, started}

-- the number of the next task of the running task's job
pub number_of : (k : Machine) (x : Storage) (told : Option (List (List ℕ))) (plan : Placement) (s : Session) (m : SessionJob) (t : Task) → IsInOrderButCounts s → MachineRepresents x told k plan s → IsRunning plan s.jobs m t
    → (j n : ℕ) → j ≡ m.constants.number → ((r : JobRow) → slice_get k.tasks.jobs (j - 1) ≡ Some r → n ≡ r.next_task) → n ≡ m.progress.job.next_task
number_of k x told plan s m t o h runs j n e next =
    let b = job_row_of k.tasks plan s m o.numbered h.tables (keyed_has Run.number_of m.constants.number s.jobs m runs.member).0 in
    next b.row (ap (λ (i : ℕ). slice_get k.tasks.jobs (i - 1)) e ∙ b.at) ∙ b.next

module _ (k : Machine) (at count : ℕ) (q : StartsSome k at count) where
  abbrev pub new : Task
  new = child q.member q.task count q.f q.segment q.level q.place

  pub has : HasSlot q.storage q.plan q.session (length k.cpu.core) q.slot
  has = may_open q.storage q.told k q.plan q.session q.member q.task q.ordered q.stands q.running at count q.f q.segment q.level q.place q.slot q.may

  pub some_slot : HasSomeSlot k.cpu k.areas
  some_slot = grind (arith, has)

  pub next_row : (j : ℕ) → j ≡ q.member.constants.number → (r : JobRow) × (slice_get k.tasks.jobs (j - 1) ≡ Some r) × (1 ≤ j)
  next_row j e =
      let b = job_row q.storage q.told k q.plan q.session q.member q.task q.ordered q.stands q.running at count q.f q.segment q.level q.place q.slot q.may in
      let low = first_job q.storage q.told k q.plan q.session q.member q.task q.ordered q.stands q.running at count q.f q.segment q.level q.place q.slot q.may in
      (b.row, ap (λ (n : ℕ). slice_get k.tasks.jobs (n - 1)) e ∙ b.at, omega (arith, low, e))

  pub room_for : (row : TaskRow) → row.job ≡ q.member.constants.number → HasRowRoom k.tasks row
  room_for row e =
      let b = job_row q.storage q.told k q.plan q.session q.member q.task q.ordered q.stands q.running at count q.f q.segment q.level q.place q.slot q.may in
      let low = first_job q.storage q.told k q.plan q.session q.member q.task q.ordered q.stands q.running at count q.f q.segment q.level q.place q.slot q.may in
      record {
        few = row_room q.storage q.told k q.plan q.session q.member q.task q.ordered q.stands q.running at count q.f q.segment q.level q.place q.slot q.may;
        from_one = omega (arith, low, e);
        job = b.row;
        at = ap (λ (n : ℕ). slice_get k.tasks.jobs (n - 1)) e ∙ b.at;
        small = omega (arith, b.next, q.may.number);
      }

  module _ (now : Cpu) (areas' : Areas) (op : SlotOpened q.storage q.plan q.session now areas') where
    abbrev pub context : RunningContext now.core now.regs
    context = seen q.storage q.told k q.plan q.session q.member q.task q.ordered q.stands q.running at count q.f q.segment q.level q.place q.slot q.may now areas' op

    pub procedure : IsProcAt context q.task.place at q.f q.segment q.level q.place
    procedure = seen_procedure q.storage q.told k q.plan q.session q.member q.task q.ordered q.stands q.running at count q.f q.segment q.level q.place q.slot q.may now areas' op

    pub program : IsPcw (record { place = q.place; level = q.level; segment = q.segment + 1 }) × (slice_get now.core at ≡ Some (pcw_word (record { place = q.place; level = q.level; segment = q.segment + 1 })))
    program =
        let p = seen_pcw q.storage q.told k q.plan q.session q.member q.task q.ordered q.stands q.running at count q.f q.segment q.level q.place q.slot q.may now areas' op in
        (p.fits, p.there)

    builds_by : (slot job env_stack env_disp level : ℕ) → slot ≡ q.slot → q.member.constants.number ≡ job → view context q.f ≡ record { stack = env_stack; disp = env_disp } → level ≡ q.level
        → MayBuild op.storage now (with_peak q.plan (peak_with q.session 1)) (record q.session { peak = peak_with q.session 1 }) q.member q.task (with_child q.member.progress.job new) new slot job env_stack env_disp level count
    builds_by slot job env_stack env_disp level slot_is job_is spot_is level_is =
        may_child q.storage q.told k q.plan q.session q.member q.task q.ordered q.stands q.running at count q.f q.segment q.level q.place q.slot q.may now areas' op slot job env_stack env_disp level slot_is job_is spot_is level_is

    abbrev pub stack_now : List Activation
    stack_now = stack_of_task (with_peak q.plan (peak_with q.session 1)) q.member.constants.number q.member.progress.job q.plan.running q.task

    pub marked : RunsOn (machine_view (with_peak q.plan (peak_with q.session 1)) q.session.jobs) now.regs.slot stack_now × (activations_below stack_now ≢ [])
    marked =
        let b = builds_by q.slot q.member.constants.number (view context q.f).stack (view context q.f).disp q.level refl refl refl refl in
        let plan = with_peak q.plan (peak_with q.session 1) in
        let s = record q.session { peak = peak_with q.session 1 } in (
          on_stack op.storage now plan s q.member q.task (with_child q.member.progress.job new) new q.slot q.member.constants.number (view context q.f).stack (view context q.f).disp q.level count b,
          two_marks op.storage now plan s q.member q.task (with_child q.member.progress.job new) new q.slot q.member.constants.number (view context q.f).stack (view context q.f).disp q.level count b,
        )

    -- what was read: the running task's row, the next number, the slot, the procedure, its environment, the mark under the call's
    module _ (parent : TaskRow) (parent_is : (parent.job ≡ q.member.constants.number) × (parent.slot ≡ q.plan.running)) (slot : ℕ) (slot_is : slot ≡ q.slot)
        (p : Pcw) (p_is : p ≡ record { place = q.place; level = q.level; segment = q.segment + 1 })
        (env_stack env_disp : ℕ) (stack_is : env_stack ≡ (view context q.f).stack) (disp_is : env_disp ≡ (view context q.f).disp) where
      pub may_build : MayBuild op.storage now (with_peak q.plan (peak_with q.session 1)) (record q.session { peak = peak_with q.session 1 }) q.member q.task (with_child q.member.progress.job new) new slot parent.job env_stack env_disp p.level count
      may_build = builds_by slot parent.job env_stack env_disp p.level slot_is (sym parent_is.0)
          (let P : ℕ → ℕ → StackPlace = λ a b. record { stack = a; disp = b } in ap (λ (n : ℕ). P n (view context q.f).disp) (sym stack_is) ∙ ap (P env_stack) (sym disp_is))
          (ap (λ (z : Pcw). z.level) p_is)

      pub builds : BuildsSome now slot parent.job env_stack env_disp p.level count
      builds = grind (arith, may_build)

      -- the machine with the child's stack, and its row
      pub is_started : (built : Cpu) (tasks' : Tasks) (number under : ℕ) (row : TaskRow)
          → ((x : Storage) (plan : Placement) (s : Session) (m : SessionJob) (t : Task) (after : Job) (z : Task)
          → MayBuild x now plan s m t after z slot parent.job env_stack env_disp p.level count → RepresentsSession x built (with_task_at plan m.constants.number z.number slot plan.peak) (session_joined plan s m after))
          → areas' ≡ record k.areas { low = areas'.low } → length now.core ≡ length k.cpu.core → length built.core ≡ length now.core
          → number ≡ q.member.progress.job.next_task → under ≡ mark_place (activations_below stack_now)
          → row.job ≡ parent.job → row.number ≡ number → row.slot ≡ slot → row.parent ≡ parent.slot → row.critical ≡ under → state_of row.state ≡ IsReady → row.segment ≡ p.segment → row.place ≡ p.place
          → tasks'.rows.items ≡ k.tasks.rows.items ++ row ∷ [] → ((r : JobRow) → slice_get k.tasks.jobs (row.job - 1) ≡ Some r → tasks'.jobs ≡ slice_set k.tasks.jobs (row.job - 1) (with_next r)) → tasks' ≡ record k.tasks { rows = tasks'.rows; jobs = tasks'.jobs }
          → IsStarted q.told q.plan q.session q.member new q.slot (record k { cpu = built; areas = areas'; tasks = tasks' })
      is_started built tasks' number under row stands areas_are len len' number_next under_is job_is row_number row_slot row_parent row_critical state row_segment row_place rows_are jobs_are rest =
          started q.storage q.told k q.plan q.session q.member q.task q.ordered q.stands q.running at count q.f q.segment q.level q.place q.slot q.may now areas' op
          slot parent.job env_stack env_disp p.level may_build slot_is built tasks' row
          (stands op.storage (with_peak q.plan (peak_with q.session 1)) (record q.session { peak = peak_with q.session 1 }) q.member q.task (with_child q.member.progress.job new) new may_build)
          areas_are len len' (job_is ∙ parent_is.0) (row_number ∙ number_next) row_slot (row_parent ∙ parent_is.1)
          (row_critical ∙ critical_is q.storage q.told k q.plan q.session q.member q.task q.ordered q.stands q.running at count q.f q.segment q.level q.place q.slot q.may now areas' op slot parent.job env_stack env_disp p.level may_build slot_is under under_is)
          state (row_segment ∙ ap (λ (z : Pcw). z.segment) p_is) (row_place ∙ ap (λ (z : Pcw). z.place) p_is) rows_are jobs_are rest

  pub keeps : (built : Cpu) (areas' : Areas) (tasks' : Tasks) (j : ℕ) → j ≡ q.member.constants.number → length built.core ≡ length k.cpu.core
      → ((r : JobRow) → slice_get k.tasks.jobs (j - 1) ≡ Some r → tasks'.jobs ≡ slice_set k.tasks.jobs (j - 1) (with_next r)) → tasks' ≡ record k.tasks { rows = tasks'.rows; jobs = tasks'.jobs }
      → Keeps k (record k { cpu = built; areas = areas'; tasks = tasks' })
  keeps built areas' tasks' j job_is len jobs_are rest =
      let (r, there, low) = next_row j job_is in
      record {
        core = len;
        sectors = refl;
        given = given_put k.tasks tasks' (ap given_of rest) (rows_put k.tasks.jobs tasks'.jobs (j - 1) r (with_next r) there (jobs_are r there) refl);
      }
