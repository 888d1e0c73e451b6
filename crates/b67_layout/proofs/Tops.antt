-- The session where the running task has other frames on top, and maybe goes on in another segment.
use Rattle.std.proofs.Common.{◌≡◌, ℕ, ◌+◌, ◌<◌, List, sym, ◌∙◌, ap, subst}
use Rattle.std.specs.List.{slice_get}
use Rattle.b67_word.specs.Tagged.{Tagged}
use Rattle.b67_word.specs.declared.couples.Place.{Place}
use Rattle.b67_ctl.specs.declared.registers.Regs.{Regs}
use Rattle.b67_lemmas.specs.Lists.{Has}
use Rattle.b67_lemmas.proofs.Members.{keyed_has}
use Rattle.b67_model.specs.Common.{Frame, Condition, Task, Job, JobProgress, SessionJob, number_of, Session}
use Rattle.b67_stack.specs.Common.{StackPlace, Activation, PagedObject, MachineView, NoOriginalAboveTop, Storage, Represents, with_stack}
use Rattle.b67_layout.specs.Common.{Placement, outer_spots, activations, machine_view, with_job, RepresentsTask, IsRunning, critical_mark, with_objects, SessionHoldsBut}
use Rattle.b67_layout.proofs.Others.{OnTop, task-same, outer_spots-after}
use Rattle.b67_layout.proofs.Replaces.{on_top_replaces}
use Rattle.b67_layout.proofs.Sessions.{SessionHoldsBut-after}
use Rattle.b67_layout.proofs.MachineViews.{with_course, member-same, machine_view-after, stack-after}
use Rattle.b67_layout.proofs.Rows.{row_of}

-- the registers of a task that goes on at a place of a segment
pub record GoesTo (r r' : Regs) (g : ℕ) (q : Place) : Type 0 where
  pub slot : r'.slot ≡ r.slot
  pub dict : r'.dict ≡ r.dict
  pub entries : r'.entries ≡ r.entries
  pub segment : r'.segment ≡ g + 1
  pub place : r'.place ≡ q

-- the task that goes on there with these frames
abbrev pub task_on : Task → List Frame → ℕ → Place → Condition → Task
task_on t fs segment q condition = record t { frames = fs; segment = segment; place = q; condition = condition }

module _ (left : List PagedObject) (x : Storage) (core new : List Tagged) (r r' : Regs) (marks : List ℕ) (plan : Placement) (s : Session) (m : SessionJob) (t : Task) (h : SessionHoldsBut left x core r marks plan s) (runs : IsRunning plan s.jobs m t) where
  has_m : Has s.jobs m
  has_m = (keyed_has number_of m.constants.number s.jobs m runs.member).0

  has_t : Has m.progress.job.tasks t
  has_t = (keyed_has (λ (u : Task). u.number) t.number m.progress.job.tasks t runs.task).0

  -- the outer spots that the running task names
  abbrev pub outer : ℕ → StackPlace
  outer = outer_spots plan m.constants.number m.progress.job t.critical t.parents

  module _ (job' : Job) (fs : List Frame) (segment : ℕ) (q : Place) (condition : Condition) (n : ℕ) (top : OnTop m.progress.job job' t (task_on t fs segment q condition) n) where
    -- all but the display
    pub SessionHolds-top : (stack : List Activation) → ((i : ℕ) → i < plan.stacks → slice_get new i ≡ slice_get core i) → GoesTo r r' segment q
        → critical_mark m.progress.job fs ≡ critical_mark m.progress.job t.frames
        → activations plan m.constants.number m.progress.job plan.running outer fs ≡ stack
        → Represents x new r' (with_objects left (with_stack (machine_view plan s.jobs) plan.running stack)) → NoOriginalAboveTop (with_stack (machine_view plan s.jobs) plan.running stack)
        → SessionHoldsBut left x new r' marks plan (with_job s m job')
    SessionHolds-top stack same on critical is stands settled =
        let c : JobProgress = record m.progress { job = job' } in
        let t' : Task = task_on t fs segment q condition in
        let row = row_of plan s.jobs m t h.fits.rows has_m has_t runs.slot in
        let e : machine_view plan (with_course s.jobs m.constants.number c) ≡ with_stack (machine_view plan s.jobs) plan.running stack =
        machine_view-after plan s.jobs m.constants.number m c t t' n plan.running runs.member top row
        ∙ ap (λ (xs : List Activation). with_stack (machine_view plan s.jobs) plan.running xs) (stack-after plan s.jobs m.constants.number m c t t' n plan.running runs.member top row ∙ is) in
        let P : MachineView → Type 0 = λ p. Represents x new r' (with_objects left p) in
        let o = h.running m t runs in
        let task : RepresentsTask r' plan (record m { progress = c }) t' = record { slot = on.slot ∙ o.slot; dict = on.dict ∙ o.dict; entries = on.entries ∙ o.entries; segment = on.segment; place = on.place } in
        SessionHoldsBut-after left left x core new r r' marks plan s m c t t' h runs (on_top_replaces m.progress.job c.job t t' n top) same critical (subst P (sym e) stands) (subst NoOriginalAboveTop (sym e) settled) task

    -- the task still runs
    pub still_running : IsRunning plan (with_job s m job').jobs (record m { progress = record m.progress { job = job' } }) (task_on t fs segment q condition)
    still_running = record {
      member = member-same s.jobs m.constants.number (record m.progress { job = job' }) m runs.member;
      task = task-same plan m.constants.number m.progress.job job' t (task_on t fs segment q condition) n top;
      slot = runs.slot;
    }

    -- it names the same frames outside its own
    pub outer-same : outer_spots plan m.constants.number job' t.critical t.parents ≡ outer_spots plan m.constants.number m.progress.job t.critical t.parents
    outer-same = λ z i. outer_spots-after plan m.constants.number m.progress.job job' t (task_on t fs segment q condition) n top t.parents t.critical (top.uncritical t has_t) i z
