-- The two commonest steps: other cells in the top frame, and a mark on it.
use Rattle.std.proofs.Common.{◌≡◌, ◌≢◌, ℕ, ◌<◌, List, [], ◌∷◌, map, refl, sym, ◌∙◌, ap, Bool, false, subst, arith}
use Rattle.std.specs.Prelude.{if◌then◌else◌}
use Rattle.std.specs.List.{slice_get}
use Rattle.b67_word.specs.Tagged.{Tagged}
use Rattle.b67_word.specs.declared.couples.Place.{Place}
use Rattle.b67_ctl.specs.declared.registers.Regs.{Regs}
use Rattle.b67_lemmas.specs.Lists.{Has}
use Rattle.b67_lemmas.proofs.Members.{keyed_has}
use Rattle.b67_model.specs.Common.{Word, Frame, Task, Job, JobProgress, SessionJob, height, with_top_cells, with_task, from_frame, is_critical, Session, number_of}
use Rattle.b67_model.specs.State as State
use Rattle.b67_stack.specs.Common.{StackPlace, Activation, MachineView, NoOriginalAboveTop, Storage, Represents, with_stack, stack_with_cells, new_mark}
use Rattle.b67_layout.specs.Common.{Placement, spot_in, outer_spots, shape, activations, stack_of_task, machine_view, RepresentsTask, IsRunning, critical_mark, SessionHolds}
use Rattle.b67_layout.proofs.Others.{OnTop, seen-mark}
use Rattle.b67_layout.proofs.MachineViews.{with_course, machine_view-after, stack-after}
use Rattle.b67_layout.proofs.Rows.{row_of}
use Rattle.b67_layout.proofs.Replaces.{on_top_replaces}
use Rattle.b67_layout.proofs.Sessions.{SessionHoldsBut-after}
use Rattle.b67_model.specs.Keyed.{change_keyed}

pub activations-with : (plan : Placement) (j : ℕ) (job : Job) (k : ℕ) (outer : ℕ → StackPlace) (fs : List Frame) (cells : List Word)
    → activations plan j job k outer (with_top_cells fs cells) ≡ stack_with_cells (activations plan j job k outer fs) (map (shape plan j job (spot_in k outer fs)) cells)
activations-with plan j job k h fs cells = grind arith

pub seen-with : (fs : List Frame) (cells : List Word) (c s : ℕ) (outer : ℕ → StackPlace) (id : ℕ) → spot_in s outer (from_frame c (with_top_cells fs cells)) id ≡ spot_in s outer (from_frame c fs) id
seen-with fs cells c s h id = grind arith

pub critical-with : (job : Job) (fs : List Frame) (cells : List Word) → critical_mark job (with_top_cells fs cells) ≡ critical_mark job fs
critical-with job fs cells = grind arith

-- a number that no live task depends on, and that isn't the MCP's frame
pub record IsFree (job : Job) (n : ℕ) : Type 0 where
  pub some : 0 ≢ n
  pub uncritical : (u : Task) → Has job.tasks u → u.critical ≢ n

-- the registers that a step on the stack leaves, and the place where it goes on
pub record GoesOn (r r' : Regs) (q : Place) : Type 0 where
  pub slot : r'.slot ≡ r.slot
  pub dict : r'.dict ≡ r.dict
  pub entries : r'.entries ≡ r.entries
  pub segment : r'.segment ≡ r.segment
  pub place : r'.place ≡ q

module _ (x : Storage) (core new : List Tagged) (r r' : Regs) (marks : List ℕ) (plan : Placement) (s : Session) (m : SessionJob) (t : Task) (q : Place)
    (h : SessionHolds x core r marks plan s) (runs : IsRunning plan s.jobs m t) (same : (i : ℕ) → i < plan.stacks → slice_get new i ≡ slice_get core i) (on : GoesOn r r' q) where
  has_m : Has s.jobs m
  has_m = (keyed_has number_of m.constants.number s.jobs m runs.member).0

  has_t : Has m.progress.job.tasks t
  has_t = (keyed_has (λ (u : Task). u.number) t.number m.progress.job.tasks t runs.task).0

  -- the outer spots that the running task names
  abbrev pub outer : ℕ → StackPlace
  outer = outer_spots plan m.constants.number m.progress.job t.critical t.parents

  -- the running stack
  abbrev pub running_stack : List Activation
  running_stack = stack_of_task plan m.constants.number m.progress.job plan.running t

  task_stands : (c : JobProgress) (fs : List Frame) → RepresentsTask r' plan (record m { progress = c }) (record t { frames = fs; place = q })
  task_stands c fs = grind arith

  -- the session with a job of the running task's, which differs from the old one by that task on top of frame n
  after : (job' : Job) (fs : List Frame) (stack : List Activation) (n : ℕ) → OnTop m.progress.job job' t (record t { frames = fs; place = q }) n
      → critical_mark m.progress.job fs ≡ critical_mark m.progress.job t.frames
      → activations plan m.constants.number m.progress.job plan.running outer fs ≡ stack
      → Represents x new r' (with_stack (machine_view plan s.jobs) plan.running stack)
      → NoOriginalAboveTop (with_stack (machine_view plan s.jobs) plan.running stack)
      → SessionHolds x new r' marks plan (record s { jobs = with_course s.jobs m.constants.number (record m.progress { job = job' }) })
  after job' fs stack n top critical is stands settled =
      let c : JobProgress = record m.progress { job = job' } in
      let t' : Task = record t { frames = fs; place = q } in
      let row = row_of plan s.jobs m t h.fits.rows has_m has_t runs.slot in
      let e : machine_view plan (with_course s.jobs m.constants.number c) ≡ with_stack (machine_view plan s.jobs) plan.running stack =
      machine_view-after plan s.jobs m.constants.number m c t t' n plan.running runs.member top row
      ∙ ap (λ (xs : List Activation). with_stack (machine_view plan s.jobs) plan.running xs) (stack-after plan s.jobs m.constants.number m c t t' n plan.running runs.member top row ∙ is) in
      let P : MachineView → Type 0 = λ p. Represents x new r' p in
      SessionHoldsBut-after [] [] x core new r r' marks plan s m c t t' h runs (on_top_replaces m.progress.job c.job t t' n top) same critical (subst P (sym e) stands) (subst NoOriginalAboveTop (sym e) settled) (task_stands c fs)

  -- other cells in the top frame
  pub SessionHolds-cells : (n : ℕ) (cells : List Word) → IsFree m.progress.job n
      → Represents x new r' (with_stack (machine_view plan s.jobs) plan.running (stack_with_cells running_stack (map (shape plan m.constants.number m.progress.job (spot_in plan.running outer t.frames)) cells)))
      → NoOriginalAboveTop (with_stack (machine_view plan s.jobs) plan.running (stack_with_cells running_stack (map (shape plan m.constants.number m.progress.job (spot_in plan.running outer t.frames)) cells)))
      → SessionHolds x new r' marks plan (record s { jobs = with_course s.jobs m.constants.number (record m.progress { job = with_task m.progress.job (record t { frames = with_top_cells t.frames cells; place = q }) }) })
  SessionHolds-cells n cells free stands settled =
      after (with_task m.progress.job (record t { frames = with_top_cells t.frames cells; place = q })) (with_top_cells t.frames cells)
      (stack_with_cells running_stack (map (shape plan m.constants.number m.progress.job (spot_in plan.running outer t.frames)) cells)) n
      (record {
        there = runs.task;
        number = refl;
        critical = refl;
        parents = refl;
        tasks = refl;
        arrays = refl;
        some = free.some;
        uncritical = free.uncritical;
        same = λ c k o id ne. seen-with t.frames cells c k o id;
      })
      (critical-with m.progress.job t.frames cells)
      (activations-with plan m.constants.number m.progress.job plan.running outer t.frames cells) stands settled

  -- a mark on the top frame, of a new identity
  pub SessionHolds-mark : (job : Job) (n : ℕ) → job.tasks ≡ m.progress.job.tasks → job.arrays ≡ m.progress.job.arrays → IsFree m.progress.job n → is_critical m.progress.job n ≡ false
      → Represents x new r' (with_stack (machine_view plan s.jobs) plan.running (new_mark ∷ running_stack))
      → NoOriginalAboveTop (with_stack (machine_view plan s.jobs) plan.running (new_mark ∷ running_stack))
      → let fs = record { identity = n; standing = State.Marked; cells = [] } ∷ t.frames in
      SessionHolds x new r' marks plan (record s { jobs = with_course s.jobs m.constants.number (record m.progress { job = with_task job (record t { frames = fs; place = q }) }) })
  SessionHolds-mark job n tasks arrays free uncritical stands settled =
      let f : Frame = record { identity = n; standing = State.Marked; cells = [] } in
      after (with_task job (record t { frames = f ∷ t.frames; place = q })) (f ∷ t.frames) (new_mark ∷ running_stack) n
      (record {
        there = runs.task;
        number = refl;
        critical = refl;
        parents = refl;
        tasks = ap (λ (ts : List Task). change_keyed (λ (u : Task). u.number) t.number (λ (u : Task). record t { frames = f ∷ t.frames; place = q }) ts) tasks;
        arrays = arrays;
        some = free.some;
        uncritical = free.uncritical;
        same = λ c k o id ne. seen-mark f t.frames c k o id ne;
      })
      (ap (λ (b : Bool). if b then height t.frames else critical_mark m.progress.job t.frames) uncritical) refl stands settled
