-- Other cells in the running task's top frame, over the whole machine: what rows on cells cite.
use Rattle.std.proofs.Common.{◌≡◌, ◌≢◌, ℕ, ◌<◌, List, [], ◌∷◌, map, refl, sym, ◌∙◌, ap, subst, arith}
use Rattle.std.specs.List.{slice_get}
use Rattle.b67_word.specs.declared.couples.Place.{Place}
use Rattle.b67_model.specs.Common.{Word, Frame, Task, JobProgress, SessionJob, with_top_cells, with_task, Session}
use Rattle.b67_stack.specs.declared.Cpu.{Cpu}
use Rattle.b67_stack.specs.Common.{StackPlace, NoOriginalAboveTop, Storage, Represents, with_stack, stack_with_cells}
use Rattle.b67_layout.specs.Common.{Placement, slot_of, spot_in, outer_spots, spots, shape, stack_of_task, machine_view, IsRunning, ShowsDisplay, SessionHolds, RepresentsSession}
use Rattle.b67_layout.proofs.Others.{OnTop, outer_spots-after, task-same}
use Rattle.b67_layout.proofs.MachineViews.{with_course, member-same}
use Rattle.b67_layout.proofs.Sessions.{running_only}
use Rattle.b67_layout.proofs.Steps.{IsFree, GoesOn, seen-with, SessionHolds-cells}
use Rattle.b67_layout.proofs.Displays.{Shows-same}
use Rattle.b67_lemmas.proofs.Members.{keyed_has}
use Rattle.b67_law.proofs.Looks.{known_cells}

pub spots-with : (k : ℕ) (outer : ℕ → StackPlace) (fs : List Frame) (cells : List Word) (id : ℕ) → spot_in k outer (with_top_cells fs cells) id ≡ spot_in k outer fs id
spots-with k outer fs cells id = grind arith

-- the task with other cells on top that goes on at a place, and the session with it
abbrev pub task_with : Task → List Word → Place → Task
task_with t cells q = record t { frames = with_top_cells t.frames cells; place = q }

abbrev pub session_with : Session → SessionJob → Task → List Word → Place → Session
session_with s m t cells q =
    record s { jobs = with_course s.jobs m.constants.number (record m.progress { job = with_task m.progress.job (task_with t cells q) }) }

module _ (x : Storage) (old new : Cpu) (plan : Placement) (s : Session) (m : SessionJob) (t : Task) (q : Place) (h : RepresentsSession x old plan s) (runs : IsRunning plan s.jobs m t)
    (same : (i : ℕ) → i < plan.stacks → slice_get new.core i ≡ slice_get old.core i) (on : GoesOn old.regs new.regs q) (display : new.display ≡ old.display) (critical : new.critical ≡ old.critical) where
  pub RepresentsSession-cells : (n : ℕ) (cells : List Word) → IsFree m.progress.job n
      → let stack = stack_with_cells (stack_of_task plan m.constants.number m.progress.job plan.running t) (map (shape plan m.constants.number m.progress.job (spot_in plan.running (outer_spots plan m.constants.number m.progress.job t.critical t.parents) t.frames)) cells) in
      Represents x new.core new.regs (with_stack (machine_view plan s.jobs) plan.running stack) → NoOriginalAboveTop (with_stack (machine_view plan s.jobs) plan.running stack)
      → RepresentsSession x new plan (session_with s m t cells q)
  RepresentsSession-cells n cells free stands settled =
      let t' : Task = task_with t cells q in
      let c : JobProgress = record m.progress { job = with_task m.progress.job t' } in
      let top : OnTop m.progress.job c.job t t' n = record {
        there = runs.task;
        number = refl;
        critical = refl;
        parents = refl;
        tasks = refl;
        arrays = refl;
        some = free.some;
        uncritical = free.uncritical;
        same = λ d k o id ne. seen-with t.frames cells d k o id;
      } in
      let P : List ℕ → Type 0 = λ marks. SessionHolds x new.core new.regs marks plan (session_with s m t cells q) in
      let holds = subst P (sym critical) (SessionHolds-cells x old.core new.core old.regs new.regs old.critical plan s m t q h.holds runs same on n cells free stands settled) in
      let moved : SessionJob = record m { progress = c } in
      let still : IsRunning plan (with_course s.jobs m.constants.number c) moved t' = record { member = member-same s.jobs m.constants.number c m runs.member; task = task-same plan m.constants.number m.progress.job c.job t t' n top; slot = runs.slot } in
      let own : t.critical ≢ n = free.uncritical t (keyed_has (λ (u : Task). u.number) t.number m.progress.job.tasks t runs.task).0 in
      let places : (id : ℕ) → spots plan m.constants.number c.job t' id ≡ spots plan m.constants.number m.progress.job t id = λ id.
      (let outer : outer_spots plan m.constants.number c.job t.critical t.parents ≡ outer_spots plan m.constants.number m.progress.job t.critical t.parents = λ z i. outer_spots-after plan m.constants.number m.progress.job c.job t t' n top t.parents t.critical own i z in
      ap (λ (o : ℕ → StackPlace). spot_in (slot_of plan m.constants.number t.number) o (with_top_cells t.frames cells) id) outer
      ∙ spots-with (slot_of plan m.constants.number t.number) (outer_spots plan m.constants.number m.progress.job t.critical t.parents) t.frames cells id) in
      let shown : ShowsDisplay new.display plan moved t' = (let D : List ℕ → Type 0 = λ d. ShowsDisplay d plan moved t' in
      subst D (sym display) (Shows-same old.display plan m c t t' runs.task refl (known_cells t.frames cells) places (h.shows m t runs))) in
      record { holds = holds; shows = λ y u r. running_only plan (with_course s.jobs m.constants.number c) moved y t' u (ShowsDisplay new.display plan) holds.fits.rows still r shown }
