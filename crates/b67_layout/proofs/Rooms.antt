-- How high the running task's frames are, by the registers.
use Rattle.std.proofs.Common.{◌≡◌, ℕ, ◌+◌, ◌⊎◌, List, ◌∙◌, arith, inl, inr, ⊎_elim, slice_set}
use Rattle.std.specs.List.{slice_get}
use Rattle.b67_word.specs.Tagged.{Tagged}
use Rattle.b67_ctl.specs.declared.registers.Regs.{Regs}
use Rattle.b67_core.proofs.Writes.{slice_get-set_other}
use Rattle.b67_model.specs.Common.{Task, SessionJob, height, number_of, Session}
use Rattle.b67_stack.specs.MachineView.{PagedObject}
use Rattle.b67_stack.specs.Represents.{Storage}
use Rattle.b67_stack.proofs.Slots.{running_slot}
use Rattle.b67_layout.specs.Common.{Placement, outer_spots, machine_view, stack_of_task, IsInStack, IsRunning, with_objects, SessionHoldsBut}
use Rattle.b67_layout.proofs.Frames.{height-is}
use Rattle.b67_layout.proofs.Rows.{runs_on}
use Rattle.b67_lemmas.proofs.Members.{keyed_has}

-- the words left over the top
pub height_room : (left : List PagedObject) (x : Storage) (core : List Tagged) (r : Regs) (marks : List ℕ) (plan : Placement) (s : Session) (m : SessionJob) (t : Task) → SessionHoldsBut left x core r marks plan s → IsRunning plan s.jobs m t
    → height t.frames + r.losr ≡ r.s + m.constants.stack_size
height_room left x core r marks plan s m t h runs =
    let in_m = (keyed_has number_of m.constants.number s.jobs m runs.member).0 in
    let in_t = (keyed_has (λ (u : Task). u.number) t.number m.progress.job.tasks t runs.task).0 in
    let u = runs_on plan s.jobs m t h.fits.rows in_m in_t runs.slot runs.member runs.task in
    let top = running_slot x core r (with_objects left (machine_view plan s.jobs)) plan.running (stack_of_task plan m.constants.number m.progress.job plan.running t) h.memory (record { used = u.used; is = u.is }) in
    omega (arith, height-is plan m.constants.number m.progress.job plan.running (outer_spots plan m.constants.number m.progress.job t.critical t.parents) t.frames, top.top, top.last, h.fits.sizes m in_m)

-- one word or two that are written change only words of the stack
pub written : (core : List Tagged) (r : Regs) (a : ℕ) (v : Tagged) → IsInStack r a → (i : ℕ) → (slice_get (slice_set core a v) i ≡ slice_get core i) ⊎ IsInStack r i
written core r a v at i = grind (arith, slice_get-set_other)

pub written_twice : (core : List Tagged) (r : Regs) (a b : ℕ) (v w : Tagged) → IsInStack r a → IsInStack r b → (i : ℕ) → (slice_get (slice_set (slice_set core a v) b w) i ≡ slice_get core i) ⊎ IsInStack r i
written_twice core r a b v w at there i = ⊎_elim
    (λ e. ⊎_elim (λ f. inl (e ∙ f)) (λ f. inr f) (written core r a v at i))
    (λ f. inr f)
    (written (slice_set core a v) r b w there i)
