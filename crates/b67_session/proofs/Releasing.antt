-- After a frame was left its arrays are what is left to give back.
use Rattle.std.proofs.Common.{◌≡◌, ◌≢◌, ℕ, ◌+◌, ◌*◌, ◌<◌, ◌≤◌, List, [], Option, length, sym, ◌∙◌, arith}
use Rattle.std.specs.List.{slice_get}
use Rattle.b67_area.specs.declared.Areas.{Areas}
use Rattle.b67_backing.specs.Shelf.{Table}
use Rattle.b67_model.specs.Common.{Standing, Ready, Task, Job, SessionJob, number_of, Session, IsSegment, TasksInOrder}
use Rattle.b67_layout.specs.Common.{IsInOrderButCounts, Placement, head, stack_of_task, machine_view, objects_gone, with_job, IsRunning, RepresentsSession, RepresentsSessionBut, RepresentsStorage, with_objects}
use Rattle.b67_stack.specs.declared.Cpu.{Cpu}
use Rattle.b67_stack.specs.Common.{Shape, StackPlace, Activation, size, PagedObject, RunsOn, Storage, RepresentsRunning}
use Rattle.b67_stack.proofs.Pushes.{Room, room_of}
use Rattle.b67_stack.proofs.Slots.{running_slot}
use Rattle.b67_layout.proofs.Rows.{runs_on, slot_below}
use Rattle.b67_task.specs.LeftArrays.{IsLeft}
use Rattle.b67_task.proofs.Leavings.{new_top, left_after}
use Rattle.b67_session.proofs.Inversion.{IsEntered, LeftFrame}
use Rattle.b67_session.proofs.Ordered.{frames_after}
use Rattle.b67_lemmas.proofs.Members.{keyed_has}

-- a running task's stack, whatever objects are left
on_objects : (left : List PagedObject) (plan : Placement) (s : Session) (m : SessionJob) (t : Task) (x : Storage) (cpu : Cpu) → RepresentsSessionBut left x cpu plan s → IsRunning plan s.jobs m t
    → RunsOn (with_objects left (machine_view plan s.jobs)) plan.running (stack_of_task plan m.constants.number m.progress.job plan.running t)
on_objects left plan s m t x cpu h runs =
    let on = runs_on plan s.jobs m t h.holds.fits.rows (keyed_has number_of m.constants.number s.jobs m runs.member).0 (keyed_has (λ (u : Task). u.number) t.number m.progress.job.tasks t runs.task).0 runs.slot runs.member runs.task in
    record { used = on.used; is = on.is }

-- where its slot ends
slot_end : (left : List PagedObject) (plan : Placement) (s : Session) (m : SessionJob) (t : Task) (x : Storage) (cpu : Cpu) → RepresentsSessionBut left x cpu plan s → IsRunning plan s.jobs m t → cpu.regs.losr + 1 ≡ plan.stacks + plan.running * plan.size + plan.size
slot_end left plan s m t x cpu h runs =
    let stack = stack_of_task plan m.constants.number m.progress.job plan.running t in
    (running_slot x cpu.core cpu.regs (with_objects left (machine_view plan s.jobs)) plan.running stack h.holds.memory (on_objects left plan s m t x cpu h runs)).last

-- core is as long as its directory says
pub same_length : (left : List PagedObject) (x : Storage) (old new : Cpu) (plan : Placement) (s after : Session) → RepresentsSession x old plan s → RepresentsSessionBut left x new plan after → length new.core ≡ length old.core
same_length left x old new plan s after h k = sym k.holds.memory.directory.all ∙ h.holds.memory.directory.all

pub storage_over : (x : Storage) (areas : Areas) (table : Table) (told : Option (List (List ℕ))) (old new : Cpu) → length new.core ≡ length old.core → RepresentsStorage areas table told old.core x → RepresentsStorage areas table told new.core x
storage_over x areas table told old new same b = record { low = b.low; size = b.size ∙ sym same; shelf = b.shelf; device = b.device }

-- a mark and its return word
entered_size : (spot : ℕ → StackPlace) (standing : Standing) → IsEntered standing → (cells : List Shape) → 2 ≤ size (record { head = head spot standing; cells = cells })
entered_size spot standing e cells = grind arith

module _ (x : Storage) (old : Cpu) (plan : Placement) (s : Session) (m : SessionJob) (t : Task) (o : IsInOrderButCounts s) (h : RepresentsSession x old plan s) (runs : IsRunning plan s.jobs m t) where
  abbrev stack : List Activation
  stack = stack_of_task plan m.constants.number m.progress.job plan.running t

  slot_holds : RepresentsRunning old.regs (machine_view plan s.jobs) plan.running stack
  slot_holds = let on = on_objects [] plan s m t x old h runs in running_slot x old.core old.regs (machine_view plan s.jobs) plan.running stack h.holds.memory (record { used = on.used; is = on.is })

  pub rooms : Room x old.core old.regs (machine_view plan s.jobs) plan.running stack
  rooms = let on = on_objects [] plan s m t x old h runs in room_of x old.core old.regs (machine_view plan s.jobs) plan.running stack h.holds.memory (record { used = on.used; is = on.is })

  not_none : plan.running ≢ 255
  not_none e = grind (arith, keyed_has, slot_below)

  module _ (ready : t.condition ≡ Ready) (job : Job) (k : LeftFrame t m.progress.job job) (order : TasksInOrder (IsSegment m.constants) m.constants job) (new : Cpu)
      (stands : RepresentsSessionBut (objects_gone plan m job) x new plan (with_job s m job))
      (above : (i : ℕ) → new.regs.s < i → slice_get new.core i ≡ slice_get old.core i) (low : old.regs.f ≤ new.regs.s + 1) (high : new.regs.s ≤ old.regs.f + 1) where
    mark_at : old.regs.f ≡ new_top x old plan s m t k.f k.below o h runs k.frames job k.arrays + 1
    mark_at = grind (arith, slot_holds)

    pub left_to_give : IsLeft (objects_gone plan m job) x new plan (with_job s m job) (new.regs.s + 1) (old.regs.s + 1)
    left_to_give =
        let (m', t', runs') = stands.holds.live not_none in
        let one = slot_end [] plan s m t x old h runs in
        let two = slot_end (objects_gone plan m job) plan (with_job s m job) m' t' x new stands runs' in
        left_after x old plan s m t k.f k.below o h runs k.frames job k.arrays k.entered.level k.entered.environment k.entered.back k.entered.is new stands
        (frames_after plan s m t o runs ready job order) (new.regs.s + 1) (omega arith) (omega (arith, mark_at)) (omega (arith, mark_at)) (omega (arith, one, two))
        (λ i down up. above i (omega (arith, down)))

    pub top_under : new.regs.s ≤ old.regs.s
    top_under = grind (arith, slot_holds)
