-- Procedures that are entered, and intrinsics that are called.
use Rattle.std.specs.Prelude.{◌≡◌, ◌≢◌, ℕ, ◌+◌, ◌<◌, ◌≤◌, List, [], ◌∷◌, ◌++◌, reverse, Option, Some, None, Ok, Err, slice_get}
use Rattle.b67_word.specs.declared.couples.Place.{Place}
use Rattle.b67_word.specs.Tagged.{Tagged}
use Rattle.b67_ctl.specs.declared.registers.Regs.{Regs}
use Rattle.b67_model.specs.Common.{Answer, Word, Marked, Task, Job, SessionJob, top, Done, Goes, Session}
use Rattle.b67_lemmas.specs.Lists.{Has}
use Rattle.b67_layout.specs.Common.{IsInOrderButCounts, Placement, machine_view, Meets, with_job, RepresentsSession, RepresentsSessionBut}
use Rattle.b67_stack.specs.declared.Cpu.{Cpu}
use Rattle.b67_stack.specs.declared.Step.{Step}
use Rattle.b67_stack.specs.declared.Step.TheVariants as step
use Rattle.b67_stack.specs.MachineView.{PagedObject}
use Rattle.b67_stack.specs.Represents.{Storage}
use Rattle.b67_refer.specs.RunningContext.{RunningContext}
use Rattle.b67_entry.specs.Left.{going_on}
use Rattle.b67_refer.specs.Displays.{HoldsEnvironment}
use Rattle.b67_refer.specs.Ends.{IsProcAt, IsReference}

-- a procedure's cell is reached on these registers, which are of the machine's slot, and no original stands on the two words over their top
pub record CanEnter (cpu : Cpu) (r : Regs) (a : RunningContext cpu.core r) (q : Place) (at f segment level : ℕ) (place : Place) : Type 0 where
  pub slot : going_on cpu.regs r ≡ r
  pub marks : cpu.critical ≡ a.marks
  pub clear : r.s + 2 ≤ r.losr → (t : PagedObject) → Has (a.left ++ (machine_view a.plan a.session.jobs).objects) t → (t.home ≢ r.s + 1) × (t.home ≢ r.s + 2)
  pub procedure : IsProcAt a q at f segment level place

-- whatever two words are put over the top of these registers, the display holds an environment up to a level
abbrev pub HoldsUnder : Cpu → Regs → ℕ → Type 0
HoldsUnder cpu r known =
    r.s + 2 ≤ r.losr → (core : List Tagged) → ((i : ℕ) → i ≢ r.s + 1 → i ≢ r.s + 2 → slice_get core i ≡ slice_get cpu.core i) → HoldsEnvironment core r cpu.display known

-- the record was entered: the machine represents what the row makes, but for what was left to release, and the two words
-- over the top alone have changed
pub record RecordEntered {core : List Tagged} {r : Regs} (a : RunningContext core r) (new : Cpu) (answer : Answer Done) : Type 0 where
  pub job : Job
  pub arrays : job.arrays ≡ a.member.progress.job.arrays
  pub is : answer ≡ Ok (Goes job [] None)
  pub stands : RepresentsSessionBut a.left a.storage new a.plan (with_job a.session a.member job)
  pub low : r.bosr < r.s + 1
  pub room : r.s + 2 ≤ r.losr
  pub changed : (i : ℕ) → i ≢ r.s + 1 → i ≢ r.s + 2 → slice_get new.core i ≡ slice_get core i

-- it was entered, or nothing has changed at a fault
abbrev pub EntersOrFaults : {core : List Tagged} {r : Regs} (a : RunningContext core r) → Step → Cpu → Cpu → Answer Done → Type 0
EntersOrFaults a step.Done old new answer = RecordEntered a new answer
EntersOrFaults a (step.Fault fault) old new answer = (answer ≡ Err fault) × (new ≡ old)
EntersOrFaults a _ old new answer = ⊥

-- the machine represents a session in order, and at an address is a procedure's cell that the running task can reach
pub record ReachesProc (cpu : Cpu) (a : RunningContext cpu.core cpu.regs) (q : Place) (at f segment level : ℕ) (place : Place) : Type 0 where
  pub ordered : IsInOrderButCounts a.session
  pub stands : RepresentsSession a.storage cpu a.plan a.session
  pub procedure : IsProcAt a q at f segment level place

-- the running task's top frame is marked, and these are its cells: a reference, and arguments
pub record CallsWith (t : Task) (reference : Word) (arguments : List Word) : Type 0 where
  pub some : t.frames ≢ []
  pub marked : (top t.frames).standing ≡ Marked
  pub cells : (top t.frames).cells ≡ reverse arguments ++ reference ∷ []
  pub refers : IsReference reference

-- an operator that may call an intrinsic: where it does nothing has changed, else it is made by its row
abbrev pub CallsOrMeets : Storage → Placement → Session → SessionJob → Step → Cpu → Cpu → Option ℕ → Answer Done → Type 0
CallsOrMeets x plan s m answered old new (Some n) answer = (answered ≡ step.Call n) × (new ≡ old)
CallsOrMeets x plan s m answered old new None answer = Meets x plan s m answered old new answer
