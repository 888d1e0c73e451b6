-- A procedure is entered over other cells on top of the running task.
use Rattle.std.proofs.Common.{◌≡◌, ℕ, ◌+◌, ◌<◌, ◌≤◌, List, [], ◌∷◌, ◌++◌, map, Some, None, Ok, Err, refl, sym, ◌∙◌, ap, arith, Bool, ◌==◌, ◌⊎◌, inl, inr, ⊎_elim, subst}
use Rattle.std.specs.Prelude.{nat_le}
use Rattle.std.specs.List.{slice_get}
use Rattle.std.proofs.lemmas.Bool.{cases_eq}
use Rattle.b67_word.specs.Tagged.{Tagged}
use Rattle.b67_word.specs.declared.couples.Place.{Place}
use Rattle.b67_ctl.specs.declared.registers.Regs.{Regs}
use Rattle.b67_word.specs.declared.faults.Fault.TheVariants.{InvalidOperand, StackOverflow}
use Rattle.b67_model.specs.Common.{Answer, ◌>>◌, needs, AtProc, accident, back_to, NamesEntered, number_of, Session, Frame, Array, Task, Job, JobProgress, SessionJob, top, with_top_cells, with_task, height, Done, Goes, cells_of, Word, Proc}
use Rattle.b67_layout.specs.Common.{IsInOrderButCounts, Placement, address_of, machine_view, stack_of_task, IsRunning, SessionHoldsBut, RepresentsSession, RepresentsSessionBut, here, with_job, IsMade}
use Rattle.b67_model.specs.Keyed.{change_keyed}
use Rattle.b67_lemmas.specs.Lists.{Has}
use Rattle.b67_lemmas.proofs.Members.{change_twice, change_found, keyed_has}
use Rattle.b67_stack.specs.declared.Cpu.{Cpu}
use Rattle.b67_stack.specs.declared.Step.{Step}
use Rattle.b67_stack.specs.declared.Step.TheVariants as step
use Rattle.b67_stack.specs.MachineView.{PagedObject}
use Rattle.b67_stack.specs.Represents.{Storage}
use Rattle.b67_layout.proofs.Common.{member-same, runs_on, task_with, no_objects_gone}
use Rattle.b67_refer.specs.RunningContext.{RunningContext}
use Rattle.b67_refer.specs.Ends.{IsProcAt}
use Rattle.b67_refer.proofs.Scenes.{scene}
use Rattle.b67_stack.proofs.ClearHeads.{clear_settled}
use Rattle.b67_entry.specs.Procedures.{CanEnter, RecordEntered, EntersOrFaults}
use Rattle.b67_entry.specs.Left.{going_on}
use Rattle.b67_exec.proofs.Looks.{spots-same, reach-same, level-same, cell-same}

cells-back : (fs : List Frame) (cs : List Word) → with_top_cells (with_top_cells fs cs) (top (with_top_cells fs cs)).cells ≡ with_top_cells fs cs
cells-back fs cs = grind arith

-- a procedure was entered over other cells, or nothing has changed since these were there
abbrev pub EntersOver : Storage → Placement → Session → SessionJob → Step → Cpu → Cpu → Cpu → Answer Done → Type 0
EntersOver x plan s m step.Done old between new answer = IsMade x plan s m old new answer
EntersOver x plan s m (step.Fault fault) old between new answer = (answer ≡ Err fault) × (new ≡ between)
EntersOver x plan s m _ old between new answer = ⊥

-- a member that is changed twice
jobs-twice : (n : ℕ) (a b : JobProgress) (xs : List SessionJob) → change_keyed number_of n (λ (y : SessionJob). record y { progress = b }) (change_keyed number_of n (λ (y : SessionJob). record y { progress = a }) xs) ≡ change_keyed number_of n (λ (y : SessionJob). record y { progress = b }) xs
jobs-twice n a b [] = refl
jobs-twice n a b (y ∷ ys) = grind (arith, jobs-twice n a b ys)

-- the answer of an entry, by what it reads
abbrev entered_by : Job → Task → (size level wanted segment : ℕ) → Place → Frame → List Frame → List Task → Answer Done
entered_by job t size level wanted segment place f below tasks =
    let T : Task = record t { frames = f ∷ below; segment = segment; place = place } in
    needs (level + 1 == wanted) InvalidOperand >> (needs (nat_le (height (f ∷ below)) size) StackOverflow >> Ok (Goes (record job { next_frame = job.next_frame + 1; tasks = change_keyed (λ (u : Task). u.number) t.number (λ (u : Task). T) tasks }) [] None))

module _ (x : Storage) (old : Cpu) (plan : Placement) (s : Session) (m : SessionJob) (t : Task) (ordered : IsInOrderButCounts s) (h : RepresentsSession x old plan s) (runs : IsRunning plan s.jobs m t) (cs : List Word)
    (ordered0 : IsInOrderButCounts (with_job s m (with_task m.progress.job (task_with t cs t.place)))) (cpu0 : Cpu) (level0 : ℕ)
    (critical : cpu0.critical ≡ old.critical)
    (holds0 : SessionHoldsBut [] x cpu0.core (record old.regs { s = level0 }) old.critical plan (with_job s m (with_task m.progress.job (task_with t cs t.place)))) where
  abbrev pub task0 : Task
  task0 = task_with t cs t.place

  abbrev pub member0 : SessionJob
  member0 = record m { progress = record m.progress { job = with_task m.progress.job (task_with t cs t.place) } }

  abbrev pub session0 : Session
  session0 = with_job s m (with_task m.progress.job (task_with t cs t.place))

  pub runs0 : IsRunning plan (with_job s m (with_task m.progress.job (task_with t cs t.place))).jobs (record m { progress = record m.progress { job = with_task m.progress.job (task_with t cs t.place) } }) (task_with t cs t.place)
  runs0 = record {
    member = member-same s.jobs m.constants.number (record m.progress { job = with_task m.progress.job (task_with t cs t.place) }) m runs.member;
    task = change_found (λ (u : Task). u.number) t.number t (task_with t cs t.place) m.progress.job.tasks refl runs.task;
    slot = runs.slot;
  }

  -- the scene with these cells
  abbrev pub scene0 : RunningContext cpu0.core (record old.regs { s = level0 })
  scene0 = scene [] x cpu0.core (record old.regs { s = level0 }) old.critical plan session0 member0 task0 ordered0 holds0 runs0

  -- the procedure's cell is the same one there
  pub proc_moves : (q : Place) (gone rest put : List Word) (at f segment level : ℕ) (place : Place) → (top t.frames).cells ≡ gone ++ rest → cs ≡ put ++ rest
      → ((g l : ℕ) (p : Place) → Has gone (Proc g l p) → ⊥) → ((i : ℕ) (w : Tagged) → slice_get old.core i ≡ Some w → w.tag ≡ 7 → slice_get cpu0.core i ≡ Some w)
      → IsProcAt (scene [] x old.core old.regs old.critical plan s m t ordered h.holds runs) q at f segment level place → IsProcAt scene0 q at f segment level place
  proc_moves q gone rest put at f segment level place e new plain kept i =
      let c = i.cell in
      record {
        own = i.own;
        offset = i.offset;
        cell = record {
          address = c.address ∙ ap (λ z. address_of plan z + i.offset) (sym (spots-same plan s m t ordered runs cs t.place f));
          names = subst (λ ks. NamesEntered ks f) (sym (reach-same plan s m t ordered runs cs t.place)) c.names;
          found = cell-same plan s m t ordered runs cs t.place q gone rest put f i.offset (Proc segment level place) e new c.found (plain segment level place);
          word = c.word;
          there = kept at c.word c.there (ap (λ (w : Tagged). w.tag) c.stands.0.0);
          stands = (c.stands.0, c.stands.1);
        };
      }

  pub can_enter : cpu0.regs ≡ old.regs → (q : Place) (at f segment level : ℕ) (place : Place) → IsProcAt scene0 q at f segment level place → CanEnter cpu0 (record old.regs { s = level0 }) scene0 q at f segment level place
  can_enter same q at f segment level place i = record {
    slot = ap (λ (z : Regs). going_on z (record old.regs { s = level0 })) same;
    marks = critical;
    clear = λ fits. clear_settled x cpu0.core (record old.regs { s = level0 }) (machine_view plan session0.jobs) plan.running (stack_of_task plan m.constants.number (with_task m.progress.job (task_with t cs t.place)) plan.running task0) holds0.memory
        (runs_on plan session0.jobs member0 task0 holds0.fits.rows (keyed_has number_of m.constants.number session0.jobs member0 runs0.member).0 (keyed_has (λ (u : Task). u.number) t.number (with_task m.progress.job (task_with t cs t.place)).tasks task0 runs0.task).0 runs0.slot runs0.member runs0.task)
        fits holds0.settled;
    procedure = i;
  }

  -- the answers are one
  pub same_answer : (q : Place) (value : Bool) (back : Place) (f segment level : ℕ) (place : Place)
      → accident (here member0 task0 q) (cells_of (here member0 task0 q)) (back_to (here member0 task0 q) value back) (AtProc f segment level place) ≡ accident (here m t q) cs (back_to (here m t q) value back) (AtProc f segment level place)
  same_answer q value back f segment level place = grind (arith, level-same, change_twice, cells-back)

  module _ (within : (i : ℕ) → (slice_get cpu0.core i ≡ slice_get old.core i) ⊎ ((old.regs.bosr < i) × (i ≤ old.regs.losr))) where
    made : (new : Cpu) (answer other : Answer Done) → answer ≡ other → RecordEntered scene0 new answer → IsMade x plan s m old new other
    made new answer other e i =
        let S : List SessionJob → Session = λ js. record s { jobs = js } in
        let jobs = jobs-twice m.constants.number (record m.progress { job = with_task m.progress.job (task_with t cs t.place) }) (record m.progress { job = i.job }) s.jobs in
        let stands : RepresentsSessionBut [] x new plan (with_job s m i.job) = subst (λ (js : List SessionJob). RepresentsSessionBut [] x new plan (S js)) jobs i.stands in
        record {
          job = i.job;
          touched = None;
          is = sym e ∙ i.is;
          present = tt;
          stands = subst (λ (left : List PagedObject). RepresentsSessionBut left x new plan (with_job s m i.job)) (sym (no_objects_gone plan m i.job (ap (map (λ (b : Array). b.identity)) i.arrays))) stands;
          changed = λ k. ⊎_elim (λ (z : k ≡ level0 + 1). inr (inl (omega (arith, z, i.low), omega (arith, z, i.room))))
              (λ (z : k ≡ level0 + 1 → ⊥). ⊎_elim (λ (y : k ≡ level0 + 2). inr (inl (omega (arith, y, i.low), omega (arith, y, i.room))))
              (λ (y : k ≡ level0 + 2 → ⊥). ⊎_elim (λ w. inl (i.changed k z y ∙ w)) (λ w. inr (inl w)) (within k)) (cases_eq k (level0 + 2))) (cases_eq k (level0 + 1));
        }

    -- the entry by what was answered
    pub entered : (r : Step) (new : Cpu) (q : Place) (value : Bool) (back : Place) (f segment level : ℕ) (place : Place)
        → EntersOrFaults scene0 r cpu0 new (accident (here member0 task0 q) (cells_of (here member0 task0 q)) (back_to (here member0 task0 q) value back) (AtProc f segment level place))
        → EntersOver x plan s m r old cpu0 new (accident (here m t q) cs (back_to (here m t q) value back) (AtProc f segment level place))
    entered step.Done new q value back f segment level place i = made new _ _ (same_answer q value back f segment level place) i
    entered (step.Fault fault) new q value back f segment level place i = (sym (same_answer q value back f segment level place) ∙ i.0, i.1)
    entered (step.Absent w) new q value back f segment level place i = i
    entered (step.Call n) new q value back f segment level place i = i
    entered step.Ended new q value back f segment level place i = i
