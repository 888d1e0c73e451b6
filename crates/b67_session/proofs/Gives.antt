-- An operator left an activation record: what is asked of giving back its arrays, and what is made then.
use Rattle.std.proofs.Common.{◌≡◌, ◌≢◌, ℕ, ◌+◌, ◌^◌, ◌<◌, ◌≤◌, List, [], map, Option, None, length, Bool, true, false, not, refl, sym, ◌∙◌, ap, arith, inl, inr, ⊎_elim, subst}
use Rattle.b67_area.specs.declared.Areas.{Areas}
use Rattle.b67_model.specs.Common.{Ready, Task, SessionJob, reading_of, row, Session, IsSegment, TasksInOrder}
use Rattle.b67_layout.specs.Common.{IsInOrderButCounts, Placement, here, objects_gone, with_job, ForEach, IsMade, IsRunning, RepresentsSession, RepresentsStorage}
use Rattle.b67_stack.specs.declared.Cpu.{Cpu}
use Rattle.b67_stack.specs.declared.Step.{Step}
use Rattle.b67_stack.specs.declared.Step.TheVariants.{Done}
use Rattle.b67_stack.specs.MachineView.{PagedObject}
use Rattle.b67_stack.specs.Represents.{Storage}
use Rattle.b67_layout.proofs.Fresh.{running_in_order}
use Rattle.b67_task.specs.declared.tables.Machine.{Machine}
use Rattle.b67_task.specs.Tables.{TasksShow, task_row, job_row, counts_of, MachineRepresents, given_of}
use Rattle.b67_task.specs.LeftArrays.{IsLeft, AreReleased}
use Rattle.b67_task.specs.Runs.{RunsTask, Keeps}
use Rattle.b67_session.specs.Makes.{OperatorMade, MakesInSegment}
use Rattle.b67_session.proofs.Inversion.{LeftFrame}
use Rattle.b67_exec_cells.specs.Running.{code_area}
use Rattle.b67_exec.specs.Operators.{leaves_record, CutsRecord, OperatorMeets}
use Rattle.b67_session.proofs.Holes.{only_holes}
use Rattle.b67_session.proofs.Leavers.{LeftBy, left_by, code_there}
use Rattle.b67_session.proofs.OperatorsMade.{made_so}
use Rattle.b67_session.proofs.Ordered.{job_after}
use Rattle.b67_session.proofs.Readied as ready_one
use Rattle.b67_session.proofs.Releasing.{rooms, same_length, storage_over, left_to_give, top_under}
use Rattle.b67_session.proofs.AttemptSteps.{row_kept}
use Rattle.b67_session.proofs.Tables.{tables_after}

-- what giving back says of a machine
abbrev pub GivesBack : Machine → Cpu → Machine → Type 0
GivesBack old new after =
    (left : List PagedObject) (x : Storage) (told : Option (List (List ℕ))) (plan : Placement) (s : Session)
    → IsLeft left x new plan s (new.regs.s + 1) (old.cpu.regs.s + 1) → RepresentsStorage old.areas old.sectors told new.core x
    → AreReleased left x new after.cpu after.areas after.sectors told plan s

-- the top's address fits
pub upto_fits : (old : Machine) → RunsTask old → old.cpu.regs.s + 1 < 2 ^ 20
upto_fits old r = grind (arith, rooms)

-- what is said of the operator that was made
abbrev pub Rows : Cpu → Cpu → Step → Type 0
Rows old new answered = ForEach old (λ x plan s m t. OperatorMeets x plan s m t answered old new)

abbrev pub Lefts : Cpu → Bool → Type 0
Lefts old left = ForEach old (λ x plan s m t. code_area x plan m t ≢ None → left ≡ leaves_record (reading_of m.constants t))

-- it was made and leaves a record
module _ (old : Machine) (new : Cpu) (answered : Step) (left : Bool) (rows : Rows old.cpu new answered) (lefts : Lefts old.cpu left) (all_cuts : left ≡ true → answered ≡ Done → CutsRecord old.cpu new) (is_left : not left ≡ false) (is_done : answered ≡ Done) where
  true_left : left ≡ true
  true_left = grind arith

  cuts : CutsRecord old.cpu new
  cuts = all_cuts true_left is_done

  meets : ForEach old.cpu (λ x plan s m t. OperatorMeets x plan s m t Done old.cpu new)
  meets x plan s m t o h runs = let P : Step → Type 0 = λ a. OperatorMeets x plan s m t a old.cpu new in subst P is_done (rows x plan s m t o h runs)

  leaves_so : ForEach old.cpu (λ x plan s m t. leaves_record (reading_of m.constants t) ≡ true)
  leaves_so x plan s m t o h runs = sym (lefts x plan s m t o h runs (code_there x plan s m t old.cpu new (meets x plan s m t o h runs))) ∙ true_left

  left_so : ForEach old.cpu (λ x plan s m t. LeftBy x plan s m t old.cpu new)
  left_so x plan s m t o h runs = left_by x plan s m t old.cpu new (leaves_so x plan s m t o h runs) (meets x plan s m t o h runs)

  module _ (x : Storage) (plan : Placement) (s : Session) (m : SessionJob) (t : Task) (o : IsInOrderButCounts s) (h : RepresentsSession x old.cpu plan s) (runs : IsRunning plan s.jobs m t) (ready : t.condition ≡ Ready) where
    abbrev by : LeftBy x plan s m t old.cpu new
    by = left_so x plan s m t o h runs

    abbrev made : IsMade x plan s m old.cpu new (row by.op (here m t by.next))
    made = by.made

    left_frame : LeftFrame t m.progress.job made.job
    left_frame = by.leaves.frame m t by.next (running_in_order plan s m t o runs).1.some made.job [] made.touched made.is

    order : TasksInOrder (IsSegment m.constants) m.constants made.job
    order = job_after plan s m t o runs ready by.op by.next by.leaves.last (by.leaves.fits (here m t by.next)) made.job [] made.touched made.is

    arrays_left : IsLeft (objects_gone plan m made.job) x new plan (with_job s m made.job) (new.regs.s + 1) (old.cpu.regs.s + 1)
    arrays_left = left_to_give x old.cpu plan s m t o h runs ready made.job left_frame order new made.stands cuts.above cuts.low cuts.high

    new_length : length new.core ≡ length old.cpu.core
    new_length = same_length (objects_gone plan m made.job) x old.cpu new plan s (with_job s m made.job) h made.stands

    under_old : new.regs.s ≤ old.cpu.regs.s
    under_old = top_under x old.cpu plan s m t o h runs ready made.job left_frame order new made.stands cuts.above cuts.low cuts.high

  -- what is asked
  pub asks : RunsTask old → (left : List PagedObject) × (x : Storage) × (told : Option (List (List ℕ))) × (plan : Placement) × (s : Session)
      × IsLeft left x new plan s (new.regs.s + 1) (old.cpu.regs.s + 1) × RepresentsStorage old.areas old.sectors told new.core x
  asks r =
      let s = ready_one.session r.plan r.session r.member r.task r.ordered r.running in
      let m = ready_one.member r.plan r.session r.member r.task r.ordered r.running in
      let t = ready_one.task r.plan r.session r.member r.task r.ordered r.running in
      let o = ready_one.ordered r.plan r.session r.member r.task r.ordered r.running in
      let h = ready_one.stands r.plan r.session r.member r.task r.ordered r.running r.storage old.cpu r.stands.session in
      let runs = ready_one.running r.plan r.session r.member r.task r.ordered r.running in
      let k = made r.storage r.plan s m t o h runs refl in (
        objects_gone r.plan m k.job,
        r.storage,
        r.told,
        r.plan,
        with_job s m k.job,
        arrays_left r.storage r.plan s m t o h runs refl,
        storage_over r.storage old.areas old.sectors r.told old.cpu new (new_length r.storage r.plan s m t o h runs refl) r.stands.storage,
      )

  pub in_turn : RunsTask old → new.regs.s + 1 ≤ old.cpu.regs.s + 1
  in_turn r =
      let s = ready_one.session r.plan r.session r.member r.task r.ordered r.running in
      let m = ready_one.member r.plan r.session r.member r.task r.ordered r.running in
      let t = ready_one.task r.plan r.session r.member r.task r.ordered r.running in
      let o = ready_one.ordered r.plan r.session r.member r.task r.ordered r.running in
      let h = ready_one.stands r.plan r.session r.member r.task r.ordered r.running r.storage old.cpu r.stands.session in
      let runs = ready_one.running r.plan r.session r.member r.task r.ordered r.running in
      omega (arith, under_old r.storage r.plan s m t o h runs refl)

  -- what giving back keeps
  pub kept_after : RunsTask old → (after : Machine) → after.areas ≡ old.areas → after.tasks ≡ old.tasks → length after.sectors.links ≡ length old.sectors.links → GivesBack old new after → Keeps old after
  kept_after r after areas tasks count released =
      let (left, x, told, plan, s, is, b) = asks r in
      let g = released left x told plan s is b in
      record { core = sym g.beside.size ∙ ap (λ (a : Areas). a.size) areas ∙ r.stands.storage.size; sectors = count; given = ap given_of tasks }

  -- what is made
  pub gives : (after : Machine) → after.areas ≡ old.areas → after.tasks ≡ old.tasks → GivesBack old new after → (x : Storage) (told : Option (List (List ℕ))) (plan : Placement) (s : Session) (m : SessionJob) (t : Task) → IsInOrderButCounts s
      → MachineRepresents x told old plan s → IsRunning plan s.jobs m t → t.condition ≡ Ready → MakesInSegment x told plan s m t Done old after
  gives after areas tasks back x told plan s m t o h runs ready =
      let k = by x plan s m t o h.session runs ready in
      let kept = row_kept plan s m t o runs k.op k.next (k.leaves.calls (here m t k.next)) k.made.job [] k.made.touched k.made.is in
      let shows : TasksShow plan (with_job s m k.made.job) old.tasks = tables_after plan s m t o runs ready k.made.job kept (map task_row old.tasks.rows.items) (map job_row old.tasks.jobs) (counts_of old.tasks) h.tables in
      let left = arrays_left x plan s m t o h.session runs ready in
      let beside = storage_over x old.areas old.sectors told old.cpu new (new_length x plan s m t o h.session runs ready) h.storage in
      let r = back (objects_gone plan m k.made.job) x told plan (with_job s m k.made.job) left beside in
      let holes = only_holes (objects_gone plan m k.made.job) x new after.cpu plan (with_job s m k.made.job) (new.regs.s + 1) (old.cpu.regs.s + 1) left old.areas after.areas old.sectors after.sectors told beside r areas in
      let made : OperatorMade x told plan s m t old after =
      record {
        job = k.made.job;
        touched = k.made.touched;
        is = k.is ∙ k.made.is;
        present = k.made.present;
        storage = r.storage;
        stands = record { session = r.stands; storage = r.beside; tables = subst (TasksShow plan (with_job s m k.made.job)) (sym tasks) shows };
        released = r.released;
        changed = λ i. ⊎_elim
            (λ e. ⊎_elim (λ f. inl (e ∙ f)) (λ may. inr (inl may)) (k.made.changed i))
            (λ free. inr (inr (leaves_so x plan s m t o h.session runs, free)))
            (holes i);
      } in
      made_so x told plan s m t old after (code_there x plan s m t old.cpu new (meets x plan s m t o h.session runs)) (k.calls) made
