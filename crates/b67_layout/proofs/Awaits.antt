-- What the machine represents doesn't depend on what the running task waits for.
use Rattle.std.proofs.Common.{◌≡◌, ℕ, List, refl, sym, ◌∙◌, ap, subst, true, false, ◌==◌, ⊎_elim, arith}
use Rattle.std.proofs.lemmas.Bool.{cases_Bool, eqb-true}
use Rattle.b67_model.specs.Keyed.{change_keyed}
use Rattle.b67_model.specs.Common.{Condition, Task, Job, SessionJob, with_task, number_of, Session}
use Rattle.b67_stack.specs.declared.Cpu.{Cpu}
use Rattle.b67_stack.specs.Common.{StackPlace, Activation, PagedObject, Slot, Running, MachineView, NoOriginalAboveTop, Storage, Represents, with_stack}
use Rattle.b67_layout.specs.Common.{Placement, slot_of, spot_in, spots, machine_view, stack_of_task, with_job, IsRunning, ShowsDisplay, with_objects, SessionHoldsBut, RepresentsSessionBut}
use Rattle.b67_layout.proofs.Displays.{Shows-same}
use Rattle.b67_layout.proofs.Others.{OnTop}
use Rattle.b67_layout.proofs.Rows.{runs_on}
use Rattle.b67_layout.proofs.Sessions.{running_only, course_twice}
use Rattle.b67_layout.proofs.Steps.{IsFree}
use Rattle.b67_layout.proofs.Conditions.{waiting}
use Rattle.b67_layout.proofs.Tops.{SessionHolds-top, still_running, outer-same}
use Rattle.b67_lemmas.proofs.Members.{change_twice, keyed_has}

pub with_job-twice : (s : Session) (m : SessionJob) (one two : Job) → with_job (with_job s m one) (record m { progress = record m.progress { job = one } }) two ≡ with_job s m two
with_job-twice s m one two = ap (λ (js : List SessionJob). record s { jobs = js }) (course_twice s.jobs m.constants.number (record m.progress { job = one }) (record m.progress { job = two }))

-- the stack that stands there already
same_stack : (p : MachineView) (k : ℕ) (stack : List Activation) → p.slots k ≡ Running stack → with_stack p k stack ≡ p
same_stack p k stack is = grind arith

module _ (left : List PagedObject) (x : Storage) (cpu : Cpu) (plan : Placement) (s : Session) (m : SessionJob) (job : Job) (u : Task) (c d : Condition) (n : ℕ) where
  abbrev moved : Condition → SessionJob
  moved e = record m { progress = record m.progress { job = with_task job (waiting u e) } }

  abbrev session : Condition → Session
  session e = with_job s m (with_task job (waiting u e))

  pub RepresentsSession-condition : RepresentsSessionBut left x cpu plan (with_job s m (with_task job (waiting u c))) → IsRunning plan (with_job s m (with_task job (waiting u c))).jobs (record m { progress = record m.progress { job = with_task job (waiting u c) } }) (waiting u c)
      → IsFree (with_task job (waiting u c)) n → RepresentsSessionBut left x cpu plan (with_job s m (with_task job (waiting u d)))
  RepresentsSession-condition h runs free =
      let m1 = moved c in
      let t1 = waiting u c in
      let td = waiting u d in
      let s1 = session c in
      let job_d = with_task job td in
      let tasks : job_d.tasks ≡ change_keyed (λ (v : Task). v.number) u.number (λ (v : Task). td) m1.progress.job.tasks = sym (change_twice (λ (v : Task). v.number) u.number t1 td job.tasks refl) in
      let top : OnTop m1.progress.job job_d t1 td n = record {
        there = runs.task;
        number = refl;
        critical = refl;
        parents = refl;
        tasks = tasks;
        arrays = refl;
        some = free.some;
        uncritical = free.uncritical;
        same = λ e k o id ne. refl;
      } in
      let stack = stack_of_task plan m1.constants.number m1.progress.job plan.running t1 in
      let p = machine_view plan s1.jobs in
      let on = runs_on plan s1.jobs m1 t1 h.holds.fits.rows (keyed_has number_of m1.constants.number s1.jobs m1 runs.member).0 (keyed_has (λ (v : Task). v.number) u.number m1.progress.job.tasks t1 runs.task).0 runs.slot runs.member runs.task in
      let is : with_stack p plan.running stack ≡ p = same_stack p plan.running stack on.is in
      let P : MachineView → Type 0 = λ z. Represents x cpu.core cpu.regs (with_objects left z) in
      let o = h.holds.running m1 t1 runs in
      let holds : SessionHoldsBut left x cpu.core cpu.regs cpu.critical plan (with_job s1 m1 job_d) =
      SessionHolds-top left x cpu.core cpu.core cpu.regs cpu.regs cpu.critical plan s1 m1 t1 h.holds runs job_d u.frames u.segment u.place d n top stack (λ i low. refl)
      (record { slot = refl; dict = refl; entries = refl; segment = o.segment; place = o.place }) refl refl (subst P (sym is) h.holds.memory) (subst NoOriginalAboveTop (sym is) h.holds.settled) in
      let still = still_running left x cpu.core cpu.core cpu.regs cpu.regs cpu.critical plan s1 m1 t1 h.holds runs job_d u.frames u.segment u.place d n top in
      let places : (id : ℕ) → spots plan m.constants.number job_d td id ≡ spots plan m.constants.number m1.progress.job t1 id = λ id.
      ap (λ (q : ℕ → StackPlace). spot_in (slot_of plan m.constants.number u.number) q u.frames id) (outer-same left x cpu.core cpu.core cpu.regs cpu.regs cpu.critical plan s1 m1 t1 h.holds runs job_d u.frames u.segment u.place d n top) in
      let shown : ShowsDisplay cpu.display plan (moved d) td = Shows-same cpu.display plan m1 (record m.progress { job = job_d }) t1 td runs.task tasks refl places (h.shows m1 t1 runs) in
      let whole : RepresentsSessionBut left x cpu plan (with_job s1 m1 job_d) = record {
        holds = holds;
        shows = λ y v k. running_only plan (with_job s1 m1 job_d).jobs (moved d) y td v (ShowsDisplay cpu.display plan) holds.fits.rows still k shown;
      } in
      subst (RepresentsSessionBut left x cpu plan) (with_job-twice s m m1.progress.job job_d) whole
