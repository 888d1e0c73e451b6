-- Neither core nor the tables show which tasks of a job have ended.
use Rattle.std.proofs.Common.{◌≡◌, ℕ, List, [], ◌∷◌, ◌++◌, Option, Some, refl, sym, ap, ◌∙◌, subst, inl, inr, arith}
use Rattle.std.proofs.lemmas.Bool.Decides.{eqb_tells}
use Rattle.b67_word.specs.declared.faults.Ending.{Ending}
use Rattle.b67_lemmas.specs.Lists.{Has}
use Rattle.b67_lemmas.proofs.Keyed.{change_is}
use Rattle.b67_model.specs.Common.{Task, Job, SessionJob, number_of, Session}
use Rattle.b67_model.specs.Keyed.{keyed, change_keyed}
use Rattle.b67_stack.specs.declared.Cpu.{Cpu}
use Rattle.b67_stack.specs.Common.{MachineView, NoOriginalAboveTop as Calm, Storage, Represents}
use Rattle.b67_layout.specs.Common.{Placement, machine_view, JobCounts, TaskShows, JobsShow, TablesShow, RepresentsSession, with_objects}
use Rattle.b67_layout.specs.Rows as rows
use Rattle.b67_layout.proofs.Common.{AllAlike, SameJobs, same_machine_view, RepresentsSession-over}
use Rattle.b67_task.specs.declared.tables.Machine.{Machine}
use Rattle.b67_task.specs.Tables.{MachineRepresents}

abbrev pub Gone : Type 0
Gone = List (ℕ × Ending)

-- the member with other endings
abbrev pub with_gone : SessionJob → Gone → SessionJob
with_gone m gone = record m { progress = record m.progress { ended = gone } }

-- the same jobs but for which tasks have ended
abbrev pub AllEnded : List SessionJob → List SessionJob → Type 0
AllEnded [] [] = Unit {0}
AllEnded (m ∷ ms) (n ∷ ns) = ((gone : Gone) × (n ≡ with_gone m gone)) × AllEnded ms ns
AllEnded _ _ = ⊥

alike_of : (ms ns : List SessionJob) → AllEnded ms ns → AllAlike ms ns
alike_of [] [] e = tt
alike_of (m ∷ ms) (n ∷ ns) e = grind (arith, alike_of ms ns e.1)
alike_of [] (n ∷ ns) e = absurd e
alike_of (m ∷ ms) [] e = absurd e

same_of : (ms ns : List SessionJob) → AllEnded ms ns → SameJobs ms ns
same_of [] [] e = tt
same_of (m ∷ ms) (n ∷ ns) e = (record { constants = ap (λ (y : SessionJob). y.constants) e.0.1; job = ap (λ (y : SessionJob). y.progress.job) e.0.1 }, same_of ms ns e.1)
same_of [] (n ∷ ns) e = absurd e
same_of (m ∷ ms) [] e = absurd e

-- ---- the tables

task_shows : (plan : Placement) (m n : SessionJob) (gone : Gone) (t : Task) (row : rows.TaskRow) → n ≡ with_gone m gone → TaskShows plan m t row → TaskShows plan n t row
task_shows plan m n gone t row e w =
    subst (λ (y : SessionJob). TaskShows plan y t row) (sym e)
    (record { job = w.job; number = w.number; slot = w.slot; parent = w.parent; critical = w.critical; state = w.state; segment = w.segment; place = w.place })

jobs_show : (plan : Placement) (ms ns : List SessionJob) (rs : List rows.JobRow) → AllEnded ms ns → JobsShow plan ms rs → JobsShow plan ns rs
jobs_show plan [] [] rs e h = h
jobs_show plan (m ∷ ms) (n ∷ ns) [] e h = absurd h
jobs_show plan (m ∷ ms) (n ∷ ns) (r ∷ rs) e h = grind (arith, jobs_show plan ms ns rs e.1 h.1)
jobs_show plan [] (n ∷ ns) rs e h = absurd e
jobs_show plan (m ∷ ms) [] rs e h = absurd e

record Twin (ms : List SessionJob) (n : SessionJob) : Type 0 where
  pub member : SessionJob
  pub among : Has ms member
  pub gone : Gone
  pub is : n ≡ with_gone member gone

twin : (ms ns : List SessionJob) (n : SessionJob) → AllEnded ms ns → Has ns n → Twin ms n
twin [] [] n e h = absurd h
twin (m ∷ ms) (y ∷ ns) n e (inl same) = record { member = m; among = inl refl; gone = e.0.0; is = sym same ∙ e.0.1 }
twin (m ∷ ms) (y ∷ ns) n e (inr later) = let t = twin ms ns n e.1 later in record { member = t.member; among = inr t.among; gone = t.gone; is = t.is }
twin [] (y ∷ ns) n e h = absurd e
twin (m ∷ ms) [] n e h = absurd e

record Other (ns : List SessionJob) (m : SessionJob) : Type 0 where
  pub member : SessionJob
  pub among : Has ns member
  pub gone : Gone
  pub is : member ≡ with_gone m gone

other : (ms ns : List SessionJob) (m : SessionJob) → AllEnded ms ns → Has ms m → Other ns m
other [] [] m e h = absurd h
other (y ∷ ms) (n ∷ ns) m e (inl same) = record { member = n; among = inl refl; gone = e.0.0; is = e.0.1 ∙ ap (λ (z : SessionJob). with_gone z e.0.0) same }
other (y ∷ ms) (n ∷ ns) m e (inr later) = let t = other ms ns m e.1 later in record { member = t.member; among = inr t.among; gone = t.gone; is = t.is }
other [] (n ∷ ns) m e h = absurd e
other (y ∷ ms) [] m e h = absurd e

module _ (plan : Placement) (s : Session) (jobs : List SessionJob) (e : AllEnded s.jobs jobs) where
  abbrev after : Session
  after = record s { jobs = jobs }

  tables_show : (rs : List rows.TaskRow) (js : List rows.JobRow) (c : JobCounts) → TablesShow plan s rs js c → TablesShow plan after rs js c
  tables_show rs js c h = record {
    tasks = λ row inr'.
        let (m, t, inm, int, w) = h.tasks row inr' in
        let o = other s.jobs jobs m e inm in
        (o.member, t, o.among, subst (λ (y : SessionJob). Has y.progress.job.tasks t) (sym o.is) int, task_shows plan m o.member o.gone t row o.is w);
    each = λ n t inn int.
        let k = twin s.jobs jobs n e inn in
        let (row, among, w) = h.each k.member t k.among (subst (λ (y : SessionJob). Has y.progress.job.tasks t) k.is int) in
        (row, among, task_shows plan k.member n k.gone t row k.is w);
    once = h.once;
    jobs = jobs_show plan s.jobs jobs js e h.jobs;
    counts = record {
      quantum = h.counts.quantum;
      made = h.counts.made;
      turn = h.counts.turn;
      last_job = h.counts.last_job;
      last_number = h.counts.last_number;
      switches = h.counts.switches;
      next = h.counts.next;
      past = h.counts.past;
      running = h.counts.running;
    };
  }

  pub view_ended : machine_view plan jobs ≡ machine_view plan s.jobs
  view_ended = same_machine_view plan s.jobs jobs (same_of s.jobs jobs e)

  session_stands : (x : Storage) (cpu : Cpu) → RepresentsSession x cpu plan s → RepresentsSession x cpu plan after
  session_stands x cpu h =
      let view : machine_view plan jobs ≡ machine_view plan s.jobs = view_ended in
      RepresentsSession-over [] [] x x cpu cpu plan s after h (alike_of s.jobs jobs e) refl refl refl refl
      (subst (λ (p : MachineView). Represents x cpu.core cpu.regs (with_objects [] p)) (sym view) h.holds.memory)
      (subst Calm (sym view) h.holds.settled)
      (λ i low other homes. refl)

  pub stands_ended : (x : Storage) (told : Option (List (List ℕ))) (k : Machine) → MachineRepresents x told k plan s → MachineRepresents x told k plan after
  stands_ended x told k h = record { session = session_stands x k.cpu h.session; storage = h.storage; tables = tables_show _ _ _ h.tables }

-- ---- the session after the last part

ended_refl : (ms : List SessionJob) → AllEnded ms ms
ended_refl [] = tt
ended_refl (m ∷ ms) = ((m.progress.ended, refl), ended_refl ms)

module _ (n : ℕ) (m : SessionJob) (job : Job) (gone : Gone) where
  abbrev put : SessionJob → SessionJob
  put y = record y { progress = record m.progress { job = job } }

  abbrev put_gone : SessionJob → SessionJob
  put_gone y = record y { progress = record m.progress { job = job; ended = gone } }

  changed_ended : (ms : List SessionJob) → AllEnded (change_keyed number_of n put ms) (change_keyed number_of n put_gone ms)
  changed_ended [] = tt
  changed_ended (y ∷ ms) = elim (eqb_tells (number_of y) n) [
    | inl t ↦ rw t.0 ((gone, refl), ended_refl ms)
    | inr t ↦ rw t.0 ((y.progress.ended, refl), changed_ended ms)
  ]

-- the job of a member with its endings behind those before
pub part_ended : (n : ℕ) (m : SessionJob) (job : Job) (endings : Gone) (ms : List SessionJob) → keyed number_of n ms ≡ Some m
    → AllEnded (change_keyed number_of n (λ (y : SessionJob). record y { progress = record m.progress { job = job } }) ms)
    (change_keyed number_of n (λ (y : SessionJob). record y { progress = record y.progress { job = job; ended = y.progress.ended ++ endings } }) ms)
part_ended n m job endings ms found =
    let A : List SessionJob = change_keyed number_of n (put n m job endings) ms in
    let own : SessionJob → SessionJob = λ y. record y { progress = record y.progress { job = job; ended = y.progress.ended ++ endings } } in
    let gone : Gone = m.progress.ended ++ endings in
    let same : change_keyed number_of n (put_gone n m job gone) ms ≡ change_keyed number_of n own ms =
    change_is number_of n (put_gone n m job gone) m ms found ∙ sym (change_is number_of n own m ms found) in
    subst (λ (ns : List SessionJob). AllEnded A ns) same (changed_ended n m job gone ms)
