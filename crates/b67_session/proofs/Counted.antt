-- The machine once an operator is counted.
use Rattle.std.proofs.Common.{◌≡◌, ℕ, ◌+◌, List, [], ◌∷◌, length, Option, Some, refl, sym, ap, subst, arith}
use Rattle.b67_lemmas.proofs.Members.{keyed_has, total_has}
use Rattle.b67_lemmas.proofs.Sums.{sum_total}
use Rattle.b67_model.specs.Common.{JobProgress, SessionJob, JobMoment, IsInOrderButPlaces, number_of, with_moment, Session}
use Rattle.b67_model.specs.Keyed.{keyed, change_keyed}
use Rattle.b67_stack.specs.declared.Cpu.{Cpu}
use Rattle.b67_stack.specs.Common.{MachineView, NoOriginalAboveTop as Calm, Storage, Represents}
use Rattle.b67_layout.specs.Common.{Placement, machine_view, RepresentsSession, with_objects, with_job}
use Rattle.b67_layout.proofs.Common.{AllAlike, SameJobs, same_machine_view, RepresentsSession-over}
use Rattle.b67_task.specs.declared.tables.Tasks.{Tasks}
use Rattle.b67_task.specs.declared.tables.Machine.{Machine}
use Rattle.b67_task.specs.Tables.{MachineRepresents}
use Rattle.b67_task.specs.declared.counting.Chosen.{Chosen}
use Rattle.b67_task.specs.Counted.{choice_of}
use Rattle.b67_session.specs.Counts.{IsCounted}

pub alike_refl : (ms : List SessionJob) → AllAlike ms ms
alike_refl [] = tt
alike_refl (m ∷ ms) = (record { number = refl; stack_size = refl; dictionary = refl; count = refl; tasks = refl }, alike_refl ms)

pub same_refl : (ms : List SessionJob) → SameJobs ms ms
same_refl [] = tt
same_refl (m ∷ ms) = (record { constants = refl; job = refl }, same_refl ms)

-- two courses with the same job
module _ (n : ℕ) (a b : JobProgress) (job : b.job ≡ a.job) where
  abbrev put : JobProgress → SessionJob → SessionJob
  put progress y = record y { progress = progress }

  changed_alike : (ms : List SessionJob) → AllAlike (change_keyed number_of n (put a) ms) (change_keyed number_of n (put b) ms)
  changed_alike [] = tt
  changed_alike (y ∷ ms) = grind (arith, alike_refl, changed_alike ms)

  changed_same : (ms : List SessionJob) → SameJobs (change_keyed number_of n (put a) ms) (change_keyed number_of n (put b) ms)
  changed_same [] = tt
  changed_same (y ∷ ms) = grind (arith, same_refl, changed_same ms)

module _ (s : Session) (c : Chosen) (m : SessionJob) (moment : JobMoment) (o : IsInOrderButPlaces s) (found : keyed number_of c.job s.jobs ≡ Some m) (alive : moment.alive ≡ length m.progress.job.tasks) where
  abbrev after : Session
  after = with_moment s (choice_of c) m moment

  -- no task was started
  same_peak : after.peak ≡ s.peak
  same_peak =
      let k = keyed_has number_of c.job s.jobs m found in
      grind (arith, total_has, sum_total)

  named : let own : JobProgress = record m.progress { job = moment.progress.job } in change_keyed number_of m.constants.number (put m.constants.number own moment.progress refl moment.progress) s.jobs ≡ after.jobs
  named = ap (λ (n : ℕ). change_keyed number_of n (λ (y : SessionJob). record y { progress = moment.progress }) s.jobs) (keyed_has number_of c.job s.jobs m found).1

  -- core shows no counts
  pub counted_view : (plan : Placement) → machine_view plan after.jobs ≡ machine_view plan (with_job s m moment.progress.job).jobs
  counted_view plan =
      let before : Session = with_job s m moment.progress.job in
      let own : JobProgress = record m.progress { job = moment.progress.job } in
      same_machine_view plan before.jobs after.jobs (subst (λ (js : List SessionJob). SameJobs before.jobs js) named (changed_same m.constants.number own moment.progress refl s.jobs))

  session_stands : (x : Storage) (cpu : Cpu) (plan : Placement) → RepresentsSession x cpu plan (with_job s m moment.progress.job) → RepresentsSession x cpu plan after
  session_stands x cpu plan h =
      let before : Session = with_job s m moment.progress.job in
      let own : JobProgress = record m.progress { job = moment.progress.job } in
      let alike : AllAlike before.jobs after.jobs = subst (λ (js : List SessionJob). AllAlike before.jobs js) named (changed_alike m.constants.number own moment.progress refl s.jobs) in
      let view : machine_view plan after.jobs ≡ machine_view plan before.jobs = counted_view plan in
      RepresentsSession-over [] [] x x cpu cpu plan before after h alike same_peak refl refl refl
      (subst (λ (p : MachineView). Represents x cpu.core cpu.regs (with_objects [] p)) (sym view) h.holds.memory)
      (subst Calm (sym view) h.holds.settled)
      (λ i low other homes. refl)

  pub counted_stands : (x : Storage) (told : Option (List (List ℕ))) (k : Machine) (plan : Placement) (tasks : Tasks) → moment.progress.made ≡ m.progress.made + 1 → IsCounted c k.tasks tasks
      → MachineRepresents x told k plan (with_job s m moment.progress.job) → MachineRepresents x told (record k { tasks = tasks }) plan after
  counted_stands x told k plan tasks made counted h = record {
    session = session_stands x k.cpu plan h.session;
    storage = h.storage;
    tables = counted.shows plan s m moment o.numbered found made h.tables;
  }
