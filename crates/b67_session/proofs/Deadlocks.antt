-- Once tasks have ended: who is stuck, and the job after DEADLOCK.
use Rattle.std.proofs.Common.{◌≡◌, ◌≢◌, ℕ, ◌+◌, ◌<◌, ◌≤◌, Bool, true, false, not, List, [], ◌∷◌, ◌++◌, length, map, filter, take, Option, refl, sym, ap, ◌∙◌, subst, append-nil, append_assoc, get_or, arith}
use Rattle.std.specs.Prelude.{◌==◌}
use Rattle.std.specs.List.{list_any, list_all}
use Rattle.std.proofs.lemmas.List.{take_all, take_more, map-append}
use Rattle.std.proofs.lemmas.List.Elements.{filter-append}
use Rattle.b67_word.specs.declared.faults.Ending.{Ending}
use Rattle.b67_word.specs.declared.faults.Ending.TheVariants.{Deadlock, Limit}
use Rattle.b67_lemmas.specs.Lists.{Has}
use Rattle.b67_lemmas.proofs.Members.{all_in}
use Rattle.b67_lemmas.proofs.Keyed.{change_same}
use Rattle.b67_model.specs.Common.{Condition, Array, Task, Job, SessionJob, Settled, all_with, among, released, is_ready, is_owned_by, deadlocked, deepest_first, ends_each_if, ends_task, unsettled, IsSegment, TasksInOrder, number_of, Session}
use Rattle.b67_law.proofs.Numbered.{keyed_member}
use Rattle.b67_law.proofs.Deepest.{others, with_stuck, is_stuck, first_endings}
use Rattle.b67_law.proofs.FirstTasks.{emptied, each_emptied}
use Rattle.b67_stack.specs.Represents.{Storage}
use Rattle.b67_layout.specs.Common.{with_job, JobInOrderButCounts, IsInOrderButCounts, Placement}
use Rattle.b67_task.specs.declared.tables.TaskRow.{TaskRow}
use Rattle.b67_task.specs.declared.tables.Tasks.{Tasks}
use Rattle.b67_task.specs.declared.tables.Machine.{Machine}
use Rattle.b67_task.specs.Tables.{MachineRepresents}
use Rattle.b67_task.specs.Deaths.{ending_numbers}
use Rattle.b67_task.specs.Family.{TablesHold}
use Rattle.b67_session.specs.Closing.{is_dead_of, left_ready, others_of}
use Rattle.b67_session.specs.Ends.{StandsInPlace}
use Rattle.b67_session.proofs.AtLimits.{no_tasks, some_tasks}
use Rattle.b67_session.proofs.InPlace.{in_place_same}
use Rattle.b67_session.proofs.Stuck.{dead_is, rows_tell}

-- ---- lists

pub copied_more : (copy new list : List (ℕ × Ending)) (at : ℕ) (d : ℕ × Ending) → at < length list → copy ≡ take at list → new ≡ copy ++ (get_or list at d ∷ []) → new ≡ take (at + 1) list
copied_more copy new list at d low e is = is ∙ ap (λ (l : List (ℕ × Ending)). l ++ (get_or list at d ∷ [])) e ∙ sym (take_more list at d low)

filter_same : (p q : ℕ → Bool) (ns : List ℕ) → ((n : ℕ) → p n ≡ q n) → filter p ns ≡ filter q ns
filter_same p q [] same = refl
filter_same p q (n ∷ ns) same = grind arith

pub others_is : (dead : List (ℕ × Ending)) (ns : List ℕ) → others_of dead ns ≡ others (ending_numbers dead) ns
others_is dead ns = filter_same (λ (n : ℕ). not (is_dead_of dead n)) (λ (n : ℕ). not (among (ending_numbers dead) n)) ns (λ n. ap not (dead_is dead n))

pub joined_none : (dead : List (ℕ × Ending)) (n : ℕ) (list : List (ℕ × Ending)) {b : Bool} → b ≡ true → b ≡ is_dead_of dead n → list ≡ list ++ all_with Deadlock (others_of dead (n ∷ []))
joined_none dead n list t e = grind (arith, append-nil)

pub joined_one : (dead : List (ℕ × Ending)) (n : ℕ) (list new : List (ℕ × Ending)) {b : Bool} → b ≡ false → b ≡ is_dead_of dead n → new ≡ list ++ (n, Deadlock) ∷ []
    → new ≡ list ++ all_with Deadlock (others_of dead (n ∷ []))
joined_one dead n list new t e is = grind arith

module _ (dead first : List (ℕ × Ending)) where
  abbrev Stuck : List ℕ → List (ℕ × Ending)
  Stuck ns = first ++ all_with Deadlock (others_of dead ns)

  pub stuck_more : (list new : List (ℕ × Ending)) (ns : List ℕ) (at d : ℕ) → at < length ns → list ≡ Stuck (take at ns) → new ≡ list ++ all_with Deadlock (others_of dead (get_or ns at d ∷ []))
      → new ≡ Stuck (take (at + 1) ns)
  stuck_more list new ns at d low e more =
      let stays : ℕ → Bool = λ n. not (is_dead_of dead n) in
      let one : List ℕ = get_or ns at d ∷ [] in
      let before : List ℕ = take at ns in
      let joined : others_of dead (before ++ one) ≡ others_of dead before ++ others_of dead one = filter-append stays before one in
      grind (arith, map-append, append_assoc, take_more)

  pub stuck_all : (list : List (ℕ × Ending)) (ns : List ℕ) (at : ℕ) → length ns ≤ at → list ≡ Stuck (take at ns) → list ≡ Stuck ns
  stuck_all list ns at past e = e ∙ ap (λ (l : List ℕ). Stuck l) (take_all at ns past)

-- ---- the endings

pub turned : (b c : Bool) → c ≡ not b → b ≡ not c
turned b c e = grind arith

module _ (plan : Placement) (s : Session) (tasks : Tasks) (h : TablesHold plan s tasks) (m : SessionJob) (inm : Has s.jobs m) (dead : List (ℕ × Ending)) where
  module _ (number : ℕ) (ending : Ending) (e : dead ≡ (ends_task m.progress.job number ending).endings) where
    abbrev gone : Settled
    gone = ends_task m.progress.job number ending

    abbrev waiting : List (ℕ × Ending) → Bool
    waiting endings = list_all (λ (t : Task). not (is_ready t)) (map (λ (t : Task). record t { condition = released (ending_numbers endings) t.condition }) (filter (λ (t : Task). not (among (ending_numbers endings) t.number)) m.progress.job.tasks))

    pub stuck_is : (job : ℕ) → m.constants.number ≡ job → is_stuck m.progress.job number ending ≡ not (list_any (left_ready job dead) tasks.rows.items)
    stuck_is job own =
        let tells : list_any (left_ready m.constants.number dead) tasks.rows.items ≡ not (waiting dead) = rows_tell plan s tasks h m inm dead in
        let here : list_any (left_ready m.constants.number dead) tasks.rows.items ≡ not (is_stuck m.progress.job number ending) = tells ∙ ap (λ (l : List (ℕ × Ending)). not (waiting l)) e in
        turned (is_stuck m.progress.job number ending) (list_any (left_ready job dead) tasks.rows.items) (subst (λ (n : ℕ). list_any (left_ready n dead) tasks.rows.items ≡ not (is_stuck m.progress.job number ending)) own here)

    endings_by : (b : Bool) → is_stuck m.progress.job number ending ≡ b → (deadlocked gone).endings ≡ with_stuck b gone.endings m.progress.job.tasks
    endings_by b is = first_endings m.progress.job number ending ∙ ap (λ (c : Bool). with_stuck c gone.endings m.progress.job.tasks) is

    module _ (job : ℕ) (own : m.constants.number ≡ job) {b : Bool} where
      pub none_stuck : b ≡ true → b ≡ list_any (left_ready job dead) tasks.rows.items → (list : List (ℕ × Ending)) → list ≡ dead → list ≡ (deadlocked gone).endings
      none_stuck t tells list copy =
          let is : is_stuck m.progress.job number ending ≡ false = stuck_is job own ∙ ap not (sym tells ∙ t) in
          copy ∙ e ∙ sym (endings_by false is)

      pub all_stuck : b ≡ false → b ≡ list_any (left_ready job dead) tasks.rows.items → (list : List (ℕ × Ending)) → list ≡ dead → (live : List ℕ) → live ≡ deepest_first m.progress.job.tasks
          → (new : List (ℕ × Ending)) → new ≡ list ++ all_with Deadlock (others_of dead live) → new ≡ (deadlocked gone).endings
      all_stuck t tells list copy live lives new more =
          let is : is_stuck m.progress.job number ending ≡ true = stuck_is job own ∙ ap not (sym tells ∙ t) in
          let deep : List ℕ = deepest_first m.progress.job.tasks in
          more
          ∙ ap (λ (l : List (ℕ × Ending)). l ++ all_with Deadlock (others_of dead live)) copy
          ∙ ap (λ (ns : List ℕ). dead ++ all_with Deadlock (others_of dead ns)) lives
          ∙ ap (λ (ns : List ℕ). dead ++ all_with Deadlock ns) (others_is dead deep)
          ∙ ap (λ (l : List (ℕ × Ending)). l ++ all_with Deadlock (others (ending_numbers l) deep)) e
          ∙ sym (endings_by true is)

-- ---- a job of which no task is ready

released_none : (c : Condition) → released [] c ≡ c
released_none c = grind arith

left_same : (ts : List Task) → map (λ (t : Task). record t { condition = released [] t.condition }) (filter (λ (t : Task). not (among [] t.number)) ts) ≡ ts
left_same [] = refl
left_same (t ∷ ts) = ap (λ (c : Condition). record t { condition = c } ∷ map (λ (u : Task). record u { condition = released [] u.condition }) (filter (λ (u : Task). not (among [] u.number)) ts)) (released_none t.condition) ∙ ap (λ (us : List Task). t ∷ us) (left_same ts)

kept_arrays : (arrays : List Array) → filter (λ (a : Array). not (is_owned_by [] a)) arrays ≡ arrays
kept_arrays [] = refl
kept_arrays (a ∷ arrays) = ap (λ (l : List Array). a ∷ l) (kept_arrays arrays)

emptied_same : (job : Job) → job.tasks ≡ [] → emptied job ≡ job
emptied_same job none =
    ap (λ (ts : List Task). record job { tasks = []; arrays = filter (λ (a : Array). not (is_owned_by ts a)) job.arrays }) none
    ∙ ap (λ (l : List Array). record job { tasks = []; arrays = l }) (kept_arrays job.arrays)
    ∙ ap (λ (ts : List Task). record job { tasks = ts }) (sym none)

module _ (x : Storage) (told : Option (List (List ℕ))) (k : Machine) (plan : Placement) (s : Session) (m : SessionJob) (o : IsInOrderButCounts s) (h : MachineRepresents x told k plan s) (inm : Has s.jobs m) where
  abbrev job : Job
  job = m.progress.job

  order : TasksInOrder (IsSegment m.constants) m.constants job
  order = (all_in (λ (y : SessionJob). JobInOrderButCounts (IsSegment y.constants) y.constants y.progress) s.jobs m o.jobs inm).tasks

  holds : TablesHold plan s k.tasks
  holds = record { ordered = o; fits = h.session.holds.fits.rows; few = h.session.holds.fits.few; shows = h.tables }

  abbrev all_wait : Bool
  all_wait = list_all (λ (t : Task). not (is_ready t)) job.tasks

  pub wait_is : (n : ℕ) → m.constants.number ≡ n → all_wait ≡ not (list_any (left_ready n []) k.tasks.rows.items)
  wait_is n own =
      let tells : list_any (left_ready m.constants.number []) k.tasks.rows.items ≡ not all_wait =
      rows_tell plan s k.tasks holds m inm [] ∙ ap (λ (ts : List Task). not (list_all (λ (t : Task). not (is_ready t)) ts)) (left_same job.tasks) in
      turned all_wait (list_any (left_ready n []) k.tasks.rows.items) (subst (λ (i : ℕ). list_any (left_ready i []) k.tasks.rows.items ≡ not all_wait) own tells)

  job_by : (b : Bool) → all_wait ≡ b → (deadlocked (unsettled job)).job ≡ (ends_each_if b Deadlock (unsettled job)).job
  job_by b is = ap (λ (c : Bool). (ends_each_if c Deadlock (unsettled job)).job) is

  with_same : with_job s m job ≡ s
  with_same = ap (λ (js : List SessionJob). record s { jobs = js }) (change_same number_of m.constants.number (λ (y : SessionJob). record y { progress = m.progress }) s.jobs m (keyed_member 1 s.jobs m o.numbered inm) refl)

  stands_same : (deadlocked (unsettled job)).job ≡ job → StandsInPlace x told k plan s (with_job s m (deadlocked (unsettled job)).job)
  stands_same e = subst (λ (j : Job). StandsInPlace x told k plan s (with_job s m j)) (sym e) (subst (StandsInPlace x told k plan s) (sym with_same) (record { whole = record { storage = x; plan = plan; stands = h }; left = in_place_same x plan s }))

  module _ (n : ℕ) (own : m.constants.number ≡ n) {b : Bool} where
    -- one is ready
    pub goes_same : b ≡ true → b ≡ list_any (left_ready n []) k.tasks.rows.items → StandsInPlace x told k plan s (with_job s m (deadlocked (unsettled job)).job)
    goes_same t tells = stands_same (job_by false (wait_is n own ∙ ap not (sym tells ∙ t)))

    -- none lives
    pub none_same : b ≡ false → b ≡ list_any (λ (r : TaskRow). r.job == n) k.tasks.rows.items → StandsInPlace x told k plan s (with_job s m (deadlocked (unsettled job)).job)
    none_same t tells =
        let none : job.tasks ≡ [] = no_tasks plan s k.tasks o.numbered h.tables m inm (ap (λ (i : ℕ). list_any (λ (r : TaskRow). r.job == i) k.tasks.rows.items) own ∙ sym tells ∙ t) in
        let waits : all_wait ≡ true = ap (list_all (λ (u : Task). not (is_ready u))) none in
        stands_same (job_by true waits ∙ each_emptied (IsSegment m.constants) m.constants job order Deadlock ∙ emptied_same job none)

    -- all wait
    pub lives_still : b ≡ true → b ≡ list_any (λ (r : TaskRow). r.job == n) k.tasks.rows.items → job.tasks ≢ []
    lives_still t tells = some_tasks plan s k.tasks o.numbered h.tables m inm (ap (λ (i : ℕ). list_any (λ (r : TaskRow). r.job == i) k.tasks.rows.items) own ∙ sym tells ∙ t)

    pub all_gone : b ≡ false → b ≡ list_any (left_ready n []) k.tasks.rows.items → (new : Machine) → StandsInPlace x told new plan s (with_job s m (ends_each_if true Limit (unsettled job)).job) → StandsInPlace x told new plan s (with_job s m (deadlocked (unsettled job)).job)
    all_gone t tells new stands =
        let same : (deadlocked (unsettled job)).job ≡ (ends_each_if true Limit (unsettled job)).job =
        job_by true (wait_is n own ∙ ap not (sym tells ∙ t)) ∙ each_emptied (IsSegment m.constants) m.constants job order Deadlock ∙ sym (each_emptied (IsSegment m.constants) m.constants job order Limit) in
        subst (λ (j : Job). StandsInPlace x told new plan s (with_job s m j)) (sym same) stands
