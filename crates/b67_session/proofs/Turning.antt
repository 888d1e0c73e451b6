-- An operator more of a turn that goes on.
use Rattle.std.proofs.Common.{◌≡◌, ◌≢◌, ℕ, suc, ◌+◌, ◌-◌, ◌<◌, ◌≤◌, true, false, List, [], ◌∷◌, ◌++◌, length, map, Option, Some, None, Ok, Err, refl, sym, ap, ◌∙◌, subst, arith, inl, inr, eqb, append-nil}
use Rattle.std.specs.List.{AllByRecursion}
use Rattle.std.proofs.lemmas.Bool.{cases_Bool, ne_eqb}
use Rattle.std.proofs.lemmas.Bool.Decides.{eqb_tells}
use Rattle.std.proofs.lemmas.List.Sums.{sum_by-cons}
use Rattle.std.proofs.lemmas.Option.{none-some}
use Rattle.b67_lemmas.proofs.Keyed.{change_is, keyed-change_same}
use Rattle.b67_lemmas.proofs.Members.{all_in, change_found, change_twice, keyed_has, total_has}
use Rattle.b67_lemmas.proofs.Places.{mapped_at}
use Rattle.b67_lemmas.proofs.Sums.{sum_total}
use Rattle.b67_model.specs.Common.{JobMoment, moment_with, deadlocked, unsettled, IsSegment, JobInOrder, NumberedFrom, IsInOrderButPlaces, need, touched_of, Reading, reading_of, step, step_by, RunLine, StepResult, next, after, lines, live_tasks, number_of, Session, Task, Job, JobProgress, SessionJob, Line, Goes}
use Rattle.b67_model.specs.Endings.{goes_on}
use Rattle.b67_model.specs.Keyed.{keyed, change_keyed}
use Rattle.b67_session_lines.specs.Moments.{last_part, joined}
use Rattle.b67_session_lines.proofs.Joins.{steps-have-parts}
use Rattle.b67_session_lines.proofs.Statuses.{after-add}
use Rattle.b67_law.proofs.Numbered.{numbered_low, tasks_of}
use Rattle.b67_law.specs.Profiles.{Profile, profile, profiles}
use Rattle.b67_law.proofs.Lemmas.{rows_keep}
use Rattle.b67_law.specs.Orders.{IsInOrderButLimit}
use Rattle.b67_law.specs.Turns.{IsNext, OrderAfter}
use Rattle.b67_law.proofs.Halves.{first_by}
use Rattle.b67_law.proofs.Limits.{last_parts_restore_order}
use Rattle.b67_law.proofs.TurnRuns.{Came, came-more}
use Rattle.b67_stack.specs.declared.Cpu.{Cpu}
use Rattle.b67_stack.specs.declared.Step.TheVariants as answers
use Rattle.b67_stack.specs.Common.{MachineView, NoOriginalAboveTop as Calm, Storage, Represents}
use Rattle.b67_layout.specs.Common.{machine_view, here, with_job, IsInOrderButCounts, Placement, slot_of, IsRunning, RunsSome, RepresentsSession, with_objects}
use Rattle.b67_layout.proofs.Common.{but_counts, AllAlike, SameJobs, same_machine_view, RepresentsSession-over, job_at}
use Rattle.b67_exec_cells.specs.Called as operators
use Rattle.b67_exec_cells.specs.Called.{called_in}
use Rattle.b67_exec_cells.specs.Running.{code_area}
use Rattle.b67_task.specs.declared.tables.Tasks.{Tasks}
use Rattle.b67_task.specs.declared.tables.Machine.{Machine}
use Rattle.b67_task.specs.Runs.{RunsTask}
use Rattle.b67_task.specs.Tables.{job_row, TasksShow, MachineRepresents}
use Rattle.b67_session.specs.Makes.{OperatorMade, MakesInSegment, ForEachReady}
use Rattle.b67_task.specs.declared.counting.Chosen.{Chosen}
use Rattle.b67_task.specs.Counted.{counted_more, counted_by, TurnHasRoom}
use Rattle.b67_task.specs.Lasting.{RulesLeave, Lasts, TurnLasts, BeforeHalt}
use Rattle.b67_task.proofs.Lasting.{lasts_choice}
use Rattle.b67_law.proofs.FewMade.{all_few}
use Rattle.b67_session.specs.Fits.{IsArrayOfJob}
use Rattle.b67_session.proofs.AttemptFits.{was_operator, made_touches}
use Rattle.b67_session.proofs.FittingMade.{made_fit}
use Rattle.b67_session.proofs.Started.{known_in}
use Rattle.b67_session.proofs.Still.{operator_many, operator_starts}
use Rattle.b67_session.proofs.Trying.{was_made}
use Rattle.b67_session.proofs.Counted.{alike_refl, same_refl}
use Rattle.b67_session.specs.InTurn.{HasTurnLeft, MadeInTurn}
use Rattle.b67_session.specs.Slices.{StandsAt, NextFits}
use Rattle.b67_session.specs.Steps.{GoesOnInTurn}
use Rattle.b67_session.proofs.Fitting.{fits_more}
use Rattle.b67_session.proofs.Halved.{kept}
use Rattle.b67_session.proofs.Lively.{Stays}
use Rattle.b67_session.proofs.Made.{half, half_ordered, half_lines, open_job}
use Rattle.b67_session.proofs.Next.{in_session, found, task_found, next_fits}
use Rattle.b67_model.specs.declared.limits.TheConstants.{MOST_LIMIT}

abbrev number : Task → ℕ
number t = t.number

-- ---- the task goes on

-- tasks of the same profiles: the one of a number
twin : (n : ℕ) (ts us : List Task) (t : Task) → profiles us ≡ profiles ts → keyed number n ts ≡ Some t → (u : Task) × (keyed number n us ≡ Some u) × (profile u ≡ profile t)
twin n [] us t same e = absurd (none-some t e)
twin n (x ∷ ts) [] t same e = absurd cc
twin n (x ∷ ts) (u ∷ us) t same e =
    let first : List Profile → Profile = λ ps. elim ps [ [] ↦ profile x | p ∷ more ↦ p ] in
    let rest : List Profile → List Profile = λ ps. elim ps [ [] ↦ [] | p ∷ more ↦ more ] in
    let is : profile u ≡ profile x = ap first same in
    let one : u.number ≡ x.number = ap (λ (p : Profile). p.number) is in
    elim (cases_Bool (eqb x.number n)) [
      | inl q ↦
          let test : eqb u.number n ≡ true = ap (λ (k : ℕ). eqb k n) one ∙ q in
          let at : Some x ≡ Some t = rw q at e in
          let here_is : x ≡ t = cc in
          (u, rw test refl, is ∙ ap profile here_is)
      | inr q ↦
          let test : eqb u.number n ≡ false = ap (λ (k : ℕ). eqb k n) one ∙ q in
          let (v, there, like) = twin n ts us t (ap rest same) (rw q at e) in
          (v, rw test there, like)
    ]

module _ (m : SessionJob) (t : Task) (live : keyed number t.number m.progress.job.tasks ≡ Some t) where
  profiles_by : (r : Reading) → operators.called_by_reading m t r ≡ None → (job : Job) (printed : List Line) (touched : Option ℕ) → step_by m.constants m.progress.job t r ≡ Ok (Goes job printed touched) → profiles job.tasks ≡ profiles m.progress.job.tasks
  profiles_by (Err why) none job printed touched is = absurd cc
  profiles_by (Ok read) none job printed touched is = (rows_keep read.0 (here m t read.1) (known_in t.number m.progress.job.tasks t live) none job printed touched is).0

  profiles_stay : called_in m t ≡ None → (job : Job) (printed : List Line) (touched : Option ℕ) → step m.constants m.progress.job t ≡ Ok (Goes job printed touched) → profiles job.tasks ≡ profiles m.progress.job.tasks
  unfolding step
  profiles_stay none job printed touched is = profiles_by (reading_of m.constants t) none job printed touched is

-- ---- the rules

-- one operator fewer is left after one
rules_after : (s later : Session) (left : ℕ) → 1 ≤ left → later.switches ≡ s.switches → later.made ≡ s.made + 1 → later.turn ≡ s.turn + 1 → later.quantum ≡ s.quantum → RulesLeave s left → RulesLeave later (left - 1)
rules_after s later left some switches made turn quantum h = grind arith

-- ---- a job below its limit

not_at_limit : (s : Session) (m : SessionJob) → keyed number_of s.last.job s.jobs ≡ Some m → m.progress.made < m.constants.limit → last_part s ≡ None
unfolding last_part
not_at_limit s m there low = grind (arith, ne_eqb)

-- ---- sessions that differ by counts of operators

-- a change of a member and another of the same one
twice : (j : ℕ) (f g : SessionJob → SessionJob) (m : SessionJob) (jobs : List SessionJob) → number_of (f m) ≡ j → keyed number_of j jobs ≡ Some m → change_keyed number_of j g (change_keyed number_of j f jobs) ≡ change_keyed number_of j (λ y. g (f m)) jobs
twice j f g m jobs number found =
    ap (change_keyed number_of j g) (change_is number_of j f m jobs found)
    ∙ change_is number_of j g (f m) (change_keyed number_of j (λ y. f m) jobs) (change_found number_of j m (f m) jobs number found)
    ∙ change_twice number_of j (f m) (g (f m)) jobs number

module _ (n j : ℕ) where
  abbrev more : List SessionJob → List SessionJob
  more jobs = change_keyed number_of j (counted_more n) jobs

  bare_all : (P : SessionJob → Type 0) → ((m : SessionJob) → P (counted_more n m) → P m) → (jobs : List SessionJob) → AllByRecursion P (more jobs) → AllByRecursion P jobs
  bare_all P back [] all = tt
  bare_all P back (m ∷ jobs) all = grind (arith, bare_all P back jobs)

  bare_length : (jobs : List SessionJob) → length (more jobs) ≡ length jobs
  bare_length [] = refl
  bare_length (m ∷ jobs) = elim (eqb_tells (number_of m) j) [ inl t ↦ rw t.0 refl | inr t ↦ rw t.0 (ap suc (bare_length jobs)) ]

  bare_numbered : (k : ℕ) (jobs : List SessionJob) → NumberedFrom k (more jobs) → NumberedFrom k jobs
  bare_numbered k [] d = tt
  bare_numbered k (m ∷ jobs) d = grind (arith, bare_numbered (k + 1) jobs)

  bare_live : (jobs : List SessionJob) → live_tasks (more jobs) ≡ live_tasks jobs
  bare_live [] = refl
  bare_live (m ∷ jobs) = elim (eqb_tells (number_of m) j) [
    | inl t ↦ rw t.0 (sum_by-cons (λ (y : SessionJob). length y.progress.job.tasks) (counted_more n m) jobs ∙ sym (sum_by-cons (λ (y : SessionJob). length y.progress.job.tasks) m jobs))
    | inr t ↦ rw t.0 (sum_by-cons (λ (y : SessionJob). length y.progress.job.tasks) m (more jobs) ∙ ap (λ (i : ℕ). length m.progress.job.tasks + i) (bare_live jobs) ∙ sym (sum_by-cons (λ (y : SessionJob). length y.progress.job.tasks) m jobs))
  ]

  more_alike : (jobs : List SessionJob) → AllAlike jobs (more jobs)
  more_alike [] = tt
  more_alike (m ∷ jobs) = grind (arith, alike_refl, more_alike jobs)

  more_same : (jobs : List SessionJob) → SameJobs jobs (more jobs)
  more_same [] = tt
  more_same (m ∷ jobs) = grind (arith, same_refl, more_same jobs)

-- the order but for counts
bare_ordered : (n : ℕ) (u : Session) → IsInOrderButCounts (counted_by n u) → IsInOrderButCounts u
bare_ordered n u o = grind (arith, bare_length, bare_numbered, bare_all, bare_live)

-- what core shows
more_stands : (n : ℕ) (u : Session) (x : Storage) (cpu : Cpu) (plan : Placement) → RepresentsSession x cpu plan u → RepresentsSession x cpu plan (counted_by n u)
more_stands n u x cpu plan h =
    let s = counted_by n u in
    let view : machine_view plan s.jobs ≡ machine_view plan u.jobs = same_machine_view plan u.jobs s.jobs (more_same n u.last.job u.jobs) in
    RepresentsSession-over [] [] x x cpu cpu plan u s h (more_alike n u.last.job u.jobs) refl refl refl refl
    (subst (λ (p : MachineView). Represents x cpu.core cpu.regs (with_objects [] p)) (sym view) h.holds.memory)
    (subst Calm (sym view) h.holds.settled)
    (λ i low other homes. refl)

-- none more
more_none : (j : ℕ) (jobs : List SessionJob) → change_keyed number_of j (counted_more 0) jobs ≡ jobs
more_none j [] = refl
more_none j (m ∷ jobs) = grind (arith, more_none j jobs)

counted_none : (s : Session) → counted_by 0 s ≡ s
counted_none s = grind (arith, more_none)

-- ---- one operator

module _ (said : Option (List (List ℕ))) (steps left : ℕ) (first : Session) (core : ℕ) (k : Machine) (h : HasTurnLeft said steps left first core k) (some : 1 ≤ left) where
  abbrev u : Session
  u = h.bare

  abbrev s : Session
  s = counted_by steps u

  abbrev m : SessionJob
  m = counted_more steps h.member

  abbrev t : Task
  t = h.task

  abbrev n : IsNext s m t
  n = record { chosen = record { who = s.last; turn = s.turn }; is = lasts_choice s m t left h.lasts some; member = h.lasts.member; task = h.lasts.task }

  abbrev c : Chosen
  c = record { row = 0; job = s.last.job; number = s.last.task; turn = s.turn }

  of_number : h.member.constants.number ≡ u.last.job
  of_number = (keyed_has number_of u.last.job u.jobs h.member h.found).1

  abbrev runs : IsRunning h.plan u.jobs h.member t
  runs = record { member = ap (λ (i : ℕ). keyed number_of i u.jobs) of_number ∙ h.found; task = task_found s m t n; slot = h.slot }

  order : IsInOrderButCounts u
  order = bare_ordered steps u (but_counts s h.ordered)

  pub turn_runs : RunsTask k
  turn_runs = record { storage = h.storage; told = said; plan = h.plan; session = u; member = h.member; task = t; ordered = order; stands = h.stands; running = runs }

  module _ (new : Machine) (each : ForEachReady k (λ x told plan s m t. MakesInSegment x told plan s m t answers.Done k new)) where
    abbrev row : MakesInSegment h.storage said h.plan u h.member t answers.Done k new
    row = each h.storage said h.plan u h.member t order h.stands runs h.lasts.ready

    abbrev made : OperatorMade h.storage said h.plan u h.member t k new
    made = was_made h.storage said h.plan u h.member t k new (code_area h.storage h.plan h.member t) row

    called : (code_area h.storage h.plan h.member t ≢ None) × (called_in h.member t ≡ None)
    called = was_operator h.storage said h.plan u h.member t answers.Done k new (code_area h.storage h.plan h.member t) refl (λ e. absurd cc) (λ i e. absurd cc) row

    abbrev stays : Stays m.progress.job.tasks made.job.tasks × (made.job.next_task ≤ m.progress.job.next_task + 1)
    stays = kept s m t n h.ordered made.job [] made.touched made.is

    abbrev part : StepResult
    part = half s m t c h.ordered n refl h.lasts.ready made.job [] made.touched made.is stays.0 stays.1

    between : IsInOrderButLimit part.session
    between = half_ordered s m t c h.ordered n refl h.lasts.ready made.job [] made.touched made.is stays.0 stays.1

    abbrev moment : JobMoment
    moment = moment_with m.progress t (goes_on made.job [] made.touched) (goes_on made.job [] made.touched).settled

    -- the member that isn't counted, and the session
    abbrev bare_progress : JobProgress
    bare_progress = record h.member.progress { job = made.job }

    abbrev bare_member : SessionJob
    bare_member = record h.member { progress = bare_progress }

    abbrev later : Session
    later = with_job u h.member made.job

    open_is : deadlocked (unsettled made.job) ≡ unsettled made.job
    open_is = open_job s m t c h.ordered n refl h.lasts.ready made.job [] made.touched made.is stays.0 stays.1

    progress_is : moment.progress ≡ (counted_more (steps + 1) bare_member).progress
    progress_is = grind (arith, open_is, append-nil)

    jobs_are : part.session.jobs ≡ (counted_by (steps + 1) later).jobs
    jobs_are =
        let j = u.last.job in
        let put : JobProgress → SessionJob → SessionJob = λ p y. record y { progress = p } in
        twice j (counted_more steps) (put moment.progress) h.member u.jobs of_number h.found
        ∙ ap (λ (p : JobProgress). change_keyed number_of j (λ y. record h.member { progress = p }) u.jobs) progress_is
        ∙ sym (twice j (put bare_progress) (counted_more (steps + 1)) h.member u.jobs of_number h.found)
        ∙ ap (λ (i : ℕ). change_keyed number_of j (counted_more (steps + 1)) (change_keyed number_of i (put bare_progress) u.jobs)) (sym of_number)

    alive : length made.job.tasks ≡ length m.progress.job.tasks
    alive = operator_many h.member t runs.task called.1 made.job [] made.touched made.is

    peak_is : part.session.peak ≡ u.peak
    peak_is = omega (arith, alive, total_has tasks_of s.jobs m (in_session s m t n), sum_total tasks_of s.jobs, h.ordered.peak_low)

    session_is : part.session ≡ counted_by (steps + 1) later
    session_is = grind (arith, jobs_are, peak_is)

    found_later : keyed number_of u.last.job later.jobs ≡ Some bare_member
    found_later =
        ap (keyed number_of u.last.job) (ap (λ (i : ℕ). change_keyed number_of i (λ (y : SessionJob). record y { progress = bare_progress }) u.jobs) of_number)
        ∙ keyed-change_same number_of u.last.job (λ (y : SessionJob). record y { progress = bare_progress }) (λ y. refl) u.jobs h.member h.found

    found_more : keyed number_of u.last.job (counted_by (steps + 1) later).jobs ≡ Some (counted_more (steps + 1) bare_member)
    found_more = keyed-change_same number_of u.last.job (counted_more (steps + 1)) (λ y. refl) later.jobs bare_member found_later

    none_last : last_part part.session ≡ None
    none_last = subst (λ (z : Session). last_part z ≡ None) (sym session_is) (not_at_limit (counted_by (steps + 1) later) (counted_more (steps + 1) bare_member) found_more (omega (arith, h.lasts.below, some)))

    steps_on : next s ≡ Some (joined part None)
    steps_on = steps-have-parts s part (first_by s m t n (Ok (Goes made.job [] made.touched)) made.is) ∙ ap (λ (r : Option StepResult). Some (joined part r)) none_last

    -- a run that comes to the session goes one step further, and prints no more
    one_more : (start : Session) (i : ℕ) → after i start ≡ s → Came start (i + 1) part.session (lines i start)
    one_more start i to =
        let none : part.lines ≡ [] = half_lines s m t c h.ordered n refl h.lasts.ready made.job [] made.touched made.is stays.0 stays.1 in
        subst (Came start (i + 1) part.session) (ap (λ (ls : List RunLine). lines i start ++ ls) none ∙ append-nil (lines i start))
        (came-more start i s (lines i start) (joined part None) (record { session = to; lines_are = refl }) steps_on)

    -- core has the words that it needs
    touches : touched_of m.constants m.progress.job t (step m.constants m.progress.job t) ≡ made.touched
    touches = ap (touched_of m.constants m.progress.job t) made.is

    of_job : (o : Option ℕ) → made.touched ≡ o → IsArrayOfJob m.progress.job o
    of_job None e = tt
    of_job (Some a) e = let p = made_touches h.storage said h.plan u h.member t order runs k new made a (touches ∙ e) in (p.array, p.among, p.named)

    need_fits : (area : Option ℕ) → code_area h.storage h.plan m t ≡ area → area ≢ None → need (length k.cpu.core) s m t ≤ length k.cpu.core
    need_fits None is there = absurd (there refl)
    need_fits (Some at) is there =
        made_fit k.cpu h.storage h.plan s m t (but_counts s h.ordered) (more_stands steps u h.storage k.cpu h.plan h.stands.session)
        (record { member = found s m t n; task = runs.task; slot = h.slot }) at made.touched is touches made.present (of_job made.touched refl) (operator_starts h.member t runs.task called.1)

    needs : NextFits (length k.cpu.core) s
    needs = next_fits s m t n (length k.cpu.core) (need_fits (code_area h.storage h.plan m t) refl called.0)

    -- after it the last task goes on
    pub turn_made : length k.cpu.core ≡ core → (fewer : ℕ) → fewer ≡ left - 1 → HasTurnLeft said (steps + 1) fewer first core new
    turn_made size fewer same =
        let (v, at, like) = twin s.last.task m.progress.job.tasks made.job.tasks t (profiles_stay h.member t runs.task called.1 made.job [] made.touched made.is) h.lasts.task in
        record {
          bare = later;
          member = bare_member;
          task = v;
          ordered = subst IsInOrderButPlaces session_is (subst (OrderAfter part.session) none_last (last_parts_restore_order part.session between));
          leads = (one_more first steps h.leads).session ∙ session_is;
          silent = λ start i to.
              let before : after (i + steps) start ≡ s = after-add i steps start ∙ ap (after steps) to ∙ h.leads in
              let one : i + (steps + 1) ≡ i + steps + 1 = omega arith in
              ap (λ (q : ℕ). lines q start) one ∙ (one_more start (i + steps) before).lines_are ∙ h.silent start i to;
          fits = fits_more core (length k.cpu.core) steps first s size h.leads h.fits needs;
          storage = made.storage;
          plan = h.plan;
          stands = made.stands;
          found = found_later;
          lasts = record {
            member = found_more;
            task = at;
            ready = ap (λ (p : Profile). p.condition) like ∙ h.lasts.ready;
            rules = subst (RulesLeave (counted_by (steps + 1) later)) (sym same) (rules_after s (counted_by (steps + 1) later) left some refl (omega arith) (omega arith) refl h.lasts.rules);
            below = omega (arith, h.lasts.below, some, same);
          };
          slot = h.slot ∙ ap (λ (p : Profile). slot_of h.plan h.member.constants.number p.number) (sym like);
        }

-- ---- the loop

-- the turn at its beginning
pub turn_begins : (told : Option (List (List ℕ))) (room : ℕ) (x : Storage) (plan : Placement) (s : Session) (k : Machine) → IsInOrderButPlaces s → MachineRepresents x told k plan s → TurnLasts plan s room → (left : ℕ) → left ≡ room → HasTurnLeft told 0 left s (length k.cpu.core) k
turn_begins told room x plan s k o h w left same =
    subst (λ (i : ℕ). HasTurnLeft told 0 i s (length k.cpu.core) k) (sym same) (record {
      bare = s;
      member = w.who;
      task = w.task;
      ordered = subst IsInOrderButPlaces (sym (counted_none s)) o;
      leads = sym (counted_none s);
      silent = λ start n to. let one : n + 0 ≡ n = omega arith in ap (λ (i : ℕ). lines i start) one;
      fits = λ i low. absurd (omega (arith, low));
      storage = x;
      plan = plan;
      stands = h;
      found = w.lasts.member;
      lasts = subst (λ (z : SessionJob). Lasts (counted_by 0 s) z w.task room) (sym none) (subst (λ (z : Session). Lasts z w.who w.task room) (sym (counted_none s)) w.lasts);
      slot = w.runs;
    })
  where
    none : counted_more 0 w.who ≡ w.who
    none = let one : w.who.progress.made + 0 ≡ w.who.progress.made = omega arith in ap (λ (i : ℕ). record w.who { progress = record w.who.progress { made = i } }) one

pub made_in_turn : (told : Option (List (List ℕ))) (steps left : ℕ) (first : Session) (core : ℕ) (k : Machine) → HasTurnLeft told steps left first core k → MadeInTurn told steps first core k
made_in_turn told steps left first core k h = record { bare = h.bare; ordered = h.ordered; leads = h.leads; silent = h.silent; fits = h.fits; storage = h.storage; plan = h.plan; stands = h.stands }

-- the same counts, written otherwise
pub turn_as : (told : Option (List (List ℕ))) (steps left : ℕ) (first : Session) (core : ℕ) (k : Machine) → HasTurnLeft told steps left first core k → (more fewer : ℕ) → more ≡ steps → fewer ≡ left → HasTurnLeft told more fewer first core k
turn_as told steps left first core k h more fewer same_more same_fewer = grind arith

-- of a machine that is as it was
pub turn_same : (told : Option (List (List ℕ))) (steps left : ℕ) (first : Session) (core : ℕ) (k new : Machine) → new ≡ k → HasTurnLeft told steps left first core k → HasTurnLeft told steps left first core new
turn_same told steps left first core k new same h = subst (λ (z : Machine). HasTurnLeft told steps left first core z) (sym same) h

-- one operator more of those still to be made, where a try before it changed nothing
pub turn_next : (told : Option (List (List ℕ))) (steps most room : ℕ) (first : Session) (core : ℕ) (k tried new : Machine) → 0 < room → room ≤ most → tried ≡ k → length k.cpu.core ≡ core → HasTurnLeft told (steps + (most - room)) room first core k
    → ForEachReady tried (λ x told plan s m t. MakesInSegment x told plan s m t answers.Done tried new) → HasTurnLeft told (steps + (most - (room - 1))) (room - 1) first core new
turn_next told steps most room first core k tried new some few same size h each =
    let long : length tried.cpu.core ≡ core = ap (λ (z : Machine). length z.cpu.core) same ∙ size in
    let more : steps + (most - (room - 1)) ≡ steps + (most - room) + 1 = omega (arith, some, few) in
    turn_as told (steps + (most - room) + 1) (room - 1) first core new
    (turn_made told (steps + (most - room)) room first core tried (turn_same told (steps + (most - room)) room first core k tried same h) some new each long (room - 1) refl)
    (steps + (most - (room - 1))) (room - 1) more refl

-- the running task of a turn, over the registers
pub some_runs : (k : Machine) → RunsTask k → RunsSome k.cpu
some_runs k r = record { storage = r.storage; plan = r.plan; session = r.session; member = r.member; task = r.task; ordered = r.ordered; stands = r.stands.session; running = r.running }

-- ---- the turn

-- a turn that lasts longer lasts for one operator
pub turn_of_one : (plan : Placement) (s : Session) (room : ℕ) → 1 ≤ room → TurnLasts plan s room → TurnLasts plan s 1
turn_of_one plan s room some w = grind arith

-- the operators fit the counts of the tables before them
pub turn_fits : (plan : Placement) (s : Session) (tasks : Tasks) (room made : ℕ) → IsInOrderButPlaces s → TasksShow plan s tasks → TurnLasts plan s room → made ≤ room → TurnHasRoom tasks made
turn_fits plan s tasks room made o shows w few =
    let m = w.who in
    let (inm, named) = keyed_has number_of s.last.job s.jobs m w.lasts.member in
    let number : m.constants.number ≡ tasks.last_job = named ∙ sym shows.counts.last_job in
    let b = job_at plan 1 s.jobs (map job_row tasks.jobs) m o.numbered shows.jobs inm in
    let (r, at, same) = mapped_at job_row tasks.jobs (m.constants.number - 1) b.row b.at in
    let limit : m.constants.limit ≤ MOST_LIMIT = (all_in (λ (y : SessionJob). JobInOrder (IsSegment y.constants) y.constants y.progress) s.jobs m o.jobs inm).unchanging.limit in
    grind (arith, numbered_low, all_few)

-- the steps of the turn, once they are counted
pub turn_goes_on : (told : Option (List (List ℕ))) (steps : ℕ) (first : Session) (old : Machine) (k : Machine) (tasks : Tasks) → MadeInTurn told steps first (length old.cpu.core) k → k.tasks ≡ old.tasks
    → ((plan : Placement) (s : Session) → NumberedFrom 1 s.jobs → TasksShow plan s k.tasks → TasksShow plan (counted_by steps s) tasks)
    → tasks ≡ record k.tasks { jobs = tasks.jobs; made = k.tasks.made + steps; turn = k.tasks.turn + steps } → old.tasks.printed ≡ 0 → BeforeHalt old.tasks.halt old.tasks.made steps
    → GoesOnInTurn told steps first old (record k { tasks = tasks })
turn_goes_on told steps first old k tasks a stay shows rest none below = record {
  session = counted_by steps a.bare;
  leads = a.leads;
  silent = a.silent;
  stands = record {
    storage = a.storage;
    plan = a.plan;
    ordered = a.ordered;
    stands = record {
      session = more_stands steps a.bare a.storage k.cpu a.plan a.stands.session;
      storage = a.stands.storage;
      tables = shows a.plan a.bare (bare_numbered steps a.bare.last.job 1 a.bare.jobs a.ordered.numbered) a.stands.tables;
    };
  };
  made = ap (λ (z : Tasks). z.made) rest ∙ ap (λ (z : Tasks). z.made + steps) stay;
  unprinted = ap (λ (z : Tasks). z.printed) rest ∙ ap (λ (z : Tasks). z.printed) stay ∙ none;
  fits = a.fits;
  below = below;
}

-- no step of it was made
pub turn_rests : (told : Option (List (List ℕ))) (s : Session) (k : Machine) → StandsAt told k s → k.tasks.printed ≡ 0 → GoesOnInTurn told 0 s k k
turn_rests told s k h none = grind arith
