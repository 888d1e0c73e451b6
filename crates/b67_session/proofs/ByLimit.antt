-- The tasks of a job that stands at its limit end: who they are, their lines, and the session afterwards.
use Rattle.std.proofs.Common.{◌≡◌, ◌≢◌, ℕ, true, false, List, [], ◌∷◌, ◌++◌, map, Option, Some, Ok, refl, sym, ap, ◌∙◌, subst, inl, arith}
use Rattle.std.specs.Prelude.{is_some}
use Rattle.std.specs.List.{AllByRecursion}
use Rattle.std.proofs.lemmas.Bool.{true≢false}
use Rattle.std.proofs.lemmas.Option.{same_Some}
use Rattle.b67_word.specs.declared.faults.Ending.{Ending}
use Rattle.b67_word.specs.declared.faults.Ending.TheVariants.{Limit}
use Rattle.b67_lemmas.specs.Lists.{Has}
use Rattle.b67_lemmas.proofs.Members.{keyed_has}
use Rattle.b67_model.specs.Common.{SessionJob, Ends, Settled, all_with, deepest_first, ends_each_if, unsettled, run_text, StepResult, number_of, of_job, Session, IsSegment}
use Rattle.b67_model.specs.Keyed.{keyed, change_keyed}
use Rattle.b67_session_lines.specs.Moments.{last_part}
use Rattle.b67_stack.specs.Represents.{Storage}
use Rattle.b67_layout.specs.Common.{with_job, JobInOrderButCounts, IsInOrderButCounts, Placement}
use Rattle.b67_law.specs.Orders.{JobInOrderButLimit, IsInOrderButLimit}
use Rattle.b67_law.proofs.Limits.{LimitOf, limit_of}
use Rattle.b67_task.specs.declared.tables.Machine.{Machine}
use Rattle.b67_task.specs.Tables.{MachineRepresents}
use Rattle.b67_task.specs.Family.{TablesHold, HasSomeHead}
use Rattle.b67_session.specs.Ends.{StandsInPlace, JobLives, Finishes}
use Rattle.b67_session.specs.Texts.{endings_text}
use Rattle.b67_session.proofs.Ended.{part_ended, stands_ended, view_ended}
use Rattle.b67_session.proofs.InPlace.{in_place_view}

-- a session between the parts of a step is in order but for its counts
jobs_but_counts : (last : ℕ) (jobs : List SessionJob) → AllByRecursion (JobInOrderButLimit last) jobs → AllByRecursion (λ (m : SessionJob). JobInOrderButCounts (IsSegment m.constants) m.constants m.progress) jobs
jobs_but_counts last [] all = tt
jobs_but_counts last (m ∷ jobs) all = grind (arith, jobs_but_counts last jobs all.1)

pub limit_but_counts : (h : Session) → IsInOrderButLimit h → IsInOrderButCounts h
limit_but_counts h o = record { few = o.few; numbered = o.numbered; one_size = o.one_size; jobs = jobs_but_counts h.last.job h.jobs o.jobs; peak_low = o.peak_low; peak_high = o.peak_high }

-- other counts of what is printed
pub reprinted : (x : Storage) (told : Option (List (List ℕ))) (k : Machine) (plan : Placement) (s : Session) (printed : ℕ) → MachineRepresents x told k plan s → MachineRepresents x told (record k { tasks = record k.tasks { printed = printed } }) plan s
reprinted x told k plan s printed h = record { session = h.session; storage = h.storage; tables = h.tables }

pub stands_reprinted : (x : Storage) (told : Option (List (List ℕ))) (k : Machine) (plan : Placement) (s after : Session) (printed : ℕ) → StandsInPlace x told k plan s after → StandsInPlace x told (record k { tasks = record k.tasks { printed = printed } }) plan s after
stands_reprinted x told k plan s after printed f =
    let w = f.whole in record { whole = record { storage = w.storage; plan = w.plan; stands = reprinted w.storage told k w.plan after printed w.stands }; left = f.left }

module _ (x : Storage) (told : Option (List (List ℕ))) (k : Machine) (plan : Placement) (h : Session) (part : StepResult) (o : IsInOrderButLimit h) (is : last_part h ≡ Some part) (stands : MachineRepresents x told k plan h) where
  abbrev l : LimitOf h part
  l = limit_of h part is

  abbrev m : SessionJob
  m = l.member

  named : Has h.jobs m × (m.constants.number ≡ h.last.job)
  named = keyed_has number_of h.last.job h.jobs m l.found

  number : m.constants.number ≡ k.tasks.last_job
  number = named.1 ∙ sym stands.tables.counts.last_job

  holds : TablesHold plan h k.tasks
  holds = record { ordered = limit_but_counts h o; fits = stands.session.holds.fits.rows; few = stands.session.holds.fits.few; shows = stands.tables }

  pub has_head : HasSomeHead k.tasks k.tasks.last_job 255
  has_head = record { plan = plan; session = h; job_of = m; has = record { holds = holds; member = named.0; number = number; heads = inl refl } }

  -- once the lines are printed, the tasks may end
  pub job_lives : (printed : ℕ) → JobLives (record k { tasks = record k.tasks { printed = printed } }) k.tasks.last_job
  job_lives printed = record {
    storage = x;
    told = told;
    plan = plan;
    session = h;
    member = m;
    ordered = limit_but_counts h o;
    stands = reprinted x told k plan h printed stands;
    among = named.0;
    number = number;
    lives = l.lives;
  }

  abbrev gone : Settled
  gone = ends_each_if true Limit (unsettled m.progress.job)

  abbrev whole : StepResult
  whole = record {
    session = record h {
      jobs = change_keyed number_of m.constants.number (λ (y : SessionJob). record y { progress = record y.progress { job = gone.job; ended = y.progress.ended ++ gone.endings } }) h.jobs;
    };
    lines = of_job m.constants.number (map (λ (e : ℕ × Ending). (e.0, Ends e.1)) gone.endings);
  }

  part_is : whole ≡ part
  part_is = same_Some whole part l.is

  -- the text that is printed
  pub text_is : (live : List ℕ) (ended : List (ℕ × Ending)) → ((plan : Placement) (s : Session) (m : SessionJob) → TablesHold plan s k.tasks → Has s.jobs m → m.constants.number ≡ k.tasks.last_job → live ≡ deepest_first m.progress.job.tasks)
      → ended ≡ all_with Limit live → endings_text k.tasks.last_job ended ≡ run_text part.lines
  text_is live ended shows e =
      ap (λ (n : ℕ). endings_text n ended) (sym number)
      ∙ ap (endings_text m.constants.number) (e ∙ ap (all_with Limit) (shows plan h m holds named.0 number))
      ∙ ap (λ (p : StepResult). run_text p.lines) part_is

  pub text_by : (live slice : List ℕ) (items ended : List (ℕ × Ending)) → ((plan : Placement) (s : Session) (m : SessionJob) → TablesHold plan s k.tasks → Has s.jobs m → m.constants.number ≡ k.tasks.last_job → live ≡ deepest_first m.progress.job.tasks)
      → slice ≡ live → ended ≡ items → items ≡ all_with Limit slice → endings_text k.tasks.last_job ended ≡ run_text part.lines
  text_by live slice items ended shows same lent all =
      text_is slice ended (λ p s m t among e. same ∙ shows p s m t among e) (lent ∙ all)

  -- the session after it
  pub after_part : (new : Machine) (printed : ℕ)
      → ((x : Storage) (told : Option (List (List ℕ))) (plan : Placement) (s : Session) (m : SessionJob) → IsInOrderButCounts s → MachineRepresents x told (record k { tasks = record k.tasks { printed = printed } }) plan s → Has s.jobs m → m.constants.number ≡ k.tasks.last_job → m.progress.job.tasks ≢ []
      → StandsInPlace x told new plan s (with_job s m (ends_each_if true Limit (unsettled m.progress.job)).job)) → StandsInPlace x told new plan h part.session
  after_part new printed ends =
      let f = ends x told plan h m (limit_but_counts h o) (reprinted x told k plan h printed stands) named.0 number l.lives in
      let found : keyed number_of m.constants.number h.jobs ≡ Some m = subst (λ (n : ℕ). keyed number_of n h.jobs ≡ Some m) (sym named.1) l.found in
      let w = f.whole in
      let ended = part_ended m.constants.number m gone.job gone.endings h.jobs found in
      let all : StandsInPlace x told new plan h whole.session = record {
        whole = record { storage = w.storage; plan = w.plan; stands = stands_ended w.plan (with_job h m gone.job) whole.session.jobs ended w.storage told new w.stands };
        left = in_place_view x w.storage plan w.plan h (with_job h m gone.job) whole.session (view_ended w.plan (with_job h m gone.job) whole.session.jobs ended) f.left;
      } in
      subst (λ (p : StepResult). StandsInPlace x told new plan h p.session) part_is all

-- ---- whether there is a last part

pub some_part : (o : Option StepResult) → true ≡ is_some o → (part : StepResult) × (o ≡ Some part)
some_part o e = grind arith

pub finishes_none : {K : Type 0} (taken : K → Option (List ℕ)) (x : Storage) (told : Option (List (List ℕ))) (plan : Placement) (h : Session) (o : Option StepResult) (k : Machine) (paper : K) → false ≡ is_some o
    → Finishes taken x told plan h o (Ok tt) k k paper paper
finishes_none taken x told plan h o k paper e = grind arith
