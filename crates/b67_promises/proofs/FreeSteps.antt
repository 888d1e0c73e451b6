-- The steps of a run keep that no word names the MCP's cell 12.
use Rattle.std.proofs.lemmas.Option.{same_Some}
use Rattle.std.proofs.Common.{◌≡◌, ℕ, zero, suc, ◌+◌, ◌-◌, ◌≤◌, inl, inr, Bool, true, false, List, [], ◌∷◌, Option, Some, None, Ok, Err, refl, sym, ap, subst, ◌∙◌, arith}
use Rattle.b67_word.specs.declared.couples.Place.{Place}
use Rattle.b67_word.specs.declared.faults.Ending.{Ending}
use Rattle.b67_word.specs.declared.faults.Ending.TheVariants.{Ended, Deadlock, Faulted}
use Rattle.b67_model.specs.declared.operators.Op.{Op}
use Rattle.b67_model.specs.declared.operators.Op.TheVariants.{Namc}
use Rattle.b67_model.specs.Keyed.{keyed}
use Rattle.b67_model.specs.Common.{Answer, Task, JobConstants, Job, JobProgress, SessionJob, Session, Choice, choice, StepResult, with_task, called, Line, Done, Goes, Leaves, Waits, Reading, reading_of, step_by, step, Settled, among, ends_all, ends_task, ends_each_if, unsettled, settles, stepped, step_of, number_of, of_job, with_moment, moment_by, moment_for, next, after, listing, operator_at, origin, Ready, IsStart, IsSegment, TaskInOrder, JobInOrder, IsInOrder}
use Rattle.b67_lemmas.specs.Lists.{Has}
use Rattle.b67_lemmas.proofs.Members.{all_in, has_filter, has_map_back, has_get, keyed_has}
use Rattle.b67_law.specs.Opening.{Opening, opened_from}
use Rattle.b67_law.proofs.Kept.{here}
use Rattle.b67_law.proofs.Looks.{Run}
use Rattle.b67_law.proofs.Readings.{ReadFits}
use Rattle.b67_law.proofs.Segments.{reading_fits}
use Rattle.b67_law.proofs.Admitted.{entered}
use Rattle.b67_law.proofs.Sessions.{starts_are_segments}
use Rattle.b67_law.specs.RunMade.{MakesOperator, context, EarlierStep}
use Rattle.b67_law.proofs.WordsKept.{has_changed, StepRow}
use Rattle.b67_law.proofs.Choices.{chosen_tasks_are_ready}
use Rattle.b67_law.proofs.Makers.{after_more}
use Rattle.b67_law.proofs.WordSteps as S
use Rattle.b67_promises.specs.Switches.{NamesNoProcess}
use Rattle.b67_promises.proofs.NoProcess.{IsFree, AnyMark, free_operands, TasksFree, FramesFree, row_free, calls_none}

-- ---- the endings of a step

ends_free : (s : Settled) (endings : List (ℕ × Ending)) → TasksFree s.job.tasks → TasksFree (ends_all s endings).job.tasks
ends_free s endings all t h = grind (arith, has_map_back, has_filter)

each_free : (test : Bool) (ending : Ending) (s : Settled) → TasksFree s.job.tasks → TasksFree (ends_each_if test ending s).job.tasks
each_free true ending s all = ends_free s _ all
each_free false ending s all = all

ended_free : (job : Job) (number : ℕ) (ending : Ending) → TasksFree job.tasks → TasksFree (ends_task job number ending).job.tasks
ended_free job number ending all = ends_free (unsettled job) _ all

waiting_free : (job : Job) (task new : Task) → new.frames ≡ task.frames → Has job.tasks task → TasksFree job.tasks → TasksFree (with_task job new).tasks
waiting_free job task new same live all t h = grind (arith, has_changed)

settles_free : (job : Job) (task : Task) (a : Answer Done) → Has job.tasks task → TasksFree job.tasks
    → ((after : Job) (printed : List Line) (touched : Option ℕ) → a ≡ Ok (Goes after printed touched) → TasksFree after.tasks) → TasksFree (settles job task a).settled.job.tasks
settles_free job task (Ok (Goes after printed touched)) live all goes = each_free _ Deadlock (unsettled after) (goes after printed touched refl)
settles_free job task (Ok (Waits condition)) live all goes =
    each_free _ Deadlock (unsettled (with_task job (record task { condition = condition }))) (waiting_free job task (record task { condition = condition }) refl live all)
settles_free job task (Ok Leaves) live all goes = each_free _ Deadlock (ends_task job task.number Ended) (ended_free job task.number Ended all)
settles_free job task (Err fault) live all goes = each_free _ Deadlock (ends_task job task.number (Faulted fault)) (ended_free job task.number (Faulted fault) all)

-- ---- a task of a job in order

abbrev op_in : Op → Reading → Op
op_in default (Err why) = default
op_in default (Ok read) = read.0

same_op : (a b : Op × Place) → ◌≡◌ {A = Reading} (Ok a) (Ok b) → a.0 ≡ b.0
same_op a b e = ap (op_in a.0) e

step_row : (constants : JobConstants) (job : Job) (task : Task) (done : Done) → step constants job task ≡ Ok done → StepRow constants job task done
unfolding step
step_row constants job task done e = by (reading_of constants task) refl e
  where
    by : (r : Reading) → reading_of constants task ≡ r → step_by constants job task r ≡ Ok done → StepRow constants job task done
    by (Err why) is f = absurd (let z : ⊥ = cc in z)
    by (Ok read) is f = record { op = read.0; next = read.1; reads = is; row_is = f }

module _ (constants : JobConstants) (c : JobProgress) (order : JobInOrder (IsStart constants) constants c) (weaker : JobInOrder (IsSegment constants) constants c)
    (task : Task) (number : ℕ) (found : keyed (λ (t : Task). t.number) number c.job.tasks ≡ Some task) (ready : task.condition ≡ Ready) where
  live : Has c.job.tasks task
  live = (keyed_has (λ (t : Task). t.number) number c.job.tasks task found).0

  by_number : keyed (λ (t : Task). t.number) task.number c.job.tasks ≡ Some task
  by_number = subst (λ (n : ℕ). keyed (λ (t : Task). t.number) n c.job.tasks ≡ Some task) (sym (keyed_has (λ (t : Task). t.number) number c.job.tasks task found).1) found

  read_fits : (op : Op) (next : Place) → reading_of constants task ≡ Ok (op, next) → ReadFits (Ok (op, next))
  read_fits op next reads = subst ReadFits reads (reading_fits constants task order.unchanging)

  pub run_here : (op : Op) (next : Place) → reading_of constants task ≡ Ok (op, next) → Run (IsSegment constants) (here constants c.job task next)
  run_here op next reads =
      let place = (all_in (TaskInOrder (IsSegment constants) constants c.job) c.job.tasks task weaker.tasks.tasks live).place in
      let fits = read_fits op next reads in
      record {
        unchanging = weaker.unchanging;
        order = weaker.tasks;
        found = task;
        running = by_number;
        same = refl;
        place = record { from_one = place.from_one; within = place.within; word_fits = fits.1.0; syllable_fits = fits.1.1 };
        ready = ready;
      }

  -- the operator stands in the listing
  op_listed : (op : Op) (next : Place) → reading_of constants task ≡ Ok (op, next) → NamesNoProcess constants.segments → op ≡ Namc 12 → ⊥
  op_listed op next reads none is =
      let place = (all_in (TaskInOrder (IsStart constants) constants c.job) c.job.tasks task order.tasks.tasks live).place in
      let r = entered _ place.code.code origin (operator_at place.code.code origin) task.place place.op refl place.stands in
      grind (arith, has_get)

  pub stepped_free : NamesNoProcess constants.segments → TasksFree c.job.tasks → TasksFree (stepped constants c.job task).settled.job.tasks
  unfolding stepped
  stepped_free none all = settles_free c.job task (step constants c.job task) live all (λ after printed touched e.
      let r = step_row constants c.job task (Goes after printed touched) e in
      row_free (IsSegment constants) (here constants c.job task r.next) (run_here r.op r.next r.reads) all task live refl r.op (read_fits r.op r.next r.reads).0 (op_listed r.op r.next r.reads none) after printed touched r.row_is)

  pub moment_free : NamesNoProcess constants.segments → TasksFree c.job.tasks → TasksFree (step_of constants c number).progress.job.tasks
  unfolding step_of
  moment_free none all = grind (arith, each_free, stepped_free)

-- ---- a session

abbrev pub SessionFree : Session → Type 0
SessionFree s = (m : SessionJob) → Has s.jobs m → NamesNoProcess m.constants.segments × TasksFree m.progress.job.tasks

-- the task that makes the next step is ready
the_next : (s : Session) (c : Choice) → IsInOrder s → choice s ≡ Some c → (m : SessionJob) → keyed number_of c.who.job s.jobs ≡ Some m
    → (t : Task) × (keyed (λ (u : Task). u.number) c.who.task m.progress.job.tasks ≡ Some t) × (t.condition ≡ Ready)
the_next s c order chooses m found = grind (arith, chosen_tasks_are_ready, starts_are_segments)

next_free : (s : Session) (r : StepResult) → IsInOrder s → SessionFree s → next s ≡ Some r → SessionFree r.session
unfolding next
next_free s r order all e = by_choice (choice s) refl e
  where
    by_member : (c : Choice) (o : Option SessionJob) → choice s ≡ Some c → keyed number_of c.who.job s.jobs ≡ o → moment_by s c o ≡ Some r → SessionFree r.session
    by_member c None chooses found f = absurd (let z : ⊥ = cc in z)
    by_member c (Some m) chooses found f =
        let made = step_of m.constants m.progress c.who.task in
        let moment : StepResult = record { session = with_moment s c m made; lines = of_job c.who.job made.lines } in
        let some : Some moment ≡ Some r = f in
        let same : moment ≡ r = cc in
        let named = keyed_has number_of c.who.job s.jobs m found in
        let own = all m named.0 in
        let task = the_next s c order chooses m found in
        let new : TasksFree made.progress.job.tasks =
        moment_free m.constants m.progress (all_in (λ (k : SessionJob). JobInOrder (IsStart k.constants) k.constants k.progress) s.jobs m order.jobs named.0)
        (all_in (λ (k : SessionJob). JobInOrder (IsSegment k.constants) k.constants k.progress) s.jobs m (starts_are_segments s order).jobs named.0) task.0 c.who.task task.1 task.2 own.0 own.1 in
        subst (λ (x : StepResult). SessionFree x.session) same (λ k h. elim (has_changed number_of c.who.job (λ (x : SessionJob). record x { progress = made.progress }) s.jobs k h) [
          | inl q ↦ subst (λ (x : SessionJob). NamesNoProcess x.constants.segments × TasksFree x.progress.job.tasks) q.is ((all q.item q.live).0, new)
          | inr among ↦ all k among
        ])

    by_choice : (o : Option Choice) → choice s ≡ o → moment_for s o ≡ Some r → SessionFree r.session
    by_choice None is f = absurd (let z : ⊥ = cc in z)
    by_choice (Some c) is f = by_member c (keyed number_of c.who.job s.jobs) is refl f

-- ---- a run

after_none : (k : ℕ) (first s : Session) → after k first ≡ s → next s ≡ None → after (suc k) first ≡ s
after_none zero first s is e = let found : next first ≡ None = ap next is ∙ e in rw found is
after_none (suc k) first s is e = grind (arith, after_none k)

after_free : (first : Session) (made : ℕ) → ((j : ℕ) → j ≤ made → IsInOrder (after j first)) → SessionFree first → (j : ℕ) → j ≤ made → SessionFree (after j first)
after_free first made ordered all zero le = all
after_free first made ordered all (suc j) le = by (next (after j first)) refl (after_free first made ordered all j (omega (arith, le)))
  where
    by : (o : Option StepResult) → next (after j first) ≡ o → SessionFree (after j first) → SessionFree (after (suc j) first)
    by None e h = subst SessionFree (sym (after_none j first (after j first) refl e)) h
    by (Some r) e h = subst SessionFree (sym (after_more j first (after j first) r refl e)) (next_free (after j first) r (ordered j (omega (arith, le))) h e)

-- no step of a run calls PROCESS
pub none_called : (first : Session) (made : ℕ) → ((j : ℕ) → j ≤ made → IsInOrder (after j first)) → SessionFree first → (n job : ℕ) → n ≤ made → EarlierStep first n job (λ op call. call ≡ Some 12) → ⊥
none_called first made ordered all n job le step =
    let k = step.steps_before in
    let s = after k first in
    let below = step.earlier in
    let order = ordered k (omega (arith, le, below)) in
    let free = after_free first made ordered all k (omega (arith, le, below)) in
    by_step s order free step.number step.op step.ran step.made
  where
    by_step : (s : Session) → IsInOrder s → SessionFree s → (number : ℕ) (op : Op) (ran : MakesOperator s job number op) → called op (context ran) ≡ Some 12 → ⊥
    by_step s order free number op ran made =
        let m = ran.member in
        let c = ran.chosen in
        let named = (keyed_has number_of c.who.job s.jobs m ran.found).0 in
        let tasks = (free m named).1 in
        let next = the_next s c order ran.chooses m ran.found in
        let same : next.0 ≡ ran.task = same_Some next.0 ran.task (sym next.1 ∙ ran.live) in
        let ready : ran.task.condition ≡ Ready = subst (λ (t : Task). t.condition ≡ Ready) same next.2 in
        let run = run_here m.constants m.progress (all_in (λ (k : SessionJob). JobInOrder (IsStart k.constants) k.constants k.progress) s.jobs m order.jobs named)
        (all_in (λ (k : SessionJob). JobInOrder (IsSegment k.constants) k.constants k.progress) s.jobs m (starts_are_segments s order).jobs named) ran.task c.who.task ran.live ready op ran.next ran.stands in
        let live = (keyed_has (λ (t : Task). t.number) c.who.task m.progress.job.tasks ran.task ran.live).0 in
        calls_none (IsSegment m.constants) (here m.constants m.progress.job ran.task ran.next) run tasks (S.top_words IsFree AnyMark free_operands ran.task.frames (tasks ran.task live)) op made

-- ---- the opening

pub opened_free : (number stack : ℕ) (os : List Opening) → ((o : Opening) → Has os o → NamesNoProcess o.program.segments) → (m : SessionJob) → Has (opened_from number stack os) m → NamesNoProcess m.constants.segments × TasksFree m.progress.job.tasks
opened_free number stack [] none m h = absurd h
opened_free number stack (o ∷ more) none m h = elim h [
  | inl is ↦ subst (λ (x : SessionJob). NamesNoProcess x.constants.segments × TasksFree x.progress.job.tasks) is (
    none o (inl refl),
    λ t k. elim k [
      | inl e ↦ subst (λ (u : Task). FramesFree u.frames) e (λ f j. elim j [ inl d ↦ subst (S.Made IsFree AnyMark free_operands) d (λ w x. absurd x, tt) | inr x ↦ absurd x ])
      | inr x ↦ absurd x
    ],
  )
  | inr r ↦ opened_free (number + 1) stack more (λ p k. none p (inr k)) m r
]
