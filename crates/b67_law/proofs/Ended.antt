-- Which tasks of a run have ended with INVALID OPERATOR.
use Rattle.std.proofs.Common.{◌≡◌, ◌↔◌, ℕ, zero, suc, ◌+◌, List, [], ◌∷◌, Option, Some, None, Ok, refl, sym, ap, ◌∙◌, subst, inl, inr, ◌⊎◌, arith}
use Rattle.std.specs.List.{AllByRecursion}
use Rattle.std.proofs.lemmas.Bool.Decides.{eqb_tells}
use Rattle.b67_word.specs.declared.couples.Place.{Place}
use Rattle.b67_model.specs.declared.operators.Op.{Op}
use Rattle.b67_model.specs.declared.operators.Op.TheVariants.{Plain}
use Rattle.b67_model.specs.declared.operators.Code.TheVariants.{Nvld}
use Rattle.b67_model.specs.Keyed.{keyed, change_keyed}
use Rattle.b67_lemmas.specs.Lists.{Has}
use Rattle.b67_lemmas.proofs.Members.{change_found, change_other, keyed_has}
use Rattle.b67_lemmas.proofs.Keyed.{change_is}
use Rattle.b67_model.specs.Common.{SessionJob, Reading, reading_of, JobMoment, step_of, Session, Choice, choice, StepResult, number_of, of_job, with_moment, moment_by, moment_for, next, after_from, after, IsInOrder, Task}
use Rattle.b67_law.specs.Opening.{Opening, opened_from, opening}
use Rattle.b67_law.proofs.Opens.{opens_in_order}
use Rattle.b67_law.specs.Runs.{RunsAdmitted}
use Rattle.b67_law.proofs.RunSessions.{sessions_stay_in_order, opened_admitted}
use Rattle.b67_law.specs.RunFaults.{ChosenFaultsAtNvld}
use Rattle.b67_law.specs.RunMade.{MakesOperator}
use Rattle.b67_law.specs.Ended.{SteppedAtNvld, RunsEndExactlyAtNvld}
use Rattle.b67_law.proofs.States.{sessions_fault_exactly_at_nvld}
use Rattle.b67_law.proofs.Makers.{after_more}
use Rattle.b67_law.proofs.Endings.{FaultIn, step_exact}

-- the chosen task makes the next step, and no other
pub record TheSame (c : Choice) (job x : ℕ) (op chosen : Op) : Type 0 where
  pub of_job : c.who.job ≡ job
  pub of_task : c.who.task ≡ x
  pub op_is : op ≡ chosen

pub op_read : (a b : Op) (m n : Place) → (let first : Reading = Ok (a, m) in first ≡ Ok (b, n)) → a ≡ b
op_read a b m n e = let pair : (a, m) ≡ (b, n) = cc in ap (λ (y : Op × Place). y.0) pair

the_same : (s : Session) (c : Choice) (job x : ℕ) (op : Op) (t : ChosenFaultsAtNvld s c) → choice s ≡ Some c → MakesOperator s job x op → TheSame c job x op t.at_nvld.op
the_same s c job x op t chooses r =
    let both : Some r.chosen ≡ Some c = sym r.chooses ∙ chooses in
    let is : r.chosen ≡ c = cc in
    let job_found : keyed number_of c.who.job s.jobs ≡ Some r.member = subst (λ (k : Choice). keyed number_of k.who.job s.jobs ≡ Some r.member) is r.found in
    let members : Some r.member ≡ Some t.member = sym job_found ∙ t.job in
    let member_is : r.member ≡ t.member = cc in
    let live : keyed (λ t. t.number) c.who.task t.member.progress.job.tasks ≡ Some r.task =
    subst (λ (k : SessionJob). keyed (λ t. t.number) c.who.task k.progress.job.tasks ≡ Some r.task) member_is
    (subst (λ (k : Choice). keyed (λ t. t.number) k.who.task r.member.progress.job.tasks ≡ Some r.task) is r.live) in
    let tasks : Some r.task ≡ Some t.task = sym live ∙ t.live in
    let task_is : r.task ≡ t.task = cc in
    let reads : reading_of t.member.constants t.task ≡ Ok (op, r.next) =
    subst (λ (k : Task). reading_of t.member.constants k ≡ Ok (op, r.next)) task_is
    (subst (λ (k : SessionJob). reading_of k.constants r.task ≡ Ok (op, r.next)) member_is r.stands) in
    let read : Ok (op, r.next) ≡ Ok (t.at_nvld.op, t.at_nvld.next) = sym reads ∙ t.at_nvld.stands in
    record {
      of_job = sym (ap (λ (k : Choice). k.who.job) is) ∙ r.of_job;
      of_task = sym (ap (λ (k : Choice). k.who.task) is) ∙ r.of_task;
      op_is = op_read op t.at_nvld.op r.next t.at_nvld.next read;
    }

-- a session with no next step
after_stays : (n : ℕ) (s : Session) → next s ≡ None → after n s ≡ s
after_stays n s e = grind arith

after_stop : (k : ℕ) (first s : Session) → after k first ≡ s → next s ≡ None → after (suc k) first ≡ s
after_stop zero first s is e = let found : next first ≡ None = ap next is ∙ e in rw found is
after_stop (suc k) first s is e = grind (arith, after_stop k)

-- where a task makes the next step there is one
runs_on : (s : Session) (job x : ℕ) (op : Op) → MakesOperator s job x op → next s ≡ None → ⊥
unfolding next
runs_on s job x op r e = grind arith

module _ (first : Session) where
  -- after so many steps those have ended that stepped at NVLD
  abbrev pub Exact : ℕ → Session → Type 0
  Exact k s = (job x : ℕ) (m : SessionJob) → keyed number_of job s.jobs ≡ Some m → FaultIn m.progress.ended x ↔ SteppedAtNvld first k job x

  later : (k job x : ℕ) → SteppedAtNvld first k job x → SteppedAtNvld first (suc k) job x
  later k job x r = record { steps_before = r.steps_before; earlier = omega (arith, r.earlier); ran = r.ran }

  -- an earlier step, or the last one
  last_or : (k job x : ℕ) (s : Session) → after k first ≡ s → SteppedAtNvld first (suc k) job x → SteppedAtNvld first k job x ⊎ MakesOperator s job x (Plain Nvld)
  last_or k job x s is r = elim (eqb_tells r.steps_before k) [
    | inl t ↦ inr (subst (λ (y : Session). MakesOperator y job x (Plain Nvld)) is (subst (λ i. MakesOperator (after i first) job x (Plain Nvld)) t.1 r.ran))
    | inr t ↦ let ne = t.1 in inl (record { steps_before = r.steps_before; earlier = omega (arith, r.earlier, ne); ran = r.ran })
  ]

  chosen_exact : (k : ℕ) (s : Session) (c : Choice) (t : ChosenFaultsAtNvld s c) → after k first ≡ s → choice s ≡ Some c → Exact k s →
      Exact (suc k) (with_moment s c t.member (step_of t.member.constants t.member.progress c.who.task))
  chosen_exact k s c t is chooses exact = each
    where
      made : JobMoment
      made = step_of t.member.constants t.member.progress c.who.task

      new : SessionJob
      new = record t.member { progress = made.progress }

      named : number_of t.member ≡ c.who.job
      named = (keyed_has number_of c.who.job s.jobs t.member t.job).1

      now : (x : ℕ) → x ≡ t.task.number → t.at_nvld.op ≡ Plain Nvld → MakesOperator s c.who.job x (Plain Nvld)
      now x stepped nvld = record {
        chosen = c;
        chooses = chooses;
        of_job = refl;
        of_task = sym (keyed_has (λ t. t.number) c.who.task t.member.progress.job.tasks t.task t.live).1 ∙ sym stepped;
        member = t.member;
        found = t.job;
        task = t.task;
        live = t.live;
        next = t.at_nvld.next;
        stands = subst (λ o. reading_of t.member.constants t.task ≡ Ok (o, t.at_nvld.next)) nvld t.at_nvld.stands;
      }

      own : (x : ℕ) → FaultIn made.progress.ended x ↔ SteppedAtNvld first (suc k) c.who.job x
      own x =
          let step = step_exact t.member.constants t.member.progress c.who.task t.task x t.live in
          let old = exact c.who.job x t.member t.job in (
            λ h. elim (step.0 h) [
              | inl o ↦ later k c.who.job x (old.0 o)
              | inr n ↦ record { steps_before = k; earlier = omega arith; ran = subst (λ (y : Session). MakesOperator y c.who.job x (Plain Nvld)) (sym is) (now x n.0 (t.at_nvld.faults.0 n.1)) }
            ],
            λ r. elim (last_or k c.who.job x s is r) [
              | inl earlier ↦ step.1 (inl (old.1 earlier))
              | inr runs ↦
                  let same = the_same s c c.who.job x (Plain Nvld) t chooses runs in
                  let number : t.task.number ≡ c.who.task = (keyed_has (λ t. t.number) c.who.task t.member.progress.job.tasks t.task t.live).1 in
                  step.1 (inr (sym same.of_task ∙ sym number, t.at_nvld.faults.1 (sym same.op_is)))
            ],
          )

      each : Exact (suc k) (with_moment s c t.member made)
      each job x m found =
          let jobs = change_is number_of c.who.job (λ (y : SessionJob). record y { progress = made.progress }) t.member s.jobs t.job in
          let found' : keyed number_of job (change_keyed number_of c.who.job (λ (y : SessionJob). new) s.jobs) ≡ Some m = subst (λ (js : List SessionJob). keyed number_of job js ≡ Some m) jobs found in
          elim (eqb_tells job c.who.job) [
            | inl a ↦
                let here : keyed number_of c.who.job (change_keyed number_of c.who.job (λ (y : SessionJob). new) s.jobs) ≡ Some m =
                subst (λ j. keyed number_of j (change_keyed number_of c.who.job (λ (y : SessionJob). new) s.jobs) ≡ Some m) a.1 found' in
                let both : Some new ≡ Some m = sym (change_found number_of c.who.job t.member new s.jobs named t.job) ∙ here in
                let same : new ≡ m = cc in
                subst (λ (y : SessionJob). FaultIn y.progress.ended x ↔ SteppedAtNvld first (suc k) job x) same
                (subst (λ j. FaultIn new.progress.ended x ↔ SteppedAtNvld first (suc k) j x) (sym a.1) (own x))
            | inr a ↦
                let old = exact job x m (sym (change_other number_of job c.who.job new s.jobs named a.1) ∙ found') in (
                  λ h. later k job x (old.0 h),
                  λ r. elim (last_or k job x s is r) [
                    | inl earlier ↦ old.1 earlier
                    | inr runs ↦ absurd (a.1 (sym (the_same s c job x (Plain Nvld) t chooses runs).of_job))
                  ],
                )
          ]

  next_exact : (k : ℕ) (s : Session) (after' : StepResult) → after k first ≡ s → IsInOrder s → AllByRecursion RunsAdmitted s.jobs → Exact k s → next s ≡ Some after' → Exact (suc k) after'.session
  unfolding next
  next_exact k s after' is order admitted exact e = by_choice (choice s) refl e
    where
      by_choice : (o : Option Choice) → choice s ≡ o → moment_for s o ≡ Some after' → Exact (suc k) after'.session
      by_choice None is' f = absurd (let z : ⊥ = cc in z)
      by_choice (Some c) is' f =
          let t = (sessions_fault_exactly_at_nvld s order admitted).chosen c is' in
          let made = step_of t.member.constants t.member.progress c.who.task in
          let moment : StepResult = record { session = with_moment s c t.member made; lines = of_job c.who.job made.lines } in
          let some : Some moment ≡ Some after' = subst (λ o. moment_by s c o ≡ Some after') t.job f in
          let same : moment ≡ after' = cc in
          subst (λ (x : StepResult). Exact (suc k) x.session) same (chosen_exact k s c t is is' exact)

  stop_exact : (k : ℕ) (s : Session) → after k first ≡ s → Exact k s → next s ≡ None → Exact (suc k) s
  stop_exact k s is exact e job x m found =
      let old = exact job x m found in (
        λ h. later k job x (old.0 h),
        λ r. elim (last_or k job x s is r) [ inl earlier ↦ old.1 earlier | inr runs ↦ absurd (runs_on s job x (Plain Nvld) runs e) ],
      )

  follows : (total n k : ℕ) (s : Session) → after k first ≡ s → k + n ≡ total → IsInOrder s → AllByRecursion RunsAdmitted s.jobs → Exact k s → Exact total (after n s)
  follows total zero k s is sum order admitted exact = let all : k ≡ total = omega (arith, sum) in subst (λ i. Exact i s) all exact
  follows total (suc n) k s is sum order admitted exact = by (follows total n (suc k)) (next s) refl
    where
      by : ((s' : Session) → after (suc k) first ≡ s' → suc k + n ≡ total → IsInOrder s' → AllByRecursion RunsAdmitted s'.jobs → Exact (suc k) s' → Exact total (after n s')) →
          (o : Option StepResult) → next s ≡ o → Exact total (after_from (suc n) s o)
      by rest (Some m) e =
          let both = sessions_stay_in_order s m order admitted e in
          rest m.session (after_more k first s m is e) (omega (arith, sum)) both.0 both.1 (next_exact k s m is order admitted exact e)
      by rest None e =
          subst (λ (y : Session). Exact total y) (after_stays n s e)
          (rest s (after_stop k first s is e) (omega (arith, sum)) order admitted (stop_exact k s is exact e))

none_ended : (number stack : ℕ) (openings : List Opening) (m : SessionJob) → Has (opened_from number stack openings) m → m.progress.ended ≡ []
none_ended number stack [] m h = absurd h
none_ended number stack (o ∷ more) m h = grind (arith, none_ended (number + 1) stack more m)

pub runs_end_exactly_at_nvld : RunsEndExactlyAtNvld
runs_end_exactly_at_nvld n stack quantum switches openings job task m within found =
    let s = opening stack quantum switches openings in
    follows s n n 0 s refl (omega arith) (opens_in_order stack quantum switches openings within) (opened_admitted 1 stack openings within.each) start job task m found
  where
    start : Exact (opening stack quantum switches openings) 0 (opening stack quantum switches openings)
    start j x k f = (
      λ h. absurd (subst (λ es. FaultIn es x) (none_ended 1 stack openings k (keyed_has number_of j (opened_from 1 stack openings) k f).0) h),
      λ r. absurd (let low = r.earlier in let z : ⊥ = omega (arith, low) in z),
    )
