-- The two parts of a step: the whole step has the lines of both; and where a session prints no last part.
use Rattle.std.proofs.Common.{◌≡◌, ◌+◌, Bool, true, false, List, [], ◌∷◌, ◌++◌, length, refl, sym, ap, ◌∙◌, subst, arith, append-nil, Option, Some, None, inl, inr}
use Rattle.std.specs.Prelude.{◌==◌, ◌&&◌}
use Rattle.std.proofs.lemmas.Option.{none-some, same_Some}
use Rattle.std.proofs.lemmas.List.Sums.{sum_by-cons}
use Rattle.b67_model.specs.Keyed.{keyed}
use Rattle.b67_lemmas.specs.Lists.{Has}
use Rattle.b67_lemmas.proofs.Members.{keyed_has}
use Rattle.b67_model.specs.Common.{Task, SessionJob, Session, RunLine, StepResult, next, number_of, live_tasks}
use Rattle.b67_session_lines.specs.Moments.{first_part, last_part, last_part_if, last_part_by, is_at_limit, has_tasks, joined}
use Rattle.b67_session_lines.proofs.Joins.{steps-have-parts}

-- ---- no last part

no_last_by : (s : Session) (o : Option SessionJob) → ((m : SessionJob) → o ≡ Some m → is_at_limit m ≡ false) → last_part_by s o ≡ None
no_last_by s None h = refl
no_last_by s (Some m) h = ap (λ (b : Bool). last_part_if b s m) (h m refl)

-- where each job has no task
no_last : (s : Session) → ((m : SessionJob) → Has s.jobs m → is_at_limit m ≡ false) → last_part s ≡ None
unfolding last_part
no_last s h = no_last_by s (keyed number_of s.last.job s.jobs) (λ m e. h m (keyed_has number_of s.last.job s.jobs m e).0)

no_tasks : (m : SessionJob) → length m.progress.job.tasks ≡ 0 → is_at_limit m ≡ false
no_tasks m e = by (m.progress.made == m.constants.limit) m.progress.job.tasks e
  where
    by : (b : Bool) (ts : List Task) → length ts ≡ 0 → (b && has_tasks ts) ≡ false
    by true [] e = refl
    by false [] e = refl
    by b (t ∷ ts) e = absurd (omega arith)

none_live : (jobs : List SessionJob) → live_tasks jobs ≡ 0 → (m : SessionJob) → Has jobs m → is_at_limit m ≡ false
none_live [] e m has = absurd has
none_live (x ∷ jobs) e m has =
    let both : length x.progress.job.tasks + live_tasks jobs ≡ 0 = sym (sum_by-cons (λ (m : SessionJob). length m.progress.job.tasks) x jobs) ∙ e in
    elim has [
      | inl is ↦ subst (λ (y : SessionJob). is_at_limit y ≡ false) is (no_tasks x (omega (arith, both)))
      | inr more ↦ none_live jobs (omega (arith, both)) m more
    ]

pub over_has_no_last : (s : Session) → live_tasks s.jobs ≡ 0 → last_part s ≡ None
over_has_no_last s e = no_last s (none_live s.jobs e)

-- ---- a step's lines are those of its parts

-- the step of a first part
pub record Parts (s : Session) (part : StepResult) : Type 0 where
  pub moment : StepResult
  pub is : next s ≡ Some moment
  pub more : List RunLine
  pub begins : moment.lines ≡ part.lines ++ more
  pub both : (l : StepResult) → last_part part.session ≡ Some l → moment.lines ≡ part.lines ++ l.lines

pub parts : (s : Session) (p : StepResult) → first_part s ≡ Some p → Parts s p
parts s p e = by (last_part p.session) refl
  where
    by : (o : Option StepResult) → last_part p.session ≡ o → Parts s p
    by None l = record {
      moment = p;
      is = steps-have-parts s p e ∙ ap (λ (x : Option StepResult). Some (joined p x)) l;
      more = [];
      begins = sym (append-nil p.lines);
      both = λ rest f. absurd (none-some rest (sym l ∙ f));
    }
    by (Some rest) l = record {
      moment = joined p (Some rest);
      is = steps-have-parts s p e ∙ ap (λ (x : Option StepResult). Some (joined p x)) l;
      more = rest.lines;
      begins = refl;
      both = λ r f. ap (λ (x : StepResult). p.lines ++ x.lines) (same_Some rest r (sym l ∙ f));
    }
