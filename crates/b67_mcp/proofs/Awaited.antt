-- The task of a number, which lives or doesn't.
use Rattle.std.proofs.Common.{◌≡◌, ℕ, ◌<◌, ℤ, List, [], map, None, Ok, true, false, refl, sym, ◌∙◌, ap, subst, arith}
use Rattle.std.specs.Prelude.{pos, negsuc}
use Rattle.std.proofs.lemmas.Bool.{eqb-true}
use Rattle.b67_lemmas.proofs.Members.{any_has, falls_low, has_map}
use Rattle.b67_model.specs.Common.{Answer, ◌>>=◌, Word, Awaits, Task, SessionJob, OperatorContext, Waits, Session, is_live, names_task, awaits, answers}
use Rattle.b67_model.specs.Intrinsics as rows
use Rattle.b67_layout.specs.Common.{IsInOrderButCounts, Placement, IsRunning}
use Rattle.b67_layout.proofs.Fresh.{running_in_order}
use Rattle.b67_mcp.specs.Arguments.{number_given}
use Rattle.b67_mcp.proofs.WaitArguments.{await_is}

-- a live task's number is below the next one
pub record LiveNumber (m : SessionJob) (z : ℤ) : Type 0 where
  pub number : ℕ
  pub is : z ≡ pos number
  pub low : number < m.progress.job.next_task

pub live_number : (plan : Placement) (s : Session) (m : SessionJob) (t : Task) → IsInOrderButCounts s → IsRunning plan s.jobs m t → (z : ℤ) → is_live m.progress.job z ≡ true → LiveNumber m z
live_number plan s m t o runs (pos n) e =
    let (u, i, is) = any_has (λ (v : Task). names_task (pos n) v.number) m.progress.job.tasks e in
    let same : n ≡ u.number = eqb-true n u.number is in
    let falls = (running_in_order plan s m t o runs).0.tasks.numbers in
    record {
      number = n;
      is = refl;
      low = subst (λ (k : ℕ). k < m.progress.job.next_task) (sym same) (falls_low m.progress.job.next_task (map (λ (v : Task). v.number) m.progress.job.tasks) u.number falls (has_map (λ (v : Task). v.number) m.progress.job.tasks u i));
    }
live_number plan s m t o runs (negsuc n) e = grind (arith, any_has)

module _ (h : OperatorContext) (arguments : List Word) (z : ℤ) (given : number_given arguments ≡ Ok z) where
  pub await_waits : (n : ℕ) → z ≡ pos n → is_live h.job z ≡ true → rows.await h arguments ≡ Ok (Waits (Awaits n))
  await_waits n e live = grind arith

  free_of : (y : ℤ) → is_live h.job y ≡ false → awaits h y ≡ answers h h.job [] [] None
  free_of y e = grind arith

  pub await_free : is_live h.job z ≡ false → rows.await h arguments ≡ answers h h.job [] [] None
  await_free e = await_is h arguments ∙ ap (λ (a : Answer ℤ). a >>= awaits h) given ∙ free_of z e
