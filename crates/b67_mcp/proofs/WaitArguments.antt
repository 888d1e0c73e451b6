-- The one argument of a call, and the rows of AWAIT, STATUS, WAIT and CAUSE by it.
use Rattle.std.proofs.Common.{◌≡◌, ◌≢◌, suc, ℤ, List, [], ◌∷◌, length, Ok, Err, refl, sym, ◌∙◌, ap, false, arith}
use Rattle.b67_word.specs.Tagged.{Tagged}
use Rattle.b67_word.specs.declared.faults.Fault.TheVariants.{InvalidOperand}
use Rattle.b67_model.specs.Common.{◌>>=◌, End, follow_reference, Word, Operand, number, Task, SessionJob, OperatorContext, top, is_critical, is_original, awaits, answers, status_of, waits_at, causes}
use Rattle.b67_model.specs.Words.{whole}
use Rattle.b67_model.specs.Intrinsics as rows
use Rattle.b67_stack.specs.declared.Cpu.{Cpu}
use Rattle.b67_stack.specs.Represents.{Storage}
use Rattle.b67_layout.specs.Common.{Placement, cells, GivesTop}
use Rattle.b67_mcp.specs.Calls.{IsCall, MayCut, operand_number}
use Rattle.b67_mcp.proofs.Ones.{count, one, value_is}
use Rattle.b67_mcp.specs.Arguments.{number_given, end_given}

-- the rows, by what the argument gives
pub await_is : (h : OperatorContext) (arguments : List Word) → rows.await h arguments ≡ (number_given arguments >>= awaits h)
await_is h arguments = grind arith

pub status_is : (h : OperatorContext) (arguments : List Word) → rows.status h arguments ≡ (number_given arguments >>= λ n. answers h h.job (Operand (status_of h.job n) ∷ []) [] Rattle.std.specs.Prelude.None)
status_is h arguments = grind arith

pub wait_is : (h : OperatorContext) (arguments : List Word) → rows.wait h arguments ≡ (end_given h arguments >>= waits_at h)
wait_is h arguments = grind arith

pub cause_is : (h : OperatorContext) (arguments : List Word) → rows.cause h arguments ≡ (end_given h arguments >>= causes h)
cause_is h arguments = grind arith

-- a whole number is no original, and neither is a reference that ends somewhere
whole_plain : (w : Word) (n : ℤ) → whole w ≡ Ok n → is_original w ≡ false
whole_plain w n e = grind arith

end_plain : (h : OperatorContext) (w : Word) (e : End) → follow_reference h w ≡ Ok e → is_original w ≡ false
end_plain h w e q = grind arith

module _ (m : SessionJob) (t : Task) (r : Word) (arguments : List Word) (call : IsCall t r arguments) where
  -- another number of arguments than one
  pub no_number : length (cells t) ≢ 2 → number_given arguments ≡ Err InvalidOperand
  no_number ne = by arguments (count m t r arguments call)
    where
      by : (ws : List Word) → length (cells t) ≡ suc (length ws) → number_given ws ≡ Err InvalidOperand
      by [] e = refl
      by (w ∷ []) e = absurd (ne e)
      by (w ∷ v ∷ more) e = refl

  pub no_end : (h : OperatorContext) → length (cells t) ≢ 2 → end_given h arguments ≡ Err InvalidOperand
  no_end h ne = by arguments (count m t r arguments call)
    where
      by : (ws : List Word) → length (cells t) ≡ suc (length ws) → end_given h ws ≡ Err InvalidOperand
      by [] e = refl
      by (w ∷ []) e = absurd (ne e)
      by (w ∷ v ∷ more) e = refl

  -- the argument
  pub number_is : (x : Storage) (plan : Placement) (cpu : Cpu) → length (cells t) ≡ 2 → (v : Tagged) → GivesTop x plan m t cpu (cells t) (Ok v) → operand_number v ≡ number_given arguments
  number_is x plan cpu two v g = value_is m t r arguments call x plan cpu two v g ∙ ap number_given (sym (one m t r arguments call two).arguments_are)

  may_one : (two : length (cells t) ≡ 2) → is_original (one m t r arguments call two).argument ≡ false → is_critical m.progress.job (top t.frames).identity ≡ false → MayCut m t
  may_one two plain free = grind arith

  two_number : (n : ℤ) → number_given arguments ≡ Ok n → length (cells t) ≡ 2
  two_number n e = by arguments e (count m t r arguments call)
    where
      by : (ws : List Word) → number_given ws ≡ Ok n → length (cells t) ≡ suc (length ws) → length (cells t) ≡ 2
      by [] e q = absurd cc
      by (w ∷ []) e q = q
      by (w ∷ v ∷ more) e q = absurd cc

  two_end : (h : OperatorContext) (end : End) → end_given h arguments ≡ Ok end → length (cells t) ≡ 2
  two_end h end e = by arguments e (count m t r arguments call)
    where
      by : (ws : List Word) → end_given h ws ≡ Ok end → length (cells t) ≡ suc (length ws) → length (cells t) ≡ 2
      by [] e q = absurd cc
      by (w ∷ []) e q = q
      by (w ∷ v ∷ more) e q = absurd cc

  -- such a call may be cut where no live task depends on it
  pub may_number : (n : ℤ) → number_given arguments ≡ Ok n → is_critical m.progress.job (top t.frames).identity ≡ false → MayCut m t
  may_number n e free =
      let two = two_number n e in
      may_one two (whole_plain (one m t r arguments call two).argument n (ap number_given (sym (one m t r arguments call two).arguments_are) ∙ e)) free

  pub may_end : (h : OperatorContext) (end : End) → end_given h arguments ≡ Ok end → is_critical m.progress.job (top t.frames).identity ≡ false → MayCut m t
  may_end h end e free =
      let two = two_end h end e in
      may_one two (end_plain h (one m t r arguments call two).argument end (ap (end_given h) (sym (one m t r arguments call two).arguments_are) ∙ e)) free
