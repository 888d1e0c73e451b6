-- What PRINT makes of its arguments.
use Rattle.std.proofs.Common.{◌≡◌, ◌≢◌, suc, ◌≤◌, ℤ, List, [], ◌∷◌, length, Result, Ok, Err, refl, sym, ◌∙◌, ap, arith, true, false, subst}
use Rattle.std.specs.List.{AllByRecursion}
use Rattle.std.specs.Result.{is_ok}
use Rattle.std.proofs.lemmas.Bool.{le-leb}
use Rattle.b67_word.specs.Tagged.{Tagged}
use Rattle.b67_word.specs.declared.faults.Fault.{Fault}
use Rattle.b67_word.specs.declared.faults.Fault.TheVariants.{InvalidOperand, CriticalBlock}
use Rattle.b67_model.specs.Common.{◌>>=◌, Word, number, Frame, Task, SessionJob, height, top, below_top, is_critical, is_original, print}
use Rattle.b67_model.specs.Words.{whole}
use Rattle.b67_layout.specs.Common.{here, cells}
use Rattle.b67_mcp.proofs.Ones.{count, one}
use Rattle.b67_mcp.specs.Printed.{IsCall, PrintMeets, operand_number}

module _ (m : SessionJob) (t : Task) (r : Word) (arguments : List Word) (call : IsCall t r arguments) where
  -- another number of arguments than one
  pub not_one : length (cells t) ≢ 2 → PrintMeets m t arguments (Err InvalidOperand)
  not_one ne next = by arguments (count m t r arguments call)
    where
      by : (ws : List Word) → length (cells t) ≡ suc (length ws) → print (here m t next) ws ≡ Err InvalidOperand
      by [] e = refl
      by (w ∷ []) e = absurd (ne e)
      by (w ∷ v ∷ more) e = refl

  -- a word that is no whole number
  pub no_value : (two : length (cells t) ≡ 2) (fault : Fault) → whole (one m t r arguments call two).argument ≡ Err fault → PrintMeets m t arguments (Err fault)
  no_value two fault e next = ap (print (here m t next)) (one m t r arguments call two).arguments_are ∙ rw e refl

  pub critical : (two : length (cells t) ≡ 2) (v : ℤ) → whole (one m t r arguments call two).argument ≡ Ok v → is_critical m.progress.job (top t.frames).identity ≡ true → PrintMeets m t arguments (Err CriticalBlock)
  critical two v e c next = ap (print (here m t next)) (one m t r arguments call two).arguments_are ∙ rw e (rw c refl)

  whole_plain : (w : Word) (v : ℤ) → whole w ≡ Ok v → is_original w ≡ false
  whole_plain w v e = grind arith

  lower : (fs : List Frame) → height (below_top fs) ≤ height fs
  lower fs = grind arith

  pub prints : (two : length (cells t) ≡ 2) (v : ℤ) → whole (one m t r arguments call two).argument ≡ Ok v → is_critical m.progress.job (top t.frames).identity ≡ false → height t.frames ≤ m.constants.stack_size → PrintMeets m t arguments (Ok v)
  prints two v e c fits =
      let low : height (below_top t.frames) ≤ m.constants.stack_size = omega (arith, lower t.frames, fits) in
      let P : List Word → Type 0 = λ ws. AllByRecursion (λ (w : Word). is_original w ≡ false) ws in (
        λ next. ap (print (here m t next)) (one m t r arguments call two).arguments_are ∙ rw e (rw c (rw (le-leb (height (below_top t.frames)) m.constants.stack_size low) refl)),
        record { marked = call.marked; free = c; plain = subst P (sym (one m t r arguments call two).cells_are) (whole_plain (one m t r arguments call two).argument v e, (call.plain, tt)) },
      )

  -- by what the argument's word is
  pub decided : (two : length (cells t) ≡ 2) → height t.frames ≤ m.constants.stack_size → (v : Tagged) (answer : Result ℤ Fault) → answer ≡ operand_number v → operand_number v ≡ whole (one m t r arguments call two).argument
      → ((n : ℤ) → answer ≡ Ok n → is_critical m.progress.job (top t.frames).identity ≡ false) → PrintMeets m t arguments answer
  decided two fits v (Ok n) e is free = prints two n (sym is ∙ sym e) (free n refl) fits
  decided two fits v (Err fault) e is free = no_value two fault (sym is ∙ sym e)

  pub decided_critical : (two : length (cells t) ≡ 2) (v : Tagged) (answer : Result ℤ Fault) → answer ≡ operand_number v → operand_number v ≡ whole (one m t r arguments call two).argument → is_ok answer ≡ true
      → is_critical m.progress.job (top t.frames).identity ≡ true → PrintMeets m t arguments (Err CriticalBlock)
  decided_critical two v (Ok n) e is ok c = critical two n (sym is ∙ sym e) c
  decided_critical two v (Err fault) e is ok c = absurd cc
