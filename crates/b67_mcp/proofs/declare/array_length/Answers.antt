use Rattle.std.proofs.Common.{◌≡◌, ◌<◌, ◌^◌, ℕ, Result, sym, ◌∙◌, ap, true, false, subst, Err}
use Rattle.std.proofs.lemmas.Result.{err_from_is_err_and}
use Rattle.std.specs.Prelude.{IfOk}
use Rattle.std.specs.Result.{is_ok}
use Rattle.b67_word.specs.declared.faults.Fault.{Fault}
use Rattle.b67_mcp.specs.Declaring.{LengthMeets}
use Rattle.b67_layout.proofs.Fresh.{running_in_order}
use Rattle.b67_mcp.proofs.Lengths.{not_one, length_is, decided, decided_critical}
use Rattle.b67_mcp.proofs.declare.array_length.Goals.{else-is_ok-via-then-is_ok+else-is_critical, else-is_ok-via-else-is_ok}
use Rattle.b67_mcp.proofs.declare.array_length.Goals as goal

pub returns-in_err-w : goal.returns-in_err-w
returns-in_err-w c =
    let failed = err_from_is_err_and c.from_residual.result c.from_residual.ensures.1 in
    rw (failed.1, failed.2) (record {
      row = λ x plan s m t o h runs r arguments call. (let none = c.in_err-w.ensures x plan s m t o h runs in subst (λ (f : Fault). LengthMeets m t arguments (Err f)) (sym none.1) (not_one m t r arguments call none.0));
    })

pub returns-then-is_critical : goal.returns-then-is_critical
returns-then-is_critical c = record {
  row = λ x plan s m t o h runs r arguments call.
      (let (two, there) = c.in_ok-w.ensures x plan s m t o h runs in
      decided_critical m t r arguments call two c.in_ok-w.w c.length_in-length.result c.length_in-length.ensures.value (length_is m t r arguments call two x plan c.args.cpu.now c.in_ok-w.w there) (sym c.is_ok.ensures.value ∙ c.if-is_ok.true)
      (sym (c.is_critical.ensures x plan s m t o h runs) ∙ c.if-is_critical.true));
}

pub returns : goal.returns
returns c = record {
  row = λ x plan s m t o h runs r arguments call.
      (let (two, there) = c.in_ok-w.ensures x plan s m t o h runs in
      let P : Result ℕ Fault → Type 0 = λ q. IfOk q (λ n. (0 < n) × (n < 2 ^ 16)) in
      decided m t r arguments call two (running_in_order plan s m t o runs).1.not_higher c.in_ok-w.w c.length_in-length.result c.length_in-length.ensures.value (length_is m t r arguments call two x plan c.args.cpu.now c.in_ok-w.w there)
      (λ n e. subst P e c.length_in-length.ensures.bounds)
      (λ n e. elim c.else-is_ok.branch [
        | else-is_ok-via-then-is_ok+else-is_critical w ↦ sym (w.is_critical.ensures x plan s m t o h runs) ∙ w.if-is_critical.false
        | else-is_ok-via-else-is_ok w ↦ absurd (let z : true ≡ false = sym (ap is_ok e) ∙ sym c.is_ok.ensures.value ∙ w.if-is_ok.false in cc)
      ]));
}
