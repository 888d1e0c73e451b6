-- Operators of a turn after others of it.
use Rattle.std.proofs.Common.{◌≡◌, ◌≤◌, ℕ, ◌+◌, ◌-◌, List, length, Option, Some, inl, inr, sym, ap, ◌∙◌, subst, arith}
use Rattle.std.proofs.lemmas.Bool.{cases_lt}
use Rattle.b67_model.specs.Common.{after, lines, Session}
use Rattle.b67_session_lines.proofs.Statuses.{after-add}
use Rattle.b67_task.specs.declared.tables.Machine.{Machine}
use Rattle.b67_task.proofs.Keeping.{halt_kept}
use Rattle.b67_session.specs.Slices.{NextFits, Keeps}
use Rattle.b67_session.specs.Steps.{GoesOnInTurn}

module _ (told : Option (List (List ℕ))) (steps more : ℕ) (first : Session) (old mid new : Machine) (keeps : Keeps old mid) (x : GoesOnInTurn told steps first old mid) (y : GoesOnInTurn told more x.session mid new) where
  reached : (k : ℕ) → steps ≤ k → after (k - steps) x.session ≡ after k first
  reached k up =
      let same : k ≡ steps + (k - steps) = omega (arith, up) in
      sym (ap (λ (i : ℕ). after i first) same ∙ after-add steps (k - steps) first ∙ ap (after (k - steps)) x.leads)

  pub in_turn_then : GoesOnInTurn told (steps + more) first old new
  in_turn_then = record {
    session = y.session;
    leads = after-add steps more first ∙ ap (after more) x.leads ∙ y.leads;
    silent = λ start n e.
        let same : n + (steps + more) ≡ n + steps + more = omega arith in
        ap (λ (k : ℕ). lines k start) same ∙ y.silent start (n + steps) (after-add n steps start ∙ ap (after steps) e ∙ x.leads) ∙ x.silent start n e;
    stands = y.stands;
    made = omega (arith, x.made, y.made);
    unprinted = y.unprinted;
    fits = λ k low. elim (cases_lt k steps) [
      | inl before ↦ x.fits k before
      | inr up ↦
          subst (λ (s : Session). NextFits (length old.cpu.core) s) (reached k up)
          (subst (λ (n : ℕ). NextFits n (after (k - steps) x.session)) keeps.core (y.fits (k - steps) (omega (arith, low, up))))
    ];
    below = λ j low. elim (cases_lt j steps) [
      | inl before ↦ x.below j before
      | inr up ↦ λ at.
          y.below (j - steps) (omega (arith, low, up)) (halt_kept old mid keeps ∙ at ∙ ap (λ (n : ℕ). Some n) (omega (arith, x.made, up)))
    ];
  }
