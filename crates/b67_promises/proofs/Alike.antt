-- Calls of decks that differ in their switches and their quantum.
use Rattle.std.proofs.Common.{◌≡◌, ◌≤◌, ◌<◌, ℕ, List, ◌++◌, refl, sym, ap, subst, ◌∙◌, arith, Option, Ok}
use Rattle.std.specs.Prelude.{IfSome}
use Rattle.b67_model.specs.Common.{run_text, RunLine, live_tasks}
use Rattle.b67_job.specs.Admitting.{Prepared, deck_prepared}
use Rattle.b67_session_lines.specs.Stops.{Run}
use Rattle.b67_job.specs.declared.summaries.Exercise.{Exercise}
use Rattle.b67_job.specs.Lines.{summary}
use Rattle.b67_job.specs.Runs.{run_of}
use Rattle.b67_job.specs.Judgement.{Runs, judgement}
use Rattle.b67_promises.specs.Switches.{DifferInTurns, NeverTwoReady, DecksDifferInTurns}
use Rattle.b67_promises.proofs.Calls.{Printed, all_ended, halt_came, fell_short, CallPrints, prepared_in, not_refused}
use Rattle.b67_promises.proofs.Turns.{run_alike}
use Rattle.b67_promises.proofs.Words.{closing_by}

pub judged : (text : List ℕ) (p : Prepared) → deck_prepared text ≡ Ok p → judgement text ≡ Runs p
unfolding judgement
judged text p e = rw e refl

module _ (r q : Run) (d : DifferInTurns r.session q.session) (halt : q.halt ≡ r.halt) (few : (steps : ℕ) → IfSome r.halt (λ count. steps ≤ count) → NeverTwoReady steps r.session) where
  within : (steps : ℕ) → IfSome q.halt (λ count. steps ≤ count) → IfSome r.halt (λ count. steps ≤ count)
  within steps h = subst (λ (o : Option ℕ). IfSome o (λ count. steps ≤ count)) halt h

  -- what the one prints, the other does
  pub printed_alike : (e : Option Exercise) (status : ℕ) (text : List ℕ) → Printed q e status text → Printed r e status text
  printed_alike e status text (all_ended z steps low over made is) =
      let same = run_alike steps r.session q.session d (few steps (within steps low)) in
      all_ended z steps (within steps low) (ap live_tasks (sym same.1.jobs) ∙ over) (sym same.1.made ∙ made) (is ∙ ap (λ (ls : List RunLine). run_text ls ++ summary (closing_by e) steps) same.0)
  printed_alike e status text (halt_came z h) = grind (arith, run_alike)
  printed_alike e status text (fell_short short s) = grind (arith, run_alike)

-- a call of the other text prints as one of the first would
pub prints_alike : (bytes other : List ℕ) (e : Option Exercise) (status : ℕ) (text : List ℕ) → DecksDifferInTurns bytes other → CallPrints (judgement other) e status text → CallPrints (judgement bytes) e status text
prints_alike bytes other e status text h c =
    let p : Prepared = (h.d, h.ps) in
    let q : Prepared = (record h.d { switches = h.switches; quantum = h.quantum }, h.ps) in
    let is : judgement bytes ≡ Runs p = judged bytes p h.is in
    let one : Printed (run_of p) e status text = printed_alike (run_of p) (run_of q) (record { jobs = refl; made = refl }) refl (λ steps low. h.one_ready steps) e status text (c.prints q (judged other q h.other_is)) in
    record {
      runs = λ whole. (p, is);
      prints = λ x js. subst (λ (y : Prepared). Printed (run_of y) e status text) (ap (prepared_in p) (sym is ∙ js)) one;
      refused = λ refusal js. absurd (not_refused (judgement bytes) p is refusal js);
    }
