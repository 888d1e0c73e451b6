-- Calls of texts that differ in their ?QUANTUM and ?SWITCH cards, the first of which was whole with never two ready tasks.
use Rattle.std.proofs.Common.{◌≡◌, ◌≤◌, ℕ, List, length, refl, sym, ap, subst, ◌∙◌, Option, Result, Ok, arith}
use Rattle.std.specs.Prelude.{IfSome}
use denote.Ref.{Bor}
use Rattle.b67_model.specs.Common.{Program}
use Rattle.b67_model_text.specs.declared.deck.Deck.{Deck}
use Rattle.b67_model_text.specs.Deck as deck
use Rattle.b67_model_text.specs.Deck.{deck_of}
use Rattle.b67_job.specs.Admitting.{Admission, ◌>>=◌, Prepared, of_deck, prepared, deck_prepared}
use Rattle.b67_session.specs.Decks.{session_of}
use Rattle.b67_job.specs.Device.{Device}
use Rattle.b67_job.specs.declared.summaries.Exercise.{Exercise}
use Rattle.b67_job.specs.Runs.{run_of}
use Rattle.b67_job.specs.Judgement.{Judgement, Refused, Runs, Prints, OfImage, judgement}
use Rattle.b67_promises.specs.Paging.{IsWhole}
use Rattle.b67_promises.specs.Switches.{DifferInTurns, NeverTwoReady, CallsProcess, IsOneTask, DifferInTurnLines}
use Rattle.b67_promises.proofs.Calls.{Printed, fell_short, CallPrints, prepared_in, not_refused}
use Rattle.b67_promises.proofs.Alike.{printed_alike}
use Rattle.b67_promises.proofs.MoreCore.{WholeRun}
use Rattle.b67_promises.proofs.Words.{no_print, no_image_asked}
use Rattle.b67_promises.proofs.TurnCards.{SameButTurns, decks_differ}

pub after : {A B : Type 0} (r : Admission A) (go : A → Admission B) (b : B) → (r >>= go) ≡ Ok b → (a : A) × (r ≡ Ok a) × (go a ≡ Ok b)
after r go b e = grind arith

pub of_deck_ok : {A : Type 0} (r : Result A deck.Refusal) (a : A) → of_deck r ≡ Ok a → r ≡ Ok a
of_deck_ok r a e = grind arith

-- a text's deck, and its programs by its jobs
pub parts : (text : List ℕ) (p : Prepared) → deck_prepared text ≡ Ok p → (deck_of text ≡ Ok p.0) × (prepared p.0.jobs ≡ Ok p.1)
unfolding deck_prepared
parts text p e = grind arith

pub prepared_is : (text : List ℕ) (p : Prepared) → judgement text ≡ Runs p → deck_prepared text ≡ Ok p
unfolding judgement
prepared_is text p e = grind arith

-- sessions of such decks differ in turns
differ : (d e : Deck) (ps qs : List Program) → SameButTurns d e → qs ≡ ps → DifferInTurns (session_of d ps) (session_of e qs)
differ d e ps qs h same = grind arith

pub same_ok : {A : Type 0} (a b : A) → ◌≡◌ {A = Admission A} (Ok a) (Ok b) → a ≡ b
same_ok a b e = cc

module _ {S B : Type 0} {words : List (Bor (List ℕ))} {left : S → Option (List ℕ)} {deck deck' : S} {d : Device B} (w : WholeRun words left deck deck' d)
    (bytes other : List ℕ) (judged : judgement bytes ≡ Runs w.p) (h : DifferInTurnLines bytes other) (few : (steps : ℕ) → IfSome (run_of w.p).halt (λ count. steps ≤ count) → NeverTwoReady steps (run_of w.p).session) (e : Option Exercise) (status : ℕ) (text : List ℕ) (c : CallPrints (judgement other) e status text) where
  -- the other text runs, too
  also_runs : (q : Prepared) → judgement other ≡ Runs q → Printed (run_of w.p) e status text
  also_runs q js =
      let one = parts bytes w.p (prepared_is bytes w.p judged) in
      let two = parts other q (prepared_is other q js) in
      let same = decks_differ bytes other w.p.0 q.0 h one.0 two.0 in
      let programs : q.1 ≡ w.p.1 = same_ok q.1 w.p.1 (sym two.1 ∙ ap prepared same.jobs ∙ one.1) in
      printed_alike (run_of w.p) (run_of q) (differ w.p.0 q.0 w.p.1 q.1 same programs) same.halt few e status text (c.prints q js)

  -- or it is refused, or runs
  printed_by : (j : Judgement) → judgement other ≡ j → Printed (run_of w.p) e status text
  printed_by (Runs q) js = also_runs q js
  printed_by (Refused refusal) js =
      let none : IsWhole status → ⊥ = λ whole. let r = c.runs whole in not_refused (judgement other) r.0 r.1 refusal js in
      fell_short none (c.refused refusal js (run_of w.p))
  printed_by (Prints printed) js = absurd (no_print other printed js)
  printed_by OfImage js = absurd (no_image_asked other js)

  -- a call of the other text prints as one of the first would
  pub prints_turned : CallPrints (judgement bytes) e status text
  prints_turned =
      let one = printed_by (judgement other) refl in
      record {
        runs = λ whole. (w.p, judged);
        prints = λ x js. subst (λ (y : Prepared). Printed (run_of y) e status text) (ap (prepared_in w.p) (sym judged ∙ js)) one;
        refused = λ refusal js. absurd (not_refused (judgement bytes) w.p judged refusal js);
      }

-- the run of a text of one task
pub one_of : (bytes : List ℕ) (p : Prepared) → judgement bytes ≡ Runs p → IsOneTask bytes → (length (run_of p).session.jobs ≡ 1) × ((steps job : ℕ) → CallsProcess (run_of p).session steps job → ⊥)
one_of bytes p judged h =
    let same : ◌≡◌ {A = Prepared} (h.d, h.ps) p = same_ok (h.d, h.ps) p (sym h.is ∙ prepared_is bytes p judged) in
    subst (λ (x : Prepared). (length (run_of x).session.jobs ≡ 1) × ((steps job : ℕ) → CallsProcess (run_of x).session steps job → ⊥)) same (h.one, h.alone)
