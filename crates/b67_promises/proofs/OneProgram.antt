-- The run of a deck with one program, which names no PROCESS.
use Rattle.std.proofs.Common.{◌≡◌, ◌≤◌, ℕ, List, [], ◌∷◌, length, refl, sym, subst, ◌∙◌, Ok, inl, inr, Option}
use Rattle.b67_lemmas.specs.Lists.{Has}
use Rattle.b67_model.specs.Common.{Program}
use Rattle.b67_model_text.specs.declared.deck.Job.{Job}
use Rattle.b67_law.specs.Opening.{Opening, opened_from}
use Rattle.b67_session.specs.Decks.{openings_of}
use Rattle.b67_job.specs.Admitting.{Prepared, programs, prepared}
use Rattle.b67_job.specs.Device.{Device}
use Rattle.b67_job.specs.Runs.{run_of}
use Rattle.b67_job.specs.Judgement.{Runs, judgement}
use Rattle.b67_promises.specs.Switches.{CallsProcess, NamesNoProcess, IsOneProgram}
use Rattle.b67_promises.proofs.MoreCore.{WholeRun}
use Rattle.b67_promises.proofs.TurnCalls.{parts, prepared_is, same_ok}
use Rattle.b67_promises.proofs.SourceDecks.{programs_ok}
use Rattle.b67_promises.proofs.FreeSteps.{SessionFree, none_called, opened_free}
use denote.Ref.{Bor}

has_program : (js : List Job) (ps : List Program) (o : Opening) → Has (openings_of js ps) o → Has ps o.program
has_program [] ps o h = absurd h
has_program (j ∷ js) [] o h = absurd h
has_program (j ∷ js) (p ∷ ps) o h = elim h [ inl is ↦ inl (λ i. (is i).program) | inr m ↦ inr (has_program js ps o m) ]

lone_session : (js : List Job) (stack : ℕ) (p : Program) → programs js ≡ Ok (p ∷ []) → length (opened_from 1 stack (openings_of js (p ∷ []))) ≡ 1
lone_session [] stack p e = absurd (let z : ⊥ = cc in z)
lone_session (j ∷ []) stack p e = refl
lone_session (j ∷ k ∷ more) stack p e = refl

-- the opening session of such a text
pub one_program_of : (bytes : List ℕ) (p : Prepared) → judgement bytes ≡ Runs p → IsOneProgram bytes → (length (run_of p).session.jobs ≡ 1) × SessionFree (run_of p).session
one_program_of bytes p judged h =
    let own : Prepared = (h.d, h.p ∷ []) in
    let same : own ≡ p = same_ok own p (sym h.is ∙ prepared_is bytes p judged) in
    let made : prepared h.d.jobs ≡ Ok (h.p ∷ []) = (parts bytes own h.is).1 in
    let none : (o : Opening) → Has (openings_of h.d.jobs (h.p ∷ [])) o → NamesNoProcess o.program.segments = λ o k. elim (has_program h.d.jobs (h.p ∷ []) o k) [
      | inl is ↦ subst (λ (q : Program). NamesNoProcess q.segments) is h.none
      | inr x ↦ absurd x
    ] in
    subst (λ (x : Prepared). (length (run_of x).session.jobs ≡ 1) × SessionFree (run_of x).session) same
    (lone_session h.d.jobs h.d.stack h.p (programs_ok h.d.jobs (h.p ∷ []) made), opened_free 1 h.d.stack (openings_of h.d.jobs (h.p ∷ [])) none)

-- no step of a whole run of it calls PROCESS
pub never_called : {S B : Type 0} {words : List (Bor (List ℕ))} {left : S → Option (List ℕ)} {deck deck' : S} {d : Device B} (w : WholeRun words left deck deck' d) → SessionFree (run_of w.p).session
    → (n job : ℕ) → n ≤ w.k.tasks.made → CallsProcess (run_of w.p).session n job → ⊥
never_called w free n job le calls = none_called (run_of w.p).session w.k.tasks.made w.opens.in_order.ordered free n job le calls
