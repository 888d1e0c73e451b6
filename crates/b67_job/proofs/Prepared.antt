-- A deck whose programs are admitted has one for each job.
use Rattle.std.proofs.Common.{◌≡◌, ℕ, suc, List, [], ◌∷◌, length, Ok, Err, Result, refl, sym, ◌∙◌, ap, subst}
use Rattle.std.specs.Prelude.{⊤}
use Rattle.b67_model.specs.Program.{Program}
use Rattle.b67_model_text.specs.declared.deck.Deck.{Deck}
use Rattle.b67_model_text.specs.declared.deck.Job.{Job}
use Rattle.b67_model_text.specs.Deck as deck
use Rattle.b67_model_text.specs.Deck.{deck_of}
use Rattle.b67_model_text.proofs.Answers.{err-ok}
use Rattle.b67_job.specs.Admitting.{Admission, ◌>>=◌, of_deck, program_in, programs, admitted, prepared, Prepared, deck_prepared}
use Rattle.b67_session.specs.Decks.{DeckInRange}
use Rattle.b67_job.specs.Ranges.{CardsInRange}
use Rattle.b67_job.proofs.Jobs.{decks_in_range, cards_in_range}

after : {A B : Type 0} (r : Admission A) (go : A → Admission B) (b : B) → (r >>= go) ≡ Ok b → (a : A) × (r ≡ Ok a) × (go a ≡ Ok b)
after (Ok a) go b e = (a, refl, e)
after (Err r) go b e = err-ok r b _ e

of_deck_ok : {A : Type 0} (r : Result A deck.Refusal) (a : A) → of_deck r ≡ Ok a → r ≡ Ok a
of_deck_ok (Ok x) a e = let is : x ≡ a = cc in ap (λ y. Ok y) is
of_deck_ok (Err r) a e = absurd (let z : ⊥ = cc in z)

programs_many : (jobs : List Job) (ps : List Program) → programs jobs ≡ Ok ps → length ps ≡ length jobs
programs_many [] ps e = let is : [] ≡ ps = cc in ap length (sym is)
programs_many (j ∷ more) ps e =
    let p = after (program_in j.body_card j.program) (λ p. programs more >>= λ qs. Ok (p ∷ qs)) ps e in
    let q = after (programs more) (λ qs. Ok (p.0 ∷ qs)) ps p.2 in
    let is : p.0 ∷ q.0 ≡ ps = cc in
    ap length (sym is) ∙ ap suc (programs_many more q.0 q.1)

prepared_many : (jobs : List Job) (ps : List Program) → prepared jobs ≡ Ok ps → length ps ≡ length jobs
prepared_many jobs ps e =
    let p = after (programs jobs) (λ qs. admitted jobs qs >>= λ (u : ⊤). Ok qs) ps e in
    let a = after (admitted jobs p.0) (λ (u : ⊤). Ok p.0) ps p.2 in
    let is : p.0 ≡ ps = cc in
    ap length (sym is) ∙ programs_many jobs p.0 p.1

pub prepared_in_range : (text : List ℕ) (d : Deck) (ps : List Program) → deck_prepared text ≡ Ok (d, ps) → DeckInRange d × (length ps ≡ length d.jobs)
unfolding deck_prepared
prepared_in_range text d ps e =
    let a = after (of_deck (deck_of text)) (λ x. prepared x.jobs >>= λ qs. Ok (x, qs)) (d, ps) e in
    let b = after (prepared a.0.jobs) (λ qs. Ok (a.0, qs)) (d, ps) a.2 in
    let is : ◌≡◌ {A = Prepared} (a.0, b.0) (d, ps) = cc in
    let same_deck : a.0 ≡ d = ap (λ (z : Prepared). z.0) is in
    let same_programs : b.0 ≡ ps = ap (λ (z : Prepared). z.1) is in (
      subst DeckInRange same_deck (decks_in_range text a.0 (of_deck_ok (deck_of text) a.0 a.1)),
      ap length (sym same_programs) ∙ (prepared_many a.0.jobs b.0 b.1 ∙ ap (λ (x : Deck). length x.jobs) same_deck),
    )

-- and what its cards say is in range
pub prepared_cards : (text : List ℕ) (p : Prepared) → deck_prepared text ≡ Ok p → CardsInRange p.0
unfolding deck_prepared
prepared_cards text p e =
    let a = after (of_deck (deck_of text)) (λ x. prepared x.jobs >>= λ qs. Ok (x, qs)) p e in
    let b = after (prepared a.0.jobs) (λ qs. Ok (a.0, qs)) p a.2 in
    let is : ◌≡◌ {A = Prepared} (a.0, b.0) p = cc in
    subst CardsInRange (ap (λ (z : Prepared). z.0) is) (cards_in_range text a.0 (of_deck_ok (deck_of text) a.0 a.1))
