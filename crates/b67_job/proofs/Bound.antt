-- What `bind` prints, from its parts.
use Rattle.std.proofs.Common.{◌≡◌, ◌<◌, ℕ, List, length, Option, Result, Ok, Err, refl, sym, ap, ◌∙◌}
use Rattle.b67_io.specs.Told.{GaveAll}
use Rattle.std.proofs.lemmas.Bool.{lt-ltb}
use Rattle.b67_model_text.specs.declared.card.Card.{Card}
use Rattle.b67_model_text.specs.declared.deck.Deck.{Deck}
use Rattle.b67_model_text.specs.Deck as deck
use Rattle.b67_model_text.specs.Deck.{deck_of, limit}
use Rattle.b67_model_text.specs.Asm.{assembled, version_of}
use Rattle.b67_card.specs.Reading.{IsRead}
use Rattle.b67_card.specs.declared.fault.DeckFault.{DeckFault}
use Rattle.b67_card.specs.declared.fault.DeckFault.TheVariants as fault
use Rattle.b67_codefile.specs.declared.file.Codefile.{Codefile}
use Rattle.b67_codefile.specs.Spelling.{IsWithin}
use Rattle.b67_codefile.specs.Meaning.{program_of}
use Rattle.b67_bind.specs.declared.pairs.Pair.{Pair}
use Rattle.b67_job.specs.declared.refusal.Refusal.TheVariants as refusal
use Rattle.b67_job.specs.declared.admit_fault.AdmitFault.{AdmitFault}
use Rattle.b67_job.specs.declared.admit_fault.AdmitFault.TheVariants as admits
use Rattle.b67_job.specs.Admitting.{Admission, ◌>>=◌, of_cards}
use Rattle.b67_job.specs.Meets.{of_deck_fault}
use Rattle.b67_job.specs.Verdicts.{Verdict, codefile_of, bind_deck, bind_verdict}
use Rattle.b67_job.specs.CommandMeets.{IsJudged, MeetsVerdict}
use Rattle.b67_job.proofs.Cards.{file_back}
use Rattle.b67_job.proofs.Loads.{first_of_all}
use Rattle.b67_job.proofs.Judged.{too_long}

-- ---- a job's codefile

pub assembled_codefile : (cards : List Card) (f : Codefile) → assembled cards ≡ Ok (program_of f) → f.version ≡ version_of cards → IsWithin f → (of_cards (assembled cards) >>= λ p. Ok (codefile_of (version_of cards) p)) ≡ Ok f
assembled_codefile cards f e version within = rw e (ap (λ (g : Codefile). done g) (ap (λ (n : ℕ). codefile_of n (program_of f)) (sym version) ∙ file_back f within))
  where
    done : Codefile → Admission Codefile
    done g = Ok g

-- ---- by a text

by_deck : (list : List Pair) (text : List ℕ) (d : Deck) (v : Verdict) → deck_of text ≡ Ok d → bind_deck list d ≡ v → bind_verdict list text ≡ v
unfolding bind_verdict
by_deck list text d v e f = rw e f

refused_card : (list : List Pair) (text : List ℕ) (r : deck.Refusal) → deck_of text ≡ Err r → bind_verdict list text ≡ Err (refusal.Deck r.card r.reason)
unfolding bind_verdict
refused_card list text r e = rw e refl

-- a deck that was read
pub judged : {S : Type 0} (left : S → Option (List ℕ)) (faults : S → ℕ) (old new : S) (list : List Pair) (text : List ℕ) (d : Deck) (r : Result (List ℕ) AdmitFault) → GaveAll left old new text → deck_of text ≡ Ok d → MeetsVerdict r (bind_deck list d)
    → IsJudged left faults old new (bind_verdict list) r
judged left faults old new list text d (Ok printed) all e m = (text, all, by_deck list text d (Ok printed) e m)
judged left faults old new list text d (Err (admits.Refused r)) all e m = (text, first_of_all left old new text d e all, by_deck list text d (Err r) e m)
judged left faults old new list text d (Err admits.SourceFault) all e m = absurd m
judged left faults old new list text d (Err admits.Memory) all e m = tt

-- a deck that wasn't
pub not_judged : {S : Type 0} (left : S → Option (List ℕ)) (faults : S → ℕ) (old new : S) (list : List Pair) (f : DeckFault) → IsRead left faults old new deck_of (Err f) → IsJudged left faults old new (bind_verdict list) (Err (of_deck_fault f))
not_judged left faults old new list (fault.Card card reason) h = (h.0, h.1, refused_card list h.0 (record { card = card; reason = reason }) h.2)
not_judged left faults old new list fault.SourceFault h = h
not_judged left faults old new list fault.Memory h = tt

-- a text past the limit
pub bind_long : (list : List Pair) (text : List ℕ) → limit < length text → bind_verdict list text ≡ Err (too_long text)
unfolding bind_verdict
bind_long list text long = rw (lt-ltb limit (length text) long) refl
