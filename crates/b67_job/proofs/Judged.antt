-- What is judged of a text, from its parts.
use Rattle.std.proofs.Common.{◌≡◌, ◌≤◌, ◌<◌, ◌+◌, ℕ, List, length, map, take, drop, Option, Some, Result, Ok, Err, Bool, true, false, ltb, refl, sym, ap, subst, ◌∙◌, arith}
use Rattle.std.specs.Prelude.{count_by, ◌==◌}
use Rattle.std.proofs.lemmas.Bool.{ltb-false, lt-ltb}
use Rattle.std.proofs.lemmas.List.{take_all, drop_all}
use Rattle.b67_io.specs.Told.{GaveAll}
use Rattle.b67_model_text.specs.declared.card.Card.{Card}
use Rattle.b67_model_text.specs.declared.deck.Job.{Job}
use Rattle.b67_codefile.specs.declared.file.Codefile.{Codefile}
use Rattle.b67_codefile.specs.Meaning.{program_of}
use Rattle.b67_model_text.specs.Deck as deck
use Rattle.b67_model_text.specs.Deck.{plain_cards, hexadecimal_cards, limit}
use Rattle.b67_card.specs.Reading.{GaveFirst, IsRead}
use Rattle.b67_card.specs.declared.fault.DeckFault.{DeckFault}
use Rattle.b67_card.specs.declared.fault.DeckFault.TheVariants as fault
use Rattle.b67_job.specs.declared.refusal.Refusal.{Refusal}
use Rattle.b67_job.specs.declared.refusal.Refusal.TheVariants as refusal
use Rattle.b67_job.specs.declared.programs.Loaded.{Loaded}
use Rattle.b67_job.specs.declared.admit_fault.AdmitFault.{AdmitFault}
use Rattle.b67_job.specs.declared.admit_fault.AdmitFault.TheVariants as admits
use Rattle.b67_job.specs.Admitting.{Prepared, deck_prepared}
use Rattle.b67_job.specs.Meets.{LoadsDeck, prepared_of, of_deck_fault}
use Rattle.b67_job.specs.Verdicts.{Verdict, job_lines, check_verdict, asm_of, asm_verdict, converted_of, convert_verdict}
use Rattle.b67_job.specs.CommandMeets.{IsJudged}

-- ---- check

pub checked : (text : List ℕ) (p : Prepared) → deck_prepared text ≡ Ok p → check_verdict text ≡ Ok (job_lines p.0.jobs p.1)
unfolding check_verdict
checked text p e = rw e refl

pub checked_text : (text : List ℕ) (loaded : Loaded) (jobs : List Job) (files : List Codefile) (printed : List ℕ) → deck_prepared text ≡ Ok (prepared_of loaded)
    → jobs ≡ loaded.deck.jobs → files ≡ loaded.programs → printed ≡ job_lines jobs (map program_of files) → check_verdict text ≡ Ok printed
checked_text text loaded jobs files printed e j f p = checked text (prepared_of loaded) e ∙ ap Ok (sym (rw (sym j, sym f) p))

check_refused : (text : List ℕ) (r : Refusal) → deck_prepared text ≡ Err r → check_verdict text ≡ Err r
unfolding check_verdict
check_refused text r e = rw e refl

-- a deck that isn't loaded
pub not_loaded : {S : Type 0} (left : S → Option (List ℕ)) (faults : S → ℕ) (old new : S) (f : AdmitFault) → LoadsDeck left faults old new (Err f) → IsJudged left faults old new check_verdict (Err f)
not_loaded left faults old new (admits.Refused r) h = (h.0, h.1, check_refused h.0 r h.2)
not_loaded left faults old new admits.SourceFault h = h
not_loaded left faults old new admits.Memory h = h

-- ---- asm

pub assembled_cards : (text : List ℕ) (cards : List Card) (v : Verdict) → plain_cards text ≡ Ok cards → asm_of cards ≡ v → asm_verdict text ≡ v
unfolding asm_verdict
assembled_cards text cards v e f = rw e f

refused_card : (text : List ℕ) (r : deck.Refusal) → plain_cards text ≡ Err r → asm_verdict text ≡ Err (refusal.Deck r.card r.reason)
unfolding asm_verdict
refused_card text r e = rw e refl

abbrev IsRefused : Result (List Card) deck.Refusal → Type 0
IsRefused (Ok cards) = ⊥
IsRefused (Err r) = Unit {0}

-- a source that gave all of a text within the limit gave its first bytes
first_bytes : {S : Type 0} (left : S → Option (List ℕ)) (old new : S) (text : List ℕ) → length text ≤ limit → GaveAll left old new text → GaveFirst left (limit + 1) old new text
first_bytes left old new text low all =
    let le : length text ≤ limit + 1 = omega (arith, low) in
    record {
      told = λ before same.
          let h = all.told before same in
          (sym (take_all (limit + 1) text le) ∙ ap (take (limit + 1)) (sym h.0), h.1 ∙ ap Some (sym (drop_all (limit + 1) text le) ∙ ap (drop (limit + 1)) (sym h.0)));
    }

-- a text with cards is within the limit
within : (text : List ℕ) (cards : List Card) → plain_cards text ≡ Ok cards → length text ≤ limit
within text cards e = by_test (ltb limit (length text)) refl
  where
    by_test : (b : Bool) → ltb limit (length text) ≡ b → length text ≤ limit
    by_test true t = absurd (subst IsRefused (rw t at e) tt)
    by_test false t = ltb-false limit (length text) t

-- and the source that gave all of it gave its first bytes
pub first_of_all : {S : Type 0} (left : S → Option (List ℕ)) (old new : S) (text : List ℕ) (cards : List Card) → plain_cards text ≡ Ok cards → GaveAll left old new text → GaveFirst left (limit + 1) old new text
first_of_all left old new text cards e all = first_bytes left old new text (within text cards e) all

-- cards that aren't read
pub not_read : {S : Type 0} (left : S → Option (List ℕ)) (faults : S → ℕ) (old new : S) (f : DeckFault) → IsRead left faults old new plain_cards (Err f) → IsJudged left faults old new asm_verdict (Err (of_deck_fault f))
not_read left faults old new (fault.Card card reason) h = (h.0, h.1, refused_card h.0 (record { card = card; reason = reason }) h.2)
not_read left faults old new fault.SourceFault h = h
not_read left faults old new fault.Memory h = tt

-- ---- convert

pub converted_cards : (text : List ℕ) (cards : List Card) (v : Verdict) → hexadecimal_cards text ≡ Ok cards → converted_of cards ≡ v → convert_verdict text ≡ v
unfolding convert_verdict
converted_cards text cards v e f = rw e f

refused_hexadecimal : (text : List ℕ) (r : deck.Refusal) → hexadecimal_cards text ≡ Err r → convert_verdict text ≡ Err (refusal.Deck r.card r.reason)
unfolding convert_verdict
refused_hexadecimal text r e = rw e refl

-- a text with hexadecimal cards is within the limit
within_hexadecimal : (text : List ℕ) (cards : List Card) → hexadecimal_cards text ≡ Ok cards → length text ≤ limit
within_hexadecimal text cards e = by_test (ltb limit (length text)) refl
  where
    by_test : (b : Bool) → ltb limit (length text) ≡ b → length text ≤ limit
    by_test true t = absurd (subst IsRefused (rw t at e) tt)
    by_test false t = ltb-false limit (length text) t

pub first_of_hexadecimal : {S : Type 0} (left : S → Option (List ℕ)) (old new : S) (text : List ℕ) (cards : List Card) → hexadecimal_cards text ≡ Ok cards → GaveAll left old new text → GaveFirst left (limit + 1) old new text
first_of_hexadecimal left old new text cards e all = first_bytes left old new text (within_hexadecimal text cards e) all

-- hexadecimal cards that aren't read
pub not_read_hexadecimal : {S : Type 0} (left : S → Option (List ℕ)) (faults : S → ℕ) (old new : S) (f : DeckFault) → IsRead left faults old new hexadecimal_cards (Err f) → IsJudged left faults old new convert_verdict (Err (of_deck_fault f))
not_read_hexadecimal left faults old new (fault.Card card reason) h = (h.0, h.1, refused_hexadecimal h.0 (record { card = card; reason = reason }) h.2)
not_read_hexadecimal left faults old new fault.SourceFault h = h
not_read_hexadecimal left faults old new fault.Memory h = tt

-- ---- texts past the limit

-- the refusal of the card with the first byte past the limit
abbrev pub too_long : List ℕ → Refusal
too_long text = refusal.Deck (count_by (λ b. b == 10) (take limit text) + 1) 14

pub check_long : (text : List ℕ) → limit < length text → check_verdict text ≡ Err (too_long text)
unfolding check_verdict deck_prepared
check_long text long = rw (lt-ltb limit (length text) long) refl

pub asm_long : (text : List ℕ) → limit < length text → asm_verdict text ≡ Err (too_long text)
unfolding asm_verdict
asm_long text long = rw (lt-ltb limit (length text) long) refl

pub convert_long : (text : List ℕ) → limit < length text → convert_verdict text ≡ Err (too_long text)
unfolding convert_verdict
convert_long text long = rw (lt-ltb limit (length text) long) refl
