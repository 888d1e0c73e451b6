-- The deck and its programs, from the deck's answer and the programs'.
use Rattle.std.proofs.Common.{◌≡◌, ◌≤◌, ◌+◌, ℕ, List, length, map, take, drop, Option, Some, Result, Ok, Err, Bool, true, false, ltb, refl, sym, ap, subst, ◌∙◌, arith}
use Rattle.std.proofs.lemmas.Bool.{ltb-false}
use Rattle.std.proofs.lemmas.List.{take_all, drop_all}
use Rattle.b67_io.specs.Told.{GaveAll}
use Rattle.b67_model.specs.Program.{Program}
use Rattle.b67_model_text.specs.declared.deck.Deck.{Deck}
use Rattle.b67_model_text.specs.Deck as deck
use Rattle.b67_model_text.specs.Deck.{deck_of, limit}
use Rattle.b67_card.specs.Reading.{GaveFirst, IsRead}
use Rattle.b67_card.specs.declared.fault.DeckFault.{DeckFault}
use Rattle.b67_card.specs.declared.fault.DeckFault.TheVariants as fault
use Rattle.b67_job.specs.declared.refusal.Refusal.{Refusal}
use Rattle.b67_job.specs.declared.refusal.Refusal.TheVariants as refusal
use Rattle.b67_codefile.specs.declared.file.Codefile.{Codefile}
use Rattle.b67_codefile.specs.Meaning.{program_of}
use Rattle.b67_job.specs.declared.programs.Loaded.{Loaded}
use Rattle.b67_job.specs.declared.admit_fault.AdmitFault.{AdmitFault}
use Rattle.b67_job.specs.declared.admit_fault.AdmitFault.TheVariants as admits
use Rattle.b67_job.specs.Meets.{MeetsAnswer, LoadsDeck, prepared_of, of_deck_fault}
use Rattle.b67_job.specs.Admitting.{Prepared, with_programs, prepared, deck_prepared}

-- a deck with its programs, from theirs
pub with_them : (d : Deck) (ps : List Program) → prepared d.jobs ≡ Ok ps → with_programs d ≡ Ok (d, ps)
with_them d ps e = rw e refl

pub without_them : (d : Deck) (f : AdmitFault) → MeetsAnswer {X = List Codefile} (map program_of) (Err f) (prepared d.jobs) → MeetsAnswer prepared_of (Err f) (with_programs d)
without_them d (admits.Refused r) e = rw e refl
without_them d admits.SourceFault e = e
without_them d admits.Memory e = e

pub loaded : (text : List ℕ) (d : Deck) (p : Prepared) → deck_of text ≡ Ok d → with_programs d ≡ Ok p → deck_prepared text ≡ Ok p
unfolding deck_prepared
loaded text d p e f = rw e f

pub refused_card : (text : List ℕ) (r : deck.Refusal) → deck_of text ≡ Err r → deck_prepared text ≡ Err (refusal.Deck r.card r.reason)
unfolding deck_prepared
refused_card text r e = rw e refl

pub refused_program : (text : List ℕ) (d : Deck) (r : Refusal) → deck_of text ≡ Ok d → with_programs d ≡ Err r → deck_prepared text ≡ Err r
unfolding deck_prepared
refused_program text d r e f = rw e f

abbrev IsRefused : Result Deck deck.Refusal → Type 0
IsRefused (Ok d) = ⊥
IsRefused (Err r) = Unit {0}

-- a text with a deck is within the limit
within : (text : List ℕ) (d : Deck) → deck_of text ≡ Ok d → length text ≤ limit
within text d e = by_test (ltb limit (length text)) refl
  where
    by_test : (b : Bool) → ltb limit (length text) ≡ b → length text ≤ limit
    by_test true t = absurd (subst IsRefused (rw t at e) tt)
    by_test false t = ltb-false limit (length text) t

-- and the source that gave all of it gave its first bytes
pub first_of_all : {S : Type 0} (left : S → Option (List ℕ)) (old new : S) (text : List ℕ) (d : Deck) → deck_of text ≡ Ok d → GaveAll left old new text → GaveFirst left (limit + 1) old new text
first_of_all left old new text d e all =
    let low = within text d e in
    let le : length text ≤ limit + 1 = omega (arith, low) in
    record {
      told = λ before same.
          let h = all.told before same in
          (sym (take_all (limit + 1) text le) ∙ ap (take (limit + 1)) (sym h.0), h.1 ∙ ap Some (sym (drop_all (limit + 1) text le) ∙ ap (drop (limit + 1)) (sym h.0)));
    }

-- what a deck's fault says of the source is what the fault that is handed on says
pub handed_on : {S : Type 0} (left : S → Option (List ℕ)) (faults : S → ℕ) (old new : S) (f : DeckFault) → IsRead left faults old new deck_of (Err f) → LoadsDeck left faults old new (Err (of_deck_fault f))
handed_on left faults old new (fault.Card card reason) h = (h.0, h.1, refused_card h.0 (record { card = card; reason = reason }) h.2)
handed_on left faults old new fault.SourceFault h = h
handed_on left faults old new fault.Memory h = tt

-- the deck of a text, with its programs or their refusal
pub loads : {S : Type 0} (left : S → Option (List ℕ)) (faults : S → ℕ) (old new : S) (text : List ℕ) (d : Deck) (r : Result Loaded AdmitFault) → GaveAll left old new text → deck_of text ≡ Ok d
    → MeetsAnswer prepared_of r (with_programs d) → LoadsDeck left faults old new r
loads left faults old new text d (Ok l) all e m = (text, all, loaded text d (prepared_of l) e m)
loads left faults old new text d (Err (admits.Refused r)) all e m = (text, first_of_all left old new text d e all, refused_program text d r e m)
loads left faults old new text d (Err admits.SourceFault) all e m = absurd m
loads left faults old new text d (Err admits.Memory) all e m = tt
