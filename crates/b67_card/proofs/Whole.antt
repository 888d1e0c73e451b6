-- What reading a source answers, from what reading its bytes answers.
use Rattle.std.proofs.Common.{◌≡◌, ◌≤◌, ◌+◌, ℕ, List, ◌++◌, length, take, drop, Option, Some, Result, Ok, Err, refl, sym, ap, ◌∙◌, arith}
use Rattle.std.specs.Prelude.{count_by, ◌==◌}
use Rattle.std.proofs.lemmas.List.{take_all, drop_all}
use Rattle.std.proofs.Math.Seq.{take-append_seam, drop-append_seam}
use Rattle.b67_io.specs.Told.{Gave, GaveAll}
use Rattle.b67_model_text.specs.Deck.{Refusal, limit, within_limit}
use Rattle.b67_card.specs.Reading.{IsAnswer, IsRead, GaveFirst}
use Rattle.b67_card.specs.Meaning.{IsMeaning}
use Rattle.b67_card.specs.Faults.{fault_of}
use Rattle.b67_card.specs.declared.reading.ReadFault.{ReadFault}
use Rattle.b67_card.specs.declared.reading.ReadFault.TheVariants as read
use Rattle.b67_card.specs.declared.fault.DeckFault.{DeckFault}
use Rattle.b67_card.specs.declared.fault.DeckFault.TheVariants.{Card, SourceFault, Memory}

pub first_of_all : {S : Type 0} (left : S → Option (List ℕ)) (old new : S) (count : ℕ) (text : List ℕ) → length text ≤ count → GaveAll left old new text → GaveFirst left count old new text
first_of_all left old new count text le all = record {
  told = λ before e.
      let h = all.told before e in
      (sym (take_all count text le) ∙ ap (take count) (sym h.0), h.1 ∙ ap Some (sym (drop_all count text le) ∙ ap (drop count) (sym h.0)));
}

pub first_and_more : {S : Type 0} (left : S → Option (List ℕ)) (old new : S) (count : ℕ) (front : List ℕ) → length front ≡ count → Gave left old new front → GaveFirst left count old new front
first_and_more left old new count front len gave = record {
  told = λ before e.
      let h = gave.told before e in
      (sym (taken h.0) ∙ ap (take count) (sym h.1), h.2 ∙ ap Some (sym (dropped h.0) ∙ ap (drop count) (sym h.1)));
}
  where
    taken : (rest : List ℕ) → take count (front ++ rest) ≡ front
    taken rest = ap (λ (n : ℕ). take n (front ++ rest)) (sym len) ∙ take-append_seam front rest

    dropped : (rest : List ℕ) → drop count (front ++ rest) ≡ rest
    dropped rest = ap (λ (n : ℕ). drop n (front ++ rest)) (sym len) ∙ drop-append_seam front rest

pub too_long : (front : List ℕ) → length front ≡ limit + 1 → within_limit front ≡ Err (record { card = count_by (λ b. b == 10) (take limit front) + 1; reason = 14 })
too_long front len = rw len refl

pub read_to_end : {S A : Type 0} (left : S → Option (List ℕ)) (faults : S → ℕ) (old new : S) (meaning : List ℕ → Result A Refusal) (text : List ℕ) (result : Result A DeckFault) → GaveAll left old new text → length text ≤ limit → faults new ≡ faults old → IsMeaning result (meaning text) → IsRead left faults old new meaning result
read_to_end left faults old new meaning text (Ok a) all le calm e = (text, all, e, calm)
read_to_end left faults old new meaning text (Err (Card card reason)) all le calm e = (text, first_of_all left old new (limit + 1) text (omega arith) all, e, calm)
read_to_end left faults old new meaning text (Err SourceFault) all le calm e = absurd e
read_to_end left faults old new meaning text (Err Memory) all le calm e = calm

pub read_failed : {S A : Type 0} (left : S → Option (List ℕ)) (faults : S → ℕ) (old new : S) (meaning : List ℕ → Result A Refusal) (fault : ReadFault) → ((text : List ℕ) (r : Refusal) → within_limit text ≡ Err r → meaning text ≡ Err r) → IsAnswer left faults old new (Err fault) → IsRead left faults old new meaning (Err (fault_of fault))
read_failed left faults old new meaning (read.TooLong card) first h = (h.0, first_and_more left old new (limit + 1) h.0 h.2 h.1, first h.0 _ (too_long h.0 h.2) ∙ ap (λ (n : ℕ). Err (record { card = n; reason = 14 })) (sym h.3), h.4)
read_failed left faults old new meaning read.SourceFault first h = h
read_failed left faults old new meaning read.Memory first h = h
