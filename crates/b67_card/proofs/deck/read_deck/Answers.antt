use Rattle.std.proofs.Common.{◌≡◌, ℕ, List, Err, refl, sym, subst}
use Rattle.b67_model_text.specs.Deck.{Refusal, within_limit, deck_of}
use Rattle.b67_card.specs.Reading.{IsRead}
use Rattle.b67_card.specs.Meaning.{IsMeaning}
use Rattle.b67_card.specs.declared.fault.DeckFault.{DeckFault}
use Rattle.b67_card.proofs.Whole.{read_to_end, read_failed}
use Rattle.b67_card.proofs.deck.read_deck.Goals as goal

first : (text : List ℕ) (r : Refusal) → within_limit text ≡ Err r → deck_of text ≡ Err r
first text r e = rw e refl

pub returns-in-Ok-clause-answer : goal.returns-in-Ok-clause-answer
returns-in-Ok-clause-answer g c =
    read_to_end g.S.Source.left g.S.Source.faults c.args.source.now c.read_all.new.source deck_of c.in-Ok.bytes c.deck_of.result c.in-Ok.ensures.answer.0 c.in-Ok.ensures.answer.1 c.in-Ok.ensures.answer.2 (subst (λ (text : List ℕ). IsMeaning c.deck_of.result (deck_of text)) c.as_slice.ensures c.deck_of.ensures)

pub returns-in-Err-clause-answer : goal.returns-in-Err-clause-answer
returns-in-Err-clause-answer g c =
    subst (λ (fault : DeckFault). IsRead g.S.Source.left g.S.Source.faults c.args.source.now c.read_all.new.source deck_of (Err fault)) (sym c.from.ensures) (read_failed g.S.Source.left g.S.Source.faults c.args.source.now c.read_all.new.source deck_of c.in-Err.fault first c.in-Err.ensures.answer)
