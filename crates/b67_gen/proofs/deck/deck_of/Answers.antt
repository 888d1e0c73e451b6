use Rattle.std.proofs.Common.{◌∙◌, sym, ap, refl}
use Rattle.b67_io.specs.Free.{free_left}
use Rattle.b67_model_text.specs.Deck.{deck_of}
use Rattle.b67_gen.proofs.deck.deck_of.Goals as goal

pub returns-in-Ok : goal.returns-in-Ok
returns-in-Ok c =
    let h = c.in-Ok.ensures.answer in
    ap deck_of (sym c.in_ok-text.ensures ∙ sym c.new-tape.ensures.left ∙ (h.1.told (free_left c.new-tape.result) refl).0) ∙ h.2
