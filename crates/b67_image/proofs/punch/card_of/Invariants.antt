use Rattle.std.proofs.Common.{◌≡◌, ◌*◌, length, take}
use Rattle.b67_model_text.specs.Hex.{hex_text}
use Rattle.b67_image.proofs.punch.card_of.Given as goal

abbrev pub invariant-digits : goal.invariant-digits
invariant-digits l = record {
  text : l.card.items ≡ hex_text (take l.byte-index l.bytes);
  len : length l.card.items ≡ 2 * l.byte-index;
}
