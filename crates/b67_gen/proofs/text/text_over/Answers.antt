use Rattle.std.proofs.Common.{◌∙◌, sym}
use Rattle.std.specs.List.{flat_map}
use Rattle.b67_gen.specs.Generated.{on_lines, front_cards, making, storing, printing, adding, end_cards}
use Rattle.b67_gen.proofs.Cards.{six, part_by_part}
use Rattle.b67_gen.proofs.text.text_over.Goals as goal

pub returns : goal.returns
returns c =
    six (on_lines front_cards) (on_lines (flat_map making c.args.arrays.now)) (on_lines (flat_map storing c.args.stores.now)) (on_lines printing) (on_lines (flat_map adding c.args.stores.now)) (on_lines end_cards)
    c.new-text.result c.put_text.new.into c.put_makings.new.into c.put_storings.new.into c.put_text-2.new.into c.put_addings.new.into c.put_text-3.new.into
    c.new-text.ensures c.in_ok-put_text.ensures c.in_ok-put_makings.ensures c.in_ok-put_storings.ensures c.in_ok-put_text-2.ensures c.in_ok-put_addings.ensures c.in_ok-put_text-3.ensures
    ∙ sym (part_by_part front_cards (flat_map making c.args.arrays.now) (flat_map storing c.args.stores.now) printing (flat_map adding c.args.stores.now) end_cards)
