use Rattle.std.proofs.Common.{List, ℕ, Some, refl, sym, ap}
use Rattle.std.proofs.lemmas.Option.{none-some}
use Rattle.b67_io.specs.Free.{free_told}
use Rattle.b67_job.proofs.LookedAt.{in_text}
use Rattle.b67_program.proofs.finding.find_in_memory.Goals as goal

pub returns-in-Ok-find_in_deck : goal.returns-in-Ok-find_in_deck
returns-in-Ok-find_in_deck c =
    in_text free_told c.in-Ok.deck c.find_in_deck.new.deck c.args.text.now c.args.core c.args.what c.args.places.now c.args.from c.args.most c.in-Ok-find_in_deck.found (ap (λ (xs : List ℕ). Some xs) c.in-Ok.ensures)
    (c.in-Ok-find_in_deck.ensures.least (λ e. none-some _ (sym e)))

pub returns : goal.returns
returns c = record {
  deck = c.in-Ok.deck;
  deck_after = c.find_in_deck.new.deck;
  reads = c.in-Ok.ensures;
  device = c.in-Ok-new.device;
  device_after = c.find_in_deck.new.backing;
  zeros = c.in-Ok-new.ensures.zeros;
  cause = c.in-Err-find_in_deck.ensures.fails c.in-Err-find_in_deck.fault refl;
}
