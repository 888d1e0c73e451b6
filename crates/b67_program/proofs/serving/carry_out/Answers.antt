use Rattle.b67_program.proofs.Answering.{outlasts}
use Rattle.b67_program.proofs.serving.carry_out.Goals as goal

pub returns : goal.returns
returns g c = record {
  deck = c.new-deck.result;
  deck_after = c.run-outcome.new.deck;
  holds = c.new-deck.ensures.left;
  machine = c.run-outcome.result.machine;
  kept = outlasts g.B.Backing.holds g.B.Backing.size g.B.Backing.calls g.B.Backing.faults c.args.backing.now c.run-outcome.new.backing c.run-outcome.ensures.device;
  opened = c.run-outcome.ensures.opened;
  typed = c.image_is_typed.ensures;
  due = c.run-outcome.ensures.due;
  means = c.run-outcome.ensures.status;
  complete = c.run-outcome.ensures.complete;
}
