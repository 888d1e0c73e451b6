use Rattle.std.proofs.Common.{◌∙◌, sym, ap, take, length, List, ℕ}
use Rattle.b67_program.proofs.stepping.stepped.Goals as goal

pub returns-clause-stepped : goal.returns-clause-stepped
returns-clause-stepped c = record {
  source = c.in_ok-source.source;
  source_after = c.step_from_image-status.new.image;
  reads = c.in_ok-source.ensures;
  device = c.in_ok-device.device;
  device_after = c.step_from_image-status.new.backing;
  lent = c.in_ok-device.ensures.same;
  left = sym c.give_back.ensures;
  paper = c.in_ok-paper.paper;
  paper_after = c.step_from_image-status.new.printer;
  clean = c.in_ok-paper.ensures.bytes;
  wide = c.in_ok-paper.ensures.room;
  calm = c.in_ok-paper.ensures.calm;
  holds = c.print_into.ensures.bytes ∙ ap (λ (b : List ℕ). take (length c.args.lines.now) b) c.bytes.ensures;
  steps = c.step_from_image-status.ensures.steps;
}
