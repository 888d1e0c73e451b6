use Rattle.std.proofs.Common.{subst}
use Rattle.b67_program.specs.Opening.{Leaves}
use Rattle.b67_recorded.proofs.serving.serve_mirrored.Goals as goal

pub returns-clause-over : goal.returns-clause-over
returns-clause-over g c = record {
  file_after = c.carry_out-status.new.backing;
  left_so = subst (λ f. Leaves g.D.Devices.kept g.D.File.Backing.holds c.close.new.self c.args.path.now f) c.into_inner.ensures c.close.ensures.leaves;
  over = c.carry_out-status.ensures;
}
