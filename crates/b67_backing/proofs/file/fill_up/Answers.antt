use Rattle.std.proofs.Common.{◌∙◌}
use Rattle.b67_backing.proofs.Bytes.{filled_kept}
use Rattle.b67_backing.proofs.file.fill_up.Goals as goal

pub returns-in-0-clause-full : goal.returns-in-0-clause-full
returns-in-0-clause-full g c = c.set_length.ensures.long

pub returns-in-0-clause-kept : goal.returns-in-0-clause-kept
returns-in-0-clause-kept g c =
    filled_kept g.F.RandomAccess.bytes c.args.file.now c.set_length.new.self c.set_length.result (record { told = λ x e. c.in_ok-length.ensures.value.told x e ∙ c.in-0.is }) c.set_length.ensures.set c.set_length.ensures.same
