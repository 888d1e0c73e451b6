use Rattle.std.proofs.Common.{◌+◌, ◌-◌, ◌*◌, ◌%◌, ap}
use Rattle.b67_dump.proofs.landmarks.block_end.Goals as goal

pub returns : goal.returns
returns c = ap (λ n. n + (128 * (128 - c.args.at % 128) - 1)) c.slot_start.ensures.at
