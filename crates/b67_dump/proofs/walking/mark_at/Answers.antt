use Rattle.std.proofs.Common.{◌/◌}
use Rattle.b67_dump.proofs.Stopped.{by_stop}
use Rattle.b67_dump.proofs.walking.mark_at.Goals as goal

pub returns-then-stop-stops : goal.returns-then-stop-stops
returns-then-stop-stops c =
    by_stop c.args.core.now c.args.mark c.args.below c.stop_at.result c.mark_below.result (c.requires.each (c.args.below / 64) c.stop_at.result c.stop_at.ensures) c.mark_below.ensures
