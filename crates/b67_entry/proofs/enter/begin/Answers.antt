use Rattle.std.proofs.Common.{refl}
use Rattle.b67_refer.proofs.Displays.{holds_on}
use Rattle.b67_entry.proofs.enter.begin.Goals as goal

pub rebuild_entered-requires-clause-known : goal.rebuild_entered-requires-clause-known
rebuild_entered-requires-clause-known c =
    let r = c.args.cpu.now.regs in
    holds_on c.args.cpu.now.core r (record r { level = c.args.procedure.level; segment = c.args.procedure.segment; place = c.args.procedure.place }) c.args.cpu.now.display c.args.known refl refl refl c.requires.known
