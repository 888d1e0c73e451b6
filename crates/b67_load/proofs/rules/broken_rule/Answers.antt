use Rattle.std.proofs.Common.{◌∙◌}
use Rattle.b67_load.specs.Broken.{listed}
use Rattle.b67_load.proofs.FirstRefusal.{rules_at-level}
use Rattle.b67_load.proofs.rules.broken_rule.Goals as goal

pub returns-in-None : goal.returns-in-None
returns-in-None c =
    c.broken_by_level.ensures c.args.file.now c.args.listing.now
    ∙ rules_at-level (listed c.args.file.now c.args.number c.args.segment.now c.args.listing.now) c.args.entry.now (c.in-None.ensures c.args.number) c.if-same_place.ensures
