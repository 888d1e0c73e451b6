use Rattle.std.proofs.Common.{rules, ◌≡◌, ◌+◌, ◌++◌, [], ◌∷◌, Some, ◌∙◌}
use Rattle.b67_backing.specs.Device.{Tells, sector}
use Rattle.b67_recorded.proofs.Copying.{one_more}
use Rattle.b67_recorded.proofs.mirror.Mirrored.copied.Goals as goal

pub copy-preserved : goal.copy-preserved
copy-preserved g c =
    let gives : Tells g.B.Backing.holds c.copy.inner (λ all. sector all (c.copy.k + 1) ≡ Some c.read.new.into) = search rules in
    let pushed : c.push.new.self.items ≡ c.copy.held.items ++ c.read.new.into ∷ [] = search rules in (
      search rules,
      search rules,
      search rules,
      search rules,
      c.in-Ok.ensures.calm ∙ c.copy.invariant.4,
      record { told = λ all is. c.in-Ok.ensures.same.told all (c.copy.invariant.5.told all is) },
      record { told = λ all is. pushed ∙ one_more all c.copy.held.items c.copy.k c.read.new.into (c.copy.invariant.6.told all is) (gives.told all (c.copy.invariant.5.told all is)) },
    )
