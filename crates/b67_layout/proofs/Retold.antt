-- What a device tells after calls that change nothing.
use Rattle.std.proofs.Common.{◌≡◌, ℕ, List, Option, Some, None, refl}
use Rattle.b67_layout.specs.Machine.{Says, content_after}

pub retold-same : (d told : Option (List (List ℕ))) → Says d told → content_after d told ≡ d
retold-same None told s = refl
retold-same (Some all) told s = s
