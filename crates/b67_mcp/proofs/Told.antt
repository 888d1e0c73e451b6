-- What is known of a device's sectors, if none is called.
use Rattle.std.proofs.Common.{◌≡◌, ℕ, List, Option, arith}
use Rattle.b67_layout.specs.Machine.{Says, content_after}

pub told_is : (known told : Option (List (List ℕ))) → Says known told → content_after known told ≡ known
told_is known told says = grind arith
