-- When a test decides a proposition.
use Rattle.std.specs.Prelude.{◌≡◌, Bool, true}

-- the test passes exactly if it holds
abbrev pub Decides : Bool → Type 0 → Type 0
Decides test P = (test ≡ true → P) × (P → test ≡ true)
