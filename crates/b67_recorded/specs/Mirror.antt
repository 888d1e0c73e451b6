-- What a mirrored device's sectors hold.
use Rattle.std.specs.Prelude.{◌≡◌, ◌-◌, ◌++◌, ℕ, List, length, take, Option, Bool, true}
use Rattle.b67_backing.specs.Device.{Tells, Becomes}
use Rattle.b67_backing.specs.Held.{blank}

-- these, and behind them zeros, up to so many sectors
abbrev pub mirrored : ℕ → List (List ℕ) → List (List ℕ)
mirrored size held = held ++ blank (size - length held)

-- The copy of a device, which holds what it held: if all is copied, it's what the device's sectors hold, where that is told.
pub record IsMirrorOf {F : Type 0} (holds : F → Option (List (List ℕ))) (size : F → ℕ) (copies : Bool) (device device' : F) (held : List (List ℕ)) : Type 0 where
  pub size_is : size device' ≡ size device
  pub same : Becomes holds device device' (λ all. all)
  pub copied : copies ≡ true → Tells holds device (λ all. mirrored (size device') held ≡ take (size device) all)
