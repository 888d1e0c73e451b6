-- A device that gives one number at every place.
use Rattle.std.specs.Prelude.{ℕ, List, Option, None}
use Rattle.b67_backing.specs.declared.crooked.CrookedBacking.{CrookedBacking}

-- it tells nothing
abbrev pub crooked_told : CrookedBacking → Option (List (List ℕ))
crooked_told b = None

abbrev pub crooked_size : CrookedBacking → ℕ
crooked_size b = b.sectors

-- the number that every place gives
abbrev pub crooked_number : CrookedBacking → ℕ
crooked_number b = b.gives

-- it never fails
abbrev pub crooked_faults : CrookedBacking → ℕ
crooked_faults b = 0

abbrev pub crooked_calls : CrookedBacking → ℕ
crooked_calls b = b.calls
