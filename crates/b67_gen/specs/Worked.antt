-- The draws of the first seed.
use Rattle.std.specs.Prelude.{ℕ, zero, suc, ◌/◌, List, [], ◌∷◌}
use Rattle.b67_gen.specs.declared.stores.Store.{Store}
use Rattle.b67_gen.specs.Generated.{drawn}

-- so many draws, before they are brought below a bound
abbrev pub first_draws : ℕ → ℕ → List ℕ
first_draws zero x = []
first_draws (suc n) x = (drawn x / 65536) ∷ first_draws n (drawn x)

-- the stores into the one array of seed 1
abbrev pub first_stores : List Store
first_stores =
    record { array = 0; index = 81; value = 515 } ∷ record { array = 0; index = 83; value = 10 } ∷ record { array = 0; index = 20; value = 86 } ∷ record { array = 0; index = 7; value = 84 } ∷ []
