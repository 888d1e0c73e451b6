-- Rows of tables, and lists that grow.
use denote.Bor.{Bor}
use Rattle.std.specs.Prelude.{◌≡◌, ℕ, Bool, true, false, List, ◌++◌, Option, Some, None, Result, Ok, Err}
use Rattle.b67_model.specs.declared.operators.Mnemonic.{Mnemonic}

-- a row of the operators' table without its syllable, and without where its name lies
abbrev pub key_and_mnemonic : ℕ × Bor (List ℕ) × Mnemonic → List ℕ × Mnemonic
key_and_mnemonic row = (row.1.now, row.2)

-- the values are appended, or one is malformed
abbrev pub ValuesPut : {E : Type 0} → Result Bool E → Option (List (Option ℕ)) → List (Option ℕ) → List (Option ℕ) → Type 0
ValuesPut (Ok true) (Some more) old new = new ≡ old ++ more
ValuesPut (Ok true) None old new = ⊥
ValuesPut (Ok false) found old new = found ≡ None
ValuesPut (Err e) found old new = Unit {0}
