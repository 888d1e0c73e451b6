-- The entries of maps of names, without where their keys lie.
use denote.Bor.{Bor}
use Rattle.std.specs.Prelude.{ℕ, List, map}
use Rattle.b67_model_text.specs.declared.assembly.Named.{Named}

abbrev pub name_entry : Bor (List ℕ) × Named → List ℕ × Named
name_entry e = (e.0.now, e.1)

abbrev pub name_entries : List (Bor (List ℕ) × Named) → List (List ℕ × Named)
name_entries es = map name_entry es

abbrev pub label_entry : Bor (List ℕ) × ℕ → List ℕ × ℕ
label_entry e = (e.0.now, e.1)

abbrev pub label_entries : List (Bor (List ℕ) × ℕ) → List (List ℕ × ℕ)
label_entries es = map label_entry es
