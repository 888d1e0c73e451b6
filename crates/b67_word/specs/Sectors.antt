-- Sectors of 30 words.
use Rattle.std.specs.Prelude.{ℕ, ◌+◌, ◌/◌}

-- how many sectors so many words take
abbrev pub sectors_for : ℕ → ℕ
sectors_for words = (words + 29) / 30
