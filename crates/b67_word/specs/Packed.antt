use Rattle.std.specs.Prelude.{ℕ, ◌≡◌, ◌+◌, ◌*◌, ◌/◌, ◌%◌, ◌^◌}
use Rattle.std.proofs.Common.{ap}
use Rattle.std.proofs.lemmas.Nat.{div-add-mod'}
use Rattle.b67_word.specs.declared.tagged.Word.TheInside.{Inside}

-- the number of a word is that of its tag and bits
pub packed : (a : Inside) → ◌≡◌ {A = Inside} (record { 0 = a.0 / 2 ^ 48 * 2 ^ 48 + a.0 % 2 ^ 48 }) a
packed a = ap (λ (n : ℕ). let r : Inside = record { 0 = n } in r) (div-add-mod' a.0 (2 ^ 48))
