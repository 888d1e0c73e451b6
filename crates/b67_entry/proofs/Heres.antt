-- References lead where they lead, whatever the tasks wait for.
use Rattle.std.proofs.Common.{◌≡◌, ℕ, List, [], ◌∷◌, refl, arith}
use Rattle.std.specs.Prelude.{flat_map}
use Rattle.b67_model.specs.Keyed.{change_keyed}
use Rattle.b67_model.specs.State.{Task}

-- the frames of a list of tasks where one is replaced by another with the same frames
pub flat_same : (n : ℕ) (a b : Task) (xs : List Task) → a.frames ≡ b.frames → flat_map (λ (t : Task). t.frames) (change_keyed (λ (t : Task). t.number) n (λ (t : Task). a) xs) ≡ flat_map (λ (t : Task). t.frames) (change_keyed (λ (t : Task). t.number) n (λ (t : Task). b) xs)
flat_same n a b [] e = refl
flat_same n a b (x ∷ xs) e = grind (arith, flat_same n a b xs e)
