use Rattle.std.proofs.Common.{◌≡◌, ◌<◌, ℕ, false, get_or, length}
use Rattle.b67_backing.proofs.windows.clear.Given as goal

abbrev pub invariant-each : goal.invariant-each
invariant-each l = record {
  none : (j : ℕ) → j < l.i → get_or l.marks j false ≡ false;
  many : length l.marks ≡ length l.initial.marks;
}
