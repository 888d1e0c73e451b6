use Rattle.std.proofs.Common.{◌≡◌, ℕ, ◌+◌, ◌*◌, ◌≤◌, List, length, map, drop}
use Rattle.b67_word.specs.Tagged.{contents}
use Rattle.b67_backing.specs.Held.{sectors_for}
use Rattle.b67_lemmas.specs.Lists.{total}
use Rattle.b67_session.proofs.opening_needs.sectors_of_rows.Given as goal

abbrev pub invariant-rows : goal.invariant-rows
invariant-rows l =
    (l.sectors + total (λ (r : List ℕ). sectors_for (length r)) (map contents (drop l.row-index l.rows)) ≡ total (λ (r : List ℕ). sectors_for (length r)) (map contents l.rows))
    × (l.sectors ≤ l.row-index * 2185)
