use Rattle.std.proofs.Common.{ℕ, ◌+◌, ◌-◌, List, length}
use Rattle.b67_area.specs.Spans.{Span}
use Rattle.b67_area.specs.Directory.{IsDirectory}
use Rattle.b67_area.specs.Walk.{WalkedHoles}
use Rattle.b67_area.proofs.search.find_hole.Given as goal

abbrev pub invariant-holes : goal.invariant-holes
invariant-holes l = (low : ℕ) (ss : List Span) → IsDirectory l.core low ss → WalkedHoles (l.words + 2) low ss l.before l.at

abbrev pub decreases-holes : goal.decreases-holes
decreases-holes l = length l.core - l.before
