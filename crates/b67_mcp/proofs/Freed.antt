-- The hole that an area leaves has room for it.
use Rattle.std.proofs.Common.{◌≡◌, ℕ, ◌+◌, ◌≤◌, ◌==◌, List, [], ◌∷◌, Some, ⊎_elim, arith}
use Rattle.std.specs.Prelude.{if◌then◌else◌}
use Rattle.b67_area.specs.declared.kinds.Info.{Info}
use Rattle.b67_area.specs.Spans.{Span, Area, Hole, join, without, area_at}
use Rattle.b67_layout.specs.Machine.{HasHole}

-- a hole that grows has room still
hole_joined : (k n : ℕ) (ss : List Span) → HasHole k ss → HasHole k (join n ss)
hole_joined k n ss h = grind arith

-- and it has room for what it was made of
hole_made : (n : ℕ) (ss : List Span) → HasHole n (join n ss)
hole_made n ss = grind arith

pub hole_freed : (at x : ℕ) (ss : List Span) (a : Info) → area_at at ss x ≡ Some a → HasHole (a.words + 2) (without at x ss)
hole_freed at x [] a e = absurd cc
hole_freed at x (Area b ∷ ss) a e = grind (arith, hole_freed (at + (b.words + 2)) x ss a)
hole_freed at x (Hole n ∷ ss) a e = hole_joined (a.words + 2) n (without (at + n) x ss) (hole_freed (at + n) x ss a e)
