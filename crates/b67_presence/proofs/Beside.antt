-- An area and a hole beside it take no more words than all spans.
use Rattle.std.proofs.Common.{◌≡◌, ℕ, ◌+◌, ◌≤◌, List, [], ◌∷◌, Some, arith, inl, inr}
use Rattle.std.proofs.lemmas.Option.{none-some}
use Rattle.b67_area.specs.declared.Info.{Info}
use Rattle.b67_area.specs.Spans.{Span, Area, Hole, end, area_at}
use Rattle.b67_area.proofs.Walks.{low_end}
use Rattle.b67_layout.specs.Machine.{HasHole}

area_fits : (at : ℕ) (ss : List Span) (x : ℕ) (a : Info) → area_at at ss x ≡ Some a → at + (a.words + 2) ≤ end at ss
area_fits at [] x a e = absurd (none-some _ e)
area_fits at (Hole n ∷ ss) x a e = omega (arith, area_fits (at + n) ss x a e)
area_fits at (Area b ∷ ss) x a e = grind (arith, low_end, area_fits (at + (b.words + 2)) ss x a)

room_fits : (at n : ℕ) (ss : List Span) → HasHole n ss → at + n ≤ end at ss
room_fits at n [] h = absurd h
room_fits at n (Area b ∷ ss) h = omega (arith, room_fits (at + (b.words + 2)) n ss h)
room_fits at n (Hole m ∷ ss) (inl h) = omega (arith, h, low_end (at + m) ss)
room_fits at n (Hole m ∷ ss) (inr h) = omega (arith, room_fits (at + m) n ss h)

pub both_fit : (at n : ℕ) (ss : List Span) (x : ℕ) (a : Info) → area_at at ss x ≡ Some a → HasHole n ss → at + (a.words + 2) + n ≤ end at ss
both_fit at n [] x a e h = absurd h
both_fit at n (Hole m ∷ ss) x a e (inl h) = omega (arith, h, area_fits (at + m) ss x a e)
both_fit at n (Hole m ∷ ss) x a e (inr h) = omega (arith, both_fit (at + m) n ss x a e h)
both_fit at n (Area b ∷ ss) x a e h = grind (arith, room_fits, both_fit (at + (b.words + 2)) n ss x a)
