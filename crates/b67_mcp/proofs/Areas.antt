-- An area, and two that lie apart, take no more words than all spans.
use Rattle.std.proofs.Common.{◌≡◌, ◌≢◌, ℕ, ◌+◌, ◌≤◌, ◌==◌, List, [], ◌∷◌, Some, ◌∙◌, arith, ⊎_elim}
use Rattle.std.proofs.lemmas.Option.{none-some}
use Rattle.b67_area.specs.declared.kinds.Info.{Info}
use Rattle.b67_area.specs.Spans.{Span, Area, Hole, end, area_at}
use Rattle.b67_area.proofs.Walks.{low_end}

pub one_fits : (at : ℕ) (ss : List Span) (x : ℕ) (a : Info) → area_at at ss x ≡ Some a → at + (a.words + 2) ≤ end at ss
one_fits at [] x a e = absurd (none-some _ e)
one_fits at (Hole n ∷ ss) x a e = omega (arith, one_fits (at + n) ss x a e)
one_fits at (Area b ∷ ss) x a e = grind (arith, low_end, one_fits (at + (b.words + 2)) ss x a)

pub two_fit : (at : ℕ) (ss : List Span) (x y : ℕ) (a b : Info) → x ≢ y → area_at at ss x ≡ Some a → area_at at ss y ≡ Some b → at + (a.words + 2) + (b.words + 2) ≤ end at ss
two_fit at [] x y a b ne e f = absurd (none-some _ e)
two_fit at (Hole n ∷ ss) x y a b ne e f = omega (arith, two_fit (at + n) ss x y a b ne e f)
two_fit at (Area c ∷ ss) x y a b ne e f = grind (arith, one_fits, two_fit (at + (c.words + 2)) ss x y a b ne)
