use Rattle.std.proofs.Common.{◌≡◌, ◌≢◌, ℕ, zero, suc, ◌+◌, ◌<◌, ◌≤◌, List, [], ◌∷◌, length, Some, None, refl, ◌∙◌, ap, arith, leb, slice_set}
use Rattle.std.specs.List.{slice_get}
use Rattle.std.proofs.lemmas.Bool.{cond-false, lt-leb}
use Rattle.std.proofs.Math.ListN.{length-set}
use Rattle.b67_word.specs.Tagged.{Tagged}
use Rattle.b67_area.specs.declared.kinds.Info.{Info}
use Rattle.b67_area.specs.Spans.{Span, Area, Hole, end, first_hole, left, fill, spot}
use Rattle.b67_area.specs.Words.{link_word, hole_high}
use Rattle.b67_area.specs.Directory.{NoHole, AreSpans, Laid}
use Rattle.b67_area.specs.Walk.{unzip, spans_top, NoFit, with_hole}
use Rattle.b67_area.proofs.Cuts.{Laid-move}
use Rattle.b67_core.proofs.Writes.{slice_get-set_same, slice_get-set_other}

-- the link to a hole of n words, or to the next one where n is 0
abbrev pub link_to : ℕ → ℕ → ℕ → ℕ
link_to at zero next = next
link_to at (suc n) next = at

pub with_hole-length : (core : List Tagged) (b h at n next : ℕ) → length (with_hole core b h at n next) ≡ length core
with_hole-length core b h at n next = grind (arith, length-set, slice_set)

pub with_hole-other : (core : List Tagged) (b h at n next i : ℕ) → i ≢ b → (1 ≤ n → i ≢ at) → slice_get (with_hole core b h at n next) i ≡ slice_get core i
with_hole-other core b h at n next i nb na = grind (arith, slice_get-set_other)

pub with_hole-link : (core : List Tagged) (b h at n next : ℕ) → b < length core → slice_get (with_hole core b h at n next) b ≡ Some (link_word h (link_to at n next))
with_hole-link core b h at n next i = grind (arith, slice_get-set_same, length-set)

pub with_hole-hole : (core : List Tagged) (b h at n next : ℕ) → 1 ≤ n → b ≢ at → at < length core → slice_get (with_hole core b h at n next) at ≡ Some (link_word (hole_high n) next)
with_hole-hole core b h at n next some nb i = grind (arith, slice_get-set_other, slice_get-set_same)

-- a hole of n words, or none, before spans that stay
pub Laid-left : (core new : List Tagged) (b h b' h' at n next : ℕ) (ss : List Span) → ((i : ℕ) → at + n ≤ i → slice_get new i ≡ slice_get core i) → slice_get new b' ≡ Some (link_word h' (link_to at n next)) → (1 ≤ n → slice_get new at ≡ Some (link_word (hole_high n) next)) → next ≡ first_hole (at + n) ss → Laid core b h (at + n) ss → Laid new b' h' at (left n ss)
Laid-left core new b h b' h' at n next ss same link hole e l = grind (arith, Laid-move)

pub end-left : (at n : ℕ) (ss : List Span) → end at (left n ss) ≡ end (at + n) ss
end-left at n ss = grind arith

pub AreSpans-left : (n : ℕ) (ss : List Span) → NoHole ss → AreSpans ss → AreSpans (left n ss)
AreSpans-left n ss h s = grind arith

-- the lowest hole with room, seen from a cut below which there is none
pub spot-unzip : (n low : ℕ) (ds ss : List Span) → NoFit n ds → spot n low (unzip ds ss) ≡ spot n (spans_top low ds) ss
spot-unzip n low [] ss f = refl
spot-unzip n low (Area a ∷ ds) ss f = spot-unzip n low ds (Area a ∷ ss) f
spot-unzip n low (Hole m ∷ ds) ss f = spot-unzip n low ds (Hole m ∷ ss) f.1 ∙ cond-false (leb n m) _ _ (lt-leb n m f.0)

pub fill-unzip : (a : Info) (ds ss : List Span) → NoFit (a.words + 2) ds → fill a (unzip ds ss) ≡ unzip ds (fill a ss)
fill-unzip a [] ss f = refl
fill-unzip a (Area b ∷ ds) ss f = fill-unzip a ds (Area b ∷ ss) f
fill-unzip a (Hole m ∷ ds) ss f = fill-unzip a ds (Hole m ∷ ss) f.1 ∙ ap (unzip ds) (cond-false (leb (a.words + 2) m) _ _ (lt-leb (a.words + 2) m f.0))

pub spot-none : (n at : ℕ) (ss : List Span) → NoFit n ss → spot n at ss ≡ None
spot-none n at [] f = refl
spot-none n at (Area a ∷ ss) f = spot-none n (at + (a.words + 2)) ss f
spot-none n at (Hole m ∷ ss) f = cond-false (leb n m) _ _ (lt-leb n m f.0) ∙ spot-none n (at + m) ss f.1

pub fill-none : (a : Info) (ss : List Span) → NoFit (a.words + 2) ss → fill a ss ≡ ss
fill-none a [] f = refl
fill-none a (Area b ∷ ss) f = ap (λ (r : List Span). Area b ∷ r) (fill-none a ss f)
fill-none a (Hole m ∷ ss) f = cond-false (leb (a.words + 2) m) _ _ (lt-leb (a.words + 2) m f.0) ∙ ap (λ (r : List Span). Hole m ∷ r) (fill-none a ss f.1)
