use Rattle.std.proofs.Common.{◌≡◌, ◌≢◌, ℕ, ◌+◌, ◌<◌, ◌≤◌, List, [], ◌∷◌, Some, refl, arith, inl, inr, ◌⊎◌, rules}
use Rattle.std.specs.List.{slice_get}
use Rattle.b67_word.specs.Tagged.{Tagged}
use Rattle.b67_area.specs.Spans.{Span, Area, Hole, end, first_hole, InHole}
use Rattle.b67_area.specs.Words.{link_word, hole_high}
use Rattle.b67_area.specs.Directory.{NoHole, AreSpans, Laid}
use Rattle.b67_area.specs.Walk.{unzip, spans_top, link_place, link_high, Below}

-- the words of spans cut in two, and back
pub opened : (core : List Tagged) (low : ℕ) (ds ss : List Span) → Laid core 152 0 low (unzip ds ss) → Below core low ds × Laid core (link_place low ds) (link_high ds) (spans_top low ds) ss
opened core low [] ss l = (tt, l)
opened core low (Area a ∷ ds) ss l = let r = opened core low ds (Area a ∷ ss) l in ((r.1.0, r.1.1, r.0), r.1.2)
opened core low (Hole n ∷ ds) ss l = let r = opened core low ds (Hole n ∷ ss) l in ((r.1.0, r.0), r.1.1)

pub closed : (core : List Tagged) (low : ℕ) (ds ss : List Span) → Below core low ds → Laid core (link_place low ds) (link_high ds) (spans_top low ds) ss → Laid core 152 0 low (unzip ds ss)
closed core low [] ss b l = l
closed core low (Area a ∷ ds) ss b l = closed core low ds (Area a ∷ ss) b.2 (b.0, b.1, l)
closed core low (Hole n ∷ ds) ss b l = closed core low ds (Hole n ∷ ss) b.1 (b.0, l)

pub end-unzip : (low : ℕ) (ds ss : List Span) → end low (unzip ds ss) ≡ end (spans_top low ds) ss
end-unzip low [] ss = refl
end-unzip low (d ∷ ds) ss = end-unzip low ds (d ∷ ss)

-- two lists of spans that may stand side by side
abbrev pub Meet : List Span → List Span → Type 0
Meet ds ss = NoHole ds ⊎ NoHole ss

pub spans_opened : (ds ss : List Span) → AreSpans (unzip ds ss) → AreSpans ds × AreSpans ss × Meet ds ss
spans_opened [] ss h = (tt, h, inl tt)
spans_opened (Area a ∷ ds) ss h = let r = spans_opened ds (Area a ∷ ss) h in ((r.1.0, r.0), r.1.1, inl tt)
spans_opened (Hole n ∷ ds) ss h = grind (arith, spans_opened ds (Hole n ∷ ss) h)

pub spans_closed : (ds ss : List Span) → AreSpans ds → AreSpans ss → Meet ds ss → AreSpans (unzip ds ss)
spans_closed [] ss d s m = s
spans_closed (Area a ∷ ds) ss d s m = spans_closed ds (Area a ∷ ss) d.1 (d.0, s) (inr tt)
spans_closed (Hole n ∷ ds) ss d s m = grind (arith, spans_closed ds (Hole n ∷ ss) d.2)

-- the link that is open at a place
pub pending : (core : List Tagged) (b h at : ℕ) (ss : List Span) → Laid core b h at ss → slice_get core b ≡ Some (link_word h (first_hole at ss))
pending core b h at [] l = l
pending core b h at (Area a ∷ ss) l = pending core b h (at + (a.words + 2)) ss l.2
pending core b h at (Hole n ∷ ss) l = l.0

-- the words from a place up stay, and the link to them may move
pub Laid-move : (core new : List Tagged) (b h b' h' at : ℕ) (ss : List Span) → ((i : ℕ) → at ≤ i → slice_get new i ≡ slice_get core i) → slice_get new b' ≡ Some (link_word h' (first_hole at ss)) → Laid core b h at ss → Laid new b' h' at ss
Laid-move core new b h b' h' at [] same link l = link
Laid-move core new b h b' h' at (Area a ∷ ss) same link l = grind (arith, Laid-move core new b h b' h' (at + (a.words + 2)) ss)
Laid-move core new b h b' h' at (Hole n ∷ ss) same link l = grind (arith, pending, Laid-move core new at (hole_high n) at (hole_high n) (at + n) ss)

-- where the open link stands
pub low_top : (low : ℕ) (ds : List Span) → low ≤ spans_top low ds
low_top low [] = omega arith
low_top low (d ∷ ds) = omega (arith, low_top low ds)

pub link_place_low : (low : ℕ) (ds : List Span) → 160 ≤ low → AreSpans ds → (link_place low ds < spans_top low ds) × ((link_place low ds ≡ 152) ⊎ (low ≤ link_place low ds))
link_place_low low [] h d = (omega arith, inl refl)
link_place_low low (Area a ∷ ds) h d = let r = link_place_low low ds h d.1 in (omega (arith, r.0), r.1)
link_place_low low (Hole n ∷ ds) h d = (omega (arith, d.0), inr (low_top low ds))

-- the words below stay where no more changes than the open link
pub Below-same : (core new : List Tagged) (low : ℕ) (ds : List Span) → 160 ≤ low → AreSpans ds → ((i : ℕ) → i < spans_top low ds → i ≢ link_place low ds → slice_get new i ≡ slice_get core i) → Below core low ds → Below new low ds
Below-same core new low [] h d same b = tt
Below-same core new low (Area a ∷ ds) h d same b = grind (arith, link_place_low, Below-same core new low ds h d.1)
Below-same core new low (Hole n ∷ ds) h d same b = search (rules, arith, link_place_low, Below-same core new low ds h d.2)

-- words of holes, seen from a cut
pub InHole-above : (low : ℕ) (ds ss : List Span) (i : ℕ) → InHole (spans_top low ds) ss i → InHole low (unzip ds ss) i
InHole-above low [] ss i h = h
InHole-above low (Area a ∷ ds) ss i h = InHole-above low ds (Area a ∷ ss) i h
InHole-above low (Hole n ∷ ds) ss i h = InHole-above low ds (Hole n ∷ ss) i (inr h)

pub InHole-link : (low : ℕ) (ds ss : List Span) → AreSpans ds → (link_place low ds ≡ 152) ⊎ InHole low (unzip ds ss) (link_place low ds)
InHole-link low [] ss d = inl refl
InHole-link low (Area a ∷ ds) ss d = InHole-link low ds (Area a ∷ ss) d.1
InHole-link low (Hole n ∷ ds) ss d = inr (InHole-above low ds (Hole n ∷ ss) (spans_top low ds) (inl (omega arith, omega (arith, d.0))))
