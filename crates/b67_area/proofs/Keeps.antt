use Rattle.std.proofs.Common.{◌≡◌, ◌≢◌, ℕ, ◌+◌, ◌-◌, ◌<◌, ◌≤◌, ◌^◌, List, [], ◌∷◌, length, Some, None, refl, sym, ◌∙◌, ap, arith, inr, slice_set}
use Rattle.std.specs.List.{slice_get}
use Rattle.std.proofs.lemmas.Bool.{cond-true, eq-eqb}
use Rattle.std.proofs.lemmas.Option.{slice_get_within}
use Rattle.std.proofs.Math.ListN.{length-set}
use Rattle.b67_word.specs.Tagged.{Tagged, bits_at}
use Rattle.b67_area.specs.declared.kinds.Info.{Info}
use Rattle.b67_area.specs.Spans.{Span, Area, Hole, end, first_area, area_at, area_after, keeping}
use Rattle.b67_area.specs.Words.{link_word, hole_high, head_word}
use Rattle.b67_area.specs.Directory.{AreSpans, Laid, IsDirectory}
use Rattle.b67_area.specs.Walk.{unzip, spans_top, link_place, link_high, Found, IsArea, IsAbove}
use Rattle.b67_area.proofs.Cuts.{opened, closed, end-unzip, spans_opened, spans_closed, pending, low_top, link_place_low, Below-same, Laid-move}
use Rattle.b67_core.proofs.Writes.{slice_get-set_same, slice_get-set_other}
use Rattle.b67_area.proofs.Walks.{low_end, next-lt}
use Rattle.b67_area.proofs.Climbs.{area_at-low, find_area, found_area}

pub area_here : (core : List Tagged) (low : ℕ) (ss : List Span) (address : ℕ) (a : Info) → IsDirectory core low ss → area_at low ss address ≡ Some a → (1 ≤ address) × IsArea core (address - 1) a
area_here core low ss address a d e =
    let p = area_at-low low ss address a e in
    (omega arith, found_area core low ss address (address - 1) a d e (omega arith))

keeping-unzip : (low : ℕ) (ds ss : List Span) (x first : ℕ) → spans_top low ds < x → keeping low x first (unzip ds ss) ≡ unzip ds (keeping (spans_top low ds) x first ss)
keeping-unzip low [] ss x first h = refl
keeping-unzip low (Area b ∷ ds) ss x first h = grind (arith, keeping-unzip low ds (Area b ∷ ss) x first)
keeping-unzip low (Hole n ∷ ds) ss x first h = keeping-unzip low ds (Hole n ∷ ss) x first (omega arith)

area_after-unzip : (low : ℕ) (ds ss : List Span) (x : ℕ) → spans_top low ds < x → area_after low (unzip ds ss) x ≡ area_after (spans_top low ds) ss x
area_after-unzip low [] ss x h = refl
area_after-unzip low (Area b ∷ ds) ss x h = grind (arith, area_after-unzip low ds (Area b ∷ ss) x)
area_after-unzip low (Hole n ∷ ds) ss x h = area_after-unzip low ds (Hole n ∷ ss) x (omega arith)

module _ (core : List Tagged) (low : ℕ) (ss : List Span) (address : ℕ) (a : Info) (d : IsDirectory core low ss) (e : area_at low ss address ≡ Some a) where
  there : Found low ss address a
  there = find_area low [] ss address a e

  laid : Laid core (link_place low there.below) (link_high there.below) (spans_top low there.below) (Area a ∷ there.above)
  laid = (opened core low there.below (Area a ∷ there.above) (rw there.is at d.laid)).1

  spans : AreSpans there.below × AreSpans (Area a ∷ there.above)
  spans = let s = spans_opened there.below (Area a ∷ there.above) (rw there.is at d.spans) in (s.0, s.1)

  ends : end (spans_top low there.below + (a.words + 2)) there.above ≡ length core
  ends = sym (end-unzip low there.below (Area a ∷ there.above)) ∙ rw there.is at d.all

  -- what lies above the area
  pub above_here : (b : ℕ) × (h : ℕ) × (ss' : List Span) × IsAbove core b h (address + (a.words + 1)) ss' × (area_after low ss address ≡ first_area (address + (a.words + 1)) ss')
  above_here =
      let z : spans_top low there.below + (a.words + 2) ≡ address + (a.words + 1) = omega (arith, there.at) in
      grind (arith, z, laid, spans, ends, area_after-unzip, cond-true, eq-eqb)

  module _ (first : ℕ) (low_first : first < 2 ^ 20) (new : List Tagged) (is : new ≡ slice_set core (address - 1 + (a.words + 1)) (link_word a.words first)) where
    same : (k : ℕ) → k ≢ address - 1 + (a.words + 1) → slice_get new k ≡ slice_get core k
    same k h = ap (λ (c : List Tagged). slice_get c k) is ∙ slice_get-set_other core (address - 1 + (a.words + 1)) k (link_word a.words first) h

    len : length new ≡ length core
    len = ap length is ∙ length-set core (address - 1 + (a.words + 1)) (link_word a.words first)

    z : address - 1 + (a.words + 1) ≡ spans_top low there.below + (a.words + 1)
    z = omega (arith, there.at)

    tail_here : slice_get new (spans_top low there.below + (a.words + 1)) ≡ Some (link_word a.words first)
    tail_here = rw (sym z) (ap (λ (c : List Tagged). slice_get c (address - 1 + (a.words + 1))) is ∙ slice_get-set_same core (address - 1 + (a.words + 1)) (link_word a.words first) (omega (arith, z, ends, low_end (spans_top low there.below + (a.words + 2)) there.above)))

    kept : keeping low address first ss ≡ unzip there.below (Area (record a { kept = first }) ∷ there.above)
    kept = grind (arith, keeping-unzip)

    place : link_place low there.below < spans_top low there.below
    place = (link_place_low low there.below d.above spans.0).0

    pub keeps : IsDirectory new low (keeping low address first ss)
    keeps = record {
      laid = rw kept (closed new low there.below (Area (record a { kept = first }) ∷ there.above)
          (Below-same core new low there.below d.above spans.0 (λ k g _. same k (λ q. omega (arith, z))) (opened core low there.below (Area a ∷ there.above) (rw there.is at d.laid)).0) (
            same (spans_top low there.below) (λ q. omega (arith, z)) ∙ laid.0,
            tail_here,
            Laid-move core new (link_place low there.below) (link_high there.below) (link_place low there.below) (link_high there.below) (spans_top low there.below + (a.words + 2)) there.above (λ k g. same k (λ q. omega (arith, z)))
                (same (link_place low there.below) (λ q. omega (arith, z, place)) ∙ pending core (link_place low there.below) (link_high there.below) (spans_top low there.below + (a.words + 2)) there.above laid.2) laid.2,
          ));
      zeros = λ k g h. same k (λ q. omega (arith, z, low_top low there.below, d.above)) ∙ d.zeros k g h;
      all = ap (end low) kept ∙ end-unzip low there.below (Area (record a { kept = first }) ∷ there.above) ∙ ends ∙ sym len;
      spans = rw kept (spans_closed there.below (Area (record a { kept = first }) ∷ there.above) spans.0 (record { words = spans.1.0.words; owner = spans.1.0.owner; kept = low_first }, spans.1.1) (inr tt));
      above = d.above;
      small = omega (arith, len, d.small);
    }

    pub keeps_outside : (k : ℕ) → k ≢ address + a.words → slice_get new k ≡ slice_get core k
    keeps_outside k h = same k (λ q. h (omega (arith, there.at)))

area_kind : (a : Info) → a.words < 2 ^ 20 → a.owner < 2 ^ 20 → bits_at (head_word a) 46 2 ≢ 3
area_kind a w o = grind arith

-- what a look at a place above an area tells
module _ (core : List Tagged) (b h at : ℕ) where
  pub next_in : (ss : List Span) → IsAbove core b h at ss → at ≢ length core → at < length core
  next_in ss i n = grind (arith, low_end)

  pub next_end : (ss : List Span) → IsAbove core b h at ss → at ≡ length core → None ≡ first_area at ss
  next_end [] i e = refl
  next_end (Area a ∷ ss) i e = absurd (omega (arith, i.ends, low_end (at + (a.words + 2)) ss))
  next_end (Hole n ∷ ss) i e = absurd (omega (arith, i.ends, i.spans.0, low_end (at + n) ss))

  pub next_area_here : (ss : List Span) (w : Tagged) → IsAbove core b h at ss → slice_get core at ≡ Some w → bits_at w 46 2 ≢ 3 → Some (at + 1) ≡ first_area at ss
  next_area_here [] w i r k = absurd (omega (arith, i.ends, slice_get_within core at w r))
  next_area_here (Area a ∷ ss) w i r k = refl
  next_area_here (Hole n ∷ ss) w i r k = grind (arith, pending, low_end, next-lt)

  -- a hole is there, and what lies behind it
  pub next_hole_here : (ss : List Span) (w : Tagged) → IsAbove core b h at ss → slice_get core at ≡ Some w → bits_at w 46 2 ≡ 3 → (n : ℕ) × (x : ℕ) × (n < 2 ^ 20) × (x < 2 ^ 20) × (slice_get core at ≡ Some (link_word (hole_high n) x)) × (at + n ≤ length core) × (at + n ≡ length core → None ≡ first_area at ss) × (at + n ≢ length core → Some (at + n + 1) ≡ first_area at ss)
  next_hole_here [] w i r k = absurd (omega (arith, i.ends, slice_get_within core at w r))
  next_hole_here (Area a ∷ ss) w i r k = grind (arith, low_end)
  next_hole_here (Hole n ∷ ss) w i r k = grind (arith, low_end, next-lt, pending)

pub all_above : (core : List Tagged) (low : ℕ) (ss : List Span) → IsDirectory core low ss → IsAbove core 152 0 low ss
all_above core low ss d = record { laid = d.laid; spans = d.spans; ends = d.all; small = d.small; some = omega (arith, d.above) }
