-- An area that is left only its first words.
use Rattle.std.proofs.Common.{◌≡◌, ◌≢◌, ℕ, zero, suc, ◌+◌, ◌-◌, ◌<◌, ◌≤◌, ◌^◌, List, [], ◌∷◌, length, Option, Some, None, refl, sym, ◌∙◌, ap, arith, inl, inr, ⊎_elim, ◌⊎◌, ◌==◌, Bool, true, false, slice_set}
use Rattle.std.specs.List.{slice_get}
use Rattle.std.proofs.lemmas.Bool.{true≢false, cond-true, cond-false, eq-eqb, ne_eqb, eqb-true, cases_Bool}
use Rattle.std.proofs.Math.ListN.{length-set}
use Rattle.b67_word.specs.Tagged.{Tagged}
use Rattle.b67_core.proofs.Writes.{slice_get-set_same, slice_get-set_other}
use Rattle.b67_area.specs.declared.kinds.Info.{Info}
use Rattle.b67_area.specs.declared.search.Vacancy.{Vacancy}
use Rattle.b67_area.specs.Spans.{Span, Area, Hole, end, first_hole, area_at, left, spaced, shortened, with_words, InHole}
use Rattle.b67_area.specs.Words.{link_word, hole_high, head_word, tail_word}
use Rattle.b67_area.specs.Directory.{AreSpans, Laid, IsDirectory}
use Rattle.b67_area.specs.Walk.{unzip, spans_top, link_place, link_high, front, behind, with_hole, LeavesHole, Vacates}
use Rattle.b67_area.proofs.Cuts.{closed, end-unzip, spans_closed, Below-same, InHole-above, InHole-link}
use Rattle.b67_area.proofs.Holes.{link_to, with_hole-length, with_hole-other, with_hole-link, with_hole-hole, Laid-left, end-left, AreSpans-left}
use Rattle.b67_area.proofs.Frees.{opened_here, spans_here, facts, place_below, rest_laid, rest_spans, rest_end}

-- an area there that has so many words or more, seen from its place
pub shortened-unzip : (low : ℕ) (ds ss : List Span) (x n : ℕ) → spans_top low ds < x → shortened low x n (unzip ds ss) ≡ unzip ds (shortened (spans_top low ds) x n ss)
shortened-unzip low [] ss x n h = refl
shortened-unzip low (Area b ∷ ds) ss x n h = grind (arith, shortened-unzip low ds (Area b ∷ ss) x n)
shortened-unzip low (Hole m ∷ ds) ss x n h = shortened-unzip low ds (Hole m ∷ ss) x n (omega arith)

-- the hole before what lies behind the hole at the front
spaced-left : (n : ℕ) (ss : List Span) → AreSpans ss → spaced n ss ≡ left (n + front ss) (behind ss)
spaced-left n ss s = grind arith

area_at-spaced : (at n : ℕ) (ss : List Span) (x : ℕ) → area_at at (spaced n ss) x ≡ area_at (at + n) ss x
area_at-spaced at n ss x = grind arith

-- which areas there are after a shrink
pub area_at-shortened : (at x n : ℕ) (ss : List Span) (y : ℕ) → ((a : Info) → area_at at ss x ≡ Some a → n ≤ a.words) → area_at at (shortened at x n ss) y ≡ with_words x n y (area_at at ss y)
area_at-shortened at x n [] y fits = refl
area_at-shortened at x n (Hole m ∷ ss) y fits = area_at-shortened (at + m) x n ss y fits
area_at-shortened at x n (Area b ∷ ss) y fits = ⊎_elim
    (λ t. rw t (⊎_elim
    (λ u. rw u (sym (cond-true (x == y) _ _ (eq-eqb x y (sym (eqb-true (at + 1) x t) ∙ eqb-true (at + 1) y u)))))
    (λ u. rw u (moved (fits b (cond-true (at + 1 == x) _ _ t)) ∙ sym (other (area_at (at + (b.words + 2)) ss y) (λ e. false_true (at + 1 == y) u (eq-eqb (at + 1) y (eqb-true (at + 1) x t ∙ e))))))
    (cases_Bool (at + 1 == y))))
    (λ t. rw t (⊎_elim
    (λ u. rw u (sym (cond-false (x == y) _ _ (ne_eqb x y (λ e. false_true (at + 1 == x) t (eq-eqb (at + 1) x (eqb-true (at + 1) y u ∙ sym e)))))))
    (λ u. rw u (area_at-shortened (at + (b.words + 2)) x n ss y (λ a e. fits a (cond-false (at + 1 == x) _ _ t ∙ e))))
    (cases_Bool (at + 1 == y))))
    (cases_Bool (at + 1 == x)) where
      false_true : (b : Bool) → b ≡ false → b ≡ true → ⊥
      false_true b f t = true≢false (sym t ∙ f)

      other : (o : Option Info) → (x ≡ y → ⊥) → with_words x n y o ≡ o
      other None h = refl
      other (Some a) h = cond-false (x == y) _ _ (ne_eqb x y h)

      moved : n ≤ b.words → area_at (at + (n + 2)) (spaced (b.words - n) ss) y ≡ area_at (at + (b.words + 2)) ss y
      moved h = area_at-spaced (at + (n + 2)) (b.words - n) ss y ∙ (let e : at + (n + 2) + (b.words - n) ≡ at + (b.words + 2) = omega arith in ap (λ (k : ℕ). area_at k ss y) e)

module _ (core : List Tagged) (low : ℕ) (ss : List Span) (address : ℕ) (a : Info) (v : Vacancy) (d : IsDirectory core low ss) (t : LeavesHole low ss address a v) (n : ℕ) (some : 1 ≤ n) (fits : n ≤ a.words) where
  -- the words that are left fit
  pub bounds : (n < 2 ^ 20) × (v.at + (n + 2) ≤ length core) × (n + 2 ≤ v.size) × (v.at + (n + 1) < length core) × (a.owner < 2 ^ 20) × (a.kept < 2 ^ 20)
  bounds =
      let f = facts core low ss address a v d t in
      let i = (spans_here core low ss address a v d t).1.0 in
      (omega (arith, t.size, f.fits, f.small), omega (arith, t.size, f.fits), omega (arith, t.size), omega (arith, t.size, f.fits), i.owner, i.kept)

  pub now_short : shortened low address n ss ≡ unzip t.below (Area (record a { words = n }) ∷ left (v.size - (n + 2)) (behind t.above))
  now_short =
      let here : spans_top low t.below + 1 ≡ address = omega (arith, t.at_is, t.address_is) in
      let same : a.words - n + front t.above ≡ v.size - (n + 2) = omega (arith, t.size) in
      ap (shortened low address n) t.is ∙ shortened-unzip low t.below (Area a ∷ t.above) address n (omega arith)
      ∙ ap (unzip t.below) (cond-true (spans_top low t.below + 1 == address) _ _ (eq-eqb (spans_top low t.below + 1) address here)
      ∙ ap (λ (s : List Span). Area (record a { words = n }) ∷ s) (spaced-left (a.words - n) t.above (spans_here core low ss address a v d t).1.1 ∙ ap (λ (k : ℕ). left k (behind t.above)) same))

  module _ (new : List Tagged) (is : new ≡ slice_set (slice_set (with_hole core v.before (link_high t.below) (v.at + (n + 2)) (v.size - (n + 2)) v.next) v.at (head_word (record a { words = n }))) (v.at + (n + 1)) (tail_word (record a { words = n }))) where
    holed : List Tagged
    holed = with_hole core v.before (link_high t.below) (v.at + (n + 2)) (v.size - (n + 2)) v.next

    headed : List Tagged
    headed = slice_set holed v.at (head_word (record a { words = n }))

    f : Vacates core v
    f = facts core low ss address a v d t

    holed_length : length holed ≡ length core
    unfolding holed
    holed_length = with_hole-length core v.before (link_high t.below) (v.at + (n + 2)) (v.size - (n + 2)) v.next

    headed_length : length headed ≡ length core
    unfolding headed
    headed_length = length-set holed v.at (head_word (record a { words = n })) ∙ holed_length

    len : length new ≡ length core
    unfolding headed holed
    len = ap length is ∙ length-set headed (v.at + (n + 1)) (tail_word (record a { words = n })) ∙ headed_length

    -- what isn't written in the area's head and tail
    beside : (k : ℕ) → k ≢ v.at → k ≢ v.at + (n + 1) → slice_get new k ≡ slice_get holed k
    unfolding headed holed
    beside k h g = ap (λ (c : List Tagged). slice_get c k) is ∙ slice_get-set_other headed (v.at + (n + 1)) k (tail_word (record a { words = n })) g ∙ slice_get-set_other holed v.at k (head_word (record a { words = n })) h

    same : (k : ℕ) → k ≢ v.before → k ≢ v.at → k ≢ v.at + (n + 1) → (1 ≤ v.size - (n + 2) → k ≢ v.at + (n + 2)) → slice_get new k ≡ slice_get core k
    unfolding holed
    same k l h g q = beside k h g ∙ with_hole-other core v.before (link_high t.below) (v.at + (n + 2)) (v.size - (n + 2)) v.next k l q

    tail_here : slice_get new (v.at + (n + 1)) ≡ Some (tail_word (record a { words = n }))
    unfolding headed holed
    tail_here = ap (λ (c : List Tagged). slice_get c (v.at + (n + 1))) is ∙ slice_get-set_same headed (v.at + (n + 1)) (tail_word (record a { words = n })) (omega (arith, headed_length, bounds.3))

    head_here : slice_get new v.at ≡ Some (head_word (record a { words = n }))
    unfolding headed holed
    head_here = ap (λ (c : List Tagged). slice_get c v.at) is ∙ slice_get-set_other headed (v.at + (n + 1)) v.at (tail_word (record a { words = n })) (λ e. omega arith)
        ∙ slice_get-set_same holed v.at (head_word (record a { words = n })) (omega (arith, holed_length, bounds.3))

    link_here : slice_get new v.before ≡ Some (link_word (link_high t.below) (link_to (v.at + (n + 2)) (v.size - (n + 2)) v.next))
    unfolding holed
    link_here = beside v.before (λ e. omega (arith, f.before)) (λ e. omega (arith, f.before)) ∙ with_hole-link core v.before (link_high t.below) (v.at + (n + 2)) (v.size - (n + 2)) v.next (omega (arith, f.before, f.fits))

    hole_here : 1 ≤ v.size - (n + 2) → slice_get new (v.at + (n + 2)) ≡ Some (link_word (hole_high (v.size - (n + 2))) v.next)
    unfolding holed
    hole_here h = beside (v.at + (n + 2)) (λ e. omega arith) (λ e. omega arith)
        ∙ with_hole-hole core v.before (link_high t.below) (v.at + (n + 2)) (v.size - (n + 2)) v.next h (λ e. omega (arith, f.before)) (omega (arith, f.fits, h))

    whole : v.at + (n + 2) + (v.size - (n + 2)) ≡ v.at + v.size
    whole = omega (arith, bounds.2)

    place : (v.before ≡ 152) ⊎ (low ≤ v.before)
    place = place_below core low ss address a v d t

    laid_here : Laid new (link_place low t.below) (link_high t.below) (spans_top low t.below) (Area (record a { words = n }) ∷ left (v.size - (n + 2)) (behind t.above))
    laid_here =
        let r = rest_laid core low ss address a v d t in
        let l = Laid-left core new r.0 r.1 v.before (link_high t.below) (v.at + (n + 2)) (v.size - (n + 2)) v.next (behind t.above)
        (λ k g. same k (λ e. omega (arith, f.before)) (λ e. omega arith) (λ e. omega arith) (λ h e. omega arith)) link_here hole_here (t.next ∙ ap (λ (k : ℕ). first_hole k (behind t.above)) (sym whole)) (rw (sym whole) at r.2) in
        rw (sym t.before, sym t.at_is) (head_here, tail_here, l)

    pub shrinks : IsDirectory new low (shortened low address n ss)
    shrinks = record {
      laid = rw now_short (closed new low t.below (Area (record a { words = n }) ∷ left (v.size - (n + 2)) (behind t.above))
          (Below-same core new low t.below d.above (spans_here core low ss address a v d t).0 (λ k g e. same k (λ q. e (q ∙ t.before)) (λ q. omega (arith, t.at_is)) (λ q. omega (arith, t.at_is)) (λ _ q. omega (arith, t.at_is))) (opened_here core low ss address a v d t).0) laid_here);
      zeros = λ k g h. same k (λ e. ⊎_elim (λ q. omega arith) (λ q. omega (arith, d.above)) place) (λ e. omega (arith, f.above)) (λ e. omega (arith, f.above)) (λ _ e. omega (arith, f.above)) ∙ d.zeros k g h;
      all = ap (end low) now_short ∙ end-unzip low t.below (Area (record a { words = n }) ∷ left (v.size - (n + 2)) (behind t.above))
          ∙ ap (λ (k : ℕ). end (k + (n + 2)) (left (v.size - (n + 2)) (behind t.above))) (sym t.at_is) ∙ end-left (v.at + (n + 2)) (v.size - (n + 2)) (behind t.above)
          ∙ ap (λ (k : ℕ). end k (behind t.above)) whole ∙ rest_end core low ss address a v d t ∙ sym len;
      spans = rw now_short (spans_closed t.below (Area (record a { words = n }) ∷ left (v.size - (n + 2)) (behind t.above)) (spans_here core low ss address a v d t).0
          (record { words = some; owner = bounds.4; kept = bounds.5 }, AreSpans-left (v.size - (n + 2)) (behind t.above) (rest_spans core low ss address a v d t).0 (rest_spans core low ss address a v d t).1) (inr tt));
      above = d.above;
      small = omega (arith, len, d.small);
    }

    pub shrinks_outside : (k : ℕ) → k ≢ 152 → k + 1 ≢ address → k ≢ address + n → (InHole low (shortened low address n ss) k → ⊥) → slice_get new k ≡ slice_get core k
    shrinks_outside k w h g out =
        same k
        (λ e. ⊎_elim (λ q. w (e ∙ t.before ∙ q)) (λ q. out (rw (now_short, e, t.before) q)) (InHole-link low t.below (Area (record a { words = n }) ∷ left (v.size - (n + 2)) (behind t.above)) (spans_here core low ss address a v d t).0))
        (λ e. h (omega (arith, t.address_is))) (λ e. g (omega (arith, t.address_is)))
        (λ more e. out (rw now_short (InHole-above low t.below (Area (record a { words = n }) ∷ left (v.size - (n + 2)) (behind t.above)) k (in_left (v.size - (n + 2)) (behind t.above) more (omega (arith, t.at_is, e)))))) where
          in_left : (m : ℕ) (rest : List Span) → 1 ≤ m → k ≡ spans_top low t.below + (n + 2) → InHole (spans_top low t.below + (n + 2)) (left m rest) k
          in_left zero rest h e = absurd (omega arith)
          in_left (suc m) rest h e = inl (omega arith, omega arith)
