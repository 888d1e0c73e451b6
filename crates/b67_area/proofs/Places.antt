use Rattle.std.proofs.Common.{◌≡◌, ◌≢◌, ℕ, ◌+◌, ◌-◌, ◌<◌, ◌≤◌, List, ◌∷◌, length, Some, sym, ◌∙◌, ap, arith, inl, inr, ⊎_elim, ◌⊎◌, leb, slice_set}
use Rattle.std.specs.List.{slice_get}
use Rattle.std.proofs.lemmas.Bool.{cond-true, le-leb, cases_lt}
use Rattle.std.proofs.Math.ListN.{length-set}
use Rattle.b67_word.specs.Tagged.{Tagged}
use Rattle.b67_area.specs.declared.kinds.Info.{Info}
use Rattle.b67_area.specs.declared.search.Fit.{Fit}
use Rattle.b67_area.specs.Spans.{Span, Area, Hole, end, first_hole, left, fill, spot}
use Rattle.b67_area.specs.Words.{link_word, hole_high, head_word, tail_word}
use Rattle.b67_area.specs.Directory.{IsInfo, Laid, IsDirectory, OnlyHoles}
use Rattle.b67_area.specs.Walk.{unzip, spans_top, link_place, link_high, with_hole, FitsHole, Facts}
use Rattle.b67_area.proofs.Cuts.{closed, end-unzip, spans_closed, Below-same, link_place_low, InHole-above, InHole-link}
use Rattle.b67_core.proofs.Writes.{slice_get-set_same, slice_get-set_other}
use Rattle.b67_area.proofs.Walks.{AtHole, at_hole, next-lt}
use Rattle.b67_area.proofs.Holes.{link_to, with_hole-length, with_hole-other, with_hole-link, with_hole-hole, Laid-left, end-left, AreSpans-left, spot-unzip, fill-unzip}

module _ (core : List Tagged) (n low : ℕ) (ss : List Span) (f : Fit) (d : IsDirectory core low ss) (t : FitsHole n low ss f) where
  hole_here : AtHole core low ss t.below f.room t.above
  hole_here = at_hole core low ss t.below f.room t.above d t.is

  pub hole_link : slice_get core f.before ≡ Some (link_word (link_high t.below) f.at)
  hole_link = rw (t.before, t.at) hole_here.link

  pub hole_all : end (spans_top low t.below + f.room) t.above ≡ length core
  hole_all = sym (end-unzip low t.below (Hole f.room ∷ t.above)) ∙ rw t.is at d.all

  -- what the code needs to know of the hole
  pub hole_facts : Facts core n f
  hole_facts = record {
    high = link_high t.below;
    link = hole_link;
    before = omega (arith, hole_here.place, t.before, t.at);
    above = omega (arith, hole_here.high, t.at, d.above);
    fits = omega (arith, hole_here.fits, t.at);
    room = t.room;
    next = rw (t.next, t.at) (next-lt core low (spans_top low t.below + f.room) t.above hole_here.tail (omega (arith, hole_all)) d.small);
    small = d.small;
  }

module _ (core : List Tagged) (low : ℕ) (ss : List Span) (a : Info) (f : Fit) (d : IsDirectory core low ss) (t : FitsHole (a.words + 2) low ss f) where
  hole : AtHole core low ss t.below f.room t.above
  hole = at_hole core low ss t.below f.room t.above d t.is

  facts : Facts core (a.words + 2) f
  facts = hole_facts core (a.words + 2) low ss f d t

  all : end (spans_top low t.below + f.room) t.above ≡ length core
  all = hole_all core (a.words + 2) low ss f d t

  module _ (new : List Tagged) (i : IsInfo a) (is : new ≡ slice_set (slice_set (with_hole core f.before (link_high t.below) (f.at + (a.words + 2)) (f.room - (a.words + 2)) f.next) f.at (head_word a)) (f.at + (a.words + 1)) (tail_word a)) where
    mid : List Tagged
    mid = with_hole core f.before (link_high t.below) (f.at + (a.words + 2)) (f.room - (a.words + 2)) f.next

    mid-length : length mid ≡ length core
    unfolding mid
    mid-length = with_hole-length core f.before (link_high t.below) (f.at + (a.words + 2)) (f.room - (a.words + 2)) f.next

    pub len : length new ≡ length core
    unfolding mid
    len = ap length is ∙ length-set (slice_set mid f.at (head_word a)) (f.at + (a.words + 1)) (tail_word a) ∙ length-set mid f.at (head_word a) ∙ mid-length

    -- what is read away from the new area's head and tail
    away : (k : ℕ) → k ≢ f.at → k ≢ f.at + (a.words + 1) → slice_get new k ≡ slice_get mid k
    unfolding mid
    away k h g = ap (λ (c : List Tagged). slice_get c k) is ∙ slice_get-set_other (slice_set mid f.at (head_word a)) (f.at + (a.words + 1)) k (tail_word a) g ∙ slice_get-set_other mid f.at k (head_word a) h

    head : slice_get new f.at ≡ Some (head_word a)
    unfolding mid
    head = ap (λ (c : List Tagged). slice_get c f.at) is ∙ slice_get-set_other (slice_set mid f.at (head_word a)) (f.at + (a.words + 1)) f.at (tail_word a) (λ e. omega arith) ∙ slice_get-set_same mid f.at (head_word a) (omega (arith, mid-length, facts.fits, facts.room))

    tail : slice_get new (f.at + (a.words + 1)) ≡ Some (tail_word a)
    unfolding mid
    tail = ap (λ (c : List Tagged). slice_get c (f.at + (a.words + 1))) is ∙ slice_get-set_same (slice_set mid f.at (head_word a)) (f.at + (a.words + 1)) (tail_word a) (omega (arith, length-set mid f.at (head_word a), mid-length, facts.fits, facts.room))

    link : slice_get new f.before ≡ Some (link_word (link_high t.below) (link_to (f.at + (a.words + 2)) (f.room - (a.words + 2)) f.next))
    unfolding mid
    link = away f.before (λ e. omega (arith, facts.before)) (λ e. omega (arith, facts.before)) ∙ with_hole-link core f.before (link_high t.below) (f.at + (a.words + 2)) (f.room - (a.words + 2)) f.next (omega (arith, facts.before, facts.fits))

    left_hole : 1 ≤ f.room - (a.words + 2) → slice_get new (f.at + (a.words + 2)) ≡ Some (link_word (hole_high (f.room - (a.words + 2))) f.next)
    unfolding mid
    left_hole some = away (f.at + (a.words + 2)) (λ e. omega arith) (λ e. omega arith) ∙ with_hole-hole core f.before (link_high t.below) (f.at + (a.words + 2)) (f.room - (a.words + 2)) f.next some (λ e. omega (arith, facts.before)) (omega (arith, facts.fits))

    -- what is read outside the hole that was taken
    same : (k : ℕ) → k ≢ f.before → (k < f.at) ⊎ (f.at + f.room ≤ k) → slice_get new k ≡ slice_get core k
    unfolding mid
    same k b o = away k (λ e. ⊎_elim (λ g. omega arith) (λ g. omega (arith, facts.room)) o) (λ e. ⊎_elim (λ g. omega arith) (λ g. omega (arith, facts.room)) o) ∙ with_hole-other core f.before (link_high t.below) (f.at + (a.words + 2)) (f.room - (a.words + 2)) f.next k b (λ g e. ⊎_elim (λ h. omega arith) (λ h. omega arith) o)

    pub filled : fill a ss ≡ unzip t.below (Area a ∷ left (f.room - (a.words + 2)) t.above)
    filled = ap (fill a) t.is ∙ fill-unzip a t.below (Hole f.room ∷ t.above) t.small ∙ ap (unzip t.below) (cond-true (leb (a.words + 2) f.room) _ _ (le-leb (a.words + 2) f.room t.room))

    pub found : spot (a.words + 2) low ss ≡ Some f.at
    found = ap (spot (a.words + 2) low) t.is ∙ spot-unzip (a.words + 2) low t.below (Hole f.room ∷ t.above) t.small ∙ cond-true (leb (a.words + 2) f.room) _ _ (le-leb (a.words + 2) f.room t.room) ∙ ap Some (sym t.at)

    rejoined : f.at + (a.words + 2) + (f.room - (a.words + 2)) ≡ f.at + f.room
    rejoined = omega (arith, facts.room)

    above_laid : Laid new f.before (link_high t.below) (f.at + (a.words + 2)) (left (f.room - (a.words + 2)) t.above)
    above_laid = Laid-left core new f.at (hole_high f.room) f.before (link_high t.below) (f.at + (a.words + 2)) (f.room - (a.words + 2)) f.next t.above
        (λ k g. same k (λ e. omega (arith, facts.before)) (inr (omega (arith, rejoined))))
        link left_hole
        (t.next ∙ ap (λ (k : ℕ). first_hole k t.above) (sym rejoined))
        (rw (rejoined, t.at) hole.laid)

    laid : Laid new (link_place low t.below) (link_high t.below) (spans_top low t.below) (Area a ∷ left (f.room - (a.words + 2)) t.above)
    laid = rw (sym t.before, sym t.at) (head, tail, above_laid)

    pub placed : IsDirectory new low (fill a ss)
    placed = record {
      laid = rw filled (closed new low t.below (Area a ∷ left (f.room - (a.words + 2)) t.above) (Below-same core new low t.below d.above hole.spans (λ k g e. same k (λ q. e (q ∙ t.before)) (inl (omega (arith, t.at)))) hole.below) laid);
      zeros = λ k g h. same k (λ e. ⊎_elim (λ q. omega (arith, t.before)) (λ q. omega (arith, t.before, d.above)) (link_place_low low t.below d.above hole.spans).1) (inl (omega (arith, facts.above))) ∙ d.zeros k g h;
      all = ap (end low) filled ∙ end-unzip low t.below (Area a ∷ left (f.room - (a.words + 2)) t.above) ∙ end-left (spans_top low t.below + (a.words + 2)) (f.room - (a.words + 2)) t.above ∙ ap (λ (k : ℕ). end k t.above) (sym (ap (λ (k : ℕ). k + (a.words + 2) + (f.room - (a.words + 2))) t.at) ∙ rejoined ∙ ap (λ (k : ℕ). k + f.room) t.at) ∙ all ∙ sym len;
      spans = rw filled (spans_closed t.below (Area a ∷ left (f.room - (a.words + 2)) t.above) hole.spans (i, AreSpans-left (f.room - (a.words + 2)) t.above hole.alone hole.tail) (inr tt));
      above = d.above;
      small = omega (arith, len, d.small);
    }

    pub outside : OnlyHoles core new low ss
    outside k n h = same k (λ e. ⊎_elim (λ q. n (e ∙ t.before ∙ q)) (λ q. h (rw (t.is, e, t.before) q)) (InHole-link low t.below (Hole f.room ∷ t.above) hole.spans))
        (⊎_elim inl (λ g. ⊎_elim (λ q. absurd (h (rw t.is (InHole-above low t.below (Hole f.room ∷ t.above) k (inl (omega (arith, t.at), omega (arith, t.at))))))) inr (cases_lt k (f.at + f.room))) (cases_lt k f.at))
