use Rattle.std.proofs.Common.{◌≡◌, ◌≢◌, ℕ, ◌+◌, ◌<◌, ◌≤◌, ◌^◌, List, [], ◌∷◌, length, Some, refl, sym, ◌∙◌, ap, arith, inl, ⊎_elim, ◌⊎◌, ◌==◌, slice_set, rules}
use Rattle.std.specs.List.{slice_get}
use Rattle.std.proofs.lemmas.Bool.{cond-true, eq-eqb}
use Rattle.std.proofs.Math.ListN.{length-set}
use Rattle.b67_word.specs.Tagged.{Tagged}
use Rattle.b67_area.specs.declared.kinds.Info.{Info}
use Rattle.b67_area.specs.declared.search.Links.{Links}
use Rattle.b67_area.specs.Spans.{Span, Area, Hole, end, first_hole, join, without, left}
use Rattle.b67_area.proofs.Holes.{link_to, with_hole-length, with_hole-other, with_hole-link, with_hole-hole, Laid-left}
use Rattle.b67_area.specs.Words.{link_word, hole_high}
use Rattle.b67_area.specs.Directory.{NoHole, AreSpans, Laid, IsDirectory, OnlyHoles}
use Rattle.b67_area.specs.Walk.{unzip, spans_top, link_place, link_high, link_room, front, behind, Below, Around, IsAbove, LeavesHole, Vacates, with_hole}
use Rattle.b67_area.specs.declared.search.Vacancy.{Vacancy}
use Rattle.b67_area.proofs.Walks.{next-lt, low_end}
use Rattle.b67_area.proofs.Climbs.{first_hole-low, is_above}
use Rattle.b67_area.proofs.Cuts.{Meet, opened, closed, end-unzip, spans_opened, spans_closed, pending, low_top, link_place_low, Below-same, Laid-move, InHole-above, InHole-link}
use Rattle.b67_core.proofs.Writes.{slice_get-set_same, slice_get-set_other}

-- spans cut in two, put together where a hole may now meet a hole
abbrev pub rejoin : List Span → List Span → List Span
rejoin [] ss = ss
rejoin (Area a ∷ ds) ss = unzip ds (Area a ∷ ss)
rejoin (Hole n ∷ ds) ss = unzip ds (join n ss)

pub rejoin-alone : (ds ss : List Span) → NoHole ds → rejoin ds ss ≡ unzip ds ss
rejoin-alone ds ss h = grind arith

pub without-unzip : (low : ℕ) (ds ss : List Span) (x : ℕ) → spans_top low ds < x → AreSpans ds → without low x (unzip ds ss) ≡ rejoin ds (without (spans_top low ds) x ss)
without-unzip low [] ss x h s = refl
without-unzip low (Area b ∷ ds) ss x h s = grind (arith, without-unzip low ds (Area b ∷ ss) x)
without-unzip low (Hole n ∷ ds) ss x h s = grind (arith, without-unzip low ds (Hole n ∷ ss) x)

pub join-front : (n : ℕ) (ss : List Span) → join n ss ≡ Hole (n + front ss) ∷ behind ss
join-front n ss = grind arith

pub NoHole-behind : (ss : List Span) → AreSpans ss → NoHole (behind ss) × AreSpans (behind ss)
NoHole-behind ss s = grind arith

-- a hole at the front of spans
module _ (core : List Tagged) (b h at next : ℕ) where
  pub front_hole : (ss : List Span) → IsAbove core b h at ss → next ≡ first_hole at ss → next ≡ at → (front ss < 2 ^ 20) × (first_hole (at + front ss) (behind ss) < 2 ^ 20) × (slice_get core next ≡ Some (link_word (hole_high (front ss)) (first_hole (at + front ss) (behind ss))))
  front_hole ss i e is = grind (arith, ⊎_elim, first_hole-low, low_end, next-lt, pending)

  pub front_next : (ss : List Span) → IsAbove core b h at ss → (first_hole (at + front ss) (behind ss) < 2 ^ 20) × (at + front ss ≤ length core) × (end (at + front ss) (behind ss) ≡ length core)
  front_next ss i = grind (arith, next-lt, low_end)

-- where the hole at the last link ends
pub link_room-end : (low : ℕ) (ds : List Span) → 160 ≤ low → AreSpans ds → link_place low ds + link_room ds ≤ spans_top low ds
link_room-end low [] h s = omega arith
link_room-end low (Area a ∷ ds) h s = omega (arith, link_room-end low ds h s.1)
link_room-end low (Hole n ∷ ds) h s = omega arith

-- the parts of a vacancy
module _ (core : List Tagged) (low : ℕ) (ss : List Span) (address at : ℕ) (a : Info) (r : Links) (d : IsDirectory core low ss) (t : Around low ss at a r) (is : address ≡ at + 1) where
  pub leaves : (room next : ℕ) → room ≡ front t.above → next ≡ first_hole (at + (a.words + 2) + front t.above) (behind t.above) → LeavesHole low ss address a (record { before = r.before; room = r.room; at = at; size = a.words + 2 + room; next = next })
  leaves room next er en = grind arith

pub vacates : (core : List Tagged) (low : ℕ) (ss : List Span) (address : ℕ) (a : Info) (v : Vacancy) → IsDirectory core low ss → LeavesHole low ss address a v → Vacates core v
vacates core low ss address a v d t =
    let o = opened core low t.below (Area a ∷ t.above) (rw t.is at d.laid) in
    let s = spans_opened t.below (Area a ∷ t.above) (rw t.is at d.spans) in
    let link = pending core (link_place low t.below) (link_high t.below) (spans_top low t.below) (Area a ∷ t.above) o.1 in
    let r : Links = record { before = v.before; room = v.room; next = first_hole (v.at + (a.words + 2)) t.above } in
    let n : Around low ss v.at a r = record { below = t.below; above = t.above; is = t.is; at_is = t.at_is; before = t.before; room = t.room; next = refl } in
    let f = front_next core (link_place low t.below) (link_high t.below) (v.at + (a.words + 2)) 0 t.above (is_above core low ss v.at a r d n) in
    let z : v.at + (a.words + 2) + front t.above ≡ v.at + v.size = omega (arith, t.size) in
    record {
      high = link_high t.below;
      old = first_hole (spans_top low t.below) (Area a ∷ t.above);
      link = rw t.before link;
      old_small = next-lt core low (spans_top low t.below) (Area a ∷ t.above) s.1 (omega (arith, sym (end-unzip low t.below (Area a ∷ t.above)) ∙ rw t.is at d.all)) d.small;
      before = omega (arith, t.before, t.at_is, (link_place_low low t.below d.above s.0).0);
      above = omega (arith, t.at_is, d.above, low_top low t.below);
      room = omega (arith, t.before, t.room, t.at_is, link_room-end low t.below d.above s.0);
      fits = omega (arith, f.1, t.size);
      some = omega (arith, t.size, s.1.0.words);
      next = rw t.next (rw (sym z) f.0);
      small = d.small;
    }

behind_laid : (core : List Tagged) (b h at : ℕ) (ss : List Span) → Laid core b h at ss → (b' : ℕ) × (h' : ℕ) × Laid core b' h' (at + front ss) (behind ss)
behind_laid core b h at [] l = (b, h, l)
behind_laid core b h at (Area a ∷ ss) l = let z : at + 0 ≡ at = omega arith in (b, h, rw z l)
behind_laid core b h at (Hole n ∷ ss) l = (at, hole_high n, l.1)

left-some : (n : ℕ) (ss : List Span) → 1 ≤ n → left n ss ≡ Hole n ∷ ss
left-some n ss h = grind arith

-- whether a hole lies just below a cut
pub alone_below : (low : ℕ) (ds : List Span) → link_place low ds + link_room ds ≢ spans_top low ds → NoHole ds
alone_below low ds h = grind arith

pub hole_below : (low : ℕ) (ds : List Span) → 160 ≤ low → AreSpans ds → link_place low ds + link_room ds ≡ spans_top low ds → (n : ℕ) × (es : List Span) × (ds ≡ Hole n ∷ es)
hole_below low [] h s e = absurd (omega arith)
hole_below low (Area a ∷ ds) h s e = absurd (omega (arith, link_room-end low ds h s.1))
hole_below low (Hole n ∷ ds) h s e = (n, ds, refl)

module _ (core : List Tagged) (low : ℕ) (ss : List Span) (address : ℕ) (a : Info) (v : Vacancy) (d : IsDirectory core low ss) (t : LeavesHole low ss address a v) where
  pub opened_here : Below core low t.below × Laid core (link_place low t.below) (link_high t.below) (spans_top low t.below) (Area a ∷ t.above)
  opened_here = opened core low t.below (Area a ∷ t.above) (rw t.is at d.laid)

  pub spans_here : AreSpans t.below × AreSpans (Area a ∷ t.above) × Meet t.below (Area a ∷ t.above)
  spans_here = spans_opened t.below (Area a ∷ t.above) (rw t.is at d.spans)

  pub facts : Vacates core v
  facts = vacates core low ss address a v d t

  gone : without low address ss ≡ rejoin t.below (Hole v.size ∷ behind t.above)
  gone =
      let here : spans_top low t.below + 1 ≡ address = omega (arith, t.at_is, t.address_is) in
      ap (without low address) t.is ∙ without-unzip low t.below (Area a ∷ t.above) address (omega arith) spans_here.0
      ∙ ap (rejoin t.below) (cond-true (spans_top low t.below + 1 == address) _ _ (eq-eqb (spans_top low t.below + 1) address here) ∙ join-front (a.words + 2) t.above ∙ ap (λ (k : ℕ). Hole k ∷ behind t.above) (sym t.size))

  pub place_below : (v.before ≡ 152) ⊎ (low ≤ v.before)
  place_below = rw t.before (link_place_low low t.below d.above spans_here.0).1

  pub z : spans_top low t.below + (a.words + 2) + front t.above ≡ v.at + v.size
  z = omega (arith, t.size, t.at_is)

  pub rest_laid : (b : ℕ) × (h : ℕ) × Laid core b h (v.at + v.size) (behind t.above)
  rest_laid = let r = behind_laid core (link_place low t.below) (link_high t.below) (spans_top low t.below + (a.words + 2)) t.above opened_here.1.2 in (r.0, r.1, rw z at r.2)

  pub rest_spans : NoHole (behind t.above) × AreSpans (behind t.above)
  rest_spans = NoHole-behind t.above spans_here.1.1

  pub rest_end : end (v.at + v.size) (behind t.above) ≡ length core
  rest_end = search (rules, arith, end-unzip)

  pub below_hole : v.before + v.room ≡ v.at → (n : ℕ) × (es : List Span) × (t.below ≡ Hole n ∷ es)
  below_hole e = hole_below low t.below d.above spans_here.0 (omega (arith, t.before, t.room, t.at_is))

  pub leaves_link : (x : ℕ) × (x < 2 ^ 20) × (slice_get core v.before ≡ Some (link_word (link_high t.below) x))
  leaves_link = (
    first_hole (spans_top low t.below) (Area a ∷ t.above),
    next-lt core low (spans_top low t.below) (Area a ∷ t.above) spans_here.1 (omega (arith, sym (end-unzip low t.below (Area a ∷ t.above)) ∙ rw t.is at d.all)) d.small,
    rw t.before (pending core (link_place low t.below) (link_high t.below) (spans_top low t.below) (Area a ∷ t.above) opened_here.1),
  )

  -- no hole lies just below
  module _ (alone : v.before + v.room ≢ v.at) (new : List Tagged) (is : new ≡ with_hole core v.before (link_high t.below) v.at v.size v.next) where
    no_hole : NoHole t.below
    no_hole = alone_below low t.below (λ e. alone (omega (arith, t.before, t.room, t.at_is)))

    gone_alone : without low address ss ≡ unzip t.below (Hole v.size ∷ behind t.above)
    gone_alone = gone ∙ rejoin-alone t.below (Hole v.size ∷ behind t.above) no_hole

    same_alone : (k : ℕ) → k ≢ v.before → k ≢ v.at → slice_get new k ≡ slice_get core k
    same_alone k b g = ap (λ (c : List Tagged). slice_get c k) is ∙ with_hole-other core v.before (link_high t.below) v.at v.size v.next k b (λ _. g)

    len_alone : length new ≡ length core
    len_alone = ap length is ∙ with_hole-length core v.before (link_high t.below) v.at v.size v.next

    some_size : 1 ≤ v.size
    some_size = omega (arith, facts.some)

    link_alone : slice_get new v.before ≡ Some (link_word (link_high t.below) (link_to v.at v.size v.next))
    link_alone = ap (λ (c : List Tagged). slice_get c v.before) is ∙ with_hole-link core v.before (link_high t.below) v.at v.size v.next (omega (arith, facts.before, facts.fits))

    hole_alone : slice_get new v.at ≡ Some (link_word (hole_high v.size) v.next)
    hole_alone = ap (λ (c : List Tagged). slice_get c v.at) is ∙ with_hole-hole core v.before (link_high t.below) v.at v.size v.next some_size (λ e. omega (arith, facts.before)) (omega (arith, facts.fits, facts.some))

    laid_alone : Laid new (link_place low t.below) (link_high t.below) (spans_top low t.below) (Hole v.size ∷ behind t.above)
    laid_alone =
        let l = Laid-left core new rest_laid.0 rest_laid.1 v.before (link_high t.below) v.at v.size v.next (behind t.above) (λ k g. same_alone k (λ e. omega (arith, facts.before)) (λ e. omega (arith, some_size))) link_alone (λ _. hole_alone) t.next rest_laid.2 in
        rw (sym t.before, sym t.at_is) (rw (left-some v.size (behind t.above) some_size) at l)

    pub freed_alone : IsDirectory new low (without low address ss)
    freed_alone = record {
      laid = rw gone_alone (closed new low t.below (Hole v.size ∷ behind t.above) (Below-same core new low t.below d.above spans_here.0 (λ k g e. same_alone k (λ q. e (q ∙ t.before)) (λ q. omega (arith, t.at_is))) opened_here.0) laid_alone);
      zeros = λ k g h. same_alone k (λ e. ⊎_elim (λ q. omega arith) (λ q. omega (arith, d.above)) place_below) (λ e. omega (arith, facts.above)) ∙ d.zeros k g h;
      all = ap (end low) gone_alone ∙ end-unzip low t.below (Hole v.size ∷ behind t.above) ∙ ap (λ (k : ℕ). end (k + v.size) (behind t.above)) (sym t.at_is) ∙ rest_end ∙ sym len_alone;
      spans = rw gone_alone (spans_closed t.below (Hole v.size ∷ behind t.above) spans_here.0 (some_size, rest_spans.0, rest_spans.1) (inl no_hole));
      above = d.above;
      small = omega (arith, len_alone, d.small);
    }

    pub outside_alone : OnlyHoles core new low (without low address ss)
    outside_alone k n h = same_alone k
        (λ e. ⊎_elim (λ q. n (e ∙ t.before ∙ q)) (λ q. h (rw (gone_alone, e, t.before) q)) (InHole-link low t.below (Hole v.size ∷ behind t.above) spans_here.0))
        (λ e. h (rw gone_alone (InHole-above low t.below (Hole v.size ∷ behind t.above) k (inl (omega (arith, t.at_is), omega (arith, t.at_is, some_size))))))

  -- a hole lies just below
  module _ (n : ℕ) (es : List Span) (below_is : t.below ≡ Hole n ∷ es) (new : List Tagged) (is : new ≡ slice_set core v.before (link_word (hole_high (v.room + v.size)) v.next)) where
    gone_joined : without low address ss ≡ unzip es (Hole (n + v.size) ∷ behind t.above)
    gone_joined = gone ∙ ap (λ (ds : List Span). rejoin ds (Hole v.size ∷ behind t.above)) below_is

    before_joined : v.before ≡ spans_top low es
    before_joined = t.before ∙ ap (link_place low) below_is

    room_joined : v.room ≡ n
    room_joined = t.room ∙ ap link_room below_is

    at_joined : v.at ≡ spans_top low es + n
    at_joined = t.at_is ∙ ap (spans_top low) below_is

    below_joined : Below core low (Hole n ∷ es)
    below_joined = rw below_is at opened_here.0

    spans_joined : AreSpans (Hole n ∷ es)
    spans_joined = rw below_is at spans_here.0

    same_joined : (k : ℕ) → k ≢ v.before → slice_get new k ≡ slice_get core k
    same_joined k b = ap (λ (c : List Tagged). slice_get c k) is ∙ slice_get-set_other core v.before k (link_word (hole_high (v.room + v.size)) v.next) b

    len_joined : length new ≡ length core
    len_joined = ap length is ∙ length-set core v.before (link_word (hole_high (v.room + v.size)) v.next)

    hole_joined : slice_get new (spans_top low es) ≡ Some (link_word (hole_high (n + v.size)) v.next)
    hole_joined = rw (sym before_joined, sym room_joined) (ap (λ (c : List Tagged). slice_get c v.before) is ∙ slice_get-set_same core v.before (link_word (hole_high (v.room + v.size)) v.next) (omega (arith, facts.before, facts.fits)))

    y : v.at + v.size ≡ spans_top low es + (n + v.size)
    y = omega (arith, at_joined)

    place_joined : link_place low es < spans_top low es
    place_joined = (link_place_low low es d.above spans_joined.2).0

    laid_joined : Laid new (link_place low es) (link_high es) (spans_top low es) (Hole (n + v.size) ∷ behind t.above)
    laid_joined = (
      same_joined (link_place low es) (λ e. omega (arith, before_joined, place_joined)) ∙ below_joined.0,
      rw (sym y) (Laid-move core new rest_laid.0 rest_laid.1 (spans_top low es) (hole_high (n + v.size)) (v.at + v.size) (behind t.above) (λ k g. same_joined k (λ e. omega (arith, facts.before, facts.some))) (hole_joined ∙ ap (λ (k : ℕ). Some (link_word (hole_high (n + v.size)) k)) t.next) rest_laid.2),
    )

    pub freed_joined : IsDirectory new low (without low address ss)
    freed_joined = record {
      laid = rw gone_joined (closed new low es (Hole (n + v.size) ∷ behind t.above) (Below-same core new low es d.above spans_joined.2 (λ k g e. same_joined k (λ q. omega (arith, before_joined))) below_joined.1) laid_joined);
      zeros = λ k g h. same_joined k (λ e. ⊎_elim (λ q. omega arith) (λ q. omega (arith, d.above)) place_below) ∙ d.zeros k g h;
      all = ap (end low) gone_joined ∙ end-unzip low es (Hole (n + v.size) ∷ behind t.above) ∙ ap (λ (k : ℕ). end k (behind t.above)) (sym y) ∙ rest_end ∙ sym len_joined;
      spans = rw gone_joined (spans_closed es (Hole (n + v.size) ∷ behind t.above) spans_joined.2 (omega (arith, facts.some), rest_spans.0, rest_spans.1) (inl spans_joined.1));
      above = d.above;
      small = omega (arith, len_joined, d.small);
    }

    pub outside_joined : OnlyHoles core new low (without low address ss)
    outside_joined k m h = grind (arith, same_joined, gone_joined, InHole-above)
