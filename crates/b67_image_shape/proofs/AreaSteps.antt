-- Steps of the walk over areas and holes.
use Rattle.std.proofs.Common.{◌≡◌, ◌≢◌, ◌⊎◌, ℕ, ◌+◌, ◌^◌, ◌<◌, ◌≤◌, ◌==◌, Bool, true, false, List, [], ◌∷◌, length, get_or, slice_set, Option, Some, None, refl, sym, ◌∙◌, ap, subst, arith, inl, inr, ⊎_elim, get_or-set_same, get_or-set_other}
use Rattle.std.specs.Prelude.{IfSome, IfNone}
use Rattle.std.specs.List.{slice_get}
use Rattle.std.proofs.lemmas.Bool.{eq-eqb, ne_eqb, eqb-true, cases_eq, cases_lt, cond-true, cond-false, cases_Bool}
use Rattle.std.proofs.Math.ListN.{length-set}
use Rattle.std.proofs.lemmas.Option.{same_Some}
use Rattle.b67_word.specs.Tagged.{Tagged, word, bits_at}
use Rattle.b67_ctl.specs.declared.map.TheConstants.{DIRECTORY, FIRST_DICTIONARY}
use Rattle.b67_area.specs.declared.Info.{Info}
use Rattle.b67_area.specs.Words.{link_word, hole_high, kind_number, head_word}
use Rattle.b67_area.specs.Spans.{Span, Area, Hole, end, first_hole, area_at}
use Rattle.b67_area.specs.Directory.{AreSpans, IsDirectory}
use Rattle.b67_area.specs.Walk.{IsArea}
use Rattle.b67_area.proofs.Climbs.{area_at-low}
use Rattle.b67_layout_shown.specs.Reading.{word_seen_at}
use Rattle.b67_layout_shown.specs.Areas.{info_in}
use Rattle.b67_layout_shown.proofs.Stacks.{word_is}
use Rattle.b67_layout_shown.proofs.Spans.{link_there, end_above, first_low, hole_46, hole_20, info_read, directories_read}
use Rattle.b67_image_shape.specs.declared.areas.Walk.{Walk}
use Rattle.b67_image_shape.proofs.AreaReads.{owner_past}
use Rattle.b67_image_shape.specs.Held.{spans_of}
use Rattle.b67_image_shape.specs.ObjectMarks.{AreaFits, AreasFit}
use Rattle.b67_image_shape.specs.AreaWalk.{OwnersFit, Houses, LieAbove, walk_from, IsHoused, WalkedAreas, NothingLies, hole_words, HoleStands, past_hole, AreaStands, past_area, AreasWalked}

-- ---- owners of areas

owners_from : (core : List Tagged) (kinds : List ℕ) (at : ℕ) (ss : List Span) → ((x : ℕ) (a : Info) → area_at at ss x ≡ Some a → AreaFits core kinds x a) → OwnersFit core kinds at ss
owners_from core kinds at [] f = tt
owners_from core kinds at (Area a ∷ ss) f = (
  f (at + 1) a (cond-true (at + 1 == at + 1) _ _ (eq-eqb (at + 1) (at + 1) refl)),
  owners_from core kinds (at + (a.words + 2)) ss (λ x b e. let low = area_at-low (at + (a.words + 2)) ss x b e in f x b (cond-false (at + 1 == x) _ _ (ne_eqb (at + 1) x (λ z. omega (arith, low, z))) ∙ e)),
)
owners_from core kinds at (Hole n ∷ ss) f = owners_from core kinds (at + n) ss f

owners_at : (core : List Tagged) (kinds : List ℕ) (at : ℕ) (ss : List Span) → OwnersFit core kinds at ss → (x : ℕ) (a : Info) → area_at at ss x ≡ Some a → AreaFits core kinds x a
owners_at core kinds at [] o x a e = absurd (let z : ⊥ = cc in z)
owners_at core kinds at (Area b ∷ ss) o x a e = ⊎_elim
    (λ t. let is : b ≡ a = same_Some b a (sym (cond-true (at + 1 == x) _ _ t) ∙ e) in subst (λ (i : Info). AreaFits core kinds x i) is (subst (λ y. AreaFits core kinds y b) (eqb-true (at + 1) x t) o.0))
    (λ t. owners_at core kinds (at + (b.words + 2)) ss o.1 x a (sym (cond-false (at + 1 == x) _ _ t) ∙ e))
    (cases_Bool (at + 1 == x))
owners_at core kinds at (Hole n ∷ ss) o x a e = owners_at core kinds (at + n) ss o x a e

-- ---- what lies above

no_words : (core : List Tagged) (kinds : List ℕ) (w : Walk) → w.at < length core → LieAbove core kinds w [] → ⊥
no_words core kinds w h l = let e = l.all in omega (arith, h, e)

-- a hole that lies above is the one that the words show
module _ (core : List Tagged) (kinds : List ℕ) (w : Walk) (small : length core < 2 ^ 20) where
  hole_read : (n : ℕ) (ss : List Span) → LieAbove core kinds w (Hole n ∷ ss) → (bits_at (word_seen_at core w.at) 46 2 ≡ 3) × (hole_words core w ≡ n)
  hole_read n ss l = grind (arith, end_above, first_low, word_is, link_there, hole_46, hole_20)

  area_lies : (a : Info) (ss : List Span) → LieAbove core kinds w (Area a ∷ ss) → IsArea core w.at a
  area_lies a ss l = grind (arith, end_above)

  area_kind : (a : Info) (ss : List Span) → LieAbove core kinds w (Area a ∷ ss) → bits_at (word_seen_at core w.at) 46 2 ≢ 3
  area_kind a ss l e = grind arith

  area_read : (a : Info) (ss : List Span) → LieAbove core kinds w (Area a ∷ ss) → info_in core w.at ≡ a
  area_read a ss l = let i = area_lies a ss l in info_read core w.at a i.head i.tail i.words i.info.owner i.info.kept

  -- where the bits are a hole's, one lies there
  pub is_hole : w.at < length core → bits_at (word_seen_at core w.at) 46 2 ≡ 3 → (ss : List Span) → LieAbove core kinds w ss → HoleStands core w × ((more : List Span) × LieAbove core kinds (past_hole core w) more)
  is_hole h b [] l = absurd (no_words core kinds w h l)
  is_hole h b (Area a ∷ ss) l = absurd (area_kind a ss l b)
  is_hole h b (Hole n ∷ ss) l = grind (arith, hole_read, end_above)

  -- elsewhere an area does
  pub is_area : w.at < length core → bits_at (word_seen_at core w.at) 46 2 ≢ 3 → (ss : List Span) → LieAbove core kinds w ss → AreaStands core kinds w.at × ((more : List Span) × LieAbove core kinds (past_area core w) more)
  is_area h b [] l = absurd (no_words core kinds w h l)
  is_area h b (Hole n ∷ ss) l = absurd (b (hole_read n ss l).0)
  is_area h b (Area a ∷ ss) l = grind (arith, area_read, area_lies)

  -- and the other way
  pub with_hole : HoleStands core w → (ss : List Span) → LieAbove core kinds (past_hole core w) ss → LieAbove core kinds w (Hole (hole_words core w) ∷ ss)
  with_hole s ss l = grind arith

  pub with_area : AreaStands core kinds w.at → (ss : List Span) → LieAbove core kinds (past_area core w) ss → LieAbove core kinds w (Area (info_in core w.at) ∷ ss)
  with_area s ss l = grind arith

-- ---- the walk

pub walk_starts : (core : List Tagged) (kinds : List ℕ) (low : ℕ) (housed : List Bool) → FIRST_DICTIONARY ≤ low → low ≤ length core → length housed ≡ length core → ((i : ℕ) → get_or housed i false ≡ false) → WalkedAreas core kinds low (walk_from low) housed
walk_starts core kinds low housed above inside many none = grind arith

module _ (core : List Tagged) (kinds : List ℕ) (low : ℕ) (w : Walk) (housed : List Bool) (small : length core < 2 ^ 20) (k : WalkedAreas core kinds low w housed) (inside : w.at < length core) where
  pub walk_hole : bits_at (word_seen_at core w.at) 46 2 ≡ 3 → HoleStands core w → WalkedAreas core kinds low (past_hole core w) housed
  walk_hole b s =
      let fits = s.fits in
      record {
        before = inside;
        high = (let n : hole_words core w ≤ 2 ^ 20 = omega (arith, fits, small) in omega (arith, n));
        inside = s.fits;
        many = k.many;
        on = λ ss l. k.on (Hole (hole_words core w) ∷ ss) (with_hole core kinds w small s ss l);
        back = λ all l. let (ss, m) = k.back all l in (is_hole core kinds w small inside b ss m).1;
      }

  pub no_walk_hole : bits_at (word_seen_at core w.at) 46 2 ≡ 3 → (HoleStands core w → ⊥) → NothingLies core kinds (walk_from low)
  no_walk_hole b never all l = let (ss, m) = k.back all l in never (is_hole core kinds w small inside b ss m).0

  pub walk_area : bits_at (word_seen_at core w.at) 46 2 ≢ 3 → AreaStands core kinds w.at → (info_in core w.at).owner < length core → WalkedAreas core kinds low (past_area core w) (slice_set housed (info_in core w.at).owner true)
  walk_area b s o =
      let a = info_in core w.at in
      let room = s.area.inside in
      record {
        before = k.before;
        high = k.high;
        inside = omega (arith, room);
        many = length-set housed a.owner true ∙ k.many;
        on = λ ss l.
            let (all, above, first, then) = k.on (Area a ∷ ss) (with_area core kinds w small s ss l) in
            (all, above, (λ i h. marked ss i (first i h)), λ i h. then i (unmarked ss i h));
        back = λ all l. let (ss, m) = k.back all l in (is_area core kinds w small inside b ss m).1;
      }
    where
      own : (i : ℕ) → (info_in core w.at).owner ≡ i → get_or (slice_set housed (info_in core w.at).owner true) i false ≡ true
      own i e = subst (λ j. get_or (slice_set housed (info_in core w.at).owner true) j false ≡ true) e (let h : (info_in core w.at).owner < length housed = omega (arith, o, k.many) in rw get_or-set_same refl)

      marked : (ss : List Span) (i : ℕ) → (get_or housed i false ≡ true) ⊎ (((info_in core w.at).owner ≡ i) ⊎ Houses ss i) → (get_or (slice_set housed (info_in core w.at).owner true) i false ≡ true) ⊎ Houses ss i
      marked ss i (inr (inr h)) = inr h
      marked ss i (inr (inl e)) = inl (own i e)
      marked ss i (inl h) = ⊎_elim
          (λ e. inl (own i (sym e)))
          (λ (ne : i ≢ (info_in core w.at).owner). inl (rw get_or-set_other h))
          (cases_eq i (info_in core w.at).owner)

      unmarked : (ss : List Span) (i : ℕ) → (get_or (slice_set housed (info_in core w.at).owner true) i false ≡ true) ⊎ Houses ss i → (get_or housed i false ≡ true) ⊎ (((info_in core w.at).owner ≡ i) ⊎ Houses ss i)
      unmarked ss i (inr h) = inr (inr h)
      unmarked ss i (inl h) = ⊎_elim
          (λ e. inr (inl (sym e)))
          (λ (ne : i ≢ (info_in core w.at).owner). inl (let same : get_or (slice_set housed (info_in core w.at).owner true) i false ≡ get_or housed i false = rw get_or-set_other refl in sym same ∙ h))
          (cases_eq i (info_in core w.at).owner)

  pub no_walk_area : bits_at (word_seen_at core w.at) 46 2 ≢ 3 → (AreaStands core kinds w.at → ⊥) → NothingLies core kinds (walk_from low)
  no_walk_area b never all l = let (ss, m) = k.back all l in never (is_area core kinds w small inside b ss m).0

-- ---- its end

few_spans : (at : ℕ) (ss : List Span) → AreSpans ss → at + length ss ≤ end at ss
few_spans at [] s = omega arith
few_spans at (Area a ∷ ss) s = let h = few_spans (at + (a.words + 2)) ss s.1 in omega (arith, h)
few_spans at (Hole n ∷ ss) s = let h = few_spans (at + n) ss s.2 in let some = s.0 in omega (arith, h, some)

nothing_left : (core : List Tagged) (kinds : List ℕ) (w : Walk) (ss : List Span) → LieAbove core kinds w ss → w.at ≡ length core → slice_get core w.before ≡ Some (link_word w.high 0)
nothing_left core kinds w ss l e = grind (arith, few_spans)

pub walk_ends : (core : List Tagged) (kinds : List ℕ) (low : ℕ) (w : Walk) (housed : List Bool) → length core < 2 ^ 20 → FIRST_DICTIONARY ≤ low → ((i : ℕ) → DIRECTORY < i → i < FIRST_DICTIONARY → slice_get core i ≡ Some (word 0 0))
    → WalkedAreas core kinds low w housed → w.at ≡ length core → slice_get core w.before ≡ Some (link_word w.high 0) → AreasWalked core low kinds housed
walk_ends core kinds low w housed small above zeros k e link =
    let (all, l, first, then) = k.on [] (record { laid = link; spans = tt; apart = λ y. tt; all = e; owners = tt }) in
    let d : IsDirectory core low all = record { laid = l.laid; zeros = zeros; all = l.all; spans = l.spans; above = above; small = small } in
    let few = few_spans low all l.spans in
    let ends = l.all in
    let same : spans_of core low ≡ all = directories_read core low all d (length core) (omega (arith, few, ends)) in
    subst (λ (ss : List Span). (f : AreasFit core low kinds) → ((i : ℕ) → Houses ss i → IsHoused housed i) → ((i : ℕ) → IsHoused housed i → Houses ss i) → AreasWalked core low kinds housed) same
    (λ f m o. record { fit = f; many = k.many; marked = m; only = o })
    (record { directory = subst (IsDirectory core low) (sym same) d; areas = λ x a q. owners_at core kinds low all l.owners x a (sym (ap (λ (ss : List Span). area_at low ss x) same) ∙ q) })
    (λ i h. ⊎_elim (λ q. q) (λ q. absurd q) (first i h))
    (λ i h. then i (inl h))

pub no_end : (core : List Tagged) (kinds : List ℕ) (low : ℕ) (w : Walk) (housed : List Bool) → WalkedAreas core kinds low w housed → w.at ≡ length core → (slice_get core w.before ≡ Some (link_word w.high 0) → ⊥) → NothingLies core kinds (walk_from low)
no_end core kinds low w housed k e never all l = let (ss, m) = k.back all l in never (nothing_left core kinds w ss m e)

-- where nothing lies above, no directory fits
pub none_fits : (core : List Tagged) (kinds : List ℕ) (low : ℕ) → NothingLies core kinds (walk_from low) → AreasFit core low kinds → ⊥
none_fits core kinds low none f = grind (arith, owners_from)

-- ---- one span, for any walk

pub owner_inside : (core : List Tagged) (kinds : List ℕ) (at : ℕ) (a : Info) → length kinds ≡ length core → AreaFits core kinds at a → a.owner < length core
owner_inside core kinds at a many f = ⊎_elim (λ lt. lt) (λ past. absurd (owner_past core kinds at a many past f)) (cases_lt a.owner (length core))

abbrev pub JobGoesOn : List Tagged → List ℕ → Walk → Walk → List Bool → List Bool → Type 0
JobGoesOn core kinds w n old new = (low : ℕ) → WalkedAreas core kinds low w old → WalkedAreas core kinds low n new

abbrev pub Fails : List Tagged → List ℕ → Walk → List Bool → Type 0
Fails core kinds w housed = (low : ℕ) → WalkedAreas core kinds low w housed → NothingLies core kinds (walk_from low)

pub hole_goes_on : (core : List Tagged) (kinds : List ℕ) (w n : Walk) (housed : List Bool) → length core < 2 ^ 20 → w.at < length core → bits_at (word_seen_at core w.at) 46 2 ≡ 3 → HoleStands core w × (n ≡ past_hole core w) → JobGoesOn core kinds w n housed housed
hole_goes_on core kinds w n housed small inside b (s, e) low k = subst (λ (v : Walk). WalkedAreas core kinds low v housed) (sym e) (walk_hole core kinds low w housed small k inside b s)

pub hole_fails : (core : List Tagged) (kinds : List ℕ) (w : Walk) (housed : List Bool) → length core < 2 ^ 20 → w.at < length core → bits_at (word_seen_at core w.at) 46 2 ≡ 3 → (HoleStands core w → ⊥) → Fails core kinds w housed
hole_fails core kinds w housed small inside b never low k = no_walk_hole core kinds low w housed small k inside b never

pub area_goes_on : (core : List Tagged) (kinds : List ℕ) (w : Walk) (a : Info) (housed : List Bool) → length core < 2 ^ 20 → length kinds ≡ length core → w.at < length core → bits_at (word_seen_at core w.at) 46 2 ≢ 3 → IsArea core w.at (info_in core w.at) × (a ≡ info_in core w.at) → AreaFits core kinds (w.at + 1) a
    → JobGoesOn core kinds w (record { before = w.before; high = w.high; at = w.at + (a.words + 2); hole = false }) housed (slice_set housed a.owner true)
area_goes_on core kinds w a housed small many inside b (area, e) fits low k =
    let f : AreaFits core kinds (w.at + 1) (info_in core w.at) = subst (λ (i : Info). AreaFits core kinds (w.at + 1) i) e fits in
    subst (λ (i : Info). WalkedAreas core kinds low (record { before = w.before; high = w.high; at = w.at + (i.words + 2); hole = false }) (slice_set housed i.owner true)) (sym e)
    (walk_area core kinds low w housed small k inside b (record { area = area; fits = f }) (owner_inside core kinds (w.at + 1) (info_in core w.at) many f))

pub area_fails : (core : List Tagged) (kinds : List ℕ) (w : Walk) (housed : List Bool) → length core < 2 ^ 20 → w.at < length core → bits_at (word_seen_at core w.at) 46 2 ≢ 3 → (IsArea core w.at (info_in core w.at) → ⊥) → Fails core kinds w housed
area_fails core kinds w housed small inside b never low k = no_walk_area core kinds low w housed small k inside b (λ s. never s.area)

pub owner_fails : (core : List Tagged) (kinds : List ℕ) (w : Walk) (a : Info) (housed : List Bool) → length core < 2 ^ 20 → w.at < length core → bits_at (word_seen_at core w.at) 46 2 ≢ 3 → a ≡ info_in core w.at → (AreaFits core kinds (w.at + 1) a → ⊥) → Fails core kinds w housed
owner_fails core kinds w a housed small inside b e never low k = no_walk_area core kinds low w housed small k inside b (λ s. never (subst (λ (i : Info). AreaFits core kinds (w.at + 1) i) (sym e) s.fits))

-- ---- the words before the first dictionary

pub zeros_next : (core : List Tagged) (i : ℕ) → ((j : ℕ) → DIRECTORY < j → j < i → slice_get core j ≡ Some (word 0 0)) → slice_get core i ≡ Some (word 0 0) → (j : ℕ) → DIRECTORY < j → j < i + 1 → slice_get core j ≡ Some (word 0 0)
zeros_next core i before here j low high = ⊎_elim (λ e. ap (slice_get core) e ∙ here) (λ ne. before j low (omega (arith, high, ne))) (cases_eq j i)

-- by what was found

pub some_hole : (core : List Tagged) (kinds : List ℕ) (w : Walk) (housed : List Bool) (r : Option Walk) → length core < 2 ^ 20 → w.at < length core → bits_at (word_seen_at core w.at) 46 2 ≡ 3
    → IfSome r (λ n. HoleStands core w × (n ≡ past_hole core w)) → IfSome r (λ n. JobGoesOn core kinds w n housed housed)
some_hole core kinds w housed None small inside b h = tt
some_hole core kinds w housed (Some n) small inside b h = hole_goes_on core kinds w n housed small inside b h

pub higher_hole : (core : List Tagged) (w : Walk) (r : Option Walk) → IfSome r (λ n. HoleStands core w × (n ≡ past_hole core w)) → IfSome r (λ n. w.at < n.at)
higher_hole core w r h = grind arith

pub none_hole : (core : List Tagged) (kinds : List ℕ) (w : Walk) (housed : List Bool) (r : Option Walk) → length core < 2 ^ 20 → w.at < length core → bits_at (word_seen_at core w.at) 46 2 ≡ 3
    → IfNone r (HoleStands core w → ⊥) → IfNone r (Fails core kinds w housed)
none_hole core kinds w housed r small inside b h = grind (arith, hole_fails)
