-- Words, frames and returns keep their order under other names.
use Rattle.std.proofs.Common.{◌≡◌, ◌≢◌, ℕ, ◌+◌, ◌==◌, List, [], ◌∷◌, ◌++◌, map, length, refl, sym, ◌∙◌, ap, subst, arith}
use Rattle.std.specs.List.{AllByRecursion}
use Rattle.std.proofs.lemmas.List.{map-append}
use Rattle.b67_word.specs.declared.couples.Place.{Place}
use Rattle.b67_lemmas.specs.Lists.{Has, how_many}
use Rattle.b67_lemmas.proofs.Members.{has_map}
use Rattle.b67_model.specs.Words as Words
use Rattle.b67_model.specs.Common.{Word, Operand, Name, Ref, Row, Element, Original, Proc, Intrinsic, Standing, Marked, Entered, Frame, JobConstants, Array, Known, known_of, IsSegment, NamesArray, OwnsArray, WordInOrder, StandsInOrder, is_original_of, originals_in, is_copy_of, NoCopyUnder, CopiesAbove, CellsInOrder, FramesInOrder, ReturnsInOrder, StackInOrder}
use Rattle.b67_layout_shown.specs.Places.{word_by, standing_by, frame_by}
use Rattle.b67_layout_shown.proofs.Reach.{known_by, known_frames, entered_by, level_by, names_entered}

-- an array under its other name, with its owner's
pub record Kept (rename relabel : ℕ → ℕ) (arrays' : List Array) (a : Array) : Type 0 where
  pub item : Array
  pub live : Has arrays' item
  pub named : item.identity ≡ relabel a.identity
  pub owned : item.owner ≡ rename a.owner

module _ (constants constants' : JobConstants) (arrays arrays' : List Array) (rename relabel : ℕ → ℕ)
    (segments : length constants'.segments ≡ length constants.segments)
    (kept : (a : Array) → Has arrays a → Kept rename relabel arrays' a)
    (apart : (a b : Array) → Has arrays a → Has arrays b → relabel a.identity ≡ relabel b.identity → a.identity ≡ b.identity) where
  pub segment_by : (segment level level' : ℕ) (place : Place) → IsSegment constants segment level place → IsSegment constants' segment level' place
  segment_by segment level level' place h = let w = h.within in record { from_one = h.from_one; within = omega (arith, w, segments); word_fits = h.word_fits; syllable_fits = h.syllable_fits }

  names_array : (reach : List Known) (a : ℕ) → NamesArray arrays reach a → NamesArray arrays' (map (known_by rename) reach) (relabel a)
  names_array reach a h = grind (arith, names_entered)

  pub owns_array : (owner a : ℕ) → OwnsArray arrays owner a → OwnsArray arrays' (rename owner) (relabel a)
  owns_array owner a h = let k = kept h.item h.live in record { item = k.item; live = k.live; named = k.named ∙ ap relabel h.named; owned = k.owned ∙ ap rename h.owned }

  word_order : (reach : List Known) (owner : ℕ) (w : Word) → WordInOrder (IsSegment constants) arrays reach owner w → WordInOrder (IsSegment constants') arrays' (map (known_by rename) reach) (rename owner) (word_by rename relabel w)
  word_order reach owner w h = grind (arith, names_entered)

  words_order : (reach : List Known) (owner : ℕ) (ws : List Word) → AllByRecursion (WordInOrder (IsSegment constants) arrays reach owner) ws
      → AllByRecursion (WordInOrder (IsSegment constants') arrays' (map (known_by rename) reach) (rename owner)) (map (word_by rename relabel) ws)
  words_order reach owner [] h = tt
  words_order reach owner (w ∷ ws) h = (word_order reach owner w h.0, words_order reach owner ws h.1)

  -- ---- copies stay copies of the same

  pub same_name : (a b : Array) → Has arrays a → Has arrays b → (relabel b.identity == relabel a.identity) ≡ (b.identity == a.identity)
  same_name a b ha hb = grind arith

  copies_same : (reach : List Known) (owner : ℕ) (a : Array) → Has arrays a → (ws : List Word) → AllByRecursion (WordInOrder (IsSegment constants) arrays reach owner) ws
      → how_many (is_copy_of (relabel a.identity)) (map (word_by rename relabel) ws) ≡ how_many (is_copy_of a.identity) ws
  copies_same reach owner a ha [] h = refl
  copies_same reach owner a ha (w ∷ ws) h = grind (arith, copies_same reach owner a ha ws h.1)

  under_order : (reach : List Known) (owner : ℕ) (w : Word) (below : List Word) → WordInOrder (IsSegment constants) arrays reach owner w → AllByRecursion (WordInOrder (IsSegment constants) arrays reach owner) below
      → NoCopyUnder w below → NoCopyUnder (word_by rename relabel w) (map (word_by rename relabel) below)
  under_order reach owner (Operand bits) below h all n = tt
  under_order reach owner (Name couple) below h all n = tt
  under_order reach owner (Ref identity offset) below h all n = tt
  under_order reach owner (Row b) below h all n = tt
  under_order reach owner (Element b index) below h all n = tt
  under_order reach owner (Original b) below h all n =
      let same = copies_same reach owner h.item h.live below all in
      subst (λ i. how_many (is_copy_of (relabel i)) (map (word_by rename relabel) below) ≡ 0) h.named (same ∙ subst (λ i. how_many (is_copy_of i) below ≡ 0) (sym h.named) n)
  under_order reach owner (Proc segment level place) below h all n = tt
  under_order reach owner (Intrinsic number) below h all n = tt
  under_order reach owner (Words.Segment number) below h all n = tt

  above_order : (reach : List Known) (owner : ℕ) (ws : List Word) → AllByRecursion (WordInOrder (IsSegment constants) arrays reach owner) ws → CopiesAbove ws → CopiesAbove (map (word_by rename relabel) ws)
  above_order reach owner [] all c = tt
  above_order reach owner (w ∷ ws) all c = (under_order reach owner w ws all.0 all.1 c.0, above_order reach owner ws all.1 c.1)

  -- ---- frames

  stands_order : (under : List Known) (s : Standing) → StandsInOrder under s → StandsInOrder (map (known_by rename) under) (standing_by rename s)
  stands_order under Marked h = tt
  stands_order under (Entered level environment back) h =
      record {
        low = h.low;
        high = h.high;
        standing = standing_by rename h.standing;
        among = has_map (known_by rename) under (environment, h.standing) h.among;
        entered = entered_by rename relabel h.standing h.entered;
        level_below = ap (λ n. n + 1) (level_by rename relabel h.standing) ∙ h.level_below;
      }

  reach_part : (fs : List Frame) (outer : List Known) → map (known_by rename) (map known_of fs ++ outer) ≡ map known_of (map (frame_by rename relabel) fs) ++ map (known_by rename) outer
  reach_part fs outer = map-append (known_by rename) (map known_of fs) outer ∙ ap (λ ks. ks ++ map (known_by rename) outer) (sym (known_frames rename relabel fs))

  pub frames_order : (outer : List Known) (fs : List Frame) → FramesInOrder (IsSegment constants) arrays outer fs → FramesInOrder (IsSegment constants') arrays' (map (known_by rename) outer) (map (frame_by rename relabel) fs)
  frames_order outer [] h = tt
  frames_order outer (f ∷ below) h =
      let reach = map known_of (f ∷ below) ++ outer in (
        subst (λ ks. CellsInOrder (IsSegment constants') arrays' ks (rename f.identity) (map (word_by rename relabel) f.cells)) (reach_part (f ∷ below) outer)
            (words_order reach f.identity f.cells h.0.0, above_order reach f.identity f.cells h.0.0 h.0.1),
        subst (λ ks. StandsInOrder ks (standing_by rename f.standing)) (reach_part below outer) (stands_order (map known_of below ++ outer) f.standing h.1),
        frames_order outer below h.2,
      )

  some_by : (fs : List Frame) → fs ≢ [] → map (frame_by rename relabel) fs ≢ []
  some_by [] h e = h refl
  some_by (f ∷ below) h e = cc

  returns_by : (s : Standing) (below : List Frame) → (level : ℕ) → ReturnsInOrder (IsSegment constants) s below → ReturnsInOrder (IsSegment constants') (standing_by rename s) (map (frame_by rename relabel) below)
  returns_by s below level h = grind (arith, some_by)

  pub stack_order : (fs : List Frame) → StackInOrder (IsSegment constants) fs → StackInOrder (IsSegment constants') (map (frame_by rename relabel) fs)
  stack_order [] h = tt
  stack_order (f ∷ below) h = (returns_by f.standing below 0 h.0, stack_order below h.1)

  -- ---- originals stay originals of the same

  original_same : (reach : List Known) (owner : ℕ) (a : Array) → Has arrays a → (w : Word) → WordInOrder (IsSegment constants) arrays reach owner w → is_original_of (relabel a.identity) (word_by rename relabel w) ≡ is_original_of a.identity w
  original_same reach owner a ha w h = grind arith

  originals_words : (reach : List Known) (owner : ℕ) (a : Array) → Has arrays a → (ws : List Word) → AllByRecursion (WordInOrder (IsSegment constants) arrays reach owner) ws
      → how_many (is_original_of (relabel a.identity)) (map (word_by rename relabel) ws) ≡ how_many (is_original_of a.identity) ws
  originals_words reach owner a ha [] h = refl
  originals_words reach owner a ha (w ∷ ws) h = grind (arith, originals_words reach owner a ha ws h.1)

  pub originals_frames : (outer : List Known) (a : Array) → Has arrays a → (fs : List Frame) → FramesInOrder (IsSegment constants) arrays outer fs → originals_in (relabel a.identity) (map (frame_by rename relabel) fs) ≡ originals_in a.identity fs
  originals_frames outer a ha [] h = refl
  originals_frames outer a ha (f ∷ below) h =
      ap (λ (n : ℕ). n + originals_in (relabel a.identity) (map (frame_by rename relabel) below)) (originals_words (map known_of (f ∷ below) ++ outer) f.identity a ha f.cells h.0.0)
      ∙ ap (λ (n : ℕ). how_many (is_original_of a.identity) f.cells + n) (originals_frames outer a ha below h.2)
