-- What the walk down a stack tells.
use Rattle.std.proofs.Common.{◌≡◌, ◌≢◌, ℕ, zero, suc, ◌+◌, ◌-◌, ◌/◌, ◌%◌, ◌<◌, ◌≤◌, ◌^◌, ◌==◌, Bool, true, false, List, [], ◌∷◌, ◌++◌, length, Some, None, refl, sym, ◌∙◌, ap, subst, arith, lt-ltb}
use Rattle.std.specs.Prelude.{◌&&◌, nat_lt, nat_le}
use Rattle.std.specs.List.{slice_get}
use Rattle.std.proofs.lemmas.Bool.{eq-eqb, eqb-true, ltb-true, leb-true, le-leb}
use Rattle.b67_word.specs.Tagged.{Tagged}
use Rattle.b67_ctl.specs.declared.marks.Mscw.{Mscw}
use Rattle.b67_ctl.specs.declared.marks.Rcw.{Rcw}
use Rattle.b67_ctl.specs.Layout.{mscw_word, rcw_word}
use Rattle.b67_stack.specs.Common as stack
use Rattle.b67_stack.specs.Common.{Shape, Is, Locations, Fits, LieDownward, Head, HeadFits, HeadsFit, ReturnFits, Activation, size, head_size, top_size, stack_words, stack_level, mark_of, return_of, headed, words}
use Rattle.b67_stack.proofs.Heights.{words-length}
use Rattle.b67_layout_shown.specs.Reading.{word_seen_at, mscw_in, rcw_in, shape_in, cells_in, return_by, activation_by, below_by, stack_seen}
use Rattle.b67_layout_shown.proofs.Bits.{mscw_read}
use Rattle.b67_layout_shown.proofs.Stacks.{word_is}
use Rattle.b67_image_shape.specs.Fitting.{same}
use Rattle.b67_image_shape.specs.Held.{location_in}
use Rattle.b67_image_shape.specs.StackWalk.{cell_fits, cells_fit, mark_by, returns_here, head_by, record_fits, level_under, under_fits, walk_test, ReturnsTo, HaveReturns, Stands}
use Rattle.b67_image_shape.proofs.Fits.{same_is, is_same, fits_is, is_fits, there}

halves : (a b : Bool) → (a && b) ≡ true → (a ≡ true) × (b ≡ true)
halves a b e = grind arith

joined : (a b : Bool) → a ≡ true → b ≡ true → (a && b) ≡ true
joined a b e f = ap (λ x. x && b) e ∙ f

-- ---- cells

cells_long : (core : List Tagged) (at n : ℕ) → length (cells_in core at n) ≡ n
cells_long core at zero = refl
cells_long core at (suc n) = ap suc (cells_long core at n)

cells_under : (core : List Tagged) (at n : ℕ) (under : List Shape) → length (cells_in core at n ++ under) ≡ n + length under
cells_under core at zero under = omega arith
cells_under core at (suc n) under = let e = cells_under core at n under in omega (arith, e)

module _ (core : List Tagged) where
  abbrev held : Locations
  held = location_in core

  abbrev R : Shape → ℕ → Tagged → Type 0
  R = Fits (location_in core)

  -- a word that stands at an address
  abbrev Part : Shape → ℕ → Type 0
  Part a i = (w : Tagged) × (slice_get core i ≡ Some w) × R a i w

  cells_lie : (from at n : ℕ) (under : List Shape) → from + length under ≡ at → at + n ≤ length core → cells_fit core at n ≡ true → LieDownward R core from under → LieDownward R core from (cells_in core at n ++ under)
  cells_lie from at zero under e inside t l = l
  cells_lie from at (suc n) under e inside t l =
      let p = halves (cell_fits core (at + n)) (cells_fit core at n) t in
      let long = cells_under core at n under in
      let here : at + n ≡ from + length (cells_in core at n ++ under) = omega (arith, long, e) in (
        subst (Part (shape_in core (at + n) (word_seen_at core (at + n)))) here (word_seen_at core (at + n), there held core (at + n) (omega (arith, inside)), fits_is held (shape_in core (at + n) (word_seen_at core (at + n))) (at + n) (word_seen_at core (at + n)) p.0),
        cells_lie from at n under e (omega (arith, inside)) p.1 l,
      )

  lie_cells : (from at n : ℕ) (under : List Shape) → from + length under ≡ at → LieDownward R core from (cells_in core at n ++ under) → (cells_fit core at n ≡ true) × LieDownward R core from under
  lie_cells from at zero under e l = (refl, l)
  lie_cells from at (suc n) under e l = grind (arith, cells_under, is_fits, word_is, joined, lie_cells from at n under e l.1)

  plain_part : (i j : ℕ) (v : Tagged) → i ≡ j → i < length core → word_seen_at core i ≡ v → v.tag ≢ 5 → Part (Is v) j
  plain_part i j v e h is other = subst (Part (Is v)) e (word_seen_at core i, there held core i h, (is, other))

  part_plain : (i j : ℕ) (v : Tagged) → j ≡ i → Part (Is v) j → word_seen_at core i ≡ v
  part_plain i j v e p = let (w, is, fits) = subst (Part (Is v)) e p in word_is core i w is ∙ fits.0

  -- ---- heads

  return_fits : (value : Bool) (at d : ℕ) (rest : ℕ → List Activation) → ReturnFits (return_by value (rcw_in (word_seen_at core at)) d) (below_by d rest)
  return_fits value at d rest = grind arith

  head_fits : (f s : ℕ) (e : Bool) (rest : ℕ → List Activation) → HeadFits (activation_by core f s (mscw_in (word_seen_at core f)) e).head (below_by (mscw_in (word_seen_at core f)).back rest)
  head_fits f s e rest = grind arith

  below_heads : (d : ℕ) (rest : ℕ → List Activation) → ((n : ℕ) → HeadsFit (rest n)) → HeadsFit (below_by d rest)
  below_heads d rest h = grind arith

  -- the heads that are read fit
  pub heads_read : (n f s : ℕ) → HeadsFit (stack_seen core n f s)
  unfolding stack_seen
  heads_read zero f s = tt
  heads_read (suc n) f s = grind (arith, head_fits, below_heads, heads_read n)

  level_by : (q : Head) (below : List Activation) → HeadFits q below → stack_level below < 2 ^ 5 → stack.level_from q (stack_level below) < 2 ^ 5
  level_by q below f low = grind arith

  pub level_small : (acts : List Activation) → HeadsFit acts → stack_level acts < 2 ^ 5
  level_small [] h = omega arith
  level_small (a ∷ below) h = level_by a.head below h.0 (level_small below h.1)

  top_small : (acts : List Activation) → top_size acts ≤ stack_words acts
  top_small acts = grind arith

  -- ---- what stands below a mark

  module _ (base k segments : ℕ) where
    record Under (f back lv : ℕ) (below : List Activation) : Type 0 where
      pub words_are : suc base + stack_words below ≡ f
      pub back_is : top_size below ≡ back
      pub lie : LieDownward R core (suc base) (words k below)
      pub returns : HaveReturns segments below
      pub level : 0 < back → stack_level below ≡ lv
      pub none : back ≡ 0 → below ≡ []
      pub some : 0 < back → below ≢ []

    under_bottom : (f lv : ℕ) → f ≡ base + 1 → Under f 0 lv []
    under_bottom f lv e = grind arith

    under_more : (f d lv : ℕ) (below : List Activation) → base + suc d < f → Stands core base k segments lv (f - suc d) (f - 1) below → Under f (suc d) lv below
    under_more f d lv below h s = grind arith

    stands_under : (f d lv : ℕ) (below : List Activation) → Under f (suc d) lv below → (base + suc d < f) × Stands core base k segments lv (f - suc d) (f - 1) below
    stands_under f d lv below u = grind arith

    under_of : (f back lv : ℕ) (e : Bool) (fits : ℕ → Bool) (rest : ℕ → List Activation) → ((d : ℕ) → base < f → fits d ≡ true → Stands core base k segments lv (f - d) (f - 1) (rest d)) → base < f → under_fits base f back e fits ≡ true → Under f back lv (below_by back rest)
    under_of f back lv e fits rest go low t = grind (arith, under_bottom, eqb-true, halves, under_more, ltb-true)

    marked_some : (f back : ℕ) (fits : ℕ → Bool) → under_fits base f back false fits ≡ true → 0 < back
    marked_some f back fits t = grind arith

    under_walk : (f back lv : ℕ) (e : Bool) (fits : ℕ → Bool) (rest : ℕ → List Activation) → ((d : ℕ) → Stands core base k segments lv (f - d) (f - 1) (rest d) → fits d ≡ true) → (back ≡ 0 → e ≡ true) → Under f back lv (below_by back rest) → under_fits base f back e fits ≡ true
    under_walk f back lv e fits rest go entered u = grind arith

    -- ---- return words

    return_there : (f lv at d : ℕ) (value : Bool) (below : List Activation) → lv ≡ (rcw_in (word_seen_at core at)).level → Under f d lv below → returns_here core segments at (return_by value (rcw_in (word_seen_at core at)) d) ≡ true
        → (word_seen_at core at ≡ rcw_word (return_of (return_by value (rcw_in (word_seen_at core at)) d) below)) × ((level : ℕ) (place : stack.StackPlace) → ReturnsTo segments (stack.Entered level place (return_by value (rcw_in (word_seen_at core at)) d)) below)
    return_there f lv at zero value below e u t = (same_is (word_seen_at core at) (rcw_word (return_of None below)) t, λ level place. u.none refl)
    return_there f lv at (suc d) value below e u t =
        let r = rcw_in (word_seen_at core at) in
        let p = halves (same (word_seen_at core at) (rcw_word (record { place = r.place; level = r.level; segment = r.segment - 1 + 1 }))) (nat_lt 0 (r.segment - 1) && nat_le (r.segment - 1) segments) t in
        let q = halves (nat_lt 0 (r.segment - 1)) (nat_le (r.segment - 1) segments) p.1 in (
          same_is (word_seen_at core at) (rcw_word (record { place = r.place; level = r.level; segment = r.segment - 1 + 1 })) p.0
              ∙ ap (λ n. rcw_word (record { place = r.place; level = n; segment = r.segment - 1 + 1 })) (sym e ∙ sym (u.level (omega arith))),
          λ level place. (u.some (omega arith), ltb-true 0 (r.segment - 1) q.0, leb-true (r.segment - 1) segments q.1),
        )

    there_return : (at d level : ℕ) (place : stack.StackPlace) (value : Bool) (below : List Activation) → stack_level below < 2 ^ 5 → word_seen_at core at ≡ rcw_word (return_of (return_by value (rcw_in (word_seen_at core at)) d) below) → ReturnsTo segments (stack.Entered level place (return_by value (rcw_in (word_seen_at core at)) d)) below
        → (returns_here core segments at (return_by value (rcw_in (word_seen_at core at)) d) ≡ true) × (0 < d → stack_level below ≡ (rcw_in (word_seen_at core at)).level) × (d ≡ 0 → below ≡ []) × (0 < d → below ≢ [])
    there_return at d level place value below low e to = grind arith

    -- ---- one activation record

    bits_under : (f : ℕ) (m : Mscw) → mscw_in (word_seen_at core f) ≡ m → (back : ℕ) → back < 2 ^ 14 → (M : Mscw) → M.env_stack < 2 ^ 10 → M.env_disp < 2 ^ 16 → M.level < 2 ^ 5 → M.back ≡ back → word_seen_at core f ≡ mscw_word M → back ≡ m.back
    bits_under f m read back small M a b c e is = grind arith

    stands_entered : (f s level : ℕ) (m : Mscw) (below : List Activation) → base < f → s < length core → record_fits core k segments level f s m true ≡ true → Under f m.back (rcw_in (word_seen_at core (f + 1))).level below → Stands core base k segments level f s (activation_by core f s m true ∷ below)
    stands_entered f s level m below low inside t u =
        let r = return_by m.value (rcw_in (word_seen_at core (f + 1))) m.back in
        let head = head_by core f m in
        let mark = mscw_word (mark_by k head m.back) in
        let p = halves (nat_lt f s) ((m.level == level) && (same (word_seen_at core f) mark && (returns_here core segments (f + 1) r && cells_fit core (f + 2) (s - (f + 1))))) t in
        let q = halves (m.level == level) (same (word_seen_at core f) mark && (returns_here core segments (f + 1) r && cells_fit core (f + 2) (s - (f + 1)))) p.1 in
        let v = halves (same (word_seen_at core f) mark) (returns_here core segments (f + 1) r && cells_fit core (f + 2) (s - (f + 1))) q.1 in
        let z = halves (returns_here core segments (f + 1) r) (cells_fit core (f + 2) (s - (f + 1))) v.1 in
        let high = ltb-true f s p.0 in
        let words_are = u.words_are in
        let long = words-length k below in
        let many = cells_long core (f + 2) (s - (f + 1)) in
        let there = return_there f (rcw_in (word_seen_at core (f + 1))).level (f + 1) m.back m.value below refl u z.0 in
        let is = same_is (word_seen_at core f) (mscw_word (mark_by k (head_by core f m) m.back)) v.0 ∙ ap (λ n. mscw_word (mark_by k (head_by core f m) n)) (sym u.back_is) in
        record {
          some = λ e. absurd (let y : ⊥ = cc in y);
          top = top_at (stack_words below) (length (cells_in core (f + 2) (s - (f + 1)))) high words_are many;
          mark = omega (arith, words_are);
          level_is = eqb-true m.level level q.0;
          lie = cells_lie (suc base) (f + 2) (s - (f + 1)) (headed k (head_by core f m) below (words k below)) (omega (arith, words_are, long)) (omega (arith, high, inside)) z.1 (
            plain_part (f + 1) (suc base + suc (length (words k below))) (rcw_word (return_of (return_by m.value (rcw_in (word_seen_at core (f + 1))) m.back) below)) (omega (arith, words_are, long)) (omega (arith, high, inside)) there.0 (λ (y : 3 ≡ 5). absurd (omega (arith, y))),
            (plain_part f (suc base + length (words k below)) (mscw_word (mark_of k (head_by core f m) below)) (omega (arith, words_are, long)) (omega (arith, high, inside)) is (λ (y : 3 ≡ 5). absurd (omega (arith, y))), u.lie),
          );
          returns = (there.1 m.level (record { stack = m.env_stack; disp = m.env_disp }), u.returns);
        }
      where
        top_at : (b n : ℕ) → f < s → suc base + b ≡ f → n ≡ s - (f + 1) → base + (b + (2 + n)) ≡ s
        top_at b n high e is = omega (arith, high, e, is)

    stands_marked : (f s level : ℕ) (m : Mscw) (below : List Activation) → base < f → s < length core → record_fits core k segments level f s m false ≡ true → 0 < m.back → Under f m.back level below → Stands core base k segments level f s (activation_by core f s m false ∷ below)
    stands_marked f s level m below low inside t back u =
        let mark = mscw_word (mark_by k stack.Marked m.back) in
        let p = halves (nat_le f s) (same (word_seen_at core f) mark && cells_fit core (f + 1) (s - f)) t in
        let v = halves (same (word_seen_at core f) mark) (cells_fit core (f + 1) (s - f)) p.1 in
        let high = leb-true f s p.0 in
        let words_are = u.words_are in
        let long = words-length k below in
        let many = cells_long core (f + 1) (s - f) in
        let is = same_is (word_seen_at core f) (mscw_word (mark_by k stack.Marked m.back)) v.0 ∙ ap (λ n. mscw_word (mark_by k stack.Marked n)) (sym u.back_is) in
        record {
          some = λ e. absurd (let y : ⊥ = cc in y);
          top = top_at (stack_words below) (length (cells_in core (f + 1) (s - f))) high words_are many;
          mark = omega (arith, words_are);
          level_is = u.level back;
          lie = cells_lie (suc base) (f + 1) (s - f) (headed k stack.Marked below (words k below)) (omega (arith, words_are, long)) (omega (arith, high, inside)) v.1
              (plain_part f (suc base + length (words k below)) (mscw_word (mark_of k stack.Marked below)) (omega (arith, words_are, long)) (omega (arith, high, inside)) is (λ (y : 3 ≡ 5). absurd (omega (arith, y))), u.lie);
          returns = (u.some back, u.returns);
        }
      where
        top_at : (b n : ℕ) → f ≤ s → suc base + b ≡ f → n ≡ s - f → base + (b + (1 + n)) ≡ s
        top_at b n high e is = omega (arith, high, e, is)

    entered_stands : (f s level : ℕ) (m : Mscw) (below : List Activation) → mscw_in (word_seen_at core f) ≡ m → HeadFits (activation_by core f s m true).head below → HeadsFit below → s < base + 2 ^ 14 → Stands core base k segments level f s (activation_by core f s m true ∷ below)
        → (base < f) × (record_fits core k segments level f s m true ≡ true) × Under f m.back (rcw_in (word_seen_at core (f + 1))).level below
    entered_stands f s level m below read head heads room st =
        let mark = st.mark in
        let top = st.top in
        let many = cells_long core (f + 2) (s - (f + 1)) in
        let long = words-length k below in
        let words_are : suc base + stack_words below ≡ f = omega (arith, mark) in
        let high = high_at (stack_words below) (length (cells_in core (f + 2) (s - (f + 1)))) top words_are many in
        let (cells, rest) = lie_cells (suc base) (f + 2) (s - (f + 1)) (headed k (head_by core f m) below (words k below)) (omega (arith, words_are, long)) st.lie in
        let rw_is = part_plain (f + 1) (suc base + suc (length (words k below))) (rcw_word (return_of (return_by m.value (rcw_in (word_seen_at core (f + 1))) m.back) below)) (omega (arith, words_are, long)) rest.0 in
        let is = part_plain f (suc base + length (words k below)) (mscw_word (mark_of k (head_by core f m) below)) (omega (arith, words_are, long)) rest.1.0 in
        let small = top_small below in
        let back = bits_under f m read (top_size below) (omega (arith, small, words_are, high, room)) (mark_of k (head_by core f m) below) head.1 head.2 head.0 refl is in
        let (ret, lv, none, some) = there_return (f + 1) m.back m.level (record { stack = m.env_stack; disp = m.env_disp }) m.value below (level_small below heads) rw_is st.returns.0 in (
          omega (arith, words_are),
          joined (nat_lt f s) _ (lt-ltb f s high)
              (joined (m.level == level) _ (eq-eqb m.level level st.level_is)
              (joined (same (word_seen_at core f) (mscw_word (mark_by k (head_by core f m) m.back))) _ (is_same (word_seen_at core f) (mscw_word (mark_by k (head_by core f m) m.back)) (is ∙ ap (λ n. mscw_word (mark_by k (head_by core f m) n)) back))
              (joined (returns_here core segments (f + 1) (return_by m.value (rcw_in (word_seen_at core (f + 1))) m.back)) _ ret cells))),
          record { words_are = words_are; back_is = back; lie = rest.1.1; returns = st.returns.1; level = lv; none = none; some = some },
        )
      where
        high_at : (b n : ℕ) → base + (b + (2 + n)) ≡ s → suc base + b ≡ f → n ≡ s - (f + 1) → f < s
        high_at b n top e is = omega (arith, top, e, is)

    marked_stands : (f s level : ℕ) (m : Mscw) (below : List Activation) → mscw_in (word_seen_at core f) ≡ m → s < base + 2 ^ 14 → Stands core base k segments level f s (activation_by core f s m false ∷ below)
        → (base < f) × (record_fits core k segments level f s m false ≡ true) × Under f m.back level below × (below ≢ [])
    marked_stands f s level m below read room st =
        let mark = st.mark in
        let top = st.top in
        let many = cells_long core (f + 1) (s - f) in
        let long = words-length k below in
        let words_are : suc base + stack_words below ≡ f = omega (arith, mark) in
        let high = high_at (stack_words below) (length (cells_in core (f + 1) (s - f))) top words_are many in
        let (cells, rest) = lie_cells (suc base) (f + 1) (s - f) (headed k stack.Marked below (words k below)) (omega (arith, words_are, long)) st.lie in
        let is = part_plain f (suc base + length (words k below)) (mscw_word (mark_of k stack.Marked below)) (omega (arith, words_are, long)) rest.0 in
        let small = top_small below in
        let back = bits_under f m read (top_size below) (omega (arith, small, words_are, high, room)) (mark_of k stack.Marked below) (omega arith) (omega arith) (omega arith) refl is in
        let some = st.returns.0 in (
          omega (arith, words_are),
          joined (nat_le f s) _ (le-leb f s high)
              (joined (same (word_seen_at core f) (mscw_word (mark_by k stack.Marked m.back))) _ (is_same (word_seen_at core f) (mscw_word (mark_by k stack.Marked m.back)) (is ∙ ap (λ n. mscw_word (mark_by k stack.Marked n)) back)) cells),
          record { words_are = words_are; back_is = back; lie = rest.1; returns = st.returns.1; level = λ h. st.level_is; none = λ z. absurd (some (empty below (back ∙ z))); some = λ h. some },
          some,
        )
      where
        high_at : (b n : ℕ) → base + (b + (1 + n)) ≡ s → suc base + b ≡ f → n ≡ s - f → f ≤ s
        high_at b n top e is = omega (arith, top, e, is)

        size_some : (h : Head) (n : ℕ) → head_size h + n ≡ 0 → ⊥
        size_some stack.Marked n e = omega (arith, e)
        size_some (stack.Entered level environment back) n e = omega (arith, e)

        empty : (acts : List Activation) → top_size acts ≡ 0 → acts ≡ []
        empty [] e = refl
        empty (a ∷ more) e = absurd (size_some a.head (length a.cells) e)

    -- ---- the walk

    pub walk_stands : (n level f s : ℕ) → s < length core → walk_test core base k segments n level f s ≡ true → Stands core base k segments level f s (stack_seen core n f s)
    unfolding walk_test stack_seen
    walk_stands zero level f s inside t = absurd (let z : ⊥ = cc in z)
    walk_stands (suc n) level f s inside t =
        let m = mscw_in (word_seen_at core f) in
        let more = λ (d : ℕ). walk_test core base k segments n (level_under core level f m.entered) (f - d) (f - 1) in
        let p = halves (nat_lt base f) (record_fits core k segments level f s m m.entered && under_fits base f m.back m.entered more) t in
        let q = halves (record_fits core k segments level f s m m.entered) (under_fits base f m.back m.entered more) p.1 in
        go (mscw_in (word_seen_at core f)) (mscw_in (word_seen_at core f)).entered n inside (λ d lv i. walk_stands n lv (f - d) (f - 1) i) (ltb-true base f p.0) q.0 q.1
      where
        go : (m : Mscw) (e : Bool) (n : ℕ) → s < length core → ((d lv : ℕ) → f - 1 < length core → walk_test core base k segments n lv (f - d) (f - 1) ≡ true → Stands core base k segments lv (f - d) (f - 1) (stack_seen core n (f - d) (f - 1))) → base < f
            → record_fits core k segments level f s m e ≡ true → under_fits base f m.back e (λ d. walk_test core base k segments n (level_under core level f e) (f - d) (f - 1)) ≡ true
            → Stands core base k segments level f s (activation_by core f s m e ∷ below_by m.back (λ d. stack_seen core n (f - d) (f - 1)))
        go m true n inside rec low r u =
            let high = ltb-true f s (halves (nat_lt f s) _ r).0 in
            stands_entered f s level m (below_by m.back (λ d. stack_seen core n (f - d) (f - 1))) low inside r
            (under_of f m.back (rcw_in (word_seen_at core (f + 1))).level true (λ d. walk_test core base k segments n (rcw_in (word_seen_at core (f + 1))).level (f - d) (f - 1)) (λ d. stack_seen core n (f - d) (f - 1)) (λ d h. rec d (rcw_in (word_seen_at core (f + 1))).level (omega (arith, high, inside))) low u)
        go m false n inside rec low r u =
            let high = leb-true f s (halves (nat_le f s) _ r).0 in
            stands_marked f s level m (below_by m.back (λ d. stack_seen core n (f - d) (f - 1))) low inside r (marked_some f m.back (λ d. walk_test core base k segments n level (f - d) (f - 1)) u)
            (under_of f m.back level false (λ d. walk_test core base k segments n level (f - d) (f - 1)) (λ d. stack_seen core n (f - d) (f - 1)) (λ d h. rec d level (omega (arith, high, inside))) low u)

    pub stands_walk : (n level f s : ℕ) → s < base + 2 ^ 14 → Stands core base k segments level f s (stack_seen core n f s) → walk_test core base k segments n level f s ≡ true
    unfolding walk_test stack_seen
    stands_walk zero level f s room st = absurd (st.some refl)
    stands_walk (suc n) level f s room st =
        go (mscw_in (word_seen_at core f)) (mscw_in (word_seen_at core f)).entered n refl
        (head_fits f s (mscw_in (word_seen_at core f)).entered (λ d. stack_seen core n (f - d) (f - 1)))
        (below_heads (mscw_in (word_seen_at core f)).back (λ d. stack_seen core n (f - d) (f - 1)) (λ d. heads_read n (f - d) (f - 1)))
        (λ d lv r. stands_walk n lv (f - d) (f - 1) r) st
      where
        go : (m : Mscw) (e : Bool) (n : ℕ) → mscw_in (word_seen_at core f) ≡ m → HeadFits (activation_by core f s m e).head (below_by m.back (λ d. stack_seen core n (f - d) (f - 1))) → HeadsFit (below_by m.back (λ d. stack_seen core n (f - d) (f - 1)))
            → ((d lv : ℕ) → f - 1 < base + 2 ^ 14 → Stands core base k segments lv (f - d) (f - 1) (stack_seen core n (f - d) (f - 1)) → walk_test core base k segments n lv (f - d) (f - 1) ≡ true)
            → Stands core base k segments level f s (activation_by core f s m e ∷ below_by m.back (λ d. stack_seen core n (f - d) (f - 1)))
            → (nat_lt base f && (record_fits core k segments level f s m e && under_fits base f m.back e (λ d. walk_test core base k segments n (level_under core level f e) (f - d) (f - 1)))) ≡ true
        go m true n read head heads rec st =
            let (low, r, u) = entered_stands f s level m (below_by m.back (λ d. stack_seen core n (f - d) (f - 1))) read head heads room st in
            let high = ltb-true f s (halves (nat_lt f s) _ r).0 in
            joined (nat_lt base f) _ (lt-ltb base f low)
            (joined (record_fits core k segments level f s m true) _ r
            (under_walk f m.back (rcw_in (word_seen_at core (f + 1))).level true (λ d. walk_test core base k segments n (rcw_in (word_seen_at core (f + 1))).level (f - d) (f - 1)) (λ d. stack_seen core n (f - d) (f - 1)) (λ d. rec d (rcw_in (word_seen_at core (f + 1))).level (omega (arith, high, room))) (λ z. refl) u))
        go m false n read head heads rec st =
            let (low, r, u, some) = marked_stands f s level m (below_by m.back (λ d. stack_seen core n (f - d) (f - 1))) read room st in
            let high = leb-true f s (halves (nat_le f s) _ r).0 in
            joined (nat_lt base f) _ (lt-ltb base f low)
            (joined (record_fits core k segments level f s m false) _ r
            (under_walk f m.back level false (λ d. walk_test core base k segments n level (f - d) (f - 1)) (λ d. stack_seen core n (f - d) (f - 1)) (λ d. rec d level (omega (arith, high, room))) (λ z. absurd (some (u.none z))) u))
