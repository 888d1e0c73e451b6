-- The marks that are walked down are those of the records of a stack.
use Rattle.std.proofs.Common.{◌≡◌, ◌≢◌, ℕ, zero, suc, ◌+◌, ◌-◌, ◌^◌, ◌<◌, ◌≤◌, ◌==◌, Bool, true, false, List, [], ◌∷◌, map, length, Some, refl, sym, ◌∙◌, ap, subst, arith, inl, inr}
use Rattle.std.specs.Prelude.{◌⊎◌, nat_le, if◌then◌else◌}
use Rattle.std.proofs.lemmas.Bool.{ne_eqb, eq-eqb, le-leb, lt-leb}
use Rattle.std.proofs.lemmas.Bool.Decides.{eqb_tells}
use Rattle.b67_word.specs.Tagged.{Tagged}
use Rattle.b67_ctl.specs.declared.marks.Mscw.{Mscw}
use Rattle.b67_lemmas.specs.Lists.{Has, Falls}
use Rattle.b67_lemmas.proofs.Members.{falls_low}
use Rattle.b67_model.specs.Common.{Word, Original, Standing, Frame, top, Job, head_words, height, from_frame, identities}
use Rattle.b67_model.specs.State as State
use Rattle.b67_stack.specs.Common.{Locations, Fits, LieDownward, StackPlace, Head, Marked, Entered, Activation, head_size, top_size, stack_words, mark_place, mark_of, headed, words, HeadsFit}
use Rattle.b67_stack.proofs.Lies.{Lie-under}
use Rattle.b67_stack.proofs.Heights.{words-length, headed-length}
use Rattle.b67_layout.specs.Common.{Placement, spot_in, shape, head, activations}
use Rattle.b67_layout.proofs.Frames.{height-is}
use Rattle.b67_layout_shown.specs.Reading.{word_seen_at, is_set, mscw_in}
use Rattle.b67_layout_shown.specs.Laws.{HaveCallers}
use Rattle.b67_layout_shown.specs.Places.{cell_of_original}
use Rattle.b67_layout_shown.proofs.Stacks.{FindsHomes, one_read, level_small, place_below, top_within, top_some}
use Rattle.b67_layout_shown.proofs.Arrays.{cell_home, cell_there}
use Rattle.b67_dump.specs.Dump.{offset_of_original}
use Rattle.b67_dump.specs.Walk.{marks_by, marks_in, marks_under, offset_from}

-- the addresses of the marks of a stack over the word under it
abbrev pub places : ℕ → List Activation → List ℕ
places base [] = []
places base (a ∷ below) = (base + (stack_words below + 1)) ∷ places base below

places_long : (base : ℕ) (stack : List Activation) → length (places base stack) ≡ length stack
places_long base [] = refl
places_long base (a ∷ below) = ap suc (places_long base below)

marks_some : (n : ℕ) (g : ℕ → List ℕ) → 0 < n → marks_by n g ≡ g n
marks_some n g h = grind arith

module _ (core : List Tagged) (held : Locations) (finds : FindsHomes core held) where
  -- a stack that stands in core
  pub record StackStands (k base : ℕ) (stack : List Activation) : Type 0 where
    pub heads : HeadsFit stack
    pub callers : HaveCallers stack
    pub small : stack_words stack < 2 ^ 14
    pub lies : LieDownward (Fits held) core (suc base) (words k stack)

  pub stands_under : (k base : ℕ) (a : Activation) (below : List Activation) → StackStands k base (a ∷ below) → StackStands k base below
  stands_under k base a below s = grind (arith, Lie-under)

  pub mark_at : (k base : ℕ) (a : Activation) (below : List Activation) → StackStands k base (a ∷ below) → (f : ℕ) → f ≡ base + (stack_words below + 1) → mscw_in (word_seen_at core f) ≡ mark_of k a.head below
  mark_at k base a below s f e =
      let near = top_within core held finds below in
      let small = s.small in
      (one_read core held finds k base a.head a.cells below s.heads.0 s.callers.0 (level_small core held finds below s.heads.1) (omega (arith, near, small)) s.lies f (base + (stack_words below + (head_size a.head + length a.cells))) e refl).0

  pub marks_are : (k base : ℕ) (stack : List Activation) → StackStands k base stack → stack ≢ [] → (n : ℕ) → length stack ≤ n → (f : ℕ) → f ≡ base + mark_place stack → marks_in core n f ≡ places base stack
  unfolding marks_in
  marks_are k base [] s some n many f e = absurd (some refl)
  marks_are k base (a ∷ below) s some zero many f e = absurd (omega (arith, many))
  marks_are k base (a ∷ below) s some (suc n) many f e =
      ap (λ (w : Mscw). f ∷ marks_by w.back (λ d. marks_in core n (f - d))) (mark_at k base a below s f e)
      ∙ ap (λ xs. f ∷ xs) (back_is a.head ∙ rest below (λ more. marks_are k base below (stands_under k base a below s) more n (omega (arith, many)) (f - top_size below) (place_below core held finds base f below more e)))
      ∙ ap (λ g. g ∷ places base below) e where
        back_is : (h : Head) → marks_by (mark_of k h below).back (λ d. marks_in core n (f - d)) ≡ marks_by (top_size below) (λ d. marks_in core n (f - d))
        back_is Marked = refl
        back_is (Entered level environment back) = refl

        rest : (more : List Activation) → (more ≢ [] → marks_in core n (f - top_size more) ≡ places base more) → marks_by (top_size more) (λ d. marks_in core n (f - d)) ≡ places base more
        rest [] ih = refl
        rest (b ∷ more) ih = marks_some (top_size (b ∷ more)) (λ d. marks_in core n (f - d)) (top_some core held finds (b ∷ more) (λ z. cc)) ∙ ih (λ z. cc)

  module _ (plan : Placement) (j : ℕ) (job : Job) (k base : ℕ) (outer : ℕ → StackPlace) where
    pub acts_long : (fs : List Frame) → length (activations plan j job k outer fs) ≡ length fs
    acts_long [] = refl
    acts_long (f ∷ below) = ap suc (acts_long below)

    pub stands_from : (c : ℕ) (fs : List Frame) → StackStands k base (activations plan j job k outer fs) → StackStands k base (activations plan j job k outer (from_frame c fs))
    stands_from c [] s = s
    stands_from c (f ∷ below) s = by (f.identity == c) (stands_from c below (stands_under k base (record { head = head (spot_in k outer below) f.standing; cells = map (shape plan j job (spot_in k outer (f ∷ below))) f.cells }) (activations plan j job k outer below) s)) where
      by : (b : Bool) → StackStands k base (activations plan j job k outer (from_frame c below)) → StackStands k base (activations plan j job k outer (if b then f ∷ below else from_frame c below))
      by true r = s
      by false r = r

    below_stands : (f : Frame) (below : List Frame) → StackStands k base (activations plan j job k outer (f ∷ below)) → StackStands k base (activations plan j job k outer below)
    below_stands f below s = stands_under k base (record { head = head (spot_in k outer below) f.standing; cells = map (shape plan j job (spot_in k outer (f ∷ below))) f.cells }) (activations plan j job k outer below) s

    words_some : (s : Standing) → 1 ≤ head_words s
    words_some s = grind arith

    -- the number of a record is that of the marks from its own down
    pub record SpotStands (n top : ℕ) (down : List Frame) (p : StackPlace) : Type 0 where
      pub stack : p.stack ≡ k
      pub disp : p.disp < top
      pub number : length (marks_in core n (base + p.disp)) ≡ length down

    pub spot_stands : (n : ℕ) (fs : List Frame) → StackStands k base (activations plan j job k outer fs) → length fs ≤ n → (c : ℕ) → Has (identities fs) c → SpotStands n (height fs) (from_frame c fs) (spot_in k outer fs c)
    spot_stands n [] s many c h = absurd h
    spot_stands n (f ∷ below) s many c h = by (eqb_tells f.identity c) h (λ i. spot_stands n below (below_stands f below s) (omega (arith, many)) c i) where
      some : 1 ≤ head_words f.standing
      some = words_some f.standing

      here : SpotStands n (height (f ∷ below)) (f ∷ below) (record { stack = k; disp = height below })
      here =
          let high = height-is plan j job k outer below in
          let long = acts_long (f ∷ below) in
          let is = marks_are k base (activations plan j job k outer (f ∷ below)) s (λ z. cc) n (omega (arith, long, many)) (base + height below) (omega (arith, high)) in
          record { stack = refl; disp = omega (arith, some); number = ap (λ (xs : List ℕ). length xs) is ∙ places_long base (activations plan j job k outer (f ∷ below)) ∙ long }

      by : ((f.identity == c ≡ true) × (f.identity ≡ c)) ⊎ ((f.identity == c ≡ false) × (f.identity ≢ c)) → Has (identities (f ∷ below)) c
          → (Has (identities below) c → SpotStands n (height below) (from_frame c below) (spot_in k outer below c)) → SpotStands n (height (f ∷ below)) (from_frame c (f ∷ below)) (spot_in k outer (f ∷ below) c)
      by (inl q) i rest = subst (λ (b : Bool). SpotStands n (height (f ∷ below)) (if b then f ∷ below else from_frame c below) (if b then record { stack = k; disp = height below } else spot_in k outer below c)) (sym q.0) here
      by (inr q) (inl e) rest = absurd (q.1 e)
      by (inr q) (inr i) rest =
          let r = rest i in
          let low = r.disp in
          subst (λ (b : Bool). SpotStands n (height (f ∷ below)) (if b then f ∷ below else from_frame c below) (if b then record { stack = k; disp = height below } else spot_in k outer below c)) (sym q.0)
          (record { stack = r.stack; disp = omega (arith, low); number = r.number })

    -- ---- where an original stands

    module _ (a : ℕ) where
      offset_is : (cells : List Word) (d : ℕ) → cell_of_original 2 cells a ≡ Some d → offset_of_original a cells ≡ d
      offset_is [] d e = let z : ⊥ = cc in absurd z
      offset_is (w ∷ more) d e = grind (arith, offset_is more d)

      head_same : (spot : ℕ → StackPlace) (s : Standing) → head_size (head spot s) ≡ head_words s
      head_same spot s = grind arith

      entered_by : (f : ℕ) (spot : ℕ → StackPlace) (s : Standing) (below : List Activation) (home offset : ℕ) → is_set (word_seen_at core f) 46 ≡ (mark_of k (head spot s) below).entered → home + 2 ≡ f + head_words s + offset → f ≤ home
          → (more : List ℕ) → offset_from core home (f ∷ more) ≡ offset
      entered_by f spot s below home offset e at up more = grind arith

      pub record OriginalStands (top : ℕ) (down : List Frame) (marks : List ℕ) : Type 0 where
        pub number : length marks ≡ length down
        pub offset : offset_from core (plan.home j a) marks ≡ offset_of_original a (State.top down).cells
        pub low : plan.home j a < base + top
        pub high : base < plan.home j a

      pub original_stands : (fs : List Frame) → StackStands k base (activations plan j job k outer fs) → (bound : ℕ) → Falls bound (identities fs) → (g : Frame) → Has fs g → Has g.cells (Original a)
          → OriginalStands (height fs) (from_frame g.identity fs) (marks_under (plan.home j a) (places base (activations plan j job k outer fs)))
      original_stands [] s bound falls g h w = absurd h
      original_stands (f ∷ below) s bound falls g (inl e) w =
          let bs = activations plan j job k outer below in
          let hd = head (spot_in k outer below) f.standing in
          let cs = map (shape plan j job (spot_in k outer (f ∷ below))) f.cells in
          let there = cell_there core held plan j job a 2 f.cells (subst (λ (x : Frame). Has x.cells (Original a)) (sym e) w) in
          let home = cell_home core held plan j job a (spot_in k outer (f ∷ below)) (suc base) 2 f.cells (headed k hd bs (words k bs)) there.0 s.lies there.1 in
          let at = home.at in
          let up = home.below in
          let above = home.above in
          let off = offset_is f.cells there.0 there.1 in
          let long = headed-length k hd bs (words k bs) in
          let all = words-length k bs in
          let size = head_same (spot_in k outer below) f.standing in
          let high = height-is plan j job k outer below in
          let some = words_some f.standing in
          let mark = ap (λ (q : Mscw). q.entered) (mark_at k base (record { head = hd; cells = cs }) bs s (base + (stack_words bs + 1)) refl) in
          grind (arith, le-leb, eq-eqb, places_long, acts_long)
      original_stands (f ∷ below) s bound falls g (inr h) w =
          let r = original_stands below (below_stands f below s) f.identity falls.1 g h w in
          let bs = activations plan j job k outer below in
          let low = r.low in
          let high = height-is plan j job k outer below in
          let later : nat_le (base + (stack_words bs + 1)) (plan.home j a) ≡ false = lt-leb (base + (stack_words bs + 1)) (plan.home j a) (omega (arith, low, high)) in
          let is : marks_under (plan.home j a) (places base (activations plan j job k outer (f ∷ below))) ≡ marks_under (plan.home j a) (places base bs) =
          ap (λ (b : Bool). if b then places base (activations plan j job k outer (f ∷ below)) else marks_under (plan.home j a) (places base bs)) later in
          let under = falls_low f.identity (identities below) g.identity falls.1 (names below h) in
          let down : from_frame g.identity (f ∷ below) ≡ from_frame g.identity below = ap (λ (b : Bool). if b then f ∷ below else from_frame g.identity below) (ne_eqb f.identity g.identity (λ e. omega (arith, e, under))) in
          subst (λ (d : List Frame). OriginalStands (height (f ∷ below)) d (marks_under (plan.home j a) (places base (activations plan j job k outer (f ∷ below))))) (sym down)
          (subst (OriginalStands (height (f ∷ below)) (from_frame g.identity below)) (sym is)
          (record { number = r.number; offset = r.offset; low = omega (arith, low); high = r.high })) where
            names : (fs : List Frame) → Has fs g → Has (identities fs) g.identity
            names [] i = absurd i
            names (x ∷ xs) (inl e) = inl (ap (λ (y : Frame). y.identity) e)
            names (x ∷ xs) (inr i) = inr (names xs i)
