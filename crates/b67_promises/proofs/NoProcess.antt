-- A program that names no PROCESS calls none.
use Rattle.std.proofs.Common.{◌≡◌, ℕ, zero, suc, ◌+◌, ◌-◌, ◌^◌, ◌%◌, ◌<◌, ◌≤◌, ◌⊎◌, ⊎_elim, inl, inr, ltb, leb, List, [], ◌∷◌, map, reverse, Option, Some, None, unwrap_or, Ok, refl, sym, ap, subst, ◌∙◌, arith}
use Rattle.std.specs.Prelude.{flat_map, slice_get}
use Rattle.std.specs.Option.{ok_or}
use Rattle.std.proofs.lemmas.Bool.{cases_Bool, cases_lt, leb-true, ltb-false}
use Rattle.b67_word.specs.declared.faults.Fault.TheVariants.{InvalidAddress}
use Rattle.b67_word.specs.Couples.{couple}
use Rattle.b67_model.specs.declared.operators.Op.{Op}
use Rattle.b67_model.specs.declared.operators.Op.TheVariants.{Namc, Plain}
use Rattle.b67_model.specs.declared.operators.Code.TheVariants.{Entr, Stff}
use Rattle.b67_model.specs.Keyed.{keyed}
use Rattle.b67_model.specs.Words as Words
use Rattle.b67_model.specs.Common.{Answer, Word, Operand, Name, Ref, Row, Element, Original, Proc, Intrinsic, Frame, Standing, Marked, Entered, Task, Job, Line, OperatorContext, mcp, no_frame, frame, all_frames, level_of_standing, level_of_frame, environment_of, running, running_level, outward, cell_of, cell, named, place_of, End, AtIntrinsic, array, Link, Stops, Leads, element_end, link_at, link_in, link_from, link, chase_on, follow_reference, called, called_at, called_by, called_on, top_of, cells_of, stff_word, stff, row, Goes, Starts, known_of, outer_reach, outer_of, from_frame, frames_of_task, critical_of, IsEntered, EntryInOrder}
use Rattle.b67_lemmas.specs.Lists.{Has}
use Rattle.b67_lemmas.proofs.Members.{all_in, has_append_cases, has_append_right, has_flat_back, has_reverse_back, keyed_has}
use Rattle.b67_law.proofs.Posts.{Post, post_ok, post_err, post_bind, post_any, post_if_is, post_at}
use Rattle.b67_law.proofs.Readings.{OpBits}
use Rattle.b67_law.proofs.Looks.{Run, Seen, reach, see, closed}
use Rattle.b67_law.proofs.Chases.{running_known, some_ok, cell_has}
use Rattle.b67_law.specs.Made.{OperatorMakes, StandsIn}
use Rattle.b67_law.proofs.WordSteps as S
use Rattle.b67_law.proofs.MadeRows.{each_row_makes_its_words}
use Rattle.b67_model.specs.declared.limits.TheConstants.{MOST_LINKS}

-- ---- words that don't name the MCP's cell 12

abbrev pub IsFreePlace : (ℕ × ℕ) → Type 0
IsFreePlace at = at.0 ≡ 0 → at.1 ≡ 12 → ⊥

abbrev pub IsFree : Word → Type 0
IsFree (Operand bits) = Unit {0}
IsFree (Name couple) = (couple < 2 ^ 14) × (couple ≡ 12 → ⊥)
IsFree (Ref frame offset) = frame ≡ 0 → offset ≡ 12 → ⊥
IsFree (Row array) = Unit {0}
IsFree (Element array index) = Unit {0}
IsFree (Original array) = Unit {0}
IsFree (Proc segment level place) = Unit {0}
IsFree (Intrinsic number) = ⊥
IsFree (Words.Segment number) = Unit {0}

abbrev pub AnyMark : ℕ → Standing → Type 0
AnyMark identity standing = Unit {0}

pub free_operands : (bits : ℕ) → IsFree (Operand bits)
free_operands bits = tt

abbrev pub AllFree : List Word → Type 0
AllFree words = S.AllW IsFree AnyMark free_operands words

abbrev pub FramesFree : List Frame → Type 0
FramesFree frames = S.AllMade IsFree AnyMark free_operands frames

abbrev pub TasksFree : List Task → Type 0
TasksFree tasks = S.TasksMade IsFree AnyMark free_operands tasks

-- ---- a couple of level 0 and displacement 12

couple_low : (bits level : ℕ) → bits < 2 ^ 14 → (couple bits level).level ≡ 0 → (couple bits level).disp ≡ 12 → bits ≡ 12
couple_low bits level small e d = grind arith

-- ---- the MCP's frame

base_last : (job : Job) (critical : ℕ) (parents : List ℕ) → Has (outer_reach job critical parents) (0, Entered 0 0 None)
base_last job critical [] = inr (inl refl)
base_last job critical (parent ∷ more) =
    let t = keyed (λ (t : Task). t.number) parent job.tasks in
    has_append_right (map known_of (from_frame critical (frames_of_task t))) (outer_reach job (critical_of t) more) (0, Entered 0 0 None) (base_last job (critical_of t) more)

abbrev Counted : ℕ → List Word → Type 0
Counted k [] = Unit {0}
Counted k (w ∷ ws) = (w ≡ Intrinsic k) × Counted (k + 1) ws

counted_get : (k : ℕ) (ws : List Word) (i n : ℕ) → Counted k ws → slice_get ws i ≡ Some (Intrinsic n) → n ≡ k + i
counted_get k [] i n c e = absurd (let z : ⊥ = cc in z)
counted_get k (w ∷ ws) zero n c e = grind arith
counted_get k (w ∷ ws) (suc i) n c e = let more = counted_get (k + 1) ws i n c.1 e in omega (arith, more)

mcp_cell : (offset n : ℕ) → cell_of mcp offset ≡ Some (Intrinsic n) → n ≡ offset
mcp_cell offset n e = elim (cases_Bool (ltb offset 8)) [
  | inl t ↦ let no : None ≡ Some (Intrinsic n) = rw t at e in absurd (let z : ⊥ = cc in z)
  | inr t ↦
      let is = counted_get 8 (reverse mcp.cells) (offset - 8) n (refl, (refl, (refl, (refl, (refl, (refl, (refl, (refl, (refl, (refl, (refl, tt))))))))))) (rw t at e) in
      let high = ltb-false offset 8 t in
      omega (arith, is, high)
]

abbrev IsIntrinsic : Word → Type 0
IsIntrinsic (Intrinsic number) = Unit {0}
IsIntrinsic _ = ⊥

in_mcp : (w : Word) → Has mcp.cells w → IsIntrinsic w
in_mcp w h = all_in IsIntrinsic mcp.cells w (tt, (tt, (tt, (tt, (tt, (tt, (tt, (tt, (tt, (tt, (tt, tt))))))))))) h

called_at_is : (a : Answer End) (n : ℕ) → called_at a ≡ Some n → a ≡ Ok (AtIntrinsic n)
called_at_is a n e = grind arith

-- ---- where the words of a running task lead

module _ (P : Starts) (h : OperatorContext) (run : Run P h) where
  seen_mcp : Seen P h 0 (Entered 0 0 None)
  seen_mcp = see P h run 0 (Entered 0 0 None) (has_append_right (map known_of h.task.frames) (outer_of h.job h.task) (0, Entered 0 0 None) (base_last h.job h.task.critical h.task.parents))

  not_mcp : (f : Frame) → Has (reach h) (known_of f) → 1 ≤ level_of_frame f → f.identity ≡ 0 → ⊥
  not_mcp f k low is =
      let seen = see P h run f.identity f.standing k in
      let same : f.standing ≡ Entered 0 0 None = sym seen.standing ∙ ap (λ (n : ℕ). (frame h n).standing) is ∙ seen_mcp.standing in
      grind arith

  outward_not_mcp : (links : ℕ) (f : Frame) → Has (reach h) (known_of f) → IsEntered f.standing → links + 1 ≤ level_of_frame f → (outward h links f).identity ≡ 0 → ⊥
  outward_not_mcp zero f k e low is = not_mcp f k (omega (arith, low)) is
  outward_not_mcp (suc links) f k e low is =
      let out = closed P h run f.identity f.standing k e (omega (arith, low)) in
      let environment = environment_of f.standing in
      let seen = see P h run environment out.standing out.among in
      let same : (environment, out.standing) ≡ known_of (frame h environment) = λ i. (sym seen.identity i, sym seen.standing i) in
      let known : Has (reach h) (known_of (frame h environment)) = subst (Has (reach h)) same out.among in
      let entered : IsEntered (frame h environment).standing = subst IsEntered (sym seen.standing) out.entered in
      let level : level_of_frame (frame h environment) ≡ level_of_standing out.standing = ap level_of_standing seen.standing in
      outward_not_mcp links (frame h environment) known entered (omega (arith, low, level, out.level_below)) is

  named_free : (bits : ℕ) → bits < 2 ^ 14 → (bits ≡ 12 → ⊥) → Post IsFreePlace (named h (couple bits (running_level h)))
  named_free bits small other =
      let c = couple bits (running_level h) in
      let at = running_known P h run in
      post_if_is IsFreePlace (leb c.level (running_level h)) _ _
      (λ t. post_ok IsFreePlace _ (λ is twelve. ⊎_elim
      (λ (above : 0 < c.level). let low = leb-true c.level (running_level h) t in outward_not_mcp (running_level h - c.level) (running h.task.frames) at.0 at.1 (omega (arith, low, above)) is)
      (λ (none : c.level ≤ 0). other (couple_low bits (running_level h) small (omega (arith, none)) twelve)) (cases_lt 0 c.level)))
      (λ t. post_err IsFreePlace _)

  place_free : (w : Word) → IsFree w → Post IsFreePlace (place_of h w)
  place_free w g = grind (arith, named_free)

  -- STFF makes a reference to the place of the couple
  stff_word_free : (w : Word) → IsFree w → Post IsFree (stff_word h w)
  stff_word_free (Ref f offset) g = post_ok IsFree (Ref f offset) g
  stff_word_free (Name couple) g = post_bind IsFreePlace IsFree (place_of h (Name couple)) _ (place_free (Name couple) g) (λ at free. post_any IsFree (cell h at.0 at.1) _ (λ x. post_ok IsFree (Ref at.0 at.1) free))
  stff_word_free (Operand bits) g = post_err IsFree _
  stff_word_free (Row array) g = post_err IsFree _
  stff_word_free (Element array index) g = post_err IsFree _
  stff_word_free (Original array) g = post_err IsFree _
  stff_word_free (Proc segment level place) g = post_err IsFree _
  stff_word_free (Intrinsic number) g = post_err IsFree _
  stff_word_free (Words.Segment number) g = post_err IsFree _

  stff_free : (cells : List Word) → AllFree cells → Post AllFree (stff h cells)
  stff_free cells all = grind (arith, stff_word_free)

  module _ (tasks : TasksFree h.job.tasks) where
    -- a word of a frame
    held : (n : ℕ) (w : Word) → Has (frame h n).cells w → IsFree w ⊎ (EntryInOrder h.job.arrays w ⊎ ((n ≡ 0) × (frame h n ≡ mcp)))
    held n w k = by_frame (keyed (λ (f : Frame). f.identity) n (all_frames h)) refl k
      where
        by_frame : (o : Option Frame) → keyed (λ (f : Frame). f.identity) n (all_frames h) ≡ o → Has (unwrap_or o no_frame).cells w → IsFree w ⊎ (EntryInOrder h.job.arrays w ⊎ ((n ≡ 0) × (frame h n ≡ mcp)))
        by_frame None e k = absurd k
        by_frame (Some f) e k =
            let found = keyed_has (λ (f : Frame). f.identity) n (all_frames h) f e in
            elim (has_append_cases (flat_map (λ (t : Task). t.frames) h.job.tasks) (h.constants.dictionary ∷ mcp ∷ []) f found.0) [
              | inl a ↦ let part = has_flat_back (λ (t : Task). t.frames) h.job.tasks f a in inl ((tasks part.item part.among f part.inside).0 w k)
              | inr b ↦ elim b [
                | inl is ↦ inr (inl (all_in (EntryInOrder h.job.arrays) h.constants.dictionary.cells w run.order.entries (subst (λ (x : Frame). Has x.cells w) (sym is) k)))
                | inr c ↦ elim c [
                  | inl is ↦ inr (inr (sym found.1 ∙ ap (λ (x : Frame). x.identity) (sym is), ap (λ (o : Option Frame). unwrap_or o no_frame) e ∙ sym is))
                  | inr x ↦ absurd x
                ]
              ]
            ]

    abbrev LinkFree : Link → Type 0
    LinkFree (Stops end) = end ≡ Ok (AtIntrinsic 12) → ⊥
    LinkFree (Leads w) = IsFree w

    -- a word that leads on
    led : (f offset : ℕ) (v : Word) → cell h f offset ≡ Ok v → (EntryInOrder h.job.arrays v → ⊥) → (IsIntrinsic v → ⊥) → IsFree v
    led f offset v e no_entry no_intrinsic =
        let has = cell_has (frame h f) offset v e in
        elim (held f v has) [
          | inl g ↦ g
          | inr b ↦ elim b [ inl d ↦ absurd (no_entry d) | inr m ↦ absurd (no_intrinsic (in_mcp v (subst (λ (x : Frame). Has x.cells v) m.1 has))) ]
        ]

    no_intrinsic : (f offset number : ℕ) → IsFreePlace (f, offset) → cell h f offset ≡ Ok (Intrinsic number) → number ≡ 12 → ⊥
    no_intrinsic f offset number free e is =
        elim (held f (Intrinsic number) (cell_has (frame h f) offset (Intrinsic number) e)) [
          | inl g ↦ g
          | inr b ↦ elim b [
            | inl d ↦ d
            | inr m ↦
                let there : ok_or (cell_of mcp offset) InvalidAddress ≡ Ok (Intrinsic number) = subst (λ (x : Frame). ok_or (cell_of x offset) InvalidAddress ≡ Ok (Intrinsic number)) m.1 e in
                let same = mcp_cell offset number (some_ok (cell_of mcp offset) InvalidAddress (Intrinsic number) there) in
                free m.0 (sym same ∙ is)
          ]
        ]

    no_element : (a index : ℕ) → element_end h a index ≡ Ok (AtIntrinsic 12) → ⊥
    no_element a index e = grind arith

    word_link : (f offset : ℕ) → IsFreePlace (f, offset) → (v : Word) → cell h f offset ≡ Ok v → LinkFree (link_at h f offset v)
    word_link f offset free (Operand bits) e = λ x. let z : ⊥ = cc in z
    word_link f offset free (Name couple) e = led f offset (Name couple) e (λ d. d) (λ d. d)
    word_link f offset free (Ref g other) e = led f offset (Ref g other) e (λ d. d) (λ d. d)
    word_link f offset free (Element a index) e = no_element a index
    word_link f offset free (Original a) e = λ x. let z : ⊥ = cc in z
    word_link f offset free (Row a) e = λ x. let z : ⊥ = cc in z
    word_link f offset free (Proc segment level place) e = λ x. let z : ⊥ = cc in z
    word_link f offset free (Intrinsic number) e = λ x. no_intrinsic f offset number free e (let is : number ≡ 12 = cc in is)
    word_link f offset free (Words.Segment number) e = λ x. let z : ⊥ = cc in z

    cell_link : (f offset : ℕ) → IsFreePlace (f, offset) → (a : Answer Word) → cell h f offset ≡ a → LinkFree (link_in h f offset a)
    cell_link f offset free a e = grind (arith, word_link)

    place_link : (a : Answer (ℕ × ℕ)) → Post IsFreePlace a → LinkFree (link_from h a)
    place_link a p = grind (arith, cell_link)

    chase_free : (links : ℕ) (l : Link) → LinkFree l → chase_on h links l ≡ Ok (AtIntrinsic 12) → ⊥
    chase_free links (Stops end) g e = g e
    chase_free zero (Leads w) g e = let z : ⊥ = cc in z
    chase_free (suc links) (Leads w) g e = chase_free links (link h w) (place_link (place_of h w) (place_free w g)) e

    reference_free : (w : Word) → IsFree w → follow_reference h w ≡ Ok (AtIntrinsic 12) → ⊥
    reference_free (Name couple) g e = chase_free MOST_LINKS (Leads (Name couple)) g e
    reference_free (Ref f offset) g e = chase_free MOST_LINKS (Leads (Ref f offset)) g e
    reference_free (Operand bits) g e = let z : ⊥ = cc in z
    reference_free (Row array) g e = let z : ⊥ = cc in z
    reference_free (Element array index) g e = let z : ⊥ = cc in z
    reference_free (Original array) g e = let z : ⊥ = cc in z
    reference_free (Proc segment level place) g e = let z : ⊥ = cc in z
    reference_free (Intrinsic number) g e = let z : ⊥ = cc in z
    reference_free (Words.Segment number) g e = let z : ⊥ = cc in z

    -- no operator calls PROCESS
    pub calls_none : AllFree (cells_of h) → (op : Op) → called op h ≡ Some 12 → ⊥
    calls_none own (Plain Entr) e = by_standing (top_of h).standing e
      where
        by_cells : (ws : List Word) → ((w : Word) → Has ws w → IsFree w) → called_by h ws ≡ Some 12 → ⊥
        by_cells [] all e = let z : ⊥ = cc in z
        by_cells (r ∷ arguments) all e = reference_free r (all r (inl refl)) (called_at_is (follow_reference h r) 12 e)

        by_standing : (s : Standing) → called_on h s ≡ Some 12 → ⊥
        by_standing Marked e = by_cells (reverse (cells_of h)) (λ w k. own w (has_reverse_back (cells_of h) w k)) e
        by_standing (Entered level environment back) e = let z : ⊥ = cc in z
    calls_none own _ e = let z : ⊥ = cc in z

    -- what an operator makes
    makes_free : (op : Op) (call : Option ℕ) (w : Word) → OpBits op → (op ≡ Namc 12 → ⊥) → (op ≡ Plain Stff → IsFree w) → OperatorMakes op call w → IsFree w
    makes_free op call w fits other stffs m = grind arith

    -- a row
    pub row_free : (found : Task) → Has h.job.tasks found → found.frames ≡ h.task.frames → (op : Op) → OpBits op → (op ≡ Namc 12 → ⊥)
        → (after : Job) (printed : List Line) (touched : Option ℕ) → row op h ≡ Ok (Goes after printed touched) → TasksFree after.tasks
    row_free found live frames op fits other after printed touched e t k f among = (λ w has. by_word w has, tt)
      where
        source : S.Source IsFree AnyMark free_operands h
        source = record { tasks = tasks; own = λ g j. tasks found live g (subst (λ fs. Has fs g) (sym frames) j) }

        by_stff : op ≡ Plain Stff → TasksFree after.tasks
        by_stff s =
            let good = subst (λ (o : Op). S.Good IsFree AnyMark free_operands (row o h)) (sym s) (S.on_cells_good IsFree AnyMark free_operands h (stff h) source stff_free) in
            post_at (S.Kept IsFree AnyMark free_operands) (row op h) (Goes after printed touched) e good

        by_word : (w : Word) → Has f.cells w → IsFree w
        by_word w has =
            let stands : StandsIn after.tasks f = record { task = t; live = k; among = among } in
            let made = each_row_makes_its_words op h found after printed touched live frames e f stands in
            elim (made.words w has) [
              | inl old ↦ (tasks old.stands.task old.stands.live old.frame old.stands.among).0 w old.among
              | inr new ↦ makes_free op (called op h) w fits other (λ s. (by_stff s t k f among).0 w has) new
            ]
