-- The walk over cells and static links decides whether they are in order.
use Rattle.std.proofs.Common.{◌≡◌, ℕ, zero, suc, ◌+◌, ◌-◌, ◌*◌, ◌/◌, ◌%◌, ◌^◌, ◌<◌, ◌≤◌, ◌==◌, Bool, true, false, List, [], ◌∷◌, ◌++◌, map, length, Option, Some, None, refl, sym, ◌∙◌, ap, subst, arith, inl, inr, ⊎_elim, unwrap_or}
use Rattle.std.specs.Prelude.{◌⊎◌, ◌&&◌, ◌||◌, nat_le, if◌then◌else◌}
use Rattle.std.specs.List.{AllByRecursion, list_all, slice_get}
use Rattle.std.proofs.lemmas.Bool.{cases_Bool, cases_lt, eq-eqb, eqb-true, ne_eqb}
use Rattle.std.proofs.lemmas.Option.{same_Some}
use Rattle.b67_word.specs.Tagged.{Tagged, word, bits_at}
use Rattle.b67_ctl.specs.declared.marks.Mscw.{Mscw}
use Rattle.b67_lemmas.specs.Lists.{Has, how_many}
use Rattle.b67_lemmas.proofs.Members.{has_map, has_map_back, has_get, none_pass, total_has}
use Rattle.b67_model.specs.Common.{Word, Frame, Job, Starts, Known, known_of, level_of_standing, IsSegment, IsEntered, WordInOrder, EnvironmentInOrder, StandsInOrder, is_copy_of, NoCopyUnder, CopiesAbove, CellsInOrder, FramesInOrder}
use Rattle.b67_stack.specs.Shapes as Shapes
use Rattle.b67_stack.specs.Common as stack
use Rattle.b67_stack.specs.Common.{Shape, Is, Copy, Head, StackPlace, Activation, stack_words}
use Rattle.b67_layout.specs.Common.{Placement, spot_in, TaskRow, JobRow}
use Rattle.b67_layout.specs.Layout.{shape, head, activations}
use Rattle.b67_layout_shown.specs.Places.{named}
use Rattle.b67_layout_shown.specs.Reading.{word_seen_at, mscw_in, rcw_in, return_by, shape_in, is_set, desc_in, descriptor_by, shape_by, cells_in, activation_by, stack_seen}
use Rattle.b67_layout_shown.specs.Seen.{Seen, seen_in, seen_from, known_seen, ReachIsSeen}
use Rattle.b67_layout_shown.specs.Shown.{Sight, frame_seen, standing_of, array_homed, frames_of, copy_by, reference_by, plain_by, word_seen, constants_in, stack_of_row, job_seen, placed, top_in}
use Rattle.b67_image_shape.specs.Deciding.{Decides}
use Rattle.b67_image_shape.specs.TableFacts.{row_in_slot, TableFacts}
use Rattle.b67_image_shape.specs.FixedWords.{FixedFacts}
use Rattle.b67_image_shape.specs.Held.{location_in, view_in}
use Rattle.b67_image_shape.specs.Items.{EachTask, CellFacts, base_at}
use Rattle.b67_image_shape.specs.NearStacks.{NearStacks}
use Rattle.b67_image_shape.specs.ObjectMarks.{AreMarked}
use Rattle.b67_image_shape.specs.ObjectTable.{is_original_word}
use Rattle.b67_image_shape.specs.TableMarks.{IsTable}
use Rattle.b67_image_shape.specs.TaskWalk.{level_in}
use Rattle.b67_image_shape.specs.RecordTable.{record_of_disp, IsRecordTable}
use Rattle.b67_image_shape.specs.CellWalk.{place, is_outermost, is_in_sight, cell_stands, cells_stand, level_at, link_stands, record_stands_by, record_stands, stands_under, records_stand, row_stands_by, row_stands, rows_stand, AreSmall, CellsAreDecided}
use Rattle.b67_image_shape.proofs.Deciding.{same_number, at_most, both, like, yes}
use Rattle.b67_image_shape.proofs.Rows.{of_row}
use Rattle.b67_image_shape.proofs.EachTask.{each_task, task_at}
use Rattle.b67_image_shape.proofs.MarksSeen.{is_entered_head, seen_low}
use Rattle.b67_image_shape.proofs.RecordsSeen.{mark_inside, low_record, top_record, half_code, code_seen}
use Rattle.b67_image_shape.proofs.RecordsFilled.{row_walks}
use Rattle.b67_image_shape.proofs.TableReady.{tables_mark}
use Rattle.b67_image_shape.proofs.WalkInduct.{back_at, record_seen, StandsHere, walk_induct}
use Rattle.b67_image_shape.proofs.SightSeen.{SeesEntered, in_sight}
use Rattle.b67_image_shape.proofs.Spots.{job_low}
use Rattle.b67_image_shape.proofs.SightNames.{outers, outer, entered_back, entered_forth, PlaceOf, place_of, reach_is, spot_is}
use Rattle.b67_image_shape.proofs.CellsRead.{words_low}
use Rattle.b67_image_shape.proofs.CellWords.{CellSame, CellAbove, original_shape, cell_decided, copy_source}

-- ---- lists

abbrev first_shape : List Shape → Shape
first_shape [] = Is (word 0 0)
first_shape (x ∷ more) = x

abbrev shapes_below : List Shape → List Shape
shapes_below [] = []
shapes_below (x ∷ more) = more

abbrev first_record : List Activation → Activation
first_record [] = record { head = stack.Marked; cells = [] }
first_record (a ∷ below) = a

abbrev records_below : List Activation → List Activation
records_below [] = []
records_below (a ∷ below) = below

abbrev activation : Head → List Shape → Activation
activation h cells = record { head = h; cells = cells }

abbrev environment_in : Head → StackPlace
environment_in stack.Marked = record { stack = 0; disp = 0 }
environment_in (stack.Entered level environment back) = environment

some_pass : {A : Type 0} (test : A → Bool) (xs : List A) (x : A) → Has xs x → test x ≡ true → how_many test xs ≡ 0 → ⊥
some_pass test xs x h t none = grind (arith, total_has)

each_in : {A : Type 0} (test : A → Bool) (P : A → Type 0) (xs : List A) → ((x : A) → Has xs x → Decides (test x) (P x)) → Decides (list_all test xs) ((x : A) → Has xs x → P x)
each_in test P [] d = yes (λ x h. absurd h)
each_in {A} test P (y ∷ ys) d = grind (arith, like, both, each_in test P ys)

abbrev home_in : Shape → ℕ
home_in (Is w) = 0
home_in (Shapes.Original home) = home
home_in (Copy c home) = home

-- ---- cells of one record, as a list

module _ (core : List Tagged) (P : Starts) (plan : Placement) (j : ℕ) (job : Job) (reach : List Known) (owner : ℕ) (frame : StackPlace → ℕ) (array : ℕ → ℕ) (spot : ℕ → StackPlace) (s : ℕ) where
  abbrev At : ℕ → Shape
  At i = shape_in core i (word_seen_at core i)

  abbrev Above : ℕ → Shape → Type 0
  Above at x = CellAbove s at x

  abbrev Same : Shape → Type 0
  Same x = CellSame P plan j job reach owner frame array spot x

  abbrev Fine : ℕ → Type 0
  Fine i = Same (At i) × Above i (At i)

  abbrev Cells : ℕ → ℕ → Type 0
  Cells from n = CellsInOrder P job.arrays reach owner (map (word_seen frame array) (cells_in core from n)) × (map (shape plan j job spot) (map (word_seen frame array) (cells_in core from n)) ≡ cells_in core from n)

  original_at : (a home : ℕ) → At a ≡ Shapes.Original home → home ≡ a
  original_at a home e = grind arith

  -- where cells stand
  cell_back : (from n : ℕ) (x : Shape) → Has (cells_in core from n) x → (i : ℕ) × (i < n) × (At (from + i) ≡ x)
  cell_back from zero x h = absurd h
  cell_back from (suc n) x (inl e) = (n, omega arith, e)
  cell_back from (suc n) x (inr h) = let (i, lt, e) = cell_back from n x h in (i, omega (arith, lt), e)

  cell_there : (from n i : ℕ) → i < n → Has (cells_in core from n) (At (from + i))
  cell_there from zero i h = absurd (omega (arith, h))
  cell_there from (suc n) i h = ⊎_elim (λ (lt : i < n). inr (cell_there from n i lt)) (λ (le : n ≤ i). inl (let e : n ≡ i = omega (arith, h, le) in ap (λ m. At (from + m)) e)) (cases_lt i n)

  -- ---- copies stand above their originals

  plain_none : (w : Tagged) (b0 b1 b7 : Bool) (below : List Word) → NoCopyUnder (plain_by w frame b0 b1 b7) below
  plain_none w b0 b1 b7 below = grind arith

  copy_none : (index : Option ℕ) (name : ℕ) (below : List Word) → NoCopyUnder (copy_by index name) below
  copy_none index name below = grind arith

  copy_itself : (index : Option ℕ) (name : ℕ) → is_copy_of name (copy_by index name) ≡ true
  copy_itself index name = grind arith

  copy_names : (index : Option ℕ) (other name : ℕ) → is_copy_of name (copy_by index other) ≡ true → other ≡ name
  copy_names index other name e = grind arith

  not_copy : (a h : ℕ) (x : Shape) → Same x → Above a x → plan.home j (array h) ≡ h → a < h → h ≤ s → is_copy_of (array h) (word_seen frame array x) ≡ false
  not_copy a h x is above home lo hi = grind arith

  none_under : (from n h : ℕ) → ((i : ℕ) → i < n → Fine (from + i)) → plan.home j (array h) ≡ h → from + n ≤ h → h ≤ s → how_many (is_copy_of (array h)) (map (word_seen frame array) (cells_in core from n)) ≡ 0
  none_under from n h fine home lo hi = grind (arith, none_pass, has_map_back, cell_back, not_copy)

  no_copy : (from n a : ℕ) (x : Shape) → At a ≡ x → Same x → from + n ≤ a → a ≤ s → ((i : ℕ) → i < n → Fine (from + i)) → NoCopyUnder (word_seen frame array x) (map (word_seen frame array) (cells_in core from n))
  no_copy from n a (Is w) e is lo hi fine = plain_none w (w.tag == 0) (w.tag == 1) (w.tag == 7) (map (word_seen frame array) (cells_in core from n))
  no_copy from n a (Copy c home) e is lo hi fine = copy_none c.index (array home) (map (word_seen frame array) (cells_in core from n))
  no_copy from n a (Shapes.Original home) e is lo hi fine = grind (arith, original_at, none_under)

  above_all : (from n : ℕ) → ((i : ℕ) → i < n → from + i ≤ s) → ((i : ℕ) → i < n → Fine (from + i)) → CopiesAbove (map (word_seen frame array) (cells_in core from n))
  above_all from zero low fine = tt
  above_all from (suc n) low fine = (
    no_copy from n (from + n) (At (from + n)) refl (fine n (omega arith)).0 (omega arith) (low n (omega arith)) (λ i lt. fine i (omega (arith, lt))),
    above_all from n (λ i lt. low i (omega (arith, lt))) (λ i lt. fine i (omega (arith, lt))),
  )

  -- and back
  none_at : (from n i : ℕ) → i < n → CopiesAbove (map (word_seen frame array) (cells_in core from n)) → NoCopyUnder (word_seen frame array (At (from + i))) (map (word_seen frame array) (cells_in core from i))
  none_at from zero i h c = absurd (omega (arith, h))
  none_at from (suc n) i h c = ⊎_elim (λ (lt : i < n). none_at from n i lt c.1) (λ (le : n ≤ i). (let e : n ≡ i = omega (arith, h, le) in subst (λ m. NoCopyUnder (word_seen frame array (At (from + m))) (map (word_seen frame array) (cells_in core from m))) e c.0)) (cases_lt i n)

  -- where a copy's original stands: before these cells, or as a word of a stack
  abbrev Homes : ℕ → ℕ → Type 0
  Homes from n = (i : ℕ) → i < n → (c : Shapes.Copied) (home : ℕ) → At (from + i) ≡ Copy c home → Same (Copy c home) → (home < from) ⊎ (At home ≡ Shapes.Original home)

  above_one : (from n i : ℕ) → i < n → s < from + n → CopiesAbove (map (word_seen frame array) (cells_in core from n)) → Homes from n → (x : Shape) → At (from + i) ≡ x → Same x → Above (from + i) x
  above_one from n i lt end c homes (Is w) e is = tt
  above_one from n i lt end c homes (Shapes.Original home) e is = tt
  above_one from n i lt end c homes (Copy d home) e is = λ lo hi. by (homes i lt d home e is) lo hi where
    by : (home < from) ⊎ (At home ≡ Shapes.Original home) → from + i < home → home ≤ s → ⊥
    by (inl before) lo hi = omega (arith, before, lo)
    by (inr o) lo hi =
        let at : from + (home - from) ≡ home = omega (arith, lo) in
        let none : NoCopyUnder (word_seen frame array (Shapes.Original home)) (map (word_seen frame array) (cells_in core from (home - from))) =
        subst (λ (x : Shape). NoCopyUnder (word_seen frame array x) (map (word_seen frame array) (cells_in core from (home - from)))) (ap At at ∙ o) (none_at from n (home - from) (omega (arith, lo, hi, end)) c) in
        some_pass (is_copy_of (array home)) (map (word_seen frame array) (cells_in core from (home - from))) (copy_by d.index (array home))
        (subst (λ (x : Shape). Has (map (word_seen frame array) (cells_in core from (home - from))) (word_seen frame array x)) e (has_map (word_seen frame array) (cells_in core from (home - from)) (At (from + i)) (cell_there from (home - from) i (omega (arith, lo)))))
        (copy_itself d.index (array home)) none

  -- ---- lists of cells

  all_words : (from n : ℕ) → ((i : ℕ) → i < n → Fine (from + i)) → AllByRecursion (WordInOrder P job.arrays reach owner) (map (word_seen frame array) (cells_in core from n))
  all_words from zero fine = tt
  all_words from (suc n) fine = ((fine n (omega arith)).0.0, all_words from n (λ i lt. fine i (omega (arith, lt))))

  all_same : (from n : ℕ) → ((i : ℕ) → i < n → Fine (from + i)) → map (shape plan j job spot) (map (word_seen frame array) (cells_in core from n)) ≡ cells_in core from n
  all_same from zero fine = refl
  all_same from (suc n) fine = ap (λ x. x ∷ map (shape plan j job spot) (map (word_seen frame array) (cells_in core from n))) (fine n (omega arith)).0.1 ∙ ap (λ (xs : List Shape). At (from + n) ∷ xs) (all_same from n (λ i lt. fine i (omega (arith, lt))))

  each_is : (from n : ℕ) → AllByRecursion (WordInOrder P job.arrays reach owner) (map (word_seen frame array) (cells_in core from n)) → map (shape plan j job spot) (map (word_seen frame array) (cells_in core from n)) ≡ cells_in core from n → (i : ℕ) → i < n → Same (At (from + i))
  each_is from zero all same i h = absurd (omega (arith, h))
  each_is from (suc n) all same i h = ⊎_elim (λ (lt : i < n). each_is from n all.1 (ap shapes_below same) i lt) (λ (le : n ≤ i). (let e : n ≡ i = omega (arith, h, le) in subst (λ m. Same (At (from + m))) e (all.0, ap first_shape same))) (cases_lt i n)

  pub cells_fine : (from n : ℕ) → ((i : ℕ) → i < n → from + i ≤ s) → (0 < n → s < from + n) → Homes from n → (((i : ℕ) → i < n → Fine (from + i)) → Cells from n) × (Cells from n → (i : ℕ) → i < n → Fine (from + i))
  cells_fine from n low end homes = (
    λ fine. ((all_words from n fine, above_all from n low fine), all_same from n fine),
    λ c i lt. (let is = each_is from n c.0.0 c.1 i lt in (is, above_one from n i lt (end (omega (arith, lt))) c.0.1 homes (At (from + i)) refl is)),
  )

-- ---- levels

module _ (core : List Tagged) (base slot : ℕ) (frame : StackPlace → ℕ) where
  abbrev Levels : ℕ → ℕ → ℕ → List Activation → Type 0
  Levels n f s acts = (x : Seen) → Has (seen_in slot acts) x → is_entered_head x.1 ≡ true → level_of_standing (standing_of frame x.1) ≡ bits_at (word_seen_at core (base + x.0.disp)) 14 5

  levels_bottom : (n f s : ℕ) → s < length core → back_at core f ≡ 0 → StandsHere core base f s [] → f ≡ base + 1 → Levels (suc n) f s (record_seen core f s ∷ [])
  levels_bottom n f s inside back st at x h t = grind arith

  levels_more : (n f s d : ℕ) → s < length core → back_at core f ≡ suc d → StandsHere core base f s (stack_seen core n (f - suc d) (f - 1)) → base + suc d < f → Levels n (f - suc d) (f - 1) (stack_seen core n (f - suc d) (f - 1)) → Levels (suc n) f s (record_seen core f s ∷ stack_seen core n (f - suc d) (f - 1))
  levels_more n f s d inside back st far rec x h t = grind arith

-- ---- one task

module _ (k : Sight) (facts : TableFacts k) (low size : ℕ) (fixed : FixedFacts k low size) (near : NearStacks k) (seen : ReachIsSeen) (records : List ℕ) (table : IsRecordTable k records) (kinds : List ℕ) (marks : IsTable k kinds) (marked : AreMarked k.core kinds (view_in k).objects) (small : AreSmall k.core) where
  word_small : (i : ℕ) → (word_seen_at k.core i).bits < 2 ^ 48
  word_small i = by (slice_get k.core i) refl where
    by : (o : Option Tagged) → slice_get k.core i ≡ o → (unwrap_or o (word 0 0)).bits < 2 ^ 48
    by None e = omega arith
    by (Some w) e = small w (has_get k.core i w e)

  levels_of : (q : TaskRow) → Has k.tasks q → (frame : StackPlace → ℕ) (x : Seen) → Has (seen_in q.slot (stack_of_row k q)) x → is_entered_head x.1 ≡ true → level_of_standing (standing_of frame x.1) ≡ bits_at (word_seen_at k.core (base_at k q + x.0.disp)) 14 5
  levels_of q h frame =
      let w = row_walks k facts low size fixed near q h in
      let high = w.high in
      let inside = w.inside in
      walk_induct k.core (base_at k q) q.slot w.segments (Levels k.core (base_at k q) q.slot frame) (levels_bottom k.core (base_at k q) q.slot frame) (levels_more k.core (base_at k q) q.slot frame) k.regs.stack_size (level_in k q) (top_in k q).f (top_in k q).s (omega (arith, high, inside)) w.walk

  module _ (r : TaskRow) (h : Has k.tasks r) where
    abbrev mine : JobRow
    mine = (of_row k facts r h).row

    abbrev job : Job
    job = job_seen k (of_row k facts r h).row r.job

    abbrev frame : StackPlace → ℕ
    frame = frame_seen k.tasks r.job

    abbrev array : ℕ → ℕ
    array = array_homed k.regs k.tasks (of_row k facts r h).row

    abbrev P : Starts
    P = IsSegment (constants_in k (of_row k facts r h).row r.job)

    abbrev out : List Seen
    out = seen_from k r.job 15 r.critical (row_in_slot k.tasks r.parent)

    abbrev around : ℕ → StackPlace
    around = outers k facts low size fixed near seen r h

    abbrev frames : List Activation → List Frame
    frames acts = frames_of r.number frame array acts

    abbrev reach : List Activation → List Known
    reach acts = map (known_seen k r.job) (seen_in r.slot acts ++ out)

    abbrev spot : List Activation → ℕ → StackPlace
    spot acts = spot_in r.slot around (frames acts)

    abbrev Agrees : List Activation → Type 0
    Agrees acts = (d : ℕ) → d ≤ stack_words acts → record_of_disp d (stack_of_row k r) ≡ record_of_disp d acts

    abbrev Lifts : List Activation → Type 0
    Lifts acts = (x : Seen) → Has (seen_in r.slot acts) x → Has (seen_in r.slot (stack_of_row k r)) x

    -- ---- levels of marks in sight

    level_seen : (acts : List Activation) → Lifts acts → (x : Seen) → Has (seen_in r.slot acts ++ out) x → is_entered_head x.1 ≡ true → level_of_standing (standing_of frame x.1) ≡ level_at k r.job x.0 (is_outermost r.job x.0)
    level_seen acts lift x there t = by (place_of k facts low size fixed near seen r h acts lift x there) where
      few : r.job < 9
      few = job_low (location_in k.core) k facts near fixed.stack_high r h

      inner : (q : TaskRow) → Has k.tasks q → Has (seen_in q.slot (stack_of_row k q)) x → is_outermost r.job x.0 ≡ false
      inner q hq g = (let some = (code_seen q.slot (stack_of_row k q) x g).1 in ap (λ (b : Bool). b && ((x.0.stack == 127 + r.job) || (x.0.stack == 136))) (ne_eqb x.0.disp 0 (λ e. omega (arith, e, some))))

      by : PlaceOf k facts low size fixed near seen r h x → level_of_standing (standing_of frame x.1) ≡ level_at k r.job x.0 (is_outermost r.job x.0)
      by (inl (inl e)) =
          subst (λ (y : Seen). level_of_standing (standing_of frame y.1) ≡ level_at k r.job y.0 (is_outermost r.job y.0)) e
          (sym (ap (λ (b : Bool). level_at k r.job (record { stack = 127 + r.job; disp = 0 }) (b || (127 + r.job == 136))) (eq-eqb (127 + r.job) (127 + r.job) refl) ∙ ap (λ (b : Bool). if b then 0 else 1) (ne_eqb (127 + r.job) 136 (λ z. let f = few in omega (arith, z, f)))))
      by (inl (inr (inl e))) =
          subst (λ (y : Seen). level_of_standing (standing_of frame y.1) ≡ level_at k r.job y.0 (is_outermost r.job y.0)) e
          (sym (ap (λ (b : Bool). level_at k r.job (record { stack = 136; disp = 0 }) (b || true)) (ne_eqb 136 (127 + r.job) (λ z. let f = few in omega (arith, z, f)))))
      by (inl (inr (inr g))) = absurd g
      by (inr p) =
          levels_of p.q p.there frame x p.mark t ∙ sym (ap (level_at k r.job x.0) (inner p.q p.there p.mark) ∙ ap (λ n. bits_at (word_seen_at k.core (k.regs.stacks + n * k.regs.stack_size + x.0.disp)) 14 5) p.stack_is)

    -- ---- static links

    abbrev LinkFacts : List Activation → ℕ → StackPlace → Type 0
    LinkFacts below level environment = EnvironmentInOrder (reach below) level (frame environment) × (spot below (frame environment) ≡ environment)

    link_decided : (below : List Activation) → Agrees below → Lifts below → stack_words below < k.regs.stack_size → (m : Mscw) → m.level < 2 ^ 5 → Decides (link_stands k records r (stack_words below + 1) m) (LinkFacts below m.level (place m.env_stack m.env_disp))
    unfolding link_stands
    link_decided below agree lift room m small_level =
        like (link_stands k records r (stack_words below + 1) m) to from
        (both (nat_le 2 m.level) (is_in_sight k records r (stack_words below + 1 - 1) (place m.env_stack m.env_disp) && (level_at k r.job (place m.env_stack m.env_disp) (is_outermost r.job (place m.env_stack m.env_disp)) + 1 == m.level)) (at_most 2 m.level)
        (both (is_in_sight k records r (stack_words below + 1 - 1) (place m.env_stack m.env_disp)) (level_at k r.job (place m.env_stack m.env_disp) (is_outermost r.job (place m.env_stack m.env_disp)) + 1 == m.level)
        (subst (λ n. Decides (is_in_sight k records r n (place m.env_stack m.env_disp)) (SeesEntered (seen_in r.slot below ++ out) (place m.env_stack m.env_disp))) under
        (in_sight k records table (words_low k facts low size fixed near) (place m.env_stack m.env_disp) r h (stack_words below) below room agree (λ x g. seen_low r.slot below x g)))
        (same_number (level_at k r.job (place m.env_stack m.env_disp) (is_outermost r.job (place m.env_stack m.env_disp)) + 1) m.level)))
      where
        under : stack_words below ≡ stack_words below + 1 - 1
        under = omega arith

        to : (2 ≤ m.level) × (SeesEntered (seen_in r.slot below ++ out) (place m.env_stack m.env_disp) × (level_at k r.job (place m.env_stack m.env_disp) (is_outermost r.job (place m.env_stack m.env_disp)) + 1 ≡ m.level)) → LinkFacts below m.level (place m.env_stack m.env_disp)
        to (two, ((q, there, t), level)) = (
          record {
            low = two;
            high = omega (arith, small_level);
            standing = standing_of frame q;
            among = has_map (known_seen k r.job) (seen_in r.slot below ++ out) (place m.env_stack m.env_disp, q) there;
            entered = entered_forth frame q t;
            level_below = ap (λ n. n + 1) (level_seen below lift (place m.env_stack m.env_disp, q) there t) ∙ level;
          },
          spot_is k facts low size fixed near seen r h below (place m.env_stack m.env_disp, q) there,
        )

        from : LinkFacts below m.level (place m.env_stack m.env_disp) → (2 ≤ m.level) × (SeesEntered (seen_in r.slot below ++ out) (place m.env_stack m.env_disp) × (level_at k r.job (place m.env_stack m.env_disp) (is_outermost r.job (place m.env_stack m.env_disp)) + 1 ≡ m.level))
        from (e, at) =
            let b = has_map_back (known_seen k r.job) (seen_in r.slot below ++ out) (frame (place m.env_stack m.env_disp), e.standing) e.among in
            let x = b.item in
            let t = entered_back frame x.1 (subst IsEntered (ap (λ (y : Known). y.1) (sym b.is)) e.entered) in
            let here : x.0 ≡ place m.env_stack m.env_disp = sym (spot_is k facts low size fixed near seen r h below x b.among) ∙ ap (spot below) (ap (λ (y : Known). y.0) b.is) ∙ at in (
              e.low,
              (
                (x.1, subst (λ (q : StackPlace). Has (seen_in r.slot below ++ out) (q, x.1)) here b.among, t),
                ap (λ (q : StackPlace). level_at k r.job q (is_outermost r.job q) + 1) (sym here) ∙ ap (λ n. n + 1) (sym (level_seen below lift x b.among t) ∙ ap (λ (y : Known). level_of_standing y.1) b.is) ∙ e.level_below,
              ),
            )

    -- ---- one record

    abbrev CellsIn : List Activation → ℕ → ℕ → ℕ → ℕ → Type 0
    CellsIn acts owner s from n = Cells k.core P (placed k) r.job job (reach acts) owner frame array (spot acts) s from n

    -- these records are the last ones of the stack
    record Part (acts : List Activation) : Type 0 where
      pub agree : Agrees acts
      pub lift : Lifts acts
      pub within : stack_words acts ≤ stack_words (stack_of_row k r)

    part_below : (a : Activation) (below : List Activation) → Part (a ∷ below) → Part below
    part_below a below p = grind arith

    module _ (a : Activation) (below : List Activation) (p : Part (a ∷ below)) (f s : ℕ) (high : f ≤ s) (at_mark : suc (base_at k r) + stack_words below ≡ f) (top : base_at k r + stack_words (a ∷ below) ≡ s) where
      mark_low : stack_words below + 1 < k.regs.stack_size
      mark_low = (let more = mark_inside a below in let within = p.within in let room = words_low k facts low size fixed near r h in omega (arith, more, within, room))

      marks_agree : (d : ℕ) → d ≤ stack_words below + 1 → record_of_disp d (stack_of_row k r) ≡ record_of_disp d (a ∷ below)
      marks_agree d le = (let more = mark_inside a below in p.agree d (omega (arith, le, more)))

      marks_high : (x : Seen) → Has (seen_in r.slot (a ∷ below)) x → x.0.disp ≤ stack_words below + 1
      marks_high x h = grind (arith, seen_low)

      abbrev FineAt : ℕ → Type 0
      FineAt i = Fine k.core P (placed k) r.job job (reach (a ∷ below)) (named r.number (stack_words below + 1)) frame array (spot (a ∷ below)) s i

      one_cell : (i : ℕ) → f < i → i ≤ s → Decides (cell_stands k records kinds mine r (stack_words below + 1) s i (word_seen_at k.core i)) (FineAt i)
      one_cell i lo hi =
          let e = i - base_at k r in
          let at : base_at k r + (i - base_at k r) ≡ i = omega (arith, lo, at_mark) in
          let over : stack_words below < i - base_at k r = omega (arith, lo, at_mark) in
          let up = le_top (stack_words (a ∷ below)) top in
          let within = p.within in
          let half : record_of_disp (i - base_at k r) (stack_of_row k r) / 2 ≡ stack_words below + 1 = ap (λ n. n / 2) (p.agree (i - base_at k r) up ∙ top_record (i - base_at k r) a below over up) ∙ half_code (stack_words below + 1) a.head in
          subst (λ n. Decides (cell_stands k records kinds mine r (stack_words below + 1) s n (word_seen_at k.core n)) (FineAt n)) at
          (cell_decided k facts low size fixed near seen r h records table kinds marks marked (a ∷ below) p.lift (stack_words below + 1) mark_low marks_agree marks_high (spot (a ∷ below)) (spot_is k facts low size fixed near seen r h (a ∷ below)) s
          (i - base_at k r) (omega (arith, over)) (omega (arith, up, within)) half (word_small (base_at k r + (i - base_at k r))))
        where
          le_top : (n : ℕ) → base_at k r + n ≡ s → i - base_at k r ≤ n
          le_top n e = omega (arith, e, hi)

      every_cell : (from n : ℕ) → f < from → ((i : ℕ) → i < n → from + i ≤ s) → Decides (cells_stand k records kinds mine r (stack_words below + 1) s from n) ((i : ℕ) → i < n → FineAt (from + i))
      every_cell from zero lo hi = yes (λ i z. absurd (omega (arith, z)))
      every_cell from (suc n) lo hi =
          like (cell_stands k records kinds mine r (stack_words below + 1) s (from + n) (word_seen_at k.core (from + n)) && cells_stand k records kinds mine r (stack_words below + 1) s from n) to (λ g. (g n (omega arith), λ i lt. g i (omega (arith, lt))))
          (both (cell_stands k records kinds mine r (stack_words below + 1) s (from + n) (word_seen_at k.core (from + n))) (cells_stand k records kinds mine r (stack_words below + 1) s from n) (one_cell (from + n) (omega (arith, lo)) (hi n (omega arith))) (every_cell from n lo (λ i lt. hi i (omega (arith, lt)))))
        where
          to : FineAt (from + n) × ((i : ℕ) → i < n → FineAt (from + i)) → (i : ℕ) → i < suc n → FineAt (from + i)
          to (x, more) i lt = ⊎_elim (λ (l : i < n). more i l) (λ (le : n ≤ i). (let e : n ≡ i = omega (arith, lt, le) in subst (λ m. FineAt (from + m)) e x)) (cases_lt i n)

      homes : (from n : ℕ) → f < from → Homes k.core P (placed k) r.job job (reach (a ∷ below)) (named r.number (stack_words below + 1)) frame array (spot (a ∷ below)) s from n
      homes from n lo i lt c home e is = by (copy_source k facts low size fixed near seen r h records table kinds marks marked (a ∷ below) p.lift (stack_words below + 1) mark_low marks_agree marks_high (spot (a ∷ below)) (spot_is k facts low size fixed near seen r h (a ∷ below)) s c.index c.read_only home is) where
        by : (home < k.regs.stacks) ⊎ (is_original_word (word_seen_at k.core home) ≡ true) → (home < from) ⊎ (shape_in k.core home (word_seen_at k.core home) ≡ Shapes.Original home)
        by (inl before) = inl (omega (arith, before, lo, at_mark))
        by (inr o) = inr (original_shape k.core home (word_seen_at k.core home) o)

      all_cells : (from n : ℕ) → f < from → ((i : ℕ) → i < n → from + i ≤ s) → (0 < n → s < from + n) → Decides (cells_stand k records kinds mine r (stack_words below + 1) s from n) (CellsIn (a ∷ below) (named r.number (stack_words below + 1)) s from n)
      all_cells from n lo hi end =
          let both_ways = cells_fine k.core P (placed k) r.job job (reach (a ∷ below)) (named r.number (stack_words below + 1)) frame array (spot (a ∷ below)) s from n hi end (homes from n lo) in
          like (cells_stand k records kinds mine r (stack_words below + 1) s from n) both_ways.0 both_ways.1 (every_cell from n lo hi)

    abbrev FactsBy : List Known → List Known → Activation → List Activation → Type 0
    FactsBy R U a below =
        (CellsInOrder P job.arrays R (named r.number (stack_words below + 1)) (map (word_seen frame array) a.cells) × StandsInOrder U (standing_of frame a.head))
        × ((head (spot below) (standing_of frame a.head) ≡ a.head) × (map (shape (placed k) r.job job (spot (a ∷ below))) (map (word_seen frame array) a.cells) ≡ a.cells))

    abbrev RecordFacts : Activation → List Activation → Type 0
    RecordFacts a below = FactsBy (map known_of (frames (a ∷ below)) ++ outer k facts low size fixed near seen r h) (map known_of (frames below) ++ outer k facts low size fixed near seen r h) a below

    record_seen_so : (e : Bool) (f s : ℕ) (below : List Activation) → Part (activation_by k.core f s (mscw_in (word_seen_at k.core f)) e ∷ below) → f ≤ s → suc (base_at k r) + stack_words below ≡ f → base_at k r + stack_words (activation_by k.core f s (mscw_in (word_seen_at k.core f)) e ∷ below) ≡ s
        → Decides (record_stands_by k records kinds mine r (base_at k r) f s (mscw_in (word_seen_at k.core f)) e) (FactsBy (reach (activation_by k.core f s (mscw_in (word_seen_at k.core f)) e ∷ below)) (reach below) (activation_by k.core f s (mscw_in (word_seen_at k.core f)) e) below)
    record_seen_so true f s below p high at_mark top =
        let a = activation_by k.core f s (mscw_in (word_seen_at k.core f)) true in
        let m = mscw_in (word_seen_at k.core f) in
        let q = part_below a below p in
        let disp : stack_words below + 1 ≡ f - base_at k r = omega (arith, at_mark) in
        let room = mark_low a below p f s high at_mark top in
        let n = (word_seen_at k.core f).bits in
        subst (λ d. Decides (link_stands k records r d (mscw_in (word_seen_at k.core f)) && cells_stand k records kinds mine r d s (f + 2) (s - (f + 1))) (FactsBy (reach (activation_by k.core f s (mscw_in (word_seen_at k.core f)) true ∷ below)) (reach below) (activation_by k.core f s (mscw_in (word_seen_at k.core f)) true) below)) disp
        (like (link_stands k records r (stack_words below + 1) (mscw_in (word_seen_at k.core f)) && cells_stand k records kinds mine r (stack_words below + 1) s (f + 2) (s - (f + 1)))
        (λ y. ((y.1.0, y.0.0), (ap (λ (z : StackPlace). stack.Entered m.level z (return_by m.value (rcw_in (word_seen_at k.core (f + 1))) m.back)) y.0.1, y.1.1)))
        (λ y. ((y.0.1, ap environment_in y.1.0), (y.0.0, y.1.1)))
        (both (link_stands k records r (stack_words below + 1) (mscw_in (word_seen_at k.core f))) (cells_stand k records kinds mine r (stack_words below + 1) s (f + 2) (s - (f + 1)))
        (link_decided below q.agree q.lift (omega (arith, room)) (mscw_in (word_seen_at k.core f)) (let z : n / 2 ^ 14 % 2 ^ 5 < 2 ^ 5 = omega arith in z))
        (all_cells a below p f s high at_mark top (f + 2) (s - (f + 1)) (omega arith) (λ i lt. omega (arith, lt)) (λ some. omega (arith, some)))))
    record_seen_so false f s below p high at_mark top =
        let a = activation_by k.core f s (mscw_in (word_seen_at k.core f)) false in
        let disp : stack_words below + 1 ≡ f - base_at k r = omega (arith, at_mark) in
        subst (λ d. Decides (cells_stand k records kinds mine r d s (f + 1) (s - f)) (FactsBy (reach (activation_by k.core f s (mscw_in (word_seen_at k.core f)) false ∷ below)) (reach below) (activation_by k.core f s (mscw_in (word_seen_at k.core f)) false) below)) disp
        (like (cells_stand k records kinds mine r (stack_words below + 1) s (f + 1) (s - f)) (λ y. ((y.0, tt), (refl, y.1))) (λ y. (y.0.0, y.1.1))
        (all_cells a below p f s high at_mark top (f + 1) (s - f) (omega arith) (λ i lt. omega (arith, lt)) (λ some. omega (arith, some))))

    record_decided : (f s : ℕ) (below : List Activation) → Part (record_seen k.core f s ∷ below) → StandsHere k.core (base_at k r) f s below → Decides (record_stands k records kinds mine r (base_at k r) f s) (RecordFacts (record_seen k.core f s) below)
    unfolding record_stands
    record_decided f s below p st =
        let a = record_seen k.core f s in
        subst (λ R. Decides (record_stands k records kinds mine r (base_at k r) f s) (FactsBy R (map known_of (frames below) ++ outer k facts low size fixed near seen r h) (record_seen k.core f s) below)) (sym (reach_is k facts low size fixed near seen r h (record_seen k.core f s ∷ below)))
        (subst (λ U. Decides (record_stands k records kinds mine r (base_at k r) f s) (FactsBy (reach (record_seen k.core f s ∷ below)) U (record_seen k.core f s) below)) (sym (reach_is k facts low size fixed near seen r h below))
        (record_seen_so (mscw_in (word_seen_at k.core f)).entered f s below p st.high st.under st.top))

    -- ---- all records

    abbrev StackIs : List Activation → Type 0
    StackIs acts = FramesInOrder P job.arrays (outer k facts low size fixed near seen r h) (frames acts) × (activations (placed k) r.job job r.slot around (frames acts) ≡ acts)

    abbrev Q : ℕ → ℕ → ℕ → List Activation → Type 0
    Q n f s acts = Part acts → Decides (records_stand k records kinds mine r (base_at k r) n f s) (StackIs acts)

    join : (a : Activation) (below : List Activation) → RecordFacts a below × StackIs below → StackIs (a ∷ below)
    join a below (((cells, stands), (head_is, cells_are)), (more, same)) = grind arith

    split : (a : Activation) (below : List Activation) → StackIs (a ∷ below) → RecordFacts a below × StackIs below
    split a below ((cells, stands, more), same) = (((cells, stands), (ap (λ (xs : List Activation). (first_record xs).head) same, ap (λ (xs : List Activation). (first_record xs).cells) same)), (more, ap records_below same))

    stands_bottom : (n f s : ℕ) → s < length k.core → back_at k.core f ≡ 0 → StandsHere k.core (base_at k r) f s [] → f ≡ base_at k r + 1 → Q (suc n) f s (record_seen k.core f s ∷ [])
    unfolding records_stand
    stands_bottom n f s inside e st at p =
        like (record_stands k records kinds mine r (base_at k r) f s && stands_under (back_at k.core f) (λ d. records_stand k records kinds mine r (base_at k r) n (f - d) (f - 1))) (join (record_seen k.core f s) []) (split (record_seen k.core f s) [])
        (both (record_stands k records kinds mine r (base_at k r) f s) (stands_under (back_at k.core f) (λ d. records_stand k records kinds mine r (base_at k r) n (f - d) (f - 1))) (record_decided f s [] p st)
        (subst (λ m. Decides (stands_under m (λ d. records_stand k records kinds mine r (base_at k r) n (f - d) (f - 1))) (StackIs [])) (sym e) (yes (tt, refl))))

    stands_more : (n f s d : ℕ) → s < length k.core → back_at k.core f ≡ suc d → StandsHere k.core (base_at k r) f s (stack_seen k.core n (f - suc d) (f - 1)) → base_at k r + suc d < f → Q n (f - suc d) (f - 1) (stack_seen k.core n (f - suc d) (f - 1))
        → Q (suc n) f s (record_seen k.core f s ∷ stack_seen k.core n (f - suc d) (f - 1))
    unfolding records_stand
    stands_more n f s d inside e st far rec p =
        let below = stack_seen k.core n (f - suc d) (f - 1) in
        like (record_stands k records kinds mine r (base_at k r) f s && stands_under (back_at k.core f) (λ d. records_stand k records kinds mine r (base_at k r) n (f - d) (f - 1))) (join (record_seen k.core f s) below) (split (record_seen k.core f s) below)
        (both (record_stands k records kinds mine r (base_at k r) f s) (stands_under (back_at k.core f) (λ d. records_stand k records kinds mine r (base_at k r) n (f - d) (f - 1))) (record_decided f s (stack_seen k.core n (f - suc d) (f - 1)) p st)
        (subst (λ m. Decides (stands_under m (λ d. records_stand k records kinds mine r (base_at k r) n (f - d) (f - 1))) (StackIs (stack_seen k.core n (f - suc d) (f - 1)))) (sym e) (rec (part_below (record_seen k.core f s) (stack_seen k.core n (f - suc d) (f - 1)) p))))

    row_decided : Decides (row_stands k records kinds r) (CellFacts k mine r.job r)
    row_decided =
        let w = row_walks k facts low size fixed near r h in
        let top = w.high in
        let inside = w.inside in
        subst (λ o. Decides (row_stands_by k records kinds r o) (CellFacts k (of_row k facts r h).row r.job r)) (sym (of_row k facts r h).found)
        (like (records_stand k records kinds mine r (base_at k r) k.regs.stack_size (top_in k r).f (top_in k r).s) (λ y. record { frames = y.0; same = y.1 }) (λ c. (c.frames, c.same))
        (walk_induct k.core (base_at k r) r.slot w.segments Q stands_bottom stands_more k.regs.stack_size (level_in k r) (top_in k r).f (top_in k r).s (omega (arith, top, inside)) w.walk
        (record { agree = λ d le. refl; lift = λ x g. g; within = omega arith })))

  rows_decided : Decides (rows_stand k records kinds) (EachTask k (CellFacts k))
  rows_decided =
      like (rows_stand k records kinds)
      (λ f. each_task k facts (CellFacts k) (λ r h. f r h h))
      (λ each r h g. task_at k facts (CellFacts k) each r g)
      (each_in (row_stands k records kinds) (λ r. (g : Has k.tasks r) → CellFacts k (of_row k facts r g).row r.job r) k.tasks (λ r h. like (row_stands k records kinds r) (λ c g. moved r h g c) (λ c. c h) (row_decided r h)))
    where
      moved : (r : TaskRow) (h g : Has k.tasks r) → CellFacts k (of_row k facts r h).row r.job r → CellFacts k (of_row k facts r g).row r.job r
      moved r h g c = subst (λ (w : JobRow). CellFacts k w r.job r) (same_Some (of_row k facts r h).row (of_row k facts r g).row (sym (of_row k facts r h).found ∙ (of_row k facts r g).found)) c

pub cells_told : ReachIsSeen → CellsAreDecided
cells_told seen k low size records kinds facts fixed near small table marks = rows_decided k facts low size fixed near seen records table kinds marks (tables_mark k low size kinds facts fixed near marks).0 small
