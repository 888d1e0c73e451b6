-- Where the arrays of a job stand, by the tables of marks and of records.
use Rattle.std.proofs.Common.{◌≡◌, ◌≢◌, ℕ, zero, suc, ◌+◌, ◌-◌, ◌*◌, ◌/◌, ◌<◌, ◌≤◌, ◌==◌, Bool, true, false, List, [], ◌∷◌, map, length, Some, refl, sym, ◌∙◌, ap, subst, arith, inl, inr, lt-ltb, le-ltb}
use Rattle.std.specs.Prelude.{◌⊎◌, ◌&&◌, not, nat_lt, nat_le, flat_map, slice_index, if◌then◌else◌}
use Rattle.std.specs.List.{slice_get}
use Rattle.std.proofs.lemmas.Bool.{cases_lt, le-leb, eqb-true, ltb-true, leb-true}
use Rattle.std.proofs.lemmas.Option.{same_Some}
use Rattle.std.proofs.Math.Arith.{digits_div}
use Rattle.b67_word.specs.Tagged.{Tagged}
use Rattle.b67_area.specs.declared.Kind.TheVariants as kind
use Rattle.b67_lemmas.specs.Lists.{Has}
use Rattle.b67_lemmas.proofs.Members.{has_append_cases, has_map_back, has_flat_back, has_filter}
use Rattle.b67_model.specs.Common.{Array, Segment, SessionJob}
use Rattle.b67_stack.specs.Common.{Shape, Activation, stack_words, PagedObject}
use Rattle.b67_layout.specs.Common.{Placement, array_object, code_objects, objects_of, TaskRow, JobRow}
use Rattle.b67_layout_shown.specs.Reading.{word_seen_at, is_set, mscw_in, desc_in, descriptor_by, shape_by, cells_in, activation_by, stack_seen}
use Rattle.b67_layout_shown.specs.Places.{named}
use Rattle.b67_layout_shown.specs.Shown.{Sight, array_homed, array_shown, arrays_in, arrays_of, data_rows, segments_from, stack_of_row, rows_of, job_seen, member_in, home_of, dictionary_from, segments_of, top_in, shown, placed}
use Rattle.b67_image_shape.specs.TableFacts.{row_in_slot, rows_in, TableFacts}
use Rattle.b67_image_shape.specs.FixedWords.{FixedFacts}
use Rattle.b67_image_shape.specs.Held.{view_in}
use Rattle.b67_image_shape.specs.Items.{base_at}
use Rattle.b67_image_shape.specs.ObjectMarks.{kind_code, AreMarked}
use Rattle.b67_image_shape.specs.ObjectTable.{mark_in_dictionary, is_original_word, stack_mark}
use Rattle.b67_image_shape.specs.NearStacks.{NearStacks}
use Rattle.b67_image_shape.specs.TableMarks.{IsTable}
use Rattle.b67_image_shape.specs.TaskWalk.{level_in}
use Rattle.b67_image_shape.specs.RecordTable.{record_of_disp}
use Rattle.b67_image_shape.specs.CellWalk.{row_holding}
use Rattle.b67_image_shape.proofs.Members.{row_of_member}
use Rattle.b67_layout_shown.proofs.Sorted.{sorted_has}
use Rattle.b67_image_shape.proofs.Rows.{apart_cases, found_row}
use Rattle.b67_image_shape.proofs.Sources.{dictionary_lies, row_array, name_is, home_is, home_row}
use Rattle.b67_image_shape.proofs.RecordsSeen.{low_record, top_record, half_code}
use Rattle.b67_image_shape.proofs.RecordsFilled.{row_walks, slots_apart}
use Rattle.b67_image_shape.proofs.WalkInduct.{back_at, record_seen, StandsHere, walk_induct}

joined : (a b : Bool) → a ≡ true → b ≡ true → (a && b) ≡ true
joined a b e f = ap (λ x. x && b) e ∙ f

no_both : (b : Bool) → b ≡ false → b ≡ true → ⊥
no_both b e f = let z : true ≡ false = sym f ∙ e in let y : ⊥ = cc in y

original_word : (w : Tagged) → (w.tag == 5) ≡ true → is_set w 46 ≡ false → is_original_word w ≡ true
original_word w t c = joined (w.tag == 5) (not (is_set w 46)) t (ap not c)

-- ---- arrays of one stack

module _ (core : List Tagged) (base number : ℕ) (array : ℕ → ℕ) where
  -- an array whose original is a word of these records
  pub record OfRecords (acts : List Activation) (a : Array) : Type 0 where
    pub d : ℕ
    pub some : 0 < d
    pub low : d ≤ stack_words acts
    pub is : a ≡ array_shown core (array (base + d)) (named number (record_of_disp d acts / 2)) true (base + d)
    pub original : is_original_word (word_seen_at core (base + d)) ≡ true

  -- one whose original is among these cells
  record OfCells (owner from n : ℕ) (a : Array) : Type 0 where
    pub i : ℕ
    pub low : i < n
    pub is : a ≡ array_shown core (array (from + i)) owner true (from + i)
    pub original : is_original_word (word_seen_at core (from + i)) ≡ true

  more_cells : (owner from n : ℕ) (a : Array) → OfCells owner from n a → OfCells owner from (suc n) a
  more_cells owner from n a o = (let low = o.low in record { i = o.i; low = omega (arith, low); is = o.is; original = o.original })

  of_cells : (owner from n : ℕ) (a : Array) → Has (arrays_in core owner array (cells_in core from n)) a → OfCells owner from n a
  of_cells owner from zero a h = absurd h
  of_cells owner from (suc n) a h = by (of_cells owner from n a) ((word_seen_at core (from + n)).tag == 5) refl h where
    deep : (Has (arrays_in core owner array (cells_in core from n)) a → OfCells owner from n a) → (c : Bool) → is_set (word_seen_at core (from + n)) 46 ≡ c → ((word_seen_at core (from + n)).tag == 5) ≡ true
        → Has (arrays_in core owner array (descriptor_by core (from + n) (desc_in (word_seen_at core (from + n))) c ∷ cells_in core from n)) a → OfCells owner from (suc n) a
    deep rec true f e g = more_cells owner from n a (rec g)
    deep rec false f e (inl z) = record { i = n; low = omega arith; is = sym z; original = original_word (word_seen_at core (from + n)) e f }
    deep rec false f e (inr g) = more_cells owner from n a (rec g)

    by : (Has (arrays_in core owner array (cells_in core from n)) a → OfCells owner from n a) → (t : Bool) → ((word_seen_at core (from + n)).tag == 5) ≡ t → Has (arrays_in core owner array (shape_by core (from + n) (word_seen_at core (from + n)) t ∷ cells_in core from n)) a → OfCells owner from (suc n) a
    by rec false e g = more_cells owner from n a (rec g)
    by rec true e g = deep rec (desc_in (word_seen_at core (from + n))).copy refl e g

  -- the cells of a record
  pub record CellsOf (f s : ℕ) (a : Activation) : Type 0 where
    pub from : ℕ
    pub many : ℕ
    pub cells : a.cells ≡ cells_in core from many
    pub above : f < from
    pub inside : (i : ℕ) → i < many → from + i ≤ s

  cells_of : (f s : ℕ) → CellsOf f s (record_seen core f s)
  cells_of f s = grind arith

  abbrev Q : ℕ → ℕ → ℕ → List Activation → Type 0
  Q n f s acts = (a : Array) → Has (arrays_of core number array acts) a → OfRecords acts a

  here_of : (f s : ℕ) (below : List Activation) → StandsHere core base f s below → (a : Array) → Has (arrays_in core (named number (stack_words below + 1)) array (record_seen core f s).cells) a → OfRecords (record_seen core f s ∷ below) a
  here_of f s below st a h =
      let c = cells_of f s in
      let o = of_cells (named number (stack_words below + 1)) c.from c.many a (subst (λ (xs : List Shape). Has (arrays_in core (named number (stack_words below + 1)) array xs) a) c.cells h) in
      let above = c.above in
      let under = st.under in
      let top = st.top in
      let high = c.inside o.i o.low in
      let at : base + (c.from + o.i - base) ≡ c.from + o.i = omega (arith, above, under) in
      let low : stack_words below < c.from + o.i - base = omega (arith, above, under) in
      let up = le_top (stack_words (record_seen core f s ∷ below)) (c.from + o.i) top high in
      let mark : record_of_disp (c.from + o.i - base) (record_seen core f s ∷ below) / 2 ≡ stack_words below + 1 = ap (λ n. n / 2) (top_record (c.from + o.i - base) (record_seen core f s) below low up) ∙ half_code (stack_words below + 1) (record_seen core f s).head in
      record {
        d = c.from + o.i - base;
        some = omega (arith, low);
        low = up;
        is = o.is ∙ ap (λ n. array_shown core (array n) (named number (stack_words below + 1)) true n) (sym at) ∙ ap (λ n. array_shown core (array (base + (c.from + o.i - base))) (named number n) true (base + (c.from + o.i - base))) (sym mark);
        original = ap (λ n. is_original_word (word_seen_at core n)) at ∙ o.original;
      }
    where
      le_top : (n i : ℕ) → base + n ≡ s → i ≤ s → i - base ≤ n
      le_top n i e h = omega (arith, e, h)

  deeper_of : (f s : ℕ) (below : List Activation) → StandsHere core base f s below → (a : Array) → OfRecords below a → OfRecords (record_seen core f s ∷ below) a
  deeper_of f s below st a o = grind arith

  bottom_of : (n f s : ℕ) → s < length core → back_at core f ≡ 0 → StandsHere core base f s [] → f ≡ base + 1 → Q (suc n) f s (record_seen core f s ∷ [])
  bottom_of n f s inside e st at a h = elim (has_append_cases (arrays_in core (named number (0 + 1)) array (record_seen core f s).cells) [] a h) [ inl g ↦ here_of f s [] st a g | inr g ↦ absurd g ]

  more_of : (n f s d : ℕ) → s < length core → back_at core f ≡ suc d → StandsHere core base f s (stack_seen core n (f - suc d) (f - 1)) → base + suc d < f → Q n (f - suc d) (f - 1) (stack_seen core n (f - suc d) (f - 1)) → Q (suc n) f s (record_seen core f s ∷ stack_seen core n (f - suc d) (f - 1))
  more_of n f s d inside e st far rec a h = elim (has_append_cases (arrays_in core (named number (stack_words (stack_seen core n (f - suc d) (f - 1)) + 1)) array (record_seen core f s).cells) (arrays_of core number array (stack_seen core n (f - suc d) (f - 1))) a h) [
    | inl g ↦ here_of f s (stack_seen core n (f - suc d) (f - 1)) st a g
    | inr g ↦ deeper_of f s (stack_seen core n (f - suc d) (f - 1)) st a (rec a g)
  ]

-- ---- arrays of a job

-- an original of a live task's stack, at a displacement
pub record StandsIn (k : Sight) (j home : ℕ) (a : Array) : Type 0 where
  pub q : TaskRow
  pub there : Has k.tasks q
  pub job : q.job ≡ j
  pub d : ℕ
  pub some : 0 < d
  pub low : d ≤ stack_words (stack_of_row k q)
  pub home_is : home ≡ base_at k q + d
  pub named_is : a.identity ≡ named q.number d
  pub owner : a.owner ≡ named q.number (record_of_disp d (stack_of_row k q) / 2)
  pub writes : a.writable ≡ true
  pub original : is_original_word (word_seen_at k.core (base_at k q + d)) ≡ true

-- a data row
pub record RowIn (row : JobRow) (home : ℕ) (a : Array) : Type 0 where
  pub n : ℕ
  pub low : 1 ≤ n
  pub high : n ≤ row.rows
  pub home_is : home ≡ row.dictionary + 1 + row.segments + n
  pub named_is : a.identity ≡ n
  pub owner : a.owner ≡ 1
  pub writes : a.writable ≡ false

module _ (k : Sight) (facts : TableFacts k) (low size : ℕ) (fixed : FixedFacts k low size) (near : NearStacks k) where
  pub words_low : (r : TaskRow) → Has k.tasks r → stack_words (stack_of_row k r) < k.regs.stack_size
  words_low r h = (let w = row_walks k facts low size fixed near r h in let top = w.top in let high = w.high in omega (arith, top, high))

  in_rows : (row : JobRow) (j : ℕ) → slice_get k.jobs (j - 1) ≡ Some row → dictionary_from k.jobs 1 j ≡ row.dictionary → segments_of k.jobs 1 j ≡ row.segments → (a : Array) → Has (data_rows k.core (row.dictionary + 1 + row.segments) row.rows) a → RowIn row (home_of k j a.identity) a
  in_rows row j found dict segs a g =
      let q = row_array k.core (row.dictionary + 1 + row.segments) row.rows a g in
      grind (arith, dictionary_lies, home_is, home_row)

  in_stack : (row : JobRow) (j : ℕ) (a : Array) (r : TaskRow) → Has (rows_of k.tasks j) r → Has (arrays_of k.core r.number (array_homed k.regs k.tasks row) (stack_of_row k r)) a → StandsIn k j (home_of k j a.identity) a
  in_stack row j a r hr ha =
      let f = has_filter (λ (q : TaskRow). q.job == j) k.tasks r (sorted_has (rows_in k.tasks j) r hr) in
      let job = eqb-true r.job j f.1 in
      let w = row_walks k facts low size fixed near r f.0 in
      let top = w.high in
      let inside = w.inside in
      let o = walk_induct k.core (base_at k r) r.slot w.segments (Q k.core (base_at k r) r.number (array_homed k.regs k.tasks row)) (bottom_of k.core (base_at k r) r.number (array_homed k.regs k.tasks row)) (more_of k.core (base_at k r) r.number (array_homed k.regs k.tasks row))
      k.regs.stack_size (level_in k r) (top_in k r).f (top_in k r).s (omega (arith, top, inside)) w.walk a ha in
      grind (arith, words_low, name_is, home_is)

  -- each array of a job is one or the other
  pub array_from : (row : JobRow) (j : ℕ) → slice_get k.jobs (j - 1) ≡ Some row → dictionary_from k.jobs 1 j ≡ row.dictionary → segments_of k.jobs 1 j ≡ row.segments → (a : Array) → Has (job_seen k row j).arrays a → RowIn row (home_of k j a.identity) a ⊎ StandsIn k j (home_of k j a.identity) a
  array_from row j found dict segs a h = elim (has_append_cases (flat_map (λ (r : TaskRow). arrays_of k.core r.number (array_homed k.regs k.tasks row) (stack_of_row k r)) (rows_of k.tasks j)) (data_rows k.core (row.dictionary + 1 + row.segments) row.rows) a h) [
    | inl z ↦ (let q = has_flat_back (λ (r : TaskRow). arrays_of k.core r.number (array_homed k.regs k.tasks row) (stack_of_row k r)) (rows_of k.tasks j) a z in inr (in_stack row j a q.item q.among q.inside))
    | inr z ↦ inl (in_rows row j found dict segs a z)
  ]

  -- ---- the task in whose slot an address is

  held_in : (h : ℕ) (rs : List TaskRow) (q : TaskRow) → row_holding k h rs ≡ Some q → Has rs q × (base_at k q ≤ h) × (h < base_at k q + k.regs.stack_size)
  held_in h [] q e = absurd (let z : ⊥ = cc in z)
  held_in h (r ∷ more) q e = grind (arith, same_Some, leb-true, ltb-true, held_in h more q)

  pub held : (h : ℕ) (q : TaskRow) → row_holding k h k.tasks ≡ Some q → Has k.tasks q × (base_at k q ≤ h) × (h < base_at k q + k.regs.stack_size)
  held h q e = held_in h k.tasks q e

  -- two slots that have one address are one
  pub one_slot : (r q : TaskRow) → Has k.tasks r → Has k.tasks q → (h : ℕ) → base_at k r ≤ h → h < base_at k r + k.regs.stack_size → base_at k q ≤ h → h < base_at k q + k.regs.stack_size → r ≡ q
  one_slot r q hr hq h a b c d = grind (arith, apart_cases, cases_lt, slots_apart)

  holds_in : (q : TaskRow) → Has k.tasks q → (h : ℕ) → base_at k q ≤ h → h < base_at k q + k.regs.stack_size → (rs : List TaskRow) → ((r : TaskRow) → Has rs r → Has k.tasks r) → Has rs q → row_holding k h rs ≡ Some q
  holds_in q hq h lo hi [] live g = absurd g
  holds_in q hq h lo hi (r ∷ more) live g = by (nat_le (base_at k r) h) (nat_lt h (base_at k r + k.regs.stack_size)) refl refl (rest g (holds_in q hq h lo hi more (λ p z. live p (inr z)))) where
    rest : Has (r ∷ more) q → (Has more q → row_holding k h more ≡ Some q) → ((base_at k r ≤ h) × (h < base_at k r + k.regs.stack_size) → ⊥) → row_holding k h more ≡ Some q
    rest (inl e) go n = absurd (n (subst (λ (p : TaskRow). base_at k p ≤ h) (sym e) lo, subst (λ (p : TaskRow). h < base_at k p + k.regs.stack_size) (sym e) hi))
    rest (inr z) go n = go z

    by : (x y : Bool) → nat_le (base_at k r) h ≡ x → nat_lt h (base_at k r + k.regs.stack_size) ≡ y → (((base_at k r ≤ h) × (h < base_at k r + k.regs.stack_size) → ⊥) → row_holding k h more ≡ Some q) → (if x && y then Some r else row_holding k h more) ≡ Some q
    by true true x y go = ap Some (one_slot r q (live r (inl refl)) hq h (leb-true (base_at k r) h x) (ltb-true h (base_at k r + k.regs.stack_size) y) lo hi)
    by true false x y go = go (λ p. no_both (nat_lt h (base_at k r + k.regs.stack_size)) y (lt-ltb h (base_at k r + k.regs.stack_size) p.1))
    by false y0 x y go = go (λ p. no_both (nat_le (base_at k r) h) x (le-leb (base_at k r) h p.0))

  pub holds : (q : TaskRow) → Has k.tasks q → (h : ℕ) → base_at k q ≤ h → h < base_at k q + k.regs.stack_size → row_holding k h k.tasks ≡ Some q
  holds q hq h lo hi = holds_in q hq h lo hi k.tasks (λ r g. g) hq

  -- ---- by the table of marks

  module _ (kinds : List ℕ) (table : IsTable k kinds) (marked : AreMarked k.core kinds (view_in k).objects) where
    -- an original is marked
    pub original_marked : (q : TaskRow) → Has k.tasks q → (d : ℕ) → 0 < d → d ≤ stack_words (stack_of_row k q) → is_original_word (word_seen_at k.core (base_at k q + d)) ≡ true → slice_index kinds (base_at k q + d) ≡ 1
    original_marked q h d some words original =
        let w = row_walks k facts low size fixed near q h in
        let top = w.top in
        let high = w.high in
        let inside = w.inside in
        let room = words_low q h in
        let rest : base_at k q + d - k.regs.stacks ≡ q.slot * k.regs.stack_size + d = omega arith in
        table.marks (base_at k q + d) (omega (arith, words, room, inside))
        ∙ ap (λ (b : Bool). if b then mark_in_dictionary k.jobs (base_at k q + d) else stack_mark k (base_at k q + d) (row_in_slot k.tasks ((base_at k q + d - k.regs.stacks) / k.regs.stack_size))) (le-ltb (base_at k q + d) k.regs.stacks (omega arith))
        ∙ ap (λ n. stack_mark k (base_at k q + d) (row_in_slot k.tasks (n / k.regs.stack_size))) rest
        ∙ ap (λ n. stack_mark k (base_at k q + d) (row_in_slot k.tasks n)) (digits_div q.slot (omega (arith, words, room)))
        ∙ ap (stack_mark k (base_at k q + d)) (found_row k facts q h)
        ∙ ap (λ (b : Bool). if b then 1 else 0) (joined (nat_lt (base_at k q) (base_at k q + d)) (nat_le (base_at k q + d) (top_in k q).s && is_original_word (word_seen_at k.core (base_at k q + d))) (lt-ltb (base_at k q) (base_at k q + d) (omega (arith, some)))
        (joined (nat_le (base_at k q + d) (top_in k q).s) (is_original_word (word_seen_at k.core (base_at k q + d))) (le-leb (base_at k q + d) (top_in k q).s (omega (arith, top, words))) original))

    -- where a mark of an array stands in the slot of a task of the job, an array of the job has its original
    module _ (row : JobRow) (j : ℕ) (found : slice_get k.jobs (j - 1) ≡ Some row) (q : TaskRow) (h : ℕ) (holding : row_holding k h k.tasks ≡ Some q) (job : q.job ≡ j) where
      pub record ArrayHere : Type 0 where
        pub item : Array
        pub live : Has (job_seen k row j).arrays item
        pub stands : StandsIn k j h item
        pub home : home_of k j item.identity ≡ h

      stands_here : (other : JobRow) (i : ℕ) → slice_get k.jobs (i - 1) ≡ Some other → (a : Array) → Has (job_seen k other i).arrays a → StandsIn k i (home_of k i a.identity) a → home_of k i a.identity ≡ h → ArrayHere
      stands_here other i at a ha s home =
          let words = s.low in
          let room = words_low s.q s.there in
          let is = s.home_is in
          let (there, lo, hi) = held h q holding in
          let same : s.q ≡ q = one_slot s.q q s.there there h (omega (arith, is, home)) (omega (arith, is, home, words, room)) lo hi in
          grind (arith, same_Some)

      code_kind : (plan : Placement) (i n : ℕ) (ss : List Segment) (t : PagedObject) → Has (code_objects plan i n ss) t → t.kind ≡ kind.Code
      code_kind plan i n [] t g = absurd g
      code_kind plan i n (s ∷ more) t (inl e) = ap (λ (y : PagedObject). y.kind) (sym e)
      code_kind plan i n (s ∷ more) t (inr g) = code_kind plan i (n + 1) more t g

      row_kind : (i : ℕ) (a : Array) → a.writable ≡ false → kind_code (array_object (placed k) i a).kind ≡ 2
      row_kind i a e = ap (λ (b : Bool). kind_code (if b then kind.Array else kind.Row)) e

      pub array_here : slice_index kinds h ≡ 1 → ArrayHere
      array_here one =
          let (t, there, home) = marked.only h (λ z. omega (arith, one, z)) in
          let code : kind_code t.kind ≡ 1 = sym (marked.each t there) ∙ ap (slice_index kinds) home ∙ one in
          let y = has_flat_back (objects_of (placed k)) (shown k).jobs t there in
          let m = row_of_member k 1 k.jobs y.item y.among in
          let i = y.item.constants.number in
          of_object t home code m.row i m.found m.dictionary m.segments (subst (λ (z : SessionJob). Has (objects_of (placed k) z) t) (sym m.is) y.inside)
        where
          of_object : (t : PagedObject) → t.home ≡ h → kind_code t.kind ≡ 1 → (other : JobRow) (i : ℕ) → slice_get k.jobs (i - 1) ≡ Some other → dictionary_from k.jobs 1 i ≡ other.dictionary → segments_of k.jobs 1 i ≡ other.segments → Has (objects_of (placed k) (member_in k other i)) t → ArrayHere
          of_object t home code other i at dict segs g = elim (has_append_cases (code_objects (placed k) i 1 (segments_from k.core (other.dictionary + 2) other.segments)) (map (array_object (placed k) i) (job_seen k other i).arrays) t g) [
            | inl z ↦ absurd (let c = ap kind_code (code_kind (placed k) i 1 (segments_from k.core (other.dictionary + 2) other.segments) t z) in omega (arith, c, code))
            | inr z ↦
                let b = has_map_back (array_object (placed k) i) (job_seen k other i).arrays t z in
                let at_home : home_of k i b.item.identity ≡ h = ap (λ (y : PagedObject). y.home) b.is ∙ home in
                elim (array_from other i at dict segs b.item b.among) [
                  | inl r ↦ absurd (let c = row_kind i b.item r.writes in let e = ap (λ (y : PagedObject). kind_code y.kind) b.is in omega (arith, c, e, code))
                  | inr s ↦ stands_here other i at b.item b.among s at_home
                ]
          ]
