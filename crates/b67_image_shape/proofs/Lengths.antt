-- Arrays and segments that are shown are in order exactly if they have the right lengths, where core's words have 48 bits.
use Rattle.std.proofs.Common.{◌≡◌, ◌≢◌, ℕ, zero, suc, ◌+◌, ◌-◌, ◌^◌, ◌<◌, ◌≤◌, ◌==◌, Bool, true, false, List, [], ◌∷◌, map, replicate, length, Option, Some, None, refl, sym, ◌∙◌, ap, subst, arith, inl, inr}
use Rattle.std.specs.Prelude.{◌↔◌, flat_map, unwrap_or, if◌then◌else◌}
use Rattle.std.specs.List.{AllByRecursion, slice_get}
use Rattle.b67_word.specs.Tagged.{Tagged, word, bits_at}
use Rattle.b67_area.specs.declared.Kind.TheVariants as kind
use Rattle.b67_lemmas.specs.Lists.{Has}
use Rattle.b67_lemmas.proofs.Members.{all_in, all_from, has_get, has_map, has_map_back, has_filter, has_flat, has_flat_back, has_append_left, has_append_right, has_append_cases}
use Rattle.b67_model.specs.Common.{Array, Segment, SessionJob, ArrayInOrder}
use Rattle.b67_model.specs.InOrder.{SegmentInOrder}
use Rattle.b67_stack.specs.Shapes as shapes
use Rattle.b67_stack.specs.Common.{Shape, Is, Copy, Activation, stack_words, PagedObject}
use Rattle.b67_layout.specs.Common.{Placement, array_object, code_objects, objects_of, TaskRow, JobRow}
use Rattle.b67_layout_shown.specs.Reading.{word_seen_at, is_set, desc_in}
use Rattle.b67_layout_shown.specs.Places.{named}
use Rattle.b67_layout_shown.specs.Shown.{Sight, array_homed, numbers_seen, contents_by, arrays_in, arrays_of, data_rows, segments_from, stack_of_row, rows_of, constants_in, job_seen, member_in, shown, placed}
use Rattle.b67_image_shape.specs.TableFacts.{rows_in, EachJob, TableFacts}
use Rattle.b67_image_shape.specs.Held.{view_in}
use Rattle.b67_image_shape.specs.Items.{JobObjectFacts}
use Rattle.b67_image_shape.specs.ObjectMarks.{longest, AreLong}
use Rattle.b67_image_shape.proofs.Members.{row_of_member, row_there}
use Rattle.b67_layout_shown.proofs.Sorted.{sorted_has}
use Rattle.b67_image_shape.proofs.Rows.{each_at, each_from}
use Rattle.b67_image_shape.proofs.Sources.{number_some}

abbrev pub AreSmall : List ℕ → Type 0
AreSmall ns = AllByRecursion (λ n. n < 2 ^ 48) ns

abbrev pub WordsAreSmall : List Tagged → Type 0
WordsAreSmall core = (w : Tagged) → Has core w → w.bits < 2 ^ 48

zeros : (n : ℕ) → AreSmall (replicate n zero)
zeros zero = tt
zeros (suc n) = (omega arith, zeros n)

module _ (core : List Tagged) (small : WordsAreSmall core) where
  word_small : (i : ℕ) → (word_seen_at core i).bits < 2 ^ 48
  word_small i = by (slice_get core i) refl where
    by : (o : Option Tagged) → slice_get core i ≡ o → (unwrap_or o (word 0 0)).bits < 2 ^ 48
    by None e = omega arith
    by (Some w) e = small w (has_get core i w e)

  from_small : (at n : ℕ) → AreSmall (numbers_seen core at n)
  from_small at zero = tt
  from_small at (suc n) = (word_small at, from_small (at + 1) n)

  contents_small : (n at : ℕ) (b : Bool) → AreSmall (contents_by core n at b)
  contents_small n at b = grind (arith, from_small, zeros)

  segments_small : (at n : ℕ) → AllByRecursion (λ (s : Segment). AreSmall s.code) (segments_from core at n)
  segments_small at zero = tt
  segments_small at (suc n) = let w = word_seen_at core at in (contents_small (bits_at w 20 20) (bits_at w 0 20) (is_set w 47), segments_small (at + 1) n)

  -- an array of a frame: written, owned by it, of small numbers
  in_cells : (owner : ℕ) (array : ℕ → ℕ) (cells : List Shape) (a : Array) → Has (arrays_in core owner array cells) a → (a.writable ≡ true) × ((a.owner ≡ owner) × AreSmall a.numbers)
  in_cells owner array [] a h = absurd h
  in_cells owner array (Is w ∷ more) a h = in_cells owner array more a h
  in_cells owner array (Copy c home ∷ more) a h = in_cells owner array more a h
  in_cells owner array (shapes.Original home ∷ more) a (inl e) = grind (arith, contents_small)
  in_cells owner array (shapes.Original home ∷ more) a (inr h) = in_cells owner array more a h

  in_acts : (number : ℕ) → 0 < number → (array : ℕ → ℕ) (acts : List Activation) (a : Array) → Has (arrays_of core number array acts) a → (a.writable ≡ true) × ((a.owner ≢ 1) × AreSmall a.numbers)
  in_acts number some array [] a h = absurd h
  in_acts number some array (c ∷ below) a h = grind (arith, has_append_cases, in_cells, in_acts number some array below a)

  in_rows : (before n : ℕ) (a : Array) → Has (data_rows core before n) a → (a.writable ≡ false) × ((a.owner ≡ 1) × AreSmall a.numbers)
  in_rows before zero a h = absurd h
  in_rows before (suc n) a (inl e) = grind (arith, contents_small)
  in_rows before (suc n) a (inr h) = in_rows before n a h

writes_stack : (a : Array) → a.writable ≡ true → a.owner ≢ 1 → (a.writable ≡ false) ↔ (a.owner ≡ 1)
writes_stack a w o = ((λ e. absurd (let z : ⊥ = (let q = sym w ∙ e in cc) in z)), λ e. absurd (o e))

writes_row : (a : Array) → a.writable ≡ false → a.owner ≡ 1 → (a.writable ≡ false) ↔ (a.owner ≡ 1)
writes_row a w o = ((λ e. o), λ e. w)

-- a segment's object
code_there : (plan : Placement) (j n : ℕ) (ss : List Segment) (s : Segment) → Has ss s → (t : PagedObject) × Has (code_objects plan j n ss) t × (t.kind ≡ kind.Code) × (t.numbers ≡ s.code)
code_there plan j n [] s h = absurd h
code_there plan j n (x ∷ more) s (inl e) = (record { home = plan.dictionary j + 1 + n; kind = kind.Code; numbers = x.code }, inl refl, refl, ap (λ (z : Segment). z.code) e)
code_there plan j n (x ∷ more) s (inr h) = let (t, there, kd, ns) = code_there plan j (n + 1) more s h in (t, inr there, kd, ns)

segment_of : (plan : Placement) (j n : ℕ) (ss : List Segment) (t : PagedObject) → Has (code_objects plan j n ss) t → (s : Segment) × Has ss s × (t.kind ≡ kind.Code) × (t.numbers ≡ s.code)
segment_of plan j n [] t h = absurd h
segment_of plan j n (s ∷ more) t (inl e) = (s, inl refl, ap (λ (q : PagedObject). q.kind) (sym e), ap (λ (q : PagedObject). q.numbers) (sym e))
segment_of plan j n (s ∷ more) t (inr h) = let (q, there, kd, e) = segment_of plan j (n + 1) more t h in (q, inr there, kd, e)

array_longest : (b : Bool) → longest (if b then kind.Array else kind.Row) ≡ 2 ^ 16
array_longest b = grind arith

module _ (k : Sight) (facts : TableFacts k) where
  inside : (i : ℕ) (row : JobRow) → slice_get k.jobs i ≡ Some row → (t : PagedObject) → Has (objects_of (placed k) (member_in k row (1 + i))) t → Has (view_in k).objects t
  inside i row e t h = has_flat (objects_of (placed k)) (shown k).jobs (member_in k row (1 + i)) t (row_there k 1 k.jobs i row e) h

  pub long_facts : WordsAreSmall k.core → AreLong (view_in k).objects → EachJob (JobObjectFacts k) 1 k.jobs
  long_facts small long = each_from (JobObjectFacts k) 1 k.jobs (λ i row e. record { arrays = all_from ArrayInOrder (job_seen k row (1 + i)).arrays (array i row e); segments = all_from SegmentInOrder (constants_in k row (1 + i)).segments (segment i row e) }) where
    segment : (i : ℕ) (row : JobRow) → slice_get k.jobs i ≡ Some row → (s : Segment) → Has (constants_in k row (1 + i)).segments s → SegmentInOrder s
    segment i row e s h =
        let (t, there, kd, ns) = code_there (placed k) (1 + i) 1 (constants_in k row (1 + i)).segments s h in
        let l = long t (inside i row e t (has_append_left (code_objects (placed k) (1 + i) 1 (constants_in k row (1 + i)).segments) (map (array_object (placed k) (1 + i)) (job_seen k row (1 + i)).arrays) t there)) in
        let n = ap (λ (ns : List ℕ). length ns) ns in
        let top : longest t.kind ≡ 2 ^ 13 = ap longest kd in
        record { length_low = omega (arith, l, n); length_high = omega (arith, l, n, top); words = all_in (λ (s : Segment). AreSmall s.code) (constants_in k row (1 + i)).segments s (segments_small k.core small (row.dictionary + 2) row.segments) h }

    array : (i : ℕ) (row : JobRow) → slice_get k.jobs i ≡ Some row → (a : Array) → Has (job_seen k row (1 + i)).arrays a → ArrayInOrder a
    array i row e a h =
        let t = array_object (placed k) (1 + i) a in
        let l = long (array_object (placed k) (1 + i) a) (inside i row e (array_object (placed k) (1 + i) a) (has_append_right (code_objects (placed k) (1 + i) 1 (constants_in k row (1 + i)).segments) (map (array_object (placed k) (1 + i)) (job_seen k row (1 + i)).arrays) (array_object (placed k) (1 + i) a) (has_map (array_object (placed k) (1 + i)) (job_seen k row (1 + i)).arrays a h))) in
        let top = array_longest a.writable in
        elim (has_append_cases (flat_map (λ (r : TaskRow). arrays_of k.core r.number (array_homed k.regs k.tasks row) (stack_of_row k r)) (rows_of k.tasks (1 + i))) (data_rows k.core (row.dictionary + 1 + row.segments) row.rows) a h) [
          | inl z ↦
              let q = has_flat_back (λ (r : TaskRow). arrays_of k.core r.number (array_homed k.regs k.tasks row) (stack_of_row k r)) (rows_of k.tasks (1 + i)) a z in
              let f = has_filter (λ (r : TaskRow). r.job == 1 + i) k.tasks q.item (sorted_has (rows_in k.tasks (1 + i)) q.item q.among) in
              let w = in_acts k.core small q.item.number (number_some k facts q.item f.0) (array_homed k.regs k.tasks row) (stack_of_row k q.item) a q.inside in
              record { length_low = l.0; length_high = omega (arith, l, top); words = w.1.1; writes = writes_stack a w.0 w.1.0 }
          | inr z ↦ (let w = in_rows k.core small (row.dictionary + 1 + row.segments) row.rows a z in record { length_low = l.0; length_high = omega (arith, l, top); words = w.1.1; writes = writes_row a w.0 w.1.0 })
        ]

  pub facts_long : EachJob (JobObjectFacts k) 1 k.jobs → AreLong (view_in k).objects
  facts_long each t h =
      let q = has_flat_back (objects_of (placed k)) (shown k).jobs t h in
      let m = row_of_member k 1 k.jobs q.item q.among in
      in_job q.item.constants.number m.row m.found m.low (subst (λ (y : SessionJob). Has (objects_of (placed k) y) t) (sym m.is) q.inside) where
        in_job : (j : ℕ) (row : JobRow) → slice_get k.jobs (j - 1) ≡ Some row → 1 ≤ j → Has (objects_of (placed k) (member_in k row j)) t → (0 < length t.numbers) × (length t.numbers < longest t.kind)
        in_job j row found some h =
            let at : 1 + (j - 1) ≡ j = omega (arith, some) in
            let f = subst (λ i. JobObjectFacts k i row) at (each_at (JobObjectFacts k) 1 k.jobs (j - 1) row each found) in
            elim (has_append_cases (code_objects (placed k) j 1 (constants_in k row j).segments) (map (array_object (placed k) j) (job_seen k row j).arrays) t h) [
              | inl z ↦
                  let (s, there, kd, e) = segment_of (placed k) j 1 (constants_in k row j).segments t z in
                  let o = all_in SegmentInOrder (constants_in k row j).segments s f.segments there in
                  let a = o.length_low in
                  let b = o.length_high in
                  let c = ap (λ (ns : List ℕ). length ns) e in
                  let top : longest t.kind ≡ 2 ^ 13 = ap longest kd in
                  (omega (arith, a, c), omega (arith, b, c, top))
              | inr z ↦
                  let b = has_map_back (array_object (placed k) j) (job_seen k row j).arrays t z in
                  let o = all_in ArrayInOrder (job_seen k row j).arrays b.item f.arrays b.among in
                  let high = o.length_high in
                  let top = array_longest b.item.writable in
                  subst (λ (q : PagedObject). (0 < length q.numbers) × (length q.numbers < longest q.kind)) b.is (o.length_low, omega (arith, high, top))
            ]
