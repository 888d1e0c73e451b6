-- The table of marks marks the objects that are shown.
use Rattle.std.proofs.Common.{◌≡◌, ◌≢◌, ℕ, zero, suc, ◌+◌, ◌-◌, ◌*◌, ◌/◌, ◌%◌, ◌^◌, ◌<◌, ◌≤◌, ◌==◌, Bool, true, false, List, [], ◌∷◌, map, length, get_or, Option, Some, None, refl, sym, ◌∙◌, ap, subst, arith, inl, inr, ⊎_elim, lt-ltb, le-ltb}
use Rattle.std.specs.Prelude.{◌&&◌, not, nat_lt, nat_le, flat_map, if◌then◌else◌}
use Rattle.std.specs.List.{slice_get}
use Rattle.std.proofs.lemmas.Bool.{cases_Bool, cases_eq, cases_lt, le-leb, lt-leb, eq-eqb, eqb-true, ltb-true, leb-true}
use Rattle.std.proofs.lemmas.Option.{same_Some}
use Rattle.std.proofs.lemmas.List.{get_or_past}
use Rattle.std.proofs.Math.Arith.{digits_div}
use Rattle.std.proofs.Math.Nat.{mul-le-mul_right, suc-mul}
use Rattle.b67_word.specs.Tagged.{Tagged, bits_at}
use Rattle.b67_ctl.specs.declared.descriptors.DataDesc.{DataDesc}
use Rattle.b67_ctl.specs.Layout.{toscw_word}
use Rattle.b67_area.specs.declared.Kind.TheVariants as kind
use Rattle.b67_lemmas.specs.Lists.{Has}
use Rattle.b67_lemmas.proofs.Members.{has_append_left, has_append_right, has_append_cases, has_map, has_flat, has_filter_in, keyed_has}
use Rattle.b67_stack.specs.Common as stack
use Rattle.b67_stack.specs.Common.{Locations, Shape, Is, Original, Copy, copy_desc, Fits, LieDownward, Head, HeadFits, HeadsFit, Activation, headed, stack_words, stack_level, mark_place, toscw_of, words, PagedObject}
use Rattle.b67_stack.proofs.Heights.{words-length}
use Rattle.b67_layout.specs.Common.{Placement, array_object, code_objects, objects_of, TaskRow, JobRow}
use Rattle.b67_layout_shown.specs.Reading.{word_seen_at, desc_in, is_set}
use Rattle.b67_layout_shown.specs.Places.{named}
use Rattle.b67_layout_shown.specs.Shown.{Sight, array_homed, array_shown, arrays_in, arrays_of, data_rows, segments_from, stack_of_row, rows_of, job_seen, member_in, dictionary_from, segments_of, home_of, top_by, top_in, shown, placed}
use Rattle.b67_layout_shown.proofs.Bits.{desc_read}
use Rattle.b67_layout_shown.proofs.Stacks.{word_is}
use Rattle.b67_image_shape.specs.TableFacts.{row_in_slot, rows_in, TableFacts}
use Rattle.b67_image_shape.specs.FixedWords.{DictionariesStandIn, FixedFacts}
use Rattle.b67_image_shape.specs.Held.{view_in}
use Rattle.b67_image_shape.specs.Items.{EachTask, base_at, StackFactsBy}
use Rattle.b67_image_shape.specs.ObjectMarks.{kind_code}
use Rattle.b67_image_shape.specs.ObjectTable.{entry_mark, has_entry_at, mark_in_dictionary, is_original_word, is_stack_original, stack_mark, mark_at, ObjectsAreMarkedBy}
use Rattle.b67_image_shape.proofs.Members.{row_of_member, row_there}
use Rattle.b67_layout_shown.proofs.Sorted.{sorted_there}
use Rattle.b67_image_shape.proofs.Rows.{of_row, row_fact, found_row}
use Rattle.b67_image_shape.proofs.EachTask.{task_at}
use Rattle.b67_image_shape.proofs.Sources.{dictionary_lies, entry_kind, InDictionary, InStack, source_by, name_is, home_is, home_row}

and_no : (x y : Bool) → y ≡ false → (x && y) ≡ false
and_no x y e = grind arith

and_yes : (x y : Bool) → x ≡ true → y ≡ true → (x && y) ≡ true
and_yes x y ex ey = rw (ex, ey) refl

and_both : (x y : Bool) → (x && y) ≡ true → (x ≡ true) × (y ≡ true)
and_both x y e = grind arith

-- ---- dictionaries

entry_code : (segments i : ℕ) → kind_code (entry_kind segments i) ≡ entry_mark segments i
entry_code segments i = grind arith

-- the mark of an entry
entry_here : (core : List Tagged) (stacks at : ℕ) (rows : List JobRow) (j : ℕ) (row : JobRow) (i : ℕ) → DictionariesStandIn core stacks at rows → slice_get rows j ≡ Some row → 1 ≤ i → i ≤ row.segments + row.rows
    → mark_in_dictionary rows (row.dictionary + 1 + i) ≡ entry_mark row.segments i
entry_here core stacks at [] j row i d e lo hi = absurd (let z : ⊥ = cc in z)
entry_here core stacks at (r ∷ more) zero row i d e lo hi = grind (arith, and_yes, lt-ltb, le-leb)
entry_here core stacks at (r ∷ more) (suc j) row i d e lo hi =
    let l = (dictionary_lies core stacks (at + (2 + (r.segments + r.rows))) more j row d.1 e).low in
    let place = d.0.place in
    ap (λ (b : Bool). if b then entry_mark r.segments (row.dictionary + 1 + i - (r.dictionary + 1)) else mark_in_dictionary more (row.dictionary + 1 + i))
    (and_no (nat_lt (r.dictionary + 1) (row.dictionary + 1 + i)) (nat_le (row.dictionary + 1 + i) (r.dictionary + 1 + (r.segments + r.rows))) (lt-leb (row.dictionary + 1 + i) (r.dictionary + 1 + (r.segments + r.rows)) (omega (arith, l, place))))
    ∙ entry_here core stacks (at + (2 + (r.segments + r.rows))) more j row i d.1 e lo hi

-- what a mark below the stacks tells
record EntryAt (rows : List JobRow) (at : ℕ) : Type 0 where
  pub j : ℕ
  pub row : JobRow
  pub found : slice_get rows j ≡ Some row
  pub i : ℕ
  pub low : 1 ≤ i
  pub high : i ≤ row.segments + row.rows
  pub is : at ≡ row.dictionary + 1 + i

entry_here_at : (r : JobRow) (more : List JobRow) (at : ℕ) → has_entry_at r at ≡ true → EntryAt (r ∷ more) at
entry_here_at r more at t =
    let (a, b) = and_both (nat_lt (r.dictionary + 1) at) (nat_le at (r.dictionary + 1 + (r.segments + r.rows))) t in
    let lo = ltb-true (r.dictionary + 1) at a in
    let hi = leb-true at (r.dictionary + 1 + (r.segments + r.rows)) b in
    record { j = 0; row = r; found = refl; i = at - (r.dictionary + 1); low = omega (arith, lo); high = omega (arith, hi, lo); is = omega (arith, lo) }

entry_later : (r : JobRow) (more : List JobRow) (at : ℕ) → EntryAt more at → EntryAt (r ∷ more) at
entry_later r more at rest = record { j = suc rest.j; row = rest.row; found = rest.found; i = rest.i; low = rest.low; high = rest.high; is = rest.is }

entry_at : (rows : List JobRow) (at : ℕ) → mark_in_dictionary rows at ≢ 0 → EntryAt rows at
entry_at [] at some = absurd (some refl)
entry_at (r ∷ more) at some = grind (arith, ⊎_elim, entry_here_at, entry_later, cases_Bool, entry_at more at)

code_there : (core : List Tagged) (plan : Placement) (j n at many i : ℕ) → n ≤ i → i < n + many → (t : PagedObject) × Has (code_objects plan j n (segments_from core at many)) t × (t.home ≡ plan.dictionary j + 1 + i)
code_there core plan j n at zero i lo hi = absurd (omega (arith, lo, hi))
code_there core plan j n at (suc many) i lo hi = ⊎_elim
    (λ e. (_, inl refl, ap (λ q. plan.dictionary j + 1 + q) (sym e)))
    (λ ne. let (t, h, home) = code_there core plan j (n + 1) (at + 1) many i (omega (arith, lo, ne)) (omega (arith, hi)) in (t, inr h, home))
    (cases_eq i n)

data_there : (core : List Tagged) (before many i : ℕ) → 1 ≤ i → i ≤ many → Has (data_rows core before many) (array_shown core i 1 false (before + i))
data_there core before zero i lo hi = absurd (omega (arith, lo, hi))
data_there core before (suc n) i lo hi = grind (arith, ⊎_elim, cases_eq, data_there core before n i lo)

-- ---- words of stacks

original_word : (held : Locations) (core : List Tagged) (from : ℕ) (xs : List Shape) (home : ℕ) → LieDownward (Fits held) core from xs → Has xs (Original home) → is_original_word (word_seen_at core home) ≡ true
original_word held core from [] home l h = absurd h
original_word held core from (a ∷ more) home l (inr h) = original_word held core from more home l.1 h
original_word held core from (a ∷ more) home l (inl e) = grind arith

-- a word that looks like an original is one
word_original : (held : Locations) (a : Shape) (at : ℕ) (w : Tagged) → Fits held a at w → is_original_word w ≡ true → a ≡ Original at
word_original held a at w f e = grind arith

among_words : (held : Locations) (core : List Tagged) (from : ℕ) (xs : List Shape) (i : ℕ) → LieDownward (Fits held) core from xs → from ≤ i → i < from + length xs → is_original_word (word_seen_at core i) ≡ true → Has xs (Original i)
among_words held core from [] i l lo hi e = absurd (omega (arith, lo, hi))
among_words held core from (a ∷ more) i l lo hi e = grind (arith, ⊎_elim, word_is, word_original, cases_eq, among_words held core from more i l.1 lo)

-- ---- arrays of a stack

cell_array : (core : List Tagged) (owner : ℕ) (array : ℕ → ℕ) (cells : List Shape) (i : ℕ) → Has cells (Original i) → Has (arrays_in core owner array cells) (array_shown core (array i) owner true i)
cell_array core owner array [] i h = absurd h
cell_array core owner array (Is w ∷ more) i (inl e) = absurd (let z : ⊥ = cc in z)
cell_array core owner array (Is w ∷ more) i (inr h) = cell_array core owner array more i h
cell_array core owner array (Copy c home ∷ more) i (inl e) = absurd (let z : ⊥ = cc in z)
cell_array core owner array (Copy c home ∷ more) i (inr h) = cell_array core owner array more i h
cell_array core owner array (Original home ∷ more) i (inl e) = grind arith
cell_array core owner array (Original home ∷ more) i (inr h) = inr (cell_array core owner array more i h)

below_head : (k : ℕ) (h : Head) (below : List Activation) (under : List Shape) (i : ℕ) → Has (headed k h below under) (Original i) → Has under (Original i)
below_head k h below under i e = grind arith

stack_array : (core : List Tagged) (slot number : ℕ) (array : ℕ → ℕ) (acts : List Activation) (i : ℕ) → Has (words slot acts) (Original i) → (owner : ℕ) × Has (arrays_of core number array acts) (array_shown core (array i) owner true i)
stack_array core slot number array [] i h = absurd h
stack_array core slot number array (a ∷ below) i h = elim (has_append_cases a.cells (headed slot a.head below (words slot below)) (Original i) h) [
  | inl z ↦ (named number (stack_words below + 1), has_append_left (arrays_in core (named number (stack_words below + 1)) array a.cells) (arrays_of core number array below) _ (cell_array core (named number (stack_words below + 1)) array a.cells i z))
  | inr z ↦
      let (owner, g) = stack_array core slot number array below i (below_head slot a.head below (words slot below) i z) in
      (owner, has_append_right (arrays_in core (named number (stack_words below + 1)) array a.cells) (arrays_of core number array below) _ g)
]

-- ---- tops

level_by : (q : Head) (below : List Activation) → HeadFits q below → stack_level below < 2 ^ 5 → stack.level_from q (stack_level below) < 2 ^ 5
level_by q below f low = grind arith

level_small : (acts : List Activation) → HeadsFit acts → stack_level acts < 2 ^ 5
level_small [] h = omega arith
level_small (a ∷ below) h = level_by a.head below h.0 (level_small below h.1)

place_low : (stack : List Activation) → mark_place stack ≤ stack_words stack
place_low stack = grind arith

toscw_s : (s l f : ℕ) → s < 2 ^ 16 → l < 2 ^ 5 → f < 2 ^ 14 → (s * 2 ^ 20 + l * 2 ^ 14 + f) / 2 ^ 20 % 2 ^ 16 ≡ s
toscw_s s l f sh lh fh = omega arith

module _ (held : Locations) (k : Sight) (facts : TableFacts k) (low size : ℕ) (fixed : FixedFacts k low size) (stacks : EachTask k (StackFactsBy held k)) where
  top_is : (r : TaskRow) → Has k.tasks r → (top_in k r).s ≡ base_at k r + stack_words (stack_of_row k r)
  top_is r h = ⊎_elim runs waits (cases_Bool (r.slot == k.regs.slot))
    where
      s : StackFactsBy held k (of_row k facts r h).row r.job r
      s = task_at k facts (StackFactsBy held k) stacks r h

      runs : (r.slot == k.regs.slot) ≡ true → (top_in k r).s ≡ base_at k r + stack_words (stack_of_row k r)
      runs t = ap (λ b. (top_by k r (base_at k r) b).s) t ∙ (s.top.runs (eqb-true r.slot k.regs.slot t)).top

      waits : (r.slot == k.regs.slot) ≡ false → (top_in k r).s ≡ base_at k r + stack_words (stack_of_row k r)
      waits t =
          let w = s.top.waits (λ e. let z : true ≡ false = sym (eq-eqb r.slot k.regs.slot e) ∙ t in let y : ⊥ = cc in y) in
          let fits = s.fits.fits in
          let room = fixed.stack_high in
          let f = place_low (stack_of_row k r) in
          ap (λ b. (top_by k r (base_at k r) b).s) t
          ∙ ap (λ (v : Tagged). base_at k r + bits_at v 20 16) (word_is k.core (base_at k r) (toscw_word (toscw_of (stack_of_row k r))) w)
          ∙ ap (λ n. base_at k r + n) (toscw_s (stack_words (stack_of_row k r)) (stack_level (stack_of_row k r)) (mark_place (stack_of_row k r)) (omega (arith, fits, room)) (level_small (stack_of_row k r) s.fits.heads) (omega (arith, fits, room, f)))

  -- ---- each object is marked

  below_core : k.regs.stacks ≤ length k.core
  below_core = let l = fixed.begins in let i = fixed.inside in omega (arith, l, i)

  entry_marked : (t : PagedObject) → InDictionary k t → (mark_at k t.home ≡ kind_code t.kind) × (t.home < length k.core)
  entry_marked t d =
      let lies = dictionary_lies k.core k.regs.stacks 160 k.jobs d.j d.row fixed.dictionaries d.found in
      grind (arith, below_core, lt-ltb, entry_here, entry_code)

  slot_fits : (r : TaskRow) → Has k.tasks r → base_at k r + k.regs.stack_size ≤ length k.core
  slot_fits r h =
      let slot = (row_fact k facts r h).slot in
      let l = fixed.begins in
      let i = fixed.inside in
      slot_room k.regs.stacks r.slot k.regs.stack_size k.regs.peak low (length k.core) slot l i
    where
      slot_room : (stacks slot size peak low all : ℕ) → slot < peak → low ≡ stacks + peak * size → low ≤ all → stacks + slot * size + size ≤ all
      slot_room stacks slot size peak low all s l i = let m = mul_more slot peak size s in omega (arith, l, i, m)
        where
          mul_more : (a b c : ℕ) → a < b → a * c + c ≤ b * c
          mul_more a b c h =
              let more : suc a ≤ b = omega (arith, h) in
              let m : suc a * c ≤ b * c = mul-le-mul_right c more in
              let s = suc-mul a c in
              omega (arith, m, s)

  place_in : (r : TaskRow) → Has k.tasks r → (d : ℕ) → d < k.regs.stack_size → row_in_slot k.tasks ((base_at k r + d - k.regs.stacks) / k.regs.stack_size) ≡ Some r
  place_in r h d small =
      let rest : k.regs.stacks + r.slot * k.regs.stack_size + d - k.regs.stacks ≡ r.slot * k.regs.stack_size + d = omega arith in
      ap (λ n. row_in_slot k.tasks (n / k.regs.stack_size)) rest ∙ ap (row_in_slot k.tasks) (digits_div r.slot small) ∙ found_row k facts r h

  original_marked : (t : PagedObject) → InStack k t → (mark_at k t.home ≡ kind_code t.kind) × (t.home < length k.core)
  original_marked t s =
      let f = task_at k facts (StackFactsBy held k) stacks s.r s.there in
      let fits = f.fits.fits in
      let hi = s.high in
      let lo = s.low in
      let e = s.home in
      let all = slot_fits s.r s.there in
      let top = top_is s.r s.there in
      let w = original_word held k.core (suc (base_at k s.r)) (words s.r.slot (stack_of_row k s.r)) t.home f.lie s.among in (
        ap (λ (b : Bool). if b then mark_in_dictionary k.jobs t.home else stack_mark k t.home (row_in_slot k.tasks ((t.home - k.regs.stacks) / k.regs.stack_size))) (le-ltb t.home k.regs.stacks (omega (arith, e)))
            ∙ ap (stack_mark k t.home) (ap (λ n. row_in_slot k.tasks ((n - k.regs.stacks) / k.regs.stack_size)) e ∙ place_in s.r s.there s.d (omega (arith, hi, fits)))
            ∙ ap (λ (b : Bool). if b then 1 else 0) (and_yes (nat_lt (base_at k s.r) t.home) (nat_le t.home (top_in k s.r).s && is_original_word (word_seen_at k.core t.home)) (lt-ltb (base_at k s.r) t.home (omega (arith, e, lo)))
            (and_yes (nat_le t.home (top_in k s.r).s) (is_original_word (word_seen_at k.core t.home)) (le-leb t.home (top_in k s.r).s (omega (arith, top, e, hi))) w))
            ∙ ap kind_code (sym s.kind_is),
        omega (arith, e, hi, fits, all),
      )

  marked_at : (t : PagedObject) → Has (view_in k).objects t → (mark_at k t.home ≡ kind_code t.kind) × (t.home < length k.core)
  marked_at t h = elim (source_by held k facts low size fixed stacks t h).from [ inl d ↦ entry_marked t d | inr s ↦ original_marked t s ]

  -- ---- each mark is an object's

  abbrev Object : ℕ → Type 0
  Object i = (t : PagedObject) × Has (view_in k).objects t × (t.home ≡ i)

  object_in : (j : ℕ) (row : JobRow) → slice_get k.jobs j ≡ Some row → (t : PagedObject) → Has (objects_of (placed k) (member_in k row (1 + j))) t → Has (view_in k).objects t
  object_in j row e t h = has_flat (objects_of (placed k)) (shown k).jobs (member_in k row (1 + j)) t (row_there k 1 k.jobs j row e) h

  places : (j : ℕ) (row : JobRow) → slice_get k.jobs j ≡ Some row → (dictionary_from k.jobs 1 (1 + j) ≡ row.dictionary) × (segments_of k.jobs 1 (1 + j) ≡ row.segments)
  places j row e =
      let m = row_of_member k 1 k.jobs (member_in k row (1 + j)) (row_there k 1 k.jobs j row e) in
      grind (arith, same_Some)

  entry_object : (i : ℕ) → EntryAt k.jobs i → Object i
  entry_object at e = ⊎_elim of_row_data of_segment (cases_lt e.row.segments e.i)
    where
      p : (dictionary_from k.jobs 1 (1 + e.j) ≡ e.row.dictionary) × (segments_of k.jobs 1 (1 + e.j) ≡ e.row.segments)
      p = places e.j e.row e.found

      of_segment : e.i ≤ e.row.segments → Object at
      of_segment hi =
          let (t, h, home) = code_there k.core (placed k) (1 + e.j) 1 (e.row.dictionary + 2) e.row.segments e.i e.low (omega (arith, hi)) in
          let dict = p.0 in
          let is = e.is in
          (t, object_in e.j e.row e.found t (has_append_left (code_objects (placed k) (1 + e.j) 1 (segments_from k.core (e.row.dictionary + 2) e.row.segments)) (map (array_object (placed k) (1 + e.j)) (job_seen k e.row (1 + e.j)).arrays) t h), omega (arith, home, dict, is))

      of_row_data : e.row.segments < e.i → Object at
      of_row_data lo =
          let n = e.i - e.row.segments in
          let before = e.row.dictionary + 1 + e.row.segments in
          let a = array_shown k.core (e.i - e.row.segments) 1 false (e.row.dictionary + 1 + e.row.segments + (e.i - e.row.segments)) in
          let hi = e.high in
          let lies = dictionary_lies k.core k.regs.stacks 160 k.jobs e.j e.row fixed.dictionaries e.found in
          let few = lies.few in
          let dict = p.0 in
          let segs = p.1 in
          let is = e.is in
          let there = data_there k.core (e.row.dictionary + 1 + e.row.segments) e.row.rows (e.i - e.row.segments) (omega (arith, lo)) (omega (arith, hi, lo)) in
          let among = has_append_right (flat_map (λ (r : TaskRow). arrays_of k.core r.number (array_homed k.regs k.tasks e.row) (stack_of_row k r)) (rows_of k.tasks (1 + e.j))) (data_rows k.core (e.row.dictionary + 1 + e.row.segments) e.row.rows) a there in
          let object = has_map (array_object (placed k) (1 + e.j)) (job_seen k e.row (1 + e.j)).arrays a among in
          let home = home_row k facts (1 + e.j) (e.i - e.row.segments) (omega (arith, hi, few)) in (
            array_object (placed k) (1 + e.j) a,
            object_in e.j e.row e.found (array_object (placed k) (1 + e.j) a) (has_append_right (code_objects (placed k) (1 + e.j) 1 (segments_from k.core (e.row.dictionary + 2) e.row.segments)) (map (array_object (placed k) (1 + e.j)) (job_seen k e.row (1 + e.j)).arrays) (array_object (placed k) (1 + e.j) a) object),
            home ∙ (let z : dictionary_from k.jobs 1 (1 + e.j) + 1 + segments_of k.jobs 1 (1 + e.j) + (e.i - e.row.segments) ≡ at = omega (arith, dict, segs, is, lo) in z),
          )

  stack_object : (r : TaskRow) → Has k.tasks r → (i : ℕ) → base_at k r < i → i ≤ (top_in k r).s → is_original_word (word_seen_at k.core i) ≡ true → Object i
  stack_object r h i lo hi w =
      let o = of_row k facts r h in
      let f = task_at k facts (StackFactsBy held k) stacks r h in
      let fits = f.fits.fits in
      let room = fixed.stack_high in
      let top = top_is r h in
      let long = words-length r.slot (stack_of_row k r) in
      let some = (row_fact k facts r h).from_one in
      let at : 1 + (r.job - 1) ≡ r.job = omega (arith, some) in
      let among = among_words held k.core (suc (base_at k r)) (words r.slot (stack_of_row k r)) i f.lie (omega (arith, lo)) (omega (arith, hi, top, long)) w in
      let (owner, g) = stack_array k.core r.slot r.number (array_homed k.regs k.tasks o.row) (stack_of_row k r) i among in
      let a = array_shown k.core (array_homed k.regs k.tasks o.row i) owner true i in
      let rows = has_filter_in (λ (q : TaskRow). q.job == r.job) k.tasks r h (eq-eqb r.job r.job refl) in
      let mine = has_flat (λ (q : TaskRow). arrays_of k.core q.number (array_homed k.regs k.tasks o.row) (stack_of_row k q)) (rows_of k.tasks r.job) r a (sorted_there (rows_in k.tasks r.job) r rows) g in
      let array = has_append_left (flat_map (λ (q : TaskRow). arrays_of k.core q.number (array_homed k.regs k.tasks o.row) (stack_of_row k q)) (rows_of k.tasks r.job)) (data_rows k.core (o.row.dictionary + 1 + o.row.segments) o.row.rows) a mine in
      let object = has_map (array_object (placed k) r.job) (job_seen k o.row r.job).arrays a array in
      let d : base_at k r + (i - base_at k r) ≡ i = omega (arith, lo) in
      let name : array_homed k.regs k.tasks o.row i ≡ named r.number (i - base_at k r) = ap (array_homed k.regs k.tasks o.row) (sym d) ∙ name_is k facts r h o.row (i - base_at k r) (omega (arith, lo, hi, top, fits)) in
      let home : home_of k r.job (array_homed k.regs k.tasks o.row i) ≡ i = ap (home_of k r.job) name ∙ home_is k facts r h (i - base_at k r) (omega (arith, lo, hi, top, fits, room)) ∙ d in (
        array_object (placed k) r.job a,
        has_flat (objects_of (placed k)) (shown k).jobs (member_in k o.row r.job) (array_object (placed k) r.job a) o.among
            (has_append_right (code_objects (placed k) r.job 1 (segments_from k.core (o.row.dictionary + 2) o.row.segments)) (map (array_object (placed k) r.job) (job_seen k o.row r.job).arrays) (array_object (placed k) r.job a) object),
        home,
      )

  found_original : (i : ℕ) (o : Option TaskRow) → row_in_slot k.tasks ((i - k.regs.stacks) / k.regs.stack_size) ≡ o → stack_mark k i o ≢ 0 → Object i
  found_original i None e some = absurd (some refl)
  found_original i (Some r) e some =
      let (h, q) = keyed_has (λ (w : TaskRow). w.slot) ((i - k.regs.stacks) / k.regs.stack_size) k.tasks r e in
      ⊎_elim
      (λ t.
      let (a, rest) = and_both (nat_lt (base_at k r) i) (nat_le i (top_in k r).s && is_original_word (word_seen_at k.core i)) t in
      let (b, w) = and_both (nat_le i (top_in k r).s) (is_original_word (word_seen_at k.core i)) rest in
      stack_object r h i (ltb-true (base_at k r) i a) (leb-true i (top_in k r).s b) w)
      (λ t. absurd (some (ap (λ (b : Bool). if b then 1 else 0) t)))
      (cases_Bool (is_stack_original k i r))

  object_at : (i : ℕ) → mark_at k i ≢ 0 → Object i
  object_at i some = ⊎_elim
      (λ (lt : i < k.regs.stacks). entry_object i (entry_at k.jobs i (λ z. some (ap (λ (b : Bool). if b then mark_in_dictionary k.jobs i else stack_mark k i (row_in_slot k.tasks ((i - k.regs.stacks) / k.regs.stack_size))) (lt-ltb i k.regs.stacks lt) ∙ z))))
      (λ le. found_original i (row_in_slot k.tasks ((i - k.regs.stacks) / k.regs.stack_size)) refl (λ z. some (ap (λ (b : Bool). if b then mark_in_dictionary k.jobs i else stack_mark k i (row_in_slot k.tasks ((i - k.regs.stacks) / k.regs.stack_size))) (le-ltb i k.regs.stacks le) ∙ z)))
      (cases_lt i k.regs.stacks)

pub objects_marked_by : ObjectsAreMarkedBy
objects_marked_by held k low size kinds facts fixed stacks many marks = record {
  each = λ t h. let (m, inside) = marked_at held k facts low size fixed stacks t h in marks t.home inside ∙ m;
  only = λ i some. object_at held k facts low size fixed stacks i (λ z. some (at_mark i z));
  inside = λ t h. (marked_at held k facts low size fixed stacks t h).1;
  numbers = λ t h. (source_by held k facts low size fixed stacks t h).numbers;
}
  where
    at_mark : (i : ℕ) → mark_at k i ≡ 0 → get_or kinds i 0 ≡ 0
    at_mark i z = ⊎_elim (λ lt. marks i lt ∙ z) (λ past. get_or_past kinds i 0 (omega (arith, many, past))) (cases_lt i (length k.core))
