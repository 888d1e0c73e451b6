-- A cell is in order exactly if its word passes.
use Rattle.std.proofs.Common.{◌≡◌, ℕ, zero, suc, ◌+◌, ◌-◌, ◌*◌, ◌/◌, ◌%◌, ◌^◌, ◌<◌, ◌≤◌, ◌==◌, Bool, true, false, List, [], ◌∷◌, ◌++◌, map, Option, Some, None, refl, sym, ◌∙◌, ap, subst, arith, inl, inr, ⊎_elim, lt-ltb}
use Rattle.std.specs.Prelude.{◌⊎◌, ◌&&◌, ◌||◌, not, nat_lt, nat_le, slice_index, unwrap_or, flat_map, if◌then◌else◌}
use Rattle.std.proofs.lemmas.Bool.{cases_Bool, cases_lt, eq-eqb, ne_eqb, eqb-true, eqb-false}
use Rattle.std.proofs.lemmas.Bool.Decides.{Decides-or}
use Rattle.std.proofs.lemmas.Option.{same_Some}
use Rattle.b67_word.specs.Tagged.{Tagged, word, bits_at}
use Rattle.b67_word.specs.declared.couples.Place.{Place}
use Rattle.b67_ctl.specs.declared.descriptors.DataDesc.{DataDesc}
use Rattle.b67_ctl.specs.Layout.{irw_word, sirw_word, pcw_word}
use Rattle.b67_lemmas.specs.Lists.{Has}
use Rattle.b67_lemmas.proofs.Members.{keyed_has, has_append_right}
use Rattle.b67_model.specs.Keyed.{keyed}
use Rattle.b67_model.specs.Words as Words
use Rattle.b67_model.specs.Common.{Word, Array, Job, Starts, Known, IsSegment, NamesEntered, NamesArray, WordInOrder, no_array}
use Rattle.b67_model.specs.Arrays.{array as array_item}
use Rattle.b67_stack.specs.Shapes as Shapes
use Rattle.b67_stack.specs.Common as stack
use Rattle.b67_stack.specs.Common.{Shape, Is, Copy, StackPlace, Activation, stack_words}
use Rattle.b67_layout.specs.Common.{Placement, TaskRow, JobRow}
use Rattle.b67_layout.specs.Layout.{shape}
use Rattle.b67_layout_shown.specs.Places.{named}
use Rattle.b67_layout_shown.specs.Reading.{word_seen_at, is_set, desc_in, home_by, index_by, descriptor_by, shape_by, shape_in}
use Rattle.b67_layout_shown.specs.Seen.{Seen, seen_in, from_disp, base_seen, seen_from, known_seen, ReachIsSeen}
use Rattle.b67_layout_shown.specs.Shown.{Sight, frame_seen, array_homed, array_shown, arrays_of, data_rows, copy_by, reference_by, plain_by, word_seen, number_seen, constants_in, stack_of_row, rows_of, job_seen, member_in, home_of, dictionary_from, segments_of, placed}
use Rattle.b67_image_shape.specs.Deciding.{Decides}
use Rattle.b67_image_shape.specs.TableFacts.{row_in_slot, TableFacts}
use Rattle.b67_image_shape.specs.FixedWords.{FixedFacts}
use Rattle.b67_image_shape.specs.Held.{location_in, view_in}
use Rattle.b67_image_shape.specs.Items.{base_at}
use Rattle.b67_image_shape.specs.NearStacks.{NearStacks}
use Rattle.b67_image_shape.specs.ObjectMarks.{AreMarked}
use Rattle.b67_image_shape.specs.ObjectTable.{is_original_word}
use Rattle.b67_image_shape.specs.TableMarks.{IsTable}
use Rattle.b67_image_shape.specs.RecordTable.{record_of_disp, IsRecordTable}
use Rattle.b67_image_shape.specs.CellWalk.{place, is_in_sight, reference_stands, procedure_stands, is_data_row, array_in_sight, row_holding, copy_stands, cell_stands}
use Rattle.b67_image_shape.proofs.Deciding.{same_number, less, at_most, both, like, yes, nothing}
use Rattle.b67_image_shape.proofs.Members.{row_of_member}
use Rattle.b67_image_shape.proofs.Rows.{of_row}
use Rattle.b67_image_shape.proofs.Sources.{dictionary_lies, number_some, name_is, home_row}
use Rattle.b67_image_shape.proofs.Spots.{in_slot, dictionary_name}
use Rattle.b67_image_shape.proofs.TaskWalked.{segments_long}
use Rattle.b67_image_shape.proofs.RecordsSeen.{half_low}
use Rattle.b67_image_shape.proofs.SightSeen.{SeesEntered, in_sight}
use Rattle.b67_image_shape.proofs.SightNames.{place_of, place_small, same_place, names_seen, seen_named, words_small}
use Rattle.b67_image_shape.proofs.CellsRead.{StandsIn, RowIn, words_low, array_from, held, one_slot, holds, original_marked, array_here}
use Rattle.b67_model.specs.declared.limits.TheConstants.{MOST_PARTS}

-- ---- numbers

sirw_bits : (n : ℕ) → n < 2 ^ 48 → n / 2 ^ 46 % 2 ^ 2 ≡ 1 → n / 2 ^ 12 % 2 ^ 8 ≡ 0 → (2 ^ 46 + n / 2 ^ 36 % 2 ^ 10 * 2 ^ 36 + n / 2 ^ 20 % 2 ^ 16 * 2 ^ 20 + n / 2 ^ 0 % 2 ^ 13 ≡ n) × (n / 2 ^ 0 % 2 ^ 13 < 2 ^ 12)
sirw_bits n a b c = (omega (arith, a, b, c), omega (arith, c))

sirw_parts : (n s d o : ℕ) → s < 2 ^ 10 → d < 2 ^ 16 → o < 2 ^ 12 → 2 ^ 46 + s * 2 ^ 36 + d * 2 ^ 20 + o ≡ n → (n / 2 ^ 46 % 2 ^ 2 ≡ 1) × ((n / 2 ^ 12 % 2 ^ 8 ≡ 0) × ((n / 2 ^ 36 % 2 ^ 10 ≡ s) × (n / 2 ^ 20 % 2 ^ 16 ≡ d)))
sirw_parts n s d o a b c e = (omega (arith, a, b, c, e), (omega (arith, a, b, c, e), (omega (arith, a, b, c, e), omega (arith, a, b, c, e))))

pcw_bits : (n : ℕ) → n < 2 ^ 48 → n / 2 ^ 19 % 2 ^ 1 ≡ 0 → n / 2 ^ 36 % 2 ^ 12 ≡ 0 → n / 2 ^ 33 % 2 ^ 3 * 2 ^ 33 + n / 2 ^ 20 % 2 ^ 13 * 2 ^ 20 + n / 2 ^ 14 % 2 ^ 5 * 2 ^ 14 + n / 2 ^ 0 % 2 ^ 14 ≡ n
pcw_bits n a b c = omega (arith, a, b, c)

pcw_parts : (n y w l g : ℕ) → y < 2 ^ 3 → w < 2 ^ 13 → l < 2 ^ 5 → g < 2 ^ 14 → y * 2 ^ 33 + w * 2 ^ 20 + l * 2 ^ 14 + g ≡ n → (n / 2 ^ 19 % 2 ^ 1 ≡ 0) × (n / 2 ^ 36 % 2 ^ 12 ≡ 0)
pcw_parts n y w l g a b c d e = (omega (arith, a, b, c, d, e), omega (arith, a, b, c, d, e))

word_of : (w : Tagged) (t n : ℕ) → w.tag ≡ t → n ≡ w.bits → word t n ≡ w
word_of w t n e f = ap (λ m. word m n) (sym e) ∙ ap (word w.tag) f

abbrev word_in : Shape → Tagged
word_in (Is w) = w
word_in (Shapes.Original home) = word 0 0
word_in (Copy c home) = word 0 0

abbrev home_in : Shape → ℕ
home_in (Is w) = 0
home_in (Shapes.Original home) = home
home_in (Copy c home) = home

abbrev flag_in : Shape → Bool
flag_in (Is w) = false
flag_in (Shapes.Original home) = false
flag_in (Copy c home) = c.read_only

itself : (b : Bool) → Decides b (b ≡ true)
itself b = (λ e. e, λ e. e)

halves : (a b : Bool) → (a && b) ≡ true → (a ≡ true) × (b ≡ true)
halves a b e = grind arith

joined : (a b : Bool) → a ≡ true → b ≡ true → (a && b) ≡ true
joined a b e f = ap (λ x. x && b) e ∙ f

clash : {b : Bool} → b ≡ true → b ≡ false → ⊥
clash e f = let z : true ≡ false = sym e ∙ f in let y : ⊥ = cc in y

no_more : (a : Bool) → (a || false) ≡ a
no_more a = grind arith

only_five : (a b c x y z : Bool) → a ≡ false → b ≡ false → c ≡ false → (a || ((b && x) || ((c && y) || (true && z)))) ≡ z
only_five a b c x y z e f g = rw (e, f, g) refl

-- ---- what is asked of a cell

abbrev pub CellSame : Starts → Placement → ℕ → Job → List Known → ℕ → (StackPlace → ℕ) → (ℕ → ℕ) → (ℕ → StackPlace) → Shape → Type 0
CellSame P plan j job reach owner frame array spot x = WordInOrder P job.arrays reach owner (word_seen frame array x) × (shape plan j job spot (word_seen frame array x) ≡ x)

-- a copy's original doesn't stand above it up to s
abbrev pub CellAbove : ℕ → ℕ → Shape → Type 0
CellAbove s at (Is w) = Unit {0}
CellAbove s at (Shapes.Original home) = Unit {0}
CellAbove s at (Copy c home) = at < home → home ≤ s → ⊥

pub original_shape : (core : List Tagged) (at : ℕ) (w : Tagged) → is_original_word w ≡ true → shape_in core at w ≡ Shapes.Original at
original_shape core at w e = grind arith

-- ---- lists

base_in : (k : Sight) (j n disp : ℕ) (o : Option TaskRow) (x : Seen) → Has (base_seen j) x → Has (seen_from k j n disp o) x
base_in k j zero disp o x g = g
base_in k j (suc n) disp None x g = g
base_in k j (suc n) disp (Some p) x g = has_append_right (seen_in p.slot (from_disp disp (stack_of_row k p))) (seen_from k j n p.critical (row_in_slot k.tasks p.parent)) x (base_in k j n p.critical (row_in_slot k.tasks p.parent) x g)

data_there : (core : List Tagged) (before many i : ℕ) → 1 ≤ i → i ≤ many → Has (data_rows core before many) (array_shown core i 1 false (before + i))
data_there core before zero i lo hi = absurd (omega (arith, lo, hi))
data_there core before (suc n) i lo hi = grind (arith, ⊎_elim, cases_lt, data_there core before n i lo)

keyed_some : (n : ℕ) (xs : List Array) (a : Array) → Has xs a → a.identity ≡ n → (b : Array) × (keyed (λ (y : Array). y.identity) n xs ≡ Some b)
keyed_some n [] a h e = absurd h
keyed_some n (x ∷ xs) a h e = elim (cases_Bool (x.identity == n)) [
  | inl t ↦ (x, ap (λ (c : Bool). if c then Some x else keyed (λ (y : Array). y.identity) n xs) t)
  | inr f ↦ more f h (λ g. keyed_some n xs a g e)
] where
  more : (x.identity == n) ≡ false → Has (x ∷ xs) a → (Has xs a → (b : Array) × (keyed (λ (y : Array). y.identity) n xs ≡ Some b)) → (b : Array) × (keyed (λ (y : Array). y.identity) n (x ∷ xs) ≡ Some b)
  more f (inl z) go = absurd (clash (eq-eqb x.identity n (ap (λ (y : Array). y.identity) z ∙ e)) f)
  more f (inr g) go = (let (b, q) = go g in (b, ap (λ (c : Bool). if c then Some x else keyed (λ (y : Array). y.identity) n xs) f ∙ q))

module _ (k : Sight) (facts : TableFacts k) (low size : ℕ) (fixed : FixedFacts k low size) (near : NearStacks k) (seen : ReachIsSeen) (r : TaskRow) (h : Has k.tasks r) where
  abbrev mine : JobRow
  mine = (of_row k facts r h).row

  abbrev job : Job
  job = job_seen k (of_row k facts r h).row r.job

  abbrev array : ℕ → ℕ
  array = array_homed k.regs k.tasks (of_row k facts r h).row

  abbrev frame : StackPlace → ℕ
  frame = frame_seen k.tasks r.job

  abbrev out : List Seen
  out = seen_from k r.job 15 r.critical (row_in_slot k.tasks r.parent)

  abbrev P : Starts
  P = IsSegment (constants_in k (of_row k facts r h).row r.job)

  -- ---- arrays

  tables_are : (dictionary_from k.jobs 1 r.job ≡ mine.dictionary) × (segments_of k.jobs 1 r.job ≡ mine.segments)
  tables_are =
      let o = of_row k facts r h in
      let m = row_of_member k 1 k.jobs (member_in k (of_row k facts r h).row r.job) o.among in
      grind (arith, of_row, same_Some)

  from_arrays : (a : Array) → Has job.arrays a → RowIn mine (home_of k r.job a.identity) a ⊎ StandsIn k r.job (home_of k r.job a.identity) a
  from_arrays a g = array_from k facts low size fixed near (of_row k facts r h).row r.job (of_row k facts r h).found tables_are.0 tables_are.1 a g

  rows_few : mine.segments + mine.rows ≤ MOST_PARTS
  rows_few = (dictionary_lies k.core k.regs.stacks 160 k.jobs (r.job - 1) (of_row k facts r h).row fixed.dictionaries (of_row k facts r h).found).few

  rows_low : mine.dictionary + (2 + (mine.segments + mine.rows)) ≤ k.regs.stacks
  rows_low = (dictionary_lies k.core k.regs.stacks 160 k.jobs (r.job - 1) (of_row k facts r h).row fixed.dictionaries (of_row k facts r h).found).high

  -- arrays of one name are writable or not together
  alike : (a b : Array) (x y : ℕ) → RowIn mine x a ⊎ StandsIn k r.job x a → RowIn mine y b ⊎ StandsIn k r.job y b → b.identity ≡ a.identity → b.writable ≡ a.writable
  alike a b x y h g e = grind (arith, number_some, rows_few)

  writes_are : (n : ℕ) (a : Array) → Has job.arrays a → a.identity ≡ n → (array_item job n).writable ≡ a.writable
  writes_are n a g e =
      let (b, q) = keyed_some n job.arrays a g e in
      let (hb, eb) = keyed_has (λ (y : Array). y.identity) n job.arrays b q in
      ap (λ (o : Option Array). (unwrap_or o no_array).writable) q
      ∙ alike a b (home_of k r.job a.identity) (home_of k r.job b.identity) (from_arrays a g) (from_arrays b hb) (eb ∙ sym e)

  -- the name of an address in a task's stack is that of the array that stands there
  name_here : (home : ℕ) (a : Array) → StandsIn k r.job home a → array home ≡ a.identity
  name_here home a s =
      let words = s.low in
      let room = words_low k facts low size fixed near s.q s.there in
      ap array s.home_is ∙ name_is k facts s.q s.there (of_row k facts r h).row s.d (omega (arith, words, room)) ∙ sym s.named_is

  module _ (records : List ℕ) (table : IsRecordTable k records) (kinds : List ℕ) (marks : IsTable k kinds) (marked : AreMarked k.core kinds (view_in k).objects) (acts : List Activation) (lift : (x : Seen) → Has (seen_in r.slot acts) x → Has (seen_in r.slot (stack_of_row k r)) x) (b : ℕ) (b_small : b < k.regs.stack_size) (same : (d : ℕ) → d ≤ b → record_of_disp d (stack_of_row k r) ≡ record_of_disp d acts) (b_high : (x : Seen) → Has (seen_in r.slot acts) x → x.0.disp ≤ b) (spot : ℕ → StackPlace) (spots : (x : Seen) → Has (seen_in r.slot acts ++ seen_from k r.job 15 r.critical (row_in_slot k.tasks r.parent)) x → spot (frame_seen k.tasks r.job x.0) ≡ x.0) (s : ℕ) where
    abbrev S : List Seen
    S = seen_in r.slot acts ++ out

    abbrev reach : List Known
    reach = map (known_seen k r.job) (seen_in r.slot acts ++ out)

    sight : (p : StackPlace) → Decides (is_in_sight k records r b p) (SeesEntered S p)
    sight p = in_sight k records table (words_low k facts low size fixed near) p r h b acts b_small same b_high

    place_is : (x : Seen) → Has S x → (x.0.stack < 2 ^ 10) × (x.0.disp < 2 ^ 14)
    place_is x g = place_small k facts low size fixed near seen r h x (place_of k facts low size fixed near seen r h acts lift x g)

    -- ---- references

    abbrev RefFacts : Tagged → Type 0
    RefFacts w =
        let p = place (bits_at w 36 10) (bits_at w 20 16) in
        (NamesEntered reach (frame p) × (bits_at w 0 13 < 2 ^ 12)) × (Is (sirw_word (record { stack = (spot (frame p)).stack; disp = (spot (frame p)).disp; offset = bits_at w 0 13 })) ≡ Is w)

    reference_decided : (w : Tagged) → w.tag ≡ 1 → w.bits < 2 ^ 48 → Decides (reference_stands k records r b w) (RefFacts w)
    unfolding reference_stands
    reference_decided w tag few =
        like (reference_stands k records r b w) to from
        (both (bits_at w 46 2 == 1) ((bits_at w 12 8 == 0) && is_in_sight k records r b (place (bits_at w 36 10) (bits_at w 20 16))) (same_number (bits_at w 46 2) 1)
        (both (bits_at w 12 8 == 0) (is_in_sight k records r b (place (bits_at w 36 10) (bits_at w 20 16))) (same_number (bits_at w 12 8) 0) (sight (place (bits_at w 36 10) (bits_at w 20 16)))))
      where
        to : (bits_at w 46 2 ≡ 1) × ((bits_at w 12 8 ≡ 0) × SeesEntered S (place (bits_at w 36 10) (bits_at w 20 16))) → RefFacts w
        to (a, (c, (q, there, t))) =
            let (bits, off) = sirw_bits w.bits few a c in
            let at = spots (place (bits_at w 36 10) (bits_at w 20 16), q) there in (
              (names_seen k facts low size fixed near seen r h S (place (bits_at w 36 10) (bits_at w 20 16)) (q, there, t), off),
              ap (λ (z : StackPlace). Is (sirw_word (record { stack = z.stack; disp = z.disp; offset = bits_at w 0 13 }))) at ∙ ap Is (word_of w 1 (2 ^ 46 + bits_at w 36 10 * 2 ^ 36 + bits_at w 20 16 * 2 ^ 20 + bits_at w 0 13) tag bits),
            )

        from : RefFacts w → (bits_at w 46 2 ≡ 1) × ((bits_at w 12 8 ≡ 0) × SeesEntered S (place (bits_at w 36 10) (bits_at w 20 16)))
        from ((names, off), e) =
            let p = place (bits_at w 36 10) (bits_at w 20 16) in
            let (x, hx, name, t) = seen_named k facts low size fixed near seen r h S (frame p) names in
            let at : spot (frame p) ≡ x.0 = ap spot (sym name) ∙ spots x hx in
            let is = place_is x hx in
            let (one, (z, (st, di))) = sirw_parts w.bits x.0.stack x.0.disp (bits_at w 0 13) is.0 (omega (arith, is.1)) off (ap (λ (q : StackPlace). 2 ^ 46 + q.stack * 2 ^ 36 + q.disp * 2 ^ 20 + bits_at w 0 13) (sym at) ∙ ap (λ (v : Shape). (word_in v).bits) e) in
            (one, (z, (x.1, subst (λ (q : StackPlace). Has S (q, x.1)) (ap (λ n. place n x.0.disp) (sym st) ∙ ap (place (bits_at w 36 10)) (sym di)) hx, t)))

    -- a word of tag 1
    abbrev OneFacts : Tagged → Bool → Type 0
    OneFacts w i = WordInOrder P job.arrays reach (named r.number b) (reference_by w frame i) × (shape (placed k) r.job job spot (reference_by w frame i) ≡ Is w)

    one_set : (w : Tagged) → w.tag ≡ 1 → w.bits < 2 ^ 48 → is_set w 46 ≡ true → Decides (nat_lt w.bits (2 ^ 14) || reference_stands k records r b w) (RefFacts w)
    one_set w tag few e = like (nat_lt w.bits (2 ^ 14) || reference_stands k records r b w) to inr (Decides-or (nat_lt w.bits (2 ^ 14)) (reference_stands k records r b w) (less w.bits (2 ^ 14)) (reference_decided w tag few)) where
      to : (w.bits < 2 ^ 14) ⊎ RefFacts w → RefFacts w
      to (inl lt) = (let z : w.bits / 2 ^ 46 % 2 ^ 1 ≡ 1 = eqb-true (bits_at w 46 1) 1 e in absurd (omega (arith, lt, z)))
      to (inr f) = f

    reference_bit : (w : Tagged) → reference_stands k records r b w ≡ true → bits_at w 46 2 ≡ 1
    unfolding reference_stands
    reference_bit w t = eqb-true (bits_at w 46 2) 1 (halves (bits_at w 46 2 == 1) _ t).0

    one_clear : (w : Tagged) → w.tag ≡ 1 → is_set w 46 ≡ false → Decides (nat_lt w.bits (2 ^ 14) || reference_stands k records r b w) ((bits_at w 0 14 < 2 ^ 14) × (Is (irw_word (record { couple = bits_at w 0 14 })) ≡ Is w))
    one_clear w tag e = like (nat_lt w.bits (2 ^ 14) || reference_stands k records r b w) to from (Decides-or (nat_lt w.bits (2 ^ 14)) (reference_stands k records r b w) (less w.bits (2 ^ 14)) (itself (reference_stands k records r b w))) where
      to : (w.bits < 2 ^ 14) ⊎ (reference_stands k records r b w ≡ true) → (bits_at w 0 14 < 2 ^ 14) × (Is (irw_word (record { couple = bits_at w 0 14 })) ≡ Is w)
      to (inl lt) = (omega arith, ap Is (word_of w 1 (bits_at w 0 14) tag (let z : w.bits / 2 ^ 0 % 2 ^ 14 ≡ w.bits = omega (arith, lt) in z)))
      to (inr t) = (let z : w.bits / 2 ^ 46 % 2 ^ 2 ≡ 1 = reference_bit w t in absurd (eqb-false (bits_at w 46 1) 1 e (omega (arith, z))))

      from : (bits_at w 0 14 < 2 ^ 14) × (Is (irw_word (record { couple = bits_at w 0 14 })) ≡ Is w) → (w.bits < 2 ^ 14) ⊎ (reference_stands k records r b w ≡ true)
      from (lt, e) = inl (let z : w.bits / 2 ^ 0 % 2 ^ 14 ≡ w.bits = ap (λ (v : Shape). (word_in v).bits) e in omega (arith, z))

    one_decided : (w : Tagged) → w.tag ≡ 1 → w.bits < 2 ^ 48 → Decides (nat_lt w.bits (2 ^ 14) || reference_stands k records r b w) (OneFacts w (is_set w 46))
    one_decided w tag few = by (is_set w 46) refl where
      by : (i : Bool) → is_set w 46 ≡ i → Decides (nat_lt w.bits (2 ^ 14) || reference_stands k records r b w) (OneFacts w i)
      by true e = one_set w tag few e
      by false e = one_clear w tag e

    -- ---- program words

    abbrev SevenFacts : Tagged → Type 0
    SevenFacts w =
        let place : Place = record { word = bits_at w 20 13; syllable = bits_at w 33 3 } in
        ((bits_at w 14 5 ≤ 31) × IsSegment (constants_in k (of_row k facts r h).row r.job) (bits_at w 0 14 - 1) (bits_at w 14 5) place) × (Is (pcw_word (record { place = place; level = bits_at w 14 5; segment = bits_at w 0 14 - 1 + 1 })) ≡ Is w)

    seven_decided : (w : Tagged) → w.tag ≡ 7 → w.bits < 2 ^ 48 → Decides (procedure_stands mine.segments w) (SevenFacts w)
    unfolding procedure_stands
    seven_decided w tag few =
        like (procedure_stands mine.segments w) to from
        (both (bits_at w 19 1 == 0) ((bits_at w 36 12 == 0) && (nat_lt 1 (bits_at w 0 14) && nat_le (bits_at w 0 14 - 1) mine.segments)) (same_number (bits_at w 19 1) 0)
        (both (bits_at w 36 12 == 0) (nat_lt 1 (bits_at w 0 14) && nat_le (bits_at w 0 14 - 1) mine.segments) (same_number (bits_at w 36 12) 0)
        (both (nat_lt 1 (bits_at w 0 14)) (nat_le (bits_at w 0 14 - 1) mine.segments) (less 1 (bits_at w 0 14)) (at_most (bits_at w 0 14 - 1) mine.segments))))
      where
        to : (bits_at w 19 1 ≡ 0) × ((bits_at w 36 12 ≡ 0) × ((1 < bits_at w 0 14) × (bits_at w 0 14 - 1 ≤ mine.segments))) → SevenFacts w
        to (a, (c, (d, e))) =
            let m = segments_long k.core (mine.dictionary + 2) mine.segments in
            let bits = pcw_bits w.bits few a c in
            let again : bits_at w 0 14 - 1 + 1 ≡ bits_at w 0 14 = omega (arith, d) in (
              (omega arith, record { from_one = omega (arith, d); within = omega (arith, e, m); word_fits = omega arith; syllable_fits = omega arith }),
              ap Is (word_of w 7 (bits_at w 33 3 * 2 ^ 33 + bits_at w 20 13 * 2 ^ 20 + bits_at w 14 5 * 2 ^ 14 + (bits_at w 0 14 - 1 + 1)) tag (ap (λ n. bits_at w 33 3 * 2 ^ 33 + bits_at w 20 13 * 2 ^ 20 + bits_at w 14 5 * 2 ^ 14 + n) again ∙ bits)),
            )

        from : SevenFacts w → (bits_at w 19 1 ≡ 0) × ((bits_at w 36 12 ≡ 0) × ((1 < bits_at w 0 14) × (bits_at w 0 14 - 1 ≤ mine.segments)))
        from ((lv, f), e) =
            let m = segments_long k.core (mine.dictionary + 2) mine.segments in
            let one = f.from_one in
            let within = f.within in
            let bits = ap (λ (v : Shape). (word_in v).bits) e in
            let (a, c) = pcw_parts w.bits (bits_at w 33 3) (bits_at w 20 13) (bits_at w 14 5) (bits_at w 0 14 - 1 + 1) (omega arith) (omega arith) (omega arith) (omega (arith, one)) bits in
            (a, (c, (omega (arith, one), omega (arith, within, m))))

    -- ---- copies

    abbrev CopyFacts : Bool → ℕ → Type 0
    CopyFacts read_only home = NamesArray job.arrays reach (array home) × (not (array_item job (array home)).writable ≡ read_only) × (home_of k r.job (array home) ≡ home)

    abbrev NotAbove : ℕ → ℕ → Type 0
    NotAbove at home = at < home → home ≤ s → ⊥

    -- of a data row
    row_names : (home : ℕ) → (mine.dictionary + 1 + mine.segments < home) × (home ≤ mine.dictionary + 1 + (mine.segments + mine.rows)) → CopyFacts true home
    row_names home (lo, hi) =
        let few = rows_few in
        let top = rows_low in
        let n = home - (mine.dictionary + 1 + mine.segments) in
        let at : mine.dictionary + 1 + mine.segments + (home - (mine.dictionary + 1 + mine.segments)) ≡ home = omega (arith, lo) in
        let name : array home ≡ home - (mine.dictionary + 1 + mine.segments) = ap (λ (c : Bool). if c then home - (mine.dictionary + 1 + mine.segments) else named (number_seen k.tasks ((home - k.regs.stacks) / k.regs.stack_size)) ((home - k.regs.stacks) % k.regs.stack_size)) (lt-ltb home k.regs.stacks (omega (arith, hi, top))) in
        let item = array_shown k.core n 1 false (mine.dictionary + 1 + mine.segments + n) in
        let live : Has job.arrays item = has_append_right (flat_map (λ (q : TaskRow). arrays_of k.core q.number (array_homed k.regs k.tasks (of_row k facts r h).row) (stack_of_row k q)) (rows_of k.tasks r.job)) (data_rows k.core (mine.dictionary + 1 + mine.segments) mine.rows) item (data_there k.core (mine.dictionary + 1 + mine.segments) mine.rows n (omega (arith, lo)) (omega (arith, lo, hi))) in
        let one : frame (place (127 + r.job) 0) ≡ 1 = dictionary_name (location_in k.core) k facts near fixed.stack_high r.job in (
          record {
            item = item;
            live = live;
            named = sym name;
            owner = subst (NamesEntered reach) one (names_seen k facts low size fixed near seen r h S (place (127 + r.job) 0)
                (stack.Entered 1 (record { stack = 136; disp = 0 }) None, has_append_right (seen_in r.slot acts) out (place (127 + r.job) 0, stack.Entered 1 (record { stack = 136; disp = 0 }) None) (base_in k r.job 15 r.critical (row_in_slot k.tasks r.parent) (place (127 + r.job) 0, stack.Entered 1 (record { stack = 136; disp = 0 }) None) (inl refl)), refl));
          },
          ap not (writes_are (array home) item live (sym name)),
          ap (home_of k r.job) name ∙ home_row k facts r.job (home - (mine.dictionary + 1 + mine.segments)) (omega (arith, lo, hi, few))
              ∙ (let (d, g) = tables_are in let z : dictionary_from k.jobs 1 r.job + 1 + segments_of k.jobs 1 r.job + (home - (mine.dictionary + 1 + mine.segments)) ≡ home = omega (arith, d, g, at) in z),
        )

    only_row : (home : ℕ) (n : NamesArray job.arrays reach (array home)) → not (array_item job (array home)).writable ≡ true → home_of k r.job (array home) ≡ home → RowIn mine (home_of k r.job n.item.identity) n.item ⊎ StandsIn k r.job (home_of k r.job n.item.identity) n.item
        → (mine.dictionary + 1 + mine.segments < home) × (home ≤ mine.dictionary + 1 + (mine.segments + mine.rows))
    only_row home n writes is h = grind (arith, writes_are)

    copy_only : (at home : ℕ) → base_at k r < at → Decides (is_data_row mine home || false) (CopyFacts true home × NotAbove at home)
    copy_only at home over = subst (λ c. Decides c (CopyFacts true home × NotAbove at home)) (sym (no_more (is_data_row mine home))) (like (is_data_row mine home) to from (both (nat_lt (mine.dictionary + 1 + mine.segments) home) (nat_le home (mine.dictionary + 1 + (mine.segments + mine.rows))) (less (mine.dictionary + 1 + mine.segments) home) (at_most home (mine.dictionary + 1 + (mine.segments + mine.rows))))) where
      to : (mine.dictionary + 1 + mine.segments < home) × (home ≤ mine.dictionary + 1 + (mine.segments + mine.rows)) → CopyFacts true home × NotAbove at home
      to p = (row_names home p, λ a c. (let hi = p.1 in let top = rows_low in omega (arith, hi, top, a, over)))

      from : CopyFacts true home × NotAbove at home → (mine.dictionary + 1 + mine.segments < home) × (home ≤ mine.dictionary + 1 + (mine.segments + mine.rows))
      from ((n, writes, is), above) = only_row home n writes is (from_arrays n.item n.live)

    -- of an array in a stack
    owner_seen : (home : ℕ) (a : Array) (t : StandsIn k r.job home a) → NamesEntered reach a.owner → SeesEntered S (place t.q.slot (record_of_disp t.d (stack_of_row k t.q) / 2))
    owner_seen home a t names =
        let (x, hx, name, e) = seen_named k facts low size fixed near seen r h S a.owner names in
        let m = record_of_disp t.d (stack_of_row k t.q) / 2 in
        let m_low = half_low t.d (stack_of_row k t.q) in
        let words = t.low in
        let few = words_small k facts low size fixed near seen r h t.q t.there in
        let at = same_place k facts low size fixed near seen r h t.q t.there t.job m (omega (arith, m_low, words, few)) x (place_of k facts low size fixed near seen r h acts lift x hx) (name ∙ t.owner) in
        (x.1, subst (λ (p : StackPlace). Has S (p, x.1)) at hx, e)

    seen_owner : (home : ℕ) (a : Array) (t : StandsIn k r.job home a) → SeesEntered S (place t.q.slot (record_of_disp t.d (stack_of_row k t.q) / 2)) → NamesEntered reach a.owner
    seen_owner home a t e =
        subst (NamesEntered reach) (in_slot (location_in k.core) k facts near fixed.stack_high r.job t.q t.there (record_of_disp t.d (stack_of_row k t.q) / 2) ∙ sym t.owner)
        (names_seen k facts low size fixed near seen r h S (place t.q.slot (record_of_disp t.d (stack_of_row k t.q) / 2)) e)

    record_here : (home : ℕ) (a : Array) (t : StandsIn k r.job home a) → slice_index records home / 2 ≡ record_of_disp t.d (stack_of_row k t.q) / 2
    record_here home a t =
        let words = t.low in
        let room = words_low k facts low size fixed near t.q t.there in
        ap (λ n. slice_index records n / 2) t.home_is ∙ ap (λ n. n / 2) (table.each t.q t.there t.d (omega (arith, words, room)))

    abbrev OfTask : ℕ → Option TaskRow → Bool
    OfTask home o = array_in_sight k records r b home o

    -- what is asked of the address of an original
    abbrev ArrayFacts : ℕ → ℕ → Type 0
    ArrayFacts at home = (slice_index kinds home ≡ 1) × (((home ≤ at) ⊎ (s < home)) × (OfTask home (row_holding k home k.tasks) ≡ true))

    array_names : (at home : ℕ) → ArrayFacts at home → CopyFacts false home × NotAbove at home
    array_names at home (one, (apart, t)) = by (row_holding k home k.tasks) refl t where
      far : (home ≤ at) ⊎ (s < home) → NotAbove at home
      far (inl le) a c = omega (arith, le, a)
      far (inr lt) a c = omega (arith, lt, c)

      by : (o : Option TaskRow) → row_holding k home k.tasks ≡ o → OfTask home o ≡ true → CopyFacts false home × NotAbove at home
      by None e t = absurd (let z : ⊥ = cc in z)
      by (Some q) e t =
          let p = halves (q.job == r.job) (is_in_sight k records r b (place q.slot (slice_index records home / 2))) t in
          let ofjob = eqb-true q.job r.job p.0 in
          let a = array_here k facts low size fixed near kinds marks marked (of_row k facts r h).row r.job (of_row k facts r h).found q home e ofjob one in
          let st = a.stands in
          let (hq, lo, hi) = held k facts low size fixed near home q e in
          let words = st.low in
          let room = words_low k facts low size fixed near st.q st.there in
          let is = st.home_is in
          let same_task : q ≡ st.q = one_slot k facts low size fixed near q st.q hq st.there home lo hi (omega (arith, is)) (omega (arith, is, words, room)) in
          let sees = (sight (place q.slot (slice_index records home / 2))).0 p.1 in
          let owner = subst (SeesEntered S) (ap (λ (z : TaskRow). place z.slot (slice_index records home / 2)) same_task ∙ ap (place st.q.slot) (record_here home a.item st)) sees in
          let name = name_here home a.item st in
          ((record { item = a.item; live = a.live; named = sym name; owner = seen_owner home a.item st owner }, ap not (writes_are (array home) a.item a.live (sym name) ∙ st.writes), ap (home_of k r.job) name ∙ a.home), far apart)

    names_array : (at home : ℕ) → CopyFacts false home × NotAbove at home → ArrayFacts at home
    names_array at home ((n, writes, is), above) = by (from_arrays n.item n.live) where
      apart : (home ≤ at) ⊎ (s < home)
      apart = ⊎_elim (λ lt. ⊎_elim (λ past. inr past) (λ le. absurd (above lt le)) (cases_lt s home)) inl (cases_lt at home)

      by : RowIn mine (home_of k r.job n.item.identity) n.item ⊎ StandsIn k r.job (home_of k r.job n.item.identity) n.item → ArrayFacts at home
      by (inl p) = absurd (let z : true ≡ false = ap not (sym (writes_are (array home) n.item n.live n.named ∙ p.writes)) ∙ writes in let y : ⊥ = cc in y)
      by (inr p0) =
          let p = subst (λ m. StandsIn k r.job m n.item) (ap (home_of k r.job) n.named ∙ is) p0 in
          let words = p.low in
          let room = words_low k facts low size fixed near p.q p.there in
          let here = p.home_is in
          let holding = holds k facts low size fixed near p.q p.there home (omega (arith, here)) (omega (arith, here, words, room)) in
          let sees = subst (λ m. SeesEntered S (place p.q.slot m)) (sym (record_here home n.item p)) (owner_seen home n.item p n.owner) in (
            ap (slice_index kinds) here ∙ original_marked k facts low size fixed near kinds marks marked p.q p.there p.d p.some p.low p.original,
            (apart, ap (OfTask home) holding ∙ joined (p.q.job == r.job) (is_in_sight k records r b (place p.q.slot (slice_index records home / 2))) (eq-eqb p.q.job r.job p.job) ((sight (place p.q.slot (slice_index records home / 2))).1 sees)),
          )

    copy_decided : (at : ℕ) → base_at k r < at → (d : DataDesc) → Decides (copy_stands k records kinds mine r b s at d) (CopyFacts d.read_only (home_by k.core d.address d.present) × NotAbove at (home_by k.core d.address d.present))
    unfolding copy_stands
    copy_decided at over d = by d.read_only where
      by : (ro : Bool) → Decides ((ro && is_data_row mine (home_by k.core d.address d.present)) || (not ro && ((slice_index kinds (home_by k.core d.address d.present) == 1) && ((nat_le (home_by k.core d.address d.present) at || nat_lt s (home_by k.core d.address d.present)) && OfTask (home_by k.core d.address d.present) (row_holding k (home_by k.core d.address d.present) k.tasks)))))
          (CopyFacts ro (home_by k.core d.address d.present) × NotAbove at (home_by k.core d.address d.present))
      by true = copy_only at (home_by k.core d.address d.present) over
      by false = like _ (array_names at (home_by k.core d.address d.present)) (names_array at (home_by k.core d.address d.present))
          (both (slice_index kinds (home_by k.core d.address d.present) == 1) ((nat_le (home_by k.core d.address d.present) at || nat_lt s (home_by k.core d.address d.present)) && OfTask (home_by k.core d.address d.present) (row_holding k (home_by k.core d.address d.present) k.tasks)) (same_number (slice_index kinds (home_by k.core d.address d.present)) 1)
          (both (nat_le (home_by k.core d.address d.present) at || nat_lt s (home_by k.core d.address d.present)) (OfTask (home_by k.core d.address d.present) (row_holding k (home_by k.core d.address d.present) k.tasks))
          (Decides-or (nat_le (home_by k.core d.address d.present) at) (nat_lt s (home_by k.core d.address d.present)) (at_most (home_by k.core d.address d.present) at) (less s (home_by k.core d.address d.present))) (itself (OfTask (home_by k.core d.address d.present) (row_holding k (home_by k.core d.address d.present) k.tasks)))))

    -- as a word and a shape
    abbrev CellIs : Word → Shape → Type 0
    CellIs w x = WordInOrder P job.arrays reach (named r.number b) w × (shape (placed k) r.job job spot w ≡ x)

    copied : (index : Option ℕ) (ro : Bool) (home : ℕ) → CopyFacts ro home → CellIs (copy_by index (array home)) (Copy (record { index = index; read_only = ro }) home)
    copied index ro home h = grind arith

    uncopied : (index : Option ℕ) (ro : Bool) (home : ℕ) → CellIs (copy_by index (array home)) (Copy (record { index = index; read_only = ro }) home) → CopyFacts ro home
    uncopied None ro home (n, e) = (n, ap flag_in e, ap home_in e)
    uncopied (Some i) ro home (n, e) = (n, ap flag_in e, ap home_in e)

    -- ---- originals

    original_is : (e : ℕ) → 0 < e → e ≤ stack_words (stack_of_row k r) → record_of_disp e (stack_of_row k r) / 2 ≡ b → is_original_word (word_seen_at k.core (base_at k r + e)) ≡ true → CellIs (Words.Original (array (base_at k r + e))) (Shapes.Original (base_at k r + e))
    original_is e some words mark original =
        let room = words_low k facts low size fixed near r h in
        let holding = holds k facts low size fixed near r h (base_at k r + e) (omega arith) (omega (arith, words, room)) in
        let a = array_here k facts low size fixed near kinds marks marked (of_row k facts r h).row r.job (of_row k facts r h).found r (base_at k r + e) holding refl (original_marked k facts low size fixed near kinds marks marked r h e some words original) in
        let st = a.stands in
        let name = name_here (base_at k r + e) a.item st in
        let is = st.home_is in
        let up = st.low in
        let top = words_low k facts low size fixed near st.q st.there in
        let same_task : st.q ≡ r = one_slot k facts low size fixed near st.q r st.there h (base_at k r + e) (omega (arith, is)) (omega (arith, is, up, top)) (omega arith) (omega (arith, words, room)) in
        let disp : st.d ≡ e = disps st.q st.d same_task is in
        let owner : a.item.owner ≡ named r.number b = st.owner ∙ ap (λ (z : TaskRow). named z.number (record_of_disp st.d (stack_of_row k z) / 2)) same_task ∙ ap (λ n. named r.number (record_of_disp n (stack_of_row k r) / 2)) disp ∙ ap (named r.number) mark in
        (record { item = a.item; live = a.live; named = sym name; owned = owner }, ap Shapes.Original (ap (home_of k r.job) name ∙ a.home))
      where
        disps : (q : TaskRow) (d : ℕ) → q ≡ r → base_at k r + e ≡ base_at k q + d → d ≡ e
        disps q d z is = (let w : base_at k q ≡ base_at k r = ap (base_at k) z in omega (arith, w, is))

    -- ---- all of them

    -- where the original of a copy stands
    pub copy_source : (index : Option ℕ) (ro : Bool) (home : ℕ) → CellIs (copy_by index (array home)) (Copy (record { index = index; read_only = ro }) home) → (home < k.regs.stacks) ⊎ (is_original_word (word_seen_at k.core home) ≡ true)
    copy_source index ro home c = (let (n, w, is) = uncopied index ro home c in by n is (from_arrays n.item n.live)) where
      by : (n : NamesArray job.arrays reach (array home)) → home_of k r.job (array home) ≡ home → RowIn mine (home_of k r.job n.item.identity) n.item ⊎ StandsIn k r.job (home_of k r.job n.item.identity) n.item → (home < k.regs.stacks) ⊎ (is_original_word (word_seen_at k.core home) ≡ true)
      by n is (inl p) = (let hi = p.high in let top = rows_low in let e = sym (ap (home_of k r.job) n.named ∙ is) ∙ p.home_is in inl (omega (arith, hi, top, e)))
      by n is (inr p) = inr (ap (λ m. is_original_word (word_seen_at k.core m)) (sym (ap (home_of k r.job) n.named ∙ is) ∙ p.home_is) ∙ p.original)

    abbrev pub CellFine : ℕ → Shape → Type 0
    CellFine at x = CellIs (word_seen frame array x) x × CellAbove s at x

    five_decided : (e : ℕ) → 0 < e → e ≤ stack_words (stack_of_row k r) → record_of_disp e (stack_of_row k r) / 2 ≡ b → (word_seen_at k.core (base_at k r + e)).tag ≡ 5
        → (c : Bool) → is_set (word_seen_at k.core (base_at k r + e)) 46 ≡ c → Decides (not c || copy_stands k records kinds mine r b s (base_at k r + e) (desc_in (word_seen_at k.core (base_at k r + e)))) (CellFine (base_at k r + e) (descriptor_by k.core (base_at k r + e) (desc_in (word_seen_at k.core (base_at k r + e))) c))
    five_decided e some words mark tag false set = yes (original_is e some words mark (joined ((word_seen_at k.core (base_at k r + e)).tag == 5) (not (is_set (word_seen_at k.core (base_at k r + e)) 46)) (eq-eqb (word_seen_at k.core (base_at k r + e)).tag 5 tag) (ap not set)), tt)
    five_decided e some words mark tag true set =
        let d = desc_in (word_seen_at k.core (base_at k r + e)) in
        let home = home_by k.core d.address d.present in
        like (copy_stands k records kinds mine r b s (base_at k r + e) (desc_in (word_seen_at k.core (base_at k r + e)))) (λ p. (copied (index_by d.length d.indexed) d.read_only home p.0, p.1)) (λ p. (uncopied (index_by d.length d.indexed) d.read_only home p.0, p.1))
        (copy_decided (base_at k r + e) (omega (arith, some)) (desc_in (word_seen_at k.core (base_at k r + e))))

    abbrev PlainFine : Tagged → Bool → Bool → Bool → Type 0
    PlainFine w b0 b1 b7 = CellIs (plain_by w frame b0 b1 b7) (Is w)

    plain_decided : (w : Tagged) → w.bits < 2 ^ 48 → (b0 b1 b7 : Bool) → (w.tag == 0) ≡ b0 → (w.tag == 1) ≡ b1 → (w.tag == 7) ≡ b7
        → Decides (b0 || ((b1 && (nat_lt w.bits (2 ^ 14) || reference_stands k records r b w)) || ((b7 && procedure_stands mine.segments w) || false))) (PlainFine w b0 b1 b7)
    plain_decided w few b0 b1 b7 z0 z1 z7 = grind (arith, yes, word_of, eqb-true, no_more, one_decided, seven_decided, nothing)

    pub cell_decided : (e : ℕ) → 0 < e → e ≤ stack_words (stack_of_row k r) → record_of_disp e (stack_of_row k r) / 2 ≡ b → (word_seen_at k.core (base_at k r + e)).bits < 2 ^ 48
        → Decides (cell_stands k records kinds mine r b s (base_at k r + e) (word_seen_at k.core (base_at k r + e))) (CellFine (base_at k r + e) (shape_in k.core (base_at k r + e) (word_seen_at k.core (base_at k r + e))))
    unfolding cell_stands
    cell_decided e some words mark few = by ((word_seen_at k.core (base_at k r + e)).tag == 5) refl where
      by : (b5 : Bool) → ((word_seen_at k.core (base_at k r + e)).tag == 5) ≡ b5
          → Decides (((word_seen_at k.core (base_at k r + e)).tag == 0) || ((((word_seen_at k.core (base_at k r + e)).tag == 1) && (nat_lt (word_seen_at k.core (base_at k r + e)).bits (2 ^ 14) || reference_stands k records r b (word_seen_at k.core (base_at k r + e)))) || ((((word_seen_at k.core (base_at k r + e)).tag == 7) && procedure_stands mine.segments (word_seen_at k.core (base_at k r + e)))
          || (b5 && (not (is_set (word_seen_at k.core (base_at k r + e)) 46) || copy_stands k records kinds mine r b s (base_at k r + e) (desc_in (word_seen_at k.core (base_at k r + e))))))))
          (CellFine (base_at k r + e) (shape_by k.core (base_at k r + e) (word_seen_at k.core (base_at k r + e)) b5))
      by false z = like _ (λ p. (p, tt)) (λ p. p.0) (plain_decided (word_seen_at k.core (base_at k r + e)) few ((word_seen_at k.core (base_at k r + e)).tag == 0) ((word_seen_at k.core (base_at k r + e)).tag == 1) ((word_seen_at k.core (base_at k r + e)).tag == 7) refl refl refl)
      by true z =
          let tag = eqb-true (word_seen_at k.core (base_at k r + e)).tag 5 z in
          subst (λ c. Decides c (CellFine (base_at k r + e) (descriptor_by k.core (base_at k r + e) (desc_in (word_seen_at k.core (base_at k r + e))) (is_set (word_seen_at k.core (base_at k r + e)) 46))))
          (sym (only_five ((word_seen_at k.core (base_at k r + e)).tag == 0) ((word_seen_at k.core (base_at k r + e)).tag == 1) ((word_seen_at k.core (base_at k r + e)).tag == 7) (nat_lt (word_seen_at k.core (base_at k r + e)).bits (2 ^ 14) || reference_stands k records r b (word_seen_at k.core (base_at k r + e))) (procedure_stands mine.segments (word_seen_at k.core (base_at k r + e))) (not (is_set (word_seen_at k.core (base_at k r + e)) 46) || copy_stands k records kinds mine r b s (base_at k r + e) (desc_in (word_seen_at k.core (base_at k r + e)))) (ne_eqb (word_seen_at k.core (base_at k r + e)).tag 0 (λ y. omega (arith, y, tag))) (ne_eqb (word_seen_at k.core (base_at k r + e)).tag 1 (λ y. omega (arith, y, tag))) (ne_eqb (word_seen_at k.core (base_at k r + e)).tag 7 (λ y. omega (arith, y, tag)))))
          (five_decided e some words mark tag (is_set (word_seen_at k.core (base_at k r + e)) 46) refl)
