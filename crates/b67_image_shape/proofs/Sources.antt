-- Where the objects of what a machine shows stand: in a job's dictionary, or among the words of a live task's stack.
use Rattle.std.proofs.Common.{◌≡◌, ◌≢◌, ℕ, zero, suc, ◌+◌, ◌-◌, ◌*◌, ◌/◌, ◌%◌, ◌^◌, ◌<◌, ◌≤◌, ◌==◌, Bool, true, false, List, [], ◌∷◌, map, length, Option, Some, None, refl, sym, ◌∙◌, ap, subst, arith, inl, inr, lt-ltb, le-ltb}
use Rattle.std.specs.Prelude.{◌⊎◌, nat_le, flat_map, if◌then◌else◌}
use Rattle.std.specs.List.{slice_get}
use Rattle.std.proofs.lemmas.Bool.{le-leb, lt-leb, eq-eqb, ne_eqb, eqb-true}
use Rattle.std.proofs.lemmas.Bool.Decides.{eqb_tells}
use Rattle.std.proofs.Math.Arith.{digits_div, digits_mod}
use Rattle.b67_word.specs.Tagged.{Tagged}
use Rattle.b67_area.specs.declared.Kind.{Kind}
use Rattle.b67_area.specs.declared.Kind.TheVariants as kind
use Rattle.b67_lemmas.specs.Lists.{Has}
use Rattle.b67_lemmas.proofs.Members.{has_map_back, has_flat_back, has_filter, has_append_left, has_append_right, has_append_cases, all_in}
use Rattle.b67_model.specs.Common.{Array, SessionJob}
use Rattle.b67_stack.specs.Common as stack
use Rattle.b67_stack.specs.Common.{Locations, Shape, Is, Original, Copy, Fits, LieDownward, Head, Activation, headed, stack_words, words, PagedObject}
use Rattle.b67_stack.proofs.Heights.{words-length}
use Rattle.b67_layout.specs.Common.{Placement, array_object, code_objects, objects_of, TaskRow, JobRow}
use Rattle.b67_layout_shown.specs.Reading.{word_seen_at, desc_in}
use Rattle.b67_layout_shown.specs.Places.{named}
use Rattle.b67_layout_shown.specs.Shown.{Sight, number_by, number_seen, array_homed, contents_by, array_shown, arrays_in, arrays_of, data_rows, segments_from, stack_of_row, rows_of, job_seen, member_in, dictionary_from, segments_of, slot_numbered, home_of, shown, placed}
use Rattle.b67_image_shape.specs.TableFacts.{row_in_slot, rows_in, AreApart, RowsApart, BornBy, TableFacts}
use Rattle.b67_image_shape.specs.FixedWords.{DictionariesStandIn, FixedFacts}
use Rattle.b67_image_shape.specs.Held.{view_in, held_of}
use Rattle.b67_image_shape.specs.Items.{EachTask, base_at, StackFactsBy, StackFacts}
use Rattle.b67_image_shape.proofs.Members.{row_of_member}
use Rattle.b67_layout_shown.proofs.Sorted.{sorted_has}
use Rattle.b67_image_shape.proofs.Rows.{row_fact, found_row}
use Rattle.b67_image_shape.proofs.EachTask.{task_at}
use Rattle.b67_model.specs.declared.limits.TheConstants.{MOST_PARTS}

-- the numbers of the object whose descriptor stands at an address
abbrev pub contents_at : List Tagged → ℕ → List ℕ
contents_at core i = let d = desc_in (word_seen_at core i) in contents_by core d.length d.address d.present

-- ---- dictionaries

pub dictionaries_low : (core : List Tagged) (stacks at : ℕ) (rows : List JobRow) → DictionariesStandIn core stacks at rows → at ≤ stacks
dictionaries_low core stacks at [] d = omega (arith, d)
dictionaries_low core stacks at (row ∷ more) d = let low = dictionaries_low core stacks (at + (2 + (row.segments + row.rows))) more d.1 in omega (arith, low)

pub record Lies (stacks at : ℕ) (row : JobRow) : Type 0 where
  pub low : at ≤ row.dictionary
  pub high : row.dictionary + (2 + (row.segments + row.rows)) ≤ stacks
  pub few : row.segments + row.rows ≤ MOST_PARTS

pub dictionary_lies : (core : List Tagged) (stacks at : ℕ) (rows : List JobRow) (i : ℕ) (row : JobRow) → DictionariesStandIn core stacks at rows → slice_get rows i ≡ Some row → Lies stacks at row
dictionary_lies core stacks at [] i row d e = absurd (let z : ⊥ = cc in z)
dictionary_lies core stacks at (r ∷ more) zero row d e = grind (arith, dictionaries_low)
dictionary_lies core stacks at (r ∷ more) (suc i) row d e = grind (arith, dictionary_lies core stacks (at + (2 + (r.segments + r.rows))) more i row d.1 e)

pub dictionaries_apart : (core : List Tagged) (stacks at : ℕ) (rows : List JobRow) (i j : ℕ) (row next : JobRow) → DictionariesStandIn core stacks at rows → slice_get rows i ≡ Some row → slice_get rows j ≡ Some next → i < j
    → row.dictionary + (2 + (row.segments + row.rows)) ≤ next.dictionary
dictionaries_apart core stacks at [] i j row next d e f low = absurd (let z : ⊥ = cc in z)
dictionaries_apart core stacks at (r ∷ more) i zero row next d e f low = absurd (omega (arith, low))
dictionaries_apart core stacks at (r ∷ more) zero (suc j) row next d e f low = grind (arith, dictionary_lies)
dictionaries_apart core stacks at (r ∷ more) (suc i) (suc j) row next d e f low = dictionaries_apart core stacks (at + (2 + (r.segments + r.rows))) more i j row next d.1 e f (omega (arith, low))

-- ---- originals among words

pub record StandsAt (from many home : ℕ) : Type 0 where
  pub low : from ≤ home
  pub high : home < from + many

pub original_at : (held : Locations) (core : List Tagged) (from : ℕ) (xs : List Shape) (home : ℕ) → LieDownward (Fits held) core from xs → Has xs (Original home) → StandsAt from (length xs) home
original_at held core from [] home l h = absurd h
original_at held core from (a ∷ more) home l (inl e) = let f = (subst (λ (q : Shape). Fits held q (from + length more) l.0.0) e l.0.2).0 in record { low = omega (arith, f); high = omega (arith, f) }
original_at held core from (a ∷ more) home l (inr h) = let s = original_at held core from more home l.1 h in let low = s.low in let high = s.high in record { low = low; high = omega (arith, high) }

under_head : (k : ℕ) (h : Head) (below : List Activation) (under : List Shape) (a : Shape) → Has under a → Has (headed k h below under) a
under_head k e below under a h = grind arith

-- an array that is shown of a cell is that of an original
pub record ArrayOf (core : List Tagged) (array : ℕ → ℕ) (shapes : List Shape) (a : Array) : Type 0 where
  pub home : ℕ
  pub owner : ℕ
  pub among : Has shapes (Original home)
  pub is : a ≡ array_shown core (array home) owner true home

array_in : (core : List Tagged) (owner : ℕ) (array : ℕ → ℕ) (cells : List Shape) (a : Array) → Has (arrays_in core owner array cells) a → ArrayOf core array cells a
array_in core owner array [] a h = absurd h
array_in core owner array (Is w ∷ more) a h = let r = array_in core owner array more a h in record { home = r.home; owner = r.owner; among = inr r.among; is = r.is }
array_in core owner array (Copy c home ∷ more) a h = let r = array_in core owner array more a h in record { home = r.home; owner = r.owner; among = inr r.among; is = r.is }
array_in core owner array (Original home ∷ more) a (inl e) = record { home = home; owner = owner; among = inl refl; is = sym e }
array_in core owner array (Original home ∷ more) a (inr h) = let r = array_in core owner array more a h in record { home = r.home; owner = r.owner; among = inr r.among; is = r.is }

pub array_of : (core : List Tagged) (slot number : ℕ) (array : ℕ → ℕ) (acts : List Activation) (a : Array) → Has (arrays_of core number array acts) a → ArrayOf core array (words slot acts) a
array_of core slot number array [] a h = absurd h
array_of core slot number array (c ∷ below) a h = grind (arith, has_append_cases, array_in, has_append_left, has_append_right, under_head, array_of core slot number array below a)

pub record RowArray (core : List Tagged) (before n : ℕ) (a : Array) : Type 0 where
  pub i : ℕ
  pub low : 1 ≤ i
  pub high : i ≤ n
  pub is : a ≡ array_shown core i 1 false (before + i)

pub row_array : (core : List Tagged) (before n : ℕ) (a : Array) → Has (data_rows core before n) a → RowArray core before n a
row_array core before zero a h = absurd h
row_array core before (suc n) a (inl e) = record { i = suc n; low = omega arith; high = omega arith; is = sym e }
row_array core before (suc n) a (inr h) = let r = row_array core before n a h in let high = r.high in record { i = r.i; low = r.low; high = omega (arith, high); is = r.is }

-- ---- homes and names

pub number_some : (k : Sight) (facts : TableFacts k) (r : TaskRow) → Has k.tasks r → 0 < r.number
number_some k facts r h = grind (arith, row_fact)

slot_found : (rs : List TaskRow) (r : TaskRow) → RowsApart rs → Has rs r → slot_numbered rs r.job r.number ≡ r.slot
slot_found [] r a h = absurd h
slot_found (q ∷ more) r a (inl e) = grind arith
slot_found (q ∷ more) r a (inr h) = by (eqb_tells q.job r.job) (slot_found more r a.1 h) where
  by : ((q.job == r.job ≡ true) × (q.job ≡ r.job)) ⊎ ((q.job == r.job ≡ false) × (q.job ≢ r.job)) → slot_numbered more r.job r.number ≡ r.slot → slot_numbered (q ∷ more) r.job r.number ≡ r.slot
  by (inl t) rest =
      ap (λ (b : Bool). if b then (if q.number == r.number then q.slot else slot_numbered more r.job r.number) else slot_numbered more r.job r.number) t.0
      ∙ ap (λ (b : Bool). if b then q.slot else slot_numbered more r.job r.number) (ne_eqb q.number r.number ((all_in (AreApart q) more r a.0 h).1 t.1)) ∙ rest
  by (inr t) rest = ap (λ (b : Bool). if b then (if q.number == r.number then q.slot else slot_numbered more r.job r.number) else slot_numbered more r.job r.number) t.0 ∙ rest

module _ (k : Sight) (facts : TableFacts k) where
  -- the name of an array in a live task's stack, and its home back
  pub name_is : (r : TaskRow) → Has k.tasks r → (row : JobRow) (d : ℕ) → d < k.regs.stack_size → array_homed k.regs k.tasks row (base_at k r + d) ≡ named r.number d
  name_is r h row d small =
      let rest : k.regs.stacks + r.slot * k.regs.stack_size + d - k.regs.stacks ≡ r.slot * k.regs.stack_size + d = omega arith in
      ap (λ (b : Bool). if b then base_at k r + d - (row.dictionary + 1 + row.segments) else named (number_seen k.tasks ((base_at k r + d - k.regs.stacks) / k.regs.stack_size)) ((base_at k r + d - k.regs.stacks) % k.regs.stack_size))
      (le-ltb (base_at k r + d) k.regs.stacks (omega arith))
      ∙ ap (λ a. named (number_seen k.tasks (a / k.regs.stack_size)) (a % k.regs.stack_size)) rest
      ∙ ap (λ q. named (number_seen k.tasks q) ((r.slot * k.regs.stack_size + d) % k.regs.stack_size)) (digits_div r.slot small)
      ∙ ap (named (number_seen k.tasks r.slot)) (digits_mod r.slot small)
      ∙ ap (λ (o : Option TaskRow). named (number_by o) d) (found_row k facts r h)

  pub home_is : (r : TaskRow) → Has k.tasks r → (d : ℕ) → d < 2 ^ 14 → home_of k r.job (named r.number d) ≡ base_at k r + d
  home_is r h d small = grind (arith, number_some, le-ltb, digits_div, digits_mod, slot_found)

  pub home_row : (j n : ℕ) → n < 2 ^ 14 → home_of k j n ≡ dictionary_from k.jobs 1 j + 1 + segments_of k.jobs 1 j + n
  home_row j n small = ap (λ (b : Bool). if b then dictionary_from k.jobs 1 j + 1 + segments_of k.jobs 1 j + n else k.regs.stacks + slot_numbered k.tasks j (n / 2 ^ 14) * k.regs.stack_size + n % 2 ^ 14) (lt-ltb n (2 ^ 14) small)

-- ---- sources

abbrev pub entry_kind : ℕ → ℕ → Kind
entry_kind segments i = if nat_le i segments then kind.Code else kind.Row

-- entry i of the dictionary of a job
pub record InDictionary (k : Sight) (t : PagedObject) : Type 0 where
  pub j : ℕ
  pub row : JobRow
  pub found : slice_get k.jobs j ≡ Some row
  pub i : ℕ
  pub low : 1 ≤ i
  pub high : i ≤ row.segments + row.rows
  pub home : t.home ≡ row.dictionary + 1 + i
  pub kind_is : t.kind ≡ entry_kind row.segments i

-- an original among the words of a live task's stack
pub record InStack (k : Sight) (t : PagedObject) : Type 0 where
  pub r : TaskRow
  pub there : Has k.tasks r
  pub d : ℕ
  pub home : t.home ≡ base_at k r + d
  pub low : 0 < d
  pub high : d ≤ stack_words (stack_of_row k r)
  pub kind_is : t.kind ≡ kind.Array
  pub among : Has (words r.slot (stack_of_row k r)) (Original t.home)

pub record Source (k : Sight) (t : PagedObject) : Type 0 where
  pub from : InDictionary k t ⊎ InStack k t
  pub numbers : t.numbers ≡ contents_at k.core t.home

code_in : (k : Sight) (plan : Placement) (j n at many : ℕ) (t : PagedObject) → at ≡ plan.dictionary j + 1 + n → Has (code_objects plan j n (segments_from k.core at many)) t
    → (i : ℕ) × (n ≤ i) × (i < n + many) × (t.home ≡ plan.dictionary j + 1 + i) × (t.kind ≡ kind.Code) × (t.numbers ≡ contents_at k.core t.home)
code_in k plan j n at zero t e h = absurd h
code_in k plan j n at (suc many) t e (inl z) =
    (n, omega arith, omega arith, ap (λ (q : PagedObject). q.home) (sym z), ap (λ (q : PagedObject). q.kind) (sym z), ap (λ (q : PagedObject). q.numbers) (sym z) ∙ ap (contents_at k.core) (e ∙ ap (λ (q : PagedObject). q.home) z))
code_in k plan j n at (suc many) t e (inr h) = grind (arith, code_in k plan j (n + 1) (at + 1) many t)

module _ (held : Locations) (k : Sight) (facts : TableFacts k) (low size : ℕ) (fixed : FixedFacts k low size) (stacks : EachTask k (StackFactsBy held k)) where
  stack_high : (r : TaskRow) → Has k.tasks r → stack_words (stack_of_row k r) < k.regs.stack_size
  stack_high r h = (task_at k facts (StackFactsBy held k) stacks r h).fits.fits

  source_in : (j : ℕ) (row : JobRow) (t : PagedObject) → slice_get k.jobs (j - 1) ≡ Some row → dictionary_from k.jobs 1 j ≡ row.dictionary → segments_of k.jobs 1 j ≡ row.segments
      → Has (objects_of (placed k) (member_in k row j)) t → Source k t
  source_in j row t found dict segs h = elim (has_append_cases (code_objects (placed k) j 1 (segments_from k.core (row.dictionary + 2) row.segments)) (map (array_object (placed k) j) (job_seen k row j).arrays) t h) [
    | inl z ↦
        let (i, lo, hi, home, kd, ns) = code_in k (placed k) j 1 (row.dictionary + 2) row.segments t (omega (arith, dict)) z in
        let code : entry_kind row.segments i ≡ kind.Code = ap (λ (b : Bool). if b then kind.Code else kind.Row) (le-leb i row.segments (omega (arith, hi))) in
        record { from = inl (record { j = j - 1; row = row; found = found; i = i; low = lo; high = omega (arith, hi); home = omega (arith, home, dict); kind_is = kd ∙ sym code }); numbers = ns }
    | inr z ↦ (let b = has_map_back (array_object (placed k) j) (job_seen k row j).arrays t z in subst (Source k) b.is (array_source b.item b.among))
  ] where
    in_stack : (a : Array) (r : TaskRow) → Has (rows_of k.tasks j) r → Has (arrays_of k.core r.number (array_homed k.regs k.tasks row) (stack_of_row k r)) a → Source k (array_object (placed k) j a)
    in_stack a r hr ha =
        let f = has_filter (λ (q : TaskRow). q.job == j) k.tasks r (sorted_has (rows_in k.tasks j) r hr) in
        let job = eqb-true r.job j f.1 in
        let s = task_at k facts (StackFactsBy held k) stacks r f.0 in
        let o = array_of k.core r.slot r.number (array_homed k.regs k.tasks row) (stack_of_row k r) a ha in
        let at = original_at held k.core (suc (base_at k r)) (words r.slot (stack_of_row k r)) o.home s.lie o.among in
        let lo = at.low in
        let hi = at.high in
        let long = words-length r.slot (stack_of_row k r) in
        let short = stack_high r f.0 in
        let big = fixed.stack_high in
        let d : base_at k r + (o.home - base_at k r) ≡ o.home = omega (arith, lo) in
        let name : array_homed k.regs k.tasks row o.home ≡ named r.number (o.home - base_at k r) =
        ap (array_homed k.regs k.tasks row) (sym d) ∙ name_is k facts r f.0 row (o.home - base_at k r) (omega (arith, lo, hi, long, short)) in
        let home : home_of k j (array_homed k.regs k.tasks row o.home) ≡ o.home =
        ap (home_of k j) name ∙ ap (λ i. home_of k i (named r.number (o.home - base_at k r))) (sym job) ∙ home_is k facts r f.0 (o.home - base_at k r) (omega (arith, lo, hi, long, short, big)) ∙ d in
        subst (λ (b : Array). Source k (array_object (placed k) j b)) (sym o.is) (record {
          from = inr (record {
            r = r;
            there = f.0;
            d = o.home - base_at k r;
            home = home ∙ sym d;
            low = omega (arith, lo);
            high = omega (arith, lo, hi, long);
            kind_is = refl;
            among = subst (λ i. Has (words r.slot (stack_of_row k r)) (Original i)) (sym home) o.among;
          });
          numbers = ap (contents_at k.core) (sym home);
        })

    in_rows : (a : Array) → Has (data_rows k.core (row.dictionary + 1 + row.segments) row.rows) a → Source k (array_object (placed k) j a)
    in_rows a ha =
        let q = row_array k.core (row.dictionary + 1 + row.segments) row.rows a ha in
        let lies = dictionary_lies k.core k.regs.stacks 160 k.jobs (j - 1) row fixed.dictionaries found in
        let few = lies.few in
        let hi = q.high in
        let lo = q.low in
        let home : home_of k j q.i ≡ row.dictionary + 1 + row.segments + q.i = home_row k facts j q.i (omega (arith, hi, few)) ∙ (let z : dictionary_from k.jobs 1 j + 1 + segments_of k.jobs 1 j + q.i ≡ row.dictionary + 1 + row.segments + q.i = omega (arith, dict, segs) in z) in
        let kd : entry_kind row.segments (row.segments + q.i) ≡ kind.Row = ap (λ (b : Bool). if b then kind.Code else kind.Row) (lt-leb (row.segments + q.i) row.segments (omega (arith, lo))) in
        subst (λ (b : Array). Source k (array_object (placed k) j b)) (sym q.is) (record {
          from = inl (record { j = j - 1; row = row; found = found; i = row.segments + q.i; low = omega (arith, lo); high = omega (arith, hi); home = home ∙ (let z : row.dictionary + 1 + row.segments + q.i ≡ row.dictionary + 1 + (row.segments + q.i) = omega arith in z); kind_is = sym kd });
          numbers = ap (contents_at k.core) (sym home);
        })

    array_source : (a : Array) → Has (job_seen k row j).arrays a → Source k (array_object (placed k) j a)
    array_source a ha = elim (has_append_cases (flat_map (λ (r : TaskRow). arrays_of k.core r.number (array_homed k.regs k.tasks row) (stack_of_row k r)) (rows_of k.tasks j)) (data_rows k.core (row.dictionary + 1 + row.segments) row.rows) a ha) [
      | inl z ↦ (let q = has_flat_back (λ (r : TaskRow). arrays_of k.core r.number (array_homed k.regs k.tasks row) (stack_of_row k r)) (rows_of k.tasks j) a z in in_stack a q.item q.among q.inside)
      | inr z ↦ in_rows a z
    ]

  pub source_by : (t : PagedObject) → Has (view_in k).objects t → Source k t
  source_by t h =
      let q = has_flat_back (objects_of (placed k)) (shown k).jobs t h in
      let m = row_of_member k 1 k.jobs q.item q.among in
      source_in q.item.constants.number m.row t m.found m.dictionary m.segments (subst (λ (y : SessionJob). Has (objects_of (placed k) y) t) (sym m.is) q.inside)

pub source : (k : Sight) (facts : TableFacts k) (low size : ℕ) (fixed : FixedFacts k low size) (stacks : EachTask k (StackFacts k)) (t : PagedObject) → Has (view_in k).objects t → Source k t
source k facts low size fixed stacks t h = source_by (held_of k) k facts low size fixed stacks t h
