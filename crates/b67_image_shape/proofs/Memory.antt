-- Core, registers and areas of a machine that has all items represent the view that it shows.
use Rattle.std.proofs.Common.{◌≡◌, ◌≢◌, ℕ, zero, suc, ◌+◌, ◌-◌, ◌*◌, ◌/◌, ◌%◌, ◌^◌, ◌<◌, ◌≤◌, ◌==◌, Bool, true, false, List, [], ◌∷◌, ◌++◌, map, replicate, length, Option, Some, None, refl, sym, ◌∙◌, ap, subst, arith, inl, inr}
use Rattle.std.specs.Prelude.{◌⊎◌, not, if◌then◌else◌}
use Rattle.std.specs.List.{AllByRecursion, slice_get, list_any}
use Rattle.std.proofs.lemmas.Bool.{cases_Bool, cases_eq, cases_lt, eq-eqb, eqb-true}
use Rattle.std.proofs.lemmas.List.{nil_from_length}
use Rattle.std.proofs.lemmas.Option.{same_Some}
use Rattle.std.proofs.Math.Arith.{digits_div, digits_mod}
use Rattle.b67_word.specs.Tagged.{Tagged, bits_at}
use Rattle.b67_area.specs.declared.Kind.{Kind}
use Rattle.b67_area.specs.declared.Kind.TheVariants as kind
use Rattle.b67_area.specs.Spans.{area_at}
use Rattle.b67_backing.specs.Shelf.{Table, Shelf, IsShelf, times, chain_of}
use Rattle.b67_backing.proofs.Links.{chain_there, one-same, uses-split}
use Rattle.b67_lemmas.specs.Lists.{Has}
use Rattle.b67_lemmas.proofs.Members.{all_in, keyed_has, has_map, has_append_right, has_append_cases, has_map_back, has_flat, has_flat_back, has_get, any_has, any_some}
use Rattle.b67_model.specs.Words as Words
use Rattle.b67_model.specs.Common.{Word, Operand, Name, Ref, Row, Element, Original, Proc, Intrinsic, Array, Segment, Frame, Job, SessionJob, IsSegment, Starts, Known, known_of, outer_of, FramesInOrder, WordInOrder, NamesArray, ArrayInOrder, array}
use Rattle.b67_model.specs.InOrder.{SegmentInOrder}
use Rattle.b67_stack.specs.Common as stack
use Rattle.b67_stack.specs.Common.{Location, nowhere, Copied, Copy, Is, Shape, Fits, LieDownward, Head, StackPlace, Activation, headed, words, IsStack, stack_words, PagedObject, Slot, Free, Running, Waiting, MachineView, slot_base, stack_of, AreZero, IsArrayAt, CopiesName, SlotFits, IsLaidOut, NoOriginalAboveTop, is_present, Storage, RepresentsSlot, RepresentsSlots, RepresentsObject, ObjectHasChain, HoldsIn, KeptChain, Content, Owned, Represents}
use Rattle.b67_stack.proofs.Bases.{base-apart}
use Rattle.b67_layout.specs.Common.{Placement, spot_in, outer_spots, shape, head, activations, stack_of_task, slot_at, array_object, code_objects, objects_of, TaskRow, JobRow, RunningRow}
use Rattle.b67_layout_shown.specs.Reading.{word_seen_at, is_set, desc_in}
use Rattle.b67_layout_shown.specs.Shown.{Sight, contents_by, stack_of_row, task_in, job_seen, member_in, constants_in, shown, placed}
use Rattle.b67_image_shape.specs.TableFacts.{row_in_slot, TableFacts}
use Rattle.b67_image_shape.specs.FixedWords.{FreeSlot, FixedFacts}
use Rattle.b67_image_shape.specs.Held.{location_by, location_in, is_home_of, view_in, held_of, spans_of}
use Rattle.b67_image_shape.specs.Items.{EachTask, base_at, TopFacts, StackFacts, CellFacts, JobObjectFacts, ObjectsFacts, info_seen, AreaFacts, HasChainSectors, Chained}
use Rattle.b67_image_shape.proofs.Rows.{each_at, of_row, row_fact, found_row, slot_live, slot_free}
use Rattle.b67_image_shape.proofs.Members.{row_of_member}
use Rattle.b67_image_shape.proofs.EachTask.{task_at}
use Rattle.b67_image_shape.proofs.Sources.{contents_at, dictionaries_low, Lies, dictionary_lies, dictionaries_apart, entry_kind, InDictionary, InStack, Source, source}

-- ---- objects

same_object : (t u : PagedObject) → t.home ≡ u.home → t.kind ≡ u.kind → t.numbers ≡ u.numbers → record { home = t.home; kind = t.kind; numbers = t.numbers } ≡ u
same_object t u a b c = rw (a, b, c) refl

zeros : (n : ℕ) → AreZero (replicate n zero)
zeros zero = tt
zeros (suc n) = (refl, zeros n)

pub no_zero : (t : Table) (s : Shelf) → IsShelf t s → chain_of 0 s.chains ≡ []
no_zero t s is = elim (cases_lt (length (chain_of 0 s.chains)) 1) [
  | inl l ↦ nil_from_length (chain_of 0 s.chains) (omega (arith, l))
  | inr l ↦
      let c = chain_there t.links 0 s.chains is.chains l in
      let some : 1 ≤ times 0 (chain_of 0 s.chains) = rw c.is (omega (arith, one-same 0)) in
      absurd (omega (arith, some, uses-split 0 0 s.chains, is.zero))
]

-- ---- copies name arrays of the job

module _ (plan : Placement) (j : ℕ) (job : Job) (objects : List PagedObject) (inside : (a : Array) → Has job.arrays a → Has objects (array_object plan j a)) where
  abbrev IsNamed : Shape → Type 0
  IsNamed a = (c : Copied) (home : ℕ) → a ≡ Copy c home → IsArrayAt objects home

  named_array : (reach : List Known) (a : ℕ) → NamesArray job.arrays reach a → IsArrayAt objects (plan.home j a)
  named_array reach a n = grind arith

  at_home : (reach : List Known) (a : ℕ) (d c : Copied) (home : ℕ) → NamesArray job.arrays reach a → Copy d (plan.home j a) ≡ Copy c home → IsArrayAt objects home
  at_home reach a d c home n e = (let same : plan.home j a ≡ home = cc in subst (IsArrayAt objects) same (named_array reach a n))

  word_named : (P : Starts) (reach : List Known) (owner : ℕ) (spot : ℕ → StackPlace) (w : Word) → WordInOrder P job.arrays reach owner w → IsNamed (shape plan j job spot w)
  word_named P reach owner spot w o c home e = grind arith

  cells_named : (P : Starts) (reach : List Known) (owner : ℕ) (spot : ℕ → StackPlace) (ws : List Word) → AllByRecursion (WordInOrder P job.arrays reach owner) ws → (c : Copied) (home : ℕ) → Has (map (shape plan j job spot) ws) (Copy c home) → IsArrayAt objects home
  cells_named P reach owner spot [] o c home h = absurd h
  cells_named P reach owner spot (w ∷ ws) o c home (inl e) = word_named P reach owner spot w o.0 c home e
  cells_named P reach owner spot (w ∷ ws) o c home (inr h) = cells_named P reach owner spot ws o.1 c home h

  under_head : (k : ℕ) (h : Head) (below : List Activation) (under : List Shape) (c : Copied) (home : ℕ) → Has (headed k h below under) (Copy c home) → Has under (Copy c home)
  under_head k h below under c home e = grind arith

  pub copies_name : (P : Starts) (k : ℕ) (outer : ℕ → StackPlace) (reach : List Known) (fs : List Frame) → FramesInOrder P job.arrays reach fs → CopiesName objects (words k (activations plan j job k outer fs))
  copies_name P k outer reach [] o c home h = absurd h
  copies_name P k outer reach (f ∷ below) o c home h =
      let cells = map (shape plan j job (spot_in k outer (f ∷ below))) f.cells in
      let acts = activations plan j job k outer below in
      let top = head (spot_in k outer below) f.standing in
      elim (has_append_cases (map (shape plan j job (spot_in k outer (f ∷ below))) f.cells) (headed k (head (spot_in k outer below) f.standing) (activations plan j job k outer below) (words k (activations plan j job k outer below))) (Copy c home) h) [
        | inl z ↦ cells_named P (map known_of (f ∷ below) ++ reach) f.identity (spot_in k outer (f ∷ below)) f.cells o.0.0 c home z
        | inr z ↦ copies_name P k outer reach below o.2 c home (under_head k (head (spot_in k outer below) f.standing) (activations plan j job k outer below) (words k (activations plan j job k outer below)) c home z)
      ]

-- ---- the storage

abbrev pub storage_with : Sight → ℕ → Shelf → Storage
storage_with k low shelf = record { held = held_of k; low = low; spans = spans_of k.core low; shelf = shelf; device = None }

segment_of : (plan : Placement) (j n : ℕ) (ss : List Segment) (t : PagedObject) → Has (code_objects plan j n ss) t → (s : Segment) × Has ss s × (t.numbers ≡ s.code)
segment_of plan j n [] t h = absurd h
segment_of plan j n (s ∷ more) t (inl e) = (s, inl refl, ap (λ (q : PagedObject). q.numbers) (sym e))
segment_of plan j n (s ∷ more) t (inr h) = let (q, there, e) = segment_of plan j (n + 1) more t h in (q, inr there, e)

module _ (k : Sight) (facts : TableFacts k) (low size : ℕ) (fixed : FixedFacts k low size) (stacks : EachTask k (StackFacts k)) (cells : EachTask k (CellFacts k)) (objects : ObjectsFacts k) where
  from : (t : PagedObject) → Has (view_in k).objects t → Source k t
  from t h = source k facts low size fixed stacks t h

  stacks_low : k.regs.stacks ≤ low
  stacks_low = let b = fixed.begins in omega (arith, b)

  lies : (t : PagedObject) (s : InDictionary k t) → Lies k.regs.stacks 160 s.row
  lies t s = dictionary_lies k.core k.regs.stacks 160 k.jobs s.j s.row fixed.dictionaries s.found

  in_dictionary : (t : PagedObject) → InDictionary k t → (160 ≤ t.home) × (t.home < k.regs.stacks)
  in_dictionary t s =
      let l = lies t s in
      grind arith

  pub short : (r : TaskRow) → Has k.tasks r → stack_words (stack_of_row k r) < k.regs.stack_size
  short r h = (task_at k facts (StackFacts k) stacks r h).fits.fits

  in_stack : (t : PagedObject) → InStack k t → (k.regs.stacks ≤ t.home) × (t.home < low)
  in_stack t s =
      let e = s.home in
      let h = s.high in
      let q = short s.r s.there in
      let slot = (row_fact k facts s.r s.there).slot in
      grind (arith, base-apart)

  -- ---- what the view keeps by itself

  homes : (t : PagedObject) → Has (view_in k).objects t → (160 ≤ t.home) × (t.home < low)
  homes t h = elim (from t h).from [
    | inl s ↦ (let q = in_dictionary t s in let l = stacks_low in (q.0, omega (arith, q.1, l)))
    | inr s ↦ (let q = in_stack t s in let l = dictionaries_low k.core k.regs.stacks 160 k.jobs fixed.dictionaries in (omega (arith, q.0, l), q.1))
  ]

  codes : (t : PagedObject) → Has (view_in k).objects t → t.kind ≡ kind.Code → t.home < k.regs.stacks
  codes t h e = elim (from t h).from [ inl s ↦ (in_dictionary t s).1 | inr s ↦ absurd (let z : ⊥ = (let q = sym e ∙ s.kind_is in cc) in z) ]

  same_kind : (t u : PagedObject) → InDictionary k t ⊎ InStack k t → InDictionary k u ⊎ InStack k u → t.home ≡ u.home → t.kind ≡ u.kind
  same_kind t u (inr s) (inr v) e = s.kind_is ∙ sym v.kind_is
  same_kind t u (inl s) (inr v) e = let a = in_dictionary t s in let b = in_stack u v in absurd (omega (arith, a, b, e))
  same_kind t u (inr s) (inl v) e = let a = in_stack t s in let b = in_dictionary u v in absurd (omega (arith, a, b, e))
  same_kind t u (inl s) (inl v) e = elim (cases_eq s.j v.j) [
    | inl q ↦
        let same : s.row ≡ v.row = same_Some s.row v.row (sym s.found ∙ ap (slice_get k.jobs) q ∙ v.found) in
        let a = s.home in
        let b = v.home in
        let dict = ap (λ (w : JobRow). w.dictionary) same in
        let i : s.i ≡ v.i = omega (arith, a, b, dict, e) in
        s.kind_is ∙ ap (λ (w : JobRow). entry_kind w.segments s.i) same ∙ ap (entry_kind v.row.segments) i ∙ sym v.kind_is
    | inr ne ↦
        let a = s.home in
        let b = v.home in
        let c = s.high in
        let d = v.high in
        elim (cases_lt s.j v.j) [
          | inl l ↦ (let z = dictionaries_apart k.core k.regs.stacks 160 k.jobs s.j v.j s.row v.row fixed.dictionaries s.found v.found l in absurd (omega (arith, z, a, b, c, e)))
          | inr l ↦ (let z = dictionaries_apart k.core k.regs.stacks 160 k.jobs v.j s.j v.row s.row fixed.dictionaries v.found s.found (omega (arith, l, ne)) in absurd (omega (arith, z, a, b, d, e)))
        ]
  ]

  pub differ : (t u : PagedObject) → Has (view_in k).objects t → Has (view_in k).objects u → t.home ≡ u.home → t ≡ u
  differ t u ht hu e = same_object t u e (same_kind t u (from t ht).from (from u hu).from e) ((from t ht).numbers ∙ ap (contents_at k.core) e ∙ sym (from u hu).numbers)

  slot_of_home : (r : TaskRow) (n d c : ℕ) → d < k.regs.stack_size → c < k.regs.stack_size → base_at k r + d ≡ k.regs.stacks + n * k.regs.stack_size + c → (r.slot ≡ n) × (d ≡ c)
  slot_of_home r n d c ld lc e =
      let same : r.slot * k.regs.stack_size + d ≡ n * k.regs.stack_size + c = omega (arith, e) in
      (sym (digits_div r.slot ld) ∙ ap (λ a. a / k.regs.stack_size) same ∙ digits_div n lc, sym (digits_mod r.slot ld) ∙ ap (λ a. a % k.regs.stack_size) same ∙ digits_mod n lc)

  not_base : (t : PagedObject) → Has (view_in k).objects t → (n : ℕ) → n < k.regs.peak → t.home ≢ slot_base (view_in k) n
  not_base t h n less e = elim (from t h).from [
    | inl s ↦ (let q = (in_dictionary t s).1 in absurd (omega (arith, q, e)))
    | inr s ↦
        let hi = s.high in
        let q = short s.r s.there in
        let home = s.home in
        let some = s.low in
        let same = slot_of_home s.r n s.d 0 (omega (arith, hi, q)) (omega (arith, hi, q)) (omega (arith, home, e)) in
        absurd (omega (arith, some, same.1))
  ]

  lengths : (t : PagedObject) → Has (view_in k).objects t → (0 < length t.numbers) × (length t.numbers < 2 ^ 16)
  lengths t h =
      let q = has_flat_back (objects_of (placed k)) (shown k).jobs t h in
      let m = row_of_member k 1 k.jobs q.item q.among in
      in_job q.item.constants.number m.row m.found m.low (subst (λ (y : SessionJob). Has (objects_of (placed k) y) t) (sym m.is) q.inside) where
        in_job : (j : ℕ) (row : JobRow) → slice_get k.jobs (j - 1) ≡ Some row → 1 ≤ j → Has (objects_of (placed k) (member_in k row j)) t → (0 < length t.numbers) × (length t.numbers < 2 ^ 16)
        in_job j row found some h =
            let at : 1 + (j - 1) ≡ j = omega (arith, some) in
            let f = subst (λ i. JobObjectFacts k i row) at (each_at (JobObjectFacts k) 1 k.jobs (j - 1) row objects.jobs found) in
            elim (has_append_cases (code_objects (placed k) j 1 (constants_in k row j).segments) (map (array_object (placed k) j) (job_seen k row j).arrays) t h) [
              | inl z ↦
                  let (s, there, e) = segment_of (placed k) j 1 (constants_in k row j).segments t z in
                  let o = all_in SegmentInOrder (constants_in k row j).segments s f.segments there in
                  let a = o.length_low in
                  let b = o.length_high in
                  let c = ap (λ (ns : List ℕ). length ns) e in
                  (omega (arith, a, c), omega (arith, b, c))
              | inr z ↦
                  let b = has_map_back (array_object (placed k) j) (job_seen k row j).arrays t z in
                  let o = all_in ArrayInOrder (job_seen k row j).arrays b.item f.arrays b.among in
                  subst (λ (q : PagedObject). (0 < length q.numbers) × (length q.numbers < 2 ^ 16)) b.is (o.length_low, o.length_high)
            ]

  -- ---- slots

  pub there : (r : TaskRow) (h : Has k.tasks r) → List Activation
  there r h = stack_of_task (placed k) r.job (job_seen k (of_row k facts r h).row r.job) r.slot (task_in k (of_row k facts r h).row r.job r)

  array_inside : (r : TaskRow) (h : Has k.tasks r) (a : Array) → Has (job_seen k (of_row k facts r h).row r.job).arrays a → Has (view_in k).objects (array_object (placed k) r.job a)
  array_inside r h a ha =
      let o = of_row k facts r h in
      has_flat (objects_of (placed k)) (shown k).jobs (member_in k o.row r.job) (array_object (placed k) r.job a) o.among
      (has_append_right (code_objects (placed k) r.job 1 (constants_in k o.row r.job).segments) (map (array_object (placed k) r.job) (job_seen k o.row r.job).arrays) (array_object (placed k) r.job a)
      (has_map (array_object (placed k) r.job) (job_seen k o.row r.job).arrays a ha))

  stack_fits : (r : TaskRow) (h : Has k.tasks r) → IsStack k.regs.stack_size (stack_of_task (placed k) r.job (job_seen k (of_row k facts r h).row r.job) r.slot (task_in k (of_row k facts r h).row r.job r))
      × CopiesName (view_in k).objects (words r.slot (stack_of_task (placed k) r.job (job_seen k (of_row k facts r h).row r.job) r.slot (task_in k (of_row k facts r h).row r.job r)))
  stack_fits r h =
      let s = task_at k facts (StackFacts k) stacks r h in
      let c = task_at k facts (CellFacts k) cells r h in
      let o = of_row k facts r h in
      let t = task_in k o.row r.job r in
      let job = job_seen k o.row r.job in (
        subst (IsStack k.regs.stack_size) (sym c.same) s.fits,
        copies_name (placed k) r.job (job_seen k (of_row k facts r h).row r.job) (view_in k).objects (array_inside r h) (IsSegment (constants_in k (of_row k facts r h).row r.job)) r.slot
            (outer_spots (placed k) r.job (job_seen k (of_row k facts r h).row r.job) (task_in k (of_row k facts r h).row r.job r).critical (task_in k (of_row k facts r h).row r.job r).parents)
            (outer_of (job_seen k (of_row k facts r h).row r.job) (task_in k (of_row k facts r h).row r.job r)) (task_in k (of_row k facts r h).row r.job r).frames c.frames,
      )

  if_fits : (n : ℕ) (b : Bool) (st : List Activation) → IsStack k.regs.stack_size st × CopiesName (view_in k).objects (words n st) → SlotFits (view_in k) n (if b then Running st else Waiting st)
  if_fits n b st f = grind arith

  slots_fit : (n : ℕ) (o : Option TaskRow) → row_in_slot k.tasks n ≡ o → SlotFits (view_in k) n (slot_at (placed k) (shown k).jobs n)
  slots_fit n None e = subst (SlotFits (view_in k) n) (sym (slot_free k facts n e)) tt
  slots_fit n (Some r) e =
      let f = keyed_has (λ (q : TaskRow). q.slot) n k.tasks r e in
      subst (λ i. SlotFits (view_in k) i (slot_at (placed k) (shown k).jobs i)) f.1
      (subst (SlotFits (view_in k) r.slot) (sym (slot_live k facts r f.0)) (if_fits r.slot (r.slot == k.regs.slot) _ (stack_fits r f.0)))

  pub laid : IsLaidOut low (view_in k)
  laid = grind (arith, dictionaries_low, slots_fit, homes, codes, differ, not_base, lengths)

  -- ---- tops and words

  free_slot : (n : ℕ) → n < 120 → row_in_slot k.tasks n ≡ None → k.regs.slot ≢ n
  free_slot n less none e = grind (arith, has_get, found_row)

  rep_if : (r : TaskRow) (st : List Activation) → TopFacts k r st → (b : Bool) → (r.slot == k.regs.slot) ≡ b → RepresentsSlot k.core k.regs (view_in k) r.slot (if b then Running st else Waiting st)
  rep_if r st t b e = grind arith

  slots_are : (n : ℕ) → n < k.regs.peak → (o : Option TaskRow) → row_in_slot k.tasks n ≡ o → RepresentsSlot k.core k.regs (view_in k) n (slot_at (placed k) (shown k).jobs n)
  slots_are n less None e = grind (arith, slot_free, free_slot)
  slots_are n less (Some r) e =
      let f = keyed_has (λ (q : TaskRow). q.slot) n k.tasks r e in
      let s = task_at k facts (StackFacts k) stacks r f.0 in
      grind (arith, task_at, slot_live, rep_if)

  stack_if : (b : Bool) (st : List Activation) → stack_of (if b then Running st else Waiting st) ≡ st
  stack_if b st = grind arith

  -- the stack in the slot of a live task is the one that was read
  pub stack_there : (r : TaskRow) → Has k.tasks r → stack_of (slot_at (placed k) (shown k).jobs r.slot) ≡ stack_of_row k r
  stack_there r h = ap stack_of (slot_live k facts r h) ∙ stack_if (r.slot == k.regs.slot) _ ∙ (task_at k facts (CellFacts k) cells r h).same

  words_lie : (n : ℕ) → (o : Option TaskRow) → row_in_slot k.tasks n ≡ o → LieDownward (Fits (held_of k)) k.core (suc (slot_base (view_in k) n)) (words n (stack_of (slot_at (placed k) (shown k).jobs n)))
  words_lie n None e = subst (λ (s : Slot). LieDownward (Fits (held_of k)) k.core (suc (slot_base (view_in k) n)) (words n (stack_of s))) (sym (slot_free k facts n e)) tt
  words_lie n (Some r) e =
      let f = keyed_has (λ (q : TaskRow). q.slot) n k.tasks r e in
      subst (λ i. LieDownward (Fits (held_of k)) k.core (suc (slot_base (view_in k) i)) (words i (stack_of (slot_at (placed k) (shown k).jobs i)))) f.1
      (subst (λ (st : List Activation). LieDownward (Fits (held_of k)) k.core (suc (base_at k r)) (words r.slot st)) (sym (stack_there r f.0)) (task_at k facts (StackFacts k) stacks r f.0).lie)

  pub settled : NoOriginalAboveTop (view_in k)
  settled t h n less lo hi = elim (from t h).from [
    | inl s ↦ (let q = (in_dictionary t s).1 in absurd (omega (arith, q, lo)))
    | inr s ↦
        let up = s.high in
        let q = short s.r s.there in
        let home = s.home in
        let rest : slot_base (view_in k) n + (t.home - slot_base (view_in k) n) ≡ t.home = omega (arith, lo) in
        let same = slot_of_home s.r n s.d (t.home - slot_base (view_in k) n) (omega (arith, up, q)) (omega (arith, rest, hi)) (sym home ∙ sym rest) in
        subst (λ i. t.home ≤ slot_base (view_in k) i + stack_words (stack_of (slot_at (placed k) (shown k).jobs i))) same.0
        (subst (λ (st : List Activation). t.home ≤ base_at k s.r + stack_words st) (sym (stack_there s.r s.there)) (omega (arith, home, up)))
  ]

  -- ---- objects and what owns areas and chains

  module _ (areas : AreaFacts k low) (shelf : Shelf) (table : Table) (is : IsShelf table shelf) (chained : (t : PagedObject) → Has (view_in k).objects t → Chained shelf t t.kind (held_of k t.home).chain)
      (chain_owned : (first : ℕ) → 0 < length (chain_of first shelf.chains) → (t : PagedObject) × Has (view_in k).objects t × ((held_of k t.home).chain ≡ first))
      (chain_once : (t u : PagedObject) → Has (view_in k).objects t → Has (view_in k).objects u → 0 < (held_of k t.home).chain → (held_of k t.home).chain ≡ (held_of k u.home).chain → t.home ≡ u.home) where
    abbrev x : Storage
    x = storage_with k low shelf

    small : (home : ℕ) → (held_of k home).chain < 2 ^ 20
    small home = grind arith

    has_chain : (t : PagedObject) → HasChainSectors shelf t (held_of k t.home).chain → ObjectHasChain x t (held_of k t.home).chain
    has_chain t h = record { some = h.0; small = small t.home; sectors = h.1 }

    kept : (t : PagedObject) (kd : Kind) → Chained shelf t kd (held_of k t.home).chain → KeptChain x t kd (held_of k t.home).chain
    kept t kd h = grind arith

    absent : (t : PagedObject) (kd : Kind) → t.kind ≡ kd → AreZero t.numbers → Chained shelf t kd (held_of k t.home).chain → Content x k.core t None (held_of k t.home).chain
    absent t kd e z h = grind arith

    -- an absent object is shown with zeros
    zero_by : (core : List Tagged) (home : ℕ) (b : Bool) → (location_by core (word_seen_at core home) b).area ≡ None → AreZero (contents_by core (desc_in (word_seen_at core home)).length (desc_in (word_seen_at core home)).address b)
    zero_by core home b e = grind (arith, zeros)

    there_held : (t : PagedObject) → Has (view_in k).objects t → held_of k t.home ≡ location_in k.core t.home
    there_held t h = ap (λ (b : Bool). if b then location_in k.core t.home else nowhere) (any_some (is_home_of t.home) (view_in k).objects t h (eq-eqb t.home t.home refl))

    are_zero : (t : PagedObject) → Has (view_in k).objects t → (held_of k t.home).area ≡ None → AreZero t.numbers
    are_zero t h e = subst AreZero (sym (from t h).numbers) (zero_by k.core t.home (is_set (word_seen_at k.core t.home) 47) (ap (λ (l : Location). l.area) (sym (there_held t h)) ∙ e))

    content : (t : PagedObject) → Has (view_in k).objects t → (o : Option ℕ) → (held_of k t.home).area ≡ o → Content x k.core t o (held_of k t.home).chain
    content t h o e = grind (arith, absent, are_zero, kept)

    of_held : (home at : ℕ) → (held_of k home).area ≡ Some at → (t : PagedObject) × Has (view_in k).objects t × (t.home ≡ home) × (area_at low (spans_of k.core low) at ≡ Some (info_seen k t))
    of_held home at e = grind (arith, cases_Bool, any_has, eqb-true)

    pub memory : Represents (storage_with k low shelf) k.core k.regs (view_in k)
    memory = grind (arith, laid, slots_are, words_lie, content, of_held, no_zero)
