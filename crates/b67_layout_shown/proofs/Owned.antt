-- A job keeps its order under names by place: arrays.
use Rattle.std.proofs.Common.{◌≡◌, ◌≢◌, ℕ, zero, suc, ◌+◌, ◌<◌, ◌≤◌, Bool, List, [], ◌∷◌, map, reverse, length, Option, refl, sym, ◌∙◌, ap, subst, arith, inl, inr}
use Rattle.std.specs.Prelude.{if◌then◌else◌, unwrap_or, eqb}
use Rattle.std.proofs.lemmas.List.{length-reverse}
use Rattle.std.proofs.lemmas.Bool.{eq-eqb, cases_eq}
use Rattle.b67_lemmas.specs.Lists.{Has, total, how_many, Falls}
use Rattle.b67_lemmas.proofs.Members.{all_in, falls_more, falls_same, keyed_falls, has_map, has_reverse, has_reverse_back, total_has}
use Rattle.b67_model.specs.Common.{Word, Original, Frame, Array, Task, Job, JobConstants, Segment, no_array, array, Starts, Known, IsSegment, OwnsArray, FramesInOrder, TaskInOrder, TasksInOrder, SettingInOrder, EntryInOrder, rows_after, DictionaryWords, is_original_of, originals_in, originals_of, outer_of}
use Rattle.b67_layout.proofs.Originals.{original_of, entry_number}
use Rattle.b67_layout_shown.specs.Places.{named, name_among, array_among, originals_among, rows_down, array_named}
use Rattle.b67_layout_shown.proofs.Arrays.{among_none}
use Rattle.b67_layout_shown.proofs.Placed.{falls_among, placed_task, among_more, among_cell, among_back}
use Rattle.b67_layout_shown.proofs.Order.{Kept}
use Rattle.b67_layout_shown.proofs.Jobs.{task_number}

-- ---- small lemmas

some_item : {A : Type 0} (weight : A → ℕ) (xs : List A) → total weight xs ≢ 0 → (x : A) × Has xs x × (weight x ≢ 0)
some_item weight [] ne = absurd (ne refl)
some_item weight (x ∷ xs) ne = grind (arith, some_item weight xs)

some_original : (a : ℕ) (ws : List Word) → how_many (is_original_of a) ws ≢ 0 → Has ws (Original a)
some_original a ws ne = grind (arith, some_item)

owns : (P : Starts) (arrays : List Array) (outer : List Known) (fs : List Frame) (g : Frame) (a : ℕ) → FramesInOrder P arrays outer fs → Has fs g → Has g.cells (Original a) → OwnsArray arrays g.identity a
owns P arrays outer [] g a o h w = absurd h
owns P arrays outer (f ∷ below) g a o (inl e) w = grind (arith, all_in)
owns P arrays outer (f ∷ below) g a o (inr h) w = owns P arrays outer below g a o.2 h w

row_there : (i k : ℕ) (ws : List Word) → rows_after i ws → i ≤ k → k < i + length ws → Has ws (Original k)
row_there i k [] g low high = absurd (omega (arith, low, high))
row_there i k (w ∷ ws) g low high = grind (arith, row_there (i + 1) k ws g.1)

entry_there : (g k : ℕ) (segments : List Segment) (ws : List Word) → DictionaryWords g segments ws → 1 ≤ k → k + length segments ≤ length ws → Has ws (Original k)
entry_there g k [] ws d low high = row_there 1 k ws d low (omega (arith, high))
entry_there g k (s ∷ more) [] d low high = absurd d
entry_there g k (s ∷ more) (w ∷ ws) d low high = inr (entry_there (g + 1) k more ws d.1 low (omega (arith, high)))

rows_has : (n k : ℕ) → 1 ≤ k → k ≤ n → Has (rows_down n) k
rows_has zero k low high = absurd (omega (arith, low, high))
rows_has (suc n) k low high = grind (arith, rows_has n k low)

rows_back : (n k : ℕ) → Has (rows_down n) k → (1 ≤ k) × (k ≤ n)
rows_back zero k h = absurd h
rows_back (suc n) k (inl e) = (omega (arith, e), omega (arith, e))
rows_back (suc n) k (inr h) = let r = rows_back n k h in (r.0, omega (arith, r.1))

-- ---- the arrays of a job in order

module _ (constants : JobConstants) (job : Job) (numbers : ℕ → List ℕ) (rows : ℕ)
    (unchanging : SettingInOrder constants) (order : TasksInOrder (IsSegment constants) constants job)
    (rows_are : rows + length constants.segments ≡ length constants.dictionary.cells) where
  abbrev rename : ℕ → ℕ
  rename = name_among job.tasks

  abbrev relabel : ℕ → ℕ
  relabel = array_among job.tasks

  abbrev listed : List ℕ
  listed = originals_among job.tasks (rows_down rows)

  pub own_task : (t : Task) → Has job.tasks t → TaskInOrder (IsSegment constants) constants job t
  own_task t there = all_in (TaskInOrder (IsSegment constants) constants job) job.tasks t order.tasks there

  pub owned_in : (t : Task) (g : Frame) (a : ℕ) → Has job.tasks t → Has t.frames g → Has g.cells (Original a) → OwnsArray job.arrays g.identity a
  owned_in t g a there among word = owns (IsSegment constants) job.arrays (outer_of job t) t.frames g a (own_task t there).frames among word

  pub once_of : (item : Array) → Has job.arrays item → originals_of item.identity constants job ≡ 1
  once_of item live = all_in (λ (b : Array). originals_of b.identity constants job ≡ 1) job.arrays item order.once live

  -- no array has two originals in tasks
  pub single : (a : ℕ) → total (λ (u : Task). originals_in a u.frames) job.tasks ≤ 1
  single a = elim (cases_eq (total (λ (u : Task). originals_in a u.frames) job.tasks) 0) [
    | inl z ↦ omega (arith, z)
    | inr z ↦
        let t = some_item (λ (u : Task). originals_in a u.frames) job.tasks z in
        let g = some_item (λ (f : Frame). how_many (is_original_of a) f.cells) t.0.frames t.2 in
        let own = owned_in t.0 g.0 a t.1 g.1 (some_original a g.0.cells g.2) in
        let one = subst (λ n. originals_of n constants job ≡ 1) own.named (once_of own.item own.live) in
        omega (arith, one)
  ]

  pub entry : (n : ℕ) → 1 ≤ n → n ≤ rows → Has constants.dictionary.cells (Original n)
  entry n low high = grind (arith, length-reverse, has_reverse_back, entry_there)

  pub entry_owned : (n : ℕ) → Has constants.dictionary.cells (Original n) → OwnsArray job.arrays 1 n
  entry_owned n there = all_in (EntryInOrder job.arrays) constants.dictionary.cells (Original n) order.entries there

  -- data rows keep their names
  pub entry_named : (n : ℕ) → Has constants.dictionary.cells (Original n) → relabel n ≡ n
  entry_named n there =
      let own = entry_owned n there in
      let one = subst (λ i. originals_of i constants job ≡ 1) own.named (once_of own.item own.live) in
      let self : ◌≡◌ {A = ℕ} (if eqb n n then 1 else 0) 1 = ap (λ (b : Bool). if b then 1 else 0) (eq-eqb n n refl) in
      let here = total_has (λ (w : Word). if is_original_of n w then 1 else 0) constants.dictionary.cells (Original n) there in
      among_none job.tasks n (omega (arith, one, here, self))

  row_named : (n : ℕ) → 1 ≤ n → n ≤ rows → relabel n ≡ n
  row_named n low high = entry_named n (entry n low high)

  rows_fall : (n bound : ℕ) → n ≤ rows → n < bound → Falls bound (map relabel (rows_down n))
  rows_fall zero bound high low = tt
  rows_fall (suc n) bound high low = grind (arith, row_named, rows_fall n (relabel (suc n)))

  few_rows : rows < named 1 0
  few_rows = let few = unchanging.entries in omega (arith, few, rows_are)

  pub listed_fall : Falls (named (job.next_task + 1) 0) (map relabel listed)
  listed_fall = falls_among (array_among job.tasks) job.tasks (job.next_task + 1) (rows_down rows) (omega arith) (falls_more job.next_task (job.next_task + 1) (map (λ (t : Task). t.number) job.tasks) (omega arith) order.numbers)
      (λ t there.
      let own = own_task t there in
      let high = own.not_higher in
      let small = unchanging.stack_high in
      (task_number (IsSegment constants) constants job t own, omega (arith, high, small), placed_task job.tasks t there single))
      (rows_fall rows (named 1 0) (omega arith) few_rows)

  -- each array is listed, and each that is listed is an array
  pub is_listed : (a : Array) → Has job.arrays a → Has listed a.identity
  is_listed a there = elim (original_of constants job order a there) [
    | inl d ↦
        let e = entry_number 1 constants.segments (reverse constants.dictionary.cells) a.identity unchanging.dictionary (has_reverse constants.dictionary.cells (Original a.identity) d) in
        let long : length (reverse constants.dictionary.cells) ≡ length constants.dictionary.cells = length-reverse constants.dictionary.cells in
        among_more job.tasks (rows_down rows) a.identity (rows_has rows a.identity e.0 (omega (arith, e.1, rows_are, long)))
    | inr q ↦ among_cell job.tasks (rows_down rows) q.task q.frame a.identity q.live q.among q.word
  ]

  pub record Listed (n : ℕ) : Type 0 where
    pub item : Array
    pub live : Has job.arrays item
    pub named : item.identity ≡ n
    pub is : array job n ≡ item

  pub found_array : (item : Array) → Has job.arrays item → array job item.identity ≡ item
  found_array item live = ap (λ (o : Option Array). unwrap_or o no_array) (keyed_falls (λ (a : Array). a.identity) job.next_array job.arrays item order.names live)

  by_owner : (owner n : ℕ) → OwnsArray job.arrays owner n → Listed n
  by_owner owner n own = record { item = own.item; live = own.live; named = own.named; is = subst (λ i. array job i ≡ own.item) own.named (found_array own.item own.live) }

  pub listed_is : (n : ℕ) → Has listed n → Listed n
  listed_is n there = elim (among_back job.tasks (rows_down rows) n there) [
    | inl o ↦ by_owner o.frame.identity n (owned_in o.task o.frame n o.live o.among o.word)
    | inr r ↦ (let b = rows_back rows n r in by_owner 1 n (entry_owned n (entry n b.0 b.1)))
  ]

  -- ---- under names by place

  abbrev placed : List Array
  placed = map (λ n. array_named (name_among job.tasks) (array_among job.tasks) numbers (array job n)) (originals_among job.tasks (rows_down rows))

  pub kept : (a : Array) → Has job.arrays a → Kept (name_among job.tasks) (array_among job.tasks) placed a
  kept a there = record {
    item = array_named (name_among job.tasks) (array_among job.tasks) numbers (array job a.identity);
    live = has_map (λ n. array_named (name_among job.tasks) (array_among job.tasks) numbers (array job n)) listed a.identity (is_listed a there);
    named = ap (λ (b : Array). relabel b.identity) (found_array a there);
    owned = ap (λ (b : Array). rename b.owner) (found_array a there);
  }

  pub names_apart : (a b : Array) → Has job.arrays a → Has job.arrays b → relabel a.identity ≡ relabel b.identity → a.identity ≡ b.identity
  names_apart a b ha hb e = falls_same relabel (named (job.next_task + 1) 0) listed a.identity b.identity listed_fall (is_listed a ha) (is_listed b hb) e

  pub names_fall : Falls (named (job.next_task + 1) 0) (map (λ (a : Array). a.identity) placed)
  names_fall =
      let twice : map (λ (a : Array). a.identity) placed ≡ map relabel listed = maps listed (λ n there. ap relabel (ap (λ (b : Array). b.identity) (listed_is n there).is ∙ (listed_is n there).named)) in
      subst (Falls (named (job.next_task + 1) 0)) (sym twice) listed_fall where
        maps : (ns : List ℕ) → ((n : ℕ) → Has ns n → relabel (array job n).identity ≡ relabel n) → map (λ (a : Array). a.identity) (map (λ n. array_named (name_among job.tasks) (array_among job.tasks) numbers (array job n)) ns) ≡ map relabel ns
        maps [] h = refl
        maps (n ∷ ns) h = ap (λ i. i ∷ map (λ (a : Array). a.identity) (map (λ n. array_named (name_among job.tasks) (array_among job.tasks) numbers (array job n)) ns)) (h n (inl refl)) ∙ ap (λ is. relabel n ∷ is) (maps ns (λ k there. h k (inr there)))
