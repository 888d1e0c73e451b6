-- The text of a dump doesn't see names: a job's text is that of the same job under names by place.
use Rattle.std.proofs.Common.{◌≡◌, ◌≢◌, ℕ, ◌+◌, ◌≤◌, ◌==◌, Bool, List, [], ◌∷◌, ◌++◌, map, length, Some, refl, sym, ◌∙◌, ap, subst, arith, inl, inr}
use Rattle.std.specs.Prelude.{if◌then◌else◌, option_map, codes, decimal}
use Rattle.std.specs.List.{AllByRecursion}
use Rattle.std.proofs.lemmas.List.{length-map}
use Rattle.std.proofs.lemmas.Bool.{ne_eqb}
use Rattle.b67_io.specs.Line.{ended}
use Rattle.b67_lemmas.specs.Lists.{Has}
use Rattle.b67_lemmas.proofs.Members.{has_map, keyed_has, keyed_falls}
use Rattle.b67_model.specs.Words as Words
use Rattle.b67_model.specs.Keyed.{keyed}
use Rattle.b67_model.specs.Common.{Word, Operand, Name, Ref, Row, Element, Original, Proc, Intrinsic, Standing, Frame, Array, Condition, Task, Job, SessionJob, array, from_frame, outer_reach, outer_of, reach_of, Known, known_of, identities, is_original_of, IsSegment, WordInOrder, StandsInOrder, FramesInOrder, BirthInOrder, ConditionInOrder, TaskInOrder, TasksInOrder, SettingInOrder}
use Rattle.b67_layout.proofs.Originals.{original_of}
use Rattle.b67_layout_shown.specs.Places.{named, name_among, array_among, word_by, standing_by, frame_by, condition_by, task_by, array_named, job_placed, originals_among, rows_down}
use Rattle.b67_layout_shown.proofs.Names.{named_frames}
use Rattle.b67_layout_shown.proofs.Outer.{name_low, above_base}
use Rattle.b67_layout_shown.proofs.Reach.{from_by}
use Rattle.b67_layout_shown.proofs.Order.{same_name}
use Rattle.b67_layout_shown.proofs.Owned.{own_task, owned_in, entry_owned, entry_named, kept, names_apart, names_fall, is_listed, found_array}
use Rattle.b67_layout_shown.proofs.Apart.{live_high, live_apart}
use Rattle.b67_dump.proofs.Listed.{is_there, own_or_outer}
use Rattle.b67_dump.specs.Dump.{beside, LiveRecord, record_by, record_among, name_of_record, record_name, cells_of_record, offset_of_original, array_found, array_name, length_of_array, cell_text, cells_text, standing_text, records_text, condition_text, task_text, tasks_text}

-- ---- lists of records

none_from : (c : ℕ) (fs : List Frame) → ((d : ℕ) → Has (identities fs) d → d ≢ c) → from_frame c fs ≡ []
none_from c [] h = refl
none_from c (f ∷ below) h =
    ap (λ (b : Bool). if b then f ∷ below else from_frame c below) (ne_eqb f.identity c (h f.identity (inl refl))) ∙ none_from c below (λ d k. h d (inr k))

none_renamed : (rename relabel : ℕ → ℕ) (c : ℕ) (fs : List Frame) → ((d : ℕ) → Has (identities fs) d → rename d ≢ c) → from_frame c (map (frame_by rename relabel) fs) ≡ []
none_renamed rename relabel c [] h = refl
none_renamed rename relabel c (f ∷ below) h = grind (arith, none_renamed rename relabel c below)

from_inside : (c : ℕ) (fs : List Frame) (g : Frame) → Has (from_frame c fs) g → Has fs g
from_inside c [] g h = absurd h
from_inside c (f ∷ below) g h = grind (arith, from_inside c below g)

from_known : (c : ℕ) (fs : List Frame) (d : ℕ) → Has (identities (from_frame c fs)) d → Has (identities fs) d
from_known c [] d h = absurd h
from_known c (f ∷ below) d h = grind (arith, from_known c below d)

-- ---- a job

module _ (m m' : SessionJob) (numbers : ℕ → List ℕ) (rows : ℕ)
    (unchanging : SettingInOrder m.constants) (order : TasksInOrder (IsSegment m.constants) m.constants m.progress.job)
    (rows_are : rows + length m.constants.segments ≡ length m.constants.dictionary.cells)
    (fits : (a : Array) → Has m.progress.job.arrays a → length (numbers a.identity) ≡ length a.numbers)
    (number_is : m'.constants.number ≡ m.constants.number)
    (dictionary_is : m'.constants.dictionary.cells ≡ m.constants.dictionary.cells)
    (job_is : m'.progress.job ≡ job_placed rows numbers m.progress.job) where
  abbrev job : Job
  job = m.progress.job

  abbrev rename : ℕ → ℕ
  rename = name_among m.progress.job.tasks

  abbrev relabel : ℕ → ℕ
  relabel = array_among m.progress.job.tasks

  own : (t : Task) → Has job.tasks t → TaskInOrder (IsSegment m.constants) m.constants m.progress.job t
  own t there = own_task m.constants m.progress.job numbers rows unchanging order rows_are t there

  high : (t : Task) → Has job.tasks t → (c : ℕ) → Has (identities t.frames) c → 16384 ≤ rename c
  high t there c h = live_high (IsSegment m.constants) m.constants m.progress.job order unchanging.stack_high relabel t there c h

  -- ---- what no other live record is taken for

  record IsTold (c : ℕ) : Type 0 where
    pub apart : (u : Task) → Has job.tasks u → (d : ℕ) → Has (identities u.frames) d → rename d ≡ rename c → d ≡ c
    pub low : (rename c == 1) ≡ (c == 1)

  live_told : (t : Task) → Has job.tasks t → (c : ℕ) → Has (identities t.frames) c → IsTold c
  live_told t there c h =
      let up = high t there c h in
      let above = above_base (IsSegment m.constants) m.constants m.progress.job t (own t there) c h in
      record {
        apart = λ u hu d hd e. live_apart (IsSegment m.constants) m.constants m.progress.job order unchanging.stack_high relabel u t hu there d c hd h e;
        low = ne_eqb (rename c) 1 (λ e. omega (arith, e, up)) ∙ sym (ne_eqb c 1 (λ e. omega (arith, e, above)));
      }

  rename_1 : rename 1 ≡ 1
  rename_1 = name_low (IsSegment m.constants) m.constants m.progress.job order 1 (omega arith)

  rename_0 : rename 0 ≡ 0
  rename_0 = name_low (IsSegment m.constants) m.constants m.progress.job order 0 (omega arith)

  dictionary_told : IsTold 1
  dictionary_told = record { apart = λ u hu d hd e. (let up = high u hu d hd in absurd (omega (arith, up, e, rename_1))); low = ap (λ n. n == 1) rename_1 }

  mcp_told : IsTold 0
  mcp_told = record { apart = λ u hu d hd e. (let up = high u hu d hd in absurd (omega (arith, up, e, rename_0))); low = ap (λ n. n == 1) rename_0 }

  outer_told : (parents : List ℕ) (t : Task) → BirthInOrder job t parents → (k : Known) → Has (outer_reach job t.critical parents) k → IsTold k.0
  outer_told [] t birth k h = grind (arith, dictionary_told, mcp_told)
  outer_told (parent ∷ above) t birth k h =
      let p = birth.parent in
      let found = keyed_has (λ (t : Task). t.number) parent job.tasks p birth.found in
      let deeper = outer_told above p (subst (BirthInOrder job p) birth.line (own p found.0).birth) k in
      grind (arith, own_or_outer, live_told, from_known)

  reach_told : (t : Task) → Has job.tasks t → (k : Known) → Has (reach_of job t) k → IsTold k.0
  reach_told t there k h = elim (own_or_outer t.frames (outer_of job t) k h) [
    | inl o ↦ live_told t there k.0 o
    | inr o ↦ outer_told t.parents t (own t there).birth k o
  ]

  -- ---- the names of records

  from_told : (t : Task) → Has job.tasks t → (c : ℕ) → IsTold c → from_frame (rename c) (map (frame_by rename relabel) t.frames) ≡ map (frame_by rename relabel) (from_frame c t.frames)
  from_told t there c told = elim (is_there c t.frames) [
    | inl h ↦ from_by rename relabel t.number t.frames c (named_frames (IsSegment m.constants) m.constants m.progress.job t order there) h
    | inr n ↦ none_renamed rename relabel (rename c) t.frames (λ d hd e. n d hd (told.apart t there d hd e)) ∙ ap (map (frame_by rename relabel)) (sym (none_from c t.frames n))
  ]

  abbrev renamed : LiveRecord → LiveRecord
  renamed r = record { task = r.task; down = map (frame_by rename relabel) r.down }

  among_same : (ts : List Task) → ((u : Task) → Has ts u → Has job.tasks u) → (c : ℕ) → IsTold c → record_among (map (task_by rename relabel) ts) (rename c) ≡ option_map renamed (record_among ts c)
  among_same [] inside c told = refl
  among_same (t ∷ ts) inside c told = grind (arith, from_told, among_same ts)

  name_same : (j c : ℕ) → IsTold c → name_of_record j (rename c) (record_among (map (task_by rename relabel) job.tasks) (rename c)) ≡ name_of_record j c (record_among job.tasks c)
  name_same j c told = grind (arith, among_same, length-map)

  record_same : (c : ℕ) → IsTold c → record_name m' (rename c) ≡ record_name m c
  record_same c told = grind (arith, name_same)

  -- ---- the offsets of originals

  same : (a b : Array) → Has job.arrays a → Has job.arrays b → (relabel b.identity == relabel a.identity) ≡ (b.identity == a.identity)
  same a b ha hb = same_name m.constants m.constants m.progress.job.arrays (job_placed rows numbers m.progress.job).arrays rename relabel refl
      (kept m.constants m.progress.job numbers rows unchanging order rows_are) (names_apart m.constants m.progress.job numbers rows unchanging order rows_are) a b ha hb

  record IsLive (b : ℕ) : Type 0 where
    pub item : Array
    pub live : Has job.arrays item
    pub named : item.identity ≡ b

  word_same : (a : Array) → Has job.arrays a → (w : Word) → ((b : ℕ) → w ≡ Original b → IsLive b) → is_original_of (relabel a.identity) (word_by rename relabel w) ≡ is_original_of a.identity w
  word_same a ha (Operand bits) h = refl
  word_same a ha (Name couple) h = refl
  word_same a ha (Ref identity offset) h = refl
  word_same a ha (Row b) h = refl
  word_same a ha (Element b index) h = refl
  word_same a ha (Original b) h = let o = h b refl in subst (λ n. (relabel n == relabel a.identity) ≡ (n == a.identity)) o.named (same a o.item ha o.live)
  word_same a ha (Proc segment level place) h = refl
  word_same a ha (Intrinsic number) h = refl
  word_same a ha (Words.Segment number) h = refl

  offset_same : (a : Array) → Has job.arrays a → (ws : List Word) → ((b : ℕ) → Has ws (Original b) → IsLive b)
      → offset_of_original (relabel a.identity) (map (word_by rename relabel) ws) ≡ offset_of_original a.identity ws
  offset_same a ha [] h = refl
  offset_same a ha (w ∷ ws) h =
      ap (λ (b : Bool). if b then 2 + length (map (word_by rename relabel) ws) else offset_of_original (relabel a.identity) (map (word_by rename relabel) ws)) (word_same a ha w (λ b e. h b (inl e)))
      ∙ ap (λ n. if is_original_of a.identity w then 2 + n else offset_of_original (relabel a.identity) (map (word_by rename relabel) ws)) (length-map ws (word_by rename relabel))
      ∙ ap (λ n. if is_original_of a.identity w then 2 + length ws else n) (offset_same a ha ws (λ b k. h b (inr k)))

  entry_same : (a : Array) → Has job.arrays a → (w : Word) → Has m.constants.dictionary.cells w → is_original_of (relabel a.identity) w ≡ is_original_of a.identity w
  entry_same a ha (Operand bits) h = refl
  entry_same a ha (Name couple) h = refl
  entry_same a ha (Ref identity offset) h = refl
  entry_same a ha (Row b) h = refl
  entry_same a ha (Element b index) h = refl
  entry_same a ha (Original b) h =
      let o = entry_owned m.constants m.progress.job numbers rows unchanging order rows_are b h in
      ap (λ n. n == relabel a.identity) (sym (entry_named m.constants m.progress.job numbers rows unchanging order rows_are b h))
      ∙ subst (λ n. (relabel n == relabel a.identity) ≡ (n == a.identity)) o.named (same a o.item ha o.live)
  entry_same a ha (Proc segment level place) h = refl
  entry_same a ha (Intrinsic number) h = refl
  entry_same a ha (Words.Segment number) h = refl

  entry_offset : (a : Array) → Has job.arrays a → (ws : List Word) → ((w : Word) → Has ws w → Has m.constants.dictionary.cells w) → offset_of_original (relabel a.identity) ws ≡ offset_of_original a.identity ws
  entry_offset a ha [] h = refl
  entry_offset a ha (w ∷ ws) h = grind (arith, entry_same, entry_offset a ha ws)

  owner_offset : (a : Array) → Has job.arrays a → (ts : List Task) → ((u : Task) → Has ts u → Has job.tasks u) → (c : ℕ) → IsTold c
      → offset_of_original (relabel a.identity) (cells_of_record m.constants.dictionary.cells (record_among (map (task_by rename relabel) ts) (rename c)))
      ≡ offset_of_original a.identity (cells_of_record m.constants.dictionary.cells (record_among ts c))
  owner_offset a ha [] inside c told = entry_offset a ha m.constants.dictionary.cells (λ w h. h)
  owner_offset a ha (t ∷ ts) inside c told =
      ap (λ fs. offset_of_original (relabel a.identity) (cells_of_record m.constants.dictionary.cells (record_by t.number fs (record_among (map (task_by rename relabel) ts) (rename c))))) (from_told t (inside t (inl refl)) c told)
      ∙ by (from_frame c t.frames) (from_inside c t.frames) (owner_offset a ha ts (λ u h. inside u (inr h)) c told) where
        by : (fs : List Frame) → ((g : Frame) → Has fs g → Has t.frames g)
            → offset_of_original (relabel a.identity) (cells_of_record m.constants.dictionary.cells (record_among (map (task_by rename relabel) ts) (rename c)))
            ≡ offset_of_original a.identity (cells_of_record m.constants.dictionary.cells (record_among ts c))
            → offset_of_original (relabel a.identity) (cells_of_record m.constants.dictionary.cells (record_by t.number (map (frame_by rename relabel) fs) (record_among (map (task_by rename relabel) ts) (rename c))))
            ≡ offset_of_original a.identity (cells_of_record m.constants.dictionary.cells (record_by t.number fs (record_among ts c)))
        by [] s e = e
        by (f ∷ below) s e = offset_same a ha f.cells (λ b k.
            let o = owned_in m.constants m.progress.job numbers rows unchanging order rows_are t f b (inside t (inl refl)) (s f (inl refl)) k in
            record { item = o.item; live = o.live; named = o.named })

  -- ---- arrays

  owner_told : (a : Array) → Has job.arrays a → IsTold a.owner
  owner_told a there = elim (original_of m.constants m.progress.job order a there) [
    | inl d ↦
        let o = entry_owned m.constants m.progress.job numbers rows unchanging order rows_are a.identity d in
        let here = found_array m.constants m.progress.job numbers rows unchanging order rows_are in
        let is : o.item ≡ a = sym (here o.item o.live) ∙ ap (array m.progress.job) o.named ∙ here a there in
        subst IsTold (sym o.owned ∙ ap (λ (b : Array). b.owner) is) dictionary_told
    | inr q ↦ subst IsTold (sym q.owned) (live_told q.task q.live q.frame.identity (has_map (λ (f : Frame). f.identity) q.task.frames q.frame q.among))
  ]

  placed_array : (a : Array) → Has job.arrays a → keyed (λ (b : Array). b.identity) (relabel a.identity) (job_placed rows numbers m.progress.job).arrays ≡ Some (array_named rename relabel numbers a)
  placed_array a there = keyed_falls (λ (b : Array). b.identity) (named (job.next_task + 1) 0) (job_placed rows numbers m.progress.job).arrays (array_named rename relabel numbers a)
      (names_fall m.constants m.progress.job numbers rows unchanging order rows_are)
      (subst (λ (b : Array). Has (job_placed rows numbers m.progress.job).arrays (array_named rename relabel numbers b)) (found_array m.constants m.progress.job numbers rows unchanging order rows_are a there)
      (has_map (λ n. array_named rename relabel numbers (array m.progress.job n)) (originals_among job.tasks (rows_down rows)) a.identity (is_listed m.constants m.progress.job numbers rows unchanging order rows_are a there)))

  found_same : (a : Array) → Has job.arrays a → array_found m' (relabel a.identity) ≡ Some (array_named rename relabel numbers a)
  found_same a there = ap (λ (q : Job). keyed (λ (b : Array). b.identity) (relabel a.identity) q.arrays) job_is ∙ placed_array a there

  found_here : (a : Array) → Has job.arrays a → array_found m a.identity ≡ Some a
  found_here a there = keyed_falls (λ (b : Array). b.identity) job.next_array job.arrays a order.names there

  array_same : (a : Array) → Has job.arrays a → array_name m' (relabel a.identity) ≡ array_name m a.identity
  array_same a there = grind (arith, owner_told, found_same, record_same, owner_offset, found_here)

  length_same : (a : Array) → Has job.arrays a → length_of_array (array_found m' (relabel a.identity)) ≡ length_of_array (array_found m a.identity)
  length_same a there = ap length_of_array (found_same a there) ∙ fits a there ∙ ap length_of_array (sym (found_here a there))

  -- ---- lines

  cell_same : (reach : List Known) → ((k : Known) → Has reach k → IsTold k.0) → (owner : ℕ) (w : Word) → WordInOrder (IsSegment m.constants) job.arrays reach owner w → cell_text m' (word_by rename relabel w) ≡ cell_text m w
  cell_same reach told owner w h = grind (arith, record_same, array_same, length_same)

  cells_same : (reach : List Known) → ((k : Known) → Has reach k → IsTold k.0) → (owner : ℕ) (ws : List Word) → AllByRecursion (WordInOrder (IsSegment m.constants) job.arrays reach owner) ws
      → cells_text m' (map (word_by rename relabel) ws) ≡ cells_text m ws
  cells_same reach told owner [] h = refl
  cells_same reach told owner (w ∷ ws) h = grind (arith, length-map, cell_same, cells_same reach told owner ws h.1)

  standing_same : (reach : List Known) → ((k : Known) → Has reach k → IsTold k.0) → (s : Standing) → StandsInOrder reach s → standing_text m' (standing_by rename s) ≡ standing_text m s
  standing_same reach told s h = grind (arith, record_same)

  records_same : (outer : List Known) (fs : List Frame) → ((k : Known) → Has (map known_of fs ++ outer) k → IsTold k.0) → FramesInOrder (IsSegment m.constants) job.arrays outer fs
      → records_text m' (map (frame_by rename relabel) fs) ≡ records_text m fs
  records_same outer [] told h = refl
  records_same outer (f ∷ below) told h =
      let under : (k : Known) → Has (map known_of below ++ outer) k → IsTold k.0 = λ k i. told k (inr i) in
      let high = length-map below (frame_by rename relabel) in
      let standing = standing_same (map known_of below ++ outer) under f.standing h.1 in
      let cells = cells_same (map known_of (f ∷ below) ++ outer) told f.identity f.cells h.0.0 in
      ap (λ t. t ++ (ended (beside (codes "FRAME") (beside (decimal (length (map (frame_by rename relabel) below) + 1)) (standing_text m' (standing_by rename f.standing)))) ++ cells_text m' (map (word_by rename relabel) f.cells))) (records_same outer below under h.2)
      ∙ ap (λ n. records_text m below ++ (ended (beside (codes "FRAME") (beside (decimal (n + 1)) (standing_text m' (standing_by rename f.standing)))) ++ cells_text m' (map (word_by rename relabel) f.cells))) high
      ∙ ap (λ t. records_text m below ++ (ended (beside (codes "FRAME") (beside (decimal (length below + 1)) t)) ++ cells_text m' (map (word_by rename relabel) f.cells))) standing
      ∙ ap (λ t. records_text m below ++ (ended (beside (codes "FRAME") (beside (decimal (length below + 1)) (standing_text m f.standing))) ++ t)) cells

  condition_same : (reach : List Known) → ((k : Known) → Has reach k → IsTold k.0) → (w : Condition) → ConditionInOrder reach w → condition_text m' (condition_by rename w) ≡ condition_text m w
  condition_same reach told w h = grind (arith, record_same)

  task_same : (t : Task) → Has job.tasks t → task_text m' (task_by rename relabel t) ≡ task_text m t
  task_same t there =
      let o = own t there in
      grind (arith, reach_told, condition_same, records_same)

  tasks_same : (ts : List Task) → ((u : Task) → Has ts u → Has job.tasks u) → tasks_text m' (map (task_by rename relabel) ts) ≡ tasks_text m ts
  tasks_same [] inside = refl
  tasks_same (t ∷ older) inside = grind (arith, task_same, tasks_same older)

  -- the text of the job
  pub job_same : tasks_text m' m'.progress.job.tasks ≡ tasks_text m m.progress.job.tasks
  job_same = ap (λ (q : Job). tasks_text m' q.tasks) job_is ∙ tasks_same m.progress.job.tasks (λ u h. h)
