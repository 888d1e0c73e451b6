-- A job keeps its order under names by place.
use Rattle.std.proofs.Common.{◌≡◌, ◌≢◌, ℕ, ◌+◌, ◌*◌, ◌^◌, ◌<◌, ◌≤◌, ◌==◌, List, [], ◌∷◌, map, length, refl, sym, ◌∙◌, ap, subst, arith, inl, inr}
use Rattle.std.specs.Prelude.{◌↔◌}
use Rattle.std.specs.List.{AllByRecursion}
use Rattle.std.proofs.lemmas.List.{length-map}
use Rattle.b67_lemmas.specs.Lists.{Has, total, how_many, Falls}
use Rattle.b67_lemmas.proofs.Joins.{all_map}
use Rattle.b67_lemmas.proofs.Members.{all_in, all_from, falls_low, falls_same, has_map, map_map_key, total_map, total_same}
use Rattle.b67_model.specs.Words as Words
use Rattle.b67_model.specs.Common.{Word, Operand, Name, Ref, Row, Element, Original, Proc, Intrinsic, Frame, Array, Condition, Ready, Awaits, WaitsAt, Task, Job, JobConstants, array, Starts, Known, known_numbers, IsSegment, OwnsArray, FramesInOrder, TaskInOrder, TasksInOrder, SettingInOrder, ArrayInOrder, EntryInOrder, BirthInOrder, ConditionInOrder, is_original_of, originals_in, originals_of, identities, reach_of, outer_of}
use Rattle.b67_layout.proofs.Originals.{original_of}
use Rattle.b67_layout_shown.specs.Places.{name_among, array_among, frame_by, task_by, condition_by, originals_among, rows_down, array_named, job_placed}
use Rattle.b67_layout_shown.proofs.Frames.{Named}
use Rattle.b67_layout_shown.proofs.Names.{named_frames}
use Rattle.b67_layout_shown.proofs.Outer.{name_low}
use Rattle.b67_layout_shown.proofs.Reach.{known_by, height_by, names_entered, found_by, outer_by, reach_by}
use Rattle.b67_layout_shown.proofs.Order.{Kept, segment_by, owns_array, same_name, frames_order, stack_order, originals_frames}
use Rattle.b67_layout_shown.proofs.Jobs.{reach_falls, frames_apart, task_number}
use Rattle.b67_layout_shown.proofs.Owned.{kept, names_apart, names_fall, entry_named, listed_is, once_of, own_task}

module _ (constants constants' : JobConstants) (job : Job) (numbers : ℕ → List ℕ) (rows : ℕ)
    (unchanging : SettingInOrder constants) (order : TasksInOrder (IsSegment constants) constants job)
    (rows_are : rows + length constants.segments ≡ length constants.dictionary.cells)
    (segments : length constants'.segments ≡ length constants.segments)
    (dictionary : constants'.dictionary ≡ constants.dictionary)
    (size : constants'.stack_size ≡ constants.stack_size)
    (fits : (a : Array) → Has job.arrays a → (length (numbers a.identity) ≡ length a.numbers) × AllByRecursion (λ n. n < 2 ^ 48) (numbers a.identity)) where
  abbrev rename : ℕ → ℕ
  rename = name_among job.tasks

  abbrev relabel : ℕ → ℕ
  relabel = array_among job.tasks

  abbrev job' : Job
  job' = job_placed rows numbers job

  abbrev P : Starts
  P = IsSegment constants

  is_kept : (a : Array) → Has job.arrays a → Kept (name_among job.tasks) (array_among job.tasks) (job_placed rows numbers job).arrays a
  is_kept = kept constants job numbers rows unchanging order rows_are

  condition_order : (reach : List Known) (c : Condition) → ConditionInOrder reach c → ConditionInOrder (map (known_by rename) reach) (condition_by rename c)
  condition_order reach Ready h = tt
  condition_order reach (Awaits n) h = tt
  condition_order reach (WaitsAt frame offset) h = (names_entered rename relabel reach frame h.0, h.1)

  has_identity : (fs : List Frame) (c : ℕ) → Has (identities fs) c → Has (identities (map (frame_by rename relabel) fs)) (rename c)
  has_identity [] c h = absurd h
  has_identity (f ∷ below) c (inl e) = inl (ap rename e)
  has_identity (f ∷ below) c (inr h) = inr (has_identity below c h)

  birth_order : (t : Task) (parents : List ℕ) → BirthInOrder job t parents → BirthInOrder job' (task_by rename relabel t) parents
  birth_order t [] b = (b.0, ap rename b.1 ∙ name_low P constants job order 0 (omega arith))
  birth_order t (parent ∷ above) b = record {
    parent = task_by rename relabel b.parent;
    found = found_by P constants job order relabel job' refl parent b.parent b.found;
    line = b.line;
    older = b.older;
    is_critical = has_identity b.parent.frames t.critical b.is_critical;
  }

  some_by : (fs : List Frame) → fs ≢ [] → map (frame_by rename relabel) fs ≢ []
  some_by [] h e = h refl
  some_by (f ∷ below) h e = cc

  task_order : (t : Task) → Has job.tasks t → TaskInOrder (IsSegment constants') constants' job' (task_by rename relabel t)
  task_order t there =
      let own = own_task constants job numbers rows unchanging order rows_are t there in
      let apart = names_apart constants job numbers rows unchanging order rows_are in
      let reach = reach_by P constants job order relabel job' refl t there in
      let outer = outer_by P constants job order relabel job' refl t.parents t own.birth in
      let high = own.not_higher in
      let same = height_by rename relabel t.frames in
      record {
        frames = subst (λ ks. FramesInOrder (IsSegment constants') job'.arrays ks (map (frame_by rename relabel) t.frames)) (sym outer)
            (frames_order constants constants' job.arrays job'.arrays rename relabel segments is_kept apart (outer_of job t) t.frames own.frames);
        returns = stack_order constants constants' job.arrays job'.arrays rename relabel segments is_kept apart t.frames own.returns;
        some = some_by t.frames own.some;
        falls = subst (λ ks. Falls job'.next_frame (known_numbers ks)) (sym reach) (reach_falls P constants job order relabel unchanging.stack_high t there (falls_low job.next_task (map (λ (u : Task). u.number) job.tasks) t.number order.numbers (has_map (λ (u : Task). u.number) job.tasks t there)));
        not_higher = omega (arith, high, same, size);
        place = segment_by constants constants' job.arrays job'.arrays rename relabel segments is_kept apart t.segment _ _ t.place own.place;
        birth = birth_order t t.parents own.birth;
        condition = subst (λ ks. ConditionInOrder ks (condition_by rename t.condition)) (sym reach) (condition_order (reach_of job t) t.condition own.condition);
      }

  -- ---- arrays

  rename_1 : rename 1 ≡ 1
  rename_1 = name_low P constants job order 1 (omega arith)

  -- the owner is a frame of the job, or its dictionary
  owner_by : (a : Array) → Has job.arrays a → (rename a.owner ≡ 1) ↔ (a.owner ≡ 1)
  owner_by a there = elim (original_of constants job order a there) [
    | inl d ↦
        let own = all_in (EntryInOrder job.arrays) constants.dictionary.cells (Original a.identity) order.entries d in
        let same : own.item ≡ a = falls_same (λ (b : Array). b.identity) job.next_array job.arrays own.item a order.names own.live there own.named in
        let one : a.owner ≡ 1 = ap (λ (b : Array). b.owner) (sym same) ∙ own.owned in
        (λ e. one, λ e. ap rename e ∙ rename_1)
    | inr q ↦
        let own = own_task constants job numbers rows unchanging order rows_are q.task q.live in
        let name = name_of q.task.number q.task.frames q.frame q.among (named_frames P constants job q.task order q.live) in
        let number = task_number P constants job q.task own in
        let is = q.owned in
        let same = ap rename is in
        (λ e. absurd (omega (arith, name, number, same, e)), λ e. ap rename e ∙ rename_1)
  ] where
    name_of : (number : ℕ) (fs : List Frame) (f : Frame) → Has fs f → Named (name_among job.tasks) number fs → number * 2 ^ 14 ≤ name_among job.tasks f.identity
    name_of number [] f h names = absurd h
    name_of number (g ∷ below) f (inl e) names = let n = names.0 in let same = ap (λ (x : Frame). name_among job.tasks x.identity) e in omega (arith, n, same)
    name_of number (g ∷ below) f (inr h) names = name_of number below f h names.1

  array_order : (item : Array) → Has job.arrays item → ArrayInOrder (array_named rename relabel numbers item)
  array_order item live = grind (arith, all_in, owner_by)

  arrays_order : AllByRecursion ArrayInOrder job'.arrays
  arrays_order = all_map (λ n. array_named rename relabel numbers (array job n)) ArrayInOrder (originals_among job.tasks (rows_down rows))
      (all_from (λ n. ArrayInOrder (array_named rename relabel numbers (array job n))) (originals_among job.tasks (rows_down rows)) (λ n there.
      let l = listed_is constants job numbers rows unchanging order rows_are n there in
      subst (λ (b : Array). ArrayInOrder (array_named rename relabel numbers b)) (sym l.is) (array_order l.item l.live)))

  -- ---- originals

  entry_same : (a : Array) → Has job.arrays a → (w : Word) → Has constants.dictionary.cells w → EntryInOrder job.arrays w → is_original_of (relabel a.identity) w ≡ is_original_of a.identity w
  entry_same a ha (Operand bits) h o = absurd o
  entry_same a ha (Name couple) h o = absurd o
  entry_same a ha (Ref identity offset) h o = absurd o
  entry_same a ha (Row b) h o = absurd o
  entry_same a ha (Element b index) h o = absurd o
  entry_same a ha (Original b) h o =
      let apart = names_apart constants job numbers rows unchanging order rows_are in
      let same = same_name constants constants' job.arrays job'.arrays rename relabel segments is_kept apart a o.item ha o.live in
      ap (λ n. n == relabel a.identity) (sym (entry_named constants job numbers rows unchanging order rows_are b h))
      ∙ subst (λ n. (relabel n == relabel a.identity) ≡ (n == a.identity)) o.named same
  entry_same a ha (Proc segment level place) h o = absurd o
  entry_same a ha (Intrinsic number) h o = absurd o
  entry_same a ha (Words.Segment number) h o = refl

  originals_dictionary : (a : Array) → Has job.arrays a → how_many (is_original_of (relabel a.identity)) constants.dictionary.cells ≡ how_many (is_original_of a.identity) constants.dictionary.cells
  originals_dictionary a ha = grind (arith, total_same, entry_same, all_in)

  originals_same : (a : Array) → Has job.arrays a → originals_of (relabel a.identity) constants' job' ≡ originals_of a.identity constants job
  originals_same a ha =
      let apart = names_apart constants job numbers rows unchanging order rows_are in
      ap (λ (d : Frame). how_many (is_original_of (relabel a.identity)) d.cells + total (λ (t : Task). originals_in (relabel a.identity) t.frames) job'.tasks) dictionary
      ∙ ap (λ n. n + total (λ (t : Task). originals_in (relabel a.identity) t.frames) job'.tasks) (originals_dictionary a ha)
      ∙ ap (λ n. how_many (is_original_of a.identity) constants.dictionary.cells + n)
      (total_map (task_by rename relabel) (λ (t : Task). originals_in (relabel a.identity) t.frames) job.tasks
      ∙ total_same (λ (t : Task). originals_in (relabel a.identity) (map (frame_by rename relabel) t.frames)) (λ (t : Task). originals_in a.identity t.frames) job.tasks
      (λ t there. originals_frames constants constants' job.arrays job'.arrays rename relabel segments is_kept apart (outer_of job t) a ha t.frames (own_task constants job numbers rows unchanging order rows_are t there).frames))

  once_order : AllByRecursion (λ (a : Array). originals_of a.identity constants' job' ≡ 1) job'.arrays
  once_order = all_map (λ n. array_named rename relabel numbers (array job n)) (λ (a : Array). originals_of a.identity constants' job' ≡ 1) (originals_among job.tasks (rows_down rows))
      (all_from (λ n. originals_of (relabel (array job n).identity) constants' job' ≡ 1) (originals_among job.tasks (rows_down rows)) (λ n there.
      let l = listed_is constants job numbers rows unchanging order rows_are n there in
      subst (λ (b : Array). originals_of (relabel b.identity) constants' job' ≡ 1) (sym l.is) (originals_same l.item l.live ∙ once_of constants job numbers rows unchanging order rows_are l.item l.live)))

  entry_order : (w : Word) → Has constants.dictionary.cells w → EntryInOrder job.arrays w → EntryInOrder job'.arrays w
  entry_order (Operand bits) h o = absurd o
  entry_order (Name couple) h o = absurd o
  entry_order (Ref identity offset) h o = absurd o
  entry_order (Row b) h o = absurd o
  entry_order (Element b index) h o = absurd o
  entry_order (Original b) h o =
      let apart = names_apart constants job numbers rows unchanging order rows_are in
      let own = owns_array constants constants' job.arrays job'.arrays rename relabel segments is_kept apart 1 b o in
      subst (λ n. OwnsArray job'.arrays 1 n) (entry_named constants job numbers rows unchanging order rows_are b h) (subst (λ n. OwnsArray job'.arrays n (relabel b)) rename_1 own)
  entry_order (Proc segment level place) h o = absurd o
  entry_order (Intrinsic number) h o = absurd o
  entry_order (Words.Segment number) h o = tt

  -- ---- the job

  pub job_order : TasksInOrder (IsSegment constants') constants' job'
  job_order = record {
    tasks = all_map (task_by rename relabel) (TaskInOrder (IsSegment constants') constants' job') job.tasks (all_from (λ (t : Task). TaskInOrder (IsSegment constants') constants' job' (task_by rename relabel t)) job.tasks task_order);
    apart = frames_apart P constants job order relabel unchanging.stack_high;
    arrays = arrays_order;
    once = once_order;
    entries = subst (λ (d : Frame). AllByRecursion (EntryInOrder job'.arrays) d.cells) (sym dictionary)
        (all_from (EntryInOrder job'.arrays) constants.dictionary.cells (λ w h. entry_order w h (all_in (EntryInOrder job.arrays) constants.dictionary.cells w order.entries h)));
    numbers = subst (Falls job.next_task) (sym (map_map_key (λ (t : Task). t.number) (task_by rename relabel) job.tasks (λ t. refl))) order.numbers;
    names = names_fall constants job numbers rows unchanging order rows_are;
    few = (let f = order.few in let same = length-map job.tasks (task_by rename relabel) in omega (arith, f, same));
    reads = order.reads;
  }
