-- The two laws, from the items of jobs up to whole sessions.
use Rattle.std.proofs.Common.{◌≡◌, ℕ, zero, suc, ◌+◌, ◌-◌, ◌*◌, ◌<◌, List, [], ◌∷◌, length, map, reverse, Some, refl, sym, ◌∙◌, ap, arith, subst, Bool, true, false, cond, inl, inr}
use Rattle.std.specs.Prelude.{◌&&◌, nat_lt, sum_by, ◌↔◌, Ok, Err}
use Rattle.std.specs.List.{AllByRecursion, slice_get}
use Rattle.std.proofs.lemmas.List.Sums.{sum_by-cons}
use Rattle.std.proofs.lemmas.Bool.Decides.{nat_tests}
use Rattle.std.proofs.lemmas.Option.{slice_get_within}
use Rattle.b67_word.specs.declared.couples.Place.{Place}
use Rattle.b67_model.specs.declared.operators.Op.{Op}
use Rattle.b67_lemmas.specs.Lists.{Has, Falls}
use Rattle.b67_model.specs.Words as Words
use Rattle.b67_model.specs.Common.{Word, Operand, Name, Ref, Row, Element, Original, Proc, Intrinsic, Array, Task, Segment, JobConstants, Job, SessionJob, operator_at, reads, count_at, form_of, syllable, Known, IsSegment, IsStart, NamesArray, OwnsArray, NamesEntered, ArrayInOrder, EntryInOrder, TaskInOrder, TasksInOrder, SettingInOrder, SegmentInOrder, DictionaryWords, JobInOrder, NumberedFrom, originals_of}
use Rattle.b67_model.specs.declared.operators.Undecodable.TheVariants.{BadPlace}
use Rattle.b67_law.proofs.Admitted.{entered}
use Rattle.b67_law.specs.Weaker.{Recoded, RefilledArray, Refilled, AllOtherNumbers, StartsAreSegments, OtherNumbersKeepOrder}
use Rattle.b67_law.proofs.ItemMaps.{task_up}

all_tasks : (A B : Task → Type 0) → ((t : Task) → A t → B t) → (ts : List Task) → AllByRecursion A ts → AllByRecursion B ts
all_tasks A B up [] h = h
all_tasks A B up (t ∷ ts) h = (up t h.0, all_tasks A B up ts h.1)

all_members : (A B : SessionJob → Type 0) → ((m : SessionJob) → A m → B m) → (ms : List SessionJob) → AllByRecursion A ms → AllByRecursion B ms
all_members A B up [] h = h
all_members A B up (m ∷ ms) h = (up m h.0, all_members A B up ms h.1)

-- segments of a setting in order are short
segment_at : (ss : List Segment) (i : ℕ) (s : Segment) → AllByRecursion SegmentInOrder ss → slice_get ss i ≡ Some s → SegmentInOrder s
segment_at [] i s h e = cc
segment_at (x ∷ more) zero s h e = let same : x ≡ s = cc in subst SegmentInOrder same h.0
segment_at (x ∷ more) (suc i) s h e = segment_at more i s h.1 e

read_inside : (code : List ℕ) (at : Place) (read : Op × Place) → operator_at code at ≡ Ok read → (at.syllable < 6) × (at.word < length code)
read_inside code at read e =
    let inside : (nat_lt at.syllable 6 && nat_lt at.word (length code)) ≡ true = by (nat_lt at.syllable 6 && nat_lt at.word (length code)) e in
    (grind (arith, nat_tests), grind (arith, nat_tests))
  where
    by : (b : Bool) → cond b (reads code (count_at at) (form_of (syllable code (count_at at)))) (Err BadPlace) ≡ Ok read → b ≡ true
    by true q = refl
    by false q = absurd cc

start_up : (constants : JobConstants) → SettingInOrder constants → (segment level : ℕ) (place : Place) → IsStart constants segment level place → IsSegment constants segment level place
start_up constants order segment level place h =
    let within = slice_get_within constants.segments (segment - 1) h.code h.found in
    let read = entered (6 * length h.code.code) h.code.code (record { word = 0; syllable = 0 }) (operator_at h.code.code (record { word = 0; syllable = 0 })) place h.op refl h.stands in
    let inside = read_inside h.code.code place (h.op, read.next) read.reads in
    grind (arith, segment_at)

-- the one law
member_start : (m : SessionJob) → JobInOrder (IsStart m.constants) m.constants m.progress → JobInOrder (IsSegment m.constants) m.constants m.progress
member_start m h = record {
  unchanging = h.unchanging;
  tasks = record {
    tasks = all_tasks (TaskInOrder (IsStart m.constants) m.constants m.progress.job) (TaskInOrder (IsSegment m.constants) m.constants m.progress.job)
        (λ t o. task_up (IsStart m.constants) (IsSegment m.constants) (start_up m.constants h.unchanging) m.constants m.constants m.progress.job m.progress.job refl refl refl (λ reach a n. n) (λ owner a n. n) t o) m.progress.job.tasks h.tasks.tasks;
    apart = h.tasks.apart;
    arrays = h.tasks.arrays;
    once = h.tasks.once;
    entries = h.tasks.entries;
    numbers = h.tasks.numbers;
    names = h.tasks.names;
    few = h.tasks.few;
    reads = h.tasks.reads;
  };
  counts = h.counts;
  below_limit = h.below_limit;
}

pub starts_are_segments : StartsAreSegments
starts_are_segments s h = grind (arith, all_members, member_start)

-- other numbers: segments
pub recoded_count : (xs ys : List Segment) → Recoded xs ys → length ys ≡ length xs
recoded_count [] [] h = refl
recoded_count (x ∷ xs) (y ∷ ys) h = ap suc (recoded_count xs ys h.1)
recoded_count [] (y ∷ ys) h = absurd h
recoded_count (x ∷ xs) [] h = absurd h

recoded_order : (xs ys : List Segment) → Recoded xs ys → AllByRecursion SegmentInOrder xs → AllByRecursion SegmentInOrder ys
recoded_order [] [] h o = o
recoded_order (x ∷ xs) (y ∷ ys) h o = grind (arith, recoded_order xs ys h.1 o.1)
recoded_order [] (y ∷ ys) h o = absurd h
recoded_order (x ∷ xs) [] h o = absurd h

recoded_words : (n : ℕ) (xs ys : List Segment) (ws : List Word) → Recoded xs ys → DictionaryWords n xs ws → DictionaryWords n ys ws
recoded_words n [] [] ws h o = o
recoded_words n (x ∷ xs) (y ∷ ys) [] h o = absurd o
recoded_words n (x ∷ xs) (y ∷ ys) (w ∷ ws) h o = (o.0, recoded_words (n + 1) xs ys ws h.1 o.1)
recoded_words n [] (y ∷ ys) ws h o = absurd h
recoded_words n (x ∷ xs) [] ws h o = absurd h

-- arrays
record TwinArray (arrays : List Array) (a : Array) : Type 0 where
  pub item : Array
  pub among : Has arrays item
  pub same : RefilledArray a item

twin_array : (xs ys : List Array) → Refilled xs ys → (a : Array) → Has xs a → TwinArray ys a
twin_array [] [] h a k = absurd k
twin_array (x ∷ xs) (y ∷ ys) h a (inl e) = record { item = y; among = inl refl; same = subst (λ (z : Array). RefilledArray z y) e h.0 }
twin_array (x ∷ xs) (y ∷ ys) h a (inr k) = let t = twin_array xs ys h.1 a k in record { item = t.item; among = inr t.among; same = t.same }
twin_array [] (y ∷ ys) h a k = absurd h
twin_array (x ∷ xs) [] h a k = absurd h

names_up : (xs ys : List Array) → Refilled xs ys → (reach : List Known) (a : ℕ) → NamesArray xs reach a → NamesArray ys reach a
names_up xs ys h reach a n = grind (arith, twin_array)

owns_up : (xs ys : List Array) → Refilled xs ys → (owner a : ℕ) → OwnsArray xs owner a → OwnsArray ys owner a
owns_up xs ys h owner a n = grind (arith, twin_array)

arrays_order : (xs ys : List Array) → Refilled xs ys → AllByRecursion ArrayInOrder xs → AllByRecursion ArrayInOrder ys
arrays_order [] [] h o = o
arrays_order (x ∷ xs) (y ∷ ys) h o = grind (arith, arrays_order xs ys h.1 o.1)
arrays_order [] (y ∷ ys) h o = absurd h
arrays_order (x ∷ xs) [] h o = absurd h

once_up : (N : ℕ → ℕ) (xs ys : List Array) → Refilled xs ys → AllByRecursion (λ (a : Array). N a.identity ≡ 1) xs → AllByRecursion (λ (a : Array). N a.identity ≡ 1) ys
once_up N [] [] h o = o
once_up N (x ∷ xs) (y ∷ ys) h o = (ap N h.0.identity ∙ o.0, once_up N xs ys h.1 o.1)
once_up N [] (y ∷ ys) h o = absurd h
once_up N (x ∷ xs) [] h o = absurd h

identities_same : (xs ys : List Array) → Refilled xs ys → map (λ (a : Array). a.identity) ys ≡ map (λ (a : Array). a.identity) xs
identities_same [] [] h = refl
identities_same (x ∷ xs) (y ∷ ys) h = ap (λ (n : ℕ). n ∷ map (λ (a : Array). a.identity) ys) h.0.identity ∙ ap (λ (ns : List ℕ). x.identity ∷ ns) (identities_same xs ys h.1)
identities_same [] (y ∷ ys) h = absurd h
identities_same (x ∷ xs) [] h = absurd h

entry_up : (xs ys : List Array) → Refilled xs ys → (w : Word) → EntryInOrder xs w → EntryInOrder ys w
entry_up xs ys h w o = grind (arith, owns_up)

entries_up : (xs ys : List Array) → Refilled xs ys → (ws : List Word) → AllByRecursion (EntryInOrder xs) ws → AllByRecursion (EntryInOrder ys) ws
entries_up xs ys h [] o = o
entries_up xs ys h (w ∷ ws) o = (entry_up xs ys h w o.0, entries_up xs ys h ws o.1)

module _ (m : SessionJob) (segments : List Segment) (arrays : List Array) (code : Recoded m.constants.segments segments) (filled : Refilled m.progress.job.arrays arrays) where
  abbrev pub setting' : JobConstants
  setting' = record m.constants { segments = segments }

  abbrev pub job' : Job
  job' = record m.progress.job { arrays = arrays }

  segment_up : (segment level : ℕ) (place : Place) → IsSegment m.constants segment level place → IsSegment setting' segment level place
  segment_up segment level place h = grind (arith, recoded_count)

  pub setting_up : SettingInOrder m.constants → SettingInOrder setting'
  setting_up h = grind (arith, recoded_order, recoded_words)

  pub tasks_up : TasksInOrder (IsSegment m.constants) m.constants m.progress.job → TasksInOrder (IsSegment setting') setting' job'
  tasks_up h = record {
    tasks = all_tasks (TaskInOrder (IsSegment m.constants) m.constants m.progress.job) (TaskInOrder (IsSegment setting') setting' job')
        (λ t o. task_up (IsSegment m.constants) (IsSegment setting') segment_up m.constants setting' m.progress.job job' refl refl refl (names_up m.progress.job.arrays arrays filled) (owns_up m.progress.job.arrays arrays filled) t o) m.progress.job.tasks h.tasks;
    apart = h.apart;
    arrays = arrays_order m.progress.job.arrays arrays filled h.arrays;
    once = once_up (λ (n : ℕ). originals_of n m.constants m.progress.job) m.progress.job.arrays arrays filled h.once;
    entries = entries_up m.progress.job.arrays arrays filled m.constants.dictionary.cells h.entries;
    numbers = h.numbers;
    names = (let P : List ℕ → Type 0 = λ ns. Falls m.progress.job.next_array ns in subst P (sym (identities_same m.progress.job.arrays arrays filled)) h.names);
    few = h.few;
    reads = h.reads;
  }

  member_up : JobInOrder (IsSegment m.constants) m.constants m.progress → JobInOrder (IsSegment setting') setting' (record m.progress { job = job' })
  member_up h = grind (arith, setting_up, tasks_up)

abbrev Good : SessionJob → Type 0
Good m = JobInOrder (IsSegment m.constants) m.constants m.progress

members_up : (ms ns : List SessionJob) → AllOtherNumbers ms ns → AllByRecursion Good ms → AllByRecursion Good ns
members_up [] [] h o = o
members_up (m ∷ ms) (n ∷ ns) h o = (subst Good (sym h.0.rest) (member_up m n.constants.segments n.progress.job.arrays h.0.segments h.0.arrays o.0), members_up ms ns h.1 o.1)
members_up [] (n ∷ ns) h o = absurd h
members_up (m ∷ ms) [] h o = absurd h

pub numbered_up : (n : ℕ) (ms ns : List SessionJob) → AllOtherNumbers ms ns → NumberedFrom n ms → NumberedFrom n ns
numbered_up n [] [] h o = o
numbered_up n (m ∷ ms) (y ∷ ns) h o = (ap (λ (z : SessionJob). z.constants.number) h.0.rest ∙ o.0, numbered_up (n + 1) ms ns h.1 o.1)
numbered_up n [] (y ∷ ns) h o = absurd h
numbered_up n (m ∷ ms) [] h o = absurd h

pub sizes_up : (size : ℕ) (ms ns : List SessionJob) → AllOtherNumbers ms ns → AllByRecursion (λ (m : SessionJob). m.constants.stack_size ≡ size) ms → AllByRecursion (λ (m : SessionJob). m.constants.stack_size ≡ size) ns
sizes_up size [] [] h o = o
sizes_up size (m ∷ ms) (n ∷ ns) h o = (ap (λ (z : SessionJob). z.constants.stack_size) h.0.rest ∙ o.0, sizes_up size ms ns h.1 o.1)
sizes_up size [] (n ∷ ns) h o = absurd h
sizes_up size (m ∷ ms) [] h o = absurd h

pub count_up : (ms ns : List SessionJob) → AllOtherNumbers ms ns → length ns ≡ length ms
count_up [] [] h = refl
count_up (m ∷ ms) (n ∷ ns) h = ap suc (count_up ms ns h.1)
count_up [] (n ∷ ns) h = absurd h
count_up (m ∷ ms) [] h = absurd h

pub sum_up : (f : SessionJob → ℕ) → ((m : SessionJob) (segments : List Segment) (arrays : List Array) → f (record m { constants = record m.constants { segments = segments }; progress = record m.progress { job = record m.progress.job { arrays = arrays } } }) ≡ f m)
    → (ms ns : List SessionJob) → AllOtherNumbers ms ns → sum_by f ns ≡ sum_by f ms
sum_up f same [] [] h = refl
sum_up f same (m ∷ ms) (n ∷ ns) h = grind (arith, sum_by-cons, sum_up f same ms ns h.1)
sum_up f same [] (n ∷ ns) h = absurd h
sum_up f same (m ∷ ms) [] h = absurd h

pub other_numbers_keep_order : OtherNumbersKeepOrder
other_numbers_keep_order s jobs h o = grind (arith, count_up, numbered_up, sizes_up, members_up, sum_up)
