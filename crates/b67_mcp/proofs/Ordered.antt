-- A session of which an array has other numbers is in order but for its counts.
use Rattle.std.proofs.Common.{◌≡◌, ℕ, List, length, Some, refl, sym, ◌∙◌, arith, inl, subst}
use Rattle.b67_lemmas.specs.Lists.{Has, Falls}
use Rattle.b67_lemmas.proofs.Members.{all_in, all_from, keyed_has, length_change, total_change}
use Rattle.b67_lemmas.proofs.Keyed.{change_is, all_change}
use Rattle.b67_lemmas.proofs.Sums.{sum_total}
use Rattle.b67_model.specs.Keyed.{keyed, change_keyed}
use Rattle.b67_model.specs.Common.{Array, SessionJob, with_array, number_of, Session, Starts, IsSegment, Known, NamesArray, OwnsArray, ArrayInOrder, EntryInOrder, TaskInOrder, TasksInOrder, NumberedFrom, originals_of}
use Rattle.b67_law.proofs.Reaches.{Stays}
use Rattle.b67_law.proofs.Replaced.{entry_kept}
use Rattle.b67_law.proofs.Stores.{change_has, arrays_changed, names_changed, by_names}
use Rattle.b67_law.proofs.ItemMaps.{task_up}
use Rattle.b67_layout.specs.Common.{JobInOrderButCounts, IsInOrderButCounts, with_job}
use Rattle.b67_layout.proofs.LeftSettles.{numbered_course}
use Rattle.b67_layout_step.proofs.Arrays.{Renumbers}

module _ (m : SessionJob) (id : ℕ) (f : Array → Array) (keeps : Renumbers f) (fits : (x : Array) → ArrayInOrder x → ArrayInOrder (f x)) where
  abbrev arrays' : List Array
  arrays' = change_keyed (λ (x : Array). x.identity) id f m.progress.job.arrays

  stay : (x : Array) → Has m.progress.job.arrays x → Stays (change_keyed (λ (y : Array). y.identity) id f m.progress.job.arrays) x
  stay x k = change_has id f m.progress.job.arrays x k (λ y. record { item = f y; live = inl refl; named = keeps.identity y; owned = keeps.owner y })

  still_named : (reach : List Known) (n : ℕ) → NamesArray m.progress.job.arrays reach n → NamesArray arrays' reach n
  still_named reach n h = grind (arith, stay)

  still_owned : (owner n : ℕ) → OwnsArray m.progress.job.arrays owner n → OwnsArray arrays' owner n
  still_owned owner n h = let s = stay h.item h.live in record { item = s.item; live = s.live; named = s.named ∙ h.named; owned = s.owned ∙ h.owned }

  pub tasks_kept : TasksInOrder (IsSegment m.constants) m.constants m.progress.job → TasksInOrder (IsSegment m.constants) m.constants (with_array m.progress.job id f)
  tasks_kept h =
      let S : Starts = IsSegment m.constants in
      let same = names_changed id f m.progress.job.arrays keeps.identity in
      record {
        tasks = all_from (TaskInOrder S m.constants (with_array m.progress.job id f)) m.progress.job.tasks
            (λ t k. task_up S S (λ segment level place p. p) m.constants m.constants m.progress.job (with_array m.progress.job id f) refl refl refl still_named still_owned t (all_in (TaskInOrder S m.constants m.progress.job) m.progress.job.tasks t h.tasks k));
        apart = h.apart;
        arrays = arrays_changed id f m.progress.job.arrays fits h.arrays;
        once = all_from (λ (x : Array). originals_of x.identity m.constants m.progress.job ≡ 1) arrays' (λ x k. by_names (λ n. originals_of n m.constants m.progress.job ≡ 1) arrays' m.progress.job.arrays same h.once x k);
        entries = all_from (EntryInOrder arrays') m.constants.dictionary.cells (λ w k. entry_kept m.progress.job.arrays arrays' w (λ x i e. stay x i) (all_in (EntryInOrder m.progress.job.arrays) m.constants.dictionary.cells w h.entries k));
        numbers = h.numbers;
        names = subst (Falls m.progress.job.next_array) (sym same) h.names;
        few = h.few;
        reads = h.reads;
      }

  abbrev Good : SessionJob → Type 0
  Good y = JobInOrderButCounts (IsSegment y.constants) y.constants y.progress

  abbrev after : SessionJob
  after = record m { progress = record m.progress { job = with_array m.progress.job id f } }

  pub order_renumbered : (s : Session) → keyed number_of m.constants.number s.jobs ≡ Some m → IsInOrderButCounts s → IsInOrderButCounts (with_job s m (with_array m.progress.job id f))
  order_renumbered s member o =
      let there = (keyed_has number_of m.constants.number s.jobs m member).0 in
      let n : ℕ = m.constants.number in
      let jobs' : List SessionJob = change_keyed number_of n (λ (y : SessionJob). after) s.jobs in
      let changed : (with_job s m (with_array m.progress.job id f)).jobs ≡ jobs' = change_is number_of n (λ (y : SessionJob). record y { progress = record m.progress { job = with_array m.progress.job id f } }) m s.jobs member in
      let own = all_in Good s.jobs m o.jobs there in
      let size : SessionJob → Type 0 = λ y. y.constants.stack_size ≡ o.one_size.0 in
      let alive : SessionJob → ℕ = λ y. length y.progress.job.tasks in
      let P : List SessionJob → Type 0 = λ jobs. IsInOrderButCounts (record s { jobs = jobs }) in
      subst P (sym changed) (record {
        few = omega (arith, o.few, length_change number_of n after s.jobs);
        numbered = subst (NumberedFrom 1) changed (numbered_course 1 n (record m.progress { job = with_array m.progress.job id f }) s.jobs o.numbered);
        one_size = (o.one_size.0, all_change size number_of n after s.jobs o.one_size.1 (all_in size s.jobs m o.one_size.1 there));
        jobs = all_change Good number_of n after s.jobs o.jobs (record { unchanging = own.unchanging; tasks = tasks_kept own.tasks; few_born = own.few_born });
        peak_low = omega (arith, o.peak_low, sum_total alive s.jobs, sum_total alive jobs', total_change number_of alive n m after s.jobs member);
        peak_high = o.peak_high;
      })
