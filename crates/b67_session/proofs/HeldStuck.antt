-- Who is stuck, and the row whose state is set.
use Rattle.std.proofs.Common.{◌≡◌, ℕ, Bool, true, false, not, List, [], ◌∷◌, map, filter, Some, refl, sym, ap, ◌∙◌, subst, slice_set, get_or, length-set, arith}
use Rattle.std.specs.List.{slice_get, list_any, list_all}
use Rattle.std.proofs.lemmas.Option.{get_or_from_slice_get}
use Rattle.arrayvec.specs.ArrayVec.{with_items}
use Rattle.b67_word.specs.declared.faults.Ending.{Ending}
use Rattle.b67_word.specs.declared.faults.Ending.TheVariants.{Deadlock}
use Rattle.b67_lemmas.specs.Lists.{Has}
use Rattle.b67_lemmas.proofs.Places.{refill_whole}
use Rattle.b67_model.specs.Common.{all_with, among, released, is_ready, deadlocked, deepest_first, ends_each_if, unsettled, Session, Condition, Task, SessionJob}
use Rattle.b67_layout.specs.Placement.{Placement}
use Rattle.b67_task.specs.declared.tables.TaskRow.{TaskRow}
use Rattle.b67_task.specs.declared.tables.TaskState.{TaskState}
use Rattle.b67_task.specs.declared.tables.Tasks.{Tasks}
use Rattle.b67_task.specs.Family.{TablesHold}
use Rattle.b67_session.specs.Closing.{left_ready}
use Rattle.b67_session.proofs.Stuck.{rows_tell}
use Rattle.b67_session.specs.Holds.{with_state}

-- ---- the row

module _ (tasks : Tasks) (at : ℕ) (r d : TaskRow) (seen : List TaskRow) (here : slice_get tasks.rows.items at ≡ Some r) (e : seen ≡ tasks.rows.items) where
  pub row_seen : get_or seen at d ≡ r
  row_seen = get_or_from_slice_get seen at r d (ap (λ (l : List TaskRow). slice_get l at) e ∙ here)

  pub state_set : (lent : List TaskRow) (state : TaskState) → lent ≡ tasks.rows.items
      → record tasks { rows = with_items tasks.rows (slice_set lent at (record (get_or seen at d) { state = state })) } ≡ with_state tasks at r state
  state_set lent state f = grind (arith, row_seen, refill_whole, length-set)

-- ---- where none has ended

released_none : (c : Condition) → released [] c ≡ c
released_none c = grind arith

none_released : (ts : List Task) → map (λ (t : Task). record t { condition = released [] t.condition }) (filter (λ (t : Task). not (among [] t.number)) ts) ≡ ts
none_released [] = refl
none_released (t ∷ ts) = grind (arith, none_released ts)

turned : (b c : Bool) → c ≡ not b → b ≡ not c
turned b c e = grind arith

module _ (plan : Placement) (s : Session) (tasks : Tasks) (h : TablesHold plan s tasks) (m : SessionJob) (inm : Has s.jobs m) (job : ℕ) (own : m.constants.number ≡ job) where
  abbrev all_wait : Bool
  all_wait = list_all (λ (t : Task). not (is_ready t)) m.progress.job.tasks

  wait_is : all_wait ≡ not (list_any (left_ready job []) tasks.rows.items)
  wait_is =
      let tells : list_any (left_ready m.constants.number []) tasks.rows.items ≡ not all_wait =
      rows_tell plan s tasks h m inm [] ∙ ap (λ (ts : List Task). not (list_all (λ (t : Task). not (is_ready t)) ts)) (none_released m.progress.job.tasks) in
      turned all_wait (list_any (left_ready job []) tasks.rows.items) (subst (λ (i : ℕ). list_any (left_ready i []) tasks.rows.items ≡ not all_wait) own tells)

  endings_by : (b : Bool) → all_wait ≡ b → (deadlocked (unsettled m.progress.job)).endings ≡ (ends_each_if b Deadlock (unsettled m.progress.job)).endings
  endings_by b is = ap (λ (c : Bool). (ends_each_if c Deadlock (unsettled m.progress.job)).endings) is

  pub none_stuck : (b : Bool) → b ≡ true → b ≡ list_any (left_ready job []) tasks.rows.items → (list : List (ℕ × Ending)) → list ≡ [] → list ≡ (deadlocked (unsettled m.progress.job)).endings
  none_stuck b t tells list empty = empty ∙ sym (endings_by false (wait_is ∙ ap not (sym tells ∙ t)))

  pub all_stuck : (b : Bool) → b ≡ false → b ≡ list_any (left_ready job []) tasks.rows.items → (list : List (ℕ × Ending)) (live slice : List ℕ) → live ≡ deepest_first m.progress.job.tasks → slice ≡ live → list ≡ all_with Deadlock slice
      → list ≡ (deadlocked (unsettled m.progress.job)).endings
  all_stuck b t tells list live slice lives lent all =
      all ∙ ap (all_with Deadlock) (lent ∙ lives) ∙ sym (endings_by true (wait_is ∙ ap not (sym tells ∙ t)))
