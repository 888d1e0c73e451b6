-- The rows say whether a task of a job is ready once some have ended.
use Rattle.std.proofs.Common.{◌≡◌, ℕ, Bool, true, false, not, List, [], ◌∷◌, map, filter, Some, refl, sym, ap, ◌∙◌, subst, inl, inr, arith}
use Rattle.std.specs.Prelude.{◌==◌, ◌&&◌, ◌||◌}
use Rattle.std.specs.List.{list_any, list_all}
use Rattle.std.proofs.lemmas.Bool.{cases_Bool, and_parts, eqb-true, eq-eqb}
use Rattle.std.proofs.lemmas.Option.{same_Some}
use Rattle.b67_word.specs.declared.faults.Ending.{Ending}
use Rattle.b67_lemmas.specs.Lists.{Has}
use Rattle.b67_lemmas.proofs.Members.{any_has, any_none, has_filter, has_filter_in, has_map, has_map_back}
use Rattle.b67_model.specs.Common.{Condition, Ready, Awaits, WaitsAt, Task, SessionJob, among, released, is_ready, number_of, Session}
use Rattle.b67_model.specs.Keyed.{keyed}
use Rattle.b67_law.proofs.Numbered.{keyed_member}
use Rattle.b67_layout.specs.Common.{Placement, shown}
use Rattle.b67_layout.specs.Rows as rows
use Rattle.b67_task.specs.declared.tables.TaskState.{TaskState}
use Rattle.b67_task.specs.declared.tables.TaskState.TheVariants as states
use Rattle.b67_task.specs.declared.tables.TaskRow.{TaskRow}
use Rattle.b67_task.specs.declared.tables.Tasks.{Tasks}
use Rattle.b67_task.specs.Tables.{state_of, task_row}
use Rattle.b67_task.specs.Deaths.{ending_numbers}
use Rattle.b67_task.specs.Family.{TablesHold}
use Rattle.b67_session.specs.Closing.{is_dead_of, ready_after, left_ready}

-- ---- lists

pub dead_is : (dead : List (ℕ × Ending)) (n : ℕ) → list_any (λ (e : ℕ × Ending). e.0 == n) dead ≡ among (ending_numbers dead) n
dead_is [] n = refl
dead_is (e ∷ dead) n = ap (λ (b : Bool). (e.0 == n) || b) (dead_is dead n)

pub one_not : {A : Type 0} (test : A → Bool) (xs : List A) (x : A) → Has xs x → test x ≡ false → list_all test xs ≡ false
one_not test [] x h e = absurd h
one_not test (y ∷ xs) x (inl same) e = let first : test y ≡ false = ap test same ∙ e in rw first refl
one_not test (y ∷ xs) x (inr later) e = elim (cases_Bool (test y)) [ inl t ↦ rw t (one_not test xs x later e) | inr t ↦ rw t refl ]

all_pass : {A : Type 0} (test : A → Bool) (xs : List A) → ((x : A) → Has xs x → test x ≡ true) → list_all test xs ≡ true
all_pass test [] each = refl
all_pass test (x ∷ xs) each = rw (each x (inl refl)) (all_pass test xs (λ y h. each y (inr h)))

-- ---- one row

abbrev is_ready_in : Condition → Bool
is_ready_in c = elim c [ Ready ↦ true | Awaits n ↦ false | WaitsAt f offset ↦ false ]

released_by : (numbers : List ℕ) (n : ℕ) (b : Bool) → among numbers n ≡ b → b ≡ is_ready_in (released numbers (Awaits n))
released_by h n b e = grind arith

ready_as : (plan : Placement) (m : SessionJob) (t : Task) (dead : List (ℕ × Ending)) (st : TaskState) (c : Condition) → state_of st ≡ shown plan m.constants.number m.progress.job t c → ready_after dead st ≡ is_ready_in (released (ending_numbers dead) c)
ready_as plan m t dead states.Ready Ready e = refl
ready_as plan m t dead states.Ready (Awaits n) e = absurd cc
ready_as plan m t dead states.Ready (WaitsAt f offset) e = absurd cc
ready_as plan m t dead (states.Awaits k) Ready e = absurd cc
ready_as plan m t dead (states.Awaits k) (Awaits n) e = let numbers = ending_numbers dead in let same : k ≡ n = cc in dead_is dead k ∙ ap (among numbers) same ∙ released_by numbers n (among numbers n) refl
ready_as plan m t dead (states.Awaits k) (WaitsAt f offset) e = absurd cc
ready_as plan m t dead (states.WaitsAt mark offset) Ready e = absurd cc
ready_as plan m t dead (states.WaitsAt mark offset) (Awaits n) e = absurd cc
ready_as plan m t dead (states.WaitsAt mark offset) (WaitsAt f k) e = refl

-- ---- all rows

module _ (plan : Placement) (s : Session) (tasks : Tasks) (h : TablesHold plan s tasks) (m : SessionJob) (inm : Has s.jobs m) (dead : List (ℕ × Ending)) where
  abbrev numbers : List ℕ
  numbers = ending_numbers dead

  abbrev test : TaskRow → Bool
  test r = left_ready m.constants.number dead r

  abbrev stays : Task → Bool
  stays t = not (among numbers t.number)

  abbrev release : Task → Task
  release t = record t { condition = released numbers t.condition }

  abbrev pub left_tasks : List Task
  left_tasks = map release (filter stays m.progress.job.tasks)

  abbrev waits : Task → Bool
  waits t = not (is_ready t)

  -- a row that passes is that of a task that is left and ready
  some_waits_not : list_any test tasks.rows.items ≡ true → list_all waits left_tasks ≡ false
  some_waits_not e =
      let (r, inr', passes) = any_has test tasks.rows.items e in
      let one = and_parts (r.job == m.constants.number) (not (is_dead_of dead r.number) && ready_after dead r.state) passes in
      let two = and_parts (not (is_dead_of dead r.number)) (ready_after dead r.state) one.1 in
      let (y, u, iny, inu, w) = h.shows.tasks (task_row r) (has_map task_row tasks.rows.items r inr') in
      let number : y.constants.number ≡ m.constants.number = sym w.job ∙ eqb-true r.job m.constants.number one.0 in
      let same : y ≡ m = same_Some y m (sym (subst (λ (n : ℕ). keyed number_of n s.jobs ≡ Some y) number (keyed_member 1 s.jobs y h.ordered.numbered iny)) ∙ keyed_member 1 s.jobs m h.ordered.numbered inm) in
      let here : Has m.progress.job.tasks u = subst (λ (z : SessionJob). Has z.progress.job.tasks u) same inu in
      let left : stays u ≡ true = ap (λ (n : ℕ). not (among numbers n)) (sym w.number) ∙ ap not (sym (dead_is dead r.number)) ∙ two.0 in
      let ready : is_ready (release u) ≡ true = sym (ready_as plan y u dead r.state u.condition w.state) ∙ two.1 in
      one_not waits left_tasks (release u) (has_map release (filter stays m.progress.job.tasks) u (has_filter_in stays m.progress.job.tasks u here left)) (rw ready refl)

  -- and if none passes, all that are left wait
  all_wait : list_any test tasks.rows.items ≡ false → list_all waits left_tasks ≡ true
  all_wait e = all_pass waits left_tasks (λ v inv.
      let back = has_map_back release (filter stays m.progress.job.tasks) v inv in
      let u = back.item in
      let f = has_filter stays m.progress.job.tasks u back.among in
      let (row, inrow, w) = h.shows.each m u inm f.0 in
      let at = has_map_back task_row tasks.rows.items row inrow in
      let r = at.item in
      let number : r.number ≡ u.number = ap (λ (z : rows.TaskRow). z.number) at.is ∙ w.number in
      let own : (r.job == m.constants.number) ≡ true = eq-eqb r.job m.constants.number (ap (λ (z : rows.TaskRow). z.job) at.is ∙ w.job) in
      let left : not (is_dead_of dead r.number) ≡ true = ap not (dead_is dead r.number) ∙ ap (λ (n : ℕ). not (among numbers n)) number ∙ f.1 in
      let fails : test r ≡ false = any_none test tasks.rows.items r e at.among in
      let none : ready_after dead r.state ≡ false = rw (own, left) at fails in
      let state : state_of r.state ≡ shown plan m.constants.number m.progress.job u u.condition = ap (λ (z : rows.TaskRow). z.state) at.is ∙ w.state in
      let waiting : is_ready (release u) ≡ false = sym (ready_as plan m u dead r.state u.condition state) ∙ none in
      subst (λ (z : Task). waits z ≡ true) back.is (rw waiting refl))

  pub rows_tell : list_any test tasks.rows.items ≡ not (list_all waits left_tasks)
  rows_tell = grind (arith, some_waits_not, all_wait)
