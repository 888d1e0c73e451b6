-- Whether the tables have a row, and what a slice of a session without a task answers.
use Rattle.std.proofs.Common.{◌≡◌, ◌≢◌, ℕ, ◌+◌, true, false, List, [], ◌∷◌, length, map, Option, Some, Ok, refl, sym, ap, ◌∙◌, subst, inl, inr, arith}
use Rattle.std.specs.Prelude.{◌==◌}
use Rattle.std.proofs.lemmas.Bool.{eqb-true}
use Rattle.std.proofs.lemmas.List.Sums.{sum_by-cons}
use Rattle.b67_lemmas.specs.Lists.{Has}
use Rattle.b67_model.specs.Common.{Task, SessionJob, live_tasks, Session}
use Rattle.b67_task.specs.declared.tables.TaskRow.{TaskRow}
use Rattle.b67_task.specs.declared.tables.Tasks.{Tasks}
use Rattle.b67_task.specs.declared.tables.Machine.{Machine}
use Rattle.b67_task.specs.Tables.{task_row}
use Rattle.b67_session.specs.declared.slices.Progress.{Progress}
use Rattle.b67_session.specs.Slices.{Pauses, RepresentsWithoutTasks, StaysEnded}

pub empty_rows : (tasks : Tasks) → true ≡ (length tasks.rows.items == 0) → tasks.rows.items ≡ []
empty_rows tasks e = by tasks.rows.items (eqb-true (length tasks.rows.items) 0 (sym e)) where
  by : (rows : List TaskRow) → length rows ≡ 0 → rows ≡ []
  by [] none = refl
  by (row ∷ rows) none = absurd (omega (arith, none))

pub some_rows : (tasks : Tasks) → false ≡ (length tasks.rows.items == 0) → tasks.rows.items ≢ []
some_rows tasks e none = let z : false ≡ true = subst (λ (rows : List TaskRow). false ≡ (length rows == 0)) none e in absurd cc

-- where no task lives there is none
no_task : (ts : List Task) (t : Task) → Has ts t → length ts ≡ 0 → ⊥
no_task [] t among none = among
no_task (u ∷ ts) t among none = omega (arith, none)

pub none_of : (jobs : List SessionJob) (m : SessionJob) (t : Task) → Has jobs m → Has m.progress.job.tasks t → live_tasks jobs ≡ 0 → ⊥
none_of [] m t inm int none = inm
none_of (y ∷ jobs) m t (inl e) int none =
    let both : length y.progress.job.tasks + live_tasks jobs ≡ 0 = sym (sum_by-cons (λ (z : SessionJob). length z.progress.job.tasks) y jobs) ∙ none in
    no_task y.progress.job.tasks t (subst (λ (z : SessionJob). Has z.progress.job.tasks t) (sym e) int) (omega (arith, both))
none_of (y ∷ jobs) m t (inr later) int none =
    let both : length y.progress.job.tasks + live_tasks jobs ≡ 0 = sym (sum_by-cons (λ (z : SessionJob). length z.progress.job.tasks) y jobs) ∙ none in
    none_of jobs m t later int (omega (arith, both))

-- a machine without a task has no row
pub no_row : (told : Option (List (List ℕ))) (k : Machine) (s : Session) → RepresentsWithoutTasks told k s → k.tasks.rows.items ≡ []
no_row told k s r = by k.tasks.rows.items refl where
  by : (rows : List TaskRow) → k.tasks.rows.items ≡ rows → k.tasks.rows.items ≡ []
  by [] e = e
  by (row ∷ more) e =
      let (m, t, inm, int, shows) = r.stands.tables.tasks (task_row row) (subst (λ (rs : List TaskRow). Has (map task_row rs) (task_row row)) (sym e) (inl refl)) in
      absurd (none_of s.jobs m t inm int r.none)

-- a slice that began without a row has made no step, and stops at once
module _ {D K : Type 0} (told : Option (List (List ℕ))) (old now : Machine) (s : Session) (made : ℕ) (d e : D) (p q : K) (r : RepresentsWithoutTasks told old s)
    (none : old.tasks.rows.items ≡ [] → made ≡ 0) (begun : made ≡ 0 → (now ≡ old) × (e ≡ d)) (unprinted : made ≡ 0 → q ≡ p) where
  nothing : made ≡ 0
  nothing = none (no_row told old s r)

  empty : now.tasks.rows.items ≡ []
  empty = ap (λ (k : Machine). k.tasks.rows.items) (begun nothing).0 ∙ no_row told old s r

  pub stays_ended : (x : Progress) → Pauses now.tasks now.tasks.halt (Some x) → StaysEnded (Ok x) old now d e p q
  stays_ended x h = grind (arith, nothing, empty)

  pub went_on : now.tasks.rows.items ≢ [] → ⊥
  went_on some = some empty

-- a slice that began without a row goes no step further
pub none_made : (old now : Machine) (made : ℕ) → (old.tasks.rows.items ≡ [] → made ≡ 0) → (made ≡ 0 → now ≡ old) → now.tasks.rows.items ≢ [] → old.tasks.rows.items ≢ []
none_made old now made none begun some empty = some (ap (λ (k : Machine). k.tasks.rows.items) (begun (none empty)) ∙ empty)
