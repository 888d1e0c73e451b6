-- The ready tasks of a session, in order, and their rows.
use Rattle.std.proofs.Common.{◌≡◌, ℕ, ◌+◌, ◌≤◌, true, List, [], ◌∷◌, ◌++◌, map, filter, flat_map, reverse, refl, sym, ◌∙◌, ap, arith, inl, inr, subst}
use Rattle.std.proofs.lemmas.List.{map-append}
use Rattle.std.proofs.lemmas.List.Elements.{filter-append}
use Rattle.std.proofs.lemmas.Bool.{cases_Bool, true≢false}
use Rattle.b67_lemmas.specs.Lists.{Has, Falls}
use Rattle.b67_lemmas.proofs.Members.{all_in, falls_low, has_append_cases, has_filter, has_filter_in, has_flat, has_get, has_map, has_map_back, has_reverse, has_reverse_back, reverse_cons}
use Rattle.b67_lemmas.proofs.Places.{at_mapped, has_at, mapped_at}
use Rattle.b67_model.specs.Common.{Condition, Task, Job, SessionJob, Who, Session, is_before, ready_of, ready, JobInOrder, IsSegment, NumberedFrom, IsInOrderButPlaces}
use Rattle.b67_model.specs.Endings as model
use Rattle.b67_layout.specs.Common.{Placement, shown, TablesShow}
use Rattle.b67_layout.specs.Rows as rows
use Rattle.b67_task.specs.declared.tables.TaskState.{TaskState}
use Rattle.b67_task.specs.declared.tables.TaskRow.{TaskRow}
use Rattle.b67_task.specs.Tables.{state_of, task_row}
use Rattle.b67_task.specs.Chosen.{is_ready_state, IsReadyAt}
use Rattle.b67_task.proofs.Orders.{before_job, before_task}
use Rattle.b67_law.proofs.Numbered.{numbered_low}

-- tasks in order
abbrev pub Rises : List Who → Type 0
Rises [] = Unit {0}
Rises (w ∷ more) = ((v : Who) → Has more v → is_before w v ≡ true) × Rises more

rises_append : (xs ys : List Who) → Rises xs → Rises ys → ((x y : Who) → Has xs x → Has ys y → is_before x y ≡ true) → Rises (xs ++ ys)
rises_append [] ys hx hy apart = hy
rises_append (x ∷ xs) ys hx hy apart = grind (arith, has_append_cases, rises_append xs ys hx.1 hy)

abbrev pub named : ℕ → Task → Who
named n t = record { job = n; task = t.number }

abbrev pub ready_tasks : ℕ → List Task → List Who
ready_tasks n ts = map (named n) (filter model.is_ready (reverse ts))

pub among_tasks : (n : ℕ) (ts : List Task) (w : Who) → Has (ready_tasks n ts) w → (t : Task) × Has ts t × (model.is_ready t ≡ true) × (named n t ≡ w)
among_tasks n ts w h = grind (arith, has_map_back, has_filter, has_reverse_back)

pub of_tasks : (n : ℕ) (ts : List Task) (t : Task) → Has ts t → model.is_ready t ≡ true → Has (ready_tasks n ts) (named n t)
of_tasks n ts t k r = has_map (named n) (filter model.is_ready (reverse ts)) t (has_filter_in model.is_ready (reverse ts) t (has_reverse ts t k) r)

last_alone : (n : ℕ) (t : Task) → Rises (ready_tasks n (t ∷ []))
last_alone n t = elim (cases_Bool (model.is_ready t)) [ inl e ↦ rw e (λ v k. absurd k, tt) | inr e ↦ rw e tt ]

tasks_rise : (n bound : ℕ) (ts : List Task) → Falls bound (map (λ (t : Task). t.number) ts) → Rises (ready_tasks n ts)
tasks_rise n bound [] f = tt
tasks_rise n bound (t ∷ ts) f =
    let cut : ready_tasks n (t ∷ ts) ≡ ready_tasks n ts ++ ready_tasks n (t ∷ []) =
    ap (λ (l : List Task). map (named n) (filter model.is_ready l)) (reverse_cons t ts) ∙ ap (map (named n)) (filter-append model.is_ready (reverse ts) (t ∷ [])) ∙ map-append (named n) (filter model.is_ready (reverse ts)) (filter model.is_ready (t ∷ [])) in
    subst Rises (sym cut) (rises_append (ready_tasks n ts) (ready_tasks n (t ∷ [])) (tasks_rise n t.number ts f.1) (last_alone n t) (λ x y kx ky.
    let (u, ku, ru, eu) = among_tasks n ts x kx in
    let (v, kv, rv, ev) = among_tasks n (t ∷ []) y ky in
    elim kv [
      | inl e ↦
          let low = falls_low t.number (map (λ (z : Task). z.number) ts) u.number f.1 (has_map (λ (z : Task). z.number) ts u ku) in
          before_task x y (omega (arith, ap (λ (w : Who). w.job) eu, ap (λ (w : Who). w.job) ev)) (omega (arith, low, ap (λ (w : Who). w.task) eu, ap (λ (w : Who). w.task) ev, ap (λ (z : Task). z.number) e))
      | inr q ↦ absurd q
    ]))

pub among_members : (jobs : List SessionJob) (w : Who) → Has (flat_map ready_of jobs) w → (m : SessionJob) × Has jobs m × Has (ready_of m) w
among_members [] w h = absurd h
among_members (m ∷ more) w h = grind (arith, has_append_cases, among_members more w)

members_rise : (n : ℕ) (jobs : List SessionJob) → NumberedFrom n jobs → ((m : SessionJob) → Has jobs m → Falls m.progress.job.next_task (map (λ (t : Task). t.number) m.progress.job.tasks)) → Rises (flat_map ready_of jobs)
members_rise n [] d f = tt
members_rise n (m ∷ more) d f = rises_append (ready_of m) (flat_map ready_of more) (tasks_rise m.constants.number m.progress.job.next_task m.progress.job.tasks (f m (inl refl)))
    (members_rise (n + 1) more d.1 (λ y k. f y (inr k))) (λ x y kx ky.
    let (t, kt, rt, et) = among_tasks m.constants.number m.progress.job.tasks x kx in
    let (l, kl, hl) = among_members more y ky in
    let (u, ku, ru, eu) = among_tasks l.constants.number l.progress.job.tasks y hl in
    before_job x y (omega (arith, d.0, numbered_low (n + 1) more l d.1 kl, ap (λ (w : Who). w.job) et, ap (λ (w : Who). w.job) eu)))

-- a state in a row, and a task's
ready_condition : (plan : Placement) (j : ℕ) (job : Job) (t : Task) (state : TaskState) (c : Condition) → is_ready_state state ≡ true → state_of state ≡ shown plan j job t c → model.is_ready (record t { condition = c }) ≡ true
ready_condition plan j job t state c r e = grind arith

abbrev the_name : ℕ → ℕ → Who
the_name n t = record { job = n; task = t }

one_name : (a b c d : ℕ) → a ≡ c → b ≡ d → the_name a b ≡ the_name c d
one_name a b c d e f = ap (λ (n : ℕ). the_name n b) e ∙ ap (λ (n : ℕ). the_name c n) f

module _ (plan : Placement) (s : Session) (o : IsInOrderButPlaces s) where
  pub ready_rises : Rises (ready s)
  ready_rises = members_rise 1 s.jobs o.numbered (λ m k. (all_in (λ (y : SessionJob). JobInOrder (IsSegment y.constants) y.constants y.progress) s.jobs m o.jobs k).tasks.numbers)

  module _ (task_rows : List TaskRow) (job_rows : List rows.JobRow) (c : rows.JobCounts) (shows : TablesShow plan s (map task_row task_rows) job_rows c) where
    -- a ready task's row is one of a ready task of the session
    pub row_ready : (i : ℕ) (w : Who) → IsReadyAt task_rows i w → Has (ready s) w
    row_ready i w a =
        let (m, t, inm, int, sh) = shows.tasks (task_row a.row) (has_get (map task_row task_rows) i (task_row a.row) (at_mapped task_row task_rows i a.row a.at)) in
        let r = ready_condition plan m.constants.number m.progress.job t a.row.state t.condition a.ready sh.state in
        let is : named m.constants.number t ≡ w = sym (one_name a.row.job a.row.number m.constants.number t.number sh.job sh.number) ∙ a.is in
        subst (λ (v : Who). Has (ready s) v) is (has_flat ready_of s.jobs m (named m.constants.number t) inm (of_tasks m.constants.number m.progress.job.tasks t int r))

    -- and each ready task has a row
    pub ready_row : (w : Who) → Has (ready s) w → (i : ℕ) × IsReadyAt task_rows i w
    ready_row w h =
        let (m, inm, k) = among_members s.jobs w h in
        let (t, int, r, e) = among_tasks m.constants.number m.progress.job.tasks w k in
        let (y, iny, sh) = shows.each m t inm int in
        let (i, at_y) = has_at (map task_row task_rows) y iny in
        let (row, at, same) = mapped_at task_row task_rows i y at_y in
        grind arith
