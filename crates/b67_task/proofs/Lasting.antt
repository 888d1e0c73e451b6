-- The last task goes on with its turn.
use Rattle.std.proofs.Common.{◌≡◌, ℕ, ◌+◌, ◌-◌, ◌<◌, ◌≤◌, Bool, true, List, length, map, Option, Some, None, sym, ◌∙◌, ap, arith, inl, inr, subst, get_or}
use Rattle.std.specs.Prelude.{◌&&◌, ◌||◌, nat_lt}
use Rattle.std.specs.List.{slice_get, list_any}
use Rattle.std.proofs.lemmas.Option.{same_Some, slice_get_within}
use Rattle.std.proofs.lemmas.Bool.{cases_lt, lt-ltb}
use Rattle.b67_model_text.specs.declared.deck.Switch as text
use Rattle.b67_lemmas.specs.Lists.{Has}
use Rattle.b67_lemmas.proofs.Members.{all_in, any_some, find_none, has_flat, has_get, keyed_has, keyed_falls}
use Rattle.b67_lemmas.proofs.Places.{at_mapped, has_at, mapped_at}
use Rattle.b67_model.specs.Keyed.{keyed}
use Rattle.b67_model.specs.Common.{number_of, Condition, Ready, Task, Job, SessionJob, Who, Switch, Session, is_same, ready, ready_of, switched, choice, IsSegment, JobInOrder, SwitchesRise, IsInOrderButPlaces}
use Rattle.b67_model.specs.Schedule.{goes_on}
use Rattle.b67_model.specs.Endings as model
use Rattle.b67_law.proofs.Numbered.{keyed_member, numbered_low}
use Rattle.b67_layout.specs.Common.{Placement, RunningRow, shown}
use Rattle.b67_layout.specs.Rows as rows
use Rattle.b67_layout.proofs.LiveTasks.{job_at}
use Rattle.b67_task.specs.declared.tables.TaskState.{TaskState}
use Rattle.b67_task.specs.declared.tables.JobRow.{JobRow}
use Rattle.b67_task.specs.declared.tables.Tasks.{Tasks}
use Rattle.b67_task.specs.Tables.{state_of, task_row, job_row, switch_of, TasksShow}
use Rattle.b67_task.specs.Counted.{Past}
use Rattle.b67_task.specs.Chosen.{is_ready_state, IsReadyAt}
use Rattle.b67_task.specs.Lasting.{RulesLeave, Lasts, TurnLasts}
use Rattle.b67_task.proofs.Choices.{choice_is}
use Rattle.b67_task.proofs.Nearer.{seen}
use Rattle.b67_task.proofs.Orders.{is_self}
use Rattle.b67_task.proofs.ReadyTasks.{of_tasks}
use Rattle.b67_task.proofs.Rising.{rise_at, is_named, nobody_named}

-- ---- what the rules leave

-- before a switch that is left, while those before it are past
leave_at : (s : Session) (next room : ℕ) (v : Switch) → SwitchesRise s.switches → Past next s.made s.switches → slice_get s.switches next ≡ Some v → room ≡ v.count - s.made → 1 ≤ room → RulesLeave s room
leave_at s next room v rise past at is some = record {
  switches = λ w k.
      let (j, at_w) = has_at s.switches w k in
      elim (cases_lt j next) [
        | inl low ↦ inl (past j w low at_w)
        | inr up ↦ elim (cases_lt next j) [
          | inl lt ↦ inr (omega (arith, is, some, rise_at s.switches next j v w rise lt at at_w))
          | inr le ↦
              let here : j ≡ next = omega (arith, up, le) in
              let same : w ≡ v = same_Some w v (sym at_w ∙ ap (slice_get s.switches) here ∙ at) in
              inr (omega (arith, is, some, ap (λ (z : Switch). z.count) same))
        ]
      ];
  on = inl (v, has_get s.switches next v at, omega (arith, is, some));
}

pub leave_switch : (xs lent : List text.Switch) (d : text.Switch) (s : Session) (next made room : ℕ) → lent ≡ xs → map switch_of xs ≡ s.switches → made ≡ s.made → SwitchesRise s.switches → Past next made (map switch_of xs)
    → next < length lent → room ≡ (get_or lent next d).count - made → 1 ≤ room → RulesLeave s room
leave_switch xs lent d s next made room same shown counted rise past inside is some =
    let at : slice_get (map switch_of xs) next ≡ Some (switch_of (get_or lent next d)) =
    subst (λ (l : List text.Switch). slice_get (map switch_of l) next ≡ Some (switch_of (get_or lent next d))) same (at_mapped switch_of lent next (get_or lent next d) (seen lent next d inside)) in
    leave_at s next room (switch_of (get_or lent next d)) rise
    (subst (λ (l : List Switch). Past next s.made l) shown (subst (λ (n : ℕ). Past next n (map switch_of xs)) counted past))
    (subst (λ (l : List Switch). slice_get l next ≡ Some (switch_of (get_or lent next d))) shown at) (omega (arith, is, counted)) some

-- in the quantum, where no switch is left
pub leave_quantum : (xs : List text.Switch) (s : Session) (next made room : ℕ) → map switch_of xs ≡ s.switches → made ≡ s.made → Past next made (map switch_of xs) → length (map switch_of xs) ≤ next → s.turn + room ≤ s.quantum → RulesLeave s room
leave_quantum xs s next made room shown counted past all few = grind (arith, has_at, slice_get_within)

pub leave_fewer : (s : Session) (room fewer : ℕ) → fewer ≤ room → RulesLeave s room → RulesLeave s fewer
leave_fewer s room fewer few h = grind arith

-- ---- the last task

-- a state that is ready in a row is the task's
ready_is : (plan : Placement) (j : ℕ) (job : Job) (t : Task) (state : TaskState) (c : Condition) → is_ready_state state ≡ true → state_of state ≡ shown plan j job t c → c ≡ Ready
ready_is plan j job t state c r e = grind arith

module _ (plan : Placement) (s : Session) (o : IsInOrderButPlaces s) (tasks : Tasks) (shows : TasksShow plan s tasks) where
  abbrev last : Who
  last = record { job = tasks.last_job; task = tasks.last_number }

  pub turn_lasts : (room : ℕ) → IsReadyAt tasks.rows.items tasks.running last → ((r : JobRow) → 1 ≤ tasks.last_job → slice_get tasks.jobs (tasks.last_job - 1) ≡ Some r → r.made + room < r.limit) → RulesLeave s room → TurnLasts plan s room
  turn_lasts room a limit rules =
      let there : slice_get (map task_row tasks.rows.items) tasks.running ≡ Some (task_row a.row) = at_mapped task_row tasks.rows.items tasks.running a.row a.at in
      let (m, t, inm, int, w) = shows.tasks (task_row a.row) (has_get (map task_row tasks.rows.items) tasks.running (task_row a.row) there) in
      let runs : RunningRow plan (Some (task_row a.row)) tasks.running = subst (λ (q : Option rows.TaskRow). RunningRow plan q tasks.running) there shows.counts.running in
      let job : m.constants.number ≡ tasks.last_job = sym w.job ∙ ap (λ (z : Who). z.job) a.is in
      let number : t.number ≡ tasks.last_number = sym w.number ∙ ap (λ (z : Who). z.task) a.is in
      let of_job : m.constants.number ≡ s.last.job = job ∙ shows.counts.last_job in
      let of_task : t.number ≡ s.last.task = number ∙ shows.counts.last_number in
      let j = all_in (λ (y : SessionJob). JobInOrder (IsSegment y.constants) y.constants y.progress) s.jobs m o.jobs inm in
      let b = job_at plan 1 s.jobs (map job_row tasks.jobs) m o.numbered shows.jobs inm in
      let (r, at, same) = mapped_at job_row tasks.jobs (m.constants.number - 1) b.row b.at in
      let low : r.made + room < r.limit = limit r (omega (arith, job, numbered_low 1 s.jobs m o.numbered inm)) (ap (λ (n : ℕ). slice_get tasks.jobs (n - 1)) (sym job) ∙ at) in
      record {
        who = m;
        task = t;
        lasts = record {
          member = subst (λ (n : ℕ). keyed number_of n s.jobs ≡ Some m) of_job (keyed_member 1 s.jobs m o.numbered inm);
          task = subst (λ (n : ℕ). keyed (λ (u : Task). u.number) n m.progress.job.tasks ≡ Some t) of_task (keyed_falls (λ (u : Task). u.number) m.progress.job.next_task m.progress.job.tasks t j.tasks.numbers int);
          ready = ready_is plan m.constants.number m.progress.job t a.row.state t.condition a.ready w.state;
          rules = rules;
          below = omega (arith, low, b.shows.made, b.shows.limit, ap (λ (z : rows.JobRow). z.made) same, ap (λ (z : rows.JobRow). z.limit) same);
        };
        runs = sym runs.1 ∙ w.slot;
      }

-- ---- the choice

or_true : (b : Bool) → (b || true) ≡ true
or_true b = grind arith

ready_so : (t : Task) → t.condition ≡ Ready → model.is_ready t ≡ true
ready_so t e = ap (λ (c : Condition). model.is_ready (record t { condition = c })) e

-- while operators are left it stays the chosen one
pub lasts_choice : (s : Session) (m : SessionJob) (t : Task) (room : ℕ) → Lasts s m t room → 1 ≤ room → choice s ≡ Some (record { who = s.last; turn = s.turn })
lasts_choice s m t room h some = choice_is s None true nobody on where
  nobody : switched s ≡ None
  nobody = find_none (is_named s.made s.switches) (ready s) (λ x k. nobody_named s.made s.switches x (λ w there same. elim (h.rules.switches w there) [
    | inl low ↦ omega (arith, low, same)
    | inr up ↦ omega (arith, up, same, some)
  ]))

  lasts : (list_any (λ (w : Switch). nat_lt s.made w.count) s.switches || nat_lt s.turn s.quantum) ≡ true
  lasts = elim h.rules.on [
    | inl x ↦ let (w, k, up) = x in ap (λ (b : Bool). b || nat_lt s.turn s.quantum) (any_some (λ (v : Switch). nat_lt s.made v.count) s.switches w k (lt-ltb s.made w.count (omega (arith, up, some))))
    | inr x ↦ ap (λ (b : Bool). list_any (λ (w : Switch). nat_lt s.made w.count) s.switches || b) (lt-ltb s.turn s.quantum (omega (arith, x, some))) ∙ or_true (list_any (λ (w : Switch). nat_lt s.made w.count) s.switches)
  ]

  named : Has (ready s) s.last
  named =
      let (inm, job) = keyed_has number_of s.last.job s.jobs m h.member in
      let (int, number) = keyed_has (λ (u : Task). u.number) s.last.task m.progress.job.tasks t h.task in
      let who : Who = record { job = m.constants.number; task = t.number } in
      let is : who ≡ s.last = ap (λ (n : ℕ). record { job = n; task = t.number }) job ∙ ap (λ (n : ℕ). record { job = s.last.job; task = n }) number in
      subst (λ (w : Who). Has (ready s) w) is (has_flat ready_of s.jobs m who inm (of_tasks m.constants.number m.progress.job.tasks t int (ready_so t h.ready)))

  on : goes_on s ≡ true
  on = ap (λ (b : Bool). b && (list_any (λ (w : Switch). nat_lt s.made w.count) s.switches || nat_lt s.turn s.quantum)) (any_some (is_same s.last) (ready s) s.last named (is_self s.last)) ∙ lasts
