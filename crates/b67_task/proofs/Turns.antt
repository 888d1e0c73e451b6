-- The turn that a row tells, and the tables of the machine.
use Rattle.std.proofs.Common.{◌≡◌, ◌≢◌, ℕ, ◌+◌, ◌-◌, ◌<◌, ◌≤◌, ◌^◌, List, length, map, Option, Some, refl, sym, ◌∙◌, ap, arith, slice_set, subst, get_or}
use Rattle.std.specs.List.{slice_get, refill}
use Rattle.std.proofs.lemmas.List.{length-map}
use Rattle.std.proofs.lemmas.Option.{same_Some, get_or_from_slice_get, slice_get_within}
use Rattle.b67_word.specs.Tagged.{Tagged}
use Rattle.b67_ctl.specs.declared.registers.Regs.{Regs}
use Rattle.b67_model.specs.Common.{Task, SessionJob, Session, IsSegment}
use Rattle.b67_layout.specs.Common.{JobInOrderButCounts, IsInOrderButCounts, Placement, RunningRow, TablesShow, SessionHolds}
use Rattle.b67_stack.specs.Represents.{Storage}
use Rattle.b67_layout.specs.Rows as rows
use Rattle.b67_task.proofs.Replans.{fit_replan}
use Rattle.b67_task.specs.Turns.{with_running, IsTurnOf}
use Rattle.b67_task.specs.declared.registers.Turn.{Turn}
use Rattle.b67_task.specs.declared.tables.TaskRow.{TaskRow}
use Rattle.b67_task.specs.declared.tables.JobRow.{JobRow}
use Rattle.b67_task.specs.declared.tables.Tasks.{Tasks}
use Rattle.b67_task.specs.Tables.{task_row, job_row, counts_of, TasksShow}
use Rattle.b67_task.specs.Standing.{Rests}
use Rattle.b67_layout.proofs.LiveTasks.{live_in_order, job_at}
use Rattle.b67_task.proofs.SavedTables.{paused, resumed, goes_on}
use Rattle.b67_lemmas.proofs.Members.{all_in, has_get}
use Rattle.b67_lemmas.proofs.Places.{at_mapped, map-slice_set, mapped_at, refill_whole, same_mapped}
use Rattle.b67_law.proofs.Numbered.{keyed_member, numbered_low}

pub record TurnKnown (tasks : Tasks) (plan : Placement) (s : Session) (r : TaskRow) : Type 0 where
  pub member : SessionJob
  pub task : Task
  pub job : JobRow
  pub from_one : 1 ≤ r.job
  pub at : slice_get tasks.jobs (r.job - 1) ≡ Some job
  pub fits : job.segments + job.rows < 2 ^ 16
  pub turn : IsTurnOf plan s.jobs member task (record { slot = r.slot; dict = job.dict; entries = job.segments + job.rows; segment = r.segment; place = r.place })

pub turn_known : (tasks : Tasks) (plan : Placement) (s : Session) → Rests tasks plan s → (i : ℕ) (r : TaskRow) → slice_get tasks.rows.items i ≡ Some r → TurnKnown tasks plan s r
turn_known tasks plan s q i r at =
    let (m, t, inm, int, w) = q.shows.tasks (task_row r) (has_get (map task_row tasks.rows.items) i (task_row r) (at_mapped task_row tasks.rows.items i r at)) in
    let b = job_at plan 1 s.jobs (map job_row tasks.jobs) m q.ordered.numbered q.shows.jobs inm in
    let (j, there_is, same) = mapped_at job_row tasks.jobs (m.constants.number - 1) b.row b.at in
    let in_order = all_in (λ (y : SessionJob). JobInOrderButCounts (IsSegment y.constants) y.constants y.progress) s.jobs m q.ordered.jobs inm in
    let on = goes_on plan s q.fits (omega (arith, q.few)) q.none (map task_row tasks.rows.items) (map job_row tasks.jobs) (counts_of tasks) q.shows m t (task_row r) inm int w in
    grind (arith, numbered_low, keyed_member, live_in_order)

-- the row of the running task
pub running_row : (plan : Placement) (o : Option rows.TaskRow) (n : ℕ) → RunningRow plan o n → n ≢ 255 → (row : rows.TaskRow) × (o ≡ Some row)
running_row plan o n h ne = grind arith

pub running_in : (tasks : Tasks) (plan : Placement) (s : Session) → TasksShow plan s tasks → tasks.running ≢ 255 → (r : TaskRow) × (slice_get tasks.rows.items tasks.running ≡ Some r)
running_in tasks plan s shows ne = grind (arith, mapped_at)

-- what is noted through the lent slice
pub noted_is : (tasks : Tasks) (r : TaskRow) → slice_get tasks.rows.items tasks.running ≡ Some r → (regs : Regs) (new lent : List TaskRow) → lent ≡ tasks.rows.items
    → (slice_get lent tasks.running ≡ Some r → new ≡ slice_set lent tasks.running (record r { segment = regs.segment; place = regs.place }))
    → new ≡ slice_set tasks.rows.items tasks.running (record r { segment = regs.segment; place = regs.place })
noted_is tasks r at regs new lent same f = grind arith

module _ (tasks : Tasks) (r : TaskRow) (at : slice_get tasks.rows.items tasks.running ≡ Some r) (regs : Regs) (new : List TaskRow)
    (is : new ≡ slice_set tasks.rows.items tasks.running (record r { segment = regs.segment; place = regs.place })) (len : length new ≡ length tasks.rows.items) where
  abbrev pub noted_row : TaskRow
  noted_row = record r { segment = regs.segment; place = regs.place }

  back : refill (length tasks.rows.items) tasks.rows.items new ≡ slice_set tasks.rows.items tasks.running noted_row
  back = refill_whole tasks.rows.items new len ∙ is

  pub slots_stay : map (λ (z : TaskRow). z.slot) (refill (length tasks.rows.items) tasks.rows.items new) ≡ map (λ (z : TaskRow). z.slot) tasks.rows.items
  slots_stay = ap (map (λ (z : TaskRow). z.slot)) back ∙ same_mapped (λ (z : TaskRow). z.slot) tasks.rows.items tasks.running r noted_row at refl

  pub rests_after : (x : Storage) (core : List Tagged) (marks : List ℕ) (plan : Placement) (s : Session) → IsInOrderButCounts s → SessionHolds x core regs marks plan s → TasksShow plan s tasks → length tasks.rows.items ≤ 120
      → TablesShow (with_running plan 255) s (map task_row (refill (length tasks.rows.items) tasks.rows.items new)) (map job_row tasks.jobs) (record (counts_of tasks) { running = 255 })
  rests_after x core marks plan s o h shows few =
      let made : map task_row (refill (length tasks.rows.items) tasks.rows.items new) ≡ slice_set (map task_row tasks.rows.items) tasks.running (task_row noted_row) =
      ap (map task_row) back ∙ map-slice_set task_row tasks.rows.items tasks.running noted_row in
      let P : List rows.TaskRow → Type 0 = λ z. TablesShow (with_running plan 255) s z (map job_row tasks.jobs) (record (counts_of tasks) { running = 255 }) in
      subst P (sym made) (paused x core regs marks plan s o h (map task_row tasks.rows.items) (map job_row tasks.jobs) (counts_of tasks) shows (omega (arith, length-map tasks.rows.items task_row, few)) (task_row r) (at_mapped task_row tasks.rows.items tasks.running r at))

-- what the code reads of the tables
pub seen_row : (xs seen : List TaskRow) (i : ℕ) (r d : TaskRow) → seen ≡ xs → slice_get xs i ≡ Some r → get_or seen i d ≡ r
seen_row xs seen i r d e at = get_or_from_slice_get seen i r d (ap (λ (l : List TaskRow). slice_get l i) e ∙ at)

module _ (tasks : Tasks) (plan : Placement) (s : Session) (r : TaskRow) (k : TurnKnown tasks plan s r) (v : TaskRow) (is : v ≡ r) (seen : List JobRow) (same : seen ≡ tasks.jobs) where
  found : slice_get seen (v.job - 1) ≡ Some k.job
  found = ap (λ (l : List JobRow). slice_get l (v.job - 1)) same ∙ ap (λ (z : TaskRow). slice_get tasks.jobs (z.job - 1)) is ∙ k.at

  pub seen_one : 1 ≤ v.job
  seen_one = omega (arith, ap (λ (z : TaskRow). z.job) is, k.from_one)

  pub seen_inside : v.job - 1 < length seen
  seen_inside = slice_get_within seen (v.job - 1) k.job found

  module _ (j : JobRow) (read : j ≡ get_or seen (v.job - 1) j) where
    job_is : j ≡ k.job
    job_is = read ∙ get_or_from_slice_get seen (v.job - 1) k.job j found

    pub seen_fits : j.segments + j.rows < 2 ^ 16
    seen_fits = omega (arith, k.fits, ap (λ (z : JobRow). z.segments + z.rows) job_is)

    pub seen_turn : (m : SessionJob) × (t : Task) × IsTurnOf plan s.jobs m t (record { slot = v.slot; dict = j.dict; entries = j.segments + j.rows; segment = v.segment; place = v.place })
    seen_turn = grind (arith, job_is)

-- a row's slot is as it was
pub slot_same : (old new : List TaskRow) (i : ℕ) (r q : TaskRow) → map (λ (z : TaskRow). z.slot) new ≡ map (λ (z : TaskRow). z.slot) old → slice_get old i ≡ Some r → slice_get new i ≡ Some q → q.slot ≡ r.slot
slot_same old new i r q e at_old at_new =
    same_Some q.slot r.slot (sym (at_mapped (λ (z : TaskRow). z.slot) new i q at_new) ∙ ap (λ (l : List ℕ). slice_get l i) e ∙ at_mapped (λ (z : TaskRow). z.slot) old i r at_old)

pub inside_same : (old new : List TaskRow) (i : ℕ) → map (λ (z : TaskRow). z.slot) new ≡ map (λ (z : TaskRow). z.slot) old → i < length old → i < length new
inside_same old new i e h = omega (arith, h, length-map new (λ (z : TaskRow). z.slot), length-map old (λ (z : TaskRow). z.slot), ap length e)

-- the tables where no registers are in use
pub rests_is : (x : Storage) (core : List Tagged) (r : Regs) (marks : List ℕ) (plan : Placement) (s : Session) (tasks : Tasks) → IsInOrderButCounts s → SessionHolds x core r marks plan s → TasksShow (with_running plan 255) s tasks → Rests tasks (with_running plan 255) s
rests_is x core r marks plan s tasks o h shows = record { ordered = o; fits = fit_replan plan 255 s.jobs h.fits.rows; few = omega (arith, h.fits.few); none = refl; shows = shows }

-- the turn under the plan before
pub turn_out : (plan : Placement) (k : ℕ) (s : Session) (m : SessionJob) (t : Task) (turn : Turn) → IsTurnOf (with_running plan k) s.jobs m t turn → IsTurnOf plan s.jobs m t turn
turn_out plan k s m t turn q = record { member = q.member; task = q.task; slot = q.slot; dict = q.dict; entries = q.entries; segment = q.segment; place = q.place }

-- the tables once the registers of a row's task are in use
pub in_use_again : (tasks : Tasks) (plan : Placement) (s : Session) → Rests tasks (with_running plan 255) s → (i : ℕ) (r : TaskRow) → slice_get tasks.rows.items i ≡ Some r → i < 120
    → TablesShow (with_running plan r.slot) s (map task_row tasks.rows.items) (map job_row tasks.jobs) (record (counts_of tasks) { running = i })
in_use_again tasks plan s q i r at low =
    resumed (with_running plan 255) s q.fits (omega (arith, q.few)) refl (map task_row tasks.rows.items) (map job_row tasks.jobs) (counts_of tasks) q.shows i (task_row r) (at_mapped task_row tasks.rows.items i r at) (λ e. omega (arith, e, low))
