-- As many rows are of tasks of a job as tasks of it live.
use Rattle.std.proofs.Common.{◌≡◌, ◌==◌, ℕ, zero, suc, ◌+◌, ◌<◌, ◌≤◌, List, [], ◌∷◌, map, flat_map, drop, length, Some, refl, sym, ◌∙◌, ap, arith, inl, inr, subst, length-append}
use Rattle.std.specs.Prelude.{if◌then◌else◌, get_or}
use Rattle.std.proofs.lemmas.Bool.{cases_Bool, true≢false}
use Rattle.std.proofs.lemmas.List.{length-map}
use Rattle.std.specs.List.{slice_get}
use Rattle.std.proofs.lemmas.Option.{get_or_from_slice_get, same_Some}
use Rattle.b67_lemmas.specs.Lists.{Has}
use Rattle.b67_lemmas.proofs.Places.{drop-get, get_within}
use Rattle.b67_lemmas.proofs.Members.{has_flat, has_flat_back, has_map, has_map_back}
use Rattle.b67_model.specs.Common.{Task, SessionJob, number_of, Session}
use Rattle.b67_model.specs.Keyed.{keyed}
use Rattle.b67_law.proofs.Numbered.{keyed_member}
use Rattle.b67_layout.specs.Common.{IsInOrderButCounts, Placement, slot_of, Differ, RowsFit}
use Rattle.b67_layout.specs.Rows as rows
use Rattle.b67_layout.proofs.Common.{not_more, slots_of, jobs_differ}
use Rattle.b67_task.specs.declared.tables.TaskRow.{TaskRow}
use Rattle.b67_task.specs.declared.tables.Tasks.{Tasks}
use Rattle.b67_task.specs.Tables.{task_row, TasksShow}
use Rattle.b67_mcp.specs.Begins.{counts_for, rows_of_job}

-- the slots of the rows of a job
abbrev slots_in : List TaskRow → ℕ → List ℕ
slots_in [] job = []
slots_in (r ∷ rs) job = if r.job == job then r.slot ∷ slots_in rs job else slots_in rs job

slots_count : (rs : List TaskRow) (job : ℕ) → length (slots_in rs job) ≡ rows_of_job rs job
slots_count [] job = refl
slots_count (r ∷ rs) job = elim (cases_Bool (r.job == job)) [ inl e ↦ rw e (ap suc (slots_count rs job) ∙ omega arith) | inr e ↦ rw e (slots_count rs job ∙ omega arith) ]

-- a row of a job with a slot
record RowAt (rs : List TaskRow) (job n : ℕ) : Type 0 where
  pub row : TaskRow
  pub among : Has rs row
  pub job_is : row.job ≡ job
  pub slot_is : row.slot ≡ n

slots_back : (rs : List TaskRow) (job n : ℕ) → Has (slots_in rs job) n → RowAt rs job n
slots_back [] job n h = absurd h
slots_back (r ∷ rs) job n h = grind (arith, slots_back rs job n)

slots_has : (rs : List TaskRow) (job : ℕ) (r : TaskRow) → Has rs r → r.job ≡ job → Has (slots_in rs job) r.slot
slots_has [] job r h is = absurd h
slots_has (q ∷ rs) job r h is = grind (arith, slots_has rs job r)

slots_differ : (rs : List TaskRow) (job : ℕ) → Differ (map (λ (r : TaskRow). r.slot) rs) → Differ (slots_in rs job)
slots_differ [] job d = tt
slots_differ (r ∷ rs) job d = elim (cases_Bool (r.job == job)) [
  | inl e ↦
      rw e (
        λ h. (let q = slots_back rs job r.slot h in d.0 (subst (Has (map (λ (z : TaskRow). z.slot) rs)) q.slot_is (has_map (λ (z : TaskRow). z.slot) rs q.row q.among))),
        slots_differ rs job d.1,
      )
  | inr e ↦ rw e (slots_differ rs job d.1)
]

mapped_slots : (rs : List TaskRow) → map (λ (r : rows.TaskRow). r.slot) (map task_row rs) ≡ map (λ (r : TaskRow). r.slot) rs
mapped_slots [] = refl
mapped_slots (r ∷ rs) = ap (λ (ns : List ℕ). r.slot ∷ ns) (mapped_slots rs)

same_job : (r : TaskRow) (q : rows.TaskRow) → task_row r ≡ q → r.job ≡ q.job
same_job r q e = ap (λ (z : rows.TaskRow). z.job) e

same_slot : (r : TaskRow) (q : rows.TaskRow) → task_row r ≡ q → r.slot ≡ q.slot
same_slot r q e = ap (λ (z : rows.TaskRow). z.slot) e

shown_slot : (rs : List TaskRow) (plan : Placement) (m : SessionJob) (u : Task) (row : TaskRow) (q : rows.TaskRow) (n : ℕ) → Has rs row → task_row row ≡ q → rows.TaskShows plan m u q → slot_of plan m.constants.number u.number ≡ n → Has (slots_in rs m.constants.number) n
shown_slot rs plan m u row q n there is w slot = subst (Has (slots_in rs m.constants.number)) (same_slot row q is ∙ w.slot ∙ slot) (slots_has rs m.constants.number row there (same_job row q is ∙ w.job))

pub rows_are : (tasks : Tasks) (plan : Placement) (s : Session) (m : SessionJob) → IsInOrderButCounts s → RowsFit plan s.jobs → Has s.jobs m → TasksShow plan s tasks → rows_of_job tasks.rows.items m.constants.number ≡ length m.progress.job.tasks
rows_are tasks plan s m o fit inm shows =
    let rs = tasks.rows.items in
    let job = m.constants.number in
    let live : List ℕ = flat_map (slots_of plan) (m ∷ []) in
    let once : Differ (map (λ (r : TaskRow). r.slot) rs) = subst Differ (mapped_slots rs) shows.once in
    let up = not_more (slots_in rs job) live (slots_differ rs job once) (λ n h.
    (let r = slots_back rs job n h in
    let (y, t, iny, int, w) = shows.tasks (task_row r.row) (has_map task_row rs r.row r.among) in
    let same : y ≡ m = by_number y iny (sym w.job ∙ r.job_is) in
    let int' : Has m.progress.job.tasks t = subst (λ (z : SessionJob). Has z.progress.job.tasks t) same int in
    let slot : slot_of plan m.constants.number t.number ≡ n = ap (λ (z : SessionJob). slot_of plan z.constants.number t.number) (sym same) ∙ sym w.slot ∙ r.slot_is in
    subst (Has live) slot (has_flat (slots_of plan) (m ∷ []) m (slot_of plan m.constants.number t.number) (inl refl) (has_map (λ (v : Task). slot_of plan m.constants.number v.number) m.progress.job.tasks t int')))) in
    let down = not_more live (slots_in rs job) (jobs_differ plan s o fit m.constants.number (m ∷ []) (refl, tt) (λ y h. elim h [ inl e ↦ subst (Has s.jobs) e inm | inr never ↦ absurd never ])) (λ n h.
    (let y = has_flat_back (slots_of plan) (m ∷ []) n h in
    let one : m ≡ y.item = elim y.among [ inl e ↦ e | inr never ↦ absurd never ] in
    let inside : Has (slots_of plan m) n = subst (λ (z : SessionJob). Has (slots_of plan z) n) (sym one) y.inside in
    let u = has_map_back (λ (v : Task). slot_of plan m.constants.number v.number) m.progress.job.tasks n inside in
    let (q, inq, w) = shows.each m u.item inm u.among in
    let r = has_map_back task_row rs q inq in
    shown_slot rs plan m u.item r.item q n r.among r.is w u.is)) in
    omega (arith, up, down, slots_count rs job, length-append (slots_of plan m) [], length-map m.progress.job.tasks (λ (v : Task). slot_of plan m.constants.number v.number))
  where
    by_number : (y : SessionJob) → Has s.jobs y → y.constants.number ≡ m.constants.number → y ≡ m
    by_number y iny e =
        let one = keyed_member 1 s.jobs y o.numbered iny in
        let two = keyed_member 1 s.jobs m o.numbered inm in
        let P : ℕ → Type 0 = λ n. keyed number_of n s.jobs ≡ Some y in
        same_Some y m (sym (subst P e one) ∙ two)

-- the rest after one row
pub rows_next : (rs : List TaskRow) (at job : ℕ) (d : TaskRow) → at < length rs → rows_of_job (drop at rs) job ≡ counts_for (get_or rs at d) job + rows_of_job (drop (at + 1) rs) job
rows_next rs at job d low =
    let (v, there) = get_within rs at low in
    let is : get_or rs at d ≡ v = get_or_from_slice_get rs at v d there in
    let next : suc at ≡ at + 1 = omega arith in
    ap (λ (xs : List TaskRow). rows_of_job xs job) (drop-get rs at v there) ∙ ap (λ (n : ℕ). counts_for v job + rows_of_job (drop n rs) job) next
    ∙ ap (λ (z : TaskRow). counts_for z job + rows_of_job (drop (at + 1) rs) job) (sym is)

pub rows_past : (rs : List TaskRow) (at job : ℕ) → length rs ≤ at → rows_of_job (drop at rs) job ≡ 0
rows_past [] zero job low = refl
rows_past [] (suc at) job low = refl
rows_past (r ∷ rs) zero job low = absurd (omega (arith, low))
rows_past (r ∷ rs) (suc at) job low = rows_past rs at job (omega (arith, low))

-- one row is counted
pub rows_step : (rs : List TaskRow) (at job : ℕ) (d : TaskRow) (counted live : ℕ) → counted ≡ counts_for (get_or rs at d) job → at < length rs → live + rows_of_job (drop at rs) job ≡ rows_of_job rs job → live ≤ at
    → (live + counted + rows_of_job (drop (at + 1) rs) job ≡ rows_of_job rs job) × (live + counted ≤ at + 1)
rows_step rs at job d counted live is low before few = grind (arith, rows_next)

-- the rows are those of the machine, and the job is that of a row
pub counted_tasks : (slice items others : List TaskRow) (running : ℕ) (row d : TaskRow) (result : ℕ) → result ≡ rows_of_job slice (get_or others running d).job → slice ≡ items → slice_get others running ≡ Some row → result ≡ rows_of_job items row.job
counted_tasks slice items others running row d result is same there = grind (arith, get_or_from_slice_get)
