-- The tables say whether a job stands at its limit with a live task.
use Rattle.std.proofs.Common.{◌≡◌, ◌≢◌, ℕ, zero, suc, ◌+◌, ◌-◌, Bool, true, false, List, [], ◌∷◌, map, Option, Some, None, refl, sym, ap, ◌∙◌, subst, arith, inl, ◌≤◌}
use Rattle.std.specs.Prelude.{◌==◌, ◌&&◌, is_some}
use Rattle.std.specs.List.{list_any, slice_get}
use Rattle.std.proofs.lemmas.Bool.{true≢false, eqb-true, eq-eqb}
use Rattle.std.proofs.lemmas.Option.{same_Some, none-some}
use Rattle.b67_lemmas.specs.Lists.{Has}
use Rattle.b67_lemmas.proofs.Members.{has_map, has_map_back, keyed_has, any_has, any_some}
use Rattle.b67_lemmas.proofs.Places.{mapped_at, at_mapped}
use Rattle.b67_model.specs.Common.{Task, SessionJob, number_of, Session, NumberedFrom}
use Rattle.b67_model.specs.Keyed.{keyed}
use Rattle.b67_law.proofs.Numbered.{numbered_low, keyed_member}
use Rattle.b67_session_lines.specs.Moments.{has_tasks, is_at_limit, last_part, last_part_by, last_part_if}
use Rattle.b67_layout.specs.Common.{Placement, JobShows, JobsShow}
use Rattle.b67_layout.specs.Rows as rows
use Rattle.b67_layout.proofs.LiveTasks.{job_at}
use Rattle.b67_task.specs.declared.tables.TaskRow.{TaskRow}
use Rattle.b67_task.specs.declared.tables.JobRow.{JobRow}
use Rattle.b67_task.specs.declared.tables.Tasks.{Tasks}
use Rattle.b67_task.specs.Tables.{task_row, job_row, TasksShow}
use Rattle.b67_session.specs.Limits.{AtLimit}

-- the job that a row of the table shows
record JobOf (plan : Placement) (jobs : List SessionJob) (n : ℕ) (row : rows.JobRow) : Type 0 where
  pub member : SessionJob
  pub among : Has jobs member
  pub number : member.constants.number ≡ n
  pub shows : JobShows plan member row

job_of : (plan : Placement) (k : ℕ) (jobs : List SessionJob) (rs : List rows.JobRow) (i : ℕ) (row : rows.JobRow) → NumberedFrom k jobs → JobsShow plan jobs rs → slice_get rs i ≡ Some row → JobOf plan jobs (k + i) row
job_of plan k jobs [] i row numbered shows at = absurd (none-some row at)
job_of plan k [] (r ∷ rs) i row numbered shows at = absurd shows
job_of plan k (m ∷ jobs) (r ∷ rs) zero row numbered shows at = grind arith
job_of plan k (m ∷ jobs) (r ∷ rs) (suc i) row numbered shows at = grind (arith, job_of plan (k + 1) jobs rs i row numbered.1 shows.1)

some_if : (b : Bool) (s : Session) (m : SessionJob) → is_some (last_part_if b s m) ≡ b
some_if true s m = refl
some_if false s m = refl

and_false : (a b : Bool) → a ≡ false → (a && b) ≡ false
and_false a b e = rw e refl

module _ (plan : Placement) (s : Session) (tasks : Tasks) (numbered : NumberedFrom 1 s.jobs) (shows : TasksShow plan s tasks) where
  abbrev js : List rows.JobRow
  js = map job_row tasks.jobs

  found : (m : SessionJob) → Has s.jobs m → m.constants.number ≡ s.last.job → keyed number_of s.last.job s.jobs ≡ Some m
  found m inm e = subst (λ (n : ℕ). keyed number_of n s.jobs ≡ Some m) e (keyed_member 1 s.jobs m numbered inm)

  -- a task of a job lives exactly if there is a row of the job
  lives : (m : SessionJob) → Has s.jobs m → list_any (λ (r : TaskRow). r.job == m.constants.number) tasks.rows.items ≡ has_tasks m.progress.job.tasks
  lives m inm = by m.progress.job.tasks refl
    where
      test : TaskRow → Bool
      test r = r.job == m.constants.number

      one : (r : TaskRow) → Has tasks.rows.items r → test r ≡ true → (u : Task) × Has m.progress.job.tasks u
      one r inr' e =
          let (y, u, iny, inu, w) = shows.tasks (task_row r) (has_map task_row tasks.rows.items r inr') in
          let number : y.constants.number ≡ m.constants.number = sym w.job ∙ eqb-true r.job m.constants.number e in
          let same : Some y ≡ Some m = sym (subst (λ (n : ℕ). keyed number_of n s.jobs ≡ Some y) number (keyed_member 1 s.jobs y numbered iny)) ∙ keyed_member 1 s.jobs m numbered inm in
          (u, subst (λ (z : SessionJob). Has z.progress.job.tasks u) (same_Some y m same) inu)

      none : (b : Bool) → list_any test tasks.rows.items ≡ b → m.progress.job.tasks ≡ [] → list_any test tasks.rows.items ≡ false
      none false e empty = e
      none true e empty =
          let (r, inr', t) = any_has test tasks.rows.items e in
          let (u, inu) = one r inr' t in
          absurd (subst (λ (ts : List Task). Has ts u) empty inu)

      by : (ts : List Task) → m.progress.job.tasks ≡ ts → list_any test tasks.rows.items ≡ has_tasks ts
      by [] e = none (list_any test tasks.rows.items) refl e
      by (t ∷ ts) e =
          let (row, among, w) = shows.each m t inm (subst (λ (us : List Task). Has us t) (sym e) (inl refl)) in
          let back = has_map_back task_row tasks.rows.items row among in
          any_some test tasks.rows.items back.item back.among (eq-eqb back.item.job m.constants.number (ap (λ (r : rows.TaskRow). r.job) back.is ∙ w.job))

  pub no_tasks : (m : SessionJob) → Has s.jobs m → list_any (λ (r : TaskRow). r.job == m.constants.number) tasks.rows.items ≡ false → m.progress.job.tasks ≡ []
  no_tasks m inm e = grind (arith, lives)

  pub some_tasks : (m : SessionJob) → Has s.jobs m → list_any (λ (r : TaskRow). r.job == m.constants.number) tasks.rows.items ≡ true → m.progress.job.tasks ≢ []
  some_tasks m inm e none = absurd (true≢false (sym e ∙ lives m inm ∙ ap has_tasks none))

  -- the counts of the job's row are the job's
  made_is : (m : SessionJob) → Has s.jobs m → m.constants.number ≡ s.last.job → (at : Bool) → AtLimit tasks at → (m.progress.made == m.constants.limit) ≡ at
  made_is m inm e at a = grind (arith, job_at, mapped_at, numbered_low)

  -- it hasn't made as many as it may
  pub not_made : AtLimit tasks false → is_some (last_part s) ≡ false
  unfolding last_part
  not_made a = by (keyed number_of s.last.job s.jobs) refl
    where
      by : (o : Option SessionJob) → keyed number_of s.last.job s.jobs ≡ o → is_some (last_part_by s o) ≡ false
      by None e = refl
      by (Some m) e =
          let k = keyed_has number_of s.last.job s.jobs m e in
          some_if (is_at_limit m) s m ∙ and_false (m.progress.made == m.constants.limit) (has_tasks m.progress.job.tasks) (made_is m k.0 k.1 false a)

  -- it has
  made_all : AtLimit tasks true → list_any (λ (r : TaskRow). r.job == tasks.last_job) tasks.rows.items ≡ is_some (last_part s)
  unfolding last_part
  made_all a =
      let (r, low, at) = a.there refl in
      let j = job_of plan 1 s.jobs js (tasks.last_job - 1) (job_row r) numbered shows.jobs (at_mapped job_row tasks.jobs (tasks.last_job - 1) r at) in
      let m = j.member in
      let number : m.constants.number ≡ tasks.last_job = j.number ∙ omega (arith, low) in
      let last : m.constants.number ≡ s.last.job = number ∙ shows.counts.last_job in
      let full : (m.progress.made == m.constants.limit) ≡ true = made_is m j.among last true a in
      let test : is_at_limit m ≡ has_tasks m.progress.job.tasks = rw full refl in
      let part : is_some (last_part_by s (keyed number_of s.last.job s.jobs)) ≡ has_tasks m.progress.job.tasks =
      ap (λ (o : Option SessionJob). is_some (last_part_by s o)) (found m j.among last) ∙ some_if (is_at_limit m) s m ∙ test in
      subst (λ (n : ℕ). list_any (λ (q : TaskRow). q.job == n) tasks.rows.items ≡ has_tasks m.progress.job.tasks) number (lives m j.among) ∙ sym part

  pub made_all_is : AtLimit tasks true → (found : Bool) (rs : List TaskRow) → rs ≡ tasks.rows.items → found ≡ list_any (λ (r : TaskRow). r.job == tasks.last_job) rs → found ≡ is_some (last_part s)
  made_all_is a found rs same e = e ∙ ap (list_any (λ (r : TaskRow). r.job == tasks.last_job)) same ∙ made_all a

-- whether a last part is due, by the tables
abbrev pub TellsLimit : Tasks → Bool → Type 0
TellsLimit tasks at = (plan : Placement) (s : Session) → NumberedFrom 1 s.jobs → TasksShow plan s tasks → at ≡ is_some (last_part s)

-- the job's row says it
row_says : (tasks : Tasks) (o : Option JobRow) → slice_get tasks.jobs (tasks.last_job - 1) ≡ o → 1 ≤ tasks.last_job → (at : Bool) × AtLimit tasks at
row_says tasks None e low = (false, record { is = λ r some at. absurd (none-some r (sym e ∙ at)); there = λ no. absurd (true≢false (sym no)) })
row_says tasks (Some r) e low = (
  r.made == r.limit,
  record { is = λ q some at. ap (λ (z : JobRow). z.made == z.limit) (sym (same_Some r q (sym e ∙ at))); there = λ yes. (r, low, e) },
)

says_by : (tasks : Tasks) (n : ℕ) → tasks.last_job ≡ n → (at : Bool) × AtLimit tasks at
says_by tasks zero e = (false, record { is = λ r some at. absurd (omega (arith, some, e)); there = λ no. absurd (true≢false (sym no)) })
says_by tasks (suc n) e = row_says tasks (slice_get tasks.jobs (tasks.last_job - 1)) refl (omega (arith, e))

tells_by : (tasks : Tasks) (at : Bool) → AtLimit tasks at → (due : Bool) × TellsLimit tasks due
tells_by tasks false a = (false, λ plan s numbered shows. sym (not_made plan s tasks numbered shows a))
tells_by tasks true a =
    (list_any (λ (r : TaskRow). r.job == tasks.last_job) tasks.rows.items, λ plan s numbered shows. made_all_is plan s tasks numbered shows a (list_any (λ (r : TaskRow). r.job == tasks.last_job) tasks.rows.items) tasks.rows.items refl refl)

pub tells_limit : (tasks : Tasks) → (due : Bool) × TellsLimit tasks due
tells_limit tasks = let x = says_by tasks tasks.last_job refl in tells_by tasks x.0 x.1
