-- Each live task has one row: as many rows as live tasks.
use Rattle.std.proofs.Common.{◌≡◌, ℕ, ◌+◌, List, [], ◌∷◌, ◌++◌, map, flat_map, length, refl, sym, ◌∙◌, ap, arith, inl, inr, ⊎_elim, subst}
use Rattle.std.proofs.lemmas.List.{length-map}
use Rattle.b67_lemmas.specs.Lists.{Has, Falls}
use Rattle.b67_lemmas.proofs.Members.{falls_low, has_append_cases, has_flat, has_flat_back, has_map, has_map_back}
use Rattle.b67_model.specs.Common.{Task, SessionJob, live_tasks, Session, NumberedFrom}
use Rattle.b67_layout.specs.Common.{IsInOrderButCounts, Slotted, Placement, slot_of, TaskRow, JobRow, JobCounts, Differ, TablesShow, RowsFit}
use Rattle.b67_layout.proofs.Rows.{task_row}
use Rattle.b67_layout.proofs.Counting.{not_more, slots_of, slots_length}
use Rattle.b67_layout.proofs.Fresh.{job_in_order}
use Rattle.b67_law.proofs.Numbered.{numbered_low}

-- two lists of numbers that differ, without one in both
differ_append : (xs ys : List ℕ) → Differ xs → Differ ys → ((n : ℕ) → Has xs n → Has ys n → ⊥) → Differ (xs ++ ys)
differ_append [] ys d e apart = e
differ_append (x ∷ xs) ys d e apart = grind (arith, has_append_cases, differ_append xs ys d.1 e)

module _ (plan : Placement) (s : Session) (o : IsInOrderButCounts s) (fit : RowsFit plan s.jobs) where
  -- a slot tells the task
  slot_tells : (m y : SessionJob) (t u : Task) → Has s.jobs m → Has m.progress.job.tasks t → Has s.jobs y → Has y.progress.job.tasks u
      → slot_of plan m.constants.number t.number ≡ slot_of plan y.constants.number u.number → (m.constants.number ≡ y.constants.number) × (t.number ≡ u.number)
  slot_tells m y t u inm int iny inu e =
      let a = task_row plan s.jobs m t fit inm int in
      let b = task_row plan s.jobs y u fit iny inu in
      let same : a.row ≡ b.row = fit.differ a.row b.row a.among b.among (sym a.slot ∙ e ∙ b.slot) in
      (sym a.job ∙ ap (λ (r : Slotted). r.job) same ∙ b.job, sym a.number ∙ ap (λ (r : Slotted). r.task) same ∙ b.number)

  tasks_differ : (m : SessionJob) (bound : ℕ) (ts : List Task) → Has s.jobs m → ((t : Task) → Has ts t → Has m.progress.job.tasks t) → Falls bound (map (λ (t : Task). t.number) ts)
      → Differ (map (λ (t : Task). slot_of plan m.constants.number t.number) ts)
  tasks_differ m bound [] inm inside f = tt
  tasks_differ m bound (t ∷ ts) inm inside f = (
    λ h.
        let u = has_map_back (λ (v : Task). slot_of plan m.constants.number v.number) ts (slot_of plan m.constants.number t.number) h in
        let e = (slot_tells m m u.item t inm (inside u.item (inr u.among)) inm (inside t (inl refl)) u.is).1 in
        let low = falls_low t.number (map (λ (v : Task). v.number) ts) u.item.number f.1 (has_map (λ (v : Task). v.number) ts u.item u.among) in
        omega (arith, e, low),
    tasks_differ m t.number ts inm (λ u h. inside u (inr h)) f.1,
  )

  pub jobs_differ : (n : ℕ) (ms : List SessionJob) → NumberedFrom n ms → ((m : SessionJob) → Has ms m → Has s.jobs m) → Differ (flat_map (slots_of plan) ms)
  jobs_differ n [] d inside = tt
  jobs_differ n (m ∷ more) d inside =
      let inm = inside m (inl refl) in
      differ_append (slots_of plan m) (flat_map (slots_of plan) more)
      (tasks_differ m m.progress.job.next_task m.progress.job.tasks inm (λ t h. h) (job_in_order s m o inm).tasks.numbers)
      (jobs_differ (n + 1) more d.1 (λ y h. inside y (inr h)))
      (λ k h i.
      let t = has_map_back (λ (v : Task). slot_of plan m.constants.number v.number) m.progress.job.tasks k h in
      let y = has_flat_back (slots_of plan) more k i in
      let u = has_map_back (λ (v : Task). slot_of plan y.item.constants.number v.number) y.item.progress.job.tasks k y.inside in
      let e = (slot_tells m y.item t.item u.item inm t.among (inside y.item (inr y.among)) u.among (t.is ∙ sym u.is)).0 in
      omega (arith, e, d.0, numbered_low (n + 1) more y.item d.1 y.among))

  -- as many rows as live tasks
  pub rows_live : (rows : List TaskRow) (job_rows : List JobRow) (c : JobCounts) → TablesShow plan s rows job_rows c → length rows ≡ live_tasks s.jobs
  rows_live rows job_rows c shows =
      let slots : List ℕ = map (λ (r : TaskRow). r.slot) rows in
      let live : List ℕ = flat_map (slots_of plan) s.jobs in
      let up = not_more slots live shows.once (λ n h.
      let r = has_map_back (λ (q : TaskRow). q.slot) rows n h in
      let (m, t, inm, int, w) = shows.tasks r.item r.among in
      subst (Has live) (sym w.slot ∙ r.is)
      (has_flat (slots_of plan) s.jobs m (slot_of plan m.constants.number t.number) inm (has_map (λ (v : Task). slot_of plan m.constants.number v.number) m.progress.job.tasks t int))) in
      let down = not_more live slots (jobs_differ 1 s.jobs o.numbered (λ m h. h)) (λ n h.
      let y = has_flat_back (slots_of plan) s.jobs n h in
      let u = has_map_back (λ (v : Task). slot_of plan y.item.constants.number v.number) y.item.progress.job.tasks n y.inside in
      let (r, inr_, w) = shows.each y.item u.item y.among u.among in
      subst (Has slots) (w.slot ∙ u.is) (has_map (λ (q : TaskRow). q.slot) rows r inr_)) in
      omega (arith, up, down, slots_length plan s.jobs, length-map rows (λ (r : TaskRow). r.slot))
