-- What holds of each live task, by its row.
use Rattle.std.proofs.Common.{◌≡◌, ℕ, ◌+◌, ◌-◌, sym, ◌∙◌, ap, subst, arith}
use Rattle.std.specs.List.{slice_get}
use Rattle.std.proofs.lemmas.Option.{same_Some}
use Rattle.b67_lemmas.specs.Lists.{Has}
use Rattle.b67_model.specs.Common.{Task, SessionJob}
use Rattle.b67_layout.specs.Rows.{TaskRow, JobRow}
use Rattle.b67_layout_shown.specs.Shown.{Sight, task_in, member_in, shown}
use Rattle.b67_image_shape.specs.TableFacts.{TableFacts}
use Rattle.b67_image_shape.specs.Items.{EachTask}
use Rattle.b67_image_shape.proofs.Rows.{of_row, row_fact, row_back, each_at, each_from}

module _ (k : Sight) (facts : TableFacts k) (P : JobRow → ℕ → TaskRow → Type 0) where
  pub each_task : ((r : TaskRow) (h : Has k.tasks r) → P (of_row k facts r h).row r.job r) → EachTask k P
  each_task f = each_from (λ job row. (r : TaskRow) → Has k.tasks r → r.job ≡ job → P row job r) 1 k.jobs (λ i row e r h ej.
      let o = of_row k facts r h in
      let at : r.job - 1 ≡ i = omega (arith, ej) in
      let same : o.row ≡ row = same_Some o.row row (sym o.found ∙ ap (slice_get k.jobs) at ∙ e) in
      subst (λ j. P row j r) ej (subst (λ (w : JobRow). P w r.job r) same (f r h)))

  pub task_at : EachTask k P → (r : TaskRow) (h : Has k.tasks r) → P (of_row k facts r h).row r.job r
  task_at each r h = grind (arith, of_row, row_fact, each_at)

-- what holds of each row's job and task holds of each job and task
pub by_row : (k : Sight) (facts : TableFacts k) (P : SessionJob → Task → Type 0) → ((r : TaskRow) (h : Has k.tasks r) → P (member_in k (of_row k facts r h).row r.job) (task_in k (of_row k facts r h).row r.job r))
    → (m : SessionJob) (t : Task) → Has (shown k).jobs m → Has m.progress.job.tasks t → P m t
by_row k facts P f m t hm ht =
    let b = row_back k facts m t hm ht in
    let o = of_row k facts b.r b.there in
    grind (arith, same_Some)
