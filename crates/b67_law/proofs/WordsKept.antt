-- What a whole step leaves in the frames of its job's live tasks.
use Rattle.std.proofs.Common.{◌≡◌, ℕ, ◌+◌, Bool, true, false, eqb, List, [], ◌∷◌, Option, Some, None, Ok, Err, refl, subst, inl, inr, ◌⊎◌, arith}
use Rattle.b67_word.specs.declared.couples.Place.{Place}
use Rattle.b67_word.specs.declared.faults.Ending.{Ending}
use Rattle.b67_word.specs.declared.faults.Ending.TheVariants.{Ended, Deadlock, Limit, Faulted}
use Rattle.b67_model.specs.declared.operators.Op.{Op}
use Rattle.b67_model.specs.Common.{Answer, Word, Frame, Standing, Task, JobConstants, Job, JobProgress, with_task, called, Line, Done, Goes, Leaves, Waits, Reading, row, reading_of, step_by, step, Settled, among, ends_all, ends_task, ends_each_if, unsettled, settles, stepped, by_task, step_of}
use Rattle.b67_model.specs.Keyed.{keyed, change_keyed}
use Rattle.b67_lemmas.specs.Lists.{Has}
use Rattle.b67_lemmas.proofs.Members.{has_filter, has_map_back, keyed_has}
use Rattle.b67_law.proofs.Kept.{here}
use Rattle.b67_law.specs.Made.{OperatorMakes, MakesMark, StandsIn}
use Rattle.b67_law.proofs.MadeRows.{each_row_makes_its_words}

-- an item of a list with one item changed
pub record Changed {A : Type 0} (key : A → ℕ) (n : ℕ) (change : A → A) (xs : List A) (x : A) : Type 0 where
  pub item : A
  pub live : Has xs item
  pub named : key item ≡ n
  pub is : change item ≡ x

pub has_changed : {A : Type 0} (key : A → ℕ) (n : ℕ) (change : A → A) (xs : List A) (x : A) → Has (change_keyed key n change xs) x → Changed key n change xs x ⊎ Has xs x
has_changed key n change [] x h = absurd h
has_changed key n change (y ∷ ys) x h = grind (arith, has_changed key n change ys x)

-- the row of a step that goes on
pub record StepRow (constants : JobConstants) (job : Job) (task : Task) (done : Done) : Type 0 where
  pub op : Op
  pub next : Place
  pub reads : reading_of constants task ≡ Ok (op, next)
  pub row_is : row op (here constants job task next) ≡ Ok done

step_row : (constants : JobConstants) (job : Job) (task : Task) (done : Done) → step constants job task ≡ Ok done → StepRow constants job task done
unfolding step
step_row constants job task done e = by (reading_of constants task) refl e
  where
    by : (r : Reading) → reading_of constants task ≡ r → step_by constants job task r ≡ Ok done → StepRow constants job task done
    by (Err why) is f = absurd (let z : ⊥ = cc in z)
    by (Ok read) is f = record { op = read.0; next = read.1; reads = is; row_is = f }

module _ (W : Word → Type 0) (M : ℕ → Standing → Type 0) where
  abbrev pub FramesMade : List Frame → Type 0
  FramesMade frames = (f : Frame) → Has frames f → ((w : Word) → Has f.cells w → W w) × M f.identity f.standing

  abbrev pub TasksMade : List Task → Type 0
  TasksMade tasks = (t : Task) → Has tasks t → FramesMade t.frames

  -- what an operator makes is so made
  pub record Maker (op : Op) (call : Option ℕ) : Type 0 where
    pub words : (w : Word) → OperatorMakes op call w → W w
    pub marks : (identity : ℕ) (standing : Standing) → MakesMark op call standing → M identity standing

  ends_kept : (s : Settled) (endings : List (ℕ × Ending)) → TasksMade s.job.tasks → TasksMade (ends_all s endings).job.tasks
  ends_kept s endings all t h = grind (arith, has_map_back, has_filter)

  each_kept : (test : Bool) (ending : Ending) (s : Settled) → TasksMade s.job.tasks → TasksMade (ends_each_if test ending s).job.tasks
  each_kept true ending s all = ends_kept s _ all
  each_kept false ending s all = all

  task_kept : (job : Job) (number : ℕ) (ending : Ending) → TasksMade job.tasks → TasksMade (ends_task job number ending).job.tasks
  task_kept job number ending all = ends_kept (unsettled job) _ all

  -- a task that waits has the frames that it had
  with_kept : (job : Job) (task new : Task) → new.frames ≡ task.frames → Has job.tasks task → TasksMade job.tasks → TasksMade (with_task job new).tasks
  with_kept job task new same live all t h = grind (arith, has_changed)

  settles_kept : (job : Job) (task : Task) (a : Answer Done) → Has job.tasks task → TasksMade job.tasks →
      ((after : Job) (printed : List Line) (touched : Option ℕ) → a ≡ Ok (Goes after printed touched) → TasksMade after.tasks) → TasksMade (settles job task a).settled.job.tasks
  settles_kept job task (Ok (Goes after printed touched)) live all goes = each_kept _ Deadlock (unsettled after) (goes after printed touched refl)
  settles_kept job task (Ok (Waits condition)) live all goes =
      each_kept _ Deadlock (unsettled (with_task job (record task { condition = condition }))) (with_kept job task (record task { condition = condition }) refl live all)
  settles_kept job task (Ok Leaves) live all goes = each_kept _ Deadlock (ends_task job task.number Ended) (task_kept job task.number Ended all)
  settles_kept job task (Err fault) live all goes = each_kept _ Deadlock (ends_task job task.number (Faulted fault)) (task_kept job task.number (Faulted fault) all)

  row_kept : (constants : JobConstants) (job : Job) (task : Task) (after : Job) (printed : List Line) (touched : Option ℕ) → Has job.tasks task → TasksMade job.tasks →
      (r : StepRow constants job task (Goes after printed touched)) → Maker r.op (called r.op (here constants job task r.next)) → TasksMade after.tasks
  row_kept constants job task after printed touched live all r maker t h f among =
      let stands : StandsIn after.tasks f = record { task = t; live = h; among = among } in
      let made = each_row_makes_its_words r.op (here constants job task r.next) task after printed touched live refl r.row_is f stands in (
        λ w has. elim (made.words w has) [
          | inl old ↦ (all old.stands.task old.stands.live old.frame old.stands.among).0 w old.among
          | inr new ↦ maker.words w new
        ],
        elim made.mark [
          | inl old ↦
              let same : M old.frame.identity old.frame.standing = (all old.stands.task old.stands.live old.frame old.stands.among).1 in
              subst (λ s. M f.identity s) old.standing_is (subst (λ i. M i old.frame.standing) old.identity_is same)
          | inr new ↦ maker.marks f.identity f.standing new
        ],
      )

  stepped_kept : (constants : JobConstants) (job : Job) (task : Task) → Has job.tasks task → TasksMade job.tasks →
      ((op : Op) (next : Place) → reading_of constants task ≡ Ok (op, next) → Maker op (called op (here constants job task next))) → TasksMade (stepped constants job task).settled.job.tasks
  unfolding stepped
  stepped_kept constants job task live all makers = settles_kept job task (step constants job task) live all (λ after printed touched e.
      let r = step_row constants job task (Goes after printed touched) e in
      row_kept constants job task after printed touched live all r (makers r.op r.next r.reads))

  -- a whole step of a job
  pub step_kept : (constants : JobConstants) (c : JobProgress) (number : ℕ) → TasksMade c.job.tasks →
      ((task : Task) (op : Op) (next : Place) → keyed (λ t. t.number) number c.job.tasks ≡ Some task → reading_of constants task ≡ Ok (op, next) → Maker op (called op (here constants c.job task next))) →
      TasksMade (step_of constants c number).progress.job.tasks
  unfolding step_of
  step_kept constants c number all makers = by (keyed (λ t. t.number) number c.job.tasks) refl
    where
      by : (o : Option Task) → keyed (λ t. t.number) number c.job.tasks ≡ o → TasksMade (by_task constants c o).progress.job.tasks
      by None e = all
      by (Some task) e =
          each_kept (eqb (c.made + 1) constants.limit) Limit (stepped constants c.job task).settled
          (stepped_kept constants c.job task (keyed_has (λ t. t.number) number c.job.tasks task e).0 all (λ op next reads. makers task op next e reads))
