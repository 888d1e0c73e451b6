-- The tables show the session after a step of a ready task that calls no intrinsic.
use Rattle.std.proofs.Common.{◌≡◌, ℕ, List, [], ◌∷◌, Option, Some, None, refl, sym, ◌∙◌, ap, inl, inr, ◌⊎◌, subst, arith}
use Rattle.std.specs.Prelude.{◌==◌, if◌then◌else◌}
use Rattle.std.proofs.lemmas.Bool.{cases_Bool}
use Rattle.b67_lemmas.specs.Lists.{Has}
use Rattle.b67_lemmas.proofs.Members.{falls_same, keyed_has}
use Rattle.b67_model.specs.Common.{Frame, Condition, Ready, Task, Job, SessionJob, number_of, Session, from_frame, frames_of_task, critical_of}
use Rattle.b67_model.specs.Keyed.{keyed, change_keyed}
use Rattle.b67_layout.specs.Common.{IsInOrderButCounts, Placement, slot_of, spot_in, base_spot, outer_spots, TaskRow, JobRow, JobCounts, shown, critical_disp, TaskShows, JobsShow, TablesShow, IsRunning, with_job}
use Rattle.b67_stack.specs.Stacks.{StackPlace}
use Rattle.b67_layout.proofs.Common.{running_in_order, change-has, change-kept, IsDependedOn}
use Rattle.b67_session.proofs.Places.{At, places, IsAlike, Same, AllSame}
use Rattle.b67_session.proofs.AttemptSteps.{JobKept}

-- a spot is looked up among the places of frames
abbrev look : ℕ → StackPlace → List At → ℕ → StackPlace
look k otherwise [] id = otherwise
look k otherwise (p ∷ ps) id = if p.0 == id then record { stack = k; disp = p.1 } else look k otherwise ps id

spot_is : (k : ℕ) (outer : ℕ → StackPlace) (fs : List Frame) (id : ℕ) → spot_in k outer fs id ≡ look k (outer id) (places fs) id
spot_is k outer [] id = refl
spot_is k outer (f ∷ below) id = elim (cases_Bool (f.identity == id)) [ inl e ↦ rw e refl | inr e ↦ rw e (spot_is k outer below id) ]

spot_same : (k : ℕ) (o o' : ℕ → StackPlace) (fs gs : List Frame) (id : ℕ) → places gs ≡ places fs → o' id ≡ o id → spot_in k o' gs id ≡ spot_in k o fs id
spot_same k o o' fs gs id e eo = grind (arith, spot_is)

-- a frame is found from itself down
spot_from : (k : ℕ) (o : ℕ → StackPlace) (fs : List Frame) (c : ℕ) → spot_in k o fs c ≡ spot_in k o (from_frame c fs) c
spot_from k o [] c = refl
spot_from k o (f ∷ below) c = elim (cases_Bool (f.identity == c)) [ inl e ↦ rw e (rw e refl) | inr e ↦ rw e (spot_from k o below c) ]

-- tasks of one number
abbrev Partner : (ℕ → Type 0) → ℕ → Option Task → Option Task → Type 0
Partner D n None None = Unit {0}
Partner D n (Some u) (Some v) = Same D n u v
Partner D n _ _ = ⊥

keyed_same : (D : ℕ → Type 0) (n k : ℕ) (us vs : List Task) → AllSame D n us vs → Partner D n (keyed (λ (u : Task). u.number) k us) (keyed (λ (u : Task). u.number) k vs)
keyed_same D n k [] [] a = tt
keyed_same D n k [] (v ∷ vs) a = absurd a
keyed_same D n k (u ∷ us) [] a = absurd a
keyed_same D n k (u ∷ us) (v ∷ vs) a = grind (arith, keyed_same D n k us vs a.1)

frames_same : (D : ℕ → Type 0) (n c : ℕ) (a b : Option Task) → D c → Partner D n a b → places (from_frame c (frames_of_task b)) ≡ places (from_frame c (frames_of_task a))
frames_same h n c a b d p = grind arith

critical_same : (D : ℕ → Type 0) (n : ℕ) (a b : Option Task) → Partner D n a b → critical_of b ≡ critical_of a
critical_same h n a b p = grind arith

-- a task's partner in the other list
partner : (D : ℕ → Type 0) (n : ℕ) (us vs : List Task) → AllSame D n us vs → (u : Task) → Has us u → (v : Task) × Has vs v × Same D n u v
partner D n [] vs a u h = absurd h
partner D n (x ∷ us) [] a u h = absurd a
partner D n (x ∷ us) (v ∷ vs) a u (inl e) = (v, inl refl, subst (λ (z : Task). Same D n z v) e a.0)
partner D n (x ∷ us) (v ∷ vs) a u (inr h) = let (w, i, s) = partner D n us vs a.1 u h in (w, inr i, s)

back : (D : ℕ → Type 0) (n : ℕ) (us vs : List Task) → AllSame D n us vs → (v : Task) → Has vs v → (u : Task) × Has us u × Same D n u v
back D n [] [] a v h = absurd h
back D n [] (y ∷ vs) a v h = absurd a
back D n (u ∷ us) [] a v h = absurd a
back D n (u ∷ us) (y ∷ vs) a v (inl e) = (u, inl refl, subst (λ (z : Task). Same D n u z) e a.0)
back D n (u ∷ us) (y ∷ vs) a v (inr h) = let (w, i, s) = back D n us vs a.1 v h in (w, inr i, s)

module _ (plan : Placement) (s : Session) (m : SessionJob) (t : Task) (o : IsInOrderButCounts s) (runs : IsRunning plan s.jobs m t) (ready : t.condition ≡ Ready) (job : Job) (kept : JobKept m t job) where
  abbrev j : ℕ
  j = m.constants.number

  abbrev old : Job
  old = m.progress.job

  abbrev D : ℕ → Type 0
  D = IsDependedOn old

  abbrev after : SessionJob
  after = record m { progress = record m.progress { job = job } }

  depended : (k : ℕ) (a : Option Task) → keyed (λ (u : Task). u.number) k old.tasks ≡ a → D (critical_of a)
  depended k a e = grind (arith, keyed_has)

  -- outer spots are where they were
  outer_same : (parents : List ℕ) (c : ℕ) → D c → (id : ℕ) → outer_spots plan j job c parents id ≡ outer_spots plan j old c parents id
  outer_same [] c d id = refl
  outer_same (parent ∷ more) c d id =
      let a = keyed (λ (u : Task). u.number) parent old.tasks in
      let b = keyed (λ (u : Task). u.number) parent job.tasks in
      let p = keyed_same D t.number parent old.tasks job.tasks kept.tasks in
      let further : outer_spots plan j job (critical_of b) more id ≡ outer_spots plan j old (critical_of a) more id =
      ap (λ (z : ℕ). outer_spots plan j job z more id) (critical_same D t.number a b p) ∙ outer_same more (critical_of a) (depended parent a refl) id in
      spot_same (slot_of plan j parent) (outer_spots plan j old (critical_of a) more) (outer_spots plan j job (critical_of b) more) (from_frame c (frames_of_task a)) (from_frame c (frames_of_task b)) id
      (frames_same D t.number c a b d p) further

  disp_same : (critical : ℕ) (parents : List ℕ) → D critical → critical_disp plan j job critical parents ≡ critical_disp plan j old critical parents
  disp_same critical [] d = refl
  disp_same critical (parent ∷ more) d =
      let k = slot_of plan j parent in
      let a = keyed (λ (u : Task). u.number) parent old.tasks in
      let b = keyed (λ (u : Task). u.number) parent job.tasks in
      let p = keyed_same D t.number parent old.tasks job.tasks kept.tasks in
      ap (λ (z : StackPlace). z.disp) (spot_from k (base_spot j) (frames_of_task b) critical
      ∙ spot_same k (base_spot j) (base_spot j) (from_frame critical (frames_of_task a)) (from_frame critical (frames_of_task b)) critical (frames_same D t.number critical a b d p) refl
      ∙ sym (spot_from k (base_spot j) (frames_of_task a) critical))

  -- what a task is shown to wait for
  waits_same : (u v : Task) → D u.critical → Same D t.number u v → IsAlike u v → (c : Condition) → shown plan j job v c ≡ shown plan j old u c
  waits_same u v d s like c = grind (arith, spot_same, outer_same)

  own : (u : Task) → Has old.tasks u → u.number ≡ t.number → u ≡ t
  own u h e = falls_same (λ (u : Task). u.number) old.next_task old.tasks u t (running_in_order plan s m t o runs).0.tasks.numbers h (keyed_has (λ (u : Task). u.number) t.number old.tasks t runs.task).0 e

  state_same : (u v : Task) → Has old.tasks u → Same D t.number u v → shown plan j job v v.condition ≡ shown plan j old u u.condition
  state_same u v h s = grind (arith, own, waits_same)

  -- a row that showed a task shows it afterwards
  task_shows : (u v : Task) → Has old.tasks u → Same D t.number u v → (row : TaskRow) → TaskShows plan m u row → TaskShows plan after v row
  task_shows u v h s row r = grind (arith, disp_same, state_same)

  abbrev to : SessionJob → SessionJob
  to = λ y. record y { progress = record m.progress { job = job } }

  jobs_show : (ys : List SessionJob) (rows : List JobRow) → keyed number_of j ys ≡ Some m → JobsShow plan ys rows → JobsShow plan (change_keyed number_of j to ys) rows
  jobs_show [] rows e shows = absurd cc
  jobs_show (y ∷ ys) [] e shows = absurd shows
  jobs_show (y ∷ ys) (row ∷ rows) e shows = grind (arith, jobs_show ys rows)

  pub tables_after : (rows : List TaskRow) (job_rows : List JobRow) (c : JobCounts) → TablesShow plan s rows job_rows c → TablesShow plan (with_job s m job) rows job_rows c
  tables_after rows job_rows c shows = record {
    tasks = λ row h. let (y, u, iny, inu, r) = shows.tasks row h in
        row_after row y u iny inu r (change-kept number_of j to s.jobs m runs.member y iny);
    each = λ y v iny inv. each_after y v inv (change-has number_of j to s.jobs m runs.member y iny);
    once = shows.once;
    jobs = jobs_show s.jobs job_rows runs.member shows.jobs;
    counts = (let k = shows.counts in record { quantum = k.quantum; made = k.made; turn = k.turn; last_job = k.last_job; last_number = k.last_number; switches = k.switches; next = k.next; past = k.past; running = k.running });
  } where
    row_after : (row : TaskRow) (y : SessionJob) (u : Task) → Has s.jobs y → Has y.progress.job.tasks u → TaskShows plan y u row
        → Has (with_job s m job).jobs y ⊎ ((y ≡ m) × Has (with_job s m job).jobs after)
        → (z : SessionJob) × (v : Task) × Has (with_job s m job).jobs z × Has z.progress.job.tasks v × TaskShows plan z v row
    row_after row y u iny inu r (inl k) = (y, u, k, inu, r)
    row_after row y u iny inu r (inr (e, k)) =
        let inm : Has old.tasks u = subst (λ (z : SessionJob). Has z.progress.job.tasks u) e inu in
        let (v, inv, same) = partner D t.number old.tasks job.tasks kept.tasks u inm in
        (after, v, k, inv, task_shows u v inm same row (subst (λ (z : SessionJob). TaskShows plan z u row) e r))

    each_after : (y : SessionJob) (v : Task) → Has y.progress.job.tasks v → Has s.jobs y ⊎ (y ≡ after) → (row : TaskRow) × Has rows row × TaskShows plan y v row
    each_after y v inv (inl k) = shows.each y v k inv
    each_after y v inv (inr e) =
        let ina : Has job.tasks v = subst (λ (z : SessionJob). Has z.progress.job.tasks v) e inv in
        let (u, inu, same) = back D t.number old.tasks job.tasks kept.tasks v ina in
        let (row, inr_, r) = shows.each m u (keyed_has number_of j s.jobs m runs.member).0 inu in
        (row, inr_, subst (λ (z : SessionJob). TaskShows plan z v row) (sym e) (task_shows u v inu same row r))
