-- The row of a job's first task, with which all its tasks end.
use Rattle.std.proofs.Common.{◌≡◌, ◌≢◌, ◌<◌, ◌≤◌, ◌+◌, ◌⊎◌, ℕ, true, List, [], length, map, Option, Some, sym, ap, ◌∙◌, subst, arith, get_or}
use Rattle.std.specs.Prelude.{◌==◌}
use Rattle.b67_word.specs.declared.faults.Ending.{Ending}
use Rattle.b67_word.specs.declared.faults.Ending.TheVariants.{Limit}
use Rattle.b67_lemmas.specs.Lists.{Has}
use Rattle.b67_lemmas.proofs.Members.{all_in, has_get, has_map_back}
use Rattle.b67_lemmas.proofs.Places.{at_mapped, has_at}
use Rattle.std.specs.List.{slice_get}
use Rattle.std.proofs.lemmas.Option.{same_Some, get_or_from_slice_get, slice_get-get_or, slice_get_within}
use Rattle.b67_model.specs.Common.{Task, Job, SessionJob, ends_each_if, ends_task, unsettled, IsSegment, TasksInOrder, number_of, Session}
use Rattle.b67_model.specs.Keyed.{keyed}
use Rattle.b67_law.proofs.Numbered.{keyed_member}
use Rattle.b67_law.proofs.FirstTasks.{first_lives, first_emptied, each_emptied}
use Rattle.b67_stack.specs.Represents.{Storage}
use Rattle.b67_layout.specs.Common.{with_job, JobInOrderButCounts, IsInOrderButCounts, Placement, TaskShows}
use Rattle.b67_layout.specs.Rows as rows
use Rattle.b67_task.specs.declared.tables.TaskRow.{TaskRow}
use Rattle.b67_task.specs.declared.tables.Machine.{Machine}
use Rattle.b67_task.specs.Tables.{task_row, MachineRepresents}
use Rattle.b67_task.specs.RowOf.{IsRowOf}
use Rattle.b67_task.specs.Family.{TablesHold, HasSomeRow, endings_of}
use Rattle.b67_session.specs.Ends.{StandsInPlace, IsFirstRow, IsFamilyOf, EndsFamily}

module _ (x : Storage) (told : Option (List (List ℕ))) (k : Machine) (plan : Placement) (s : Session) (m : SessionJob) (o : IsInOrderButCounts s) (h : MachineRepresents x told k plan s) (among : Has s.jobs m) where
  order : TasksInOrder (IsSegment m.constants) m.constants m.progress.job
  order = (all_in (λ (y : SessionJob). JobInOrderButCounts (IsSegment y.constants) y.constants y.progress) s.jobs m o.jobs among).tasks

  -- where a task of the job lives there is one
  pub has_first : m.progress.job.tasks ≢ [] → (at : ℕ) × IsFirstRow k.tasks.rows.items m.constants.number at
  has_first some =
      let (u, inu, one) = first_lives (IsSegment m.constants) m.constants m.progress.job order some in
      let (row, inrow, w) = h.tables.each m u among inu in
      let back = has_map_back task_row k.tasks.rows.items row inrow in
      let (at, there) = has_at k.tasks.rows.items back.item back.among in
      (at, record { row = back.item; there = there; of_job = ap (λ (r : rows.TaskRow). r.job) back.is ∙ w.job; first = ap (λ (r : rows.TaskRow). r.number) back.is ∙ w.number ∙ one })

  -- and it is this task's
  pub record FirstOf (at : ℕ) : Type 0 where
    pub task : Task
    pub one : task.number ≡ 1
    pub row : IsRowOf plan s k.tasks.rows.items at m task

  pub first_of : (at : ℕ) → IsFirstRow k.tasks.rows.items m.constants.number at → FirstOf at
  first_of at f =
      let shown : slice_get (map task_row k.tasks.rows.items) at ≡ Some (task_row f.row) = at_mapped task_row k.tasks.rows.items at f.row f.there in
      let (y, u, iny, inu, w) = h.tables.tasks (task_row f.row) (has_get (map task_row k.tasks.rows.items) at (task_row f.row) shown) in
      let number : y.constants.number ≡ m.constants.number = sym w.job ∙ f.of_job in
      let same : y ≡ m = same_Some y m (sym (subst (λ (n : ℕ). keyed number_of n s.jobs ≡ Some y) number (keyed_member 1 s.jobs y o.numbered iny)) ∙ keyed_member 1 s.jobs m o.numbered among) in
      record {
        task = u;
        one = sym w.number ∙ f.first;
        row = record {
          row = f.row;
          there = f.there;
          member = among;
          task = subst (λ (z : SessionJob). Has z.progress.job.tasks u) same inu;
          shows = subst (λ (z : SessionJob). TaskShows plan z u (task_row f.row)) same w;
        };
      }

  pub holds : TablesHold plan s k.tasks
  holds = record { ordered = o; fits = h.session.holds.fits.rows; few = h.session.holds.fits.few; shows = h.tables }

  module _ (at : ℕ) (f : IsFirstRow k.tasks.rows.items m.constants.number at) where
    pub has_row : HasSomeRow k.tasks at
    has_row = let g = first_of at f in record { plan = plan; session = s; job_of = m; task = g.task; holds = holds; row = g.row }

    -- by who is said to end with it
    module _ (job : ℕ) (number : m.constants.number ≡ job) (endings : List (ℕ × Ending))
        (listed : (plan : Placement) (s : Session) (m : SessionJob) (t : Task) → TablesHold plan s k.tasks → IsRowOf plan s k.tasks.rows.items at m t → endings ≡ endings_of m.progress.job t.number Limit) where
      pub is_family : IsFamilyOf x told k plan s m (first_of at f).task at job Limit endings
      is_family = let g = first_of at f in record { ordered = o; stands = h; at = g.row; number = number; listed = listed plan s m g.task holds g.row }

      pub ends_family : EndsFamily k at job endings
      ends_family = record { storage = x; told = told; plan = plan; session = s; member = m; task = (first_of at f).task; ending = Limit; family = is_family }

      -- once it has ended, all have
      pub all_ended : (new : Machine)
          → ((x : Storage) (told : Option (List (List ℕ))) (plan : Placement) (s : Session) (m : SessionJob) (t : Task) (ending : Ending) → IsFamilyOf x told k plan s m t at job ending endings → StandsInPlace x told new plan s (with_job s m (ends_task m.progress.job t.number ending).job))
          → StandsInPlace x told new plan s (with_job s m (ends_each_if true Limit (unsettled m.progress.job)).job)
      all_ended new ends =
          let g = first_of at f in
          let same : (ends_task m.progress.job g.task.number Limit).job ≡ (ends_each_if true Limit (unsettled m.progress.job)).job =
          ap (λ (n : ℕ). (ends_task m.progress.job n Limit).job) g.one ∙ first_emptied (IsSegment m.constants) m.constants m.progress.job order Limit
          ∙ sym (each_emptied (IsSegment m.constants) m.constants m.progress.job order Limit) in
          subst (λ (j : Job). StandsInPlace x told new plan s (with_job s m j)) same (ends x told plan s m g.task Limit is_family)

-- a row that is read
pub read_row : (rs : List TaskRow) (job at i : ℕ) (d : TaskRow) → at ≡ i → IsFirstRow rs job i → ((get_or rs at d).job ≡ job) × ((get_or rs at d).number ≡ 1)
read_row rs job at i d same f = grind (arith, get_or_from_slice_get)

pub first_read : (rs : List TaskRow) (job at : ℕ) (d : TaskRow) → at < length rs → (get_or rs at d).job ≡ job → (get_or rs at d).number ≡ 1 → IsFirstRow rs job at
first_read rs job at d low of_job first = record { row = get_or rs at d; there = slice_get-get_or rs at d low; of_job = of_job; first = first }

pub none_past : (rs : List TaskRow) (job at i : ℕ) → IsFirstRow rs job i → at ≤ i → length rs ≤ at → ⊥
none_past rs job at i f low past = omega (arith, low, past, slice_get_within rs i f.row f.there)

-- the same rows, and the same number
pub first_as : (rs qs : List TaskRow) (n job at : ℕ) → rs ≡ qs → n ≡ job → IsFirstRow rs n at → IsFirstRow qs job at
first_as rs qs n job at same number f = subst (λ (ys : List TaskRow). IsFirstRow ys job at) same (subst (λ (k : ℕ). IsFirstRow rs k at) number f)

pub next_low : (at i : ℕ) → at ≤ i → (at ≡ i → ⊥) → at + 1 ≤ i
next_low at i low other = grind arith

pub other_number : (rs : List TaskRow) (job at i : ℕ) (d : TaskRow) → IsFirstRow rs job i → (get_or rs at d).number ≢ 1 → at ≡ i → ⊥
other_number rs job at i d f other same = other (read_row rs job at i d same f).1

pub other_job : (rs : List TaskRow) (job at i : ℕ) (d : TaskRow) → IsFirstRow rs job i → (get_or rs at d).job ≢ job → at ≡ i → ⊥
other_job rs job at i d f other same = other (read_row rs job at i d same f).0
