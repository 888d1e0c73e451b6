-- A task ends with those under it: whose registers are in use doesn't matter.
use Rattle.std.proofs.Common.{◌≡◌, ℕ, List, [], ◌∷◌, map, Option, refl, sym, ap, ◌∙◌, subst, inl, inr}
use Rattle.std.proofs.lemmas.Option.{slice_get_within}
use Rattle.b67_word.specs.declared.faults.Ending.{Ending}
use Rattle.b67_lemmas.specs.Lists.{Has}
use Rattle.b67_lemmas.proofs.Members.{all_in, has_append_right, has_filter_in, has_map}
use Rattle.b67_stack.specs.MachineView.{PagedObject}
use Rattle.b67_model.specs.Common.{Task, SessionJob, among, descendants, ends_task, IsSegment, TasksInOrder, Session}
use Rattle.b67_stack.specs.Represents.{Storage}
use Rattle.b67_layout.specs.Common.{with_job, JobInOrderButCounts, Placement}
use Rattle.b67_task.specs.declared.tables.Tasks.{Tasks}
use Rattle.b67_task.specs.declared.tables.Machine.{Machine}
use Rattle.b67_task.specs.Tables.{MachineRepresents}
use Rattle.b67_task.specs.Turns.{with_running}
use Rattle.b67_task.proofs.Replans.{objects-replan}
use Rattle.b67_task.specs.Standing.{HasRow}
use Rattle.b67_task.specs.RowOf.{IsRowOf}
use Rattle.b67_task.specs.Family.{TablesHold, endings_of}
use Rattle.b67_task.proofs.Under.{deepest}
use Rattle.b67_task.specs.Deaths.{ending_numbers, without_tasks, job_after_endings, StandsWith, MayEnd, EndsSome, LeavesInPlace, HasEnded}
use Rattle.b67_task.proofs.Family.{among_has, family, family_numbers, family_turn}
use Rattle.b67_task.specs.Families.{StandsInPlace, IsFamilyOf}

-- the same tables, but for the rows and the one that runs
same_running : (old new : Tasks) (k : ℕ) → new ≡ record old { rows = new.rows; running = k } → new ≡ record old { rows = new.rows; running = new.running }
same_running old new k e = e ∙ ap (λ (n : ℕ). record old { rows = new.rows; running = n }) (sym (ap (λ (z : Tasks). z.running) e))

pub both_running : (old mid new : Tasks) (i k : ℕ) → mid ≡ record old { rows = mid.rows; running = i } → new ≡ record mid { rows = new.rows; running = k } → new ≡ record old { rows = new.rows; running = new.running }
both_running old mid new i k e f = same_running mid new k f ∙ ap (λ (z : Tasks). record z { rows = new.rows; running = new.running }) e

-- a list that is lent
pub lent_list : (tasks : Tasks) (row : ℕ) (ending : Ending) (items slice : List (ℕ × Ending))
    → ((plan : Placement) (s : Session) (m : SessionJob) (t : Task) → TablesHold plan s tasks → IsRowOf plan s tasks.rows.items row m t → items ≡ endings_of m.progress.job t.number ending)
    → slice ≡ items → (plan : Placement) (s : Session) (m : SessionJob) (t : Task) → TablesHold plan s tasks → IsRowOf plan s tasks.rows.items row m t → slice ≡ endings_of m.progress.job t.number ending
lent_list tasks row ending items slice shows lent plan s m t h at = lent ∙ shows plan s m t h at

module _ (x : Storage) (told : Option (List (List ℕ))) (k : Machine) (plan : Placement) (s : Session) (m : SessionJob) (t : Task) (row job : ℕ) (ending : Ending) (endings : List (ℕ × Ending)) (f : IsFamilyOf x told k plan s m t row job ending endings) where
  pub has_row : HasRow k row
  has_row = record { storage = x; told = told; plan = plan; session = s; ordered = f.ordered; stands = f.stands; inside = slice_get_within k.tasks.rows.items row f.at.row f.at.there }

  order : TasksInOrder (IsSegment m.constants) m.constants m.progress.job
  order = (all_in (λ (y : SessionJob). JobInOrderButCounts (IsSegment y.constants) y.constants y.progress) s.jobs m f.ordered.jobs f.at.member).tasks

  abbrev todo : List Task
  todo = family (IsSegment m.constants) m.constants m.progress.job order t f.at.task

  named : map (λ (u : Task). u.number) todo ≡ ending_numbers endings
  named = family_numbers (IsSegment m.constants) m.constants m.progress.job order t f.at.task ending ∙ sym (ap ending_numbers f.listed)

  its_own : Has (ending_numbers endings) t.number
  its_own = subst (λ (ns : List ℕ). Has ns t.number) named (has_map (λ (u : Task). u.number) todo t (has_append_right (deepest 15 (descendants m.progress.job t.number)) (t ∷ []) t (inl refl)))

  -- its registers are in use
  module _ (mid : Machine) (stands : MachineRepresents x told mid (with_running plan f.at.row.slot) s) where
    abbrev turned : Placement
    turned = with_running plan f.at.row.slot

    pub with_tables : StandsWith mid mid.tasks x told turned s
    with_tables = record { same = record { rows = refl; running = refl }; ordered = f.ordered; stands = stands }

    pub may : MayEnd turned s m (ending_numbers endings)
    may = record {
      member = f.at.member;
      todo = todo;
      named = named;
      turn = family_turn (IsSegment m.constants) m.constants m.progress.job order t f.at.task;
      stopped = inr (t, has_filter_in (λ (u : Task). among (ending_numbers endings) u.number) m.progress.job.tasks t f.at.task (among_has (ending_numbers endings) t.number its_own), sym f.at.shows.slot);
    }

    pub ends_some : EndsSome mid job (ending_numbers endings)
    ends_some = record { tables = mid.tasks; storage = x; told = told; plan = turned; session = s; job_of = m; stands = with_tables; may = may; number = f.number }

    pub ended_stands : (new : Machine) → HasEnded mid.tasks x told turned s m endings new → new.tasks ≡ record mid.tasks { rows = new.tasks.rows; running = 255 } → StandsInPlace x told new plan s (with_job s m (ends_task m.progress.job t.number ending).job)
    ended_stands new e tasks =
        let after : Placement = without_tasks turned m.constants.number (ending_numbers endings) in
        let T : Tasks → Type 0 = λ z. MachineRepresents e.storage told (record new { tasks = z }) after (with_job s m (job_after_endings m.progress.job endings)) in
        let J : List (ℕ × Ending) → Type 0 = λ l. MachineRepresents e.storage told new after (with_job s m (job_after_endings m.progress.job l)) in
        let L : List (ℕ × Ending) → Type 0 = λ l. LeavesInPlace x e.storage plan after s (with_job s m (job_after_endings m.progress.job l)) in
        let were : LeavesInPlace x e.storage plan after s (with_job s m (job_after_endings m.progress.job endings)) = record { were = λ u i. subst (λ (us : List PagedObject). Has us u) (objects-replan plan f.at.row.slot s.jobs) (e.left.were u i); held = e.left.held } in
        record { whole = record { storage = e.storage; plan = after; stands = subst J f.listed (subst T (sym (same_running mid.tasks new.tasks 255 tasks)) e.stands) }; left = subst L f.listed were }
