-- What is read off a machine is the dump of each session that it represents.
use Rattle.std.proofs.Common.{◌≡◌, ℕ, ◌+◌, List, [], ◌∷◌, ◌++◌, map, refl, ◌∙◌, subst, arith}
use Rattle.std.specs.Prelude.{flat_map, Result, Ok, Err, ⊤, OnOk, OnErr}
use Rattle.b67_word.specs.declared.faults.Failed.{Failed}
use Rattle.b67_task.specs.declared.tables.Machine.{Machine}
use Rattle.b67_layout_shown.specs.Machines.{sight_of}
use Rattle.b67_dump.specs.Analysed.{ForEachShown}
use Rattle.b67_lemmas.specs.Lists.{Has}
use Rattle.b67_model.specs.Common.{SessionJob, Session, NumberedFrom, IsInOrderButPlaces}
use Rattle.b67_stack.specs.declared.Cpu.{Cpu}
use Rattle.b67_stack.specs.Common.{Storage}
use Rattle.b67_layout.specs.Common.{Placement, TaskRow, JobRow, JobCounts, JobsShow, TablesShow, RepresentsSession}
use Rattle.b67_layout.proofs.Weaker.{but_counts}
use Rattle.b67_task.specs.Tables.{task_row, job_row, counts_of}
use Rattle.b67_layout_shown.specs.Shown.{Sight}
use Rattle.b67_dump.specs.Dump.{tasks_text, dump_text}
use Rattle.b67_dump.specs.Walk.{jobs_dump, walk_text}
use Rattle.b67_dump.specs.Laws.{WalksAreDumps}
use Rattle.b67_dump.proofs.Walked.{job_walked}

module _ (x : Storage) (cpu : Cpu) (plan : Placement) (s : Session) (tasks : List TaskRow) (jobs : List JobRow) (c : JobCounts)
    (ordered : IsInOrderButPlaces s) (stands : RepresentsSession x cpu plan s) (tables : TablesShow plan s tasks jobs c) where
  abbrev k : Sight
  k = record { core = cpu.core; regs = cpu.regs; tasks = tasks; jobs = jobs; counts = c }

  members_walked : (n : ℕ) (ms : List SessionJob) (rows : List JobRow) → NumberedFrom n ms → JobsShow plan ms rows → ((y : SessionJob) → Has ms y → Has s.jobs y)
      → jobs_dump k n rows ≡ flat_map (λ (m : SessionJob). tasks_text m m.progress.job.tasks) ms
  members_walked n [] [] numbers shows inside = refl
  members_walked n [] (row ∷ rows) numbers shows inside = absurd shows
  members_walked n (m ∷ ms) [] numbers shows inside = absurd shows
  members_walked n (m ∷ ms) (row ∷ rows) numbers shows inside = grind (arith, job_walked, but_counts, members_walked (n + 1) ms rows numbers.1 shows.1)

  pub session_walked : walk_text k ≡ dump_text s
  unfolding walk_text dump_text
  session_walked = members_walked 1 s.jobs jobs ordered.numbered tables.jobs (λ y h. h)

pub walks_dumped : WalksAreDumps
walks_dumped x told k plan s ordered stands = session_walked x k.cpu plan s (map task_row k.tasks.rows.items) (map job_row k.tasks.jobs) (counts_of k.tasks) ordered stands.session stands.tables

-- what is said of that text is said of the dump of each session that the machine represents
pub shown_whole : (r : Result ⊤ Failed) (k : Machine) (P : List ℕ → Type 0) → OnOk r (P (walk_text (sight_of k))) → OnOk r (ForEachShown k (λ s. P (dump_text s)))
shown_whole (Ok done) k P p = λ x told plan s ordered stands. subst P (walks_dumped x told k plan s ordered stands) p
shown_whole (Err failed) k P p = tt

pub shown_part : (r : Result ⊤ Failed) (k : Machine) (P : List ℕ → Type 0) → OnErr r (P (walk_text (sight_of k))) → OnErr r (ForEachShown k (λ s. P (dump_text s)))
shown_part r h P p = grind (arith, walks_dumped)
