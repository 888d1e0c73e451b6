-- The marks in the stack of a slot, and the rows whose tasks depend on them.
use Rattle.std.specs.Prelude.{◌≡◌, ℕ, ◌==◌, ◌&&◌, ◌⊎◌, Bool, List, [], ◌∷◌}
use Rattle.b67_lemmas.specs.Lists.{Has}
use Rattle.b67_model.specs.Common.{Frame, Task, SessionJob, height, Session}
use Rattle.b67_layout.specs.Placement.{Placement, slot_of}
use Rattle.b67_task.specs.declared.tables.TaskRow.{TaskRow}

-- the mark of a frame stands at this height: the words of the frames below it
abbrev pub MarkStandsAt : List Frame → Frame → ℕ → Type 0
MarkStandsAt [] f mark = ⊥
MarkStandsAt (g ∷ below) f mark = ((g ≡ f) × (mark ≡ height below)) ⊎ MarkStandsAt below f mark

-- the mark of a frame of a live task stands at this displacement of a slot's stack
pub record IsMarkAt (plan : Placement) (s : Session) (m : SessionJob) (t : Task) (f : Frame) (slot mark : ℕ) : Type 0 where
  pub member : Has s.jobs m
  pub live : Has m.progress.job.tasks t
  pub stack : slot ≡ slot_of plan m.constants.number t.number
  pub stands : MarkStandsAt t.frames f mark

-- the row's task depends on this mark of a slot
abbrev pub depends_on : ℕ → ℕ → TaskRow → Bool
depends_on slot mark r = (r.parent == slot) && (r.critical == mark)
