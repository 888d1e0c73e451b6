-- A call of an intrinsic that answers with a word.
use Rattle.std.specs.Prelude.{ℤ, List, [], ◌∷◌}
use Rattle.b67_word.specs.declared.couples.Place.{Place}
use Rattle.b67_model.specs.Common.{Word, Task, Job, SessionJob, with_task, answered}
use Rattle.b67_layout.specs.Meets.{here}

-- the job without the call, whose task goes on at a place with a word on the frame below, and which has these numbers
-- left to read
abbrev pub job_answered : SessionJob → Task → Word → Place → List ℤ → Job
job_answered m t w next numbers = with_task (record m.progress.job { numbers = numbers }) (answered (here m t next) (w ∷ []))
