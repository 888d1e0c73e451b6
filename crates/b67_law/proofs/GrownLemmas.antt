-- Identities only grow: from the rows to whole steps.
use Rattle.std.proofs.Common.{ℕ, Bool, List, Ok, Err, arith, true, false}
use Rattle.b67_word.specs.declared.faults.Ending.{Ending}
use Rattle.b67_model.specs.Common.{Answer, Task, JobConstants, Job, JobProgress, Done, read, reading_of, step_by, step, Reading, Settled, ends_all, ends_each_if, settles, stepped, step_of, with_task, Goes, Leaves, Waits, ends_task, unsettled}
use Rattle.b67_model.specs.Alone.{whole}
use Rattle.b67_law.specs.Grown.{Grown, StepsGrow}
use Rattle.b67_law.proofs.Posts.{Post, post_err}
use Rattle.b67_law.proofs.Identities.{Grown as RowGrown, Keeps, row_good}
use Rattle.b67_word.specs.declared.faults.Ending.TheVariants.{Ended, Faulted}

-- a row's law, as what a job's law says
of_row : {a b : Job} → RowGrown a b → Grown a b
of_row g = record { frames = g.frames; arrays = g.arrays; tasks = g.tasks }

same : (job : Job) → Grown job job
same job = record { frames = omega arith; arrays = omega arith; tasks = omega arith }

-- the endings of a step take no identity back
ends_grown : (s : Settled) (endings : List (ℕ × Ending)) → Grown s.job (ends_all s endings).job
ends_grown s endings = record { frames = omega arith; arrays = omega arith; tasks = omega arith }

grown_on : {a b c : Job} → Grown a b → Grown b c → Grown a c
grown_on first second = grind arith

each_grown : (test : Bool) (ending : Ending) (s : Settled) → Grown s.job (ends_each_if test ending s).job
each_grown true ending s = ends_grown s _
each_grown false ending s = same s.job

settles_grown : (job : Job) (task : Task) (answer : Answer Done) → Post (Keeps job) answer → Grown job (settles job task answer).settled.job
settles_grown job task (Ok (Goes after printed touched)) good = grown_on (of_row good.by) (each_grown _ _ (unsettled after))
settles_grown job task (Ok (Waits condition)) good =
    let after : Job = with_task job (record task { condition = condition }) in
    grown_on (record { frames = omega arith; arrays = omega arith; tasks = omega arith }) (each_grown _ _ (unsettled after))
settles_grown job task (Ok Leaves) good = grown_on (ends_grown (unsettled job) _) (each_grown _ _ (ends_task job task.number Ended))
settles_grown job task (Err fault) good = grown_on (ends_grown (unsettled job) _) (each_grown _ _ (ends_task job task.number (Faulted fault)))

step_good : (constants : JobConstants) (job : Job) (task : Task) → Post (Keeps job) (step constants job task)
unfolding step
step_good constants job task = read_good_of (reading_of constants task)
  where
    read_good_of : (read : Reading) → Post (Keeps job) (step_by constants job task read)
    read_good_of (Err undecodable) = post_err (Keeps job) _
    read_good_of (Ok read) = row_good read.0 _

stepped_grown : (constants : JobConstants) (job : Job) (task : Task) → Grown job (stepped constants job task).settled.job
unfolding stepped
stepped_grown constants job task = settles_grown job task (step constants job task) (step_good constants job task)

whole_grown : (constants : JobConstants) (c : JobProgress) (task : Task) → Grown c.job (whole constants c task).progress.job
whole_grown constants c task = grown_on (stepped_grown constants c.job task) (each_grown _ _ (stepped constants c.job task).settled)

pub steps_grow : StepsGrow
unfolding step_of
steps_grow constants c number = grind (arith, whole_grown)
