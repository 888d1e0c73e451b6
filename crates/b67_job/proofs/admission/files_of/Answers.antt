use Rattle.std.proofs.Common.{ℕ, ◌+◌, length, ap, ◌∙◌}
use Rattle.std.proofs.lemmas.List.{length_push}
use Rattle.b67_job.proofs.Behind.{turn, all_done}
use Rattle.b67_job.proofs.admission.files_of.Goals as goal

pub jobs-preserved : goal.jobs-preserved
jobs-preserved c =
    let t = turn c.args.jobs.now c.jobs.job-index c.job-item.result c.jobs.files.items _ c.in_ok-file.file c.jobs-test.true c.job-item.is c.in_ok-file.ensures.answer c.in_ok-file.ensures.within c.in-Ok.ensures.items c.jobs.invariant.0 c.jobs.invariant.2 in
    (t.0, ap length c.in-Ok.ensures.items ∙ length_push c.jobs.files.items c.in_ok-file.file ∙ ap (λ (n : ℕ). n + 1) c.jobs.invariant.1, t.1)

pub returns-clause-answer : goal.returns-clause-answer
returns-clause-answer c = all_done c.args.jobs.now c.jobs.job-index c.jobs.files.items c.jobs-test.false c.jobs.invariant.2
