use Rattle.std.proofs.Common.{◌≡◌, ◌++◌, length, map}
use Rattle.b67_codefile.specs.Meaning.{program_of}
use Rattle.b67_job.specs.Verdicts.{job_lines}
use Rattle.b67_job.proofs.check.text_of.Given as goal

abbrev pub invariant-job : goal.invariant-job
invariant-job l = job_lines l.fn.jobs (map program_of l.fn.programs) ≡ l.text ++ job_lines l.jobs (map program_of l.programs)

abbrev pub decreases-job : goal.decreases-job
decreases-job l = length l.jobs
