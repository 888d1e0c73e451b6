use Rattle.std.proofs.Common.{◌≡◌, ◌++◌, map, drop, length}
use Rattle.std.specs.List.{AllByRecursion}
use Rattle.b67_codefile.specs.Spelling.{IsWithin}
use Rattle.b67_codefile.specs.Meaning.{program_of}
use Rattle.b67_job.specs.Admitting.{admitted}
use Rattle.b67_job.proofs.admission.admitted_all.Given as goal

abbrev pub invariant-jobs : goal.invariant-jobs
invariant-jobs l =
    AllByRecursion IsWithin l.files.items
    × (length l.files.items ≡ length (drop l.job-index l.jobs))
    × (l.programs ++ l.files.items ≡ l.fn.files.items)
    × (admitted l.jobs (map program_of l.fn.files.items) ≡ admitted (drop l.job-index l.jobs) (map program_of l.files.items))
