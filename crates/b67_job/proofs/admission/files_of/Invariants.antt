use Rattle.std.proofs.Common.{◌≡◌, map, drop, length}
use Rattle.std.specs.List.{AllByRecursion}
use Rattle.b67_codefile.specs.Spelling.{IsWithin}
use Rattle.b67_codefile.specs.Meaning.{program_of}
use Rattle.b67_job.specs.Admitting.{programs}
use Rattle.b67_job.proofs.Behind.{behind}
use Rattle.b67_job.proofs.admission.files_of.Given as goal

abbrev pub invariant-jobs : goal.invariant-jobs
invariant-jobs l =
    AllByRecursion IsWithin l.files.items
    × (length l.files.items ≡ l.job-index)
    × (programs l.jobs ≡ behind (map program_of l.files.items) (programs (drop l.job-index l.jobs)))
