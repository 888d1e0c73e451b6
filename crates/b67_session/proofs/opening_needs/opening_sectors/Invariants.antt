use Rattle.std.proofs.Common.{◌≡◌, ◌+◌, ◌*◌, ◌≤◌, map, drop}
use Rattle.b67_codefile.specs.Meaning.{program_of}
use Rattle.b67_lemmas.specs.Lists.{total}
use Rattle.b67_load.specs.Objects.{sectors_of_program}
use Rattle.b67_session.proofs.opening_needs.opening_sectors.Given as goal

abbrev pub invariant-programs : goal.invariant-programs
invariant-programs l =
    (l.sum + total sectors_of_program (map program_of (drop l.program-index l.programs)) ≡ total sectors_of_program (map program_of l.programs))
    × (l.sum ≤ l.program-index * 557175)
