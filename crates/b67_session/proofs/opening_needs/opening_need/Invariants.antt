use Rattle.std.proofs.Common.{◌≡◌, ◌+◌, ◌*◌, ◌≤◌, map, drop}
use Rattle.b67_codefile.specs.Meaning.{program_of}
use Rattle.b67_session.specs.Opened.{dictionaries}
use Rattle.b67_session.proofs.opening_needs.opening_need.Given as goal

abbrev pub invariant-programs : goal.invariant-programs
invariant-programs l =
    (l.words + dictionaries (map program_of (drop l.program-index l.programs)) ≡ 160 + dictionaries (map program_of l.programs))
    × (l.words ≤ 160 + l.program-index * 257)
