use Rattle.std.proofs.Common.{drop}
use Rattle.std.specs.List.{AllByRecursion}
use Rattle.b67_session.specs.Decks.{IsLoaded}
use Rattle.b67_session.proofs.opening.know_programs.Given as goal

abbrev pub invariant-programs : goal.invariant-programs
invariant-programs l = AllByRecursion IsLoaded (drop l.program-index l.programs) → AllByRecursion IsLoaded l.programs
