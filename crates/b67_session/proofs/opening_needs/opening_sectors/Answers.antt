use Rattle.std.proofs.Common.{◌≡◌, map, ap, ◌∙◌, arith}
use Rattle.b67_codefile.specs.Meaning.{program_of}
use Rattle.b67_lemmas.specs.Lists.{total}
use Rattle.b67_load.specs.Objects.{sectors_of_program}
use Rattle.b67_session.proofs.Heads.{programs_end}
use Rattle.b67_session.proofs.Sums.{sectors_is}
use Rattle.b67_session.proofs.opening_needs.opening_sectors.Goals as goal

pub returns-clause-sum : goal.returns-clause-sum
returns-clause-sum c stack openings same =
    let none = ap (total sectors_of_program) (programs_end c.args.programs.now c.programs.program-index c.programs-test.false) in
    let all : c.programs.sum ≡ total sectors_of_program (map program_of c.args.programs.now) = omega (arith, none, c.programs.invariant.0) in
    all ∙ sectors_is stack openings (map program_of c.args.programs.now) same
