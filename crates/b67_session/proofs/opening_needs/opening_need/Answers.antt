use Rattle.std.proofs.Common.{◌≡◌, ◌+◌, ◌*◌, length, map, sym, ap, ◌∙◌, arith}
use Rattle.std.proofs.lemmas.List.{length-map}
use Rattle.b67_codefile.specs.Meaning.{program_of}
use Rattle.b67_session.specs.Opened.{dictionaries}
use Rattle.b67_session.proofs.Heads.{programs_end}
use Rattle.b67_session.proofs.Sums.{need_is}
use Rattle.b67_session.proofs.opening_needs.opening_need.Goals as goal

pub returns-clause-need : goal.returns-clause-need
returns-clause-need c openings same =
    let none = ap dictionaries (programs_end c.args.programs.now c.programs.program-index c.programs-test.false) in
    let all : c.programs.words ≡ 160 + dictionaries (map program_of c.args.programs.now) = omega (arith, none, c.programs.invariant.0) in
    ap (λ n. n + length c.args.programs.now * c.from.result) all
    ∙ ap (λ n. 160 + dictionaries (map program_of c.args.programs.now) + length c.args.programs.now * n) c.from.ensures
    ∙ need_is c.args.stack openings (map program_of c.args.programs.now) (length c.args.programs.now) same (sym (length-map c.args.programs.now program_of))
