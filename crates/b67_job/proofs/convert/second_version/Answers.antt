use Rattle.std.proofs.Common.{◌≡◌, subst}
use Rattle.std.specs.Prelude.{IfOk}
use Rattle.b67_codefile.specs.declared.file.Codefile.{Codefile}
use Rattle.b67_codefile.specs.Spelling.{spelling}
use Rattle.b67_job.specs.Verdicts.{hex_lines}
use Rattle.b67_job.proofs.convert.second_version.Goals as goal

pub returns : goal.returns
returns c = subst (λ (f : Codefile). IfOk c.text_of.result (λ text. text ≡ hex_lines (spelling f))) c.in_ok-second.ensures.same c.text_of.ensures
