use Rattle.std.proofs.Common.{◌∙◌, ap, arith}
use Rattle.std.proofs.lemmas.Result.{on_ok_weaker}
use Rattle.b67_codefile.specs.declared.file.Codefile.{Codefile}
use Rattle.b67_codefile.specs.Meaning.{program_of}
use Rattle.b67_load.specs.Objects.{entries_of, sectors_of_program}
use Rattle.b67_load.proofs.Steps.{sectors-objects, all_installed, all_spares, entries_word}
use Rattle.b67_load.proofs.installing.install.Goals as goal

pub install_objects-requires-clause-sectors : goal.install_objects-requires-clause-sectors
install_objects-requires-clause-sectors g c = record {
  known = c.requires.sectors.known;
  same = c.requires.sectors.same;
  room = omega (arith, c.requires.sectors.room, sectors-objects c.args.base (program_of c.file-file.result.now), ap (λ (f : Codefile). sectors_of_program (program_of f)) c.file-file.ensures.same);
}

pub returns-clause-installed : goal.returns-clause-installed
returns-clause-installed g c =
    on_ok_weaker c.install_objects.result
    (all_installed g.B.Backing.holds c.args.base c.file-file.result.now c.args.program.now c.args.cpu.now.core c.set.new.self c.word.result c.of.result _ _ _ c.file-file.ensures.same (omega (arith, c.requires.inside)) c.set.ensures.value c.set.ensures.len c.set-2.ensures.value c.word.ensures
    (c.of.ensures ∙ entries_word c.file-file.result.now c.args.program.now c.as_slice.result.now c.as_slice-2.result.now c.file-file.ensures.same c.as_slice.ensures c.as_slice-2.ensures) c.install_objects.ensures.spares)
    c.install_objects.ensures.writes

pub returns-clause-spares : goal.returns-clause-spares
returns-clause-spares g c =
    rw (← c.file-file.ensures.same) (all_spares g.B.Backing.holds c.args.base c.args.cpu.now.core c.set.new.self c.word.result c.of.result _ _ (entries_of (program_of c.file-file.result.now)) c.set.ensures.value c.set.ensures.len c.set-2.ensures.value c.set-2.ensures.len c.install_objects.ensures.spares)
