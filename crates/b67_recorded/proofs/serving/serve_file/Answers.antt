use Rattle.std.proofs.Common.{rules, ◌≡◌, ◌++◌, [], ◌∷◌, sym, ◌∙◌}
use Rattle.b67_job.specs.Command.{command_line_of}
use Rattle.b67_recorded.specs.Files.{reads_sectors}
use Rattle.b67_recorded.proofs.OverFiles.{over_mirror, over_copy}
use Rattle.b67_recorded.proofs.serving.serve_file.Goals as goal

pub returns-then-reads_first-clause-served : goal.returns-then-reads_first-clause-served
returns-then-reads_first-clause-served g c =
    let noted : c.note.new.self.texts ≡ c.args.process.now.opened.texts ++ c.args.path.now ∷ [] = search rules in
    over_copy g.D.Devices.opened g.D.Devices.kept c.args.words.now c.args.text c.args.path.now c.args.process.now.inner c.serve_copied.new.process.inner c.args.process.now.opened.texts c.serve_copied.new.process.opened.texts
    c.args.printer.now c.serve_copied.new.printer c.serve_copied.result c.requires.named
    (record { notes = c.serve_copied.ensures.noted.1 ∙ noted; opens = record { told = λ before e. c.serve_copied.ensures.same ∙ c.open-device.ensures.opens.told before e } })
    c.requires.taken c.open-device.result c.open-device.ensures.finds (sym c.reads_first.ensures ∙ c.if-reads_first.true) c.serve_copied.ensures.over

pub returns-clause-served : goal.returns-clause-served
returns-clause-served g c =
    let noted : c.note.new.self.texts ≡ c.args.process.now.opened.texts ++ c.args.path.now ∷ [] = search rules in
    over_mirror g.D.Devices.opened g.D.Devices.kept c.args.words.now c.args.text c.args.path.now c.args.process.now.inner c.serve_mirrored.new.process.inner c.args.process.now.opened.texts c.serve_mirrored.new.process.opened.texts
    c.args.printer.now c.serve_mirrored.new.printer c.serve_mirrored.result c.requires.named
    (record { notes = c.serve_mirrored.ensures.noted.1 ∙ noted; opens = record { told = λ before e. c.serve_mirrored.ensures.same ∙ c.open-device.ensures.opens.told before e } })
    c.requires.taken c.open-device.result c.open-device.ensures.finds c.over-file.result
    (c.over-file.ensures.over (reads_sectors (command_line_of c.args.words.now)) (sym c.reads_first.ensures ∙ c.if-reads_first.false)) c.over-file.ensures.faults c.serve_mirrored.ensures.over
