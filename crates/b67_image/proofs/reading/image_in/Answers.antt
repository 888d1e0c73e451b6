use Rattle.std.proofs.Common.{List, ℕ, Result, sym, subst}
use Rattle.b67_task.specs.declared.tables.Machine.{Machine}
use Rattle.b67_image.specs.declared.fault.ImageFault.{ImageFault}
use Rattle.b67_image.specs.Meaning.{IsTold, IsMeant, parts_told, told_in}
use Rattle.b67_image.proofs.Answering.{meant, unmeant}
use Rattle.b67_image.proofs.reading.image_in.Goals as goal

pub returns-in-Ok : goal.returns-in-Ok
returns-in-Ok c =
    subst (λ (r : Result Machine ImageFault). IsMeant r (told_in c.args.sectors c.args.text)) (sym c.of_image.ensures)
    (meant c.args.sectors c.args.text c.in-Ok.spelled.card c.in-Ok.spelled.bytes c.machine_in.result c.requires c.in-Ok.ensures (subst (λ (bytes : List ℕ). IsTold c.machine_in.result (parts_told c.args.sectors bytes)) c.as_slice.ensures c.machine_in.ensures))

pub returns-in-Err : goal.returns-in-Err
returns-in-Err c = unmeant c.args.sectors c.args.text c.in-Err.fault c.requires c.in-Err.ensures
