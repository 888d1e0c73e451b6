use Rattle.std.proofs.Common.{ℕ, Some, Ok, refl, ap, sym, subst}
use Rattle.b67_session.proofs.InitialOpens.{uncalled}
use Rattle.b67_image.specs.Meaning.{IsImageRead}
use Rattle.b67_job.specs.Device.{device_of}
use Rattle.b67_job.specs.declared.command.CommandLine.TheVariants as lines
use Rattle.b67_job.specs.Due.{goes_on}
use Rattle.b67_job.proofs.Going.{image_stands, unread_image}
use Rattle.b67_job.proofs.Served.{without}
use Rattle.b67_job.proofs.top.answer_resume.Goals as goal

pub go_on-requires-clause-shows : goal.go_on-requires-clause-shows
go_on-requires-clause-shows g c = image_stands _ c.in-Ok.image c.in-Ok.ensures.answer.2.2

pub go_on-requires-clause-countable : goal.go_on-requires-clause-countable
go_on-requires-clause-countable g c = c.in-Ok.ensures.runs.countable

pub go_on-requires-clause-sized : goal.go_on-requires-clause-sized
go_on-requires-clause-sized g c = rw (sym c.sectors.ensures.value) c.in-Ok.ensures.runs.sized

pub go_on-requires-clause-unhalted : goal.go_on-requires-clause-unhalted
go_on-requires-clause-unhalted g c = c.in-Ok.ensures.answer.2.2.halt

pub go_on-requires-clause-unprinted : goal.go_on-requires-clause-unprinted
go_on-requires-clause-unprinted g c = c.in-Ok.ensures.answer.2.2.printed

pub returns-in-Ok-clause-serves : goal.returns-in-Ok-clause-serves
returns-in-Ok-clause-serves g c = λ words e.
    let gone = c.go_on.ensures.gone in
    goes_on (record {
      image = c.in-Ok.image;
      k = gone.0;
      of = record { is = e; read = subst (λ (n : ℕ). IsImageRead g.S.Source.left g.S.Source.faults c.args.deck.now c.read_image.new.source (Some n) (Ok c.in-Ok.image)) c.sectors.ensures.value c.in-Ok.ensures.answer };
      is = gone.1;
      gone = gone.2;
    })

pub returns-in-Ok-clause-device : goal.returns-in-Ok-clause-device
returns-in-Ok-clause-device g c = c.go_on.ensures.device

pub returns-in-Err-clause-serves : goal.returns-in-Err-clause-serves
returns-in-Err-clause-serves g c = λ words e.
    let d = device_of g.B.Backing.holds g.B.Backing.size g.B.Backing.faults c.args.backing.now c.args.backing.now in
    without words g.S.Source.left g.S.Source.faults c.args.deck.now c.read_image.new.source d g.K.Sink.taken g.K.Sink.faults c.args.printer.now c.refuse_image.new.printer
    c.without_machine.result.machine c.without_machine.result.status c.refuse_image.result c.without_machine.ensures.machine c.without_machine.ensures.status
    (unread_image d lines.Resume (Some c.sectors.result) c.in-Err.fault c.refuse_image.result refl (ap Some (ap Some (sym c.sectors.ensures.value))) refl c.in-Err.ensures.answer c.refuse_image.ensures words e)

pub returns-in-Err-clause-device : goal.returns-in-Err-clause-device
returns-in-Err-clause-device g c = uncalled g.B.Backing.holds g.B.Backing.size g.B.Backing.calls g.B.Backing.faults c.args.backing.now
