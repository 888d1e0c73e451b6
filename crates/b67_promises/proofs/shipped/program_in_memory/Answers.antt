use Rattle.std.proofs.Common.{ap, sym, Some}
use Rattle.std.proofs.lemmas.Option.{none-some}
use Rattle.std.specs.Process.{exit_status}
use Rattle.b67_promises.proofs.InMemory.{behind}
use Rattle.b67_promises.proofs.shipped.program_in_memory.Goals as goal

pub returns : goal.returns
returns g c = record {
  printed = λ core sectors words w is have.
      behind core sectors w.path c.args.process.now c.program_described-code.new.process c.new-input.result c.program_described-code.new.input c.new-printer.result c.program_described-code.new.printer (exit_status c.program_described-code.result)
      (λ s. Some s.now) (c.program_described-code.ensures.described core sectors words w is have) c.program_described-code.ensures.faithful c.new-input.ensures.ended c.args.text.now (ap (λ s. Some s.now) c.new-input.ensures.asked)
      (λ v e. none-some v.items (sym e)) c.args.lines.items c.into_inner.result.items (ap (λ v. Some v.items) c.new-printer.ensures.asked) (ap (λ v. Some v.items) (sym c.into_inner.ensures));
}
