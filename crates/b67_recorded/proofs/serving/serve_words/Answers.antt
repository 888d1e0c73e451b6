use Rattle.std.proofs.Common.{[], append-nil, refl, sym}
use Rattle.b67_recorded.specs.Recorded.{memory_wanted}
use Rattle.b67_recorded.proofs.Passing.{gave_none, took_noted}
use Rattle.b67_recorded.proofs.serving.serve_words.Goals as goal

pub returns-in-Err-clause-served : goal.returns-in-Err-clause-served
returns-in-Err-clause-served g c =
    memory_wanted [] (sym (append-nil c.args.input.now.given.bytes)) (record { notes = refl; same = refl }) (rw c.from.ensures c.refuse_memory.ensures.ends)

pub returns-in-Err-clause-faithful : goal.returns-in-Err-clause-faithful
returns-in-Err-clause-faithful g c = record { read = gave_none g.R.Read.remaining c.args.input.now; printed = took_noted c.args.printer.now c.refuse_memory.new.printer }
