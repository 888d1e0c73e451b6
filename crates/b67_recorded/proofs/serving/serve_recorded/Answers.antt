use Rattle.std.proofs.Common.{List, ℕ, ap, sym, map, ◌++◌, ◌∙◌}
use Rattle.std.specs.Prelude.{string_bytes}
use Rattle.b67_program.specs.Words.{texts_of}
use Rattle.b67_recorded.specs.Recorded.{on_words}
use Rattle.b67_recorded.proofs.Passing.{gave_none, took_noted}
use Rattle.b67_recorded.proofs.serving.serve_recorded.Goals as goal

pub returns-in-Ok-noted-clause-faithful : goal.returns-in-Ok-noted-clause-faithful
returns-in-Ok-noted-clause-faithful g c = c.serve_words.ensures.faithful

pub returns-in-Ok-clause-faithful : goal.returns-in-Ok-clause-faithful
returns-in-Ok-clause-faithful g c = record { read = gave_none g.R.Read.remaining c.args.input.now; printed = took_noted c.args.printer.now _ }

pub returns-clause-faithful : goal.returns-clause-faithful
returns-clause-faithful g c = record { read = gave_none g.R.Read.remaining c.args.input.now; printed = took_noted c.args.printer.now _ }

pub returns-in-Ok-noted-clause-served : goal.returns-in-Ok-noted-clause-served
returns-in-Ok-noted-clause-served g c =
    on_words c.as_slice-in-Ok-noted.result.now
    (record {
      told = λ words e. ap texts_of c.as_slice-in-Ok-noted.ensures.value ∙ c.in-Ok-noted.ensures.same ∙ ap (λ texts. map string_bytes texts) c.as_slice.ensures.value ∙ c.in-Ok.ensures.given.told words e;
    })
    (c.serve_words.ensures.noted ∙ c.in-Ok-noted.ensures.noted ∙ ap (λ (ts : List (List ℕ)). c.args.process.now.words.texts ++ ts) (ap texts_of (sym c.as_slice-in-Ok-noted.ensures.value)))
    c.serve_words.ensures.unread
    c.serve_words.ensures.served
