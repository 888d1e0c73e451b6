use Rattle.std.proofs.Common.{List, ◌≡◌, map, ap, sym, refl, ◌∙◌}
use Rattle.std.specs.Prelude.{string_bytes}
use Rattle.b67_program.specs.Words.{texts_of}
use Rattle.b67_program.specs.Started.{on_words, words_want_memory}
use Rattle.b67_program.proofs.Answering.{not_seven}
use Rattle.b67_program.proofs.starting.serve_process.Goals as goal

pub returns-in-Ok-borrowed-clause-started : goal.returns-in-Ok-borrowed-clause-started
returns-in-Ok-borrowed-clause-started g c =
    on_words c.as_slice-in-Ok-borrowed.result.now
    (record {
      told = λ words e. ap texts_of c.as_slice-in-Ok-borrowed.ensures.value ∙ c.in-Ok-borrowed.ensures ∙ ap (λ texts. map string_bytes texts) c.as_slice.ensures.value ∙ c.in-Ok.ensures.given.told words e;
    })
    (record { opened_so = c.serve.ensures.opened; served = c.serve.ensures.served; unread = c.serve.ensures.unread })

pub returns-in-Ok-clause-started : goal.returns-in-Ok-clause-started
returns-in-Ok-clause-started g c = words_want_memory refl refl (rw c.from.ensures c.refuse_memory.ensures.ends)

pub returns-in-Ok-clause-reading : goal.returns-in-Ok-clause-reading
returns-in-Ok-clause-reading g c = λ e. not_seven _ _ _ _ _ _ c.refuse_memory.ensures.ends (sym c.from.ensures ∙ e)

pub returns-clause-started : goal.returns-clause-started
returns-clause-started g c = words_want_memory refl refl (rw c.from-in-Err.ensures c.refuse_memory-in-Err.ensures.ends)

pub returns-clause-reading : goal.returns-clause-reading
returns-clause-reading g c = λ e. not_seven _ _ _ _ _ _ c.refuse_memory-in-Err.ensures.ends (sym c.from-in-Err.ensures ∙ e)
