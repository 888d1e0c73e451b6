use Rattle.std.proofs.Common.{refl, sym}
use Rattle.std.proofs.lemmas.Option.{none-some}
use Rattle.b67_io.specs.Free.{free_left}
use Rattle.b67_promises.proofs.shelves.serve_on_shelf.Goals as goal

pub returns-clause-ends : goal.returns-clause-ends
returns-clause-ends c = λ core w few. let s = c.serve_described.ensures.ends core (free_left c.args.input.now) w refl few (λ e. none-some _ (sym e)) in (s.text, s.printed, s.so)

pub returns-clause-call : goal.returns-clause-call
returns-clause-call c = c.serve_described.ensures.call
