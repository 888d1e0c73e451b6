use Rattle.std.proofs.Common.{◌≡◌, ◌++◌, ◌+◌, arith, ap, sym, subst, ◌∙◌, length-take, append_assoc, length, take, List, [], ℕ}
use Rattle.std.proofs.lemmas.Bool.{false≢true}
use Rattle.std.specs.Io.KnownBytes.{Consumes}
use Rattle.std.proofs.KnownBytes.{Consumes-trans}
use Rattle.b67_card.proofs.Pieces.{read_part, read_length}
use Rattle.b67_recorded.proofs.Passing.{consumed, consumed_more}
use Rattle.b67_recorded.proofs.source.RecordedSource.take_in.Goals as goal

pub read-preserved : goal.read-preserved
read-preserved g c =
    let into = c.read-in-read.new.into in
    let left = g.R.Read.remaining in
    let read : c.extend.new.self ≡ c.read.bytes ++ take c.in-Ok.count into = read_part c.read.bytes into _ c.extend.new.self c.in-Ok.count c.in-Ok.ensures.count c.in-Ok-extend.ensures.ok in
    let grown : length c.extend.new.self ≡ length c.read.bytes + c.in-Ok.count = read_length c.read.bytes into c.extend.new.self c.in-Ok.count c.in-Ok.ensures.count read in (
      grind (arith, append_assoc),
      c.in-Ok.ensures.calm ∙ c.read.invariant.1,
      omega (arith, grown, c.in-Ok.ensures.count, ap length c.as_slice.ensures, ap length c.as_slice-in-read.ensures, c.min-room.ensures, c.read-in-read.auto.into, length-take c.min-room.result c.read.piece),
      subst (λ (bytes : List ℕ). Consumes (left c.args.self.now.inner) (left c.read-in-read.new.self.inner) bytes) (sym read)
          (Consumes-trans (left c.args.self.now.inner) (left c.read.self.inner) (left c.read-in-read.new.self.inner) c.read.bytes (take c.in-Ok.count into) c.read.invariant.3 c.in-Ok.ensures.asked),
      λ was. c.in-Ok.ensures.goes_on (omega (arith, c.in-Ok.count-test)),
    )

pub returns-in-Ok-eq0-clause-asked : goal.returns-in-Ok-eq0-clause-asked
returns-in-Ok-eq0-clause-asked g c = λ part e.
    consumed_more (g.R.Read.remaining c.args.self.now.inner) (g.R.Read.remaining c.read.self.inner) (g.R.Read.remaining c.read-in-read.new.self.inner) c.args.self.now.given.bytes c.read.self.given.bytes c.read-in-read.new.self.given.bytes
    c.read.bytes (take c.in-Ok-eq0.field-0 c.read-in-read.new.into) part c.read.invariant.0 c.read.invariant.3 c.in-Ok-eq0.ensures.given c.in-Ok-eq0.ensures.asked e

pub returns-in-Err-extend-clause-asked : goal.returns-in-Err-extend-clause-asked
returns-in-Err-extend-clause-asked g c = λ part e.
    consumed_more (g.R.Read.remaining c.args.self.now.inner) (g.R.Read.remaining c.read.self.inner) (g.R.Read.remaining c.read-in-read.new.self.inner) c.args.self.now.given.bytes c.read.self.given.bytes c.read-in-read.new.self.given.bytes
    c.read.bytes (take c.in-Ok.count c.read-in-read.new.into) part c.read.invariant.0 c.read.invariant.3 c.in-Ok.ensures.given c.in-Ok.ensures.asked e

pub returns-in-Err-clause-asked : goal.returns-in-Err-clause-asked
returns-in-Err-clause-asked g c = λ part e.
    consumed_more (g.R.Read.remaining c.args.self.now.inner) (g.R.Read.remaining c.read.self.inner) (g.R.Read.remaining c.read-in-read.new.self.inner) c.args.self.now.given.bytes c.read.self.given.bytes c.read-in-read.new.self.given.bytes
    c.read.bytes [] part c.read.invariant.0 c.read.invariant.3 c.in-Err.ensures.given c.in-Err.ensures.asked e

pub returns-in-Err-clause-at_end : goal.returns-in-Err-clause-at_end
returns-in-Err-clause-at_end g c = λ was is. absurd (false≢true (sym (c.in-Err.ensures.kept ∙ c.read.invariant.4 was) ∙ is))

pub returns-clause-asked : goal.returns-clause-asked
returns-clause-asked g c = λ part e.
    consumed (g.R.Read.remaining c.args.self.now.inner) (g.R.Read.remaining c.read.self.inner) c.args.self.now.given.bytes c.read.self.given.bytes c.read.bytes part c.read.invariant.0 c.read.invariant.3 e

pub returns-clause-at_end : goal.returns-clause-at_end
returns-clause-at_end g c = λ was is. absurd (false≢true (sym (c.read.invariant.4 was) ∙ is))
