use Rattle.b67_codefile.specs.Reading.{many_entries_at}
use Rattle.b67_codefile.proofs.Loop.{Rises}
use Rattle.b67_codefile.proofs.reading.many_entries_of.Given as goal

abbrev pub invariant-entries : goal.invariant-entries
invariant-entries l = Rises l.entries l.count l.counter l.before l.rest (many_entries_at 0 l.count l.bytes)
