use Rattle.std.proofs.Common.{ℕ, drop}
use Rattle.b67_codefile.specs.declared.file.Codefile.{Codefile}
use Rattle.b67_load.specs.Broken.{listed}
use Rattle.b67_load.proofs.FirstRefusal.{StillRise, RemainsWrong}
use Rattle.b67_load.proofs.rules.wrong_entry.Given as goal

abbrev pub invariant-entries : goal.invariant-entries
invariant-entries l = StillRise (drop l.entry-index l.segment.entries) × ((file : Codefile) (number : ℕ) → RemainsWrong (listed file number l.segment l.listing) l.segment.entries (drop l.entry-index l.segment.entries))
