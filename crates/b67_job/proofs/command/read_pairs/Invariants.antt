use Rattle.std.proofs.Common.{◌≡◌, ◌++◌, drop, length}
use Rattle.std.specs.Option.{option_map}
use Rattle.b67_job.specs.Command.{pairs_in}
use Rattle.b67_job.proofs.command.read_pairs.Given as goal

abbrev pub invariant-words : goal.invariant-words
invariant-words l = record {
  count : length l.pairs ≡ l.word-index;
  rest : option_map (λ rest. l.pairs ++ rest) (pairs_in (drop l.word-index l.words)) ≡ pairs_in l.words;
}
