use Rattle.std.proofs.Common.{arith}
use Rattle.b67_backing.proofs.Bytes.{bytes_read_back}
use Rattle.b67_backing.proofs.file.bytes_of.Goals as goal

pub returns-clause-numbers : goal.returns-clause-numbers
returns-clause-numbers c = λ i h. rw c.write_u64_into.ensures (bytes_read_back c.args.numbers.now i (omega (arith, c.told-numbers)) c.fits-numbers)
