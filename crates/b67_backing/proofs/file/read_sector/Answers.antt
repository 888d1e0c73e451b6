use Rattle.std.proofs.Common.{arith, subst, ℕ}
use Rattle.b67_backing.specs.File.{LiesAt}
use Rattle.b67_backing.proofs.Bytes.{sector_read}
use Rattle.b67_backing.proofs.file.read_sector.Goals as goal

pub returns-clause-gives : goal.returns-clause-gives
returns-clause-gives g c = record { told = sector_read (g.F.RandomAccess.bytes c.args.file.now) c.args.n c.read_at.new.into c.read_u64_into.new.dst c.requires.low c.requires.high (omega (arith, c.read_at.auto.into)) (omega (arith, c.told-into, c.read_u64_into.auto.dst)) (λ bytes t. subst (λ (at : ℕ). LiesAt at c.read_at.new.into bytes) c.place_of.ensures (c.in_ok-read_at.ensures.gives.told bytes t)) c.read_u64_into.ensures }
