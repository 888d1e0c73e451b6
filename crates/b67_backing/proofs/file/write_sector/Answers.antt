use Rattle.std.proofs.Common.{ℕ, List, length, subst}
use Rattle.b67_backing.specs.File.{Puts, Overwrites}
use Rattle.b67_backing.specs.Held.{Changes}
use Rattle.b67_backing.proofs.Bytes.{on_ok, sector_puts, sector_leaves}
use Rattle.b67_backing.proofs.file.write_sector.Goals as goal

pub returns-clause-sets : goal.returns-clause-sets
returns-clause-sets g c =
    let changes : (List ℕ → List ℕ → Type 0) → Type 0 = Changes g.F.RandomAccess.bytes c.args.file.now c.write_at.new.self in
    on_ok c.write_at.result c.write_at.ensures.puts (λ p.
    sector_puts g.F.RandomAccess.bytes c.args.file.now c.write_at.new.self c.args.n c.bytes_of.result c.args.from.now c.requires.low c.requires.high c.bytes_of.ensures.long c.told-from
    (subst (λ (at : ℕ). changes (Overwrites at (length c.bytes_of.result))) c.place_of.ensures c.write_at.ensures.others)
    (subst (λ (at : ℕ). changes (Puts at c.bytes_of.result)) c.place_of.ensures p)
    c.bytes_of.ensures.numbers)

pub returns-clause-others : goal.returns-clause-others
returns-clause-others g c =
    sector_leaves g.F.RandomAccess.bytes c.args.file.now c.write_at.new.self c.args.n c.bytes_of.result c.requires.low c.requires.high c.bytes_of.ensures.long
    (subst (λ (at : ℕ). Changes g.F.RandomAccess.bytes c.args.file.now c.write_at.new.self (Overwrites at (length c.bytes_of.result))) c.place_of.ensures c.write_at.ensures.others)
