use Rattle.std.proofs.Common.{◌≡◌, ℕ, ◌+◌, List, length, decimal, length-append, ap, ◌∙◌, arith}
use Rattle.std.proofs.lemmas.Fmt.{length-decimal-le}
use Rattle.b67_dump.proofs.lines.with_task.Goals as goal

pub returns-clause-short : goal.returns-clause-short
returns-clause-short c =
    let long : length c.with_number-2.result ≡ length c.with_text-line.result + length (decimal c.from.result) = ap (λ (l : List ℕ). length l) c.with_number-2.ensures.text ∙ length-append c.with_text-line.result (decimal c.from.result) in
    let digits = length-decimal-le 10 c.from.result (omega arith) (omega (arith, c.ranges.number.fits, c.from.ensures)) (omega (arith, c.ranges.number.fits, c.from.ensures)) in
    omega (arith, long, digits, c.with_text-line.ensures.length, c.with_number.ensures.short)
