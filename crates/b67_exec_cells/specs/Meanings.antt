-- What the operators of one operand and of two make of their bits.
use Rattle.std.specs.Prelude.{ℕ}
use Rattle.b67_model.specs.Answers.{Answer}
use Rattle.b67_model.specs.Arithmetic as rows
use Rattle.b67_exec_cells.specs.declared.numbers.Binary.TheVariants as binary
use Rattle.b67_exec_cells.specs.declared.numbers.Binary.{Binary}
use Rattle.b67_exec_cells.specs.declared.numbers.Unary.TheVariants as unary
use Rattle.b67_exec_cells.specs.declared.numbers.Unary.{Unary}

abbrev pub of_two : Binary → rows.Binary
of_two binary.Mult = rows.mult
of_two binary.Idiv = rows.idiv
of_two binary.Rdiv = rows.rdiv
of_two binary.Land = rows.land
of_two binary.Lor = rows.lor
of_two binary.Leqv = rows.leqv
of_two binary.Same = rows.same
of_two (binary.Insr high width) = rows.insr high width

abbrev pub of_one : Unary → ℕ → Answer ℕ
of_one unary.Chsn = rows.chsn
of_one unary.Lnot = rows.lnot
of_one (unary.Bset n) = rows.bset n
of_one (unary.Brst n) = rows.brst n
of_one (unary.Isol high width) = rows.isol high width
