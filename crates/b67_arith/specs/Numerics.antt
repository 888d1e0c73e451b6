-- The rows of the operators on two numbers.
use Rattle.b67_model.specs.Arithmetic as rows
use Rattle.b67_arith.specs.declared.numerics.Numeric.TheVariants as numeric
use Rattle.b67_arith.specs.declared.numerics.Numeric.{Numeric}

abbrev pub of_numbers : Numeric → rows.Binary
of_numbers numeric.Add = rows.add
of_numbers numeric.Subt = rows.subt
of_numbers numeric.Less = rows.less
of_numbers numeric.Greq = rows.greq
of_numbers numeric.Grtr = rows.grtr
of_numbers numeric.Lseq = rows.lseq
of_numbers numeric.Equl = rows.equl
of_numbers numeric.Neql = rows.neql
