-- Which classes of operators a law takes together.
use Rattle.b67_model.specs.Common.{Class, OnCells, Own}

-- no row of its own says what an operator of the class does
abbrev pub IsCommon : Class → Type 0
IsCommon (Own row) = ⊥
IsCommon _ = Unit {0}

-- it changes operands alone
abbrev pub IsOnOperands : Class → Type 0
IsOnOperands (OnCells f) = ⊥
IsOnOperands (Own row) = ⊥
IsOnOperands _ = Unit {0}
