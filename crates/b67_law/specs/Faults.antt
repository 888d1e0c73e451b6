-- When the fault INVALID OPERATOR comes.
use Rattle.std.specs.Prelude.{◌≡◌, ℕ, ◌⊎◌, false, Err}
use Rattle.b67_word.specs.declared.faults.Fault.TheVariants.{InvalidOperator}
use Rattle.b67_model.specs.declared.operators.Op.{Op}
use Rattle.b67_model.specs.declared.operators.Op.TheVariants.{Mpcw, Plain}
use Rattle.b67_model.specs.declared.operators.Code.TheVariants.{Nvld}
use Rattle.b67_model.specs.Common.{OperatorContext, is_proc, row}

-- the row of an operator faults INVALID OPERATOR only at NVLD, or at an MPCW whose literal the loader refuses
abbrev pub InvalidOperatorIsNvld : Type 0
InvalidOperatorIsNvld =
    (op : Op) (h : OperatorContext) → row op h ≡ Err InvalidOperator → (op ≡ Plain Nvld) ⊎ ((bits : ℕ) × (op ≡ Mpcw bits) × (is_proc h bits ≡ false))
