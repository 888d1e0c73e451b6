-- The intrinsic that an operator calls.
use Rattle.std.specs.Prelude.{ℕ, List, [], ◌∷◌, reverse, Option, Some, None, Ok}
use Rattle.b67_model.specs.declared.operators.Op.{Op}
use Rattle.b67_model.specs.declared.operators.Op.TheVariants.{Plain}
use Rattle.b67_model.specs.declared.operators.Code.TheVariants.{Entr}
use Rattle.b67_model.specs.Answers.{Answer}
use Rattle.b67_model.specs.Words.{Word}
use Rattle.b67_model.specs.State.{Standing, Marked, OperatorContext}
use Rattle.b67_model.specs.Chase.{End, AtIntrinsic, follow_reference}
use Rattle.b67_model.specs.Steps.{top_of, cells_of}

-- the intrinsic that an operator calls, if it is an ENTR that ends at one
abbrev pub called_at : Answer End → Option ℕ
called_at (Ok (AtIntrinsic n)) = Some n
called_at _ = None

abbrev pub called_by : OperatorContext → List Word → Option ℕ
called_by h [] = None
called_by h (r ∷ arguments) = called_at (follow_reference h r)

abbrev pub called_on : OperatorContext → Standing → Option ℕ
called_on h Marked = called_by h (reverse (cells_of h))
called_on h _ = None

abbrev pub called : Op → OperatorContext → Option ℕ
called (Plain Entr) h = called_on h (top_of h).standing
called _ h = None
