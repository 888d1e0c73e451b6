-- What an operator's parameters are.
use Rattle.std.specs.Prelude.{◌^◌, ◌<◌, IsTrue}
use Rattle.b67_model.specs.declared.operators.Op.{Op}
use Rattle.b67_model.specs.declared.operators.Op.TheVariants.{Valc, Namc, Lt8, Lt16, Lt48, Mpcw, Brun, Brtr, Brfl}
use Rattle.b67_model.specs.Common.{Word, Proc, OperatorContext, running_level, is_proc, proc_of, Starts}

-- a Proc's place is one where its segment may be entered
abbrev pub StartsAt : Starts → Word → Type 0
StartsAt P (Proc segment level place) = P segment level place
StartsAt P _ = Unit {0}

-- what the parameters of an operator are: they have their bits, and places are such that the running activation may go on
-- there
abbrev pub ParametersFit : Starts → OperatorContext → Op → Type 0
ParametersFit P h (Valc couple) = couple < 2 ^ 14
ParametersFit P h (Namc couple) = couple < 2 ^ 14
ParametersFit P h (Lt8 n) = n < 2 ^ 48
ParametersFit P h (Lt16 n) = n < 2 ^ 48
ParametersFit P h (Lt48 bits) = bits < 2 ^ 48
ParametersFit P h (Mpcw bits) = IsTrue (is_proc h bits) → StartsAt P (proc_of bits)
ParametersFit P h (Brun target) = P h.task.segment (running_level h) target
ParametersFit P h (Brtr target) = P h.task.segment (running_level h) target
ParametersFit P h (Brfl target) = P h.task.segment (running_level h) target
ParametersFit P h _ = Unit {0}
