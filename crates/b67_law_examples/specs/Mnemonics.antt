-- Operators by their mnemonics, and segments of them.
use Rattle.std.specs.Prelude.{ℕ, zero, suc, ◌+◌, ◌*◌, ◌^◌, List, [], ◌++◌, map}
use Rattle.b67_word.specs.Couples.{level_bits, reversed_bits}
use Rattle.b67_model.specs.declared.operators.Op.{Op}
use Rattle.b67_model.specs.declared.operators.Op.TheVariants as op
use Rattle.b67_model.specs.declared.operators.Code.{Code}
use Rattle.b67_model.specs.declared.operators.Code.TheVariants as code
use Rattle.b67_model.specs.State.{Segment}
use Rattle.b67_model_text.specs.Encoding.{code_words}

-- an operator, by the level of its segment, which splits couples
abbrev pub Operator : Type 0
Operator = ℕ → Op

-- a segment of a level
abbrev pub segment : ℕ → List Operator → Segment
segment level operators = record { level = level; entries = []; code = code_words (map (λ (o : Operator). o level) operators) }

-- operators so many times
abbrev pub operators_times : ℕ → List Operator → List Operator
operators_times zero operators = []
operators_times (suc n) operators = operators ++ operators_times n operators

abbrev pub couple_at : ℕ → ℕ → ℕ → ℕ
couple_at level disp running = reversed_bits (level_bits running) level + disp

abbrev pub VALC : ℕ → ℕ → Operator
VALC level disp running = op.Valc (couple_at level disp running)

abbrev pub NAMC : ℕ → ℕ → Operator
NAMC level disp running = op.Namc (couple_at level disp running)

-- the PCW of a segment at its first place
abbrev pub MPCW : ℕ → ℕ → Operator
MPCW number level running = op.Mpcw (level * 2 ^ 14 + number + 1)

abbrev pub LT48 : ℕ → Operator
LT48 bits running = op.Lt48 bits

abbrev pub LT8 : ℕ → Operator
LT8 n running = op.Lt8 n

abbrev pub LT16 : ℕ → Operator
LT16 n running = op.Lt16 n

abbrev pub ISOL : ℕ → ℕ → Operator
ISOL high width running = op.Isol high width

-- branches to a word and a syllable
abbrev pub BRUN : ℕ → ℕ → Operator
BRUN word syllable running = op.Brun (record { word = word; syllable = syllable })

abbrev pub BRTR : ℕ → ℕ → Operator
BRTR word syllable running = op.Brtr (record { word = word; syllable = syllable })

abbrev pub plain_operator : Code → Operator
plain_operator c running = op.Plain c

abbrev pub ADD : Operator
ADD = plain_operator code.Add

abbrev pub SUBT : Operator
SUBT = plain_operator code.Subt

abbrev pub MULT : Operator
MULT = plain_operator code.Mult

abbrev pub IDIV : Operator
IDIV = plain_operator code.Idiv

abbrev pub RDIV : Operator
RDIV = plain_operator code.Rdiv

abbrev pub GRTR : Operator
GRTR = plain_operator code.Grtr

abbrev pub CHSN : Operator
CHSN = plain_operator code.Chsn

abbrev pub LNOT : Operator
LNOT = plain_operator code.Lnot

abbrev pub SAME : Operator
SAME = plain_operator code.Same

abbrev pub EXIT : Operator
EXIT = plain_operator code.Exit

abbrev pub INDX : Operator
INDX = plain_operator code.Indx

abbrev pub RETN : Operator
RETN = plain_operator code.Retn

abbrev pub ENTR : Operator
ENTR = plain_operator code.Entr

abbrev pub NXLV : Operator
NXLV = plain_operator code.Nxlv

abbrev pub MKST : Operator
MKST = plain_operator code.Mkst

abbrev pub STFF : Operator
STFF = plain_operator code.Stff

abbrev pub ZERO : Operator
ZERO = plain_operator code.Zero

abbrev pub ONE : Operator
ONE = plain_operator code.One

abbrev pub DLET : Operator
DLET = plain_operator code.Dlet

abbrev pub STOD : Operator
STOD = plain_operator code.Stod

abbrev pub LOAD : Operator
LOAD = plain_operator code.Load

abbrev pub NOOP : Operator
NOOP = plain_operator code.Noop

abbrev pub NVLD : Operator
NVLD = plain_operator code.Nvld
