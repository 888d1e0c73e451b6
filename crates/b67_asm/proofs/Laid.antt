-- An operator has a syllable at least.
use Rattle.std.proofs.Common.{◌≤◌, length, arith}
use Rattle.b67_model.specs.declared.operators.Op.{Op}
use Rattle.b67_model.specs.declared.operators.Op.TheVariants.{Valc, Namc, Lt8, Lt16, Lt48, Mpcw, Brun, Brtr, Brfl, Bset, Brst, Isol, Insr, Plain}
use Rattle.b67_model.specs.Encoding.{syllables}

pub some_syllable : (op : Op) → 1 ≤ length (syllables op)
some_syllable (Valc bits) = omega arith
some_syllable (Namc bits) = omega arith
some_syllable (Lt8 n) = omega arith
some_syllable (Lt16 n) = omega arith
some_syllable (Lt48 bits) = omega arith
some_syllable (Mpcw bits) = omega arith
some_syllable (Brun place) = omega arith
some_syllable (Brtr place) = omega arith
some_syllable (Brfl place) = omega arith
some_syllable (Bset n) = omega arith
some_syllable (Brst n) = omega arith
some_syllable (Isol high width) = omega arith
some_syllable (Insr high width) = omega arith
some_syllable (Plain code) = omega arith
