-- What an operator's first syllable says of it.
use Rattle.std.specs.Prelude.{ℕ, ◌+◌, ◌*◌, ◌/◌, ◌%◌, List, slice_index}
use Rattle.b67_word.specs.declared.couples.Place.{Place}
use Rattle.b67_model.specs.declared.operators.Op.{Op}
use Rattle.b67_model.specs.declared.operators.Op.TheVariants.{Valc, Namc, Lt8, Lt16, Lt48, Mpcw, Brun, Brtr, Brfl, Bset, Brst, Isol, Insr, Plain}
use Rattle.b67_model.specs.Operators.{Form, Alone, OneMore, TwoMore, Literal, branch, syllable}
use Rattle.b67_syllable.specs.declared.kinds.Kind.{Kind}
use Rattle.b67_syllable.specs.declared.kinds.Kind.TheVariants.{Lone, ValueCall, NameCall, Literal8, Literal16, Literal48, MakePcw, SetBit, ResetBit, Isolate, Insert, BranchFalse, BranchTrue, Branch}

-- what follows a first syllable of this kind
abbrev pub form : Kind → Form
form (Lone code) = Alone code
form (ValueCall high) = OneMore (λ low. Valc (high * 256 + low))
form (NameCall high) = OneMore (λ low. Namc (high * 256 + low))
form Literal8 = OneMore Lt8
form Literal16 = TwoMore (λ high low. Lt16 (high * 256 + low))
form Literal48 = Literal Lt48
form MakePcw = Literal Mpcw
form SetBit = OneMore Bset
form ResetBit = OneMore Brst
form Isolate = TwoMore Isol
form Insert = TwoMore Insr
form BranchFalse = branch Brfl
form BranchTrue = branch Brtr
form Branch = branch Brun

-- the syllable behind an operator that begins at syllable n
abbrev pub end_of : ℕ → Form → ℕ
end_of n (Alone code) = n + 1
end_of n (OneMore op) = n + 2
end_of n (TwoMore op) = n + 3
end_of n (Literal op) = 6 * (n / 6 + 2)

-- the operator that begins at syllable n
abbrev pub operator_of : List ℕ → ℕ → Form → Op
operator_of code n (Alone op) = Plain op
operator_of code n (OneMore op) = op (syllable code (n + 1))
operator_of code n (TwoMore op) = op (syllable code (n + 1)) (syllable code (n + 2))
operator_of code n (Literal op) = op (slice_index code (n / 6 + 1))

-- the place of a branch's two syllables
abbrev pub target_at : ℕ → ℕ → Place
target_at high low = record { word = (high % 32) * 256 + low; syllable = high / 32 }
