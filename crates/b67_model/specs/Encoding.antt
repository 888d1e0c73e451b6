-- An operator's syllables, and the word that follows it.
use Rattle.std.specs.Prelude.{◌≡◌, ℕ, ◌+◌, ◌*◌, ◌/◌, ◌^◌, ◌<◌, ◌≤◌, List, [], ◌∷◌, length, Bool, true, nat_lt, ◌&&◌, Option, Some, None, Ok, IfSome, slice_get, slice_index}
use Rattle.std.specs.Int.{w16, to_be_bytes}
use Rattle.b67_word.specs.declared.couples.Place.{Place}
use Rattle.b67_model.specs.declared.operators.Op.{Op}
use Rattle.b67_model.specs.declared.operators.Op.TheVariants.{Valc, Namc, Lt8, Lt16, Lt48, Mpcw, Brun, Brtr, Brfl, Bset, Brst, Isol, Insr, Plain}
use Rattle.b67_model.specs.declared.operators.Code.{Code}
use Rattle.b67_model.specs.declared.operators.Code.TheVariants as codes
use Rattle.b67_model.specs.Operators.{syllable, place_at, count_at, operator_at}

abbrev pub syllable_of : Code → ℕ
syllable_of codes.Add = 0x80
syllable_of codes.Subt = 0x81
syllable_of codes.Mult = 0x82
syllable_of codes.Idiv = 0x84
syllable_of codes.Rdiv = 0x85
syllable_of codes.Less = 0x88
syllable_of codes.Greq = 0x89
syllable_of codes.Grtr = 0x8A
syllable_of codes.Lseq = 0x8B
syllable_of codes.Equl = 0x8C
syllable_of codes.Neql = 0x8D
syllable_of codes.Chsn = 0x8E
syllable_of codes.Land = 0x90
syllable_of codes.Lor = 0x91
syllable_of codes.Lnot = 0x92
syllable_of codes.Leqv = 0x93
syllable_of codes.Same = 0x94
syllable_of codes.Exit = 0xA3
syllable_of codes.Indx = 0xA6
syllable_of codes.Retn = 0xA7
syllable_of codes.Entr = 0xAB
syllable_of codes.Nxlv = 0xAD
syllable_of codes.Mkst = 0xAE
syllable_of codes.Stff = 0xAF
syllable_of codes.Zero = 0xB0
syllable_of codes.One = 0xB1
syllable_of codes.Push = 0xB4
syllable_of codes.Dlet = 0xB5
syllable_of codes.Exch = 0xB6
syllable_of codes.Dupl = 0xB7
syllable_of codes.Stod = 0xB8
syllable_of codes.Ston = 0xB9
syllable_of codes.Load = 0xBD
syllable_of codes.Noop = 0xFE
syllable_of codes.Nvld = 0xFF

-- sixteen bits after the first syllable
abbrev pub with_16 : ℕ → ℕ → List ℕ
with_16 first n = first ∷ to_be_bytes w16 n

-- three bits of syllable, thirteen of word
abbrev pub target_bits : Place → ℕ
target_bits p = p.syllable * 2 ^ 13 + p.word

abbrev pub syllables : Op → List ℕ
syllables (Valc bits) = to_be_bytes w16 bits
syllables (Namc bits) = to_be_bytes w16 (2 ^ 14 + bits)
syllables (Lt8 n) = 0xB2 ∷ n ∷ []
syllables (Lt16 n) = with_16 0xB3 n
syllables (Lt48 bits) = 0xBE ∷ []
syllables (Mpcw bits) = 0xBF ∷ []
syllables (Brun place) = with_16 0xA2 (target_bits place)
syllables (Brtr place) = with_16 0xA1 (target_bits place)
syllables (Brfl place) = with_16 0xA0 (target_bits place)
syllables (Bset n) = 0x96 ∷ n ∷ []
syllables (Brst n) = 0x9E ∷ n ∷ []
syllables (Isol high width) = 0x9A ∷ high ∷ width ∷ []
syllables (Insr high width) = 0x9C ∷ high ∷ width ∷ []
syllables (Plain code) = syllable_of code ∷ []

-- the next whole word
abbrev pub literal : Op → Option ℕ
literal (Lt48 bits) = Some bits
literal (Mpcw bits) = Some bits
literal _ = None

-- the syllable after an operator that begins at syllable n and has this literal
abbrev pub after_literal : Option ℕ → ℕ → ℕ → ℕ
after_literal None n len = n + len
after_literal (Some bits) n len = 6 * (n / 6 + 2)

abbrev pub syllable_after : Op → ℕ → ℕ
syllable_after op n = after_literal (literal op) n (length (syllables op))

-- each number within the bits that an operator has for it
abbrev pub has_bits : Op → Bool
has_bits (Valc bits) = nat_lt bits (2 ^ 14)
has_bits (Namc bits) = nat_lt bits (2 ^ 14)
has_bits (Lt8 n) = nat_lt n (2 ^ 8)
has_bits (Lt16 n) = nat_lt n (2 ^ 16)
has_bits (Lt48 bits) = nat_lt bits (2 ^ 48)
has_bits (Mpcw bits) = nat_lt bits (2 ^ 48)
has_bits (Brun place) = nat_lt place.syllable 8 && nat_lt place.word (2 ^ 13)
has_bits (Brtr place) = nat_lt place.syllable 8 && nat_lt place.word (2 ^ 13)
has_bits (Brfl place) = nat_lt place.syllable 8 && nat_lt place.word (2 ^ 13)
has_bits (Bset n) = nat_lt n (2 ^ 8)
has_bits (Brst n) = nat_lt n (2 ^ 8)
has_bits (Isol high width) = nat_lt high (2 ^ 8) && nat_lt width (2 ^ 8)
has_bits (Insr high width) = nat_lt high (2 ^ 8) && nat_lt width (2 ^ 8)
has_bits (Plain code) = true

-- syllables stand in code from syllable n on, and a literal in the next whole word
pub record IsLaid (syllables : List ℕ) (literal : Option ℕ) (code : List ℕ) (n : ℕ) : Type 0 where
  pub each : (k : ℕ) → k < length syllables → syllable code (n + k) ≡ slice_index syllables k
  pub inside : n + length syllables ≤ 6 * length code
  pub next_word : IfSome literal (λ bits. slice_get code (n / 6 + 1) ≡ Some bits)

-- wherever these syllables and this literal stand, the operator is read, and the place behind it
abbrev pub ReadsBack : Op → List ℕ → Option ℕ → Type 0
ReadsBack op syllables literal =
    (code : List ℕ) (at : Place) → at.syllable < 6 → IsLaid syllables literal code (count_at at) →
    operator_at code at ≡ Ok (op, place_at (after_literal literal (count_at at) (length syllables)))
