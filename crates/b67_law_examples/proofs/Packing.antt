-- Syllables in packed code.
use Rattle.std.proofs.Common.{◌≡◌, ℕ, zero, suc, ◌+◌, ◌-◌, ◌*◌, ◌/◌, ◌%◌, ◌^◌, ◌<◌, refl, ◌∙◌, ap, arith, Some, List, [], ◌∷◌, ◌++◌, length, get_or}
use Rattle.std.specs.Prelude.{slice_get}
use Rattle.std.specs.List.{AllByRecursion}
use Rattle.b67_model.specs.Operators.{syllable}
use Rattle.b67_model_text.specs.Encoding.{packed_words, six_syllables}

abbrev pub IsByte : ℕ → Type 0
IsByte b = b < 256

abbrev pub Bytes : List ℕ → Type 0
Bytes xs = AllByRecursion IsByte xs

abbrev word_of : (a b c d e f : ℕ) → ℕ
word_of a b c d e f = ((((a * 256 + b) * 256 + c) * 256 + d) * 256 + e) * 256 + f

in_word : (a b c d e f n : ℕ) → IsByte a → IsByte b → IsByte c → IsByte d → IsByte e → IsByte f → n < 6 → (word_of a b c d e f / 256 ^ (5 - n)) % 256 ≡ get_or (a ∷ b ∷ c ∷ d ∷ e ∷ f ∷ []) n 0
in_word a b c d e f zero ha hb hc hd he hf lt = omega arith
in_word a b c d e f (suc zero) ha hb hc hd he hf lt = omega arith
in_word a b c d e f (suc (suc zero)) ha hb hc hd he hf lt = omega arith
in_word a b c d e f (suc (suc (suc zero))) ha hb hc hd he hf lt = omega arith
in_word a b c d e f (suc (suc (suc (suc zero)))) ha hb hc hd he hf lt = omega arith
in_word a b c d e f (suc (suc (suc (suc (suc zero))))) ha hb hc hd he hf lt = omega arith
in_word a b c d e f (suc (suc (suc (suc (suc (suc n)))))) ha hb hc hd he hf lt = absurd (omega arith)

-- a syllable of the first word
of_word : (w n : ℕ) (words : List ℕ) → n < 6 → syllable (w ∷ words) n ≡ (w / 256 ^ (5 - n)) % 256
of_word w n words lt = grind arith

-- a syllable of a later word
of_more : (w m n : ℕ) (words : List ℕ) → n ≡ 6 + m → syllable (w ∷ words) n ≡ syllable words m
of_more w m n words is = grind arith

pub syllable_is : (xs : List ℕ) (n : ℕ) → Bytes xs → n < 6 * length (packed_words xs) → syllable (packed_words xs) n ≡ get_or xs n 0
syllable_is [] n h lt = absurd (omega arith)
syllable_is (a ∷ []) n h lt = absurd (omega arith)
syllable_is (a ∷ b ∷ []) n h lt = absurd (omega arith)
syllable_is (a ∷ b ∷ c ∷ []) n h lt = absurd (omega arith)
syllable_is (a ∷ b ∷ c ∷ d ∷ []) n h lt = absurd (omega arith)
syllable_is (a ∷ b ∷ c ∷ d ∷ e ∷ []) n h lt = absurd (omega arith)
syllable_is (a ∷ b ∷ c ∷ d ∷ e ∷ f ∷ more) zero h lt = of_word (word_of a b c d e f) 0 (packed_words more) (omega arith) ∙ in_word a b c d e f 0 h.0 h.1.0 h.1.1.0 h.1.1.1.0 h.1.1.1.1.0 h.1.1.1.1.1.0 (omega arith)
syllable_is (a ∷ b ∷ c ∷ d ∷ e ∷ f ∷ more) (suc zero) h lt = of_word (word_of a b c d e f) 1 (packed_words more) (omega arith) ∙ in_word a b c d e f 1 h.0 h.1.0 h.1.1.0 h.1.1.1.0 h.1.1.1.1.0 h.1.1.1.1.1.0 (omega arith)
syllable_is (a ∷ b ∷ c ∷ d ∷ e ∷ f ∷ more) (suc (suc zero)) h lt = of_word (word_of a b c d e f) 2 (packed_words more) (omega arith) ∙ in_word a b c d e f 2 h.0 h.1.0 h.1.1.0 h.1.1.1.0 h.1.1.1.1.0 h.1.1.1.1.1.0 (omega arith)
syllable_is (a ∷ b ∷ c ∷ d ∷ e ∷ f ∷ more) (suc (suc (suc zero))) h lt = of_word (word_of a b c d e f) 3 (packed_words more) (omega arith) ∙ in_word a b c d e f 3 h.0 h.1.0 h.1.1.0 h.1.1.1.0 h.1.1.1.1.0 h.1.1.1.1.1.0 (omega arith)
syllable_is (a ∷ b ∷ c ∷ d ∷ e ∷ f ∷ more) (suc (suc (suc (suc zero)))) h lt = of_word (word_of a b c d e f) 4 (packed_words more) (omega arith) ∙ in_word a b c d e f 4 h.0 h.1.0 h.1.1.0 h.1.1.1.0 h.1.1.1.1.0 h.1.1.1.1.1.0 (omega arith)
syllable_is (a ∷ b ∷ c ∷ d ∷ e ∷ f ∷ more) (suc (suc (suc (suc (suc zero))))) h lt = of_word (word_of a b c d e f) 5 (packed_words more) (omega arith) ∙ in_word a b c d e f 5 h.0 h.1.0 h.1.1.0 h.1.1.1.0 h.1.1.1.1.0 h.1.1.1.1.1.0 (omega arith)
syllable_is (a ∷ b ∷ c ∷ d ∷ e ∷ f ∷ more) (suc (suc (suc (suc (suc (suc m)))))) h lt = grind (arith, of_more, syllable_is more m h.1.1.1.1.1.1)

-- whole words
pub packed_length : (xs : List ℕ) → length xs % 6 ≡ 0 → 6 * length (packed_words xs) ≡ length xs
packed_length [] e = refl
packed_length (a ∷ []) e = absurd (omega arith)
packed_length (a ∷ b ∷ []) e = absurd (omega arith)
packed_length (a ∷ b ∷ c ∷ []) e = absurd (omega arith)
packed_length (a ∷ b ∷ c ∷ d ∷ []) e = absurd (omega arith)
packed_length (a ∷ b ∷ c ∷ d ∷ e' ∷ []) e = absurd (omega arith)
packed_length (a ∷ b ∷ c ∷ d ∷ e' ∷ f ∷ more) e = omega (arith, packed_length more (omega arith))

word_is : (bits : ℕ) (after : List ℕ) → bits < 2 ^ 48 → packed_words (six_syllables bits ++ after) ≡ bits ∷ packed_words after
word_is bits after small = grind arith

-- a literal's word
pub literal_is : (before : List ℕ) (q bits : ℕ) (after : List ℕ) → bits < 2 ^ 48 → length before ≡ 6 * q → slice_get (packed_words (before ++ (six_syllables bits ++ after))) q ≡ Some bits
literal_is [] q bits after small e = grind arith
literal_is (a ∷ []) q bits after small e = absurd (omega arith)
literal_is (a ∷ b ∷ []) q bits after small e = absurd (omega arith)
literal_is (a ∷ b ∷ c ∷ []) q bits after small e = absurd (omega arith)
literal_is (a ∷ b ∷ c ∷ d ∷ []) q bits after small e = absurd (omega arith)
literal_is (a ∷ b ∷ c ∷ d ∷ e' ∷ []) q bits after small e = absurd (omega arith)
literal_is (a ∷ b ∷ c ∷ d ∷ e' ∷ f ∷ before) zero bits after small e = absurd (omega arith)
literal_is (a ∷ b ∷ c ∷ d ∷ e' ∷ f ∷ before) (suc q) bits after small e = literal_is before q bits after small (omega arith)
