-- Operators that are laid one behind the other are listed.
use Rattle.std.proofs.Common.{◌≡◌, ℕ, zero, suc, ◌+◌, ◌-◌, ◌*◌, ◌/◌, ◌%◌, ◌^◌, ◌≤◌, ◌<◌, true, false, refl, sym, ◌∙◌, ap, subst, arith, append_assoc, length-append, Option, Some, None, List, [], ◌∷◌, ◌++◌, length, replicate, get_or, Ok, Err}
use Rattle.std.specs.Prelude.{slice_get, slice_index, nat_lt, IfSome}
use Rattle.std.proofs.lemmas.Bool.{and_parts, ltb-true}
use Rattle.std.proofs.lemmas.Bool.Decides.{nat_tests}
use Rattle.std.proofs.lemmas.List.{get_or_append_left, get_or-append-add, length-replicate}
use Rattle.b67_model.specs.declared.operators.Op.{Op}
use Rattle.b67_model.specs.declared.operators.Op.TheVariants.{Valc, Namc, Lt8, Lt16, Lt48, Mpcw, Brun, Brtr, Brfl, Bset, Brst, Isol, Insr, Plain}
use Rattle.b67_model.specs.declared.operators.Code.{Code}
use Rattle.b67_model.specs.declared.operators.Code.TheVariants.{Add, Nvld}
use Rattle.b67_model.specs.declared.operators.Undecodable.TheVariants.{BadPlace}
use Rattle.b67_model.specs.Common.{Reading, syllable, place_at, count_at, operator_at, syllable_of, syllables, literal, after_literal, syllable_after, IsLaid, At, entries_from, listing}
use Rattle.b67_model_text.specs.Encoding.{filling, six_syllables, literal_part, laid_one, laid, packed_words, code_words}
use Rattle.b67_syllable.proofs.EncodingLemmas.{reads_back}
use Rattle.b67_law_examples.specs.Operators.{HasBits, AllHaveBits, filled, listed_entries}
use Rattle.b67_law_examples.proofs.Packing.{Bytes, IsByte, syllable_is, packed_length, literal_is}

-- bytes
bytes_append : (xs ys : List ℕ) → Bytes xs → Bytes ys → Bytes (xs ++ ys)
bytes_append [] ys h k = k
bytes_append (x ∷ xs) ys h k = (h.0, bytes_append xs ys h.1 k)

bytes_replicate : (k : ℕ) → Bytes (replicate k 0xFF)
bytes_replicate zero = tt
bytes_replicate (suc k) = (omega arith, bytes_replicate k)

code_byte : (code : Code) → IsByte (syllable_of code)
code_byte code = grind arith

syllables_bytes : (op : Op) → HasBits op → Bytes (syllables op)
syllables_bytes op h = grind arith

six_bytes : (bits : ℕ) → Bytes (six_syllables bits)
six_bytes bits = (omega arith, (omega arith, (omega arith, (omega arith, (omega arith, (omega arith, tt))))))

literal_bytes : (l : Option ℕ) (n : ℕ) → Bytes (literal_part l n)
literal_bytes l n = grind (arith, bytes_append, bytes_replicate)

one_bytes : (n : ℕ) (op : Op) → HasBits op → Bytes (laid_one n op)
one_bytes n op h = bytes_append (syllables op) (literal_part (literal op) (n + length (syllables op))) (syllables_bytes op h) (literal_bytes (literal op) (n + length (syllables op)))

pub laid_bytes : (n : ℕ) (ops : List Op) → AllHaveBits ops → Bytes (laid n ops)
laid_bytes n [] h = bytes_replicate ((6 - n % 6) % 6)
laid_bytes n (op ∷ more) h = bytes_append (laid_one n op) (laid (n + length (laid_one n op)) more) (one_bytes n op h.0) (laid_bytes (n + length (laid_one n op)) more h.1)

-- whole words
filling_length : (n : ℕ) → length (filling n) ≡ (6 - n % 6) % 6
filling_length n = length-replicate ((6 - n % 6) % 6) 0xFF

pub laid_whole : (n : ℕ) (ops : List Op) → (n + length (laid n ops)) % 6 ≡ 0
laid_whole n [] = omega (arith, filling_length n)
laid_whole n (op ∷ more) = omega (arith, length-append (laid_one n op) (laid (n + length (laid_one n op)) more), laid_whole (n + length (laid_one n op)) more)

-- an operator with a literal has one syllable before it
abbrev Fits : Option ℕ → ℕ → Type 0
Fits None count = 1 ≤ count
Fits (Some bits) count = (count ≡ 1) × (bits < 2 ^ 48)

fits : (op : Op) → HasBits op → Fits (literal op) (length (syllables op))
fits op h = grind arith

literal_length : (bits n : ℕ) → length (literal_part (Some bits) n) ≡ (6 - n % 6) % 6 + 6
literal_length bits n = length-append (filling n) (six_syllables bits) ∙ ap (λ k. k + 6) (filling_length n)

behind_literal : (s : List ℕ) (l : Option ℕ) (n : ℕ) → Fits l (length s) → after_literal l n (length s) ≡ n + length (s ++ literal_part l (n + length s))
behind_literal s l n h = grind (arith, length-append, literal_length)

-- the place behind an operator, as it is read and as it is laid
pub after_is : (op : Op) (n : ℕ) → HasBits op → syllable_after op n ≡ n + length (laid_one n op)
after_is op n h = behind_literal (syllables op) (literal op) n (fits op h)

some_syllable : (s : List ℕ) (l : Option ℕ) (n : ℕ) → Fits l (length s) → 1 ≤ length (s ++ literal_part l n)
some_syllable s l n h = grind (arith, length-append)

-- syllables and a literal stand where they are laid
pub record Whole (t : List ℕ) : Type 0 where
  pub bytes : Bytes t
  pub words : 6 * length (packed_words t) ≡ length t

lengths : (t before s l after : List ℕ) → t ≡ before ++ ((s ++ l) ++ after) → length t ≡ length before + (length s + length l + length after)
lengths t before s l after is = ap length is ∙ omega (arith, length-append before ((s ++ l) ++ after), length-append (s ++ l) after, length-append s l)

each_there : (t before s l after : List ℕ) (n k : ℕ) → Whole t → n ≡ length before → t ≡ before ++ ((s ++ l) ++ after) → k < length s → syllable (packed_words t) (n + k) ≡ slice_index s k
each_there t before s l after n k w at is lt =
    let inside : n + k < 6 * length (packed_words t) = omega (arith, w.words, lengths t before s l after is) in
    grind (arith, length-append, syllable_is, get_or-append-add, get_or_append_left)

together : (before s f six after : List ℕ) → before ++ ((s ++ (f ++ six)) ++ after) ≡ (before ++ (s ++ f)) ++ (six ++ after)
together before s f six after = grind (arith, append_assoc)

literal_there : (t before s after : List ℕ) (l : Option ℕ) (n : ℕ) → n ≡ length before → Fits l (length s) → t ≡ before ++ ((s ++ literal_part l (n + length s)) ++ after) → IfSome l (λ bits. slice_get (packed_words t) (n / 6 + 1) ≡ Some bits)
literal_there t before s after None n at h is = tt
literal_there t before s after (Some bits) n at h is = grind (arith, length-append, filling_length, together, literal_is)

laid_there : (t before s after : List ℕ) (l : Option ℕ) (n : ℕ) → Whole t → n ≡ length before → Fits l (length s) → t ≡ before ++ ((s ++ literal_part l (n + length s)) ++ after) → IsLaid s l (packed_words t) n
laid_there t before s after l n w at h is = record {
  each = λ k lt. each_there t before s (literal_part l (n + length s)) after n k w at is lt;
  inside = omega (arith, at, w.words, lengths t before s (literal_part l (n + length s)) after is);
  next_word = literal_there t before s after l n at h is;
}

-- an operator is read where it is laid, and the place behind it
pub read_one : (t before after : List ℕ) (op : Op) (n : ℕ) → Whole t → n ≡ length before → HasBits op → t ≡ before ++ (laid_one n op ++ after) → operator_at (packed_words t) (place_at n) ≡ Ok (op, place_at (n + length (laid_one n op)))
read_one t before after op n w at h is =
    let count : n ≡ count_at (place_at n) = omega arith in
    let in_word : n % 6 < 6 = omega arith in
    reads_back op h (packed_words t) (place_at n) in_word (subst (IsLaid (syllables op) (literal op) (packed_words t)) count (laid_there t before (syllables op) after (literal op) n w at (fits op h) is)) ∙
    ap (λ m. Ok (op, place_at (after_literal (literal op) m (length (syllables op))))) (sym count) ∙ ap (λ m. Ok (op, place_at m)) (after_is op n h)

-- past the end
none_there : (words : List ℕ) (n : ℕ) → n ≡ 6 * length words → operator_at words (place_at n) ≡ Err BadPlace
none_there words n e =
    let in_word : nat_lt (n % 6) 6 ≡ true = grind (arith, nat_tests) in
    let past : length words ≤ n / 6 = omega arith in
    let outside : nat_lt (n / 6) (length words) ≡ false = grind (arith, nat_tests) in
    rw (in_word, outside) refl

-- operators one behind the other from syllable n on
abbrev pub strung : ℕ → List Op → List ℕ
strung n [] = []
strung n (op ∷ more) = laid_one n op ++ strung (n + length (laid_one n op)) more

filling_strung : (k n : ℕ) → replicate k 0xFF ≡ strung n (replicate k (Plain Nvld))
filling_strung zero n = refl
filling_strung (suc k) n = ap (λ xs. 0xFF ∷ xs) (filling_strung k (n + 1))

laid_strung : (n : ℕ) (ops : List Op) → laid n ops ≡ strung n (filled n ops)
laid_strung n [] = filling_strung ((6 - n % 6) % 6) n
laid_strung n (op ∷ more) = ap (λ xs. laid_one n op ++ xs) (laid_strung (n + length (laid_one n op)) more)

nvld_bits : (k : ℕ) → AllHaveBits (replicate k (Plain Nvld))
nvld_bits zero = tt
nvld_bits (suc k) = (refl, nvld_bits k)

filled_bits : (n : ℕ) (ops : List Op) → AllHaveBits ops → AllHaveBits (filled n ops)
filled_bits n [] h = nvld_bits ((6 - n % 6) % 6)
filled_bits n (op ∷ more) h = (h.0, filled_bits (n + length (laid_one n op)) more h.1)

ended : (fuel : ℕ) (words : List ℕ) (n : ℕ) (r : Reading) → r ≡ Err BadPlace → entries_from fuel words (place_at n) r ≡ []
ended fuel words n r e = grind arith

listed : (t before : List ℕ) (ops : List Op) (fuel n : ℕ) → Whole t → n ≡ length before → AllHaveBits ops → t ≡ before ++ strung n ops → length t ≤ fuel + n → entries_from fuel (packed_words t) (place_at n) (operator_at (packed_words t) (place_at n)) ≡ listed_entries n ops
listed t before [] fuel n w at h is enough = grind (arith, ended, none_there, length-append)
listed t before (op ∷ more) zero n w at h is enough = grind (arith, length-append)
listed t before (op ∷ more) (suc fuel) n w at h is enough = grind (arith, read_one, length-append, append_assoc, listed t (before ++ laid_one n op) more fuel)

-- the listing of operators' code is these operators, and NVLD up to a whole word
pub listing_is : (ops : List Op) → AllHaveBits ops → listing (code_words ops) ≡ listed_entries 0 (filled 0 ops)
listing_is ops h =
    let t : List ℕ = laid 0 ops in
    let words : 6 * length (packed_words t) ≡ length t = packed_length t (omega (arith, laid_whole 0 ops)) in
    listed t [] (filled 0 ops) (6 * length (packed_words t)) 0 (record { bytes = laid_bytes 0 ops h; words = words }) refl (filled_bits 0 ops h) (laid_strung 0 ops) (omega arith)
