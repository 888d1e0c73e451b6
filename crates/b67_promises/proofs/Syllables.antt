-- The syllables and the words of assembled segments.
use Rattle.std.proofs.Common.{inl, inr, ◌≡◌, ℕ, zero, suc, ◌+◌, ◌-◌, ◌*◌, ◌%◌, ◌^◌, ◌<◌, ◌≤◌, Bool, true, false, not, refl, sym, subst, arith, Option, Some, List, [], ◌∷◌, ◌++◌, length, map, replicate, Ok}
use Rattle.std.specs.Prelude.{◌||◌}
use Rattle.std.specs.List.{AllByRecursion, list_any}
use Rattle.std.proofs.lemmas.Bool.{and_parts}
use Rattle.std.proofs.lemmas.Option.{same_Some, none-some}
use Rattle.std.proofs.lemmas.List.{length-append, length-map, length-replicate}
use Rattle.b67_word.specs.Tagged.{word}
use Rattle.b67_model.specs.declared.operators.Op.{Op}
use Rattle.b67_model.specs.declared.operators.Code.{Code}
use Rattle.b67_model.specs.Common.{has_bits, literal, syllable_of, syllables}
use Rattle.b67_codefile.specs.Spelling.{HasTag, AreWordsOfTag}
use Rattle.b67_model_text.specs.declared.assembly.Call as call
use Rattle.b67_model_text.specs.declared.assembly.Sketch as sketch
use Rattle.b67_model_text.specs.declared.assembly.Sketch.TheVariants.{Whole, OutOfRange, Couple as Coupled, Row as RowCoupled, Jump, Pcw, PcwAt}
use Rattle.b67_model_text.specs.declared.assembly.Statement as statement
use Rattle.b67_model_text.specs.declared.assembly.Statement.TheVariants as statements
use Rattle.b67_model_text.specs.declared.assembly.Line.{Line}
use Rattle.b67_model_text.specs.Answers.{Answer}
use Rattle.b67_model_text.specs.Encoding.{six_syllables, literal_part, laid_one, laid, packed_words, code_words}
use Rattle.b67_model_text.specs.Statements.{segment, row}
use Rattle.b67_model_text.specs.Asm.{Scope, SegmentContent, after_operator, is_in_range, call_operator, denoted, is_code, is_numbers, is_entry_card, own}
use Rattle.b67_model_text.specs.Pass.{Added, with_added, syllable_behind, entries_behind, pass_content}
use Rattle.b67_model_text.proofs.Contents.{Adds, headed}
use Rattle.b67_law_examples.proofs.Packing.{packed_length}
use Rattle.b67_law_examples.proofs.Laying.{laid_whole}
use Rattle.b67_promises.proofs.HexBack.{IsByte}
use Rattle.b67_model.specs.declared.limits.TheConstants.{MOST_SEGMENT}

abbrev pub Bytes : List ℕ → Type 0
Bytes xs = AllByRecursion IsByte xs

pub bytes_append : (xs ys : List ℕ) → Bytes xs → Bytes ys → Bytes (xs ++ ys)
bytes_append [] ys h k = k
bytes_append (x ∷ xs) ys h k = (h.0, bytes_append xs ys h.1 k)

bytes_replicate : (k : ℕ) → Bytes (replicate k 0xFF)
bytes_replicate zero = tt
bytes_replicate (suc k) = (omega arith, bytes_replicate k)

-- ---- the syllables of operators

abbrev HasBytes : Op → Type 0
HasBytes op = Bytes (syllables op)

code_byte : (code : Code) → IsByte (syllable_of code)
code_byte code = grind arith

by_bits : (op : Op) → has_bits op ≡ true → HasBytes op
by_bits op h = grind arith

called_bytes : (c : call.Call) (bits : ℕ) → HasBytes (call_operator c bits)
called_bytes c bits = grind arith

denoted_bytes : (x : Scope) (s : sketch.Sketch) (op : Op) → is_in_range s ≡ true → denoted x s ≡ Some op → HasBytes op
denoted_bytes x (Whole own) op r e = subst HasBytes (same_Some own op e) (by_bits own r)
denoted_bytes x OutOfRange op r e = absurd (none-some op e)
denoted_bytes x (Coupled c couple) op r e = grind (arith, called_bytes)
denoted_bytes x (RowCoupled c row) op r e = grind (arith, called_bytes)
denoted_bytes x (Jump b label) op r e = grind arith
denoted_bytes x (Pcw segment) op r e = grind arith
denoted_bytes x (PcwAt segment label) op r e = grind arith

six_bytes : (bits : ℕ) → Bytes (six_syllables bits)
six_bytes bits = (omega arith, (omega arith, (omega arith, (omega arith, (omega arith, (omega arith, tt))))))

literal_bytes : (l : Option ℕ) (n : ℕ) → Bytes (literal_part l n)
literal_bytes l n = grind (arith, bytes_append, bytes_replicate)

one_bytes : (n : ℕ) (op : Op) → HasBytes op → Bytes (laid_one n op)
one_bytes n op h = bytes_append (syllables op) (literal_part (literal op) (n + length (syllables op))) h (literal_bytes (literal op) (n + length (syllables op)))

some_syllable : (op : Op) → 1 ≤ length (syllables op)
some_syllable op = grind arith

-- ---- the syllables of a segment

-- they are bytes, and end within the longest segment
pub record IsLaidIn (n : ℕ) (ops : List Op) : Type 0 where
  bytes : Bytes (laid n ops)
  low : n + length (laid n ops) ≤ 6 * MOST_SEGMENT

pub content_laid : (x : Scope) (n : ℕ) (entries : List ℕ) (lines : List Line) (content : SegmentContent) → n ≤ 6 * MOST_SEGMENT → pass_content x n entries lines ≡ Ok content → IsLaidIn n content.operators
content_laid x n entries [] content low e = grind (arith, bytes_replicate, length-replicate)
content_laid x n entries (l ∷ more) content low e =
    let h = headed x n entries l more content e in
    subst (λ (c : SegmentContent). IsLaidIn n c.operators) h.all
    (by h.added h.rest h.adds (λ low. content_laid x (syllable_behind n h.added) (entries_behind entries h.added) more h.rest low h.behind_it))
  where
    by : (added : Added) (rest : SegmentContent) → Adds x n entries l added → (syllable_behind n added ≤ 6 * MOST_SEGMENT → IsLaidIn (syllable_behind n added) rest.operators) → IsLaidIn n (with_added added rest).operators
    by added rest (inl a) go =
        let go' : after_operator n a.op ≤ 6 * MOST_SEGMENT → IsLaidIn (after_operator n a.op) rest.operators = subst (λ (z : Added). syllable_behind n z ≤ 6 * MOST_SEGMENT → IsLaidIn (syllable_behind n z) rest.operators) (sym a.is) go in
        let there = go' a.taken.room in
        subst (λ (z : Added). IsLaidIn n (with_added z rest).operators) a.is (record {
          bytes = bytes_append (laid_one n a.op) (laid (after_operator n a.op) rest.operators) (one_bytes n a.op (denoted_bytes x a.own a.op a.taken.in_range a.taken.denotes)) there.bytes;
          low = omega (arith, length-append (laid_one n a.op) (laid (after_operator n a.op) rest.operators), there.low);
        })
    by added rest (inr a) go =
        let go' : n ≤ 6 * MOST_SEGMENT → IsLaidIn n rest.operators = subst (λ (z : Added). syllable_behind n z ≤ 6 * MOST_SEGMENT → IsLaidIn (syllable_behind n z) rest.operators) (sym a.is) go in
        subst (λ (z : Added). IsLaidIn n (with_added z rest).operators) a.is (go' low)

no_fewer : (added : Added) (rest : SegmentContent) → length rest.operators ≤ length (with_added added rest).operators
no_fewer added rest = grind arith

-- a card that isn't a NUM nor an ENTRY has an operator
pub some_operators : (x : Scope) (n : ℕ) (entries : List ℕ) (lines : List Line) (content : SegmentContent) → pass_content x n entries lines ≡ Ok content → list_any is_code lines ≡ true → 1 ≤ length content.operators
some_operators x n entries [] content e t = absurd (let z : ⊥ = cc in z)
some_operators x n entries (l ∷ more) content e t =
    let h = headed x n entries l more content e in
    subst (λ (c : SegmentContent). 1 ≤ length c.operators) h.all
    (by_test h.added h.rest h.adds (λ t. some_operators x (syllable_behind n h.added) (entries_behind entries h.added) more h.rest h.behind_it t) (is_code l) refl t)
  where
    by : (added : Added) (rest : SegmentContent) → Adds x n entries l added → is_code l ≡ true → 1 ≤ length (with_added added rest).operators
    by added rest (inl a) c = subst (λ (z : Added). 1 ≤ length (with_added z rest).operators) a.is (omega arith)
    by added rest (inr a) c =
        let both = and_parts (not (is_numbers l.kind)) (not (is_entry_card l.kind l.says)) c in
        let no : not (is_entry_card l.kind (Ok (statements.Entry a.label))) ≡ true = subst (λ (s : Answer statement.Statement). not (is_entry_card l.kind s) ≡ true) a.says both.1 in
        absurd (let z : ⊥ = cc in z)

    by_test : (added : Added) (rest : SegmentContent) → Adds x n entries l added → (list_any is_code more ≡ true → 1 ≤ length rest.operators) → (b : Bool) → is_code l ≡ b → (b || list_any is_code more) ≡ true → 1 ≤ length (with_added added rest).operators
    by_test added rest adds go true is t = by added rest adds is
    by_test added rest adds go false is t = omega (arith, go t, no_fewer added rest)

-- ---- words of code

abbrev pub IsSmallWord : ℕ → Type 0
IsSmallWord w = w < 2 ^ 48

packed_small : (xs : List ℕ) → Bytes xs → AllByRecursion IsSmallWord (packed_words xs)
packed_small [] h = tt
packed_small (a ∷ []) h = tt
packed_small (a ∷ b ∷ []) h = tt
packed_small (a ∷ b ∷ c ∷ []) h = tt
packed_small (a ∷ b ∷ c ∷ d ∷ []) h = tt
packed_small (a ∷ b ∷ c ∷ d ∷ e ∷ []) h = tt
packed_small (a ∷ b ∷ c ∷ d ∷ e ∷ f ∷ more) h = grind (arith, packed_small more h.1.1.1.1.1.1)

pub have_tag : (tag : ℕ) (ws : List ℕ) → AllByRecursion IsSmallWord ws → AllByRecursion (HasTag tag) (map (word tag) ws)
have_tag tag [] all = tt
have_tag tag (w ∷ ws) all = (record { tagged = refl; bits = all.0 }, have_tag tag ws all.1)

some_laid : (ops : List Op) → 1 ≤ length ops → 1 ≤ length (laid 0 ops)
some_laid [] some = absurd (omega arith)
some_laid (op ∷ more) some = grind arith

pub code_fits : (ops : List Op) → 1 ≤ length ops → IsLaidIn 0 ops → AreWordsOfTag 3 MOST_SEGMENT (map (word 3) (code_words ops))
code_fits ops some l =
    let whole : length (laid 0 ops) % 6 ≡ 0 = omega (arith, laid_whole 0 ops) in
    grind (arith, packed_length, length-map, some_laid, have_tag, packed_small)
