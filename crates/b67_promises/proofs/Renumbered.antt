-- What cards denote doesn't depend on their numbers, unless one is refused.
use Rattle.std.proofs.Common.{◌≡◌, ℕ, zero, suc, ◌+◌, Bool, true, false, cond, List, [], ◌∷◌, length, map, refl, sym, ap, ◌∙◌, Option, Some, None, unwrap_or, Result, Ok, Err, arith}
use Rattle.std.specs.Prelude.{◌||◌, ◌&&◌, nat_lt, slice_get, ⊤}
use Rattle.std.specs.List.{list_any, cons_option}
use Rattle.std.proofs.lemmas.Option.{same_Some}
use Rattle.b67_model.specs.Common.{Program}
use Rattle.b67_model_text.specs.declared.card.Card.{Card}
use Rattle.b67_model_text.specs.declared.assembly.Line.{Line}
use Rattle.b67_model_text.specs.declared.assembly.Statement as statement
use Rattle.b67_model_text.specs.Answers.{Answer, ◌>>=◌, ◌>>◌, needs, or_reason}
use Rattle.b67_model_text.specs.Deck.{Refusal, of_card}
use Rattle.b67_model_text.specs.Statements.{line_with, lines_of}
use Rattle.b67_model_text.specs.Asm.{definition, segments_behind, rows_behind, definitions, segment_count, meaning, label_at, syllable_after_card, labels, is_entry, is_head, own, cards_of_segments, cards_of, Names, names_of, Scope, SegmentContent, content_of, row_values, row_words, is_numbers, is_code, is_segment_number, is_row_number, Part, segment_part, row_part, program_part, with_part, program_from, no_strays, assembled}
use Rattle.b67_model_text.specs.Pass.{Added, added_by, syllable_behind, entries_behind, pass_content}
use Rattle.b67_model_text.proofs.Pass.{content_is}

-- ---- answers without the cards of refusals

-- the value, if there is one
abbrev pub answer_of : {A R : Type 0} → Result A R → Option A
answer_of (Ok a) = Some a
answer_of (Err r) = None

then_same : {A B R : Type 0} (r r' : Result A R) (f g : A → Result B R) → answer_of r ≡ answer_of r' → ((a : A) → answer_of (f a) ≡ answer_of (g a)) → answer_of (r >>= f) ≡ answer_of (r' >>= g)
then_same r r' f g e h = grind arith

after_same : {B R : Type 0} (r r' : Result ⊤ R) (x y : Result B R) → answer_of r ≡ answer_of r' → answer_of x ≡ answer_of y → answer_of (r >> x) ≡ answer_of (r' >> y)
after_same r r' x y e h = grind arith

of_any_card : {A : Type 0} (n m : ℕ) (r : Answer A) → answer_of (of_card n r) ≡ answer_of (of_card m r)
of_any_card n m r = grind arith

-- ---- lines without their numbers

abbrev pub unnumbered : Line → Line
unnumbered l = record { number = 0; kind = l.kind; says = l.says }

abbrev pub bare : List Line → List Line
bare ls = map unnumbered ls

definitions_bare : (s r : ℕ) (ls : List Line) → definitions s r (bare ls) ≡ definitions s r ls
definitions_bare s r [] = refl
definitions_bare s r (l ∷ more) = ap (cons_option (definition s r l.says)) (definitions_bare (segments_behind s l.says) (rows_behind r l.says) more)

count_bare : (s : ℕ) (ls : List Line) → segment_count s (bare ls) ≡ segment_count s ls
count_bare s [] = refl
count_bare s (l ∷ more) = count_bare (segments_behind s l.says) more

labels_bare : (n : ℕ) (ls : List Line) → labels n (bare ls) ≡ labels n ls
labels_bare n [] = refl
labels_bare n (l ∷ more) = ap (cons_option (label_at n l.says)) (labels_bare (syllable_after_card n l.says) more)

any_bare : (p : Line → Bool) → ((l : Line) → p (unnumbered l) ≡ p l) → (ls : List Line) → list_any p (bare ls) ≡ list_any p ls
any_bare p same [] = refl
any_bare p same (l ∷ more) = ap (λ (b : Bool). b || list_any p (bare more)) (same l) ∙ ap (λ (b : Bool). p l || b) (any_bare p same more)

own_bare : (ls : List Line) → own (bare ls) ≡ bare (own ls)
own_bare [] = refl
own_bare (l ∷ more) = grind (arith, own_bare more)

segments_bare : (ls : List Line) → cards_of_segments (bare ls) ≡ map bare (cards_of_segments ls)
segments_bare [] = refl
segments_bare (l ∷ more) = grind (arith, own_bare, segments_bare more)

got_bare : (lists : List (List Line)) (n : ℕ) → unwrap_or (slice_get (map bare lists) n) [] ≡ bare (unwrap_or (slice_get lists n) [])
got_bare [] n = refl
got_bare (ls ∷ lists) zero = refl
got_bare (ls ∷ lists) (suc n) = got_bare lists n

cards_bare : (ls : List Line) (n : ℕ) → cards_of (bare ls) n ≡ bare (cards_of ls n)
cards_bare ls n = ap (λ (lists : List (List Line)). unwrap_or (slice_get lists n) []) (segments_bare ls) ∙ got_bare (cards_of_segments ls) n

own_labels_bare : (ls : List Line) (n : ℕ) → labels 0 (cards_of (bare ls) n) ≡ labels 0 (cards_of ls n)
own_labels_bare ls n = ap (labels 0) (cards_bare ls n) ∙ labels_bare 0 (cards_of ls n)

entry_bare : (ls : List Line) (label : List ℕ) → is_entry (bare ls) label ≡ is_entry ls label
entry_bare ls label = grind (arith, any_bare, labels_bare)

own_entry_bare : (ls : List Line) (n : ℕ) (label : List ℕ) → is_entry (cards_of (bare ls) n) label ≡ is_entry (cards_of ls n) label
own_entry_bare ls n label = ap (λ (xs : List Line). is_entry xs label) (cards_bare ls n) ∙ entry_bare (cards_of ls n) label

names_bare : (ls : List Line) → names_of (bare ls) ≡ names_of ls
names_bare ls = grind (arith, definitions_bare, own_labels_bare, own_entry_bare)

-- ---- what they denote

pass_bare : (x : Scope) (n : ℕ) (entries : List ℕ) (ls : List Line) → answer_of (pass_content x n entries (bare ls)) ≡ answer_of (pass_content x n entries ls)
pass_bare x n entries [] = refl
pass_bare x n entries (l ∷ more) = then_same _ _ _ _ (of_any_card 0 l.number (l.says >>= added_by x n entries))
    (λ (added : Added). then_same _ _ _ _ (pass_bare x (syllable_behind n added) (entries_behind entries added) more) (λ (rest : SegmentContent). refl))

content_bare : (x : Scope) (ls : List Line) → answer_of (content_of x (bare ls)) ≡ answer_of (content_of x ls)
content_bare x ls = ap answer_of (content_is x (bare ls)) ∙ pass_bare x 0 [] ls ∙ sym (ap answer_of (content_is x ls))

row_words_bare : (names : Names) (n : ℕ) (ls : List Line) → answer_of (row_words names n (bare ls)) ≡ answer_of (row_words names n ls)
row_words_bare names n [] = refl
row_words_bare names n (l ∷ more) = then_same _ _ _ _ (of_any_card 0 l.number (l.says >>= row_values names n))
    (λ (words : List ℕ). then_same _ _ _ _ (row_words_bare names (n + length words) more) (λ (rest : List ℕ). refl))

-- one test of a card, of any number
test_same : (n m reason : ℕ) (a b : Bool) → a ≡ b → answer_of (of_card n (needs a reason)) ≡ answer_of (of_card m (needs b reason))
test_same n m reason a b e = of_any_card n m (needs a reason) ∙ ap (λ (t : Bool). answer_of (of_card m (needs t reason))) e

scope_same : (names : Names) (segments l : ℕ) (ls : List Line) → ◌≡◌ {A = Scope} (record { names = names; segments = segments; level = l; labels = λ label. meaning (labels 0 (bare ls)) label }) (record { names = names; segments = segments; level = l; labels = λ label. meaning (labels 0 ls) label })
scope_same names segments l ls = λ j. record { names = names; segments = segments; level = l; labels = λ label. meaning (labels_bare 0 ls j) label }

segment_bare : (names : Names) (segments s r n m : ℕ) (name : List ℕ) (level : Option ℕ) (ls : List Line) → answer_of (segment_part names segments s r n name level (bare ls)) ≡ answer_of (segment_part names segments s r m name level ls)
segment_bare names segments s r n m name level ls = then_same _ _ _ _ (of_any_card n m (or_reason level 3))
    (λ (l : ℕ). after_same _ _ _ _ (of_any_card n m (needs (is_segment_number s (names.means name)) 4))
    (after_same _ _ _ _ (test_same n m 7 (list_any is_code (bare ls)) (list_any is_code ls) (any_bare is_code (λ x. refl) ls))
    (after_same _ _ _ _ (of_any_card n m (needs (nat_lt (s + r) 255) 9))
    (then_same _ _ _ _ (content_same l) (λ (content : SegmentContent). refl)))))
  where
    content_same : (l : ℕ) → answer_of (content_of (record { names = names; segments = segments; level = l; labels = λ label. meaning (labels 0 (bare ls)) label }) (bare ls)) ≡ answer_of (content_of (record { names = names; segments = segments; level = l; labels = λ label. meaning (labels 0 ls) label }) ls)
    content_same l = ap (λ (x : Scope). answer_of (content_of x (bare ls))) (scope_same names segments l ls)
        ∙ content_bare (record { names = names; segments = segments; level = l; labels = λ label. meaning (labels 0 ls) label }) ls

row_bare : (names : Names) (s r n m : ℕ) (name : List ℕ) (ls : List Line) → answer_of (row_part names s r n name (bare ls)) ≡ answer_of (row_part names s r m name ls)
row_bare names s r n m name ls = after_same _ _ _ _ (of_any_card n m (needs (is_row_number r (names.means name)) 4))
    (after_same _ _ _ _ (test_same n m 7 (list_any (λ l. is_numbers l.kind) (bare ls)) (list_any (λ l. is_numbers l.kind) ls) (any_bare (λ l. is_numbers l.kind) (λ x. refl) ls))
    (after_same _ _ _ _ (of_any_card n m (needs (nat_lt (s + r) 255) 9))
    (then_same _ _ _ _ (row_words_bare names 0 ls) (λ (words : List ℕ). refl))))

part_bare : (names : Names) (segments s r n m : ℕ) (a : Answer statement.Statement) (ls : List Line) → answer_of (program_part names segments s r n a (bare ls)) ≡ answer_of (program_part names segments s r m a ls)
part_bare names segments s r n m a ls = grind (arith, segment_bare, row_bare)

program_bare : (names : Names) (segments s r : ℕ) (ls : List Line) → answer_of (program_from names segments s r (bare ls)) ≡ answer_of (program_from names segments s r ls)
program_bare names segments s r [] = refl
program_bare names segments s r (l ∷ more) = by_test (is_head l.kind) (program_bare names segments s r more)
    (then_same _ _ _ _ (ap (λ (xs : List Line). answer_of (program_part names segments s r 0 l.says xs)) (own_bare more) ∙ part_bare names segments s r 0 l.number l.says (own more))
    (λ (part : Part). then_same _ _ _ _ (program_bare names segments (segments_behind s l.says) (rows_behind r l.says) more) (λ (rest : Program). refl)))
  where
    by_test : (b : Bool) → answer_of (program_from names segments s r (bare more)) ≡ answer_of (program_from names segments s r more)
        → answer_of (program_part names segments s r 0 l.says (own (bare more)) >>= λ part. program_from names segments (segments_behind s l.says) (rows_behind r l.says) (bare more) >>= λ rest. Ok (with_part part rest))
        ≡ answer_of (program_part names segments s r l.number l.says (own more) >>= λ part. program_from names segments (segments_behind s l.says) (rows_behind r l.says) more >>= λ rest. Ok (with_part part rest))
        → answer_of (cond b (program_part names segments s r 0 l.says (own (bare more)) >>= λ part. program_from names segments (segments_behind s l.says) (rows_behind r l.says) (bare more) >>= λ rest. Ok (with_part part rest)) (program_from names segments s r (bare more)))
        ≡ answer_of (cond b (program_part names segments s r l.number l.says (own more) >>= λ part. program_from names segments (segments_behind s l.says) (rows_behind r l.says) more >>= λ rest. Ok (with_part part rest)) (program_from names segments s r more))
    by_test true rest both = both
    by_test false rest both = rest

abbrev done : Result ⊤ Refusal
done = Ok tt

strays_bare : (names : Names) (ls : List Line) → answer_of (no_strays names (bare ls)) ≡ answer_of (no_strays names ls)
strays_bare names ls = grind arith

-- the program of lines
abbrev pub program_of_lines : List Line → Result Program Refusal
program_of_lines ls = no_strays (names_of ls) ls >>= λ _. program_from (names_of ls) (segment_count 0 ls) 0 0 ls

of_lines_bare : (ls : List Line) → answer_of (program_of_lines (bare ls)) ≡ answer_of (program_of_lines ls)
of_lines_bare ls =
    ap (λ (names : Names). answer_of (no_strays names (bare ls) >>= λ _. program_from names (segment_count 0 (bare ls)) 0 0 (bare ls))) (names_bare ls)
    ∙ ap (λ (n : ℕ). answer_of (no_strays (names_of ls) (bare ls) >>= λ _. program_from (names_of ls) n 0 0 (bare ls))) (count_bare 0 ls)
    ∙ then_same _ _ _ _ (strays_bare (names_of ls) ls) (λ _. program_bare (names_of ls) (segment_count 0 ls) 0 0 ls)

-- ---- cards of one text each

abbrev pub texts_of : List Card → List (List ℕ)
texts_of cards = map (λ (c : Card). c.text) cards

one_line : (n m : ℕ) (ws : List (List ℕ)) (xs ys : List Line) → bare xs ≡ bare ys → bare (cons_option (line_with n ws) xs) ≡ bare (cons_option (line_with m ws) ys)
one_line n m ws xs ys e = grind arith

same_lines : (cs ds : List Card) → texts_of cs ≡ texts_of ds → bare (lines_of cs) ≡ bare (lines_of ds)
same_lines [] [] e = refl
same_lines [] (d ∷ ds) e = absurd (let z : ⊥ = cc in z)
same_lines (c ∷ cs) [] e = absurd (let z : ⊥ = cc in z)
same_lines (c ∷ cs) (d ∷ ds) e = grind (arith, same_lines cs ds)

answered : {A R : Type 0} (r : Result A R) (a : A) → answer_of r ≡ Some a → r ≡ Ok a
answered r a e = grind arith

-- cards of the same texts denote the same program
pub same_program : (cs ds : List Card) (p : Program) → texts_of cs ≡ texts_of ds → assembled cs ≡ Ok p → assembled ds ≡ Ok p
same_program cs ds p e a =
    let same : answer_of (assembled cs) ≡ answer_of (assembled ds) =
    sym (of_lines_bare (lines_of cs)) ∙ ap (λ (ls : List Line). answer_of (program_of_lines ls)) (same_lines cs ds e) ∙ of_lines_bare (lines_of ds)
    in
    answered (assembled ds) p (sym same ∙ ap answer_of a)

pub one_program : (cs ds : List Card) (p q : Program) → texts_of cs ≡ texts_of ds → assembled cs ≡ Ok p → assembled ds ≡ Ok q → p ≡ q
one_program cs ds p q e a b = same_Some p q (sym (ap answer_of (same_program cs ds p e a)) ∙ ap answer_of b)
