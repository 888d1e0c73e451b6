-- One pass of an assembler makes the content of a segment's cards.
use Rattle.std.proofs.Common.{◌≡◌, ℕ, ◌+◌, Bool, true, false, not, refl, sym, ◌∙◌, ap, subst, arith, cond, Option, Some, None, List, [], ◌∷◌, length, Result, Ok, Err}
use Rattle.std.specs.Prelude.{nat_lt, ◌&&◌, ◌||◌, ◌==◌, fold, ⊤}
use Rattle.std.specs.List.{cons_option, list_any}
use Rattle.b67_model.specs.declared.operators.Op.{Op}
use Rattle.b67_model_text.specs.declared.assembly.Sketch as sketch
use Rattle.b67_model_text.specs.declared.assembly.Statement as statement
use Rattle.b67_model_text.specs.declared.assembly.Statement.TheVariants as statements
use Rattle.b67_model_text.specs.declared.assembly.Line.{Line}
use Rattle.b67_model_text.specs.Answers.{Answer, ◌>>=◌, ◌>>◌, needs}
use Rattle.b67_model_text.specs.Deck.{Refusal, of_card}
use Rattle.b67_model_text.specs.Asm.{Scope, SegmentContent, after_sketch, after_operator, syllable_after_card, placed_cards, denoted, card_operator, entry_syllable, entry_syllables, check_entry, check_card, check_cards, denoted_operator, denoted_operators, inserted_in_order, content_of}
use Rattle.b67_model_text.specs.Pass.{Added, AddedOperator, AddedEntry, entry_added, added_by, syllable_behind, entries_behind, with_added, pass_content}
use Rattle.b67_model_text.proofs.Contents.{taken_of, behind_is}

-- ---- a number among others

by_order : (p : ℕ → Bool) (n m : ℕ) (more : List ℕ) → list_any p (inserted_in_order n more) ≡ (p n || list_any p more) → (b : Bool) → list_any p (cond b (n ∷ m ∷ more) (m ∷ inserted_in_order n more)) ≡ (p n || (p m || list_any p more))
by_order p n m more rest true = refl
by_order p n m more rest false = ap (λ (b : Bool). p m || b) rest ∙ swapped (p m) (p n) (list_any p more)
  where
    swapped : (a b c : Bool) → (a || (b || c)) ≡ (b || (a || c))
    swapped true true c = refl
    swapped true false c = refl
    swapped false b c = refl

any_in_order : (p : ℕ → Bool) (n : ℕ) (ns : List ℕ) → list_any p (inserted_in_order n ns) ≡ (p n || list_any p ns)
any_in_order p n [] = refl
any_in_order p n (m ∷ more) = by_order p n m more (any_in_order p n more) (nat_lt n m)

length_in_order : (n : ℕ) (ns : List ℕ) → length (inserted_in_order n ns) ≡ length ns + 1
length_in_order n [] = refl
length_in_order n (m ∷ more) = by_test (length_in_order n more) (nat_lt n m)
  where
    by_test : length (inserted_in_order n more) ≡ length more + 1 → (b : Bool) → length (cond b (n ∷ m ∷ more) (m ∷ inserted_in_order n more)) ≡ length (m ∷ more) + 1
    by_test rest true = omega arith
    by_test rest false = omega (arith, rest)

-- these are the same numbers, as often
record AreSame (ns ms : List ℕ) : Type 0 where
  among : (n : ℕ) → list_any (λ m. m == n) ns ≡ list_any (λ m. m == n) ms
  count : length ns ≡ length ms

same_with : (n : ℕ) (ns ms : List ℕ) → AreSame ns ms → AreSame (inserted_in_order n ns) (n ∷ ms)
same_with n ns ms same = record {
  among = λ k. any_in_order (λ m. m == k) n ns ∙ ap (λ (b : Bool). (n == k) || b) (same.among k);
  count = omega (arith, length_in_order n ns, same.count);
}

-- ---- the pass

-- the content of these cards behind these entries
abbrev content_behind : Scope → List ℕ → List Line → SegmentContent
content_behind x entries lines = record { operators = denoted_operators x lines; entries = fold (λ sorted n. inserted_in_order n sorted) entries (entry_syllables x lines) }

abbrev answer : SegmentContent → Result SegmentContent Refusal
answer content = Ok content

added_last : (r : Result ⊤ Refusal) (added : Added) (content : SegmentContent) → (r >> answer (with_added added content)) ≡ ((r >> answer content) >>= λ rest. Ok (with_added added rest))
added_last (Ok done) added content = refl
added_last (Err refusal) added content = refl

-- what the pass makes of the cards behind one that adds this
abbrev rest_of : Scope → ℕ → List ℕ → List Line → Added → Result SegmentContent Refusal
rest_of x n entries more added = pass_content x (syllable_behind n added) (entries_behind entries added) more >>= λ rest. Ok (with_added added rest)

-- the cards behind these are as the pass says
abbrev IsPassed : Scope → (before more : List Line) → Type 0
IsPassed x before more = (n : ℕ) (entries : List ℕ) → AreSame entries (entry_syllables x before) → (check_cards x before (placed_cards n more) >> answer (content_behind x entries more)) ≡ pass_content x n entries more

operator_passed : (x : Scope) (n : ℕ) (before : List Line) (entries : List ℕ) (l : Line) (more : List Line) (label : Option (List ℕ)) (own : sketch.Sketch) → l.says ≡ Ok (statements.Operator label own) → AreSame entries (entry_syllables x before) → IsPassed x (l ∷ before) more
    → (o : Answer Op) → card_operator x n label own ≡ o
    → ((of_card l.number (o >>= λ op. Ok tt) >> check_cards x (l ∷ before) (placed_cards (after_sketch own n) more)) >> answer (record { operators = cons_option (denoted x own) (denoted_operators x more); entries = fold (λ sorted n. inserted_in_order n sorted) entries (entry_syllables x more) }))
    ≡ (of_card l.number (o >>= λ op. Ok (AddedOperator op)) >>= rest_of x n entries more)
operator_passed x n before entries l more label own says same go (Err reason) e = refl
operator_passed x n before entries l more label own says same go (Ok op) e =
    let t = taken_of x n label own op e in
    let here : AreSame entries (entry_syllables x (l ∷ before)) = subst (λ (a : Answer statement.Statement). AreSame entries (cons_option (entry_syllable x a) (entry_syllables x before))) (sym says) same in
    ap (λ (o : Option Op). check_cards x (l ∷ before) (placed_cards (after_sketch own n) more) >> answer (record { operators = cons_option o (denoted_operators x more); entries = fold (λ sorted n. inserted_in_order n sorted) entries (entry_syllables x more) })) t.denotes
    ∙ ap (λ (k : ℕ). check_cards x (l ∷ before) (placed_cards k more) >> answer (with_added (AddedOperator op) (content_behind x entries more))) (behind_is x own op n t.denotes)
    ∙ added_last (check_cards x (l ∷ before) (placed_cards (after_operator n op) more)) (AddedOperator op) (content_behind x entries more)
    ∙ ap (λ (r : Result SegmentContent Refusal). r >>= λ rest. Ok (with_added (AddedOperator op) rest)) (go (after_operator n op) entries here)

entry_passed : (x : Scope) (n : ℕ) (before : List Line) (entries : List ℕ) (l : Line) (more : List Line) (label : List ℕ) → l.says ≡ Ok (statements.Entry label) → AreSame entries (entry_syllables x before) → IsPassed x (l ∷ before) more
    → (o : Option ℕ) → x.labels label ≡ o
    → ((of_card l.number (check_entry (entry_syllables x before) o) >> check_cards x (l ∷ before) (placed_cards n more)) >> answer (record { operators = denoted_operators x more; entries = fold (λ sorted n. inserted_in_order n sorted) entries (cons_option o (entry_syllables x more)) }))
    ≡ (of_card l.number (entry_added entries o) >>= rest_of x n entries more)
entry_passed x n before entries l more label says same go None e = refl
entry_passed x n before entries l more label says same go (Some m) e =
    ap (λ (b : Bool). (of_card l.number (needs b 10) >> rest) >> content) (sym tests_same)
    ∙ by_test (not (m == 0) && not (list_any (λ k. k == m) entries) && nat_lt (length entries) 255)
  where
    rest : Result ⊤ Refusal
    rest = check_cards x (l ∷ before) (placed_cards n more)

    content : Result SegmentContent Refusal
    content = answer (content_behind x (inserted_in_order m entries) more)

    tests_same : (not (m == 0) && not (list_any (λ k. k == m) entries) && nat_lt (length entries) 255) ≡ (not (m == 0) && not (list_any (λ k. k == m) (entry_syllables x before)) && nat_lt (length (entry_syllables x before)) 255)
    tests_same =
        ap (λ (b : Bool). not (m == 0) && not b && nat_lt (length entries) 255) (same.among m)
        ∙ ap (λ (k : ℕ). not (m == 0) && not (list_any (λ k. k == m) (entry_syllables x before)) && nat_lt k 255) same.count

    behind : AreSame (inserted_in_order m entries) (entry_syllables x (l ∷ before))
    behind =
        subst (λ (a : Answer statement.Statement). AreSame (inserted_in_order m entries) (cons_option (entry_syllable x a) (entry_syllables x before))) (sym says)
        (subst (λ (o : Option ℕ). AreSame (inserted_in_order m entries) (cons_option o (entry_syllables x before))) (sym e) (same_with m entries (entry_syllables x before) same))

    by_test : (b : Bool) → ((of_card l.number (needs b 10) >> rest) >> content) ≡ (of_card l.number (needs b 10 >> Ok (AddedEntry m)) >>= rest_of x n entries more)
    by_test false = refl
    by_test true =
        added_last rest (AddedEntry m) (content_behind x (inserted_in_order m entries) more)
        ∙ ap (λ (r : Result SegmentContent Refusal). r >>= λ rest. Ok (with_added (AddedEntry m) rest)) (go n (inserted_in_order m entries) behind)

card_passed : (x : Scope) (n : ℕ) (before : List Line) (entries : List ℕ) (l : Line) (more : List Line) → AreSame entries (entry_syllables x before) → IsPassed x (l ∷ before) more
    → (a : Answer statement.Statement) → l.says ≡ a
    → ((of_card l.number (a >>= check_card x before n) >> check_cards x (l ∷ before) (placed_cards (syllable_after_card n a) more)) >> answer (record { operators = cons_option (denoted_operator x a) (denoted_operators x more); entries = fold (λ sorted n. inserted_in_order n sorted) entries (cons_option (entry_syllable x a) (entry_syllables x more)) }))
    ≡ (of_card l.number (a >>= added_by x n entries) >>= rest_of x n entries more)
card_passed x n before entries l more same go (Err reason) e = refl
card_passed x n before entries l more same go (Ok (statements.Segment name level)) e = refl
card_passed x n before entries l more same go (Ok (statements.Row name)) e = refl
card_passed x n before entries l more same go (Ok (statements.Values first others)) e = refl
card_passed x n before entries l more same go (Ok (statements.Operator label own)) e = operator_passed x n before entries l more label own e same go (card_operator x n label own) refl
card_passed x n before entries l more same go (Ok (statements.Entry label)) e = entry_passed x n before entries l more label e same go (x.labels label) refl

passed : (x : Scope) (before lines : List Line) → IsPassed x before lines
passed x before [] n entries same = refl
passed x before (l ∷ more) n entries same = card_passed x n before entries l more same (passed x (l ∷ before) more) l.says refl

-- the content of a segment's cards is what one pass makes of them
pub content_is : (x : Scope) (lines : List Line) → content_of x lines ≡ pass_content x 0 [] lines
content_is x lines = passed x [] lines 0 [] (record { among = λ n. refl; count = refl })
