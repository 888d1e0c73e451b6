-- What is read for a program's cards.
use Rattle.std.proofs.Common.{◌≡◌, ℕ, zero, suc, ◌+◌, ◌<◌, Bool, true, false, refl, sym, ◌∙◌, subst, arith, cond, Option, Some, None, List, [], ◌∷◌, length, map, take, Result, Ok, Err}
use Rattle.std.specs.Prelude.{nat_lt, ◌-◌, ⊤, slice_get, unwrap_or}
use Rattle.std.specs.List.{AllByRecursion, cons_option, list_any}
use Rattle.std.specs.Str.{bytes_eq}
use Rattle.std.proofs.lemmas.Bool.{ltb-true}
use Rattle.std.proofs.lemmas.Option.{none-some}
use Rattle.b67_model.specs.Program.{Program}
use Rattle.b67_model_text.specs.declared.card.Card.{Card}
use Rattle.b67_model.specs.declared.operators.Mnemonic.{Mnemonic}
use Rattle.b67_model_text.specs.declared.assembly.Sketch as sketch
use Rattle.b67_model_text.specs.declared.assembly.Statement as statement
use Rattle.b67_model_text.specs.declared.assembly.Statement.TheVariants as statements
use Rattle.b67_model_text.specs.declared.assembly.Kind as kind
use Rattle.b67_model_text.specs.declared.assembly.Kind.TheVariants as kinds
use Rattle.b67_model_text.specs.declared.assembly.Named as named
use Rattle.b67_model_text.specs.declared.assembly.Named.TheVariants as means
use Rattle.b67_model_text.specs.declared.assembly.Line.{Line}
use Rattle.b67_model_text.specs.Answers.{Answer, ◌>>=◌, ◌>>◌, needs, or_reason}
use Rattle.b67_model_text.specs.Cards.{words_in_card, name_in, is_empty}
use Rattle.b67_model_text.specs.Command.{row_of}
use Rattle.b67_model_text.specs.Deck.{Refusal, of_card}
use Rattle.b67_model_text.specs.Encoding.{code_words}
use Rattle.b67_model_text.specs.Statements.{mnemonics, sketch_of, literal_bits, all_bits, entry_named, operator, kind_of, is_label, with_label, labelled, says, without_comment, line_with, lines_of}
use Rattle.b67_model_text.specs.Asm.{Names, names_of, Scope, SegmentContent, content_of, syllable_bits, Part, CodePart, RowPart, meaning, definition, definitions, segments_behind, rows_behind, segment_count, labels, misplaced, is_head, is_code, is_numbers, own, with_cards, cards_of_segments, is_segment_number, is_row_number, segment_part, row_part, program_part, row_words, with_part, program_from, no_strays, assembled}
use Rattle.b67_model_text.proofs.Answers.{after_both, err-ok}
use Rattle.b67_model_text.proofs.Contents.{same_Ok, label_small}
use Rattle.b67_model_text.proofs.Pass.{content_is}
use Rattle.b67_law_examples.specs.Listing.{scope_in, SegmentsAreListed}
use Rattle.b67_law_examples.proofs.Denoting.{IsSmall, AreSmall}
use Rattle.b67_law_examples.proofs.Cards.{LabelsAreSmall, AllLabelsAreSmall, segment_read}

-- ---- only cards of segments and rows define names

abbrev defines : Answer statement.Statement → Bool
defines (Ok (statements.Segment name level)) = true
defines (Ok (statements.Row name)) = true
defines _ = false

mnemonic_defines : (label : Option (List ℕ)) (o : Option Mnemonic) (f : Mnemonic → Option sketch.Sketch) → defines (or_reason o 1 >>= λ m. or_reason (f m) 2 >>= λ s. Ok (statements.Operator label s)) ≡ false
mnemonic_defines label o f = grind arith

operator_defines : (label : Option (List ℕ)) (ws : List (List ℕ)) → defines (operator label ws) ≡ false
operator_defines label [] = refl
operator_defines label (key ∷ operands) = mnemonic_defines label (row_of key mnemonics) (λ m. sketch_of m operands)

label_defines : (o : Option (List ℕ)) (more : List (List ℕ)) → defines (with_label o more) ≡ false
label_defines o more = grind (arith, operator_defines)

labelled_defines : (ws : List (List ℕ)) → defines (labelled ws) ≡ false
labelled_defines [] = refl
labelled_defines (word ∷ more) = by_test (is_label word)
  where
    by_test : (b : Bool) → defines (cond b (with_label (name_in (take (length word - 1) word)) more) (operator None (word ∷ more))) ≡ false
    by_test true = label_defines (name_in (take (length word - 1) word)) more
    by_test false = operator_defines None (word ∷ more)

-- a line that is no head defines no name
abbrev IsKnown : Line → Type 0
IsKnown l = is_head l.kind ≡ false → defines l.says ≡ false

says_known : (k : kind.Kind) (more all : List (List ℕ)) → is_head k ≡ false → defines (says k more all) ≡ false
says_known k more all e = grind (arith, labelled_defines)

abbrev AllKnown : List Line → Type 0
AllKnown lines = AllByRecursion IsKnown lines

one_known : (number : ℕ) (ws : List (List ℕ)) (more : List Line) → AllKnown more → AllKnown (cons_option (line_with number ws) more)
one_known number [] more h = h
one_known number (word ∷ rest) more h = (says_known (kind_of word) rest (word ∷ rest), h)

lines_known : (cards : List Card) → AllKnown (lines_of cards)
lines_known [] = tt
lines_known (card ∷ more) = one_known card.number (words_in_card (without_comment card.text)) (lines_of more) (lines_known more)

-- ---- one part

-- the part that a card begins
record IsSegment (names : Names) (segments s r : ℕ) (lines : List Line) (part : Part) : Type 0 where
  level : ℕ
  content : SegmentContent
  taken : content_of (record { names = names; segments = segments; level = level; labels = λ label. meaning (labels 0 lines) label }) lines ≡ Ok content
  is : CodePart (record { level = level; entries = map syllable_bits content.entries; code = code_words content.operators }) ≡ part
  few : s + r < 255

after_card : {B : Type 0} (number : ℕ) (t : Bool) (reason : ℕ) (rest : Result B Refusal) (b : B) → (of_card number (needs t reason) >> rest) ≡ Ok b → (t ≡ true) × (rest ≡ Ok b)
after_card number t reason rest b e = grind arith

segment_is : (names : Names) (segments s r number : ℕ) (name : List ℕ) (level : Option ℕ) (lines : List Line) (part : Part) → segment_part names segments s r number name level lines ≡ Ok part → IsSegment names segments s r lines part
segment_is names segments s r number name level lines part e = grind arith

row_is : (names : Names) (s r number : ℕ) (name : List ℕ) (lines : List Line) (part : Part) → row_part names s r number name lines ≡ Ok part → (words : List ℕ) × (RowPart words ≡ part)
row_is names s r number name lines part e = grind arith

-- ---- segments that are named have numbers below 255

small_none : IsSmall None
small_none number level e = absurd (none-some (means.Segment number level) e)

head_small : (names : Names) (segments s r number : ℕ) (says : Answer statement.Statement) (lines : List Line) (part : Part) → program_part names segments s r number says lines ≡ Ok part → (rest : List (List ℕ × named.Named)) (q : List ℕ) → IsSmall (meaning rest q) → IsSmall (meaning (cons_option (definition s r says) rest) q)
head_small names segments s r number (Ok (statements.Segment name level)) lines part e rest q h = grind arith
head_small names segments s r number (Ok (statements.Row name)) lines part e rest q h = grind arith
head_small names segments s r number (Ok (statements.Values first more)) lines part e rest q h = h
head_small names segments s r number (Ok (statements.Operator label own)) lines part e rest q h = h
head_small names segments s r number (Ok (statements.Entry label)) lines part e rest q h = h
head_small names segments s r number (Err reason) lines part e rest q h = h

no_definition : (s r : ℕ) (says : Answer statement.Statement) → defines says ≡ false → (definition s r says ≡ None) × (segments_behind s says ≡ s) × (rows_behind r says ≡ r)
no_definition s r h e = grind arith

-- what follows a line
abbrev go_on : Names → (segments s r : ℕ) → Line → List Line → Part → Result Program Refusal
go_on names segments s r l more part = program_from names segments (segments_behind s l.says) (rows_behind r l.says) more >>= λ rest. Ok (with_part part rest)

pub names_small : (names : Names) (segments s r : ℕ) (lines : List Line) (p : Program) → AllKnown lines → program_from names segments s r lines ≡ Ok p → (q : List ℕ) → IsSmall (meaning (definitions s r lines) q)
names_small names segments s r [] p known e q = small_none
names_small names segments s r (l ∷ more) p known e q =
    by_head (λ p e. names_small names segments (segments_behind s l.says) (rows_behind r l.says) more p known.1 e q) (λ e. names_small names segments s r more p known.1 e q) (is_head l.kind) refl e
  where
    by_head : ((p : Program) → program_from names segments (segments_behind s l.says) (rows_behind r l.says) more ≡ Ok p → IsSmall (meaning (definitions (segments_behind s l.says) (rows_behind r l.says) more) q))
        → (program_from names segments s r more ≡ Ok p → IsSmall (meaning (definitions s r more) q))
        → (b : Bool) → is_head l.kind ≡ b
        → cond b (program_part names segments s r l.number l.says (own more) >>= go_on names segments s r l more) (program_from names segments s r more) ≡ Ok p
        → IsSmall (meaning (definitions s r (l ∷ more)) q)
    by_head part skip true t e =
        let a = after_both (program_part names segments s r l.number l.says (own more)) (go_on names segments s r l more) p e in
        let b = after_both (program_from names segments (segments_behind s l.says) (rows_behind r l.says) more) (λ rest. Ok (with_part a.0 rest)) p a.2 in
        head_small names segments s r l.number l.says (own more) a.0 a.1 (definitions (segments_behind s l.says) (rows_behind r l.says) more) q (part b.0 b.1)
    by_head part skip false t e =
        let none = no_definition s r l.says (known.0 t) in
        subst (λ (o : Option (List ℕ × named.Named)). IsSmall (meaning (cons_option o (definitions (segments_behind s l.says) (rows_behind r l.says) more)) q)) (sym none.0)
        (subst (λ (n : ℕ). IsSmall (meaning (definitions n (rows_behind r l.says) more) q)) (sym none.1)
        (subst (λ (n : ℕ). IsSmall (meaning (definitions s n more) q)) (sym none.2) (skip e)))

-- ---- labels of all segments

no_cards : (says : Answer statement.Statement) (cards : List Line) (rest : List (List Line)) → defines says ≡ false → with_cards says cards rest ≡ rest
no_cards h cards rest e = grind arith

abbrev CardsAreSmall : List Line → Type 0
CardsAreSmall cards = LabelsAreSmall (λ label. meaning (labels 0 cards) label)

head_cards_small : (names : Names) (segments s r number : ℕ) (says : Answer statement.Statement) (lines : List Line) (part : Part) → program_part names segments s r number says lines ≡ Ok part
    → (rest : List (List Line)) → AllByRecursion CardsAreSmall rest → AllByRecursion CardsAreSmall (with_cards says lines rest)
head_cards_small names segments s r number (Ok (statements.Segment name level)) lines part e rest h = grind (arith, label_small, content_is)
head_cards_small names segments s r number (Ok (statements.Row name)) lines part e rest h = h
head_cards_small names segments s r number (Ok (statements.Values first more)) lines part e rest h = h
head_cards_small names segments s r number (Ok (statements.Operator label own)) lines part e rest h = h
head_cards_small names segments s r number (Ok (statements.Entry label)) lines part e rest h = h
head_cards_small names segments s r number (Err reason) lines part e rest h = h

cards_small : (names : Names) (segments s r : ℕ) (lines : List Line) (p : Program) → AllKnown lines → program_from names segments s r lines ≡ Ok p → AllByRecursion CardsAreSmall (cards_of_segments lines)
cards_small names segments s r [] p known e = tt
cards_small names segments s r (l ∷ more) p known e =
    by_head (λ p e. cards_small names segments (segments_behind s l.says) (rows_behind r l.says) more p known.1 e) (λ e. cards_small names segments s r more p known.1 e) (is_head l.kind) refl e
  where
    by_head : ((p : Program) → program_from names segments (segments_behind s l.says) (rows_behind r l.says) more ≡ Ok p → AllByRecursion CardsAreSmall (cards_of_segments more))
        → (program_from names segments s r more ≡ Ok p → AllByRecursion CardsAreSmall (cards_of_segments more))
        → (b : Bool) → is_head l.kind ≡ b
        → cond b (program_part names segments s r l.number l.says (own more) >>= go_on names segments s r l more) (program_from names segments s r more) ≡ Ok p
        → AllByRecursion CardsAreSmall (with_cards l.says (own more) (cards_of_segments more))
    by_head part skip true t e =
        let a = after_both (program_part names segments s r l.number l.says (own more)) (go_on names segments s r l more) p e in
        let b = after_both (program_from names segments (segments_behind s l.says) (rows_behind r l.says) more) (λ rest. Ok (with_part a.0 rest)) p a.2 in
        head_cards_small names segments s r l.number l.says (own more) a.0 a.1 (cards_of_segments more) (part b.0 b.1)
    by_head part skip false t e = subst (AllByRecursion CardsAreSmall) (sym (no_cards l.says (own more) (cards_of_segments more) (known.0 t))) (skip e)

found_small : (segments : List (List Line)) (number : ℕ) → AllByRecursion CardsAreSmall segments → CardsAreSmall (unwrap_or (slice_get segments number) [])
found_small [] number all q m e = absurd (none-some m e)
found_small (cards ∷ more) zero all q m e = all.0 q m e
found_small (cards ∷ more) (suc number) all q m e = found_small more number all.1 q m e

-- ---- all segments

head_read : (all : List Line) (s r number : ℕ) (says : Answer statement.Statement) (lines : List Line) (part : Part) → AreSmall (names_of all) → AllLabelsAreSmall (names_of all) → program_part (names_of all) (segment_count 0 all) s r number says lines ≡ Ok part
    → (cards : List (List Line)) (rest : Program) → SegmentsAreListed all cards rest.segments → SegmentsAreListed all (with_cards says lines cards) (with_part part rest).segments
head_read all s r number (Ok (statements.Segment name level)) lines part small labelled e cards rest h =
    let i = segment_is (names_of all) (segment_count 0 all) s r number name level lines part e in
    subst (λ (part : Part). SegmentsAreListed all (lines ∷ cards) (with_part part rest).segments) i.is (segment_read (scope_in all lines i.level) lines i.content small labelled refl i.taken, h)
head_read all s r number (Ok (statements.Row name)) lines part small labelled e cards rest h = grind arith
head_read all s r number (Ok (statements.Values first more)) lines part small labelled e cards rest h = err-ok (record { card = number; reason = misplaced (names_of all) (statements.Values first more) }) part _ e
head_read all s r number (Ok (statements.Operator label own)) lines part small labelled e cards rest h = err-ok (record { card = number; reason = misplaced (names_of all) (statements.Operator label own) }) part _ e
head_read all s r number (Ok (statements.Entry label)) lines part small labelled e cards rest h = err-ok (record { card = number; reason = misplaced (names_of all) (statements.Entry label) }) part _ e
head_read all s r number (Err reason) lines part small labelled e cards rest h = err-ok (record { card = number; reason = reason }) part _ e

segments_read : (all : List Line) (s r : ℕ) (lines : List Line) (p : Program) → AllKnown lines → AreSmall (names_of all) → AllLabelsAreSmall (names_of all) → program_from (names_of all) (segment_count 0 all) s r lines ≡ Ok p → SegmentsAreListed all (cards_of_segments lines) p.segments
segments_read all s r [] p known small labelled e = grind arith
segments_read all s r (l ∷ more) p known small labelled e =
    by_head (λ p e. segments_read all (segments_behind s l.says) (rows_behind r l.says) more p known.1 small labelled e) (λ e. segments_read all s r more p known.1 small labelled e) (is_head l.kind) refl e
  where
    by_head : ((p : Program) → program_from (names_of all) (segment_count 0 all) (segments_behind s l.says) (rows_behind r l.says) more ≡ Ok p → SegmentsAreListed all (cards_of_segments more) p.segments)
        → (program_from (names_of all) (segment_count 0 all) s r more ≡ Ok p → SegmentsAreListed all (cards_of_segments more) p.segments)
        → (b : Bool) → is_head l.kind ≡ b
        → cond b (program_part (names_of all) (segment_count 0 all) s r l.number l.says (own more) >>= go_on (names_of all) (segment_count 0 all) s r l more) (program_from (names_of all) (segment_count 0 all) s r more) ≡ Ok p
        → SegmentsAreListed all (with_cards l.says (own more) (cards_of_segments more)) p.segments
    by_head part skip true t e =
        let a = after_both (program_part (names_of all) (segment_count 0 all) s r l.number l.says (own more)) (go_on (names_of all) (segment_count 0 all) s r l more) p e in
        let b = after_both (program_from (names_of all) (segment_count 0 all) (segments_behind s l.says) (rows_behind r l.says) more) (λ rest. Ok (with_part a.0 rest)) p a.2 in
        subst (λ (p : Program). SegmentsAreListed all (with_cards l.says (own more) (cards_of_segments more)) p.segments) (same_Ok (with_part a.0 b.0) p b.2)
        (head_read all s r l.number l.says (own more) a.0 small labelled a.1 (cards_of_segments more) b.0 (part b.0 b.1))
    by_head part skip false t e = subst (λ (cards : List (List Line)). SegmentsAreListed all cards p.segments) (sym (no_cards l.says (own more) (cards_of_segments more) (known.0 t))) (skip e)

pub cards_read : (cards : List Card) (p : Program) → assembled cards ≡ Ok p → SegmentsAreListed (lines_of cards) (cards_of_segments (lines_of cards)) p.segments
cards_read cards p e =
    let all : List Line = lines_of cards in
    let known = lines_known cards in
    let a = after_both (no_strays (names_of all) all) (λ (u : ⊤). program_from (names_of all) (segment_count 0 all) 0 0 all) p e in
    segments_read all 0 0 all p known (names_small (names_of all) (segment_count 0 all) 0 0 all p known a.2)
    (λ number. found_small (cards_of_segments all) number (cards_small (names_of all) (segment_count 0 all) 0 0 all p known a.2)) a.2
