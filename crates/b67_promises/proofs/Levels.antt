-- The levels of assembled segments have eight bits.
use Rattle.std.proofs.Common.{◌≡◌, ℕ, ◌-◌, ◌^◌, ◌<◌, Bool, true, false, cond, arith, Option, Some, None, List, [], ◌∷◌, length, take, Ok}
use Rattle.std.specs.Prelude.{nat_le, IfSome}
use Rattle.std.specs.Option.{option_map, option_and_then}
use Rattle.std.specs.List.{AllByRecursion, cons_option}
use Rattle.b67_word.specs.Tagged.{word}
use Rattle.b67_model_text.specs.declared.card.Card.{Card}
use Rattle.b67_model.specs.declared.operators.Mnemonic.{Mnemonic}
use Rattle.b67_model_text.specs.declared.assembly.Sketch as sketch
use Rattle.b67_model_text.specs.declared.assembly.Statement as statement
use Rattle.b67_model_text.specs.declared.assembly.Statement.TheVariants as statements
use Rattle.b67_model_text.specs.declared.assembly.Kind as kind
use Rattle.b67_model_text.specs.declared.assembly.Line.{Line}
use Rattle.b67_model_text.specs.Answers.{Answer, ◌>>=◌, or_reason}
use Rattle.b67_model_text.specs.Cards.{words_in_card, name_in, natural}
use Rattle.b67_model_text.specs.Command.{row_of}
use Rattle.b67_model_text.specs.Statements.{numeral_up_to, mnemonics, sketch_of, segment, row, operator, is_label, with_label, labelled, says, without_comment, line_with, lines_of}

-- ---- levels

-- a segment's level has eight bits
abbrev pub SmallLevel : Answer statement.Statement → Type 0
SmallLevel (Ok (statements.Segment name level)) = IfSome level (λ l. l < 2 ^ 8)
SmallLevel _ = Unit {0}

numeral_small : (o : Option ℕ) → IfSome (option_map (λ n. cond (nat_le n 255) (Some n) None) o) (λ (q : Option ℕ). IfSome q (λ l. l < 2 ^ 8))
numeral_small o = grind arith

segment_small : (name : Option (List ℕ)) (q : Option (Option ℕ)) → IfSome q (λ (l : Option ℕ). IfSome l (λ l. l < 2 ^ 8)) → SmallLevel (or_reason (option_and_then (λ name. option_map (statements.Segment name) q) name) 2)
segment_small name q h = grind arith

segments_small : (more : List (List ℕ)) → SmallLevel (or_reason (segment more) 2)
segments_small [] = tt
segments_small (word ∷ []) = tt
segments_small (word ∷ level ∷ []) = segment_small (name_in word) (numeral_up_to 255 level) (numeral_small (natural level))
segments_small (word ∷ level ∷ x ∷ more) = tt

rows_small : (more : List (List ℕ)) → SmallLevel (or_reason (row more) 2)
rows_small more = grind arith

mnemonic_small : (label : Option (List ℕ)) (o : Option Mnemonic) (f : Mnemonic → Option sketch.Sketch) → SmallLevel (or_reason o 1 >>= λ m. or_reason (f m) 2 >>= λ s. Ok (statements.Operator label s))
mnemonic_small label o f = grind arith

operator_small : (label : Option (List ℕ)) (ws : List (List ℕ)) → SmallLevel (operator label ws)
operator_small label [] = tt
operator_small label (key ∷ operands) = mnemonic_small label (row_of key mnemonics) (λ m. sketch_of m operands)

label_small : (o : Option (List ℕ)) (more : List (List ℕ)) → SmallLevel (with_label o more)
label_small o more = grind (arith, operator_small)

labelled_small : (ws : List (List ℕ)) → SmallLevel (labelled ws)
labelled_small [] = tt
labelled_small (word ∷ more) = by_test (is_label word)
  where
    by_test : (b : Bool) → SmallLevel (cond b (with_label (name_in (take (length word - 1) word)) more) (operator None (word ∷ more)))
    by_test true = label_small (name_in (take (length word - 1) word)) more
    by_test false = operator_small None (word ∷ more)

says_small : (k : kind.Kind) (more all : List (List ℕ)) → SmallLevel (says k more all)
says_small k more all = grind (arith, segments_small, rows_small, labelled_small)

abbrev pub IsSmallLine : Line → Type 0
IsSmallLine l = SmallLevel l.says

one_small : (number : ℕ) (ws : List (List ℕ)) (more : List Line) → AllByRecursion IsSmallLine more → AllByRecursion IsSmallLine (cons_option (line_with number ws) more)
one_small number ws more h = grind (arith, says_small)

pub lines_small : (cards : List Card) → AllByRecursion IsSmallLine (lines_of cards)
lines_small [] = tt
lines_small (card ∷ more) = one_small card.number (words_in_card (without_comment card.text)) (lines_of more) (lines_small more)
