-- Cards that are assembled, or read as hexadecimal ones, begin with no question mark.
use Rattle.std.proofs.Common.{◌≡◌, ℕ, suc, ◌+◌, ◌-◌, ◌%◌, Bool, true, false, not, cond, List, [], ◌∷◌, ◌++◌, length, take, drop, filter, refl, sym, ap, subst, ◌∙◌, arith, Option, Some, None, unwrap_or, Ok, Err}
use Rattle.std.specs.Prelude.{◌==◌, nat_lt, ⊤}
use Rattle.std.specs.List.{AllByRecursion, cons_option, slice_split, position_or_len}
use Rattle.std.specs.Option.{option_map}
use Rattle.std.specs.Str.Lines.{lines}
use Rattle.b67_model.specs.Common.{Program}
use Rattle.b67_model_text.specs.declared.card.Card.{Card}
use Rattle.b67_model_text.specs.declared.assembly.Statement as statement
use Rattle.b67_model_text.specs.declared.assembly.Line.{Line}
use Rattle.b67_model_text.specs.Answers.{Answer, ◌>>=◌, ◌>>◌, needs}
use Rattle.b67_model_text.specs.Cards.{cards, is_empty, words_in_card, name_in}
use Rattle.b67_model_text.specs.Command.{is_command}
use Rattle.b67_model_text.specs.Deck.{of_card, hexadecimal, all_hexadecimal}
use Rattle.b67_model_text.specs.Hex.{is_hex}
use Rattle.b67_model_text.specs.Statements.{statement_of, kind_of, line_of, line_with, lines_of, without_comment, is_label, with_label, operator}
use Rattle.b67_model_text.specs.Asm.{Names, names_of, Scope, SegmentContent, row_values, row_words, Part, segments_behind, rows_behind, segment_count, is_head, own, segment_part, row_part, program_part, with_part, program_from, no_strays, assembled}
use Rattle.b67_model_text.specs.Pass.{added_by, syllable_behind, entries_behind, with_added, pass_content}
use Rattle.b67_model_text.proofs.Answers.{after_both}
use Rattle.b67_model_text.proofs.Pass.{content_is}
use Rattle.b67_promises.specs.Cards.{BeginsCommand}
use Rattle.b67_promises.proofs.TurnCards.{filled, some_part, cards_at}
use Rattle.b67_promises.proofs.Renumbered.{texts_of}
use Rattle.b67_promises.proofs.Within.{of_card_ok, go_on}
use Rattle.b67_promises.proofs.BodyCards.{IsNoCommand, same_lines}
use Rattle.b67_promises.proofs.DeckParts.{marked_words}

-- ---- each card of an assembled text says something

abbrev Says : Answer statement.Statement → Type 0
Says (Ok s) = Unit {0}
Says (Err reason) = ⊥

abbrev AllSay : List Line → Type 0
AllSay ls = AllByRecursion (λ (l : Line). Says l.says) ls

says_so : (a : Answer statement.Statement) (s : statement.Statement) → a ≡ Ok s → Says a
says_so a s e = subst Says (sym e) tt

content_says : (x : Scope) (n : ℕ) (entries : List ℕ) (ls : List Line) (c : SegmentContent) → pass_content x n entries ls ≡ Ok c → AllSay ls
content_says x n entries [] c e = tt
content_says x n entries (l ∷ more) c e =
    let a = after_both (of_card l.number (l.says >>= added_by x n entries)) (λ added. pass_content x (syllable_behind n added) (entries_behind entries added) more >>= λ rest. Ok (with_added added rest)) c e in
    let b = after_both (pass_content x (syllable_behind n a.0) (entries_behind entries a.0) more) (λ rest. Ok (with_added a.0 rest)) c a.2 in
    let d = after_both l.says (added_by x n entries) a.0 (of_card_ok l.number (l.says >>= added_by x n entries) a.0 a.1) in
    (says_so l.says d.0 d.1, content_says x (syllable_behind n a.0) (entries_behind entries a.0) more b.0 b.1)

words_say : (names : Names) (n : ℕ) (ls : List Line) (ws : List ℕ) → row_words names n ls ≡ Ok ws → AllSay ls
words_say names n [] ws e = tt
words_say names n (l ∷ more) ws e =
    let a = after_both (of_card l.number (l.says >>= row_values names n)) (λ words. row_words names (n + length words) more >>= λ rest. Ok (words ++ rest)) ws e in
    let b = after_both (row_words names (n + length a.0) more) (λ rest. Ok (a.0 ++ rest)) ws a.2 in
    let c = after_both l.says (row_values names n) a.0 (of_card_ok l.number (l.says >>= row_values names n) a.0 a.1) in
    (says_so l.says c.0 c.1, words_say names (n + length a.0) more b.0 b.1)

segment_says : (names : Names) (segments s r number : ℕ) (name : List ℕ) (level : Option ℕ) (ls : List Line) (part : Part) → segment_part names segments s r number name level ls ≡ Ok part → AllSay ls
segment_says names segments s r number name level ls part e = grind (arith, content_says, content_is)

row_says : (names : Names) (s r number : ℕ) (name : List ℕ) (ls : List Line) (part : Part) → row_part names s r number name ls ≡ Ok part → AllSay ls
row_says names s r number name ls part e = grind (arith, words_say)

part_says : (names : Names) (segments s r number : ℕ) (a : Answer statement.Statement) (ls : List Line) (part : Part) → program_part names segments s r number a ls ≡ Ok part → Says a × AllSay ls
part_says names segments s r number a ls part e = grind (arith, segment_says, row_says)

program_says : (names : Names) (segments s r : ℕ) (ls : List Line) (p : Program) → program_from names segments s r ls ≡ Ok p → AllSay (own ls) → AllSay ls
program_says names segments s r [] p e h = tt
program_says names segments s r (l ∷ more) p e h = by_head (λ s r rest e h. program_says names segments s r more rest e h) (is_head l.kind) e h
  where
    by_head : ((s r : ℕ) (rest : Program) → program_from names segments s r more ≡ Ok rest → AllSay (own more) → AllSay more)
        → (b : Bool) → cond b (program_part names segments s r l.number l.says (own more) >>= go_on names segments s r l more) (program_from names segments s r more) ≡ Ok p → AllSay (cond (not b) (l ∷ own more) [])
        → AllSay (l ∷ more)
    by_head go true e h =
        let a = after_both (program_part names segments s r l.number l.says (own more)) (go_on names segments s r l more) p e in
        let b = after_both (program_from names segments (segments_behind s l.says) (rows_behind r l.says) more) (λ rest. Ok (with_part a.0 rest)) p a.2 in
        let c = part_says names segments s r l.number l.says (own more) a.0 a.1 in
        (c.0, go (segments_behind s l.says) (rows_behind r l.says) b.0 b.1 c.1)
    by_head go false e h = (h.0, go s r p e h.1)

strays_say : (names : Names) (ls : List Line) (u : ⊤) → no_strays names ls ≡ Ok u → AllSay (own ls)
strays_say names ls u e = grind arith

assembled_say : (cs : List Card) (p : Program) → assembled cs ≡ Ok p → AllSay (lines_of cs)
assembled_say cs p e =
    let all : List Line = lines_of cs in
    let a = after_both (no_strays (names_of all) all) (λ (u : ⊤). program_from (names_of all) (segment_count 0 all) 0 0 all) p e in
    program_says (names_of all) (segment_count 0 all) 0 0 all p a.2 (strays_say (names_of all) all a.0 a.1)

-- ---- a card that begins with a question mark says nothing

no_name : (k : ℕ) (y : List ℕ) → name_in (take k (63 ∷ y)) ≡ None
no_name k y = grind arith

marked_label : (y : List ℕ) (more : List (List ℕ)) (b : Bool) → cond b (with_label (name_in (take (length (63 ∷ y) - 1) (63 ∷ y))) more) (operator None ((63 ∷ y) ∷ more)) ≡ Err 1
marked_label y more b = grind (arith, no_name)

marked_word : (y : List ℕ) (more : List (List ℕ)) → statement_of ((63 ∷ y) ∷ more) ≡ Err 1
marked_word y more = marked_label y more (is_label (63 ∷ y))

abbrev before_mark : List ℕ → Option ℕ → List ℕ
before_mark text o = unwrap_or (option_map (λ (p : List ℕ × List ℕ). p.0) (option_map (λ at. (take at text, drop (at + 1) text)) o)) text

marked_before : (t : List ℕ) (n k : ℕ) (b : Bool) → n ≡ suc k → (r : List ℕ) × (before_mark (63 ∷ t) (cond b (Some n) None) ≡ 63 ∷ r)
marked_before t n k true is = (take k t, ap (λ (m : ℕ). take m (63 ∷ t)) is)
marked_before t n k false is = (t, refl)

marked_uncommented : (t : List ℕ) → (r : List ℕ) × (without_comment (63 ∷ t) ≡ 63 ∷ r)
marked_uncommented t =
    let k = position_or_len (λ b. b == 59) t in
    marked_before t (1 + k) k (nat_lt (1 + k) (length (63 ∷ t))) (omega arith)

-- its line
marked_line : (n : ℕ) (t : List ℕ) → (l : Line) × (line_of (record { number = n; text = 63 ∷ t }) ≡ Some l) × (l.says ≡ Err 1)
marked_line n t =
    let r = marked_uncommented t in
    let w = marked_words r.0 in
    let is : words_in_card (without_comment (63 ∷ t)) ≡ (63 ∷ w.0) ∷ w.1 = ap words_in_card r.1 ∙ w.2 in
    let line : Line = record { number = n; kind = kind_of (63 ∷ w.0); says = statement_of ((63 ∷ w.0) ∷ w.1) } in
    (line, ap (line_with n) is, marked_word w.0 w.1)

rest_says : (o : Option Line) (ls : List Line) → AllSay (cons_option o ls) → AllSay ls
rest_says o ls h = grind arith

mark_of : (text : List ℕ) → is_command text ≡ true → (t : List ℕ) × (text ≡ 63 ∷ t)
mark_of text e = grind arith

says_none : (c : Card) (ls : List Line) → is_command c.text ≡ true → AllSay (cons_option (line_of c) ls) → ⊥
says_none c ls e h =
    let m = mark_of c.text e in
    let l = marked_line c.number m.0 in
    grind arith

cards_say : (cs : List Card) → AllSay (lines_of cs) → AllByRecursion IsNoCommand (texts_of cs)
cards_say [] h = tt
cards_say (c ∷ cs) h = grind (arith, says_none, cards_say cs (rest_says (line_of c) (lines_of cs) h))

at_each_number : (source : List ℕ) → AllByRecursion IsNoCommand (texts_of (cards source)) → (n : ℕ) → AllByRecursion IsNoCommand (texts_of (cards_at n (lines source)))
at_each_number source h n = subst (AllByRecursion IsNoCommand) (same_lines 1 n (lines source)) h

-- no card of a source that is assembled begins so
pub assembled_plain : (source : List ℕ) (p : Program) → assembled (cards source) ≡ Ok p → (n : ℕ) → AllByRecursion IsNoCommand (texts_of (cards_at n (lines source)))
assembled_plain source p e = at_each_number source (cards_say (cards source) (assembled_say (cards source) p e))

-- ---- hexadecimal cards

hex_text : (text : List ℕ) → is_hex text ≡ true → IsNoCommand text
hex_text text e = grind arith

needed : (b : Bool) → needs b 11 ≡ Ok tt → b ≡ true
needed b e = grind arith

hex_cards_plain : (cs : List Card) (u : ⊤) → all_hexadecimal cs ≡ Ok u → AllByRecursion IsNoCommand (texts_of cs)
hex_cards_plain [] u e = tt
hex_cards_plain (c ∷ cs) u e = grind (arith, hex_text, hex_cards_plain cs u)

-- no card of a source that is read as hexadecimal cards begins so
pub hexadecimal_plain : (source : List ℕ) (u : ⊤) → all_hexadecimal (cards source) ≡ Ok u → (n : ℕ) → AllByRecursion IsNoCommand (texts_of (cards_at n (lines source)))
hexadecimal_plain source u e = at_each_number source (hex_cards_plain (cards source) u e)

-- ---- lines of which none is a command

taken_mark : (line : List ℕ) (n : ℕ) (t : List ℕ) → take n line ≡ 63 ∷ t → BeginsCommand line
taken_mark line n t e = grind arith

pub uncommanded : (n : ℕ) (ls : List (List ℕ)) → AllByRecursion (λ (line : List ℕ). BeginsCommand line → ⊥) ls → AllByRecursion IsNoCommand (texts_of (cards_at n ls))
uncommanded n [] all = tt
uncommanded n (l ∷ ls) all = grind (arith, taken_mark, uncommanded (n + 1) ls all.1)
