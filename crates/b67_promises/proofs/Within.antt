-- Assembled cards make a codefile within its limits.
use Rattle.std.proofs.Common.{◌⊎◌, ◌≡◌, ℕ, ◌+◌, ◌*◌, ◌^◌, ◌<◌, ◌≤◌, Bool, true, false, not, cond, refl, sym, ap, subst, ◌∙◌, arith, Option, Some, None, List, [], ◌∷◌, ◌++◌, length, map, Result, Ok, Err}
use Rattle.std.specs.Prelude.{nat_lt, IfSome, ⊤}
use Rattle.std.specs.Int.{w8, w16, w64, to_be_bytes}
use Rattle.std.specs.List.{AllByRecursion, flat_map, list_any}
use Rattle.std.proofs.lemmas.Bool.{ltb-true, or_parts}
use Rattle.std.proofs.lemmas.List.{length-append, length-map}
use Rattle.b67_word.specs.Tagged.{word}
use Rattle.b67_model.specs.Common.{Program}
use Rattle.b67_codefile.specs.declared.file.Segment.{Segment}
use Rattle.b67_codefile.specs.declared.file.Codefile.{Codefile}
use Rattle.b67_codefile.specs.Spelling.{spelling, IsFileSegment, IsRow, HasNoEntries, IsWithin}
use Rattle.b67_model_text.specs.declared.card.Card.{Card}
use Rattle.b67_model_text.specs.declared.assembly.Statement as statement
use Rattle.b67_model_text.specs.declared.assembly.Statement.TheVariants as statements
use Rattle.b67_model_text.specs.declared.assembly.Line.{Line}
use Rattle.b67_model_text.specs.Answers.{Answer, ◌>>=◌, ◌>>◌, needs}
use Rattle.b67_model_text.specs.Deck.{Refusal, of_card}
use Rattle.b67_model_text.specs.Encoding.{laid, code_words}
use Rattle.b67_model_text.specs.Statements.{segment, lines_of}
use Rattle.b67_model_text.specs.Asm.{Names, names_of, Scope, SegmentContent, content_of, syllable_bits, is_word, value_in, row_values, row_words, Part, CodePart, RowPart, segments_behind, rows_behind, segment_count, misplaced, is_head, is_code, is_numbers, own, is_segment_number, is_row_number, segment_part, row_part, program_part, with_part, program_from, no_strays, assembled, says_entry, version_of}
use Rattle.b67_model_text.proofs.Answers.{after_both, err-ok}
use Rattle.b67_model_text.specs.Pass.{pass_content}
use Rattle.b67_model_text.proofs.Contents.{same_Ok}
use Rattle.b67_model_text.proofs.Pass.{content_is}
use Rattle.b67_asm.specs.Putting.{put_behind}
use Rattle.b67_asm.specs.Scope.{scope_at}
use Rattle.b67_asm.proofs.Entries.{entries_fit, no_entries, plain_rest}
use Rattle.b67_job.specs.Verdicts.{segment_file, codefile_of}
use Rattle.b67_promises.proofs.Syllables.{Bytes, bytes_append, content_laid, some_operators, code_fits, IsSmallWord, have_tag}
use Rattle.b67_promises.proofs.Levels.{SmallLevel, IsSmallLine, lines_small}
use Rattle.b67_model.specs.declared.limits.TheConstants.{MOST_ARRAY}

-- ---- data rows

not_true : (b : Bool) → not b ≡ true → b ≡ false
not_true b e = grind arith

values_small : (vs : List (Option ℕ)) → list_any (λ v. not (is_word v)) vs ≡ false → AllByRecursion IsSmallWord (map value_in vs)
values_small [] e = tt
values_small (None ∷ vs) e = absurd (let z : ⊥ = cc in z)
values_small (Some n ∷ vs) e = grind (arith, values_small vs)

-- words of a row behind so many
record RowFits (n : ℕ) (ws : List ℕ) : Type 0 where
  few : n + length ws ≤ MOST_ARRAY
  small : AllByRecursion IsSmallWord ws

card_fits : (names : Names) (n : ℕ) (s : statement.Statement) (ws : List ℕ) → row_values names n s ≡ Ok ws → RowFits n ws × (1 ≤ length ws)
card_fits names n s ws e = grind (arith, length-map, values_small)

pub of_card_ok : {A : Type 0} (number : ℕ) (r : Answer A) (a : A) → of_card number r ≡ Ok a → r ≡ Ok a
of_card_ok number r a e = grind arith

small_append : (xs ys : List ℕ) → AllByRecursion IsSmallWord xs → AllByRecursion IsSmallWord ys → AllByRecursion IsSmallWord (xs ++ ys)
small_append [] ys h k = k
small_append (x ∷ xs) ys h k = (h.0, small_append xs ys h.1 k)

-- the first card's words, and those behind it
record RowHeaded (names : Names) (n : ℕ) (more : List Line) (ws : List ℕ) : Type 0 where
  first : List ℕ
  rest : List ℕ
  first_fits : RowFits n first
  some : 1 ≤ length first
  behind : row_words names (n + length first) more ≡ Ok rest
  all : first ++ rest ≡ ws

row_headed : (names : Names) (n : ℕ) (l : Line) (more : List Line) (ws : List ℕ) → row_words names n (l ∷ more) ≡ Ok ws → RowHeaded names n more ws
row_headed names n l more ws e = grind (arith, card_fits)

row_fits : (names : Names) (n : ℕ) (lines : List Line) (ws : List ℕ) → n ≤ MOST_ARRAY → row_words names n lines ≡ Ok ws → RowFits n ws
row_fits names n [] ws low e = subst (RowFits n) (same_Ok [] ws e) (record { few = omega (arith, low); small = tt })
row_fits names n (l ∷ more) ws low e =
    let h = row_headed names n l more ws e in
    let size = h.first_fits.few in
    let rest = row_fits names (n + length h.first) more h.rest size h.behind in
    grind (arith, length-append, small_append)

row_some : (names : Names) (lines : List Line) (ws : List ℕ) → row_words names 0 lines ≡ Ok ws → list_any (λ l. is_numbers l.kind) lines ≡ true → 1 ≤ length ws
row_some names [] ws e t = absurd (let z : ⊥ = cc in z)
row_some names (l ∷ more) ws e t = grind arith

row_is_row : (names : Names) (lines : List Line) (ws : List ℕ) → row_words names 0 lines ≡ Ok ws → list_any (λ l. is_numbers l.kind) lines ≡ true → IsRow (map (word 0) ws)
row_is_row names lines ws e t =
    let fits = row_fits names 0 lines ws (omega arith) e in
    grind (arith, length-map, row_some, have_tag)

-- ---- one part

abbrev has_entry_card : List Line → Bool
has_entry_card lines = list_any (λ l. says_entry l.says) lines

pub after_card : {B : Type 0} (number : ℕ) (t : Bool) (reason : ℕ) (rest : Result B Refusal) (b : B) → (of_card number (needs t reason) >> rest) ≡ Ok b → (t ≡ true) × (rest ≡ Ok b)
after_card number t reason rest b e = grind arith

abbrev PartFits : Part → Type 0
PartFits (CodePart s) = IsFileSegment (segment_file s)
PartFits (RowPart ws) = IsRow (map (word 0) ws)

abbrev IsPlainPart : Part → Type 0
IsPlainPart (CodePart s) = s.entries ≡ []
IsPlainPart (RowPart ws) = Unit {0}

-- so many segments and rows with it
abbrev PartCounts : Part → (s r s' r' : ℕ) → Type 0
PartCounts (CodePart segment) s r s' r' = (s' ≡ s + 1) × (r' ≡ r)
PartCounts (RowPart ws) s r s' r' = (s' ≡ s) × (r' ≡ r + 1)

record PartIn (s r s' r' : ℕ) (lines : List Line) (part : Part) : Type 0 where
  few : s + r < 255
  fits : PartFits part
  plain : has_entry_card lines ≡ false → IsPlainPart part
  counts : PartCounts part s r s' r'

segment_in : (names : Names) (segments s r number : ℕ) (name : List ℕ) (level : Option ℕ) (lines : List Line) (part : Part) → IfSome level (λ l. l < 2 ^ 8) → segment_part names segments s r number name level lines ≡ Ok part → PartIn s r (s + 1) r lines part
segment_in names segments s r number name None lines part small e = err-ok (record { card = number; reason = 3 }) part _ e
segment_in names segments s r number name (Some level) lines part small e =
    let scope : Scope = scope_at names segments level lines in
    let part_with : SegmentContent → Part = λ content. CodePart (record { level = level; entries = map syllable_bits content.entries; code = code_words content.operators }) in
    let put : Result Part Refusal = content_of scope lines >>= λ content. Ok (part_with content) in
    let a = after_card number (is_segment_number s (names.means name)) 4 (of_card number (needs (list_any is_code lines) 7) >> (of_card number (needs (nat_lt (s + r) 255) 9) >> put)) part e in
    let b = after_card number (list_any is_code lines) 7 (of_card number (needs (nat_lt (s + r) 255) 9) >> put) part a.1 in
    let c = after_card number (nat_lt (s + r) 255) 9 put part b.1 in
    let d = after_both (content_of scope lines) (λ content. Ok (part_with content)) part c.1 in
    let content : SegmentContent = d.0 in
    let passed : pass_content scope 0 [] lines ≡ Ok content = sym (content_is scope lines) ∙ d.1 in
    let behind : put_behind [] (content_of scope lines) ≡ Ok (laid 0 content.operators, content.entries) = ap (put_behind []) d.1 in
    subst (PartIn s r (s + 1) r lines) (same_Ok (part_with content) part d.2) (record {
      few = ltb-true (s + r) 255 c.0;
      fits = record {
        level = small;
        entries = entries_fit names segments level lines (laid 0 content.operators) content.entries (map syllable_bits content.entries) behind refl;
        code = code_fits content.operators (some_operators scope 0 [] lines content passed b.0) (content_laid scope 0 [] lines content (omega arith) passed);
      };
      plain = λ none. no_entries names segments level lines (laid 0 content.operators) content.entries (map syllable_bits content.entries) behind refl none;
      counts = (refl, refl);
    })

row_in_part : (names : Names) (s r number : ℕ) (name : List ℕ) (lines : List Line) (part : Part) → row_part names s r number name lines ≡ Ok part → PartIn s r s (r + 1) lines part
row_in_part names s r number name lines part e =
    let put : Result Part Refusal = row_words names 0 lines >>= λ words. Ok (RowPart words) in
    let a = after_card number (is_row_number r (names.means name)) 4 (of_card number (needs (list_any (λ l. is_numbers l.kind) lines) 7) >> (of_card number (needs (nat_lt (s + r) 255) 9) >> put)) part e in
    let b = after_card number (list_any (λ l. is_numbers l.kind) lines) 7 (of_card number (needs (nat_lt (s + r) 255) 9) >> put) part a.1 in
    let c = after_card number (nat_lt (s + r) 255) 9 put part b.1 in
    let d = after_both (row_words names 0 lines) (λ words. Ok (RowPart words)) part c.1 in
    subst (PartIn s r s (r + 1) lines) (same_Ok (RowPart d.0) part d.2)
    (record { few = ltb-true (s + r) 255 c.0; fits = row_is_row names lines d.0 d.1 b.0; plain = λ none. tt; counts = (refl, refl) })

part_in : (names : Names) (segments s r number : ℕ) (a : Answer statement.Statement) (lines : List Line) (part : Part) → SmallLevel a → program_part names segments s r number a lines ≡ Ok part → PartIn s r (segments_behind s a) (rows_behind r a) lines part
part_in names segments s r number (Ok (statements.Segment name level)) lines part small e = segment_in names segments s r number name level lines part small e
part_in names segments s r number (Ok (statements.Row name)) lines part small e = row_in_part names s r number name lines part e
part_in names segments s r number (Ok (statements.Values first more)) lines part small e = err-ok (record { card = number; reason = misplaced names (statements.Values first more) }) part _ e
part_in names segments s r number (Ok (statements.Operator label own)) lines part small e = err-ok (record { card = number; reason = misplaced names (statements.Operator label own) }) part _ e
part_in names segments s r number (Ok (statements.Entry label)) lines part small e = err-ok (record { card = number; reason = misplaced names (statements.Entry label) }) part _ e
part_in names segments s r number (Err reason) lines part small e = err-ok (record { card = number; reason = reason }) part _ e

-- ---- all parts

record Fits (s r : ℕ) (lines : List Line) (p : Program) : Type 0 where
  count : s + length p.segments + (r + length p.rows) ≤ 255
  segments : AllByRecursion IsFileSegment (map segment_file p.segments)
  rows : AllByRecursion IsRow (map (map (word 0)) p.rows)
  plain : has_entry_card lines ≡ false → AllByRecursion HasNoEntries (map segment_file p.segments)

with_fits : (s r s' r' : ℕ) (l : Line) (more : List Line) (part : Part) (rest : Program) → PartIn s r s' r' (own more) part → (s' + r' ≤ 255 → Fits s' r' more rest) → Fits s r (l ∷ more) (with_part part rest)
with_fits s r s' r' l more (CodePart segment) rest i go =
    let few = i.few in
    let more_s = i.counts.0 in
    let same_r = i.counts.1 in
    let f = go (omega (arith, few, more_s, same_r)) in
    let count = f.count in
    record {
      count = omega (arith, count, more_s, same_r);
      segments = (i.fits, f.segments);
      rows = f.rows;
      plain = λ none. let parts = or_parts (says_entry l.says) (has_entry_card more) none in (i.plain (plain_rest 0 more parts.1), f.plain parts.1);
    }
with_fits s r s' r' l more (RowPart ws) rest i go = grind arith

abbrev pub go_on : Names → (segments s r : ℕ) → Line → List Line → Part → Result Program Refusal
go_on names segments s r l more part = program_from names segments (segments_behind s l.says) (rows_behind r l.says) more >>= λ rest. Ok (with_part part rest)

program_fits : (names : Names) (segments s r : ℕ) (lines : List Line) (p : Program) → AllByRecursion IsSmallLine lines → s + r ≤ 255 → program_from names segments s r lines ≡ Ok p → Fits s r lines p
program_fits names segments s r [] p small few e = grind arith
program_fits names segments s r (l ∷ more) p small few e =
    by_head (λ rest few e. program_fits names segments (segments_behind s l.says) (rows_behind r l.says) more rest small.1 few e) (λ e. program_fits names segments s r more p small.1 few e) (is_head l.kind) e
  where
    by_head : ((rest : Program) → segments_behind s l.says + rows_behind r l.says ≤ 255 → program_from names segments (segments_behind s l.says) (rows_behind r l.says) more ≡ Ok rest → Fits (segments_behind s l.says) (rows_behind r l.says) more rest)
        → (program_from names segments s r more ≡ Ok p → Fits s r more p)
        → (b : Bool) → cond b (program_part names segments s r l.number l.says (own more) >>= go_on names segments s r l more) (program_from names segments s r more) ≡ Ok p
        → Fits s r (l ∷ more) p
    by_head begun skip true e =
        let a = after_both (program_part names segments s r l.number l.says (own more)) (go_on names segments s r l more) p e in
        let b = after_both (program_from names segments (segments_behind s l.says) (rows_behind r l.says) more) (λ rest. Ok (with_part a.0 rest)) p a.2 in
        subst (Fits s r (l ∷ more)) (same_Ok (with_part a.0 b.0) p b.2)
        (with_fits s r (segments_behind s l.says) (rows_behind r l.says) l more a.0 b.0 (part_in names segments s r l.number l.says (own more) a.0 small.0 a.1) (λ few. begun b.0 few b.1))
    by_head begun skip false e =
        let f = skip e in
        record { count = f.count; segments = f.segments; rows = f.rows; plain = λ none. f.plain (or_parts (says_entry l.says) (has_entry_card more) none).1 }

abbrev version_by : Bool → ℕ
version_by b = cond b 2 1

-- the codefile of assembled cards is within its limits
pub assembled_within : (cards : List Card) (p : Program) → assembled cards ≡ Ok p → IsWithin (codefile_of (version_of cards) p)
assembled_within cards p e =
    let all : List Line = lines_of cards in
    let a = after_both (no_strays (names_of all) all) (λ (u : ⊤). program_from (names_of all) (segment_count 0 all) 0 0 all) p e in
    let f = program_fits (names_of all) (segment_count 0 all) 0 0 all p (lines_small cards) (omega arith) a.2 in
    grind (arith, length-map)

-- ---- the bytes of a codefile

flat_bytes : {X : Type 0} (f : X → List ℕ) → ((x : X) → Bytes (f x)) → (xs : List X) → Bytes (flat_map f xs)
flat_bytes f each [] = tt
flat_bytes f each (x ∷ xs) = bytes_append (f x) (flat_map f xs) (each x) (flat_bytes f each xs)

eight_bytes : (n : ℕ) → Bytes (to_be_bytes w64 n)
eight_bytes n = (omega arith, (omega arith, (omega arith, (omega arith, (omega arith, (omega arith, (omega arith, (omega arith, tt))))))))

two_bytes : (n : ℕ) → Bytes (to_be_bytes w16 n)
two_bytes n = (omega arith, (omega arith, tt))

one_byte : (n : ℕ) → Bytes (to_be_bytes w8 n)
one_byte n = (omega arith, tt)

pub spelled_bytes : (f : Codefile) → Bytes (spelling f)
spelled_bytes f = grind (arith, bytes_append, flat_bytes)
