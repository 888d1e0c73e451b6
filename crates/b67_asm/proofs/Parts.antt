-- A segment or a data row, from its card and the cards behind it.
use Rattle.std.proofs.Common.{◌≡◌, ◌≤◌, ◌<◌, ◌+◌, ◌^◌, ℕ, Bool, true, false, nat_lt, ◌||◌, cond, List, [], ◌∷◌, ◌++◌, map, length, Option, Some, None, Result, Ok, Err, refl, sym, ap, subst, ◌∙◌, arith}
use Rattle.std.specs.List.{list_any, AllByRecursion}
use Rattle.b67_word.specs.Tagged.{Tagged, contents}
use Rattle.b67_model_text.specs.declared.assembly.Line.{Line}
use Rattle.b67_model_text.specs.Answers.{Answer, ◌>>=◌, ◌>>◌, needs}
use Rattle.b67_model_text.specs.Deck.{Refusal, of_card}
use Rattle.b67_model_text.specs.Encoding.{code_words, packed_words, laid}
use Rattle.b67_model_text.specs.Asm as asm
use Rattle.b67_asm.specs.Blocks.{segment_head, row_head, has_entry_card, Grows, SegmentPut}
use Rattle.b67_asm.specs.Putting.{put_behind, code_count, IsSegmentCode}
use Rattle.b67_asm.specs.Scope.{scope_at}
use Rattle.b67_asm.proofs.Entries.{entries_fit, no_entries}
use Rattle.b67_codefile.specs.Spelling.{HasNoEntries}
use Rattle.b67_codefile.specs.declared.file.Segment.{Segment}
use Rattle.b67_codefile.specs.declared.file.Codefile.{Codefile}
use Rattle.b67_model.specs.declared.limits.TheConstants.{MOST_PARTS}

abbrev segment_rest : asm.Names → ℕ → List Line → ℕ → Result asm.Part Refusal
segment_rest names segments lines l = asm.content_of (scope_at names segments l lines) lines >>= λ content. Ok (asm.CodePart (record { level = l; entries = map asm.syllable_bits content.entries; code = code_words content.operators }))

-- a segment is its card's level and its code
pub segment_is : (names : asm.Names) (segments s r number : ℕ) (name : List ℕ) (level : Option ℕ) (lines : List Line) → asm.segment_part names segments s r number name level lines ≡ (of_card number (segment_head names s r name level lines) >>= segment_rest names segments lines)
segment_is names segments s r number name None lines = refl
segment_is names segments s r number name (Some l) lines = tests (asm.is_segment_number s (names.means name)) (list_any asm.is_code lines) (nat_lt (s + r) MOST_PARTS)
  where
    tests : (a b c : Bool) → (of_card number (needs a 4) >> (of_card number (needs b 7) >> (of_card number (needs c 9) >> segment_rest names segments lines l))) ≡ (of_card number (needs a 4 >> (needs b 7 >> (needs c 9 >> Ok l))) >>= segment_rest names segments lines)
    tests false b c = refl
    tests true false c = refl
    tests true true false = refl
    tests true true true = refl

pub row_is : (names : asm.Names) (s r number : ℕ) (name : List ℕ) (lines : List Line) → asm.row_part names s r number name lines ≡ (of_card number (row_head names s r name lines) >>= λ done. asm.row_words names 0 lines >>= λ words. Ok (asm.RowPart words))
row_is names s r number name lines = tests (asm.is_row_number r (names.means name)) (list_any (λ l. asm.is_numbers l.kind) lines) (nat_lt (s + r) MOST_PARTS)
  where
    tests : (a b c : Bool) → (of_card number (needs a 4) >> (of_card number (needs b 7) >> (of_card number (needs c 9) >> (asm.row_words names 0 lines >>= λ words. Ok (asm.RowPart words))))) ≡ (of_card number (needs a 4 >> (needs b 7 >> needs c 9)) >>= λ done. asm.row_words names 0 lines >>= λ words. Ok (asm.RowPart words))
    tests false b c = refl
    tests true false c = refl
    tests true true false = refl
    tests true true true = refl

abbrev syllables_in : Result (List ℕ × List ℕ) Refusal → List ℕ
syllables_in (Ok p) = p.0
syllables_in (Err refusal) = []

abbrev entries_in : Result (List ℕ × List ℕ) Refusal → List ℕ
entries_in (Ok p) = p.1
entries_in (Err refusal) = []

code_part : (answer : Result asm.SegmentContent Refusal) (l : ℕ) (syllables entries own code : List ℕ) → put_behind [] answer ≡ Ok (syllables, entries) → own ≡ map asm.syllable_bits entries → code ≡ packed_words syllables → (answer >>= λ content. Ok (asm.CodePart (record { level = l; entries = map asm.syllable_bits content.entries; code = code_words content.operators }))) ≡ Ok (asm.CodePart (record { level = l; entries = own; code = code }))
code_part (Ok content) l syllables entries own code e o h =
    let same : laid 0 content.operators ≡ syllables = ap syllables_in e in
    let listed : content.entries ≡ entries = ap entries_in e in
    ap (λ (c : List ℕ). Ok (asm.CodePart (record { level = l; entries = map asm.syllable_bits content.entries; code = c }))) (ap packed_words same ∙ sym h)
    ∙ ap (λ (es : List ℕ). Ok (asm.CodePart (record { level = l; entries = es; code = code }))) (ap (map asm.syllable_bits) listed ∙ sym o)
code_part (Err refusal) l syllables entries own code e o h = absurd (let z : ⊥ = cc in z)

pub segment_ok : (names : asm.Names) (segments s r number l : ℕ) (name : List ℕ) (level : Option ℕ) (lines : List Line) (syllables entries own code : List ℕ) → segment_head names s r name level lines ≡ Ok l → put_behind [] (asm.content_of (scope_at names segments l lines) lines) ≡ Ok (syllables, entries) → own ≡ map asm.syllable_bits entries → code ≡ packed_words syllables → asm.segment_part names segments s r number name level lines ≡ Ok (asm.CodePart (record { level = l; entries = own; code = code }))
segment_ok names segments s r number l name level lines syllables entries own code head e o h =
    segment_is names segments s r number name level lines ∙ ap (λ (a : Answer ℕ). of_card number a >>= segment_rest names segments lines) head ∙ code_part (asm.content_of (scope_at names segments l lines) lines) l syllables entries own code e o h

pub any_some : {A : Type 0} (p : A → Bool) (xs : List A) → list_any p xs ≡ true → 1 ≤ length xs
any_some p [] e = absurd cc
any_some p (x ∷ xs) e = omega arith

pub code_some : (lines : List Line) → list_any asm.is_code lines ≡ true → 1 ≤ code_count lines
code_some [] e = absurd (let z : ⊥ = cc in z)
code_some (l ∷ more) e = by_test (λ e. code_some more e) (asm.is_code l) e
  where
    by_test : (list_any asm.is_code more ≡ true → 1 ≤ code_count more) → (b : Bool) → (b || list_any asm.is_code more) ≡ true → 1 ≤ cond b 1 0 + code_count more
    by_test go true e = omega arith
    by_test go false e = omega (arith, go e)

pub all_one : {A : Type 0} (P : A → Type 0) (xs : List A) (x : A) → AllByRecursion P xs → P x → AllByRecursion P (xs ++ x ∷ [])
all_one P [] x h p = (p, tt)
all_one P (y ∷ ys) x h p = (h.0, all_one P ys x h.1 p)

-- ---- codefiles that grow

-- a file of version 1 has no entries
pub all_plain : (old new : Codefile) (s : Segment) (own : List Line) → Grows old → (old.version ≡ 1 → has_entry_card own ≡ false) → (has_entry_card own ≡ false → s.entries ≡ []) → new.version ≡ old.version → new.segments ≡ old.segments ++ s ∷ [] → new.version ≡ 1 → AllByRecursion HasNoEntries new.segments
all_plain old new s own grows plain none same is one =
    let first : old.version ≡ 1 = sym same ∙ one in
    subst (AllByRecursion HasNoEntries) (sym is) (all_one HasNoEntries old.segments s (grows.plain first) (none (plain first)))

-- a segment that was made of its own cards
pub segment_made : (names : asm.Names) (segments s r number l : ℕ) (name : List ℕ) (level : Option ℕ) (lines : List Line) (syllables entries own : List ℕ) (code : List Tagged) → segment_head names s r name level lines ≡ Ok l → l < 2 ^ 8 → 1 ≤ code_count lines → put_behind [] (asm.content_of (scope_at names segments l lines) lines) ≡ Ok (syllables, entries) → IsSegmentCode code syllables (code_count lines) → own ≡ map asm.syllable_bits entries
    → SegmentPut (Ok (record { level = l; entries = own; code = code })) (asm.segment_part names segments s r number name level lines) lines
segment_made names segments s r number l name level lines syllables entries own code head small some e is o = (
  segment_ok names segments s r number l name level lines syllables entries own (contents code) head e o is.code,
  record {
    level = small;
    entries = entries_fit names segments l lines syllables entries own e o;
    code = record { some = is.some some; few = is.few; each = is.tags };
  },
  λ none. no_entries names segments l lines syllables entries own e o none,
)
