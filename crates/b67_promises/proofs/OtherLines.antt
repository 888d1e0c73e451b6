-- The lines of a run are no cards of an image.
use Rattle.std.proofs.Common.{◌≡◌, ◌≢◌, ◌⊎◌, ◌<◌, ◌≤◌, ◌+◌, ℕ, length, Ok, zero, suc, true, not, List, [], ◌∷◌, ◌++◌, codes, decimal, inl, inr, refl, sym, ap, subst, ◌∙◌, arith, append_assoc, append-nil}
use Rattle.std.specs.Prelude.{ℤ, ◌==◌, ◌&&◌, ◌/◌, ◌%◌, nat_lt}
use Rattle.std.specs.List.{list_all, AllByRecursion}
use Rattle.std.specs.Fmt.{signed_decimal}
use Rattle.std.proofs.lemmas.Bool.{cases_Bool, lt-ltb, false≢true}
use Rattle.std.proofs.lemmas.Grind.{flat_map-append}
use Rattle.std.proofs.lemmas.List.Concat.{flat_map-cons}
use Rattle.b67_io.specs.Line.{ended}
use Rattle.b67_word.specs.declared.faults.Ending.{Ending}
use Rattle.b67_model.specs.Steps.{Line}
use Rattle.b67_model.specs.Lines.{ending_name, task_name, value_text, row_text, line_text}
use Rattle.b67_model.specs.Common.{RunLine, run_text}
use Rattle.b67_session_lines.specs.Stops.{halted_line}
use Rattle.b67_image.specs.Parts.{parts_of}
use Rattle.b67_image.specs.Spelling.{image_bytes}
use Rattle.b67_image.specs.Text.{limit, image_text_of}
use Rattle.b67_image.specs.Meaning.{told_in}
use Rattle.b67_image.specs.Image.{image_text}
use Rattle.b67_image.proofs.Octets.{octets}
use Rattle.b67_image.proofs.Whole.{read_as, told_again}
use Rattle.b67_promises.specs.Halts.{HasNoMark, AreOtherLines, LinesAreOther, ImagesOfRunsAreRead}
use Rattle.b67_promises.proofs.Numerals.{all_joined, numeral_all}
use Rattle.b67_promises.proofs.Among.{told_among}

-- ---- texts without a mark

abbrev IsNoMark : ℕ → Type 0
IsNoMark b = (b ≢ 10) × (b ≢ 63)

joined : (xs ys : List ℕ) → HasNoMark xs → HasNoMark ys → HasNoMark (xs ++ ys)
joined xs ys p q = all_joined IsNoMark xs ys p q

tested : (xs : List ℕ) → list_all (λ b. not (b == 10) && not (b == 63)) xs ≡ true → HasNoMark xs
tested [] e = tt
tested (x ∷ xs) e = grind (arith, tested xs)

numeral : (n : ℕ) → HasNoMark (decimal n)
numeral n = numeral_all IsNoMark (λ b low high. ((λ e. absurd (omega (arith, low, e))), (λ e. absurd (omega (arith, high, e))))) n

signed : (v : ℤ) → HasNoMark (signed_decimal v)
signed v = grind (arith, numeral)

value_other : (v : ℤ) → HasNoMark (value_text v)
value_other v = joined (codes " ") (signed_decimal v) (tested (codes " ") refl) (signed v)

name_other : (job task : ℕ) → HasNoMark (task_name job task)
name_other job task = joined (decimal job ++ codes ".") (decimal task) (joined (decimal job) (codes ".") (numeral job) (tested (codes ".") refl)) (numeral task)

ending_other : (ending : Ending) → HasNoMark (ending_name ending)
ending_other ending = grind arith

-- ---- lines

none_other : AreOtherLines []
none_other = record { each = []; is = refl; other = tt }

-- one line, and then others
one_more : (line text : List ℕ) → HasNoMark line → AreOtherLines text → AreOtherLines (ended line ++ text)
one_more line text p h = record {
  each = line ∷ h.each;
  is = ap (λ (t : List ℕ). ended line ++ t) h.is ∙ sym (flat_map-cons ended line h.each);
  other = (p, h.other);
}

one_alone : (line : List ℕ) → HasNoMark line → AreOtherLines (ended line)
one_alone line p = subst AreOtherLines (append-nil (ended line)) (one_more line [] p none_other)

both_other : (a b : List ℕ) → AreOtherLines a → AreOtherLines b → AreOtherLines (a ++ b)
both_other a b p q = grind (arith, flat_map-append, all_joined)

-- a row of values behind what stands on the line
row_other : (name before : List ℕ) (room : ℕ) (vs : List ℤ) → HasNoMark name → HasNoMark before → AreOtherLines (before ++ row_text name room vs)
row_other name before room [] p q = one_alone before q
row_other name before zero (v ∷ vs) p q =
    let rest = row_other name (name ++ value_text v) 9 vs p (joined name (value_text v) p (value_other v)) in
    subst AreOtherLines (same name before (value_text v) (row_text name 9 vs)) (one_more before ((name ++ value_text v) ++ row_text name 9 vs) q rest)
  where
    same : (name before value row : List ℕ) → ended before ++ ((name ++ value) ++ row) ≡ before ++ (((codes "\n" ++ name) ++ value) ++ row)
    same name before value row = append_assoc before (codes "\n") ((name ++ value) ++ row)
row_other name before (suc room) (v ∷ vs) p q =
    subst AreOtherLines (append_assoc before (value_text v) (row_text name room vs)) (row_other name (before ++ value_text v) room vs p (joined before (value_text v) q (value_other v)))

line_other : (job : ℕ) (task : ℕ) (line : Line) → AreOtherLines (line_text job (task, line))
line_other job task line = grind (arith, one_alone, joined, name_other, value_other, row_other, ending_other)

pub lines_other : LinesAreOther
lines_other [] = none_other
lines_other (l ∷ ls) =
    subst AreOtherLines (sym (flat_map-cons (λ (line : RunLine). line_text line.0 (line.1, line.2)) l ls))
    (both_other (line_text l.0 (l.1, l.2)) (run_text ls) (line_other l.0 l.1 l.2) (lines_other ls))

-- ---- the text of a run that halts

pub read_among : ImagesOfRunsAreRead
unfolding image_text
read_among sectors printed count m h wanted few =
    let o = lines_other printed in
    let bytes = image_bytes (parts_of m) in
    let tail = ended (halted_line count) in
    let t = told_among sectors o.each tail bytes (parts_of m) o.other (octets (parts_of m) h).all (told_again sectors (parts_of m) wanted h) (subst (λ (x : List ℕ). length (x ++ (image_text_of bytes ++ tail)) ≤ limit) o.is few) in
    let told : told_in sectors (run_text printed ++ (image_text_of bytes ++ tail)) ≡ Ok (t.0, parts_of m) = subst (λ (x : List ℕ). told_in sectors (x ++ (image_text_of bytes ++ tail)) ≡ Ok (t.0, parts_of m)) (sym o.is) t.1 in
    record { card = t.0; told = told; taken = λ one result means. read_as t.0 m (told_in sectors (run_text printed ++ (image_text_of bytes ++ tail))) told one result means }
