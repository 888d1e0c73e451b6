-- Codefiles of programs, and cards of bytes.
use Rattle.std.proofs.Common.{◌≡◌, Ok, ℕ, ◌+◌, ◌*◌, ◌-◌, List, [], ◌∷◌, ◌++◌, length, map, take, drop, min, refl, sym, ap, ◌∙◌, append-nil, append_assoc, length-drop, arith}
use Rattle.std.specs.List.{AllByRecursion, flat_map, range_with_len}
use Rattle.std.proofs.lemmas.Grind.{flat_map-append}
use Rattle.std.proofs.lemmas.List.{take_min}
use Rattle.std.proofs.lemmas.List.FromFn.{map-range_with_len_more}
use Rattle.b67_word.specs.Tagged.{Tagged, word, contents}
use Rattle.b67_io.specs.Line.{ended}
use Rattle.b67_codefile.specs.declared.file.Segment.{Segment}
use Rattle.b67_codefile.specs.declared.file.Codefile.{Codefile}
use Rattle.b67_codefile.specs.Spelling.{spelling, HasTag, IsFileSegment, IsRow, IsWithin}
use Rattle.b67_codefile.specs.Meaning.{segment_of, program_of}
use Rattle.b67_model_text.specs.declared.card.Card.{Card}
use Rattle.b67_model_text.specs.Hex.{hex_text}
use Rattle.b67_model_text.specs.Asm.{assembled, version_of}
use Rattle.b67_job.specs.Verdicts.{segment_file, codefile_of, hex_lines, asm_of}

words_back : (tag : ℕ) (words : List Tagged) → AllByRecursion (HasTag tag) words → map (word tag) (contents words) ≡ words
words_back tag [] all = refl
words_back tag (w ∷ words) all = let e : word tag w.bits ≡ w = ap (λ (t : ℕ). word t w.bits) (sym all.0.tagged) in rw (e, words_back tag words all.1) refl

segments_back : (segments : List Segment) → AllByRecursion IsFileSegment segments → map segment_file (map segment_of segments) ≡ segments
segments_back [] all = refl
segments_back (s ∷ segments) all = rw (words_back 3 s.code all.0.code.each, segments_back segments all.1) refl

rows_back : (rows : List (List Tagged)) → AllByRecursion IsRow rows → map (map (word 0)) (map contents rows) ≡ rows
rows_back [] all = refl
rows_back (r ∷ rows) all = rw (words_back 0 r all.0.each, rows_back rows all.1) refl

-- a codefile is that of its program
pub file_back : (f : Codefile) → IsWithin f → codefile_of f.version (program_of f) ≡ f
file_back f within = rw (segments_back f.segments within.segments, rows_back f.rows within.rows) refl

-- cards that denote the program of a codefile
pub assembled_file : (cards : List Card) (f : Codefile) → assembled cards ≡ Ok (program_of f) → f.version ≡ version_of cards → IsWithin f → asm_of cards ≡ Ok (hex_lines (spelling f))
assembled_file cards f e version within = rw e (ap (λ (g : Codefile). Ok (hex_lines (spelling g))) (ap (λ (n : ℕ). codefile_of n (program_of f)) (sym version) ∙ file_back f within))

-- the first cards of bytes, so many
abbrev pub first_cards : List ℕ → ℕ → List ℕ
first_cards bytes n = flat_map ended (map (λ i. hex_text (take 32 (drop (32 * i) bytes))) (range_with_len 0 n))

-- one card more
pub card_more : (bytes : List ℕ) (n : ℕ) → first_cards bytes (n + 1) ≡ first_cards bytes n ++ ended (hex_text (take 32 (drop (32 * n) bytes)))
card_more bytes n =
    let f : ℕ → List ℕ = λ i. hex_text (take 32 (drop (32 * i) bytes)) in
    ap (flat_map ended) (map-range_with_len_more f 0 n n (omega arith))
    ∙ flat_map-append ended (map f (range_with_len 0 n)) (f n ∷ [])
    ∙ ap (λ (more : List ℕ). first_cards bytes n ++ more) (append-nil (ended (f n)))

slice_is : (bytes : List ℕ) (start : ℕ) → take (min (length bytes) (start + 32) - start) (drop start bytes) ≡ take 32 (drop start bytes)
slice_is bytes start =
    let e : min (length bytes) (start + 32) - start ≡ min 32 (length (drop start bytes)) = omega (arith, length-drop start bytes) in
    ap (λ (k : ℕ). take k (drop start bytes)) e ∙ take_min 32 (drop start bytes)

-- a turn of the loop over cards
pub card_turn : (bytes first before now : List ℕ) (n end : ℕ) → before ≡ first ++ first_cards bytes n → end ≡ min (length bytes) (n * 32 + 32)
    → now ≡ before ++ ended (hex_text (take (end - n * 32) (drop (n * 32) bytes))) → now ≡ first ++ first_cards bytes (n + 1)
card_turn bytes first before now n end b e h =
    let swapped : n * 32 ≡ 32 * n = omega arith in
    let piece : take (end - n * 32) (drop (n * 32) bytes) ≡ take 32 (drop (32 * n) bytes) =
    ap (λ (k : ℕ). take (k - n * 32) (drop (n * 32) bytes)) e ∙ slice_is bytes (n * 32) ∙ ap (λ (k : ℕ). take 32 (drop k bytes)) swapped in
    h ∙ ap (λ (xs : List ℕ). xs ++ ended (hex_text (take (end - n * 32) (drop (n * 32) bytes)))) b
    ∙ ap (λ (xs : List ℕ). (first ++ first_cards bytes n) ++ ended (hex_text xs)) piece
    ∙ append_assoc first (first_cards bytes n) (ended (hex_text (take 32 (drop (32 * n) bytes))))
    ∙ ap (λ (xs : List ℕ). first ++ xs) (sym (card_more bytes n))
