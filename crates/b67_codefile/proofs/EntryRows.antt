-- Bytes of version 2 and their answers, from an independent reader.
use Rattle.std.proofs.Common.{◌≡◌, ℕ, zero, suc, ◌+◌, ◌*◌, ◌/◌, ◌%◌, ◌^◌, List, [], ◌∷◌, ◌++◌, length, take, drop, map, Option, Some, None, Result, Ok, Err, refl}
use Rattle.std.specs.Int.{w16, w64, to_be_bytes}
use Rattle.std.specs.List.{flat_map}
use Rattle.b67_word.specs.Tagged.{word}
use Rattle.b67_codefile.specs.declared.fault.BadFile.{BadFile}
use Rattle.b67_codefile.specs.declared.fault.BadFile.TheVariants.{Short, BadHeader, BadWord, TooMany, Trailing, BadEntry}
use Rattle.b67_codefile.specs.declared.file.Codefile.{Codefile}
use Rattle.b67_codefile.specs.Reading.{file_of, reading, many_at, words_at, word_at, segment_at, entries_at, many_entries_at}

-- two segments, of which the second may be entered at 0:1 too
abbrev file : List ℕ
file = 66 ∷ 54 ∷ 55 ∷ 67 ∷ 79 ∷ 68 ∷ 69 ∷ 50 ∷ 0 ∷ 2 ∷ 0 ∷ 0 ∷ 2 ∷ 0 ∷ 0 ∷ 3 ∷ 0 ∷ 3 ∷ 191 ∷ 255 ∷ 255 ∷ 255 ∷ 255 ∷ 255 ∷ 0 ∷ 3 ∷ 0 ∷ 2 ∷ 0 ∷ 0 ∷ 192 ∷ 3 ∷ 0 ∷ 3 ∷ 174 ∷ 80 ∷ 2 ∷ 171 ∷ 163 ∷ 255 ∷ 3 ∷ 1 ∷ 32 ∷ 0 ∷ 0 ∷ 2 ∷ 0 ∷ 3 ∷ 163 ∷ 174 ∷ 64 ∷ 9 ∷ 177 ∷ 171 ∷ 0 ∷ 3 ∷ 163 ∷ 255 ∷ 255 ∷ 255 ∷ 255 ∷ 255 ∷ []

entered : file_of file ≡ Ok (record { version = 2; segments = record { level = 2; entries = []; code = word 3 0xbfffffffffff ∷ word 3 0x00020000c003 ∷ word 3 0xae5002aba3ff ∷ [] } ∷ record { level = 3; entries = 0x2000 ∷ []; code = word 3 0xa3ae4009b1ab ∷ word 3 0xa3ffffffffff ∷ [] } ∷ []; rows = [] })
unfolding reading many_at words_at word_at segment_at entries_at many_entries_at
entered = refl

-- each proper prefix is short
abbrev prefixes : ℕ → List (Result Codefile BadFile)
prefixes zero = []
prefixes (suc n) = file_of (take n file) ∷ prefixes n

abbrev shorts : ℕ → List (Result Codefile BadFile)
shorts zero = []
shorts (suc n) = Err (Short n) ∷ shorts n

prefixes_are_short : prefixes 62 ≡ shorts 62
unfolding reading many_at words_at word_at segment_at entries_at many_entries_at
prefixes_are_short = refl

-- another byte at a place of the file: its flaw, or none if it is another file
abbrev flaw_of : Result Codefile BadFile → Option BadFile
flaw_of (Ok other) = None
flaw_of (Err flaw) = Some flaw

abbrev changed : ℕ → ℕ → Option BadFile
changed at byte = flaw_of (file_of (take at file ++ byte ∷ drop (at + 1) file))

abbrev each_changed : ℕ → List ℕ → List (Option BadFile)
each_changed at bytes = map (changed at) bytes

header_0_changed : each_changed 0 (67 ∷ 65 ∷ []) ≡ Some (BadHeader 0) ∷ Some (BadHeader 0) ∷ []
unfolding reading many_at words_at word_at segment_at entries_at many_entries_at
header_0_changed = refl

header_1_changed : each_changed 1 (55 ∷ 53 ∷ []) ≡ Some (BadHeader 0) ∷ Some (BadHeader 0) ∷ []
unfolding reading many_at words_at word_at segment_at entries_at many_entries_at
header_1_changed = refl

header_2_changed : each_changed 2 (56 ∷ 54 ∷ []) ≡ Some (BadHeader 0) ∷ Some (BadHeader 0) ∷ []
unfolding reading many_at words_at word_at segment_at entries_at many_entries_at
header_2_changed = refl

header_3_changed : each_changed 3 (68 ∷ 66 ∷ []) ≡ Some (BadHeader 0) ∷ Some (BadHeader 0) ∷ []
unfolding reading many_at words_at word_at segment_at entries_at many_entries_at
header_3_changed = refl

header_4_changed : each_changed 4 (80 ∷ 78 ∷ []) ≡ Some (BadHeader 0) ∷ Some (BadHeader 0) ∷ []
unfolding reading many_at words_at word_at segment_at entries_at many_entries_at
header_4_changed = refl

header_5_changed : each_changed 5 (69 ∷ 67 ∷ []) ≡ Some (BadHeader 0) ∷ Some (BadHeader 0) ∷ []
unfolding reading many_at words_at word_at segment_at entries_at many_entries_at
header_5_changed = refl

header_6_changed : each_changed 6 (70 ∷ 68 ∷ []) ≡ Some (BadHeader 0) ∷ Some (BadHeader 0) ∷ []
unfolding reading many_at words_at word_at segment_at entries_at many_entries_at
header_6_changed = refl

version_changed : each_changed 7 (51 ∷ 49 ∷ 18 ∷ 178 ∷ 0 ∷ 255 ∷ 192 ∷ 224 ∷ []) ≡ Some (BadHeader 0) ∷ Some (TooMany 13) ∷ Some (BadHeader 0) ∷ Some (BadHeader 0) ∷ Some (BadHeader 0) ∷ Some (BadHeader 0) ∷ Some (BadHeader 0) ∷ Some (BadHeader 0) ∷ []
unfolding reading many_at words_at word_at segment_at entries_at many_entries_at
version_changed = refl

segments_high_changed : each_changed 8 (1 ∷ 255 ∷ 32 ∷ 128 ∷ 192 ∷ 224 ∷ []) ≡ Some (TooMany 8) ∷ Some (TooMany 8) ∷ Some (TooMany 8) ∷ Some (TooMany 8) ∷ Some (TooMany 8) ∷ Some (TooMany 8) ∷ []
unfolding reading many_at words_at word_at segment_at entries_at many_entries_at
segments_high_changed = refl

segments_low_changed : each_changed 9 (3 ∷ 1 ∷ 34 ∷ 130 ∷ 0 ∷ 255 ∷ 192 ∷ 224 ∷ []) ≡ Some (Short 62) ∷ Some (Trailing 40) ∷ Some (Short 62) ∷ Some (Short 62) ∷ Some (Trailing 12) ∷ Some (Short 62) ∷ Some (Short 62) ∷ Some (Short 62) ∷ []
unfolding reading many_at words_at word_at segment_at entries_at many_entries_at
segments_low_changed = refl

rows_high_changed : each_changed 10 (1 ∷ 255 ∷ 32 ∷ 128 ∷ 192 ∷ 224 ∷ []) ≡ Some (TooMany 8) ∷ Some (TooMany 8) ∷ Some (TooMany 8) ∷ Some (TooMany 8) ∷ Some (TooMany 8) ∷ Some (TooMany 8) ∷ []
unfolding reading many_at words_at word_at segment_at entries_at many_entries_at
rows_high_changed = refl

rows_low_changed : each_changed 11 (1 ∷ 255 ∷ 32 ∷ 128 ∷ 192 ∷ 224 ∷ []) ≡ Some (Short 62) ∷ Some (TooMany 8) ∷ Some (Short 62) ∷ Some (Short 62) ∷ Some (Short 62) ∷ Some (Short 62) ∷ []
unfolding reading many_at words_at word_at segment_at entries_at many_entries_at
rows_low_changed = refl

level_changed : each_changed 12 (3 ∷ 1 ∷ 34 ∷ 130 ∷ 0 ∷ 255 ∷ 192 ∷ 224 ∷ []) ≡ None ∷ None ∷ None ∷ None ∷ None ∷ None ∷ None ∷ None ∷ []
unfolding reading many_at words_at word_at segment_at entries_at many_entries_at
level_changed = refl

entries_changed : each_changed 13 (1 ∷ 255 ∷ 32 ∷ 128 ∷ 192 ∷ 224 ∷ []) ≡ Some (BadWord 18) ∷ Some (BadEntry 16) ∷ Some (BadEntry 16) ∷ Some (BadEntry 16) ∷ Some (BadEntry 16) ∷ Some (BadEntry 16) ∷ []
unfolding reading many_at words_at word_at segment_at entries_at many_entries_at
entries_changed = refl

second_level_changed : each_changed 40 (4 ∷ 2 ∷ 35 ∷ 131 ∷ 0 ∷ 255 ∷ 192 ∷ 224 ∷ []) ≡ None ∷ None ∷ None ∷ None ∷ None ∷ None ∷ None ∷ None ∷ []
unfolding reading many_at words_at word_at segment_at entries_at many_entries_at
second_level_changed = refl

second_entries_changed : each_changed 41 (2 ∷ 0 ∷ 33 ∷ 129 ∷ 255 ∷ 192 ∷ 224 ∷ []) ≡ Some (BadWord 48) ∷ Some (TooMany 42) ∷ Some (BadEntry 50) ∷ Some (BadEntry 50) ∷ Some (BadEntry 50) ∷ Some (BadEntry 50) ∷ Some (BadEntry 50) ∷ []
unfolding reading many_at words_at word_at segment_at entries_at many_entries_at
second_entries_changed = refl

entry_high_changed : each_changed 42 (33 ∷ 31 ∷ 0 ∷ 160 ∷ 255 ∷ 192 ∷ 224 ∷ []) ≡ None ∷ None ∷ Some (BadEntry 42) ∷ None ∷ Some (BadEntry 42) ∷ Some (BadEntry 42) ∷ Some (BadEntry 42) ∷ []
unfolding reading many_at words_at word_at segment_at entries_at many_entries_at
entry_high_changed = refl

entry_low_changed : each_changed 43 (1 ∷ 255 ∷ 32 ∷ 128 ∷ 192 ∷ 224 ∷ []) ≡ None ∷ None ∷ None ∷ None ∷ None ∷ None ∷ []
unfolding reading many_at words_at word_at segment_at entries_at many_entries_at
entry_low_changed = refl

-- a segment of level 2 with one word and these entries
abbrev with_entries : List ℕ → Result Codefile BadFile
with_entries entries =
    file_of (to_be_bytes w64 0x423637434f444532 ++ (0 ∷ 1 ∷ 0 ∷ 0 ∷ 2 ∷ length entries ∷ []) ++ flat_map (to_be_bytes w16) entries ++ 0 ∷ 1 ∷ 0 ∷ 3 ∷ 163 ∷ 255 ∷ 255 ∷ 255 ∷ 255 ∷ 255 ∷ [])

first_place : with_entries (0x0 ∷ []) ≡ Err (BadEntry 14)
unfolding reading many_at words_at word_at segment_at entries_at many_entries_at
first_place = refl

first_place_later : with_entries (0x2000 ∷ 0x0 ∷ []) ≡ Err (BadEntry 16)
unfolding reading many_at words_at word_at segment_at entries_at many_entries_at
first_place_later = refl

twice : with_entries (0x2000 ∷ 0x2000 ∷ []) ≡ Err (BadEntry 16)
unfolding reading many_at words_at word_at segment_at entries_at many_entries_at
twice = refl

out_of_order : with_entries (0x1 ∷ 0xa000 ∷ []) ≡ Err (BadEntry 16)
unfolding reading many_at words_at word_at segment_at entries_at many_entries_at
out_of_order = refl

same_word_out_of_order : with_entries (0x8003 ∷ 0x4003 ∷ []) ≡ Err (BadEntry 16)
unfolding reading many_at words_at word_at segment_at entries_at many_entries_at
same_word_out_of_order = refl

later_word_lower_syllable : with_entries (0x8003 ∷ 0x4 ∷ []) ≡ Ok (record { version = 2; segments = record { level = 2; entries = 0x8003 ∷ 0x4 ∷ []; code = word 3 0xa3ffffffffff ∷ [] } ∷ []; rows = [] })
unfolding reading many_at words_at word_at segment_at entries_at many_entries_at
later_word_lower_syllable = refl

syllable_5 : with_entries (0xa000 ∷ []) ≡ Ok (record { version = 2; segments = record { level = 2; entries = 0xa000 ∷ []; code = word 3 0xa3ffffffffff ∷ [] } ∷ []; rows = [] })
unfolding reading many_at words_at word_at segment_at entries_at many_entries_at
syllable_5 = refl

syllable_6 : with_entries (0xc000 ∷ []) ≡ Err (BadEntry 14)
unfolding reading many_at words_at word_at segment_at entries_at many_entries_at
syllable_6 = refl

syllable_7 : with_entries (0xe000 ∷ []) ≡ Err (BadEntry 14)
unfolding reading many_at words_at word_at segment_at entries_at many_entries_at
syllable_7 = refl

syllable_6_after_one : with_entries (0x2000 ∷ 0xc001 ∷ []) ≡ Err (BadEntry 16)
unfolding reading many_at words_at word_at segment_at entries_at many_entries_at
syllable_6_after_one = refl

last_word : with_entries (0xbfff ∷ []) ≡ Ok (record { version = 2; segments = record { level = 2; entries = 0xbfff ∷ []; code = word 3 0xa3ffffffffff ∷ [] } ∷ []; rows = [] })
unfolding reading many_at words_at word_at segment_at entries_at many_entries_at
last_word = refl

none : with_entries ([]) ≡ Ok (record { version = 2; segments = record { level = 2; entries = []; code = word 3 0xa3ffffffffff ∷ [] } ∷ []; rows = [] })
unfolding reading many_at words_at word_at segment_at entries_at many_entries_at
none = refl

-- 255 entries, one after the other
abbrev entries_from : (n count : ℕ) → List ℕ
entries_from n zero = []
entries_from n (suc count) = ((n % 6) * 2 ^ 13 + n / 6) ∷ entries_from (n + 1) count

most_entries : with_entries (entries_from 1 255) ≡ Ok (record { version = 2; segments = record { level = 2; entries = entries_from 1 255; code = word 3 0xa3ffffffffff ∷ [] } ∷ []; rows = [] })
unfolding reading many_at words_at word_at segment_at entries_at many_entries_at
most_entries = refl
