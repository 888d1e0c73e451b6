-- The data rows of an opened job: their arrays, and their originals in the dictionary.
use Rattle.std.proofs.Common.{◌≡◌, ◌≢◌, ℕ, ◌+◌, ◌<◌, ◌≤◌, false, cond, List, [], ◌∷◌, ◌++◌, map, reverse, length, refl, sym, ◌∙◌, subst, inl, inr, arith}
use Rattle.std.specs.List.{AllByRecursion}
use Rattle.std.proofs.lemmas.List.{reverse-reverse, length-reverse}
use Rattle.std.proofs.lemmas.Bool.Decides.{eqb_tells}
use Rattle.b67_lemmas.specs.Lists.{Has, how_many, Falls}
use Rattle.b67_lemmas.proofs.Members.{falls_more, has_reverse, total_append, total_reverse}
use Rattle.b67_lemmas.proofs.Joins.{all_append, all_by, all_reverse, falls_turned}
use Rattle.b67_model.specs.Common.{Word, Array, Segment, segment_words, originals, row_arrays, EntryInOrder, ArrayInOrder, DictionaryWords, rows_after, is_original_of}
use Rattle.b67_law.specs.Opening.{RowWithin}

-- the dictionary's words
rows_follow : (n : ℕ) (rows : List (List ℕ)) → rows_after n (originals n rows)
rows_follow n [] = tt
rows_follow n (r ∷ more) = (refl, rows_follow (n + 1) more)

segments_follow : (n : ℕ) (segments : List Segment) (rows : List (List ℕ)) → DictionaryWords n segments (segment_words n segments ++ originals 1 rows)
segments_follow n [] rows = rows_follow 1 rows
segments_follow n (s ∷ more) rows = (refl, segments_follow (n + 1) more rows)

pub dictionary_words : (segments : List Segment) (rows : List (List ℕ)) →
    DictionaryWords 1 segments (reverse (reverse (segment_words 1 segments ++ originals 1 rows)))
dictionary_words segments rows = grind (arith, reverse-reverse, segments_follow)

rows_count : (n : ℕ) (rows : List (List ℕ)) → length (originals n rows) ≡ length rows
rows_count n [] = refl
rows_count n (r ∷ more) = omega (arith, rows_count (n + 1) more)

words_count : (n : ℕ) (segments : List Segment) (rows : List (List ℕ)) → length (segment_words n segments ++ originals 1 rows) ≡ length segments + length rows
words_count n [] rows = omega (arith, rows_count 1 rows)
words_count n (s ∷ more) rows = omega (arith, words_count (n + 1) more rows)

pub entries_count : (segments : List Segment) (rows : List (List ℕ)) → length (reverse (segment_words 1 segments ++ originals 1 rows)) ≡ length segments + length rows
entries_count segments rows = length-reverse (segment_words 1 segments ++ originals 1 rows) ∙ words_count 1 segments rows

-- the arrays of the rows
rows_good : (n : ℕ) (rows : List (List ℕ)) → AllByRecursion RowWithin rows → AllByRecursion ArrayInOrder (row_arrays n rows)
rows_good n [] h = tt
rows_good n (r ∷ more) h = grind (arith, rows_good (n + 1) more h.1)

pub arrays_good : (rows : List (List ℕ)) → AllByRecursion RowWithin rows → AllByRecursion ArrayInOrder (reverse (row_arrays 1 rows))
arrays_good rows h = all_reverse ArrayInOrder (row_arrays 1 rows) (rows_good 1 rows h)

abbrev Between : ℕ → ℕ → Array → Type 0
Between low high a = (low ≤ a.identity) × (a.identity < high)

rows_between : (low high n : ℕ) (rows : List (List ℕ)) → low ≤ n → n + length rows ≤ high → AllByRecursion (Between low high) (row_arrays n rows)
rows_between low high n [] le fits = tt
rows_between low high n (r ∷ more) le fits = ((le, omega (arith, fits)), rows_between low high (n + 1) more (omega (arith, le)) (omega (arith, fits)))

falls_from : (n : ℕ) (rows : List (List ℕ)) → Falls (n + length rows) (map (λ a. a.identity) (reverse (row_arrays n rows)))
falls_from n [] = tt
falls_from n (r ∷ more) = grind (arith, falls_turned, all_by, rows_between, falls_from (n + 1) more)

pub names_fall : (rows : List (List ℕ)) → Falls (length rows + 1) (map (λ a. a.identity) (reverse (row_arrays 1 rows)))
names_fall rows = falls_more (1 + length rows) (length rows + 1) _ (omega arith) (falls_from 1 rows)

-- the originals of the rows
none_of : (i n : ℕ) (segments : List Segment) → how_many (is_original_of i) (segment_words n segments) ≡ 0
none_of i n [] = refl
none_of i n (s ∷ more) = omega (arith, none_of i (n + 1) more)

none_above : (i n : ℕ) (rows : List (List ℕ)) → i < n → how_many (is_original_of i) (originals n rows) ≡ 0
none_above i n [] lt = refl
none_above i n (r ∷ more) lt = grind (arith, none_above i (n + 1) more)

one_of : (i n : ℕ) (rows : List (List ℕ)) → n ≤ i → i < n + length rows → how_many (is_original_of i) (originals n rows) ≡ 1
one_of i n [] le lt = absurd (omega (arith, le, lt))
one_of i n (r ∷ more) le lt =
    elim (eqb_tells n i) [
      | inl t ↦ rw t.0 (omega (arith, none_above i (n + 1) more (omega (arith, t.1))))
      | inr t ↦ rw t.0 (omega (arith, one_of i (n + 1) more (differ n i le t.1) (omega (arith, lt))))
    ]
  where
    differ : (n i : ℕ) → n ≤ i → n ≢ i → n + 1 ≤ i
    differ n i le ne = omega (arith, le, ne)

pub one_original : (i : ℕ) (segments : List Segment) (rows : List (List ℕ)) → 1 ≤ i → i < 1 + length rows →
    how_many (is_original_of i) (reverse (segment_words 1 segments ++ originals 1 rows)) ≡ 1
one_original i segments rows le lt =
    let f : Word → ℕ = λ w. cond (is_original_of i w) 1 0 in
    total_reverse f (segment_words 1 segments ++ originals 1 rows) ∙ total_append f (segment_words 1 segments) (originals 1 rows)
    ∙ (let a = none_of i 1 segments in let b = one_of i 1 rows le lt in omega (arith, a, b))

pub each_once : (P : Array → Type 0) (rows : List (List ℕ)) → ((a : Array) → 1 ≤ a.identity → a.identity < 1 + length rows → P a) → AllByRecursion P (reverse (row_arrays 1 rows))
each_once P rows each = grind (arith, all_reverse, all_by, rows_between)

-- the entries of the dictionary
segments_enter : (arrays : List Array) (n : ℕ) (segments : List Segment) → AllByRecursion (EntryInOrder arrays) (segment_words n segments)
segments_enter arrays n [] = tt
segments_enter arrays n (s ∷ more) = (tt, segments_enter arrays (n + 1) more)

rows_enter : (arrays : List Array) (n : ℕ) (rows : List (List ℕ)) → ((a : Array) → Has (row_arrays n rows) a → Has arrays a) → AllByRecursion (EntryInOrder arrays) (originals n rows)
rows_enter arrays n [] into = tt
rows_enter arrays n (r ∷ more) into =
    let a : Array = record { identity = n; owner = 1; writable = false; numbers = r } in
    (record { item = a; live = into a (inl refl); named = refl; owned = refl }, rows_enter arrays (n + 1) more (λ b h. into b (inr h)))

pub entries_good : (segments : List Segment) (rows : List (List ℕ)) → AllByRecursion (EntryInOrder (reverse (row_arrays 1 rows))) (reverse (segment_words 1 segments ++ originals 1 rows))
entries_good segments rows =
    let arrays = reverse (row_arrays 1 rows) in
    all_reverse (EntryInOrder arrays) (segment_words 1 segments ++ originals 1 rows)
    (all_append (EntryInOrder arrays) (segment_words 1 segments) (originals 1 rows) (segments_enter arrays 1 segments)
    (rows_enter arrays 1 rows (λ a h. has_reverse (row_arrays 1 rows) a h)))
