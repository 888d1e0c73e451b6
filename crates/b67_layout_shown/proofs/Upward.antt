-- A dictionary's words upward: its segments, then the originals of its data rows.
use Rattle.std.proofs.Common.{◌≡◌, ℕ, zero, suc, ◌+◌, List, [], ◌∷◌, ◌++◌, reverse, refl, ◌∙◌, ap, arith}
use Rattle.b67_lemmas.proofs.Members.{reverse_cons}
use Rattle.b67_model.specs.Words as Words
use Rattle.b67_model.specs.Common.{Word, Original}
use Rattle.b67_layout_shown.specs.Shown.{row_cells, segment_cells}

-- the originals of data rows, upward
abbrev pub up_rows : ℕ → ℕ → List Word
up_rows i zero = []
up_rows i (suc n) = Original i ∷ up_rows (i + 1) n

-- the words of segments, upward
abbrev pub up_segments : ℕ → ℕ → List Word
up_segments i zero = []
up_segments i (suc n) = Words.Segment i ∷ up_segments (i + 1) n

more_rows : (n i : ℕ) → up_rows i n ++ (Original (i + n) ∷ []) ≡ up_rows i (suc n)
more_rows zero i = let e : i + 0 ≡ i = omega arith in ap (λ k. Original k ∷ []) e
more_rows (suc n) i = grind (arith, more_rows n (i + 1))

more_segments : (n i : ℕ) → up_segments i n ++ (Words.Segment (i + n) ∷ []) ≡ up_segments i (suc n)
more_segments zero i = let e : i + 0 ≡ i = omega arith in ap (λ k. Words.Segment k ∷ []) e
more_segments (suc n) i = grind (arith, more_segments n (i + 1))

pub rows_turned : (n : ℕ) → reverse (row_cells n) ≡ up_rows 1 n
rows_turned zero = refl
rows_turned (suc n) =
    let e : suc n ≡ 1 + n = omega arith in
    reverse_cons (Original (suc n)) (row_cells n) ∙ ap (λ ws. ws ++ (Original (suc n) ∷ [])) (rows_turned n) ∙ ap (λ k. up_rows 1 n ++ (Original k ∷ [])) e ∙ more_rows n 1

pub segments_turned : (n : ℕ) → reverse (segment_cells n) ≡ up_segments 1 n
segments_turned zero = refl
segments_turned (suc n) =
    let e : suc n ≡ 1 + n = omega arith in
    reverse_cons (Words.Segment (suc n)) (segment_cells n) ∙ ap (λ ws. ws ++ (Words.Segment (suc n) ∷ [])) (segments_turned n) ∙ ap (λ k. up_segments 1 n ++ (Words.Segment k ∷ [])) e ∙ more_segments n 1
