-- The programs of the long worked runs.
use Rattle.std.specs.Prelude.{ℕ, zero, suc, ◌+◌, List, [], ◌∷◌, ◌++◌}
use Rattle.b67_model.specs.State.{Segment}
use Rattle.b67_law_examples.specs.Mnemonics.{Operator, segment, ADD, BRTR, CHSN, ENTR, EXIT, GRTR, LT8, MKST, MPCW, NAMC, ONE, RETN, STFF, STOD, SUBT, VALC, ZERO}

-- Knuth's man or boy, with k = 8
abbrev pub manboy : List Segment
manboy =
    segment 2 (MPCW 2 3 ∷ MKST ∷ NAMC 0 9 ∷ MKST ∷ NAMC 2 2 ∷ LT8 8 ∷ ONE ∷ ONE ∷ CHSN ∷ ONE ∷ CHSN ∷ ONE ∷ ZERO ∷ ENTR ∷ ENTR ∷ EXIT ∷ []) ∷
    segment 3 (MPCW 3 4 ∷ VALC 3 2 ∷ ZERO ∷ GRTR ∷ BRTR 4 1 ∷ VALC 3 6 ∷ VALC 3 7 ∷ ADD ∷ RETN ∷ MKST ∷ NAMC 3 8 ∷ ENTR ∷ RETN ∷ []) ∷
    segment 4 (VALC 3 2 ∷ ONE ∷ SUBT ∷ NAMC 3 2 ∷ STOD ∷ MKST ∷ NAMC 2 2 ∷ VALC 3 2 ∷ NAMC 3 8 ∷ STFF ∷ NAMC 3 3 ∷ STFF ∷ NAMC 3 4 ∷ STFF ∷
    NAMC 3 5 ∷ STFF ∷ NAMC 3 6 ∷ STFF ∷ ENTR ∷ RETN ∷ []) ∷ []

-- names of this many cells, from an offset up, each in the cell before
abbrev pub names : ℕ → ℕ → List Operator
names zero offset = []
names (suc count) offset = NAMC 2 offset ∷ names count (offset + 1)

-- a cell with zero and so many names over it, each of the cell below; the last one is read and printed
abbrev pub chain : ℕ → List Segment
chain count = segment 2 (ZERO ∷ names count 2 ++ MKST ∷ NAMC 0 9 ∷ VALC 2 (count + 2) ∷ ENTR ∷ EXIT ∷ []) ∷ []
