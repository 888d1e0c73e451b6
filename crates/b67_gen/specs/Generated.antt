-- The deck of an exercise: arrays of drawn lengths, four stores for each, and the sum of what they hold, with each store's
-- element added once.
use Rattle.std.specs.Prelude.{ℕ, zero, suc, ◌+◌, ◌*◌, ◌/◌, ◌%◌, ◌^◌, List, [], ◌∷◌, ◌++◌, length, get_or, codes, decimal}
use Rattle.std.specs.List.{flat_map}
use Rattle.b67_io.specs.Line.{ended}
use Rattle.b67_gen.specs.declared.stores.Store.{Store}

-- a draw sets the state to this
abbrev pub drawn : ℕ → ℕ
drawn x = (x * 1103515245 + 12345) % 2 ^ 31

-- and gives a number below m
abbrev pub below : ℕ → ℕ → ℕ
below m x = x / 65536 % m

-- the state after so many draws
abbrev pub after_draws : ℕ → ℕ → ℕ
after_draws zero x = x
after_draws (suc n) x = after_draws n (drawn x)

-- the lengths of so many arrays
abbrev pub lengths : ℕ → ℕ → List ℕ
lengths zero x = []
lengths (suc n) x = (50 + below 200 (drawn x)) ∷ lengths n (drawn x)

-- a store into an array that is drawn: its index, and the value
abbrev pub drawn_store : List ℕ → ℕ → Store
drawn_store arrays x =
    let array = below (length arrays) (after_draws 1 x) in
    record { array = array; index = below (get_or arrays array 1) (after_draws 2 x); value = below 1000 (after_draws 3 x) }

abbrev pub stores : List ℕ → ℕ → ℕ → List Store
stores arrays zero x = []
stores arrays (suc n) x = drawn_store arrays x ∷ stores arrays n (after_draws 3 x)

-- ---- as cards

abbrev pub literal_card : ℕ → List ℕ
literal_card n = codes "LT16 " ++ decimal n

-- the cell of an array
abbrev pub cell_card : ℕ → List ℕ
cell_card array = codes "NAMC 2," ++ decimal (array + 2)

abbrev pub making : ℕ → List (List ℕ)
making words = codes "MKST" ∷ codes "NAMC 0,8" ∷ literal_card words ∷ codes "ENTR" ∷ []

abbrev pub storing : Store → List (List ℕ)
storing s = literal_card s.value ∷ cell_card s.array ∷ literal_card s.index ∷ codes "INDX" ∷ codes "STOD" ∷ []

abbrev pub adding : Store → List (List ℕ)
adding s = cell_card s.array ∷ literal_card s.index ∷ codes "NXLV" ∷ codes "ADD" ∷ []

-- the cards before the operators, the operators that begin to print, and the cards after the sum
abbrev pub front_cards : List (List ℕ)
front_cards = codes "?STACK 1024" ∷ codes "?JOB EXERCISE" ∷ codes "?ASM" ∷ codes "SEGMENT MAIN 2" ∷ []

abbrev pub printing : List (List ℕ)
printing = codes "MKST" ∷ codes "NAMC 0,9" ∷ codes "ZERO" ∷ []

abbrev pub end_cards : List (List ℕ)
end_cards = codes "ENTR" ∷ codes "EXIT" ∷ codes "?END" ∷ []

-- the cards of an exercise over these arrays and stores
abbrev pub cards_over : List ℕ → List Store → List (List ℕ)
cards_over arrays all = front_cards ++ flat_map making arrays ++ flat_map storing all ++ printing ++ flat_map adding all ++ end_cards

-- each on a line
abbrev pub on_lines : List (List ℕ) → List ℕ
on_lines cards = flat_map ended cards

-- the text of an exercise of so many arrays, drawn from a seed
unfoldable pub generated_text : ℕ → ℕ → List ℕ
generated_text seed size =
    let arrays = lengths size seed in
    on_lines (cards_over arrays (stores arrays (4 * size) (after_draws size seed)))
