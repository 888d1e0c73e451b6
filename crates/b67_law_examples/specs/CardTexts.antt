-- The cards of worked programs and decks.
use Rattle.std.specs.Prelude.{ℕ, zero, suc, ◌+◌, ◌/◌, ◌%◌, List, [], ◌∷◌, ◌++◌, codes}
use Rattle.std.specs.List.{flat_map}

-- cards as the lines of a text
abbrev pub text_of_cards : List (List ℕ) → List ℕ
text_of_cards cards = flat_map (λ card. card ++ 10 ∷ []) cards

-- cards so many times
abbrev pub cards_times : ℕ → List (List ℕ) → List (List ℕ)
cards_times zero cards = []
cards_times (suc n) cards = cards ++ cards_times n cards

-- two and three
abbrev pub sum_cards : List (List ℕ)
sum_cards =
    codes "SEGMENT MAIN 2" ∷ codes "MKST" ∷ codes "NAMC 0,9" ∷ codes "LT8 2" ∷ codes "LT8 3" ∷ codes "ADD" ∷
    codes "ENTR" ∷ codes "EXIT" ∷ []

-- Jensen's device
abbrev pub jensen_cards : List (List ℕ)
jensen_cards =
    codes "SEGMENT MAIN 2" ∷ codes "ZERO            ; 2,2 i" ∷ codes "MPCW SUM        ; 2,3" ∷
    codes "MPCW SQ         ; 2,4" ∷ codes "MPCW IREF       ; 2,5" ∷ codes "MKST" ∷ codes "NAMC 0,9" ∷ codes "MKST" ∷
    codes "NAMC 2,3" ∷ codes "NAMC 2,5" ∷ codes "STFF" ∷ codes "NAMC 2,4" ∷ codes "STFF" ∷ codes "ENTR" ∷
    codes "ENTR" ∷ codes "EXIT" ∷ codes "SEGMENT SUM 3" ∷ codes "ZERO            ; 3,4 total" ∷ codes "ONE" ∷
    codes "NAMC 3,2" ∷ codes "STOD" ∷ codes "L: VALC 3,2" ∷ codes "LT8 10" ∷ codes "GRTR" ∷ codes "BRTR D" ∷
    codes "VALC 3,4" ∷ codes "VALC 3,3" ∷ codes "ADD" ∷ codes "NAMC 3,4" ∷ codes "STOD" ∷ codes "VALC 3,2" ∷
    codes "ONE" ∷ codes "ADD" ∷ codes "NAMC 3,2" ∷ codes "STOD" ∷ codes "BRUN L" ∷ codes "D: VALC 3,4" ∷
    codes "RETN" ∷ codes "SEGMENT SQ 3" ∷ codes "VALC 2,2" ∷ codes "VALC 2,2" ∷ codes "MULT" ∷ codes "RETN" ∷
    codes "SEGMENT IREF 3" ∷ codes "NAMC 2,2" ∷ codes "STFF" ∷ codes "RETN" ∷ []

-- Knuth's man or boy
abbrev pub manboy_cards : List (List ℕ)
manboy_cards =
    codes "SEGMENT MAIN 2" ∷ codes "MPCW A          ; 2,2" ∷ codes "MKST" ∷ codes "NAMC 0,9" ∷ codes "MKST" ∷
    codes "NAMC 2,2" ∷ codes "LT8 8" ∷ codes "ONE" ∷ codes "ONE" ∷ codes "CHSN" ∷ codes "ONE" ∷ codes "CHSN" ∷
    codes "ONE" ∷ codes "ZERO" ∷ codes "ENTR" ∷ codes "ENTR" ∷ codes "EXIT" ∷
    codes "SEGMENT A 3     ; 3,2 k; 3,3 to 3,7 x1 to x5" ∷ codes "MPCW B          ; 3,8" ∷ codes "VALC 3,2" ∷
    codes "ZERO" ∷ codes "GRTR" ∷ codes "BRTR C" ∷ codes "VALC 3,6" ∷ codes "VALC 3,7" ∷ codes "ADD" ∷ codes "RETN" ∷
    codes "C: MKST" ∷ codes "NAMC 3,8" ∷ codes "ENTR" ∷ codes "RETN" ∷ codes "SEGMENT B 4" ∷ codes "VALC 3,2" ∷
    codes "ONE" ∷ codes "SUBT" ∷ codes "NAMC 3,2" ∷ codes "STOD" ∷ codes "MKST" ∷ codes "NAMC 2,2" ∷
    codes "VALC 3,2" ∷ codes "NAMC 3,8" ∷ codes "STFF" ∷ codes "NAMC 3,3" ∷ codes "STFF" ∷ codes "NAMC 3,4" ∷
    codes "STFF" ∷ codes "NAMC 3,5" ∷ codes "STFF" ∷ codes "NAMC 3,6" ∷ codes "STFF" ∷ codes "ENTR" ∷ codes "RETN" ∷
    []

-- eight arrays and a child
abbrev pub eight_cards : List (List ℕ)
eight_cards =
    codes "SEGMENT MAIN 2" ∷ codes "MPCW CH" ∷
    cards_times 8 (codes "MKST" ∷ codes "NAMC 0,8" ∷ codes "LT8 200" ∷ codes "ENTR" ∷ []) ++ codes "NAMC 2,3" ∷
    codes "LT8 0" ∷ codes "INDX" ∷ codes "NAMC 2,4" ∷ codes "LT8 1" ∷ codes "INDX" ∷ codes "NAMC 2,5" ∷
    codes "LT8 2" ∷ codes "INDX" ∷ codes "NAMC 2,6" ∷ codes "LT8 3" ∷ codes "INDX" ∷ codes "NAMC 2,7" ∷
    codes "LT8 4" ∷ codes "INDX" ∷ codes "NAMC 2,8" ∷ codes "LT8 5" ∷ codes "INDX" ∷ codes "NAMC 2,9" ∷
    codes "LT8 6" ∷ codes "INDX" ∷ codes "NAMC 2,10" ∷ codes "LT8 7" ∷ codes "INDX" ∷ codes "LT8 11" ∷
    codes "NAMC 2,11" ∷ codes "STOD" ∷ codes "LT8 12" ∷ codes "NAMC 2,12" ∷ codes "STOD" ∷ codes "LT8 13" ∷
    codes "NAMC 2,13" ∷ codes "STOD" ∷ codes "LT8 14" ∷ codes "NAMC 2,14" ∷ codes "STOD" ∷ codes "LT8 15" ∷
    codes "NAMC 2,15" ∷ codes "STOD" ∷ codes "LT8 16" ∷ codes "NAMC 2,16" ∷ codes "STOD" ∷ codes "LT8 17" ∷
    codes "NAMC 2,17" ∷ codes "STOD" ∷ codes "LT8 18" ∷ codes "NAMC 2,18" ∷ codes "STOD" ∷ codes "MKST" ∷
    codes "NAMC 0,12" ∷ codes "NAMC 2,2" ∷ codes "ENTR" ∷ codes "MKST" ∷ codes "NAMC 0,13" ∷ codes "VALC 2,19" ∷
    codes "ENTR" ∷ codes "MKST" ∷ codes "NAMC 0,9" ∷ codes "VALC 2,11" ∷ codes "VALC 2,12" ∷ codes "ADD" ∷
    codes "VALC 2,13" ∷ codes "ADD" ∷ codes "VALC 2,14" ∷ codes "ADD" ∷ codes "VALC 2,15" ∷ codes "ADD" ∷
    codes "VALC 2,16" ∷ codes "ADD" ∷ codes "VALC 2,17" ∷ codes "ADD" ∷ codes "VALC 2,18" ∷ codes "ADD" ∷
    codes "ENTR" ∷ codes "EXIT" ∷ codes "SEGMENT CH 3" ∷ codes "NAMC 2,3" ∷ codes "LT8 0" ∷ codes "INDX" ∷
    codes "NAMC 2,4" ∷ codes "LT8 1" ∷ codes "INDX" ∷ codes "NAMC 2,5" ∷ codes "LT8 2" ∷ codes "INDX" ∷
    codes "NAMC 2,6" ∷ codes "LT8 3" ∷ codes "INDX" ∷ codes "NAMC 2,7" ∷ codes "LT8 4" ∷ codes "INDX" ∷
    codes "NAMC 2,8" ∷ codes "LT8 5" ∷ codes "INDX" ∷ codes "NAMC 2,9" ∷ codes "LT8 6" ∷ codes "INDX" ∷
    codes "NAMC 2,10" ∷ codes "LT8 7" ∷ codes "INDX" ∷ codes "VALC 3,2" ∷ codes "LT8 100" ∷ codes "ADD" ∷
    codes "NAMC 3,2" ∷ codes "STOD" ∷ codes "VALC 3,3" ∷ codes "LT8 100" ∷ codes "ADD" ∷ codes "NAMC 3,3" ∷
    codes "STOD" ∷ codes "VALC 3,4" ∷ codes "LT8 100" ∷ codes "ADD" ∷ codes "NAMC 3,4" ∷ codes "STOD" ∷
    codes "VALC 3,5" ∷ codes "LT8 100" ∷ codes "ADD" ∷ codes "NAMC 3,5" ∷ codes "STOD" ∷ codes "VALC 3,6" ∷
    codes "LT8 100" ∷ codes "ADD" ∷ codes "NAMC 3,6" ∷ codes "STOD" ∷ codes "VALC 3,7" ∷ codes "LT8 100" ∷
    codes "ADD" ∷ codes "NAMC 3,7" ∷ codes "STOD" ∷ codes "VALC 3,8" ∷ codes "LT8 100" ∷ codes "ADD" ∷
    codes "NAMC 3,8" ∷ codes "STOD" ∷ codes "VALC 3,9" ∷ codes "LT8 100" ∷ codes "ADD" ∷ codes "NAMC 3,9" ∷
    codes "STOD" ∷ codes "EXIT" ∷ []

-- a procedure with an array of its own
abbrev pub leave_cards : List (List ℕ)
leave_cards =
    codes "SEGMENT MAIN 2" ∷ codes "MPCW P" ∷ codes "MKST" ∷ codes "NAMC 0,8" ∷ codes "LT8 200" ∷
    cards_times 3 (codes "ENTR" ∷ codes "MKST" ∷ codes "NAMC 2,2" ∷ []) ++ codes "ENTR" ∷ codes "MKST" ∷ codes "NAMC 0,9" ∷
    codes "NAMC 2,3" ∷ codes "ZERO" ∷ codes "NXLV" ∷ codes "ENTR" ∷ codes "EXIT" ∷ codes "SEGMENT P 3" ∷
    codes "MKST" ∷ codes "NAMC 0,8" ∷ codes "LT8 200" ∷ codes "ENTR" ∷ codes "ONE" ∷ codes "NAMC 3,2" ∷
    codes "ZERO" ∷ codes "INDX" ∷ codes "STOD" ∷ codes "NAMC 2,3" ∷ codes "ZERO" ∷ codes "NXLV" ∷ codes "NAMC 3,2" ∷
    codes "ZERO" ∷ codes "NXLV" ∷ codes "ADD" ∷ codes "NAMC 2,3" ∷ codes "ZERO" ∷ codes "INDX" ∷ codes "STOD" ∷
    codes "EXIT" ∷ []

-- segments of one operator, so many from a number on, each named by two letters
abbrev pub small_segments : ℕ → ℕ → List (List ℕ)
small_segments zero n = []
small_segments (suc count) n = (codes "SEGMENT " ++ (65 + n / 16) ∷ (65 + n % 16) ∷ codes " 2") ∷ codes "EXIT" ∷ small_segments count (n + 1)

-- the first deck, with its codefile in hexadecimal
abbrev pub sum_deck : List (List ℕ)
sum_deck =
    codes "?JOB SUM" ∷ codes "?HEX" ∷ codes "423637434f44453100010000020002" ∷ codes "0003ae4009b202b200030380aba3ffff" ∷
    codes "?END" ∷ []

-- a job of one byte
abbrev pub small_job : List (List ℕ)
small_job = codes "?JOB A" ∷ codes "?HEX" ∷ codes "00" ∷ codes "?END" ∷ []
