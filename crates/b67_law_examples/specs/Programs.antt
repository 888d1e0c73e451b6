-- The programs of worked runs.
use Rattle.std.specs.Prelude.{ℕ, zero, suc, ◌+◌, ◌*◌, ◌/◌, ◌%◌, ◌^◌, List, [], ◌∷◌, ◌++◌, map}
use Rattle.b67_model.specs.State.{Segment}
use Rattle.b67_model_text.specs.Encoding.{code_words}
use Rattle.b67_law_examples.specs.Mnemonics.{Operator, segment, operators_times, ADD, BRTR, BRUN, CHSN, DLET, ENTR, EXIT, GRTR, IDIV, INDX, ISOL, LNOT, LOAD, LT16, LT48, LT8, MKST, MPCW, MULT, NAMC, NOOP, NVLD, NXLV, ONE, RDIV, RETN, SAME, STFF, STOD, VALC, ZERO}

-- two and three
abbrev pub sum : List Segment
sum =
    segment 2 (MKST ∷ NAMC 0 9 ∷ LT8 2 ∷ LT8 3 ∷ ADD ∷ ENTR ∷ EXIT ∷ []) ∷ []

-- the greatest number, zero negated, and a sum past the greatest number
abbrev pub limits : List Segment
limits =
    segment 2 (MKST ∷ NAMC 0 9 ∷ LT48 549755813887 ∷ ENTR ∷ MKST ∷ NAMC 0 9 ∷ ZERO ∷ CHSN ∷ ENTR ∷
    LT48 549755813887 ∷ ONE ∷ ADD ∷ EXIT ∷ []) ∷ []

-- arithmetic on the complement of zero
abbrev pub not_whole : List Segment
not_whole =
    segment 2 (ZERO ∷ LNOT ∷ ONE ∷ ADD ∷ EXIT ∷ []) ∷ []

-- Jensen's device: the sum of the squares up to ten, by two parameters called by name
abbrev pub jensen : List Segment
jensen =
    segment 2 (ZERO ∷ MPCW 2 3 ∷ MPCW 3 3 ∷ MPCW 4 3 ∷ MKST ∷ NAMC 0 9 ∷ MKST ∷ NAMC 2 3 ∷ NAMC 2 5 ∷ STFF ∷
    NAMC 2 4 ∷ STFF ∷ ENTR ∷ ENTR ∷ EXIT ∷ []) ∷
    segment 3 (ZERO ∷ ONE ∷ NAMC 3 2 ∷ STOD ∷ VALC 3 2 ∷ LT8 10 ∷ GRTR ∷ BRTR 5 1 ∷ VALC 3 4 ∷ VALC 3 3 ∷ ADD ∷
    NAMC 3 4 ∷ STOD ∷ VALC 3 2 ∷ ONE ∷ ADD ∷ NAMC 3 2 ∷ STOD ∷ BRUN 0 5 ∷ VALC 3 4 ∷ RETN ∷ []) ∷
    segment 3 (VALC 2 2 ∷ VALC 2 2 ∷ MULT ∷ RETN ∷ []) ∷
    segment 3 (NAMC 2 2 ∷ STFF ∷ RETN ∷ []) ∷ []

-- an element, and the element behind the last one
abbrev pub index_at_length : List Segment
index_at_length =
    segment 2 (MKST ∷ NAMC 0 8 ∷ LT8 100 ∷ ENTR ∷ MKST ∷ NAMC 0 9 ∷ NAMC 2 2 ∷ LT8 99 ∷ NXLV ∷ ENTR ∷ NAMC 2 2 ∷
    LT8 100 ∷ NXLV ∷ EXIT ∷ []) ∷ []

-- P returns a reference to its own cell; Q one to its caller's cell
abbrev pub own_reference : List Segment
own_reference =
    segment 2 (LT8 7 ∷ MPCW 2 3 ∷ MPCW 3 3 ∷ MKST ∷ NAMC 0 9 ∷ MKST ∷ NAMC 2 4 ∷ ENTR ∷ LOAD ∷ ENTR ∷ MKST ∷
    NAMC 2 3 ∷ ENTR ∷ EXIT ∷ []) ∷
    segment 3 (ONE ∷ NAMC 3 2 ∷ STFF ∷ RETN ∷ []) ∷
    segment 3 (NAMC 2 2 ∷ STFF ∷ RETN ∷ []) ∷ []

-- a couple that names the place of a mark
abbrev pub place_of_mark : List Segment
place_of_mark =
    segment 2 (ZERO ∷ MKST ∷ VALC 2 3 ∷ EXIT ∷ []) ∷ []

-- two tasks add one to the same cell
abbrev pub two_tasks : List Segment
two_tasks =
    segment 2 (ZERO ∷ MPCW 2 3 ∷ MKST ∷ NAMC 0 12 ∷ NAMC 2 3 ∷ ENTR ∷ VALC 2 2 ∷ ONE ∷ ADD ∷ NAMC 2 2 ∷ STOD ∷ MKST ∷
    NAMC 0 13 ∷ VALC 2 4 ∷ ENTR ∷ MKST ∷ NAMC 0 9 ∷ VALC 2 2 ∷ ENTR ∷ EXIT ∷ []) ∷
    segment 3 (VALC 2 2 ∷ ONE ∷ ADD ∷ NAMC 2 2 ∷ STOD ∷ EXIT ∷ []) ∷ []

-- the outer block ends under a task that lives
abbrev pub critical_block : List Segment
critical_block =
    segment 2 (MPCW 2 3 ∷ MKST ∷ NAMC 0 12 ∷ NAMC 2 2 ∷ ENTR ∷ EXIT ∷ []) ∷
    segment 3 (BRUN 0 0 ∷ []) ∷ []

-- an array of a hundred words, under ten words of code
abbrev pub ten_words : List Segment
ten_words =
    segment 2 (MKST ∷ NAMC 0 8 ∷ LT8 100 ∷ ENTR ∷ MKST ∷ NAMC 0 9 ∷ NAMC 2 2 ∷ LT8 99 ∷ NXLV ∷ ENTR ∷ EXIT ∷
    operators_times 44 (NVLD ∷ []) ++ []) ∷ []

-- eight arrays, of each of which an element is raised by a child
abbrev pub eight_arrays : List Segment
eight_arrays =
    segment 2 (MPCW 2 3 ∷ operators_times 8 (MKST ∷ NAMC 0 8 ∷ LT8 200 ∷ ENTR ∷ []) ++ NAMC 2 3 ∷ LT8 0 ∷ INDX ∷ NAMC 2 4 ∷
    LT8 1 ∷ INDX ∷ NAMC 2 5 ∷ LT8 2 ∷ INDX ∷ NAMC 2 6 ∷ LT8 3 ∷ INDX ∷ NAMC 2 7 ∷ LT8 4 ∷ INDX ∷ NAMC 2 8 ∷
    LT8 5 ∷ INDX ∷ NAMC 2 9 ∷ LT8 6 ∷ INDX ∷ NAMC 2 10 ∷ LT8 7 ∷ INDX ∷ LT8 11 ∷ NAMC 2 11 ∷ STOD ∷ LT8 12 ∷
    NAMC 2 12 ∷ STOD ∷ LT8 13 ∷ NAMC 2 13 ∷ STOD ∷ LT8 14 ∷ NAMC 2 14 ∷ STOD ∷ LT8 15 ∷ NAMC 2 15 ∷ STOD ∷
    LT8 16 ∷ NAMC 2 16 ∷ STOD ∷ LT8 17 ∷ NAMC 2 17 ∷ STOD ∷ LT8 18 ∷ NAMC 2 18 ∷ STOD ∷ MKST ∷ NAMC 0 12 ∷
    NAMC 2 2 ∷ ENTR ∷ MKST ∷ NAMC 0 13 ∷ VALC 2 19 ∷ ENTR ∷ MKST ∷ NAMC 0 9 ∷ VALC 2 11 ∷ VALC 2 12 ∷ ADD ∷
    VALC 2 13 ∷ ADD ∷ VALC 2 14 ∷ ADD ∷ VALC 2 15 ∷ ADD ∷ VALC 2 16 ∷ ADD ∷ VALC 2 17 ∷ ADD ∷ VALC 2 18 ∷ ADD ∷
    ENTR ∷ EXIT ∷ []) ∷
    segment 3 (NAMC 2 3 ∷ LT8 0 ∷ INDX ∷ NAMC 2 4 ∷ LT8 1 ∷ INDX ∷ NAMC 2 5 ∷ LT8 2 ∷ INDX ∷ NAMC 2 6 ∷ LT8 3 ∷
    INDX ∷ NAMC 2 7 ∷ LT8 4 ∷ INDX ∷ NAMC 2 8 ∷ LT8 5 ∷ INDX ∷ NAMC 2 9 ∷ LT8 6 ∷ INDX ∷ NAMC 2 10 ∷ LT8 7 ∷
    INDX ∷ VALC 3 2 ∷ LT8 100 ∷ ADD ∷ NAMC 3 2 ∷ STOD ∷ VALC 3 3 ∷ LT8 100 ∷ ADD ∷ NAMC 3 3 ∷ STOD ∷ VALC 3 4 ∷
    LT8 100 ∷ ADD ∷ NAMC 3 4 ∷ STOD ∷ VALC 3 5 ∷ LT8 100 ∷ ADD ∷ NAMC 3 5 ∷ STOD ∷ VALC 3 6 ∷ LT8 100 ∷ ADD ∷
    NAMC 3 6 ∷ STOD ∷ VALC 3 7 ∷ LT8 100 ∷ ADD ∷ NAMC 3 7 ∷ STOD ∷ VALC 3 8 ∷ LT8 100 ∷ ADD ∷ NAMC 3 8 ∷ STOD ∷
    VALC 3 9 ∷ LT8 100 ∷ ADD ∷ NAMC 3 9 ∷ STOD ∷ EXIT ∷ []) ∷ []

-- a procedure with an array of its own, called three times
abbrev pub leave : List Segment
leave =
    segment 2 (MPCW 2 3 ∷ MKST ∷ NAMC 0 8 ∷ LT8 200 ∷ operators_times 3 (ENTR ∷ MKST ∷ NAMC 2 2 ∷ []) ++ ENTR ∷ MKST ∷
    NAMC 0 9 ∷ NAMC 2 3 ∷ ZERO ∷ NXLV ∷ ENTR ∷ EXIT ∷ []) ∷
    segment 3 (MKST ∷ NAMC 0 8 ∷ LT8 200 ∷ ENTR ∷ ONE ∷ NAMC 3 2 ∷ ZERO ∷ INDX ∷ STOD ∷ NAMC 2 3 ∷ ZERO ∷ NXLV ∷
    NAMC 3 2 ∷ ZERO ∷ NXLV ∷ ADD ∷ NAMC 2 3 ∷ ZERO ∷ INDX ∷ STOD ∷ EXIT ∷ []) ∷ []

-- the only task waits at a cell
abbrev pub wait_at_zero : List Segment
wait_at_zero =
    segment 2 (ZERO ∷ MKST ∷ NAMC 0 15 ∷ NAMC 2 2 ∷ ENTR ∷ EXIT ∷ []) ∷ []

-- a loop
abbrev pub endless : List Segment
endless =
    segment 2 (BRUN 0 0 ∷ []) ∷ []

-- two numbers that are read, and the end of the numbers
abbrev pub reads_program : List Segment
reads_program =
    segment 2 (MKST ∷ NAMC 0 9 ∷ MKST ∷ NAMC 0 11 ∷ ENTR ∷ MKST ∷ NAMC 0 11 ∷ ENTR ∷ ADD ∷ ENTR ∷ MKST ∷ NAMC 0 9 ∷
    MKST ∷ NAMC 0 11 ∷ ENTR ∷ LT48 0x800000000000 ∷ SAME ∷ ENTR ∷ EXIT ∷ []) ∷ []

-- four stores into one array, and the sum of their elements
abbrev pub exercise_program : List Segment
exercise_program =
    segment 2 (MKST ∷ NAMC 0 8 ∷ LT16 88 ∷ ENTR ∷ LT16 515 ∷ NAMC 2 2 ∷ LT16 81 ∷ INDX ∷ STOD ∷ LT16 10 ∷ NAMC 2 2 ∷
    LT16 83 ∷ INDX ∷ STOD ∷ LT16 86 ∷ NAMC 2 2 ∷ LT16 20 ∷ INDX ∷ STOD ∷ LT16 84 ∷ NAMC 2 2 ∷ LT16 7 ∷ INDX ∷
    STOD ∷ MKST ∷ NAMC 0 9 ∷ ZERO ∷ NAMC 2 2 ∷ LT16 81 ∷ NXLV ∷ ADD ∷ NAMC 2 2 ∷ LT16 83 ∷ NXLV ∷ ADD ∷
    NAMC 2 2 ∷ LT16 20 ∷ NXLV ∷ ADD ∷ NAMC 2 2 ∷ LT16 7 ∷ NXLV ∷ ADD ∷ ENTR ∷ EXIT ∷ []) ∷ []

-- an operator of two operands on one cell
abbrev pub one_cell : List Segment
one_cell =
    segment 2 (ZERO ∷ ADD ∷ []) ∷ []

-- an EXIT behind a mark
abbrev pub left_when_marked : List Segment
left_when_marked =
    segment 2 (MKST ∷ EXIT ∷ []) ∷ []

-- quotient and remainder of a negative number, a field, and a division by zero
abbrev pub division : List Segment
division =
    segment 2 (MKST ∷ NAMC 0 9 ∷ LT8 7 ∷ CHSN ∷ LT8 2 ∷ IDIV ∷ ENTR ∷ MKST ∷ NAMC 0 9 ∷ LT8 7 ∷ CHSN ∷ LT8 2 ∷ RDIV ∷
    ENTR ∷ MKST ∷ NAMC 0 9 ∷ LT8 165 ∷ ISOL 7 4 ∷ ENTR ∷ ONE ∷ ZERO ∷ IDIV ∷ EXIT ∷ []) ∷ []

-- a procedure with a parameter, whose value is printed
abbrev pub with_a_parameter : List Segment
with_a_parameter =
    segment 2 (MPCW 2 3 ∷ MKST ∷ NAMC 0 9 ∷ MKST ∷ NAMC 2 2 ∷ LT8 4 ∷ ENTR ∷ ENTR ∷ EXIT ∷ []) ∷
    segment 3 (ONE ∷ RETN ∷ []) ∷ []

-- a name of its own cell, entered
abbrev pub enters_itself : List Segment
enters_itself =
    segment 2 (NAMC 2 2 ∷ MKST ∷ NAMC 2 2 ∷ ENTR ∷ EXIT ∷ []) ∷ []

-- a procedure returns a reference to its own cell
abbrev pub returns_own_cell : List Segment
returns_own_cell =
    segment 2 (MPCW 2 3 ∷ MKST ∷ NAMC 2 2 ∷ ENTR ∷ EXIT ∷ []) ∷
    segment 3 (ONE ∷ NAMC 3 2 ∷ STFF ∷ RETN ∷ []) ∷ []

-- a parameter of level 3 lies in an activation record of level 3
abbrev pub wrong_level : List Segment
wrong_level =
    segment 2 (MPCW 2 3 ∷ MKST ∷ NAMC 2 2 ∷ MPCW 2 3 ∷ ENTR ∷ EXIT ∷ []) ∷
    segment 3 (MKST ∷ NAMC 3 2 ∷ ENTR ∷ EXIT ∷ []) ∷ []

-- a name of its own cell, read
abbrev pub reads_itself : List Segment
reads_itself =
    segment 2 (NAMC 2 2 ∷ VALC 2 2 ∷ EXIT ∷ []) ∷ []

-- an array of twelve
abbrev pub printed_row : List Segment
printed_row =
    segment 2 (MKST ∷ NAMC 0 8 ∷ LT8 12 ∷ ENTR ∷ LT8 5 ∷ NAMC 2 2 ∷ LT8 10 ∷ INDX ∷ STOD ∷ MKST ∷ NAMC 0 10 ∷
    NAMC 2 2 ∷ LOAD ∷ ENTR ∷ EXIT ∷ []) ∷ []

-- two procedures of sixty operators that do nothing
abbrev pub three_segments : List Segment
three_segments =
    segment 2 (MPCW 2 3 ∷ MPCW 3 3 ∷ MKST ∷ NAMC 2 2 ∷ ENTR ∷ MKST ∷ NAMC 2 3 ∷ ENTR ∷ EXIT ∷ []) ∷
    segment 3 (operators_times 60 (NOOP ∷ []) ++ EXIT ∷ []) ∷
    segment 3 (operators_times 60 (NOOP ∷ []) ++ EXIT ∷ []) ∷ []

-- two arrays with an element each
abbrev pub two : List Segment
two =
    segment 2 (MKST ∷ NAMC 0 8 ∷ LT8 200 ∷ ENTR ∷ MKST ∷ NAMC 0 8 ∷ LT8 200 ∷ ENTR ∷ NAMC 2 2 ∷ LT8 5 ∷ INDX ∷
    NAMC 2 3 ∷ LT8 6 ∷ INDX ∷ LT8 11 ∷ NAMC 2 4 ∷ STOD ∷ LT8 12 ∷ NAMC 2 5 ∷ STOD ∷ MKST ∷ NAMC 0 9 ∷ VALC 2 4 ∷
    VALC 2 5 ∷ ADD ∷ ENTR ∷ EXIT ∷ []) ∷ []

-- the status of a task that was never started
abbrev pub never_started : List Segment
never_started =
    segment 2 (MKST ∷ NAMC 0 9 ∷ MKST ∷ NAMC 0 14 ∷ LT8 9 ∷ ENTR ∷ ENTR ∷ EXIT ∷ []) ∷ []

-- a child is started among the arguments of a PRINT
abbrev pub critical_program : List Segment
critical_program =
    segment 2 (MPCW 2 3 ∷ MKST ∷ NAMC 0 9 ∷ MKST ∷ NAMC 0 12 ∷ NAMC 2 2 ∷ ENTR ∷ ENTR ∷ EXIT ∷ []) ∷
    segment 3 (BRUN 0 0 ∷ []) ∷ []

-- a child causes what its parent waits for
abbrev pub event : List Segment
event =
    segment 2 (ZERO ∷ MPCW 2 3 ∷ MKST ∷ NAMC 0 12 ∷ NAMC 2 3 ∷ ENTR ∷ MKST ∷ NAMC 0 15 ∷ NAMC 2 2 ∷ ENTR ∷ MKST ∷
    NAMC 0 9 ∷ VALC 2 2 ∷ ENTR ∷ EXIT ∷ []) ∷
    segment 3 (MKST ∷ NAMC 0 16 ∷ NAMC 2 2 ∷ ENTR ∷ EXIT ∷ []) ∷ []

-- a child waits at a cell that its parent pops; a cell of another activation record takes its place in core
abbrev pub popped_cell : List Segment
popped_cell =
    segment 2 (MPCW 2 3 ∷ MPCW 3 3 ∷ MKST ∷ NAMC 0 12 ∷ NAMC 2 2 ∷ ENTR ∷ ZERO ∷ ZERO ∷ ZERO ∷ DLET ∷ DLET ∷ DLET ∷
    MKST ∷ NAMC 2 3 ∷ ENTR ∷ MKST ∷ NAMC 0 13 ∷ VALC 2 4 ∷ ENTR ∷ EXIT ∷ []) ∷
    segment 3 (MKST ∷ NAMC 0 15 ∷ NAMC 2 7 ∷ ENTR ∷ EXIT ∷ []) ∷
    segment 3 (ZERO ∷ MKST ∷ NAMC 0 16 ∷ NAMC 3 2 ∷ ENTR ∷ EXIT ∷ []) ∷ []

-- a loop that pushes a cell
abbrev pub push_loop : List Segment
push_loop =
    segment 2 (ZERO ∷ BRUN 0 0 ∷ []) ∷ []

-- fifteen children, the last of which isn't started
abbrev pub fifteen : List Segment
fifteen =
    segment 2 (MPCW 2 3 ∷ operators_times 15 (MKST ∷ NAMC 0 12 ∷ NAMC 2 2 ∷ ENTR ∷ []) ++ MKST ∷ NAMC 0 9 ∷ VALC 2 17 ∷ ENTR ∷
    EXIT ∷ []) ∷
    segment 3 (BRUN 0 0 ∷ []) ∷ []

-- the name of the cell that the value is in, the value on top
abbrev pub stores_under_itself : List Segment
stores_under_itself =
    segment 2 (NAMC 2 3 ∷ LT8 5 ∷ STOD ∷ EXIT ∷ []) ∷ []

-- the name of its own cell as a destination
abbrev pub stores_in_itself : List Segment
stores_in_itself =
    segment 2 (NAMC 2 2 ∷ LT8 5 ∷ STOD ∷ EXIT ∷ []) ∷ []

-- the name of the index's cell in place of an array
abbrev pub reads_under_itself : List Segment
reads_under_itself =
    segment 2 (NAMC 2 3 ∷ LT8 5 ∷ NXLV ∷ EXIT ∷ []) ∷ []

-- the name of its own cell in place of an array
abbrev pub indexes_itself : List Segment
indexes_itself =
    segment 2 (NAMC 2 2 ∷ LT8 5 ∷ INDX ∷ EXIT ∷ []) ∷ []

-- an ENTR without a mark over the reference and the argument of a PRINTROW
abbrev pub refused_row : List Segment
refused_row =
    segment 2 (NAMC 0 10 ∷ NAMC 1 3 ∷ LOAD ∷ ENTR ∷ EXIT ∷ []) ∷ []

-- a thunk that leaves without a value
abbrev pub exit_for_a_value : List Segment
exit_for_a_value =
    segment 2 (MPCW 2 3 ∷ MKST ∷ NAMC 0 9 ∷ LT8 4 ∷ VALC 2 2 ∷ ENTR ∷ EXIT ∷ []) ∷
    segment 3 (EXIT ∷ []) ∷ []

-- a thunk that leaves without a word, under a LOAD
abbrev pub exit_for_a_load : List Segment
exit_for_a_load =
    segment 2 (LT8 7 ∷ MPCW 2 3 ∷ MKST ∷ NAMC 0 9 ∷ NAMC 2 2 ∷ NAMC 2 3 ∷ LOAD ∷ ENTR ∷ EXIT ∷ []) ∷
    segment 3 (EXIT ∷ []) ∷ []

-- a thunk that returns a whole array
abbrev pub row_for_a_value : List Segment
row_for_a_value =
    segment 2 (MKST ∷ NAMC 0 8 ∷ LT8 3 ∷ ENTR ∷ MPCW 2 3 ∷ VALC 2 3 ∷ EXIT ∷ []) ∷
    segment 3 (NAMC 2 2 ∷ LOAD ∷ RETN ∷ []) ∷ []

-- a thunk that returns an element
abbrev pub element_for_a_value : List Segment
element_for_a_value =
    segment 2 (MKST ∷ NAMC 0 8 ∷ LT8 3 ∷ ENTR ∷ LT8 6 ∷ NAMC 2 2 ∷ ONE ∷ INDX ∷ STOD ∷ MPCW 2 3 ∷ MKST ∷ NAMC 0 9 ∷
    VALC 2 3 ∷ ENTR ∷ EXIT ∷ []) ∷
    segment 3 (NAMC 2 2 ∷ ONE ∷ INDX ∷ RETN ∷ []) ∷ []

-- a LOAD that enters a procedure over a full stack
abbrev pub full_load : List Segment
full_load =
    segment 2 (MPCW 2 3 ∷ operators_times 59 (ZERO ∷ []) ++ NAMC 2 2 ∷ LOAD ∷ EXIT ∷ []) ∷
    segment 3 (EXIT ∷ []) ∷ []

-- the same with a cell less
abbrev pub fuller_load : List Segment
fuller_load =
    segment 2 (MPCW 2 3 ∷ operators_times 58 (ZERO ∷ []) ++ NAMC 2 2 ∷ LOAD ∷ EXIT ∷ []) ∷
    segment 3 (EXIT ∷ []) ∷ []

-- an array that is declared into the parameters of a call
abbrev pub array_as_parameter : List Segment
array_as_parameter =
    segment 2 (MPCW 2 3 ∷ MKST ∷ NAMC 2 2 ∷ MKST ∷ NAMC 0 8 ∷ LT8 3 ∷ ENTR ∷ ENTR ∷ EXIT ∷ []) ∷
    segment 3 (LT8 6 ∷ NAMC 3 2 ∷ ZERO ∷ INDX ∷ STOD ∷ MKST ∷ NAMC 0 9 ∷ NAMC 3 2 ∷ ZERO ∷ NXLV ∷ ENTR ∷ EXIT ∷ []) ∷ []

-- PROCESS with a bad reference and an original behind it
abbrev pub process_with_original : List Segment
process_with_original =
    segment 2 (MKST ∷ NAMC 0 12 ∷ NAMC 2 9 ∷ MKST ∷ NAMC 0 8 ∷ LT8 3 ∷ ENTR ∷ ENTR ∷ EXIT ∷ []) ∷ []

-- PROCESS with a bad reference
abbrev pub process_of_none : List Segment
process_of_none =
    segment 2 (MKST ∷ NAMC 0 12 ∷ NAMC 2 9 ∷ ENTR ∷ EXIT ∷ []) ∷ []

-- AWAIT of a task that was never started
abbrev pub awaits_none : List Segment
awaits_none =
    segment 2 (MKST ∷ NAMC 0 13 ∷ LT8 9 ∷ ENTR ∷ EXIT ∷ []) ∷ []

-- AWAIT of the own number
abbrev pub awaits_itself : List Segment
awaits_itself =
    segment 2 (MKST ∷ NAMC 0 13 ∷ ONE ∷ ENTR ∷ EXIT ∷ []) ∷ []

-- STATUS of the own number
abbrev pub own_status : List Segment
own_status =
    segment 2 (MKST ∷ NAMC 0 9 ∷ MKST ∷ NAMC 0 14 ∷ ONE ∷ ENTR ∷ ENTR ∷ EXIT ∷ []) ∷ []

-- CAUSE of a cell that holds seven
abbrev pub causes_seven : List Segment
causes_seven =
    segment 2 (LT8 7 ∷ MKST ∷ NAMC 0 16 ∷ NAMC 2 2 ∷ ENTR ∷ MKST ∷ NAMC 0 9 ∷ VALC 2 2 ∷ ENTR ∷ EXIT ∷ []) ∷ []

-- a RETN of the outer block
abbrev pub returns_at_bottom : List Segment
returns_at_bottom =
    segment 2 (ONE ∷ RETN ∷ []) ∷ []

-- a RETN of the outer block without a word
abbrev pub returns_nothing : List Segment
returns_nothing =
    segment 2 (RETN ∷ []) ∷ []

-- a data row whose element isn't whole, printed
abbrev pub row_with_bits : List Segment
row_with_bits =
    segment 2 (MKST ∷ NAMC 0 10 ∷ NAMC 1 3 ∷ LOAD ∷ ENTR ∷ EXIT ∷ []) ∷ []

-- a first segment of level 3
abbrev pub outer_of_level_3 : List Segment
outer_of_level_3 =
    segment 3 (EXIT ∷ []) ∷ []

-- a PCW of the segment in which it stands
abbrev pub names_itself : List Segment
names_itself =
    segment 2 (MPCW 1 2 ∷ EXIT ∷ []) ∷ []

-- segments from a level on, each of which enters the next one, and the last one prints its level
abbrev pub nested_calls : ℕ → ℕ → List Segment
nested_calls zero level = segment level (MKST ∷ NAMC 0 9 ∷ LT8 level ∷ ENTR ∷ EXIT ∷ []) ∷ []
nested_calls (suc more) level = segment level (MPCW level (level + 1) ∷ MKST ∷ NAMC level 2 ∷ ENTR ∷ EXIT ∷ []) ∷ nested_calls more (level + 1)

abbrev pub thirty_levels : List Segment
thirty_levels = nested_calls 29 2

-- a branch into a literal
abbrev pub into_a_literal : List Segment
into_a_literal = segment 2 (LT48 1 ∷ BRUN 1 0 ∷ []) ∷ []

-- a PCW of a segment that isn't there
abbrev pub names_none : List Segment
names_none = segment 2 (MPCW 5 3 ∷ EXIT ∷ []) ∷ []

-- two words with a branch to a place
abbrev pub branches_to : ℕ → ℕ → List Segment
branches_to word syllable = segment 2 (MKST ∷ NAMC 0 9 ∷ LT8 2 ∷ BRUN word syllable ∷ EXIT ∷ []) ∷ []

-- seven in the last element of ten, whose copy is cell 3
abbrev pub marks_last : List Operator
marks_last =
    MKST ∷ NAMC 0 8 ∷ LT8 10 ∷ ENTR ∷ NAMC 2 2 ∷ LT8 9 ∷ INDX ∷ LT8 7 ∷ NAMC 2 3 ∷ STOD ∷ []

-- the array becomes shorter than the copy's index
abbrev pub shortened_array : List Segment
shortened_array =
    segment 2 (marks_last ++ (MKST ∷ NAMC 0 18 ∷ NAMC 2 2 ∷ LOAD ∷ LT8 9 ∷ ENTR ∷ VALC 2 3 ∷ EXIT ∷ [])) ∷ []

-- the array becomes longer; the marked element and the new last one
abbrev pub lengthened : List Segment
lengthened =
    segment 2 (marks_last ++ (MKST ∷ NAMC 0 18 ∷ NAMC 2 2 ∷ LOAD ∷ LT8 12 ∷ ENTR ∷ MKST ∷ NAMC 0 9 ∷ VALC 2 3 ∷
    NAMC 2 2 ∷ LT8 11 ∷ NXLV ∷ ADD ∷ ENTR ∷ EXIT ∷ [])) ∷ []

-- the array's numbers are given back
abbrev pub deallocated : List Segment
deallocated =
    segment 2 (marks_last ++ (MKST ∷ NAMC 0 17 ∷ NAMC 2 2 ∷ LOAD ∷ ENTR ∷ MKST ∷ NAMC 0 9 ∷ VALC 2 3 ∷ ENTR ∷ EXIT ∷ [])) ∷ []

-- thirty numbers become sixty
abbrev pub doubled : List Segment
doubled =
    segment 2 (MKST ∷ NAMC 0 8 ∷ LT8 30 ∷ ENTR ∷ MKST ∷ NAMC 0 18 ∷ NAMC 2 2 ∷ LOAD ∷ LT8 60 ∷ ENTR ∷ EXIT ∷ []) ∷ []

-- an array of so many numbers becomes one of so many, with LT16 for both
abbrev pub resized_from_to : ℕ → ℕ → List Segment
resized_from_to from to =
    segment 2 (MKST ∷ NAMC 0 8 ∷ LT16 from ∷ ENTR ∷ MKST ∷ NAMC 0 18 ∷ NAMC 2 2 ∷ LOAD ∷ LT16 to ∷ ENTR ∷ EXIT ∷ []) ∷ []

-- an array of three thousand numbers is given back
abbrev pub deallocated_long : List Segment
deallocated_long =
    segment 2 (MKST ∷ NAMC 0 8 ∷ LT16 3000 ∷ ENTR ∷ MKST ∷ NAMC 0 17 ∷ NAMC 2 2 ∷ LOAD ∷ ENTR ∷ EXIT ∷ []) ∷ []

-- a data row is given back, or becomes longer by a number
abbrev pub deallocated_row : List Segment
deallocated_row =
    segment 2 (MKST ∷ NAMC 0 17 ∷ NAMC 1 3 ∷ LOAD ∷ ENTR ∷ EXIT ∷ []) ∷ []

abbrev pub resized_row : ℕ → List Segment
resized_row to =
    segment 2 (MKST ∷ NAMC 0 18 ∷ NAMC 1 3 ∷ LOAD ∷ LT8 to ∷ ENTR ∷ EXIT ∷ []) ∷ []

-- a copy of the array is made, the array becomes longer, and the row of the copy is printed
abbrev pub printed_longer : List Segment
printed_longer =
    segment 2 (MKST ∷ NAMC 0 8 ∷ LT8 2 ∷ ENTR ∷ NAMC 2 2 ∷ LOAD ∷ MKST ∷ NAMC 0 18 ∷ NAMC 2 2 ∷ LOAD ∷ LT8 4 ∷ ENTR ∷
    MKST ∷ NAMC 0 10 ∷ NAMC 2 3 ∷ LOAD ∷ ENTR ∷ EXIT ∷ []) ∷ []

-- an array of two numbers becomes one of so many
abbrev pub resized_to : ℕ → List Segment
resized_to to =
    segment 2 (MKST ∷ NAMC 0 8 ∷ LT8 2 ∷ ENTR ∷ MKST ∷ NAMC 0 18 ∷ NAMC 2 2 ∷ LOAD ∷ LT48 to ∷ ENTR ∷ EXIT ∷ []) ∷ []

-- the marked element, the tenth, is indexed as if it were an array, once the array has so many numbers
abbrev pub indexed_as_array : ℕ → List Segment
indexed_as_array to =
    segment 2 (marks_last ++ (MKST ∷ NAMC 0 18 ∷ NAMC 2 2 ∷ LOAD ∷ LT8 to ∷ ENTR ∷ NAMC 2 3 ∷ LT8 0 ∷ INDX ∷ EXIT ∷ [])) ∷ []

-- the array becomes shorter, and then as long as it was; the marked element
abbrev pub shortened_and_back : List Segment
shortened_and_back =
    segment 2 (marks_last ++ (MKST ∷ NAMC 0 18 ∷ NAMC 2 2 ∷ LOAD ∷ LT8 9 ∷ ENTR ∷ MKST ∷ NAMC 0 18 ∷ NAMC 2 2 ∷ LOAD ∷ LT8 10 ∷ ENTR ∷
    MKST ∷ NAMC 0 9 ∷ VALC 2 3 ∷ ENTR ∷ EXIT ∷ [])) ∷ []

-- one word of level 2, with entries
abbrev pub one_word_segment : List ℕ → ℕ → List Segment
one_word_segment entries word = record { level = 2; entries = entries; code = word ∷ [] } ∷ []

-- the second segment prints 1 from its second operator on, at which the first one enters it, and has these entries
abbrev pub enters_at_0_1 : List ℕ → List Segment
enters_at_0_1 entries =
    record { level = 2; entries = []; code = 0xbfffffffffff ∷ 0x00020000c003 ∷ 0xae5002aba3ff ∷ [] } ∷
    record { level = 3; entries = entries; code = 0xa3ae4009b1ab ∷ 0xa3ffffffffff ∷ [] } ∷ []

-- so many entries, one at each syllable from the nth on
abbrev pub counted_entries : (n count : ℕ) → List ℕ
counted_entries n zero = []
counted_entries n (suc count) = ((n % 6) * 2 ^ 13 + n / 6) ∷ counted_entries (n + 1) count

-- 258 operators of a syllable each, and these entries
abbrev pub with_entries : List ℕ → List Segment
with_entries entries = record { level = 2; entries = entries; code = code_words (map (λ (o : Operator). o 2) (operators_times 257 (NOOP ∷ []) ++ EXIT ∷ [])) } ∷ []
