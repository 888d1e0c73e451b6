-- Worked rows: the dumps of machines that runs handed back at a ?HALT.
use Rattle.std.specs.Prelude.{ℕ, List, ◌++◌, codes}

-- one array, halted before its EXIT
abbrev pub halted_dump : List ℕ
halted_dump =
    codes "TASK 1.1 READY 1 2:4\n"
    ++ (codes "FRAME 1 LEVEL 2 ENV DICT 1\n"
    ++ (codes "CELL 2 NUM 000000000007\n"
    ++ (codes "CELL 3 ARRAY 3\n"
    ++ (codes "CELL 4 ELEMENT 1.1 1 3 1\n"
    ++ (codes "FRAME 2 MARKED\n"
    ++ codes "CELL 2 REF 1.1 1 2\n")))))

-- a child runs over its parent's arrays, and the parent awaits it
abbrev pub eight_dump : List ℕ
eight_dump =
    codes "TASK 1.1 AWAITS 2 1 25:1\nFRAME 1 LEVEL 2 ENV DICT 1\nCELL 2 PROC 2 0:0 3\n"
    ++ (codes "CELL 3 ARRAY 200\nCELL 4 ARRAY 200\nCELL 5 ARRAY 200\nCELL 6 ARRAY 200\n"
    ++ (codes "CELL 7 ARRAY 200\nCELL 8 ARRAY 200\nCELL 9 ARRAY 200\nCELL 10 ARRAY 200\n"
    ++ (codes "CELL 11 ELEMENT 1.1 1 3 0\nCELL 12 ELEMENT 1.1 1 4 1\nCELL 13 ELEMENT 1.1 1 5 2\nCELL 14 ELEMENT 1.1 1 6 3\n"
    ++ (codes "CELL 15 ELEMENT 1.1 1 7 4\nCELL 16 ELEMENT 1.1 1 8 5\nCELL 17 ELEMENT 1.1 1 9 6\nCELL 18 ELEMENT 1.1 1 10 7\n"
    ++ (codes "CELL 19 NUM 000000000002\nFRAME 2 MARKED\nCELL 2 NAME 000d\nCELL 3 NUM 000000000002\n"
    ++ (codes "TASK 1.2 READY 2 3:1\nFRAME 1 LEVEL 3 ENV 1.1 1\nCELL 2 ELEMENT 1.1 1 3 0\nCELL 3 ELEMENT 1.1 1 4 1\n"
    ++ codes "CELL 4 ELEMENT 1.1 1 5 2\nCELL 5 NAME 1006\nCELL 6 NUM 000000000003\n"))))))
