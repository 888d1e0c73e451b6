-- The programs of worked runs with several tasks.
use Rattle.std.specs.Prelude.{ℕ, List, [], ◌∷◌, ◌++◌}
use Rattle.b67_model.specs.Common.{Segment, opened, Session, start}
use Rattle.b67_law_examples.specs.Mnemonics.{Operator, segment, operators_times, BRUN, ENTR, EXIT, LOAD, LT8, MKST, MPCW, NAMC, NOOP, NVLD, RETN, VALC, ZERO}
use Rattle.b67_law_examples.specs.Sessions.{one_job, without_rows}

-- a call of an intrinsic with what an operator pushes
abbrev pub call : ℕ → Operator → List Operator
call n argument = MKST ∷ NAMC 0 n ∷ argument ∷ ENTR ∷ []

-- PROCESS of the procedure in a cell
abbrev pub start_call : ℕ → ℕ → List Operator
start_call level offset = call 12 (NAMC level offset)

-- prints the STATUS of a task
abbrev pub prints_status : ℕ → List Operator
prints_status task = MKST ∷ NAMC 0 9 ∷ call 14 (LT8 task) ++ ENTR ∷ []

-- one job with a limit, and turns of five operators
abbrev pub in_turns : ℕ → List Segment → Session
in_turns limit segments = record (one_job (without_rows segments) 512 limit [] []) { quantum = 5 }

-- a task with two children, each with one of its own; all loop
abbrev pub family : List Segment
family =
    segment 2 (MPCW 2 3 ∷ start_call 2 2 ++ start_call 2 2 ++ BRUN 4 0 ∷ []) ∷
    segment 3 (MPCW 3 4 ∷ start_call 3 2 ++ BRUN 3 0 ∷ []) ∷
    segment 4 (BRUN 0 0 ∷ []) ∷ []

-- a child waits at a cell; its parent looks at it before and after it wakes it
abbrev pub watched : List Segment
watched =
    segment 2 (ZERO ∷ MPCW 2 3 ∷ start_call 2 3 ++ operators_times 4 (NOOP ∷ []) ++ prints_status 2 ++ call 16 (NAMC 2 2) ++ call 13 (LT8 2) ++ prints_status 2 ++ EXIT ∷ []) ∷
    segment 3 (call 15 (NAMC 2 2) ++ EXIT ∷ []) ∷ []

-- a task awaits its child, which waits at a cell that nobody changes
abbrev pub stuck : List Segment
stuck =
    segment 2 (ZERO ∷ MPCW 2 3 ∷ start_call 2 3 ++ call 13 (LT8 2) ++ EXIT ∷ []) ∷
    segment 3 (call 15 (NAMC 2 2) ++ EXIT ∷ []) ∷ []

abbrev pub endless_task : List Segment
endless_task = segment 2 (BRUN 0 0 ∷ []) ∷ []

-- the stuck job beside one that loops up to its limit, with turns of four operators
abbrev pub stuck_beside_a_loop : Session
stuck_beside_a_loop =
    start (opened 1 (without_rows stuck) 512 1000000 [] ∷ opened 2 (without_rows endless_task) 512 40 [] ∷ []) [] 4

-- a child faults while its own child loops; its parent awaits it, and then looks at the grandchild
abbrev pub faulting_parent : List Segment
faulting_parent =
    segment 2 (MPCW 2 3 ∷ start_call 2 2 ++ call 13 (LT8 2) ++ prints_status 3 ++ EXIT ∷ []) ∷
    segment 3 (MPCW 3 4 ∷ start_call 3 2 ++ NOOP ∷ NOOP ∷ NVLD ∷ []) ∷
    segment 4 (BRUN 0 0 ∷ []) ∷ []

-- a procedure, entered by the accidental entry of a VALC, starts a task and returns an array
abbrev pub left_by_value : List Segment
left_by_value =
    segment 2 (MPCW 2 3 ∷ call 8 (LT8 3) ++ VALC 2 2 ∷ EXIT ∷ []) ∷
    segment 3 (MPCW 3 4 ∷ start_call 3 2 ++ NAMC 2 3 ∷ LOAD ∷ RETN ∷ []) ∷
    segment 4 (BRUN 0 0 ∷ []) ∷ []

-- a task awaits its child, which ends at once
abbrev pub awaited : List Segment
awaited =
    segment 2 (MPCW 2 3 ∷ start_call 2 2 ++ call 13 (VALC 2 3) ++ EXIT ∷ []) ∷
    segment 3 (EXIT ∷ []) ∷ []
