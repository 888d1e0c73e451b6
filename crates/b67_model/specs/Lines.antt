-- The text of lines.
use Rattle.std.specs.Prelude.{ℕ, ℤ, List, [], ◌∷◌, ◌++◌, flat_map, codes, decimal, zero, suc}
use Rattle.std.specs.Fmt.{signed_decimal}
use Rattle.b67_word.specs.declared.faults.Fault.{Fault}
use Rattle.b67_word.specs.declared.faults.Fault.TheVariants.{StackUnderflow, StackOverflow, InvalidOperand, InvalidIndex, MemoryProtect, InvalidAddress, IntegerOverflow, DivideByZero, Exponent, Loop, Uplevel, CriticalBlock, InvalidOperator, MarkPending}
use Rattle.b67_word.specs.declared.faults.Ending.{Ending}
use Rattle.b67_word.specs.declared.faults.Ending.TheVariants.{Ended, Parent, Deadlock, Limit, Faulted}
use Rattle.b67_model.specs.Steps.{Line, Value, Values, Ends}

abbrev pub fault_name : Fault → List ℕ
fault_name StackUnderflow = codes "STACK UNDERFLOW"
fault_name StackOverflow = codes "STACK OVERFLOW"
fault_name InvalidOperand = codes "INVALID OPERAND"
fault_name InvalidIndex = codes "INVALID INDEX"
fault_name MemoryProtect = codes "MEMORY PROTECT"
fault_name InvalidAddress = codes "INVALID ADDRESS"
fault_name IntegerOverflow = codes "INTEGER OVERFLOW"
fault_name DivideByZero = codes "DIVIDE BY ZERO"
fault_name Exponent = codes "EXPONENT"
fault_name Loop = codes "LOOP"
fault_name Uplevel = codes "UPLEVEL"
fault_name CriticalBlock = codes "CRITICAL BLOCK"
fault_name InvalidOperator = codes "INVALID OPERATOR"
fault_name MarkPending = codes "MARK PENDING"

abbrev pub ending_name : Ending → List ℕ
ending_name Ended = codes "ENDED"
ending_name Parent = codes "PARENT"
ending_name Deadlock = codes "DEADLOCK"
ending_name Limit = codes "LIMIT"
ending_name (Faulted fault) = fault_name fault

-- `j.t`
abbrev pub task_name : ℕ → ℕ → List ℕ
task_name job task = decimal job ++ codes "." ++ decimal task

-- a line's text after the task's name, without its end
abbrev pub value_text : ℤ → List ℕ
value_text v = codes " " ++ signed_decimal v

-- the values of a row, so many more on this line
abbrev pub row_text : List ℕ → ℕ → List ℤ → List ℕ
row_text name room [] = codes "\n"
row_text name zero (v ∷ vs) = codes "\n" ++ name ++ value_text v ++ row_text name 9 vs
row_text name (suc room) (v ∷ vs) = value_text v ++ row_text name room vs

abbrev pub line_text : ℕ → ℕ × Line → List ℕ
line_text job line = text_of (task_name job line.0) line.1
  where
    text_of : List ℕ → Line → List ℕ
    text_of name (Value v) = name ++ value_text v ++ codes "\n"
    text_of name (Values vs) = name ++ row_text name 10 vs
    text_of name (Ends ending) = name ++ codes " " ++ ending_name ending ++ codes "\n"

-- the text of a run's lines
abbrev pub run_text : List (ℕ × ℕ × Line) → List ℕ
run_text lines = flat_map (λ (line : ℕ × ℕ × Line). line_text line.0 (line.1, line.2)) lines

-- the last line of a run that halts, without its end
abbrev pub halted_line : ℕ → List ℕ
halted_line count = codes "HALTED " ++ decimal count
