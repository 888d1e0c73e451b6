-- The intrinsics of the MCP.
use Rattle.std.specs.Prelude.{ℕ, ◌+◌, ◌==◌, ◌&&◌, nat_lt, nat_le, not, Bool, true, false, ℤ, pos, negsuc, List, [], ◌∷◌, reverse, replicate, length, find, map, Option, Some, None, Ok, Err, if◌then◌else◌}
use Rattle.std.specs.List.{list_any}
use Rattle.b67_word.specs.declared.faults.Fault.TheVariants.{StackOverflow, InvalidOperand, InvalidIndex, MemoryProtect, CriticalBlock}
use Rattle.b67_word.specs.declared.couples.Place.{Place}
use Rattle.b67_model.specs.declared.limits.TheConstants.{MOST_ARRAY, MOST_TASKS}
use Rattle.b67_model.specs.declared.intrinsics.TheConstants.{ARRAYDEC, PRINT, PRINTROW, READ, PROCESS, AWAIT, STATUS, WAIT, CAUSE, DEALLOCATE, RESIZE}
use Rattle.b67_model.specs.Answers.{Answer, ◌>>=◌, ◌>>◌, needs}
use Rattle.b67_word.specs.Operands.{bits_of}
use Rattle.b67_model.specs.Words.{Word, Operand, Row, Original, number, whole}
use Rattle.b67_model.specs.State.{Entered, Array, Condition, Ready, Awaits, WaitsAt, Task, Job, OperatorContext, top, below_top, with_top_cells, with_task}
use Rattle.b67_model.specs.Cells.{with_cell}
use Rattle.b67_model.specs.Chase.{End, AtCell, AtProc, follow_reference}
use Rattle.b67_model.specs.Steps.{Line, Value, Values, Done, Goes, Waits, top_of, result, with_frames, is_critical}
use Rattle.b67_model.specs.Entry.{needs_level}
use Rattle.b67_model.specs.Arrays.{array, with_array, all_zero, resized}

-- the call's mark is cut, and these words are pushed on the frame below
abbrev pub answered : OperatorContext → List Word → Task
answered h words =
    let below = below_top h.task.frames in
    with_frames h (elim words [ [] ↦ below | w ∷ ws ↦ with_top_cells below (w ∷ (top below).cells) ])

-- no live task depends on the mark
abbrev pub needs_free : OperatorContext → Answer (Unit {0})
needs_free h = needs (not (is_critical h.job (top_of h).identity)) CriticalBlock

abbrev pub answers : OperatorContext → Job → List Word → List Line → Option ℕ → Answer Done
answers h job words printed touched = do
  needs_free h
  result h job (answered h words) printed touched

abbrev pub array_length : ℤ → Answer ℕ
array_length (pos n) = if nat_lt 0 n && nat_lt n (MOST_ARRAY + 1) then Ok n else Err InvalidIndex
array_length (negsuc n) = Err InvalidIndex

abbrev pub arraydec : OperatorContext → List Word → Answer Done
arraydec h (w ∷ []) = do
  n ← whole w
  len ← array_length n
  let made : Array = record { identity = h.job.next_array; owner = (top (below_top h.task.frames)).identity; writable = true; numbers = replicate len 0 }
  answers h (record h.job { arrays = made ∷ h.job.arrays; next_array = h.job.next_array + 1 }) (Original h.job.next_array ∷ []) [] None
arraydec h _ = Err InvalidOperand

abbrev pub print : OperatorContext → List Word → Answer Done
print h (w ∷ []) = do
  n ← whole w
  answers h h.job [] (Value n ∷ []) None
print h _ = Err InvalidOperand

abbrev pub numbers_of : List ℕ → Answer (List ℤ)
numbers_of [] = Ok []
numbers_of (bits ∷ more) = do
  n ← number bits
  ns ← numbers_of more
  Ok (n ∷ ns)

abbrev pub row_copy : Word → Answer ℕ
row_copy (Row a) = Ok a
row_copy _ = Err InvalidOperand

abbrev pub printrow : OperatorContext → List Word → Answer Done
printrow h (w ∷ []) = do
  a ← row_copy w
  values ← numbers_of (array h.job a).numbers
  answers h h.job [] (Values values ∷ []) (Some a)
printrow h _ = Err InvalidOperand

abbrev pub read_from : List ℤ → ℕ × List ℤ
read_from [] = (0x800000000000, [])
read_from (v ∷ vs) = (bits_of v, vs)

abbrev pub read : OperatorContext → List Word → Answer Done
read h [] =
    let next = read_from h.job.numbers in
    answers h (record h.job { numbers = next.1 }) (Operand next.0 ∷ []) [] None
read h _ = Err InvalidOperand

abbrev pub is_original : Word → Bool
is_original (Original a) = true
is_original _ = false

-- a new task of the Proc, with these words from the first one on
abbrev pub child_of : OperatorContext → List Word → ℕ → ℕ → ℕ → Place → Task
child_of h words environment segment level place = record {
  number = h.job.next_task;
  parents = h.task.number ∷ h.task.parents;
  critical = (top (below_top h.task.frames)).identity;
  frames = record { identity = h.job.next_frame; standing = Entered level environment None; cells = reverse words } ∷ [];
  segment = segment;
  place = place;
  condition = Ready;
}

abbrev pub starts : OperatorContext → List Word → End → Answer Done
starts h words (AtProc environment segment level place) = do
  needs_level h environment level
  needs (nat_le (3 + length words) h.constants.stack_size) StackOverflow
  let started : Job = record h.job {
    tasks = child_of h words environment segment level place ∷ h.job.tasks;
    next_task = h.job.next_task + 1;
    next_frame = h.job.next_frame + 1;
  }
  if nat_lt (length h.job.tasks) MOST_TASKS then answers h started (Operand h.job.next_task ∷ []) [] None else answers h h.job (Operand 0 ∷ []) [] None
starts h words _ = Err InvalidOperand

abbrev pub process : OperatorContext → List Word → Answer Done
process h (r ∷ words) = do
  needs (not (list_any is_original words)) InvalidOperand
  end ← follow_reference h r
  starts h words end
process h [] = Err InvalidOperand

-- the number names this task
abbrev pub names_task : ℤ → ℕ → Bool
names_task (pos n) number = n == number
names_task (negsuc n) number = false

abbrev pub is_live : Job → ℤ → Bool
is_live job n = list_any (λ t. names_task n t.number) job.tasks

abbrev pub awaits : OperatorContext → ℤ → Answer Done
awaits h (negsuc n) = answers h h.job [] [] None
awaits h (pos n) = if is_live h.job (pos n) then Ok (Waits (Awaits n)) else answers h h.job [] [] None

abbrev pub await : OperatorContext → List Word → Answer Done
await h (w ∷ []) = do
  n ← whole w
  awaits h n
await h _ = Err InvalidOperand

abbrev pub status_in : Condition → ℕ
status_in Ready = 1
status_in (Awaits n) = 2
status_in (WaitsAt f offset) = 2

-- 0 never started, 1 ready, 2 waiting, 3 ended
abbrev pub status_of : Job → ℤ → ℕ
status_of job (negsuc n) = 0
status_of job (pos n) =
    elim (find (λ t. t.number == n) job.tasks) [
      | Some t ↦ status_in t.condition
      | None ↦ if nat_lt 0 n && nat_lt n job.next_task then 3 else 0
    ]

abbrev pub status : OperatorContext → List Word → Answer Done
status h (w ∷ []) = do
  n ← whole w
  answers h h.job (Operand (status_of h.job n) ∷ []) [] None
status h _ = Err InvalidOperand

abbrev pub waits_at : OperatorContext → End → Answer Done
waits_at h (AtCell f offset bits) = if bits == 0 then Ok (Waits (WaitsAt f offset)) else answers h h.job [] [] None
waits_at h _ = Err InvalidOperand

abbrev pub wait : OperatorContext → List Word → Answer Done
wait h (r ∷ []) = do
  end ← follow_reference h r
  waits_at h end
wait h _ = Err InvalidOperand

-- ready where it waited at this cell
abbrev pub woken_at : ℕ → ℕ → Condition → Condition
woken_at f offset Ready = Ready
woken_at f offset (Awaits n) = Awaits n
woken_at f offset (WaitsAt g other) = if (f == g) && (offset == other) then Ready else WaitsAt g other

abbrev pub wakes : ℕ → ℕ → Job → Job
wakes f offset job = record job { tasks = map (λ (t : Task). record t { condition = woken_at f offset t.condition }) job.tasks }

abbrev pub causes : OperatorContext → End → Answer Done
causes h (AtCell f offset bits) = do
  needs_free h
  let task = answered h []
  Ok (Goes (wakes f offset (with_cell (with_task h.job task) f offset (Operand 1))) [] None)
causes h _ = Err InvalidOperand

abbrev pub cause : OperatorContext → List Word → Answer Done
cause h (r ∷ []) = do
  end ← follow_reference h r
  causes h end
cause h _ = Err InvalidOperand

-- a data row's array stays as it is
abbrev pub needs_writable : OperatorContext → ℕ → Answer (Unit {0})
needs_writable h a = needs (array h.job a).writable MemoryProtect

abbrev pub deallocate : OperatorContext → List Word → Answer Done
deallocate h (w ∷ []) = do
  a ← row_copy w
  needs_writable h a
  answers h (with_array h.job a all_zero) [] [] None
deallocate h _ = Err InvalidOperand

abbrev pub resizes : OperatorContext → ℕ → ℤ → Answer Done
resizes h a n = do
  len ← array_length n
  needs_writable h a
  answers h (with_array h.job a (resized len)) [] [] (Some a)

abbrev pub resize : OperatorContext → List Word → Answer Done
resize h (r ∷ w ∷ []) = do
  a ← row_copy r
  n ← whole w
  resizes h a n
resize h _ = Err InvalidOperand

abbrev pub Call : Type 0
Call = OperatorContext → List Word → Answer Done

abbrev pub calls : List (ℕ × Call)
calls =
    (ARRAYDEC, arraydec) ∷ (PRINT, print) ∷ (PRINTROW, printrow) ∷ (READ, read) ∷ (PROCESS, process) ∷ (AWAIT, await) ∷
    (STATUS, status) ∷ (WAIT, wait) ∷ (CAUSE, cause) ∷ (DEALLOCATE, deallocate) ∷ (RESIZE, resize) ∷ []

-- the call of this number, with the cells after the reference as its arguments
abbrev pub call_in : List (ℕ × Call) → ℕ → OperatorContext → List Word → Answer Done
call_in [] n h arguments = Err InvalidOperand
call_in (row ∷ rows) n h arguments =
    let rest = call_in rows n h arguments in
    if row.0 == n then row.1 h arguments else rest

abbrev pub intrinsic : ℕ → OperatorContext → List Word → Answer Done
intrinsic n h arguments = call_in calls n h arguments
