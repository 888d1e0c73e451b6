-- Marking, entering and leaving frames.
use Rattle.std.specs.Prelude.{ℕ, ◌+◌, ◌==◌, not, Bool, true, false, List, [], ◌∷◌, reverse, Some, None, Ok, Err}
use Rattle.b67_word.specs.declared.faults.Fault.TheVariants.{StackUnderflow, InvalidOperand, Uplevel, CriticalBlock, MarkPending}
use Rattle.b67_word.specs.declared.couples.Place.{Place}
use Rattle.b67_model.specs.Answers.{Answer, ◌>>=◌, ◌>>◌, needs}
use Rattle.b67_model.specs.Words.{Word, Operand, Name, Ref, Row, Element, Original}
use Rattle.b67_model.specs.State.{Standing, Marked, Entered, Return, Job, OperatorContext, frame, below_top, with_top_cells, with_task}
use Rattle.b67_model.specs.Environment.{level_of_frame}
use Rattle.b67_model.specs.Chase.{End, AtCell, AtElement, AtProc, follow}
use Rattle.b67_model.specs.Steps.{Done, Leaves, top_of, cells_of, result, with_frames, pushes, is_critical, without_arrays_of}
use Rattle.b67_model.specs.Arrays.{element, owner_of}

abbrev pub mkst : OperatorContext → Answer Done
mkst h =
    result h (record h.job { next_frame = h.job.next_frame + 1 })
    (with_frames h (record { identity = h.job.next_frame; standing = Marked; cells = [] } ∷ h.task.frames)) [] None

-- a Proc can only be entered from the level under its own
abbrev pub needs_level : OperatorContext → ℕ → ℕ → Answer (Unit {0})
needs_level h environment level = needs (level_of_frame (frame h environment) + 1 == level) InvalidOperand

-- a frame without cells on top, over these cells, that returns to a place of the running segment
abbrev pub accident : OperatorContext → List Word → Return → End → Answer Done
accident h cells back (AtProc environment segment level place) = do
  needs_level h environment level
  result h (record h.job { next_frame = h.job.next_frame + 1 })
      (record h.task {
        frames = record { identity = h.job.next_frame; standing = Entered level environment (Some back); cells = [] } ∷ with_top_cells h.task.frames cells;
        segment = segment;
        place = place;
      }) [] None
accident h cells back _ = Err InvalidOperand

abbrev pub back_to : OperatorContext → Bool → Place → Return
back_to h value place = record { value = value; segment = h.task.segment; place = place }

-- the value of an end, pushed at once or returned later
abbrev pub evaluates : OperatorContext → End → Answer Done
evaluates h (AtCell f offset bits) = pushes h (Operand bits) None
evaluates h (AtElement array index) = pushes h (Operand (element h.job array index)) (Some array)
evaluates h (AtProc f segment level place) = accident h (cells_of h) (back_to h true h.task.place) (AtProc f segment level place)
evaluates h _ = Err InvalidOperand

-- the marked frame on top becomes the entered one, and its first cell the return
abbrev pub enters : OperatorContext → List Word → End → Answer Done
enters h arguments (AtProc environment segment level place) = do
  needs_level h environment level
  result h h.job
      (record h.task {
        frames = record (top_of h) { standing = Entered level environment (Some (back_to h false h.task.place)); cells = reverse arguments } ∷ below_top h.task.frames;
        segment = segment;
        place = place;
      }) [] None
enters h arguments _ = Err InvalidOperand

-- the state after a frame was left: its arrays are gone too
abbrev pub left : OperatorContext → Return → OperatorContext
left h back =
    let task = record h.task { frames = below_top h.task.frames; segment = back.segment; place = back.place } in
    record h { job = with_task (without_arrays_of (top_of h).identity h.job) task; task = task }

abbrev pub leaves : OperatorContext → Standing → (OperatorContext → Bool → Answer Done) → Answer Done
leaves h Marked go = Err MarkPending
leaves h (Entered level environment None) go = do
  needs (not (is_critical h.job (top_of h).identity)) CriticalBlock
  Ok Leaves
leaves h (Entered level environment (Some back)) go = do
  needs (not (is_critical h.job (top_of h).identity)) CriticalBlock
  go (left h back) back.value

abbrev pub exit : OperatorContext → Answer Done
exit h = leaves h (top_of h).standing (λ after value. result after after.job after.task [] None)

-- a word may be returned that doesn't depend on the frame that is left
abbrev pub returnable : Job → ℕ → Word → Answer Word
returnable job identity (Ref f offset) = do
  needs (not (f == identity)) Uplevel
  Ok (Ref f offset)
returnable job identity (Row array) = do
  needs (not (owner_of job array == identity)) Uplevel
  Ok (Row array)
returnable job identity (Element array index) = do
  needs (not (owner_of job array == identity)) Uplevel
  Ok (Element array index)
returnable job identity (Original array) = Err InvalidOperand
returnable job identity (Name couple) = Err InvalidOperand
returnable job identity w = Ok w

-- the word of a RETN on the caller's frame, evaluated where a value is wanted
abbrev pub returned : OperatorContext → Word → Bool → Answer Done
returned h w false = pushes h w None
returned h (Operand bits) true = pushes h (Operand bits) None
returned h w true = do
  end ← follow h w
  evaluates h end

abbrev pub retn_word : OperatorContext → Standing → List Word → Answer Done
retn_word h Marked cells = Err MarkPending
retn_word h standing [] = Err StackUnderflow
retn_word h standing (w ∷ cells) = do
  v ← returnable h.job (top_of h).identity w
  leaves h standing (λ after value. returned after v value)

abbrev pub retn : OperatorContext → Answer Done
retn h = retn_word h (top_of h).standing (cells_of h)
