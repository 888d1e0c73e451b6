-- The cells of frames, by offset, and what couples name.
use Rattle.std.specs.Prelude.{ℕ, ◌-◌, ◌==◌, nat_lt, nat_le, if◌then◌else◌, reverse, map, Option, None, Ok, Err, slice_get, slice_set, ok_or}
use Rattle.b67_word.specs.declared.faults.Fault.TheVariants.{InvalidAddress, InvalidOperand}
use Rattle.b67_word.specs.declared.couples.Couple.{Couple}
use Rattle.b67_model.specs.Answers.{Answer}
use Rattle.b67_model.specs.Words.{Word, Name, Ref}
use Rattle.b67_word.specs.Couples.{couple}
use Rattle.b67_model.specs.Keyed.{change_keyed}
use Rattle.b67_model.specs.State.{Frame, Job, Task, OperatorContext, frame}
use Rattle.b67_model.specs.Environment.{running_level, frame_at}

-- the offset of a frame's first cell
abbrev pub first_offset : Frame → ℕ
first_offset f = if f.identity == 0 then 8 else 2

abbrev pub cell_of : Frame → ℕ → Option Word
cell_of f offset =
    if nat_lt offset (first_offset f) then None else slice_get (reverse f.cells) (offset - first_offset f)

abbrev pub cell : OperatorContext → ℕ → ℕ → Answer Word
cell h identity offset = ok_or (cell_of (frame h identity) offset) InvalidAddress

-- the frame with another word in a cell
abbrev pub with_cell_of : ℕ → Word → Frame → Frame
with_cell_of offset w f = record f { cells = reverse (slice_set (reverse f.cells) (offset - 2) w) }

-- the job with another word in a cell of a task's frame
abbrev pub with_cell : Job → ℕ → ℕ → Word → Job
with_cell job identity offset w =
    record job {
      tasks = map (λ (t : Task). record t { frames = change_keyed (λ f. f.identity) identity (with_cell_of offset w) t.frames }) job.tasks;
    }

-- the frame and offset that a couple names in the running environment
abbrev pub named : OperatorContext → Couple → Answer (ℕ × ℕ)
named h c =
    if nat_le c.level (running_level h) then Ok ((frame_at h c.level).identity, c.disp) else Err InvalidAddress

-- the same of a reference, be it a couple or not
abbrev pub place_of : OperatorContext → Word → Answer (ℕ × ℕ)
place_of h (Name bits) = named h (couple bits (running_level h))
place_of h (Ref identity offset) = Ok (identity, offset)
place_of h _ = Err InvalidOperand
