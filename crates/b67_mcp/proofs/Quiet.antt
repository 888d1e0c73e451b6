-- A call that prints nothing, as a call with a printer.
use Rattle.std.proofs.Common.{◌≡◌, ℕ, zero, suc, ◌≤◌, inl, inr, List, [], length, Option, Some, None, Result, Ok, Err, refl, arith}
use Rattle.b67_io.proofs.Joined.{Took-none}
use Rattle.b67_session_lines.specs.Parts.{TookRest}
use Rattle.b67_word.specs.declared.faults.Fault.{Fault}
use Rattle.b67_model.specs.Common.{Task, Job, SessionJob, Line, Goes, step, live_tasks, Session}
use Rattle.b67_stack.specs.Represents.{Storage}
use Rattle.b67_layout.specs.Placement.{Placement}
use Rattle.b67_task.specs.declared.tables.Machine.{Machine}
use Rattle.b67_exec_cells.specs.Called.{called_in}
use Rattle.b67_mcp.specs.Called.{StartsTask, CallMeets, CallFits}
use Rattle.b67_mcp.specs.Answers.{AnswerMeets, SilentMeets, call_end_of}
use Rattle.b67_mcp.specs.Resizing.{ResizeAnswers}
use Rattle.b67_mcp.proofs.Still.{stands_peak}
use Rattle.b67_mcp.specs.declared.ends.CallEnd.{CallEnd}
use Rattle.b67_mcp.specs.declared.ends.CallEnd.TheVariants as ends
use Rattle.b67_mcp.specs.declared.ends.Stop.{Stop}
use Rattle.b67_mcp.specs.declared.ends.Stop.TheVariants as stops

-- of a text without bytes
rest_none : {K : Type 0} (taken : K → Option (List ℕ)) (paper : K) (before : ℕ) → TookRest taken paper paper [] before
rest_none taken paper zero = record { rest = []; took = Took-none taken paper; same = refl }
rest_none taken paper (suc n) = record { rest = []; took = Took-none taken paper; same = refl }

-- a step that goes on has as many tasks
abbrev pub StaysMany : SessionJob → Task → Type 0
StaysMany m t = (job : Job) (printed : List Line) (touched : Option ℕ) → step m.constants m.progress.job t ≡ Ok (Goes job printed touched) → length job.tasks ≡ length m.progress.job.tasks

module _ {K : Type 0} (taken : K → Option (List ℕ)) (paper : K) (x : Storage) (told : Option (List (List ℕ))) (count : ℕ) (plan : Placement) (s : Session) (m : SessionJob) (t : Task) where
  pub silent_meets : (done : Result (Unit {0}) Fault) (old new : Machine) → live_tasks s.jobs ≤ s.peak → StaysMany m t → AnswerMeets x told plan s m t done old new → CallMeets taken told count x plan s m t (Ok (call_end_of done)) old new paper paper
  silent_meets (Ok done) old new low many (h, rest) = (
    record {
      job = h.job;
      printed = [];
      touched = None;
      is = h.is;
      storage = h.storage;
      plan = h.plan;
      stands = stands_peak h.storage told new h.plan s m h.job low (many h.job [] None h.is) h.stands;
      text = rest_none taken paper old.tasks.printed;
      reset = h.printed;
    },
    rest,
  )
  silent_meets (Err fault) old new low many h = (h.0, h.1, refl)

  -- RESIZE prints nothing either
  pub resize_meets : (answered : Result CallEnd Stop) (old new : Machine) → called_in m t ≡ Some 18 → live_tasks s.jobs ≤ s.peak → StaysMany m t → ResizeAnswers told count x plan s m t answered old new → CallMeets taken told count x plan s m t answered old new paper paper
  resize_meets (Ok ends.Done) old new called low many (h, rest) = (
    record {
      job = h.job;
      printed = [];
      touched = h.touched;
      is = h.is;
      storage = h.storage;
      plan = h.plan;
      stands = stands_peak h.storage told new h.plan s m h.job low (many h.job [] h.touched h.is) h.stands;
      text = rest_none taken paper old.tasks.printed;
      reset = h.printed;
    },
    rest,
  )
  resize_meets (Ok (ends.Absent found)) old new called low many h = (h.0, h.1, refl)
  resize_meets (Ok (ends.Fault fault)) old new called low many h = (h.0, h.1, refl)
  resize_meets (Ok (ends.Waits state)) old new called low many h = absurd h
  resize_meets (Err (stops.BackingFull sum size)) old new called low many h = (inl h, refl)
  resize_meets (Err stops.BackingFault) old new called low many h = (inl h, refl)
  resize_meets (Err stops.PrintFault) old new called low many h = absurd h
  resize_meets (Err (stops.NoCore need core)) old new called low many h = absurd h

  -- nor do those that start a task, or make one wait
  pub moved_meets : (answered : Result CallEnd Stop) (old new : Machine) → SilentMeets x told count plan s m t answered old new → CallMeets taken told count x plan s m t answered old new paper paper
  moved_meets (Ok ends.Done) old new (h, rest) =
      (record { job = h.job; printed = []; touched = None; is = h.is; storage = h.storage; plan = h.plan; stands = h.stands; text = rest_none taken paper old.tasks.printed; reset = h.printed }, rest)
  moved_meets (Ok (ends.Absent found)) old new h = absurd h
  moved_meets (Ok (ends.Fault fault)) old new h = (h.0, h.1, refl)
  moved_meets (Ok (ends.Waits state)) old new h = (h.0, h.1, refl)
  moved_meets (Err (stops.BackingFull sum size)) old new h = (inr h, refl)
  moved_meets (Err stops.BackingFault) old new h = (inr h, refl)
  moved_meets (Err stops.PrintFault) old new h = absurd h
  moved_meets (Err (stops.NoCore need core)) old new h = (h.0, h.1, refl)

-- a call that starts no task
pub fits_never : (core : ℕ) (s : Session) (m : SessionJob) (t : Task) → (StartsTask m t → ⊥) → (answered : Result CallEnd Stop) → CallFits core s m t answered
fits_never core s m t never answered = grind arith
