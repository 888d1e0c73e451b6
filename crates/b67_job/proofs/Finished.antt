-- The texts of runs that are done or halt, as the run alone gives them.
use Rattle.std.proofs.Common.{◌≡◌, ◌<◌, ℕ, zero, suc, List, ◌++◌, ap, ◌∙◌, subst, arith, refl}
use Rattle.b67_io.specs.Line.{ended}
use Rattle.b67_task.specs.declared.tables.Machine.{Machine}
use Rattle.b67_model.specs.Common.{run_text, Task, SessionJob, Session, RunLine, live_tasks, number_of}
use Rattle.b67_law.specs.Turns.{IsNext}
use Rattle.b67_lemmas.proofs.Members.{keyed_has}
use Rattle.b67_session.proofs.Rows.{none_of}
use Rattle.b67_session_lines.specs.Stops.{Run, IsFinished, IsHalted, halted_line}
use Rattle.b67_job.specs.Device.{Device, DeviceTells}
use Rattle.b67_job.specs.Texts.{Text}
use Rattle.b67_job.specs.Runs.{IsDone, IsHaltedAt}
use Rattle.b67_job.specs.declared.summaries.Closing.{Closing}

-- a session of which a task makes the next step has one
some_live : (s : Session) (m : SessionJob) (t : Task) → IsNext s m t → 0 < live_tasks s.jobs
some_live s m t n = by (live_tasks s.jobs) refl
  where
    by : (lives : ℕ) → live_tasks s.jobs ≡ lives → 0 < live_tasks s.jobs
    by zero e = absurd (none_of s.jobs m t (keyed_has number_of n.chosen.who.job s.jobs m n.member).0 (keyed_has (λ (u : Task). u.number) n.chosen.who.task m.progress.job.tasks t n.task).0 e)
    by (suc more) e = omega (arith, e)

pub is_finished : {B : Type 0} (d : Device B) (steps : ℕ) (r : Run) (closing : Closing) (k : Machine) (text : Text) → IsDone d steps r closing k text → DeviceTells d → IsFinished r text.front
is_finished d steps r closing k text h tells = record {
  steps = steps;
  within = h.within;
  over = subst (λ (z : Session). live_tasks z.jobs ≡ 0) (h.comes.session tells) h.rests.none;
  printed = ap (λ (x : Text). x.front) h.text_is ∙ ap run_text (h.comes.lines_are tells);
}

pub is_halted : {B : Type 0} (d : Device B) (steps : ℕ) (r : Run) (closing : Closing) (k : Machine) (text : Text) → IsHaltedAt d steps r closing k text → DeviceTells d → IsHalted r (text.front ++ ended (halted_line steps))
is_halted d steps r closing k text h tells = record {
  count = steps;
  halt = h.halt;
  lives = subst (λ (z : Session). 0 < live_tasks z.jobs) (h.stop.comes.session tells) (some_live h.stop.session h.stop.member h.stop.task h.stop.next);
  printed = ap (λ (x : Text). x.front ++ ended (halted_line steps)) h.text_is ∙ ap (λ (ls : List RunLine). run_text ls ++ ended (halted_line steps)) (h.stop.comes.lines_are tells);
}
