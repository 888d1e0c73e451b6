-- After each slice, another one may be called.
use Rattle.std.proofs.Common.{ℕ, List, length, Option, Result, Ok, Err, inl, inr}
use Rattle.b67_model.specs.Common.{Task, SessionJob, StepResult, IsInOrderButPlaces, Session}
use Rattle.b67_law.specs.Turns.{IsNext}
use Rattle.b67_layout.specs.Machine.{Says}
use Rattle.b67_task.specs.declared.tables.Machine.{Machine}
use Rattle.b67_session.specs.AttemptPassed.{AreCountable}
use Rattle.b67_session.specs.AttemptStops.{Stop}
use Rattle.b67_session.specs.AttemptStops as stops
use Rattle.b67_session.specs.declared.slices.Progress.{Progress}
use Rattle.b67_session.specs.declared.slices.Progress.TheVariants as progress
use Rattle.b67_session.specs.Slices.{StandsAt, IsLimited, RepresentsWithoutTasks, IsOpen, SliceMeets, Slices}

module _ (said told : Option (List (List ℕ))) (k : Machine) (says : Says said told) (countable : AreCountable k.tasks.jobs) where
  lives : (s : Session) (m : SessionJob) (t : Task) → StandsAt said k s → IsNext s m t → IsOpen told k
  lives s m t h n = record { stage = inl (record { some = record { said = said; says = says; session = s; stands = h }; member = m; task = t; next = n }); countable = countable }

  pub limited : (s : Session) (part : StepResult) → IsLimited said k s part → IsOpen told k
  limited s part h = record { stage = inr (inl (record { said = said; says = says; session = s; part = part; limited = h })); countable = countable }

  rests : (s : Session) → IsInOrderButPlaces s → RepresentsWithoutTasks said k s → IsOpen told k
  rests s o h = record { stage = inr (inr (record { said = said; says = says; session = s; ordered = o; rests = h })); countable = countable }

  by_answer : (exact : Type 0) (core count n steps : ℕ) (s : Session) (is_due : List ℕ) (answered : Result Progress Stop) → SliceMeets said exact core count n steps s is_due answered k → IsOpen told k
  by_answer exact core count n steps s is_due (Ok progress.Ended) h = rests s h.1 h.0
  by_answer exact core count n steps s is_due (Ok progress.Halted) (halt, (h, (m, t, next))) = lives s m t h next
  by_answer exact core count n steps s is_due (Ok progress.More) (all, halt, (h, (m, t, next))) = lives s m t h next
  by_answer exact core count n steps s is_due (Err (stops.NoCore words size)) meets = lives s meets.0.member meets.0.task meets.0.stands meets.0.next
  by_answer exact core count n steps s is_due (Err (stops.BackingFull sum size)) meets = lives s meets.0.member meets.0.task meets.0.stands meets.0.next
  by_answer exact core count n steps s is_due (Err stops.BackingFault) meets = lives s meets.0.member meets.0.task meets.0.stands meets.0.next
  by_answer exact core count n steps s is_due (Err stops.PrintFault) (proper, inl (b, room)) = lives s b.member b.task b.stands b.next
  by_answer exact core count n steps s is_due (Err stops.PrintFault) (proper, inr (part, h)) = limited s part h

pub open_again : {K : Type 0} (taken : K → Option (List ℕ)) (said told : Option (List (List ℕ))) (exact : Type 0) (count n : ℕ) (first : Session) (answered : Result Progress Stop) (old new : Machine) (paper paper' : K)
    → Says said told → AreCountable new.tasks.jobs → Slices taken said exact count n first answered old new paper paper' → IsOpen told new
open_again taken said told exact count n first answered old new paper paper' says countable x =
    by_answer said told new says countable exact (length old.cpu.core) count n x.steps x.session x.is_due answered x.meets
