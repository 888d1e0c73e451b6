-- A slice for whose steps core and device suffice isn't stopped.
use Rattle.std.proofs.Common.{◌≡◌, ◌≢◌, ℕ, ◌+◌, ◌≤◌, List, length, Option, Some, None, Result, Ok, Err, inl, inr, refl, sym, ap, ◌∙◌, subst, arith}
use Rattle.std.specs.Result.{IsOk}
use Rattle.b67_io.specs.Causes.{Stayed}
use Rattle.b67_model.specs.Common.{need, need_next, StepResult, after, Session}
use Rattle.b67_law.specs.Turns.{IsNext}
use Rattle.b67_law.proofs.Limits.{no_last}
use Rattle.b67_task.specs.declared.tables.Machine.{Machine}
use Rattle.b67_session.specs.Attempts.{TakesSectors}
use Rattle.b67_session.specs.AttemptPassed.{CallCauses}
use Rattle.b67_session.specs.AttemptStops.{Stop}
use Rattle.b67_session.specs.AttemptStops as stops
use Rattle.b67_session.specs.declared.slices.Progress.{Progress}
use Rattle.b67_task.proofs.Keeping.{halt_kept}
use Rattle.b67_session.specs.Slices.{StandsAt, IsLimited, Keeps, StopsBefore, SliceMeets, Slices, Resumes}
use Rattle.b67_session.specs.Complete.{SetsOut, at_once, after_limit, IsToMake, Suffices}
use Rattle.b67_session.proofs.Tells.{takes_of}
use Rattle.b67_session.proofs.Next.{next_needs}

-- no device failed, by its count
abbrev pub NoFault : Result Progress Stop → Type 0
NoFault answered = (answered ≡ Err stops.BackingFault → ⊥) × (answered ≡ Err stops.PrintFault → ⊥)

pub no_fault : {D K : Type 0} (failed : D → ℕ) (unprinted : K → ℕ) (d d' : D) (p p' : K) (answered : Result Progress Stop) → CallCauses failed unprinted d d' p p' answered → Stayed failed d d' → Stayed unprinted p p' → NoFault answered
no_fault failed unprinted d d' p p' answered causes calm quiet = grind arith

-- a slice from a session in order
module _ {K : Type 0} (taken : K → Option (List ℕ)) (told : Option (List (List ℕ))) (exact : Type 0) (count n : ℕ) (first : Session) (answered : Result Progress Stop) (old new : Machine) (paper paper' : K)
    (x : Slices taken told exact count n first answered old new paper paper') (tells : exact) (halt : new.tasks.halt ≡ old.tasks.halt) (ample : Suffices (length old.cpu.core) count n old.tasks first) where
  -- no part of a step is made, where a whole one is due
  came : (b : StopsBefore told n x.steps x.session new) → after x.steps first ≡ x.session
  came b = grind (arith, no_last)

  to_make : (b : StopsBefore told n x.steps x.session new) → IsToMake n old.tasks x.steps
  to_make b = grind arith

  has_core : (b : StopsBefore told n x.steps x.session new) → need (length old.cpu.core) x.session b.member b.task ≤ length old.cpu.core
  has_core b = ample.core_suffices x.steps (need (length old.cpu.core) x.session b.member b.task) (to_make b)
      (ap (need_next (length old.cpu.core)) (came b) ∙ next_needs x.session b.member b.task b.next (length old.cpu.core))

  has_sectors : (b : StopsBefore told n x.steps x.session new) (sum : ℕ) → TakesSectors x.session b.member b.task sum → sum ≤ count
  has_sectors b sum =
      subst (λ (z : Session). IsNext z b.member b.task → TakesSectors z b.member b.task sum → sum ≤ count) (came b)
      (ample.sectors_suffice x.steps sum b.member b.task (to_make b)) b.next

  pub goes_through : NoFault answered → IsOk answered
  goes_through (device, printer) = by answered refl x.meets where
    by : (a : Result Progress Stop) → answered ≡ a → SliceMeets told exact (length old.cpu.core) count n x.steps x.session x.is_due a new → IsOk a
    by (Ok progress) e meets = refl
    by (Err (stops.NoCore words size)) e (b, words_is, size_is, more) = (let fits = has_core b in absurd (omega (arith, words_is, more, fits)))
    by (Err (stops.BackingFull sum size)) e (b, lacks, short, tells, size_is, more) = (let fits = has_sectors b sum (takes_of exact b.stands.storage b.stands.plan x.session b.member b.task sum tells) in absurd (omega (arith, more, fits)))
    by (Err stops.BackingFault) e meets = absurd (device e)
    by (Err stops.PrintFault) e meets = absurd (printer e)

-- or from one whose lines of LIMIT are due
module _ {D K : Type 0} (holds : D → Option (List (List ℕ))) (taken : K → Option (List ℕ)) (said said' : Option (List (List ℕ))) (count n : ℕ) (h : Session) (part : StepResult) (answered : Result Progress Stop) (old new : Machine) (device device' : D) (paper paper' : K) where
  pub goes_through_limit : Resumes holds taken said said' count n h part answered old new device device' paper paper' → said ≢ None → Keeps old new → Suffices (length old.cpu.core) count n old.tasks part.session → NoFault answered → IsOk answered
  goes_through_limit (inl cut) tells keeps ample calm = absurd (calm.1 cut.answer)
  goes_through_limit (inr g) tells keeps ample calm =
      goes_through taken said' (said ≢ None) count n part.session answered g.middle new g.printer paper' g.slices tells (halt_kept old new keeps ∙ sym (halt_kept old g.middle g.keeps)) still calm
    where
      due : (steps : ℕ) → IsToMake n g.middle.tasks steps → IsToMake n old.tasks steps
      due steps d = record { few = d.few; before_halt = λ j low e. d.before_halt j low (halt_kept old g.middle g.keeps ∙ e ∙ ap (λ (made : ℕ). Some (made + j)) (sym g.made)) }

      still : Suffices (length g.middle.cpu.core) count n g.middle.tasks part.session
      still = record {
        core_suffices = λ steps words d.
            subst (λ (core : ℕ). need_next core (after steps part.session) ≡ Some words → words ≤ core) (sym g.keeps.core) (ample.core_suffices steps words (due steps d));
        sectors_suffice = λ steps sum m t d. ample.sectors_suffice steps sum m t (due steps d);
      }

-- from each session that the machine represents
pub completes : {D K : Type 0} (holds : D → Option (List (List ℕ))) (taken : K → Option (List ℕ)) (said said' : Option (List (List ℕ))) (count n : ℕ) (answered : Result Progress Stop) (old new : Machine) (device device' : D) (paper paper' : K)
    → ((s : Session) → StandsAt said old s → Slices taken said' (said ≢ None) count n s answered old new paper paper')
    → ((h : Session) (part : StepResult) → IsLimited said old h part → Resumes holds taken said said' count n h part answered old new device device' paper paper')
    → Keeps old new → said ≢ None → (s : Session) → SetsOut said old s → Suffices (length old.cpu.core) count n old.tasks s → NoFault answered → IsOk answered
completes holds taken said said' count n answered old new device device' paper paper' row resumed keeps tells s (at_once stands) ample calm =
    goes_through taken said' (said ≢ None) count n s answered old new paper paper' (row s stands) tells (halt_kept old new keeps) ample calm
completes holds taken said said' count n answered old new device device' paper paper' row resumed keeps tells s (after_limit h part l e) ample calm =
    goes_through_limit holds taken said said' count n h part answered old new device device' paper paper' (resumed h part l) tells keeps
    (subst (Suffices (length old.cpu.core) count n old.tasks) (sym e) ample) calm
