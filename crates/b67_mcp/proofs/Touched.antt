-- The array that PRINTROW touches, be it a fault afterwards or none.
use Rattle.std.proofs.Common.{◌≡◌, ℕ, ℤ, List, [], ◌∷◌, Bool, Some, Ok, refl, sym, ◌∙◌, ap, subst, arith}
use Rattle.b67_word.specs.declared.faults.Fault.TheVariants.{StackOverflow, CriticalBlock}
use Rattle.b67_model.specs.Common.{Answer, ◌>>=◌, ◌>>◌, needs, array, follow_reference, numbers_of, answers, printrow, touched_of, touched_before_fault, reading_of, step, Task, Job, SessionJob, OperatorContext, all_frames, Line, Values, Done, Goes, Word, Operand, Name, Ref, Row, Element, Original, Proc, Intrinsic}
use Rattle.b67_model.specs.Words as Words
use Rattle.b67_layout.specs.Meets.{here}
use Rattle.b67_law.proofs.Follows.{follow_same}
use Rattle.b67_mcp.proofs.Callings.{Calling}

pub reference_same : (h k : OperatorContext) → all_frames h ≡ all_frames k → h.task.frames ≡ k.task.frames → h.job.arrays ≡ k.job.arrays → (w : Word) → follow_reference h w ≡ follow_reference k w
reference_same h k frames own arrays (Name c) = follow_same h k frames own arrays (Name c)
reference_same h k frames own arrays (Ref f offset) = follow_same h k frames own arrays (Ref f offset)
reference_same h k frames own arrays (Operand bits) = refl
reference_same h k frames own arrays (Row a) = refl
reference_same h k frames own arrays (Element a i) = refl
reference_same h k frames own arrays (Original a) = refl
reference_same h k frames own arrays (Proc s l p) = refl
reference_same h k frames own arrays (Intrinsic n) = refl
reference_same h k frames own arrays (Words.Segment n) = refl

module _ (m : SessionJob) (t : Task) (k : Calling m t 10) (a : ℕ) (are : k.arguments ≡ Row a ∷ []) where
  abbrev at_call : OperatorContext
  at_call = record { constants = m.constants; job = m.progress.job; task = t; at = t.place }

  before : touched_before_fault m.constants m.progress.job t (reading_of m.constants t) ≡ Some a
  before = grind arith

  abbrev IsTouch : Answer Done → Type 0
  IsTouch answer = touched_of m.constants m.progress.job t answer ≡ Some a

  by_tests : (job : Job) (printed : List Line) (free fits : Bool) → IsTouch (needs free CriticalBlock >> (needs fits StackOverflow >> Ok (Goes job printed (Some a))))
  by_tests job printed free fits = grind arith

  by_values : (q : Answer (List ℤ)) → IsTouch (q >>= λ vs. answers (here m t k.next) m.progress.job [] (Values vs ∷ []) (Some a))
  by_values q = grind (arith, by_tests)

  pub touched_by_row : touched_of m.constants m.progress.job t (step m.constants m.progress.job t) ≡ Some a
  touched_by_row = subst IsTouch (sym (k.is ∙ ap (printrow (here m t k.next)) are)) (by_values (numbers_of (array m.progress.job a).numbers))
