-- The operators that leave an activation record.
use Rattle.std.proofs.Common.{◌≡◌, ◌≢◌, ℕ, List, [], true, Option, Some, None, Ok, Err, refl, sym, ◌∙◌, ap, subst, arith}
use Rattle.b67_word.specs.declared.couples.Place.{Place}
use Rattle.b67_model.specs.declared.operators.Op.{Op}
use Rattle.b67_model.specs.declared.operators.Op.TheVariants.{Plain}
use Rattle.b67_model.specs.declared.operators.Code.TheVariants.{Exit, Retn}
use Rattle.b67_model.specs.Common.{Task, Job, SessionJob, OperatorContext, Line, Goes, Done, may_be_last, Answer, Reading, reading_of, row, step, Session, IsSegment, called}
use Rattle.b67_law.specs.Parameters.{ParametersFit}
use Rattle.b67_stack.specs.declared.Cpu.{Cpu}
use Rattle.b67_stack.specs.declared.Step.TheVariants as answers
use Rattle.b67_stack.specs.Represents.{Storage}
use Rattle.b67_layout.specs.Common.{Placement, here, IsMade}
use Rattle.b67_layout_step.specs.Keeping.{is_leaving}
use Rattle.b67_exec_cells.specs.Running.{code_area}
use Rattle.b67_exec_cells.specs.Called.{called_in, called_by_reading}
use Rattle.b67_exec.specs.Operators.{OperatorAt, OperatorMeets, leaves_record}
use Rattle.b67_session.proofs.Inversion.{LeftFrame, exit_frame, retn_frame}
use Rattle.b67_session.proofs.Read.{step_read}

-- what is asked of such an operator
pub record LeavesFrame (op : Op) : Type 0 where
  pub last : may_be_last op ≡ true
  pub fits : (h : OperatorContext) → ParametersFit (IsSegment h.constants) h op
  pub calls : (h : OperatorContext) → called op h ≡ None
  pub frame : (m : SessionJob) (t : Task) (q : Place) → t.frames ≢ [] → (job : Job) (printed : List Line) (touched : Option ℕ) → row op (here m t q) ≡ Ok (Goes job printed touched) → LeftFrame t m.progress.job job

pub exit_leaves : LeavesFrame (Plain Exit)
exit_leaves = record { last = refl; fits = λ h. tt; calls = λ h. refl; frame = exit_frame }

pub retn_leaves : LeavesFrame (Plain Retn)
retn_leaves = record { last = refl; fits = λ h. tt; calls = λ h. refl; frame = retn_frame }

leaving : (op : Op) → is_leaving op ≡ true → LeavesFrame op
leaving op e = grind (arith, exit_leaves, retn_leaves)

-- the operator that a task's step is left its record
pub record LeftBy (x : Storage) (plan : Placement) (s : Session) (m : SessionJob) (t : Task) (old new : Cpu) : Type 0 where
  pub op : Op
  pub next : Place
  pub leaves : LeavesFrame op
  pub is : step m.constants m.progress.job t ≡ row op (here m t next)
  pub made : IsMade x plan s m old new (row op (here m t next))
  pub calls : called_in m t ≡ None

module _ (x : Storage) (plan : Placement) (s : Session) (m : SessionJob) (t : Task) (old new : Cpu) where
  was_made : (area calls : Option ℕ) → code_area x plan m t ≡ area → called_in m t ≡ calls → OperatorMeets x plan s m t answers.Done old new → IsMade x plan s m old new (step m.constants m.progress.job t)
  was_made None calls a c h = let (e, same) = subst (OperatorAt x plan s m t answers.Done old new) a h in absurd (let z : ⊥ = cc in z)
  was_made (Some at) (Some n) a c h = grind arith
  was_made (Some at) None a c h = grind arith

  by_reading : (read : Reading) → read ≡ reading_of m.constants t → leaves_record read ≡ true → IsMade x plan s m old new (step m.constants m.progress.job t) → LeftBy x plan s m t old new
  by_reading (Err why) is e made = absurd cc
  by_reading (Ok read) is e made =
      let same = step_read m t (Ok read) is in
      let P : Answer Done → Type 0 = λ a. IsMade x plan s m old new a in
      record { op = read.0; next = read.1; leaves = leaving read.0 e; is = same; made = subst P same made; calls = ap (called_by_reading m t) (sym is) ∙ (leaving read.0 e).calls (here m t read.1) }

  -- its code is present
  pub code_there : OperatorMeets x plan s m t answers.Done old new → code_area x plan m t ≢ None
  code_there h a = let (e, same) = subst (OperatorAt x plan s m t answers.Done old new) a h in let z : ⊥ = cc in z

  pub left_by : leaves_record (reading_of m.constants t) ≡ true → OperatorMeets x plan s m t answers.Done old new → LeftBy x plan s m t old new
  left_by e h = by_reading (reading_of m.constants t) refl e (was_made (code_area x plan m t) (called_in m t) refl refl h)
