-- What the call of an intrinsic touches is present: PRINTROW alone touches an array.
use Rattle.std.proofs.Common.{◌≡◌, ◌≢◌, ℕ, ◌==◌, List, [], ◌∷◌, Option, Some, None, Result, Ok, Err, sym, ◌∙◌, ap, subst, arith}
use Rattle.std.proofs.lemmas.Option.{same_Some, none-some}
use Rattle.b67_word.specs.declared.faults.Fault.{Fault}
use Rattle.b67_model.specs.Common.{Answer, End, AtIntrinsic, printrow, touched_of, touched_by_call, touched_before_fault, reading_of, step, Task, Job, SessionJob, OperatorContext, Line, Done, Goes, Word, Row, Session}
use Rattle.b67_stack.specs.Represents.{Storage}
use Rattle.b67_layout.specs.Placement.{Placement}
use Rattle.b67_layout.specs.Meets.{here}
use Rattle.b67_mcp.specs.RowCalls.{CopiesPresent}
use Rattle.b67_task.specs.declared.tables.Machine.{Machine}
use Rattle.b67_mcp.specs.Called.{ArrayIsThere, TouchesPresent, CallTouches}
use Rattle.b67_mcp.specs.Answers.{AnswerMeets, call_end_of}
use Rattle.b67_mcp.proofs.Callings.{Calling}
use Rattle.b67_mcp.proofs.Touched.{touched_by_row}

-- two arguments are no array
many : (r v w : Word) (more : List Word) (e : Answer End) → touched_by_call (r ∷ v ∷ w ∷ more) e ≡ None
many r v w more e = grind arith

-- the one call that touches an array before a fault
pub record TouchesRow (arguments : List Word) (e : Answer End) (a : ℕ) : Type 0 where
  pub called : e ≡ Ok (AtIntrinsic 10)
  pub are : arguments ≡ Row a ∷ []

pub row_only : (r : Word) (arguments : List Word) (e : Answer End) (a : ℕ) → touched_by_call (r ∷ arguments) e ≡ Some a → TouchesRow arguments e a
row_only r arguments e a q = grind arith

-- PRINTROW is made with a whole copy alone
made_row : (h : OperatorContext) (arguments : List Word) (done : Done) → printrow h arguments ≡ Ok done → (a : ℕ) × (arguments ≡ Row a ∷ [])
made_row h arguments done e = grind arith

module _ (m : SessionJob) (t : Task) where
  abbrev touched : Answer Done → Option ℕ
  touched answer = touched_of m.constants m.progress.job t answer

  module _ (n : ℕ) (k : Calling m t n) where
    abbrev at_call : OperatorContext
    at_call = record { constants = m.constants; job = m.progress.job; task = t; at = t.place }

    before : touched_before_fault m.constants m.progress.job t (reading_of m.constants t) ≡ touched_by_call (k.reference ∷ k.arguments) (Ok (AtIntrinsic n))
    before = grind arith

    -- a call that faults
    fault_touches : (fault : Fault) → step m.constants m.progress.job t ≡ Err fault → (a : ℕ) → touched (step m.constants m.progress.job t) ≡ Some a → (n ≡ 10) × (k.arguments ≡ Row a ∷ [])
    fault_touches fault is a e =
        let f = row_only k.reference k.arguments (Ok (AtIntrinsic n)) a (sym before ∙ sym (ap touched is) ∙ e) in
        ((let both : Ok (AtIntrinsic n) ≡ Ok (AtIntrinsic 10) = f.called in cc), f.are)

  module _ (x : Storage) (plan : Placement) where
    -- a call of another intrinsic that faults
    pub faults_untouched : (n : ℕ) → n ≢ 10 → Calling m t n → (fault : Fault) → step m.constants m.progress.job t ≡ Err fault → TouchesPresent x plan m t
    faults_untouched n ne k fault is a e = absurd (ne (fault_touches n k fault is a e).0)

    -- a call that is made, and touches nothing
    pub made_untouched : (job : Job) (printed : List Line) → step m.constants m.progress.job t ≡ Ok (Goes job printed None) → TouchesPresent x plan m t
    made_untouched job printed is a e = absurd (none-some a (sym (ap touched is) ∙ e))

    pub silent_untouched : (n : ℕ) → n ≢ 10 → Calling m t n → (told : Option (List (List ℕ))) (s : Session) (old new : Machine) (done : Result (Unit {0}) Fault) → AnswerMeets x told plan s m t done old new → CallTouches x plan m t (Ok (call_end_of done))
    silent_untouched n ne k told s old new (Ok done) (a, rest) = made_untouched a.job [] a.is
    silent_untouched n ne k told s old new (Err fault) h = faults_untouched n ne k fault h.0

    -- PRINTROW
    module _ (k : Calling m t 10) (present : CopiesPresent x plan m k.arguments) where
      copied : (a : ℕ) → k.arguments ≡ Row a ∷ [] → ArrayIsThere x plan m a
      copied a are = let p = present a are in record { array = p.0.item; among = p.0.live; named = p.0.named; there = p.1 }

      pub row_faults : (fault : Fault) → step m.constants m.progress.job t ≡ Err fault → TouchesPresent x plan m t
      row_faults fault is a e = copied a (fault_touches 10 k fault is a e).1

      pub row_made : (done : Done) → printrow (here m t k.next) k.arguments ≡ Ok done → TouchesPresent x plan m t
      row_made done is a e =
          let (b, are) = made_row (here m t k.next) k.arguments done is in
          let same : b ≡ a = same_Some b a (sym (touched_by_row m t k b are) ∙ e) in
          subst (ArrayIsThere x plan m) same (copied b are)
