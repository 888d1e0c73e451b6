-- Ends at procedures, and what entering them makes.
use Rattle.std.proofs.Common.{◌≡◌, ◌≢◌, ℕ, List, Ok, Err, sym, Bool, true, false, subst, arith}
use Rattle.b67_word.specs.Tagged.{Tagged}
use Rattle.b67_word.specs.declared.couples.Place.{Place}
use Rattle.b67_word.specs.declared.faults.Fault.{Fault}
use Rattle.b67_ctl.specs.declared.registers.Regs.{Regs}
use Rattle.b67_model.specs.Common.{Answer, ◌>>=◌, AtProc, chase, Name, accident, back_to, evaluates, Task, SessionJob, Done, cells_of, Session}
use Rattle.b67_model.specs.Chase as Chase
use Rattle.b67_model.specs.Rows as rows
use Rattle.b67_layout.specs.Common.{IsInOrderButCounts, Placement, IsRunning, RepresentsSession, here, Meets}
use Rattle.b67_stack.specs.declared.Cpu.{Cpu}
use Rattle.b67_stack.specs.declared.Step.{Step}
use Rattle.b67_stack.specs.declared.Step.TheVariants as step
use Rattle.b67_stack.specs.Represents.{Storage}
use Rattle.b67_refer.specs.declared.ends.End.{End}
use Rattle.b67_refer.specs.declared.ends.End.TheVariants as end
use Rattle.b67_refer.specs.RunningContext.{RunningContext}
use Rattle.b67_refer.specs.Ends.{EndMeets, IsProcAt}
use Rattle.b67_entry.specs.Procedures.{ReachesProc}
use Rattle.b67_fetch.specs.Fetches.{IsEnd, FindsEnd, is_procedure_end, enters_at, EntersOrMeets}
use Rattle.b67_fetch.proofs.Values.{here_scene}

-- an end that is a procedure's
pub record AtProcedure (e : Answer Chase.End) : Type 0 where
  pub frame : ℕ
  pub segment : ℕ
  pub level : ℕ
  pub place : Place
  pub is : e ≡ Ok (AtProc frame segment level place)

pub at_procedure : (e : Answer Chase.End) → enters_at e ≡ true → AtProcedure e
at_procedure e is = grind arith

module _ {core : List Tagged} {r : Regs} (a : RunningContext core r) (q : Place) where
  -- what was found where the end is a procedure's
  found_by : (found : End) (f segment level : ℕ) (place : Place) → EndMeets a q (Ok found) (Ok (AtProc f segment level place)) → (cell : ℕ) × (found ≡ end.Proc cell) × IsProcAt a q cell f segment level place
  found_by found f segment level place i = grind arith

  pub no_fault : (fault : Fault) (e : Answer Chase.End) (f segment level : ℕ) (place : Place) → e ≡ Ok (AtProc f segment level place) → EndMeets a q (Err fault) e → ⊥
  no_fault fault e f segment level place is i = let P : Answer Chase.End → Type 0 = λ z. EndMeets a q (Err fault) z in subst P is i

-- an answer other than a call's, and a call's
pub met_by : (x : Storage) (plan : Placement) (s : Session) (m : SessionJob) (r : Step) (old new : Cpu) (b : Bool) (answer : Answer Done) → ((n : ℕ) → r ≢ step.Call n) → EntersOrMeets x plan s m r old new b answer → Meets x plan s m r old new answer
met_by x plan s m r old new b answer other i = grind arith

pub called_by : (x : Storage) (plan : Placement) (s : Session) (m : SessionJob) (n : ℕ) (old new : Cpu) (b : Bool) (answer : Answer Done) → EntersOrMeets x plan s m (step.Call n) old new b answer → (b ≡ true) × (new ≡ old)
called_by x plan s m n old new b answer i = grind arith

-- an end that isn't a procedure's
other_by : (plan : Placement) (m : SessionJob) (core : List Tagged) (found : End) (e : Chase.End) → IsEnd plan m core found e → ((cell : ℕ) → found ≢ end.Proc cell) → is_procedure_end e ≡ false
other_by plan m core found e is other = grind arith

-- what is made at such an end
pub met_at : (x : Storage) (plan : Placement) (s : Session) (m : SessionJob) (r : Step) (old new : Cpu) (found : End) (e : Answer Chase.End) (answer : Answer Done) → FindsEnd plan m old.core (Ok found) e → ((cell : ℕ) → found ≢ end.Proc cell)
    → EntersOrMeets x plan s m r old new (enters_at e) answer → Meets x plan s m r old new answer
met_at x plan s m r old new found e answer is other i = grind arith

module _ (x : Storage) (cpu : Cpu) (plan : Placement) (s : Session) (m : SessionJob) (t : Task) (ordered : IsInOrderButCounts s) (h : RepresentsSession x cpu plan s) (runs : IsRunning plan s.jobs m t) where
  pub reaches : (q : Place) (cell f segment level : ℕ) (place : Place) → IsProcAt (here_scene x cpu plan s m t ordered h runs) q cell f segment level place → ReachesProc cpu (here_scene x cpu plan s m t ordered h runs) q cell f segment level place
  reaches q cell f segment level place i = record { ordered = ordered; stands = h; procedure = i }

  -- VALC by the entry
  pub valc_enters : (q : Place) (couple : ℕ) (r : Step) (new : Cpu) (p : AtProcedure (chase (here m t q) (Name couple)))
      → Meets x plan s m r cpu new (accident (here m t q) (cells_of (here m t q)) (back_to (here m t q) true q) (AtProc p.frame p.segment p.level p.place)) → Meets x plan s m r cpu new (rows.valc (here m t q) couple)
  valc_enters q couple r new p i = let P : Answer Chase.End → Type 0 = λ e. Meets x plan s m r cpu new (e >>= λ f. evaluates (here m t q) f) in subst P (sym p.is) i
