-- What ENTR comes to, by the end that was found for its reference.
use Rattle.std.proofs.Common.{◌≡◌, ℕ, ◌+◌, List, Option, None, Result, Ok, Err, refl, sym, ◌∙◌, subst, arith}
use Rattle.b67_word.specs.Tagged.{Tagged}
use Rattle.b67_word.specs.declared.couples.Place.{Place}
use Rattle.b67_word.specs.declared.faults.Fault.{Fault}
use Rattle.b67_word.specs.declared.faults.Fault.TheVariants.{InvalidOperand}
use Rattle.b67_ctl.specs.declared.registers.Regs.{Regs}
use Rattle.b67_model.specs.Common.{Answer, ◌>>=◌, Word, SessionJob, OperatorContext, AtProc, AtIntrinsic, Done, follow, top, top_of, enters, entr, entr_at, Session, called_at, called_on}
use Rattle.b67_model.specs.Chase as Chase
use Rattle.b67_stack.specs.declared.Cpu.{Cpu}
use Rattle.b67_stack.specs.declared.Step.{Step}
use Rattle.b67_stack.specs.declared.Step.TheVariants as step
use Rattle.b67_stack.specs.Represents.{Storage}
use Rattle.b67_layout.specs.Common.{Placement, Meets, RunsSome, ForEach, here}
use Rattle.b67_refer.specs.RunningContext.{RunningContext}
use Rattle.b67_refer.specs.declared.ends.End.{End}
use Rattle.b67_refer.specs.declared.ends.End.TheVariants as end
use Rattle.b67_refer.specs.Ends.{EndMeets, IsProcAt}
use Rattle.b67_refer.specs.Own.{FollowsTo}
use Rattle.b67_entry.specs.Procedures.{CallsOrMeets, CallsWith, ReachesProc}
use Rattle.b67_entry.proofs.Firsts.{scene_of, Comes, Referring}

-- an end that isn't entered
abbrev pub IsOther : End → Type 0
IsOther (end.Proc at) = ⊥
IsOther (end.Intrinsic n) = ⊥
IsOther _ = Unit {0}

module _ {core : List Tagged} {r : Regs} (a : RunningContext core r) (q : Place) where
  -- a procedure was found
  pub record ProcFound (at : ℕ) (answer : Answer Chase.End) : Type 0 where
    pub f : ℕ
    pub segment : ℕ
    pub level : ℕ
    pub place : Place
    pub is : answer ≡ Ok (AtProc f segment level place)
    pub procedure : IsProcAt a q at f segment level place

  pub proc_found : (at : ℕ) (answer : Answer Chase.End) → EndMeets a q (Ok (end.Proc at)) answer → ProcFound at answer
  proc_found at answer e = grind arith

  pub intrinsic_found : (n : ℕ) (answer : Answer Chase.End) → EndMeets a q (Ok (end.Intrinsic n)) answer → answer ≡ Ok (AtIntrinsic n)
  intrinsic_found n answer e = grind arith

  pub fault_found : (fault : Fault) (answer : Answer Chase.End) → EndMeets a q (Err fault) answer → answer ≡ Err fault
  fault_found fault answer e = grind arith

  other_found : (h : OperatorContext) (arguments : List Word) (found : End) (answer : Answer Chase.End) → IsOther found → EndMeets a q (Ok found) answer → ((answer >>= entr_at h arguments) ≡ Err InvalidOperand) × (called_at answer ≡ None)
  other_found h arguments found answer other e = grind arith

-- the answer and the call, where both are known
meets_plain : (x : Storage) (plan : Placement) (s : Session) (m : SessionJob) (answered : Step) (old new : Cpu) (call : Option ℕ) (answer is : Answer Done) → call ≡ None → answer ≡ is → Meets x plan s m answered old new is → CallsOrMeets x plan s m answered old new call answer
meets_plain x plan s m answered old new call answer is none same made = grind arith

-- this is what ENTR makes
abbrev pub Makes : (cpu : Cpu) (q : Place) (new : Cpu) → Step → Type 0
Makes cpu q new answered = ForEach cpu (λ x plan s m t. CallsOrMeets x plan s m answered cpu new (called_on (here m t q) (top_of (here m t q)).standing) (entr (here m t q) (top_of (here m t q)).standing))

abbrev pub MakesOf : {cpu : Cpu} (r : RunsSome cpu) (q : Place) (new : Cpu) → Step → Type 0
MakesOf {cpu = cpu} r q new answered = CallsOrMeets r.storage r.plan r.session r.member answered cpu new (called_on (here r.member r.task q) (top_of (here r.member r.task q)).standing) (entr (here r.member r.task q) (top_of (here r.member r.task q)).standing)

pub each : (cpu : Cpu) (q : Place) (new : Cpu) (answered : Step) → ((r : RunsSome cpu) → MakesOf r q new answered) → Makes cpu q new answered
each cpu q new answered f x plan s m t o h runs = f (record { storage = x; plan = plan; session = s; member = m; task = t; ordered = o; stands = h; running = runs })

pub meets_fault : {cpu : Cpu} (r : RunsSome cpu) (q : Place) (fault : Fault) → Comes r q (Err fault) None → MakesOf r q cpu (step.Fault fault)
meets_fault {cpu = cpu} r q fault is = meets_plain r.storage r.plan r.session r.member (step.Fault fault) cpu cpu _ _ (Err fault) is.1 is.0 (refl, refl)

-- this was found where the first cell's reference leads
pub record Led {cpu : Cpu} (r : RunsSome cpu) (q : Place) (result : Result End Fault) : Type 0 where
  pub word : Tagged
  pub refers : Referring r q word
  pub meets : EndMeets (scene_of r) q result (follow (here r.member r.task q) refers.reference)

pub led : {cpu : Cpu} {r : RunsSome cpu} {q : Place} {w : Tagged} (k : Referring r q w) (result : Result End Fault) → FollowsTo cpu.core cpu.regs cpu.display w result → Led r q result
led {cpu = cpu} {r = r} {q = q} {w = w} k result follows = record { word = w; refers = k; meets = follows (scene_of r) q (r.stands.shows r.member r.task r.running) (cpu.regs.f + 1) (top r.task.frames).identity k.reference k.stands }

module _ {cpu : Cpu} {r : RunsSome cpu} {q : Place} {result : Result End Fault} (l : Led r q result) where
  -- the row, by where it leads
  ends : (found : Result End Fault) → result ≡ found → EndMeets (scene_of r) q found (follow (here r.member r.task q) l.refers.reference)
  ends found is = let E : Result End Fault → Type 0 = λ z. EndMeets (scene_of r) q z (follow (here r.member r.task q) l.refers.reference) in subst E is l.meets

  pub fault_made : (fault : Fault) → result ≡ Err fault → MakesOf r q cpu (step.Fault fault)
  fault_made fault is = meets_fault r q fault (l.refers.goes (Err fault) (fault_found (scene_of r) q fault _ (ends (Err fault) is)))

  pub other_made : (found : End) → IsOther found → result ≡ Ok found → MakesOf r q cpu (step.Fault InvalidOperand)
  other_made found other is =
      let comes = l.refers.goes (follow (here r.member r.task q) l.refers.reference) refl in
      let n = other_found (scene_of r) q (here r.member r.task q) l.refers.arguments found _ other (ends (Ok found) is) in
      meets_fault r q InvalidOperand (comes.0 ∙ n.0, comes.1 ∙ n.1)

  pub call_made : (n : ℕ) → result ≡ Ok (end.Intrinsic n) → MakesOf r q cpu (step.Call n)
  call_made n is =
      let comes = l.refers.goes (Ok (AtIntrinsic n)) (intrinsic_found (scene_of r) q n _ (ends (Ok (end.Intrinsic n)) is)) in
      let C : Option ℕ → Type 0 = λ z. CallsOrMeets r.storage r.plan r.session r.member (step.Call n) cpu cpu z (entr (here r.member r.task q) (top_of (here r.member r.task q)).standing) in
      subst C (sym comes.1) (refl, refl)

  -- it leads to a procedure
  module _ (cell : ℕ) (is : result ≡ Ok (end.Proc cell)) where
    pub proc : ProcFound (scene_of r) q cell (follow (here r.member r.task q) l.refers.reference)
    proc = proc_found (scene_of r) q cell _ (ends (Ok (end.Proc cell)) is)

    reached : ReachesProc cpu (scene_of r) q cell proc.f proc.segment proc.level proc.place
    reached = record { ordered = r.ordered; stands = r.stands; procedure = proc.procedure }

    pub may_enter : (a : RunningContext cpu.core cpu.regs) × (f : ℕ) × (segment : ℕ) × (level : ℕ) × (place : Place) × (reference : Word) × (arguments : List Word)
        × ReachesProc cpu a q cell f segment level place × CallsWith a.task reference arguments
    may_enter = (scene_of r, proc.f, proc.segment, proc.level, proc.place, l.refers.reference, l.refers.arguments, reached, l.refers.with)

    pub enter_made : (new : Cpu) (answered : Step) → ((a : RunningContext cpu.core cpu.regs) (f segment level : ℕ) (place : Place) (reference : Word) (arguments : List Word) → ReachesProc cpu a q cell f segment level place → CallsWith a.task reference arguments
        → Meets a.storage a.plan a.session a.member answered cpu new (enters (here a.member a.task q) arguments (AtProc f segment level place))) → MakesOf r q new answered
    enter_made new answered made =
        let comes = l.refers.goes (Ok (AtProc proc.f proc.segment proc.level proc.place)) proc.is in
        let row = made (scene_of r) proc.f proc.segment proc.level proc.place l.refers.reference l.refers.arguments reached l.refers.with in
        meets_plain r.storage r.plan r.session r.member answered cpu new _ _ _ comes.1 comes.0 row
