-- What a session in order gives references to rest on.
use Rattle.std.proofs.Common.{ℕ, ◌+◌, ◌<◌, ◌≤◌, List, [], ◌∷◌, length, arith, subst, inl, inr}
use Rattle.b67_word.specs.Tagged.{Tagged}
use Rattle.b67_ctl.specs.declared.registers.Regs.{Regs}
use Rattle.b67_lemmas.specs.Lists.{Has}
use Rattle.b67_lemmas.proofs.Members.{all_in, keyed_has}
use Rattle.b67_model.specs.Common.{Task, SessionJob, Session, NumberedFrom}
use Rattle.b67_layout.specs.Common.{IsInOrderButCounts, Placement, IsRunning, SessionHoldsBut}
use Rattle.b67_stack.specs.MachineView.{PagedObject}
use Rattle.b67_stack.specs.Represents.{Storage}
use Rattle.b67_refer.specs.RunningContext.{MemberInOrder, RunningContext}

numbered : (n : ℕ) (jobs : List SessionJob) (m : SessionJob) → NumberedFrom n jobs → Has jobs m → (n ≤ m.constants.number) × (m.constants.number < n + length jobs)
numbered n [] m d h = absurd h
numbered n (y ∷ more) m d (inl e) = let P : SessionJob → Type 0 = λ z. (n ≤ z.constants.number) × (z.constants.number < n + length (y ∷ more)) in subst P e (omega (arith, d.0), omega (arith, d.0))
numbered n (y ∷ more) m d (inr h) = let b = numbered (n + 1) more m d.1 h in (omega (arith, b.0), omega (arith, b.1))

pub member_in_order : (s : Session) (m : SessionJob) → IsInOrderButCounts s → Has s.jobs m → MemberInOrder m
member_in_order s m o h = grind (arith, all_in, numbered)

module _ (left : List PagedObject) (x : Storage) (core : List Tagged) (r : Regs) (marks : List ℕ) (plan : Placement) (s : Session) (m : SessionJob) (t : Task) where
  -- a session in order whose display isn't looked at
  abbrev pub scene : IsInOrderButCounts s → SessionHoldsBut left x core r marks plan s → IsRunning plan s.jobs m t → RunningContext core r
  scene o h runs = record {
    left = left;
    storage = x;
    marks = marks;
    plan = plan;
    session = s;
    member = m;
    task = t;
    ordered = member_in_order s m o (keyed_has (λ y. y.constants.number) m.constants.number s.jobs m runs.member).0;
    holds = h;
    running = runs;
  }
