use Rattle.std.proofs.Common.{◌≡◌, ◌≢◌, ◌≤◌, ◌+◌, ◌-◌, ℕ, List, [], Option, None}
use Rattle.b67_model.specs.Common.{Task, Job, SessionJob, Session}
use Rattle.b67_backing.specs.Held.{Becomes}
use Rattle.b67_layout.specs.Machine.{Says, DeviceAfterCalls, content_after}
use Rattle.b67_law.specs.Turns.{IsNext}
use Rattle.b67_session.specs.AttemptPassed.{CallsDevice}
use Rattle.b67_session.specs.Attempts.{WantsNothing, HoleFits, IsAtHand}
use Rattle.b67_session.specs.Slices.{StandsAt, Keeps, GoesOnAlone, StepKeepsAreas, StepLeaves, HasPaged}
use Rattle.b67_stack.specs.declared.Step.TheVariants.{Done}
use Rattle.b67_exec.specs.Near.{StopsHere}
use Rattle.b67_session.proofs.Going.{Going}
use Rattle.b67_session.proofs.slices.go_on.Given as goal

abbrev pub invariant-turn : goal.invariant-turn
invariant-turn g l = record {
  few : l.made ≤ l.n;
  why : l.why ≢ Done → StopsHere l.machine.cpu l.why;
  later : g.K.Sink.faults l.initial.paper ≤ g.K.Sink.faults l.paper;
  device : DeviceAfterCalls g.B.Backing.holds g.B.Backing.size g.B.Backing.calls g.B.Backing.faults l.initial.backing l.backing;
  keeps : Keeps l.initial.machine l.machine;
  going : (told : Option (List (List ℕ))) (s : Session) → Says told (g.B.Backing.holds l.initial.backing) → StandsAt told l.initial.machine s
      → Going g.K.Sink.taken (told ≢ None) (content_after told (g.B.Backing.holds l.backing)) l.made s l.initial.machine l.machine l.initial.paper l.paper;
  begun : l.made ≡ 0 → (l.machine ≡ l.initial.machine) × (l.backing ≡ l.initial.backing);
  none : l.initial.machine.tasks.rows.items ≡ [] → l.made ≡ 0;
  unprinted : l.made ≡ 0 → l.paper ≡ l.initial.paper;
  pages : HasPaged g.B.Backing.holds l.initial.machine l.machine l.initial.backing l.backing;
  quiet : (told : Option (List (List ℕ))) (s : Session) (m : SessionJob) (t : Task) (h : StandsAt told l.initial.machine s) → Says told (g.B.Backing.holds l.initial.backing) → IsNext s m t
      → l.n ≤ 1 → WantsNothing h.storage h.plan m t → (CallsDevice m t → ⊥) → l.backing ≡ l.initial.backing;
  written : (told : Option (List (List ℕ))) (s : Session) (m : SessionJob) (t : Task) (h : StandsAt told l.initial.machine s) → Says told (g.B.Backing.holds l.initial.backing) → IsNext s m t
      → told ≢ None → l.n ≤ 1 → HoleFits h.storage h.plan m t → (CallsDevice m t → ⊥) → Becomes g.B.Backing.holds l.initial.backing l.backing (λ all. all);
  areas : (told : Option (List (List ℕ))) (s : Session) (m : SessionJob) (t : Task) (h : StandsAt told l.initial.machine s) (job : Job) → Says told (g.B.Backing.holds l.initial.backing) → IsNext s m t
      → l.n ≤ 1 → GoesOnAlone s m t job → IsAtHand h.storage h.plan m t → l.machine.tasks.made ≡ l.initial.machine.tasks.made + 1 → StepKeepsAreas h.storage h.plan s m t job l.machine;
  left : (told : Option (List (List ℕ))) (s : Session) (m : SessionJob) (t : Task) (h : StandsAt told l.initial.machine s) → Says told (g.B.Backing.holds l.initial.backing) → IsNext s m t
      → l.n ≤ 1 → WantsNothing h.storage h.plan m t → l.machine.tasks.made ≡ l.initial.machine.tasks.made + 1 → StepLeaves h.storage h.plan s m t l.machine;
}

abbrev pub decreases-turn : goal.decreases-turn
decreases-turn g l = l.n - l.made
