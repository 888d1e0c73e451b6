-- Where a session's turn is so many operators longer after as many steps, one task has made them.
use Rattle.std.proofs.Common.{◌≡◌, ◌≤◌, ◌<◌, ◌+◌, ◌⊎◌, inl, inr, ℕ, zero, suc, List, Option, Some, None, refl, sym, ap, ◌∙◌, arith}
use Rattle.std.proofs.lemmas.Option.{none-some, same_Some}
use Rattle.b67_model.specs.Keyed.{keyed}
use Rattle.b67_law.specs.Turns.{IsNext}
use Rattle.b67_model.specs.Common.{SessionJob, Task, Who, Session, Choice, choice, StepResult, next, after, after_from, number_of, afresh}
use Rattle.b67_session.specs.declared.seeking.CodePlace.{CodePlace}
use Rattle.b67_session.specs.declared.seeking.Sought.TheVariants as sought
use Rattle.b67_task.specs.declared.tables.Machine.{Machine}
use Rattle.b67_session.specs.Slices.{StandsAt}
use Rattle.b67_session.specs.Steps.{GoesOnInTurn}
use Rattle.b67_session.specs.Search.{IsSought}
use Rattle.b67_layout.specs.Common.{Placement, IsRunning}
use Rattle.b67_task.specs.Lasting.{TurnLasts}
use Rattle.b67_session.proofs.Next.{found, task_found}

-- a chosen task begins a turn, or it is the last one and goes on with its own
abbrev IsChosenSo : Session → Choice → Type 0
IsChosenSo s c = (c.turn ≡ 0) ⊎ (c ≡ record { who = s.last; turn = s.turn })

fresh : (o : Option Who) (c : Choice) → afresh o ≡ Some c → c.turn ≡ 0
fresh o c e = grind arith

chosen_so : (s : Session) (c : Choice) → choice s ≡ Some c → IsChosenSo s c
chosen_so s c = grind arith

-- a step is one of the chosen task, of whose turn it is one more
record IsOneMore (s : Session) (m : StepResult) : Type 0 where
  chosen : Choice
  is : choice s ≡ Some chosen
  turn : m.session.turn ≡ chosen.turn + 1

one_more : (s : Session) (m : StepResult) → next s ≡ Some m → IsOneMore s m
unfolding next
one_more s m = grind arith

rises_by_one : (s : Session) (m : StepResult) → next s ≡ Some m → m.session.turn ≤ s.turn + 1
rises_by_one s m e = let x = one_more s m e in by x.chosen x.turn (chosen_so s x.chosen x.is) where
  by : (c : Choice) → m.session.turn ≡ c.turn + 1 → IsChosenSo s c → m.session.turn ≤ s.turn + 1
  by c turn (inl begins) = omega (arith, turn, begins)
  by c turn (inr same) = let is : c.turn ≡ s.turn = ap (λ (z : Choice). z.turn) same in omega (arith, turn, is)

rises : (k : ℕ) (s : Session) → (after k s).turn ≤ s.turn + k
rises zero s = omega arith
rises (suc k) s = grind (arith, rises_by_one, rises k)

-- the task that makes a step of which the turn is one longer is the last one
same_task : (s : Session) (m : StepResult) → next s ≡ Some m → 1 ≤ s.turn → m.session.turn ≡ s.turn + 1 → (c : Choice) → choice s ≡ Some c → c.who ≡ s.last
same_task s m e some longer c is = let x = one_more s m e in by (sym (ap (λ (z : Choice). z.turn) (same_Some _ _ (sym is ∙ x.is)))) x.turn (chosen_so s c is) where
  by : {turn : ℕ} → turn ≡ c.turn → m.session.turn ≡ turn + 1 → IsChosenSo s c → c.who ≡ s.last
  by is turn (inl begins) = absurd (omega (arith, is, turn, longer, begins, some))
  by is turn (inr same) = ap (λ (z : Choice). z.who) same

-- so it is where one step makes the turn one longer
pub last_goes_on : (s : Session) → 1 ≤ s.turn → (after 1 s).turn ≡ s.turn + 1 → (c : Choice) → choice s ≡ Some c → c.who ≡ s.last
last_goes_on s some longer c is = grind (arith, same_task)

-- so before none of these steps the task is another
pub none_switches : (k : ℕ) (places : List CodePlace) (s : Session) → 1 ≤ s.turn → (after k s).turn ≡ s.turn + k → (j : ℕ) → j < k → IsSought sought.Switch places (after j s) → ⊥
none_switches zero places s some all j low = absurd (omega (arith, low))
none_switches (suc k) places s some all j low = by (λ z. none_switches k places z) (next s) refl j all low where
  by : ((z : Session) → 1 ≤ z.turn → (after k z).turn ≡ z.turn + k → (j : ℕ) → j < k → IsSought sought.Switch places (after j z) → ⊥) → (o : Option StepResult) → next s ≡ o → (j : ℕ) → (after_from (suc k) s o).turn ≡ s.turn + suc k → j < suc k → IsSought sought.Switch places (after_from j s o) → ⊥
  by rest None e j all low = absurd (omega (arith, all))
  by rest (Some m) e zero all low = λ (c, is, other).
      let most = rises k m.session in
      other (same_task s m e some (omega (arith, all, most, rises_by_one s m e)) c is)
  by rest (Some m) e (suc j) all low =
      let most = rises k m.session in
      let longer : m.session.turn ≡ s.turn + 1 = omega (arith, all, most, rises_by_one s m e) in
      rest m.session (omega (arith, longer)) (omega (arith, all, longer)) j (omega (arith, low))

-- the turn of the session after steps is what the tables tell, which count one more for each
pub turn_is : (told : Option (List (List ℕ))) (k : ℕ) (s : Session) (old new : Machine) → StandsAt told old s → GoesOnInTurn told k s old new → new.tasks.turn ≡ old.tasks.turn + k → (after k s).turn ≡ s.turn + k
turn_is told k s old new h x counted = grind arith

-- after a step a task has the turn
pub turn_some : (s : Session) (m : StepResult) → next s ≡ Some m → 1 ≤ m.session.turn
turn_some s m e = let x = one_more s m e in let is = x.turn in omega (arith, is)

-- the last task makes the next operator, and its registers are in use
pub record GoesOnNext (plan : Placement) (s : Session) : Type 0 where
  pub member : SessionJob
  pub task : Task
  pub next : IsNext s member task
  pub last : next.chosen.who ≡ s.last
  pub running : IsRunning plan s.jobs member task

-- so it does where one step makes its turn one longer
pub going_next : (plan : Placement) (s : Session) → 1 ≤ s.turn → (after 1 s).turn ≡ s.turn + 1 → TurnLasts plan s 1 → GoesOnNext plan s
going_next plan s some longer w = by (choice s) refl where
  by : (o : Option Choice) → choice s ≡ o → GoesOnNext plan s
  by None is = of_step (next s) refl longer where
    of_step : (o : Option StepResult) → next s ≡ o → (after_from 1 s o).turn ≡ s.turn + 1 → GoesOnNext plan s
    of_step None e longer = absurd (omega (arith, longer))
    of_step (Some m) e longer = absurd (none-some (one_more s m e).chosen (sym is ∙ (one_more s m e).is))
  by (Some c) is =
      let last : c.who ≡ s.last = last_goes_on s some longer c is in
      let member : keyed number_of c.who.job s.jobs ≡ Some w.who = ap (λ (z : Who). keyed number_of z.job s.jobs) last ∙ w.lasts.member in
      let task : keyed (λ (u : Task). u.number) c.who.task w.who.progress.job.tasks ≡ Some w.task = ap (λ (z : Who). keyed (λ (u : Task). u.number) z.task w.who.progress.job.tasks) last ∙ w.lasts.task in
      let n : IsNext s w.who w.task = record { chosen = c; is = is; member = member; task = task } in
      record {
        member = w.who;
        task = w.task;
        next = n;
        last = last;
        running = record { member = found s w.who w.task n; task = task_found s w.who w.task n; slot = w.runs };
      }
