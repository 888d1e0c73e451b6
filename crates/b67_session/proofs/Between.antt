-- A step whose first part was made, by how its last part ended.
use Rattle.std.proofs.Common.{◌≡◌, ℕ, ◌+◌, ◌<◌, List, [], ◌++◌, length, Option, Some, None, Result, Ok, Err, refl, sym, ap, ◌∙◌, subst, arith, inr, append-nil}
use Rattle.std.specs.Option.{option_or}
use Rattle.std.proofs.lemmas.Option.{none-some}
use Rattle.b67_word.specs.declared.faults.Failed.{Failed}
use Rattle.b67_model.specs.Common.{run_text, RunLine, StepResult, Session}
use Rattle.b67_session_lines.specs.Moments.{first_part, last_part, text_of, joined, due}
use Rattle.b67_session_lines.proofs.Joins.{steps-have-parts}
use Rattle.b67_stack.specs.Represents.{Storage}
use Rattle.b67_layout.specs.Placement.{Placement}
use Rattle.b67_law.specs.Orders.{IsInOrderButLimit}
use Rattle.b67_law.specs.Turns.{OrderAfter}
use Rattle.b67_law.proofs.Limits.{last_parts_restore_order}
use Rattle.b67_task.specs.declared.tables.Tasks.{Tasks}
use Rattle.b67_task.specs.declared.tables.Machine.{Machine}
use Rattle.b67_task.specs.Tables.{MachineRepresents}
use Rattle.b67_session.specs.AttemptStops.{Stop}
use Rattle.b67_session.specs.Ends.{Finishes}
use Rattle.b67_session.specs.Machines.{StandsAt}
use Rattle.b67_session.specs.Slices.{Prints, NextFits}
use Rattle.b67_session.specs.Steps.{StepGives, makes, halves, Steps, StopOf}
use Rattle.b67_session.proofs.Printing.{prints_rest, prints_more, prints_then}

-- The first part of a step of a session was printed and made, and the step is counted. Where the device tells, it is that
-- session's.
pub record IsHalfMade {K : Type 0} (taken : K → Option (List ℕ)) (told : Option (List (List ℕ))) (exact : Type 0) (s : Session) (old mid : Machine) (paper paper' : K) : Type 0 where
  pub was : Session
  pub same : exact → was ≡ s
  pub part : StepResult
  pub is : exact → first_part was ≡ Some part
  pub ordered : IsInOrderButLimit part.session
  pub storage : Storage
  pub plan : Placement
  pub stands : MachineRepresents storage told mid plan part.session
  pub made : mid.tasks.made ≡ old.tasks.made + 1
  pub unprinted : mid.tasks.printed ≡ 0
  pub fits : exact → NextFits (length old.cpu.core) s
  pub was_due : List ℕ
  pub was_is : exact → was_due ≡ due was
  pub prints : (is_due : List ℕ) → Prints taken paper paper' was_due old.tasks.printed part.lines is_due 0

module _ {K : Type 0} (taken : K → Option (List ℕ)) (told : Option (List (List ℕ))) (exact : Type 0) (count : ℕ) (s : Session) (old mid new : Machine) (paper paper' paper'' : K)
    (x : IsHalfMade taken told exact s old mid paper paper') (tables : new.tasks ≡ record mid.tasks { rows = new.tasks.rows; running = new.tasks.running; printed = new.tasks.printed }) where
  abbrev h : Session
  h = x.part.session

  order_by : (o : Option StepResult) → last_part h ≡ o → OrderAfter h o
  order_by o e = subst (OrderAfter h) e (last_parts_restore_order h x.ordered)

  -- the whole step
  gives : (o : Option StepResult) → last_part h ≡ o → exact → StepGives x.was (joined x.part o).session (joined x.part o).lines
  gives o e tells = grind (arith, steps-have-parts)

  made_new : new.tasks.made ≡ old.tasks.made + 1
  made_new = ap (λ (z : Tasks). z.made) tables ∙ x.made

  due_rest : (rest : StepResult) → last_part h ≡ Some rest → due h ≡ run_text rest.lines
  due_rest rest e = ap (λ (o : Option StepResult). text_of (option_or o (first_part h))) e

  whole_made : (o : Option StepResult) (e : last_part h ≡ o) (ends : StandsAt told new (joined x.part o).session) → new.tasks.printed ≡ 0
      → ((is_due : List ℕ) → Prints taken paper paper'' x.was_due old.tasks.printed (joined x.part o).lines is_due 0) → (answered : Result (Unit {0}) Stop) → answered ≡ Ok tt → Steps taken told exact count s answered old new paper paper''
  whole_made o e ends none prints answered is =
      let session = (joined x.part o).session in
      let P : Result (Unit {0}) Stop → Type 0 = λ r. Steps taken told exact count s r old new paper paper'' in
      subst P (sym is) (record {
        was = x.was;
        same = x.same;
        steps = 1;
        few = omega arith;
        session = session;
        printed = (joined x.part o).lines;
        made = made_new;
        leads = λ tells. makes refl (gives o e tells);
        fits = λ tells one. x.fits tells;
        was_due = x.was_due;
        is_due = due session;
        was_is = x.was_is;
        next_is = λ tells. refl;
        prints = subst (λ (n : ℕ). Prints taken paper paper'' x.was_due old.tasks.printed (joined x.part o).lines (due session) n) (sym none) (prints (due session));
        texts = λ fine. record { some = λ one. none; none = λ no_step. absurd (omega (arith, no_step)) };
        meets = (refl, gives o e, ends);
      })

  by_part : (o : Option StepResult) → last_part h ≡ o → (result : Result (Unit {0}) Failed) → Finishes taken x.storage told x.plan h o result mid new paper' paper'' → (answered : Result (Unit {0}) Stop) → StopOf result answered
      → Steps taken told exact count s answered old new paper paper''
  by_part None e (Ok done) (same, printer) answered is =
      let stands : StandsAt told new h = record { storage = x.storage; plan = x.plan; ordered = order_by None e; stands = subst (λ (k : Machine). MachineRepresents x.storage told k x.plan h) (sym same) x.stands } in
      whole_made None e stands (ap (λ (k : Machine). k.tasks.printed) same ∙ x.unprinted)
      (λ is_due. subst (λ (q : K). Prints taken paper q x.was_due old.tasks.printed x.part.lines is_due 0) (sym printer) (x.prints is_due)) answered is
  by_part None e (Err failed) f answered is = absurd f
  by_part (Some rest) e (Ok done) (text, none, stands) answered is =
      let d = run_text rest.lines in
      let middle : Prints taken paper paper' x.was_due old.tasks.printed x.part.lines d mid.tasks.printed =
      subst (λ (n : ℕ). Prints taken paper paper' x.was_due old.tasks.printed x.part.lines d n) (sym x.unprinted) (x.prints d) in
      whole_made (Some rest) e (let w = stands.whole in record { storage = w.storage; plan = w.plan; ordered = order_by (Some rest) e; stands = w.stands }) none
      (λ is_due. prints_then taken paper paper' paper'' x.was_due d is_due old.tasks.printed mid.tasks.printed 0 x.part.lines rest.lines middle
      (prints_rest taken paper' paper'' d d is_due mid.tasks.printed 0 rest.lines refl refl refl text)) answered is
  by_part (Some rest) e (Err failed) (text, only) answered is =
      let d = run_text rest.lines in
      let is_due : due h ≡ d = due_rest rest e in
      let middle : Prints taken paper paper' x.was_due old.tasks.printed x.part.lines (due h) mid.tasks.printed =
      subst (λ (n : ℕ). Prints taken paper paper' x.was_due old.tasks.printed x.part.lines (due h) n) (sym x.unprinted) (x.prints (due h)) in
      let both : Prints taken paper paper'' x.was_due old.tasks.printed (x.part.lines ++ []) (due h) new.tasks.printed =
      prints_then taken paper paper' paper'' x.was_due (due h) (due h) old.tasks.printed mid.tasks.printed new.tasks.printed x.part.lines [] middle (prints_more taken paper' paper'' d (due h) mid.tasks.printed new.tasks.printed is_due text) in
      let P : Result (Unit {0}) Stop → Type 0 = λ r. Steps taken told exact count s r old new paper paper'' in
      let stood : MachineRepresents x.storage told new x.plan h =
      subst (λ (k : Machine). MachineRepresents x.storage told k x.plan h) (sym only) (record { session = x.stands.session; storage = x.stands.storage; tables = x.stands.tables }) in
      subst P (sym is) (record {
        was = x.was;
        same = x.same;
        steps = 1;
        few = omega arith;
        session = h;
        printed = x.part.lines;
        made = made_new;
        leads = λ tells. halves x.part refl (x.is tells) refl (λ none. none-some rest (sym none ∙ e)) refl;
        fits = λ tells one. x.fits tells;
        was_due = x.was_due;
        is_due = due h;
        was_is = x.was_is;
        next_is = λ tells. refl;
        prints = subst (λ (ls : List RunLine). Prints taken paper paper'' x.was_due old.tasks.printed ls (due h) new.tasks.printed) (append-nil x.part.lines) both;
        texts = λ fine. absurd (fine refl);
        meets = (
          subst (λ (l : List ℕ). new.tasks.printed < length l) (sym is_due) text.proper,
          inr (rest, record { storage = x.storage; plan = x.plan; ordered = x.ordered; is = e; stands = stood }),
        );
      })

  -- whatever the last part is
  pub finished : (result : Result (Unit {0}) Failed) → Finishes taken x.storage told x.plan h (last_part h) result mid new paper' paper'' → (answered : Result (Unit {0}) Stop) → StopOf result answered → Steps taken told exact count s answered old new paper paper''
  finished result f answered is = by_part (last_part h) refl result f answered is
