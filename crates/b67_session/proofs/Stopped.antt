-- A step that wasn't made: what it answers, prints and leaves.
use Rattle.std.proofs.Common.{◌≡◌, ◌≢◌, ℕ, ◌+◌, ◌<◌, ◌≤◌, List, [], ◌++◌, length, map, Option, Some, None, Result, Ok, Err, refl, sym, ap, ◌∙◌, subst, arith, inl}
use Rattle.std.proofs.lemmas.List.{map-append}
use Rattle.b67_word.specs.declared.faults.Ending.{Ending}
use Rattle.b67_model.specs.Common.{Task, Job, SessionJob, Stepped, Line, Ends, Goes, run_text, need, step, RunLine, StepResult, of_job, Session}
use Rattle.b67_model.specs.Endings.{goes_on}
use Rattle.b67_law.specs.Turns.{task_lines, IsNext, part_of}
use Rattle.b67_law.proofs.Halves.{first_by}
use Rattle.b67_session_lines.specs.Parts.{TookMore}
use Rattle.b67_session_lines.specs.Moments.{first_part, due}
use Rattle.b67_task.specs.declared.tables.Tasks.{Tasks}
use Rattle.b67_task.specs.declared.tables.Machine.{Machine}
use Rattle.b67_task.specs.Tables.{MachineRepresents}
use Rattle.b67_task.specs.declared.counting.Chosen.{Chosen}
use Rattle.b67_session.specs.AttemptStops.{Stop}
use Rattle.b67_session.specs.AttemptStops as stops
use Rattle.b67_session.specs.declared.tries.Tried.{Tried}
use Rattle.b67_session.specs.Attempts.{StillStands, StandsLacking}
use Rattle.b67_session.specs.Slices.{Prints, StepLacks, StopsBefore, SliceMeets}
use Rattle.b67_session.specs.Steps.{stays, Steps}
use Rattle.b67_session.proofs.Halved.{due_first, ClosesSo, close_part, close_count, close_due}
use Rattle.b67_session.proofs.Next.{job_is}
use Rattle.b67_session.proofs.Texts.{run_text-append}
use Rattle.b67_session.proofs.Printing.{prints_none, prints_more, TookMore-more}
use Rattle.b67_session.proofs.Turned.{Attempted}

-- the halt isn't reached where it wasn't and nothing was counted
pub still_due : (old new : Tasks) → old.halt ≢ Some old.made → new.halt ≡ old.halt → new.made ≡ old.made → new.halt ≢ Some new.made
still_due old new due_now halt made e = due_now (sym halt ∙ e ∙ ap (λ (n : ℕ). Some n) made)

-- a step begins with what its operator printed
module _ (s : Session) (m : SessionJob) (t : Task) (n : IsNext s m t) where
  pub first_begins : (job : Job) (printed : List Line) (touched : Option ℕ) → step m.constants m.progress.job t ≡ Ok (Goes job printed touched) → (part : StepResult) × (rest : List RunLine) × (first_part s ≡ Some part) × (part.lines ≡ task_lines m t printed ++ rest)
  first_begins job printed touched e =
      let made = goes_on job printed touched in
      let ended : List (ℕ × Line) = map (λ (x : ℕ × Ending). (x.0, Ends x.1)) made.settled.endings in
      let own : List (ℕ × Line) = map (λ (line : Line). (t.number, line)) printed in (
        part_of s n.chosen m t made,
        of_job m.constants.number ended,
        first_by s m t n (Ok (Goes job printed touched)) e,
        ap (λ (j : ℕ). of_job j (own ++ ended)) (sym (job_is s m t n)) ∙ map-append (λ (line : ℕ × Line). (m.constants.number, line.0, line.1)) own ended,
      )

module _ {K : Type 0} (taken : K → Option (List ℕ)) (said said' : Option (List (List ℕ))) (core count before : ℕ) (s : Session) (c : Chosen) (k : Machine) (paper paper' : K) where
  -- ---- the printer failed in the lines of the endings
  module _ (answered : Result Tried Stop) (made : Stepped) (h : Attempted taken said said' core count before s c answered k paper paper')
      (so : ClosesSo said said' core k paper paper' h.plan h.session h.member h.task h.next.chosen made) where
    pub cut_steps : (old new : Machine) (paper'' : K) → old.tasks.made ≡ s.made → old.tasks.printed ≡ before → k.tasks.printed ≡ before → length old.cpu.core ≡ core → old.tasks.halt ≢ Some old.tasks.made → k.tasks.halt ≡ old.tasks.halt
        → TookMore taken paper' paper'' (run_text (close_part taken said said' core count before s c k paper paper' answered made h so).lines) k.tasks.printed new.tasks.printed → new ≡ record k { tasks = record k.tasks { printed = new.tasks.printed } }
        → Steps taken said' (said ≢ None) count s (Err stops.PrintFault) old new paper paper''
    cut_steps old new paper'' om op kp size due_now halt more only =
        let text = run_text (close_part taken said said' core count before s c k paper paper' answered made h so).lines in
        let there = so.still in
        let counted : k.tasks.made ≡ s.made = close_count taken said said' core count before s c k paper paper' answered made h so in
        let is : said ≢ None → text ≡ due h.session = close_due taken said said' core count before s c k paper paper' answered made h so in
        let P : K → ℕ → Type 0 = λ z n. Prints taken z paper'' text n [] text new.tasks.printed in
        let made_is : new.tasks.made ≡ k.tasks.made = ap (λ (z : Machine). z.tasks.made) only in
        let halted : new.tasks.halt ≡ k.tasks.halt = ap (λ (z : Machine). z.tasks.halt) only in
        let stood : MachineRepresents there.0 said' new h.plan h.session =
        subst (λ (z : Machine). MachineRepresents there.0 said' z h.plan h.session) (sym only) (record { session = there.1.session; storage = there.1.storage; tables = there.1.tables }) in
        record {
          was = h.session;
          same = h.same;
          steps = 0;
          few = omega arith;
          session = h.session;
          printed = [];
          leads = λ tells. stays refl refl refl;
          fits = λ tells one. absurd (omega (arith, one));
          texts = λ fine. absurd (fine refl);
          made = made_is ∙ counted ∙ sym om ∙ omega arith;
          was_due = text;
          is_due = text;
          was_is = is;
          next_is = is;
          prints = subst (P paper) (kp ∙ sym op) (subst (λ z. P z k.tasks.printed) so.silent (prints_more taken paper' paper'' text text k.tasks.printed new.tasks.printed refl more));
          meets = (
            more.proper,
            inl (
              record {
                left = omega arith;
                halt = still_due old.tasks new.tasks due_now (halted ∙ halt) (made_is ∙ counted ∙ sym om);
                stands = record { storage = there.0; plan = h.plan; ordered = h.ordered; stands = stood };
                member = h.member;
                task = h.task;
                next = h.next;
              },
              λ tells. subst (λ (n : ℕ). need n h.session h.member h.task ≤ n) (sym size) (so.room tells),
            ),
          );
        }

  -- ---- the step that wasn't made
  module _ (stop : Stop) (h : Attempted taken said said' core count before s c (Err stop) k paper paper') (old : Machine) (om : old.tasks.made ≡ s.made) (size : length old.cpu.core ≡ core)
      (due_now : old.tasks.halt ≢ Some old.tasks.made) (halt : k.tasks.halt ≡ old.tasks.halt) where
    abbrev here : Session
    here = h.session

    still_made : StillStands said' k h.plan here → k.tasks.made ≡ old.tasks.made + 0
    still_made there = omega (arith, om, there.1.tables.counts.made, h.same_made)

    abbrev before_next : (there : StillStands said' k h.plan here) → StopsBefore said' 1 0 here k
    before_next there = record {
      left = omega arith;
      halt = still_due old.tasks k.tasks due_now halt (omega (arith, still_made there));
      stands = record { storage = there.0; plan = h.plan; ordered = h.ordered; stands = there.1 };
      member = h.member;
      task = h.task;
      next = h.next;
    }

    stayed : StillStands said' k h.plan here → (stop ≢ stops.PrintFault → (k.tasks.printed ≡ old.tasks.printed) × (paper' ≡ paper)) → Prints taken paper paper' (due here) old.tasks.printed [] (due here) k.tasks.printed
        → SliceMeets said' (said ≢ None) core count 1 0 here (due here) (Err stop) k → Steps taken said' (said ≢ None) count s (Err stop) old k paper paper'
    stayed there silent prints meets = record {
      was = here;
      same = h.same;
      steps = 0;
      few = omega arith;
      session = here;
      printed = [];
      leads = λ tells. stays refl refl refl;
      fits = λ tells one. absurd (omega (arith, one));
      made = still_made there;
      was_due = due here;
      is_due = due here;
      was_is = λ tells. refl;
      next_is = λ tells. refl;
      prints = prints;
      texts = λ fine. record { some = λ one. absurd (omega (arith, one)); none = λ none. silent (λ e. fine (ap (λ (x : Stop). Err x) e)) };
      meets = subst (λ (n : ℕ). SliceMeets said' (said ≢ None) n count 1 0 here (due here) (Err stop) k) (sym size) meets;
    }

    lacks : (L : StandsLacking (said ≢ None) said' core k h.plan here h.member h.task) → StepLacks (said ≢ None) core L.storage h.plan here h.member h.task
    lacks L = record { lacks = L.lacks; room = L.room; code = L.code }

  pub stop_steps : (stop : Stop) (h : Attempted taken said said' core count before s c (Err stop) k paper paper') (old : Machine) → old.tasks.made ≡ s.made → old.tasks.printed ≡ before → length old.cpu.core ≡ core
      → old.tasks.halt ≢ Some old.tasks.made → k.tasks.halt ≡ old.tasks.halt
      → (stop ≢ stops.PrintFault → k.tasks.printed ≡ old.tasks.printed) → Steps taken said' (said ≢ None) count s (Err stop) old k paper paper'
  stop_steps (stops.NoCore words size') h old om op size due_now halt kp =
      let (is, of, small, still, printed) = h.meets in
      let silent = kp (λ e. absurd cc) in
      stayed (stops.NoCore words size') h old om size due_now halt still (λ other. (silent, printed)) (prints_none taken paper paper' (due h.session) old.tasks.printed k.tasks.printed printed silent)
      (before_next (stops.NoCore words size') h old om size due_now halt still, is, of, small)
  stop_steps (stops.BackingFull sum size') h old om op size due_now halt kp =
      let (of, small, short, printed) = h.meets in
      let L = short.lacking in
      let still : StillStands said' k h.plan h.session = (L.storage, L.stands) in
      let silent = kp (λ e. absurd cc) in
      stayed (stops.BackingFull sum size') h old om size due_now halt still (λ other. (silent, printed)) (prints_none taken paper paper' (due h.session) old.tasks.printed k.tasks.printed printed silent)
      (before_next (stops.BackingFull sum size') h old om size due_now halt still, lacks (stops.BackingFull sum size') h old om size due_now halt L, (short.wants, short.free, short.short), short.tells, of, small)
  stop_steps stops.BackingFault h old om op size due_now halt kp =
      let (L, printed) = h.meets in
      let still : StillStands said' k h.plan h.session = (L.storage, L.stands) in
      let silent = kp (λ e. absurd cc) in
      stayed stops.BackingFault h old om size due_now halt still (λ other. (silent, printed)) (prints_none taken paper paper' (due h.session) old.tasks.printed k.tasks.printed printed silent)
      (before_next stops.BackingFault h old om size due_now halt still, lacks stops.BackingFault h old om size due_now halt L)
  stop_steps stops.PrintFault h old om op size due_now halt kp =
      let (cut, still) = h.meets in
      let (part, rest, is, lines) = first_begins h.session h.member h.task h.next cut.job cut.printed cut.touched cut.is in
      let own = run_text (task_lines h.member h.task cut.printed) in
      let text = own ++ run_text rest in
      let due_is : due h.session ≡ text = due_first h.session h.member h.task h.next h.ordered part is ∙ ap run_text lines ∙ run_text-append (task_lines h.member h.task cut.printed) rest in
      let more : TookMore taken paper paper' text before k.tasks.printed = TookMore-more own (run_text rest) before k.tasks.printed cut.text in
      stayed stops.PrintFault h old om size due_now halt still (λ other. absurd (other refl))
      (subst (λ (n : ℕ). Prints taken paper paper' (due h.session) n [] (due h.session) k.tasks.printed) (sym op) (prints_more taken paper paper' text (due h.session) before k.tasks.printed due_is more))
      (subst (λ (d : List ℕ). k.tasks.printed < length d) (sym due_is) more.proper, inl (before_next stops.PrintFault h old om size due_now halt still, h.room))
