-- A step whose operator was made, or whose task has ended, once it is counted: its first part.
use Rattle.std.proofs.Common.{◌≡◌, ◌≢◌, ℕ, ◌+◌, ◌-◌, ◌≤◌, List, length, map, Option, Some, None, Result, Ok, Err, refl, sym, ap, ◌∙◌, subst}
use Rattle.std.specs.Option.{option_or}
use Rattle.b67_word.specs.declared.faults.Ending.{Ending}
use Rattle.b67_word.specs.declared.faults.Ending.TheVariants.{Ended, Parent, Deadlock, Limit, Faulted}
use Rattle.b67_lemmas.proofs.Members.{all_in}
use Rattle.b67_lemmas.proofs.Keyed.{change_is, changed_there}
use Rattle.b67_model.specs.Common.{Ready, Task, Job, SessionJob, Stepped, ends_with, IsSegment, JobInOrder, NumberedFrom, IsInOrderButPlaces, run_text, need, Reading, reading_of, step, step_by, StepResult, number_of, of_job, Session, Choice, Line, Goes, Leaves, Waits}
use Rattle.b67_model.specs.Keyed.{keyed}
use Rattle.b67_law.proofs.Numbered.{numbered_change}
use Rattle.b67_law.specs.Orders.{IsInOrderButLimit, SettlesInOrder}
use Rattle.b67_law.specs.Turns.{IsNext, part_of}
use Rattle.b67_law.proofs.Choices.{next_is_ready}
use Rattle.b67_law.proofs.Halves.{first_by}
use Rattle.b67_law.proofs.Limits.{no_last}
use Rattle.b67_law.proofs.Parts.{first_parts_keep_order}
use Rattle.b67_law.proofs.Settled.{ends_settle}
use Rattle.b67_session_lines.specs.Moments.{first_part, text_of, due}
use Rattle.b67_session_lines.specs.Parts.{TookRest}
use Rattle.b67_layout.specs.Common.{Placement, with_job, session_moved}
use Rattle.b67_layout.proofs.Weaker.{but_counts}
use Rattle.b67_task.specs.declared.tables.TaskState.{TaskState}
use Rattle.b67_task.specs.declared.tables.Tasks.{Tasks}
use Rattle.b67_task.specs.declared.tables.Machine.{Machine}
use Rattle.b67_task.specs.declared.counting.Chosen.{Chosen}
use Rattle.b67_task.specs.Counted.{choice_of, CountsHaveRoom}
use Rattle.b67_law.proofs.FewMade.{made_few, all_few}
use Rattle.b67_session.specs.AttemptPassed.{IsCalled, WaitsSo, printed_text}
use Rattle.b67_session.specs.Tries.{EndsSo}
use Rattle.b67_session.specs.Attempts.{StillStands}
use Rattle.b67_session.proofs.Composed.{ends_exact}
use Rattle.b67_session.specs.AttemptStops.{Stop}
use Rattle.b67_session.specs.declared.tries.Tried.{Tried}
use Rattle.b67_session.specs.declared.tries.Tried.TheVariants as tries
use Rattle.b67_session.specs.Closing.{StandsChosen}
use Rattle.b67_session.specs.Counts.{IsCounted}
use Rattle.b67_session.specs.Ends.{StandsForSession, StandsBetween}
use Rattle.b67_session.specs.Holds.{waiting_step, HoldsSo}
use Rattle.b67_session.proofs.Waits.{waits_settle}
use Rattle.b67_session.specs.Slices.{Prints, NextFits}
use Rattle.b67_session.proofs.Between.{IsHalfMade}
use Rattle.b67_session.proofs.Lively.{Stays, rows_stay}
use Rattle.b67_session.proofs.Made.{half, half_ordered, half_lines, half_stands}
use Rattle.b67_session.proofs.Next.{in_session, job_is, found, task_found, next_fits}
use Rattle.b67_session.proofs.Printing.{prints_rest}
use Rattle.b67_session.proofs.Rooms.{room_for, running_row}
use Rattle.b67_session.proofs.Turned.{Attempted}

module _ (s : Session) (m : SessionJob) (t : Task) (n : IsNext s m t) (o : IsInOrderButPlaces s) where
  pub job_ordered : JobInOrder (IsSegment m.constants) m.constants m.progress
  job_ordered = all_in (λ (y : SessionJob). JobInOrder (IsSegment y.constants) y.constants y.progress) s.jobs m o.jobs (in_session s m t n)

  abbrev Keeps : Job → Type 0
  Keeps job = Stays m.progress.job.tasks job.tasks × (job.next_task ≤ m.progress.job.next_task + 1)

  kept_by : (read : Reading) → (job : Job) (printed : List Line) (touched : Option ℕ) → step_by m.constants m.progress.job t read ≡ Ok (Goes job printed touched) → Keeps job
  kept_by (Err why) job printed touched e = absurd cc
  kept_by (Ok read) job printed touched e = rows_stay read.0 m t read.1 (task_found s m t n) (next_is_ready s m t o n) job printed touched e

  -- no fewer tasks live after an operator that goes on, and one is ready
  pub kept : (job : Job) (printed : List Line) (touched : Option ℕ) → step m.constants m.progress.job t ≡ Ok (Goes job printed touched) → Keeps job
  unfolding step
  kept job printed touched e = kept_by (reading_of m.constants t) job printed touched e

  -- what is due is its first part
  pub due_first : (part : StepResult) → first_part s ≡ Some part → due s ≡ run_text part.lines
  due_first part is = ap (λ (q : Option StepResult). text_of (option_or q (first_part s))) (no_last s o) ∙ ap text_of is

  pub ends_first : (ending : Ending) → EndsSo m t ending → first_part s ≡ Some (part_of s n.chosen m t (ends_with m.progress.job t.number ending))
  ends_first Ended e = first_by s m t n (Ok Leaves) e
  ends_first (Faulted fault) e = first_by s m t n (Err fault) e
  ends_first Parent e = absurd e
  ends_first Deadlock e = absurd e
  ends_first Limit e = absurd e

numbered_with : (s : Session) (m : SessionJob) (job : Job) → NumberedFrom 1 s.jobs → keyed number_of m.constants.number s.jobs ≡ Some m → NumberedFrom 1 (with_job s m job).jobs
numbered_with s m job numbered there =
    let put : SessionJob → SessionJob = λ y. record y { progress = record m.progress { job = job } } in
    subst (NumberedFrom 1) (sym (change_is number_of m.constants.number put m s.jobs there)) (numbered_change 1 m.constants.number (put m) s.jobs numbered refl)

-- A task ends, or comes to wait, with this outcome of its step, and the machine represents the session before it still, with
-- nothing printed
pub record ClosesSo {K : Type 0} (said said' : Option (List (List ℕ))) (core : ℕ) (k : Machine) (paper paper' : K) (plan : Placement) (s : Session) (m : SessionJob) (t : Task) (chosen : Choice) (made : Stepped) : Type 0 where
  pub still : StillStands said' k plan s
  pub silent : paper' ≡ paper
  pub first : said ≢ None → first_part s ≡ Some (part_of s chosen m t made)
  pub settles : SettlesInOrder m.constants m.progress made.alive made.settled
  pub room : said ≢ None → need core s m t ≤ core

module _ {K : Type 0} (taken : K → Option (List ℕ)) (said said' : Option (List (List ℕ))) (core count before : ℕ) (s : Session) (c : Chosen) (k : Machine) (paper paper' : K) where
  -- ---- the operator was made
  module _ (h : Attempted taken said said' core count before s c (Ok tries.Made) k paper paper') where
    abbrev called : IsCalled taken paper paper' said' h.session h.member h.task before k
    called = h.meets

    job_number : h.member.constants.number ≡ c.job
    job_number = job_is h.session h.member h.task h.next ∙ ap (λ (z : Choice). z.who.job) h.chosen

    pub made_room : CountsHaveRoom k.tasks c
    made_room =
        let there = found h.session h.member h.task h.next in
        room_for called.plan (session_moved h.session h.member called.job (length called.job.tasks - length h.member.progress.job.tasks)) (record h.member { progress = record h.member.progress { job = called.job } }) k.tasks c
        (numbered_with h.session h.member called.job h.ordered.numbered there) called.stands.tables
        (changed_there number_of h.member.constants.number (λ (y : SessionJob). record y { progress = record h.member.progress { job = called.job } }) h.session.jobs h.member there)
        job_number (made_few h.session h.ordered h.member (in_session h.session h.member h.task h.next)) (all_few h.session h.ordered) h.few

    abbrev ready : h.task.condition ≡ Ready
    ready = next_is_ready h.session h.member h.task h.ordered h.next

    abbrev keeps : Stays h.member.progress.job.tasks called.job.tasks × (called.job.next_task ≤ h.member.progress.job.next_task + 1)
    keeps = kept h.session h.member h.task h.next h.ordered called.job called.printed called.touched called.is

    abbrev part : StepResult
    part = half h.session h.member h.task c h.ordered h.next h.chosen ready called.job called.printed called.touched called.is keeps.0 keeps.1

    first : first_part h.session ≡ Some part
    first = first_by h.session h.member h.task h.next (Ok (Goes called.job called.printed called.touched)) called.is

    text_is : printed_text h.member h.task called.printed ≡ run_text part.lines
    text_is =
        ap (λ (j : ℕ). run_text (of_job j (map (λ (line : Line). (h.task.number, line)) called.printed))) (job_is h.session h.member h.task h.next)
        ∙ sym (ap run_text (half_lines h.session h.member h.task c h.ordered h.next h.chosen ready called.job called.printed called.touched called.is keeps.0 keeps.1))

    fits_here : said ≢ None → NextFits core s
    fits_here tells = subst (NextFits core) (h.same tells) (next_fits h.session h.member h.task h.next core (h.room tells))

    pub made_half : (old : Machine) (tasks : Tasks) → IsCounted c k.tasks tasks → old.tasks.made ≡ s.made → old.tasks.printed ≡ before → length old.cpu.core ≡ core
        → IsHalfMade taken said' (said ≢ None) s old (record k { tasks = tasks }) paper paper'
    made_half old tasks counted om op size = record {
      was = h.session;
      same = h.same;
      part = part;
      is = λ tells. first;
      ordered = half_ordered h.session h.member h.task c h.ordered h.next h.chosen ready called.job called.printed called.touched called.is keeps.0 keeps.1;
      storage = called.storage;
      plan = called.plan;
      stands = half_stands h.session h.member h.task c h.ordered h.next h.chosen ready called.job called.printed called.touched called.is keeps.0 keeps.1 called.storage k called.plan tasks counted called.stands;
      made = counted.made ∙ ap (λ (i : ℕ). i + 1) (called.stands.tables.counts.made ∙ h.same_made ∙ sym om);
      unprinted = counted.printed;
      fits = λ tells. subst (λ (i : ℕ). NextFits i s) (sym size) (fits_here tells);
      was_due = due h.session;
      was_is = λ tells. refl;
      prints = λ is_due.
          subst (λ (i : ℕ). Prints taken paper paper' (due h.session) i part.lines is_due 0) (sym op)
          (prints_rest taken paper paper' (printed_text h.member h.task called.printed) (due h.session) is_due before 0 part.lines (due_first h.session h.member h.task h.next h.ordered part first ∙ sym text_is) text_is refl called.text);
    }

  -- ---- the task has ended, or waits
  module _ (answered : Result Tried Stop) (made : Stepped) (h : Attempted taken said said' core count before s c answered k paper paper')
      (stays : ClosesSo said said' core k paper paper' h.plan h.session h.member h.task h.next.chosen made) where
    pub close_room : CountsHaveRoom k.tasks c
    close_room =
        let number : h.member.constants.number ≡ c.job = job_is h.session h.member h.task h.next ∙ ap (λ (z : Choice). z.who.job) h.chosen in
        room_for h.plan h.session h.member k.tasks c h.ordered.numbered stays.still.1.tables (in_session h.session h.member h.task h.next) number
        (made_few h.session h.ordered h.member (in_session h.session h.member h.task h.next)) (all_few h.session h.ordered) h.few

    pub chosen_stands : k.tasks.running ≡ c.row → StandsChosen stays.still.0 said' k h.plan h.session h.member h.task c
    chosen_stands runs = record {
      ordered = h.ordered;
      next = h.next;
      chosen = h.chosen;
      stands = stays.still.1;
      row = running_row stays.still.0 k.cpu k.tasks h.plan h.session h.member h.task c.row (but_counts h.session h.ordered) stays.still.1.session stays.still.1.tables h.running runs;
    }

    abbrev pub close_part : StepResult
    close_part = part_of h.session (choice_of c) h.member h.task made

    pub close_count : k.tasks.made ≡ s.made
    close_count = stays.still.1.tables.counts.made ∙ h.same_made

    close_first : said ≢ None → first_part h.session ≡ Some close_part
    close_first tells = subst (λ (z : Choice). first_part h.session ≡ Some (part_of h.session z h.member h.task made)) h.chosen (stays.first tells)

    close_ordered : IsInOrderButLimit close_part.session
    close_ordered =
        subst (λ (z : Choice). IsInOrderButLimit (part_of h.session z h.member h.task made).session) h.chosen
        (first_parts_keep_order h.session h.member h.task h.next made h.ordered stays.settles)

    pub close_due : said ≢ None → run_text close_part.lines ≡ due h.session
    close_due tells = sym (due_first h.session h.member h.task h.next h.ordered close_part (close_first tells))

    close_fits : said ≢ None → NextFits core s
    close_fits tells = subst (NextFits core) (h.same tells) (next_fits h.session h.member h.task h.next core (stays.room tells))

    pub close_half : (old mid : Machine) (paper'' : K) → TookRest taken paper' paper'' (run_text close_part.lines) k.tasks.printed → mid.tasks.printed ≡ 0 → mid.tasks.made ≡ k.tasks.made + 1 → StandsForSession said' mid close_part.session
        → old.tasks.made ≡ s.made → old.tasks.printed ≡ before → k.tasks.printed ≡ before → length old.cpu.core ≡ core → IsHalfMade taken said' (said ≢ None) s old mid paper paper''
    close_half old mid paper'' rest none counted stands om op kp size = record {
      was = h.session;
      same = h.same;
      part = close_part;
      is = close_first;
      ordered = close_ordered;
      storage = stands.storage;
      plan = stands.plan;
      stands = stands.stands;
      made = counted ∙ ap (λ (i : ℕ). i + 1) (close_count ∙ sym om);
      unprinted = none;
      fits = λ tells. subst (λ (i : ℕ). NextFits i s) (sym size) (close_fits tells);
      was_due = run_text close_part.lines;
      was_is = close_due;
      prints = λ is_due.
          (let text = run_text close_part.lines in
          let P : K → ℕ → Type 0 = λ q i. Prints taken q paper'' text i close_part.lines is_due 0 in
          subst (P paper) (kp ∙ sym op) (subst (λ (q : K). P q k.tasks.printed) stays.silent (prints_rest taken paper' paper'' text text is_due k.tasks.printed 0 close_part.lines refl refl refl rest)));
    }

  -- it has ended so
  pub ends_so : (ending : Ending) (h : Attempted taken said said' core count before s c (Ok (tries.Ends ending)) k paper paper')
      → ClosesSo said said' core k paper paper' h.plan h.session h.member h.task h.next.chosen (ends_with h.member.progress.job h.task.number ending)
  ends_so ending h = record {
    still = h.meets.1;
    silent = h.meets.2;
    first = λ tells. ends_first h.session h.member h.task h.next h.ordered ending (ends_exact (said ≢ None) h.member h.task ending tells h.meets.0);
    settles = ends_settle h.member.constants h.member.progress h.task.number ending (job_ordered h.session h.member h.task h.next h.ordered).tasks;
    room = h.room;
  }

  -- it waits for this
  module _ (state : TaskState) (h : Attempted taken said said' core count before s c (Ok (tries.Waits state)) k paper paper') where
    abbrev pub waits : WaitsSo h.plan h.member h.task state
    waits = h.meets.0

    abbrev pub wait_made : Stepped
    wait_made = waiting_step h.member.progress.job h.task waits.condition

    pub waits_so : ClosesSo said said' core k paper paper' h.plan h.session h.member h.task h.next.chosen wait_made
    waits_so = record {
      still = h.meets.1;
      silent = h.meets.2;
      first = λ tells. first_by h.session h.member h.task h.next (Ok (Waits waits.condition)) waits.is;
      settles = waits_settle h.session h.member h.task waits.condition h.ordered h.next waits.is;
      room = h.room;
    }

    pub holds_so : HoldsSo h.plan h.member h.task state waits.condition
    holds_so = record { is = waits.is; shows = waits.shows; runs = h.running.slot }

-- a machine between the parts of a step
pub between_of : {K : Type 0} (taken : K → Option (List ℕ)) (said : Option (List (List ℕ))) (exact : Type 0) (s : Session) (old mid : Machine) (paper paper' : K) → IsHalfMade taken said exact s old mid paper paper' → StandsBetween mid
between_of taken said exact s old mid paper paper' x = record { storage = x.storage; told = said; plan = x.plan; session = x.part.session; ordered = x.ordered; stands = x.stands }
