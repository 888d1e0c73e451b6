-- A step, once its operator was tried: what it answers, prints and leaves.
use Rattle.std.proofs.Common.{◌≡◌, ◌≢◌, ℕ, ◌+◌, List, length, Option, Some, None, Result, Ok, Err, refl, ap, ◌∙◌, subst, arith, inl}
use Rattle.b67_word.specs.declared.faults.Ending.{Ending}
use Rattle.b67_word.specs.declared.faults.Failed.{Failed}
use Rattle.b67_model.specs.Common.{Stepped, ends_with, StepResult, Condition, Task, Job, SessionJob, Session, Choice, Waits, IsInOrderButPlaces}
use Rattle.b67_law.specs.Turns.{IsNext, part_of}
use Rattle.b67_stack.specs.declared.What.{What}
use Rattle.b67_stack.specs.Represents.{Storage}
use Rattle.b67_layout.specs.Machine.{Says, content_after}
use Rattle.b67_layout.specs.Placement.{Placement}
use Rattle.b67_exec_cells.specs.Running.{code_area}
use Rattle.b67_task.specs.declared.tables.TaskState.{TaskState}
use Rattle.b67_task.specs.declared.tables.Tasks.{Tasks}
use Rattle.b67_task.specs.declared.tables.Machine.{Machine}
use Rattle.b67_task.specs.declared.counting.Chosen.{Chosen}
use Rattle.b67_task.specs.Counted.{choice_of, CountsHaveRoom}
use Rattle.b67_task.specs.Turns.{with_running}
use Rattle.b67_session.specs.AttemptStops.{Stop}
use Rattle.b67_session.specs.AttemptStops as stops
use Rattle.b67_session.specs.Attempts.{WantsNothing, AttemptFits, IsNotFull, IsAtHand}
use Rattle.b67_session.proofs.Composed.{not_full_as}
use Rattle.b67_session.specs.declared.tries.Tried.{Tried}
use Rattle.b67_session.specs.declared.tries.Tried.TheVariants as tries
use Rattle.b67_session.specs.Closing.{StandsChosen, ChoseSome, Closes}
use Rattle.b67_session.specs.Counts.{IsCounted}
use Rattle.b67_session.specs.Ends.{StandsBetween}
use Rattle.b67_session.specs.Holds.{waiting_step, HoldsSo, HoldsSome}
use Rattle.b67_session.specs.Slices.{StandsAt, StopsWithRoom, GoesOnAlone, StepKeepsAreas, StepLeaves, IfPresent}
use Rattle.b67_session.specs.Steps.{StopOf, EndsStep, Steps}
use Rattle.b67_session.proofs.AreasKept.{step_keeps_areas, goes_on_leaves, goes_on_only, stop_made}
use Rattle.b67_session.proofs.StepsLeave.{EndsEach, step_leaves}
use Rattle.b67_session.proofs.Between.{IsHalfMade, finished}
use Rattle.b67_session.proofs.Halved.{ClosesSo, made_room, made_half, close_room, chosen_stands, close_half, ends_so, waits, wait_made, waits_so, holds_so, between_of, job_ordered, ends_first}
use Rattle.b67_session.proofs.Rooms.{running_row}
use Rattle.b67_session.proofs.Waits.{waits_settle}
use Rattle.b67_law.proofs.Settled.{ends_settle}
use Rattle.b67_law.proofs.Halves.{first_by}
use Rattle.b67_layout.proofs.Weaker.{but_counts}
use Rattle.b67_session_lines.specs.Moments.{first_part}
use Rattle.b67_session.specs.AttemptPassed.{WaitsSo}
use Rattle.b67_layout.specs.Session.{IsRunning}
use Rattle.b67_task.specs.Tables.{MachineRepresents}
use Rattle.b67_session.proofs.Next.{as_next}
use Rattle.b67_session.proofs.Stopped.{cut_steps, stop_steps}
use Rattle.b67_session.proofs.Turned.{NextOf, Tries, Attempted, attempted, n, quiet_here, hole_here, sum_here, slot_here, areas_here, outcome_here, still_here, running_here, room_there}
use Rattle.b67_session.proofs.Tabled.{stop_printed, turned_printed, turned_made}

-- ---- stops with room

pub ended_not_full : (result : Result (Unit {0}) Failed) (answered : Result (Unit {0}) Stop) → StopOf result answered → IsNotFull answered
ended_not_full result answered is sum size e = grind arith

module _ (core : ℕ) (s : Session) (m : SessionJob) (t : Task) where
  pub ended_room : (result : Result (Unit {0}) Failed) (answered : Result (Unit {0}) Stop) → StopOf result answered → StopsWithRoom core s m t answered
  ended_room result answered is = grind arith

  stopped_room : (x : Storage) (plan : Placement) (stop : Stop) → AttemptFits core x plan s m t (Err stop) → code_area x plan m t ≢ None → StopsWithRoom {A = Unit {0}} core s m t (Err stop)
  stopped_room x plan stop fits code = grind arith

-- what `close` promises of each session whose chosen task is known
abbrev pub ClosesEach : {K : Type 0} → (K → Option (List ℕ)) → Chosen → Ending → Result (Unit {0}) Failed → Machine → Machine → K → K → Type 0
ClosesEach taken c ending result old new paper paper' =
    (x : Storage) (told : Option (List (List ℕ))) (plan : Placement) (s : Session) (m : SessionJob) (t : Task) → StandsChosen x told old plan s m t c
    → Closes taken x told plan s (part_of s (choice_of c) m t (ends_with m.progress.job t.number ending)) result old new paper paper'

-- and `hold`
abbrev pub HoldsEach : {K : Type 0} → (K → Option (List ℕ)) → Chosen → TaskState → Result (Unit {0}) Failed → Machine → Machine → K → K → Type 0
HoldsEach taken c state result old new paper paper' =
    (x : Storage) (told : Option (List (List ℕ))) (plan : Placement) (s : Session) (m : SessionJob) (t : Task) (condition : Condition) → StandsChosen x told old plan s m t c → HoldsSo plan m t state condition
    → Closes taken x told plan s (part_of s (choice_of c) m t (waiting_step m.progress.job t condition)) result old new paper paper'

-- the chosen task's row, where all is where it was
chosen_by : {new : Machine} {c : Chosen} (m : SessionJob) (t : Task) (s : Session) (n : IsNext s m t) (x : Storage) (told : Option (List (List ℕ))) (plan : Placement) → n.chosen ≡ choice_of c → IsInOrderButPlaces s
    → MachineRepresents x told new plan s → IsRunning plan s.jobs m t → new.tasks.running ≡ c.row → StandsChosen x told new plan s m t c
chosen_by {new} {c} m t s n x told plan chosen o stands running runs = record {
  ordered = o;
  next = n;
  chosen = chosen;
  stands = stands;
  row = running_row x new.cpu new.tasks plan s m t c.row (but_counts s o) stands.session stands.tables running runs;
}

-- ---- the step

-- a task that ends or waits made no operator
pub ends_not_made : (ending : Ending) → tries.Ends ending ≢ tries.Made
ends_not_made ending e = let b : ⊥ = cc in b

pub waits_not_made : (state : TaskState) → tries.Waits state ≢ tries.Made
waits_not_made state e = let b : ⊥ = cc in b

module _ {D K : Type 0} {holds : D → Option (List (List ℕ))} {taken : K → Option (List ℕ)} {told told' : Option (List (List ℕ))} {count : ℕ} {k mid new : Machine} {c : Chosen} {device device' : D} {paper paper' : K} where
  -- at another answer
  pub tries_as : (answered other : Result Tried Stop) → answered ≡ other → Tries holds taken told told' count k c mid answered new device device' paper paper' → Tries holds taken told told' count k c mid other new device device' paper paper'
  tries_as answered other e x = subst (λ (a : Result Tried Stop). Tries holds taken told told' count k c mid a new device device' paper paper') e x

  printed_is : (answered : Result Tried Stop) → Tries holds taken told told' count k c mid answered new device device' paper paper' → mid.tasks.printed ≡ k.tasks.printed
  printed_is answered x = turned_printed k.tasks mid.tasks c.row x.tables

  -- where its segment and array are present
  module _ (answered : Result Tried Stop) (x : Tries holds taken told told' count k c mid answered new device device' paper paper') (said : Option (List (List ℕ))) (s : Session) (says : Says said told) (h : StandsAt said k s) where
    abbrev next_of : NextOf s c
    next_of = n x said s says h

    pub present_by : (m : SessionJob) (t : Task) → IsNext s m t → (step : Result (Unit {0}) Stop) (last : Machine)
        → (said ≢ None → code_area h.storage h.plan next_of.member next_of.task ≢ None → last.tasks.made ≡ k.tasks.made → StopsWithRoom (length k.cpu.core) s next_of.member next_of.task step)
        → (IsNotFull answered → IsNotFull step) → ((sum size : ℕ) → step ≡ Err (stops.BackingFull sum size) → answered ≡ Err (stops.BackingFull sum size))
        → ((job : Job) → GoesOnAlone s next_of.member next_of.task job → IsAtHand h.storage h.plan next_of.member next_of.task → last.tasks.made ≡ k.tasks.made + 1 → StepKeepsAreas h.storage h.plan s next_of.member next_of.task job last)
        → (WantsNothing h.storage h.plan next_of.member next_of.task → last.tasks.made ≡ k.tasks.made + 1 → StepLeaves h.storage h.plan s next_of.member next_of.task last)
        → IfPresent holds (said ≢ None) (length k.cpu.core) 1 h.storage h.plan s m t step k last device device'
    present_by m t next step last room fine full areas left =
        as_next s m next_of.member t next_of.task (λ (z : SessionJob) (v : Task). IfPresent holds (said ≢ None) (length k.cpu.core) 1 h.storage h.plan s z v step k last device device') next_of.next next
        (record {
          quiet = λ one wants same. quiet_here x said s says h wants same;
          hole = λ tells one fits none. (let used = hole_here x said s says h tells fits none in record { written = used.written; not_full = fine used.not_full });
          areas = λ job one alone hand more. areas job alone hand more;
          left = λ one wants more. left wants more;
          sum = λ one wants sum size e. sum_here x said s says h wants sum size (full sum size e);
          room = room;
        })

  -- the operator was made
  module _ (x : Tries holds taken told told' count k c mid (Ok tries.Made) new device device' paper paper') (said : Option (List (List ℕ))) (s : Session) (says : Says said told) (h : StandsAt said k s) where
    abbrev made : Attempted taken said (content_after said told') (length k.cpu.core) count k.tasks.printed s c (Ok tries.Made) new paper paper'
    made = attempted x said s says h

    pub made_counts : CountsHaveRoom new.tasks c
    made_counts = made_room taken said (content_after said told') (length k.cpu.core) count k.tasks.printed s c new paper paper' made

    module _ (tasks : Tasks) (counted : IsCounted c new.tasks tasks) where
      abbrev counts : Machine
      counts = record new { tasks = tasks }

      halved : IsHalfMade taken (content_after said told') (said ≢ None) s k counts paper paper'
      halved = made_half taken said (content_after said told') (length k.cpu.core) count k.tasks.printed s c new paper paper' made k tasks counted h.stands.tables.counts.made refl refl

      pub made_between : StandsBetween counts
      made_between = between_of taken (content_after said told') (said ≢ None) s k counts paper paper' halved

      module _ (answered : Result (Unit {0}) Stop) (last : Machine) (paper'' : K) (each : EndsEach taken answered counts last paper' paper'') where
        abbrev ended : EndsStep taken halved.storage (content_after said told') halved.plan halved.part.session answered counts last paper' paper''
        ended = each halved.storage (content_after said told') halved.plan halved.part.session halved.ordered halved.stands

        pub made_row : last.tasks ≡ record counts.tasks { rows = last.tasks.rows; running = last.tasks.running; printed = last.tasks.printed }
            → Steps taken (content_after said told') (said ≢ None) count s answered k last paper paper''
        made_row tables = finished taken (content_after said told') (said ≢ None) count s k counts last paper paper' paper'' halved tables ended.result ended.finishes answered ended.answer

        pub made_present : (m : SessionJob) (t : Task) → IsNext s m t → IfPresent holds (said ≢ None) (length k.cpu.core) 1 h.storage h.plan s m t answered k last device device'
        made_present m t next =
            let z = n x said s says h in
            present_by (Ok tries.Made) x said s says h m t next answered last (λ tells code none. ended_room (length k.cpu.core) s z.member z.task ended.result answered ended.answer)
            (λ whole. ended_not_full ended.result answered ended.answer) (λ sum size e. absurd (ended_not_full ended.result answered ended.answer sum size e))
            (λ job alone hand more.
            step_keeps_areas taken s z.member z.task c h.ordered z.next z.chosen z.ready h.storage (slot_here x said s says h) h.plan (content_after h.storage.device told') mid.tasks.printed new last tasks paper paper' paper''
            (areas_here x said s says h refl hand) counted answered each job alone)
            (λ wants more.
            goes_on_leaves taken s z.member z.task c h.ordered z.next z.chosen z.ready h.storage (slot_here x said s says h) h.plan (content_after h.storage.device told') mid.tasks.printed new last tasks paper paper' paper''
            (areas_here x said s says h refl (inl wants)) counted answered each wants)

  -- the operator ends its task, or makes it wait: the attempt has left the tables as they were
  module _ (outcome : Tried) (x : Tries holds taken told told' count k c mid (Ok outcome) new device device' paper paper') (stay : new.tasks ≡ mid.tasks) (said : Option (List (List ℕ))) (s : Session) (says : Says said told) (h : StandsAt said k s)
      (made : Stepped) (so : ClosesSo said (content_after said told') (length k.cpu.core) new paper paper' (attempted x said s says h).plan (attempted x said s says h).session (attempted x said s says h).member (attempted x said s says h).task (attempted x said s says h).next.chosen made) where
    abbrev left : Attempted taken said (content_after said told') (length k.cpu.core) count k.tasks.printed s c (Ok outcome) new paper paper'
    left = attempted x said s says h

    abbrev runs : new.tasks.running ≡ c.row
    runs = ap (λ (z : Tasks). z.running) stay ∙ ap (λ (z : Tasks). z.running) x.tables

    -- it doesn't go on
    left_not : outcome ≢ tries.Made → (job : Job) → GoesOnAlone s (n x said s says h).member (n x said s says h).task job → IsAtHand h.storage h.plan (n x said s says h).member (n x said s says h).task → ⊥
    left_not other job alone hand =
        let z = n x said s says h in
        goes_on_only (with_running h.plan (slot_here x said s says h)) z.member z.task job alone.printed alone.touched alone.is outcome other (outcome_here x said s says h hand)

    printed_still : new.tasks.printed ≡ k.tasks.printed
    printed_still = ap (λ (z : Tasks). z.printed) stay ∙ printed_is (Ok outcome) x

    pub close_counts : CountsHaveRoom new.tasks c
    close_counts = close_room taken said (content_after said told') (length k.cpu.core) count k.tasks.printed s c new paper paper' (Ok outcome) made left so

    abbrev pub stands_chosen : StandsChosen so.still.0 (content_after said told') new left.plan left.session left.member left.task c
    stands_chosen = chosen_stands taken said (content_after said told') (length k.cpu.core) count k.tasks.printed s c new paper paper' (Ok outcome) made left so runs

    abbrev pub the_part : StepResult
    the_part = part_of left.session (choice_of c) left.member left.task made

    -- the endings' lines were printed
    module _ (closed : Machine) (paper'' : K) (closes : Closes taken so.still.0 (content_after said told') left.plan left.session the_part (Ok tt) new closed paper' paper'') where
      closed_half : IsHalfMade taken (content_after said told') (said ≢ None) s k closed paper paper''
      closed_half =
          let (rest, none, counted, stands) = closes in
          close_half taken said (content_after said told') (length k.cpu.core) count k.tasks.printed s c new paper paper' (Ok outcome) made left so k closed paper'' rest none counted stands.whole h.stands.tables.counts.made refl printed_still refl

      pub closed_between : StandsBetween closed
      closed_between = between_of taken (content_after said told') (said ≢ None) s k closed paper paper'' closed_half

      module _ (answered : Result (Unit {0}) Stop) (last : Machine) (paper''' : K) (each : EndsEach taken answered closed last paper'' paper''') where
        abbrev over : EndsStep taken closed_half.storage (content_after said told') closed_half.plan closed_half.part.session answered closed last paper'' paper'''
        over = each closed_half.storage (content_after said told') closed_half.plan closed_half.part.session closed_half.ordered closed_half.stands

        pub closed_row : last.tasks ≡ record closed.tasks { rows = last.tasks.rows; running = last.tasks.running; printed = last.tasks.printed }
            → Steps taken (content_after said told') (said ≢ None) count s answered k last paper paper'''
        closed_row tables = finished taken (content_after said told') (said ≢ None) count s k closed last paper paper'' paper''' closed_half tables over.result over.finishes answered over.answer

        pub closed_present : outcome ≢ tries.Made → (WantsNothing h.storage h.plan (n x said s says h).member (n x said s says h).task → StepLeaves h.storage h.plan s (n x said s says h).member (n x said s says h).task last) → (m : SessionJob) (t : Task) → IsNext s m t → IfPresent holds (said ≢ None) (length k.cpu.core) 1 h.storage h.plan s m t answered k last device device'
        closed_present other left m t next =
            let z = n x said s says h in
            present_by (Ok outcome) x said s says h m t next answered last (λ tells code none. ended_room (length k.cpu.core) s z.member z.task over.result answered over.answer)
            (λ whole. ended_not_full over.result answered over.answer) (λ sum size e. absurd (ended_not_full over.result answered over.answer sum size e))
            (λ job alone hand more. absurd (left_not other job alone hand)) (λ wants more. left wants)

    -- the printer failed in them
    module _ (failed : Failed) (last : Machine) (paper'' : K) where
      pub cut_row : k.tasks.halt ≢ Some k.tasks.made → new.tasks.halt ≡ k.tasks.halt → Closes taken so.still.0 (content_after said told') left.plan left.session the_part (Err failed) new last paper' paper'' → Steps taken (content_after said told') (said ≢ None) count s (Err stops.PrintFault) k last paper paper''
      cut_row due halt closes =
          let (more, only) = closes in
          cut_steps taken said (content_after said told') (length k.cpu.core) count k.tasks.printed s c new paper paper' (Ok outcome) made left so k last paper'' h.stands.tables.counts.made refl printed_still refl due halt more only

      pub cut_present : outcome ≢ tries.Made → (last.tasks.made ≡ new.tasks.made) → (m : SessionJob) (t : Task) → IsNext s m t → IfPresent {A = Unit {0}} holds (said ≢ None) (length k.cpu.core) 1 h.storage h.plan s m t (Err stops.PrintFault) k last device device'
      cut_present other still m t next =
          present_by (Ok outcome) x said s says h m t next (Err stops.PrintFault) last (λ tells code none. tt) (λ whole sum size e. absurd cc) (λ sum size e. absurd cc)
          (λ job alone hand more. absurd (left_not other job alone hand))
          (λ wants more. absurd (omega (arith, more, still, ap (λ (z : Tasks). z.made) stay, turned_made k.tasks mid.tasks c.row x.tables)))

  -- nothing is answered to be absent
  pub absent_never : (found : What) → Tries holds taken told told' count k c mid (Ok (tries.Absent found)) new device device' paper paper' → (said : Option (List (List ℕ))) (s : Session) → Says said told → StandsAt said k s → ⊥
  absent_never found x said s says h = (attempted x said s says h).meets

  -- it ends its task
  module _ (ending : Ending) (x : Tries holds taken told told' count k c mid (Ok (tries.Ends ending)) new device device' paper paper') (said : Option (List (List ℕ))) (s : Session) (says : Says said told) (h : StandsAt said k s) where
    abbrev ending_left : Attempted taken said (content_after said told') (length k.cpu.core) count k.tasks.printed s c (Ok (tries.Ends ending)) new paper paper'
    ending_left = attempted x said s says h

    abbrev pub ending_made : Stepped
    ending_made = ends_with ending_left.member.progress.job ending_left.task.number ending

    abbrev pub ending_so : ClosesSo said (content_after said told') (length k.cpu.core) new paper paper' ending_left.plan ending_left.session ending_left.member ending_left.task ending_left.next.chosen ending_made
    ending_so = ends_so taken said (content_after said told') (length k.cpu.core) count k.tasks.printed s c new paper paper' ending ending_left

    -- the chosen row is its
    ending_stands : StandsChosen ending_so.still.0 (content_after said told') new ending_left.plan ending_left.session ending_left.member ending_left.task c
    ending_stands = stands_chosen (tries.Ends ending) x x.stay said s says h ending_made ending_so

    pub ending_chose : ChoseSome new c
    ending_chose = record { storage = ending_so.still.0; told = content_after said told'; plan = ending_left.plan; session = ending_left.session; member = ending_left.member; task = ending_left.task; stands = ending_stands }

    -- what closing says of it
    pub ending_closes : (result : Result (Unit {0}) Failed) (closed : Machine) (paper'' : K) → ClosesEach taken c ending result new closed paper' paper''
        → Closes taken ending_so.still.0 (content_after said told') ending_left.plan ending_left.session (the_part (tries.Ends ending) x x.stay said s says h ending_made ending_so) result new closed paper' paper''
    ending_closes result closed paper'' closes = closes ending_so.still.0 (content_after said told') ending_left.plan ending_left.session ending_left.member ending_left.task ending_stands

    -- where nothing is wanted, what is left lies where it lay
    pub ending_leaves : WantsNothing h.storage h.plan (n x said s says h).member (n x said s says h).task → (closed : Machine) (paper'' : K) → ClosesEach taken c ending (Ok tt) new closed paper' paper''
        → (answered : Result (Unit {0}) Stop) (last : Machine) (paper''' : K) → EndsEach taken answered closed last paper'' paper''' → StepLeaves h.storage h.plan s (n x said s says h).member (n x said s says h).task last
    ending_leaves wants closed paper'' closes answered last paper''' each =
        let z = n x said s says h in
        let told'' = content_after h.storage.device told' in
        let slot = slot_here x said s says h in
        let plan' = with_running h.plan slot in
        let made = ends_with z.member.progress.job z.task.number ending in
        let stands : MachineRepresents h.storage told'' new plan' s = still_here x said s says h wants in
        let chosen : StandsChosen h.storage told'' new plan' s z.member z.task c = chosen_by z.member z.task s z.next h.storage told'' plan' z.chosen h.ordered stands (running_here x said s says h) (ap (λ (y : Tasks). y.running) x.stay ∙ ap (λ (y : Tasks). y.running) x.tables) in
        let first = subst (λ (y : Choice). first_part s ≡ Some (part_of s y z.member z.task made)) z.chosen (ends_first s z.member z.task z.next h.ordered ending (outcome_here x said s says h (inl wants))) in
        step_leaves taken s z.member z.task z.next h.ordered c z.chosen made (ends_settle z.member.constants z.member.progress z.task.number ending (job_ordered s z.member z.task z.next h.ordered).tasks) first
        h.storage told'' h.plan slot closed last paper'' paper''' answered (closes h.storage told'' plan' s z.member z.task chosen).3 each

  -- it makes its task wait
  module _ (state : TaskState) (x : Tries holds taken told told' count k c mid (Ok (tries.Waits state)) new device device' paper paper') (said : Option (List (List ℕ))) (s : Session) (says : Says said told) (h : StandsAt said k s) where
    abbrev waiting : Attempted taken said (content_after said told') (length k.cpu.core) count k.tasks.printed s c (Ok (tries.Waits state)) new paper paper'
    waiting = attempted x said s says h

    abbrev pub waiting_made : Stepped
    waiting_made = wait_made taken said (content_after said told') (length k.cpu.core) count k.tasks.printed s c new paper paper' state waiting

    abbrev pub waiting_so : ClosesSo said (content_after said told') (length k.cpu.core) new paper paper' waiting.plan waiting.session waiting.member waiting.task waiting.next.chosen waiting_made
    waiting_so = waits_so taken said (content_after said told') (length k.cpu.core) count k.tasks.printed s c new paper paper' state waiting

    waiting_stands : StandsChosen waiting_so.still.0 (content_after said told') new waiting.plan waiting.session waiting.member waiting.task c
    waiting_stands = stands_chosen (tries.Waits state) x x.stay said s says h waiting_made waiting_so

    waiting_holds : HoldsSo waiting.plan waiting.member waiting.task state (waits taken said (content_after said told') (length k.cpu.core) count k.tasks.printed s c new paper paper' state waiting).condition
    waiting_holds = holds_so taken said (content_after said told') (length k.cpu.core) count k.tasks.printed s c new paper paper' state waiting

    pub waiting_some : HoldsSome new c state
    waiting_some = record {
      storage = waiting_so.still.0;
      told = content_after said told';
      plan = waiting.plan;
      session = waiting.session;
      member = waiting.member;
      task = waiting.task;
      condition = (waits taken said (content_after said told') (length k.cpu.core) count k.tasks.printed s c new paper paper' state waiting).condition;
      stands = waiting_stands;
      so = waiting_holds;
    }

    pub waiting_closes : (result : Result (Unit {0}) Failed) (closed : Machine) (paper'' : K) → HoldsEach taken c state result new closed paper' paper''
        → Closes taken waiting_so.still.0 (content_after said told') waiting.plan waiting.session (the_part (tries.Waits state) x x.stay said s says h waiting_made waiting_so) result new closed paper' paper''
    waiting_closes result closed paper'' holds =
        holds waiting_so.still.0 (content_after said told') waiting.plan waiting.session waiting.member waiting.task
        (waits taken said (content_after said told') (length k.cpu.core) count k.tasks.printed s c new paper paper' state waiting).condition waiting_stands waiting_holds

    pub waiting_leaves : WantsNothing h.storage h.plan (n x said s says h).member (n x said s says h).task → (closed : Machine) (paper'' : K) → HoldsEach taken c state (Ok tt) new closed paper' paper''
        → (answered : Result (Unit {0}) Stop) (last : Machine) (paper''' : K) → EndsEach taken answered closed last paper'' paper''' → StepLeaves h.storage h.plan s (n x said s says h).member (n x said s says h).task last
    waiting_leaves wants closed paper'' holds answered last paper''' each =
        let z = n x said s says h in
        let told'' = content_after h.storage.device told' in
        let slot = slot_here x said s says h in
        let plan' = with_running h.plan slot in
        let row : WaitsSo plan' z.member z.task state = outcome_here x said s says h (inl wants) in
        let made = waiting_step z.member.progress.job z.task row.condition in
        let stands : MachineRepresents h.storage told'' new plan' s = still_here x said s says h wants in
        let chosen : StandsChosen h.storage told'' new plan' s z.member z.task c = chosen_by z.member z.task s z.next h.storage told'' plan' z.chosen h.ordered stands (running_here x said s says h) (ap (λ (y : Tasks). y.running) x.stay ∙ ap (λ (y : Tasks). y.running) x.tables) in
        let first = subst (λ (y : Choice). first_part s ≡ Some (part_of s y z.member z.task made)) z.chosen (first_by s z.member z.task z.next (Ok (Waits row.condition)) row.is) in
        let so : HoldsSo plan' z.member z.task state row.condition = record { is = row.is; shows = row.shows; runs = (running_here x said s says h).slot } in
        step_leaves taken s z.member z.task z.next h.ordered c z.chosen made (waits_settle s z.member z.task row.condition h.ordered z.next row.is) first
        h.storage told'' h.plan slot closed last paper'' paper''' answered (holds h.storage told'' plan' s z.member z.task row.condition chosen so).3 each

  -- it isn't made
  module _ (stop : Stop) (x : Tries holds taken told told' count k c mid (Err stop) new device device' paper paper') (said : Option (List (List ℕ))) (s : Session) (says : Says said told) (h : StandsAt said k s) where
    pub stop_row : k.tasks.halt ≢ Some k.tasks.made → new.tasks.halt ≡ k.tasks.halt → Steps taken (content_after said told') (said ≢ None) count s (Err stop) k new paper paper'
    stop_row due halt =
        stop_steps taken said (content_after said told') (length k.cpu.core) count k.tasks.printed s c new paper paper' stop (attempted x said s says h) k h.stands.tables.counts.made refl refl due halt
        (λ other. stop_printed stop mid.tasks new.tasks x.stay other ∙ printed_is (Err stop) x)

    not_counted : new.tasks.made ≡ k.tasks.made + 1 → ⊥
    not_counted more = omega (arith, more, stop_made stop mid.tasks new.tasks x.stay, turned_made k.tasks mid.tasks c.row x.tables)

    pub stop_present : (m : SessionJob) (t : Task) → IsNext s m t → IfPresent {A = Unit {0}} holds (said ≢ None) (length k.cpu.core) 1 h.storage h.plan s m t (Err stop) k new device device'
    stop_present m t next =
        let z = n x said s says h in
        present_by (Err stop) x said s says h m t next (Err stop) new (λ tells code none. stopped_room (length k.cpu.core) s z.member z.task h.storage h.plan stop (room_there x said s says h tells) code)
        (λ whole. not_full_as stop whole) (λ sum size e. ap (λ (z : Stop). Err z) (let is : stop ≡ stops.BackingFull sum size = cc in is))
        (λ job alone hand more. absurd (not_counted more)) (λ wants more. absurd (not_counted more))
