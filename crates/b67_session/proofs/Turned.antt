-- The chosen task is the running one, and what the attempt at its operator then answers.
use Rattle.std.proofs.Common.{◌≡◌, ◌≢◌, ℕ, ◌+◌, ◌<◌, ◌^◌, List, length, map, Option, Some, None, Result, Ok, Err, inl, inr, refl, sym, ap, ◌∙◌, subst, arith}
use Rattle.std.specs.List.{slice_get}
use Rattle.std.proofs.lemmas.Option.{slice_get_within}
use Rattle.b67_lemmas.proofs.Places.{at_mapped}
use Rattle.b67_model.specs.Common.{Ready, Task, SessionJob, number_of, Session, Choice, choice, IsInOrderButPlaces}
use Rattle.b67_model.specs.Keyed.{keyed}
use Rattle.b67_law.proofs.Sessions.{other_numbers_keep_order}
use Rattle.b67_law.specs.Turns.{IsNext}
use Rattle.b67_law.proofs.Choices.{chosen_tasks_are_ready}
use Rattle.b67_stack.specs.Represents.{Storage}
use Rattle.b67_layout.specs.Machine.{Says, content_after}
use Rattle.b67_layout.specs.Common.{IsInOrderButCounts, Placement, RunningRow, IsRunning}
use Rattle.b67_layout.specs.Rows as rows
use Rattle.b67_layout.proofs.Weaker.{but_counts}
use Rattle.b67_task.specs.Turns.{with_running}
use Rattle.b67_task.specs.Standing.{HasRow}
use Rattle.b67_task.specs.declared.tables.TaskRow.{TaskRow}
use Rattle.b67_task.specs.declared.tables.Tasks.{Tasks}
use Rattle.b67_task.specs.declared.tables.Machine.{Machine}
use Rattle.b67_task.specs.Tables.{task_row, TasksShow, MachineRepresents}
use Rattle.b67_task.specs.declared.counting.Chosen.{Chosen}
use Rattle.b67_task.specs.Counted.{choice_of, CountsHaveRoom}
use Rattle.b67_task.specs.Chosen.{Chooses}
use Rattle.b67_session.specs.AttemptPassed.{StandsOver, CallsDevice, WaitsSo}
use Rattle.b67_session.specs.AttemptStops.{Stop}
use Rattle.b67_session.specs.AttemptStops as stops
use Rattle.b67_session.specs.declared.tries.Tried.{Tried}
use Rattle.b67_session.specs.declared.tries.Tried.TheVariants as tries
use Rattle.b67_session.specs.Attempts.{RunsOver, ForEachOver, WantsNothing, HoleFits, segment_fits, array_fits, IsAtHand, UsesHole, CallKeepsAreas, StandsAsBefore, TellsAfter, AttemptMeets, Attempts, AttemptFits, EndsByRow, AttemptRow, TablesStay}
use Rattle.b67_session.specs.Slices.{StandsAt}
use Rattle.b67_session.proofs.Next.{Chose, chose, runs_then, next_other}

-- the running row's task is running already
pub runs_already : (x : Storage) (told : Option (List (List ℕ))) (k : Machine) (plan : Placement) (s : Session) (r : TaskRow) → MachineRepresents x told k plan s → slice_get k.tasks.rows.items k.tasks.running ≡ Some r
    → MachineRepresents x told k (with_running plan r.slot) s
runs_already x told k plan s r h at =
    let shown : slice_get (map task_row k.tasks.rows.items) k.tasks.running ≡ Some (task_row r) = at_mapped task_row k.tasks.rows.items k.tasks.running r at in
    let runs : RunningRow plan (Some (task_row r)) k.tasks.running = subst (λ (o : Option rows.TaskRow). RunningRow plan o k.tasks.running) shown h.tables.counts.running in
    let is : plan ≡ with_running plan r.slot = ap (with_running plan) (sym runs.1) in
    subst (λ (p : Placement). MachineRepresents x told k p s) is h

-- the machine represents the session with the chosen task running
pub record Turned (told : Option (List (List ℕ))) (k : Machine) (s : Session) (m : SessionJob) (t : Task) (c : Chosen) : Type 0 where
  pub storage : Storage
  pub plan : Placement
  pub ordered : IsInOrderButPlaces s
  pub next : IsNext s m t
  pub chosen : next.chosen ≡ choice_of c
  pub ready : t.condition ≡ Ready
  pub stands : MachineRepresents storage told k plan s
  pub running : IsRunning plan s.jobs m t
  pub turn : c.turn + 1 < 2 ^ 32

-- the task that makes the next step of a session whose choice is known
pub record NextOf (s : Session) (c : Chosen) : Type 0 where
  pub member : SessionJob
  pub task : Task
  pub next : IsNext s member task
  pub chosen : next.chosen ≡ choice_of c
  pub ready : task.condition ≡ Ready

pub next_of : (s : Session) (c : Chosen) → IsInOrderButPlaces s → choice s ≡ Some (choice_of c) → NextOf s c
next_of s c o is = let (m, t, n, same, ready) = chosen_tasks_are_ready s (choice_of c) o is in record { member = m; task = t; next = n; chosen = same; ready = ready }

module _ (said : Option (List (List ℕ))) (k : Machine) (s : Session) (h : StandsAt said k s) (c : Chosen) (chooses : Chooses k.tasks.rows.items (Some c) (choice s)) where
  abbrev pub who : NextOf s c
  who = next_of s c h.ordered chooses.1

  abbrev the_row : Chose s who.member who.task who.next h.plan k.tasks c
  the_row = chose s who.member who.task who.next h.plan k.tasks c h.ordered h.stands.tables who.chosen chooses.0

  pub has_row : HasRow k c.row
  has_row = record { storage = h.storage; told = said; plan = h.plan; session = s; ordered = but_counts s h.ordered; stands = h.stands; inside = slice_get_within k.tasks.rows.items c.row the_row.row the_row.at }

  abbrev pub turned : (new : Machine)
      → ((x : Storage) (said : Option (List (List ℕ))) (plan : Placement) (s : Session) (r : TaskRow) → IsInOrderButCounts s → MachineRepresents x said k plan s → slice_get k.tasks.rows.items c.row ≡ Some r → MachineRepresents x said new (with_running plan r.slot) s)
      → CountsHaveRoom k.tasks c → Turned said new s who.member who.task c
  turned new stands room =
      let r = the_row in record {
        storage = h.storage;
        plan = with_running h.plan r.row.slot;
        ordered = h.ordered;
        next = who.next;
        chosen = who.chosen;
        ready = who.ready;
        stands = stands h.storage said h.plan s r.row (but_counts s h.ordered) h.stands r.at;
        running = runs_then s who.member who.task who.next h.plan r.row.slot r.shows.slot;
        turn = room.turn;
      }

-- what is known is what the storage says
pub over : (x : Storage) (said told : Option (List (List ℕ))) (k : Machine) (plan : Placement) (s : Session) → Says said told → MachineRepresents x said k plan s → StandsOver x told k plan s
over x said told k plan s says h = grind arith

pub runs_over : (said told : Option (List (List ℕ))) → Says said told → (k : Machine) (s : Session) (m : SessionJob) (t : Task) (c : Chosen) → Turned said k s m t c → RunsOver k told
runs_over said told says k s m t c h = record { storage = h.storage; plan = h.plan; session = s; member = m; task = t; ordered = but_counts s h.ordered; stands = over h.storage said told k h.plan s says h.stands; running = h.running; ready = h.ready }

-- what the attempt answered, for the session or where nothing is known of the sectors for one with other numbers
pub record Attempted {K : Type 0} (taken : K → Option (List ℕ)) (said said' : Option (List (List ℕ))) (core count before : ℕ) (s : Session) (c : Chosen) (answered : Result Tried Stop) (k : Machine) (paper paper' : K) : Type 0 where
  pub session : Session
  pub same : said ≢ None → session ≡ s
  pub same_made : session.made ≡ s.made
  pub member : SessionJob
  pub task : Task
  pub storage : Storage
  pub plan : Placement
  pub ordered : IsInOrderButPlaces session
  pub next : IsNext session member task
  pub chosen : next.chosen ≡ choice_of c
  pub running : IsRunning plan session.jobs member task
  pub few : c.turn + 1 < 2 ^ 32
  pub meets : AttemptMeets taken said' (said ≢ None) core count before plan session member task answered k paper paper'
  pub room : said ≢ None → AttemptFits core storage plan session member task answered

-- the chosen task's row, and what the machine then represents
abbrev pub GivesTurn : Machine → ℕ → Machine → Type 0
GivesTurn k row new =
    (x : Storage) (told : Option (List (List ℕ))) (plan : Placement) (s : Session) (r : TaskRow) → IsInOrderButCounts s → MachineRepresents x told k plan s → slice_get k.tasks.rows.items row ≡ Some r → MachineRepresents x told new (with_running plan r.slot) s

abbrev pub ChoosesRow : Machine → Chosen → Type 0
ChoosesRow k c = (plan : Placement) (s : Session) → IsInOrderButPlaces s → TasksShow plan s k.tasks → Chooses k.tasks.rows.items (Some c) (choice s)

abbrev pub ChosenRoom : Machine → Chosen → Type 0
ChosenRoom k c = (plan : Placement) (s : Session) → IsInOrderButPlaces s → TasksShow plan s k.tasks → CountsHaveRoom k.tasks c

-- a step as far as its operator was tried: a task was chosen and has the turn, and the attempt answered
pub record Tries {D K : Type 0} (holds : D → Option (List (List ℕ))) (taken : K → Option (List ℕ)) (told told' : Option (List (List ℕ))) (count : ℕ) (k : Machine) (c : Chosen) (mid : Machine) (answered : Result Tried Stop) (new : Machine) (device device' : D) (paper paper' : K) : Type 0 where
  pub chooses : ChoosesRow k c
  pub counts : ChosenRoom k c
  pub gives : GivesTurn k c.row mid
  pub tables : mid.tasks ≡ record k.tasks { rows = mid.tasks.rows; running = c.row }
  pub core : length mid.cpu.core ≡ length k.cpu.core
  pub row : ForEachOver mid told (λ x plan s m t. AttemptRow holds taken x (content_after x.device told') (length mid.cpu.core) count mid.tasks.printed plan s m t answered new device device' paper paper')
  pub stay : TablesStay answered mid.tasks new.tasks
  pub halt : new.tasks.halt ≡ mid.tasks.halt

module _ {D K : Type 0} {holds : D → Option (List (List ℕ))} {taken : K → Option (List ℕ)} {told told' : Option (List (List ℕ))} {count : ℕ} {k mid new : Machine} {c : Chosen} {answered : Result Tried Stop} {device device' : D} {paper paper' : K}
    (x : Tries holds taken told told' count k c mid answered new device device' paper paper') (said : Option (List (List ℕ))) (s : Session) (says : Says said told) (h : StandsAt said k s) where
  abbrev chooses_here : Chooses k.tasks.rows.items (Some c) (choice s)
  chooses_here = x.chooses h.plan s h.ordered h.stands.tables

  abbrev pub n : NextOf s c
  n = who said k s h c chooses_here

  abbrev pub slot_here : ℕ
  slot_here = (the_row said k s h c chooses_here).row.slot

  abbrev here : Turned said mid s n.member n.task c
  here = turned said k s h c chooses_here mid x.gives (x.counts h.plan s h.ordered h.stands.tables)

  abbrev stood : StandsOver here.storage told mid here.plan s
  stood = over here.storage said told mid here.plan s says here.stands

  device_is : said ≡ here.storage.device
  device_is = here.stands.storage.device

  device_told : said ≢ None → here.storage.device ≢ None
  device_told tells = subst (λ (d : Option (List (List ℕ))). d ≢ None) device_is tells

  abbrev pub promise : AttemptRow holds taken here.storage (content_after here.storage.device told') (length mid.cpu.core) count mid.tasks.printed here.plan s n.member n.task answered new device device' paper paper'
  promise = x.row here.storage here.plan s n.member n.task (but_counts s here.ordered) stood here.running here.ready

  abbrev a : Attempts taken here.storage (content_after here.storage.device told') (length mid.cpu.core) count mid.tasks.printed here.plan s n.task answered new paper paper'
  a = promise.meets

  again : (q : IsNext (record s { jobs = a.jobs }) a.member n.task) × (q.chosen ≡ n.next.chosen)
  again = next_other here.plan s n.member a.member n.task a.jobs here.stands.session.holds.fits.rows a.others here.running a.running n.next

  jobs_same : said ≢ None → a.jobs ≡ s.jobs
  jobs_same tells = a.same (device_told tells)

  member_same : said ≢ None → a.member ≡ n.member
  member_same tells =
      let found : keyed number_of n.next.chosen.who.job a.jobs ≡ Some a.member = subst (λ (z : Choice). keyed number_of z.who.job a.jobs ≡ Some a.member) again.1 again.0.member in
      grind (arith, jobs_same)

  room_here : said ≢ None → AttemptFits (length mid.cpu.core) here.storage here.plan s n.member n.task answered
  room_here tells = promise.fits (device_told tells)

  -- the same of the session that the machine represents again
  room_again : said ≢ None → AttemptFits (length mid.cpu.core) here.storage here.plan (record s { jobs = a.jobs }) a.member n.task answered
  room_again tells =
      let J : List SessionJob → Type 0 = λ jobs. AttemptFits (length mid.cpu.core) here.storage here.plan (record s { jobs = jobs }) n.member n.task answered in
      let M : SessionJob → Type 0 = λ z. AttemptFits (length mid.cpu.core) here.storage here.plan (record s { jobs = a.jobs }) z n.task answered in
      subst M (sym (member_same tells)) (subst J (sym (jobs_same tells)) (room_here tells))

  -- and of the machine before
  pub room_there : said ≢ None → AttemptFits (length k.cpu.core) h.storage h.plan s n.member n.task answered
  room_there tells = subst (λ (size : ℕ). AttemptFits size h.storage h.plan s n.member n.task answered) x.core (room_over answered (room_here tells)) where
    room_over : (other : Result Tried Stop) → AttemptFits (length mid.cpu.core) here.storage here.plan s n.member n.task other → AttemptFits (length mid.cpu.core) h.storage h.plan s n.member n.task other
    room_over (Ok attempted) fits = fits
    room_over (Err (stops.NoCore words size)) fits = tt
    room_over (Err (stops.BackingFull sum size)) fits = fits
    room_over (Err stops.BackingFault) fits = fits
    room_over (Err stops.PrintFault) fits = fits

  pub attempted : Attempted taken said (content_after said told') (length k.cpu.core) count k.tasks.printed s c answered new paper paper'
  attempted =
      let P : ℕ → ℕ → Type 0 = λ core before. Attempted taken said (content_after said told') core count before s c answered new paper paper' in
      let printed : mid.tasks.printed ≡ k.tasks.printed = ap (λ (z : Tasks). z.printed) x.tables in
      subst (λ (size : ℕ). P size k.tasks.printed) x.core (subst (P (length mid.cpu.core)) printed (record {
        session = record s { jobs = a.jobs };
        same = λ tells. ap (λ (jobs : List SessionJob). record s { jobs = jobs }) (jobs_same tells);
        same_made = refl;
        member = a.member;
        task = n.task;
        storage = here.storage;
        plan = here.plan;
        ordered = other_numbers_keep_order s a.jobs a.others here.ordered;
        next = again.0;
        chosen = again.1 ∙ n.chosen;
        running = a.running;
        few = here.turn;
        meets = subst (λ (d : Option (List (List ℕ))). AttemptMeets taken (content_after d told') (d ≢ None) (length mid.cpu.core) count mid.tasks.printed here.plan (record s { jobs = a.jobs }) a.member n.task answered new paper paper') (sym device_is) a.meets;
        room = room_again;
      }))

  -- where nothing is wanted
  pub quiet_here : WantsNothing h.storage h.plan n.member n.task → (CallsDevice n.member n.task → ⊥) → device' ≡ device
  quiet_here wants same = promise.quiet (record { code = wants.code; array = wants.array }) same

  -- where one thing is wanted and a hole has room for it
  hole_there : HoleFits h.storage h.plan n.member n.task → HoleFits here.storage here.plan n.member n.task
  hole_there (segment_fits none arrays room) = segment_fits none arrays room
  hole_there (array_fits a code among absent is room) = array_fits a code among absent is room

  pub hole_here : said ≢ None → HoleFits h.storage h.plan n.member n.task → (CallsDevice n.member n.task → ⊥) → UsesHole holds answered device device'
  hole_here tells fits none = promise.hole (device_told tells) (hole_there fits) none

  -- and what a full device is told where nothing is
  pub sum_here : WantsNothing h.storage h.plan n.member n.task → (sum size : ℕ) → answered ≡ Err (stops.BackingFull sum size) → TellsAfter s n.member n.task sum
  sum_here wants = promise.sum (record { code = wants.code; array = wants.array })

  -- where nothing is wanted, or what is wanted has a hole
  at_hand_there : IsAtHand h.storage h.plan n.member n.task → IsAtHand here.storage here.plan n.member n.task
  at_hand_there (inl wants) = inl (record { code = wants.code; array = wants.array })
  at_hand_there (inr (tells, fits)) = inr (tells, hole_there fits)

  pub areas_here : answered ≡ Ok tries.Made → IsAtHand h.storage h.plan n.member n.task
      → CallKeepsAreas taken here.storage (content_after here.storage.device told') mid.tasks.printed here.plan s n.member n.task new paper paper'
  areas_here made hand = promise.areas (at_hand_there hand) made

  -- the task ends or waits only by its row
  outcome_told : (other : Result Tried Stop) → said ≢ None → AttemptMeets taken (content_after here.storage.device told') (here.storage.device ≢ None) (length mid.cpu.core) count mid.tasks.printed here.plan (record s { jobs = a.jobs }) a.member n.task other new paper paper'
      → EndsByRow here.plan n.member n.task other
  outcome_told (Ok tries.Made) tells meets = tt
  outcome_told (Ok (tries.Absent found)) tells meets = meets
  outcome_told (Ok (tries.Ends ending)) tells meets = grind (arith, member_same)
  outcome_told (Ok (tries.Waits state)) tells meets = subst (λ (z : SessionJob). WaitsSo here.plan z n.task state) (member_same tells) meets.0
  outcome_told (Err stop) tells meets = tt

  pub still_here : WantsNothing h.storage h.plan n.member n.task → StandsAsBefore here.storage (content_after here.storage.device told') here.plan s answered new
  still_here wants = promise.still (record { code = wants.code; array = wants.array })

  pub running_here : IsRunning here.plan s.jobs n.member n.task
  running_here = here.running

  pub outcome_here : IsAtHand h.storage h.plan n.member n.task → EndsByRow here.plan n.member n.task answered
  outcome_here (inl wants) = promise.outcome (record { code = wants.code; array = wants.array })
  outcome_here (inr (tells, fits)) = outcome_told answered (subst (λ (d : Option (List (List ℕ))). d ≢ None) (sym device_is) tells) a.meets
