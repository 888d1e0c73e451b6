-- One attempt of several tries.
use Rattle.std.proofs.Common.{◌≡◌, ◌≢◌, ℕ, ◌+◌, ◌<◌, ◌≤◌, ◌⊎◌, ⊎_elim, arith, inl, inr, List, length, Option, Some, None, Result, Ok, Err, refl, sym, ◌∙◌, ap, subst}
use Rattle.b67_word.specs.declared.faults.Ending.{Ending}
use Rattle.b67_word.specs.declared.faults.Ending.TheVariants.{Faulted}
use Rattle.b67_word.specs.declared.faults.Fault.TheVariants.{InvalidOperator}
use Rattle.b67_backing.specs.Held.{Becomes}
use Rattle.b67_model.specs.Common.{Ready, Task, SessionJob, need, Session}
use Rattle.b67_layout.specs.Common.{IsInOrderButCounts, Placement, IsRunning}
use Rattle.b67_stack.specs.declared.What.{What}
use Rattle.b67_stack.specs.declared.What.TheVariants as what
use Rattle.b67_stack.specs.Common.{Location, Storage}
use Rattle.b67_layout.specs.Machine.{Says, HasHole, content_after}
use Rattle.b67_exec_cells.specs.Running.{code_area}
use Rattle.b67_layout_step.proofs.OtherNumbers.{others_in_order}
use Rattle.b67_task.specs.declared.tables.TaskState.{TaskState}
use Rattle.b67_task.specs.declared.tables.Machine.{Machine}
use Rattle.b67_task.specs.declared.tables.Tasks.{Tasks}
use Rattle.b67_task.specs.Tables.{MachineRepresents}
use Rattle.b67_mcp.specs.Called.{IsCalled, OnlyPrinted, IsFull, IsRefused, IsUnstarted, IsUnstartedFull, CallsDevice, MayWrite}
use Rattle.b67_mcp.specs.declared.ends.Stop.{Stop}
use Rattle.b67_mcp.specs.declared.ends.Stop.TheVariants as stops
use Rattle.b67_presence.specs.Bringing.{StandsOver, IsWanted, StandsAgain, Brings, AreasStay, words_wanted}
use Rattle.b67_layout_step.proofs.MoreOtherNumbers.{others_running, RunsOther}
use Rattle.b67_presence.proofs.Others.{others_same, others_then}
use Rattle.b67_session.specs.declared.tries.Tried.{Tried}
use Rattle.b67_session.specs.declared.tries.Tried.TheVariants as tries
use Rattle.b67_session.specs.Tries.{IsWantedByStep, EndsSo, LeavesAreas, TryMeets, TryFits, TryWrites}
use Rattle.b67_session.specs.Attempts.{RunsOver, ForEachOver, StillStands, StandsLacking, StandsShort, HoleFits, LacksRoom, TellsAfter, starts_task, makes_longer, for_task, for_length, EndsWithin, AttemptMeets, Attempts, AttemptFits, IsNotFull, CallKeepsAreas, TablesStay, WantsNothing}
use Rattle.b67_session.specs.Brought.{Stopped, BroughtFits}
use Rattle.b67_session.proofs.Numbers.{code_of_step, same_array}
use Rattle.b67_session.proofs.Tells.{tells_weaker}

abbrev pub Told : Type 0
Told = Option (List (List ℕ))

-- what a storage says after two calls
retold_twice : (d told told' : Told) → (d ≢ None → told ≢ None) → content_after (content_after d told) told' ≡ content_after d told'
retold_twice d told told' h = grind arith

retold_some : (d told : Told) → (d ≢ None → told ≢ None) → d ≢ None → content_after d told ≢ None
retold_some d told h n = grind arith

-- a device that told goes on to tell
pub goes_on_telling : (d told told' : Told) → Says d told → ((all : List (List ℕ)) → told ≡ Some all → (y : List (List ℕ)) × (told' ≡ Some y)) → d ≢ None → told' ≢ None
goes_on_telling d told told' says each n = grind arith

-- the machine after a try that changed nothing
pub unchanged : (x : Storage) (told : Told) (plan : Placement) (s : Session) (old new : Machine) → new ≡ old → MachineRepresents x told old plan s → MachineRepresents x told new plan s
unchanged x told plan s old new same h = let P : Machine → Type 0 = λ k. MachineRepresents x told k plan s in subst P (sym same) h

pub unchanged_over : (x : Storage) (told told' : Told) (plan : Placement) (s : Session) (old new : Machine) → new ≡ old → told' ≡ told → StandsOver x told old plan s → StandsOver x told' new plan s
unchanged_over x told told' plan s old new same tells h = record { says = subst (Says x.device) (sym tells) h.says; stands = unchanged x x.device plan s old new same h.stands }

-- and after one that changed nothing but how much is printed
pub only_printed : (x : Storage) (told : Told) (plan : Placement) (s : Session) (old new : Machine) → OnlyPrinted old new → MachineRepresents x told old plan s → MachineRepresents x told new plan s
only_printed x told plan s old new same h = grind arith

-- where nothing is wanted, a try finds nothing absent
pub never : {K : Type 0} (taken : K → Option (List ℕ)) (told : Told) (count : ℕ) (x : Storage) (plan : Placement) (s : Session) (m : SessionJob) (t : Task) (old new : Machine) (paper paper' : K) (found : What) → WantsNothing x plan m t
    → TryMeets taken told count x plan s m t (Ok (tries.Absent found)) old new paper paper' → ⊥
never taken told count x plan s m t old new paper paper' found h meets = grind arith

-- one try, in the session itself
module _ {B K : Type 0} (holds : B → Told) (taken : K → Option (List ℕ)) (backing backing' : B) (x : Storage) (count : ℕ) (plan : Placement) (s : Session) (m : SessionJob) (t : Task) (o : IsInOrderButCounts s) (runs : IsRunning plan s.jobs m t) (old new : Machine) (h : StandsOver x (holds backing) old plan s) (paper paper' : K) where
  abbrev known : Told
  known = content_after x.device (holds backing')

  abbrev Try : Result Tried Stop → Type 0
  Try answered = TryMeets taken known count x plan s m t answered old new paper paper'

  abbrev Whole : Result Tried Stop → Type 0
  Whole answered = Attempts taken x known (length old.cpu.core) count old.tasks.printed plan s t answered new paper paper'

  at_once : (answered : Result Tried Stop) → AttemptMeets taken known (x.device ≢ None) (length old.cpu.core) count old.tasks.printed plan s m t answered new paper paper' → Whole answered
  at_once answered meets = record { jobs = s.jobs; others = others_same s o; same = λ e. refl; member = m; running = runs; meets = meets }

  -- the device wasn't called
  known_stands : backing' ≡ backing → MachineRepresents x x.device new plan s → MachineRepresents x known new plan s
  known_stands same k = grind arith

  silent : backing' ≡ backing → MachineRepresents x x.device new plan s → StillStands known new plan s
  silent same k = (x, known_stands same k)

  -- what has changed nothing has left everything where it was
  pub still_once : backing' ≡ backing → new ≡ old → MachineRepresents x known new plan s
  still_once quiet same = known_stands quiet (unchanged x x.device plan s old new same h.stands)

  pub made_once : Try (Ok tries.Made) → Whole (Ok tries.Made)
  made_once meets = at_once (Ok tries.Made) meets.0

  pub ends_once : (ending : Ending) → backing' ≡ backing → Try (Ok (tries.Ends ending)) → Whole (Ok (tries.Ends ending))
  ends_once ending quiet meets = at_once (Ok (tries.Ends ending)) (inl meets.0, silent quiet (unchanged x x.device plan s old new meets.1 h.stands), meets.2)

  abbrev refused : IsRefused x known plan s m t old new → need (length old.cpu.core) s m t ≤ length old.cpu.core → StandsLacking (x.device ≢ None) known (length old.cpu.core) new plan s m t
  refused r fits = record { storage = r.storage; stands = r.stands; lacks = λ e. inr (inr (inl r.longer)); room = λ e. inl fits; code = λ e. code_of_step (length old.cpu.core) s m t o.peak_low fits }

  abbrev unstarted : IsUnstarted known plan s m t old new → need (length old.cpu.core) s m t ≤ length old.cpu.core → StandsLacking (x.device ≢ None) known (length old.cpu.core) new plan s m t
  unstarted u fits = record { storage = u.storage; stands = u.stands; lacks = λ e. inr (inr (inr u.starts)); room = λ e. inl fits; code = λ e. code_of_step (length old.cpu.core) s m t o.peak_low fits }

  -- after a RESIZE that was refused nothing is absent that no hole has room for
  full_room : (sum size : ℕ) (f : IsFull x known count plan s m t sum size old new) → LacksRoom f.refused.storage plan m t → ⊥
  full_room sum size f h = grind (arith, same_array)

  full : (sum size : ℕ) → need (length old.cpu.core) s m t ≤ length old.cpu.core → IsFull x known count plan s m t sum size old new ⊎ IsUnstartedFull known count plan s m t sum size old new
      → (size ≡ count) × (count < sum) × StandsShort (x.device ≢ None) known (length old.cpu.core) new plan s m t sum
  full sum size fits (inl f) = (f.size_is, f.exceeds, record { lacking = refused f.refused fits; tells = for_length f.refused.longer (full_room sum size f) f.sum_is; wants = f.wants; free = f.free; short = f.short })
  full sum size fits (inr u) = (u.size_is, u.exceeds, record { lacking = unstarted u.unstarted fits; tells = for_task u.unstarted.starts u.sum_is; wants = u.wants; free = u.free; short = inl u.short })

  pub waits_once : (state : TaskState) → backing' ≡ backing → Try (Ok (tries.Waits state)) → Whole (Ok (tries.Waits state))
  waits_once state quiet meets = at_once (Ok (tries.Waits state)) (meets.0, silent quiet (unchanged x x.device plan s old new meets.1 h.stands), meets.2)

  pub stops_once : (stop : Stop) → ((TryWrites x plan m t (Err stop) → ⊥) → backing' ≡ backing) → TryFits (length old.cpu.core) s m t (Err stop) → Try (Err stop) → Whole (Err stop)
  stops_once stop quiet fits meets = at_once (Err stop) (by stop quiet fits meets) where
    by : (why : Stop) → ((TryWrites x plan m t (Err why) → ⊥) → backing' ≡ backing) → TryFits (length old.cpu.core) s m t (Err why) → Try (Err why)
        → AttemptMeets taken known (x.device ≢ None) (length old.cpu.core) count old.tasks.printed plan s m t (Err why) new paper paper'
    by stops.PrintFault quiet fits meets = (meets.0, silent (quiet (λ w. w)) (only_printed x x.device plan s old new meets.1 h.stands))
    by (stops.NoCore words size) quiet fits meets =
        let w = meets.0 in
        (w.words_is, w.size_is, (let above = w.exceeds in let is = w.words_is in omega (arith, above, is)), silent (quiet (λ w. w)) (unchanged x x.device plan s old new meets.1 h.stands), meets.2)
    by (stops.BackingFull sum size) quiet fits meets = let f = full sum size fits meets.0 in (f.0, f.1, f.2, meets.1)
    by stops.BackingFault quiet fits meets = (⊎_elim (λ (r : IsRefused x known plan s m t old new). refused r fits) (λ (u : IsUnstarted known plan s m t old new). unstarted u fits) meets.0, meets.1)

  -- nothing was wanted where the device tells
  pub gives_up_once : (found : What) → backing' ≡ backing → (x.device ≢ None → WantsNothing x plan m t) → Try (Ok (tries.Absent found)) → Whole (Ok (tries.Ends (Faulted InvalidOperator)))
  gives_up_once found quiet none meets =
      at_once (Ok (tries.Ends (Faulted InvalidOperator))) (inr (λ e. never taken known count x plan s m t old new paper paper' found (none e) meets, refl), silent quiet (unchanged x x.device plan s old new meets.3 h.stands), meets.4)

-- what a try leaves of the tables
module _ {K : Type 0} (taken : K → Option (List ℕ)) (told : Told) (count : ℕ) (x : Storage) (plan : Placement) (s : Session) (m : SessionJob) (t : Task) (old new : Machine) (paper paper' : K) where
  pub tables_after : (answered : Result Tried Stop) → TryMeets taken told count x plan s m t answered old new paper paper' → TablesStay answered old.tasks new.tasks
  tables_after (Ok tries.Made) meets = tt
  tables_after (Ok (tries.Absent found)) meets = ap (λ (k : Machine). k.tasks) meets.3
  tables_after (Ok (tries.Ends ending)) meets = ap (λ (k : Machine). k.tasks) meets.1
  tables_after (Ok (tries.Waits state)) meets = ap (λ (k : Machine). k.tasks) meets.1
  tables_after (Err stop) meets = after_stop stop meets where
    after_stop : (why : Stop) → TryMeets taken told count x plan s m t (Err why) old new paper paper' → TablesStay (Err why) old.tasks new.tasks
    after_stop why meets = grind arith

-- the tables after a stop that isn't the printer's, and after tries that went on from the same tables
pub tables_stay : (stop : Stop) (old new : Tasks) → stop ≢ stops.PrintFault → new ≡ old → TablesStay (Err stop) old new
tables_stay stop old new h same = grind arith

pub tables_from : (answered : Result Tried Stop) (old mid new : Tasks) → mid ≡ old → TablesStay answered mid new → TablesStay answered old new
tables_from answered old mid new same stay = let P : Tasks → Type 0 = λ k. TablesStay answered k new in subst P same stay

-- core has room where a try stopped
pub room_after_stop : (core : ℕ) (x : Storage) (plan : Placement) (s : Session) (m : SessionJob) (t : Task) (stop : Stop) → TryFits core s m t (Err stop) → AttemptFits core x plan s m t (Err stop)
room_after_stop core x plan s m t stop fits = grind arith

-- a stop after which the device may have been written
pub may_call : (x : Storage) (plan : Placement) (m : SessionJob) (t : Task) → MayWrite x plan m t → CallsDevice m t
may_call x plan m t h = grind arith

pub stop_calls : (x : Storage) (plan : Placement) (m : SessionJob) (t : Task) (stop : Stop) → TryWrites x plan m t (Err stop) → CallsDevice m t
stop_calls x plan m t stop w = grind arith

-- equal answers answer the same
pub same_answer : {A E : Type 0} (a b : A) → ◌≡◌ {A = Result A E} (Ok a) (Ok b) → a ≡ b
same_answer a b e = let is : a ≡ b = cc in is

pub same_count : {A E : Type 0} (a b : A) → ◌≡◌ {A = Result (Option A) E} (Ok (Some a)) (Ok (Some b)) → a ≡ b
same_count a b e = let is : a ≡ b = cc in is

pub same_stop : {A E : Type 0} (a b : E) → ◌≡◌ {A = Result A E} (Err a) (Err b) → a ≡ b
same_stop a b e = let is : a ≡ b = cc in is

-- the device of a call that wasn't made
pub still_holds : {D : Type 0} (holds : D → Told) (d d' : D) → d' ≡ d → Becomes holds d d' (λ all. all)
still_holds holds d d' same = record { told = λ all e. ap holds same ∙ e }

pub held_from : {D : Type 0} (holds : D → Told) (d mid d' : D) → mid ≡ d → Becomes holds mid d' (λ all. all) → Becomes holds d d' (λ all. all)
held_from {D} holds d mid d' same b = let P : D → Type 0 = λ z. Becomes holds z d' (λ all. all) in subst P same b

pub held_till : {D : Type 0} (holds : D → Told) (d mid d' : D) → d' ≡ mid → Becomes holds d mid (λ all. all) → Becomes holds d d' (λ all. all)
held_till {D} holds d mid d' same b = let P : D → Type 0 = λ z. Becomes holds d z (λ all. all) in subst P (sym same) b

-- and a stop of a call for too few sectors
pub not_full_as : {A C : Type 0} (stop : Stop) → IsNotFull {A = A} (Err stop) → IsNotFull {A = C} (Err stop)
not_full_as {A} {C} stop none sum size e = none sum size (let is : stop ≡ stops.BackingFull sum size = cc in ap Err is)

-- nor was it made
pub not_made : {A : Type 0} (stop : Stop) (made : A) → ◌≡◌ {A = Result A Stop} (Err stop) (Ok made) → ⊥
not_made stop made e = let b : ⊥ = cc in b

pub not_full_ok : {A : Type 0} (made : A) → IsNotFull (Ok made)
not_full_ok made sum size e = absurd cc

module _ {K : Type 0} (taken : K → Option (List ℕ)) (told : Told) (count : ℕ) (x : Storage) (plan : Placement) (s : Session) (m : SessionJob) (t : Task) (old new : Machine) (paper paper' : K) where
  -- only a step stops so that may call the device
  pub not_full_once : {A : Type 0} (stop : Stop) → TryMeets taken told count x plan s m t (Err stop) old new paper paper' → (CallsDevice m t → ⊥) → IsNotFull {A = A} (Err stop)
  not_full_once (stops.NoCore words size') meets none sum size e = absurd cc
  not_full_once (stops.BackingFull sum' size') meets none sum size e =
      none (⊎_elim (λ (f : IsFull x told count plan s m t sum' size' old new). inl f.refused.longer) (λ (u : IsUnstartedFull told count plan s m t sum' size' old new). inr u.unstarted.starts) meets.0)
  not_full_once stops.BackingFault meets none sum size e = absurd cc
  not_full_once stops.PrintFault meets none sum size e = absurd cc

  -- and it tells the sum after it
  pub tells_once : (stop : Stop) (sum size : ℕ) → TryMeets taken told count x plan s m t (Err stop) old new paper paper' → stop ≡ stops.BackingFull sum size → TellsAfter s m t sum
  tells_once (stops.NoCore words size') sum size meets e = absurd cc
  tells_once (stops.BackingFull sum' size') sum size meets e =
      let same : sum' ≡ sum = cc in
      subst (λ (n : ℕ). TellsAfter s m t n) same
      (⊎_elim (λ (f : IsFull x told count plan s m t sum' size' old new). makes_longer f.refused.longer f.sum_is) (λ (u : IsUnstartedFull told count plan s m t sum' size' old new). starts_task u.unstarted.starts u.sum_is) meets.0)
  tells_once stops.BackingFault sum size meets e = absurd cc
  tells_once stops.PrintFault sum size meets e = absurd cc

-- a hole for the one thing that a step wants is one for what was found absent
pub hole_for : (x : Storage) (plan : Placement) (s : Session) (m : SessionJob) (t : Task) → IsInOrderButCounts s → IsRunning plan s.jobs m t → (found : What) (words : ℕ) → IsWanted x plan m t found words → IsWantedByStep plan m t found words → HoleFits x plan m t
    → HasHole (words_wanted m t found words) x.spans
hole_for x plan s m t o runs found words wanted touched h = grind (arith, same_array)

-- and where what was wanted wasn't brought in
pub room_after_want : (core size : ℕ) (x : Storage) (plan : Placement) (s : Session) (m : SessionJob) (t : Task) (stop : Stop) → size ≡ core → stop ≢ stops.PrintFault → BroughtFits size x plan s m t (Err stop) → AttemptFits core x plan s m t (Err stop)
room_after_want core size x plan s m t stop e h fits = grind arith

-- over a device that tells, a task ends as its step says
pub ends_exact : (exact : Type 0) (m : SessionJob) (t : Task) (ending : Ending) → exact → EndsWithin exact m t ending → EndsSo m t ending
ends_exact exact m t ending tells h = grind arith

-- less is told of a device that tells nothing
module _ {K : Type 0} (taken : K → Option (List ℕ)) (told : Told) (exact other : Type 0) (core count before : ℕ) (plan : Placement) (s : Session) (m : SessionJob) (t : Task) (new : Machine) (paper paper' : K) (f : other → exact) where
  weaker : (answered : Result Tried Stop) → AttemptMeets taken told exact core count before plan s m t answered new paper paper' → AttemptMeets taken told other core count before plan s m t answered new paper paper'
  weaker (Ok tries.Made) meets = meets
  weaker (Ok (tries.Absent found)) meets = meets
  weaker (Ok (tries.Ends ending)) meets = grind arith
  weaker (Ok (tries.Waits state)) meets = meets
  weaker (Err (stops.NoCore words size)) meets = meets
  weaker (Err (stops.BackingFull sum size)) meets =
      let z = meets.2 in
      let y = z.lacking in
      let tells = tells_weaker exact other f y.storage plan s m t sum z.tells in
      (meets.0, meets.1, record { lacking = record { storage = y.storage; stands = y.stands; lacks = λ e. y.lacks (f e); room = λ e. y.room (f e); code = λ e. y.code (f e) }; tells = tells; wants = z.wants; free = z.free; short = z.short }, meets.3)
  weaker (Err stops.BackingFault) meets =
      let y = meets.0 in
      (record { storage = y.storage; stands = y.stands; lacks = λ e. y.lacks (f e); room = λ e. y.room (f e); code = λ e. y.code (f e) }, meets.1)
  weaker (Err stops.PrintFault) meets = meets

-- an attempt that goes on in the session that stands again
module _ {K : Type 0} (taken : K → Option (List ℕ)) (x : Storage) (told told' : Told) (k : Machine) (core count before : ℕ) (plan : Placement) (s : Session) (t : Task) (again : StandsAgain x told k plan s) (tells : x.device ≢ None → told ≢ None) where
  present : x.device ≢ None → again.storage.device ≢ None
  present n = let P : Told → Type 0 = λ d. d ≢ None in subst P (sym again.device) (retold_some x.device told tells n)

  pub retold_same : content_after again.storage.device told' ≡ content_after x.device told'
  retold_same = ap (λ (d : Told). content_after d told') again.device ∙ retold_twice x.device told told' tells

  pub goes_on : (answered : Result Tried Stop) (new : Machine) (paper paper' : K) → Attempts taken again.storage (content_after again.storage.device told') core count before plan (record s { jobs = again.jobs }) t answered new paper paper'
      → Attempts taken x (content_after x.device told') core count before plan s t answered new paper paper'
  goes_on answered new paper paper' a =
      let M : Told → Type 0 = λ d. AttemptMeets taken d (x.device ≢ None) core count before plan (record s { jobs = a.jobs }) a.member t answered new paper paper' in
      record {
        jobs = a.jobs;
        others = others_then s.jobs again.jobs a.jobs again.others a.others;
        same = λ n. a.same (present n) ∙ again.same n;
        member = a.member;
        running = a.running;
        meets = subst M retold_same (weaker taken (content_after again.storage.device told') (again.storage.device ≢ None) (x.device ≢ None) core count before plan (record s { jobs = a.jobs }) a.member t new paper paper' present answered a.meets);
      }

-- a stop is the attempt's
pub stopped_attempt : {K : Type 0} (taken : K → Option (List ℕ)) (x : Storage) (told : Told) (core count before : ℕ) (plan : Placement) (s : Session) (t : Task) (stop : Stop) (new : Machine) (paper : K) → Stopped x told core count plan s t stop new
    → Attempts taken x told core count before plan s t (Err stop) new paper paper
stopped_attempt taken x told core count before plan s t stop new paper a = grind arith

-- the same member where there are the same jobs
pub same_member : (plan : Placement) (s : Session) (jobs : List SessionJob) (m : SessionJob) (t : Task) → IsRunning plan s.jobs m t → (r : RunsOther plan jobs m t) → jobs ≡ s.jobs → r.member ≡ m
same_member plan s jobs m t runs r e = grind arith

-- the machine after something was brought in
module _ (x : Storage) (told : Told) (k : Machine) (plan : Placement) (s : Session) (m : SessionJob) (t : Task) (o : IsInOrderButCounts s) (runs : IsRunning plan s.jobs m t) (found : What) (b : Brings x told k plan s m t found) where
  pub other : RunsOther plan b.again.jobs m t
  other = others_running plan s.jobs b.again.jobs b.again.others m t runs

  pub in_order : IsInOrderButCounts (record s { jobs = b.again.jobs })
  in_order = others_in_order s b.again.jobs b.again.others o

  number_is : other.member.constants.number ≡ m.constants.number
  number_is = ap (λ (z : SessionJob). z.constants.number) other.other.rest

  pub code_there : code_area b.again.storage plan other.member t ≢ None
  code_there = λ e. b.code (ap (λ (j : ℕ). (b.again.storage.held (plan.dictionary j + 1 + t.segment)).area) (sym number_is) ∙ e)

  pub runs_over : t.condition ≡ Ready → RunsOver k told
  runs_over ready = record { storage = b.again.storage; plan = plan; session = record s { jobs = b.again.jobs }; member = other.member; task = t; ordered = in_order; stands = b.again.stands; running = other.runs; ready = ready }

  -- the same member where the device tells
  member_is : b.again.jobs ≡ s.jobs → other.member ≡ m
  member_is e = same_member plan s b.again.jobs m t runs other e

  nothing : (wanted : What) (words : ℕ) → code_area x plan m t ≢ None → IsWanted x plan m t wanted words → IsWantedByStep plan m t wanted words → Brings x told k plan s m t wanted → (c : Brings x told k plan s m t wanted) → WantsNothing c.again.storage plan m t
  nothing (what.Code displacement) words code w touched c d = absurd (code w.1)
  nothing (what.Array home) words code w touched c d = grind arith

  pub then_nothing : (words : ℕ) → HoleFits x plan m t → IsWanted x plan m t found words → IsWantedByStep plan m t found words → AreasStay x b.again.storage → x.device ≢ None → WantsNothing b.again.storage plan other.member t
  then_nothing words fits w touched stay tells = grind (arith, member_is)

  pub no_call : x.device ≢ None → (CallsDevice m t → ⊥) → CallsDevice other.member t → ⊥
  no_call tells none =
      let W : SessionJob → Type 0 = λ z. CallsDevice z t → ⊥ in
      subst W (sym (member_is (b.again.same tells))) none

  pub wants_nothing : (words : ℕ) → code_area x plan m t ≢ None → IsWanted x plan m t found words → IsWantedByStep plan m t found words → b.again.storage.device ≢ None → WantsNothing b.again.storage plan other.member t
  wants_nothing words code w touched n = grind arith

-- what core has room for afterwards it had room for before, where the device tells
module _ (x : Storage) (told : Told) (k : Machine) (plan : Placement) (s : Session) (m : SessionJob) (t : Task) (o : IsInOrderButCounts s) (runs : IsRunning plan s.jobs m t) (found : What) (b : Brings x told k plan s m t found) (n : x.device ≢ None) (tells : x.device ≢ None → told ≢ None) where
  pub still_told : b.again.storage.device ≢ None
  still_told = let P : Told → Type 0 = λ d. d ≢ None in subst P (sym b.again.device) (retold_some x.device told tells n)

  pub same_needs : (size core : ℕ) (answered : Result Tried Stop) → size ≡ core → AttemptFits size b.again.storage plan (record s { jobs = b.again.jobs }) (other x told k plan s m t o runs found b).member t answered → AttemptFits core x plan s m t answered
  same_needs size core answered e fits = grind (arith, member_is)

-- what was held as it was lies in the same area
pub keeps_areas : {K : Type 0} (taken : K → Option (List ℕ)) (x : Storage) (told : Told) (before : ℕ) (plan : Placement) (s : Session) (m : SessionJob) (t : Task) (new : Machine) (paper paper' : K)
    → (c : IsCalled taken paper paper' told s m t before new) × LeavesAreas x c.storage plan c.plan m t c.job → CallKeepsAreas taken x told before plan s m t new paper paper'
keeps_areas taken x told before plan s m t new paper paper' (called, rest) = (
  called,
  λ no_process home some gone other. ap (λ (l : Location). l.area) (rest no_process home gone other),
  λ nothing no_process home none gone other. ap (λ (l : Location). l.area) (rest no_process home gone other) ∙ none,
)

-- where something has a hole, something is wanted
pub hole_wants : (x : Storage) (plan : Placement) (m : SessionJob) (t : Task) → HoleFits x plan m t → WantsNothing x plan m t → ⊥
hole_wants x plan m t h e = grind arith

-- and so it does after what was wanted was brought into a hole
module _ {K : Type 0} (taken : K → Option (List ℕ)) (x : Storage) (told after : Told) (k last : Machine) (before printed : ℕ) (plan : Placement) (s : Session) (m : SessionJob) (t : Task) (o : IsInOrderButCounts s) (runs : IsRunning plan s.jobs m t) (found : What) (b : Brings x told k plan s m t found)
    (n : x.device ≢ None) (tells : x.device ≢ None → told ≢ None) (paper first paper' : K) (same_paper : first ≡ paper) (same_printed : printed ≡ before) (stay : AreasStay x b.again.storage) (some_wanted : WantsNothing x plan m t → ⊥) where
  pub areas_kept : CallKeepsAreas taken b.again.storage (content_after b.again.storage.device after) printed plan (record s { jobs = b.again.jobs }) (other x told k plan s m t o runs found b).member t last first paper'
      → CallKeepsAreas taken x (content_after x.device after) before plan s m t last paper paper'
  areas_kept (called, rest, more) =
      let y = b.again.storage in
      let z = (other x told k plan s m t o runs found b).member in
      let same = b.again.same n in
      let H : Told → Session → SessionJob → ℕ → K → Type 0 = λ d q v count p. CallKeepsAreas taken x d count plan q v t last p paper' in
      let it : H (content_after y.device after) (record s { jobs = b.again.jobs }) z printed first = (
        called,
        λ no_process home some gone elsewhere.
            rest no_process home (λ none. some (sym (stay home some) ∙ none)) gone elsewhere ∙ stay home some,
        λ nothing. absurd (subst (λ (v : SessionJob). WantsNothing x plan v t → ⊥) (sym (member_is x told k plan s m t o runs found b same)) some_wanted nothing),
      ) in
      let there : H (content_after x.device after) (record s { jobs = b.again.jobs }) z printed first = subst (λ (d : Told). H d (record s { jobs = b.again.jobs }) z printed first) (retold_same taken x told after k 0 0 0 plan s t b.again tells) it in
      let mine : H (content_after x.device after) (record s { jobs = b.again.jobs }) m printed first = subst (λ (v : SessionJob). H (content_after x.device after) (record s { jobs = b.again.jobs }) v printed first) (member_is x told k plan s m t o runs found b same) there in
      let here : H (content_after x.device after) s m printed first = subst (λ (js : List SessionJob). H (content_after x.device after) (record s { jobs = js }) m printed first) same mine in
      subst (λ (p : K). H (content_after x.device after) s m before p) same_paper (subst (λ (count : ℕ). H (content_after x.device after) s m count first) same_printed here)

-- at equal numbers and printers
pub attempt_as : {K : Type 0} (taken : K → Option (List ℕ)) (x : Storage) (told told' : Told) (core core' count count' before before' : ℕ) (plan : Placement) (s : Session) (t : Task) (answered : Result Tried Stop) (new : Machine) (paper first paper' : K) → told ≡ told' → core ≡ core' → count ≡ count'
    → before ≡ before' → first ≡ paper → Attempts taken x told core count before plan s t answered new first paper' → Attempts taken x told' core' count' before' plan s t answered new paper paper'
attempt_as {K} taken x told told' core core' count count' before before' plan s t answered new paper first paper' a b c d e h = grind arith

-- the tries after something was brought in
module _ {K : Type 0} (taken : K → Option (List ℕ)) (x : Storage) (told after : Told) (new last : Machine) (core count printed : ℕ) (plan : Placement) (s : Session) (m : SessionJob) (t : Task) (o : IsInOrderButCounts s) (runs : IsRunning plan s.jobs m t) (found : What) (b : Brings x told new plan s m t found) (ready : t.condition ≡ Ready)
    (tells : x.device ≢ None → told ≢ None) (answered : Result Tried Stop) (paper first paper' : K) (same_paper : first ≡ paper) (same_printed : new.tasks.printed ≡ printed) (size many : ℕ) (same_size : size ≡ core) (same_count : many ≡ count) (Premise : Storage → Placement → SessionJob → Task → Type 0) where
  pub then_on : Premise b.again.storage plan (other x told new plan s m t o runs found b).member t
      → ForEachOver new told (λ y p z n u. Premise y p n u → Attempts taken y (content_after y.device after) size many new.tasks.printed p z u answered last first paper')
      → Attempts taken x (content_after x.device after) core count printed plan s t answered last paper paper'
  then_on premise row =
      let y = b.again.storage in
      let z : Session = record s { jobs = b.again.jobs } in
      let r = other x told new plan s m t o runs found b in
      let it : Attempts taken y (content_after y.device after) size many new.tasks.printed plan z t answered last first paper' =
      row y plan z r.member t (in_order x told new plan s m t o runs found b) b.again.stands r.runs ready premise in
      goes_on taken x told after new core count printed plan s t b.again tells answered last paper paper'
      (attempt_as taken y (content_after y.device after) (content_after y.device after) size core many count new.tasks.printed printed plan z t answered last paper first paper' refl same_size same_count same_printed same_paper it)
