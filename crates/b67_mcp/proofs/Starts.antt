-- What a call of PROCESS answers where its task asks for another one.
use Rattle.std.proofs.Common.{◌≡◌, ◌≢◌, ℕ, ◌+◌, ◌-◌, ◌<◌, ◌≤◌, suc, zero, List, [], ◌∷◌, take, length, Option, Some, None, Result, Ok, Err, refl, sym, ◌∙◌, ap, arith, false, Bool, subst}
use Rattle.std.specs.Prelude.{max}
use Rattle.std.proofs.lemmas.Bool.{lt-ltb, le-ltb}
use Rattle.std.proofs.lemmas.List.{length-reverse}
use Rattle.b67_area.specs.declared.Info.{Info}
use Rattle.b67_area.specs.Spans.{area_at}
use Rattle.b67_word.specs.declared.couples.Place.{Place}
use Rattle.b67_word.specs.declared.faults.Fault.{Fault}
use Rattle.b67_backing.specs.declared.SpaceFault.{SpaceFault}
use Rattle.b67_backing.specs.declared.SpaceFault.TheVariants.{NoCore, BackingFull, BackingFault}
use Rattle.b67_lemmas.proofs.Members.{all_from, has_get, keyed_has, length_change}
use Rattle.b67_model.specs.Common.{Word, Operand, Task, Job, SessionJob, Goes, number_of, live_tasks, is_original, answered, process, Session}
use Rattle.b67_layout.specs.Common.{IsInOrderButCounts, Placement, IsRunning, here, with_job, cells, session_moved}
use Rattle.b67_stack.specs.Represents.{Storage}
use Rattle.b67_mcp.specs.Answered.{job_answered}
use Rattle.b67_task.specs.Needing.{need_with}
use Rattle.b67_task.specs.Opening.{IsLowestFree, slot_end}
use Rattle.b67_task.specs.Starts.{MayStart, arguments, child}
use Rattle.b67_task.proofs.Rows.{job_row_of}
use Rattle.b67_task.specs.declared.tables.Machine.{Machine}
use Rattle.b67_task.specs.Tables.{MachineRepresents}
use Rattle.b67_mcp.specs.Asked.{job_started, job_full, answer_by, Asks}
use Rattle.b67_mcp.specs.Begins.{StandsMoved}
use Rattle.b67_mcp.specs.Process.{CanNumber, StartsOne, IsProcessed, StartIsStopped, IsStoppedShort, ProcessMeets, ProcessWrites, ProcessFits}
use Rattle.b67_mcp.proofs.Begins.{slot_inside}

taken_within : {A : Type 0} (xs : List A) (n : ℕ) → length (take n xs) ≤ length xs
taken_within xs zero = omega arith
taken_within [] (suc n) = omega arith
taken_within (y ∷ ys) (suc n) = omega (arith, taken_within ys n)

module _ (plan : Placement) (m : SessionJob) (t : Task) (asked : List Word) (cell count : ℕ) (a : Asks plan m t asked cell count) where
  abbrev pub child_asked : Task
  child_asked = child m t count a.f a.segment a.level a.place

  -- with a task more
  module _ (few : length m.progress.job.tasks < 15) (next : Place) where
    pub goes_started : process (here m t next) asked ≡ Ok (Goes (job_started m t child_asked next) [] None)
    goes_started = a.makes next ∙ ap (λ (b : Bool). answer_by b m t child_asked next) (lt-ltb (length m.progress.job.tasks) 15 few)

    one_more : length (job_started m t child_asked next).tasks ≡ length m.progress.job.tasks + 1
    one_more = length_change (λ (u : Task). u.number) t.number (answered (here m t next) (Operand m.progress.job.next_task ∷ [])) (child_asked ∷ m.progress.job.tasks) ∙ omega arith

    pub starts_one : StartsOne m t next asked
    starts_one = record { job = job_started m t child_asked next; is = goes_started; more = one_more }

    pub processed : (told : Option (List (List ℕ))) (s : Session) (new : Machine) → StandsMoved told s m (job_started m t child_asked next) 1 new → IsProcessed told s m t next asked new
    processed told s new w =
        let job : Job = job_started m t child_asked next in
        let more : length job.tasks - length m.progress.job.tasks ≡ 1 = omega (arith, one_more) in
        record { job = job; is = goes_started; storage = w.storage; plan = w.plan; stands = subst (λ (n : ℕ). MachineRepresents w.storage told new w.plan (session_moved s m job n)) (sym more) w.stands }

  -- with as many as there may be
  module _ (many : 15 ≤ length m.progress.job.tasks) (next : Place) where
    goes_full : process (here m t next) asked ≡ Ok (Goes (job_full m t next) [] None)
    goes_full = a.makes next ∙ ap (λ (b : Bool). answer_by b m t child_asked next) (le-ltb (length m.progress.job.tasks) 15 many)

    as_many : length (job_full m t next).tasks ≡ length m.progress.job.tasks
    as_many = length_change (λ (u : Task). u.number) t.number (answered (here m t next) (Operand 0 ∷ [])) m.progress.job.tasks

    pub starts_none : StartsOne m t next asked → ⊥
    starts_none w = grind (arith, goes_full, as_many)

    pub answered_none : (x : Storage) (told now : Option (List (List ℕ))) (s : Session) (o : IsInOrderButCounts s) (new : Machine) → now ≡ told
        → MachineRepresents x told new plan (with_job s m (job_answered m t (Operand 0) next m.progress.job.numbers)) → IsProcessed now s m t next asked new
    answered_none x told now s o new same stands =
        let job : Job = job_full m t next in
        let none : length job.tasks - length m.progress.job.tasks ≡ 0 = omega (arith, as_many) in
        let peak : s.peak ≡ max s.peak (live_tasks s.jobs + 0) = omega (arith, o.peak_low) in
        grind (arith, goes_full)

-- the task may be started once no area has a word under its slot
module _ (x : Storage) (told : Option (List (List ℕ))) (k : Machine) (plan : Placement) (s : Session) (m : SessionJob) (t : Task) (o : IsInOrderButCounts s) (h : MachineRepresents x told k plan s) (runs : IsRunning plan s.jobs m t)
    (asked : List Word) (cell count : ℕ) (a : Asks plan m t asked cell count) (few : length m.progress.job.tasks < 15) (numbers : CanNumber k.tasks.jobs) where
  pub may_start : (y : Storage) (core slot : ℕ) → IsLowestFree plan slot → need_with s m t 1 0 ≤ core → ((at : ℕ) (i : Info) → area_at y.low y.spans at ≡ Some i → slot_end plan slot < at)
      → MayStart y plan m t core cell count a.f a.segment a.level a.place slot
  may_start y core slot lowest need clear =
      let b = job_row_of k.tasks plan s m o.numbered h.tables (keyed_has number_of m.constants.number s.jobs m runs.member).0 in
      record {
        marked = a.may.marked;
        enough = omega (arith, a.count_is, length-reverse a.words, ap (λ (ws : List Word). length ws) a.copied, taken_within (cells t) count);
        plain = all_from (λ (w : Word). is_original w ≡ false) (arguments t count) a.plain;
        proc = a.proc;
        few = few;
        number = omega (arith, numbers b.row (has_get k.tasks.jobs (m.constants.number - 1) b.row b.at), b.next);
        room = a.room;
        lowest = lowest;
        inside = slot_inside x told k plan s m t o h runs slot core lowest need;
        clear = clear;
      }

-- after a refusal
module _ (told : Option (List (List ℕ))) (plan : Placement) (s : Session) (m : SessionJob) (t : Task) (next : Place) (asked : List Word) (old new : Machine) where
  pub stopped : (fault : SpaceFault) → ((need size : ℕ) → fault ≢ NoCore need size) → StartIsStopped told plan s m t next asked old new → ((wants free : ℕ) → fault ≡ BackingFull wants free → IsStoppedShort told plan s m t next asked wants free old new)
      → ProcessMeets told plan s m t next asked (Err fault) old new
  stopped (NoCore need size) never w full = absurd (never need size refl)
  stopped (BackingFull wants free) never w full = full wants free refl
  stopped BackingFault never w full = w

pub writes : (m : SessionJob) (t : Task) (next : Place) (asked : List Word) (fault : SpaceFault) → ((need size : ℕ) → fault ≢ NoCore need size) → StartsOne m t next asked → ProcessWrites m t next asked (Err fault)
writes m t next asked fault never w = grind arith

pub fits_by : (core : ℕ) (s : Session) (m : SessionJob) (t : Task) (next : Place) (asked : List Word) (fault : SpaceFault) → need_with s m t 1 0 ≤ core → ProcessFits core s m t next asked (Err fault)
fits_by core s m t next asked fault low = grind arith

pub same_fault : (f g : SpaceFault) → ◌≡◌ {A = Result (Result (Unit {0}) Fault) SpaceFault} (Err f) (Err g) → f ≡ g
same_fault f g e = cc
