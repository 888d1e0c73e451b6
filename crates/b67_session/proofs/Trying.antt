-- What one try answers, from what the operator or the intrinsic answered.
use Rattle.std.proofs.Common.{◌≡◌, ◌≢◌, ℕ, List, [], ◌++◌, length, take, Option, Some, None, Ok, Err, refl, sym, ◌∙◌, ap, subst, arith}
use Rattle.std.proofs.lemmas.List.{append-nil}
use Rattle.b67_word.specs.declared.faults.Fault.{Fault}
use Rattle.b67_model.specs.Common.{Task, SessionJob, Leaves, step, Session}
use Rattle.b67_layout.specs.Common.{IsInOrderButCounts, Placement, IsRunning, FindsAbsent}
use Rattle.b67_stack.specs.declared.What.{What}
use Rattle.b67_stack.specs.declared.What.TheVariants as what
use Rattle.b67_stack.specs.declared.Step.TheVariants as answers
use Rattle.b67_stack.specs.Represents.{Storage}
use Rattle.b67_exec_cells.specs.Running.{code_area}
use Rattle.b67_exec_cells.specs.Called.{called_in}
use Rattle.b67_task.specs.declared.tables.Machine.{Machine}
use Rattle.b67_task.specs.declared.tables.Tasks.{Tasks}
use Rattle.b67_layout_step.proofs.Laws.{touches_arrays}
use Rattle.b67_session.specs.Makes.{OperatorMade, CallsOrMakes, MakesAt}
use Rattle.b67_mcp.specs.declared.ends.Stop.{Stop}
use Rattle.b67_mcp.specs.Called.{IsCalled, StaysInPlace, TouchesAbsent, CallMeets, CallWrites}
use Rattle.b67_presence.specs.Bringing.{IsWanted}
use Rattle.b67_session.specs.Tries.{IsWantedByStep, LeavesAreas, TryMeets, TryWrites}
use Rattle.b67_mcp.proofs.Still.{stands_peak}
use Rattle.b67_session.proofs.Still.{operator_many}
use Rattle.b67_lemmas.proofs.Members.{keyed_has}

-- what is wanted, and that the step touches it, where nothing has changed
abbrev pub Wants : Storage → Placement → SessionJob → Task → What → Machine → Machine → Type 0
Wants x plan m t found old new = (words : ℕ) × IsWanted x plan m t found words × IsWantedByStep plan m t found words × (new ≡ old)

pub wants_array : (x : Storage) (plan : Placement) (m : SessionJob) (t : Task) (found : What) (old new : Machine) → code_area x plan m t ≢ None → TouchesAbsent x plan m t found → new ≡ old → Wants x plan m t found old new
wants_array x plan m t found old new code a same =
    let W : What → Type 0 = λ f. Wants x plan m t f old new in
    let it : Wants x plan m t (what.Array (plan.home m.constants.number a.array.identity)) old new = (
      length a.array.numbers,
      record { array = a.array; among = a.among; home_is = refl; absent = a.absent; words_are = refl; code = code },
      (a.array, a.among, refl, a.touched, refl),
      same,
    ) in
    subst W (sym a.named) it

module _ (x : Storage) (told : Option (List (List ℕ))) (plan : Placement) (s : Session) (m : SessionJob) (t : Task) (old new : Machine) where
  pub was_made : (area : Option ℕ) → MakesAt x told plan s m t answers.Done old new area → OperatorMade x told plan s m t old new
  was_made None h = let e = h.0 in absurd cc
  was_made (Some at) h = by (called_in m t) h where
    by : (called : Option ℕ) → CallsOrMakes x told plan s m t answers.Done old new called → OperatorMade x told plan s m t old new
    by (Some n) h = let e = h.0 in absurd cc
    by None h = h

  pub was_fault : (fault : Fault) (area : Option ℕ) → MakesAt x told plan s m t (answers.Fault fault) old new area → (step m.constants m.progress.job t ≡ Err fault) × (new ≡ old)
  was_fault fault None h = let e = h.0 in absurd cc
  was_fault fault (Some at) h = by (called_in m t) h where
    by : (called : Option ℕ) → CallsOrMakes x told plan s m t (answers.Fault fault) old new called → (step m.constants m.progress.job t ≡ Err fault) × (new ≡ old)
    by (Some n) h = let e = h.0 in absurd cc
    by None h = h

  pub was_ended : (area : Option ℕ) → MakesAt x told plan s m t answers.Ended old new area → (step m.constants m.progress.job t ≡ Ok Leaves) × (new ≡ old)
  was_ended None h = let e = h.0 in absurd cc
  was_ended (Some at) h = by (called_in m t) h where
    by : (called : Option ℕ) → CallsOrMakes x told plan s m t answers.Ended old new called → (step m.constants m.progress.job t ≡ Ok Leaves) × (new ≡ old)
    by (Some n) h = let e = h.0 in absurd cc
    by None h = h

  pub was_call : (n : ℕ) (area : Option ℕ) → code_area x plan m t ≡ area → MakesAt x told plan s m t (answers.Call n) old new area → (code_area x plan m t ≢ None) × (called_in m t ≡ Some n) × (new ≡ old)
  was_call n None is h = let e = h.0 in absurd cc
  was_call n (Some at) is h = by (called_in m t) refl h where
    by : (called : Option ℕ) → called_in m t ≡ called → CallsOrMakes x told plan s m t (answers.Call n) old new called → (code_area x plan m t ≢ None) × (called_in m t ≡ Some n) × (new ≡ old)
    by (Some k) at_k h = (λ none. (let e : None ≡ Some at = sym none ∙ is in absurd cc), (let e = h.0 in cc), h.1)
    by None at_k h = absurd h

  module _ (o : IsInOrderButCounts s) (runs : IsRunning plan s.jobs m t) where
    touches : (found : What) → FindsAbsent x plan m found (step m.constants m.progress.job t) → TouchesAbsent x plan m t found
    touches found a = grind (arith, touches_arrays, keyed_has)

    pub was_absent : (found : What) (area : Option ℕ) → code_area x plan m t ≡ area → MakesAt x told plan s m t (answers.Absent found) old new area → Wants x plan m t found old new
    was_absent found None is h = grind arith
    was_absent found (Some at) is h = by (called_in m t) h where
      by : (called : Option ℕ) → CallsOrMakes x told plan s m t (answers.Absent found) old new called → Wants x plan m t found old new
      by (Some n) h = let e = h.0 in absurd cc
      by None h = wants_array x plan m t found old new (λ none. (let e : None ≡ Some at = sym none ∙ is in absurd cc)) (touches found h.0) h.1

-- an operator prints nothing
nothing_left : (n : ℕ) → take {A = ℕ} n [] ++ [] ≡ []
nothing_left n = grind arith

pub called_made : {K : Type 0} (taken : K → Option (List ℕ)) (paper : K) (x : Storage) (told : Option (List (List ℕ))) (plan : Placement) (s : Session) (m : SessionJob) (t : Task) (old new : Machine) → IsInOrderButCounts s → IsRunning plan s.jobs m t → called_in m t ≡ None → new.tasks ≡ old.tasks
    → OperatorMade x told plan s m t old new → (c : IsCalled taken paper paper told s m t old.tasks.printed new) × LeavesAreas x c.storage plan c.plan m t c.job
called_made taken paper x told plan s m t old new o runs none tables h = (
  record {
    job = h.job;
    printed = [];
    touched = h.touched;
    is = h.is;
    storage = h.storage;
    plan = plan;
    stands = stands_peak h.storage told new plan s m h.job o.peak_low (operator_many m t runs.task none h.job [] h.touched h.is) h.stands;
    text = record { rest = []; took = record { told = λ before e. e ∙ ap Some (sym (append-nil before)) }; same = nothing_left old.tasks.printed };
    reset = ap (λ (k : Tasks). k.printed) tables;
  },
  λ no_process home gone other. h.released.others home gone,
)

-- an intrinsic's call is the try's
pub called_so : {K : Type 0} (taken : K → Option (List ℕ)) (x : Storage) (told : Option (List (List ℕ))) (plan : Placement) (s : Session) (m : SessionJob) (t : Task) (first old new : Machine) (paper paper' : K) → old ≡ first
    → (c : IsCalled taken paper paper' told s m t old.tasks.printed new) × StaysInPlace x c.storage plan c.plan m t c.job
    → (c : IsCalled taken paper paper' told s m t first.tasks.printed new) × LeavesAreas x c.storage plan c.plan m t c.job
called_so taken x told plan s m t first old new paper paper' same (called, rest) =
    let P : Machine → Type 0 = λ k. (c : IsCalled taken paper paper' told s m t k.tasks.printed new) × LeavesAreas x c.storage plan c.plan m t c.job in
    subst P same (called, λ no_process home gone other. rest no_process home other)

-- an intrinsic's stop is the try's
pub stops_so : {K : Type 0} (taken : K → Option (List ℕ)) (told : Option (List (List ℕ))) (count : ℕ) (x : Storage) (plan : Placement) (s : Session) (m : SessionJob) (t : Task) (n : ℕ) (stop : Stop) (first old new : Machine) (paper paper' : K) → called_in m t ≡ Some n → old ≡ first
    → CallMeets taken told count x plan s m t (Err stop) old new paper paper' → TryMeets taken told count x plan s m t (Err stop) first new paper paper'
stops_so taken told count x plan s m t n stop first old new paper paper' called same h = grind arith

pub writes_so : (x : Storage) (plan : Placement) (m : SessionJob) (t : Task) (stop : Stop) → CallWrites x plan m t (Err stop) → TryWrites x plan m t (Err stop)
writes_so x plan m t stop w = grind arith
