-- What the step of a task that starts another needs of core, and the stops of such a step.
use Rattle.std.proofs.Common.{◌≡◌, ◌≢◌, ℕ, ◌+◌, ◌≤◌, ◌<◌, inr, List, [], length, Option, Some, None, Result, Ok, Err, sym, ◌∙◌, arith, subst}
use Rattle.std.specs.Prelude.{if◌then◌else◌}
use Rattle.b67_word.specs.declared.couples.Place.{Place}
use Rattle.b67_word.specs.declared.faults.Fault.{Fault}
use Rattle.b67_area.specs.declared.kinds.Kind.{Kind}
use Rattle.b67_area.specs.declared.kinds.Kind.TheVariants as kind
use Rattle.b67_backing.specs.declared.refusals.SpaceFault.{SpaceFault}
use Rattle.b67_backing.specs.declared.refusals.SpaceFault.TheVariants as space
use Rattle.b67_model.specs.Common.{Word, Task, SessionJob, need, step, sectors, Session}
use Rattle.b67_layout.specs.Machine.{MachineRepresentsView}
use Rattle.b67_layout.proofs.Devices.{says_of}
use Rattle.b67_layout.specs.Common.{IsInOrderButCounts, array_object, machine_view, Placement, IsRunning, area_held}
use Rattle.b67_stack.specs.Common.{PagedObject, Storage, Content, KeptChain}
use Rattle.b67_exec_cells.proofs.Replaced.{array_object-has}
use Rattle.b67_exec_cells.specs.Running.{code_area}
use Rattle.b67_task.specs.Needing.{need_with, StandsOrdered}
use Rattle.b67_task.specs.declared.tables.Machine.{Machine}
use Rattle.b67_task.specs.Tables.{MachineRepresents}
use Rattle.b67_task.specs.Shortage.{IsShortOf}
use Rattle.b67_mcp.proofs.PassedSpans.{short_full}
use Rattle.b67_mcp.specs.Process.{StartsOne, ProcessMeets, ProcessWrites, ProcessFits}
use Rattle.b67_exec_cells.specs.Called.{called_in}
use Rattle.b67_mcp.specs.Called.{StartsTask, CallTouches, CallWrites, CallFits}
use Rattle.b67_mcp.specs.Answers.{SilentMeets, call_end_of}
use Rattle.b67_mcp.specs.Stopping.{StopsFor}
use Rattle.b67_mcp.specs.declared.ends.Stop.{Stop}
use Rattle.b67_mcp.specs.declared.ends.Stop.TheVariants as stops
use Rattle.b67_mcp.proofs.Callings.{Calling}
use Rattle.b67_mcp.proofs.Lengthened.{area_of}
use Rattle.b67_mcp.proofs.Present.{faults_untouched, made_untouched}
use Rattle.b67_mcp.proofs.Space.{has_space}

-- a present object without a chain is an array that may be written
unkept_kind : (y : Storage) (t : PagedObject) (k : Kind) (first : ℕ) → KeptChain y t k first → first ≡ 0 → k ≡ kind.Array
unkept_kind y t k first c e = grind arith

-- a machine that is short of sectors for such an array represents a session that takes more than the device has
short_of : (y : Storage) (told : Option (List (List ℕ))) (k : Machine) (plan : Placement) (s : Session) (wants free count : ℕ) → MachineRepresents y told k plan s → IsShortOf y plan s.jobs wants free → count + 1 ≡ length k.sectors.links → count < sectors s.jobs
short_of y told k plan s wants free count h w links =
    let object : PagedObject = array_object plan w.member.constants.number w.array in
    let there = array_object-has plan s.jobs w.member w.array w.in_session w.among in
    let area = area_of (area_held y plan w.member.constants.number w.array.identity) w.present in
    let view : MachineRepresentsView y k.cpu k.areas k.sectors told (machine_view plan s.jobs) = record { stands = h.session.holds.memory; low = h.storage.low; shelf = h.storage.shelf; device = says_of y.device told h.storage.device } in
    let C : Option ℕ → Type 0 = λ a. Content y k.cpu.core object a (y.held object.home).chain in
    let content = subst C area.1 (view.stands.objects object there).content in
    short_full y k.cpu k.areas k.sectors told plan s wants free count view (record {
      object = object;
      at = area.0;
      present = record { there = there; present = area.1 };
      short = record { kind = unkept_kind y object object.kind (y.held object.home).chain content.1 w.unkept; none = w.unkept; few = omega (arith, w.free_is, w.fewer, w.wants_is) };
      wants_is = w.wants_is;
      free_is = w.free_is;
    }) links

-- a step that starts a task: it needs room for one stack more, and touches nothing
module _ (x : Storage) (told : Option (List (List ℕ))) (k : Machine) (plan : Placement) (s : Session) (m : SessionJob) (t : Task) (o : IsInOrderButCounts s) (h : MachineRepresents x told k plan s) (runs : IsRunning plan s.jobs m t) where
  base_fits : code_area x plan m t ≢ None → need_with s m t 0 0 ≤ length k.cpu.core
  base_fits code = grind (arith, has_space)

  pub need_started : code_area x plan m t ≢ None → StartsTask m t → need (length k.cpu.core) s m t ≡ need_with s m t 1 0
  need_started code a = grind (arith, base_fits)

  -- the machine represents some session where the task wasn't started
  pub process_stands : (next : Place) (arguments : List Word) (after : Option (List (List ℕ))) (new : Machine) (fault : SpaceFault) → ProcessMeets after plan s m t next arguments (Err fault) k new → StandsOrdered new
  process_stands next arguments after new (space.NoCore words size) g = subst StandsOrdered (sym g.1) (record { storage = x; told = told; plan = plan; session = s; ordered = o; stands = h })
  process_stands next arguments after new (space.BackingFull wants free) g = record { storage = g.stopped.storage; told = after; plan = plan; session = s; ordered = o; stands = g.stopped.stands }
  process_stands next arguments after new space.BackingFault g = record { storage = g.storage; told = after; plan = plan; session = s; ordered = o; stands = g.stands }

  -- the call of PROCESS, at the place behind it
  module _ (c : Calling m t 12) where
    starts : StartsOne m t c.next c.arguments → StartsTask m t
    starts a = record { job = a.job; is = c.is ∙ a.is; more = a.more }

    pub process_meets : (after : Option (List (List ℕ))) (count : ℕ) (new : Machine) (done : Result (Unit {0}) Fault) → called_in m t ≡ Some 12 → (new.tasks.printed ≡ k.tasks.printed) → ProcessMeets after plan s m t c.next c.arguments (Ok done) k new → SilentMeets x after count plan s m t (Ok (call_end_of done)) k new
    process_meets after count new (Ok done) called printed g =
        (record { job = g.job; is = c.is ∙ g.is; storage = g.storage; plan = g.plan; stands = g.stands; printed = printed }, λ no_process. absurd (no_process called))
    process_meets after count new (Err fault) called printed g = (c.is ∙ g.0, g.1)

    pub process_stops : (after : Option (List (List ℕ))) (count : ℕ) (new : Machine) (fault : SpaceFault) (stop : Stop) → code_area x plan m t ≢ None → count + 1 ≡ length new.sectors.links → StopsFor new fault stop
        → ProcessMeets after plan s m t c.next c.arguments (Err fault) k new → SilentMeets x after count plan s m t (Err stop) k new
    process_stops after count new (space.NoCore words size) stop code links is g =
        let S : Stop → Type 0 = λ z. SilentMeets x after count plan s m t (Err z) k new in
        let need_is = need_started code (starts g.0.starts) in
        subst S (sym is) (record { starts = starts g.0.starts; words_is = g.0.need_is ∙ sym need_is; size_is = g.0.core_is; exceeds = (let above = g.0.exceeds in let is = g.0.core_is in omega (arith, above, is)) }, g.1)
    process_stops after count new (space.BackingFull wants free) stop code links (sum, size, is, sums, size_is) g =
        let S : Stop → Type 0 = λ z. SilentMeets x after count plan s m t (Err z) k new in
        let w = g.stopped in
        let total = sums w.storage after plan s o w.stands in
        subst S (sym is) (record {
          unstarted = record { starts = starts w.starts; storage = w.storage; stands = w.stands; tables = w.tables };
          wants = wants;
          free = free;
          short = g.short;
          sum_is = total;
          size_is = omega (arith, size_is, links);
          exceeds = (let above = short_of w.storage after new plan s wants free count w.stands g.short links in omega (arith, above, total));
        })
    process_stops after count new space.BackingFault stop code links is g = grind arith

    pub process_touches : (after : Option (List (List ℕ))) (new : Machine) (done : Result (Unit {0}) Fault) → ProcessMeets after plan s m t c.next c.arguments (Ok done) k new → CallTouches x plan m t (Ok (call_end_of done))
    process_touches after new (Ok done) g = made_untouched m t x plan g.job [] (c.is ∙ g.is)
    process_touches after new (Err fault) g = faults_untouched m t x plan 12 (λ e. absurd cc) c fault (c.is ∙ g.0)

    pub stops_touch : (after : Option (List (List ℕ))) (new : Machine) (fault : SpaceFault) (stop : Stop) → StopsFor new fault stop → ProcessMeets after plan s m t c.next c.arguments (Err fault) k new → CallTouches x plan m t (Err stop)
    stops_touch after new fault stop is g = grind arith

    -- where a task is started, core has room
    pub process_fits : (done : Result (Unit {0}) Fault) → code_area x plan m t ≢ None → ProcessFits (length k.cpu.core) s m t c.next c.arguments (Ok done) → CallFits (length k.cpu.core) s m t (Ok (call_end_of done))
    process_fits (Ok done) code fits = λ a.
        (let one : StartsOne m t c.next c.arguments = record { job = a.job; is = sym c.is ∙ a.is; more = a.more } in
        let need_is = need_started code a in
        omega (arith, need_is, fits one))
    process_fits (Err fault) code fits = tt

    pub stops_fit : (new : Machine) (fault : SpaceFault) (stop : Stop) → code_area x plan m t ≢ None → StopsFor new fault stop → ProcessFits (length k.cpu.core) s m t c.next c.arguments (Err fault) → CallFits (length k.cpu.core) s m t (Err stop)
    stops_fit new (space.NoCore words size) stop code is fits = let S : Stop → Type 0 = λ z. CallFits (length k.cpu.core) s m t (Err z) in subst S (sym is) tt
    stops_fit new (space.BackingFull wants free) stop code (sum, size, is, sums, size_is) fits = grind (arith, need_started)
    stops_fit new space.BackingFault stop code is fits = grind (arith, need_started)

    -- the device may have been written only then
    pub process_writes : (done : Result (Unit {0}) Fault) → ProcessWrites m t c.next c.arguments (Ok done) → CallWrites x plan m t (Ok (call_end_of done))
    process_writes (Ok done) w = inr (starts w)
    process_writes (Err fault) w = absurd w

    pub stops_write : (new : Machine) (fault : SpaceFault) (stop : Stop) → StopsFor new fault stop → ProcessWrites m t c.next c.arguments (Err fault) → CallWrites x plan m t (Err stop)
    stops_write new (space.NoCore words size) stop is w = absurd w
    stops_write new (space.BackingFull wants free) stop (sum, size, is, sums, size_is) w = let S : Stop → Type 0 = λ z. CallWrites x plan m t (Err z) in subst S (sym is) (inr (starts w))
    stops_write new space.BackingFault stop is w = let S : Stop → Type 0 = λ z. CallWrites x plan m t (Err z) in subst S (sym is) (inr (starts w))

pub stop_faults : (k : Machine) (fault : SpaceFault) (stop : Stop) → StopsFor k fault stop → stop ≡ stops.BackingFault → fault ≡ space.BackingFault
stop_faults k fault stop is e = grind arith

pub stop_silent : (k : Machine) (fault : SpaceFault) (stop : Stop) → StopsFor k fault stop → stop ≢ stops.PrintFault
stop_silent k fault stop is e = grind arith
