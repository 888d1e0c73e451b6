use Rattle.b67_stack.specs.Common.{PagedObject, MachineView, Storage}
use Rattle.b67_layout.specs.Machine.{IsAbsent, DeviceAfterCalls, PagingKeeps}
use Rattle.b67_overlay.specs.Spans.{MachineCanPage}
use Rattle.b67_overlay.proofs.Visits.{left_of}
use Rattle.b67_presence.proofs.Upward.{GaveWay}
use Rattle.b67_presence.proofs.way.evict_upward.Given as goal

abbrev pub invariant-areas : goal.invariant-areas
invariant-areas g l =
    let holds = g.B.Backing.holds in
    record {
      keeps : PagingKeeps l.initial.cpu l.cpu l.initial.areas l.areas l.initial.sectors l.sectors;
      device : DeviceAfterCalls holds g.B.Backing.size g.B.Backing.calls g.B.Backing.faults l.initial.backing l.backing;
      stands : (x : Storage) (p : MachineView) (t : PagedObject) → MachineCanPage x l.initial.cpu l.initial.areas l.initial.sectors (holds l.initial.backing) p → IsAbsent x p l.home t
          → GaveWay x p t l.spare l.next l.initial.cpu l.cpu l.areas l.sectors (holds l.backing);
    }

abbrev pub decreases-areas : goal.decreases-areas
decreases-areas g l = left_of l.next
