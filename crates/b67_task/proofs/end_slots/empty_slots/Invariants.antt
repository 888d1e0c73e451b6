use Rattle.std.proofs.Common.{◌≡◌, ℕ, List, Option, length, drop}
use Rattle.b67_stack.specs.MachineView.{MachineView}
use Rattle.b67_stack.specs.Represents.{Storage}
use Rattle.b67_layout.specs.Machine.{MachineRepresentsView}
use Rattle.b67_task.specs.DeathsInTurn.{Death, MayAllDie, slots_of, all_put_out, Buried}
use Rattle.b67_task.proofs.end_slots.empty_slots.Given as goal

abbrev pub invariant-loop-slot : goal.invariant-loop-slot
invariant-loop-slot l = record {
  rest : l.cpu ≡ record l.initial.cpu { core = l.cpu.core; regs = l.cpu.regs };
  regs : all_put_out l.cpu.regs (drop l.slot-index l.slots) ≡ all_put_out l.initial.cpu.regs l.slots;
  len : length l.cpu.core ≡ length l.initial.cpu.core;
  areas : l.areas ≡ l.initial.areas;
  count : length l.sectors.links ≡ length l.initial.sectors.links;
  stands : (x : Storage) (told : Option (List (List ℕ))) (p : MachineView) (ds : List Death)
      → MachineRepresentsView x l.initial.cpu l.initial.areas l.initial.sectors told p → MayAllDie p l.initial.cpu.core ds → slots_of ds ≡ l.slots
      → (y : Storage) × (q : MachineView) × (done : List Death) × (more : List Death)
      × MachineRepresentsView y l.cpu l.areas l.sectors told q × Buried x y p q l.initial.cpu.core l.cpu.core ds done more
      × (slots_of more ≡ drop l.slot-index l.slots);
}
