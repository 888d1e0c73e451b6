use Rattle.std.proofs.Common.{◌≡◌, ℕ, ◌<◌, List, Option, length}
use Rattle.b67_stack.specs.Common.{PagedObject, MachineView, Storage}
use Rattle.b67_layout.specs.Machine.{MachineRepresentsView}
use Rattle.b67_layout.specs.Session.{with_objects}
use Rattle.b67_task.specs.Released.{HasHome, AreLeft, SomeRemain}
use Rattle.b67_task.proofs.release_words.release_words.Given as goal

abbrev pub invariant-loop-at : goal.invariant-loop-at
invariant-loop-at l = record {
  rest : l.cpu ≡ record l.initial.cpu { core = l.cpu.core };
  len : length l.cpu.core ≡ length l.initial.cpu.core;
  areas : l.areas ≡ l.initial.areas;
  count : length l.sectors.links ≡ length l.initial.sectors.links;
  stands : (x : Storage) (told : Option (List (List ℕ))) (p : MachineView) (left : List PagedObject)
      → MachineRepresentsView x l.initial.cpu l.initial.areas l.initial.sectors told (with_objects left p) → AreLeft p l.initial.cpu.core l.from l.upto left
      → (y : Storage) × (rest : List PagedObject) × MachineRepresentsView y l.cpu l.areas l.sectors told (with_objects rest p)
      × SomeRemain (λ home. (home < l.at) × HasHome left home) x y p l.initial.cpu.core l.cpu.core l.at l.upto left rest;
}
