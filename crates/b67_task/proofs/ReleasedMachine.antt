-- The machine after an original's array was released.
use Rattle.std.proofs.Common.{ℕ, List, Option, sym, subst}
use Rattle.b67_word.specs.Tagged.{Tagged}
use Rattle.b67_area.specs.declared.Areas.{Areas}
use Rattle.b67_area.specs.Directory.{IsDirectory}
use Rattle.b67_backing.specs.Shelf.{Table, IsShelf}
use Rattle.b67_ctl.specs.declared.descriptors.DataDesc.{DataDesc}
use Rattle.b67_stack.specs.declared.Cpu.{Cpu}
use Rattle.b67_stack.specs.Common.{Location, PagedObject, MachineView, Storage}
use Rattle.b67_layout.specs.Machine.{MachineRepresentsView}
use Rattle.b67_task.specs.Released.{storage_released, without_chain, of_objects, Drops, LocatesArray, Vacated}
use Rattle.b67_task.proofs.Dropped.{Represents-released}

module _ (x : Storage) (cpu : Cpu) (areas : Areas) (table : Table) (told : Option (List (List ℕ))) (p : MachineView) (m : MachineRepresentsView x cpu areas table told p) where
  pub directory_here : IsDirectory cpu.core areas.low x.spans
  directory_here = subst (λ (n : ℕ). IsDirectory cpu.core n x.spans) (sym m.low) m.stands.directory

  pub finds_here : (h : Location) (d : DataDesc) → LocatesArray x.low x.spans h d → LocatesArray areas.low x.spans h d
  finds_here h d f = subst (λ (n : ℕ). LocatesArray n x.spans h d) (sym m.low) f

  pub vacated_here : (o : Option ℕ) (new : List Tagged) → Vacated areas.low o x.spans cpu.core new → Vacated x.low o x.spans cpu.core new
  vacated_here o new v = subst (λ (n : ℕ). Vacated n o x.spans cpu.core new) m.low v

  pub machine_released : (t : PagedObject) (objects : List PagedObject) → Drops p t objects → (core : List Tagged) → Vacated areas.low (x.held t.home).area x.spans cpu.core core
      → (new : Table) → IsShelf new (without_chain (x.held t.home).chain x.shelf) → MachineRepresentsView (storage_released x t) (record cpu { core = core }) areas new told (of_objects p objects)
  machine_released t objects d core v new sh = record {
    stands = Represents-released x cpu.core cpu.regs p m.stands t objects d table m.shelf core (vacated_here (x.held t.home).area core v);
    low = m.low;
    shelf = sh;
    device = m.device;
  }
