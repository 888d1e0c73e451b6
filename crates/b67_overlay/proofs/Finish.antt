-- The machine after an overlay.
use Rattle.std.proofs.Common.{◌≡◌, ◌≢◌, ℕ, List, length, Option, Some, ◌∙◌, subst}
use Rattle.b67_word.specs.Tagged.{Tagged}
use Rattle.b67_area.specs.declared.Areas.{Areas}
use Rattle.b67_area.specs.declared.Kind.TheVariants.{Array}
use Rattle.b67_backing.specs.Shelf.{Table, IsShelf}
use Rattle.b67_stack.specs.declared.Cpu.{Cpu}
use Rattle.b67_stack.specs.Common.{PagedObject, MachineView, Storage, Represents, LowWordsStayed}
use Rattle.b67_layout.specs.Machine.{IsPresent}
use Rattle.b67_overlay.specs.Spans.{MachineCanPage}
use Rattle.b67_overlay.specs.Overlaid.{shelf_out, overlaid, dropped, retelling}
use Rattle.b67_overlay.proofs.Chains.{Says-retold}
use Rattle.b67_overlay.proofs.Copies.{copies_stay}
use Rattle.b67_overlay.proofs.Sectors.{overlaid_clean}

pub clean_machine : (x : Storage) (cpu : Cpu) (areas after : Areas) (table : Table) (told : Option (List (List ℕ))) (p : MachineView) (area : ℕ) (t : PagedObject) → MachineCanPage x cpu areas table told p → IsPresent x p area t → t.kind ≢ Array
    → after.low ≡ areas.low → (core : List Tagged) → LowWordsStayed p cpu.core core → Represents (dropped x x t area (x.held t.home).chain) core cpu.regs p → MachineCanPage (overlaid x t area told) (record cpu { core = core }) after table told p
clean_machine x cpu areas after table told p area t m at no_array low core stayed s =
    let it : MachineCanPage (dropped x x t area (x.held t.home).chain) (record cpu { core = core }) after table told p = record { stands = s; low = low ∙ m.low; shelf = m.shelf; device = m.device; copies = copies_stay x cpu.core cpu.regs p m.stands core stayed m.copies } in
    let P : Storage → Type 0 = λ y. MachineCanPage y (record cpu { core = core }) after table told p in
    subst P (overlaid_clean x cpu.core cpu.regs p m.stands area t at told m.device no_array) it

pub overlaid_machine : (x : Storage) (cpu : Cpu) (areas after : Areas) (table new_table : Table) (told new : Option (List (List ℕ))) (p : MachineView) (area : ℕ) (t : PagedObject) → MachineCanPage x cpu areas table told p → after.low ≡ areas.low
    → IsShelf new_table (shelf_out x.shelf (x.held t.home).chain (length t.numbers)) → ((all : List (List ℕ)) → told ≡ Some all → (y : List (List ℕ)) × (new ≡ Some y))
    → (core : List Tagged) → LowWordsStayed p cpu.core core → Represents (overlaid x t area new) core cpu.regs p → MachineCanPage (overlaid x t area new) (record cpu { core = core }) after new_table new p
overlaid_machine x cpu areas after table new_table told new p area t m low shelf f core stayed s = record { stands = s; low = low ∙ m.low; shelf = shelf; device = Says-retold x.device told new m.device f; copies = copies_stay x cpu.core cpu.regs p m.stands core stayed m.copies }

pub retold_machine : (x : Storage) (cpu : Cpu) (areas after : Areas) (table new_table : Table) (told new : Option (List (List ℕ))) (p : MachineView) → MachineCanPage x cpu areas table told p → after.low ≡ areas.low
    → IsShelf new_table x.shelf → ((all : List (List ℕ)) → told ≡ Some all → (y : List (List ℕ)) × (new ≡ Some y))
    → Represents (retelling x new) cpu.core cpu.regs p → MachineCanPage (retelling x new) cpu after new_table new p
retold_machine x cpu areas after table new_table told new p m low shelf f s = record { stands = s; low = low ∙ m.low; shelf = shelf; device = Says-retold x.device told new m.device f; copies = m.copies }
