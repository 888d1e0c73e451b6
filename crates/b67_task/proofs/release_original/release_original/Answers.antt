use Rattle.std.proofs.Common.{◌≡◌, ◌⊎◌, ℕ, ◌≤◌, length, sym, subst}
use Rattle.b67_area.specs.declared.Areas.{Areas}
use Rattle.b67_backing.specs.Shelf.{IsShelf, chain_of}
use Rattle.b67_layout.specs.Machine.{MachineRepresentsView}
use Rattle.b67_task.specs.Released.{storage_released, without_chain, of_objects}
use Rattle.b67_task.proofs.Dropped.{has_chain}
use Rattle.b67_task.proofs.ReleasedMachine.{directory_here, finds_here, vacated_here, machine_released}
use Rattle.b67_task.proofs.release_original.release_original.Goals as goal

pub returns-clause-stands : goal.returns-clause-stands
returns-clause-stands c = λ x told p t objects m f d.
    let cpu = c.args.cpu.now in
    let areas = c.args.areas.now in
    let table = c.args.sectors.now in
    let dir = directory_here x cpu areas table told p m in
    let found = finds_here x cpu areas table told p m (x.held t.home) c.args.original f in
    let chain : c.vacate-chain.result ≡ (x.held t.home).chain = c.vacate-chain.ensures.chain x.spans (x.held t.home) dir found in
    let G : ℕ → Type 0 = λ n. IsShelf table x.shelf → (n ≡ 0) ⊎ (1 ≤ length (chain_of n x.shelf.chains)) → IsShelf c.give_chain.new.sectors (without_chain n x.shelf) in
    let shelf = subst G chain (c.give_chain.ensures.row x.shelf) m.shelf (has_chain x cpu.core cpu.regs p m.stands t d.there) in
    let A : Areas → Type 0 = λ a. MachineRepresentsView (storage_released x t) (record cpu { core = c.vacate-chain.new.core }) a c.give_chain.new.sectors told (of_objects p objects) in
    subst A (sym c.vacate-chain.ensures.areas) (machine_released x cpu areas table told p m t objects d c.vacate-chain.new.core
    (c.vacate-chain.ensures.vacated x.spans (x.held t.home) dir found) c.give_chain.new.sectors shelf)

pub returns-clause-below : goal.returns-clause-below
returns-clause-below c = λ x told p t m inp f.
    let cpu = c.args.cpu.now in
    let areas = c.args.areas.now in
    let table = c.args.sectors.now in
    let dir = directory_here x cpu areas table told p m in
    let found = finds_here x cpu areas table told p m (x.held t.home) c.args.original f in
    (vacated_here x cpu areas table told p m (x.held t.home).area c.vacate-chain.new.core (c.vacate-chain.ensures.vacated x.spans (x.held t.home) dir found)).below
