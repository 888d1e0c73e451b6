use Rattle.std.proofs.Common.{◌+◌, ◌-◌, arith, refl, sym, subst, List, ◌∷◌, None}
use Rattle.b67_word.specs.Tagged.{Tagged}
use Rattle.b67_model.specs.Steps.{leaves_cells}
use Rattle.b67_layout.specs.Meets.{here, IsMade}
use Rattle.b67_stack.specs.declared.Cpu.{Cpu}
use Rattle.b67_exec_cells.proofs.Put.{room, replaced}
use Rattle.b67_exec_cells.proofs.cells.put_over.Goals as goal

pub overflow_add-at : goal.overflow_add-at
overflow_add-at c = let q = c.requires.runs in let r = room q.storage c.args.cpu.now q.plan q.session q.member q.task q.ordered q.stands q.running in omega (arith, r.last, r.under, r.inside, r.bound)

pub set-requires : goal.set-requires
set-requires c = let q = c.requires.runs in let r = room q.storage c.args.cpu.now q.plan q.session q.member q.task q.ordered q.stands q.running in omega (arith, r.last, r.under, r.inside, r.bound, c.requires.some, c.requires.cells)

pub returns-clause-row : goal.returns-clause-row
returns-clause-row c = λ x plan s m t ordered h runs gone rest v e n plain may fit.
    let old = c.args.cpu.now in
    let at = old.regs.s - c.args.count + 1 in
    let r = room x old plan s m t ordered h runs in
    let P : List Tagged → Type 0 = λ core. IsMade x plan s m old (record old { core = core; regs = record old.regs { s = at; place = c.args.next } }) (leaves_cells (here m t c.args.next) (v ∷ rest) None) in
    let R : Cpu → Type 0 = λ now. IsMade x plan s m old now (leaves_cells (here m t c.args.next) (v ∷ rest) None) in
    subst R (sym c.go_on_at.ensures) (subst P (sym c.set.ensures.value) (replaced x old plan s m t ordered h runs c.args.count at c.args.w c.args.next gone rest v e n c.requires.cells refl (omega (arith, r.last, c.requires.some, c.requires.cells)) plain may fit))

pub returns-clause-stays : goal.returns-clause-stays
returns-clause-stays c = λ e. rw c.go_on_at.ensures (record { dict = refl; segment = refl; place = refl })
