use Rattle.std.proofs.Common.{◌+◌, ◌-◌, ◌∷◌, refl, arith}
use Rattle.b67_model.specs.Words.{Operand}
use Rattle.b67_model.specs.Arrays.{element as element_of}
use Rattle.b67_exec_cells.proofs.Put.{overflows}
use Rattle.b67_fetch.proofs.Values.{overflow_touching, absent_element, meets_touching}
use Rattle.b67_fetch.proofs.loading.put_element.Goals as goal

pub returns-then-cpu-count-clause-row : goal.returns-then-cpu-count-clause-row
returns-then-cpu-count-clause-row c = λ x plan s m t ordered h runs gone rest n e len plain home el.
    let old = c.args.cpu.now in
    let v = Operand (element_of m.progress.job n c.args.index) in
    (overflow_touching m t c.args.next (v ∷ rest) _ (overflows x old plan s m t ordered h runs c.args.count (old.regs.s - c.args.count + 1) c.args.next gone rest v e len c.requires.cells refl (omega (arith, c.if-cpu-count.true))), refl)

pub returns-in-Some-clause-row : goal.returns-in-Some-clause-row
returns-in-Some-clause-row c = λ x plan s m t ordered h runs gone rest n e len plain home el.
    let old = c.args.cpu.now in
    let v = Operand (element_of m.progress.job n c.args.index) in
    let g = c.in-Some.ensures x plan s m t ordered h runs n home el in
    meets_touching x plan s m t old c.replace_cells.new.cpu c.args.next (v ∷ rest) n (g.0, g.1) c.replace_cells.result
    (c.replace_cells.ensures.row x plan s m t ordered h runs gone rest v e len plain tt (g.2, λ z. omega (arith, z)))

pub returns-in-None-clause-row : goal.returns-in-None-clause-row
returns-in-None-clause-row c = λ x plan s m t ordered h runs gone rest n e len plain home el.
    let old = c.args.cpu.now in
    (absent_element x old plan s m t ordered h runs c.args.count c.args.original c.args.next gone rest n (Operand (element_of m.progress.job n c.args.index)) e len c.requires.cells (omega (arith, c.if-cpu-count.false)) home (c.in-None.ensures x plan s m t ordered h runs n home el), refl)
