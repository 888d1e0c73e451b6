use Rattle.std.proofs.Common.{◌+◌, ap, arith, sym, ◌∙◌}
use Rattle.std.specs.List.{slice_get}
use Rattle.std.proofs.lemmas.Option.{same_Some}
use Rattle.b67_exec_cells.specs.Running.{code_desc}
use Rattle.b67_exec_cells.proofs.Codes.{word-is, at-small, bound, desc-fits}
use Rattle.b67_exec_cells.proofs.code.descriptor.Goals as goal

pub overflow_add-at : goal.overflow_add-at
overflow_add-at c =
    let q = c.requires in
    let i = at-small q.storage c.args.cpu.now q.plan q.session q.member q.task q.ordered q.stands q.running in
    let b = bound q.storage c.args.cpu.now q.plan q.session q.member q.task q.ordered q.stands q.running in
    omega (arith, i, b, c.from.ensures)

pub get-requires : goal.get-requires
get-requires c =
    let q = c.requires in
    let i = at-small q.storage c.args.cpu.now q.plan q.session q.member q.task q.ordered q.stands q.running in
    omega (arith, i, c.from.ensures)

pub returns : goal.returns
returns c = λ x plan s m t ordered h runs.
    let cpu = c.args.cpu.now in
    let w = word-is x cpu plan s m t ordered h runs in
    c.read.ensures (code_desc x plan m t) (desc-fits x cpu plan s m t ordered h runs) (same_Some _ _ (sym c.get.ensures ∙ ap (λ n. slice_get cpu.core (cpu.regs.dict + n)) c.from.ensures ∙ w))
