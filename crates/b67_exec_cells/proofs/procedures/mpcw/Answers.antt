use Rattle.std.proofs.Common.{[], refl, ◌+◌, ◌-◌, arith, sym, ◌∙◌, subst}
use Rattle.b67_word.specs.Tagged.{Tagged}
use Rattle.b67_model.specs.Common.{Answer, proc_of, Done}
use Rattle.b67_layout.specs.Common.{Meets, IsWordOf, cells}
use Rattle.b67_exec_cells.proofs.Rows.{marked}
use Rattle.b67_exec_cells.proofs.Dictionaries.{procedure_fits, procedure_row, no_procedure}
use Rattle.b67_exec_cells.proofs.procedures.mpcw.Goals as goal

pub returns-then-not-is_procedure : goal.returns-then-not-is_procedure
returns-then-not-is_procedure c = record {
  row = λ x plan s m t ordered h runs.
      (no_procedure m t c.args.next c.args.bits (sym (c.is_procedure.ensures x plan s m t ordered h runs c.args.next) ∙ c.if-not-is_procedure.true), refl);
}

pub of-requires : goal.of-requires
of-requires c =
    let q = c.requires in
    let e = procedure_fits q.storage q.plan q.member q.task c.args.next c.args.bits 0 (sym (c.is_procedure.ensures q.storage q.plan q.session q.member q.task q.ordered q.stands q.running c.args.next) ∙ c.if-not-is_procedure.false) in
    record { tag = omega arith; bits = omega (arith, e.0) }

pub replace_cells-requires-clause-cells : goal.replace_cells-requires-clause-cells
replace_cells-requires-clause-cells c = marked c.args.cpu.now c.requires

pub returns : goal.returns
returns c = record {
  row = λ x plan s m t ordered h runs.
      let is = sym (c.is_procedure.ensures x plan s m t ordered h runs c.args.next) ∙ c.if-not-is_procedure.false in
      let at = c.args.cpu.now.regs.s - 0 + 1 in
      let F : Tagged → Type 0 = λ v. IsWordOf x plan m t (proc_of c.args.bits) at v in
      let P : Answer Done → Type 0 = λ an. Meets x plan s m c.replace_cells.result c.args.cpu.now c.replace_cells.new.cpu an in
      subst P (sym (procedure_row m t c.args.next c.args.bits is))
      (c.replace_cells.ensures.row x plan s m t ordered h runs [] (cells t) (proc_of c.args.bits) refl refl tt tt (subst F (sym c.of.ensures) (procedure_fits x plan m t c.args.next c.args.bits at is).1));
}
