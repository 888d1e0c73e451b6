use Rattle.std.proofs.Common.{◌≡◌, ◌+◌, ◌∙◌, refl, sym, ap, arith}
use Rattle.std.proofs.lemmas.Bool.{le-leb, lt-leb}
use Rattle.b67_ctl.specs.declared.programs.Pcw.{Pcw}
use Rattle.b67_model.specs.State.{frame}
use Rattle.b67_model.specs.Environment.{level_of_frame}
use Rattle.b67_layout.specs.Meets.{here}
use Rattle.b67_refer.specs.declared.activation.Activation.{Activation}
use Rattle.b67_entry.proofs.Unasked as Unasked
use Rattle.b67_entry.proofs.Unasked.{pcw_there, pcw_fits, level_small}
use Rattle.b67_mcp.proofs.ProcessRows.{not_level, no_room, is_depended_on, all_three}
use Rattle.b67_mcp.proofs.Cells.{sizes}
use Rattle.b67_mcp.proofs.process_asked.admit.Goals as goal

pub enclosure_of-requires : goal.enclosure_of-requires
enclosure_of-requires c =
    let (a, q, f, segment, level, place, e) = c.requires.procedure in
    (a, q, f, segment, level, place, e.procedure)

pub procedure_at-procedure-requires : goal.procedure_at-procedure-requires
procedure_at-procedure-requires c =
    let (a, q, f, segment, level, place, e) = c.requires.procedure in
    let now = c.args.cpu.now in
    (Unasked.pcw now now.regs a q c.args.cell f segment level place e.procedure, pcw_fits now now.regs a q c.args.cell f segment level place e.procedure, pcw_there now now.regs a q c.args.cell f segment level place e.procedure)

pub overflow_add-env : goal.overflow_add-env
overflow_add-env c =
    let (a, q, f, segment, level, place, e) = c.requires.procedure in
    let env = c.enclosure_of.ensures.home a q f segment level place e.procedure in
    let is : c.enclosure_of.result.record.level ≡ level_of_frame (frame (here a.member a.task q) f) = ap (λ (z : Activation). z.level) env in
    omega (arith, is, level_small c.args.cpu.now c.args.cpu.now.regs a q c.args.cell f segment level place e.procedure)

pub is_critical-requires : goal.is_critical-requires
is_critical-requires c =
    let (a, q, f, segment, level, place, e) = c.requires.procedure in
    record { storage = a.storage; plan = a.plan; session = a.session; member = a.member; task = a.task; ordered = e.ordered; stands = e.stands; running = a.running }

pub returns-then-env-procedure : goal.returns-then-env-procedure
returns-then-env-procedure c = record {
  row = λ a q f segment level place e.
      let now = c.args.cpu.now in
      let env = c.enclosure_of.ensures.home a q f segment level place e.procedure in
      let pcw = c.procedure_at-procedure.ensures (Unasked.pcw now now.regs a q c.args.cell f segment level place e.procedure) (pcw_fits now now.regs a q c.args.cell f segment level place e.procedure) (pcw_there now now.regs a q c.args.cell f segment level place e.procedure) in
      let one : c.enclosure_of.result.record.level ≡ level_of_frame (frame (here a.member a.task q) f) = ap (λ (z : Activation). z.level) env in
      let two : c.procedure_at-procedure.result.level ≡ level = ap (λ (z : Pcw). z.level) pcw in
      not_level (here a.member a.task q) f level c.args.count (λ z. c.if-env-procedure.true (omega (arith, one, two, z)));
}

pub returns-then-count-from : goal.returns-then-count-from
returns-then-count-from c = record {
  row = λ a q f segment level place e.
      let now = c.args.cpu.now in
      let env = c.enclosure_of.ensures.home a q f segment level place e.procedure in
      let pcw = c.procedure_at-procedure.ensures (Unasked.pcw now now.regs a q c.args.cell f segment level place e.procedure) (pcw_fits now now.regs a q c.args.cell f segment level place e.procedure) (pcw_there now now.regs a q c.args.cell f segment level place e.procedure) in
      let one : c.enclosure_of.result.record.level ≡ level_of_frame (frame (here a.member a.task q) f) = ap (λ (z : Activation). z.level) env in
      let two : c.procedure_at-procedure.result.level ≡ level = ap (λ (z : Pcw). z.level) pcw in
      let test : level_of_frame (frame (here a.member a.task q) f) + 1 ≡ level = omega (arith, one, two, c.if-env-procedure.false) in
      let size = sizes now a q c.args.cell f segment level place e in
      no_room (here a.member a.task q) f level c.args.count test (lt-leb (3 + c.args.count) a.member.constants.stack_size (omega (arith, c.if-count-from.true, c.from.ensures, size)));
}

pub returns-then-is_critical : goal.returns-then-is_critical
returns-then-is_critical c = record {
  row = λ a q f segment level place e.
      let now = c.args.cpu.now in
      let env = c.enclosure_of.ensures.home a q f segment level place e.procedure in
      let pcw = c.procedure_at-procedure.ensures (Unasked.pcw now now.regs a q c.args.cell f segment level place e.procedure) (pcw_fits now now.regs a q c.args.cell f segment level place e.procedure) (pcw_there now now.regs a q c.args.cell f segment level place e.procedure) in
      let one : c.enclosure_of.result.record.level ≡ level_of_frame (frame (here a.member a.task q) f) = ap (λ (z : Activation). z.level) env in
      let two : c.procedure_at-procedure.result.level ≡ level = ap (λ (z : Pcw). z.level) pcw in
      let test : level_of_frame (frame (here a.member a.task q) f) + 1 ≡ level = omega (arith, one, two, c.if-env-procedure.false) in
      let size = sizes now a q c.args.cell f segment level place e in
      is_depended_on (here a.member a.task q) f level c.args.count test (le-leb (3 + c.args.count) a.member.constants.stack_size (omega (arith, c.if-count-from.false, c.from.ensures, size))) (sym (c.is_critical.ensures a.storage a.plan a.session a.member a.task e.ordered e.stands a.running) ∙ c.if-is_critical.true);
}

pub returns : goal.returns
returns c = record {
  row = λ a q f segment level place e.
      let now = c.args.cpu.now in
      let env = c.enclosure_of.ensures.home a q f segment level place e.procedure in
      let pcw = c.procedure_at-procedure.ensures (Unasked.pcw now now.regs a q c.args.cell f segment level place e.procedure) (pcw_fits now now.regs a q c.args.cell f segment level place e.procedure) (pcw_there now now.regs a q c.args.cell f segment level place e.procedure) in
      let one : c.enclosure_of.result.record.level ≡ level_of_frame (frame (here a.member a.task q) f) = ap (λ (z : Activation). z.level) env in
      let two : c.procedure_at-procedure.result.level ≡ level = ap (λ (z : Pcw). z.level) pcw in
      let test : level_of_frame (frame (here a.member a.task q) f) + 1 ≡ level = omega (arith, one, two, c.if-env-procedure.false) in
      let size = sizes now a q c.args.cell f segment level place e in
      (refl, all_three (here a.member a.task q) f level c.args.count test (le-leb (3 + c.args.count) a.member.constants.stack_size (omega (arith, c.if-count-from.false, c.from.ensures, size))) (sym (c.is_critical.ensures a.storage a.plan a.session a.member a.task e.ordered e.stands a.running) ∙ c.if-is_critical.false));
}
