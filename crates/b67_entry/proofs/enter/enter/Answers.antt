use Rattle.std.proofs.Common.{◌≡◌, ◌+◌, refl, sym, ap, arith, subst}
use Rattle.b67_ctl.specs.declared.programs.Pcw.{Pcw}
use Rattle.b67_ctl.specs.declared.marks.Mscw.{Mscw}
use Rattle.b67_ctl.specs.Layout.{IsMscw}
use Rattle.b67_model.specs.State.{frame}
use Rattle.b67_model.specs.Environment.{level_of_frame}
use Rattle.b67_layout.specs.Common.{machine_view, stack_of_task, here}
use Rattle.b67_layout.proofs.Starts.{meets_runs, runs_here}
use Rattle.b67_refer.specs.declared.activation.Activation.{Activation}
use Rattle.b67_entry.proofs.Unasked as Unasked
use Rattle.b67_entry.proofs.Unasked.{pcw_there, pcw_fits, level_small, rooms}
use Rattle.b67_entry.proofs.Called as Called
use Rattle.b67_entry.proofs.Environments.{holds_entered, enters_in}
use Rattle.b67_entry.proofs.enter.enter.Goals as goal

pub procedure_at-procedure-requires : goal.procedure_at-procedure-requires
procedure_at-procedure-requires c =
    let (a, f, segment, level, place, reference, arguments, e, w) = c.requires.procedure in
    (Unasked.pcw c.args.cpu.now c.args.cpu.now.regs a c.args.next c.args.cell f segment level place e.procedure, pcw_fits c.args.cpu.now c.args.cpu.now.regs a c.args.next c.args.cell f segment level place e.procedure, pcw_there c.args.cpu.now c.args.cpu.now.regs a c.args.next c.args.cell f segment level place e.procedure)

pub overflow_add-env : goal.overflow_add-env
overflow_add-env c =
    let (a, f, segment, level, place, reference, arguments, e, w) = c.requires.procedure in
    let env = c.requires.home a f segment level place e in
    let is : c.args.home.record.level ≡ level_of_frame (frame (here a.member a.task c.args.next) f) = ap (λ (z : Activation). z.level) env in
    omega (arith, is, level_small c.args.cpu.now c.args.cpu.now.regs a c.args.next c.args.cell f segment level place e.procedure)

pub top_mark-top-requires : goal.top_mark-top-requires
top_mark-top-requires c =
    let (a, f, segment, level, place, reference, arguments, e, w) = c.requires.procedure in
    meets_runs a.storage c.args.cpu.now a.plan a.session a.member a.task e.stands a.running

pub word-requires : goal.word-requires
word-requires c =
    let (a, f, segment, level, place, reference, arguments, e, w) = c.requires.procedure in
    let env = c.requires.home a f segment level place e in
    let pcw = c.procedure_at-procedure.ensures (Unasked.pcw c.args.cpu.now c.args.cpu.now.regs a c.args.next c.args.cell f segment level place e.procedure) (pcw_fits c.args.cpu.now c.args.cpu.now.regs a c.args.next c.args.cell f segment level place e.procedure) (pcw_there c.args.cpu.now c.args.cpu.now.regs a c.args.next c.args.cell f segment level place e.procedure) in
    let top = c.top_mark-top.ensures a.storage (machine_view a.plan a.session.jobs) (stack_of_task a.plan a.member.constants.number a.member.progress.job a.plan.running a.task) e.stands.holds.memory (runs_here a.storage c.args.cpu.now a.plan a.session a.member a.task e.stands a.running) in
    let mark = Called.mark_is c.args.cpu.now a c.args.next c.requires.next c.args.cell f segment level place reference arguments e w c.args.home.record c.procedure_at-procedure.result c.top_mark-top.result env pcw top c.entered_mark-mark.result c.entered_mark-mark.ensures in
    subst IsMscw (sym mark) (Called.mark_good c.args.cpu.now a c.args.next c.requires.next c.args.cell f segment level place reference arguments e w)

pub word-requires-2 : goal.word-requires-2
word-requires-2 c =
    let (a, f, segment, level, place, reference, arguments, e, w) = c.requires.procedure in
    Called.caller_good c.args.cpu.now a c.args.next c.requires.next c.args.cell f segment level place reference arguments e w

pub set-requires : goal.set-requires
set-requires c =
    let (a, f, segment, level, place, reference, arguments, e, w) = c.requires.procedure in
    let r = rooms c.args.cpu.now c.args.cpu.now.regs a c.args.next c.args.cell f segment level place e.procedure in
    omega (arith, r.top, r.last, r.under, r.inside)

pub overflow_add-cpu : goal.overflow_add-cpu
overflow_add-cpu c =
    let (a, f, segment, level, place, reference, arguments, e, w) = c.requires.procedure in
    let r = rooms c.args.cpu.now c.args.cpu.now.regs a c.args.next c.args.cell f segment level place e.procedure in
    omega (arith, r.top, r.last, r.under, r.inside, r.bound)

pub set-requires-2 : goal.set-requires-2
set-requires-2 c =
    let (a, f, segment, level, place, reference, arguments, e, w) = c.requires.procedure in
    let r = rooms c.args.cpu.now c.args.cpu.now.regs a c.args.next c.args.cell f segment level place e.procedure in
    let t = Called.two_words c.args.cpu.now a c.args.next c.requires.next c.args.cell f segment level place reference arguments e w in
    omega (arith, t.1, r.under, r.inside, c.set.ensures.len)

pub returns-then-env-procedure : goal.returns-then-env-procedure
returns-then-env-procedure c = record {
  row = λ a f segment level place reference arguments e w.
      let env = c.requires.home a f segment level place e in
      let pcw = c.procedure_at-procedure.ensures (Unasked.pcw c.args.cpu.now c.args.cpu.now.regs a c.args.next c.args.cell f segment level place e.procedure) (pcw_fits c.args.cpu.now c.args.cpu.now.regs a c.args.next c.args.cell f segment level place e.procedure) (pcw_there c.args.cpu.now c.args.cpu.now.regs a c.args.next c.args.cell f segment level place e.procedure) in
      let one : c.args.home.record.level ≡ level_of_frame (frame (here a.member a.task c.args.next) f) = ap (λ (z : Activation). z.level) env in
      let two : c.procedure_at-procedure.result.level ≡ level = ap (λ (z : Pcw). z.level) pcw in
      (Called.refused c.args.cpu.now a c.args.next c.requires.next c.args.cell f segment level place reference arguments e w (λ z. c.if-env-procedure.true (omega (arith, one, two, z))), refl);
}

pub begin-requires-clause-run : goal.begin-requires-clause-run
begin-requires-clause-run c =
    let (a, f, segment, level, place, reference, arguments, e, w) = c.requires.procedure in
    let env = c.requires.home a f segment level place e in
    let pcw = c.procedure_at-procedure.ensures (Unasked.pcw c.args.cpu.now c.args.cpu.now.regs a c.args.next c.args.cell f segment level place e.procedure) (pcw_fits c.args.cpu.now c.args.cpu.now.regs a c.args.next c.args.cell f segment level place e.procedure) (pcw_there c.args.cpu.now c.args.cpu.now.regs a c.args.next c.args.cell f segment level place e.procedure) in
    let top = c.top_mark-top.ensures a.storage (machine_view a.plan a.session.jobs) (stack_of_task a.plan a.member.constants.number a.member.progress.job a.plan.running a.task) e.stands.holds.memory (runs_here a.storage c.args.cpu.now a.plan a.session a.member a.task e.stands a.running) in
    let mark = Called.mark_is c.args.cpu.now a c.args.next c.requires.next c.args.cell f segment level place reference arguments e w c.args.home.record c.procedure_at-procedure.result c.top_mark-top.result env pcw top c.entered_mark-mark.result c.entered_mark-mark.ensures in
    let core = Called.core_is c.args.cpu.now a c.args.next c.requires.next c.args.cell f segment level place reference arguments e w c.word.result c.word-2.result c.entered_mark-mark.result c.set.new.self c.set-2.new.self c.set.ensures.value c.word.ensures mark c.set-2.ensures.value c.word-2.ensures in
    let one : c.args.home.record.level ≡ level_of_frame (frame (here a.member a.task c.args.next) f) = ap (λ (z : Activation). z.level) env in
    let two : c.procedure_at-procedure.result.level ≡ level = ap (λ (z : Pcw). z.level) pcw in
    let test : level_of_frame (frame (here a.member a.task c.args.next) f) + 1 ≡ level = omega (arith, one, two, c.if-env-procedure.false) in
    Called.scene_with c.args.cpu.now a c.args.next c.requires.next c.args.cell f segment level place reference arguments e w test c.set-2.new.self c.procedure_at-procedure.result core pcw

pub begin-requires-clause-known : goal.begin-requires-clause-known
begin-requires-clause-known c =
    let (a, f, segment, level, place, reference, arguments, e, w) = c.requires.procedure in
    let two = Called.two_words c.args.cpu.now a c.args.next c.requires.next c.args.cell f segment level place reference arguments e w in
    holds_entered c.args.cpu.now a (e.stands.shows a.member a.task a.running) w.some w.marked two.1 c.set.new.self c.set-2.new.self c.word.result c.word-2.result c.set.ensures.value c.set-2.ensures.value

pub begin-requires-clause-top : goal.begin-requires-clause-top
begin-requires-clause-top c =
    let (a, f, segment, level, place, reference, arguments, e, w) = c.requires.procedure in
    let cpu = c.args.cpu.now in
    let env = c.requires.home a f segment level place e in
    let pcw = c.procedure_at-procedure.ensures (Unasked.pcw cpu cpu.regs a c.args.next c.args.cell f segment level place e.procedure) (pcw_fits cpu cpu.regs a c.args.next c.args.cell f segment level place e.procedure) (pcw_there cpu cpu.regs a c.args.next c.args.cell f segment level place e.procedure) in
    let top = c.top_mark-top.ensures a.storage (machine_view a.plan a.session.jobs) (stack_of_task a.plan a.member.constants.number a.member.progress.job a.plan.running a.task) e.stands.holds.memory (runs_here a.storage cpu a.plan a.session a.member a.task e.stands a.running) in
    let is = Called.mark_is cpu a c.args.next c.requires.next c.args.cell f segment level place reference arguments e w c.args.home.record c.procedure_at-procedure.result c.top_mark-top.result env pcw top c.entered_mark-mark.result c.entered_mark-mark.ensures in
    let good : IsMscw c.entered_mark-mark.result = subst IsMscw (sym is) (Called.mark_good cpu a c.args.next c.requires.next c.args.cell f segment level place reference arguments e w) in
    let one : c.args.home.record.level ≡ level_of_frame (frame (here a.member a.task c.args.next) f) = ap (λ (z : Activation). z.level) env in
    let low = Unasked.level_low cpu cpu.regs a c.args.next c.args.cell f segment level place e.procedure in
    let r = rooms cpu cpu.regs a c.args.next c.args.cell f segment level place e.procedure in (
      c.args.home.record.stack,
      c.args.home.record.disp,
      enters_in cpu.core c.set.new.self c.set-2.new.self (record cpu.regs { level = c.procedure_at-procedure.result.level; segment = c.procedure_at-procedure.result.segment; place = c.procedure_at-procedure.result.place }) (cpu.regs.f + 1)
          c.entered_mark-mark.result c.word.result c.word-2.result c.args.home.record.stack c.args.home.record.disp
          good (omega (arith, r.top, r.last, r.under, r.inside)) (λ z. omega (arith, z)) c.set.ensures.value c.word.ensures c.set-2.ensures.value
          (ap (λ (k : Mscw). k.entered) c.entered_mark-mark.ensures) (ap (λ (k : Mscw). k.env_stack) c.entered_mark-mark.ensures) (ap (λ (k : Mscw). k.env_disp) c.entered_mark-mark.ensures)
          (omega (arith, one, low, c.if-env-procedure.false)),
      sym c.requires.mark,
    )

pub returns : goal.returns
returns c = record {
  row = λ a f segment level place reference arguments e w.
      let env = c.requires.home a f segment level place e in
      let pcw = c.procedure_at-procedure.ensures (Unasked.pcw c.args.cpu.now c.args.cpu.now.regs a c.args.next c.args.cell f segment level place e.procedure) (pcw_fits c.args.cpu.now c.args.cpu.now.regs a c.args.next c.args.cell f segment level place e.procedure) (pcw_there c.args.cpu.now c.args.cpu.now.regs a c.args.next c.args.cell f segment level place e.procedure) in
      let top = c.top_mark-top.ensures a.storage (machine_view a.plan a.session.jobs) (stack_of_task a.plan a.member.constants.number a.member.progress.job a.plan.running a.task) e.stands.holds.memory (runs_here a.storage c.args.cpu.now a.plan a.session a.member a.task e.stands a.running) in
      let mark = Called.mark_is c.args.cpu.now a c.args.next c.requires.next c.args.cell f segment level place reference arguments e w c.args.home.record c.procedure_at-procedure.result c.top_mark-top.result env pcw top c.entered_mark-mark.result c.entered_mark-mark.ensures in
      let core = Called.core_is c.args.cpu.now a c.args.next c.requires.next c.args.cell f segment level place reference arguments e w c.word.result c.word-2.result c.entered_mark-mark.result c.set.new.self c.set-2.new.self c.set.ensures.value c.word.ensures mark c.set-2.ensures.value c.word-2.ensures in
      let one : c.args.home.record.level ≡ level_of_frame (frame (here a.member a.task c.args.next) f) = ap (λ (z : Activation). z.level) env in
      let two : c.procedure_at-procedure.result.level ≡ level = ap (λ (z : Pcw). z.level) pcw in
      let test : level_of_frame (frame (here a.member a.task c.args.next) f) + 1 ≡ level = omega (arith, one, two, c.if-env-procedure.false) in
      Called.done c.args.cpu.now a c.args.next c.requires.next c.args.cell f segment level place reference arguments e w test c.set-2.new.self c.procedure_at-procedure.result c.begin.new.cpu core pcw c.begin.ensures.rest c.begin.ensures.display;
}
