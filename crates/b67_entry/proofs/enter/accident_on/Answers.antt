use Rattle.std.proofs.Common.{◌≡◌, ◌≢◌, ℕ, ◌+◌, ◌<◌, ◌≤◌, List, refl, sym, ◌∙◌, ap, arith, slice_set, subst}
use Rattle.std.specs.List.{slice_get}
use Rattle.b67_word.specs.Tagged.{Tagged}
use Rattle.b67_core.proofs.Writes.{slice_get-set_other}
use Rattle.b67_ctl.specs.declared.programs.Pcw.{Pcw}
use Rattle.b67_ctl.specs.declared.marks.Mscw.{Mscw}
use Rattle.b67_ctl.specs.Layout.{IsMscw}
use Rattle.b67_model.specs.State.{frame}
use Rattle.b67_model.specs.Environment.{level_of_frame}
use Rattle.b67_stack.specs.declared.Cpu.{Cpu}
use Rattle.b67_layout.specs.Meets.{here}
use Rattle.b67_refer.specs.declared.activation.Activation.{Activation}
use Rattle.b67_refer.proofs.Displays.{holds_on}
use Rattle.b67_entry.proofs.Environments.{enters_in}
use Rattle.b67_entry.proofs.Unasked as Unasked
use Rattle.b67_entry.proofs.Unasked.{pcw_there, pcw_fits, level_small, rooms, same_regs}
use Rattle.b67_ctl.specs.declared.registers.Regs.{Regs}
use Rattle.b67_refer.specs.RunningContext.{RunningContext, IsShown}
use Rattle.b67_refer.specs.Displays.{EntersOver}
use Rattle.b67_entry.proofs.Stops.{not_done}
use Rattle.b67_entry.proofs.enter.accident_on.Goals as goal

-- two words were written over a top: the others stay
others : (s : ℕ) (core one two : List Tagged) (v w : Tagged) → one ≡ slice_set core (s + 1) v → two ≡ slice_set one (s + 2) w → (i : ℕ) → i ≢ s + 1 → i ≢ s + 2 → slice_get two i ≡ slice_get core i
others s core one two v w e1 e2 i a b =
    ap (λ (k : List Tagged). slice_get k i) e2 ∙ slice_get-set_other one (s + 2) i w b ∙ ap (λ (k : List Tagged). slice_get k i) e1 ∙ slice_get-set_other core (s + 1) i v a

-- so do those above them
over : (s : ℕ) (core one two : List Tagged) (v w : Tagged) → one ≡ slice_set core (s + 1) v → two ≡ slice_set one (s + 2) w → (i : ℕ) → s + 2 < i → slice_get two i ≡ slice_get core i
over s core one two v w e1 e2 i low = others s core one two v w e1 e2 i (λ z. omega (arith, z, low)) (λ z. omega (arith, z, low))

pub procedure_at-procedure-requires : goal.procedure_at-procedure-requires
procedure_at-procedure-requires c =
    let (a, q, f, segment, level, place, e) = c.requires.procedure in
    (Unasked.pcw c.args.cpu.now c.args.regs a q c.args.cell f segment level place e.procedure, pcw_fits c.args.cpu.now c.args.regs a q c.args.cell f segment level place e.procedure, pcw_there c.args.cpu.now c.args.regs a q c.args.cell f segment level place e.procedure)

pub overflow_add-env : goal.overflow_add-env
overflow_add-env c =
    let (a, q, f, segment, level, place, e) = c.requires.procedure in
    let env = c.enclosure_of-home.ensures.home a q f segment level place e.procedure in
    let is : c.enclosure_of-home.result.record.level ≡ level_of_frame (frame (here a.member a.task q) f) = ap (λ (z : Activation). z.level) env in
    omega (arith, is, level_small c.args.cpu.now c.args.regs a q c.args.cell f segment level place e.procedure)

pub overflow_sub-regs : goal.overflow_sub-regs
overflow_sub-regs c = let (a, q, f, segment, level, place, e) = c.requires.procedure in (rooms c.args.cpu.now c.args.regs a q c.args.cell f segment level place e.procedure).last

pub overflow_sub-distance : goal.overflow_sub-distance
overflow_sub-distance c = let (a, q, f, segment, level, place, e) = c.requires.procedure in let r = rooms c.args.cpu.now c.args.regs a q c.args.cell f segment level place e.procedure in omega (arith, r.top)

pub overflow_cast-distance : goal.overflow_cast-distance
overflow_cast-distance c =
    let (a, q, f, segment, level, place, e) = c.requires.procedure in
    let m = Unasked.mark_good c.args.cpu.now c.args.regs a q c.args.cell f segment level place e.procedure c.args.value c.args.back c.requires.back in
    omega (arith, m.back)

pub set-requires : goal.set-requires
set-requires c = let (a, q, f, segment, level, place, e) = c.requires.procedure in let r = rooms c.args.cpu.now c.args.regs a q c.args.cell f segment level place e.procedure in omega (arith, r.last, r.under, r.inside, c.if-regs-lt2.false)

pub set-requires-2 : goal.set-requires-2
set-requires-2 c = let (a, q, f, segment, level, place, e) = c.requires.procedure in let r = rooms c.args.cpu.now c.args.regs a q c.args.cell f segment level place e.procedure in omega (arith, r.last, r.under, r.inside, c.if-regs-lt2.false, c.set.ensures.len)

pub word-requires : goal.word-requires
word-requires c =
    let (a, q, f, segment, level, place, e) = c.requires.procedure in
    let env = c.enclosure_of-home.ensures.home a q f segment level place e.procedure in
    let pcw = c.procedure_at-procedure.ensures (Unasked.pcw c.args.cpu.now c.args.regs a q c.args.cell f segment level place e.procedure) (pcw_fits c.args.cpu.now c.args.regs a q c.args.cell f segment level place e.procedure) (pcw_there c.args.cpu.now c.args.regs a q c.args.cell f segment level place e.procedure) in
    subst IsMscw (sym (Unasked.mark_is c.args.cpu.now c.args.regs a q c.args.cell f segment level place e.procedure c.args.value c.args.back c.requires.back c.enclosure_of-home.result.record c.procedure_at-procedure.result env pcw c.entered_mark-mark.result c.entered_mark-mark.ensures))
    (Unasked.mark_good c.args.cpu.now c.args.regs a q c.args.cell f segment level place e.procedure c.args.value c.args.back c.requires.back)

pub word-requires-2 : goal.word-requires-2
word-requires-2 c = let (a, q, f, segment, level, place, e) = c.requires.procedure in Unasked.caller_good c.args.cpu.now c.args.regs a q c.args.cell f segment level place e.procedure c.args.value c.args.back c.requires.back

pub returns-then-env-procedure : goal.returns-then-env-procedure
returns-then-env-procedure c = record {
  row = λ a q f segment level place e.
      let env = c.enclosure_of-home.ensures.home a q f segment level place e.procedure in
      let pcw = c.procedure_at-procedure.ensures (Unasked.pcw c.args.cpu.now c.args.regs a q c.args.cell f segment level place e.procedure) (pcw_fits c.args.cpu.now c.args.regs a q c.args.cell f segment level place e.procedure) (pcw_there c.args.cpu.now c.args.regs a q c.args.cell f segment level place e.procedure) in
      let one : c.enclosure_of-home.result.record.level ≡ level_of_frame (frame (here a.member a.task q) f) = ap (λ (z : Activation). z.level) env in
      let two : c.procedure_at-procedure.result.level ≡ level = ap (λ (z : Pcw). z.level) pcw in
      (Unasked.refused c.args.cpu.now c.args.regs a q c.args.cell f segment level place e.procedure c.args.value c.args.back c.requires.back (λ z. c.if-env-procedure.true (omega (arith, one, two, z))), refl);
  above = λ i h. refl;
  top = λ e. absurd (not_done _ tt e);
}

pub returns-then-regs-lt2 : goal.returns-then-regs-lt2
returns-then-regs-lt2 c = record {
  row = λ a q f segment level place e.
      let env = c.enclosure_of-home.ensures.home a q f segment level place e.procedure in
      let pcw = c.procedure_at-procedure.ensures (Unasked.pcw c.args.cpu.now c.args.regs a q c.args.cell f segment level place e.procedure) (pcw_fits c.args.cpu.now c.args.regs a q c.args.cell f segment level place e.procedure) (pcw_there c.args.cpu.now c.args.regs a q c.args.cell f segment level place e.procedure) in
      let one : c.enclosure_of-home.result.record.level ≡ level_of_frame (frame (here a.member a.task q) f) = ap (λ (z : Activation). z.level) env in
      let two : c.procedure_at-procedure.result.level ≡ level = ap (λ (z : Pcw). z.level) pcw in
      (Unasked.full c.args.cpu.now c.args.regs a q c.args.cell f segment level place e.procedure c.args.value c.args.back c.requires.back (omega (arith, one, two, c.if-env-procedure.false)) (omega (arith, c.if-regs-lt2.true, (rooms c.args.cpu.now c.args.regs a q c.args.cell f segment level place e.procedure).last)), refl);
  above = λ i h. refl;
  top = λ e. absurd (not_done _ tt e);
}

pub begin-requires-clause-run : goal.begin-requires-clause-run
begin-requires-clause-run c =
    let (a, q, f, segment, level, place, e) = c.requires.procedure in
    let env = c.enclosure_of-home.ensures.home a q f segment level place e.procedure in
    let pcw = c.procedure_at-procedure.ensures (Unasked.pcw c.args.cpu.now c.args.regs a q c.args.cell f segment level place e.procedure) (pcw_fits c.args.cpu.now c.args.regs a q c.args.cell f segment level place e.procedure) (pcw_there c.args.cpu.now c.args.regs a q c.args.cell f segment level place e.procedure) in
    let mark = Unasked.mark_is c.args.cpu.now c.args.regs a q c.args.cell f segment level place e.procedure c.args.value c.args.back c.requires.back c.enclosure_of-home.result.record c.procedure_at-procedure.result env pcw c.entered_mark-mark.result c.entered_mark-mark.ensures in
    let core = Unasked.core_is c.args.cpu.now c.args.regs a q c.args.cell f segment level place e.procedure c.args.value c.args.back c.requires.back c.word.result c.word-2.result c.entered_mark-mark.result c.set.new.self c.set-2.new.self c.set.ensures.value c.word.ensures mark c.set-2.ensures.value c.word-2.ensures in
    let one : c.enclosure_of-home.result.record.level ≡ level_of_frame (frame (here a.member a.task q) f) = ap (λ (z : Activation). z.level) env in
    let two : c.procedure_at-procedure.result.level ≡ level = ap (λ (z : Pcw). z.level) pcw in
    let test : level_of_frame (frame (here a.member a.task q) f) + 1 ≡ level = omega (arith, one, two, c.if-env-procedure.false) in
    let room : c.args.regs.s + 2 ≤ c.args.regs.losr = omega (arith, c.if-regs-lt2.false, (rooms c.args.cpu.now c.args.regs a q c.args.cell f segment level place e.procedure).last) in
    subst (λ (z : Regs). RunningContext c.set-2.new.self z) (same_regs c.args.cpu.now.regs c.args.regs e.slot c.procedure_at-procedure.result)
    (Unasked.scene_with c.args.cpu.now c.args.regs a q c.args.cell f segment level place e.procedure c.args.value c.args.back c.requires.back test room (e.clear room) c.set-2.new.self c.procedure_at-procedure.result core pcw)

pub begin-requires-clause-known : goal.begin-requires-clause-known
begin-requires-clause-known c =
    let (a, q, f, segment, level, place, e) = c.requires.procedure in
    let r = c.args.regs in
    let room : r.s + 2 ≤ r.losr = omega (arith, c.if-regs-lt2.false, (rooms c.args.cpu.now r a q c.args.cell f segment level place e.procedure).last) in
    let cpu = c.args.cpu.now in
    holds_on c.set-2.new.self r (record cpu.regs { s = r.s + 2; f = r.s + 1 }) cpu.display c.args.known (ap (λ (z : Regs). z.stacks) e.slot) (ap (λ (z : Regs). z.stack_size) e.slot) (ap (λ (z : Regs). z.dict) e.slot)
    (c.requires.known room c.set-2.new.self (λ i one two. others r.s c.args.cpu.now.core c.set.new.self c.set-2.new.self c.word.result c.word-2.result c.set.ensures.value c.set-2.ensures.value i one two))

pub begin-requires-clause-top : goal.begin-requires-clause-top
begin-requires-clause-top c =
    let (a, q, f, segment, level, place, e) = c.requires.procedure in
    let cpu = c.args.cpu.now in
    let r = c.args.regs in
    let env = c.enclosure_of-home.ensures.home a q f segment level place e.procedure in
    let pcw = c.procedure_at-procedure.ensures (Unasked.pcw cpu r a q c.args.cell f segment level place e.procedure) (pcw_fits cpu r a q c.args.cell f segment level place e.procedure) (pcw_there cpu r a q c.args.cell f segment level place e.procedure) in
    let is = Unasked.mark_is cpu r a q c.args.cell f segment level place e.procedure c.args.value c.args.back c.requires.back c.enclosure_of-home.result.record c.procedure_at-procedure.result env pcw c.entered_mark-mark.result c.entered_mark-mark.ensures in
    let good : IsMscw c.entered_mark-mark.result = subst IsMscw (sym is) (Unasked.mark_good cpu r a q c.args.cell f segment level place e.procedure c.args.value c.args.back c.requires.back) in
    let one : c.enclosure_of-home.result.record.level ≡ level_of_frame (frame (here a.member a.task q) f) = ap (λ (z : Activation). z.level) env in
    let low = Unasked.level_low cpu r a q c.args.cell f segment level place e.procedure in
    let room = rooms cpu r a q c.args.cell f segment level place e.procedure in
    let p = c.procedure_at-procedure.result in
    let stack = c.enclosure_of-home.result.record.stack in
    let disp = c.enclosure_of-home.result.record.disp in
    subst (λ (z : Regs). EntersOver c.set-2.new.self z c.enclosure_of-home.result.mark) (same_regs cpu.regs r e.slot p) (
      stack,
      disp,
      enters_in cpu.core c.set.new.self c.set-2.new.self (record r { s = r.s + 2; f = r.s + 1; level = p.level; segment = p.segment; place = p.place }) (r.s + 2)
          c.entered_mark-mark.result c.word.result c.word-2.result c.enclosure_of-home.result.record.stack c.enclosure_of-home.result.record.disp
          good (omega (arith, room.last, room.under, room.inside, c.if-regs-lt2.false)) (λ z. omega (arith, z)) c.set.ensures.value c.word.ensures c.set-2.ensures.value
          (ap (λ (k : Mscw). k.entered) c.entered_mark-mark.ensures) (ap (λ (k : Mscw). k.env_stack) c.entered_mark-mark.ensures) (ap (λ (k : Mscw). k.env_disp) c.entered_mark-mark.ensures)
          (omega (arith, one, low, c.if-env-procedure.false)),
      sym c.enclosure_of-home.ensures.mark,
    )

pub returns : goal.returns
returns c = record {
  row = λ a q f segment level place e.
      let env = c.enclosure_of-home.ensures.home a q f segment level place e.procedure in
      let pcw = c.procedure_at-procedure.ensures (Unasked.pcw c.args.cpu.now c.args.regs a q c.args.cell f segment level place e.procedure) (pcw_fits c.args.cpu.now c.args.regs a q c.args.cell f segment level place e.procedure) (pcw_there c.args.cpu.now c.args.regs a q c.args.cell f segment level place e.procedure) in
      let mark = Unasked.mark_is c.args.cpu.now c.args.regs a q c.args.cell f segment level place e.procedure c.args.value c.args.back c.requires.back c.enclosure_of-home.result.record c.procedure_at-procedure.result env pcw c.entered_mark-mark.result c.entered_mark-mark.ensures in
      let core = Unasked.core_is c.args.cpu.now c.args.regs a q c.args.cell f segment level place e.procedure c.args.value c.args.back c.requires.back c.word.result c.word-2.result c.entered_mark-mark.result c.set.new.self c.set-2.new.self c.set.ensures.value c.word.ensures mark c.set-2.ensures.value c.word-2.ensures in
      let one : c.enclosure_of-home.result.record.level ≡ level_of_frame (frame (here a.member a.task q) f) = ap (λ (z : Activation). z.level) env in
      let two : c.procedure_at-procedure.result.level ≡ level = ap (λ (z : Pcw). z.level) pcw in
      let test : level_of_frame (frame (here a.member a.task q) f) + 1 ≡ level = omega (arith, one, two, c.if-env-procedure.false) in
      let room : c.args.regs.s + 2 ≤ c.args.regs.losr = omega (arith, c.if-regs-lt2.false, (rooms c.args.cpu.now c.args.regs a q c.args.cell f segment level place e.procedure).last) in
      let old = c.args.cpu.now in
      let one_regs = sym (same_regs old.regs c.args.regs e.slot c.procedure_at-procedure.result) in
      let d = c.begin.new.cpu.display in
      Unasked.done c.args.cpu.now c.args.regs a q c.args.cell f segment level place e.procedure c.args.value c.args.back c.requires.back test room (e.clear room) c.set-2.new.self c.procedure_at-procedure.result c.begin.new.cpu core pcw e.marks
      (c.begin.ensures.rest ∙ ap (λ (z : Regs). let y : Cpu = record { core = c.set-2.new.self; regs = z; display = d; critical = old.critical } in y) one_regs)
      (subst (λ (z : Regs). (b : RunningContext c.set-2.new.self z) → IsShown b d) one_regs c.begin.ensures.display);
  above = λ i low.
      let top = ap (λ (k : Cpu). k.regs.s) c.begin.ensures.rest in
      ap (λ (k : Cpu). slice_get k.core i) c.begin.ensures.rest ∙ over c.args.regs.s c.args.cpu.now.core c.set.new.self c.set-2.new.self c.word.result c.word-2.result c.set.ensures.value c.set-2.ensures.value i (omega arith);
  top = λ e. ap (λ (k : Cpu). k.regs.s) c.begin.ensures.rest;
}
