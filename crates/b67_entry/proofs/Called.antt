-- The entering of a marked activation record in the code's own values.
use Rattle.std.proofs.Common.{◌≡◌, ◌≢◌, ℕ, ◌+◌, ◌<◌, ◌≤◌, List, reverse, Err, sym, true, false, not, ◌==◌, slice_set, subst, arith}
use Rattle.b67_word.specs.Tagged.{Tagged}
use Rattle.b67_word.specs.declared.couples.Place.{Place}
use Rattle.b67_word.specs.declared.faults.Fault.TheVariants.{InvalidOperand}
use Rattle.b67_ctl.specs.declared.registers.Regs.{Regs}
use Rattle.b67_ctl.specs.declared.marks.Mscw.{Mscw}
use Rattle.b67_ctl.specs.declared.marks.Rcw.{Rcw}
use Rattle.b67_ctl.specs.declared.programs.Pcw.{Pcw}
use Rattle.b67_ctl.specs.Layout.{IsPlace, IsMscw, mscw_word, IsRcw, rcw_word}
use Rattle.b67_model.specs.Common.{Word, Job, frame, level_of_frame, AtProc, enters, is_original_of}
use Rattle.b67_stack.specs.declared.Cpu.{Cpu}
use Rattle.b67_stack.specs.Shapes as Shapes
use Rattle.b67_stack.specs.Stacks.{StackPlace, top_mark}
use Rattle.b67_layout.specs.Common.{Placement, shape, stack_of_task, IsMade, here}
use Rattle.b67_refer.specs.RunningContext.{RunningContext, IsShown}
use Rattle.b67_layout.proofs.Enters.{IsMarkedWith}
use Rattle.b67_refer.specs.declared.activation.Activation.{Activation}
use Rattle.b67_refer.specs.Ends.{IsReference}
use Rattle.b67_entry.specs.Procedures.{ReachesProc, CallsWith}
use Rattle.b67_entry.proofs.Unasked.{pcw, environment, starts, high}
use Rattle.b67_entry.proofs.Entering as Entering

-- a reference is no original
pub plain_reference : (w : Word) → IsReference w → (n : ℕ) → is_original_of n w ≡ false
plain_reference w is n = grind arith

pub plain_shape : (plan : Placement) (j : ℕ) (job : Job) (spot : ℕ → StackPlace) (w : Word) → IsReference w → (home : ℕ) → shape plan j job spot w ≢ Shapes.Original home
plain_shape plan j job spot w is home = grind arith

module _ (cpu : Cpu) (a : RunningContext cpu.core cpu.regs) (q : Place) (good : IsPlace q) (at f segment level : ℕ) (place : Place) (reference : Word) (arguments : List Word) (e : ReachesProc cpu a q at f segment level place) (w : CallsWith a.task reference arguments) where
  pub with : IsMarkedWith a.task.frames reference (reverse arguments)
  with = record { some = w.some; marked = w.marked; cells = w.cells }

  -- the registers with a procedure's place and level
  abbrev pub regs_with : Pcw → Regs
  regs_with p = record cpu.regs { level = p.level; segment = p.segment; place = p.place }

  abbrev pub mark : Mscw
  mark = record {
    far = not ((environment cpu cpu.regs a q at f segment level place e.procedure).stack == cpu.regs.slot);
    entered = true;
    env_stack = (environment cpu cpu.regs a q at f segment level place e.procedure).stack;
    env_disp = (environment cpu cpu.regs a q at f segment level place e.procedure).disp;
    value = false;
    level = level;
    back = (top_mark cpu.regs.slot (stack_of_task a.plan a.member.constants.number a.member.progress.job a.plan.running a.task)).back;
  }

  abbrev pub caller : Rcw
  caller = record { place = q; level = cpu.regs.level; segment = cpu.regs.segment }

  pub mark_good : IsMscw mark
  mark_good = Entering.mark_good a.storage cpu a.plan a.session a.member a.task q e.ordered e.stands a.running f segment level place e.procedure.cell.names e.procedure.own (high cpu cpu.regs a q at f segment level place e.procedure) (starts cpu cpu.regs a q at f segment level place e.procedure) good reference arguments with (plain_reference reference w.refers)

  pub caller_good : IsRcw caller
  caller_good = Entering.rcw_good a.storage cpu a.plan a.session a.member a.task q e.ordered e.stands a.running f segment level place e.procedure.cell.names e.procedure.own (high cpu cpu.regs a q at f segment level place e.procedure) (starts cpu cpu.regs a q at f segment level place e.procedure) good reference arguments with (plain_reference reference w.refers)

  -- where the two words lie
  pub two_words : (cpu.regs.bosr < cpu.regs.f) × (cpu.regs.f + 1 ≤ cpu.regs.losr)
  two_words = Entering.two_words a.storage cpu a.plan a.session a.member a.task q e.ordered e.stands a.running f segment level place e.procedure.cell.names e.procedure.own (high cpu cpu.regs a q at f segment level place e.procedure) (starts cpu cpu.regs a q at f segment level place e.procedure) good reference arguments with (plain_reference reference w.refers)

  -- the mark of these readings
  pub mark_is : (env : Activation) (p : Pcw) (t : Mscw) → env ≡ environment cpu cpu.regs a q at f segment level place e.procedure → p ≡ pcw cpu cpu.regs a q at f segment level place e.procedure
      → t ≡ top_mark cpu.regs.slot (stack_of_task a.plan a.member.constants.number a.member.progress.job a.plan.running a.task) → (k : Mscw)
      → k ≡ record { far = not (env.stack == cpu.regs.slot); entered = true; env_stack = env.stack; env_disp = env.disp; value = false; level = p.level; back = t.back } → k ≡ mark
  mark_is env p t ee ep et k ek = grind arith

  abbrev pub core_after : List Tagged
  core_after = slice_set (slice_set cpu.core cpu.regs.f (mscw_word mark)) (cpu.regs.f + 1) (rcw_word caller)

  -- the core after both writes
  pub core_is : (v u : Tagged) (k : Mscw) (one two : List Tagged) → one ≡ slice_set cpu.core cpu.regs.f v → v ≡ mscw_word k → k ≡ mark → two ≡ slice_set one (cpu.regs.f + 1) u → u ≡ rcw_word caller → two ≡ core_after
  core_is v u k one two e1 ev ek e2 ew = grind arith

  pub refused : level_of_frame (frame (here a.member a.task q) f) + 1 ≢ level → enters (here a.member a.task q) arguments (AtProc f segment level place) ≡ Err InvalidOperand
  refused ne = Entering.refused a.storage cpu a.plan a.session a.member a.task q e.ordered e.stands a.running f segment level place e.procedure.cell.names e.procedure.own (high cpu cpu.regs a q at f segment level place e.procedure) (starts cpu cpu.regs a q at f segment level place e.procedure) good reference arguments with (plain_reference reference w.refers) ne

  module _ (test : level_of_frame (frame (here a.member a.task q) f) + 1 ≡ level) where
    abbrev pub scene_after : RunningContext core_after (regs_with (pcw cpu cpu.regs a q at f segment level place e.procedure))
    scene_after = Entering.scene_after a.storage cpu a.plan a.session a.member a.task q e.ordered e.stands a.running f segment level place e.procedure.cell.names e.procedure.own (high cpu cpu.regs a q at f segment level place e.procedure) (starts cpu cpu.regs a q at f segment level place e.procedure) good reference arguments with (plain_reference reference w.refers) test (plain_shape a.plan a.member.constants.number a.member.progress.job _ reference w.refers)

    pub scene_with : (core : List Tagged) (p : Pcw) → core ≡ core_after → p ≡ pcw cpu cpu.regs a q at f segment level place e.procedure → RunningContext core (regs_with p)
    scene_with core p ec ep = subst (λ (k : List Tagged). RunningContext k (regs_with p)) (sym ec) (subst (λ (z : Pcw). RunningContext core_after (regs_with z)) (sym ep) scene_after)

    pub done : (core : List Tagged) (p : Pcw) (new : Cpu) → core ≡ core_after → p ≡ pcw cpu cpu.regs a q at f segment level place e.procedure → new ≡ record { core = core; regs = regs_with p; display = new.display; critical = cpu.critical }
        → ((b : RunningContext core (regs_with p)) → IsShown b new.display)
        → IsMade a.storage a.plan a.session a.member cpu new (enters (here a.member a.task q) arguments (AtProc f segment level place))
    done core p new ec ep en shown =
        let d = new.display in
        let p0 = pcw cpu cpu.regs a q at f segment level place e.procedure in
        let D : List Tagged → Pcw → Type 0 = λ k z. (b : RunningContext k (regs_with z)) → IsShown b d in
        let seen : IsShown scene_after d = subst (λ (z : Pcw). D core_after z) ep (subst (λ (k : List Tagged). D k p) ec shown) scene_after in
        let made = Entering.done a.storage cpu a.plan a.session a.member a.task q e.ordered e.stands a.running f segment level place e.procedure.cell.names e.procedure.own (high cpu cpu.regs a q at f segment level place e.procedure) (starts cpu cpu.regs a q at f segment level place e.procedure) good reference arguments with (plain_reference reference w.refers) test (plain_shape a.plan a.member.constants.number a.member.progress.job _ reference w.refers) d seen in
        grind arith
