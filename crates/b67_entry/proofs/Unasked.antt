-- The accidental entry in the code's own values.
use Rattle.std.proofs.Common.{◌≡◌, ◌≢◌, ℕ, ◌+◌, ◌-◌, ◌<◌, ◌≤◌, List, Some, Err, sym, ◌∙◌, ap, arith, Bool, true, not, ◌==◌, slice_set, subst}
use Rattle.std.specs.List.{slice_get}
use Rattle.b67_word.specs.Tagged.{Tagged}
use Rattle.b67_word.specs.declared.couples.Place.{Place}
use Rattle.b67_word.specs.declared.faults.Fault.TheVariants.{InvalidOperand, StackOverflow}
use Rattle.b67_ctl.specs.declared.registers.Regs.{Regs}
use Rattle.b67_ctl.specs.declared.marks.Mscw.{Mscw}
use Rattle.b67_ctl.specs.declared.marks.Rcw.{Rcw}
use Rattle.b67_ctl.specs.declared.programs.Pcw.{Pcw}
use Rattle.b67_ctl.specs.Layout.{IsPlace, IsMscw, mscw_word, IsRcw, rcw_word, IsPcw, pcw_word}
use Rattle.b67_model.specs.Common.{frame, level_of_frame, AtProc, cells_of, accident, back_to, IsSegment}
use Rattle.b67_stack.specs.declared.Cpu.{Cpu}
use Rattle.b67_layout.specs.Common.{spots, here, machine_view, stack_of_task, with_objects}
use Rattle.b67_stack.proofs.Pushes.{Room, room_of}
use Rattle.b67_stack.specs.MachineView.{RunsOn}
use Rattle.b67_stack.proofs.ClearHeads.{IsClear}
use Rattle.b67_layout.proofs.Accidents as Accidents
use Rattle.b67_refer.specs.Ends.{IsProcAt}
use Rattle.b67_refer.specs.RunningContext.{RunningContext, IsShown}
use Rattle.b67_refer.specs.declared.activation.Activation.{Activation}
use Rattle.b67_entry.specs.Procedures.{RecordEntered}
use Rattle.b67_entry.specs.Left.{going_on}
use Rattle.b67_entry.proofs.Sites.{site}
use Rattle.b67_entry.proofs.Accidental as Accidental
use Rattle.b67_entry.proofs.Segments.{few_segments}

-- the registers that are written are those of the slot
pub same_regs : (r v : Regs) → going_on r v ≡ v → (p : Pcw)
    → ◌≡◌ {A = Regs} (record v { s = v.s + 2; f = v.s + 1; level = p.level; segment = p.segment; place = p.place }) (record r { s = v.s + 2; f = v.s + 1; level = p.level; segment = p.segment; place = p.place })
same_regs r v slot p = sym (ap (λ (z : Regs). let y : Regs = record z { s = v.s + 2; f = v.s + 1; level = p.level; segment = p.segment; place = p.place } in y) slot)

module _ (cpu : Cpu) (r : Regs) (a : RunningContext cpu.core r) (q : Place) (at f segment level : ℕ) (place : Place) (e : IsProcAt a q at f segment level place) where
  abbrev pub pcw : Pcw
  pcw = record { place = place; level = level; segment = segment + 1 }

  abbrev pub environment : Activation
  environment = record {
    stack = (spots a.plan a.member.constants.number a.member.progress.job a.task f).stack;
    disp = (spots a.plan a.member.constants.number a.member.progress.job a.task f).disp;
    level = level_of_frame (frame (here a.member a.task q) f);
  }

  abbrev pub starts : IsSegment a.member.constants segment level place
  starts = e.cell.stands.1.1

  abbrev pub high : level ≤ 31
  high = e.cell.stands.1.0

  pub pcw_there : slice_get cpu.core at ≡ Some (pcw_word pcw)
  pcw_there = e.cell.there ∙ ap Some e.cell.stands.0.0

  pub pcw_fits : IsPcw pcw
  pcw_fits = grind (arith, few_segments)

  pub level_small : level_of_frame (frame (here a.member a.task q) f) ≤ 31
  level_small = let w = site cpu.core r a q f e.cell.names e.own in omega (arith, w.level, w.high)

  -- it lies in a task's record
  pub level_low : 2 ≤ level_of_frame (frame (here a.member a.task q) f)
  level_low = let w = site cpu.core r a q f e.cell.names e.own in omega (arith, w.level, w.low)

  on_stack : RunsOn (with_objects a.left (machine_view a.plan a.session.jobs)) a.plan.running (stack_of_task a.plan a.member.constants.number a.member.progress.job a.plan.running a.task)
  on_stack = Accidents.on_stack a.left a.storage cpu.core r a.marks a.plan a.session a.member a.task a.holds a.running level f (record { value = true; segment = segment; place = place }) (record { stack = 0; disp = 0 })

  -- where the stack lies
  pub rooms : Room a.storage cpu.core r (with_objects a.left (machine_view a.plan a.session.jobs)) a.plan.running (stack_of_task a.plan a.member.constants.number a.member.progress.job a.plan.running a.task)
  rooms = room_of a.storage cpu.core r (with_objects a.left (machine_view a.plan a.session.jobs)) a.plan.running (stack_of_task a.plan a.member.constants.number a.member.progress.job a.plan.running a.task) a.holds.memory on_stack

  -- the registers with a procedure's place and level
  abbrev pub regs_with : Pcw → Regs
  regs_with p = record r { s = r.s + 2; f = r.s + 1; level = p.level; segment = p.segment; place = p.place }

  module _ (value : Bool) (back : Place) (good : IsPlace back) where
    abbrev pub mark : Mscw
    mark = record { far = not (environment.stack == r.slot); entered = true; env_stack = environment.stack; env_disp = environment.disp; value = value; level = level; back = r.s + 1 - r.f }

    abbrev pub caller : Rcw
    caller = record { place = back; level = r.level; segment = r.segment }

    pub mark_good : IsMscw mark
    mark_good = Accidental.mark_good cpu.core r a q f segment level place e.cell.names e.own high starts value back good

    pub caller_good : IsRcw caller
    caller_good = Accidental.rcw_good cpu.core r a q f segment level place e.cell.names e.own high starts value back good

    -- the mark of these readings
    pub mark_is : (env : Activation) (p : Pcw) → env ≡ environment → p ≡ pcw → (k : Mscw)
        → k ≡ record { far = not (env.stack == r.slot); entered = true; env_stack = env.stack; env_disp = env.disp; value = value; level = p.level; back = r.s + 1 - r.f } → k ≡ mark
    mark_is env p ee ep k ek = grind arith

    abbrev pub core_after : List Tagged
    core_after = slice_set (slice_set cpu.core (r.s + 1) (mscw_word mark)) (r.s + 2) (rcw_word caller)

    -- the core after both writes
    pub core_is : (v w : Tagged) (k : Mscw) (one two : List Tagged) → one ≡ slice_set cpu.core (r.s + 1) v → v ≡ mscw_word k → k ≡ mark → two ≡ slice_set one (r.s + 2) w → w ≡ rcw_word caller → two ≡ core_after
    core_is v w k one two e1 ev ek e2 ew = grind arith

    pub refused : level_of_frame (frame (here a.member a.task q) f) + 1 ≢ level → accident (here a.member a.task q) (cells_of (here a.member a.task q)) (back_to (here a.member a.task q) value back) (AtProc f segment level place) ≡ Err InvalidOperand
    refused ne = Accidental.refused cpu.core r a q f segment level place e.cell.names e.own high starts value back good ne

    module _ (test : level_of_frame (frame (here a.member a.task q) f) + 1 ≡ level) where
      pub full : r.losr < r.s + 2 → accident (here a.member a.task q) (cells_of (here a.member a.task q)) (back_to (here a.member a.task q) value back) (AtProc f segment level place) ≡ Err StackOverflow
      full over = Accidental.full cpu.core r a q f segment level place e.cell.names e.own high starts value back good test over

      module _ (room : r.s + 2 ≤ r.losr) (clear : IsClear r (with_objects a.left (machine_view a.plan a.session.jobs))) where
        abbrev pub scene_after : RunningContext core_after (regs_with pcw)
        scene_after = Accidental.scene_after cpu.core r a q f segment level place e.cell.names e.own high starts value back good test room clear

        pub scene_with : (core : List Tagged) (p : Pcw) → core ≡ core_after → p ≡ pcw → RunningContext core (regs_with p)
        scene_with core p ec ep = subst (λ (k : List Tagged). RunningContext k (regs_with p)) (sym ec) (subst (λ (z : Pcw). RunningContext core_after (regs_with z)) (sym ep) scene_after)

        pub done : (core : List Tagged) (p : Pcw) (new : Cpu) → core ≡ core_after → p ≡ pcw → cpu.critical ≡ a.marks → new ≡ record { core = core; regs = regs_with p; display = new.display; critical = cpu.critical }
            → ((b : RunningContext core (regs_with p)) → IsShown b new.display)
            → RecordEntered a new (accident (here a.member a.task q) (cells_of (here a.member a.task q)) (back_to (here a.member a.task q) value back) (AtProc f segment level place))
        done core p new ec ep em en shown =
            let d = new.display in
            let D : List Tagged → Pcw → Type 0 = λ k z. (b : RunningContext k (regs_with z)) → IsShown b d in
            let seen : IsShown scene_after d = subst (λ (z : Pcw). D core_after z) ep (subst (λ (k : List Tagged). D k p) ec shown) scene_after in
            let made = Accidental.done cpu.core r a q f segment level place e.cell.names e.own high starts value back good test room clear d cpu.critical em seen in
            grind arith
