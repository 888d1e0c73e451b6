-- RETN: what its tests have told, step by step, of whichever session the machine represents.
use Rattle.std.proofs.Common.{◌≡◌, ◌≢◌, ◌+◌, ◌∷◌, List, Bool, true, false, not, Option, Some, None, Ok, Err, sym, ◌∙◌, ap, subst}
use Rattle.std.specs.List.{slice_get}
use Rattle.std.proofs.lemmas.Bool.{not-false, not-true}
use Rattle.b67_word.specs.Tagged.{Tagged}
use Rattle.b67_word.specs.declared.couples.Place.{Place}
use Rattle.b67_word.specs.declared.faults.Fault.{Fault}
use Rattle.b67_word.specs.declared.faults.Fault.TheVariants.{MarkPending, StackUnderflow, CriticalBlock}
use Rattle.b67_ctl.specs.declared.marks.Mscw.{Mscw}
use Rattle.b67_ctl.specs.declared.registers.Regs.{Regs}
use Rattle.b67_model.specs.Common.{Word, top, returnable, retn, Leaves, is_critical}
use Rattle.b67_stack.specs.declared.Cpu.{Cpu}
use Rattle.b67_stack.specs.Common.{Activation, top_mark, MachineView, RunsOn, Storage, Represents}
use Rattle.b67_layout.specs.Common.{machine_view, stack_of_task, RunsSome, ForEach, here}
use Rattle.b67_layout.proofs.Starts.{runs_here}
use Rattle.b67_refer.specs.RunningContext.{RunningContext}
use Rattle.b67_refer.specs.Displays.{HoldsEnvironment}
use Rattle.b67_entry.proofs.Environments.{plain, holds_now, caller_slots}
use Rattle.b67_entry.specs.Left.{MayReturn, Returns, caller_regs, caller_stack}
use Rattle.b67_entry.specs.Words.{IsTopWord, Refuses}
use Rattle.b67_entry.specs.Returned.{ReturnsWord}
use Rattle.b67_entry.proofs.Callers.{below_mark}
use Rattle.b67_entry.proofs.Leaving.{under, on_top, on_stack, may_return, scene_left}
use Rattle.b67_entry.proofs.Retning as told

-- the mark that was read is that of the running stack
abbrev pub IsTopMark : Cpu → Mscw → Type 0
IsTopMark cpu mark =
    (x : Storage) (p : MachineView) (stack : List Activation) → Represents x cpu.core cpu.regs p → RunsOn p cpu.regs.slot stack → mark ≡ top_mark cpu.regs.slot stack

module _ (cpu : Cpu) (mark : Mscw) (marks : IsTopMark cpu mark) where
  abbrev pub mark_is : (r : RunsSome cpu) → mark ≡ top_mark cpu.regs.slot (stack_of_task r.plan r.member.constants.number r.member.progress.job r.plan.running r.task)
  mark_is r = marks r.storage (machine_view r.plan r.session.jobs) _ r.stands.holds.memory (runs_here r.storage cpu r.plan r.session r.member r.task r.stands r.running)

  pub is_pending : (r : RunsSome cpu) (next : Place) → not mark.entered ≡ true → retn (here r.member r.task next) ≡ Err MarkPending
  is_pending r next e = told.pending r.storage cpu r.plan r.session r.member r.task r.ordered r.stands r.running mark (mark_is r) next (not-true _ e)

  pub is_empty : (r : RunsSome cpu) (next : Place) → not mark.entered ≡ false → cpu.regs.s ≡ cpu.regs.f + 1 → retn (here r.member r.task next) ≡ Err StackUnderflow
  is_empty r next n e = told.empty r.storage cpu r.plan r.session r.member r.task r.ordered r.stands r.running mark (mark_is r) (not-false _ n) next e

  -- the word on top
  module _ (entered : not mark.entered ≡ false) (w : Tagged) (got : slice_get cpu.core cpu.regs.s ≡ Some w) (some : cpu.regs.s ≢ cpu.regs.f + 1) where
    pub top_word : (r : RunsSome cpu) → (v : Word) × IsTopWord r.storage r.plan r.member r.task cpu v w
    top_word r = told.word_at r.storage cpu r.plan r.session r.member r.task r.ordered r.stands r.running mark (mark_is r) (not-false _ entered) w got some

    -- whether it may be returned
    module _ (found : Option Fault) (tests : ForEach cpu (λ x plan s m t. (v : Word) → IsTopWord x plan m t cpu v w → Refuses found v (returnable m.progress.job (top t.frames).identity v))) where
      abbrev tested : (r : RunsSome cpu) → Refuses found (top_word r).0 (returnable r.member.progress.job (top r.task.frames).identity (top_word r).0)
      tested r = tests r.storage r.plan r.session r.member r.task r.ordered r.stands r.running (top_word r).0 (top_word r).1

      pub is_refused : (fault : Fault) → found ≡ Some fault → (r : RunsSome cpu) (next : Place) → retn (here r.member r.task next) ≡ Err fault
      is_refused fault e r next =
          told.refused r.storage cpu r.plan r.session r.member r.task r.ordered r.stands r.running mark (mark_is r) (not-false _ entered) (top_word r).0 w (top_word r).1 next fault
          (told.refusal_faults found fault (top_word r).0 _ e (tested r))

      -- whether a live task depends on its record
      module _ (passes : found ≡ None) (depends : Bool) (says : ForEach cpu (λ x plan s m t. depends ≡ is_critical m.progress.job (top t.frames).identity)) where
        abbrev passed : (r : RunsSome cpu) → Refuses None (top_word r).0 (returnable r.member.progress.job (top r.task.frames).identity (top_word r).0)
        passed r = told.refusal_passes found (top_word r).0 _ passes (tested r)

        abbrev depends_is : (r : RunsSome cpu) → is_critical r.member.progress.job (top r.task.frames).identity ≡ depends
        depends_is r = sym (says r.storage r.plan r.session r.member r.task r.ordered r.stands r.running)

        pub is_held : depends ≡ true → (r : RunsSome cpu) (next : Place) → retn (here r.member r.task next) ≡ Err CriticalBlock
        is_held e r next =
            told.critical r.storage cpu r.plan r.session r.member r.task r.ordered r.stands r.running mark (mark_is r) (not-false _ entered) (top_word r).0 w (top_word r).1 (passed r) next (depends_is r ∙ e)

        -- whether it is the task's outermost
        module _ (free : depends ≡ false) where
          pub is_outermost : mark.back ≡ 0 → (r : RunsSome cpu) (next : Place) → retn (here r.member r.task next) ≡ Ok Leaves
          is_outermost z r next =
              told.ended r.storage cpu r.plan r.session r.member r.task r.ordered r.stands r.running mark (mark_is r) (not-false _ entered) (top_word r).0 w (top_word r).1 (passed r) (depends_is r ∙ free) next z

-- the record that is left, with the word that goes to its caller
pub record Context (cpu : Cpu) (mark : Mscw) (w : Tagged) (r : RunsSome cpu) : Type 0 where
  pub leaver : Returns r.member r.task
  pub value : Word
  pub word : ReturnsWord r.storage r.plan r.member r.task cpu leaver value w
  pub mark_is : mark ≡ top_mark cpu.regs.slot (on_top r.storage cpu r.plan r.session r.member r.task r.ordered r.stands r.running leaver ∷ under r.storage cpu r.plan r.session r.member r.task r.ordered r.stands r.running leaver)
  pub wants : mark.value ≡ leaver.back.value

pub context : (cpu : Cpu) (mark : Mscw) → IsTopMark cpu mark → not mark.entered ≡ false → (w : Tagged) → slice_get cpu.core cpu.regs.s ≡ Some w → cpu.regs.s ≢ cpu.regs.f + 1
    → (found : Option Fault) → ForEach cpu (λ x plan s m t. (v : Word) → IsTopWord x plan m t cpu v w → Refuses found v (returnable m.progress.job (top t.frames).identity v)) → found ≡ None
    → (depends : Bool) → ForEach cpu (λ x plan s m t. depends ≡ is_critical m.progress.job (top t.frames).identity) → depends ≡ false → mark.back ≢ 0 → (r : RunsSome cpu) → Context cpu mark w r
context cpu mark marks entered w got some found tests passes depends says free back r =
    let is = mark_is cpu mark marks r in
    let v = top_word cpu mark marks entered w got some r in
    let p = passed cpu mark marks entered w got some found tests passes depends says r in
    let f = depends_is cpu mark marks entered w got some found tests passes depends says r ∙ free in
    let a = told.leaver r.storage cpu r.plan r.session r.member r.task r.ordered r.stands r.running mark is (not-false _ entered) v.0 w v.1 p f back in
    record {
      leaver = a;
      value = v.0;
      word = told.with_its_word r.storage cpu r.plan r.session r.member r.task r.ordered r.stands r.running mark is (not-false _ entered) v.0 w v.1 p f back;
      mark_is = marks r.storage (machine_view r.plan r.session.jobs) _ r.stands.holds.memory (on_stack r.storage cpu r.plan r.session r.member r.task r.ordered r.stands r.running a);
      wants = told.value_is r.storage cpu r.plan r.session r.member r.task r.ordered r.stands r.running mark is a;
    }

module _ (cpu : Cpu) (mark : Mscw) (w : Tagged) (r : RunsSome cpu) (k : Context cpu mark w r) where
  abbrev pub returning : MayReturn cpu
  returning = may_return r.storage cpu r.plan r.session r.member r.task r.ordered r.stands r.running k.leaver

  -- the caller's registers, as they were computed
  module _ (regs : Regs) (computed : (a : MayReturn cpu) → mark ≡ top_mark cpu.regs.slot (a.top ∷ a.below) → regs ≡ caller_regs cpu.regs a.below a.back) where
    pub regs_are : regs ≡ caller_regs cpu.regs (caller_stack r.plan r.member r.task k.leaver) k.leaver.back
    regs_are = computed returning k.mark_is

    pub context_left : RunningContext cpu.core regs
    context_left = subst (λ (z : Regs). RunningContext cpu.core z) (sym regs_are) (scene_left r.storage cpu r.plan r.session r.member r.task r.ordered r.stands r.running k.leaver)

    -- the display holds the environment that is left
    pub held_left : HoldsEnvironment cpu.core regs cpu.display cpu.regs.level
    held_left = holds_now cpu (plain r.storage cpu r.plan r.session r.member r.task r.ordered r.stands r.running) (r.stands.shows r.member r.task r.running) regs (caller_slots cpu regs (caller_stack r.plan r.member r.task k.leaver) k.leaver.back regs_are)

    -- the caller's top is below the mark that is left
    pub top_low : regs.s + 1 ≡ cpu.regs.f
    top_low = ap (λ (z : Regs). z.s + 1) regs_are ∙ below_mark cpu returning
