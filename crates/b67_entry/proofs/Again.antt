-- RETN: the caller's registers made once more, of whichever session the machine represents.
use Rattle.std.proofs.Common.{◌≡◌, ◌+◌, ◌∷◌, sym, ◌∙◌, ap, subst}
use Rattle.b67_ctl.specs.declared.marks.Mscw.{Mscw}
use Rattle.b67_ctl.specs.declared.registers.Regs.{Regs}
use Rattle.b67_model.specs.Common.{Session, SessionJob, Task}
use Rattle.b67_stack.specs.declared.Cpu.{Cpu}
use Rattle.b67_stack.specs.Common.{top_mark, Storage}
use Rattle.b67_layout.specs.Common.{machine_view, IsInOrderButCounts, IsRunning, Placement, RepresentsSession}
use Rattle.b67_refer.specs.RunningContext.{RunningContext}
use Rattle.b67_refer.specs.Displays.{HoldsEnvironment}
use Rattle.b67_entry.proofs.Environments.{plain, holds_now, caller_slots}
use Rattle.b67_entry.specs.Left.{MayReturn, Returns, caller_regs, caller_stack}
use Rattle.b67_entry.proofs.Callers.{below_mark}
use Rattle.b67_entry.proofs.Leaving.{under, on_top, on_stack, may_return, scene_left}
use Rattle.b67_entry.proofs.RetnContext.{IsTopMark}

module _ (x : Storage) (cpu : Cpu) (plan : Placement) (s : Session) (m : SessionJob) (t : Task) (o : IsInOrderButCounts s) (h : RepresentsSession x cpu plan s) (runs : IsRunning plan s.jobs m t) (a : Returns m t) (mark : Mscw) (marks : IsTopMark cpu mark) where
  abbrev pub again : MayReturn cpu
  again = may_return x cpu plan s m t o h runs a

  pub marks_again : mark ≡ top_mark cpu.regs.slot (on_top x cpu plan s m t o h runs a ∷ under x cpu plan s m t o h runs a)
  marks_again = marks x (machine_view plan s.jobs) _ h.holds.memory (on_stack x cpu plan s m t o h runs a)

  module _ (regs : Regs) (computed : (b : MayReturn cpu) → mark ≡ top_mark cpu.regs.slot (b.top ∷ b.below) → regs ≡ caller_regs cpu.regs b.below b.back) where
    pub regs_again : regs ≡ caller_regs cpu.regs (caller_stack plan m t a) a.back
    regs_again = computed again marks_again

    pub left_again : RunningContext cpu.core regs
    left_again = subst (λ (z : Regs). RunningContext cpu.core z) (sym regs_again) (scene_left x cpu plan s m t o h runs a)

    pub held_again : HoldsEnvironment cpu.core regs cpu.display cpu.regs.level
    held_again = holds_now cpu (plain x cpu plan s m t o h runs) (h.shows m t runs) regs (caller_slots cpu regs (caller_stack plan m t a) a.back regs_again)

    pub low_again : regs.s + 1 ≡ cpu.regs.f
    low_again = ap (λ (z : Regs). z.s + 1) regs_again ∙ below_mark cpu again
