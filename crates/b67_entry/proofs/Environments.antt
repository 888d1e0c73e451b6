-- The display before an entry or an exit holds the running environment.
use Rattle.std.proofs.Common.{◌≡◌, ◌≢◌, ℕ, ◌+◌, ◌-◌, ◌<◌, ◌≤◌, List, [], ◌∷◌, Option, true, refl, sym, ◌∙◌, ap, arith, length, slice_set, subst}
use Rattle.std.specs.List.{slice_get}
use Rattle.b67_core.proofs.Writes.{slice_get-set_same, slice_get-set_other}
use Rattle.b67_word.specs.Tagged.{Tagged}
use Rattle.b67_ctl.specs.declared.registers.Regs.{Regs}
use Rattle.b67_ctl.specs.declared.marks.Mscw.{Mscw}
use Rattle.b67_ctl.specs.Layout.{mscw_word, IsMscw}
use Rattle.b67_model.specs.State as State
use Rattle.b67_model.specs.Common.{Session, SessionJob, Task, Frame, Return, Standing, top, running, running_from, level_of_frame, level_of_standing}
use Rattle.b67_stack.specs.declared.Cpu.{Cpu}
use Rattle.b67_stack.specs.Common.{Activation, Storage}
use Rattle.b67_layout.specs.Common.{IsInOrderButCounts, Placement, IsRunning, RepresentsSession}
use Rattle.b67_refer.specs.RunningContext.{RunningContext, IsShown}
use Rattle.b67_refer.specs.Displays.{HoldsEnvironment, EntersIn}
use Rattle.b67_refer.proofs.Chains.{level, level_is, level_low, address_at}
use Rattle.b67_refer.proofs.Displays.{shown_holds, holds_on, low_mark, other_level, last_mark}
use Rattle.b67_refer.proofs.Scenes.{scene}
use Rattle.b67_entry.specs.Left.{caller_regs}
use Rattle.b67_entry.specs.Procedures.{HoldsUnder}

-- the registers lie in the same slots, over the same dictionary
pub record SameSlots (r v : Regs) : Type 0 where
  pub stacks : v.stacks ≡ r.stacks
  pub size : v.stack_size ≡ r.stack_size
  pub dictionary : v.dict ≡ r.dict
  pub last : v.losr ≡ r.losr

pub caller_slots : (cpu : Cpu) (v : Regs) (below : List Activation) (back : Return) → v ≡ caller_regs cpu.regs below back → SameSlots cpu.regs v
caller_slots cpu v below back e = record { stacks = ap (λ (z : Regs). z.stacks) e; size = ap (λ (z : Regs). z.stack_size) e; dictionary = ap (λ (z : Regs). z.dict) e; last = ap (λ (z : Regs). z.losr) e }

-- the mark of an entered record was written, and then another word
pub enters_in : (core one two : List Tagged) (r : Regs) (over : ℕ) (m : Mscw) (v w : Tagged) (stack disp : ℕ) → IsMscw m → r.f < length core → r.f ≢ over → one ≡ slice_set core r.f v → v ≡ mscw_word m → two ≡ slice_set one over w
    → m.entered ≡ true → m.env_stack ≡ stack → m.env_disp ≡ disp → 2 < r.level → EntersIn two r stack disp
enters_in core one two r over m v w stack disp fits inside ne e1 ev e2 entered slot_is disp_is high = grind (arith, slice_get-set_other, slice_get-set_same)

-- the running task, with nothing to release
abbrev pub plain : (x : Storage) (cpu : Cpu) (plan : Placement) (s : Session) (m : SessionJob) (t : Task) → IsInOrderButCounts s → RepresentsSession x cpu plan s → IsRunning plan s.jobs m t → RunningContext cpu.core cpu.regs
plain x cpu plan s m t o h runs = scene [] x cpu.core cpu.regs cpu.critical plan s m t o h.holds runs

module _ (cpu : Cpu) (a : RunningContext cpu.core cpu.regs) (shown : IsShown a cpu.display) where
  within : cpu.regs.level ≤ level cpu.core cpu.regs a
  within = let e = level_is cpu.core cpu.regs a in omega (arith, e)

  -- nothing is written
  pub holds_now : (v : Regs) → SameSlots cpu.regs v → HoldsEnvironment cpu.core v cpu.display cpu.regs.level
  holds_now v e = holds_on cpu.core cpu.regs v cpu.display cpu.regs.level e.stacks e.size e.dictionary (shown_holds cpu.core cpu.regs a cpu.core cpu.display cpu.regs.level shown within (λ k two up. refl))

  -- the mark on top is entered, and its first cell becomes the return
  pub holds_entered : (some : a.task.frames ≢ []) → (top a.task.frames).standing ≡ State.Marked → cpu.regs.f + 1 ≤ cpu.regs.losr → (one core : List Tagged) (w v : Tagged) → one ≡ slice_set cpu.core cpu.regs.f w → core ≡ slice_set one (cpu.regs.f + 1) v
      → HoldsEnvironment core cpu.regs cpu.display cpu.regs.level
  holds_entered some marked room one core w v e1 e2 = by_frames a.task.frames refl where
    by_frames : (fs : List Frame) → a.task.frames ≡ fs → HoldsEnvironment core cpu.regs cpu.display cpu.regs.level
    by_frames [] e = absurd (some e)
    by_frames (f ∷ below) e =
        let m = last_mark cpu.core cpu.regs a f below e in
        let none : m.0.level ≡ 0 = m.3 ∙ ap (λ (fs : List Frame). level_of_frame (top fs)) (sym e) ∙ ap level_of_standing marked in
        shown_holds cpu.core cpu.regs a core cpu.display cpu.regs.level shown within (λ k two up.
        ap (λ (c : List Tagged). slice_get c (address_at cpu.core cpu.regs a a.task.place k)) e2
        ∙ slice_get-set_other one (cpu.regs.f + 1) (address_at cpu.core cpu.regs a a.task.place k) v (low_mark cpu.core cpu.regs a k two (omega (arith, up, within)) (cpu.regs.f + 1) (omega arith) room)
        ∙ ap (λ (c : List Tagged). slice_get c (address_at cpu.core cpu.regs a a.task.place k)) e1
        ∙ slice_get-set_other cpu.core cpu.regs.f (address_at cpu.core cpu.regs a a.task.place k) w (other_level cpu.core cpu.regs a k two (omega (arith, up, within)) cpu.regs.f m.0 m.1 m.2 (λ z. omega (arith, z, none, two))))

  -- two words are put over a top, and none at or below the last mark
  pub holds_over : (new : Cpu) (v : Regs) → SameSlots cpu.regs v → cpu.regs.f ≤ v.s → new.display ≡ cpu.display
      → ((i : ℕ) → (cpu.regs.f < i → i ≤ cpu.regs.losr → ⊥) → slice_get new.core i ≡ slice_get cpu.core i) → HoldsUnder new v cpu.regs.level
  holds_over new v e low d before room core same =
      let last = e.last in
      subst (λ (l : List ℕ). HoldsEnvironment core v l cpu.regs.level) (sym d) (holds_on core cpu.regs v cpu.display cpu.regs.level e.stacks e.size e.dictionary (shown_holds cpu.core cpu.regs a core cpu.display cpu.regs.level shown within (λ k two up.
      (let up' : k ≤ level cpu.core cpu.regs a = omega (arith, up, within) in
      same (address_at cpu.core cpu.regs a a.task.place k)
      (low_mark cpu.core cpu.regs a k two up' (v.s + 1) (omega (arith, low)) (omega (arith, room, last)))
      (low_mark cpu.core cpu.regs a k two up' (v.s + 2) (omega (arith, low)) (omega (arith, room, last)))
      ∙ before (address_at cpu.core cpu.regs a a.task.place k) (λ above inside. low_mark cpu.core cpu.regs a k two up' (address_at cpu.core cpu.regs a a.task.place k) above inside refl)))))

  -- two words are put in the place of an entered mark and its return: the levels below it are held
  pub holds_left : (f : Frame) (below : List Frame) (l environment : ℕ) (back : Option Return) → a.task.frames ≡ f ∷ below → f.standing ≡ State.Entered l environment back → (v : Regs) → SameSlots cpu.regs v → v.s + 1 ≡ cpu.regs.f
      → HoldsUnder cpu v (cpu.regs.level - 1)
  holds_left f below l environment back e entered v same at room core unchanged =
      let last = same.last in
      let m = last_mark cpu.core cpu.regs a f below e in
      let run : level cpu.core cpu.regs a ≡ l = ap (λ (fs : List Frame). level_of_frame (running fs)) e ∙ ap (λ (s : Standing). level_of_frame (running_from s f (running below))) entered ∙ ap level_of_standing entered in
      let high : m.0.level ≡ l = m.3 ∙ ap level_of_standing entered in
      let is = level_is cpu.core cpu.regs a in
      let low = level_low cpu.core cpu.regs a in
      holds_on core cpu.regs v cpu.display (cpu.regs.level - 1) same.stacks same.size same.dictionary (shown_holds cpu.core cpu.regs a core cpu.display (cpu.regs.level - 1) shown (omega (arith, is)) (λ k two up.
      (let up' : k ≤ level cpu.core cpu.regs a = omega (arith, up, is) in
      unchanged (address_at cpu.core cpu.regs a a.task.place k)
      (λ z. other_level cpu.core cpu.regs a k two up' cpu.regs.f m.0 m.1 m.2 (λ y. omega (arith, y, high, run, is, up, low)) (z ∙ at))
      (low_mark cpu.core cpu.regs a k two up' (v.s + 2) (omega (arith, at)) (omega (arith, room, last))))))
