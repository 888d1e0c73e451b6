-- RETN whose word goes on the caller's record at once, or is evaluated first.
use Rattle.std.proofs.Common.{◌≡◌, ℕ, ◌+◌, ◌<◌, ◌≤◌, List, ◌∷◌, length, None, Ok, sym, ◌∙◌, ap, arith, true, false, inl, inr, ◌⊎◌, ⊎_elim, subst}
use Rattle.std.specs.List.{slice_get}
use Rattle.b67_word.specs.Tagged.{Tagged}
use Rattle.b67_word.specs.declared.couples.Place.{Place}
use Rattle.b67_core.proofs.Writes.{slice_get-set_other}
use Rattle.b67_ctl.specs.declared.registers.Regs.{Regs}
use Rattle.b67_model.specs.Common.{Answer, Word, Frame, Task, SessionJob, height, top, returnable, returned, retn, Done, is_critical, Session}
use Rattle.b67_layout.specs.Common.{IsInOrderButCounts, Placement, stack_of_task, machine_view, IsRunning, RepresentsSession, Meets, IsMade, here}
use Rattle.b67_stack.specs.declared.Cpu.{Cpu}
use Rattle.b67_stack.specs.declared.Step.{Step}
use Rattle.b67_stack.specs.Represents.{Storage}
use Rattle.b67_stack.proofs.Pushes.{room_of}
use Rattle.b67_layout.proofs.Fresh.{running_in_order}
use Rattle.b67_layout.proofs.Starts.{runs_here}
use Rattle.b67_refer.specs.RunningContext.{RunningContext, IsShown}
use Rattle.b67_entry.specs.Left.{Returns, caller_regs, caller_stack, here_left}
use Rattle.b67_entry.specs.Returned.{with_word, ReturnsWord}
use Rattle.b67_entry.proofs.Leaving.{scene_left}
use Rattle.b67_entry.proofs.Replacing.{frames_with, job_with, puts_word, top_inside, stands_with, changed_with}
use Rattle.b67_entry.proofs.Retns.{retn_left, retn_pushed}
use Rattle.b67_law.proofs.Maps.{IsOperand}
use Rattle.b67_layout.proofs.Apart.{some_words}

-- a word was put on the stack: those above it stay, and the top is one higher
pub put_above : (old : Cpu) (r : Regs) (display : List ℕ) (w : Tagged) (new : Cpu) → new ≡ with_word old r display w → (i : ℕ) → new.regs.s < i → slice_get new.core i ≡ slice_get old.core i
put_above old r display w new e i low = grind (arith, slice_get-set_other)

pub put_top : (old : Cpu) (r : Regs) (display : List ℕ) (w : Tagged) (new : Cpu) → new ≡ with_word old r display w → (r.s < new.regs.s) × (new.regs.s ≤ r.s + 2)
put_top old r display w new e = let top = ap (λ (k : Cpu). k.regs.s) e in (omega arith, omega arith)

module _ (x : Storage) (old : Cpu) (plan : Placement) (s : Session) (m : SessionJob) (t : Task) (o : IsInOrderButCounts s) (h : RepresentsSession x old plan s) (runs : IsRunning plan s.jobs m t) (a : Returns m t) where
  -- no live task depends on the frame, which is the top one
  pub free_top : is_critical m.progress.job (top t.frames).identity ≡ false
  free_top = ap (λ (fs : List Frame). is_critical m.progress.job (top fs).identity) a.frames ∙ a.free

  -- the caller's frame has room
  pub height_left : height (a.next ∷ a.more) + 1 ≤ m.constants.stack_size
  height_left =
      let lower : height (a.next ∷ a.more) + 1 ≤ height t.frames = subst (λ (fs : List Frame). height (a.next ∷ a.more) + 1 ≤ height fs) (sym a.frames) (omega (arith, some_words a.f.standing)) in
      omega (arith, lower, (running_in_order plan s m t o runs).1.not_higher)

  pub room_left : (r : Regs) → r ≡ caller_regs old.regs (caller_stack plan m t a) a.back → r.s + 1 < length old.core
  room_left r e =
      let i = top_inside x old plan s m t o h runs a in
      let g = room_of x old.core old.regs (machine_view plan s.jobs) old.regs.slot (stack_of_task plan m.constants.number m.progress.job plan.running t) h.holds.memory (runs_here x old plan s m t h runs) in
      omega (arith, ap (λ (z : Regs). z.s) e, i, g.under, g.inside)

  module _ (v : Word) (w : Tagged) (b : ReturnsWord x plan m t old a v w) (q : Place) where
    passes_top : returnable m.progress.job (top t.frames).identity v ≡ Ok v
    passes_top = ap (λ (fs : List Frame). returnable m.progress.job (top fs).identity v) a.frames ∙ b.passes

    first_cells : a.f.cells ≡ v ∷ b.word.rest
    first_cells = (let e : b.word.frame ∷ b.word.below ≡ a.f ∷ a.next ∷ a.more = sym b.word.frames ∙ a.frames in let f : b.word.frame ≡ a.f = cc in ap (λ (g : Frame). g.cells) (sym f) ∙ b.word.cells)

    -- the value is that of the evaluation
    pub evaluated : (step : Step) (new : Cpu) → a.back.value ≡ true → Meets x plan s m step old new (returned (here_left m t a) v true) → Meets x plan s m step old new (retn (here m t q))
    evaluated step new e made =
        let is = retn_left m t q a.f a.next a.more a.level a.environment a.back a.frames a.entered v b.word.rest first_cells passes_top free_top in
        subst (λ (answer : Answer Done). Meets x plan s m step old new answer) (ap (returned (here_left m t a) v) (sym e) ∙ sym is) made

    -- the word goes on the caller's record
    pub put_done : (r : Regs) (display : List ℕ) (new : Cpu) → (a.back.value ≡ false) ⊎ IsOperand v → r ≡ caller_regs old.regs (caller_stack plan m t a) a.back → ((c : RunningContext old.core r) → IsShown c display) → new ≡ with_word old r display w
        → IsMade x plan s m old new (retn (here m t q))
    put_done r display new once e shown is =
        let P : Regs → Type 0 = λ z. ((c : RunningContext old.core z) → IsShown c display) → IsMade x plan s m old (with_word old z display w) (retn (here m t q)) in
        let Q : Cpu → Type 0 = λ z. IsMade x plan s m old z (retn (here m t q)) in
        let put = puts_word x old plan s m t o h runs a v w b in
        subst Q (sym is) (subst P (sym e) (λ show. record {
          job = job_with x old plan s m t o h runs a (frames_with x old plan s m t o h runs a (v ∷ a.next.cells)) t.condition;
          touched = None;
          is = retn_pushed m t q a.f a.next a.more a.level a.environment a.back a.frames a.entered v b.word.rest first_cells passes_top free_top once height_left;
          present = tt;
          stands = stands_with x old plan s m t o h runs a v w put display (show (scene_left x old plan s m t o h runs a));
          changed = λ i. ⊎_elim (λ z. inl z) (λ z. inr (inl z)) (changed_with x old plan s m t o h runs a v w put i);
        }) shown)
