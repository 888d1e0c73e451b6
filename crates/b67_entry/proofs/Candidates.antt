-- What was computed on the registers of the caller, which stand in no register yet.
use Rattle.std.proofs.Common.{◌≡◌, ℕ, List, Result, Ok, sym, true, subst, arith}
use Rattle.b67_word.specs.Tagged.{Tagged}
use Rattle.b67_word.specs.declared.couples.Place.{Place}
use Rattle.b67_word.specs.declared.faults.Fault.{Fault}
use Rattle.b67_ctl.specs.declared.registers.Regs.{Regs}
use Rattle.b67_model.specs.Common.{Answer, Word, Task, SessionJob, AtProc, follow, accident, back_to, Done, cells_of, Session}
use Rattle.b67_layout.specs.Common.{IsInOrderButCounts, Placement, IsRunning, RepresentsSession, IsMade, here}
use Rattle.b67_stack.specs.declared.Cpu.{Cpu}
use Rattle.b67_stack.specs.declared.Step.{Step}
use Rattle.b67_stack.specs.Represents.{Storage}
use Rattle.b67_refer.specs.declared.ends.End.{End}
use Rattle.b67_refer.specs.RunningContext.{RunningContext, IsShown}
use Rattle.b67_refer.specs.Cells.{StandsFor}
use Rattle.b67_refer.specs.Ends.{IsProcAt, EndMeets}
use Rattle.b67_refer.specs.Own.{EndsAt}
use Rattle.b67_entry.specs.Procedures.{CanEnter, EntersOrFaults}
use Rattle.b67_entry.specs.Left.{Returns, caller_regs, caller_stack}
use Rattle.b67_entry.specs.Returned.{with_word, ReturnsWord}
use Rattle.b67_entry.proofs.Leaving.{regs_left}
use Rattle.b67_entry.proofs.Moved.{stands_for}
use Rattle.b67_entry.proofs.Evaluating.{scene, seen}
use Rattle.b67_entry.proofs.Calling.{can_enter}

module _ (x : Storage) (old : Cpu) (plan : Placement) (s : Session) (m : SessionJob) (t : Task) (o : IsInOrderButCounts s) (h : RepresentsSession x old plan s) (runs : IsRunning plan s.jobs m t) (a : Returns m t)
    (r : Regs) (is : r ≡ caller_regs old.regs (caller_stack plan m t a) a.back) where
  -- the display that was built
  pub shown_there : (display : List ℕ) → ((c : RunningContext old.core r) → IsShown c display) → IsShown (scene x old plan s m t o h runs a) display
  shown_there display shown =
      let P : Regs → Type 0 = λ z. ((c : RunningContext old.core z) → IsShown c display) → IsShown (scene x old plan s m t o h runs a) display in
      subst P (sym is) (λ all. all (scene x old plan s m t o h runs a)) shown

  -- what following asks for
  pub follows_there : (v : Word) (w : Tagged) → ReturnsWord x plan m t old a v w → (display : List ℕ) → ((c : RunningContext old.core r) → IsShown c display)
      → (c : RunningContext old.core r) × IsShown c display × (at : ℕ) × (owner : ℕ) × (u : Word) × StandsFor c at owner w u
  follows_there v w b display shown =
      let P : Regs → Type 0 = λ z. ((c : RunningContext old.core z) → IsShown c display) → (c : RunningContext old.core z) × IsShown c display × (at : ℕ) × (owner : ℕ) × (u : Word) × StandsFor c at owner w u in
      subst P (sym is) (λ all. (scene x old plan s m t o h runs a, all (scene x old plan s m t o h runs a), 0, a.next.identity, v, stands_for x old plan s m t o h runs a v w b 0)) shown

  -- the end that was found
  pub found_end : (v : Word) (w : Tagged) → ReturnsWord x plan m t old a v w → (display : List ℕ) (found : Result End Fault) → ((c : RunningContext old.core r) → IsShown c display)
      → ((c : RunningContext old.core r) (q : Place) → IsShown c display → (at owner : ℕ) (u : Word) → StandsFor c at owner w u → EndMeets c q found (follow (here c.member c.task q) u))
      → EndMeets (scene x old plan s m t o h runs a) a.back.place found (follow (seen x old plan s m t o h runs a) v)
  found_end v w b display found shown meets =
      let P : Regs → Type 0 = λ z. ((c : RunningContext old.core z) → IsShown c display)
      → ((c : RunningContext old.core z) (q : Place) → IsShown c display → (at owner : ℕ) (u : Word) → StandsFor c at owner w u → EndMeets c q found (follow (here c.member c.task q) u))
      → EndMeets (scene x old plan s m t o h runs a) a.back.place found (follow (seen x old plan s m t o h runs a) v) in
      subst P (sym is) (λ all ends. ends (scene x old plan s m t o h runs a) a.back.place (all (scene x old plan s m t o h runs a)) 0 a.next.identity v (stands_for x old plan s m t o h runs a v w b 0)) shown meets

  -- what a look at the word alone asks for
  pub stands_there : (v : Word) (w : Tagged) → ReturnsWord x plan m t old a v w → (c : RunningContext old.core r) × (at : ℕ) × (owner : ℕ) × (u : Word) × StandsFor c at owner w u
  stands_there v w b =
      let P : Regs → Type 0 = λ z. (c : RunningContext old.core z) × (at : ℕ) × (owner : ℕ) × (u : Word) × StandsFor c at owner w u in
      subst P (sym is) (scene x old plan s m t o h runs a, 0, a.next.identity, v, stands_for x old plan s m t o h runs a v w b 0)

  -- the end at which it came
  pub end_there : (v : Word) (w : Tagged) → ReturnsWord x plan m t old a v w → (found : End) → EndsAt old.core r w found → EndMeets (scene x old plan s m t o h runs a) a.back.place (Ok found) (follow (seen x old plan s m t o h runs a) v)
  end_there v w b found ends =
      let P : Regs → Type 0 = λ z. EndsAt old.core z w found → EndMeets (scene x old plan s m t o h runs a) a.back.place (Ok found) (follow (seen x old plan s m t o h runs a) v) in
      subst P (sym is) (λ each. each (scene x old plan s m t o h runs a) a.back.place 0 a.next.identity v (stands_for x old plan s m t o h runs a v w b 0)) ends

  -- the machine that was made
  pub made_there : (value : Tagged) (display : List ℕ) (new : Cpu) (answer : Answer Done) → new ≡ with_word old r display value → IsMade x plan s m old (with_word old (regs_left x old plan s m t o h runs a) display value) answer → IsMade x plan s m old new answer
  made_there value display new answer e made = grind arith

  module _ (cell f segment level : ℕ) (place : Place) (p : IsProcAt (scene x old plan s m t o h runs a) a.back.place cell f segment level place) where
    pub enters_there : (c : RunningContext old.core r) × (q : Place) × (g : ℕ) × (n : ℕ) × (l : ℕ) × (first : Place) × CanEnter old r c q cell g n l first
    enters_there =
        let P : Regs → Type 0 = λ z. (c : RunningContext old.core z) × (q : Place) × (g : ℕ) × (n : ℕ) × (l : ℕ) × (first : Place) × CanEnter old z c q cell g n l first in
        subst P (sym is) (scene x old plan s m t o h runs a, a.back.place, f, segment, level, place, can_enter x old plan s m t o h runs a cell f segment level place p)

    pub entered_there : (answered : Step) (new : Cpu)
        → ((c : RunningContext old.core r) (q : Place) (g n l : ℕ) (first : Place) → CanEnter old r c q cell g n l first
        → EntersOrFaults c answered old new (accident (here c.member c.task q) (cells_of (here c.member c.task q)) (back_to (here c.member c.task q) true r.place) (AtProc g n l first)))
        → EntersOrFaults (scene x old plan s m t o h runs a) answered old new (accident (seen x old plan s m t o h runs a) (cells_of (seen x old plan s m t o h runs a)) (back_to (seen x old plan s m t o h runs a) true a.back.place) (AtProc f segment level place))
    entered_there answered new enters =
        let P : Regs → Type 0 = λ z. ((c : RunningContext old.core z) (q : Place) (g n l : ℕ) (first : Place) → CanEnter old z c q cell g n l first
        → EntersOrFaults c answered old new (accident (here c.member c.task q) (cells_of (here c.member c.task q)) (back_to (here c.member c.task q) true z.place) (AtProc g n l first)))
        → EntersOrFaults (scene x old plan s m t o h runs a) answered old new (accident (seen x old plan s m t o h runs a) (cells_of (seen x old plan s m t o h runs a)) (back_to (seen x old plan s m t o h runs a) true a.back.place) (AtProc f segment level place)) in
        subst P (sym is) (λ all. all (scene x old plan s m t o h runs a) a.back.place f segment level place (can_enter x old plan s m t o h runs a cell f segment level place p)) enters
