-- The word that is returned is evaluated in the state without the frame.
use Rattle.std.proofs.Common.{◌≡◌, ◌≢◌, ℕ, ◌<◌, List, [], ◌∷◌, ◌++◌, length, Option, Some, None, Ok, Err, refl, sym, ◌∙◌, ap, arith, true, not, inl, inr, ⊎_elim, subst, slice_index}
use Rattle.std.specs.Prelude.{◌==◌}
use Rattle.std.specs.List.{slice_get}
use Rattle.std.proofs.lemmas.Bool.{true≢false}
use Rattle.std.proofs.lemmas.Bool.Decides.{eqb_tells}
use Rattle.std.proofs.lemmas.Option.{same_Some, slice_get_within}
use Rattle.b67_word.specs.Tagged.{Tagged, word}
use Rattle.b67_word.specs.declared.couples.Place.{Place}
use Rattle.b67_word.specs.declared.faults.Fault.{Fault}
use Rattle.b67_word.specs.declared.faults.Fault.TheVariants.{InvalidOperand}
use Rattle.b67_ctl.specs.declared.registers.Regs.{Regs}
use Rattle.b67_model.specs.Common.{Answer, ◌>>=◌, Word, Operand, Name, Ref, Row, Element, Original, Proc, Intrinsic, Ready, Frame, Array, Task, OperatorContext, SessionJob, all_frames, mcp, element, AtCell, AtElement, AtProc, follow, evaluates, returned, Done, Goes, pushes, Session}
use Rattle.b67_model.specs.Words as Words
use Rattle.b67_model.specs.Chase as Chase
use Rattle.b67_layout.specs.Common.{IsInOrderButCounts, Placement, IsRunning, RepresentsSession, IsMade, FindsAbsent, TouchedIsPresent, area_held, here}
use Rattle.b67_stack.specs.declared.Cpu.{Cpu}
use Rattle.b67_stack.specs.declared.What.TheVariants as what
use Rattle.b67_stack.specs.Represents.{Storage}
use Rattle.b67_layout.proofs.Fresh.{running_in_order}
use Rattle.b67_refer.specs.declared.ends.End.TheVariants as end
use Rattle.b67_refer.specs.RunningContext.{RunningContext, IsShown, live_of}
use Rattle.b67_refer.specs.Cells.{IsCellAt}
use Rattle.b67_refer.specs.Ends.{IsElementOf, IsProcAt, EndMeets}
use Rattle.b67_refer.proofs.Items.{array_is}
use Rattle.b67_exec_cells.specs.Elements.{HasElement}
use Rattle.b67_layout.proofs.Nowhere.{array_stays}
use Rattle.b67_entry.specs.Left.{Returns, here_left}
use Rattle.b67_entry.specs.Returned.{with_word, ReturnsWord}
use Rattle.b67_law.proofs.Follows.{follow_same}
use Rattle.b67_entry.proofs.Heres.{flat_same}
use Rattle.b67_entry.proofs.Leaving.{member_at, task_left, regs_left, scene_left}
use Rattle.b67_entry.proofs.Putting.{height_left}
use Rattle.b67_entry.proofs.Replacing.{frames_with, job_with, Puts, puts_operand, stands_with, changed_with}
use Rattle.b67_lemmas.proofs.Members.{change_twice, has_filter}
use Rattle.b67_law.proofs.Maps.{IsOperand}

-- a word that isn't an operand is followed
follows : (h : OperatorContext) (v : Word) → (IsOperand v → ⊥) → returned h v true ≡ (follow h v >>= evaluates h)
follows h (Operand bits) n = absurd (n tt)
follows h (Name couple) n = refl
follows h (Ref f offset) n = refl
follows h (Row a) n = refl
follows h (Element a index) n = refl
follows h (Original a) n = refl
follows h (Proc segment level place) n = refl
follows h (Intrinsic number) n = refl
follows h (Words.Segment number) n = refl

-- what was found tells the end
module _ {core : List Tagged} {r : Regs} (c : RunningContext core r) (q : Place) where
  pub fault_end : (f : Fault) (a : Answer Chase.End) → EndMeets c q (Err f) a → a ≡ Err f
  fault_end f a k = grind arith

  pub cell_end : (at : ℕ) (a : Answer Chase.End) → EndMeets c q (Ok (end.Cell at)) a → (f : ℕ) × (offset : ℕ) × (bits : ℕ) × (a ≡ Ok (AtCell f offset bits)) × IsCellAt c q at f offset (Operand bits)
  cell_end at a k = grind arith

  pub element_end : (original index : ℕ) (a : Answer Chase.End) → EndMeets c q (Ok (end.Element original index)) a → (n : ℕ) × (a ≡ Ok (AtElement n index)) × IsElementOf c q original n index
  element_end original index a k = grind arith

  pub proc_end : (at : ℕ) (a : Answer Chase.End) → EndMeets c q (Ok (end.Proc at)) a → (f : ℕ) × (segment : ℕ) × (level : ℕ) × (place : Place) × (a ≡ Ok (AtProc f segment level place)) × IsProcAt c q at f segment level place
  proc_end at a k = grind arith

  array_end : (h : OperatorContext) (original : ℕ) (a : Answer Chase.End) → EndMeets c q (Ok (end.Array original)) a → (a >>= evaluates h) ≡ Err InvalidOperand
  array_end h original a k = grind arith

  intrinsic_end : (h : OperatorContext) (number : ℕ) (a : Answer Chase.End) → EndMeets c q (Ok (end.Intrinsic number)) a → (a >>= evaluates h) ≡ Err InvalidOperand
  intrinsic_end h number a k = grind arith

module _ (x : Storage) (old : Cpu) (plan : Placement) (s : Session) (m : SessionJob) (t : Task) (o : IsInOrderButCounts s) (h : RepresentsSession x old plan s) (runs : IsRunning plan s.jobs m t) (a : Returns m t) where
  abbrev pub scene : RunningContext old.core (regs_left x old plan s m t o h runs a)
  scene = scene_left x old plan s m t o h runs a

  -- where references are followed
  abbrev pub seen : OperatorContext
  seen = here (member_at x old plan s m t o h runs a Ready) (task_left x old plan s m t o h runs a Ready) a.back.place

  pub frames_same : all_frames (here_left m t a) ≡ all_frames seen
  frames_same = ap (λ (fs : List Frame). fs ++ (m.constants.dictionary ∷ mcp ∷ [])) (flat_same t.number (here_left m t a).task (task_left x old plan s m t o h runs a Ready) m.progress.job.tasks refl)

  pub answer_is : (v : Word) → (IsOperand v → ⊥) → returned (here_left m t a) v true ≡ (follow seen v >>= evaluates (here_left m t a))
  answer_is v n = follows (here_left m t a) v n ∙ ap (λ (e : Answer Chase.End). e >>= evaluates (here_left m t a)) (follow_same (here_left m t a) seen frames_same refl refl v)

  -- a word that is pushed there
  pushes_there : (u : Word) (touched : Option ℕ) → pushes (here_left m t a) u touched ≡ Ok (Goes (job_with x old plan s m t o h runs a (frames_with x old plan s m t o h runs a (u ∷ a.next.cells)) t.condition) [] touched)
  pushes_there u touched = grind (arith, change_twice, height_left)

  pub put_made : (u : Word) (w : Tagged) → Puts x old plan s m t o h runs a u w → (touched : Option ℕ) → TouchedIsPresent x plan m.constants.number touched → (display : List ℕ) → IsShown scene display → (answer : Answer Done) → answer ≡ pushes (here_left m t a) u touched
      → IsMade x plan s m old (with_word old (regs_left x old plan s m t o h runs a) display w) answer
  put_made u w put touched present display shown answer is = record {
    job = job_with x old plan s m t o h runs a (frames_with x old plan s m t o h runs a (u ∷ a.next.cells)) t.condition;
    touched = touched;
    is = is ∙ pushes_there u touched;
    present = present;
    stands = stands_with x old plan s m t o h runs a u w put display shown;
    changed = λ i. ⊎_elim (λ z. inl z) (λ z. inr (inl z)) (changed_with x old plan s m t o h runs a u w put i);
  }

  module _ (v : Word) (w : Tagged) (b : ReturnsWord x plan m t old a v w) (not_operand : IsOperand v → ⊥) where
    -- at the cell of an operand
    module _ (at : ℕ) (k : EndMeets scene a.back.place (Ok (end.Cell at)) (follow seen v)) where
      pub cell_inside : at < length old.core
      cell_inside = let c = (cell_end scene a.back.place at (follow seen v) k).4 in slice_get_within old.core at c.word c.there

      pub cell_made : (value : Tagged) (display : List ℕ) → slice_get old.core at ≡ Some value → IsShown scene display → IsMade x plan s m old (with_word old (regs_left x old plan s m t o h runs a) display value) (returned (here_left m t a) v true)
      cell_made value display there shown =
          let (f, offset, bits, is, c) = cell_end scene a.back.place at (follow seen v) k in
          let same : value ≡ word 0 bits = same_Some value c.word (sym there ∙ c.there) ∙ c.stands.0.0 in
          let Q : Tagged → Type 0 = λ z. IsMade x plan s m old (with_word old (regs_left x old plan s m t o h runs a) display z) (returned (here_left m t a) v true) in
          subst Q (sym same) (put_made (Operand bits) (word 0 bits) (puts_operand x old plan s m t o h runs a bits) None tt display shown (returned (here_left m t a) v true)
          (answer_is v not_operand ∙ ap (λ (e : Answer Chase.End). e >>= evaluates (here_left m t a)) is))

    -- at an element of an array
    module _ (original number index : ℕ) (is : follow seen v ≡ Ok (AtElement number index)) (q : IsElementOf scene a.back.place original number index) where
      -- the array, with its element
      pub element_there : HasElement m.progress.job number index
      element_there = record { item = q.array_of.names.item; live = (has_filter (λ (z : Array). not (z.owner == a.f.identity)) m.progress.job.arrays q.array_of.names.item q.array_of.names.live).0; named = q.array_of.names.named; inside = subst (λ (z : Array). index < length z.numbers) (array_is old.core (regs_left x old plan s m t o h runs a) (live_of scene) number q.array_of.names) q.inside }

      element_same : element (here_left m t a).job number index ≡ element m.progress.job number index
      element_same =
          let live = has_filter (λ (z : Array). not (z.owner == a.f.identity)) m.progress.job.arrays q.array_of.names.item q.array_of.names.live in
          let apart : q.array_of.names.item.owner ≢ a.f.identity = λ e. elim (eqb_tells q.array_of.names.item.owner a.f.identity) [ inl z ↦ true≢false (sym live.1 ∙ ap not z.0) | inr z ↦ z.1 e ] in
          let same = array_stays (here_left m t a).job m.progress.job a.f.identity refl (running_in_order plan s m t o runs).0.tasks.names q.array_of.names.item live.0 apart in
          ap (λ (n : ℕ). element (here_left m t a).job n index) (sym q.array_of.names.named) ∙ ap (λ (z : Array). slice_index z.numbers index) same ∙ ap (λ (n : ℕ). element m.progress.job n index) q.array_of.names.named

      element_answer : returned (here_left m t a) v true ≡ pushes (here_left m t a) (Operand (element m.progress.job number index)) (Some number)
      element_answer = grind (arith, answer_is, element_same)

      pub element_made : (at : ℕ) (value : Tagged) (display : List ℕ) → area_held x plan m.constants.number number ≡ Some at → value ≡ word 0 (element m.progress.job number index) → IsShown scene display
          → IsMade x plan s m old (with_word old (regs_left x old plan s m t o h runs a) display value) (returned (here_left m t a) v true)
      element_made at value display held same shown =
          let Q : Tagged → Type 0 = λ z. IsMade x plan s m old (with_word old (regs_left x old plan s m t o h runs a) display z) (returned (here_left m t a) v true) in
          subst Q (sym same) (put_made (Operand (element m.progress.job number index)) (word 0 (element m.progress.job number index)) (puts_operand x old plan s m t o h runs a (element m.progress.job number index)) (Some number) (at, held) display shown (returned (here_left m t a) v true) element_answer)

      pub element_absent : area_held x plan m.constants.number number ≡ None → FindsAbsent x plan m (what.Array original) (returned (here_left m t a) v true)
      element_absent none = record {
        job = job_with x old plan s m t o h runs a (frames_with x old plan s m t o h runs a (Operand (element m.progress.job number index) ∷ a.next.cells)) t.condition;
        touched = number;
        is = element_answer ∙ pushes_there (Operand (element m.progress.job number index)) (Some number);
        absent = none;
        named = ap what.Array q.array_of.home;
      }

    pub array_refused : (original : ℕ) → EndMeets scene a.back.place (Ok (end.Array original)) (follow seen v) → returned (here_left m t a) v true ≡ Err InvalidOperand
    array_refused original k = answer_is v not_operand ∙ array_end scene a.back.place (here_left m t a) original (follow seen v) k

    pub intrinsic_refused : (number : ℕ) → EndMeets scene a.back.place (Ok (end.Intrinsic number)) (follow seen v) → returned (here_left m t a) v true ≡ Err InvalidOperand
    intrinsic_refused number k = answer_is v not_operand ∙ intrinsic_end scene a.back.place (here_left m t a) number (follow seen v) k

    pub fault_refused : (fault : Fault) → EndMeets scene a.back.place (Err fault) (follow seen v) → returned (here_left m t a) v true ≡ Err fault
    fault_refused fault k = answer_is v not_operand ∙ ap (λ (z : Answer Chase.End). z >>= evaluates (here_left m t a)) (fault_end scene a.back.place fault (follow seen v) k)
