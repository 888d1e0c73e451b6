-- A store into a procedure: the value stays, the reference goes, and the procedure is entered.
use Rattle.std.proofs.Common.{◌≡◌, ◌≢◌, ℕ, ◌+◌, ◌-◌, ◌<◌, ◌≤◌, List, [], ◌∷◌, ◌++◌, map, length, Ok, Err, refl, sym, ◌∙◌, ap, arith, cond, Bool, false, ◌⊎◌, ⊎_elim, subst, slice_set}
use Rattle.std.specs.List.{slice_get}
use Rattle.std.proofs.lemmas.Bool.{cases_eq}
use Rattle.std.proofs.lemmas.Option.{same_Some}
use Rattle.b67_word.specs.Tagged.{Tagged}
use Rattle.b67_word.specs.declared.couples.Place.{Place}
use Rattle.b67_word.specs.declared.faults.Fault.{Fault}
use Rattle.b67_word.specs.declared.faults.Fault.TheVariants.{InvalidIndex}
use Rattle.b67_core.proofs.Writes.{slice_get-set_other}
use Rattle.b67_model.specs.Common.{Answer, AtElement, AtProc, follow, accident, back_to, Starts, Known, known_of, outer_of, is_original_of, IsSegment, CellsInOrder, FramesInOrder, is_original, Session, Frame, Array, Task, SessionJob, OperatorContext, top, with_task, Done, cells_of, Word, Operand, Proc, operand}
use Rattle.b67_model.specs.Chase as Chase
use Rattle.b67_layout.specs.Common.{IsInOrderButCounts, Placement, IsRunning, SessionHoldsBut, RepresentsSession, here, with_job, Meets, IsWordOf, IsAt, cells}
use Rattle.b67_lemmas.specs.Lists.{Has, how_many}
use Rattle.b67_lemmas.proofs.Places.{set-back}
use Rattle.b67_model.specs.Rows as rows
use Rattle.b67_stack.specs.declared.Cpu.{Cpu}
use Rattle.b67_stack.specs.declared.Step.{Step}
use Rattle.b67_stack.specs.declared.Step.TheVariants as step
use Rattle.b67_stack.specs.Represents.{Storage}
use Rattle.b67_layout.proofs.Common.{task_with, running_in_order, cells_in_order}
use Rattle.b67_exec_cells.proofs.Replaced.{height-with}
use Rattle.b67_exec_cells.proofs.Put.{room, replaced_stands}
use Rattle.b67_refer.specs.RunningContext.{RunningContext}
use Rattle.b67_refer.specs.Ends.{IsProcAt}
use Rattle.b67_entry.specs.Procedures.{CanEnter, EntersOrFaults}
use Rattle.b67_fetch.proofs.Values.{here_scene}
use Rattle.b67_exec.proofs.Entries.{EntersOver, scene0, member0, task0, proc_moves, can_enter, entered}
use Rattle.b67_exec.proofs.Entered.{AtProcedure}

-- the value of an operand
pub is_operand : (b : Word) (bits : ℕ) → operand b ≡ Ok bits → b ≡ Operand bits
is_operand b bits e = grind arith

-- what leads to a procedure is a reference
leads_plain : (h : OperatorContext) (a : Word) (f segment level : ℕ) (place : Place) → follow h a ≡ Ok (AtProc f segment level place) → is_original a ≡ false
leads_plain h a f segment level place e = grind arith

-- an element is no procedure, whether its index is below the length or not
no_element : (test : Bool) (b k f segment level : ℕ) (place : Place) → (let end : Answer Chase.End = cond test (Ok (AtElement b k)) (Err InvalidIndex) in end ≡ Ok (AtProc f segment level place)) → ⊥
no_element test b k f segment level place e = grind arith

leads_tag : (x : Storage) (plan : Placement) (m : SessionJob) (t : Task) (h : OperatorContext) (a : Word) (at : ℕ) (u : Tagged) (f segment level : ℕ) (place : Place) → follow h a ≡ Ok (AtProc f segment level place) → IsWordOf x plan m t a at u → u.tag ≡ 1
leads_tag x plan m t h a at u f segment level place e i = grind arith

-- the cells with the value in the reference's place
value_order : (P : Starts) (arrays : List Array) (outer : List Known) (fs : List Frame) (bits : ℕ) (a : Word) (rest : List Word) → FramesInOrder P arrays outer fs → (top fs).cells ≡ Operand bits ∷ a ∷ rest
    → CellsInOrder P arrays (map known_of fs ++ outer) (top fs).identity (Operand bits ∷ rest)
value_order P arrays outer [] bits a rest o e = absurd (let z : ⊥ = cc in z)
value_order P arrays outer (f ∷ below) bits a rest o e = grind arith

originals_without : (n bits : ℕ) (a : Word) (rest : List Word) → is_original a ≡ false → how_many (is_original_of n) (Operand bits ∷ rest) ≡ how_many (is_original_of n) (Operand bits ∷ a ∷ rest)
originals_without n bits a rest e = grind arith

no_proc : (h : OperatorContext) (bits : ℕ) (a : Word) (f segment level : ℕ) (place : Place) → follow h a ≡ Ok (AtProc f segment level place) → (g l : ℕ) (p : Place) → Has (Operand bits ∷ a ∷ []) (Proc g l p) → ⊥
no_proc h bits a f segment level place e g l p k = grind arith

module _ (x : Storage) (cpu : Cpu) (plan : Placement) (s : Session) (m : SessionJob) (t : Task) (ordered : IsInOrderButCounts s) (h : RepresentsSession x cpu plan s) (runs : IsRunning plan s.jobs m t) (q : Place)
    (bits : ℕ) (a : Word) (rest : List Word) (e : cells t ≡ Operand bits ∷ a ∷ rest) (p : AtProcedure (follow (here m t q) a)) (u v : Tagged)
    (at_u : IsAt x plan m t cpu.core a (cpu.regs.s - 1) u) (at_v : IsAt x plan m t cpu.core (Operand bits) cpu.regs.s v) (enough : cpu.regs.f + 2 ≤ cpu.regs.s) where
  plain : is_original a ≡ false
  plain = leads_plain (here m t q) a p.frame p.segment p.level p.place p.is

  pub under_ordered : IsInOrderButCounts (with_job s m (with_task m.progress.job (task_with t (Operand bits ∷ rest) t.place)))
  under_ordered =
      let i = running_in_order plan s m t ordered runs in
      let tall = height-with t.frames (Operand bits ∷ rest) i.1.some in
      let low = i.1.not_higher in
      cells_in_order plan s m t ordered runs (Operand bits ∷ rest) t.place (value_order (IsSegment m.constants) m.progress.job.arrays (outer_of m.progress.job t) t.frames bits a rest i.1.frames e)
      (λ n. originals_without n bits a rest plain ∙ ap (how_many (is_original_of n)) (sym e)) (omega (arith, tall, low, ap length e)) i.1.place.word_fits i.1.place.syllable_fits

  abbrev pub under_cpu : Cpu
  under_cpu = record cpu { core = slice_set cpu.core (cpu.regs.s - 1) v }

  pub under_holds : SessionHoldsBut [] x (slice_set cpu.core (cpu.regs.s - 1) v) (record cpu.regs { s = cpu.regs.s - 1 }) cpu.critical plan (with_job s m (with_task m.progress.job (task_with t (Operand bits ∷ rest) t.place)))
  under_holds =
      let r = room x cpu plan s m t ordered h runs in
      let d = (replaced_stands x cpu plan s m t ordered h runs 2 (cpu.regs.s - 1) v t.place (Operand bits ∷ a ∷ []) rest (Operand bits) e refl enough (omega (arith, enough)) (omega (arith, r.last)) (refl, (plain, tt)) tt at_v.is).holds in
      grind arith

  abbrev pub under_scene : RunningContext (slice_set cpu.core (cpu.regs.s - 1) v) (record cpu.regs { s = cpu.regs.s - 1 })
  under_scene = scene0 x cpu plan s m t ordered h runs (Operand bits ∷ rest) under_ordered under_cpu (cpu.regs.s - 1) refl under_holds

  pub under_enters : (cell : ℕ) → IsProcAt (here_scene x cpu plan s m t ordered h runs) q cell p.frame p.segment p.level p.place → CanEnter under_cpu (record cpu.regs { s = cpu.regs.s - 1 }) under_scene q cell p.frame p.segment p.level p.place
  under_enters cell i =
      can_enter x cpu plan s m t ordered h runs (Operand bits ∷ rest) under_ordered under_cpu (cpu.regs.s - 1) refl under_holds refl q cell p.frame p.segment p.level p.place
      (proc_moves x cpu plan s m t ordered h runs (Operand bits ∷ rest) under_ordered under_cpu (cpu.regs.s - 1) refl under_holds q (Operand bits ∷ a ∷ []) rest (Operand bits ∷ []) cell p.frame p.segment p.level p.place e refl
      (λ g l z k. no_proc (here m t q) bits a p.frame p.segment p.level p.place p.is g l z k)
      (λ k w there tag. ⊎_elim
      (λ (z : k ≡ cpu.regs.s - 1). absurd (let one = leads_tag x plan m t (here m t q) a (cpu.regs.s - 1) u p.frame p.segment p.level p.place p.is at_u.is in
      let same : u ≡ w = same_Some u w (sym at_u.found ∙ ap (slice_get cpu.core) (sym z) ∙ there) in let seven : u.tag ≡ 7 = ap (λ (y : Tagged). y.tag) same ∙ tag in omega (arith, one, seven)))
      (λ (z : k ≡ cpu.regs.s - 1 → ⊥). slice_get-set_other cpu.core (cpu.regs.s - 1) k v z ∙ there) (cases_eq k (cpu.regs.s - 1)))
      i)

  under_within : (i : ℕ) → (slice_get (slice_set cpu.core (cpu.regs.s - 1) v) i ≡ slice_get cpu.core i) ⊎ ((cpu.regs.bosr < i) × (i ≤ cpu.regs.losr))
  under_within i = grind (arith, room, slice_get-set_other)

  -- the row of a store
  store_row : (keeps : Bool) → rows.store keeps (here m t q) (Operand bits ∷ a ∷ rest) ≡ accident (here m t q) (Operand bits ∷ rest) (back_to (here m t q) false t.place) (AtProc p.frame p.segment p.level p.place)
  store_row keeps = grind arith

  -- what was answered, against the row
  pub under_made : (keeps : Bool) (r : Step) (new : Cpu) → ((n : Fault) → r ≢ step.Fault n)
      → EntersOrFaults under_scene r under_cpu new (accident (here (member0 x cpu plan s m t ordered h runs (Operand bits ∷ rest) under_ordered under_cpu (cpu.regs.s - 1) refl under_holds) (task0 x cpu plan s m t ordered h runs (Operand bits ∷ rest) under_ordered under_cpu (cpu.regs.s - 1) refl under_holds) q)
      (cells_of (here (member0 x cpu plan s m t ordered h runs (Operand bits ∷ rest) under_ordered under_cpu (cpu.regs.s - 1) refl under_holds) (task0 x cpu plan s m t ordered h runs (Operand bits ∷ rest) under_ordered under_cpu (cpu.regs.s - 1) refl under_holds) q))
      (back_to (here (member0 x cpu plan s m t ordered h runs (Operand bits ∷ rest) under_ordered under_cpu (cpu.regs.s - 1) refl under_holds) (task0 x cpu plan s m t ordered h runs (Operand bits ∷ rest) under_ordered under_cpu (cpu.regs.s - 1) refl under_holds) q) false cpu.regs.place)
      (AtProc p.frame p.segment p.level p.place))
      → Meets x plan s m r cpu new (rows.store keeps (here m t q) (cells t))
  under_made keeps r new other i =
      let over = entered x cpu plan s m t ordered h runs (Operand bits ∷ rest) under_ordered under_cpu (cpu.regs.s - 1) refl under_holds under_within r new q false cpu.regs.place p.frame p.segment p.level p.place i in
      let B : Place → Type 0 = λ z. EntersOver x plan s m r cpu under_cpu new (accident (here m t q) (Operand bits ∷ rest) (back_to (here m t q) false z) (AtProc p.frame p.segment p.level p.place)) in
      let O : Answer Done → Type 0 = λ z. EntersOver x plan s m r cpu under_cpu new z in
      let C : List Word → Type 0 = λ cs. Meets x plan s m r cpu new (rows.store keeps (here m t q) cs) in
      subst C (sym e) (by_step r other (subst O (sym (store_row keeps)) (subst B (h.holds.running m t runs).place over))) where
        by_step : (z : Step) → ((n : Fault) → z ≢ step.Fault n) → EntersOver x plan s m z cpu under_cpu new (rows.store keeps (here m t q) (Operand bits ∷ a ∷ rest)) → Meets x plan s m z cpu new (rows.store keeps (here m t q) (Operand bits ∷ a ∷ rest))
        by_step step.Done other i = i
        by_step (step.Fault n) other i = absurd (other n refl)
        by_step (step.Absent w) other i = absurd i
        by_step (step.Call n) other i = i
        by_step step.Ended other i = absurd i

  -- a fault: the word that was moved goes back
  pub under_fault : (keeps : Bool) (fault : Fault) (new : Cpu)
      → EntersOrFaults under_scene (step.Fault fault) under_cpu new (accident (here (member0 x cpu plan s m t ordered h runs (Operand bits ∷ rest) under_ordered under_cpu (cpu.regs.s - 1) refl under_holds) (task0 x cpu plan s m t ordered h runs (Operand bits ∷ rest) under_ordered under_cpu (cpu.regs.s - 1) refl under_holds) q)
      (cells_of (here (member0 x cpu plan s m t ordered h runs (Operand bits ∷ rest) under_ordered under_cpu (cpu.regs.s - 1) refl under_holds) (task0 x cpu plan s m t ordered h runs (Operand bits ∷ rest) under_ordered under_cpu (cpu.regs.s - 1) refl under_holds) q))
      (back_to (here (member0 x cpu plan s m t ordered h runs (Operand bits ∷ rest) under_ordered under_cpu (cpu.regs.s - 1) refl under_holds) (task0 x cpu plan s m t ordered h runs (Operand bits ∷ rest) under_ordered under_cpu (cpu.regs.s - 1) refl under_holds) q) false cpu.regs.place)
      (AtProc p.frame p.segment p.level p.place))
      → (rows.store keeps (here m t q) (cells t) ≡ Err fault) × (new ≡ record cpu { core = slice_set cpu.core (cpu.regs.s - 1) v }) × (slice_set (slice_set cpu.core (cpu.regs.s - 1) v) (cpu.regs.s - 1) u ≡ cpu.core)
  under_fault keeps fault new i =
      let over = entered x cpu plan s m t ordered h runs (Operand bits ∷ rest) under_ordered under_cpu (cpu.regs.s - 1) refl under_holds under_within (step.Fault fault) new q false cpu.regs.place p.frame p.segment p.level p.place i in
      grind (arith, set-back)
