-- The entry where the value stands over the reference, by what was read.
use Rattle.std.proofs.Common.{◌≡◌, ◌≢◌, ℕ, ◌-◌, ◌<◌, ◌≤◌, List, ◌∷◌, ◌++◌, map, length, Err, refl, sym, ◌∙◌, ap, arith, Bool, false, subst, slice_set}
use Rattle.std.specs.List.{slice_get}
use Rattle.b67_core.proofs.Writes.{slice_get-set_other}
use Rattle.b67_word.specs.Tagged.{Tagged}
use Rattle.b67_word.specs.declared.couples.Place.{Place}
use Rattle.b67_word.specs.declared.faults.Fault.{Fault}
use Rattle.b67_ctl.specs.Layout.{IsPlace}
use Rattle.b67_ctl.specs.declared.registers.Regs.{Regs}
use Rattle.b67_model.specs.Common.{AtProc, follow, accident, back_to, Starts, IsSegment, Known, known_of, outer_of, FramesInOrder, WordInOrder, Session, Frame, Array, Task, SessionJob, top, cells_of, Word, Operand}
use Rattle.b67_layout.specs.Common.{IsInOrderButCounts, Placement, IsRunning, RepresentsSession, here, Meets, cells}
use Rattle.b67_model.specs.Rows as rows
use Rattle.b67_stack.specs.declared.Cpu.{Cpu}
use Rattle.b67_stack.specs.declared.Step.{Step}
use Rattle.b67_stack.specs.declared.Step.TheVariants as step
use Rattle.b67_stack.specs.Represents.{Storage}
use Rattle.b67_layout.proofs.Fresh.{running_in_order}
use Rattle.b67_exec_cells.proofs.Put.{room}
use Rattle.b67_refer.specs.RunningContext.{RunningContext}
use Rattle.b67_refer.specs.Ends.{IsProcAt}
use Rattle.b67_entry.specs.Procedures.{CanEnter, EntersOrFaults, HoldsUnder}
use Rattle.b67_entry.proofs.Environments.{holds_over}
use Rattle.b67_fetch.specs.Fetches.{IsFollowed}
use Rattle.b67_fetch.proofs.Values.{here_scene, here_shown, followed_stands}
use Rattle.b67_exec.specs.Procedures.{LeadsToProcedure}
use Rattle.b67_exec.proofs.Entered.{AtProcedure}
use Rattle.b67_exec.specs.Stores.{ValueOver}
use Rattle.b67_exec.proofs.Unders.{under_scene, under_enters, under_made, under_fault}

second_order : (P : Starts) (arrays : List Array) (outer : List Known) (fs : List Frame) (b a : Word) (rest : List Word) → FramesInOrder P arrays outer fs → (top fs).cells ≡ b ∷ a ∷ rest → WordInOrder P arrays (map known_of fs ++ outer) (top fs).identity a
second_order P arrays outer fs b a rest o e = grind arith

-- what accidental entry requires and answers on other registers
abbrev pub MayEnter : Cpu → Regs → ℕ → Type 0
MayEnter cpu r cell = (a : RunningContext cpu.core r) × (q : Place) × (f : ℕ) × (segment : ℕ) × (level : ℕ) × (place : Place) × CanEnter cpu r a q cell f segment level place

abbrev pub Enters : Cpu → Regs → ℕ → Place → Step → Cpu → Type 0
Enters cpu r cell back result new =
    (a : RunningContext cpu.core r) (q : Place) (f segment level : ℕ) (place : Place) → CanEnter cpu r a q cell f segment level place
    → EntersOrFaults a result cpu new (accident (here a.member a.task q) (cells_of (here a.member a.task q)) (back_to (here a.member a.task q) false back) (AtProc f segment level place))

module _ (x : Storage) (cpu : Cpu) (plan : Placement) (s : Session) (m : SessionJob) (t : Task) (ordered : IsInOrderButCounts s) (h : RepresentsSession x cpu plan s) (runs : IsRunning plan s.jobs m t) (q : Place) (u v : Tagged) (o : ValueOver cpu x plan m t q u v) where
  abbrev pub proc_of : AtProcedure (follow (here m t q) o.reference)
  proc_of = record { frame = o.frame; segment = o.segment; level = o.level; place = o.place; is = o.ends }

  pub leads_under : LeadsToProcedure cpu (here_scene x cpu plan s m t ordered h runs) q u o.frame o.segment o.level o.place
  leads_under =
      let i : IsFollowed x plan m t u o.reference = record {
        at = cpu.regs.s - 1;
        owner = (top t.frames).identity;
        is = o.under.is;
        ordered = second_order (IsSegment m.constants) m.progress.job.arrays (outer_of m.progress.job t) t.frames (Operand o.bits) o.reference o.rest (running_in_order plan s m t ordered runs).1.frames o.is;
      } in
      record { shown = here_shown x cpu plan s m t ordered h runs; at = i.at; owner = i.owner; word = o.reference; stands = followed_stands x cpu plan s m t ordered h runs u o.reference i; ends = o.ends }

  pub bounds : (cpu.regs.s - 1 < length cpu.core) × (1 ≤ cpu.regs.s)
  bounds = let r = room x cpu plan s m t ordered h runs in let e = o.enough in (omega (arith, r.last, r.under, r.inside), omega (arith, e))

  pub place_fits : IsPlace cpu.regs.place
  place_fits =
      let i = (running_in_order plan s m t ordered runs).1.place in
      subst IsPlace (sym (h.holds.running m t runs).place) (record { syllable = i.syllable_fits; word = i.word_fits })

  pub may_enter : (cell : ℕ) (core : List Tagged) → core ≡ slice_set cpu.core (cpu.regs.s - 1) v → IsProcAt (here_scene x cpu plan s m t ordered h runs) q cell o.frame o.segment o.level o.place
      → MayEnter (record cpu { core = core }) (record cpu.regs { s = cpu.regs.s - 1 }) cell
  may_enter cell core is i =
      let P : List Tagged → Type 0 = λ z. MayEnter (record cpu { core = z }) (record cpu.regs { s = cpu.regs.s - 1 }) cell in
      subst P (sym is) (
        under_scene x cpu plan s m t ordered h runs q o.bits o.reference o.rest o.is proc_of u v o.under o.over o.enough,
        q,
        o.frame,
        o.segment,
        o.level,
        o.place,
        under_enters x cpu plan s m t ordered h runs q o.bits o.reference o.rest o.is proc_of u v o.under o.over o.enough cell i,
      )

  pub held_under : (core : List Tagged) → core ≡ slice_set cpu.core (cpu.regs.s - 1) v → HoldsUnder (record cpu { core = core }) (record cpu.regs { s = cpu.regs.s - 1 }) cpu.regs.level
  held_under core is =
      let e = o.enough in
      let r = room x cpu plan s m t ordered h runs in
      holds_over cpu (here_scene x cpu plan s m t ordered h runs) (here_shown x cpu plan s m t ordered h runs) (record cpu { core = core }) (record cpu.regs { s = cpu.regs.s - 1 }) (record { stacks = refl; size = refl; dictionary = refl; last = refl })
      (omega (arith, e)) refl (λ i out. ap (λ (k : List Tagged). slice_get k i) is ∙ slice_get-set_other cpu.core (cpu.regs.s - 1) i v (λ z. out (omega (arith, z, e)) (omega (arith, z, r.last))))

  module _ (cell : ℕ) (core : List Tagged) (set : core ≡ slice_set cpu.core (cpu.regs.s - 1) v) (proc : IsProcAt (here_scene x cpu plan s m t ordered h runs) q cell o.frame o.segment o.level o.place) (new : Cpu) where
    pub stored_made : (keeps : Bool) (r : Step) → ((n : Fault) → r ≢ step.Fault n) → Enters (record cpu { core = core }) (record cpu.regs { s = cpu.regs.s - 1 }) cell cpu.regs.place r new → Meets x plan s m r cpu new (rows.store keeps (here m t q) (cells t))
    stored_made keeps r other i =
        let Q : List Tagged → Type 0 = λ z. Enters (record cpu { core = z }) (record cpu.regs { s = cpu.regs.s - 1 }) cell cpu.regs.place r new in
        let k = subst Q set i in
        under_made x cpu plan s m t ordered h runs q o.bits o.reference o.rest o.is proc_of u v o.under o.over o.enough keeps r new other
        (k (under_scene x cpu plan s m t ordered h runs q o.bits o.reference o.rest o.is proc_of u v o.under o.over o.enough) q o.frame o.segment o.level o.place (under_enters x cpu plan s m t ordered h runs q o.bits o.reference o.rest o.is proc_of u v o.under o.over o.enough cell proc))

    pub stored_fault : (keeps : Bool) (fault : Fault) → Enters (record cpu { core = core }) (record cpu.regs { s = cpu.regs.s - 1 }) cell cpu.regs.place (step.Fault fault) new
        → (rows.store keeps (here m t q) (cells t) ≡ Err fault) × (new ≡ record cpu { core = slice_set cpu.core (cpu.regs.s - 1) v }) × (slice_set (slice_set cpu.core (cpu.regs.s - 1) v) (cpu.regs.s - 1) u ≡ cpu.core)
    stored_fault keeps fault i =
        let Q : List Tagged → Type 0 = λ z. Enters (record cpu { core = z }) (record cpu.regs { s = cpu.regs.s - 1 }) cell cpu.regs.place (step.Fault fault) new in
        let k = subst Q set i in
        under_fault x cpu plan s m t ordered h runs q o.bits o.reference o.rest o.is proc_of u v o.under o.over o.enough keeps fault new
        (k (under_scene x cpu plan s m t ordered h runs q o.bits o.reference o.rest o.is proc_of u v o.under o.over o.enough) q o.frame o.segment o.level o.place (under_enters x cpu plan s m t ordered h runs q o.bits o.reference o.rest o.is proc_of u v o.under o.over o.enough cell proc))

    -- the word that goes back
    pub restored : (written : List Tagged) (keeps : Bool) (fault : Fault) → Enters (record cpu { core = core }) (record cpu.regs { s = cpu.regs.s - 1 }) cell cpu.regs.place (step.Fault fault) new → written ≡ slice_set new.core (new.regs.s - 1) u
        → record new { core = written } ≡ cpu
    restored written keeps fault i is =
        let f = stored_fault keeps fault i in
        grind (arith, slice_set)
