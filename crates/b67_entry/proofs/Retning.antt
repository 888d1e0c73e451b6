-- RETN, by what its tests tell.
use Rattle.std.proofs.Common.{◌≡◌, ◌≢◌, ℕ, ◌+◌, ◌-◌, List, [], ◌∷◌, ◌++◌, map, Option, Some, None, Ok, Err, refl, sym, ◌∙◌, ap, arith, true, false, subst}
use Rattle.std.specs.List.{slice_get, AllByRecursion}
use Rattle.std.proofs.lemmas.Option.{same_Some}
use Rattle.b67_word.specs.Tagged.{Tagged}
use Rattle.b67_word.specs.declared.couples.Place.{Place}
use Rattle.b67_word.specs.declared.faults.Fault.{Fault}
use Rattle.b67_word.specs.declared.faults.Fault.TheVariants.{MarkPending, StackUnderflow, CriticalBlock}
use Rattle.b67_ctl.specs.Layout.{flag_bit}
use Rattle.b67_ctl.specs.declared.marks.Mscw.{Mscw}
use Rattle.b67_model.specs.Common.{Answer, Word, Frame, Task, SessionJob, top, returnable, returned, retn, Leaves, is_critical, Session, IsSegment, known_of, outer_of, FramesInOrder, WordInOrder}
use Rattle.b67_layout.specs.Common.{IsInOrderButCounts, Placement, spot_in, outer_spots, shape, head, activations, stack_of_task, machine_view, IsRunning, RepresentsSession, here}
use Rattle.b67_stack.specs.declared.Cpu.{Cpu}
use Rattle.b67_stack.specs.Common.{Fits, StackPlace, Activation, top_mark, RunsOn, Storage, top_cells}
use Rattle.b67_stack.proofs.Cells.{cell_word}
use Rattle.b67_stack.proofs.Tops.{empty_at}
use Rattle.b67_stack.proofs.Pushes.{Room, room_of}
use Rattle.b67_layout.proofs.Fresh.{running_in_order}
use Rattle.b67_layout.proofs.Starts.{runs_here}
use Rattle.b67_entry.specs.Left.{Returns}
use Rattle.b67_entry.specs.Words.{IsTopWord, Refuses}
use Rattle.b67_entry.specs.Returned.{ReturnsWord}
use Rattle.b67_entry.proofs.Exits.{leaves_last}
use Rattle.b67_entry.proofs.Retns.{retn_empty, retn_passed}
use Rattle.b67_entry.proofs.Sorted.{IsEntered, is_entered, is_last, returns_of}
use Rattle.b67_law.proofs.Maps.{IsOperand}

no_cells : {A B : Type 0} (f : A → B) (xs : List A) → map f xs ≡ [] → xs ≡ []
no_cells f [] e = refl
no_cells f (x ∷ xs) e = let z : ⊥ = cc in absurd z

fault_is : (fault : Fault) (v : Word) (answer : Answer Word) → Refuses (Some fault) v answer → answer ≡ Err fault
fault_is fault v answer r = grind arith

-- the same by the refusal that was found
pub refusal_faults : (found : Option Fault) (fault : Fault) (v : Word) (answer : Answer Word) → found ≡ Some fault → Refuses found v answer → Refuses (Some fault) v answer
refusal_faults found fault v answer e r = subst (λ (z : Option Fault). Refuses z v answer) e r

pub refusal_passes : (found : Option Fault) (v : Word) (answer : Answer Word) → found ≡ None → Refuses found v answer → Refuses None v answer
refusal_passes found v answer e r = subst (λ (z : Option Fault). Refuses z v answer) e r

passed_is : (v : Word) (answer : Answer Word) → Refuses None v answer → answer ≡ Ok v
passed_is v answer r = grind arith

module _ (x : Storage) (cpu : Cpu) (plan : Placement) (s : Session) (m : SessionJob) (t : Task) (o : IsInOrderButCounts s) (h : RepresentsSession x cpu plan s) (runs : IsRunning plan s.jobs m t) where
  abbrev outer : ℕ → StackPlace
  outer = outer_spots plan m.constants.number m.progress.job t.critical t.parents

  abbrev pub stack : List Activation
  stack = stack_of_task plan m.constants.number m.progress.job plan.running t

  pub on : RunsOn (machine_view plan s.jobs) cpu.regs.slot stack
  on = runs_here x cpu plan s m t h runs

  pub room : Room x cpu.core cpu.regs (machine_view plan s.jobs) cpu.regs.slot stack
  room = room_of x cpu.core cpu.regs (machine_view plan s.jobs) cpu.regs.slot stack h.holds.memory on

  module _ (mark : Mscw) (is : mark ≡ top_mark cpu.regs.slot (stack_of_task plan m.constants.number m.progress.job plan.running t)) where
    pub pending : (next : Place) → mark.entered ≡ false → retn (here m t next) ≡ Err MarkPending
    pending next n = grind arith

    module _ (n : mark.entered ≡ true) where
      pub top_entered : IsEntered t
      top_entered = is_entered plan m t plan.running cpu.regs.slot outer (running_in_order plan s m t o runs).1 mark is n

      -- the cells of its record
      cells_are : top_cells stack ≡ map (shape plan m.constants.number m.progress.job (spot_in plan.running outer (top_entered.f ∷ top_entered.below))) top_entered.f.cells
      cells_are = ap (λ (fs : List Frame). top_cells (activations plan m.constants.number m.progress.job plan.running outer fs)) top_entered.frames

      empty_is : (cpu.regs.s ≡ cpu.regs.f + 1 → top_cells stack ≡ []) × (top_cells stack ≡ [] → cpu.regs.s ≡ cpu.regs.f + 1)
      empty_is = empty_at x cpu.core cpu.regs (machine_view plan s.jobs) cpu.regs.slot stack mark 1 h.holds.memory on is (ap flag_bit (sym n))

      pub empty : (next : Place) → cpu.regs.s ≡ cpu.regs.f + 1 → retn (here m t next) ≡ Err StackUnderflow
      empty next e =
          let p = top_entered in
          retn_empty m t next p.f p.below p.level p.environment p.back p.frames p.entered (no_cells (shape plan m.constants.number m.progress.job (spot_in plan.running outer (p.f ∷ p.below))) p.f.cells (sym cells_are ∙ empty_is.0 e))

      -- the word at the top
      pub word_at : (w : Tagged) → slice_get cpu.core cpu.regs.s ≡ Some w → cpu.regs.s ≢ cpu.regs.f + 1 → (v : Word) × IsTopWord x plan m t cpu v w
      word_at w there some = by top_entered.f.cells refl where
        by : (cs : List Word) → top_entered.f.cells ≡ cs → (v : Word) × IsTopWord x plan m t cpu v w
        by [] e = absurd (some (empty_is.1 (cells_are ∙ ap (map (shape plan m.constants.number m.progress.job (spot_in plan.running outer (top_entered.f ∷ top_entered.below)))) e)))
        by (v ∷ rest) e =
            let sh = shape plan m.constants.number m.progress.job (spot_in plan.running outer (top_entered.f ∷ top_entered.below)) in
            let a : Activation = record { head = head (spot_in plan.running outer top_entered.below) top_entered.f.standing; cells = map sh top_entered.f.cells } in
            let below = activations plan m.constants.number m.progress.job plan.running outer top_entered.below in
            let on' = subst (λ (fs : List Frame). RunsOn (machine_view plan s.jobs) cpu.regs.slot (activations plan m.constants.number m.progress.job plan.running outer fs)) top_entered.frames on in
            let at : cpu.regs.s - 0 ≡ cpu.regs.s = omega arith in
            let P : ℕ → Type 0 = λ i. (z : Tagged) × (slice_get cpu.core i ≡ Some z) × Fits x.held (sh v) i z in
            let c = subst P at (cell_word x cpu.core cpu.regs (machine_view plan s.jobs) cpu.regs.slot a below h.holds.memory on' [] (sh v) (map sh rest) (ap (map sh) e)) in
            let same : c.0 ≡ w = same_Some c.0 w (sym c.1 ∙ there) in
            let order = subst (λ (fs : List Frame). FramesInOrder (IsSegment m.constants) m.progress.job.arrays (outer_of m.progress.job t) fs) top_entered.frames (running_in_order plan s m t o runs).1.frames in
            let cells = subst (λ (cs : List Word). AllByRecursion (WordInOrder (IsSegment m.constants) m.progress.job.arrays (map known_of (top_entered.f ∷ top_entered.below) ++ outer_of m.progress.job t) top_entered.f.identity) cs) e order.0.0 in (
              v,
              record {
                frame = top_entered.f;
                below = top_entered.below;
                rest = rest;
                frames = top_entered.frames;
                cells = e;
                there = there;
                fits = subst (λ (z : Tagged). Fits x.held (sh v) cpu.regs.s z) same c.2;
                order = subst (λ (fs : List Frame). WordInOrder (IsSegment m.constants) m.progress.job.arrays (map known_of fs ++ outer_of m.progress.job t) top_entered.f.identity v) (sym top_entered.frames) cells.0;
              },
            )

      module _ (v : Word) (w : Tagged) (b : IsTopWord x plan m t cpu v w) where
        frame_is : top_entered.f ≡ b.frame
        frame_is = let e : top_entered.f ∷ top_entered.below ≡ b.frame ∷ b.below = sym top_entered.frames ∙ b.frames in cc

        cells_with : top_entered.f.cells ≡ v ∷ b.rest
        cells_with = ap (λ (f : Frame). f.cells) frame_is ∙ b.cells

        pub refused : (next : Place) (fault : Fault) → Refuses (Some fault) v (returnable m.progress.job (top t.frames).identity v) → retn (here m t next) ≡ Err fault
        refused next fault r = grind arith

        module _ (passes : Refuses None v (returnable m.progress.job (top t.frames).identity v)) where
          pub passes_is : returnable m.progress.job (top t.frames).identity v ≡ Ok v
          passes_is = passed_is v (returnable m.progress.job (top t.frames).identity v) passes

          pub critical : (next : Place) → is_critical m.progress.job (top t.frames).identity ≡ true → retn (here m t next) ≡ Err CriticalBlock
          critical next c = grind arith

          module _ (free : is_critical m.progress.job (top t.frames).identity ≡ false) where
            pub ended : (next : Place) → mark.back ≡ 0 → retn (here m t next) ≡ Ok Leaves
            ended next z =
                let p = top_entered in
                let l = is_last plan m t plan.running cpu.regs.slot outer (running_in_order plan s m t o runs).1 mark is n z in
                retn_passed m t next p.f p.below p.level p.environment p.back p.frames p.entered v b.rest cells_with passes_is
                ∙ leaves_last m t next (λ after value. returned after v value) l.f l.level l.environment l.frames l.entered free

            -- the frame that is left, with its word
            pub leaver : mark.back ≢ 0 → Returns m t
            leaver z = returns_of plan m t plan.running cpu.regs.slot outer (running_in_order plan s m t o runs).1 mark is n z free

            pub with_its_word : (z : mark.back ≢ 0) → ReturnsWord x plan m t cpu (leaver z) v w
            with_its_word z = record { word = b; passes = ap (λ (fs : List Frame). returnable m.progress.job (top fs).identity v) (sym (leaver z).frames) ∙ passes_is }

  -- the caller of a frame wants a value where its mark says so
  pub value_is : (mark : Mscw) → mark ≡ top_mark cpu.regs.slot (stack_of_task plan m.constants.number m.progress.job plan.running t) → (a : Returns m t) → mark.value ≡ a.back.value
  value_is mark is a = grind arith

  -- an operand by its tag
  pub operand_is : (v : Word) (w : Tagged) → IsTopWord x plan m t cpu v w → w.tag ≡ 0 → IsOperand v
  operand_is v w b zero = grind arith

  -- no operand has another tag
  pub not_operand : (v : Word) (w : Tagged) → IsTopWord x plan m t cpu v w → w.tag ≢ 0 → IsOperand v → ⊥
  not_operand v w b ne is = grind arith
