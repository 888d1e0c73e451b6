-- The cell that a reference's word names, by what its couple names in each environment that the display shows, or by the word alone.
use Rattle.std.proofs.Common.{◌≡◌, ℕ, ◌<◌, ◌≤◌, List, length, Result, Ok, inl, inr, sym, ap, subst}
use Rattle.b67_word.specs.Tagged.{Tagged}
use Rattle.b67_word.specs.Couples.{couple}
use Rattle.b67_word.specs.declared.couples.Couple.{Couple}
use Rattle.b67_word.specs.declared.couples.Place.{Place}
use Rattle.b67_word.specs.declared.faults.Fault.{Fault}
use Rattle.b67_ctl.specs.Layout.{irw_word, IsIrw, sirw_word, IsSirw}
use Rattle.b67_ctl.specs.declared.references.Irw.{Irw}
use Rattle.b67_ctl.specs.declared.references.Sirw.{Sirw}
use Rattle.b67_ctl.specs.declared.registers.Regs.{Regs}
use Rattle.b67_model.specs.Common.{Answer, Word, NamesEntered, cell, frame_at, named, place_of}
use Rattle.b67_stack.specs.Stacks.{StackPlace}
use Rattle.b67_layout.specs.Meets.{here}
use Rattle.b67_refer.specs.RunningContext.{RunningContext, LiveContext, IsShown, live_of, running_of, FromEither}
use Rattle.b67_refer.specs.LiveCells as live
use Rattle.b67_refer.specs.LiveCells.{reach, view, CellMeets}
use Rattle.b67_refer.specs.Cells.{FindsCell}
use Rattle.b67_refer.specs.LiveEnds.{IsReference}
use Rattle.b67_refer.specs.Own.{NamesCell}
use Rattle.b67_refer.proofs.Alone.{FindsStuffed}
use Rattle.b67_refer.proofs.Unders.{named_at}
use Rattle.b67_refer.proofs.Owns.{cell_inside}
use Rattle.b67_refer.proofs.Follows.{is_reference}
use Rattle.b67_refer.proofs.Names.{Stuffed, stuffed, irw_is, finds_name, finds_ref}

pub names_couple : (core : List Tagged) (r : Regs) (display : List ℕ) (w : Tagged) (i : Irw) → IsIrw i → w ≡ irw_word i → (c : Couple) → c ≡ couple i.couple r.level → (at : ℕ)
    → ((a : RunningContext core r) (q : Place) → IsShown a display → FindsCell a q (Ok at) (named (here a.member a.task q) c)) → NamesCell core r display w at
names_couple core r display w i fits is c split at found a q shown spot owner v stands =
    let ref = is_reference core r (live_of a) spot owner w v stands (ap (λ (x : Tagged). x.tag) is) in
    let e = irw_is core r (live_of a) spot owner w v i stands ref fits is in
    (ref, finds_name core r (live_of a) q v i.couple c (Ok at) e split (found a q shown))

-- a couple's cell in the activation record of its level
module _ (core : List Tagged) (r : Regs) (display : List ℕ) (c : Couple) (low : c.level ≤ r.level) (at : ℕ)
    (each : (a : RunningContext core r) (q : Place) → IsShown a display → live.CellMeets (live_of a) q (frame_at (here a.member a.task q) c.level).identity c.disp (Ok at) (cell (here a.member a.task q) (frame_at (here a.member a.task q) c.level).identity c.disp)) where
  pub level_names : (w : Tagged) (i : Irw) → IsIrw i → w ≡ irw_word i → c ≡ couple i.couple r.level → NamesCell core r display w at
  level_names w i fits is split = names_couple core r display w i fits is c split at
      (λ a q shown. subst (λ (y : Answer (ℕ × ℕ)). FindsCell a q (Ok at) y) (sym (named_at core r a q display shown c low)) (each a q shown))

  pub level_inside : (a : RunningContext core r) → IsShown a display → at < length core
  level_inside a shown = cell_inside core r a a.task.place (frame_at (here a.member a.task a.task.place) c.level).identity c.disp at (each a a.task.place shown)

-- what the look-up of a reference's cell answers: seen from a live task, or by a couple from the running one
abbrev pub Finds : (core : List Tagged) (r : Regs) (display : List ℕ) (w : Tagged) → Result ℕ Fault → Type 0
Finds core r display w found = (a : LiveContext core r) (q : Place) → IsShown (running_of a) display → (at owner : ℕ) (v : Word) → live.StandsFor a at owner w v → IsReference v
    → FromEither (λ (b : LiveContext core r). live.FindsCell b q found (place_of (here a.member a.runner q) v)) a

module _ (core : List Tagged) (r : Regs) (display : List ℕ) (w : Tagged) where
  pub finds_couple : (i : Irw) → IsIrw i → w ≡ irw_word i → (c : Couple) → c ≡ couple i.couple r.level → (found : Result ℕ Fault)
      → ((a : RunningContext core r) (q : Place) → IsShown a display → FindsCell a q found (named (here a.member a.task q) c)) → Finds core r display w found
  finds_couple i fits is c split found each a q shown at owner v stands ref =
      let e = irw_is core r a at owner w v i stands ref fits is in
      inr (finds_name core r a q v i.couple c found e split (each (running_of a) q shown))

  module _ (other : (i : Irw) → IsIrw i → w ≡ irw_word i → ⊥) (k : Sirw) (reads : (i : Sirw) → IsSirw i → w ≡ sirw_word i → k ≡ i) where
    module _ (a : LiveContext core r) (at owner : ℕ) (v : Word) (stands : live.StandsFor a at owner w v) (ref : IsReference v) where
      abbrev names : Stuffed core r a w v
      names = stuffed core r a at owner w v stands ref other

      is_read : (record { stack = (view a names.frame).stack; disp = (view a names.frame).disp; offset = names.offset }) ≡ k
      is_read = sym (reads (record { stack = (view a names.frame).stack; disp = (view a names.frame).disp; offset = names.offset }) names.fits names.is)

      pub asks_alone : (b : LiveContext core r) × (f : ℕ) × NamesEntered (reach b) f × (view b f ≡ record { stack = k.stack; disp = k.disp })
      asks_alone = (a, names.frame, names.names, ap (λ (x : Sirw). let z : StackPlace = record { stack = x.stack; disp = x.disp } in z) is_read)

    pub finds_alone : (found : Result ℕ Fault) → FindsStuffed core r k found → Finds core r display w found
    finds_alone found each a q shown at owner v stands ref =
        let s = names a at owner v stands ref in
        let same = is_read a at owner v stands ref in
        let P : ℕ → Type 0 = λ n. CellMeets a q s.frame n found (cell (here a.member a.runner q) s.frame n) in
        let moved = subst P (sym (ap (λ (x : Sirw). x.offset) same)) (each a q s.frame s.names (ap (λ (x : Sirw). let z : StackPlace = record { stack = x.stack; disp = x.disp } in z) same)) in
        inl (finds_ref core r a q v s.frame s.offset found s.word moved)
