-- A stuffed reference, which names its cell whatever the display shows.
use Rattle.std.proofs.Common.{◌≡◌, ℕ, ◌<◌, List, Result, Ok, sym, ap, subst, length, arith}
use Rattle.std.proofs.lemmas.Option.{slice_get_within}
use Rattle.b67_word.specs.Tagged.{Tagged}
use Rattle.b67_word.specs.declared.couples.Place.{Place}
use Rattle.b67_word.specs.declared.faults.Fault.{Fault}
use Rattle.b67_ctl.specs.declared.registers.Regs.{Regs}
use Rattle.b67_ctl.specs.declared.references.Irw.{Irw}
use Rattle.b67_ctl.specs.declared.references.Sirw.{Sirw}
use Rattle.b67_ctl.specs.Layout.{irw_word, IsIrw, sirw_word, IsSirw}
use Rattle.b67_model.specs.Common.{Word, cell, follow, NamesEntered}
use Rattle.b67_layout.specs.Meets.{here}
use Rattle.b67_stack.specs.Stacks.{StackPlace}
use Rattle.b67_refer.specs.RunningContext.{RunningContext, LiveContext, live_of}
use Rattle.b67_refer.specs.LiveCells.{reach, view, CellMeets}
use Rattle.b67_refer.specs.Cells.{StandsFor}
use Rattle.b67_refer.specs.declared.ends.End.TheVariants as end
use Rattle.b67_refer.specs.Ends.{HasTagAt, EndMeets}
use Rattle.b67_refer.proofs.Names.{Stuffed, stuffed, finds_ref}
use Rattle.b67_refer.proofs.Follows.{is_reference}
use Rattle.b67_refer.proofs.Owns.{own_ends}

-- what the look-up of a stuffed reference's cell answers
abbrev pub FindsStuffed : (core : List Tagged) (r : Regs) (k : Sirw) → Result ℕ Fault → Type 0
FindsStuffed core r k found = (a : LiveContext core r) (q : Place) (f : ℕ) → NamesEntered (reach a) f → view a f ≡ record { stack = k.stack; disp = k.disp } → CellMeets a q f k.offset found (cell (here a.member a.task q) f k.offset)

module _ (core : List Tagged) (r : Regs) (w : Tagged) (tag : w.tag ≡ 1) (other : (i : Irw) → IsIrw i → w ≡ irw_word i → ⊥) (k : Sirw) (reads : (i : Sirw) → IsSirw i → w ≡ sirw_word i → k ≡ i)
    (a : RunningContext core r) (at owner : ℕ) (v : Word) (stands : StandsFor a at owner w v) where
  abbrev pub named : Stuffed core r (live_of a) w v
  named = stuffed core r (live_of a) at owner w v stands (is_reference core r (live_of a) at owner w v stands tag) other

  is_read : (record { stack = (view (live_of a) named.frame).stack; disp = (view (live_of a) named.frame).disp; offset = named.offset }) ≡ k
  is_read = sym (reads (record { stack = (view (live_of a) named.frame).stack; disp = (view (live_of a) named.frame).disp; offset = named.offset }) named.fits named.is)

  pub spot_read : view (live_of a) named.frame ≡ record { stack = k.stack; disp = k.disp }
  spot_read = ap (λ (x : Sirw). let z : StackPlace = record { stack = x.stack; disp = x.disp } in z) is_read

  pub asks : (c : LiveContext core r) × (f : ℕ) × NamesEntered (reach c) f × (view c f ≡ record { stack = k.stack; disp = k.disp })
  asks = (live_of a, named.frame, named.names, spot_read)

  module _ (found : ℕ) (finds : FindsStuffed core r k (Ok found)) (q : Place) where
    meets : CellMeets (live_of a) q named.frame named.offset (Ok found) (cell (here a.member a.task q) named.frame named.offset)
    meets =
        let P : ℕ → Type 0 = λ n. CellMeets (live_of a) q named.frame n (Ok found) (cell (here a.member a.task q) named.frame n) in
        subst P (sym (ap (λ (x : Sirw). x.offset) is_read)) (finds (live_of a) q named.frame named.names spot_read)

    pub inside : found < length core
    inside = grind (arith, meets, slice_get_within)

    pub ends : HasTagAt core found 0 → EndMeets a q (Ok (end.Cell found)) (follow (here a.member a.task q) v)
    ends zero = own_ends core r a q found v (is_reference core r (live_of a) at owner w v stands tag) (finds_ref core r (live_of a) q v named.frame named.offset (Ok found) named.word meets) zero
