-- Where references end in core, seen from a live task.
use Rattle.std.specs.Prelude.{◌≡◌, ℕ, ◌<◌, List, Option, Some, None, Result, Ok, Err, length}
use Rattle.b67_word.specs.Tagged.{Tagged}
use Rattle.b67_word.specs.declared.couples.Place.{Place}
use Rattle.b67_word.specs.declared.faults.Fault.{Fault}
use Rattle.b67_ctl.specs.declared.registers.Regs.{Regs}
use Rattle.b67_model.specs.Common.{Answer, Word, Operand, Name, Ref, Proc, NamesArray, array, AtCell, AtElement, AtArray, AtProc, AtIntrinsic, Link, Stops, Leads}
use Rattle.b67_model.specs.Chase as Chase
use Rattle.b67_refer.specs.declared.ends.End.{End}
use Rattle.b67_refer.specs.declared.ends.End.TheVariants as end
use Rattle.b67_refer.specs.RunningContext.{LiveContext}
use Rattle.b67_refer.specs.LiveCells.{reach, IsCellAt}

-- an IRW's or an SIRW's word
abbrev pub IsReference : Word → Type 0
IsReference (Name couple) = Unit {0}
IsReference (Ref frame offset) = Unit {0}
IsReference _ = ⊥

-- an end, or a fault, as what a link comes to
abbrev pub on_link : Result End Fault → Result (Option End) Fault
on_link (Ok found) = Ok (Some found)
on_link (Err fault) = Err fault

module _ {core : List Tagged} {r : Regs} (a : LiveContext core r) (q : Place) where
  -- the cell of a procedure
  pub record IsProcAt (at f segment level : ℕ) (place : Place) : Type 0 where
    pub own : 1 < f
    pub offset : ℕ
    pub cell : IsCellAt a q at f offset (Proc segment level place)

  -- an array whose original has this address
  pub record IsArrayOf (original n : ℕ) : Type 0 where
    pub home : original ≡ a.plan.home a.member.constants.number n
    pub names : NamesArray a.member.progress.job.arrays (reach a) n

  -- an element of it
  pub record IsElementOf (original n index : ℕ) : Type 0 where
    pub array_of : IsArrayOf original n
    pub inside : index < length (array a.member.progress.job n).numbers

  abbrev pub EndIs : End → Chase.End → Type 0
  EndIs (end.Cell at) (AtCell f offset bits) = IsCellAt a q at f offset (Operand bits)
  EndIs (end.Element original index) (AtElement n i) = (index ≡ i) × IsElementOf original n i
  EndIs (end.Array original) (AtArray n) = IsArrayOf original n
  EndIs (end.Proc at) (AtProc f segment level place) = IsProcAt at f segment level place
  EndIs (end.Intrinsic n) (AtIntrinsic k) = n ≡ k
  EndIs _ _ = ⊥

  -- what was found is the end, or the fault
  abbrev pub EndMeets : Result End Fault → Answer Chase.End → Type 0
  EndMeets (Ok found) (Ok end) = EndIs found end
  EndMeets (Err x) (Err y) = x ≡ y
  EndMeets _ _ = ⊥

  -- what a cell's word comes to: an end, a fault, or a reference to follow
  abbrev pub LinkMeets : Result (Option End) Fault → Link → Type 0
  LinkMeets (Ok (Some found)) (Stops (Ok end)) = EndIs found end
  LinkMeets (Ok None) (Leads w) = IsReference w
  LinkMeets (Err x) (Stops (Err y)) = x ≡ y
  LinkMeets _ _ = ⊥
