-- Where references end in core, seen from the running task.
use Rattle.std.specs.Prelude.{◌≡◌, ℕ, List, Some, Result, slice_get}
use Rattle.b67_word.specs.Tagged.{Tagged}
use Rattle.b67_word.specs.declared.couples.Place.{Place}
use Rattle.b67_word.specs.declared.faults.Fault.{Fault}
use Rattle.b67_ctl.specs.declared.registers.Regs.{Regs}
use Rattle.b67_ctl.specs.declared.descriptors.DataDesc.{DataDesc}
use Rattle.b67_ctl.specs.Descriptors.{data_word, IsDataDesc}
use Rattle.b67_model.specs.Answers.{Answer}
use Rattle.b67_model.specs.Chase as Chase
use Rattle.b67_stack.specs.Common.{Copied, IsCopy, MachineView, Storage, Represents}
use Rattle.b67_refer.specs.declared.ends.End.{End}
use Rattle.b67_refer.specs.RunningContext.{RunningContext, live_of}
use Rattle.b67_refer.specs.LiveEnds as live
pub use Rattle.b67_refer.specs.LiveEnds.{IsReference}

-- a copy of the array whose original has this address, in some machine of this core
pub record IsCopyOf (core : List Tagged) (copy : DataDesc) (home : ℕ) : Type 0 where
  pub storage : Storage
  pub registers : Regs
  pub machine_view : MachineView
  pub stands : Represents storage core registers machine_view
  pub copied : Copied
  pub fits : IsDataDesc copy
  pub is : IsCopy storage.held copied home (data_word copy)

-- the word at an address has this tag
abbrev pub HasTagAt : List Tagged → (at tag : ℕ) → Type 0
HasTagAt core at tag = (v : Tagged) × (slice_get core at ≡ Some v) × (v.tag ≡ tag)

module _ {core : List Tagged} {r : Regs} (a : RunningContext core r) (q : Place) where
  abbrev pub IsProcAt : (at f segment level : ℕ) (place : Place) → Type 0
  IsProcAt at f segment level place = live.IsProcAt (live_of a) q at f segment level place

  abbrev pub IsElementOf : (original n index : ℕ) → Type 0
  IsElementOf original n index = live.IsElementOf (live_of a) q original n index

  abbrev pub EndIs : End → Chase.End → Type 0
  EndIs found end = live.EndIs (live_of a) q found end

  abbrev pub EndMeets : Result End Fault → Answer Chase.End → Type 0
  EndMeets found answer = live.EndMeets (live_of a) q found answer
