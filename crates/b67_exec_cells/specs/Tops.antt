-- The cells of the running task's top activation record, as words of core.
use Rattle.std.specs.Prelude.{◌≡◌, ℕ, ◌-◌, false, List, [], ◌∷◌, Result, Ok, Err}
use Rattle.std.specs.List.{AllByRecursion}
use Rattle.b67_word.specs.Tagged.{Tagged}
use Rattle.b67_word.specs.declared.couples.Place.{Place}
use Rattle.b67_word.specs.declared.faults.Fault.{Fault}
use Rattle.b67_word.specs.declared.faults.Fault.TheVariants.{StackUnderflow}
use Rattle.b67_lemmas.specs.Lists.{Has}
use Rattle.b67_model.specs.Words as Words
use Rattle.b67_model.specs.Common.{Word, Operand, Name, Ref, Row, Element, Original, Proc, Intrinsic, Array, Task, Job, SessionJob, is_original}
use Rattle.b67_stack.specs.declared.Cpu.{Cpu}
use Rattle.b67_stack.specs.Represents.{Storage}
use Rattle.b67_layout.specs.Placement.{Placement}
use Rattle.b67_layout.specs.Tops.{IsAt}

-- the second cell and the top one
abbrev pub GivesTwo : Storage → Placement → SessionJob → Task → Cpu → List Word → Result (Tagged × Tagged) Fault → Type 0
GivesTwo x plan m t cpu [] answer = answer ≡ Err StackUnderflow
GivesTwo x plan m t cpu (b ∷ []) answer = answer ≡ Err StackUnderflow
GivesTwo x plan m t cpu (b ∷ a ∷ rest) answer =
    (u v : Tagged) × (answer ≡ Ok (u, v)) × IsAt x plan m t cpu.core a (cpu.regs.s - 1) u × IsAt x plan m t cpu.core b cpu.regs.s v

-- the running task goes on at a place of its segment
pub record StaysInSegment (old new : Cpu) (next : Place) : Type 0 where
  pub dict : new.regs.dict ≡ old.regs.dict
  pub segment : new.regs.segment ≡ old.regs.segment
  pub place : new.regs.place ≡ next

-- an array of the job
pub record IsLive (job : Job) (array : ℕ) : Type 0 where
  pub item : Array
  pub live : Has job.arrays item
  pub named : item.identity ≡ array

-- a word that may be put on a stack: no original, and copies of live arrays alone
abbrev pub MayStand : Job → Word → Type 0
MayStand job (Operand bits) = Unit {0}
MayStand job (Name couple) = Unit {0}
MayStand job (Ref frame offset) = Unit {0}
MayStand job (Row array) = IsLive job array
MayStand job (Element array index) = IsLive job array
MayStand job (Original array) = ⊥
MayStand job (Proc segment level place) = Unit {0}
MayStand job (Intrinsic number) = Unit {0}
MayStand job (Words.Segment number) = Unit {0}

-- words among which is no original
abbrev pub NoOriginals : List Word → Type 0
NoOriginals ws = AllByRecursion (λ (w : Word). is_original w ≡ false) ws
