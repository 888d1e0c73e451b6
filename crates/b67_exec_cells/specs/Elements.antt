-- Elements of live arrays, in core.
use Rattle.std.specs.Prelude.{◌≡◌, ℕ, ◌<◌, not, length, Option, Some, None}
use Rattle.b67_word.specs.Tagged.{Tagged, word}
use Rattle.b67_ctl.specs.declared.descriptors.DataDesc.{DataDesc}
use Rattle.b67_lemmas.specs.Lists.{Has}
use Rattle.b67_model.specs.Common.{array, element, Array, Job, SessionJob}
use Rattle.b67_stack.specs.declared.Cpu.{Cpu}
use Rattle.b67_stack.specs.MachineView.{home_desc}
use Rattle.b67_stack.specs.Represents.{Storage}
use Rattle.b67_layout.specs.Common.{Placement, RunsSome, area_held}

-- an array of a job, with an element
pub record HasElement (job : Job) (n index : ℕ) : Type 0 where
  pub item : Array
  pub live : Has job.arrays item
  pub named : item.identity ≡ n
  pub inside : index < length item.numbers

-- the running task's job has an array whose original has this address, with an element
pub record HoldsElement (cpu : Cpu) (original index : ℕ) : Type 0 where
  pub runs : RunsSome cpu
  pub number : ℕ
  pub home : original ≡ runs.plan.home runs.member.constants.number number
  pub element : HasElement runs.member.progress.job number index

-- the descriptor in an array's original
abbrev pub original_desc : Storage → Placement → SessionJob → ℕ → DataDesc
original_desc x plan m n = let a = array m.progress.job n in home_desc (not a.writable) (length a.numbers) (x.held (plan.home m.constants.number n))

-- the word of an element, or that its array is absent
abbrev pub GivesElement : Storage → Placement → SessionJob → ℕ → ℕ → Option Tagged → Type 0
GivesElement x plan m n index None = area_held x plan m.constants.number n ≡ None
GivesElement x plan m n index (Some w) = (at : ℕ) × (area_held x plan m.constants.number n ≡ Some at) × (w ≡ word 0 (element m.progress.job n index))
