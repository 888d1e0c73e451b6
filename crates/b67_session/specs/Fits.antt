-- Core has room for what is present beside the stacks, and for a step whose segment and array are.
use Rattle.std.specs.Prelude.{◌≡◌, ℕ, ◌≤◌, length, Option, Some, None}
use Rattle.b67_lemmas.specs.Lists.{Has}
use Rattle.b67_model.specs.Common.{Array, Job, step, touched_of, started_by, need}
use Rattle.b67_stack.specs.declared.Cpu.{Cpu}
use Rattle.b67_layout.specs.Meets.{TouchedIsPresent, ForEach}
use Rattle.b67_exec_cells.specs.Running.{code_area}
pub use Rattle.b67_mcp.specs.Spaces.{HasSpace, PresentFits}

-- an array that is touched, if any, is one of the job
abbrev pub IsArrayOfJob : Job → Option ℕ → Type 0
IsArrayOfJob job None = Unit {0}
IsArrayOfJob job (Some n) = (a : Array) × Has job.arrays a × (a.identity ≡ n)

-- where the running segment and the array that the running task's step touches, if any, are present, and the step starts no
-- task, it needs no more words than core has
abbrev pub MadeFits : Type 0
MadeFits =
    (cpu : Cpu) → ForEach cpu (λ x plan s m t.
    (at : ℕ) (touched : Option ℕ) → code_area x plan m t ≡ Some at
    → touched_of m.constants m.progress.job t (step m.constants m.progress.job t) ≡ touched
    → TouchedIsPresent x plan m.constants.number touched → IsArrayOfJob m.progress.job touched
    → started_by m.progress.job (step m.constants m.progress.job t) ≡ 0
    → need (length cpu.core) s m t ≤ length cpu.core)
