-- A machine that is short of sectors: for an array that is present, or for one that the running step makes longer.
use Rattle.std.specs.Prelude.{◌≡◌, ◌≢◌, ℕ, ◌+◌, ◌<◌, ◌⊎◌, List, length, None}
use Rattle.b67_lemmas.specs.Lists.{Has}
use Rattle.b67_model.specs.Common.{Array, Task, SessionJob}
pub use Rattle.b67_model.specs.Common.{Lengthens}
use Rattle.b67_backing.specs.Held.{sectors_for}
use Rattle.b67_stack.specs.Represents.{Storage}
use Rattle.b67_layout.specs.Placement.{Placement}
use Rattle.b67_layout.specs.Meets.{area_held}

-- a present array of a job of the session keeps no chain, needs so many sectors, and fewer are free
pub record IsShortOf (x : Storage) (plan : Placement) (jobs : List SessionJob) (wants free : ℕ) : Type 0 where
  pub member : SessionJob
  pub in_session : Has jobs member
  pub array : Array
  pub among : Has member.progress.job.arrays array
  pub present : area_held x plan member.constants.number array.identity ≢ None
  pub unkept : (x.held (plan.home member.constants.number array.identity)).chain ≡ 0
  pub wants_is : wants ≡ sectors_for (length array.numbers)
  pub free_is : free ≡ length x.shelf.free
  pub fewer : free < wants

-- the running step makes an array longer that has a chain; the chain lacks so many sectors, and fewer are free
pub record LacksSectors (x : Storage) (plan : Placement) (m : SessionJob) (t : Task) (wants free : ℕ) : Type 0 where
  pub longer : Lengthens m t
  pub chain : (x.held (plan.home m.constants.number longer.array.identity)).chain ≢ 0
  pub wants_is : sectors_for (length longer.array.numbers) + wants ≡ sectors_for (length longer.after.numbers)
  pub free_is : free ≡ length x.shelf.free
  pub fewer : free < wants

-- the machine is short of sectors at a step: a present array keeps no chain and needs more than are free, or the step is such
-- a RESIZE
abbrev pub IsShortAt : Storage → Placement → List SessionJob → SessionJob → Task → ℕ → ℕ → Type 0
IsShortAt x plan jobs m t wants free = IsShortOf x plan jobs wants free ⊎ LacksSectors x plan m t wants free
