-- What the types of a machine's numbers tell, and that no two machines have one image.
use Rattle.std.specs.Prelude.{◌≡◌, ◌<◌, ◌^◌, ℤ, List, length}
use Rattle.std.specs.List.{AllByRecursion}
use Rattle.std.specs.Int.{w64}
use mir.Val.{SFits}
use Rattle.b67_word.specs.Tagged.{IsWord}
use Rattle.b67_ctl.specs.declared.map.TheConstants.{SLOTS}
use Rattle.b67_model_text.specs.declared.deck.Switch.{Switch}
use Rattle.b67_task.specs.declared.tables.JobRow.{JobRow}
use Rattle.b67_image.specs.Parts.{ToldCounts, ImageParts}
use Rattle.b67_image.specs.Spelling.{image_bytes}
pub use Rattle.b67_image.specs.Within.{AreTypedRegs}
use Rattle.b67_image.specs.Within.{AreAreas, IsRowInRange, IsFour, IsTwo}

pub record AreTypedCounts (c : ToldCounts) : Type 0 where
  pub quantum : c.quantum < 2 ^ 32
  pub made : c.made < 2 ^ 64
  pub turn : c.turn < 2 ^ 32
  pub last_job : c.last_job < 2 ^ 8
  pub last_number : c.last_number < 2 ^ 32
  pub running : c.running < 2 ^ 8
  pub next_switch : c.next_switch < 2 ^ 32

pub record IsTypedSwitch (w : Switch) : Type 0 where
  pub count : w.count < 2 ^ 64
  pub job : w.job < 2 ^ 8
  pub task : w.task < 2 ^ 32

-- a whole number that 64 bits hold
abbrev pub IsTypedNumber : ℤ → Type 0
IsTypedNumber z = SFits w64 z

pub record IsTypedJob (j : JobRow) : Type 0 where
  pub dict : j.dict < 2 ^ 32
  pub segments : j.segments < 2 ^ 16
  pub rows : j.rows < 2 ^ 16
  pub limit : j.limit < 2 ^ 64
  pub made : j.made < 2 ^ 64
  pub next_task : j.next_task < 2 ^ 32
  pub numbers : AllByRecursion IsTypedNumber j.numbers
  pub next_number : j.next_number < 2 ^ 32

pub record AreTyped (p : ImageParts) : Type 0 where
  pub core : AllByRecursion IsWord p.core
  pub regs : AreTypedRegs p.regs
  pub display : AllByRecursion IsFour p.display
  pub display_many : length p.display ≡ 32
  pub critical : AllByRecursion IsTwo p.critical
  pub critical_many : length p.critical ≡ SLOTS
  pub areas : AreAreas p.areas
  pub links : AllByRecursion IsFour p.links
  pub counts : AreTypedCounts p.counts
  pub switches : AllByRecursion IsTypedSwitch p.switches
  pub jobs : AllByRecursion IsTypedJob p.jobs
  pub rows : AllByRecursion IsRowInRange p.rows

-- the names of jobs have fewer than 256 bytes
abbrev pub HaveShortNames : List JobRow → Type 0
HaveShortNames js = AllByRecursion (λ (j : JobRow). length j.name < 2 ^ 8) js

-- machines whose images have the same bytes, fewer than 2^32, have the same parts
abbrev pub ImagesTellOne : Type 0
ImagesTellOne = (p q : ImageParts) → AreTyped p → AreTyped q → HaveShortNames p.jobs → HaveShortNames q.jobs → length (image_bytes p) < 2 ^ 32 → image_bytes p ≡ image_bytes q → p ≡ q
