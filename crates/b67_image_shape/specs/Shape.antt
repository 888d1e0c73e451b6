-- When the display shows the frames of the running task, and how that is told.
use Rattle.std.specs.Prelude.{◌≡◌, ◌≢◌}
use Rattle.b67_ctl.specs.declared.registers.TheConstants.{NO_SLOT}
use Rattle.b67_task.specs.declared.tables.Machine.{Machine}
use Rattle.b67_refer.specs.RunningContext.{RunningContext, IsShown}
use Rattle.b67_layout_shown.specs.Machines.{sight_of}
use Rattle.b67_image_shape.specs.Items.{DisplayFacts}

abbrev pub ShowsRunning : Machine → Type 0
ShowsRunning k = DisplayFacts (sight_of k) k.cpu.display

-- whether it is can be told: no task runs, or one does, whose display it must be
pub record IsToldDisplay (k : Machine) : Type 0 where
  pub none : k.cpu.regs.slot ≡ NO_SLOT → ShowsRunning k
  pub some : k.cpu.regs.slot ≢ NO_SLOT → (a : RunningContext k.cpu.core k.cpu.regs) × (IsShown a k.cpu.display → ShowsRunning k) × (ShowsRunning k → IsShown a k.cpu.display)
