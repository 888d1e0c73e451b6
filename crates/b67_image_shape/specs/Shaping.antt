-- What the tests before those of cells, objects and the display tell of a machine.
use Rattle.b67_task.specs.declared.tables.Machine.{Machine}
use Rattle.b67_layout_shown.specs.Machines.{sight_of}
use Rattle.b67_image_shape.specs.TableFacts.{TableFacts}
use Rattle.b67_image_shape.specs.FixedWords.{FixedFacts, CriticalMarks}
use Rattle.b67_image_shape.specs.NearStacks.{NearStacks}
use Rattle.b67_image_shape.specs.Items.{EachTask, ReachFacts}

pub record FrontFacts (k : Machine) : Type 0 where
  pub tables : TableFacts (sight_of k)
  pub fixed : FixedFacts (sight_of k) k.areas.low k.areas.size
  pub critical : CriticalMarks k.cpu.critical (sight_of k).tasks
  pub stacks : NearStacks (sight_of k)
  pub reach : EachTask (sight_of k) (ReachFacts (sight_of k))
