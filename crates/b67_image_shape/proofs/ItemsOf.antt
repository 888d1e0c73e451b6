-- A machine that represents what it shows has all the items.
use Rattle.b67_layout_shown.specs.Areas.{DirectoriesAreRead}
use Rattle.b67_layout_shown.specs.Laws.{StacksAreRead}
use Rattle.b67_layout_shown.specs.Machines.{sight_of, RepresentsShown}
use Rattle.b67_task.specs.declared.tables.Machine.{Machine}
use Rattle.b67_image_shape.specs.Items.{ShownItems}
use Rattle.b67_image_shape.proofs.TablesOf.{tables_of}
use Rattle.b67_image_shape.proofs.FixedOf.{fixed_of}
use Rattle.b67_image_shape.proofs.ObjectsOf.{objects_of, areas_of, chains_of}
use Rattle.b67_image_shape.proofs.StacksOf.{stacks_of, reach_of, cells_of}
use Rattle.b67_image_shape.proofs.CriticalOf.{critical_of}

pub items_of : StacksAreRead → DirectoriesAreRead → (k : Machine) → RepresentsShown k → ShownItems k
items_of stacks areas k r =
    let s = sight_of k in
    let h = r.stands.session.holds in
    record {
      tables = tables_of (sight_of k) r.storage k.cpu.critical r.ordered h r.stands.tables;
      fixed = fixed_of (sight_of k) r.storage k.cpu.critical r.ordered h r.stands.tables k.areas.low k.areas.size r.stands.storage.low r.stands.storage.size;
      stacks = stacks_of stacks (sight_of k) r.storage k.cpu.critical r.ordered h r.stands.tables;
      reach = reach_of stacks (sight_of k) r.storage k.cpu.critical r.ordered h r.stands.tables;
      cells = cells_of stacks (sight_of k) r.storage k.cpu.critical r.ordered h r.stands.tables;
      display = r.stands.session.shows;
      critical = critical_of stacks (sight_of k) r.storage k.cpu.critical r.ordered h r.stands.tables;
      objects = objects_of areas (sight_of k) r.storage k.cpu.critical r.ordered h r.stands.tables;
      areas = areas_of areas (sight_of k) r.storage k.cpu.critical r.ordered h r.stands.tables k.areas.low r.stands.storage.low;
      chains = chains_of areas k r;
    }
