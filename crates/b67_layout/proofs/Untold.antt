-- A storage that says nothing of the device.
use Rattle.std.proofs.Common.{List, None, refl}
use Rattle.b67_word.specs.Tagged.{Tagged}
use Rattle.b67_ctl.specs.declared.registers.Regs.{Regs}
use Rattle.b67_stack.specs.Common.{MachineView, Storage, Represents}
use Rattle.b67_stack.proofs.Reheld.{Content-stays}

abbrev pub untold : Storage → Storage
untold x = record x { device = None }

pub Represents-untold : (x : Storage) (core : List Tagged) (r : Regs) (p : MachineView) → Represents x core r p → Represents (untold x) core r p
Represents-untold x core r p s = record {
  slots = s.slots;
  stacks = s.stacks;
  objects = λ t int. let was = s.objects t int in record {
    home = was.home;
    content = Content-stays x (untold x) t (x.held t.home).chain (record { chain = refl; told = λ ns k. tt }) core core (x.held t.home).area (λ b e q low high. refl) was.content;
  };
  owned = record { of_area = s.owned.of_area; of_held = s.owned.of_held; of_chain = s.owned.of_chain; no_zero = s.owned.no_zero; one_chain = s.owned.one_chain };
  directory = s.directory;
  inside = s.inside;
}
