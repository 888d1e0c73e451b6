-- The machine represents a session again, after objects came and went in the view.
use Rattle.std.proofs.Common.{◌≡◌, ◌≢◌, ℕ, List, [], length, Option, None, refl, sym, ◌∙◌, ap, subst, arith}
use Rattle.b67_area.specs.declared.Areas.{Areas}
use Rattle.b67_backing.specs.Shelf.{Table}
use Rattle.b67_model.specs.Schedule.{Session}
use Rattle.b67_stack.specs.declared.Cpu.{Cpu}
use Rattle.b67_stack.specs.Common.{MachineView, NoOriginalAboveTop, Storage, Represents, LowWordsStayed}
use Rattle.b67_layout.specs.Machine.{Says, content_after}
use Rattle.b67_overlay.specs.Spans.{MachineCanPage}
use Rattle.b67_layout.specs.Common.{IsInOrderButCounts, Placement, machine_view, RepresentsSession}
use Rattle.b67_layout_spans.proofs.Sessions.{copies_of}
use Rattle.b67_layout.proofs.Paged.{RepresentsSession-over}
use Rattle.b67_task.specs.declared.tables.Tasks.{Tasks}
use Rattle.b67_task.specs.declared.tables.Machine.{Machine}
use Rattle.b67_task.specs.Tables.{MachineRepresents}
use Rattle.b67_presence.specs.Bringing.{StandsOver, StandsAgain}
use Rattle.b67_layout_step.proofs.MoreOtherNumbers.{others_alike}
use Rattle.b67_presence.proofs.Others.{others_show}
use Rattle.b67_presence.proofs.Seen.{Sees}

-- a machine over a device that tells what its storage says
pub over : (x : Storage) (told : Option (List (List ℕ))) (k : Machine) (plan : Placement) (s : Session) → MachineRepresents x told k plan s → StandsOver x told k plan s
over x told k plan s h = grind arith

-- what its view says of it
pub view_stands : (x : Storage) (told : Option (List (List ℕ))) (k : Machine) (plan : Placement) (s : Session) → IsInOrderButCounts s → StandsOver x told k plan s
    → MachineCanPage x k.cpu k.areas k.sectors told (machine_view plan s.jobs)
view_stands x told k plan s o h = record { stands = h.stands.session.holds.memory; low = h.stands.storage.low; shelf = h.stands.storage.shelf; device = h.says; copies = copies_of x k.cpu plan s o h.stands.session }

-- what a storage says that said something, and nothing otherwise
retelling : (d e now : Option (List (List ℕ))) → (d ≡ None → e ≡ None) → (d ≢ None → e ≢ None) → Says e now → e ≡ content_after d now
retelling d e now none some says = grind arith

-- a machine of other registers, core and sectors
abbrev pub machine_of : Cpu → Areas → Table → Tasks → Machine
machine_of cpu areas table tasks = record { cpu = cpu; areas = areas; sectors = table; tasks = tasks }

module _ (x y : Storage) (told now : Option (List (List ℕ))) (k : Machine) (plan : Placement) (s : Session) (h : StandsOver x told k plan s) (cpu : Cpu) (areas : Areas) (table : Table)
    (rest : cpu ≡ record k.cpu { core = cpu.core }) (len : length cpu.core ≡ length k.cpu.core) (same_areas : areas ≡ k.areas) (stayed : LowWordsStayed (machine_view plan s.jobs) k.cpu.core cpu.core)
    (q : MachineView) (sees : Sees x plan s.jobs q) (m : MachineCanPage y cpu areas table now q) (untold : x.device ≡ None → y.device ≡ None) (tells : x.device ≢ None → y.device ≢ None) where
  regs : cpu.regs ≡ k.cpu.regs
  regs = ap (λ (c : Cpu). c.regs) rest

  memory : Represents y cpu.core k.cpu.regs (machine_view plan sees.seen)
  memory = grind arith

  session : RepresentsSession y cpu plan (record s { jobs = sees.seen })
  session = RepresentsSession-over [] [] x y k.cpu cpu plan s (record s { jobs = sees.seen }) h.stands.session (others_alike s.jobs sees.seen sees.others) refl
      regs (ap (λ (c : Cpu). c.display) rest) (ap (λ (c : Cpu). c.critical) rest) memory
      (let P : MachineView → Type 0 = λ p. NoOriginalAboveTop p in subst P sees.is (sees.settled h.stands.session.holds.settled)) stayed

  abbrev it : StandsAgain x now (machine_of cpu areas table k.tasks) plan s
  it = record {
    storage = y;
    jobs = sees.seen;
    others = sees.others;
    same = sees.same;
    device = retelling x.device y.device now untold tells m.device;
    stands = record {
      says = m.device;
      stands = record {
        session = session;
        storage = record { low = m.low; size = ap (λ (a : Areas). a.size) same_areas ∙ h.stands.storage.size ∙ sym len; shelf = m.shelf; device = refl };
        tables = others_show plan s sees.seen k.tasks sees.others h.stands.tables;
      };
    };
  }

  pub again : (a : StandsAgain x now (machine_of cpu areas table k.tasks) plan s) × (a.storage ≡ y) × (a.jobs ≡ sees.seen)
  again = (it, refl, refl)
