-- The machine represents the same session once areas were evicted.
use Rattle.std.proofs.Common.{◌≡◌, ◌≢◌, ℕ, List, [], ◌∷◌, Option, None, refl, sym, ◌∙◌, ap, subst, arith}
use Rattle.b67_area.specs.declared.Areas.{Areas}
use Rattle.b67_backing.specs.Shelf.{Table}
use Rattle.b67_ctl.specs.declared.registers.Regs.{Regs}
use Rattle.b67_model.specs.State.{SessionJob}
use Rattle.b67_model.specs.Schedule.{Session}
use Rattle.b67_stack.specs.declared.Cpu.{Cpu}
use Rattle.b67_stack.specs.Common.{Storage, Represents, LowWordsStayed}
use Rattle.b67_layout.specs.Common.{IsInOrderButCounts, Placement, machine_view}
use Rattle.b67_layout.proofs.Alike.{AllAlike}
use Rattle.b67_layout.proofs.Paged.{RepresentsSession-over}
use Rattle.b67_layout.specs.Machine.{PagingKeeps, Says, content_after}
use Rattle.b67_overlay.specs.Spans.{MachineCanPage}
use Rattle.b67_layout.proofs.Untold.{untold}
use Rattle.b67_overlay.specs.AreasEvicted.{AreasEvicted}
use Rattle.b67_layout_spans.proofs.Sessions.{copies_of}
use Rattle.b67_task.specs.declared.tables.Machine.{Machine}
use Rattle.b67_task.specs.Tables.{MachineRepresents}

pub same_jobs : (ms : List SessionJob) → AllAlike ms ms
same_jobs [] = tt
same_jobs (m ∷ ms) = (record { number = refl; stack_size = refl; dictionary = refl; count = refl; tasks = refl }, same_jobs ms)

-- what a storage says that said something, and nothing otherwise
retelling : (d e now : Option (List (List ℕ))) → (d ≡ None → e ≡ None) → (d ≢ None → e ≢ None) → Says e now → content_after d now ≡ e
retelling d e now none some says = grind arith

module _ (x : Storage) (told : Option (List (List ℕ))) (k : Machine) (plan : Placement) (s : Session) (h : MachineRepresents x told k plan s) where
  -- it stands over a storage that says nothing of the device
  pub silent : MachineRepresents (untold x) None k plan s
  silent = grind arith

  -- what its view says of it, over a device that tells what its storage says
  pub seen_over : IsInOrderButCounts s → (now : Option (List (List ℕ))) → Says told now → MachineCanPage x k.cpu k.areas k.sectors now (machine_view plan s.jobs)
  seen_over o now says = record { stands = h.session.holds.memory; low = h.storage.low; shelf = h.storage.shelf; device = subst (λ (d : Option (List (List ℕ))). Says d now) h.storage.device says; copies = copies_of x k.cpu plan s o h.session }

  module _ (y : Storage) (now : Option (List (List ℕ))) (cpu : Cpu) (areas : Areas) (table : Table) (kept : PagingKeeps k.cpu cpu k.areas areas k.sectors table) (stayed : LowWordsStayed (machine_view plan s.jobs) k.cpu.core cpu.core)
      (evicted : AreasEvicted x y 0) (view : MachineCanPage y cpu areas table now (machine_view plan s.jobs)) where
    pub stands_moved : MachineRepresents y (content_after told now) (record k { cpu = cpu; areas = areas; sectors = table }) plan s
    stands_moved =
        let P : Regs → Type 0 = λ r. Represents y cpu.core r (machine_view plan s.jobs) in
        let regs : cpu.regs ≡ k.cpu.regs = ap (λ (c : Cpu). c.regs) kept.rest in
        record {
          session = RepresentsSession-over [] [] x y k.cpu cpu plan s s h.session (same_jobs s.jobs) refl regs (ap (λ (c : Cpu). c.display) kept.rest) (ap (λ (c : Cpu). c.critical) kept.rest)
              (subst P regs view.stands) h.session.holds.settled stayed;
          storage = record {
            low = view.low;
            size = ap (λ (a : Areas). a.size) kept.areas ∙ h.storage.size ∙ sym kept.len;
            shelf = view.shelf;
            device = ap (λ (d : Option (List (List ℕ))). content_after d now) h.storage.device ∙ retelling x.device y.device now evicted.untold evicted.told view.device;
          };
          tables = h.tables;
        }

-- a device that hasn't changed tells what it told
pub content_same : (told now : Option (List (List ℕ))) → Says told now → content_after told now ≡ told
content_same told now says = grind arith
