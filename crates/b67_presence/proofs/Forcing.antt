-- What stands where make_way ended.
use Rattle.std.proofs.Common.{◌≡◌, ℕ, ◌+◌, ◌≤◌, List, length, Option, Some, Result, Err, inl, refl, sym, ◌∙◌, ap, arith}
use Rattle.b67_backing.specs.declared.SpaceFault.{SpaceFault}
use Rattle.b67_backing.specs.declared.SpaceFault.TheVariants.{NoCore}
use Rattle.std.proofs.lemmas.Option.{none-some}
use Rattle.b67_area.specs.declared.Areas.{Areas}
use Rattle.b67_area.proofs.Laws.{area_inside}
use Rattle.b67_backing.specs.Shelf.{Table}
use Rattle.b67_stack.specs.declared.Cpu.{Cpu}
use Rattle.b67_stack.specs.Common.{Location, PagedObject, MachineView, Storage}
use Rattle.b67_layout.specs.Machine.{IsAbsent, HasHole}
use Rattle.b67_overlay.specs.Spans.{MachineCanPage}
use Rattle.b67_stack.proofs.Helds.{held-same, held-other}
use Rattle.b67_overlay.specs.AreasEvicted.{AreasEvicted}
use Rattle.b67_presence.specs.Brought.{brought}
use Rattle.b67_presence.specs.Brings.{PlacedAfterEviction, StandsEvicted, IsCode, BothIn, MayWait, IsAlone}
use Rattle.b67_presence.proofs.Rooms.{one_hole}
use Rattle.b67_presence.proofs.Resort.{Reads-none, there_after, differ}

-- with no area left there is room for what core has room for
pub room_alone : (y : Storage) (cpu : Cpu) (areas : Areas) (table : Table) (told : Option (List (List ℕ))) (p : MachineView) (n : ℕ) → MachineCanPage y cpu areas table told p → IsAlone y 0 → y.low + (n + 2) ≤ length cpu.core → HasHole (n + 2) y.spans
room_alone y cpu areas table told p n m alone fits = grind (arith, one_hole, area_inside)

pub code_after : (x y : Storage) (p : MachineView) (code spare : ℕ) (c : PagedObject) → AreasEvicted x y spare → IsCode x p code spare c → IsCode y p code spare c
code_after x y p code spare c s k = record { there = k.there; is = k.is; kind = k.kind; present = ap (λ (h : Location). h.area) (s.spared code k.present) ∙ k.present }

-- the object came in and the code stayed
pub both_came : {x : Storage} {cpu : Cpu} {areas : Areas} {table : Table} {told : Option (List (List ℕ))} {p : MachineView} {home code spare : ℕ} {t c : PagedObject} → MachineCanPage x cpu areas table told p → IsAbsent x p home t → IsCode x p code spare c
    → {new : Cpu} {after : Areas} {table' : Table} {now : Option (List (List ℕ))} → PlacedAfterEviction x p t spare new after table' now → BothIn x p t c new after table' now
both_came {x} {cpu} {areas} {table} {told} {p} {home} {code} {spare} {t} {c} m a k {new} came =
    let d = differ m a k in
    let y = came.storage in
    let h : Location = record { area = Some came.at; chain = (y.held t.home).chain } in
    let is_t : ((brought y t came.at).held t.home).area ≡ Some came.at = ap (λ (g : Location). g.area) (held-same y.held t.home h) in
    let is_c : ((brought y t came.at).held c.home).area ≡ Some spare = ap (λ (g : Location). g.area) (held-other y.held t.home h c.home d ∙ ap y.held k.is ∙ came.sheds.spared code k.present) ∙ k.present in
    record {
      storage = brought y t came.at;
      read = came.machine_view;
      machine_view = came.machine_view;
      low = came.sheds.low;
      untold = came.sheds.untold;
      told_still = came.sheds.told;
      object = λ e. none-some came.at (sym e ∙ is_t);
      code = λ e. none-some spare (sym e ∙ is_c);
      reads = came.reads;
      reads_code = Reads-none x (brought y t came.at) new.core new.regs came.machine_view c came.stands.stands (there_after x p came.machine_view t c came.reads k.there d);
      stands = came.stands;
    }

-- areas were given back, and the object didn't come in
pub may_wait : {x : Storage} {p : MachineView} {home spare : ℕ} {t : PagedObject} (c : PagedObject) → IsAbsent x p home t → {new : Cpu} {after : Areas} {table' : Table} {now : Option (List (List ℕ))} → StandsEvicted x p spare new after table' now → MayWait x p t c new after table' now
may_wait {x} {p} {home} {t} c a {new} w = record {
  storage = w.storage;
  machine_view = p;
  low = w.sheds.low;
  untold = w.sheds.untold;
  told_still = w.sheds.told;
  lacks = inl (ap (λ (q : ℕ). (w.storage.held q).area) a.is ∙ ap (λ (h : Location). h.area) (w.sheds.resting home a.absent) ∙ a.absent);
  reads = Reads-none x w.storage new.core new.regs p t w.stands.stands a.there;
  stands = w.stands;
}

-- the last resort after areas were given back
pub both_before : (x y : Storage) (p : MachineView) (spare : ℕ) (t c : PagedObject) (new : Cpu) (after : Areas) (table' : Table) (now : Option (List (List ℕ))) → AreasEvicted x y spare → BothIn y p t c new after table' now → BothIn x p t c new after table' now
both_before x y p spare t c new after table' now s b = record {
  storage = b.storage;
  read = b.read;
  machine_view = b.machine_view;
  low = b.low ∙ s.low;
  untold = λ e. b.untold (s.untold e);
  told_still = λ n. b.told_still (s.told n);
  object = b.object;
  code = b.code;
  reads = record { numbers = b.reads.numbers; count = b.reads.count; bits = b.reads.bits; is = b.reads.is; same = λ n. b.reads.same (s.told n) };
  reads_code = record { numbers = b.reads_code.numbers; count = b.reads_code.count; bits = b.reads_code.bits; is = b.reads_code.is; same = λ n. b.reads_code.same (s.told n) };
  stands = b.stands;
}

pub wait_before : (x y : Storage) (p : MachineView) (spare : ℕ) (t c : PagedObject) (new : Cpu) (after : Areas) (table' : Table) (now : Option (List (List ℕ))) → AreasEvicted x y spare → MayWait y p t c new after table' now → MayWait x p t c new after table' now
wait_before x y p spare t c new after table' now s b = grind arith

-- two refusals with the same numbers
pub same_need : (n s need size : ℕ) → n ≡ need → s ≡ size → ◌≡◌ {A = Result (Unit {0}) SpaceFault} (Err (NoCore n s)) (Err (NoCore need size))
same_need n s need size a b = rw (a, b) refl

pub need_is : (n s need size : ℕ) → ◌≡◌ {A = Result (Unit {0}) SpaceFault} (Err (NoCore n s)) (Err (NoCore need size)) → (n ≡ need) × (s ≡ size)
need_is n s need size e = (cc, cc)
