-- What stands after areas gave way.
use Rattle.std.proofs.Common.{◌≡◌, ◌≢◌, ℕ, ◌⊎◌, ⊎_elim, inr, List, Option, None, Ok, refl, sym, ◌∙◌, ap, arith}
use Rattle.b67_area.specs.declared.Areas.{Areas}
use Rattle.b67_backing.specs.Shelf.{Table}
use Rattle.b67_lemmas.specs.Lists.{Has}
use Rattle.b67_stack.specs.declared.Cpu.{Cpu}
use Rattle.b67_stack.specs.Common.{Location, PagedObject, MachineView, Storage, Represents, renumbered}
use Rattle.b67_layout.specs.Machine.{IsAbsent, AreBits}
use Rattle.b67_layout.proofs.Renumbered.{renumbered-same}
use Rattle.b67_overlay.specs.AreasEvicted.{AreasEvicted}
use Rattle.b67_overlay.proofs.Shedding.{AreasEvicted-then}
use Rattle.b67_presence.specs.Brings.{IsReadable, ReadBack, ReadIn, PagesIn, PlacedAfterEviction, StandsEvicted}

pub absent_after : {x y : Storage} {p : MachineView} {home spare : ℕ} {t : PagedObject} → AreasEvicted x y spare → IsAbsent x p home t → IsAbsent y p home t
absent_after {home} s a = record { there = a.there; is = a.is; absent = ap (λ (h : Location). h.area) (s.resting home a.absent) ∙ a.absent }

pub readable_after : {x y : Storage} {spare : ℕ} (p : MachineView) → AreasEvicted x y spare → IsReadable x p → IsReadable y p
readable_after p s h = grind arith

pub Reads-before : {x y : Storage} {p q : MachineView} {t : PagedObject} {spare : ℕ} → AreasEvicted x y spare → ReadBack y p q t → ReadBack x p q t
Reads-before s r = record { numbers = r.numbers; count = r.count; bits = r.bits; is = r.is; same = λ n. r.same (s.told n) }

pub none_or : (o : Option (List (List ℕ))) → (o ≡ None) ⊎ (o ≢ None)
none_or o = grind arith

-- what is read, of an object that came into a hole
pub read_in : {D : Type 0} {tell : D → Option (List (List ℕ))} {y : Storage} {p : MachineView} {home : ℕ} {t : PagedObject} {old cpu : Cpu} {areas : Areas} {table : Table} {before after : D}
    → Represents y old.core old.regs p → IsAbsent y p home t → PagesIn tell y p home t (Ok tt) old cpu areas table before after → IsReadable y p → ReadIn y p t cpu areas table (tell after)
read_in {D} {tell} {y} {p} {home} {t} {old} {cpu} {areas} {table} {before} {after} s a r readable = ⊎_elim
    (λ (e : y.device ≡ None).
    let (at, ns, place, count, bits, m) = r.untold e in
    let it : ReadIn y p t cpu areas table (tell after) = record {
      at = at;
      machine_view = renumbered p home ns;
      place = place;
      reads = record { numbers = ns; count = count; bits = λ _. bits; is = ap (λ (q : ℕ). renumbered p q ns) (sym a.is); same = λ n. absurd (n e) };
      stands = m;
    } in
    it)
    (λ (n : y.device ≢ None). ⊎_elim
    (λ (e : y.device ≡ None). absurd (n e))
    (λ (bits : (u : PagedObject) → Has p.objects u → AreBits u.numbers).
    let (at, place, m) = r.known (inr (n, bits t a.there)) in
    let it : ReadIn y p t cpu areas table (tell after) = record {
      at = at;
      machine_view = p;
      place = place;
      reads = record { numbers = t.numbers; count = refl; bits = λ b. b; is = sym (renumbered-same y old.core old.regs p s t a.there); same = λ _. refl };
      stands = m;
    } in
    it)
    readable)
    (none_or y.device)

pub came_of : {x y : Storage} {p : MachineView} {t : PagedObject} {spare : ℕ} {cpu : Cpu} {areas : Areas} {table : Table} {told : Option (List (List ℕ))} → AreasEvicted x y spare → ReadIn y p t cpu areas table told → PlacedAfterEviction x p t spare cpu areas table told
came_of s r = grind arith

-- what was given back before
pub Came-before : {x y : Storage} {p : MachineView} {t : PagedObject} {spare : ℕ} {cpu : Cpu} {areas : Areas} {table : Table} {told : Option (List (List ℕ))} → AreasEvicted x y spare → PlacedAfterEviction y p t spare cpu areas table told → PlacedAfterEviction x p t spare cpu areas table told
Came-before {x} {y} {spare} s c = record {
  storage = c.storage;
  at = c.at;
  machine_view = c.machine_view;
  sheds = AreasEvicted-then x y c.storage spare s c.sheds;
  place = c.place;
  reads = Reads-before s c.reads;
  stands = c.stands;
}

abbrev pub Waits-before : {x y : Storage} {p : MachineView} {spare : ℕ} {cpu : Cpu} {areas : Areas} {table : Table} {told : Option (List (List ℕ))} → AreasEvicted x y spare → StandsEvicted y p spare cpu areas table told → StandsEvicted x p spare cpu areas table told
Waits-before {x} {y} {spare} s w = record { storage = w.storage; sheds = AreasEvicted-then x y w.storage spare s w.sheds; stands = w.stands }
