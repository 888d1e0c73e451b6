-- A machine that represents a session in order has its copies in the spans in which they are searched.
use Rattle.std.proofs.Common.{ℕ, List, Option, refl, ⊎_elim}
use Rattle.b67_area.specs.declared.Areas.{Areas}
use Rattle.b67_backing.specs.Shelf.{Table}
use Rattle.b67_ctl.specs.Descriptors.{data_word}
use Rattle.b67_model.specs.Schedule.{Session}
use Rattle.b67_stack.specs.declared.Cpu.{Cpu}
use Rattle.b67_stack.specs.MachineView.{MachineView}
use Rattle.b67_stack.specs.Represents.{Storage}
use Rattle.b67_layout.specs.Machine.{MachineRepresentsView}
use Rattle.b67_layout.specs.Common.{IsInOrderButCounts, Placement, machine_view, RepresentsSession}
use Rattle.b67_overlay.specs.Spans.{CopiesLie, MachineCanPage, span_of, InSpan}
use Rattle.b67_overlay.proofs.Copies.{in_or_out, no_copy_outside}
use Rattle.b67_layout_spans.specs.SpansHold.{SpansHoldCopies}
use Rattle.b67_layout_spans.proofs.Residents.{families, families_shown}
use Rattle.b67_layout_spans.proofs.Lies.{copies_lie}

pub copies_of : (x : Storage) (cpu : Cpu) (plan : Placement) (s : Session) → IsInOrderButCounts s → RepresentsSession x cpu plan s → CopiesLie cpu.core (machine_view plan s.jobs)
copies_of x cpu plan s o h = record {
  families = families plan s.jobs;
  shown = families_shown cpu.core plan s o h.holds.fits h.holds.dictionaries h.holds.vector;
  lie = λ k low. copies_lie x cpu.core cpu.regs plan s o h.holds.fits h.holds.memory k;
}

-- so its paging may search for them
pub can_page : (x : Storage) (cpu : Cpu) (areas : Areas) (table : Table) (told : Option (List (List ℕ))) (plan : Placement) (s : Session) → IsInOrderButCounts s → RepresentsSession x cpu plan s
    → MachineRepresentsView x cpu areas table told (machine_view plan s.jobs) → MachineCanPage x cpu areas table told (machine_view plan s.jobs)
can_page x cpu areas table told plan s o h m = record { stands = m.stands; low = m.low; shelf = m.shelf; device = m.device; copies = copies_of x cpu plan s o h }

pub view_of : (x : Storage) (cpu : Cpu) (areas : Areas) (table : Table) (told : Option (List (List ℕ))) (p : MachineView) → MachineCanPage x cpu areas table told p → MachineRepresentsView x cpu areas table told p
view_of x cpu areas table told p m = record { stands = m.stands; low = m.low; shelf = m.shelf; device = m.device }

pub spans_hold : SpansHoldCopies
spans_hold x cpu plan s o h =
    let c = copies_of x cpu plan s o h in
    let p = machine_view plan s.jobs in (
      c.families,
      c.shown,
      λ area t at k i low stack copy. ⊎_elim
          (λ (there : InSpan (span_of c.families p t.home k) i). there)
          (λ (out : InSpan (span_of c.families p t.home k) i → ⊥). absurd (no_copy_outside x cpu.core cpu.regs p h.holds.memory area t at c k i (data_word copy.desc) low stack out copy.read copy.desc copy.fits refl copy.copy))
          (in_or_out (span_of c.families p t.home k) i),
    )
