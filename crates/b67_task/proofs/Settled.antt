-- A session whose machine has arrays left: they lie above the top, and without them the machine represents the session.
use Rattle.std.proofs.Common.{◌≡◌, ◌≢◌, ℕ, ◌+◌, ◌<◌, List, [], ◌∷◌, length, Option, refl, sym, ◌∙◌, ap, arith, subst}
use Rattle.b67_area.specs.declared.Areas.{Areas}
use Rattle.b67_backing.specs.Shelf.{Table}
use Rattle.b67_ctl.specs.declared.registers.Regs.{Regs}
use Rattle.b67_lemmas.specs.Lists.{Has}
use Rattle.b67_lemmas.proofs.Members.{keyed_has}
use Rattle.b67_model.specs.Common.{Task, SessionJob, number_of, Session}
use Rattle.b67_stack.specs.declared.Cpu.{Cpu}
use Rattle.b67_stack.specs.Common.{stack_words, PagedObject, MachineView, stack_of, slot_base, Storage, Represents}
use Rattle.b67_stack.proofs.Bases.{base-apart}
use Rattle.b67_stack.proofs.Slots.{running_slot}
use Rattle.b67_layout.specs.Machine.{MachineRepresentsView, Says}
use Rattle.b67_layout.proofs.Below.{not_heads}
use Rattle.b67_layout.specs.Common.{Placement, machine_view, with_objects, RepresentsStorage}
use Rattle.b67_layout.proofs.Common.{runs_on, AllAlike, RepresentsSession-over}
use Rattle.b67_task.specs.Released.{HasHome, Released, SameBelow, AreLeft}
use Rattle.b67_task.specs.LeftArrays.{IsLeft, AreReleased}
use Rattle.b67_task.proofs.ReleasedCopies.{slots_fit}

same_jobs : (ms : List SessionJob) → AllAlike ms ms
same_jobs [] = tt
same_jobs (m ∷ ms) = (record { number = refl; stack_size = refl; dictionary = refl; count = refl; tasks = refl }, same_jobs ms)

-- where the running stack's top is, and its slot's end
pub record TopIs (p : MachineView) (r : Regs) : Type 0 where
  pub slot : ℕ
  pub used : slot < p.peak
  pub top : r.s ≡ slot_base p slot + stack_words (stack_of (p.slots slot))
  pub last : r.losr + 1 ≡ slot_base p slot + p.size

module _ (left : List PagedObject) (x : Storage) (cpu : Cpu) (plan : Placement) (s : Session) (from upto : ℕ) (l : IsLeft left x cpu plan s from upto) where
  abbrev p : MachineView
  p = machine_view plan s.jobs

  top_is : TopIs p cpu.regs
  top_is =
      let (m, t, runs) = l.stands.holds.live l.runs in
      let on = runs_on plan s.jobs m t l.stands.holds.fits.rows (keyed_has number_of m.constants.number s.jobs m runs.member).0 (keyed_has (λ (u : Task). u.number) t.number m.progress.job.tasks t runs.task).0 runs.slot runs.member runs.task in
      grind (arith, running_slot)

  alone : (t u : PagedObject) → Has left t → Has p.objects u → u.home ≢ t.home
  alone t u int inu e = grind (arith, top_is)

  pub are_left : AreLeft p cpu.core from upto left
  are_left = let k = top_is in record {
    low = omega (arith, l.low, k.top);
    high = omega (arith, l.high, k.last, base-apart p k.slot p.peak k.used);
    each = l.each;
    among = l.among;
    arrays = l.arrays;
    alone = alone;
    fits = λ k hk. slots_fit plan s l.frames left k (l.stands.holds.memory.slots.laid.slots k hk);
  }

  module _ (areas : Areas) (table : Table) (told : Option (List (List ℕ))) (b : RepresentsStorage areas table told cpu.core x) where
    says : (d : Option (List (List ℕ))) → told ≡ d → Says d told
    says d e = grind arith

    pub machine_left : MachineRepresentsView x cpu areas table told (with_objects left p)
    machine_left = record { stands = l.stands.holds.memory; low = b.low; shelf = b.shelf; device = says x.device b.device }

    pub all_released : (new : Cpu) (after : Areas) (now : Table) (y : Storage) → new ≡ record cpu { core = new.core } → length new.core ≡ length cpu.core → after ≡ areas → Released (HasHome left) x y → MachineRepresentsView y new after now told p → SameBelow x.low cpu.core new.core
        → AreReleased left x cpu new after now told plan s
    all_released new after now y rest len same r m below = record {
      storage = y;
      released = r;
      stands = RepresentsSession-over left [] x y cpu new plan s s l.stands (same_jobs s.jobs) refl
          (ap (λ (z : Cpu). z.regs) rest) (ap (λ (z : Cpu). z.display) rest) (ap (λ (z : Cpu). z.critical) rest)
          (subst (λ (q : Regs). Represents y new.core q p) (ap (λ (z : Cpu). z.regs) rest) m.stands)
          l.stands.holds.settled
          (λ i low out apart. below i (omega (arith, low, l.stands.holds.memory.slots.laid.low)) (not_heads i out));
      beside = record { low = m.low; size = ap (λ (a : Areas). a.size) same ∙ b.size ∙ sym len; shelf = m.shelf; device = b.device ∙ sym r.device };
      below = below;
    }
