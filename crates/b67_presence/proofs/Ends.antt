-- The machine after something was brought in or refused.
use Rattle.std.proofs.Common.{◌≡◌, ◌≢◌, ℕ, ◌+◌, List, length, flat_map, Option, Some, None, refl, sym, ◌∙◌, ap, arith}
use Rattle.std.proofs.lemmas.Option.{none-some}
use Rattle.b67_area.specs.declared.Areas.{Areas}
use Rattle.b67_backing.specs.Shelf.{Table}
use Rattle.b67_lemmas.specs.Lists.{Has}
use Rattle.b67_model.specs.Common.{Task, SessionJob, Session}
use Rattle.b67_layout.specs.Common.{IsInOrderButCounts, Placement, objects_of, array_object, machine_view, IsRunning}
use Rattle.b67_stack.specs.declared.Cpu.{Cpu}
use Rattle.b67_stack.specs.declared.What.TheVariants as what
use Rattle.b67_stack.specs.Common.{Location, PagedObject, Storage, LowWordsStayed}
use Rattle.b67_overlay.specs.Spans.{MachineCanPage}
use Rattle.b67_stack.proofs.Helds.{held-same}
use Rattle.b67_presence.specs.Brought.{brought}
use Rattle.b67_presence.specs.Brings.{ReadIn, PlacedAfterEviction, StandsEvicted, BothIn, MayWait}
use Rattle.b67_task.specs.declared.tables.Machine.{Machine}
use Rattle.b67_presence.specs.Bringing.{StandsOver, StandsAgain, Brings, IsArrayWanted}
use Rattle.b67_presence.proofs.Seen.{Sees, sees_none, sees_read, sees_both, fitting, object_bits}
use Rattle.b67_presence.proofs.Again.{machine_of, again}
use Rattle.b67_presence.proofs.Wants.{code_found, array_absent}

module _ (x : Storage) (told now : Option (List (List ℕ))) (k : Machine) (plan : Placement) (s : Session) (o : IsInOrderButCounts s) (h : StandsOver x told k plan s) (cpu : Cpu) (areas : Areas) (table : Table)
    (rest : cpu ≡ record k.cpu { core = cpu.core }) (len : length cpu.core ≡ length k.cpu.core) (same_areas : areas ≡ k.areas) (stayed : LowWordsStayed (machine_view plan s.jobs) k.cpu.core cpu.core) where
  pub waits_again : (spare : ℕ) (w : StandsEvicted x (machine_view plan s.jobs) spare cpu areas table now) → (a : StandsAgain x now (machine_of cpu areas table k.tasks) plan s) × (a.storage ≡ w.storage) × (a.jobs ≡ s.jobs)
  waits_again spare w = again x w.storage told now k plan s h cpu areas table rest len same_areas stayed (machine_view plan s.jobs) (sees_none x plan s o) w.stands w.sheds.untold w.sheds.told

  pub stays_again : MachineCanPage x cpu areas table now (machine_view plan s.jobs) → (a : StandsAgain x now (machine_of cpu areas table k.tasks) plan s) × (a.storage ≡ x)
  stays_again m =
      let a = again x x told now k plan s h cpu areas table rest len same_areas stayed (machine_view plan s.jobs) (sees_none x plan s o) m (λ e. e) (λ n. n) in
      (a.0, a.1)

  module _ (t : PagedObject) (int : Has (flat_map (objects_of plan) s.jobs) t) where
    pub may_again : (c : PagedObject) (w : MayWait x (machine_view plan s.jobs) t c cpu areas table now) → (a : StandsAgain x now (machine_of cpu areas table k.tasks) plan s) × (a.storage ≡ w.storage)
    may_again c w =
        let fits = fitting x k.cpu.core k.cpu.regs (machine_view plan s.jobs) h.stands.session.holds.memory t int w.reads.numbers w.reads.count in
        let sees : Sees x plan s.jobs w.machine_view = sees_read x plan s o w.machine_view t w.reads fits (object_bits plan s o t int) in
        let a = again x w.storage told now k plan s h cpu areas table rest len same_areas stayed w.machine_view sees w.stands w.untold w.told_still in
        (a.0, a.1)

    pub read_again : (w : ReadIn x (machine_view plan s.jobs) t cpu areas table now) → (a : StandsAgain x now (machine_of cpu areas table k.tasks) plan s) × (a.storage ≡ brought x t w.at)
    read_again w =
        let fits = fitting x k.cpu.core k.cpu.regs (machine_view plan s.jobs) h.stands.session.holds.memory t int w.reads.numbers w.reads.count in
        let sees : Sees x plan s.jobs w.machine_view = sees_read x plan s o w.machine_view t w.reads fits (object_bits plan s o t int) in
        let a = again x (brought x t w.at) told now k plan s h cpu areas table rest len same_areas stayed w.machine_view sees w.stands (λ e. e) (λ n. n) in
        (a.0, a.1)

    pub came_again : (spare : ℕ) (w : PlacedAfterEviction x (machine_view plan s.jobs) t spare cpu areas table now) → (a : StandsAgain x now (machine_of cpu areas table k.tasks) plan s) × (a.storage ≡ brought w.storage t w.at)
    came_again spare w =
        let fits = fitting x k.cpu.core k.cpu.regs (machine_view plan s.jobs) h.stands.session.holds.memory t int w.reads.numbers w.reads.count in
        let sees : Sees x plan s.jobs w.machine_view = sees_read x plan s o w.machine_view t w.reads fits (object_bits plan s o t int) in
        let a = again x (brought w.storage t w.at) told now k plan s h cpu areas table rest len same_areas stayed w.machine_view sees w.stands w.sheds.untold w.sheds.told in
        (a.0, a.1)

    pub both_again : (c : PagedObject) → Has (flat_map (objects_of plan) s.jobs) c → (w : BothIn x (machine_view plan s.jobs) t c cpu areas table now) → (a : StandsAgain x now (machine_of cpu areas table k.tasks) plan s) × (a.storage ≡ w.storage)
    both_again c inc w =
        let sees : Sees x plan s.jobs w.machine_view = sees_both x k.cpu.core k.cpu.regs plan s o h.stands.session.holds.memory t c int inc w.read w.machine_view w.reads w.reads_code in
        let a = again x w.storage told now k plan s h cpu areas table rest len same_areas stayed w.machine_view sees w.stands w.untold w.told_still in
        (a.0, a.1)

  module _ (m : SessionJob) (t : Task) (runs : IsRunning plan s.jobs m t) where
    abbrev code : PagedObject
    code = (code_found plan s m t o runs).object

    pub brings_code : (d : ℕ) → d ≡ t.segment + 1 → PlacedAfterEviction x (machine_view plan s.jobs) (code_found plan s m t o runs).object 0 cpu areas table now → Brings x now (machine_of cpu areas table k.tasks) plan s m t (what.Code d)
    brings_code d e w =
        let c = code_found plan s m t o runs in
        let a = came_again c.object c.there 0 w in
        let held : Location = record { area = Some w.at; chain = (w.storage.held c.object.home).chain } in
        let is : ((brought w.storage c.object w.at).held c.object.home).area ≡ Some w.at = ap (λ (z : Location). z.area) (held-same w.storage.held c.object.home held) in
        let at : (a.0.storage.held c.object.home).area ≡ Some w.at = ap (λ (z : Storage). (z.held c.object.home).area) a.1 ∙ is in
        let here : (q : ℕ) → q ≡ plan.dictionary m.constants.number + 1 + t.segment → (a.0.storage.held q).area ≢ None =
        λ q same z. none-some w.at (sym z ∙ ap (λ (n : ℕ). (a.0.storage.held n).area) (same ∙ sym c.home) ∙ at) in
        record { again = a.0; code = here (plan.dictionary m.constants.number + 1 + t.segment) refl; there = here (plan.dictionary m.constants.number + d) (omega (arith, e)) }

    pub brings_array : (home words : ℕ) (w : IsArrayWanted x plan m t home words)
        → BothIn x (machine_view plan s.jobs) (array_object plan m.constants.number w.array) (code_found plan s m t o runs).object cpu areas table now → Brings x now (machine_of cpu areas table k.tasks) plan s m t (what.Array home)
    brings_array home words w b =
        let c = code_found plan s m t o runs in
        let absent = array_absent x told k plan s m t o h runs home words w in
        let a = both_again (array_object plan m.constants.number w.array) absent.there c.object c.there b in
        let present : (q n : ℕ) → q ≡ n → (b.storage.held n).area ≢ None → (a.0.storage.held q).area ≢ None =
        λ q n same some z. some (ap (λ (i : ℕ). (b.storage.held i).area) (sym same) ∙ ap (λ (y : Storage). (y.held q).area) (sym a.1) ∙ z) in
        record { again = a.0; code = present (plan.dictionary m.constants.number + 1 + t.segment) c.object.home (sym c.home) b.code; there = present home (plan.home m.constants.number w.array.identity) (sym w.home_is) b.object }
