-- What is wanted, as an object of the view, and how much core it needs.
use Rattle.std.proofs.Common.{◌≡◌, ◌≢◌, ℕ, ◌+◌, ◌-◌, ◌^◌, ◌<◌, ◌≤◌, List, length, map, flat_map, Option, Some, None, refl, sym, ◌∙◌, ap, arith, subst}
use Rattle.std.proofs.lemmas.Bool.{ne_eqb}
use Rattle.b67_area.specs.declared.kinds.Kind.TheVariants.{Code}
use Rattle.b67_lemmas.specs.Lists.{Has}
use Rattle.b67_lemmas.proofs.Members.{all_in, keyed_has}
use Rattle.b67_lemmas.proofs.Places.{get_within}
use Rattle.b67_model.specs.Common.{Task, SessionJob, code_of, number_of, Session, ArrayInOrder}
use Rattle.b67_layout.specs.Common.{IsInOrderButCounts, Placement, code_objects, objects_of, array_object, machine_view, IsRunning}
use Rattle.b67_stack.specs.declared.What.{What}
use Rattle.b67_stack.specs.declared.What.TheVariants as what
use Rattle.b67_stack.specs.MachineView.{PagedObject}
use Rattle.b67_stack.specs.Represents.{Storage}
use Rattle.b67_layout.specs.Machine.{IsAbsent, HasHole}
use Rattle.b67_layout.proofs.Fresh.{running_in_order}
use Rattle.b67_exec_cells.proofs.Replaced.{array_object-has, member_objects, before}
use Rattle.b67_exec_cells.specs.Running.{code_area}
use Rattle.b67_exec_cells.proofs.Codes.{code_object, at-is, at-small, bound}
use Rattle.b67_task.specs.Needing.{array_area, need_with}
use Rattle.b67_task.proofs.Needs.{need_above_low}
use Rattle.b67_presence.specs.Brings.{IsCode, need_one, need_both}
use Rattle.b67_task.specs.declared.tables.Machine.{Machine}
use Rattle.b67_presence.proofs.Resort.{room_beside}
use Rattle.b67_presence.specs.Bringing.{StandsOver, IsArrayWanted, IsWanted, IsUntouched, Brings, words_wanted}
use Rattle.b67_presence.proofs.Again.{view_stands}

some_of : (o : Option ℕ) → o ≢ None → (at : ℕ) × (o ≡ Some at)
some_of o n = grind arith

pub array_area-some : (n : ℕ) → 0 < n → array_area n ≡ n + 2
array_area-some n some = rw (ne_eqb n 0 (λ e. omega (arith, e, some))) refl

-- the object of the running segment
pub record CodeObject (plan : Placement) (s : Session) (m : SessionJob) (t : Task) : Type 0 where
  pub object : PagedObject
  pub there : Has (flat_map (objects_of plan) s.jobs) object
  pub home : object.home ≡ plan.dictionary m.constants.number + 1 + t.segment
  pub kind : object.kind ≡ Code
  pub count : length object.numbers ≡ length (code_of m.constants t.segment)

pub code_found : (plan : Placement) (s : Session) (m : SessionJob) (t : Task) → IsInOrderButCounts s → IsRunning plan s.jobs m t → CodeObject plan s m t
code_found plan s m t o runs =
    let has_m : Has s.jobs m = (keyed_has number_of m.constants.number s.jobs m runs.member).0 in
    let place = (running_in_order plan s m t o runs).1.place in
    let found = get_within m.constants.segments (t.segment - 1) (omega (arith, place.from_one, place.within)) in
    let at = plan.dictionary m.constants.number + 1 + t.segment in
    let object : PagedObject = record { home = at; kind = Code; numbers = found.0.code } in
    record {
      object = object;
      there = member_objects plan s.jobs m object has_m
          (before (code_objects plan m.constants.number 1 m.constants.segments) (map (array_object plan m.constants.number) m.progress.job.arrays) object
          (code_object plan m.constants.number 1 m.constants.segments (t.segment - 1) at found.0 found.1 (omega (arith, place.from_one))));
      home = refl;
      kind = refl;
      count = rw (found.1) refl;
    }

module _ (x : Storage) (told : Option (List (List ℕ))) (k : Machine) (plan : Placement) (s : Session) (m : SessionJob) (t : Task) (o : IsInOrderButCounts s) (h : StandsOver x told k plan s) (runs : IsRunning plan s.jobs m t) where
  pub address : k.cpu.regs.dict + k.cpu.regs.segment ≡ plan.dictionary m.constants.number + 1 + t.segment
  address = at-is x k.cpu plan s m t o h.stands.session runs

  pub address_small : k.cpu.regs.dict + k.cpu.regs.segment < 2 ^ 20
  address_small = omega (arith, at-small x k.cpu plan s m t o h.stands.session runs, bound x k.cpu plan s m t o h.stands.session runs)

  -- the descriptor of that displacement is the running segment's
  pub displaced : (d : ℕ) → d ≡ t.segment + 1 → k.cpu.regs.dict + d ≡ plan.dictionary m.constants.number + 1 + t.segment
  displaced d e = omega (arith, e, (h.stands.session.holds.running m t runs).dict)

  pub code_absent : (d : ℕ) → d ≡ t.segment + 1 → code_area x plan m t ≡ None → IsAbsent x (machine_view plan s.jobs) (k.cpu.regs.dict + d) (code_found plan s m t o runs).object
  code_absent d e none = grind arith

  pub code_present : (d : ℕ) → d ≡ k.cpu.regs.segment → code_area x plan m t ≢ None → (at : ℕ) × IsCode x (machine_view plan s.jobs) (k.cpu.regs.dict + d) at (code_found plan s m t o runs).object
  code_present d e n =
      let c = code_found plan s m t o runs in
      let (at, is) = some_of (code_area x plan m t) n in
      grind (arith, address)

  pub array_absent : (home words : ℕ) (w : IsArrayWanted x plan m t home words) → IsAbsent x (machine_view plan s.jobs) home (array_object plan m.constants.number w.array)
  array_absent home words w = grind (arith, array_object-has, keyed_has)

  -- what each of them needs is what the step needs
  pub need_code : (words : ℕ) → words ≡ 0 → need_with s m t 0 words ≡ need_one x (code_found plan s m t o runs).object
  need_code words none =
      let c = code_found plan s m t o runs in
      ap (need_with s m t 0) none ∙ need_above_low x x.device k plan s m t o h.stands runs 0 ∙ (let z : k.areas.low + (length (code_of m.constants t.segment) + 2) + 0 ≡ x.low + (length c.object.numbers + 2) = omega (arith, h.stands.storage.low, c.count) in z)

  pub need_array : (home words : ℕ) (w : IsArrayWanted x plan m t home words) → need_with s m t 0 words ≡ need_both x (code_found plan s m t o runs).object (array_object plan m.constants.number w.array)
  need_array home words w =
      let c = code_found plan s m t o runs in
      let order = (running_in_order plan s m t o runs).0 in
      let some = (all_in ArrayInOrder m.progress.job.arrays w.array order.tasks.arrays w.among).length_low in
      need_above_low x x.device k plan s m t o h.stands runs words
      ∙ (let z : k.areas.low + (length (code_of m.constants t.segment) + 2) + array_area words ≡ x.low + (length c.object.numbers + 2) + (length w.array.numbers + 2) = omega (arith, h.stands.storage.low, c.count, array_area-some words (omega (arith, some, w.words_are)), w.words_are) in z)

-- what is wanted, by its variant
pub wanted_code : (x : Storage) (plan : Placement) (m : SessionJob) (t : Task) (absent : What) (words d : ℕ) → absent ≡ what.Code d → IsWanted x plan m t absent words → IsWanted x plan m t (what.Code d) words
wanted_code x plan m t absent words d e w = subst (λ (z : What). IsWanted x plan m t z words) e w

pub wanted_array : (x : Storage) (plan : Placement) (m : SessionJob) (t : Task) (absent : What) (words home : ℕ) → absent ≡ what.Array home → IsWanted x plan m t absent words → IsArrayWanted x plan m t home words
wanted_array x plan m t absent words home e w = subst (λ (z : What). IsWanted x plan m t z words) e w

pub brings_as : (x : Storage) (told : Option (List (List ℕ))) (k : Machine) (plan : Placement) (s : Session) (m : SessionJob) (t : Task) (absent other : What) → absent ≡ other → Brings x told k plan s m t other → Brings x told k plan s m t absent
brings_as x told k plan s m t absent other e b = subst (λ (z : What). Brings x told k plan s m t z) (sym e) b

-- the need that was computed is the step's
pub needed_is : (x : Storage) (told : Option (List (List ℕ))) (k : Machine) (plan : Placement) (s : Session) (m : SessionJob) (t : Task) → IsInOrderButCounts s → StandsOver x told k plan s → IsRunning plan s.jobs m t
    → (words array needed : ℕ) → array ≡ words → needed ≡ need_with s m t 0 array → needed ≡ need_with s m t 0 words
needed_is x told k plan s m t o h runs words array needed e is = is ∙ ap (need_with s m t 0) e

pub fits_not : (needed core size need : ℕ) → needed ≤ core → core ≡ size → needed ≡ need → size < need → ⊥
fits_not needed core size need fits e is less = omega (arith, fits, e, is, less)

pub core_has : (needed core size need here : ℕ) → needed ≤ core → core ≡ size → needed ≡ need → need ≡ here → here ≤ size
core_has needed core size need here fits e is same = omega (arith, fits, e, is, same)

-- if a hole has room for an array that was never touched, core has the step's need
pub room_fits : (x : Storage) (told : Option (List (List ℕ))) (k : Machine) (plan : Placement) (s : Session) (m : SessionJob) (t : Task) → IsInOrderButCounts s → StandsOver x told k plan s → IsRunning plan s.jobs m t
    → (absent : What) (words : ℕ) → IsWanted x plan m t absent words → HasHole (words_wanted m t absent words) x.spans → IsUntouched x absent → need_with s m t 0 words ≤ length k.cpu.core
room_fits x told k plan s m t o h runs (what.Code d) words wanted room untouched = absurd untouched
room_fits x told k plan s m t o h runs (what.Array home) words w room untouched =
    let (at, present) = code_present x told k plan s m t o h runs k.cpu.regs.segment refl w.code in
    let a = array_absent x told k plan s m t o h runs home words w in
    let hole = subst (λ (n : ℕ). HasHole (n + 2) x.spans) w.words_are room in
    let fits = room_beside (view_stands x told k plan s o h) a present hole in
    subst (λ (n : ℕ). n ≤ length k.cpu.core) (sym (need_array x told k plan s m t o h runs home words w)) fits
