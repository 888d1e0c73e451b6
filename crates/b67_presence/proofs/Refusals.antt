-- What a refusal leaves absent, and the machine where a hole had room.
use Rattle.std.proofs.Common.{◌≡◌, ◌≢◌, ℕ, ◌+◌, List, length, Option, Some, None, Result, Ok, Err, OnOk, OnErr, refl, sym, ◌∙◌, ap, arith, inl, inr, ⊎_elim, subst}
use Rattle.std.proofs.lemmas.Option.{none-some}
use Rattle.b67_area.specs.declared.Areas.{Areas}
use Rattle.b67_backing.specs.Shelf.{Table}
use Rattle.b67_backing.specs.declared.SpaceFault.{SpaceFault}
use Rattle.b67_model.specs.Common.{Task, SessionJob, Session}
use Rattle.b67_layout.specs.Common.{IsInOrderButCounts, Placement, array_object, machine_view, IsRunning}
use Rattle.b67_stack.specs.declared.Cpu.{Cpu}
use Rattle.b67_stack.specs.declared.What.{What}
use Rattle.b67_stack.specs.declared.What.TheVariants as what
use Rattle.b67_stack.specs.Common.{Location, PagedObject, Storage, LowWordsStayed}
use Rattle.b67_layout.specs.Machine.{IsAbsent, HasHole}
use Rattle.b67_overlay.specs.Spans.{MachineCanPage}
use Rattle.b67_stack.proofs.Helds.{held-other}
use Rattle.b67_layout.proofs.Below.{Stayed-none}
use Rattle.b67_overlay.specs.AreasEvicted.{AreasEvicted, IsShortBy}
use Rattle.b67_overlay.proofs.Shedding.{AreasEvicted-none}
use Rattle.b67_exec_cells.specs.Running.{code_area}
use Rattle.b67_presence.specs.Brought.{brought}
use Rattle.b67_presence.specs.Brings.{IsReadable, ReadIn, StandsEvicted, MayWait, IsCode}
use Rattle.b67_task.specs.declared.tables.Machine.{Machine}
use Rattle.b67_presence.specs.Bringing.{StandsOver, IsArrayWanted, IsWanted, Lacks, StillLacks, HasNoRoom, RefusedFull, IsShortOf, AreasStay, StaysIn, BringsInPlace, IsUntouched, words_wanted}
use Rattle.b67_presence.proofs.Again.{machine_of, view_stands}
use Rattle.b67_presence.proofs.Ends.{waits_again, may_again, read_again, stays_again}
use Rattle.b67_task.proofs.Shortage.{short_of}
use Rattle.b67_presence.proofs.Seen.{readable}
use Rattle.b67_presence.proofs.Wants.{CodeObject, code_found, array_absent}

-- what was absent still is, whatever areas were given back
pub code_lacks : (x y : Storage) (plan : Placement) (m : SessionJob) (t : Task) (d spare : ℕ) → code_area x plan m t ≡ None → AreasEvicted x y spare → Lacks y (what.Code d) plan m t
code_lacks x y plan m t d spare none s = ap (λ (h : Location). h.area) (s.resting (plan.dictionary m.constants.number + 1 + t.segment) none) ∙ none

pub array_lacks : (x y : Storage) (plan : Placement) (m : SessionJob) (t : Task) (home words spare : ℕ) → IsArrayWanted x plan m t home words → AreasEvicted x y spare → Lacks y (what.Array home) plan m t
array_lacks x y plan m t home words spare w s = grind arith

module _ (x : Storage) (told now : Option (List (List ℕ))) (k : Machine) (plan : Placement) (s : Session) (o : IsInOrderButCounts s) (h : StandsOver x told k plan s) (cpu : Cpu) (areas : Areas) (table : Table)
    (rest : cpu ≡ record k.cpu { core = cpu.core }) (len : length cpu.core ≡ length k.cpu.core) (same_areas : areas ≡ k.areas) (stayed : LowWordsStayed (machine_view plan s.jobs) k.cpu.core cpu.core) where
  module _ (m : SessionJob) (t : Task) (absent : What) (spare : ℕ) (w : StandsEvicted x (machine_view plan s.jobs) spare cpu areas table now) (lacks : (y : Storage) → AreasEvicted x y spare → Lacks y absent plan m t) where
    pub refused_waits : StillLacks x now (machine_of cpu areas table k.tasks) plan s m t absent
    refused_waits =
        let a = waits_again x told now k plan s o h cpu areas table rest len same_areas stayed spare w in
        let L : Storage → Type 0 = λ y. Lacks y absent plan m t in
        record { again = a.0; lacks = subst L (sym a.1) (lacks w.storage w.sheds) }

    pub refused_full : (words wants free : ℕ) → IsShortBy w.storage (machine_view plan s.jobs) wants free → HasNoRoom w.storage absent words plan m t
        → RefusedFull x now (machine_of cpu areas table k.tasks) plan s m t absent words wants free
    refused_full words wants free short none =
        let a = waits_again x told now k plan s o h cpu areas table rest len same_areas stayed spare w in
        let L : Storage → Type 0 = λ y. Lacks y absent plan m t in
        let S : Storage → List SessionJob → Type 0 = λ y jobs. IsShortOf y plan jobs wants free in
        let of = short_of w.storage plan s.jobs wants free short in
        record {
          refused = record { again = a.0; lacks = subst L (sym a.1) (lacks w.storage w.sheds) };
          no_room = subst (λ (y : Storage). HasNoRoom y absent words plan m t) (sym a.1) none;
          short = subst (S a.0.storage) (sym a.2) (subst (λ (y : Storage). S y s.jobs) (sym a.1) of);
        }

  pub refused_array : (m : SessionJob) (t : Task) (runs : IsRunning plan s.jobs m t) (home words : ℕ) (w : IsArrayWanted x plan m t home words)
      → MayWait x (machine_view plan s.jobs) (array_object plan m.constants.number w.array) (code_found plan s m t o runs).object cpu areas table now → StillLacks x now (machine_of cpu areas table k.tasks) plan s m t (what.Array home)
  refused_array m t runs home words w b =
      let c = code_found plan s m t o runs in
      let absent = array_absent x told k plan s m t o h runs home words w in
      let a = may_again x told now k plan s o h cpu areas table rest len same_areas stayed (array_object plan m.constants.number w.array) absent.there c.object b in
      let L : Storage → Type 0 = λ y. Lacks y (what.Array home) plan m t in
      let lacks : L b.storage = ⊎_elim
      (λ (e : (b.storage.held (plan.home m.constants.number w.array.identity)).area ≡ None). let l : L b.storage = inr (ap (λ (q : ℕ). (b.storage.held q).area) (sym w.home_is) ∙ e) in l)
      (λ (e : (b.storage.held c.object.home).area ≡ None). let l : L b.storage = inl (ap (λ (q : ℕ). (b.storage.held q).area) (sym c.home) ∙ e) in l)
      b.lacks in
      record { again = a.0; lacks = subst L (sym a.1) lacks }

  -- where a hole had room
  pub stays_in : (home : ℕ) (t : PagedObject) → IsAbsent x (machine_view plan s.jobs) home t → (r : Result (Unit {0}) SpaceFault) → OnOk r (IsReadable x (machine_view plan s.jobs) → ReadIn x (machine_view plan s.jobs) t cpu areas table now)
      → OnErr r (MachineCanPage x cpu areas table now (machine_view plan s.jobs)) → StaysIn x now (machine_of cpu areas table k.tasks) plan s
  stays_in home t b (Ok u) ok err =
      let w = ok (readable x plan s o) in
      let a = read_again x told now k plan s o h cpu areas table rest len same_areas stayed t b.there w in
      let A : Storage → Type 0 = λ y. AreasStay x y in
      let g : Location = record { area = Some w.at; chain = (x.held t.home).chain } in
      let none : (x.held t.home).area ≡ None = ap (λ (q : ℕ). (x.held q).area) b.is ∙ b.absent in
      let all : AreasStay x (brought x t w.at) = λ q some. ap (λ (z : Location). z.area) (held-other x.held t.home g q (λ e. some (ap (λ (n : ℕ). (x.held n).area) e ∙ none))) in
      record { again = a.0; areas = subst A (sym a.1) all }
  stays_in home t b (Err fault) ok err =
      let a = stays_again x told now k plan s o h cpu areas table rest len same_areas stayed err in
      let A : Storage → Type 0 = λ y. AreasStay x y in
      let all : AreasStay x x = λ q some. refl in
      record { again = a.0; areas = subst A (sym a.1) all }

  -- an object that was brought into a hole is there, and every area is where it was
  areas_placed : (home : ℕ) (t : PagedObject) → IsAbsent x (machine_view plan s.jobs) home t → (at : ℕ) → AreasStay x (brought x t at)
  areas_placed home t b at = grind arith

  placed_there : (t : PagedObject) (at : ℕ) → ((brought x t at).held t.home).area ≡ Some at
  placed_there t at = grind arith

  pub in_place_code : (m : SessionJob) (t : Task) (runs : IsRunning plan s.jobs m t) (d : ℕ) → d ≡ t.segment + 1 → code_area x plan m t ≡ None → ReadIn x (machine_view plan s.jobs) (code_found plan s m t o runs).object cpu areas table now
      → BringsInPlace x now (machine_of cpu areas table k.tasks) plan s m t (what.Code d)
  in_place_code m t runs d e none w =
      let c = code_found plan s m t o runs in
      let absent : IsAbsent x (machine_view plan s.jobs) (plan.dictionary m.constants.number + 1 + t.segment) c.object = record { there = c.there; is = c.home; absent = none } in
      let a = read_again x told now k plan s o h cpu areas table rest len same_areas stayed c.object c.there w in
      let A : Storage → Type 0 = λ y. AreasStay x y in
      let at : (a.0.storage.held c.object.home).area ≡ Some w.at = ap (λ (z : Storage). (z.held c.object.home).area) a.1 ∙ placed_there c.object w.at in
      let here : (q : ℕ) → q ≡ plan.dictionary m.constants.number + 1 + t.segment → (a.0.storage.held q).area ≢ None =
      λ q same z. none-some w.at (sym z ∙ ap (λ (n : ℕ). (a.0.storage.held n).area) (same ∙ sym c.home) ∙ at) in
      record {
        brings = record { again = a.0; code = here (plan.dictionary m.constants.number + 1 + t.segment) refl; there = here (plan.dictionary m.constants.number + d) (omega (arith, e)) };
        areas = subst A (sym a.1) (areas_placed (plan.dictionary m.constants.number + 1 + t.segment) c.object absent w.at);
      }

  pub in_place_array : (m : SessionJob) (t : Task) (runs : IsRunning plan s.jobs m t) (home words : ℕ) (w : IsArrayWanted x plan m t home words) → ReadIn x (machine_view plan s.jobs) (array_object plan m.constants.number w.array) cpu areas table now
      → BringsInPlace x now (machine_of cpu areas table k.tasks) plan s m t (what.Array home)
  in_place_array m t runs home words w r =
      let object = array_object plan m.constants.number w.array in
      let absent = array_absent x told k plan s m t o h runs home words w in
      let a = read_again x told now k plan s o h cpu areas table rest len same_areas stayed object absent.there r in
      let A : Storage → Type 0 = λ y. AreasStay x y in
      let stay : AreasStay x a.0.storage = subst A (sym a.1) (areas_placed home object absent r.at) in
      let at : (a.0.storage.held object.home).area ≡ Some r.at = ap (λ (z : Storage). (z.held object.home).area) a.1 ∙ placed_there object r.at in
      record {
        brings = record {
          again = a.0;
          code = λ none. w.code (sym (stay (plan.dictionary m.constants.number + 1 + t.segment) w.code) ∙ none);
          there = λ none. none-some r.at (sym none ∙ ap (λ (n : ℕ). (a.0.storage.held n).area) (sym w.home_is) ∙ at);
        };
        areas = stay;
      }

-- no hole has room for what is wanted, after areas were given back
pub no_room_code : (y : Storage) (plan : Placement) (s : Session) (m : SessionJob) (t : Task) (d : ℕ) (c : CodeObject plan s m t) → Lacks y (what.Code d) plan m t → (HasHole (length c.object.numbers + 2) y.spans → ⊥) → HasNoRoom y (what.Code d) 0 plan m t
no_room_code y plan s m t d c none full = (none, λ room. full (subst (λ (n : ℕ). HasHole (n + 2) y.spans) (sym c.count) room))

pub no_room_array : (x y : Storage) (plan : Placement) (s : Session) (m : SessionJob) (t : Task) (home words q at : ℕ) (c : CodeObject plan s m t) (w : IsArrayWanted x plan m t home words) → AreasEvicted x y at → IsCode x (machine_view plan s.jobs) q at c.object
    → (HasHole (length w.array.numbers + 2) y.spans → ⊥) → HasNoRoom y (what.Array home) words plan m t
no_room_array x y plan s m t home words q at c w e code full = grind arith

-- where nothing was changed
wanted_lacks : (x y : Storage) (plan : Placement) (m : SessionJob) (t : Task) (absent : What) (words : ℕ) → IsWanted x plan m t absent words → AreasEvicted x y 0 → Lacks y absent plan m t
wanted_lacks x y plan m t absent words w s = grind arith

module _ (x : Storage) (told : Option (List (List ℕ))) (k : Machine) (plan : Placement) (s : Session) (o : IsInOrderButCounts s) (h : StandsOver x told k plan s) where
  pub refused_still : (m : SessionJob) (t : Task) (absent : What) (words : ℕ) → IsWanted x plan m t absent words → StillLacks x told k plan s m t absent
  refused_still m t absent words wanted =
      refused_waits x told told k plan s o h k.cpu k.areas k.sectors refl refl refl (Stayed-none (machine_view plan s.jobs) k.cpu.core) m t absent 0
      (record { storage = x; sheds = AreasEvicted-none x 0; stands = view_stands x told k plan s o h }) (λ y sheds. wanted_lacks x y plan m t absent words wanted sheds)

  pub stays_put : StaysIn x told k plan s
  stays_put =
      let a = stays_again x told told k plan s o h k.cpu k.areas k.sectors refl refl refl (Stayed-none (machine_view plan s.jobs) k.cpu.core) (view_stands x told k plan s o h) in
      let A : Storage → Type 0 = λ y. AreasStay x y in
      let all : AreasStay x x = λ q some. refl in
      record { again = a.0; areas = subst A (sym a.1) all }

-- by the variant of what is wanted
pub refused_as : (x : Storage) (told : Option (List (List ℕ))) (k : Machine) (plan : Placement) (s : Session) (m : SessionJob) (t : Task) (absent other : What) → absent ≡ other → StillLacks x told k plan s m t other → StillLacks x told k plan s m t absent
refused_as x told k plan s m t absent other e b = subst (λ (z : What). StillLacks x told k plan s m t z) (sym e) b

pub full_as : (x : Storage) (told : Option (List (List ℕ))) (k : Machine) (plan : Placement) (s : Session) (m : SessionJob) (t : Task) (absent other : What) (words words' wants free : ℕ) → absent ≡ other → words ≡ words' → RefusedFull x told k plan s m t other words' wants free → RefusedFull x told k plan s m t absent words wants free
full_as x told k plan s m t absent other words words' wants free e same b = grind arith

pub in_place_as : (x : Storage) (told : Option (List (List ℕ))) (k : Machine) (plan : Placement) (s : Session) (m : SessionJob) (t : Task) (absent other : What) → absent ≡ other → BringsInPlace x told k plan s m t other → BringsInPlace x told k plan s m t absent
in_place_as x told k plan s m t absent other e b = subst (λ (z : What). BringsInPlace x told k plan s m t z) (sym e) b

pub room_code : (x : Storage) (plan : Placement) (s : Session) (m : SessionJob) (t : Task) (absent : What) (words d : ℕ) (c : CodeObject plan s m t) → absent ≡ what.Code d → HasHole (words_wanted m t absent words) x.spans → HasHole (length c.object.numbers + 2) x.spans
room_code x plan s m t absent words d c e room = grind arith

pub room_array : (x : Storage) (m : SessionJob) (t : Task) (absent : What) (words home n : ℕ) → absent ≡ what.Array home → words ≡ n → HasHole (words_wanted m t absent words) x.spans → HasHole (n + 2) x.spans
room_array x m t absent words home n e count room = grind arith

pub untouched_code : (x : Storage) (absent : What) (d : ℕ) → absent ≡ what.Code d → IsUntouched x absent → ⊥
untouched_code x absent d e u = subst (λ (z : What). IsUntouched x z) e u

pub untouched_array : (x : Storage) (absent : What) (home : ℕ) → absent ≡ what.Array home → IsUntouched x absent → (x.held home).chain ≡ 0
untouched_array x absent home e u = subst (λ (z : What). IsUntouched x z) e u
