-- Where an array that keeps no chain needs more sectors than are free, a session takes more than there are.
use Rattle.std.proofs.Common.{◌≡◌, ℕ, ◌+◌, ◌≤◌, List, [], ◌∷◌, map, flat_map, length, Option, refl, ◌∙◌, arith, subst}
use Rattle.b67_word.specs.Tagged.{Tagged}
use Rattle.b67_area.specs.declared.Areas.{Areas}
use Rattle.b67_backing.specs.Shelf.{Table, chain_of}
use Rattle.b67_backing.specs.Held.{sectors_for}
use Rattle.b67_lemmas.specs.Lists.{Has, total}
use Rattle.b67_lemmas.proofs.Members.{has_map, total_append, total_flat, total_map}
use Rattle.b67_lemmas.proofs.Sums.{sum_total, total_gap, total_le}
use Rattle.b67_model.specs.Common.{Segment, SessionJob, sectors_of, sectors, Session}
use Rattle.b67_stack.specs.declared.Cpu.{Cpu}
use Rattle.b67_stack.specs.Common.{PagedObject, MachineView, Storage, Content}
use Rattle.b67_layout.specs.Machine.{MachineRepresentsView}
use Rattle.b67_overlay.specs.AreasEvicted.{IsShortBy}
use Rattle.b67_layout.specs.Common.{Placement, code_objects, objects_of, machine_view}
use Rattle.b67_layout_spans.specs.Full.{ShortIsFull}
use Rattle.b67_layout_spans.proofs.Covers.{covers}

-- the sectors that an object takes
abbrev pub sectors_of_object : PagedObject → ℕ
sectors_of_object t = sectors_for (length t.numbers)

content_few : (x : Storage) (core : List Tagged) (t : PagedObject) (a : Option ℕ) (f : ℕ) → chain_of 0 x.shelf.chains ≡ [] → Content x core t a f → length (chain_of f x.shelf.chains) ≤ sectors_of_object t
content_few x core t a f z c = grind arith

-- the objects of a view take more sectors than there are
pub short : (x : Storage) (cpu : Cpu) (areas : Areas) (table : Table) (told : Option (List (List ℕ))) (p : MachineView) (wants free : ℕ)
    → MachineRepresentsView x cpu areas table told p → IsShortBy x p wants free → length table.links ≤ total sectors_of_object p.objects
short x cpu areas table told p wants free m w =
    let o = m.stands.owned in
    let c : PagedObject → ℕ = λ u. (x.held u.home).chain in
    let kept : ℕ → ℕ = λ f. length (chain_of f x.shelf.chains) in
    let all = covers table x.shelf m.shelf (map c p.objects) (λ f some. let t = o.of_chain f some in subst (Has (map c p.objects)) t.2 (has_map c p.objects t.0 t.1)) in
    let none : kept (c w.object) ≡ 0 = rw (w.short.none, o.no_zero) refl in
    let gap = total_gap (λ u. kept (c u)) sectors_of_object p.objects w.object (sectors_of_object w.object)
    (λ u k. content_few x cpu.core u (x.held u.home).area (x.held u.home).chain o.no_zero (m.stands.objects u k).content) w.present.there (omega (arith, none)) in
    omega (arith, all, gap, total_map c kept p.objects, w.short.few)

code_total : (plan : Placement) (j n : ℕ) (segments : List Segment) → total sectors_of_object (code_objects plan j n segments) ≡ total (λ (g : Segment). sectors_for (length g.code)) segments
code_total plan j n [] = refl
code_total plan j n (g ∷ more) = omega (arith, code_total plan j (n + 1) more)

member_total : (plan : Placement) (m : SessionJob) → total sectors_of_object (objects_of plan m) ≡ sectors_of m
member_total plan m = grind (arith, total_append, code_total, total_map, sum_total)

-- the objects of a session's view take the sectors of the session
pub session_total : (plan : Placement) (jobs : List SessionJob) → total sectors_of_object (flat_map (objects_of plan) jobs) ≡ sectors jobs
session_total plan jobs = grind (arith, total_flat, member_total, sum_total)

-- and never more than those that are free and the session's
pub within : (x : Storage) (cpu : Cpu) (areas : Areas) (table : Table) (told : Option (List (List ℕ))) (plan : Placement) (s : Session) → MachineRepresentsView x cpu areas table told (machine_view plan s.jobs)
    → length table.links ≤ length x.shelf.free + sectors s.jobs + 1
within x cpu areas table told plan s m =
    let p : MachineView = machine_view plan s.jobs in
    let o = m.stands.owned in
    let c : PagedObject → ℕ = λ u. (x.held u.home).chain in
    let kept : ℕ → ℕ = λ f. length (chain_of f x.shelf.chains) in
    let all = covers table x.shelf m.shelf (map c p.objects) (λ f some. let t = o.of_chain f some in subst (Has (map c p.objects)) t.2 (has_map c p.objects t.0 t.1)) in
    let few = total_le (λ u. kept (c u)) sectors_of_object p.objects (λ u k. content_few x cpu.core u (x.held u.home).area (x.held u.home).chain o.no_zero (m.stands.objects u k).content) in
    omega (arith, all, few, total_map c kept p.objects, session_total plan s.jobs)

pub short_full : ShortIsFull
short_full x cpu areas table told plan s wants free size m w e =
    omega (arith, short x cpu areas table told (machine_view plan s.jobs) wants free m w, session_total plan s.jobs, e)
