-- One area that goes first, and those that go after it.
use Rattle.std.proofs.Common.{◌≡◌, ◌≢◌, ℕ, ◌+◌, ◌<◌, arith, ⊎_elim, List, length, Option, Some, None, Bool, false, Result, Ok, refl, sym, subst}
use Rattle.std.proofs.lemmas.Bool.{cases_eq}
use Rattle.std.proofs.lemmas.Result.{on_err_weaker}
use Rattle.b67_area.specs.declared.Areas.{Areas}
use Rattle.b67_area.specs.declared.Info.{Info}
use Rattle.b67_area.specs.Spans.{Span, area_at, first_area, area_after}
use Rattle.b67_area.specs.Directory.{IsDirectory}
use Rattle.b67_area.proofs.Laws.{area_inside}
use Rattle.b67_backing.specs.Shelf.{Table}
use Rattle.b67_backing.specs.declared.SpaceFault.{SpaceFault}
use Rattle.b67_stack.specs.declared.Cpu.{Cpu}
use Rattle.b67_stack.specs.Common.{PagedObject, MachineView, Storage, LowWordsStayed}
use Rattle.b67_word.specs.Tagged.{Tagged}
use Rattle.b67_layout.specs.Machine.{IsPresent, Says, HasHole}
use Rattle.b67_layout.proofs.Below.{Stayed-none, Stayed-then}
use Rattle.b67_overlay.specs.Spans.{MachineCanPage}
use Rattle.b67_overlay.specs.Overlaid.{overlaid}
use Rattle.b67_overlay.specs.AreasEvicted.{AreasEvicted}
use Rattle.b67_overlay.proofs.Shedding.{AreasEvicted-none, AreasEvicted-overlaid}
use Rattle.b67_overlay.proofs.Visits.{first_some, after_some, left_of, walk_falls}
use Rattle.b67_presence.specs.Brings.{EvictsArea, EvictsSome, MakesWay, PointsAtArea, StandsEvicted, NoHoleStill}
use Rattle.b67_overlay.proofs.Answered.{ok_err, ok_false}
use Rattle.b67_presence.proofs.Ways.{readable_after, Came-before, Waits-before}

-- ---- a walk over areas that takes none away

points_first : (low : ℕ) (ss : List Span) → PointsAtArea low ss (first_area low ss)
points_first low ss = by (first_area low ss) refl where
  by : (o : Option ℕ) → first_area low ss ≡ o → PointsAtArea low ss o
  by None e = tt
  by (Some z) e = let r = first_some low ss z 0 (omega arith) e in (r.info, r.there)

points_after : (low : ℕ) (ss : List Span) (at : ℕ) (a : Info) → area_at low ss at ≡ Some a → PointsAtArea low ss (area_after low ss at)
points_after low ss at a here = by (area_after low ss at) refl where
  by : (o : Option ℕ) → area_after low ss at ≡ o → PointsAtArea low ss o
  by None e = tt
  by (Some z) e = let r = after_some low ss at z a here e in (r.info, r.there)

pub points_at_first : (low : ℕ) (ss : List Span) (o : Option ℕ) → o ≡ first_area low ss → PointsAtArea low ss o
points_at_first low ss o e = subst (λ (x : Option ℕ). PointsAtArea low ss x) (sym e) (points_first low ss)

pub points_at : (low : ℕ) (ss : List Span) (at : ℕ) (o : Option ℕ) → o ≡ Some at → PointsAtArea low ss o → (a : Info) × (area_at low ss at ≡ Some a)
points_at low ss at o e h = subst (λ (x : Option ℕ). PointsAtArea low ss x) e h

pub points_at_next : (low : ℕ) (ss : List Span) (at : ℕ) (o next : Option ℕ) → o ≡ Some at → PointsAtArea low ss o → next ≡ area_after low ss at → PointsAtArea low ss next
points_at_next low ss at o next e h is = grind (arith, points_after)

pub walk_on_falls : (core : List Tagged) (low : ℕ) (ss : List Span) (at : ℕ) (o next : Option ℕ) → IsDirectory core low ss → o ≡ Some at → PointsAtArea low ss o → next ≡ area_after low ss at → left_of next < left_of o
walk_on_falls core low ss at o next d e h is = grind (arith, area_inside, walk_falls)

-- ---- one area goes first

pub object_at : {x : Storage} {cpu : Cpu} {areas : Areas} {table : Table} {told : Option (List (List ℕ))} {p : MachineView} → MachineCanPage x cpu areas table told p
    → {at : ℕ} {o : Option ℕ} → o ≡ Some at → PointsAtArea areas.low x.spans o → (t : PagedObject) × IsPresent x p at t
object_at m e h = grind arith

pub evicts_none : {x : Storage} {p : MachineView} {cpu : Cpu} {areas : Areas} {table : Table} {told : Option (List (List ℕ))} (t : PagedObject) (spare : ℕ)
    → MachineCanPage x cpu areas table told p → EvictsSome x p t spare (Ok false) cpu cpu areas table told
evicts_none {x} {p} {cpu} {areas} {table} {told} t spare m = record {
  outside = Stayed-none p cpu.core;
  came = λ e. absurd (ok_false e);
  waits = λ _. let w : StandsEvicted x p spare cpu areas table told = record { storage = x; sheds = AreasEvicted-none x spare; stands = m } in (w, λ none room. none room);
  refused = tt;
  full = λ wants free e. absurd (ok_err e);
}

pub evicts_some : {x : Storage} {p : MachineView} {t u : PagedObject} {at spare : ℕ} {result : Result Bool SpaceFault} {old cpu : Cpu} {areas : Areas} {table : Table} {told new : Option (List (List ℕ))}
    → Says x.device told → ((all : List (List ℕ)) → told ≡ Some all → new ≢ None) → IsPresent x p at u → EvictsArea x p t u at spare result old cpu areas table new → EvictsSome x p t spare result old cpu areas table new
evicts_some {x} {p} {t} {u} {at} {spare} {cpu} {areas} {table} {told} {new} says tells pr r = record {
  outside = r.outside;
  came = r.came;
  waits = λ e. ⊎_elim
      (λ (q : at ≡ spare).
      let w : StandsEvicted x p spare cpu areas table new = record { storage = x; sheds = AreasEvicted-none x spare; stands = (r.gone e).0 q } in
      let both : (w : StandsEvicted x p spare cpu areas table new) × NoHoleStill (length t.numbers + 2) x w.storage = (w, λ none room. none room) in both)
      (λ (n : at ≡ spare → ⊥).
      let w : StandsEvicted x p spare cpu areas table new = record { storage = overlaid x u at new; sheds = AreasEvicted-overlaid x told new says tells u at spare pr.present n; stands = ((r.gone e).1 n).0 } in
      let both : (w : StandsEvicted x p spare cpu areas table new) × NoHoleStill (length t.numbers + 2) x w.storage = (w, λ none room. ((r.gone e).1 n).1 room) in both)
      (cases_eq at spare);
  refused = r.refused;
  full = λ wants free e.
      let (w, short, same) = r.full wants free e in
      (w, short, λ none room. none (subst (λ (z : List Span). HasHole (length t.numbers + 2) z) same room));
}

-- ---- others go after it

pub way_ends : {x : Storage} {p : MachineView} {t : PagedObject} {spare : ℕ} {r result : Result Bool SpaceFault} {old cpu : Cpu} {areas : Areas} {table : Table} {told : Option (List (List ℕ))}
    → EvictsSome x p t spare r old cpu areas table told → r ≡ result → result ≢ Ok false → MakesWay x p t spare result old cpu areas table told
way_ends {x} {p} {t} {spare} {old} {cpu} {areas} {table} {told} r is ends =
    let E : Result Bool SpaceFault → Type 0 = λ z. EvictsSome x p t spare z old cpu areas table told in
    let e = subst E is r in
    record { outside = e.outside; came = e.came; clear = λ q. absurd (ends q); refused = e.refused; full = e.full }

pub way_after : {x y : Storage} {p : MachineView} {t : PagedObject} {spare : ℕ} {result : Result Bool SpaceFault} {old mid cpu : Cpu} {areas : Areas} {table : Table} {told : Option (List (List ℕ))}
    → AreasEvicted x y spare → NoHoleStill (length t.numbers + 2) x y → MakesWay y p t spare result mid cpu areas table told → LowWordsStayed p old.core mid.core → MakesWay x p t spare result old cpu areas table told
way_after {p} {result} {old} {mid} {cpu} sheds still r outside = record {
  outside = Stayed-then p old.core mid.core cpu.core outside r.outside;
  came = λ e readable. Came-before sheds (r.came e (readable_after p sheds readable));
  clear = λ e. let (w, alone) = r.clear e in (Waits-before sheds w, alone);
  refused = on_err_weaker result (λ w. Waits-before sheds w) r.refused;
  full = λ wants free e. let (w, short, later) = r.full wants free e in (Waits-before sheds w, short, λ none room. later (still none) room);
}
