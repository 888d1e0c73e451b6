-- Areas that give way from the lowest up.
use Rattle.std.proofs.Common.{◌≡◌, ◌≢◌, ℕ, ◌+◌, List, length, Option, Some, None, Bool, false, Result, Ok, ⊎_elim}
use Rattle.std.proofs.lemmas.Bool.{cases_eq}
use Rattle.b67_area.specs.declared.Areas.{Areas}
use Rattle.b67_area.specs.declared.Info.{Info}
use Rattle.b67_area.specs.Spans.{Span, area_at, first_area, area_after}
use Rattle.b67_area.specs.Directory.{IsDirectory}
use Rattle.b67_backing.specs.Shelf.{Table}
use Rattle.b67_backing.specs.declared.SpaceFault.{SpaceFault}
use Rattle.b67_stack.specs.declared.Cpu.{Cpu}
use Rattle.b67_stack.specs.Common.{PagedObject, MachineView, Storage, LowWordsStayed}
use Rattle.b67_layout.specs.Machine.{IsPresent}
use Rattle.b67_layout.proofs.Below.{Stayed-none, Stayed-then}
use Rattle.b67_overlay.specs.Spans.{MachineCanPage}
use Rattle.b67_overlay.specs.Overlaid.{overlaid}
use Rattle.b67_overlay.specs.AreasEvicted.{AreasEvicted}
use Rattle.b67_overlay.proofs.Answered.{ok_err, ok_false}
use Rattle.b67_overlay.proofs.Shedding.{AreasEvicted-none, AreasEvicted-then, AreasEvicted-overlaid, Walks, walk_begins, none_here, gone_here, past_here}
use Rattle.b67_presence.specs.Brings.{EvictsArea, MakesWay, StandsEvicted, NoHoleStill}
use Rattle.b67_presence.proofs.Firsts.{evicts_some, way_ends, way_after}

-- areas below the next one were given back, but not the one at `spare`, and the absent object found no room so far
pub record GaveWay (x : Storage) (p : MachineView) (t : PagedObject) (spare : ℕ) (next : Option ℕ) (old cpu : Cpu) (areas : Areas) (table : Table) (told : Option (List (List ℕ))) : Type 0 where
  pub storage : Storage
  pub sheds : AreasEvicted x storage spare
  pub walk : Walks storage p spare next cpu areas table told
  pub outside : LowWordsStayed p old.core cpu.core
  pub still : NoHoleStill (length t.numbers + 2) x storage

pub gives_none : {x : Storage} {p : MachineView} {cpu : Cpu} {areas : Areas} {table : Table} {told : Option (List (List ℕ))} (t : PagedObject) (spare : ℕ) (next : Option ℕ) → MachineCanPage x cpu areas table told p
    → ((ss : List Span) → IsDirectory cpu.core areas.low ss → next ≡ first_area areas.low ss) → GaveWay x p t spare next cpu cpu areas table told
gives_none {x} {p} {cpu} t spare next m first = record {
  storage = x;
  sheds = AreasEvicted-none x spare;
  walk = walk_begins spare next m first;
  outside = Stayed-none p cpu.core;
  still = λ none room. none room;
}

module _ {x : Storage} {p : MachineView} {t : PagedObject} {spare : ℕ} {next : Option ℕ} {old cpu : Cpu} {areas : Areas} {table : Table} {told : Option (List (List ℕ))} (w : GaveWay x p t spare next old cpu areas table told) where
  -- no area is left
  pub clears : next ≡ None → MakesWay x p t spare (Ok false) old cpu areas table told
  clears e =
      let v : StandsEvicted x p spare cpu areas table told = record { storage = w.storage; sheds = w.sheds; stands = w.walk.stands } in
      record {
        outside = w.outside;
        came = λ q. absurd (ok_false q);
        clear = λ _. (v, none_here w.walk e);
        refused = tt;
        full = λ wants free q. absurd (ok_err q);
      }

  module _ {u : PagedObject} {at : ℕ} {r : Result Bool SpaceFault} {new : Cpu} {areas' : Areas} {table' : Table} {now : Option (List (List ℕ))}
      (pr : IsPresent w.storage p at u) (row : EvictsArea w.storage p t u at spare r cpu new areas' table' now) (tells : (all : List (List ℕ)) → told ≡ Some all → now ≢ None) where
    -- what one area brings is answered
    pub ends_so : {result : Result Bool SpaceFault} → r ≡ result → result ≢ Ok false → MakesWay x p t spare result old new areas' table' now
    ends_so is ends = way_after w.sheds w.still (way_ends (evicts_some w.walk.stands.device tells pr row) is ends) w.outside

    -- or the walk goes on
    pub goes_on : r ≡ Ok false → next ≡ Some at → (later : Option ℕ) → ((ss : List Span) (a : Info) → IsDirectory cpu.core areas.low ss → area_at areas.low ss at ≡ Some a → later ≡ area_after areas.low ss at) → GaveWay x p t spare later old new areas' table' now
    goes_on e is later after = ⊎_elim
        (λ (q : at ≡ spare).
        let it : GaveWay x p t spare later old new areas' table' now = record {
          storage = w.storage;
          sheds = w.sheds;
          walk = record { remains = past_here w.walk is later after q; stands = (row.gone e).0 q };
          outside = outside;
          still = w.still;
        } in
        it)
        (λ (n : at ≡ spare → ⊥).
        let it : GaveWay x p t spare later old new areas' table' now = record {
          storage = overlaid w.storage u at now;
          sheds = AreasEvicted-then x w.storage (overlaid w.storage u at now) spare w.sheds (AreasEvicted-overlaid w.storage told now w.walk.stands.device tells u at spare pr.present n);
          walk = record { remains = gone_here w.walk is later after n; stands = ((row.gone e).1 n).0 };
          outside = outside;
          still = λ none room. ((row.gone e).1 n).1 room;
        } in
        it)
        (cases_eq at spare) where
          outside : LowWordsStayed p old.core new.core
          outside = Stayed-then p old.core cpu.core new.core w.outside row.outside
