-- An area that is taken out of core, and an absent object that is placed then.
use Rattle.std.proofs.Common.{◌≡◌, ◌≢◌, ℕ, List, Option, true, false, Ok, Err, refl, sym, ap, subst}
use Rattle.b67_area.specs.declared.Areas.{Areas}
use Rattle.b67_backing.specs.Shelf.{Table}
use Rattle.b67_backing.specs.declared.SpaceFault.{SpaceFault}
use Rattle.b67_backing.specs.declared.SpaceFault.TheVariants.{BackingFault}
use Rattle.b67_stack.specs.declared.Cpu.{Cpu}
use Rattle.b67_stack.specs.Common.{PagedObject, MachineView, Storage}
use Rattle.b67_layout.specs.Machine.{IsAbsent, IsPresent, DeviceAfterCalls}
use Rattle.b67_layout.proofs.Below.{Stayed-none, Stayed-then}
use Rattle.b67_overlay.specs.Spans.{MachineCanPage}
use Rattle.b67_overlay.specs.Overlaid.{overlaid, retelling}
use Rattle.b67_overlay.specs.AreasEvicted.{AreasEvicted, Overlays}
use Rattle.b67_overlay.proofs.Shedding.{tells_still, AreasEvicted-retelling, AreasEvicted-overlaid, short_by}
use Rattle.b67_presence.specs.declared.paging.PagingRefusal.{PagingRefusal}
use Rattle.b67_presence.specs.declared.paging.PagingRefusal.TheVariants.{NoHole}
use Rattle.b67_presence.specs.Brings.{EvictsArea, PagesIn, StandsEvicted}
use Rattle.b67_overlay.proofs.Answered.{ok_err, err_ok, ok_true, ok_false, fault_full, same_err}
use Rattle.b67_presence.proofs.Ways.{absent_after, readable_after, read_in, came_of}

-- the area stays
pub evicts_spare : {x : Storage} {p : MachineView} {at spare : ℕ} {cpu : Cpu} {areas : Areas} {table : Table} {told : Option (List (List ℕ))} (t u : PagedObject)
    → MachineCanPage x cpu areas table told p → at ≡ spare → EvictsArea x p t u at spare (Ok false) cpu cpu areas table told
evicts_spare {p} {cpu} t u m e = record {
  outside = Stayed-none p cpu.core;
  came = λ q. absurd (ok_false q);
  gone = λ _. (λ _. m, λ n. absurd (n e));
  refused = tt;
  full = λ wants free q. absurd (ok_err q);
}

module _ {D : Type 0} {tell : D → Option (List (List ℕ))} {size calls faults : D → ℕ} {before after : D} (d : DeviceAfterCalls tell size calls faults before after)
    {x : Storage} {p : MachineView} {u : PagedObject} {at : ℕ} {old mid : Cpu} {areas areas1 : Areas} {table table1 : Table} (m : MachineCanPage x old areas table (tell before) p) (pr : IsPresent x p at u) where
  -- it can't be taken out
  pub evicts_nothing : (t : PagedObject) (spare : ℕ) (fault : SpaceFault) → Overlays tell x p at u (Err fault) old mid areas1 table table1 before after → EvictsArea x p t u at spare (Err fault) old mid areas1 table1 (tell after)
  evicts_nothing t spare fault o =
      let w : StandsEvicted x p spare mid areas1 table1 (tell after) = record { storage = retelling x (tell after); sheds = AreasEvicted-retelling x (tell before) (tell after) m.device (tells_still d) spare; stands = o.refused } in
      record {
        outside = o.outside;
        came = λ e. absurd (err_ok e);
        gone = λ e. absurd (err_ok e);
        refused = w;
        full = λ wants free e. (w, short_by x p u at wants free (tell after) pr ((o.full wants free).0 (same_err e)), refl);
      }

  -- it is taken out
  module _ (o : Overlays tell x p at u (Ok tt) old mid areas1 table table1 before after) {t : PagedObject} {home spare : ℕ} (a : IsAbsent x p home t) (n : at ≢ spare) where
    sheds : AreasEvicted x (overlaid x u at (tell after)) spare
    sheds = AreasEvicted-overlaid x (tell before) (tell after) m.device (tells_still d) u at spare pr.present n

    pub absent_still : IsAbsent (overlaid x u at (tell after)) p home t
    absent_still = absent_after sheds a

    -- the object comes into core, or it doesn't
    pub evicts_came : {new : Cpu} {areas2 : Areas} {later : D} → PagesIn tell (overlaid x u at (tell after)) p home t (Ok tt) mid new areas2 table1 after later → EvictsArea x p t u at spare (Ok true) old new areas2 table1 (tell later)
    evicts_came {new} r = record {
      outside = Stayed-then p old.core mid.core new.core o.outside r.outside;
      came = λ _ readable. came_of sheds (read_in o.stands.stands absent_still r (readable_after p sheds readable));
      gone = λ e. absurd (ok_true e);
      refused = tt;
      full = λ wants free e. absurd (ok_err e);
    }

    pub evicts_waits : {why : PagingRefusal} {new : Cpu} {areas2 : Areas} {later : D} → why ≡ NoHole → later ≡ after → PagesIn tell (overlaid x u at (tell after)) p home t (Err why) mid new areas2 table1 after later → EvictsArea x p t u at spare (Ok false) old new areas2 table1 (tell later)
    evicts_waits {new} {areas2} {later} none same r =
        let P : D → Type 0 = λ z. MachineCanPage (overlaid x u at (tell z)) new areas2 table1 (tell later) p in
        record {
          outside = Stayed-then p old.core mid.core new.core o.outside r.outside;
          came = λ e. absurd (ok_false e);
          gone = λ _. (λ e. absurd (n e), λ _. (subst P (sym same) r.refused, r.full.0 (ap Err none)));
          refused = tt;
          full = λ wants free e. absurd (ok_err e);
        }

    pub evicts_fails : {why : PagingRefusal} {new : Cpu} {areas2 : Areas} {later : D} → PagesIn tell (overlaid x u at (tell after)) p home t (Err why) mid new areas2 table1 after later → EvictsArea x p t u at spare (Err BackingFault) old new areas2 table1 (tell later)
    evicts_fails {new} r = record {
      outside = Stayed-then p old.core mid.core new.core o.outside r.outside;
      came = λ e. absurd (err_ok e);
      gone = λ e. absurd (err_ok e);
      refused = record { storage = overlaid x u at (tell after); sheds = sheds; stands = r.refused };
      full = λ wants free e. absurd (fault_full e);
    }
