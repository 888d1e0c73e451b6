-- Areas that are taken out of core up to an address.
use Rattle.std.proofs.Common.{◌≡◌, ◌≢◌, ℕ, ◌<◌, ◌≤◌, List, Option, Some, None, Ok, Err, arith, ⊎_elim}
use Rattle.b67_area.specs.declared.Areas.{Areas}
use Rattle.b67_area.specs.declared.Info.{Info}
use Rattle.b67_area.specs.Spans.{Span, area_at, first_area, area_after}
use Rattle.b67_area.specs.Directory.{IsDirectory}
use Rattle.b67_area.proofs.Laws.{area_inside}
use Rattle.b67_backing.specs.Shelf.{Table}
use Rattle.b67_backing.specs.declared.SpaceFault.{SpaceFault}
use Rattle.b67_stack.specs.declared.Cpu.{Cpu}
use Rattle.b67_stack.specs.Common.{PagedObject, MachineView, Storage, LowWordsStayed}
use Rattle.b67_layout.specs.Machine.{IsPresent, DeviceAfterCalls}
use Rattle.b67_layout.proofs.Below.{Stayed-none, Stayed-then}
use Rattle.b67_overlay.specs.Spans.{MachineCanPage}
use Rattle.b67_overlay.specs.Overlaid.{overlaid, retelling}
use Rattle.b67_overlay.specs.AreasEvicted.{EvictedBelow, Overlays, Claims}
use Rattle.b67_overlay.proofs.Answered.{ok_err}
use Rattle.b67_overlay.proofs.Shedding.{tells_still, EvictedBelow-none, EvictedBelow-then, EvictedBelow-retelling, EvictedBelow-overlaid, Walks, walk_begins, none_here, above_here, small_here, gone_here, short_at}

-- areas below the next one were taken out
pub record Claimed (x : Storage) (p : MachineView) (upto : ℕ) (next : Option ℕ) (old cpu : Cpu) (areas : Areas) (table : Table) (told : Option (List (List ℕ))) : Type 0 where
  pub storage : Storage
  pub evicted : EvictedBelow upto x storage
  pub walk : Walks storage p 0 next cpu areas table told
  pub outside : LowWordsStayed p old.core cpu.core

pub claims_none : {x : Storage} {p : MachineView} {cpu : Cpu} {areas : Areas} {table : Table} {told : Option (List (List ℕ))} (upto : ℕ) (next : Option ℕ) → MachineCanPage x cpu areas table told p
    → ((ss : List Span) → IsDirectory cpu.core areas.low ss → next ≡ first_area areas.low ss) → Claimed x p upto next cpu cpu areas table told
claims_none {x} {p} {cpu} upto next m first = record { storage = x; evicted = EvictedBelow-none upto x; walk = walk_begins 0 next m first; outside = Stayed-none p cpu.core }

module _ {x : Storage} {p : MachineView} {upto : ℕ} {next : Option ℕ} {old cpu : Cpu} {areas : Areas} {table : Table} {told : Option (List (List ℕ))} (w : Claimed x p upto next old cpu areas table told) where
  clear : ((at : ℕ) (a : Info) → area_at w.storage.low w.storage.spans at ≡ Some a → w.storage.low < at → upto < at) → Claims x p upto (Ok tt) old cpu areas table told
  clear above = record {
    outside = w.outside;
    clear = (w.storage, w.evicted, λ at a e. above at a e (area_inside cpu.core w.storage.low w.storage.spans at a w.walk.stands.stands.directory e).0, w.walk.stands);
    refused = tt;
    full = λ wants free e. absurd (ok_err e);
  }

  -- no area is left, or the next one lies above
  pub claims_all : next ≡ None → Claims x p upto (Ok tt) old cpu areas table told
  claims_all is = clear (λ at a e some. absurd (omega (arith, none_here w.walk is at a e)))

  pub claims_past : {at : ℕ} → next ≡ Some at → upto < at → Claims x p upto (Ok tt) old cpu areas table told
  claims_past {at} is past = clear (λ b a e some. ⊎_elim (λ (z : b ≡ 0). absurd (omega arith)) (λ (q : at ≤ b). omega arith) (above_here w.walk is b a e))

-- an area is taken out, or it can't be
module _ {D : Type 0} {tell : D → Option (List (List ℕ))} {size calls faults : D → ℕ} {before after : D} (d : DeviceAfterCalls tell size calls faults before after)
    {x : Storage} {p : MachineView} {upto : ℕ} {next : Option ℕ} {old cpu : Cpu} {areas : Areas} {table : Table} (w : Claimed x p upto next old cpu areas table (tell before))
    {at : ℕ} {t : PagedObject} (pr : IsPresent w.storage p at t) (within : at ≤ upto) {new : Cpu} {areas' : Areas} {table' : Table} where
  pub claims_refused : (fault : SpaceFault) → Overlays tell w.storage p at t (Err fault) cpu new areas' table table' before after → Claims x p upto (Err fault) old new areas' table' (tell after)
  claims_refused fault o =
      let y : Storage = retelling w.storage (tell after) in
      let e = EvictedBelow-then upto x w.storage y w.evicted (EvictedBelow-retelling upto w.storage (tell before) (tell after) w.walk.stands.device (tells_still d)) in
      record {
        outside = Stayed-then p old.core cpu.core new.core w.outside o.outside;
        clear = tt;
        refused = (y, e, o.refused);
        full = λ wants free q.
            let (short, is) = short_at w.storage p t at wants free (tell after) pr ((o.full wants free).0 q) in
            (y, short, omega (arith, is, within), e, o.refused);
      }

  pub claims_on : next ≡ Some at → (later : Option ℕ) → ((ss : List Span) (a : Info) → IsDirectory cpu.core areas.low ss → area_at areas.low ss at ≡ Some a → later ≡ area_after areas.low ss at)
      → Overlays tell w.storage p at t (Ok tt) cpu new areas' table table' before after → Claimed x p upto later old new areas' table' (tell after)
  claims_on is later follows o =
      let n : at ≢ 0 = λ z. omega (arith, z, (small_here w.walk is).0) in
      let y : Storage = overlaid w.storage t at (tell after) in
      record {
        storage = y;
        evicted = EvictedBelow-then upto x w.storage y w.evicted (EvictedBelow-overlaid upto w.storage (tell before) (tell after) w.walk.stands.device (tells_still d) t at pr.present n within);
        walk = record { remains = gone_here w.walk is later follows n; stands = o.stands };
        outside = Stayed-then p old.core cpu.core new.core w.outside o.outside;
      }
