use Rattle.std.proofs.Common.{◌≡◌, ℕ, ◌<◌, ◌^◌, List, Option, Some, None, length, sym, ◌∙◌, ap, arith, subst, false, refl}
use Rattle.b67_word.specs.Tagged.{Tagged}
use Rattle.b67_backing.specs.Shelf.{HasChain}
use Rattle.b67_backing.specs.Held.{sectors_for}
use Rattle.b67_ctl.specs.declared.descriptors.DataDesc.{DataDesc}
use Rattle.b67_stack.specs.Common.{PagedObject, MachineView, home_desc, address_or, Location, Storage, Represents, LowWordsStayed}
use Rattle.b67_layout.specs.Machine.{IsPresent, content_after}
use Rattle.b67_overlay.specs.Spans.{MachineCanPage}
use Rattle.b67_overlay.proofs.Copies.{copies_stay, copies_objects}
use Rattle.b67_overlay.specs.Overlaid.{overlaid}
use Rattle.b67_mcp.specs.Lengths.{IsArray}
use Rattle.b67_mcp.proofs.Freeing.{original_is, original_read, set_original}
use Rattle.std.specs.Prelude.{Err}
use Rattle.b67_backing.specs.Extending.{extended, sectors_more, IsExtended, ExtendMeets}
use Rattle.b67_layout.proofs.Below.{Stayed-then}
use Rattle.b67_layout.proofs.Devices.{Served-then, still_tells}
use Rattle.b67_stack.proofs.Helds.{held-other, held-same}
use Rattle.b67_stack.proofs.Unchanged.{area_of_object}
use Rattle.b67_stack.proofs.Reheld.{storage_with}
use Rattle.b67_overlay.proofs.Chains.{Says-retold}
use Rattle.b67_mcp.proofs.Emptied.{stayed_absent}
use Rattle.b67_mcp.proofs.Longer.{IsOut, is_out, others_out, rests, made_longer, retold_twice, refused_overlay, refused_extend, device_extended}
use Rattle.b67_mcp.proofs.resize.lengthen_array.Given.{Over}
use Rattle.b67_mcp.proofs.resize.lengthen_array.Goals.{After-original_at-original, In-Ok, After-original_at-first}
use Rattle.b67_mcp.proofs.resize.lengthen_array.Goals as goal

pub original_at-original-requires : goal.original_at-original-requires
original_at-original-requires g c =
    let (x, p, t, at, m, a, h, longer) = c.requires.machine in
    let o = original_is x c.args.cpu.now.core c.args.cpu.now.regs p m.stands t c.args.home a in
    (home_desc false (length t.numbers) (x.held t.home), o.0, o.1)

-- what the original tells of the array
record Known (g : Over) (c : After-original_at-original g) (x : Storage) (p : MachineView) (t : PagedObject) (at : ℕ) : Type 0 where
  address : c.original_at-original.result.address ≡ at
  count : c.original_at-original.result.length ≡ length t.numbers
  longer : length t.numbers < c.args.words
  some : 0 < length t.numbers
  here : IsPresent x p c.original_at-original.result.address t

context : (g : Over) (c : After-original_at-original g) (x : Storage) (p : MachineView) (t : PagedObject) (at : ℕ) → MachineCanPage x c.args.cpu.now c.args.areas.now c.args.sectors.now (g.B.Backing.holds c.args.backing.now) p → IsArray p c.args.home t → IsPresent x p at t → Known g c x p t at
context g c x p t at m a h =
    let (x0, p0, t0, at0, m0, a0, h0, longer) = c.requires.machine in
    let d0 = original_read x0 c.args.cpu.now.core c.args.cpu.now.regs p0 m0.stands t0 c.args.home a0 c.original_at-original.result c.original_at-original.ensures in
    let d = original_read x c.args.cpu.now.core c.args.cpu.now.regs p m.stands t c.args.home a c.original_at-original.result c.original_at-original.ensures in
    let address : c.original_at-original.result.address ≡ at = ap (λ (z : DataDesc). z.address) d ∙ ap (λ (o : Option ℕ). address_or o (x.held t.home).chain) h.present in
    record {
      address = address;
      count = ap (λ (z : DataDesc). z.length) d;
      longer = omega (arith, longer, ap (λ (z : DataDesc). z.length) d0, ap (λ (z : DataDesc). z.length) d);
      some = (m.stands.slots.laid.lengths t a.there).0;
      here = record { there = h.there; present = h.present ∙ ap Some (sym address) };
    }

pub overlay-requires-clause-machine : goal.overlay-requires-clause-machine
overlay-requires-clause-machine g c =
    let (x, p, t, at, m, a, h, longer) = c.requires.machine in
    let k = context g (goal.at.overlay-requires-clause-machine g c).After-original_at-original x p t at m a h in
    (x, p, t, m, k.here)

pub extend-requires-clause-some : goal.extend-requires-clause-some
extend-requires-clause-some g c =
    let (x, p, t, at, m, a, h, longer) = c.requires.machine in
    let k = context g (goal.at.extend-requires-clause-some g c).After-original_at-original x p t at m a h in
    omega (arith, k.count, k.some)

pub extend-requires-clause-order : goal.extend-requires-clause-order
extend-requires-clause-order g c =
    let (x, p, t, at, m, a, h, longer) = c.requires.machine in
    let k = context g (goal.at.extend-requires-clause-order g c).After-original_at-original x p t at m a h in
    omega (arith, k.count, k.longer)

-- the array after it was written out
record Written (g : Over) (c : In-Ok g) (x : Storage) (p : MachineView) (t : PagedObject) (at : ℕ) : Type 0 where
  machine : MachineCanPage (overlaid x t c.original_at-original.result.address (g.B.Backing.holds c.overlay.new.backing)) c.overlay.new.cpu c.overlay.new.areas c.overlay.new.sectors (g.B.Backing.holds c.overlay.new.backing) p
  out : IsOut (overlaid x t c.original_at-original.result.address (g.B.Backing.holds c.overlay.new.backing)) t

written : (g : Over) (c : In-Ok g) (x : Storage) (p : MachineView) (t : PagedObject) (at : ℕ) → (m : MachineCanPage x c.args.cpu.now c.args.areas.now c.args.sectors.now (g.B.Backing.holds c.args.backing.now) p) → IsArray p c.args.home t → IsPresent x p c.original_at-original.result.address t → Written g c x p t at
written g c x p t at m a h =
    let row = c.in-Ok.ensures.row x p t m h in
    record {
      machine = row.stands;
      out = is_out x c.args.cpu.now.core c.args.cpu.now.regs p m.stands t a.there a.kind c.args.sectors.now m.shelf c.original_at-original.result.address (g.B.Backing.holds c.overlay.new.backing)
          (λ short. let e = (row.full (sectors_for (length t.numbers)) (length x.shelf.free)).1 (short, refl, refl) in let b : ⊥ = cc in b);
    }

pub original_at-first-requires : goal.original_at-first-requires
original_at-first-requires g c =
    let (x, p, t, at, m, a, h, longer) = c.requires.machine in
    let k = context g (goal.at.original_at-first-requires g c).After-original_at-original x p t at m a h in
    let q = written g (goal.at.original_at-first-requires g c).In-Ok x p t at m a k.here in
    let y = overlaid x t c.original_at-original.result.address (g.B.Backing.holds c.overlay.new.backing) in
    let o = original_is y c.overlay.new.cpu.core c.overlay.new.cpu.regs p q.machine.stands t c.args.home a in
    (home_desc false (length t.numbers) (y.held t.home), o.0, o.1)

-- its chain, and where it begins
record Chained (g : Over) (c : After-original_at-first g) (x : Storage) (t : PagedObject) : Type 0 where
  first : c.original_at-first.result.address ≡ ((overlaid x t c.original_at-original.result.address (g.B.Backing.holds c.overlay.new.backing)).held t.home).chain
  small : ((overlaid x t c.original_at-original.result.address (g.B.Backing.holds c.overlay.new.backing)).held t.home).chain < 2 ^ 20
  chain : HasChain c.overlay.new.sectors (overlaid x t c.original_at-original.result.address (g.B.Backing.holds c.overlay.new.backing)).shelf c.original_at-first.result.address (sectors_for c.original_at-original.result.length)

chained : (g : Over) (c : After-original_at-first g) (x : Storage) (p : MachineView) (t : PagedObject) → IsArray p c.args.home t → c.original_at-original.result.length ≡ length t.numbers
    → (m : MachineCanPage (overlaid x t c.original_at-original.result.address (g.B.Backing.holds c.overlay.new.backing)) c.overlay.new.cpu c.overlay.new.areas c.overlay.new.sectors (g.B.Backing.holds c.overlay.new.backing) p)
    → IsOut (overlaid x t c.original_at-original.result.address (g.B.Backing.holds c.overlay.new.backing)) t → Chained g c x t
chained g c x p t a count m out =
    let y = overlaid x t c.original_at-original.result.address (g.B.Backing.holds c.overlay.new.backing) in
    let d = original_read y c.overlay.new.cpu.core c.overlay.new.cpu.regs p m.stands t c.args.home a c.original_at-first.result c.original_at-first.ensures in
    let first : c.original_at-first.result.address ≡ (y.held t.home).chain = ap (λ (z : DataDesc). z.address) d ∙ ap (λ (o : Option ℕ). address_or o (y.held t.home).chain) out.absent in
    let r = rests y c.overlay.new.cpu.core c.overlay.new.cpu.regs p m.stands t a.there a.kind out.absent out.some in
    let H : ℕ → ℕ → Type 0 = λ f n. HasChain c.overlay.new.sectors y.shelf f (sectors_for n) in
    record {
      first = first;
      small = r.chain.small;
      chain = subst (λ (n : ℕ). H c.original_at-first.result.address n) (sym count) (subst (λ (f : ℕ). H f (length t.numbers)) (sym first) (record { shelf = m.shelf; many = r.chain.sectors }));
    }

pub extend-requires-clause-chain : goal.extend-requires-clause-chain
extend-requires-clause-chain g c =
    let (x, p, t, at, m, a, h, longer) = c.requires.machine in
    let k = context g (goal.at.extend-requires-clause-chain g c).After-original_at-original x p t at m a h in
    let q = written g (goal.at.extend-requires-clause-chain g c).In-Ok x p t at m a k.here in
    ((overlaid x t c.original_at-original.result.address (g.B.Backing.holds c.overlay.new.backing)).shelf, (chained g (goal.at.extend-requires-clause-chain g c).After-original_at-first x p t a k.count q.machine q.out).chain)

pub original-requires-clause-address : goal.original-requires-clause-address
original-requires-clause-address g c =
    let (x, p, t, at, m, a, h, longer) = c.requires.machine in
    let k = context g (goal.at.original-requires-clause-address g c).After-original_at-original x p t at m a h in
    let q = written g (goal.at.original-requires-clause-address g c).In-Ok x p t at m a k.here in
    let b = chained g (goal.at.original-requires-clause-address g c).After-original_at-first x p t a k.count q.machine q.out in
    omega (arith, b.first, b.small)

pub returns-in-Ok-extend-clause-device : goal.returns-in-Ok-extend-clause-device
returns-in-Ok-extend-clause-device g c =
    let (x, p, t, at, m, a, h, longer) = c.requires.machine in
    let k = context g (goal.at.returns-in-Ok-extend-clause-device g c).After-original_at-original x p t at m a h in
    let q = written g (goal.at.returns-in-Ok-extend-clause-device g c).In-Ok x p t at m a k.here in
    let b = chained g (goal.at.returns-in-Ok-extend-clause-device g c).After-original_at-first x p t a k.count q.machine q.out in
    let y = overlaid x t c.original_at-original.result.address (g.B.Backing.holds c.overlay.new.backing) in
    Served-then g.B.Backing.holds g.B.Backing.size g.B.Backing.calls g.B.Backing.faults c.args.backing.now c.overlay.new.backing c.extend.new.backing c.overlay.ensures.device
    (device_extended g.B.Backing.holds g.B.Backing.size g.B.Backing.calls g.B.Backing.faults c.overlay.new.backing c.extend.new.backing c.overlay.new.sectors c.extend.new.self y.shelf c.original_at-first.result.address c.original_at-original.result.length c.args.words c.extend.result c.extend.ensures.device (c.extend.ensures.row y.shelf b.chain))

pub returns-in-Err-extend-clause-device : goal.returns-in-Err-extend-clause-device
returns-in-Err-extend-clause-device g c =
    let (x, p, t, at, m, a, h, longer) = c.requires.machine in
    let k = context g (goal.at.returns-in-Err-extend-clause-device g c).After-original_at-original x p t at m a h in
    let q = written g (goal.at.returns-in-Err-extend-clause-device g c).In-Ok x p t at m a k.here in
    let b = chained g (goal.at.returns-in-Err-extend-clause-device g c).After-original_at-first x p t a k.count q.machine q.out in
    let y = overlaid x t c.original_at-original.result.address (g.B.Backing.holds c.overlay.new.backing) in
    Served-then g.B.Backing.holds g.B.Backing.size g.B.Backing.calls g.B.Backing.faults c.args.backing.now c.overlay.new.backing c.extend.new.backing c.overlay.ensures.device
    (device_extended g.B.Backing.holds g.B.Backing.size g.B.Backing.calls g.B.Backing.faults c.overlay.new.backing c.extend.new.backing c.overlay.new.sectors c.extend.new.self y.shelf c.original_at-first.result.address c.original_at-original.result.length c.args.words c.extend.result c.extend.ensures.device (c.extend.ensures.row y.shelf b.chain))

pub returns-in-Ok-extend-clause-outside : goal.returns-in-Ok-extend-clause-outside
returns-in-Ok-extend-clause-outside g c = λ x p t at m a h.
    let k = context g (goal.at.returns-in-Ok-extend-clause-outside g c).After-original_at-original x p t at m a h in
    let row = c.in-Ok.ensures.row x p t m k.here in
    let S : List Tagged → Type 0 = λ core. LowWordsStayed p c.overlay.new.cpu.core core in
    Stayed-then p c.args.cpu.now.core c.overlay.new.cpu.core c.set.new.self row.outside (subst S (sym c.set.ensures.value) (stayed_absent p t a.there c.overlay.new.cpu.core c.args.home c.original.result a.is))

pub returns-in-Err-extend-clause-outside : goal.returns-in-Err-extend-clause-outside
returns-in-Err-extend-clause-outside g c = λ x p t at m a h.
    let k = context g (goal.at.returns-in-Err-extend-clause-outside g c).After-original_at-original x p t at m a h in
    (c.in-Ok.ensures.row x p t m k.here).outside

pub returns-in-Err-clause-row : goal.returns-in-Err-clause-row
returns-in-Err-clause-row g c = λ x p t at m a h.
    let k = context g (goal.at.returns-in-Err-clause-row g c).After-original_at-original x p t at m a h in
    refused_overlay g.B.Backing.holds x p t c.original_at-original.result.address c.args.words c.overlay.new.areas c.in-Err.fault c.args.cpu.now c.overlay.new.cpu c.args.sectors.now c.overlay.new.sectors c.args.backing.now c.overlay.new.backing k.here c.in-Err.ensures.no_core (c.in-Err.ensures.row x p t m k.here)

pub returns-in-Err-extend-clause-row : goal.returns-in-Err-extend-clause-row
returns-in-Err-extend-clause-row g c = λ x p t at m a h.
    let k = context g (goal.at.returns-in-Err-extend-clause-row g c).After-original_at-original x p t at m a h in
    let q = written g (goal.at.returns-in-Err-extend-clause-row g c).In-Ok x p t at m a k.here in
    let b = chained g (goal.at.returns-in-Err-extend-clause-row g c).After-original_at-first x p t a k.count q.machine q.out in
    let y = overlaid x t c.original_at-original.result.address (g.B.Backing.holds c.overlay.new.backing) in
    let E : ℕ → ℕ → Type 0 = λ f n. ExtendMeets g.B.Backing.holds c.overlay.new.backing c.extend.new.backing c.overlay.new.sectors c.extend.new.self y.shelf f n c.args.words (Err c.in-Err-extend.fault) in
    let row = subst (E (y.held t.home).chain) k.count (subst (λ (f : ℕ). E f c.original_at-original.result.length) b.first (c.in-Err-extend.ensures.row y.shelf b.chain)) in
    refused_extend g.B.Backing.holds x p t c.original_at-original.result.address c.args.words c.overlay.new.areas c.in-Err-extend.fault (g.B.Backing.holds c.args.backing.now) c.overlay.new.cpu c.overlay.new.sectors c.extend.new.self c.overlay.new.backing c.extend.new.backing m.device
    (still_tells g.B.Backing.holds g.B.Backing.size g.B.Backing.calls g.B.Backing.faults c.args.backing.now c.overlay.new.backing c.overlay.ensures.device)
    (area_of_object x c.args.cpu.now.core c.args.cpu.now.regs p m.stands t a.there c.original_at-original.result.address k.here.present) q.machine q.out k.longer row

pub returns-in-Ok-extend-clause-row : goal.returns-in-Ok-extend-clause-row
returns-in-Ok-extend-clause-row g c = λ x p t at m a h.
    let k = context g (goal.at.returns-in-Ok-extend-clause-row g c).After-original_at-original x p t at m a h in
    let q = written g (goal.at.returns-in-Ok-extend-clause-row g c).In-Ok x p t at m a k.here in
    let b = chained g (goal.at.returns-in-Ok-extend-clause-row g c).After-original_at-first x p t a k.count q.machine q.out in
    let told1 = g.B.Backing.holds c.overlay.new.backing in
    let told2 = g.B.Backing.holds c.extend.new.backing in
    let y = overlaid x t c.original_at-original.result.address told1 in
    let chain = (y.held t.home).chain in
    let n = sectors_more (length t.numbers) c.args.words in
    let E : ℕ → ℕ → Type 0 = λ f n. IsExtended g.B.Backing.holds c.overlay.new.backing c.extend.new.backing c.extend.new.self y.shelf f n c.args.words in
    let ext = subst (E chain) k.count (subst (λ (f : ℕ). E f c.original_at-original.result.length) b.first (c.in-Ok-extend.ensures.row y.shelf b.chain)) in
    let D : ℕ → DataDesc = λ f. record { present = false; copy = false; indexed = false; read_only = false; length = c.args.words; address = f } in
    let is = set_original c.overlay.new.cpu.core c.set.new.self c.args.home c.args.words (record { area = None; chain = chain }) t (D c.original_at-first.result.address) c.original.result a.is a.kind (ap D b.first) c.original.ensures c.set.ensures.value in (
      storage_with y t.home (record { area = None; chain = chain }) y.spans (extended chain n y.shelf) (content_after y.device told2),
      record {
        low = refl;
        others = λ z apart. held-other y.held t.home (record { area = None; chain = chain }) z apart ∙ (others_out x t c.original_at-original.result.address told1).others z apart;
        device = retold_twice x.device (g.B.Backing.holds c.args.backing.now) told1 told2 m.device (still_tells g.B.Backing.holds g.B.Backing.size g.B.Backing.calls g.B.Backing.faults c.args.backing.now c.overlay.new.backing c.overlay.ensures.device);
      },
      ap (λ (h : Location). h.area) (held-same y.held t.home (record { area = None; chain = chain })),
      λ objects re.
          let it = made_longer y c.overlay.new.cpu.core c.overlay.new.cpu.regs p q.machine.stands t a.there a.kind q.out.absent q.out.some c.overlay.new.sectors c.extend.new.self q.machine.shelf told1 told2 q.machine.device c.args.words k.longer c.requires.few
          ext.others ext.chain.many ext.same.told ext.content.told objects re in
          let P : List Tagged → Type 0 = λ core. Represents (storage_with y t.home (record { area = None; chain = chain }) y.spans (extended chain n y.shelf) (content_after y.device told2)) core c.overlay.new.cpu.regs (record p { objects = objects }) in
          record {
            stands = subst P (sym is) it;
            low = q.machine.low;
            shelf = ext.chain.shelf;
            device = Says-retold y.device told1 told2 q.machine.device (λ all e. let z = ext.same.told all e in (z.0, z.1));
            copies =
                let S : List Tagged → Type 0 = λ core. LowWordsStayed p c.overlay.new.cpu.core core in
                let stayed = subst S (sym c.set.ensures.value) (stayed_absent p t a.there c.overlay.new.cpu.core c.args.home c.original.result a.is) in
                copies_objects c.set.new.self p objects (copies_stay y c.overlay.new.cpu.core c.overlay.new.cpu.regs p q.machine.stands c.set.new.self stayed q.machine.copies);
          },
    )
