use Rattle.std.proofs.Common.{◌≡◌, ◌<◌, length, None, Err, ◌∙◌, ap, arith, subst}
use Rattle.b67_backing.specs.declared.refusals.SpaceFault.{SpaceFault}
use Rattle.b67_layout.specs.Common.{array_object, machine_view, area_held}
use Rattle.b67_layout.proofs.Untold.{untold}
use Rattle.b67_mcp.specs.Lengths.{LengthenMeets}
use Rattle.b67_task.specs.declared.tables.Machine.{Machine}
use Rattle.b67_mcp.specs.declared.ends.Stop.TheVariants.{BackingFault, PrintFault}
use Rattle.b67_mcp.proofs.Renumbered.{seen, stands_silent}
use Rattle.b67_mcp.proofs.Lengthened.{area_of, kept_by, stop_faults, stop_silent, is_array, is_present, seen_over, objects_resized, cut_place, set_shorter, set_same, set_longer, set_refused, stands_after}
use Rattle.b67_mcp.proofs.resize.set_length.Goals as goal

pub shorten_array-requires-clause-machine : goal.shorten_array-requires-clause-machine
shorten_array-requires-clause-machine g c =
    let q = c.requires.array in
    let r = q.runs in
    let there = area_of (area_held r.storage r.plan r.member.constants.number q.array.identity) q.present in (
      r.storage,
      r.told,
      machine_view r.plan r.session.jobs,
      array_object r.plan r.member.constants.number q.array,
      there.0,
      seen r.storage r.told c.args.machine.now r.plan r.session r.ordered r.stands,
      is_array r.storage r.told c.args.machine.now r.plan r.session r.member r.task r.ordered r.stands r.running q.array q.among c.args.original q.home q.writable,
      is_present r.storage r.told c.args.machine.now r.plan r.session r.member r.task r.ordered r.stands r.running q.array q.among there.0 there.1,
      omega (arith, q.long, c.if-after-before.true),
    )

pub returns-then-after-before-clause-row : goal.returns-then-after-before-clause-row
returns-then-after-before-clause-row g c = λ x told plan s m t o h runs a among home writable long present says.
    (let k = c.args.machine.now in
    let e = c.shorten_array.ensures in
    let there = area_of (area_held x plan m.constants.number a.identity) present in
    let view = seen x told k plan s o h in
    let array = is_array x told k plan s m t o h runs a among c.args.original home writable in
    let here = is_present x told k plan s m t o h runs a among there.0 there.1 in
    let p = machine_view plan s.jobs in
    let object = array_object plan m.constants.number a in
    let some = c.requires.length.0 in
    let few = c.requires.length.1 in
    let low : c.args.after < length a.numbers = omega (arith, long, c.if-after-before.true) in
    set_shorter x told k plan s m t o h runs a among c.args.after some few there.0 (g.B.Backing.size c.args.backing.now) (g.B.Backing.holds c.args.backing.now) c.shorten_array.new.cpu c.shorten_array.new.areas c.shorten_array.new.sectors e.keeps
    (e.outside x told p object there.0 view array here) says
    (e.row x told p object there.0 (objects_resized x told k plan s m t o h runs a among c.args.after some few) view array here (cut_place x told k plan s m t o h runs a among c.args.after some few low)))

pub returns-then-after-before-clause-kept : goal.returns-then-after-before-clause-kept
returns-then-after-before-clause-kept g c = kept_by c.args.machine.now c.shorten_array.new.cpu c.shorten_array.new.areas c.shorten_array.new.sectors c.shorten_array.ensures.keeps

pub returns-then-before-after-clause-row : goal.returns-then-before-after-clause-row
returns-then-before-after-clause-row g c = λ x told plan s m t o h runs a among home writable long present says.
    set_same x told c.args.machine.now plan s m t o h runs a among c.args.after c.requires.length.0 c.requires.length.1 (g.B.Backing.size c.args.backing.now) (g.B.Backing.holds c.args.backing.now) (long ∙ c.if-before-after.true) says

pub lengthen_array-requires-clause-machine : goal.lengthen_array-requires-clause-machine
lengthen_array-requires-clause-machine g c =
    let q = c.requires.array in
    let r = q.runs in
    let k = c.args.machine.now in
    let x = untold r.storage in
    let h = stands_silent r.storage r.told k r.plan r.session r.stands in
    let there = area_of (area_held r.storage r.plan r.member.constants.number q.array.identity) q.present in (
      x,
      machine_view r.plan r.session.jobs,
      array_object r.plan r.member.constants.number q.array,
      there.0,
      seen_over x None k r.plan r.session r.member r.task r.ordered h r.running q.array q.among (g.B.Backing.holds c.args.backing.now) tt,
      is_array x None k r.plan r.session r.member r.task r.ordered h r.running q.array q.among c.args.original q.home q.writable,
      is_present x None k r.plan r.session r.member r.task r.ordered h r.running q.array q.among there.0 there.1,
      omega (arith, q.long, c.if-after-before.false, c.if-before-after.false),
    )

pub returns-in-Ok-clause-row : goal.returns-in-Ok-clause-row
returns-in-Ok-clause-row g c = λ x told plan s m t o h runs a among home writable long present says.
    (let k = c.args.machine.now in
    let e = c.in-Ok.ensures in
    let there = area_of (area_held x plan m.constants.number a.identity) present in
    let view = seen_over x told k plan s m t o h runs a among (g.B.Backing.holds c.args.backing.now) says in
    let array = is_array x told k plan s m t o h runs a among c.args.original home writable in
    let here = is_present x told k plan s m t o h runs a among there.0 there.1 in
    let p = machine_view plan s.jobs in
    let object = array_object plan m.constants.number a in
    let up : length a.numbers < c.args.after = omega (arith, long, c.if-after-before.false, c.if-before-after.false) in
    set_longer x told k plan s m t o h runs a among c.args.after c.requires.length.0 c.requires.length.1 (g.B.Backing.size c.args.backing.now) (g.B.Backing.holds c.lengthen_array.new.backing) c.lengthen_array.new.cpu c.lengthen_array.new.areas c.lengthen_array.new.sectors
    e.keeps (e.outside x p object there.0 view array here) up (e.row x p object there.0 view array here))

pub returns-in-Ok-clause-kept : goal.returns-in-Ok-clause-kept
returns-in-Ok-clause-kept g c = kept_by c.args.machine.now c.lengthen_array.new.cpu c.lengthen_array.new.areas c.lengthen_array.new.sectors c.lengthen_array.ensures.keeps

pub stopped-requires-clause-stands : goal.stopped-requires-clause-stands
stopped-requires-clause-stands g c =
    let q = c.requires.array in
    let r = q.runs in
    let k = c.args.machine.now in
    let x = untold r.storage in
    let h = stands_silent r.storage r.told k r.plan r.session r.stands in
    let there = area_of (area_held r.storage r.plan r.member.constants.number q.array.identity) q.present in
    let p = machine_view r.plan r.session.jobs in
    let object = array_object r.plan r.member.constants.number q.array in
    let e = c.in-Err.ensures in
    let view = seen_over x None k r.plan r.session r.member r.task r.ordered h r.running q.array q.among (g.B.Backing.holds c.args.backing.now) tt in
    let array = is_array x None k r.plan r.session r.member r.task r.ordered h r.running q.array q.among c.args.original q.home q.writable in
    let here = is_present x None k r.plan r.session r.member r.task r.ordered h r.running q.array q.among there.0 there.1 in
    stands_after x None k r.plan r.session r.member r.task r.ordered h r.running q.array q.among c.args.after c.requires.length.0 c.requires.length.1 0 (g.B.Backing.holds c.lengthen_array.new.backing) c.lengthen_array.new.cpu c.lengthen_array.new.areas c.lengthen_array.new.sectors
    e.keeps (e.outside x p object there.0 view array here) c.in-Err.fault (e.row x p object there.0 view array here)

pub stopped-requires-clause-space : goal.stopped-requires-clause-space
stopped-requires-clause-space g c =
    let q = c.requires.array in
    let r = q.runs in
    let k = c.args.machine.now in
    let x = untold r.storage in
    let h = stands_silent r.storage r.told k r.plan r.session r.stands in
    let there = area_of (area_held r.storage r.plan r.member.constants.number q.array.identity) q.present in
    let p = machine_view r.plan r.session.jobs in
    let object = array_object r.plan r.member.constants.number q.array in
    let view = seen_over x None k r.plan r.session r.member r.task r.ordered h r.running q.array q.among (g.B.Backing.holds c.args.backing.now) tt in
    let array = is_array x None k r.plan r.session r.member r.task r.ordered h r.running q.array q.among c.args.original q.home q.writable in
    let here = is_present x None k r.plan r.session r.member r.task r.ordered h r.running q.array q.among there.0 there.1 in
    let L : SpaceFault → Type 0 = λ f. LengthenMeets x p object c.args.after (Err f) c.lengthen_array.new.cpu c.lengthen_array.new.areas c.lengthen_array.new.sectors (g.B.Backing.holds c.lengthen_array.new.backing) in
    λ need core e. subst L e (c.in-Err.ensures.row x p object there.0 view array here)

pub returns-in-Err-clause-row : goal.returns-in-Err-clause-row
returns-in-Err-clause-row g c = λ x told plan s m t o h runs a among home writable long present says.
    (let k = c.args.machine.now in
    let e = c.in-Err.ensures in
    let there = area_of (area_held x plan m.constants.number a.identity) present in
    let view = seen_over x told k plan s m t o h runs a among (g.B.Backing.holds c.args.backing.now) says in
    let array = is_array x told k plan s m t o h runs a among c.args.original home writable in
    let here = is_present x told k plan s m t o h runs a among there.0 there.1 in
    let p = machine_view plan s.jobs in
    let object = array_object plan m.constants.number a in
    set_refused x told k plan s m t o h runs a among c.args.after c.requires.length.0 c.requires.length.1 (g.B.Backing.size c.args.backing.now) (g.B.Backing.holds c.lengthen_array.new.backing) c.lengthen_array.new.cpu c.lengthen_array.new.areas c.lengthen_array.new.sectors
    e.keeps (e.outside x p object there.0 view array here) c.args.before c.in-Err.fault c.stopped.result long (omega (arith, c.if-after-before.false, c.if-before-after.false)) (omega (arith, c.requires.same, e.keeps.count))
    (e.row x p object there.0 view array here) c.stopped.ensures writable)

pub returns-in-Err-clause-kept : goal.returns-in-Err-clause-kept
returns-in-Err-clause-kept g c = kept_by c.args.machine.now c.lengthen_array.new.cpu c.lengthen_array.new.areas c.lengthen_array.new.sectors c.lengthen_array.ensures.keeps

pub returns-in-Err-clause-quiet : goal.returns-in-Err-clause-quiet
returns-in-Err-clause-quiet g c = λ down. absurd (omega (arith, down, c.if-after-before.false, c.if-before-after.false))

pub returns-in-Ok-clause-quiet : goal.returns-in-Ok-clause-quiet
returns-in-Ok-clause-quiet g c = λ down. absurd (omega (arith, down, c.if-after-before.false, c.if-before-after.false))

pub returns-in-Err-clause-causes : goal.returns-in-Err-clause-causes
returns-in-Err-clause-causes g c =
    let new : Machine = record c.args.machine.now { cpu = c.lengthen_array.new.cpu; areas = c.lengthen_array.new.areas; sectors = c.lengthen_array.new.sectors } in
    record {
      device = λ e.
          (let is : c.stopped.result ≡ BackingFault = cc in
          c.in-Err.ensures.cause (ap Err (stop_faults new c.args.before c.args.after c.in-Err.fault c.stopped.result c.stopped.ensures is)));
      silent = λ e.
          (let is : c.stopped.result ≡ PrintFault = cc in
          stop_silent new c.args.before c.args.after c.in-Err.fault c.stopped.result c.stopped.ensures is);
    }
