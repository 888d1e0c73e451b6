use Rattle.std.proofs.Common.{length, None, Err, refl, ◌∙◌, ap, arith}
use Rattle.b67_backing.specs.declared.SpaceFault.TheVariants.{BackingFault}
use Rattle.b67_layout.specs.Layout.{machine_view}
use Rattle.b67_layout.specs.Machine.{content_after}
use Rattle.b67_layout.proofs.Devices.{Served-none}
use Rattle.b67_layout.proofs.Untold.{untold}
use Rattle.b67_task.proofs.Shortage.{short_of}
use Rattle.b67_task.proofs.Keeping.{keeps_same}
use Rattle.b67_mcp.proofs.Moved.{silent, seen_over, stands_moved}
use Rattle.b67_mcp.proofs.Starts.{starts_one, processed, may_start, stopped, writes, fits_by, same_fault}
use Rattle.b67_mcp.proofs.process_started.start_asked.Goals as goal

pub need-words-requires-clause-runs : goal.need-words-requires-clause-runs
need-words-requires-clause-runs g c = c.requires.call.runs

pub returns-then-words-core-clause-row : goal.returns-then-words-core-clause-row
returns-then-words-core-clause-row g c = λ x told plan s m t o h runs arguments a few. record {
  meets = λ says.
      (record { starts = starts_one plan m t arguments c.args.asked.cell c.args.asked.count a few c.args.next; need_is = c.need-words.ensures x told plan s m t o h runs; core_is = c.size-core.ensures.value; exceeds = c.if-words-core.true }, refl);
  quiet = λ never. refl;
}

pub returns-then-words-core-clause-kept : goal.returns-then-words-core-clause-kept
returns-then-words-core-clause-kept g c = keeps_same c.args.machine.now

pub returns-then-words-core-clause-device : goal.returns-then-words-core-clause-device
returns-then-words-core-clause-device g c = record { calls = Served-none g.B.Backing.holds g.B.Backing.size g.B.Backing.calls g.B.Backing.faults c.args.backing.now; cause = λ e. absurd (let b : ⊥ = cc in b) }

pub next_slot_end-upto-requires : goal.next_slot_end-upto-requires
next_slot_end-upto-requires g c =
    let q = c.requires.call.runs in
    record { storage = q.storage; plan = q.plan; session = q.session; stands = q.stands.session }

pub claim-requires-clause-machine : goal.claim-requires-clause-machine
claim-requires-clause-machine g c =
    let q = c.requires.call.runs in
    let k = c.args.machine.now in
    (untold q.storage, machine_view q.plan q.session.jobs, seen_over (untold q.storage) None k q.plan q.session (silent q.storage q.told k q.plan q.session q.stands) q.ordered (g.B.Backing.holds c.args.backing.now) tt)

pub begin-requires-clause-call : goal.begin-requires-clause-call
begin-requires-clause-call g c =
    let q = c.requires.call.runs in
    let a = c.requires.call.asks in
    let k = c.args.machine.now in
    let new = c.claim.new in
    let keeps = c.claim.ensures.keeps in
    let x = untold q.storage in
    let h = silent q.storage q.told k q.plan q.session q.stands in
    let now = g.B.Backing.holds new.backing in
    let row = c.in-Ok.ensures.row x (machine_view q.plan q.session.jobs) (seen_over x None k q.plan q.session h q.ordered (g.B.Backing.holds c.args.backing.now) tt) in
    let (y, evicted, above, view) = row.clear in
    let (slot, lowest, end) = c.next_slot_end-upto.ensures x q.plan q.session h.session in
    let stands = stands_moved x None k q.plan q.session h y now new.cpu new.areas new.sectors keeps row.outside evicted.evicted view in
    record {
      starts = record {
        storage = y;
        told = None;
        plan = q.plan;
        session = q.session;
        member = q.member;
        task = q.task;
        ordered = q.ordered;
        stands = stands;
        running = q.running;
        f = a.f;
        segment = a.segment;
        level = a.level;
        place = a.place;
        slot = slot;
        may = may_start x None k q.plan q.session q.member q.task q.ordered h q.running c.requires.call.arguments c.args.asked.cell c.args.asked.count a c.requires.call.few c.requires.number y (length new.cpu.core) slot lowest
            (omega (arith, keeps.len, c.if-words-core.false, c.size-core.ensures.value, c.need-words.ensures x None q.plan q.session q.member q.task q.ordered h q.running))
            (λ at i e. omega (arith, above at i e, end));
      };
      may = a.may;
    }

pub begin-requires-clause-place : goal.begin-requires-clause-place
begin-requires-clause-place g c = c.requires.call.place

pub returns-in-Ok-clause-row : goal.returns-in-Ok-clause-row
returns-in-Ok-clause-row g c = λ x told plan s m t o h runs arguments a few. record {
  meets = λ says.
      (let k = c.args.machine.now in
      let new = c.claim.new in
      let keeps = c.claim.ensures.keeps in
      let now = g.B.Backing.holds new.backing in
      let row = c.in-Ok.ensures.row x (machine_view plan s.jobs) (seen_over x told k plan s h o (g.B.Backing.holds c.args.backing.now) says) in
      let (y, evicted, above, view) = row.clear in
      let (slot, lowest, end) = c.next_slot_end-upto.ensures x plan s h.session in
      let stands = stands_moved x told k plan s h y now new.cpu new.areas new.sectors keeps row.outside evicted.evicted view in
      let may = may_start x told k plan s m t o h runs arguments c.args.asked.cell c.args.asked.count a few c.requires.number y (length new.cpu.core) slot lowest
      (omega (arith, keeps.len, c.if-words-core.false, c.size-core.ensures.value, c.need-words.ensures x told plan s m t o h runs))
      (λ at i e. omega (arith, above at i e, end)) in
      processed plan m t arguments c.args.asked.cell c.args.asked.count a few c.args.next (content_after told now) s c.begin.new.machine
      (c.begin.ensures.stands y (content_after told now) plan s m t a.f a.segment a.level a.place slot o stands runs may a.may));
  quiet = λ never. absurd (never (starts_one plan m t arguments c.args.asked.cell c.args.asked.count a few c.args.next));
}

pub returns-in-Ok-clause-fits : goal.returns-in-Ok-clause-fits
returns-in-Ok-clause-fits g c = λ x told plan s m t o h runs arguments. λ w. omega (arith, c.if-words-core.false, c.size-core.ensures.value, c.need-words.ensures x told plan s m t o h runs)

pub returns-in-Ok-clause-kept : goal.returns-in-Ok-clause-kept
returns-in-Ok-clause-kept g c =
    let a = c.claim.ensures.keeps in
    let b = c.begin.ensures.kept in
    record { core = b.core ∙ a.len; sectors = b.sectors ∙ a.count; given = b.given }

pub returns-in-Ok-clause-device : goal.returns-in-Ok-clause-device
returns-in-Ok-clause-device g c = record { calls = c.claim.ensures.device; cause = λ e. absurd (let b : ⊥ = cc in b) }

pub returns-in-Err-clause-row : goal.returns-in-Err-clause-row
returns-in-Err-clause-row g c = λ x told plan s m t o h runs arguments a few. record {
  meets = λ says.
      (let k = c.args.machine.now in
      let new = c.claim.new in
      let keeps = c.claim.ensures.keeps in
      let now = g.B.Backing.holds new.backing in
      let row = c.in-Err.ensures.row x (machine_view plan s.jobs) (seen_over x told k plan s h o (g.B.Backing.holds c.args.backing.now) says) in
      let starts = starts_one plan m t arguments c.args.asked.cell c.args.asked.count a few c.args.next in
      let after = record k { cpu = new.cpu; areas = new.areas; sectors = new.sectors } in
      stopped (content_after told now) plan s m t c.args.next arguments k after c.in-Err.fault
      (λ need size e. c.claim.ensures.no_core need size (c.in-Err.is ∙ ap Err e))
      (let (y, evicted, view) = row.refused in
      record { starts = starts; storage = y; stands = stands_moved x told k plan s h y now new.cpu new.areas new.sectors keeps row.outside evicted.evicted view; tables = refl })
      (λ wants free e. (let (y, short, at, evicted, view) = row.full wants free (ap Err e) in
      record {
        stopped = record { starts = starts; storage = y; stands = stands_moved x told k plan s h y now new.cpu new.areas new.sectors keeps row.outside evicted.evicted view; tables = refl };
        short = short_of y plan s.jobs wants free short;
      })));
  quiet = λ never.
      absurd (never (writes m t c.args.next arguments c.in-Err.fault (λ need size e. c.claim.ensures.no_core need size (c.in-Err.is ∙ ap Err e)) (starts_one plan m t arguments c.args.asked.cell c.args.asked.count a few c.args.next)));
}

pub returns-in-Err-clause-fits : goal.returns-in-Err-clause-fits
returns-in-Err-clause-fits g c = λ x told plan s m t o h runs arguments.
    fits_by (length c.args.machine.now.cpu.core) s m t c.args.next arguments c.in-Err.fault (omega (arith, c.if-words-core.false, c.size-core.ensures.value, c.need-words.ensures x told plan s m t o h runs))

pub returns-in-Err-clause-kept : goal.returns-in-Err-clause-kept
returns-in-Err-clause-kept g c =
    let a = c.claim.ensures.keeps in
    record { core = a.len; sectors = a.count; given = refl }

pub returns-in-Err-clause-device : goal.returns-in-Err-clause-device
returns-in-Err-clause-device g c = record { calls = c.claim.ensures.device; cause = λ e. c.claim.ensures.cause (c.in-Err.is ∙ ap Err (same_fault c.in-Err.fault BackingFault e)) }
