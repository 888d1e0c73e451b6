use Rattle.std.proofs.Common.{◌≡◌, ◌<◌, Err, length, refl, ap, arith}
use Rattle.b67_layout_step.proofs.OtherNumbers.{others_in_order}
use Rattle.b67_backing.specs.declared.refusals.SpaceFault.TheVariants.{NoCore}
use Rattle.b67_task.specs.Needing.{need_with}
use Rattle.b67_mcp.specs.declared.ends.Stop.TheVariants.{BackingFull}
use Rattle.b67_session.proofs.Composed.{same_stop, not_full_ok}
use Rattle.b67_session.proofs.Runs.{keeps_tasks}
use Rattle.b67_session.proofs.Stops.{stopped_so, stopped_fits, full_fault}
use Rattle.b67_session.proofs.bringing.bring_wanted.Goals as goal

pub stop_for-requires : goal.stop_for-requires
stop_for-requires g c =
    let q = c.requires.wants in
    let a = (c.in-Err.ensures.row q.storage q.plan q.session q.member q.task q.words q.ordered q.stands q.running q.wanted).refused.again in
    record {
      storage = a.storage;
      told = a.storage.device;
      plan = q.plan;
      session = record q.session { jobs = a.jobs };
      ordered = others_in_order q.session a.jobs a.others q.ordered;
      stands = a.stands.stands;
    }

pub returns-in-Ok-clause-row : goal.returns-in-Ok-clause-row
returns-in-Ok-clause-row g c = λ x plan s m t words o h runs wanted.
    let row = c.in-Ok.ensures.row x plan s m t words o h runs wanted in
    record {
      meets = λ touched. row.came;
      fits = λ touched. tt;
      hole = λ room.
          let hole = row.hole room in
          record { used = record { written = hole.1; not_full = not_full_ok tt }; in_place = hole.3; untouched = λ zeros. (row.zeros room zeros).1 };
    }

pub returns-in-Err-clause-row : goal.returns-in-Err-clause-row
returns-in-Err-clause-row g c = λ x plan s m t words o h runs wanted.
    let holds = g.B.Backing.holds in
    let k = c.args.machine.now in
    let new = c.bring.new.machine in
    let count = g.B.Backing.size c.args.backing.now in
    let row = c.in-Err.ensures.row x plan s m t words o h runs wanted in
    let exactly : length k.cpu.core < need_with s m t 0 words → c.in-Err.fault ≡ NoCore (need_with s m t 0 words) (length k.cpu.core) = λ above.
    let is = (row.no_core (need_with s m t 0 words) (length k.cpu.core)).1 (above, refl, refl) in
    same_stop c.in-Err.fault (NoCore (need_with s m t 0 words) (length k.cpu.core)) is in
    record {
      meets = λ touched.
          stopped_so x (holds c.args.backing.now) (holds c.bring.new.backing) k new plan s m t count words c.args.wanted o h runs wanted touched
          row.refused c.in-Err.fault c.stop_for.result c.stop_for.ensures
          (omega (arith, c.requires.same, c.bring.ensures.keeps.count))
          (λ need size e. (row.no_core need size).0 (ap Err e))
          exactly
          (λ need size e. let (a, b) = c.in-Err.ensures.unchanged need size (ap Err e) in (a, ap holds b))
          (λ wants free e. let z = row.full wants free (ap Err e) in (z.0, z.2));
      fits = λ touched.
          stopped_fits x (holds c.args.backing.now) (holds c.bring.new.backing) k new plan s m t count words c.args.wanted o h runs wanted touched
          c.in-Err.fault c.stop_for.result c.stop_for.ensures exactly;
      hole = λ room.
          let hole = row.hole room in
          record {
            used = record {
              written = hole.1;
              not_full = λ sum size e.
                  let (wants, free, is) = full_fault new c.in-Err.fault c.stop_for.result sum size c.stop_for.ensures (same_stop c.stop_for.result (BackingFull sum size) e) in
                  (row.full wants free (ap Err is)).1 room;
            };
            in_place = tt;
            untouched = λ zeros. (row.zeros room zeros).1;
          };
    }

pub returns-in-Ok-clause-keeps : goal.returns-in-Ok-clause-keeps
returns-in-Ok-clause-keeps g c = keeps_tasks c.args.machine.now c.bring.new.machine c.bring.ensures.tasks c.bring.ensures.keeps.len c.bring.ensures.keeps.count

pub returns-in-Err-clause-keeps : goal.returns-in-Err-clause-keeps
returns-in-Err-clause-keeps g c = keeps_tasks c.args.machine.now c.bring.new.machine c.bring.ensures.tasks c.bring.ensures.keeps.len c.bring.ensures.keeps.count
