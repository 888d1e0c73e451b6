use Rattle.std.proofs.Common.{◌≡◌, None, Ok, Err, length, sym, ◌∙◌, ap, subst}
use Rattle.b67_word.specs.declared.couples.Place.{Place}
use Rattle.b67_layout.specs.Machine.{content_after}
use Rattle.b67_layout.proofs.Untold.{untold}
use Rattle.b67_mcp.specs.Process.{ProcessMeets, ProcessWrites, ProcessFits}
use Rattle.b67_mcp.specs.declared.ends.CallEnd.{CallEnd}
use Rattle.b67_mcp.specs.declared.ends.Stop.TheVariants.{BackingFault, PrintFault}
use Rattle.b67_mcp.specs.Called.{CallTouches, CallWrites, CallFits}
use Rattle.b67_mcp.specs.Answers.{SilentMeets}
use Rattle.b67_mcp.proofs.Callings.{calling, reads_of}
use Rattle.b67_mcp.proofs.Renumbered.{stands_silent}
use Rattle.b67_mcp.proofs.Starting.{process_meets, process_stops, process_stands, process_touches, stops_touch, process_fits, stops_fit, process_writes, stops_write, stop_faults, stop_silent}
use Rattle.b67_mcp.proofs.process.start.Goals as goal

pub next_place-next-requires : goal.next_place-next-requires
next_place-next-requires g c = reads_of c.args.machine.now 12 c.requires.calls

pub process-requires-clause-calls : goal.process-requires-clause-calls
process-requires-clause-calls g c =
    let q = c.requires.calls.runs in
    let k = calling q.member q.task 12 c.requires.calls.called in
    record { runs = q; reference = k.reference; arguments = k.arguments; call = k.call }

pub stop_for-requires : goal.stop_for-requires
stop_for-requires g c =
    let q = c.requires.calls.runs in
    let k = calling q.member q.task 12 c.requires.calls.called in
    let h = stands_silent q.storage q.told c.args.machine.now q.plan q.session q.stands in
    process_stands (untold q.storage) None c.args.machine.now q.plan q.session q.member q.task q.ordered h q.running c.next_place-next.result k.arguments (content_after None (g.B.Backing.holds c.process.new.backing)) c.process.new.machine c.in-Err.fault
    ((c.in-Err.ensures.row (untold q.storage) None q.plan q.session q.member q.task q.ordered h q.running k.reference k.arguments k.call).0.meets tt)

pub returns-in-Ok-clause-row : goal.returns-in-Ok-clause-row
returns-in-Ok-clause-row g c = λ x told plan s m t o h runs code called says.
    (let B = g.B.Backing in
    let k = calling m t 12 called in
    let d = content_after told (B.holds c.process.new.backing) in
    let old = c.args.machine.now in
    let new = c.process.new.machine in
    let same = c.next_place-next.ensures.behind x told plan s m t o h runs code k.next k.reading in
    let R : Place → Type 0 = λ z. ProcessMeets d plan s m t z k.arguments (Ok c.in-Ok.done) old new in
    let row = subst R same ((c.in-Ok.ensures.row x told plan s m t o h runs k.reference k.arguments k.call).0.meets says) in
    let S : CallEnd → Type 0 = λ e. SilentMeets x d (B.size c.args.backing.now) plan s m t (Ok e) old new in
    subst S (sym c.silent.ensures) (process_meets x told old plan s m t o h runs k d (B.size c.args.backing.now) new c.in-Ok.done called c.process.ensures.printed row))

pub returns-in-Ok-clause-reaches : goal.returns-in-Ok-clause-reaches
returns-in-Ok-clause-reaches g c = λ x told plan s m t o h runs code called.
    (let B = g.B.Backing in
    let k = calling m t 12 called in
    let d = content_after None (B.holds c.process.new.backing) in
    let old = c.args.machine.now in
    let new = c.process.new.machine in
    let same = c.next_place-next.ensures.behind x told plan s m t o h runs code k.next k.reading in
    let R : Place → Type 0 = λ z. ProcessMeets d plan s m t z k.arguments (Ok c.in-Ok.done) old new in
    let F : Place → Type 0 = λ z. ProcessFits (length old.cpu.core) s m t z k.arguments (Ok c.in-Ok.done) in
    let row = subst R same ((c.in-Ok.ensures.row (untold x) None plan s m t o (stands_silent x told old plan s h) runs k.reference k.arguments k.call).0.meets tt) in
    let fits = subst F same (c.in-Ok.ensures.row x told plan s m t o h runs k.reference k.arguments k.call).1 in
    let T : CallEnd → Type 0 = λ e. CallTouches x plan m t (Ok e) in
    let C : CallEnd → Type 0 = λ e. CallFits (length old.cpu.core) s m t (Ok e) in
    let W : Place → Type 0 = λ z. ProcessWrites m t z k.arguments (Ok c.in-Ok.done) in
    let S : CallEnd → Type 0 = λ e. CallWrites x plan m t (Ok e) in
    record {
      present = subst T (sym c.silent.ensures) (process_touches x told old plan s m t o h runs k d new c.in-Ok.done row);
      fits = subst C (sym c.silent.ensures) (process_fits x told old plan s m t o h runs k c.in-Ok.done code fits);
      quiet = λ none. (c.in-Ok.ensures.row x told plan s m t o h runs k.reference k.arguments k.call).0.quiet (λ w. none (subst S (sym c.silent.ensures) (process_writes x told old plan s m t o h runs k c.in-Ok.done (subst W same w))));
    })

pub returns-in-Err-clause-row : goal.returns-in-Err-clause-row
returns-in-Err-clause-row g c = λ x told plan s m t o h runs code called says.
    (let B = g.B.Backing in
    let k = calling m t 12 called in
    let d = content_after told (B.holds c.process.new.backing) in
    let old = c.args.machine.now in
    let new = c.process.new.machine in
    let same = c.next_place-next.ensures.behind x told plan s m t o h runs code k.next k.reading in
    let R : Place → Type 0 = λ z. ProcessMeets d plan s m t z k.arguments (Err c.in-Err.fault) old new in
    let row = subst R same ((c.in-Err.ensures.row x told plan s m t o h runs k.reference k.arguments k.call).0.meets says) in
    process_stops x told old plan s m t o h runs k d (B.size c.args.backing.now) new c.in-Err.fault c.stop_for.result code (c.requires.same ∙ sym c.process.ensures.kept.sectors) c.stop_for.ensures row)

pub returns-in-Err-clause-reaches : goal.returns-in-Err-clause-reaches
returns-in-Err-clause-reaches g c = λ x told plan s m t o h runs code called.
    (let B = g.B.Backing in
    let k = calling m t 12 called in
    let d = content_after None (B.holds c.process.new.backing) in
    let old = c.args.machine.now in
    let new = c.process.new.machine in
    let same = c.next_place-next.ensures.behind x told plan s m t o h runs code k.next k.reading in
    let R : Place → Type 0 = λ z. ProcessMeets d plan s m t z k.arguments (Err c.in-Err.fault) old new in
    let F : Place → Type 0 = λ z. ProcessFits (length old.cpu.core) s m t z k.arguments (Err c.in-Err.fault) in
    let row = subst R same ((c.in-Err.ensures.row (untold x) None plan s m t o (stands_silent x told old plan s h) runs k.reference k.arguments k.call).0.meets tt) in
    let fits = subst F same (c.in-Err.ensures.row x told plan s m t o h runs k.reference k.arguments k.call).1 in
    let W : Place → Type 0 = λ z. ProcessWrites m t z k.arguments (Err c.in-Err.fault) in
    record {
      present = stops_touch x told old plan s m t o h runs k d new c.in-Err.fault c.stop_for.result c.stop_for.ensures row;
      fits = stops_fit x told old plan s m t o h runs k new c.in-Err.fault c.stop_for.result code c.stop_for.ensures fits;
      quiet = λ none. (c.in-Err.ensures.row x told plan s m t o h runs k.reference k.arguments k.call).0.quiet (λ w. none (stops_write x told old plan s m t o h runs k c.process.new.machine c.in-Err.fault c.stop_for.result c.stop_for.ensures (subst W same w)));
    })

pub returns-in-Err-clause-causes : goal.returns-in-Err-clause-causes
returns-in-Err-clause-causes g c = record {
  device = λ e.
      (let is : c.stop_for.result ≡ BackingFault = cc in
      c.in-Err.ensures.device.cause (ap Err (stop_faults c.process.new.machine c.in-Err.fault c.stop_for.result c.stop_for.ensures is)));
  silent = λ e.
      (let is : c.stop_for.result ≡ PrintFault = cc in
      stop_silent c.process.new.machine c.in-Err.fault c.stop_for.result c.stop_for.ensures is);
}
