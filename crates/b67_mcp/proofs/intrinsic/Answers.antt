use Rattle.std.proofs.Common.{ℕ, List, length, Option, Some, Ok, refl, sym, ◌∙◌, ap, arith, subst, inl, inr}
use Rattle.b67_layout.specs.Machine.{content_after}
use Rattle.b67_mcp.specs.declared.ends.CallEnd.{CallEnd}
use Rattle.b67_mcp.specs.Called.{CallMeets, CallTouches}
use Rattle.b67_mcp.proofs.Low.{numbered}
use Rattle.b67_mcp.proofs.Quiet.{silent_meets, resize_meets, moved_meets, fits_never}
use Rattle.b67_mcp.proofs.Still.{call_starts, never_starts, as_many}
use Rattle.b67_mcp.proofs.Told.{told_is}
use Rattle.b67_mcp.proofs.Callings.{calling}
use Rattle.b67_mcp.proofs.Present.{silent_untouched}
use Rattle.b67_mcp.proofs.intrinsic.Goals as goal

pub returns-in-8-clause-call : goal.returns-in-8-clause-call
returns-in-8-clause-call g c = λ x told plan s m t o h runs code called.
    let B = g.B.Backing in
    let is = called ∙ ap Some c.in-8.is in
    let k = calling m t 8 is in
    let row = c.declare.ensures.row x told plan s m t o h runs code is in
    let M : CallEnd → Option (List (List ℕ)) → Type 0 = λ e d. CallMeets g.K.Sink.taken d (B.size c.args.backing.now) x plan s m t (Ok e) c.args.machine.now c.declare.new.machine c.args.paper.now c.args.paper.now in
    let P : CallEnd → Type 0 = λ e. CallTouches x plan m t (Ok e) in
    record {
      row = λ says.
          subst (M c.silent.result) (sym (told_is told (B.holds c.args.backing.now) says))
          (subst (λ e. M e told) (sym c.silent.ensures)
          (silent_meets g.K.Sink.taken c.args.paper.now x told (B.size c.args.backing.now) plan s m t c.declare.result c.args.machine.now c.declare.new.machine o.peak_low (as_many m t 8 k (inl (omega arith))) row));
      present = subst P (sym c.silent.ensures) (silent_untouched m t x plan 8 (λ e. absurd cc) k told s c.args.machine.now c.declare.new.machine c.declare.result row);
      fits = fits_never (length c.args.machine.now.cpu.core) s m t (never_starts m t (call_starts m t 8 k (inl (omega arith)))) (Ok c.silent.result);
      outside = λ few. c.declare.ensures.changed;
      quiet = λ none. refl;
    }

pub returns-in-9-clause-call : goal.returns-in-9-clause-call
returns-in-9-clause-call g c = λ x told plan s m t o h runs code called.
    let B = g.B.Backing in
    let is = called ∙ ap Some c.in-9.is in
    let M : Option (List (List ℕ)) → Type 0 = λ d. CallMeets g.K.Sink.taken d (B.size c.args.backing.now) x plan s m t c.print.result c.args.machine.now c.print.new.machine c.args.paper.now c.print.new.paper in
    record {
      row = λ says.
          subst M (sym (told_is told (B.holds c.args.backing.now) says)) (c.print.ensures.row x told plan s m t o h runs code is (B.size c.args.backing.now));
      present = c.print.ensures.present x told plan s m t o h runs code is;
      fits = fits_never (length c.args.machine.now.cpu.core) s m t (never_starts m t (call_starts m t 9 (calling m t 9 is) (inl (omega arith)))) c.print.result;
      outside = λ few. c.print.ensures.changed;
      quiet = λ none. refl;
    }

pub returns-in-9-clause-causes : goal.returns-in-9-clause-causes
returns-in-9-clause-causes g c = record { printer = c.print.ensures.cause; device = λ e. absurd (c.print.ensures.stops e) }

pub returns-in-10-clause-call : goal.returns-in-10-clause-call
returns-in-10-clause-call g c = λ x told plan s m t o h runs code called.
    let B = g.B.Backing in
    let is = called ∙ ap Some c.in-10.is in
    let M : Option (List (List ℕ)) → Type 0 = λ d. CallMeets g.K.Sink.taken d (B.size c.args.backing.now) x plan s m t c.print_row.result c.args.machine.now c.print_row.new.machine c.args.paper.now c.print_row.new.paper in
    record {
      row = λ says.
          subst M (sym (told_is told (B.holds c.args.backing.now) says)) (c.print_row.ensures.row x told plan s m t o h runs code is (B.size c.args.backing.now));
      present = c.print_row.ensures.present x told plan s m t o h runs code is;
      fits = fits_never (length c.args.machine.now.cpu.core) s m t (never_starts m t (call_starts m t 10 (calling m t 10 is) (inl (omega arith)))) c.print_row.result;
      outside = λ few. c.print_row.ensures.changed;
      quiet = λ none. refl;
    }

pub returns-in-10-clause-causes : goal.returns-in-10-clause-causes
returns-in-10-clause-causes g c = record { printer = c.print_row.ensures.cause; device = λ e. absurd (c.print_row.ensures.stops e) }

pub returns-in-11-clause-call : goal.returns-in-11-clause-call
returns-in-11-clause-call g c = λ x told plan s m t o h runs code called.
    let B = g.B.Backing in
    let is = called ∙ ap Some c.in-11.is in
    let k = calling m t 11 is in
    let row = c.read.ensures.row x told plan s m t o h runs code is in
    let M : CallEnd → Option (List (List ℕ)) → Type 0 = λ e d. CallMeets g.K.Sink.taken d (B.size c.args.backing.now) x plan s m t (Ok e) c.args.machine.now c.read.new.machine c.args.paper.now c.args.paper.now in
    let P : CallEnd → Type 0 = λ e. CallTouches x plan m t (Ok e) in
    record {
      row = λ says.
          subst (M c.silent-in-11.result) (sym (told_is told (B.holds c.args.backing.now) says))
          (subst (λ e. M e told) (sym c.silent-in-11.ensures)
          (silent_meets g.K.Sink.taken c.args.paper.now x told (B.size c.args.backing.now) plan s m t c.read.result c.args.machine.now c.read.new.machine o.peak_low (as_many m t 11 k (inl (omega arith))) row));
      present = subst P (sym c.silent-in-11.ensures) (silent_untouched m t x plan 11 (λ e. absurd cc) k told s c.args.machine.now c.read.new.machine c.read.result row);
      fits = fits_never (length c.args.machine.now.cpu.core) s m t (never_starts m t (call_starts m t 11 k (inl (omega arith)))) (Ok c.silent-in-11.result);
      outside = λ few. c.read.ensures.changed;
      quiet = λ none. refl;
    }

pub returns-in-12-clause-call : goal.returns-in-12-clause-call
returns-in-12-clause-call g c = λ x told plan s m t o h runs code called.
    let B = g.B.Backing in
    let is = called ∙ ap Some c.in-12.is in
    let there = c.start.ensures.reaches x told plan s m t o h runs code is in
    record {
      row = λ says.
          moved_meets g.K.Sink.taken c.args.paper.now x (content_after told (B.holds c.start.new.backing)) (B.size c.args.backing.now) plan s m t c.start.result c.args.machine.now c.start.new.machine
          (c.start.ensures.row x told plan s m t o h runs code is says);
      present = there.present;
      fits = there.fits;
      outside = λ few. absurd (omega (arith, few, c.in-12.is));
      quiet = there.quiet;
    }

pub returns-in-12-clause-causes : goal.returns-in-12-clause-causes
returns-in-12-clause-causes g c = record { printer = record { later = omega arith; failed = λ e. absurd (c.start.ensures.causes.silent e) }; device = c.start.ensures.causes.device }

pub returns-in-17-clause-call : goal.returns-in-17-clause-call
returns-in-17-clause-call g c = λ x told plan s m t o h runs code called.
    let B = g.B.Backing in
    let is = called ∙ ap Some c.in-17.is in
    let k = calling m t 17 is in
    let row = c.deallocate.ensures.row x told plan s m t o h runs code is in
    let M : CallEnd → Option (List (List ℕ)) → Type 0 = λ e d. CallMeets g.K.Sink.taken d (B.size c.args.backing.now) x plan s m t (Ok e) c.args.machine.now c.deallocate.new.machine c.args.paper.now c.args.paper.now in
    let P : CallEnd → Type 0 = λ e. CallTouches x plan m t (Ok e) in
    record {
      row = λ says.
          subst (M c.silent-in-17.result) (sym (told_is told (B.holds c.args.backing.now) says))
          (subst (λ e. M e told) (sym c.silent-in-17.ensures)
          (silent_meets g.K.Sink.taken c.args.paper.now x told (B.size c.args.backing.now) plan s m t c.deallocate.result c.args.machine.now c.deallocate.new.machine o.peak_low (as_many m t 17 k (inr (omega arith))) row));
      present = subst P (sym c.silent-in-17.ensures) (silent_untouched m t x plan 17 (λ e. absurd cc) k told s c.args.machine.now c.deallocate.new.machine c.deallocate.result row);
      fits = fits_never (length c.args.machine.now.cpu.core) s m t (never_starts m t (call_starts m t 17 k (inr (omega arith)))) (Ok c.silent-in-17.result);
      outside = λ few. absurd (omega (arith, few, c.in-17.is));
      quiet = λ none. refl;
    }

pub returns-in-18-clause-call : goal.returns-in-18-clause-call
returns-in-18-clause-call g c = λ x told plan s m t o h runs code called.
    let B = g.B.Backing in
    let is = called ∙ ap Some c.in-18.is in
    let k = calling m t 18 is in
    record {
      row = λ says.
          resize_meets g.K.Sink.taken c.args.paper.now x (content_after told (B.holds c.resize.new.backing)) (B.size c.args.backing.now) plan s m t c.resize.result c.args.machine.now c.resize.new.machine
          is o.peak_low (as_many m t 18 k (inr (omega arith))) (c.resize.ensures.row x told plan s m t o h runs code is says);
      present = c.resize.ensures.present x told plan s m t o h runs code is;
      fits = fits_never (length c.args.machine.now.cpu.core) s m t (never_starts m t (call_starts m t 18 k (inr (omega arith)))) c.resize.result;
      outside = λ few. absurd (omega (arith, few, c.in-18.is));
      quiet = λ none. c.resize.ensures.quiet x told plan s m t o h runs code is none;
    }

pub returns-in-18-clause-causes : goal.returns-in-18-clause-causes
returns-in-18-clause-causes g c = record { printer = record { later = omega arith; failed = λ e. absurd (c.resize.ensures.causes.silent e) }; device = c.resize.ensures.causes.device }

pub wait_for-requires-clause-from : goal.wait_for-requires-clause-from
wait_for-requires-clause-from g c =
    let q = c.requires.calls in
    let between = numbered q.runs.plan q.runs.session q.runs.member q.runs.task c.args.n q.runs.ordered q.runs.running q.called in
    omega (arith, between.0)

pub wait_for-requires-clause-upto : goal.wait_for-requires-clause-upto
wait_for-requires-clause-upto g c =
    let q = c.requires.calls in
    let between = numbered q.runs.plan q.runs.session q.runs.member q.runs.task c.args.n q.runs.ordered q.runs.running q.called in
    omega (arith, between.1)

pub returns-in_default-clause-call : goal.returns-in_default-clause-call
returns-in_default-clause-call g c = λ x told plan s m t o h runs code called.
    let B = g.B.Backing in
    let M : Option (List (List ℕ)) → Type 0 = λ d. CallMeets g.K.Sink.taken d (B.size c.args.backing.now) x plan s m t (Ok c.wait_for.result) c.args.machine.now c.wait_for.new.machine c.args.paper.now c.args.paper.now in
    let there = c.wait_for.ensures.present x told plan s m t o h runs code called in
    record {
      row = λ says.
          subst M (sym (told_is told (B.holds c.args.backing.now) says))
          (moved_meets g.K.Sink.taken c.args.paper.now x told (B.size c.args.backing.now) plan s m t (Ok c.wait_for.result) c.args.machine.now c.wait_for.new.machine (c.wait_for.ensures.row x told plan s m t o h runs code called (B.size c.args.backing.now)));
      present = there.0;
      fits = there.1;
      outside = λ few. absurd (let between = numbered plan s m t c.args.n o runs called in omega (arith, few, between.0));
      quiet = λ none. refl;
    }
