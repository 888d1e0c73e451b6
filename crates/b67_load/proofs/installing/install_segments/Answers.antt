use Rattle.std.proofs.Common.{◌∙◌, List, length, map, refl, arith}
use Rattle.std.proofs.lemmas.List.{length-map}
use Rattle.b67_codefile.specs.Meaning.{segment_of}
use Rattle.b67_stack.specs.MachineView.{PagedObject}
use Rattle.b67_load.specs.Objects.{code_from}
use Rattle.b67_load.proofs.Writing.{going_first, going_next, going_all, going_failed}
use Rattle.b67_load.proofs.Steps.{length-code_from, code_step, code_end}
use Rattle.b67_load.proofs.installing.install_segments.Goals as goal

pub loop-segment-init : goal.loop-segment-init
loop-segment-init g c =
    let all : List PagedObject = code_from c.args.base (map segment_of c.args.segments.now) in
    record {
      going = going_first g.B.Backing.holds c.args.base all (length c.args.segments.now) _ (length-code_from c.args.base (map segment_of c.args.segments.now) ∙ length-map c.args.segments.now segment_of) c.requires.sectors.room;
      size = refl;
      faults = omega arith;
      calls = omega arith;
    }

pub returns-in_err-install_segment-clause-spares :
    goal.returns-in_err-install_segment-clause-spares
returns-in_err-install_segment-clause-spares g c =
    going_failed g.B.Backing.holds c.args.base (length c.args.segments.now) c.loop-segment.at (code_from c.args.base (map segment_of c.args.segments.now)) _ _ _ _ _ _
    (code_step c.loop-segment.at c.loop-segment.segment-index c.args.segments.now c.segment-item.result c.segment-item.is c.loop-segment-test.true)
    c.loop-segment.invariant.going c.install_segment.ensures.spares

pub loop-segment-preserved : goal.loop-segment-preserved
loop-segment-preserved g c = record {
  going = going_next g.B.Backing.holds c.args.base (length c.args.segments.now) c.loop-segment.at (code_from c.args.base (map segment_of c.args.segments.now)) _ _ _ _ _ _
      (code_step c.loop-segment.at c.loop-segment.segment-index c.args.segments.now c.segment-item.result c.segment-item.is c.loop-segment-test.true) refl
      c.loop-segment.invariant.going c.in_ok-install_segment.ensures.writes c.install_segment.ensures.spares;
  size = c.install_segment.ensures.device.size ∙ c.loop-segment.invariant.size;
  faults = omega (arith, c.loop-segment.invariant.faults, c.install_segment.ensures.device.cause.later);
  calls = omega (arith, c.loop-segment.invariant.calls, c.install_segment.ensures.device.calls);
}

pub returns-clause-writes : goal.returns-clause-writes
returns-clause-writes g c =
    going_all g.B.Backing.holds c.args.base (length c.args.segments.now) c.loop-segment.at (code_from c.args.base (map segment_of c.args.segments.now)) _ _ _
    (code_end c.loop-segment.at c.loop-segment.segment-index c.args.segments.now c.loop-segment-test.false) c.loop-segment.invariant.going
