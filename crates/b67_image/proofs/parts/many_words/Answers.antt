use Rattle.std.proofs.Common.{◌+◌, ◌∙◌, List, take, length, sym, ap, subst, arith}
use Rattle.std.proofs.lemmas.List.{length-replicate}
use Rattle.b67_word.specs.Tagged.{Tagged}
use Rattle.b67_image.specs.Reading.{read_word}
use Rattle.b67_image.specs.Giving.{read_many}
use Rattle.b67_image.proofs.NumberLoops.{Continues, begins, writes_on, ends, written}
use Rattle.b67_image.proofs.parts.many_words.Goals as goal

pub each-init : goal.each-init
each-init c = record {
  many = ap length c.in_ok-core.ensures ∙ length-replicate _ _;
  reads = begins read_word c.args.count c.args.bytes.now;
}

pub each-preserved : goal.each-preserved
each-preserved c = record {
  many = c.set.ensures.len ∙ c.each.invariant.many;
  reads = subst (λ (core : List Tagged). Continues read_word (take (c.each.at + 1) core) c.args.count (c.each.at + 1) c.in-Ok.found.1.now (read_many read_word c.args.count c.args.bytes.now)) (sym c.set.ensures.value)
      (writes_on read_word c.each.core c.args.count c.each.at c.each.rest.now c.in-Ok.found.0 c.in-Ok.found.1.now (read_many read_word c.args.count c.args.bytes.now) c.each-test.true (omega (arith, c.each-test.true, c.each.invariant.many)) c.in-Ok.ensures c.each.invariant.reads);
}

pub returns-in-Err : goal.returns-in-Err
returns-in-Err c = ends read_word c.in-Err.e _ _ _ _ _ c.each-test.true c.in-Err.ensures c.each.invariant.reads

pub returns : goal.returns
returns c = written read_word c.each.core c.args.count c.each.at _ _ c.each-test.false (omega (arith, c.each-test.false, c.each.invariant.many)) c.each.invariant.reads
