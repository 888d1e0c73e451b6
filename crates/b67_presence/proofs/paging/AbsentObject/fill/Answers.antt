use Rattle.std.proofs.Common.{Some, refl, ◌∙◌, ap, arith}
use Rattle.b67_presence.proofs.Contents.{loaded}
use Rattle.b67_presence.proofs.paging.AbsentObject.fill.Goals as goal

pub returns-then-self-eq0-clause-fills : goal.returns-then-self-eq0-clause-fills
returns-then-self-eq0-clause-fills g c = record {
  loaded = record { reads = λ some. absurd (some c.if-self-eq0.true); zeros = λ z i low high. c.fill.ensures.value i low high ∙ ap Some c.of.ensures; tagged = λ some. absurd (some c.if-self-eq0.true) };
  untouched = λ z. (refl, refl);
}

pub returns-then-self-eq0-clause-rest : goal.returns-then-self-eq0-clause-rest
returns-then-self-eq0-clause-rest g c = record { outside = c.fill.ensures.outside; len = c.fill.ensures.len }

pub returns-then-self-eq0-clause-device : goal.returns-then-self-eq0-clause-device
returns-then-self-eq0-clause-device g c = record { same = record { told = λ all e. e }; size = refl; calls = omega arith; faults = omega arith }

pub returns-clause-fills : goal.returns-clause-fills
returns-clause-fills g c = record {
  loaded = loaded g.B.Backing.holds c.args.backing.now c.args.sectors.now c.args.at c.args.self c.restore.new.core c.tag.result c.restore.result c.tag.ensures.value c.if-self-eq0.false c.restore.ensures.gives c.restore.ensures.words;
  untouched = λ z. absurd (c.if-self-eq0.false z);
}

pub returns-clause-rest : goal.returns-clause-rest
returns-clause-rest g c = c.restore.ensures.rest

pub returns-clause-device : goal.returns-clause-device
returns-clause-device g c = let read = c.restore.ensures.device in record { same = read.same; size = read.called.size; calls = read.called.calls.later; faults = read.called.cause.later }

pub returns-clause-cause : goal.returns-clause-cause
returns-clause-cause g c = c.restore.ensures.device.called.cause
