use Rattle.std.proofs.Common.{◌∙◌, arith, map, refl}
use Rattle.b67_word.specs.Numbers.{number}
use Rattle.b67_backing.specs.Shelf.{chain_of}
use Rattle.b67_backing.proofs.Stores.{ahead_pos, counts_next, storing_first, storing_next}
use Rattle.b67_backing.proofs.Walks.{room}
use Rattle.b67_backing.proofs.sectors.Sectors.fill.Goals as goal

pub overflow_mul-j : goal.overflow_mul-j
overflow_mul-j g c =
    let (st, h) = c.requires.chain in
    omega (arith, room c.args.self.now c.args.first st h.shelf (omega (arith, h.many, c.requires.some)), h.many, h.shelf.small, c.loop-j-test.true)

pub pack-requires : goal.pack-requires
pack-requires g c =
    let (st, h) = c.requires.chain in
    omega (arith, room c.args.self.now c.args.first st h.shelf (omega (arith, h.many, c.requires.some)), h.many, h.shelf.small, c.loop-j-test.true)

pub loop-j-init : goal.loop-j-init
loop-j-init g c = record {
  storing = λ st h. storing_first g.B.Backing.holds c.args.self.now c.args.first st (map number c.args.from.now) c.args.sectors c.args.backing.now h (omega (arith, c.requires.some));
  size = refl;
  faults = omega arith;
  calls = omega arith;
  rose = λ h. absurd (omega arith);
}

pub write-requires-clause-high : goal.write-requires-clause-high
write-requires-clause-high g c =
    let (st, h) = c.requires.chain in
    let s = c.loop-j.invariant.storing st h in
    let p = ahead_pos c.args.self.now.links (chain_of c.args.first st.chains) c.args.sectors c.loop-j.j c.loop-j.at s.rest s.ahead c.loop-j-test.true in
    omega (arith, p.1, c.loop-j.invariant.size)

pub follow-at-requires : goal.follow-at-requires
follow-at-requires g c =
    let (st, h) = c.requires.chain in
    let s = c.loop-j.invariant.storing st h in
    (ahead_pos c.args.self.now.links (chain_of c.args.first st.chains) c.args.sectors c.loop-j.j c.loop-j.at s.rest s.ahead c.loop-j-test.true).1

pub loop-j-preserved : goal.loop-j-preserved
loop-j-preserved g c =
    let counts = counts_next g.B.Backing.calls c.args.backing.now c.loop-j.backing c.write.new.self c.loop-j.invariant.calls c.in_ok-write.ensures.calls in
    record {
      storing = λ st h.
          storing_next g.B.Backing.holds c.args.self.now.links (chain_of c.args.first st.chains) c.args.sectors c.loop-j.j c.loop-j.at c.follow-at.result (map number c.args.from.now) c.pack.result c.args.backing.now c.loop-j.backing c.write.new.self c.loop-j-test.true (c.loop-j.invariant.storing st h) c.in_ok-write.ensures.sets (λ k low. c.pack.ensures k low) c.follow-at.ensures;
      size = c.in_ok-write.ensures.size ∙ c.loop-j.invariant.size;
      faults = omega (arith, c.loop-j.invariant.faults, c.in_ok-write.ensures.cause.later);
      calls = counts.later;
      rose = λ _. counts.rose;
    }
