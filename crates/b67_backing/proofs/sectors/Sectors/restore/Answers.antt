use Rattle.std.proofs.Common.{◌≡◌, ◌+◌, ◌*◌, ◌∙◌, arith, sym, ap, refl, inl, inr, ⊎_elim, ◌-◌}
use Rattle.std.specs.List.{slice_get}
use Rattle.std.proofs.lemmas.Bool.{cases_lt}
use Rattle.b67_backing.specs.Shelf.{chain_of}
use Rattle.b67_backing.specs.Held.{sectors_for}
use Rattle.b67_backing.proofs.Stores.{ahead_pos, counts_next, becomes_next, restoring_first, restoring_next}
use Rattle.b67_backing.proofs.sectors.Sectors.restore.Goals as goal

pub loop-j-init : goal.loop-j-init
loop-j-init g c = record {
  restoring = λ st h. restoring_first g.B.Backing.holds c.args.self.now c.args.first st (sectors_for c.args.words) c.args.tag c.args.words c.args.at c.args.core.now c.args.backing.now h (omega (arith, c.requires.some));
  tags = λ i z _. absurd (omega arith);
  low = λ i z _. absurd (omega arith);
  outside = λ i o. refl;
  len = refl;
  same = record { told = λ x e. e };
  size = refl;
  faults = omega arith;
  calls = omega arith;
  rose = λ h. absurd (omega arith);
}

pub read-requires-clause-high : goal.read-requires-clause-high
read-requires-clause-high g c =
    let (st, h) = c.requires.chain in
    let s = c.loop-j.invariant.restoring st h in
    let p = ahead_pos c.args.self.now.links (chain_of c.args.first st.chains) (sectors_for c.args.words) c.loop-j.j c.loop-j.from s.rest s.ahead (omega (arith, c.loop-j-test.true, c.sectors_needed-j-end.ensures)) in
    omega (arith, p.1, c.loop-j.invariant.size)

pub follow-from-requires : goal.follow-from-requires
follow-from-requires g c =
    let (st, h) = c.requires.chain in
    let s = c.loop-j.invariant.restoring st h in
    (ahead_pos c.args.self.now.links (chain_of c.args.first st.chains) (sectors_for c.args.words) c.loop-j.j c.loop-j.from s.rest s.ahead (omega (arith, c.loop-j-test.true, c.sectors_needed-j-end.ensures))).1

pub loop-j-preserved : goal.loop-j-preserved
loop-j-preserved g c =
    let counts = counts_next g.B.Backing.calls c.args.backing.now c.loop-j.backing c.read.new.self c.loop-j.invariant.calls c.in_ok-read.ensures.calls in
    record {
      restoring = λ st h.
          restoring_next g.B.Backing.holds c.args.self.now.links (chain_of c.args.first st.chains) (sectors_for c.args.words) c.loop-j.j c.loop-j.from c.follow-from.result c.args.tag c.args.words c.args.at c.loop-j.core c.unpack.new.core c.min-n.result c.read.new.into c.args.backing.now c.loop-j.backing c.read.new.self (omega (arith, c.loop-j-test.true, c.sectors_needed-j-end.ensures)) (c.loop-j.invariant.restoring st h) c.loop-j.invariant.same c.in_ok-read.ensures.gives c.min-n.ensures c.unpack.ensures.value c.unpack.ensures.outside c.follow-from.ensures;
      tags = λ i low inside. ⊎_elim
          (λ l. let (w, is, t) = c.loop-j.invariant.tags i l inside in (w, c.unpack.ensures.outside (c.args.at + i) (inl (omega arith)) ∙ is, t))
          (λ l.
          let there : c.args.at + 30 * c.loop-j.j + (i - 30 * c.loop-j.j) ≡ c.args.at + i = omega arith in
          let (w, is, t) = c.unpack.ensures.tags (i - 30 * c.loop-j.j) (omega (arith, c.min-n.ensures)) in
          (w, ap (slice_get c.unpack.new.core) (sym there) ∙ is, t))
          (cases_lt i (30 * c.loop-j.j));
      low = λ i at inside. ⊎_elim
          (λ l. let (w, is, t) = c.loop-j.invariant.low i l inside in (w, c.unpack.ensures.outside (c.args.at + i) (inl (omega arith)) ∙ is, t))
          (λ l.
          let there : c.args.at + 30 * c.loop-j.j + (i - 30 * c.loop-j.j) ≡ c.args.at + i = omega arith in
          let (w, is, t) = c.unpack.ensures.low (i - 30 * c.loop-j.j) (omega (arith, c.min-n.ensures)) in
          (w, ap (slice_get c.unpack.new.core) (sym there) ∙ is, t))
          (cases_lt i (30 * c.loop-j.j));
      outside = λ i o. c.unpack.ensures.outside i (⊎_elim (λ l. inl (omega arith)) (λ l. inr (omega (arith, c.loop-j-test.true, c.sectors_needed-j-end.ensures, c.min-n.ensures))) o) ∙ c.loop-j.invariant.outside i o;
      len = c.unpack.ensures.len ∙ c.loop-j.invariant.len;
      same = becomes_next g.B.Backing.holds c.args.backing.now c.loop-j.backing c.read.new.self c.loop-j.invariant.same c.in_ok-read.ensures.same;
      size = c.in_ok-read.ensures.size ∙ c.loop-j.invariant.size;
      faults = omega (arith, c.loop-j.invariant.faults, c.in_ok-read.ensures.cause.later);
      calls = counts.later;
      rose = λ _. counts.rose;
    }
