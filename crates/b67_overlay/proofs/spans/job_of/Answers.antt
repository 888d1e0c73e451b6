use Rattle.std.proofs.Common.{◌^◌, ◌<◌, arith, refl, sym, ◌∙◌}
use Rattle.b67_overlay.proofs.Families.{next_dictionary, job_found}
use Rattle.b67_overlay.proofs.spans.job_of.Goals as goal

pub dictionaries-init : goal.dictionaries-init
dictionaries-init c = record { small = omega arith; each = λ p f s top low. (f.entries, s.dictionaries, refl) }

pub entries_at-requires-clause-inside : goal.entries_at-requires-clause-inside
entries_at-requires-clause-inside c =
    let (p, f, s, top, low) = c.requires.inside in
    let m = c.dictionaries.invariant.each p f s top low in
    let n = next_dictionary c.args.core.now p.stacks c.dictionaries.at c.dictionaries.job c.args.address m.0 m.1 c.dictionaries-test.true low in
    omega (arith, n.up, top)

pub overflow_add-at : goal.overflow_add-at
overflow_add-at c = omega (arith, c.entries_at.ensures.small)

pub overflow_add-at-in-dictionaries : goal.overflow_add-at-in-dictionaries
overflow_add-at-in-dictionaries c =
    let (p, f, s, top, low) = c.requires.inside in
    omega (arith, c.entries_at.ensures.small, c.dictionaries-test.true, low, top, c.requires.small)

pub overflow_add-job : goal.overflow_add-job
overflow_add-job c =
    let (p, f, s, top, low) = c.requires.inside in
    omega (arith, c.dictionaries.invariant.small, c.dictionaries-test.true, low, top, c.requires.small)

pub dictionaries-smaller : goal.dictionaries-smaller
dictionaries-smaller c = omega (arith, c.dictionaries-test.true)

pub dictionaries-preserved : goal.dictionaries-preserved
dictionaries-preserved c = record {
  small = omega (arith, c.dictionaries.invariant.small);
  each = λ p f s top low.
      let m = c.dictionaries.invariant.each p f s top low in
      let n = next_dictionary c.args.core.now p.stacks c.dictionaries.at c.dictionaries.job c.args.address m.0 m.1 c.dictionaries-test.true low in
      let few : n.entries < 2 ^ 20 = omega (arith, n.up, c.requires.small, top) in
      rw (c.entries_at.ensures.value n.entries few n.read) (n.more, n.lie, m.2 ∙ n.counted);
}

pub returns : goal.returns
returns c = λ p f s top low.
    let m = c.dictionaries.invariant.each p f s top low in
    sym (m.2 ∙ job_found c.dictionaries.at c.dictionaries.job c.args.address m.0 (omega (arith, c.dictionaries-test.false)))
