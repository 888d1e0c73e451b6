use Rattle.std.proofs.Common.{◌≡◌, ℕ, ◌<◌, arith, ◌∙◌, ap, subst}
use Rattle.b67_stack.specs.declared.Cpu.{Cpu}
use Rattle.b67_task.specs.Released.{HasHome, SomeRemain}
use Rattle.b67_task.proofs.Remaining.{Remains-then, remains_all}
use Rattle.b67_task.proofs.release_words.release_words.Goals as goal

pub release_word-requires-clause-left : goal.release_word-requires-clause-left
release_word-requires-clause-left c =
    let (x, told, p, left, m, l) = c.requires.left in
    let (y, rest, my, r) = c.loop-at.invariant.stands x told p left m l in
    (y, told, p, rest, c.args.upto, my, r.still, omega arith)

pub release_word-requires-clause-inside : goal.release_word-requires-clause-inside
release_word-requires-clause-inside c =
    let (x, told, p, left, m, l) = c.requires.left in
    let (y, rest, my, r) = c.loop-at.invariant.stands x told p left m l in
    omega (arith, c.loop-at-test.true, r.still.high, my.stands.slots.laid.low, my.stands.inside)

pub loop-at-preserved : goal.loop-at-preserved
loop-at-preserved c =
    let v = c.loop-at.invariant in
    record {
      rest = c.release_word.ensures.rest ∙ ap (λ (z : Cpu). let w : Cpu = record z { core = c.release_word.new.cpu.core } in w) v.rest;
      len = c.release_word.ensures.len ∙ v.len;
      areas = c.release_word.ensures.areas ∙ v.areas;
      count = c.release_word.ensures.count ∙ v.count;
      stands = λ x told p left m l.
          let (y, rest, my, r) = c.loop-at.invariant.stands x told p left m l in
          let (z, more, mz, q) = c.release_word.ensures.stands y told p rest c.args.upto my r.still (omega arith) in
          (z, more, mz, Remains-then x y z p c.args.cpu.now.core c.loop-at.cpu.core c.release_word.new.cpu.core c.loop-at.at c.args.upto left rest more r q);
    }

pub returns-clause-stands : goal.returns-clause-stands
returns-clause-stands c = λ x told p left m l.
    let (y, rest, my, r) = c.loop-at.invariant.stands x told p left m l in
    let e : c.loop-at.at ≡ c.args.upto = omega (arith, c.loop-at-test.false, c.requires.order) in
    let P : ℕ → Type 0 = λ n. SomeRemain (λ home. (home < n) × HasHome left home) x y p c.args.cpu.now.core c.loop-at.cpu.core n c.args.upto left rest in
    let a = remains_all x y c.loop-at.cpu c.loop-at.areas c.loop-at.sectors told p c.args.cpu.now.core c.args.from c.args.upto left rest l my (subst P e r) in
    (y, a.0, a.1, a.2)
