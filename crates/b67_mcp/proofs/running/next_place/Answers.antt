use Rattle.std.proofs.Common.{◌≡◌, refl, sym, subst, arith}
use Rattle.b67_word.specs.declared.couples.Place.{Place}
use Rattle.b67_ctl.specs.Layout.{IsPlace}
use Rattle.b67_model.specs.declared.operators.Op.TheVariants.{Plain}
use Rattle.b67_model.specs.declared.operators.Code.TheVariants.{Entr}
use Rattle.b67_model.specs.Common.{code_of}
use Rattle.b67_layout.proofs.Fresh.{running_in_order}
use Rattle.b67_task.specs.declared.tables.Machine.{Machine}
use Rattle.b67_mcp.specs.Running.{StandsAtEntr}
use Rattle.b67_mcp.proofs.Behind.{behind_fits, one_on, IsOneOn}
use Rattle.b67_mcp.proofs.running.next_place.Goals as goal

-- a place, and one that is a syllable behind it and fits
record Behind (at : Place) : Type 0 where
  next : Place
  one : IsOneOn at next
  fits : IsPlace next

context : (k : Machine) → StandsAtEntr k → Behind k.cpu.regs.place
context k q =
    let r = q.runs in
    let m = r.member in
    let t = r.task in
    record {
      next = q.next;
      one = subst (λ (p : Place). IsOneOn p q.next) (sym (r.stands.session.holds.running m t r.running).place) (one_on (code_of m.constants t.segment) t.place Entr q.next q.behind);
      fits = behind_fits m.constants t (Plain Entr) q.next (running_in_order r.plan r.session m t r.ordered r.running).0.unchanging (sym q.behind);
    }

-- one place alone is a syllable behind another
same_one : (at p q : Place) → IsOneOn at p → IsOneOn at q → p ≡ q
same_one at p q a b =
    let word : p.word ≡ q.word = omega (arith, a.count, a.next_in_word, b.count, b.next_in_word) in
    let syllable : p.syllable ≡ q.syllable = omega (arith, a.count, a.next_in_word, b.count, b.next_in_word) in
    rw (word, syllable) refl

pub one_behind-requires-clause-in_word : goal.one_behind-requires-clause-in_word
one_behind-requires-clause-in_word c = (context c.args.machine.now c.requires).one.in_word

pub one_behind-requires-clause-fits : goal.one_behind-requires-clause-fits
one_behind-requires-clause-fits c = let b = context c.args.machine.now c.requires in omega (arith, b.one.count, b.one.next_in_word, b.one.in_word, b.fits.word)

pub returns-clause-place : goal.returns-clause-place
returns-clause-place c =
    let b = context c.args.machine.now c.requires in
    let made : IsOneOn c.args.machine.now.cpu.regs.place c.one_behind.result = record { in_word = b.one.in_word; next_in_word = c.one_behind.ensures.in_word; count = c.one_behind.ensures.count } in
    subst IsPlace (same_one c.args.machine.now.cpu.regs.place b.next c.one_behind.result b.one made) b.fits

pub returns-clause-behind : goal.returns-clause-behind
returns-clause-behind c = λ x told plan s m t o h runs code next behind.
    (let at = c.args.machine.now.cpu.regs.place in
    let one = subst (λ (p : Place). IsOneOn p next) (sym (h.session.holds.running m t runs).place) (one_on (code_of m.constants t.segment) t.place Entr next behind) in
    let made : IsOneOn at c.one_behind.result = record { in_word = one.in_word; next_in_word = c.one_behind.ensures.in_word; count = c.one_behind.ensures.count } in
    same_one at c.one_behind.result next made one)
