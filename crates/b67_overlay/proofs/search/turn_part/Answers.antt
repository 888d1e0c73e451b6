use Rattle.std.proofs.Common.{◌<◌, ◌≤◌, arith, inl, inr, ⊎_elim, ◌∙◌}
use Rattle.std.proofs.lemmas.Bool.{cases_lt}
use Rattle.b67_overlay.proofs.Turning.{turned-more, others-more}
use Rattle.b67_overlay.proofs.search.turn_part.Goals as goal

pub loop-i-preserved : goal.loop-i-preserved
loop-i-preserved c =
    let m = c.loop-i.invariant in
    record {
      size = c.set.ensures.len ∙ m.size;
      turned = rw c.set.ensures.value (turned-more c.args.area c.args.original c.args.core.now c.loop-i.core c.args.from c.loop-i.i c.get-w.result c.made_absent.result m.size (omega (arith, m.size, c.requires.inside)) c.get-w.ensures c.made_absent.ensures m.turned m.others);
      others = rw c.set.ensures.value (others-more c.args.area c.args.original c.args.core.now c.loop-i.core c.args.from c.loop-i.i c.made_absent.result (omega arith) m.others);
    }

pub returns-clause-others : goal.returns-clause-others
returns-clause-others c = λ i out. c.loop-i.invariant.others i (⊎_elim
    (λ (a : i < c.args.from). inl a)
    (λ (a : c.args.upto ≤ i). ⊎_elim (λ (b : i < c.args.from). inl b) (λ (b : c.args.from ≤ i). inr (omega arith)) (cases_lt i c.args.from))
    out)
