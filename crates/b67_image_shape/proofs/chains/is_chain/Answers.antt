use Rattle.b67_image_shape.proofs.ChainTests.{chain_of_run, run_of_chain}
use Rattle.std.proofs.Common.{sym, ◌∙◌}
use Rattle.std.proofs.lemmas.Bool.{OnTrue_from, OnFalse_from}
use Rattle.b67_image_shape.proofs.chains.is_chain.Goals as goal

pub returns-then-not-is_head-clause-not : goal.returns-then-not-is_head-clause-not
returns-then-not-is_head-clause-not c = λ h. c.if-not-is_head.ensures.not h.head

pub runs_on-requires-clause-low : goal.runs_on-requires-clause-low
runs_on-requires-clause-low c = c.if-not-is_head.ensures.yes.low

pub runs_on-requires-clause-high : goal.runs_on-requires-clause-high
runs_on-requires-clause-high c = c.if-not-is_head.ensures.yes.high

pub returns-clause-yes : goal.returns-clause-yes
returns-clause-yes c = OnTrue_from c.runs_on.result _ (λ e. chain_of_run c.args.links.now c.args.first c.args.many c.requires.some c.if-not-is_head.ensures.yes (sym e ∙ c.runs_on.ensures))

pub returns-clause-not : goal.returns-clause-not
returns-clause-not c = OnFalse_from c.runs_on.result _ (λ e. run_of_chain c.args.links.now c.args.first c.args.many c.requires.some (sym e ∙ c.runs_on.ensures))
