use Rattle.std.proofs.Common.{sym, inl, subst}
use Rattle.b67_area.specs.declared.Kind.{Kind}
use Rattle.b67_image_shape.specs.Chains.{IsSectorChain}
use Rattle.b67_image_shape.specs.ObjectMarks.{HasChainOr}
use Rattle.b67_image_shape.proofs.Deciding.{on_true, on_false}
use Rattle.b67_image_shape.proofs.ObjectTurns.{row_needs, code_needs, chain_or, or_chain, sectors_some}
use Rattle.b67_image_shape.proofs.objects.has_chain.Goals as goal

pub returns-in-Array-clause-yes : goal.returns-in-Array-clause-yes
returns-in-Array-clause-yes c = subst (λ (k : Kind). HasChainOr c.args.links.now k c.args.first c.args.words) (sym c.in-Array.is) (inl c.if-first-eq0.true)

pub returns-in-Row-clause-not : goal.returns-in-Row-clause-not
returns-in-Row-clause-not c = λ h. row_needs c.args.links.now c.args.first c.args.words c.if-first-eq0.true (subst (λ (k : Kind). HasChainOr c.args.links.now k c.args.first c.args.words) c.in-Row.is h)

pub returns-in-Code-clause-not : goal.returns-in-Code-clause-not
returns-in-Code-clause-not c = λ h. code_needs c.args.links.now c.args.first c.args.words c.if-first-eq0.true (subst (λ (k : Kind). HasChainOr c.args.links.now k c.args.first c.args.words) c.in-Code.is h)

pub is_chain-requires-clause-some : goal.is_chain-requires-clause-some
is_chain-requires-clause-some c = sectors_some c.args.words c.sectors_needed.result c.requires.some c.sectors_needed.ensures

pub returns-clause-yes : goal.returns-clause-yes
returns-clause-yes c = on_true c.is_chain.result (λ h. chain_or c.args.links.now c.args.kind c.args.first c.args.words (subst (IsSectorChain c.args.links.now c.args.first) c.sectors_needed.ensures h)) c.is_chain.ensures.yes

pub returns-clause-not : goal.returns-clause-not
returns-clause-not c = on_false c.is_chain.result (λ never h. never (subst (IsSectorChain c.args.links.now c.args.first) (sym c.sectors_needed.ensures) (or_chain c.args.links.now c.args.kind c.args.first c.args.words c.if-first-eq0.false h))) c.is_chain.ensures.not
