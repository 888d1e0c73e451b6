use Rattle.std.proofs.Common.{◌≡◌, ◌+◌, ℕ, suc, List, take, sym, ◌∙◌, ap, arith}
use Rattle.std.specs.List.{list_any}
use Rattle.b67_model.specs.Words.{Word}
use Rattle.b67_model.specs.Intrinsics.{is_original}
use Rattle.b67_lemmas.proofs.Members.{any_some}
use Rattle.b67_layout.specs.Tops.{cells}
use Rattle.b67_mcp.proofs.FirstWords.{split_at, none_more}
use Rattle.b67_mcp.proofs.process_asked.any_original.Goals as goal

pub cell_under-w-requires : goal.cell_under-w-requires
cell_under-w-requires c = record { runs = c.requires.runs; enough = omega (arith, c.requires.enough, c.loop-above-test.true) }

pub is_original-requires : goal.is_original-requires
is_original-requires c =
    let q = c.requires.runs in
    let p = split_at (cells q.task) c.loop-above.above (omega (arith, c.requires.enough, c.loop-above-test.true)) in
    record { runs = q; word = p.item; followed = c.cell_under-w.ensures q.storage q.plan q.session q.member q.task q.ordered q.stands q.running p.before p.rest p.item p.is p.length_is }

pub returns-then-is_original : goal.returns-then-is_original
returns-then-is_original c = λ x plan s m t o h runs enough.
    let low = c.loop-above-test.true in
    let p = split_at (cells t) c.loop-above.above (omega (arith, enough, low)) in
    let is = c.is_original.ensures x plan s m t o h runs p.item (c.cell_under-w.ensures x plan s m t o h runs p.before p.rest p.item p.is p.length_is) in
    sym (any_some is_original (take c.args.count (cells t)) p.item (p.inside c.args.count low) (sym is ∙ c.if-is_original.true))

pub loop-above-preserved : goal.loop-above-preserved
loop-above-preserved c = λ x plan s m t o h runs enough.
    let low = c.loop-above-test.true in
    let p = split_at (cells t) c.loop-above.above (omega (arith, enough, low)) in
    let is = c.is_original.ensures x plan s m t o h runs p.item (c.cell_under-w.ensures x plan s m t o h runs p.before p.rest p.item p.is p.length_is) in
    let before = c.loop-above.invariant x plan s m t o h runs enough in
    let next : c.loop-above.above + 1 ≡ suc c.loop-above.above = omega arith in
    ap (λ (n : ℕ). list_any is_original (take n (cells t))) next ∙ ap (λ (ws : List Word). list_any is_original ws) p.next ∙ none_more is_original (take c.loop-above.above (cells t)) p.item before (sym is ∙ c.if-is_original.false)

pub returns : goal.returns
returns c = λ x plan s m t o h runs enough.
    let before = c.loop-above.invariant x plan s m t o h runs enough in
    let end : c.loop-above.above ≡ c.args.count = omega (arith, c.loop-above.auto.above-end, c.loop-above-test.false) in
    sym (ap (λ (n : ℕ). list_any is_original (take n (cells t))) (sym end) ∙ before)
