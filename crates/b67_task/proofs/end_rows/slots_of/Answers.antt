use Rattle.std.proofs.Common.{ℕ, ◌+◌, ◌<◌, ◌++◌, List, [], ◌∷◌, length, map, drop, ap, ◌∙◌, arith}
use Rattle.b67_word.specs.declared.faults.Ending.{Ending}
use Rattle.b67_task.proofs.EndContext.{one_more, all_done}
use Rattle.b67_task.specs.LeftRows.{slot_shown}
use Rattle.b67_task.proofs.end_rows.slots_of.Goals as goal

pub loop-at-init : goal.loop-at-init
loop-at-init c = (
  ap (λ (l : List ℕ). length l) c.new-slots.ensures,
  ap (λ (l : List ℕ). l ++ map (λ (e : ℕ × Ending). slot_shown c.args.job e.0 c.args.rows.now) c.args.list.now) c.new-slots.ensures,
)

pub push-requires : goal.push-requires
push-requires c =
    let room : length c.loop-at.slots.items < 15 = omega (arith, c.loop-at.invariant.0, c.loop-at-test.true, c.requires.list) in
    (omega arith, room)

pub loop-at-preserved : goal.loop-at-preserved
loop-at-preserved c = (
  c.push.ensures.len ∙ ap (λ (n : ℕ). n + 1) c.loop-at.invariant.0,
  ap (λ (l : List ℕ). l ++ map (λ (e : ℕ × Ending). slot_shown c.args.job e.0 c.args.rows.now) (drop (c.loop-at.at + 1) c.args.list.now))
      (c.push.ensures.items ∙ ap (λ (k : ℕ). c.loop-at.slots.items ++ k ∷ []) c.slot_in.ensures)
      ∙ one_more (λ (e : ℕ × Ending). slot_shown c.args.job e.0 c.args.rows.now) c.args.list.now c.loop-at.slots.items c.loop-at.at _ (omega (arith, c.loop-at-test.true)) c.loop-at.invariant.1,
)

pub returns : goal.returns
returns c = all_done (λ (e : ℕ × Ending). slot_shown c.args.job e.0 c.args.rows.now) c.args.list.now c.loop-at.slots.items c.loop-at.at (omega (arith, c.loop-at-test.false)) c.loop-at.invariant.1
