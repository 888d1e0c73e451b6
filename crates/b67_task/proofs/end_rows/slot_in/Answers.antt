use Rattle.std.proofs.Common.{ℕ, Option, refl, sym, ◌∙◌, ap, arith}
use Rattle.std.specs.Prelude.{unwrap_or, option_map}
use Rattle.b67_task.specs.declared.tables.TaskRow.{TaskRow}
use Rattle.b67_task.specs.LeftRows.{is_of}
use Rattle.b67_task.proofs.Kept.{finds_on, finds_here, finds_none}
use Rattle.b67_task.proofs.end_rows.slot_in.Goals as goal

abbrev slot_told : Option TaskRow → ℕ
slot_told o = unwrap_or (option_map (λ (r : TaskRow). r.slot) o) 255

pub loop-at-init : goal.loop-at-init
loop-at-init c = refl

pub returns-then-is_of : goal.returns-then-is_of
returns-then-is_of c =
    sym (ap slot_told (finds_here (is_of c.args.job c.args.number) c.args.rows.now c.loop-at.at _ (omega (arith, c.loop-at-test.true)) c.loop-at.invariant (sym c.is_of.ensures ∙ c.if-is_of.true)))

pub loop-at-preserved : goal.loop-at-preserved
loop-at-preserved c = finds_on (is_of c.args.job c.args.number) c.args.rows.now c.loop-at.at _ (omega (arith, c.loop-at-test.true)) c.loop-at.invariant (sym c.is_of.ensures ∙ c.if-is_of.false)

pub returns : goal.returns
returns c = sym (ap slot_told (finds_none (is_of c.args.job c.args.number) c.args.rows.now c.loop-at.at (omega (arith, c.loop-at-test.false)) c.loop-at.invariant))
