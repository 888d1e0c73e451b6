use Rattle.std.proofs.Common.{arith, refl, sym, ◌∙◌, map}
use Rattle.std.proofs.lemmas.List.{at_drop_all}
use Rattle.b67_task.specs.Tables.{job_row}
use Rattle.b67_image_shape.specs.ObjectTable.{mark_in_dictionary}
use Rattle.b67_image_shape.proofs.TableTurns.{entry_later, entry_found, segment_here, data_here}
use Rattle.b67_image_shape.proofs.table.mark_in_dictionary.Goals as goal

pub each-init : goal.each-init
each-init c = refl

pub returns-then-from : goal.returns-then-from
returns-then-from c = entry_found c.args.jobs.now c.args.at c.each.i 3 c.index-jobs-i.result c.each-test.true c.each.invariant c.index-jobs-i.is (sym c.has_entry_at.ensures ∙ c.if-has_entry_at.true) (segment_here c.index-jobs-i.result c.args.at (omega (arith, c.if-from.true, c.from.ensures, c.from-then-has_entry_at.ensures, c.from-then-has_entry_at-2.ensures)))

pub returns-then-has_entry_at : goal.returns-then-has_entry_at
returns-then-has_entry_at c = entry_found c.args.jobs.now c.args.at c.each.i 2 c.index-jobs-i.result c.each-test.true c.each.invariant c.index-jobs-i.is (sym c.has_entry_at.ensures ∙ c.if-has_entry_at.true) (data_here c.index-jobs-i.result c.args.at (omega (arith, c.if-from.false, c.from.ensures, c.from-then-has_entry_at.ensures, c.from-then-has_entry_at-2.ensures)))

pub each-preserved : goal.each-preserved
each-preserved c = entry_later c.args.jobs.now c.args.at c.each.i c.index-jobs-i.result c.each-test.true c.each.invariant c.index-jobs-i.is (sym c.has_entry_at.ensures ∙ c.if-has_entry_at.false)

pub returns : goal.returns
returns c = sym (c.each.invariant ∙ at_drop_all (λ xs. mark_in_dictionary (map job_row xs) c.args.at) c.args.jobs.now c.each.i (omega (arith, c.each-test.false)))
