use Rattle.std.proofs.Common.{refl}
use Rattle.std.proofs.lemmas.Result.{err_from_is_err_and}
use Rattle.b67_image.specs.Reading.{read_parts}
use Rattle.b67_image.proofs.Steps.{fails, then_fails, then_gives}
use Rattle.b67_image.proofs.parts.read_parts.Goals as goal

pub returns-in-Err : goal.returns-in-Err
unfolding read_parts
returns-in-Err c = fails c.in-Err.e _ _ c.in-Err.ensures

pub returns-in_err-regs : goal.returns-in_err-regs
unfolding read_parts
returns-in_err-regs c = let p = err_from_is_err_and c.from_residual.result c.from_residual.ensures.1 in rw (p.1, p.2) (then_fails c.in_err-regs.field-0.0 _ _ _ c.in-Ok.ensures (fails c.in_err-regs.field-0.0 _ _ c.in_err-regs.ensures))

pub returns-in_err-rest : goal.returns-in_err-rest
unfolding read_parts
returns-in_err-rest c = let p = err_from_is_err_and c.from_residual-in_err-rest.result c.from_residual-in_err-rest.ensures.1 in rw (p.1, p.2) (then_fails c.in_err-rest.field-0.0 _ _ _ c.in-Ok.ensures (then_fails c.in_err-rest.field-0.0 _ _ _ c.in_ok-regs.ensures (fails c.in_err-rest.field-0.0 _ _ c.in_err-rest.ensures)))

pub returns-in_err-rest-2 : goal.returns-in_err-rest-2
unfolding read_parts
returns-in_err-rest-2 c = let p = err_from_is_err_and c.from_residual-in_err-rest-2.result c.from_residual-in_err-rest-2.ensures.1 in rw (p.1, p.2) (then_fails c.in_err-rest-2.field-0.0 _ _ _ c.in-Ok.ensures (then_fails c.in_err-rest-2.field-0.0 _ _ _ c.in_ok-regs.ensures (then_fails c.in_err-rest-2.field-0.0 _ _ _ c.in_ok-rest.ensures (fails c.in_err-rest-2.field-0.0 _ _ c.in_err-rest-2.ensures))))

pub returns-in_err-areas : goal.returns-in_err-areas
unfolding read_parts
returns-in_err-areas c = let p = err_from_is_err_and c.from_residual-in_err-areas.result c.from_residual-in_err-areas.ensures.1 in rw (p.1, p.2) (then_fails c.in_err-areas.field-0.0 _ _ _ c.in-Ok.ensures (then_fails c.in_err-areas.field-0.0 _ _ _ c.in_ok-regs.ensures (then_fails c.in_err-areas.field-0.0 _ _ _ c.in_ok-rest.ensures (then_fails c.in_err-areas.field-0.0 _ _ _ c.in_ok-rest-2.ensures (fails c.in_err-areas.field-0.0 _ _ c.in_err-areas.ensures)))))

pub returns-in_err-counts : goal.returns-in_err-counts
unfolding read_parts
returns-in_err-counts c = let p = err_from_is_err_and c.from_residual-in_err-counts.result c.from_residual-in_err-counts.ensures.1 in rw (p.1, p.2) (then_fails c.in_err-counts.field-0.0 _ _ _ c.in-Ok.ensures (then_fails c.in_err-counts.field-0.0 _ _ _ c.in_ok-regs.ensures (then_fails c.in_err-counts.field-0.0 _ _ _ c.in_ok-rest.ensures (then_fails c.in_err-counts.field-0.0 _ _ _ c.in_ok-rest-2.ensures (then_fails c.in_err-counts.field-0.0 _ _ _ c.in_ok-areas.ensures (then_fails c.in_err-counts.field-0.0 _ _ _ c.in-Ok-read_links.ensures (fails c.in_err-counts.field-0.0 _ _ c.in_err-counts.ensures)))))))

pub returns-in_err-rows : goal.returns-in_err-rows
unfolding read_parts
returns-in_err-rows c = let p = err_from_is_err_and c.from_residual-in_err-rows.result c.from_residual-in_err-rows.ensures.1 in rw (p.1, p.2) (then_fails c.in_err-rows.field-0.0 _ _ _ c.in-Ok.ensures (then_fails c.in_err-rows.field-0.0 _ _ _ c.in_ok-regs.ensures (then_fails c.in_err-rows.field-0.0 _ _ _ c.in_ok-rest.ensures (then_fails c.in_err-rows.field-0.0 _ _ _ c.in_ok-rest-2.ensures (then_fails c.in_err-rows.field-0.0 _ _ _ c.in_ok-areas.ensures (then_fails c.in_err-rows.field-0.0 _ _ _ c.in-Ok-read_links.ensures (then_fails c.in_err-rows.field-0.0 _ _ _ c.in_ok-counts.ensures (then_fails c.in_err-rows.field-0.0 _ _ _ c.in-Ok-read_switches.ensures (then_fails c.in_err-rows.field-0.0 _ _ _ c.in-Ok-read_jobs.ensures (fails c.in_err-rows.field-0.0 _ _ c.in_err-rows.ensures))))))))))

pub returns : goal.returns
unfolding read_parts
returns c = then_gives _ _ _ _ c.in-Ok.ensures (then_gives _ _ _ _ c.in_ok-regs.ensures (then_gives _ _ _ _ c.in_ok-rest.ensures (then_gives _ _ _ _ c.in_ok-rest-2.ensures (then_gives _ _ _ _ c.in_ok-areas.ensures (then_gives _ _ _ _ c.in-Ok-read_links.ensures (then_gives _ _ _ _ c.in_ok-counts.ensures (then_gives _ _ _ _ c.in-Ok-read_switches.ensures (then_gives _ _ _ _ c.in-Ok-read_jobs.ensures (then_gives _ _ _ _ c.in_ok-rows.ensures (refl))))))))))

pub returns-in-Err-read_links : goal.returns-in-Err-read_links
unfolding read_parts
returns-in-Err-read_links c = then_fails c.in-Err-read_links.e _ _ _ c.in-Ok.ensures (then_fails c.in-Err-read_links.e _ _ _ c.in_ok-regs.ensures (then_fails c.in-Err-read_links.e _ _ _ c.in_ok-rest.ensures (then_fails c.in-Err-read_links.e _ _ _ c.in_ok-rest-2.ensures (then_fails c.in-Err-read_links.e _ _ _ c.in_ok-areas.ensures (fails c.in-Err-read_links.e _ _ c.in-Err-read_links.ensures)))))

pub returns-in-Err-read_jobs : goal.returns-in-Err-read_jobs
unfolding read_parts
returns-in-Err-read_jobs c = then_fails c.in-Err-read_jobs.e _ _ _ c.in-Ok.ensures (then_fails c.in-Err-read_jobs.e _ _ _ c.in_ok-regs.ensures (then_fails c.in-Err-read_jobs.e _ _ _ c.in_ok-rest.ensures (then_fails c.in-Err-read_jobs.e _ _ _ c.in_ok-rest-2.ensures (then_fails c.in-Err-read_jobs.e _ _ _ c.in_ok-areas.ensures (then_fails c.in-Err-read_jobs.e _ _ _ c.in-Ok-read_links.ensures (then_fails c.in-Err-read_jobs.e _ _ _ c.in_ok-counts.ensures (then_fails c.in-Err-read_jobs.e _ _ _ c.in-Ok-read_switches.ensures (fails c.in-Err-read_jobs.e _ _ c.in-Err-read_jobs.ensures))))))))

pub returns-in-Err-read_switches : goal.returns-in-Err-read_switches
unfolding read_parts
returns-in-Err-read_switches c = then_fails c.in-Err-read_switches.e _ _ _ c.in-Ok.ensures (then_fails c.in-Err-read_switches.e _ _ _ c.in_ok-regs.ensures (then_fails c.in-Err-read_switches.e _ _ _ c.in_ok-rest.ensures (then_fails c.in-Err-read_switches.e _ _ _ c.in_ok-rest-2.ensures (then_fails c.in-Err-read_switches.e _ _ _ c.in_ok-areas.ensures (then_fails c.in-Err-read_switches.e _ _ _ c.in-Ok-read_links.ensures (then_fails c.in-Err-read_switches.e _ _ _ c.in_ok-counts.ensures (fails c.in-Err-read_switches.e _ _ c.in-Err-read_switches.ensures)))))))
