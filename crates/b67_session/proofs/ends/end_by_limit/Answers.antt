use Rattle.std.proofs.Common.{List, ℕ, refl, ap, subst}
use Rattle.std.proofs.lemmas.Result.{err_from_is_err_and}
use Rattle.b67_session_lines.specs.Parts.{TookRest, TookMore}
use Rattle.b67_task.specs.declared.tables.Tasks.{Tasks}
use Rattle.b67_session.proofs.Closed.{keeps_rows}
use Rattle.b67_session.proofs.ByLimit.{has_head, job_lives, text_by, after_part, stands_reprinted}
use Rattle.b67_session.proofs.ends.end_by_limit.Goals as goal

pub live_of-live-requires : goal.live_of-live-requires
live_of-live-requires g c = let r = c.requires in let b = r.between in has_head b.storage b.told c.args.machine.now b.plan b.session r.part b.ordered r.is_due b.stands

pub end_job-requires : goal.end_job-requires
end_job-requires g c = let r = c.requires in let b = r.between in job_lives b.storage b.told c.args.machine.now b.plan b.session r.part b.ordered r.is_due b.stands c.put_endings.new.printed

pub returns-clause-ends : goal.returns-clause-ends
returns-clause-ends g c = λ x told plan h part o is stands. (
  subst (λ (l : List ℕ). TookRest g.K.Sink.taken c.args.paper.now c.put_endings.new.paper l c.args.machine.now.tasks.printed)
      (text_by x told c.args.machine.now plan h part o is stands c.live_of-live.result.items c.as_slice.result.now c.all_ended-ended.result.items c.as_slice-2.result.now c.live_of-live.ensures c.as_slice.ensures.value c.as_slice-2.ensures.value c.all_ended-ended.ensures)
      c.in_ok-put_endings.ensures.whole,
  refl,
  stands_reprinted x told c.end_job.new.machine plan h part.session 0 (after_part x told c.args.machine.now plan h part o is stands c.end_job.new.machine c.put_endings.new.printed c.end_job.ensures.stands),
)

pub returns-in_err-put_endings-clause-ends : goal.returns-in_err-put_endings-clause-ends
returns-in_err-put_endings-clause-ends g c =
    let p = err_from_is_err_and c.from_residual.result c.from_residual.ensures.1 in
    rw p.1 (λ x told plan h part o is stands. (
      subst (λ (l : List ℕ). TookMore g.K.Sink.taken c.args.paper.now c.put_endings.new.paper l c.args.machine.now.tasks.printed c.put_endings.new.printed)
          (text_by x told c.args.machine.now plan h part o is stands c.live_of-live.result.items c.as_slice.result.now c.all_ended-ended.result.items c.as_slice-2.result.now c.live_of-live.ensures c.as_slice.ensures.value c.as_slice-2.ensures.value c.all_ended-ended.ensures)
          c.in_err-put_endings.ensures.part,
      refl,
    ))

pub returns-clause-keeps : goal.returns-clause-keeps
returns-clause-keeps g c =
    keeps_rows c.args.machine.now (record c.end_job.new.machine { tasks = record c.end_job.new.machine.tasks { printed = 0 } }) 0
    (ap (λ (z : Tasks). record z { printed = 0 }) c.end_job.ensures.tasks) c.end_job.ensures.len c.end_job.ensures.count

pub returns-in_err-put_endings-clause-keeps : goal.returns-in_err-put_endings-clause-keeps
returns-in_err-put_endings-clause-keeps g c = keeps_rows c.args.machine.now (record c.args.machine.now { tasks = record c.args.machine.now.tasks { printed = c.put_endings.new.printed } }) c.put_endings.new.printed refl refl refl
