use Rattle.std.proofs.Common.{List, length, ap, ◌∙◌, slice_set}
use Rattle.std.specs.List.{slice_get}
use Rattle.b67_task.specs.declared.tables.JobRow.{JobRow}
use Rattle.b67_mcp.proofs.read.take_number.Goals as goal
use Rattle.b67_lemmas.proofs.Places.{came_back}

pub returns-clause-takes : goal.returns-clause-takes
returns-clause-takes c = λ row at.
    let jobs = c.args.tasks.now.jobs in
    let same = c.as_mut_slice.ensures.value in
    let did = c.number_at.ensures row (ap (λ (l : List JobRow). slice_get l c.args.at) same ∙ at) in
    record {
      new = did.new;
      is = came_back jobs c.number_at.new.rows (c.number_at.auto.rows ∙ ap length same) ∙ did.is ∙ ap (λ (l : List JobRow). slice_set l c.args.at did.new) same;
      takes = did.takes;
    }
