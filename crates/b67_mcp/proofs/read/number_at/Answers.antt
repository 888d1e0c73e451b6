use Rattle.std.proofs.Common.{◌<◌, ◌^◌, length, refl, sym, subst}
use Rattle.std.proofs.lemmas.Option.{get_or_from_slice_get}
use Rattle.b67_layout.specs.Rows.{JobShows}
use Rattle.b67_mcp.specs.Reads.{ReadSome, ReadMeets}
use Rattle.b67_task.specs.declared.tables.JobRow.{JobRow}
use Rattle.b67_task.specs.Tables.{job_row}
use Rattle.b67_mcp.proofs.read.number_at.Goals as goal

pub read_number-requires-clause-call : goal.read_number-requires-clause-call
read_number-requires-clause-call c =
    let (row, at, some, few) = c.requires in
    subst (λ (r : JobRow). ReadSome c.args.cpu.now r) (sym (get_or_from_slice_get c.args.rows.now c.args.at row c.index-rows-at.result at)) some

pub read_number-requires-clause-few : goal.read_number-requires-clause-few
read_number-requires-clause-few c =
    let (row, at, some, few) = c.requires in
    subst (λ (r : JobRow). length r.numbers < 2 ^ 32) (sym (get_or_from_slice_get c.args.rows.now c.args.at row c.index-rows-at.result at)) few

pub returns : goal.returns
returns c = λ row at. record {
  new = c.read_number.new.job;
  is = refl;
  takes = λ x plan s m t o h runs reference arguments call.
      (let P : JobRow → Type 0 = λ z. JobShows plan m (job_row z) → ReadMeets plan m t arguments z c.read_number.new.job c.read_number.result in
      subst P (get_or_from_slice_get c.args.rows.now c.args.at row c.index-rows-at.result at) (c.read_number.ensures.row x plan s m t o h runs reference arguments call));
}
