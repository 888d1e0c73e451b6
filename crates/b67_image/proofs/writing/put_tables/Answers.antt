use Rattle.std.proofs.Common.{◌∷◌, [], ◌∙◌, ap, subst, Ok}
use Rattle.b67_image.specs.Parts.{told_counts}
use Rattle.b67_image.specs.Spelling.{listed_bytes, counts_bytes, switch_bytes, job_bytes, task_row_bytes}
use Rattle.b67_image.specs.Punching.{Punched}
use Rattle.b67_image.proofs.Fields.{first_ok, field_ok, first_err, field_err, four}
use Rattle.b67_image.proofs.writing.put_tables.Goals as goal

pub returns-in_err-punch-clause-row : goal.returns-in_err-punch-clause-row
returns-in_err-punch-clause-row g c =
    subst (Punched g.K.Sink.taken c.args.sink.now c.punch.new.sink c.args.hand.now c.punch.new.self c.from_residual.result) (four (counts_bytes (told_counts c.args.machine.now.tasks)) (listed_bytes switch_bytes c.args.machine.now.tasks.switches) (listed_bytes job_bytes c.args.machine.now.tasks.jobs) (listed_bytes task_row_bytes c.args.machine.now.tasks.rows.items)) (first_err g.K.Sink.taken c.args.sink.now c.punch.new.sink c.args.hand.now c.punch.new.self c.from_residual.result (counts_bytes (told_counts c.args.machine.now.tasks)) _ ((listed_bytes switch_bytes c.args.machine.now.tasks.switches) ∷ (listed_bytes job_bytes c.args.machine.now.tasks.jobs) ∷ (listed_bytes task_row_bytes c.args.machine.now.tasks.rows.items) ∷ []) c.from_residual.ensures.0 (c.as_slice.ensures ∙ c.counts_item.ensures) c.in_err-punch.ensures.row)

pub returns-in_err-put_switches-clause-row : goal.returns-in_err-put_switches-clause-row
returns-in_err-put_switches-clause-row g c =
    let s0 = first_ok g.K.Sink.taken c.args.sink.now c.punch.new.sink c.args.hand.now c.punch.new.self (counts_bytes (told_counts c.args.machine.now.tasks)) _ (c.as_slice.ensures ∙ c.counts_item.ensures) c.in_ok-punch.ensures.row in
    subst (Punched g.K.Sink.taken c.args.sink.now c.put_switches.new.sink c.args.hand.now c.put_switches.new.hand c.from_residual-in_err-put_switches.result) (four (counts_bytes (told_counts c.args.machine.now.tasks)) (listed_bytes switch_bytes c.args.machine.now.tasks.switches) (listed_bytes job_bytes c.args.machine.now.tasks.jobs) (listed_bytes task_row_bytes c.args.machine.now.tasks.rows.items)) (field_err g.K.Sink.taken c.args.sink.now c.punch.new.sink c.put_switches.new.sink c.args.hand.now c.punch.new.self c.put_switches.new.hand c.from_residual-in_err-put_switches.result ((counts_bytes (told_counts c.args.machine.now.tasks)) ∷ []) (listed_bytes switch_bytes c.args.machine.now.tasks.switches) _ ((listed_bytes job_bytes c.args.machine.now.tasks.jobs) ∷ (listed_bytes task_row_bytes c.args.machine.now.tasks.rows.items) ∷ []) c.from_residual-in_err-put_switches.ensures.0 (ap (listed_bytes switch_bytes) c.as_slice-2.ensures) s0 c.in_err-put_switches.ensures.row)

pub returns-in_err-put_jobs-clause-row : goal.returns-in_err-put_jobs-clause-row
returns-in_err-put_jobs-clause-row g c =
    let s0 = first_ok g.K.Sink.taken c.args.sink.now c.punch.new.sink c.args.hand.now c.punch.new.self (counts_bytes (told_counts c.args.machine.now.tasks)) _ (c.as_slice.ensures ∙ c.counts_item.ensures) c.in_ok-punch.ensures.row in
    let s1 = field_ok g.K.Sink.taken c.args.sink.now c.punch.new.sink c.put_switches.new.sink c.args.hand.now c.punch.new.self c.put_switches.new.hand ((counts_bytes (told_counts c.args.machine.now.tasks)) ∷ []) (listed_bytes switch_bytes c.args.machine.now.tasks.switches) _ (ap (listed_bytes switch_bytes) c.as_slice-2.ensures) s0 c.in_ok-put_switches.ensures.row in
    subst (Punched g.K.Sink.taken c.args.sink.now c.put_jobs.new.sink c.args.hand.now c.put_jobs.new.hand c.from_residual-in_err-put_jobs.result) (four (counts_bytes (told_counts c.args.machine.now.tasks)) (listed_bytes switch_bytes c.args.machine.now.tasks.switches) (listed_bytes job_bytes c.args.machine.now.tasks.jobs) (listed_bytes task_row_bytes c.args.machine.now.tasks.rows.items)) (field_err g.K.Sink.taken c.args.sink.now c.put_switches.new.sink c.put_jobs.new.sink c.args.hand.now c.put_switches.new.hand c.put_jobs.new.hand c.from_residual-in_err-put_jobs.result ((counts_bytes (told_counts c.args.machine.now.tasks)) ∷ (listed_bytes switch_bytes c.args.machine.now.tasks.switches) ∷ []) (listed_bytes job_bytes c.args.machine.now.tasks.jobs) _ ((listed_bytes task_row_bytes c.args.machine.now.tasks.rows.items) ∷ []) c.from_residual-in_err-put_jobs.ensures.0 (ap (listed_bytes job_bytes) c.as_slice-3.ensures) s1 c.in_err-put_jobs.ensures.row)

pub returns-in_err-put_rows-clause-row : goal.returns-in_err-put_rows-clause-row
returns-in_err-put_rows-clause-row g c =
    let s0 = first_ok g.K.Sink.taken c.args.sink.now c.punch.new.sink c.args.hand.now c.punch.new.self (counts_bytes (told_counts c.args.machine.now.tasks)) _ (c.as_slice.ensures ∙ c.counts_item.ensures) c.in_ok-punch.ensures.row in
    let s1 = field_ok g.K.Sink.taken c.args.sink.now c.punch.new.sink c.put_switches.new.sink c.args.hand.now c.punch.new.self c.put_switches.new.hand ((counts_bytes (told_counts c.args.machine.now.tasks)) ∷ []) (listed_bytes switch_bytes c.args.machine.now.tasks.switches) _ (ap (listed_bytes switch_bytes) c.as_slice-2.ensures) s0 c.in_ok-put_switches.ensures.row in
    let s2 = field_ok g.K.Sink.taken c.args.sink.now c.put_switches.new.sink c.put_jobs.new.sink c.args.hand.now c.put_switches.new.hand c.put_jobs.new.hand ((counts_bytes (told_counts c.args.machine.now.tasks)) ∷ (listed_bytes switch_bytes c.args.machine.now.tasks.switches) ∷ []) (listed_bytes job_bytes c.args.machine.now.tasks.jobs) _ (ap (listed_bytes job_bytes) c.as_slice-3.ensures) s1 c.in_ok-put_jobs.ensures.row in
    subst (Punched g.K.Sink.taken c.args.sink.now c.put_rows.new.sink c.args.hand.now c.put_rows.new.hand c.from_residual-in_err-put_rows.result) (four (counts_bytes (told_counts c.args.machine.now.tasks)) (listed_bytes switch_bytes c.args.machine.now.tasks.switches) (listed_bytes job_bytes c.args.machine.now.tasks.jobs) (listed_bytes task_row_bytes c.args.machine.now.tasks.rows.items)) (field_err g.K.Sink.taken c.args.sink.now c.put_jobs.new.sink c.put_rows.new.sink c.args.hand.now c.put_jobs.new.hand c.put_rows.new.hand c.from_residual-in_err-put_rows.result ((counts_bytes (told_counts c.args.machine.now.tasks)) ∷ (listed_bytes switch_bytes c.args.machine.now.tasks.switches) ∷ (listed_bytes job_bytes c.args.machine.now.tasks.jobs) ∷ []) (listed_bytes task_row_bytes c.args.machine.now.tasks.rows.items) _ ([]) c.from_residual-in_err-put_rows.ensures.0 (ap (listed_bytes task_row_bytes) c.as_slice-4.ensures.value) s2 c.in_err-put_rows.ensures.row)

pub returns-clause-row : goal.returns-clause-row
returns-clause-row g c =
    let s0 = first_ok g.K.Sink.taken c.args.sink.now c.punch.new.sink c.args.hand.now c.punch.new.self (counts_bytes (told_counts c.args.machine.now.tasks)) _ (c.as_slice.ensures ∙ c.counts_item.ensures) c.in_ok-punch.ensures.row in
    let s1 = field_ok g.K.Sink.taken c.args.sink.now c.punch.new.sink c.put_switches.new.sink c.args.hand.now c.punch.new.self c.put_switches.new.hand ((counts_bytes (told_counts c.args.machine.now.tasks)) ∷ []) (listed_bytes switch_bytes c.args.machine.now.tasks.switches) _ (ap (listed_bytes switch_bytes) c.as_slice-2.ensures) s0 c.in_ok-put_switches.ensures.row in
    let s2 = field_ok g.K.Sink.taken c.args.sink.now c.put_switches.new.sink c.put_jobs.new.sink c.args.hand.now c.put_switches.new.hand c.put_jobs.new.hand ((counts_bytes (told_counts c.args.machine.now.tasks)) ∷ (listed_bytes switch_bytes c.args.machine.now.tasks.switches) ∷ []) (listed_bytes job_bytes c.args.machine.now.tasks.jobs) _ (ap (listed_bytes job_bytes) c.as_slice-3.ensures) s1 c.in_ok-put_jobs.ensures.row in
    let s3 = field_ok g.K.Sink.taken c.args.sink.now c.put_jobs.new.sink c.put_rows.new.sink c.args.hand.now c.put_jobs.new.hand c.put_rows.new.hand ((counts_bytes (told_counts c.args.machine.now.tasks)) ∷ (listed_bytes switch_bytes c.args.machine.now.tasks.switches) ∷ (listed_bytes job_bytes c.args.machine.now.tasks.jobs) ∷ []) (listed_bytes task_row_bytes c.args.machine.now.tasks.rows.items) _ (ap (listed_bytes task_row_bytes) c.as_slice-4.ensures.value) s2 c.in_ok-put_rows.ensures.row in
    subst (Punched g.K.Sink.taken c.args.sink.now c.put_rows.new.sink c.args.hand.now c.put_rows.new.hand (Ok tt)) (four (counts_bytes (told_counts c.args.machine.now.tasks)) (listed_bytes switch_bytes c.args.machine.now.tasks.switches) (listed_bytes job_bytes c.args.machine.now.tasks.jobs) (listed_bytes task_row_bytes c.args.machine.now.tasks.rows.items)) s3
