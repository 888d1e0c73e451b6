use Rattle.std.proofs.Common.{ℕ, List, ◌∷◌, [], ◌∙◌, ap, length}
use Rattle.b67_image.specs.Spelling.{one_byte, four_bytes, listed_bytes, signed_bytes, job_front}
use Rattle.b67_image.proofs.Fields.{first_ok, field_ok, first_err, field_err}
use Rattle.b67_image.proofs.writing.put_job.Goals as goal

pub returns-in_err-punch-clause-row : goal.returns-in_err-punch-clause-row
returns-in_err-punch-clause-row g c =
    first_err g.K.Sink.taken c.args.sink.now c.punch.new.sink c.args.hand.now c.punch.new.self c.from_residual.result (one_byte (length c.args.job.now.name)) _ (c.args.job.now.name ∷ (job_front c.args.job.now) ∷ (listed_bytes signed_bytes c.args.job.now.numbers) ∷ (four_bytes c.args.job.now.next_number) ∷ []) c.from_residual.ensures.0 (c.as_slice.ensures ∙ c.length_item.ensures ∙ ap (λ (t : List ℕ). one_byte (length t)) (c.as_bytes-name.ensures.value ∙ c.as_str.ensures)) c.in_err-punch.ensures.row

pub returns-in_err-punch-2-clause-row : goal.returns-in_err-punch-2-clause-row
returns-in_err-punch-2-clause-row g c =
    let s0 = first_ok g.K.Sink.taken c.args.sink.now c.punch.new.sink c.args.hand.now c.punch.new.self (one_byte (length c.args.job.now.name)) _ (c.as_slice.ensures ∙ c.length_item.ensures ∙ ap (λ (t : List ℕ). one_byte (length t)) (c.as_bytes-name.ensures.value ∙ c.as_str.ensures)) c.in_ok-punch.ensures.row in
    field_err g.K.Sink.taken c.args.sink.now c.punch.new.sink c.punch-2.new.sink c.args.hand.now c.punch.new.self c.punch-2.new.self c.from_residual-in_err-punch-2.result ((one_byte (length c.args.job.now.name)) ∷ []) c.args.job.now.name _ ((job_front c.args.job.now) ∷ (listed_bytes signed_bytes c.args.job.now.numbers) ∷ (four_bytes c.args.job.now.next_number) ∷ []) c.from_residual-in_err-punch-2.ensures.0 (c.as_bytes-name.ensures.value ∙ c.as_str.ensures) s0 c.in_err-punch-2.ensures.row

pub returns-in_err-punch-3-clause-row : goal.returns-in_err-punch-3-clause-row
returns-in_err-punch-3-clause-row g c =
    let s0 = first_ok g.K.Sink.taken c.args.sink.now c.punch.new.sink c.args.hand.now c.punch.new.self (one_byte (length c.args.job.now.name)) _ (c.as_slice.ensures ∙ c.length_item.ensures ∙ ap (λ (t : List ℕ). one_byte (length t)) (c.as_bytes-name.ensures.value ∙ c.as_str.ensures)) c.in_ok-punch.ensures.row in
    let s1 = field_ok g.K.Sink.taken c.args.sink.now c.punch.new.sink c.punch-2.new.sink c.args.hand.now c.punch.new.self c.punch-2.new.self ((one_byte (length c.args.job.now.name)) ∷ []) c.args.job.now.name _ (c.as_bytes-name.ensures.value ∙ c.as_str.ensures) s0 c.in_ok-punch-2.ensures.row in
    field_err g.K.Sink.taken c.args.sink.now c.punch-2.new.sink c.punch-3.new.sink c.args.hand.now c.punch-2.new.self c.punch-3.new.self c.from_residual-in_err-punch-3.result ((one_byte (length c.args.job.now.name)) ∷ c.args.job.now.name ∷ []) (job_front c.args.job.now) _ ((listed_bytes signed_bytes c.args.job.now.numbers) ∷ (four_bytes c.args.job.now.next_number) ∷ []) c.from_residual-in_err-punch-3.ensures.0 (c.as_slice-2.ensures ∙ c.job_item.ensures) s1 c.in_err-punch-3.ensures.row

pub returns-in_err-put_numbers-clause-row : goal.returns-in_err-put_numbers-clause-row
returns-in_err-put_numbers-clause-row g c =
    let s0 = first_ok g.K.Sink.taken c.args.sink.now c.punch.new.sink c.args.hand.now c.punch.new.self (one_byte (length c.args.job.now.name)) _ (c.as_slice.ensures ∙ c.length_item.ensures ∙ ap (λ (t : List ℕ). one_byte (length t)) (c.as_bytes-name.ensures.value ∙ c.as_str.ensures)) c.in_ok-punch.ensures.row in
    let s1 = field_ok g.K.Sink.taken c.args.sink.now c.punch.new.sink c.punch-2.new.sink c.args.hand.now c.punch.new.self c.punch-2.new.self ((one_byte (length c.args.job.now.name)) ∷ []) c.args.job.now.name _ (c.as_bytes-name.ensures.value ∙ c.as_str.ensures) s0 c.in_ok-punch-2.ensures.row in
    let s2 = field_ok g.K.Sink.taken c.args.sink.now c.punch-2.new.sink c.punch-3.new.sink c.args.hand.now c.punch-2.new.self c.punch-3.new.self ((one_byte (length c.args.job.now.name)) ∷ c.args.job.now.name ∷ []) (job_front c.args.job.now) _ (c.as_slice-2.ensures ∙ c.job_item.ensures) s1 c.in_ok-punch-3.ensures.row in
    field_err g.K.Sink.taken c.args.sink.now c.punch-3.new.sink c.put_numbers.new.sink c.args.hand.now c.punch-3.new.self c.put_numbers.new.hand c.from_residual-in_err-put_numbers.result ((one_byte (length c.args.job.now.name)) ∷ c.args.job.now.name ∷ (job_front c.args.job.now) ∷ []) (listed_bytes signed_bytes c.args.job.now.numbers) _ ((four_bytes c.args.job.now.next_number) ∷ []) c.from_residual-in_err-put_numbers.ensures.0 (ap (listed_bytes signed_bytes) c.as_slice-3.ensures) s2 c.in_err-put_numbers.ensures.row

pub returns-in_err-punch-4-clause-row : goal.returns-in_err-punch-4-clause-row
returns-in_err-punch-4-clause-row g c =
    let s0 = first_ok g.K.Sink.taken c.args.sink.now c.punch.new.sink c.args.hand.now c.punch.new.self (one_byte (length c.args.job.now.name)) _ (c.as_slice.ensures ∙ c.length_item.ensures ∙ ap (λ (t : List ℕ). one_byte (length t)) (c.as_bytes-name.ensures.value ∙ c.as_str.ensures)) c.in_ok-punch.ensures.row in
    let s1 = field_ok g.K.Sink.taken c.args.sink.now c.punch.new.sink c.punch-2.new.sink c.args.hand.now c.punch.new.self c.punch-2.new.self ((one_byte (length c.args.job.now.name)) ∷ []) c.args.job.now.name _ (c.as_bytes-name.ensures.value ∙ c.as_str.ensures) s0 c.in_ok-punch-2.ensures.row in
    let s2 = field_ok g.K.Sink.taken c.args.sink.now c.punch-2.new.sink c.punch-3.new.sink c.args.hand.now c.punch-2.new.self c.punch-3.new.self ((one_byte (length c.args.job.now.name)) ∷ c.args.job.now.name ∷ []) (job_front c.args.job.now) _ (c.as_slice-2.ensures ∙ c.job_item.ensures) s1 c.in_ok-punch-3.ensures.row in
    let s3 = field_ok g.K.Sink.taken c.args.sink.now c.punch-3.new.sink c.put_numbers.new.sink c.args.hand.now c.punch-3.new.self c.put_numbers.new.hand ((one_byte (length c.args.job.now.name)) ∷ c.args.job.now.name ∷ (job_front c.args.job.now) ∷ []) (listed_bytes signed_bytes c.args.job.now.numbers) _ (ap (listed_bytes signed_bytes) c.as_slice-3.ensures) s2 c.in_ok-put_numbers.ensures.row in
    field_err g.K.Sink.taken c.args.sink.now c.put_numbers.new.sink c.punch-4.new.sink c.args.hand.now c.put_numbers.new.hand c.punch-4.new.self c.from_residual-in_err-punch-4.result ((one_byte (length c.args.job.now.name)) ∷ c.args.job.now.name ∷ (job_front c.args.job.now) ∷ (listed_bytes signed_bytes c.args.job.now.numbers) ∷ []) (four_bytes c.args.job.now.next_number) _ ([]) c.from_residual-in_err-punch-4.ensures.0 (c.to_be_bytes.ensures) s3 c.in_err-punch-4.ensures.row

pub returns-clause-row : goal.returns-clause-row
returns-clause-row g c =
    let s0 = first_ok g.K.Sink.taken c.args.sink.now c.punch.new.sink c.args.hand.now c.punch.new.self (one_byte (length c.args.job.now.name)) _ (c.as_slice.ensures ∙ c.length_item.ensures ∙ ap (λ (t : List ℕ). one_byte (length t)) (c.as_bytes-name.ensures.value ∙ c.as_str.ensures)) c.in_ok-punch.ensures.row in
    let s1 = field_ok g.K.Sink.taken c.args.sink.now c.punch.new.sink c.punch-2.new.sink c.args.hand.now c.punch.new.self c.punch-2.new.self ((one_byte (length c.args.job.now.name)) ∷ []) c.args.job.now.name _ (c.as_bytes-name.ensures.value ∙ c.as_str.ensures) s0 c.in_ok-punch-2.ensures.row in
    let s2 = field_ok g.K.Sink.taken c.args.sink.now c.punch-2.new.sink c.punch-3.new.sink c.args.hand.now c.punch-2.new.self c.punch-3.new.self ((one_byte (length c.args.job.now.name)) ∷ c.args.job.now.name ∷ []) (job_front c.args.job.now) _ (c.as_slice-2.ensures ∙ c.job_item.ensures) s1 c.in_ok-punch-3.ensures.row in
    let s3 = field_ok g.K.Sink.taken c.args.sink.now c.punch-3.new.sink c.put_numbers.new.sink c.args.hand.now c.punch-3.new.self c.put_numbers.new.hand ((one_byte (length c.args.job.now.name)) ∷ c.args.job.now.name ∷ (job_front c.args.job.now) ∷ []) (listed_bytes signed_bytes c.args.job.now.numbers) _ (ap (listed_bytes signed_bytes) c.as_slice-3.ensures) s2 c.in_ok-put_numbers.ensures.row in
    let s4 = field_ok g.K.Sink.taken c.args.sink.now c.put_numbers.new.sink c.punch-4.new.sink c.args.hand.now c.put_numbers.new.hand c.punch-4.new.self ((one_byte (length c.args.job.now.name)) ∷ c.args.job.now.name ∷ (job_front c.args.job.now) ∷ (listed_bytes signed_bytes c.args.job.now.numbers) ∷ []) (four_bytes c.args.job.now.next_number) _ (c.to_be_bytes.ensures) s3 c.in_ok-punch-4.ensures.row in
    s4
