use Rattle.std.proofs.Common.{◌∷◌, [], ◌∙◌, refl, subst, Ok}
use Rattle.b67_backing.specs.Links.{links_in}
use Rattle.b67_image.specs.Parts.{parts_of}
use Rattle.b67_image.specs.Spelling.{image_header, image_bytes, eight_bytes, four_bytes, listed_bytes, areas_bytes, cpu_bytes, tables_bytes}
use Rattle.b67_image.specs.Punching.{Punched}
use Rattle.b67_image.proofs.Fields.{first_ok, field_ok, first_err, field_err, five}
use Rattle.b67_image.proofs.writing.put_machine.Goals as goal

pub returns-in_err-punch-clause-row : goal.returns-in_err-punch-clause-row
unfolding image_bytes
returns-in_err-punch-clause-row g c =
    subst (Punched g.K.Sink.taken c.args.sink.now c.punch.new.sink c.args.hand.now c.punch.new.self c.from_residual.result) (five (eight_bytes image_header) (cpu_bytes (parts_of c.args.machine.now)) (areas_bytes c.args.machine.now.areas) (listed_bytes four_bytes (links_in c.args.machine.now.sectors)) (tables_bytes (parts_of c.args.machine.now))) (first_err g.K.Sink.taken c.args.sink.now c.punch.new.sink c.args.hand.now c.punch.new.self c.from_residual.result (eight_bytes image_header) _ ((cpu_bytes (parts_of c.args.machine.now)) ∷ (areas_bytes c.args.machine.now.areas) ∷ (listed_bytes four_bytes (links_in c.args.machine.now.sectors)) ∷ (tables_bytes (parts_of c.args.machine.now)) ∷ []) c.from_residual.ensures.0 (c.to_be_bytes.ensures) c.in_err-punch.ensures.row)

pub returns-in_err-put_cpu-clause-row : goal.returns-in_err-put_cpu-clause-row
unfolding image_bytes
returns-in_err-put_cpu-clause-row g c =
    let s0 = first_ok g.K.Sink.taken c.args.sink.now c.punch.new.sink c.args.hand.now c.punch.new.self (eight_bytes image_header) _ (c.to_be_bytes.ensures) c.in_ok-punch.ensures.row in
    subst (Punched g.K.Sink.taken c.args.sink.now c.put_cpu.new.sink c.args.hand.now c.put_cpu.new.hand c.from_residual-in_err-put_cpu.result) (five (eight_bytes image_header) (cpu_bytes (parts_of c.args.machine.now)) (areas_bytes c.args.machine.now.areas) (listed_bytes four_bytes (links_in c.args.machine.now.sectors)) (tables_bytes (parts_of c.args.machine.now))) (field_err g.K.Sink.taken c.args.sink.now c.punch.new.sink c.put_cpu.new.sink c.args.hand.now c.punch.new.self c.put_cpu.new.hand c.from_residual-in_err-put_cpu.result ((eight_bytes image_header) ∷ []) (cpu_bytes (parts_of c.args.machine.now)) _ ((areas_bytes c.args.machine.now.areas) ∷ (listed_bytes four_bytes (links_in c.args.machine.now.sectors)) ∷ (tables_bytes (parts_of c.args.machine.now)) ∷ []) c.from_residual-in_err-put_cpu.ensures.0 (refl) s0 c.in_err-put_cpu.ensures.row)

pub returns-in_err-punch-2-clause-row : goal.returns-in_err-punch-2-clause-row
unfolding image_bytes
returns-in_err-punch-2-clause-row g c =
    let s0 = first_ok g.K.Sink.taken c.args.sink.now c.punch.new.sink c.args.hand.now c.punch.new.self (eight_bytes image_header) _ (c.to_be_bytes.ensures) c.in_ok-punch.ensures.row in
    let s1 = field_ok g.K.Sink.taken c.args.sink.now c.punch.new.sink c.put_cpu.new.sink c.args.hand.now c.punch.new.self c.put_cpu.new.hand ((eight_bytes image_header) ∷ []) (cpu_bytes (parts_of c.args.machine.now)) _ (refl) s0 c.in_ok-put_cpu.ensures.row in
    subst (Punched g.K.Sink.taken c.args.sink.now c.punch-2.new.sink c.args.hand.now c.punch-2.new.self c.from_residual-in_err-punch-2.result) (five (eight_bytes image_header) (cpu_bytes (parts_of c.args.machine.now)) (areas_bytes c.args.machine.now.areas) (listed_bytes four_bytes (links_in c.args.machine.now.sectors)) (tables_bytes (parts_of c.args.machine.now))) (field_err g.K.Sink.taken c.args.sink.now c.put_cpu.new.sink c.punch-2.new.sink c.args.hand.now c.put_cpu.new.hand c.punch-2.new.self c.from_residual-in_err-punch-2.result ((eight_bytes image_header) ∷ (cpu_bytes (parts_of c.args.machine.now)) ∷ []) (areas_bytes c.args.machine.now.areas) _ ((listed_bytes four_bytes (links_in c.args.machine.now.sectors)) ∷ (tables_bytes (parts_of c.args.machine.now)) ∷ []) c.from_residual-in_err-punch-2.ensures.0 (c.as_slice.ensures ∙ c.areas_item.ensures) s1 c.in_err-punch-2.ensures.row)

pub returns-in_err-put_sectors-clause-row : goal.returns-in_err-put_sectors-clause-row
unfolding image_bytes
returns-in_err-put_sectors-clause-row g c =
    let s0 = first_ok g.K.Sink.taken c.args.sink.now c.punch.new.sink c.args.hand.now c.punch.new.self (eight_bytes image_header) _ (c.to_be_bytes.ensures) c.in_ok-punch.ensures.row in
    let s1 = field_ok g.K.Sink.taken c.args.sink.now c.punch.new.sink c.put_cpu.new.sink c.args.hand.now c.punch.new.self c.put_cpu.new.hand ((eight_bytes image_header) ∷ []) (cpu_bytes (parts_of c.args.machine.now)) _ (refl) s0 c.in_ok-put_cpu.ensures.row in
    let s2 = field_ok g.K.Sink.taken c.args.sink.now c.put_cpu.new.sink c.punch-2.new.sink c.args.hand.now c.put_cpu.new.hand c.punch-2.new.self ((eight_bytes image_header) ∷ (cpu_bytes (parts_of c.args.machine.now)) ∷ []) (areas_bytes c.args.machine.now.areas) _ (c.as_slice.ensures ∙ c.areas_item.ensures) s1 c.in_ok-punch-2.ensures.row in
    subst (Punched g.K.Sink.taken c.args.sink.now c.put_sectors.new.sink c.args.hand.now c.put_sectors.new.hand c.from_residual-in_err-put_sectors.result) (five (eight_bytes image_header) (cpu_bytes (parts_of c.args.machine.now)) (areas_bytes c.args.machine.now.areas) (listed_bytes four_bytes (links_in c.args.machine.now.sectors)) (tables_bytes (parts_of c.args.machine.now))) (field_err g.K.Sink.taken c.args.sink.now c.punch-2.new.sink c.put_sectors.new.sink c.args.hand.now c.punch-2.new.self c.put_sectors.new.hand c.from_residual-in_err-put_sectors.result ((eight_bytes image_header) ∷ (cpu_bytes (parts_of c.args.machine.now)) ∷ (areas_bytes c.args.machine.now.areas) ∷ []) (listed_bytes four_bytes (links_in c.args.machine.now.sectors)) _ ((tables_bytes (parts_of c.args.machine.now)) ∷ []) c.from_residual-in_err-put_sectors.ensures.0 (refl) s2 c.in_err-put_sectors.ensures.row)

pub returns-in_err-put_tables-clause-row : goal.returns-in_err-put_tables-clause-row
unfolding image_bytes
returns-in_err-put_tables-clause-row g c =
    let s0 = first_ok g.K.Sink.taken c.args.sink.now c.punch.new.sink c.args.hand.now c.punch.new.self (eight_bytes image_header) _ (c.to_be_bytes.ensures) c.in_ok-punch.ensures.row in
    let s1 = field_ok g.K.Sink.taken c.args.sink.now c.punch.new.sink c.put_cpu.new.sink c.args.hand.now c.punch.new.self c.put_cpu.new.hand ((eight_bytes image_header) ∷ []) (cpu_bytes (parts_of c.args.machine.now)) _ (refl) s0 c.in_ok-put_cpu.ensures.row in
    let s2 = field_ok g.K.Sink.taken c.args.sink.now c.put_cpu.new.sink c.punch-2.new.sink c.args.hand.now c.put_cpu.new.hand c.punch-2.new.self ((eight_bytes image_header) ∷ (cpu_bytes (parts_of c.args.machine.now)) ∷ []) (areas_bytes c.args.machine.now.areas) _ (c.as_slice.ensures ∙ c.areas_item.ensures) s1 c.in_ok-punch-2.ensures.row in
    let s3 = field_ok g.K.Sink.taken c.args.sink.now c.punch-2.new.sink c.put_sectors.new.sink c.args.hand.now c.punch-2.new.self c.put_sectors.new.hand ((eight_bytes image_header) ∷ (cpu_bytes (parts_of c.args.machine.now)) ∷ (areas_bytes c.args.machine.now.areas) ∷ []) (listed_bytes four_bytes (links_in c.args.machine.now.sectors)) _ (refl) s2 c.in_ok-put_sectors.ensures.row in
    subst (Punched g.K.Sink.taken c.args.sink.now c.put_tables.new.sink c.args.hand.now c.put_tables.new.hand c.from_residual-in_err-put_tables.result) (five (eight_bytes image_header) (cpu_bytes (parts_of c.args.machine.now)) (areas_bytes c.args.machine.now.areas) (listed_bytes four_bytes (links_in c.args.machine.now.sectors)) (tables_bytes (parts_of c.args.machine.now))) (field_err g.K.Sink.taken c.args.sink.now c.put_sectors.new.sink c.put_tables.new.sink c.args.hand.now c.put_sectors.new.hand c.put_tables.new.hand c.from_residual-in_err-put_tables.result ((eight_bytes image_header) ∷ (cpu_bytes (parts_of c.args.machine.now)) ∷ (areas_bytes c.args.machine.now.areas) ∷ (listed_bytes four_bytes (links_in c.args.machine.now.sectors)) ∷ []) (tables_bytes (parts_of c.args.machine.now)) _ ([]) c.from_residual-in_err-put_tables.ensures.0 (refl) s3 c.in_err-put_tables.ensures.row)

pub returns-clause-row : goal.returns-clause-row
unfolding image_bytes
returns-clause-row g c =
    let s0 = first_ok g.K.Sink.taken c.args.sink.now c.punch.new.sink c.args.hand.now c.punch.new.self (eight_bytes image_header) _ (c.to_be_bytes.ensures) c.in_ok-punch.ensures.row in
    let s1 = field_ok g.K.Sink.taken c.args.sink.now c.punch.new.sink c.put_cpu.new.sink c.args.hand.now c.punch.new.self c.put_cpu.new.hand ((eight_bytes image_header) ∷ []) (cpu_bytes (parts_of c.args.machine.now)) _ (refl) s0 c.in_ok-put_cpu.ensures.row in
    let s2 = field_ok g.K.Sink.taken c.args.sink.now c.put_cpu.new.sink c.punch-2.new.sink c.args.hand.now c.put_cpu.new.hand c.punch-2.new.self ((eight_bytes image_header) ∷ (cpu_bytes (parts_of c.args.machine.now)) ∷ []) (areas_bytes c.args.machine.now.areas) _ (c.as_slice.ensures ∙ c.areas_item.ensures) s1 c.in_ok-punch-2.ensures.row in
    let s3 = field_ok g.K.Sink.taken c.args.sink.now c.punch-2.new.sink c.put_sectors.new.sink c.args.hand.now c.punch-2.new.self c.put_sectors.new.hand ((eight_bytes image_header) ∷ (cpu_bytes (parts_of c.args.machine.now)) ∷ (areas_bytes c.args.machine.now.areas) ∷ []) (listed_bytes four_bytes (links_in c.args.machine.now.sectors)) _ (refl) s2 c.in_ok-put_sectors.ensures.row in
    let s4 = field_ok g.K.Sink.taken c.args.sink.now c.put_sectors.new.sink c.put_tables.new.sink c.args.hand.now c.put_sectors.new.hand c.put_tables.new.hand ((eight_bytes image_header) ∷ (cpu_bytes (parts_of c.args.machine.now)) ∷ (areas_bytes c.args.machine.now.areas) ∷ (listed_bytes four_bytes (links_in c.args.machine.now.sectors)) ∷ []) (tables_bytes (parts_of c.args.machine.now)) _ (refl) s3 c.in_ok-put_tables.ensures.row in
    subst (Punched g.K.Sink.taken c.args.sink.now c.put_tables.new.sink c.args.hand.now c.put_tables.new.hand (Ok tt)) (five (eight_bytes image_header) (cpu_bytes (parts_of c.args.machine.now)) (areas_bytes c.args.machine.now.areas) (listed_bytes four_bytes (links_in c.args.machine.now.sectors)) (tables_bytes (parts_of c.args.machine.now))) s4
