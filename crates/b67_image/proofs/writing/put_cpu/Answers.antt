use Rattle.std.proofs.Common.{◌∷◌, [], ◌∙◌, refl, subst, Ok}
use Rattle.std.specs.List.{flat_map}
use Rattle.b67_image.specs.Spelling.{two_bytes, four_bytes, listed_bytes, tagged_bytes, regs_bytes}
use Rattle.b67_image.specs.Punching.{Punched}
use Rattle.b67_image.proofs.Fields.{first_ok, field_ok, first_err, field_err, four}
use Rattle.b67_image.proofs.writing.put_cpu.Goals as goal

pub returns-in_err-put_core-clause-row : goal.returns-in_err-put_core-clause-row
returns-in_err-put_core-clause-row g c =
    subst (Punched g.K.Sink.taken c.args.sink.now c.put_core.new.sink c.args.hand.now c.put_core.new.hand c.from_residual.result) (four (listed_bytes tagged_bytes c.args.machine.now.cpu.core) (regs_bytes c.args.machine.now.cpu.regs) (flat_map four_bytes c.args.machine.now.cpu.display) (flat_map two_bytes c.args.machine.now.cpu.critical)) (first_err g.K.Sink.taken c.args.sink.now c.put_core.new.sink c.args.hand.now c.put_core.new.hand c.from_residual.result (listed_bytes tagged_bytes c.args.machine.now.cpu.core) _ ((regs_bytes c.args.machine.now.cpu.regs) ∷ (flat_map four_bytes c.args.machine.now.cpu.display) ∷ (flat_map two_bytes c.args.machine.now.cpu.critical) ∷ []) c.from_residual.ensures.0 (refl) c.in_err-put_core.ensures.row)

pub returns-in_err-punch-clause-row : goal.returns-in_err-punch-clause-row
returns-in_err-punch-clause-row g c =
    let s0 = first_ok g.K.Sink.taken c.args.sink.now c.put_core.new.sink c.args.hand.now c.put_core.new.hand (listed_bytes tagged_bytes c.args.machine.now.cpu.core) _ (refl) c.in_ok-put_core.ensures.row in
    subst (Punched g.K.Sink.taken c.args.sink.now c.punch.new.sink c.args.hand.now c.punch.new.self c.from_residual-in_err-punch.result) (four (listed_bytes tagged_bytes c.args.machine.now.cpu.core) (regs_bytes c.args.machine.now.cpu.regs) (flat_map four_bytes c.args.machine.now.cpu.display) (flat_map two_bytes c.args.machine.now.cpu.critical)) (field_err g.K.Sink.taken c.args.sink.now c.put_core.new.sink c.punch.new.sink c.args.hand.now c.put_core.new.hand c.punch.new.self c.from_residual-in_err-punch.result ((listed_bytes tagged_bytes c.args.machine.now.cpu.core) ∷ []) (regs_bytes c.args.machine.now.cpu.regs) _ ((flat_map four_bytes c.args.machine.now.cpu.display) ∷ (flat_map two_bytes c.args.machine.now.cpu.critical) ∷ []) c.from_residual-in_err-punch.ensures.0 (c.as_slice.ensures ∙ c.regs_item.ensures) s0 c.in_err-punch.ensures.row)

pub returns-in_err-put_display-clause-row : goal.returns-in_err-put_display-clause-row
returns-in_err-put_display-clause-row g c =
    let s0 = first_ok g.K.Sink.taken c.args.sink.now c.put_core.new.sink c.args.hand.now c.put_core.new.hand (listed_bytes tagged_bytes c.args.machine.now.cpu.core) _ (refl) c.in_ok-put_core.ensures.row in
    let s1 = field_ok g.K.Sink.taken c.args.sink.now c.put_core.new.sink c.punch.new.sink c.args.hand.now c.put_core.new.hand c.punch.new.self ((listed_bytes tagged_bytes c.args.machine.now.cpu.core) ∷ []) (regs_bytes c.args.machine.now.cpu.regs) _ (c.as_slice.ensures ∙ c.regs_item.ensures) s0 c.in_ok-punch.ensures.row in
    subst (Punched g.K.Sink.taken c.args.sink.now c.put_display.new.sink c.args.hand.now c.put_display.new.hand c.from_residual-in_err-put_display.result) (four (listed_bytes tagged_bytes c.args.machine.now.cpu.core) (regs_bytes c.args.machine.now.cpu.regs) (flat_map four_bytes c.args.machine.now.cpu.display) (flat_map two_bytes c.args.machine.now.cpu.critical)) (field_err g.K.Sink.taken c.args.sink.now c.punch.new.sink c.put_display.new.sink c.args.hand.now c.punch.new.self c.put_display.new.hand c.from_residual-in_err-put_display.result ((listed_bytes tagged_bytes c.args.machine.now.cpu.core) ∷ (regs_bytes c.args.machine.now.cpu.regs) ∷ []) (flat_map four_bytes c.args.machine.now.cpu.display) _ ((flat_map two_bytes c.args.machine.now.cpu.critical) ∷ []) c.from_residual-in_err-put_display.ensures.0 (refl) s1 c.in_err-put_display.ensures.row)

pub returns-in_err-put_critical-clause-row : goal.returns-in_err-put_critical-clause-row
returns-in_err-put_critical-clause-row g c =
    let s0 = first_ok g.K.Sink.taken c.args.sink.now c.put_core.new.sink c.args.hand.now c.put_core.new.hand (listed_bytes tagged_bytes c.args.machine.now.cpu.core) _ (refl) c.in_ok-put_core.ensures.row in
    let s1 = field_ok g.K.Sink.taken c.args.sink.now c.put_core.new.sink c.punch.new.sink c.args.hand.now c.put_core.new.hand c.punch.new.self ((listed_bytes tagged_bytes c.args.machine.now.cpu.core) ∷ []) (regs_bytes c.args.machine.now.cpu.regs) _ (c.as_slice.ensures ∙ c.regs_item.ensures) s0 c.in_ok-punch.ensures.row in
    let s2 = field_ok g.K.Sink.taken c.args.sink.now c.punch.new.sink c.put_display.new.sink c.args.hand.now c.punch.new.self c.put_display.new.hand ((listed_bytes tagged_bytes c.args.machine.now.cpu.core) ∷ (regs_bytes c.args.machine.now.cpu.regs) ∷ []) (flat_map four_bytes c.args.machine.now.cpu.display) _ (refl) s1 c.in_ok-put_display.ensures.row in
    subst (Punched g.K.Sink.taken c.args.sink.now c.put_critical.new.sink c.args.hand.now c.put_critical.new.hand c.from_residual-in_err-put_critical.result) (four (listed_bytes tagged_bytes c.args.machine.now.cpu.core) (regs_bytes c.args.machine.now.cpu.regs) (flat_map four_bytes c.args.machine.now.cpu.display) (flat_map two_bytes c.args.machine.now.cpu.critical)) (field_err g.K.Sink.taken c.args.sink.now c.put_display.new.sink c.put_critical.new.sink c.args.hand.now c.put_display.new.hand c.put_critical.new.hand c.from_residual-in_err-put_critical.result ((listed_bytes tagged_bytes c.args.machine.now.cpu.core) ∷ (regs_bytes c.args.machine.now.cpu.regs) ∷ (flat_map four_bytes c.args.machine.now.cpu.display) ∷ []) (flat_map two_bytes c.args.machine.now.cpu.critical) _ ([]) c.from_residual-in_err-put_critical.ensures.0 (refl) s2 c.in_err-put_critical.ensures.row)

pub returns-clause-row : goal.returns-clause-row
returns-clause-row g c =
    let s0 = first_ok g.K.Sink.taken c.args.sink.now c.put_core.new.sink c.args.hand.now c.put_core.new.hand (listed_bytes tagged_bytes c.args.machine.now.cpu.core) _ (refl) c.in_ok-put_core.ensures.row in
    let s1 = field_ok g.K.Sink.taken c.args.sink.now c.put_core.new.sink c.punch.new.sink c.args.hand.now c.put_core.new.hand c.punch.new.self ((listed_bytes tagged_bytes c.args.machine.now.cpu.core) ∷ []) (regs_bytes c.args.machine.now.cpu.regs) _ (c.as_slice.ensures ∙ c.regs_item.ensures) s0 c.in_ok-punch.ensures.row in
    let s2 = field_ok g.K.Sink.taken c.args.sink.now c.punch.new.sink c.put_display.new.sink c.args.hand.now c.punch.new.self c.put_display.new.hand ((listed_bytes tagged_bytes c.args.machine.now.cpu.core) ∷ (regs_bytes c.args.machine.now.cpu.regs) ∷ []) (flat_map four_bytes c.args.machine.now.cpu.display) _ (refl) s1 c.in_ok-put_display.ensures.row in
    let s3 = field_ok g.K.Sink.taken c.args.sink.now c.put_display.new.sink c.put_critical.new.sink c.args.hand.now c.put_display.new.hand c.put_critical.new.hand ((listed_bytes tagged_bytes c.args.machine.now.cpu.core) ∷ (regs_bytes c.args.machine.now.cpu.regs) ∷ (flat_map four_bytes c.args.machine.now.cpu.display) ∷ []) (flat_map two_bytes c.args.machine.now.cpu.critical) _ (refl) s2 c.in_ok-put_critical.ensures.row in
    subst (Punched g.K.Sink.taken c.args.sink.now c.put_critical.new.sink c.args.hand.now c.put_critical.new.hand (Ok tt)) (four (listed_bytes tagged_bytes c.args.machine.now.cpu.core) (regs_bytes c.args.machine.now.cpu.regs) (flat_map four_bytes c.args.machine.now.cpu.display) (flat_map two_bytes c.args.machine.now.cpu.critical)) s3
